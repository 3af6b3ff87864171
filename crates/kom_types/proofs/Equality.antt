-- Of calls, of what they hold and of acts `==` holds where they are equal, and nowhere else.
use Rattle.kom_types.specs.contracts.texts.MiscInput as MiscInput
use Rattle.kom_types.specs.contracts.texts.MiscInputPartialEq.TheImpl as MiscInputEq
use Rattle.kom_types.specs.contracts.memberships.ReadRange as ReadRange
use Rattle.kom_types.specs.contracts.memberships.ReadRangePartialEq.TheImpl as ReadRangeEq
use Rattle.kom_types.specs.contracts.aux_items.AuxInput as AuxInput
use Rattle.kom_types.specs.contracts.aux_items.AuxInputPartialEq.TheImpl as AuxInputEq
use Rattle.kom_types.specs.contracts.aux_items.AuxChange as AuxChange
use Rattle.kom_types.specs.contracts.aux_items.AuxChangePartialEq.TheImpl as AuxChangeEq
use Rattle.kom_types.specs.contracts.conferences.NewConference as NewConference
use Rattle.kom_types.specs.contracts.conferences.NewConferencePartialEq.TheImpl as NewConferenceEq
use Rattle.kom_types.specs.contracts.persons.NewPerson as NewPerson
use Rattle.kom_types.specs.contracts.persons.NewPersonPartialEq.TheImpl as NewPersonEq
use Rattle.kom_types.specs.contracts.persons.PasswordChange as PasswordChange
use Rattle.kom_types.specs.contracts.persons.PasswordChangePartialEq.TheImpl as PasswordChangeEq
use Rattle.kom_types.specs.contracts.sessions.ClientVersion as ClientVersion
use Rattle.kom_types.specs.contracts.sessions.ClientVersionPartialEq.TheImpl as ClientVersionEq
use Rattle.kom_types.specs.contracts.texts.NewText as NewText
use Rattle.kom_types.specs.contracts.texts.NewTextPartialEq.TheImpl as NewTextEq
use Rattle.kom_types.specs.declared.texts.MiscInput as MiscInput'
use Rattle.kom_types.specs.declared.memberships.ReadRange as ReadRange'
use Rattle.kom_types.specs.declared.aux_items.AuxInput as AuxInput'
use Rattle.kom_types.specs.declared.aux_items.AuxChange as AuxChange'
use Rattle.kom_types.specs.declared.conferences.NewConference as NewConference'
use Rattle.kom_types.specs.declared.persons.NewPerson as NewPerson'
use Rattle.kom_types.specs.declared.persons.PasswordChange as PasswordChange'
use Rattle.kom_types.specs.declared.sessions.ClientVersion as ClientVersion'
use Rattle.kom_types.specs.declared.texts.NewText as NewText'
use Rattle.kom_types.specs.contracts.calls.Call as Call
use Rattle.kom_types.specs.contracts.calls.CallPartialEq.TheImpl as CallEq
use Rattle.kom_types.specs.declared.calls.Call as Call'
use Rattle.kom_types.specs.contracts.acts.Act as Act
use Rattle.kom_types.specs.contracts.acts.ActPartialEq.TheImpl as ActEq
use Rattle.kom_types.specs.declared.acts.Act as Act'
use Rattle.kom_types.specs.contracts.acts.Entry as Entry
use Rattle.kom_types.specs.contracts.acts.EntryPartialEq.TheImpl as EntryEq
use Rattle.kom_types.specs.declared.acts.Entry as Entry'
use Rattle.kom_types.proofs.Comparing.{Compares, none, last, before, number, flag, list, of_struct}
use Rattle.kom_types.proofs.Comparing.{of_enum, after, all}

pub misc_input : (x y : MiscInput'.MiscInput) → Compares (MiscInputEq.ghosts.eq x y) x y
misc_input x y = of_struct MiscInput.struct MiscInput.the_propositions x y _
    (search (last, before, number))

pub read_range : (x y : ReadRange'.ReadRange) → Compares (ReadRangeEq.ghosts.eq x y) x y
read_range x y = of_struct ReadRange.struct ReadRange.the_propositions x y _
    (search (last, before, number))

pub aux_input : (x y : AuxInput'.AuxInput) → Compares (AuxInputEq.ghosts.eq x y) x y
aux_input x y = of_struct AuxInput.struct AuxInput.the_propositions x y _
    (search (last, before, number, list) depth 9)

pub aux_change : (x y : AuxChange'.AuxChange) → Compares (AuxChangeEq.ghosts.eq x y) x y
aux_change x y = of_struct AuxChange.struct AuxChange.the_propositions x y _
    (search (last, before, number, list, aux_input) depth 9)

pub new_conference : (x y : NewConference'.NewConference) → Compares (NewConferenceEq.ghosts.eq x y) x y
new_conference x y = of_struct NewConference.struct NewConference.the_propositions x y _
    (search (last, before, number, list, aux_input) depth 9)

pub new_person : (x y : NewPerson'.NewPerson) → Compares (NewPersonEq.ghosts.eq x y) x y
new_person x y = of_struct NewPerson.struct NewPerson.the_propositions x y _
    (search (last, before, number, list, aux_input) depth 9)

pub password_change : (x y : PasswordChange'.PasswordChange) → Compares (PasswordChangeEq.ghosts.eq x y) x y
password_change x y = of_struct PasswordChange.struct PasswordChange.the_propositions x y _
    (search (last, before, number, list) depth 9)

pub client_version : (x y : ClientVersion'.ClientVersion) → Compares (ClientVersionEq.ghosts.eq x y) x y
client_version x y = of_struct ClientVersion.struct ClientVersion.the_propositions x y _
    (search (last, before, number, list) depth 9)

pub new_text : (x y : NewText'.NewText) → Compares (NewTextEq.ghosts.eq x y) x y
new_text x y = of_struct NewText.struct NewText.the_propositions x y _
    (search (last, before, number, list, misc_input, aux_input))

-- what the arguments of a call are compared by
ruleset arguments = (
  none,
  last,
  before,
  number,
  flag,
  list,
  read_range,
  aux_change,
  new_conference,
  new_person,
  password_change,
  client_version,
  new_text,
)

-- fourteen calls at a time; the last are all that are left
pub call : (x y : Call'.Call) → Compares (CallEq.ghosts.eq x y) x y
call x y = of_enum Call.enum _
    (after 14 (search arguments depth 8)
    (after 14 (search arguments depth 8)
    (after 14 (search arguments depth 8)
    (after 14 (search arguments depth 8)
    (after 14 (search arguments depth 8)
    (all (search arguments depth 8))))))) x y

pub act : (x y : Act'.Act) → Compares (ActEq.ghosts.eq x y) x y
act x y = of_enum Act.enum _ (all (search (none, last, before, number, list, call) depth 8)) x y

pub entry : (x y : Entry'.Entry) → Compares (EntryEq.ghosts.eq x y) x y
entry x y = of_struct Entry.struct Entry.the_propositions x y _ (search (last, before, number, act) depth 8)
