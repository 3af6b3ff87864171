-- Entries that are hidden from a group leave the state the same for it, and send it nothing.
use Rattle.std.specs.Prelude.{◌≡◌, ℕ, Bool, false, ◌&&◌, [], Some, is_some, IsTrue}
use Rattle.kom_types.specs.declared.acts.Entry.{Entry}
use Rattle.kom_types.specs.declared.acts.Record.{Record}
use Rattle.kom_types.specs.declared.texts.NewText.{NewText}
use Rattle.kom_model.specs.After.{after}
use Rattle.kom_model.specs.Kinds.{is_among}
use Rattle.kom_model.specs.Out.{queued_for, given_by}
use Rattle.kom_model.specs.State.{State, IsSound}
use Rattle.kom_laws.specs.Erasing.{erase}
use Rattle.kom_laws.specs.Groups.{Group}
use Rattle.noninterference.specs.steps.Same.{AreOfGroup, IsSameFor}
use Rattle.noninterference.specs.respect.Calls.{later}
use Rattle.noninterference.specs.respect.Hidden.{is_hidden, are_as_long, text_of_act}
use Rattle.noninterference.specs.respect.Quiet.{is_accepted, IsQuiet, AreHidden, AreMadeAlike}

-- nothing is queued for the sessions of the group, and none of them is drained
pub record IsSilentTo (group : Group) (state : State) (made : Record) : Type 0 where
  pub queued : (session : ℕ) → IsTrue (is_among group.sessions session)
      → queued_for session state made ≡ []
  pub given : (session : ℕ) → IsTrue (is_among group.sessions session)
      → given_by state session made ≡ []

-- an entry is a create-text that is accepted
abbrev pub makes_text : State → Entry → Bool
makes_text state entry = is_some (text_of_act entry.act) && is_accepted state entry

-- In a sound state, in which the sessions of the group are its own, a quiet entry that is hidden
-- from it and makes no text.
pub record IsHiddenEntry (group : Group) (state : State) (made : Record) : Type 0 where
  pub sound : IsSound state
  pub of_group : AreOfGroup group state
  pub hidden : IsTrue (is_hidden group state made.entry)
  pub quiet : IsQuiet group state made
  pub textless : makes_text state made.entry ≡ false

-- the state is the same but for what is hidden from the group, one entry later
pub record VanishesFor (group : Group) (state : State) (made : Record) : Type 0 where
  pub same : erase group (after state made) ≡ later made.entry.moment (erase group state)
  pub silent : IsSilentTo group state made

-- Local respect: such an entry leaves the state the same for the group, and sends it nothing.
abbrev pub HiddenEntriesVanish : Type 0
HiddenEntriesVanish = (group : Group) (state : State) (made : Record)
    → IsHiddenEntry group state made → VanishesFor group state made

-- In two sound states that are the same for the group, two quiet create-texts at one moment that
-- are hidden from it: they are accepted, as long, and alike as far as the group sees them.
pub record AreHiddenTexts (group : Group) (one other : State) (made made' : Record)
    (given given' : NewText) : Type 0 where
  pub sound : IsSound one
  pub sound' : IsSound other
  pub same : IsSameFor group one other
  pub moment : made.entry.moment ≡ made'.entry.moment
  pub hidden : AreHidden group one other made.entry made'.entry
  pub quiet : IsQuiet group one made
  pub quiet' : IsQuiet group other made'
  pub text : text_of_act made.entry.act ≡ Some given
  pub text' : text_of_act made'.entry.act ≡ Some given'
  pub as_long : IsTrue (are_as_long (Some given) (Some given'))
  pub accepted : IsTrue (is_accepted one made.entry)
  pub alike : AreMadeAlike group one other made.entry made'.entry given given'

-- the states after two entries are the same but for what is hidden from the group, and neither
-- sends it anything
pub record VanishAlike (group : Group) (one other : State) (made made' : Record) : Type 0 where
  pub states : erase group (after one made) ≡ erase group (after other made')
  pub silent : IsSilentTo group one made
  pub silent' : IsSilentTo group other made'

-- Local respect of hidden texts: such a pair leaves the states the same for the group, and sends it
-- nothing.
abbrev pub HiddenTextsVanish : Type 0
HiddenTextsVanish = (group : Group) (one other : State) (made made' : Record)
    (given given' : NewText) → AreHiddenTexts group one other made made' given given'
    → VanishAlike group one other made made'
