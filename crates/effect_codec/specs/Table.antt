-- The table of effects: the kind of each in one byte, and its fields. Kinds, fields and their order
-- are the store's own choice.
use Rattle.std.specs.Prelude.{ℕ, not, ◌==◌, List, [], ◌∷◌, Option, find, if◌then◌else◌}
use Rattle.kom_types.specs.declared.limits.TheConstants.{LAST_MOMENT, LONGEST_BODY, LONGEST_CONTENT}
use Rattle.kom_types.specs.declared.limits.TheConstants.{LONGEST_NAME, LONGEST_USER_NAME}
use Rattle.kom_types.specs.declared.effects.ConfField.{ConfField}
use Rattle.kom_types.specs.declared.effects.ConfField.TheVariants as field
use Rattle.kom_types.specs.declared.effects.Counter.{Counter}
use Rattle.kom_types.specs.declared.effects.Counter.TheVariants as counter
use Rattle.kom_types.specs.declared.effects.Effect.{Effect}
use Rattle.kom_types.specs.declared.effects.Effect.TheVariants as effect
use Rattle.kom_types.specs.declared.effects.PersonField.{PersonField}
use Rattle.kom_types.specs.declared.effects.PersonField.TheVariants as person
use Rattle.effect_codec.specs.Fields.{Field, Byte, Half, Flag, Number, Small, Moment, Text, Fixed}
use Rattle.effect_codec.specs.Fields.{Ranges, OneOf, Setting, Values, ◌▸◌, Makes}

-- the greatest value in two, four and eight bytes
abbrev pub last_half : ℕ
last_half = 65535

abbrev pub last_number : ℕ
last_number = 4294967295

abbrev pub last_amount : ℕ
last_amount = 18446744073709551615

-- what of a conference is set: presentation, motd, supervisor, permitted submitters,
-- super-conference, type, nice, keep-commented, expire and last-written
abbrev pub conf_parts : List ℕ
conf_parts =
    last_number ∷ last_number ∷ last_number ∷ last_number ∷ last_number ∷ 255 ∷ last_number
    ∷ last_number ∷ last_number ∷ LAST_MOMENT ∷ []

abbrev pub set_part : ℕ → ℕ → Setting
set_part part value = record { part = part; value = value }

abbrev pub conf_setting : ConfField → Setting
conf_setting (field.Presentation text) = set_part 1 text
conf_setting (field.Motd text) = set_part 2 text
conf_setting (field.Supervisor conference) = set_part 3 conference
conf_setting (field.PermittedSubmitters conference) = set_part 4 conference
conf_setting (field.SuperConference conference) = set_part 5 conference
conf_setting (field.Kind kind) = set_part 6 kind
conf_setting (field.Nice days) = set_part 7 days
conf_setting (field.KeepCommented days) = set_part 8 days
conf_setting (field.Expire days) = set_part 9 days
conf_setting (field.LastWritten at) = set_part 10 at

abbrev pub conf_field : Setting → ConfField
conf_field set =
    if set.part == 1 then field.Presentation set.value
    else if set.part == 2 then field.Motd set.value
    else if set.part == 3 then field.Supervisor set.value
    else if set.part == 4 then field.PermittedSubmitters set.value
    else if set.part == 5 then field.SuperConference set.value
    else if set.part == 6 then field.Kind set.value
    else if set.part == 7 then field.Nice set.value
    else if set.part == 8 then field.KeepCommented set.value
    else if set.part == 9 then field.Expire set.value
    else field.LastWritten set.value

-- what of a person is set: privileges, flags and user-area
abbrev pub person_parts : List ℕ
person_parts = last_half ∷ 255 ∷ last_number ∷ []

abbrev pub person_setting : PersonField → Setting
person_setting (person.Privileges privileges) = set_part 1 privileges
person_setting (person.Flags flags) = set_part 2 flags
person_setting (person.UserArea text) = set_part 3 text

abbrev pub person_field : Setting → PersonField
person_field set =
    if set.part == 1 then person.Privileges set.value
    else if set.part == 2 then person.Flags set.value
    else person.UserArea set.value

-- what is counted of a person: its time, lines, bytes, read texts, fetches, persons and conferences
abbrev pub counters : List ℕ
counters =
    last_amount ∷ last_amount ∷ last_amount ∷ last_amount ∷ last_amount ∷ last_amount
    ∷ last_amount ∷ []

abbrev pub counter_number : Counter → ℕ
counter_number counter.TimePresent = 1
counter_number counter.CreatedLines = 2
counter_number counter.CreatedBytes = 3
counter_number counter.ReadTexts = 4
counter_number counter.TextFetches = 5
counter_number counter.CreatedPersons = 6
counter_number counter.CreatedConferences = 7

abbrev pub counter_of : ℕ → Counter
counter_of number =
    if number == 1 then counter.TimePresent
    else if number == 2 then counter.CreatedLines
    else if number == 3 then counter.CreatedBytes
    else if number == 4 then counter.ReadTexts
    else if number == 5 then counter.TextFetches
    else if number == 6 then counter.CreatedPersons
    else counter.CreatedConferences

-- a row of the table: a kind, its fields, and the effect that they make
pub record Row : Type 0 where
  pub kind : ℕ
  pub fields : List Field
  pub make : Makes fields Effect

abbrev pub row : ℕ → (fields : List Field) → Makes fields Effect → Row
row kind fields make = record { kind = kind; fields = fields; make = make }

-- number, name, type, moment, creator and supervisor
abbrev pub conf_added : Row
conf_added =
    row 1 (Number ∷ Text LONGEST_NAME ∷ Byte ∷ Moment ∷ Number ∷ Number ∷ []) effect.ConfAdded

abbrev pub conf_gone : Row
conf_gone = row 2 (Number ∷ []) effect.ConfGone

abbrev pub conf_named : Row
conf_named = row 3 (Number ∷ Text LONGEST_NAME ∷ []) effect.ConfNamed

abbrev pub conf_set : Row
conf_set = row 4 (Number ∷ OneOf conf_parts ∷ [])
    (λ number set. effect.ConfField number (conf_field set))

-- number, privileges, flags, and the moment of the last login
abbrev pub person_added : Row
person_added = row 5 (Number ∷ Half ∷ Byte ∷ Moment ∷ []) effect.PersonAdded

abbrev pub person_gone : Row
person_gone = row 6 (Number ∷ []) effect.PersonGone

abbrev pub person_set : Row
person_set = row 7 (Number ∷ OneOf person_parts ∷ [])
    (λ number set. effect.PersonField number (person_field set))

abbrev pub password : Row
password = row 8 (Number ∷ Fixed 32 ∷ []) effect.Password

-- number, moment and user name
abbrev pub logged_in : Row
logged_in = row 9 (Number ∷ Moment ∷ Text LONGEST_USER_NAME ∷ []) effect.LoggedIn

abbrev pub counter_raised : Row
counter_raised = row 10 (Number ∷ OneOf counters ∷ [])
    (λ number set. effect.Counted number (counter_of set.part) set.value)

-- number, author, moment and body
abbrev pub text_added : Row
text_added = row 11 (Number ∷ Number ∷ Moment ∷ Text LONGEST_BODY ∷ []) effect.TextAdded

abbrev pub text_gone : Row
text_gone = row 12 (Number ∷ []) effect.TextGone

-- text, conference, tag, local number, sender and moment
abbrev pub recipient_added : Row
recipient_added = row 13 (Number ∷ Number ∷ Small ∷ Number ∷ Number ∷ Moment ∷ [])
    (λ text conference tag local sender at. effect.RecipientAdded (record {
      text = text;
      conference = conference;
      tag = tag;
      local = local;
      sender = sender;
      at = at;
    }))

-- text and conference
abbrev pub recipient_gone : Row
recipient_gone = row 14 (Number ∷ Number ∷ []) effect.RecipientGone

-- child, parent, whether it is a footnote, sender and moment
abbrev pub link_added : Row
link_added = row 15 (Number ∷ Number ∷ Flag ∷ Number ∷ Moment ∷ [])
    (λ child parent footnote sender at. effect.LinkAdded (record {
      child = child;
      parent = parent;
      footnote = footnote;
      sender = sender;
      at = at;
    }))

abbrev pub link_gone : Row
link_gone = row 16 (Number ∷ Number ∷ Flag ∷ []) effect.LinkGone

-- person, conference, position, priority, by whom and when it was added, and type
abbrev pub member_set : Row
member_set = row 17 (Number ∷ Number ∷ Number ∷ Small ∷ Number ∷ Moment ∷ Byte ∷ [])
    effect.MemberSet

-- person and conference
abbrev pub member_gone : Row
member_gone = row 18 (Number ∷ Number ∷ []) effect.MemberGone

-- person, conference, moment and ranges
abbrev pub read_set : Row
read_set = row 19 (Number ∷ Number ∷ Moment ∷ Ranges ∷ []) effect.ReadSet

-- person, text and type
abbrev pub mark_set : Row
mark_set = row 20 (Number ∷ Number ∷ Small ∷ []) effect.MarkSet

-- person and text
abbrev pub mark_gone : Row
mark_gone = row 21 (Number ∷ Number ∷ []) effect.MarkGone

-- 0 for a text and 1 for a conference, object, number, tag, creator, moment, flags, limit, contents
abbrev pub aux_added : Row
aux_added =
    row 22 (Flag ∷ Number ∷ Number ∷ Number ∷ Number ∷ Moment ∷ Byte ∷ Number
    ∷ Text LONGEST_CONTENT ∷ [])
    (λ on_conference object number tag creator at flags limit content.
    effect.AuxAdded (not on_conference) object (record {
      number = number;
      tag = tag;
      creator = creator;
      at = at;
      flags = flags;
      limit = limit;
      content = content;
    }))

-- 0 for a text and 1 for a conference, object and number
abbrev pub aux_gone : Row
aux_gone = row 23 (Flag ∷ Number ∷ Number ∷ [])
    (λ on_conference object number. effect.AuxGone (not on_conference) object number)

-- person, local number and text
abbrev pub text_numbered : Row
text_numbered = row 24 (Number ∷ Number ∷ Number ∷ []) effect.Created

abbrev pub rows : List Row
rows =
    conf_added ∷ conf_gone ∷ conf_named ∷ conf_set ∷ person_added ∷ person_gone ∷ person_set
    ∷ password ∷ logged_in ∷ counter_raised ∷ text_added ∷ text_gone ∷ recipient_added
    ∷ recipient_gone
    ∷ link_added ∷ link_gone ∷ member_set ∷ member_gone ∷ read_set ∷ mark_set ∷ mark_gone
    ∷ aux_added ∷ aux_gone ∷ text_numbered ∷ []

abbrev pub row_of : ℕ → Option Row
row_of kind = find (λ row. row.kind == kind) rows

-- what is told of the row of an effect, and of what stands in the row's fields
abbrev pub tell_row {ℓ} : {X : Type ℓ} → ((row : Row) → Values row.fields → X) → Effect → X
tell_row tell (effect.ConfAdded number name kind at creator supervisor) =
    tell conf_added (number ▸ name ▸ kind ▸ at ▸ creator ▸ supervisor ▸ tt)
tell_row tell (effect.ConfGone number) = tell conf_gone (number ▸ tt)
tell_row tell (effect.ConfNamed number name) = tell conf_named (number ▸ name ▸ tt)
tell_row tell (effect.ConfField number what) = tell conf_set (number ▸ conf_setting what ▸ tt)
tell_row tell (effect.PersonAdded number privileges flags last_login) =
    tell person_added (number ▸ privileges ▸ flags ▸ last_login ▸ tt)
tell_row tell (effect.PersonGone number) = tell person_gone (number ▸ tt)
tell_row tell (effect.PersonField number what) =
    tell person_set (number ▸ person_setting what ▸ tt)
tell_row tell (effect.Password number hash) = tell password (number ▸ hash ▸ tt)
tell_row tell (effect.LoggedIn number at user) = tell logged_in (number ▸ at ▸ user ▸ tt)
tell_row tell (effect.Counted number what by) =
    tell counter_raised (number ▸ set_part (counter_number what) by ▸ tt)
tell_row tell (effect.TextAdded number author at body) =
    tell text_added (number ▸ author ▸ at ▸ body ▸ tt)
tell_row tell (effect.TextGone number) = tell text_gone (number ▸ tt)
tell_row tell (effect.RecipientAdded given) = tell recipient_added
    (given.text ▸ given.conference ▸ given.tag ▸ given.local ▸ given.sender ▸ given.at ▸ tt)
tell_row tell (effect.RecipientGone text conference) =
    tell recipient_gone (text ▸ conference ▸ tt)
tell_row tell (effect.LinkAdded link) = tell link_added
    (link.child ▸ link.parent ▸ link.footnote ▸ link.sender ▸ link.at ▸ tt)
tell_row tell (effect.LinkGone child parent footnote) =
    tell link_gone (child ▸ parent ▸ footnote ▸ tt)
tell_row tell (effect.MemberSet member conference position priority added_by added_at kind) =
    tell member_set
    (member ▸ conference ▸ position ▸ priority ▸ added_by ▸ added_at ▸ kind ▸ tt)
tell_row tell (effect.MemberGone member conference) = tell member_gone (member ▸ conference ▸ tt)
tell_row tell (effect.ReadSet reader conference at ranges) =
    tell read_set (reader ▸ conference ▸ at ▸ ranges ▸ tt)
tell_row tell (effect.MarkSet reader text kind) = tell mark_set (reader ▸ text ▸ kind ▸ tt)
tell_row tell (effect.MarkGone reader text) = tell mark_gone (reader ▸ text ▸ tt)
tell_row tell (effect.AuxAdded on_text object item) = tell aux_added
    (not on_text ▸ object ▸ item.number ▸ item.tag ▸ item.creator ▸ item.at ▸ item.flags
    ▸ item.limit ▸ item.content ▸ tt)
tell_row tell (effect.AuxGone on_text object number) =
    tell aux_gone (not on_text ▸ object ▸ number ▸ tt)
tell_row tell (effect.Created author local text) = tell text_numbered (author ▸ local ▸ text ▸ tt)
