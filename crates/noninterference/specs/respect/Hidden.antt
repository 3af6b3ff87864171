-- Entries that change nothing for a group, and lists of entries that may differ in them.
use Rattle.std.specs.Prelude.{◌≡◌, ℕ, Bool, true, false, ◌==◌, ◌||◌, ◌&&◌, not, List, [], ◌∷◌}
use Rattle.std.specs.Prelude.{length, Option, Some, None, IsTrue, ◌⊎◌, if◌then◌else◌}
use Rattle.std.specs.List.{list_any, list_all}
use Rattle.kom_types.specs.declared.acts.Act.{Act}
use Rattle.kom_types.specs.declared.acts.Act.TheVariants as act
use Rattle.kom_types.specs.declared.acts.Entry.{Entry}
use Rattle.kom_types.specs.declared.calls.Call.{Call}
use Rattle.kom_types.specs.declared.calls.Call.TheVariants as call
use Rattle.kom_types.specs.declared.texts.MiscInput.{MiscInput}
use Rattle.kom_types.specs.declared.texts.NewText.{NewText}
use Rattle.kom_types.specs.calls.Numbers.{number_of_call}
use Rattle.kom_types.specs.tables.Texts.{lines_of}
use Rattle.kom_model.specs.declared.kinds.TheConstants.{ASKING_NUMBERS, HIDING_NUMBERS}
use Rattle.kom_model.specs.After.{decision_at}
use Rattle.kom_model.specs.Db.{Db}
use Rattle.kom_model.specs.Decide.{was_refused}
use Rattle.kom_model.specs.Kinds.{is_among}
use Rattle.kom_model.specs.Rights.{reads_conference}
use Rattle.kom_model.specs.State.{State, session_of}
use Rattle.kom_model.specs.ToWhom.{is_refused}
use Rattle.kom_model.specs.calls.NewTexts.{names_recipient}
use Rattle.kom_laws.specs.Groups.{Group, is_unseen, is_unread, weak}

-- a call asks, or was refused by the reader, or is one of the eleven
abbrev pub may_be_hidden : Call → Bool
may_be_hidden call = let number = number_of_call call in
    was_refused call || is_among ASKING_NUMBERS number || is_among HIDING_NUMBERS number

-- somebody of the group reads the texts of a conference
abbrev pub is_read_by_some : Group → Db → ℕ → Bool
is_read_by_some group db conference =
    list_any (λ person. reads_conference db (weak person) conference) group.persons

-- what a new text names does not tell of it: a recipient that the group does not see, or that
-- nobody of it reads, or a text that it does not read
abbrev pub tells_nothing : Group → Db → MiscInput → Bool
tells_nothing group db item =
    if names_recipient item
    then is_unseen group db item.value || not (is_read_by_some group db item.value)
    else is_unread group db item.value

-- all that one of the eleven changes is hidden from the group
abbrev pub is_of_hidden : Group → Db → Call → Bool
is_of_hidden group db (call.SetPresentation conference text) = is_unseen group db conference
is_of_hidden group db (call.SetEtcMotd conference text) = is_unseen group db conference
is_of_hidden group db (call.MarkAsRead conference locals) = is_unseen group db conference
is_of_hidden group db (call.SetLastRead conference local) = is_unseen group db conference
is_of_hidden group db (call.MarkAsUnread conference local) = is_unseen group db conference
is_of_hidden group db (call.SetReadRanges conference ranges) = is_unseen group db conference
is_of_hidden group db (call.ModifyConfInfo change) = is_unseen group db change.object
is_of_hidden group db (call.AddRecipient text conference tag) =
    is_unread group db text && is_unseen group db conference
is_of_hidden group db (call.SubRecipient text conference) =
    is_unread group db text && is_unseen group db conference
is_of_hidden group db (call.ModifyTextInfo change) = is_unread group db change.object
is_of_hidden group db (call.CreateText given) =
    list_all (tells_nothing group db) given.misc_inputs
is_of_hidden group db other = false

-- who is logged in at a session: 0 is nobody
abbrev pub person_at : State → ℕ → ℕ
person_at state session =
    elim (session_of session state) [ None ↦ 0 | Some row ↦ row.seat.person ]

-- the session is outside the group, and so is who is logged in there
abbrev pub is_outside : Group → State → ℕ → Bool
is_outside group state session =
    not (is_among group.sessions session) && not (is_among group.persons (person_at state session))

-- a call of the eleven is refused, or all that it changes is hidden
abbrev pub is_hidden_change : Group → State → ℕ → ℕ → ℕ → Call → Bool
is_hidden_change group state moment session reference call =
    is_refused (decision_at state moment session reference call).reply
    || is_of_hidden group state.db call

abbrev pub is_hidden_call : Group → State → ℕ → ℕ → ℕ → Call → Bool
is_hidden_call group state moment session reference call =
    was_refused call || is_among ASKING_NUMBERS (number_of_call call)
    || is_among HIDING_NUMBERS (number_of_call call)
    && is_hidden_change group state moment session reference call

-- Whether an entry is hidden from the group in this state.
abbrev pub is_hidden : Group → State → Entry → Bool
is_hidden group state entry = elim entry.act [
  | act.Connect user host ↦ false
  | act.Call session reference call ↦ is_outside group state session
      && is_hidden_call group state entry.moment session reference call
  | act.Broken session ↦ false
  | act.Drain session ↦ is_outside group state session
  | act.Flush ↦ false
  | act.Close session ↦ false
]

-- whether an act of a session outside the group may be another in another world
abbrev pub may_differ : Group → Act → Bool
may_differ group (act.Connect user host) = false
may_differ group (act.Call session reference call) =
    not (is_among group.sessions session) && may_be_hidden call
may_differ group (act.Broken session) = false
may_differ group (act.Drain session) = not (is_among group.sessions session)
may_differ group act.Flush = false
may_differ group (act.Close session) = false

-- the text that an act makes, with an author
abbrev pub text_of_call : Call → Option NewText
text_of_call (call.CreateText given) = Some given
text_of_call other = None

abbrev pub text_of_act : Act → Option NewText
text_of_act (act.Connect user host) = None
text_of_act (act.Call session reference call) = text_of_call call
text_of_act (act.Broken session) = None
text_of_act (act.Drain session) = None
text_of_act act.Flush = None
text_of_act (act.Close session) = None

-- two new texts are as long, in bytes and lines; a new text stands against no other act
abbrev pub are_as_long : Option NewText → Option NewText → Bool
are_as_long None None = true
are_as_long None (Some given) = false
are_as_long (Some given) None = false
are_as_long (Some one) (Some other) =
    length one.body == length other.body && lines_of one.body == lines_of other.body

-- both acts may be others, and a text that is made stands against one that is as long
pub record MayDiffer (group : Group) (one other : Act) : Type 0 where
  pub first : IsTrue (may_differ group one)
  pub second : IsTrue (may_differ group other)
  pub texts : IsTrue (are_as_long (text_of_act one) (text_of_act other))

-- Two lists of entries are as long, with equal moments, and differ in such acts alone.
abbrev pub AreAlike : Group → List Entry → List Entry → Type 0
AreAlike group [] [] = Unit {0}
AreAlike group [] (other ∷ others) = ⊥
AreAlike group (one ∷ ones) [] = ⊥
AreAlike group (one ∷ ones) (other ∷ others) =
    (one.moment ≡ other.moment) × ((one ≡ other) ⊎ MayDiffer group one.act other.act)
    × AreAlike group ones others
