-- Definitions of calls that would leak, each seen to come to something else without what is hidden:
-- person 7 Bo supervises conference 10, which is secret, and wrote two texts to it; the group is
-- person 9 Di, who asks.
use Rattle.std.specs.Prelude.{ℕ, ◌&&◌, not, nat_le, nat_lt, List, [], ◌∷◌}
use Rattle.std.specs.Prelude.{◌++◌, length, map, filter, fold, codes, if◌then◌else◌}
use Rattle.kom_types.specs.declared.errors.TheConstants as error
use Rattle.kom_types.specs.declared.effects.Effect.{Effect}
use Rattle.kom_types.specs.declared.effects.Effect.TheVariants as effect
use Rattle.kom_types.specs.declared.replies.Reply.TheVariants as reply
use Rattle.kom_types.specs.declared.texts.MarkRow.{MarkRow}
use Rattle.kom_types.specs.Sessions.{fresh_seat}
use Rattle.kom_types.specs.tables.Memberships.{is_passive}
use Rattle.kom_types.specs.tables.Texts.{shown_mark}
use Rattle.kom_model.specs.Db.{Db, empty_db, memberships_of, marks_of}
use Rattle.kom_model.specs.Effects.{IsProtected, apply_all}
use Rattle.kom_model.specs.calls.Call.{Asked, Definition, answer}
use Rattle.kom_model.specs.calls.Conferences.{uconference_of}
use Rattle.kom_model.specs.calls.Guards.{with_guards, unless, caller, login_guard, person_guard}
use Rattle.kom_model.specs.calls.Guards.{text_guard}
use Rattle.kom_model.specs.calls.Memberships.{is_unread}
use Rattle.kom_model.specs.calls.Texts.{body_of, bytes_between, text_reply}
use Rattle.kom_laws.specs.Groups.{Group, IsOfGroup}
use Rattle.noninterference.specs.outputs.Answers.{erased_asked, ComesToSame}

abbrev pub di : Group
di = record { persons = 9 ∷ []; sessions = 3 ∷ [] }

abbrev pub makes_person : ℕ → List ℕ → List Effect
makes_person number name =
    effect.ConfAdded number name 152 10 number number ∷ effect.PersonAdded number 7168 0 10
    ∷ effect.MemberSet number number 0 255 number 10 0 ∷ []

-- a text of Bo to the secret conference
abbrev pub writes : ℕ → List ℕ → List Effect
writes text body = effect.TextAdded text 7 20 body ∷ effect.RecipientAdded (record {
  text = text;
  conference = 10;
  tag = 0;
  local = text;
  sender = 0;
  at = 20;
}) ∷ []

-- Bo is a member there, and Di has marked both texts, which she may have read once
abbrev pub rows_with_marks : Db
rows_with_marks = apply_all
    (makes_person 7 (codes "Bo") ++ makes_person 9 (codes "Di")
    ++ effect.ConfAdded 10 (codes "Board") 160 10 7 7 ∷ effect.MemberSet 7 10 1 100 7 10 0 ∷ []
    ++ writes 1 (codes "sell all") ++ writes 2 (codes "no")
    ++ effect.MarkSet 9 1 100 ∷ effect.MarkSet 9 2 100 ∷ []) empty_db

abbrev pub di_asks : Asked
di_asks = record {
  db = rows_with_marks;
  seats = record (fresh_seat 3 1 (codes "di") (codes "h") 11) { person = 9; login = 12 } ∷ [];
  moment = 30;
  session = 3;
  reference = 1;
}

-- get-text-stat, with a look into the body before it is known whether the text is read
abbrev pub stat_by_body : Asked → ℕ → Definition
stat_by_body asked text = with_guards
    (login_guard (caller asked)
    ∷ unless (nat_le (length (body_of asked.db text)) 4) error.STRING_TOO_LONG 4
    ∷ text_guard asked.db (caller asked) text ∷ [])
    (answer (text_reply asked.db (caller asked) text))

-- get-unread-confs, with memberships that are not shown
abbrev pub all_unread_confs : Asked → ℕ → Definition
all_unread_confs asked person = with_guards
    (login_guard (caller asked) ∷ person_guard asked.db person ∷ [])
    (answer (reply.Numbers (map (λ row. row.conference) (filter
    (λ row. not (is_passive row.kind) && is_unread asked.db row)
    (memberships_of asked.db person)))))

-- a count: get-uconf-stat of a conference that is not seen
abbrev pub any_uconf_stat : Asked → ℕ → Definition
any_uconf_stat asked number =
    with_guards (login_guard (caller asked) ∷ []) (answer (uconference_of asked.db number))

-- a length: get-text, whose range is looked at first
abbrev pub text_by_range : Asked → ℕ → ℕ → ℕ → Definition
text_by_range asked text start end = with_guards
    (login_guard (caller asked)
    ∷ unless (nat_le start (length (body_of asked.db text))) error.INDEX_OUT_OF_RANGE start
    ∷ text_guard asked.db (caller asked) text ∷ [])
    (answer (reply.Text (bytes_between start end (body_of asked.db text))))

-- an order: get-marks, the shortest text first
abbrev pub by_length : Db → MarkRow → List MarkRow → List MarkRow
by_length db row [] = row ∷ []
by_length db row (first ∷ rows) =
    if nat_lt (length (body_of db row.text)) (length (body_of db first.text))
    then row ∷ first ∷ rows else first ∷ by_length db row rows

abbrev pub marks_by_length : Asked → Definition
marks_by_length asked = with_guards
    (login_guard (caller asked) ∷ [])
    (answer (reply.Marks (map shown_mark (fold (λ sorted row. by_length asked.db row sorted) []
    (marks_of asked.db (caller asked).person)))))

-- what a definition comes to for Di differs without what is hidden from her
abbrev pub Leaks : (Asked → Definition) → Type 0
Leaks define = ComesToSame (define (erased_asked di di_asks)) (define di_asks) → ⊥

-- The law of answers refuses each of them: its premises are met, and what it says does not hold.
pub record LeaksAreRefused : Type 0 where
  pub protected : IsProtected rows_with_marks
  pub of_group : IsOfGroup di (caller di_asks)
  pub body : Leaks (λ asked. stat_by_body asked 1)
  pub conference : Leaks (λ asked. all_unread_confs asked 7)
  pub count : Leaks (λ asked. any_uconf_stat asked 10)
  pub range : Leaks (λ asked. text_by_range asked 1 3 9)
  pub order : Leaks marks_by_length
