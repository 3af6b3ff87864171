-- Two worlds that were worked out by hand: conference 6, which is open, and 10, which is secret;
-- and the persons 7 Bo, 8 Cy and 9 Di, each at a session. The group is Di and her session.
use Rattle.std.specs.Prelude.{◌≡◌, ℕ, true, false, List, [], ◌∷◌, ◌++◌, codes}
use Rattle.kom_types.specs.declared.acts.Act.{Act}
use Rattle.kom_types.specs.declared.acts.Act.TheVariants as act
use Rattle.kom_types.specs.declared.acts.Entry.{Entry}
use Rattle.kom_types.specs.declared.calls.Call.{Call}
use Rattle.kom_types.specs.declared.calls.Call.TheVariants as call
use Rattle.kom_types.specs.declared.effects.Effect.{Effect}
use Rattle.kom_types.specs.declared.effects.Effect.TheVariants as effect
use Rattle.kom_types.specs.declared.effects.PersonField.TheVariants as person_field
use Rattle.kom_types.specs.declared.texts.MiscInput.{MiscInput}
use Rattle.kom_types.specs.declared.texts.NewText.{NewText}
use Rattle.kom_types.specs.Sessions.{Session, fresh_seat}
use Rattle.kom_model.specs.Db.{Db, empty_db}
use Rattle.kom_model.specs.Effects.{apply_all}
use Rattle.kom_model.specs.State.{State, opening_state}
use Rattle.kom_laws.specs.Groups.{Group}
use Rattle.noninterference.specs.steps.Same.{IsSameFor}
use Rattle.noninterference.specs.steps.Steps.{HasNoOpening}
use Rattle.noninterference.specs.respect.Hidden.{is_hidden, may_differ, are_as_long, text_of_act}
use Rattle.noninterference.specs.respect.Hidden.{AreAlike}
use Rattle.noninterference.specs.respect.Quiet.{AreWeak, recipients_seen}

abbrev pub di : Group
di = record { persons = 9 ∷ []; sessions = 3 ∷ [] }

-- a conference, and a person with a letterbox of which it is a member
abbrev pub makes : ℕ → List ℕ → ℕ → Effect
makes number name kind = effect.ConfAdded number name kind 10 7 7

abbrev pub makes_person : ℕ → List ℕ → List Effect
makes_person number name =
    effect.ConfAdded number name 152 10 number number ∷ effect.PersonAdded number 7168 0 10
    ∷ effect.MemberSet number number 0 255 number 10 0 ∷ []

-- all that stands before
abbrev pub rows_at_start : Db
rows_at_start = apply_all
    (makes 6 (codes "Open") 0 ∷ makes_person 7 (codes "Bo") ++ makes_person 8 (codes "Cy")
    ++ makes_person 9 (codes "Di") ++ makes 10 (codes "Board") 160 ∷ []) empty_db

-- a session in which somebody is logged in
abbrev pub at : ℕ → ℕ → Session
at number person = record {
  seat = record (fresh_seat number 1 (codes "u") (codes "h") 11) { person = person; login = 12 };
  waiting = [];
  overrun = false;
}

abbrev pub before : State
before = record (opening_state rows_at_start) {
  sessions = at 1 7 ∷ at 2 8 ∷ at 3 9 ∷ [];
  connects = 3;
  moment = 12;
}

-- an act of the session at moment 20, and a call of it
abbrev pub act_entry : Act → Entry
act_entry what = record { pass = 1; moment = 20; act = what }

abbrev pub calls : ℕ → Call → Entry
calls session asked = act_entry (act.Call session 1 asked)

abbrev pub item : ℕ → ℕ → MiscInput
item tag value = record { tag = tag; value = value }

abbrev pub text : List ℕ → List MiscInput → NewText
text body misc_inputs = record { body = body; misc_inputs = misc_inputs; aux_items = [] }

-- Bo writes to Cy in the one world and in the other; and, as long or not, to all, and to the board
abbrev pub to_cy : List ℕ → NewText
to_cy body = text body (item 0 8 ∷ [])

abbrev pub yes : Entry
yes = calls 1 (call.CreateText (to_cy (codes "yes!")))

abbrev pub no : Entry
no = calls 1 (call.CreateText (to_cy (codes "no!!")))

abbrev pub short_no : Entry
short_no = calls 1 (call.CreateText (to_cy (codes "no")))

abbrev pub unsigned_no : Entry
unsigned_no = calls 1 (call.CreateAnonymousText (to_cy (codes "no!!")))

abbrev pub to_all : Entry
to_all = calls 1 (call.CreateText (text (codes "yes!") (item 0 6 ∷ [])))

abbrev pub to_the_board : Entry
to_the_board = calls 1 (call.CreateText (text (codes "yes!") (item 0 10 ∷ [])))

-- Cy's drain, and Di's
abbrev pub cy_drains : Entry
cy_drains = act_entry (act.Drain 2)

abbrev pub di_drains : Entry
di_drains = act_entry (act.Drain 3)

-- Bo's text to Cy is there as number 1; and then Di is a recipient of it
abbrev pub written_to_cy : Db
written_to_cy = apply_all (effect.TextAdded 1 7 20 (codes "yes!")
    ∷ effect.RecipientAdded (record {
      text = 1;
      conference = 8;
      tag = 0;
      local = 1;
      sender = 0;
      at = 20;
    }) ∷ []) rows_at_start

abbrev pub sent_to_di : Db
sent_to_di = apply_all (effect.RecipientAdded (record {
  text = 1;
  conference = 9;
  tag = 0;
  local = 1;
  sender = 7;
  at = 21;
}) ∷ []) written_to_cy

-- the secret conference with Di as a member
abbrev pub with_di : Db
with_di = apply_all (effect.MemberSet 9 10 0 100 7 21 0 ∷ []) rows_at_start

-- Di has the privilege wheel, and her session level 255
abbrev pub strong_session : Session
strong_session =
    record (at 3 9) { seat = record (at 3 9).seat { level = 255 } }

abbrev pub strong : State
strong = record before {
  db = apply_all (effect.PersonField 9 (person_field.Privileges 32768) ∷ []) rows_at_start;
  sessions = strong_session ∷ [];
}

-- The definitions give these rows: which entries are hidden from Di; which lists are alike; and
-- each kind of Opening.
pub record WorldRows : Type 0 where
  pub text_to_cy : is_hidden di before yes ≡ true
  pub text_to_cy_in_the_other_world : is_hidden di before no ≡ true
  pub text_to_the_board : is_hidden di before to_the_board ≡ true
  pub text_to_all : is_hidden di before to_all ≡ false
  pub text_without_an_author : is_hidden di before unsigned_no ≡ false
  pub query : is_hidden di before (calls 1 (call.GetConfStat 6)) ≡ true
  pub refused_by_the_reader : is_hidden di before (calls 1 (call.Refused 2 0)) ≡ true
  pub motd_of_the_board : is_hidden di before (calls 1 (call.SetEtcMotd 10 0)) ≡ true
  pub motd_of_the_open_one : is_hidden di before (calls 1 (call.SetEtcMotd 6 0)) ≡ false
  pub refused_change : is_hidden di before (calls 2 (call.SetEtcMotd 6 0)) ≡ true
  pub name_of_the_board : is_hidden di before (calls 1 (call.ChangeName 10 (codes "B"))) ≡ false
  pub drain : is_hidden di before cy_drains ≡ true
  pub own_drain : is_hidden di before di_drains ≡ false
  pub own_query : is_hidden di before (calls 3 (call.GetConfStat 6)) ≡ false
  pub alike : AreAlike di (yes ∷ di_drains ∷ []) (no ∷ di_drains ∷ [])
  pub not_of_another_length : AreAlike di (yes ∷ []) [] → ⊥
  pub not_as_long : are_as_long (text_of_act yes.act) (text_of_act short_no.act) ≡ false
  pub not_against_another_act : are_as_long (text_of_act yes.act) (text_of_act cy_drains.act)
      ≡ false
  pub not_without_an_author : may_differ di unsigned_no.act ≡ false
  pub not_of_the_group : may_differ di di_drains.act ≡ false
  pub recipients : recipients_seen di rows_at_start
      (text (codes "a") (item 0 8 ∷ item 1 10 ∷ item 15 6 ∷ item 2 1 ∷ []))
      ≡ item 0 8 ∷ item 15 6 ∷ []
  pub opened_text : HasNoOpening di written_to_cy sent_to_di → ⊥
  pub opened_conference : HasNoOpening di rows_at_start with_di → ⊥
  pub made_strong : AreWeak di strong → ⊥
  pub weak_sessions : AreWeak di before
  pub same_worlds : IsSameFor di before before
