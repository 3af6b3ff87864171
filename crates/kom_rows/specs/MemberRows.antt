-- What becomes of memberships, and what calls over them come to, worked out by hand.
use Rattle.std.specs.Prelude.{◌≡◌, ℕ, true, false, List, [], ◌∷◌, ◌++◌, map, codes, replicate, zero}
use Rattle.std.specs.Prelude.{suc, ◌==◌, if◌then◌else◌, Some, None, Option, option_map}
use Rattle.kom_types.specs.declared.effects.ConfField.TheVariants as field
use Rattle.kom_types.specs.declared.effects.Effect.{Effect}
use Rattle.kom_types.specs.declared.effects.Effect.TheVariants as effect
use Rattle.kom_types.specs.declared.effects.PersonField.TheVariants as person_field
use Rattle.kom_types.specs.declared.memberships.Member.{Member}
use Rattle.kom_types.specs.declared.memberships.Membership.{Membership}
use Rattle.kom_types.specs.declared.memberships.MembershipRow.{MembershipRow}
use Rattle.kom_types.specs.declared.memberships.RangesShown.{RangesShown}
use Rattle.kom_types.specs.declared.memberships.RangesShown.TheVariants as shown
use Rattle.kom_types.specs.declared.memberships.ReadRange.{ReadRange}
use Rattle.kom_types.specs.declared.replies.Reply.{Reply}
use Rattle.kom_types.specs.declared.replies.Reply.TheVariants as reply
use Rattle.kom_types.specs.declared.seats.Seat.{Seat}
use Rattle.kom_types.specs.declared.session_changes.SessionChange.TheVariants as change
use Rattle.kom_rows.specs.Cast.{Cast, cast_over, four_persons, three_conferences, makes, member}
use Rattle.kom_rows.specs.Cast.{under_di, range, sends, seat, after, comes_to, answers, early_of}
use Rattle.kom_rows.specs.Cast.{conferences_in, persons_in, places_of}
use Rattle.kom_model.specs.Db.{Db, empty_db, membership_of, read_of}
use Rattle.kom_model.specs.Effects.{fits, apply_all, all_fit}
use Rattle.kom_model.specs.calls.Call.{Asked, Definition, outcome_of}
use Rattle.kom_model.specs.calls.Guards.{refusal}
use Rattle.kom_model.specs.calls.Memberships.{change_conference, sub_member, mark_as_read}
use Rattle.kom_model.specs.calls.Memberships.{add_member, get_members, set_membership_type}
use Rattle.kom_model.specs.calls.Memberships.{query_read_texts, get_membership, set_read_ranges}

-- a text of 5 in a conference, under this local number
abbrev pub writes : ℕ → ℕ → ℕ → List Effect
writes text conference local =
    effect.TextAdded text 5 20 [] ∷ sends text conference 0 local ∷ []

-- The four persons and the three conferences, and the conference 12, which is protected and forbids
-- secret members. Bo is in 11, his letterbox, 9 and, passively, 10; Cy is secretly in 9, before her
-- letterbox; Anna was invited to 9 by Bo. 9 has five texts, 10 and 11 have one. Bo has read 2 and 3
-- in 9.
abbrev pub made_rows : List Effect
made_rows =
    four_persons ++ three_conferences
    ++ makes 12 (codes "Strict") 132
    ∷ member 6 9 1 6 0 ∷ member 7 9 0 7 32 ∷ member 6 11 0 6 0 ∷ member 6 10 9 6 64
    ∷ member 5 9 9 6 128
    ∷ writes 1 9 1 ++ writes 2 9 2 ++ writes 3 9 3 ++ writes 4 9 4 ++ writes 5 9 5
    ++ writes 6 10 1 ++ writes 7 11 1 ++ effect.ReadSet 6 9 25 (range 2 3 ∷ []) ∷ []

abbrev pub rows : Db
rows = apply_all made_rows empty_db

-- session 1 of a person, in 9; Bo has two more, in 9 and in 10, Cy one in 9, Di one
abbrev pub seats : ℕ → ℕ → List Seat
seats person level =
    seat 1 person level 9 10 ∷ seat 2 6 0 9 10 ∷ seat 3 6 0 10 10 ∷ seat 4 7 0 9 10
    ∷ seat 5 8 0 0 10 ∷ []

abbrev pub cast : Cast
cast = cast_over rows seats

-- the strong session is Cy's; Di has not the privilege
open cast use {with_effects, made_by, stranger, anna, bo, cy, di}
open cast use {high_cy as strong, high_di as not_strong}

-- what Bo has read is secret; Bo is in 12 too
abbrev pub secretive : List Effect
secretive = effect.PersonField 6 (person_field.Flags 128) ∷ []

abbrev pub in_strict : List Effect
in_strict = member 6 12 9 6 0 ∷ []

-- Di has left her letterbox, and 5 supervises it
abbrev pub without_letterbox : List Effect
without_letterbox = effect.MemberGone 8 8 ∷ effect.ConfField 8 (field.Supervisor 5) ∷ []

-- Bo has read these in 9
abbrev pub has_read : List ReadRange → List Effect
has_read ranges = effect.ReadSet 6 9 26 ranges ∷ []

-- no guard refuses a call, and it tells these members
abbrev pub tells : List Member → Definition
tells members = answers (reply.Members members)

-- a membership of Bo's as it is told: its place, its time, its conference and what was read
abbrev pub membership_of_bo : ℕ → ℕ → RangesShown → Membership
membership_of_bo place time ranges = record {
  position = place;
  last_time_read = time;
  conference = 9;
  priority = 100;
  ranges = ranges;
  added_by = 6;
  added_at = 20;
  kind = 0;
}

-- a member of 9
abbrev pub in_open : ℕ → ℕ → ℕ → Member
in_open person by kind = record { person = person; added_by = by; added_at = 20; kind = kind }

abbrev pub bo_in : Member
bo_in = in_open 6 6 0

abbrev pub cy_in : Member
cy_in = in_open 7 7 32

abbrev pub anna_in : Member
anna_in = in_open 5 6 128

-- the memberships of a reply, as their places and their conferences
abbrev pub places_told : Reply → List (ℕ × ℕ)
places_told (reply.Memberships list) = map (λ one. (one.position, one.conference)) list
places_told other = []

-- what is told of Bo's memberships from a place on
abbrev pub memberships_of_bo : Asked → ℕ → ℕ → List (ℕ × ℕ)
memberships_of_bo asked first count =
    places_told (outcome_of (get_membership asked 6 first count true 0)).reply

-- Bo has read three ranges in 9, and what Bo is told of that membership then
abbrev pub three_ranges : List ReadRange
three_ranges = range 1 1 ∷ range 3 3 ∷ range 5 5 ∷ []

abbrev pub three_told : RangesShown → Definition
three_told ranges = answers (reply.Membership (membership_of_bo 2 26 ranges))

-- all ranges that Bo has read in 9
abbrev pub two_and_three : RangesShown
two_and_three = shown.All (range 2 3 ∷ [])

-- as many memberships of Di's in 99, the last place first
abbrev pub rows_down : ℕ → List MembershipRow
rows_down zero = []
rows_down (suc many) = record {
  person = 8;
  conference = 99;
  position = many;
  priority = 100;
  added_by = 8;
  added_at = 20;
  last_time_read = 20;
  kind = 0;
} ∷ rows_down many

abbrev pub with_memberships : ℕ → Asked → Asked
with_memberships many asked =
    record asked { db = record rows { memberships = rows_down many } }

-- the same, where the first of them is in 9
abbrev pub moved_into_open : MembershipRow → MembershipRow
moved_into_open row = if row.position == 0 then record row { conference = 9 } else row

abbrev pub after_many : ℕ → Asked → Asked
after_many many asked =
    record asked { db = record rows { memberships = map moved_into_open (rows_down many) } }

-- Bo sets its membership in 9 again, at this place
abbrev pub moved_to : ℕ → Definition
moved_to place = add_member bo 9 6 1 place 0

-- Di joins 9 at this place
abbrev pub joins_at : ℕ → Definition
joins_at place = add_member di 9 8 1 place 0

-- what was read last in a membership, as a moment
abbrev pub time_in : ℕ → ℕ → Db → Option ℕ
time_in person conference db =
    option_map (λ row. row.last_time_read) (membership_of db person conference)

-- what becomes of memberships, and what calls over them come to, in cases that were worked out by
-- hand
pub record MemberRows : Type 0 where
  -- each effect of the state fits
  pub all_are_made : all_fit made_rows empty_db ≡ true
  -- a place in the middle, the first one, and one past the end, which is the end
  pub places : conferences_in 6 rows ≡ 11 ∷ 6 ∷ 9 ∷ 10 ∷ []
  -- a member goes into a conference: only its session changes
  pub goes : change_conference bo 9 ≡ comes_to [] (change.Working 1 9 ∷ [])
  -- 0 is no conference to be in, and needs no membership
  pub goes_nowhere : change_conference bo 0 ≡ comes_to [] (change.Working 1 0 ∷ [])
  -- an invited person may go there too
  pub goes_as_invited : change_conference anna 9 ≡ comes_to [] (change.Working 1 9 ∷ [])
  -- refused in this order: nobody is logged in; the conference is missing; it is hidden; no
  -- membership
  pub goes_not :
      early_of (change_conference stranger 99 ∷ change_conference bo 99 ∷ change_conference di 11
      ∷ change_conference di 9 ∷ [])
      ≡ refusal 6 0 ∷ refusal 9 99 ∷ refusal 9 11 ∷ refusal 13 9 ∷ []
  -- supervising a conference, or strength, is no membership
  pub goes_by_no_right : early_of (change_conference anna 11 ∷ change_conference strong 11 ∷ [])
      ≡ refusal 13 11 ∷ refusal 13 11 ∷ []
  -- a person leaves: its sessions that are in the conference are in none then, also that of the
  -- call
  pub leaves : sub_member bo 9 6
      ≡ comes_to (effect.MemberGone 6 9 ∷ []) (change.Working 1 0 ∷ change.Working 2 0 ∷ [])
  -- the supervisor of the conference ends a membership that is hidden from others
  pub taken_out_of_ones_conference : sub_member anna 9 7
      ≡ comes_to (effect.MemberGone 7 9 ∷ []) (change.Working 4 0 ∷ [])
  -- the supervisor of the person does
  pub taken_out_by_its_supervisor : sub_member (after (under_di 6) di) 9 6
      ≡ comes_to (effect.MemberGone 6 9 ∷ []) (change.Working 2 0 ∷ [])
  -- a strong session does, also of a passive membership
  pub taken_out_by_strength : sub_member strong 10 6
      ≡ comes_to (effect.MemberGone 6 10 ∷ []) (change.Working 3 0 ∷ [])
  -- a stranger does not, nor a level without the privilege, nor a member, not even who invited
  pub not_taken_out :
      early_of (sub_member di 9 6 ∷ sub_member not_strong 9 6 ∷ sub_member bo 9 5 ∷ [])
      ≡ refusal 12 9 ∷ refusal 12 9 ∷ refusal 12 9 ∷ []
  -- the privilege without the level is no strength, nor the level without it
  pub not_strong_enough : early_of (sub_member cy 10 6 ∷ sub_member not_strong 10 6 ∷ [])
      ≡ refusal 12 10 ∷ refusal 12 10 ∷ []
  -- nobody leaves its own letterbox: not by itself, by strength or by its supervisor
  pub stays_in_letterbox :
      early_of (sub_member bo 6 6 ∷ sub_member strong 6 6
      ∷ sub_member (after (under_di 6) di) 6 6 ∷ [])
      ≡ refusal 12 6 ∷ refusal 12 6 ∷ refusal 12 6 ∷ []
  -- another leaves a letterbox by itself or by the letterbox's person
  pub leaves_letterbox_of_another :
      sub_member (after (member 7 6 9 7 0 ∷ []) cy) 6 7
      ∷ sub_member (after (member 7 6 9 7 0 ∷ []) bo) 6 7 ∷ []
      ≡ comes_to (effect.MemberGone 7 6 ∷ []) [] ∷ comes_to (effect.MemberGone 7 6 ∷ []) [] ∷ []
  -- refused in this order: nobody is logged in; the conference is 0; it is missing; the person is
  -- 0; it is none; there is no such membership
  pub taking_out_refused :
      early_of (sub_member stranger 0 0 ∷ sub_member bo 0 0 ∷ sub_member bo 99 0 ∷ sub_member bo 9 0
      ∷ sub_member bo 9 9 ∷ sub_member di 9 8 ∷ [])
      ≡ refusal 6 0 ∷ refusal 8 0 ∷ refusal 9 99 ∷ refusal 8 0 ∷ refusal 10 9 ∷ refusal 13 9 ∷ []
  -- a hidden membership, and one in a hidden conference, is refused as a missing one, to the
  -- person's supervisor too
  pub hidden_to_take_out :
      early_of (sub_member di 9 7 ∷ sub_member di 11 6
      ∷ sub_member (after (under_di 6) di) 11 6 ∷ [])
      ≡ refusal 13 9 ∷ refusal 9 11 ∷ refusal 9 11 ∷ []
  -- in the order of joining, without a secret one but to its person and the conference's
  -- supervisor
  pub members_told : map (λ asked. get_members asked 9 0 9) (bo ∷ di ∷ anna ∷ cy ∷ [])
      ≡ tells (bo_in ∷ anna_in ∷ []) ∷ tells (bo_in ∷ anna_in ∷ [])
      ∷ tells (bo_in ∷ cy_in ∷ anna_in ∷ []) ∷ tells (bo_in ∷ cy_in ∷ anna_in ∷ []) ∷ []
  -- a strong session is shown a secret one of another
  pub members_told_to_strength :
      map (λ asked. get_members (after (member 8 9 0 8 32 ∷ []) asked) 9 2 9) (cy ∷ strong ∷ [])
      ≡ tells (anna_in ∷ []) ∷ tells (anna_in ∷ in_open 8 8 32 ∷ []) ∷ []
  -- the supervisor of a person is shown a secret one
  pub secret_told_to_its_supervisor :
      get_members (after (effect.ConfField 7 (field.Supervisor 8) ∷ []) di) 9 1 1
      ≡ tells (cy_in ∷ [])
  -- who was invited to a secret conference sees it
  pub seen_as_invited : get_members (after (member 8 11 0 5 128 ∷ []) di) 11 0 1
      ≡ tells (bo_in ∷ [])
  -- a membership is secret by that bit alone
  pub secret_by_its_bit :
      map (λ kind. get_members (after (member 6 9 2 6 kind ∷ []) di) 9 0 1) (223 ∷ 32 ∷ [])
      ≡ tells (in_open 6 6 223 ∷ []) ∷ tells (anna_in ∷ []) ∷ []
  -- places count the shown ones alone, and so many are told
  pub members_from_a_place :
      get_members bo 9 1 9 ∷ get_members anna 9 1 1 ∷ get_members anna 9 2 1 ∷ get_members bo 9 1 0
      ∷ []
      ≡ tells (anna_in ∷ []) ∷ tells (cy_in ∷ []) ∷ tells (anna_in ∷ []) ∷ tells [] ∷ []
  -- no member at all: place 0 passes
  pub no_members : get_members bo 12 0 9 ≡ tells []
  -- refused in this order: nobody is logged in; the conference is 0; it is missing; it is hidden;
  -- a place past the shown ones, of which the supervisor has more
  pub members_refused :
      early_of (get_members stranger 0 9 0 ∷ get_members bo 0 9 0 ∷ get_members bo 99 9 0
      ∷ get_members di 11 0 9 ∷ get_members bo 9 2 0 ∷ get_members anna 9 3 0
      ∷ get_members bo 12 1 9 ∷ [])
      ≡ refusal 6 0 ∷ refusal 8 0 ∷ refusal 9 99 ∷ refusal 9 11 ∷ refusal 19 2 ∷ refusal 19 3
      ∷ refusal 19 1 ∷ []
  -- the type alone changes: place, priority, and by whom and when it was added stay
  pub type_set : set_membership_type bo 6 9 32
      ≡ comes_to (effect.MemberSet 6 9 2 100 6 20 32 ∷ []) []
  -- the supervisor of the person sets it; its place among all stays, not that among the shown
  pub type_set_by_its_supervisor : set_membership_type (after (under_di 6) di) 6 9 64
      ≡ comes_to (effect.MemberSet 6 9 2 100 6 20 64 ∷ []) []
  -- a strong session sets it
  pub type_set_by_strength : set_membership_type strong 6 11 16
      ≡ comes_to (effect.MemberSet 6 11 0 100 6 20 16 ∷ []) []
  -- an invited person takes the invitation
  pub invitation_taken : set_membership_type anna 5 9 0
      ≡ comes_to (effect.MemberSet 5 9 1 100 6 20 0 ∷ []) []
  -- what was read stays
  pub kept_with_another_type : read_of (made_by (set_membership_type bo 6 9 32)) 6 9
      ≡ range 2 3 ∷ []
  -- and so does the time
  pub time_with_another_type : time_in 6 9 (made_by (set_membership_type bo 6 9 32)) ≡ Some 25
  -- and so do the places
  pub places_with_another_type : conferences_in 6 (made_by (set_membership_type bo 6 9 32))
      ≡ 11 ∷ 6 ∷ 9 ∷ 10 ∷ []
  -- not a stranger, the conference's supervisor, or a person that another supervises
  pub type_not_set :
      early_of (set_membership_type di 6 9 0 ∷ set_membership_type anna 6 9 0
      ∷ set_membership_type (after (under_di 6) bo) 6 9 0 ∷ [])
      ≡ refusal 12 6 ∷ refusal 12 6 ∷ refusal 12 6 ∷ []
  -- refused in this order: nobody is logged in; the person is 0; it is none; the conference is 0;
  -- it is missing; it is hidden; there is no membership, before the secret bit; it is hidden
  pub type_refused :
      early_of (set_membership_type stranger 0 0 0 ∷ set_membership_type bo 0 0 0
      ∷ set_membership_type bo 9 0 0 ∷ set_membership_type bo 6 0 0 ∷ set_membership_type bo 6 99 0
      ∷ set_membership_type di 6 11 0 ∷ set_membership_type bo 6 12 32
      ∷ set_membership_type di 7 9 0 ∷ [])
      ≡ refusal 6 0 ∷ refusal 8 0 ∷ refusal 10 9 ∷ refusal 8 0 ∷ refusal 9 99 ∷ refusal 9 11
      ∷ refusal 13 12 ∷ refusal 13 9 ∷ []
  -- a conference that forbids secret members refuses that bit alone, after the right, also to a
  -- strong session
  pub secret_type_refused :
      early_of (set_membership_type (after in_strict bo) 6 12 32
      ∷ set_membership_type (after in_strict bo) 6 12 223
      ∷ set_membership_type (after in_strict di) 6 12 32
      ∷ set_membership_type (after in_strict strong) 6 12 255 ∷ [])
      ≡ refusal 54 0 ∷ None ∷ refusal 12 6 ∷ refusal 54 0 ∷ []
  -- a conference forbids secret members by that bit alone
  pub forbids_by_its_bit :
      early_of (map (λ kind. set_membership_type
      (after (effect.ConfField 9 (field.Kind kind) ∷ []) bo) 6 9 32) (235 ∷ 4 ∷ []))
      ≡ None ∷ refusal 54 0 ∷ []
  -- a person joins an open conference: added by itself now, of the type as given
  pub joins_itself : add_member di 9 8 77 0 64
      ≡ comes_to (effect.MemberSet 8 9 0 77 8 30 64 ∷ []) []
  -- not a protected one that it does not read; not the letterbox of another; a secret one is as
  -- missing
  pub joins_not :
      early_of (add_member di 10 8 100 0 0 ∷ add_member bo 7 6 100 0 0 ∷ add_member di 11 8 100 0 0
      ∷ [])
      ≡ refusal 11 10 ∷ refusal 11 7 ∷ refusal 9 11 ∷ []
  -- a person reads its own letterbox, and so may join it
  pub returns_to_letterbox : add_member (after without_letterbox di) 8 8 255 0 0
      ≡ comes_to (effect.MemberSet 8 8 0 255 8 30 0 ∷ []) []
  -- the supervisor of a secret conference joins it
  pub supervisor_joins : add_member anna 11 5 100 1 0
      ≡ comes_to (effect.MemberSet 5 11 1 100 5 30 0 ∷ []) []
  -- a strong session adds another to a secret one, without an invitation
  pub added_by_strength : add_member strong 11 8 100 0 0
      ≡ comes_to (effect.MemberSet 8 11 0 100 7 30 0 ∷ []) []
  -- who supervises a person adds it without an invitation
  pub added_by_its_supervisor :
      add_member (after (effect.MemberGone 6 9 ∷ under_di 6) di) 9 6 100 0 0
      ≡ comes_to (effect.MemberSet 6 9 0 100 8 30 0 ∷ []) []
  -- but not to a protected conference that the person itself does not read, though the caller does
  pub may_not_read_it : (add_member (after (member 8 12 0 8 0 ∷ under_di 6) di) 12 6 100 0 0).early
      ≡ refusal 11 12
  -- unless the caller supervises the conference
  pub added_to_ones_conference :
      add_member (after (effect.ConfField 12 (field.Supervisor 8) ∷ under_di 6) di) 12 6 100 0 0
      ≡ comes_to (effect.MemberSet 6 12 0 100 8 30 0 ∷ []) []
  -- another is invited to an open conference: the bit is put to those that are given
  pub invited : map (add_member bo 9 8 100 1) (0 ∷ 96 ∷ 128 ∷ 255 ∷ [])
      ≡ comes_to (effect.MemberSet 8 9 1 100 6 30 128 ∷ []) []
      ∷ comes_to (effect.MemberSet 8 9 1 100 6 30 224 ∷ []) []
      ∷ comes_to (effect.MemberSet 8 9 1 100 6 30 128 ∷ []) []
      ∷ comes_to (effect.MemberSet 8 9 1 100 6 30 255 ∷ []) [] ∷ []
  -- the conference's supervisor invites to a protected one
  pub invited_by_supervisor : add_member anna 10 8 100 0 0
      ≡ comes_to (effect.MemberSet 8 10 0 100 5 30 128 ∷ []) []
  -- a person invites to its letterbox
  pub invited_to_letterbox : add_member bo 6 8 100 0 0
      ≡ comes_to (effect.MemberSet 8 6 0 100 6 30 128 ∷ []) []
  -- a member does not invite to a protected conference, nor a stranger one who reads it
  pub not_invited : early_of (add_member bo 10 8 100 0 0 ∷ add_member di 12 5 100 0 0 ∷ [])
      ≡ refusal 11 10 ∷ refusal 11 12 ∷ []
  -- active members of a conference that supervises another invite to that, also one in secret, but
  -- not who was only invited
  pub invited_by_members_that_supervise :
      early_of (map (λ asked. add_member
      (after (effect.ConfField 12 (field.Supervisor 9) ∷ []) asked) 12 8 100 0 0)
      (bo ∷ cy ∷ anna ∷ []))
      ≡ None ∷ None ∷ refusal 11 12 ∷ []
  -- priority, place and type of a membership that is there change, not by whom and when it was
  -- added
  pub set_again : add_member bo 9 6 1 0 16 ≡ comes_to (effect.MemberSet 6 9 0 1 6 20 16 ∷ []) []
  -- who was invited sets its own, and by whom it was added stays
  pub set_again_as_invited : add_member anna 9 5 1 0 0
      ≡ comes_to (effect.MemberSet 5 9 0 1 6 20 0 ∷ []) []
  -- a strong session sets it, the invitation bit as given
  pub set_again_by_strength : add_member strong 9 6 1 2 128
      ≡ comes_to (effect.MemberSet 6 9 2 1 6 20 128 ∷ []) []
  -- the supervisor of the person does
  pub set_again_by_its_supervisor : add_member (after (under_di 6) di) 9 6 1 1 64
      ≡ comes_to (effect.MemberSet 6 9 1 1 6 20 64 ∷ []) []
  -- a person is near itself, also if another supervises it
  pub set_again_under_another : add_member (after (under_di 6) bo) 9 6 1 1 64
      ≡ comes_to (effect.MemberSet 6 9 1 1 6 20 64 ∷ []) []
  -- who is not near changes nothing, and is not refused: in an open conference, in a protected
  -- one, of a hidden membership, and as the conference's supervisor
  pub not_set_again :
      add_member di 9 6 1 0 32 ∷ add_member di 10 6 1 0 32 ∷ add_member di 9 7 1 0 0
      ∷ add_member anna 9 6 1 0 0 ∷ []
      ≡ replicate 4 (comes_to [] [])
  -- refused in this order: nobody is logged in; the conference is 0; it is missing; the person is
  -- 0; it is none, before the secret bit
  pub adding_refused :
      early_of (add_member stranger 0 0 1 0 0 ∷ add_member bo 0 0 1 0 0 ∷ add_member bo 99 0 1 0 0
      ∷ add_member bo 9 0 1 0 0 ∷ add_member bo 12 9 1 0 32 ∷ [])
      ≡ refusal 6 0 ∷ refusal 8 0 ∷ refusal 9 99 ∷ refusal 8 0 ∷ refusal 10 9 ∷ []
  -- the secret bit comes before the right to join; it is refused to a strong session, of a
  -- membership that is there, and there also to who would change nothing; the other bits pass
  pub secret_refused :
      early_of (add_member di 12 8 1 0 32 ∷ add_member di 12 8 1 0 0 ∷ add_member strong 12 8 1 0 32
      ∷ add_member (after in_strict di) 12 6 1 0 32 ∷ add_member (after in_strict bo) 12 6 1 0 32
      ∷ add_member anna 12 5 1 0 223 ∷ [])
      ≡ refusal 54 0 ∷ refusal 11 12 ∷ refusal 54 0 ∷ refusal 54 0 ∷ refusal 54 0 ∷ None ∷ []
  -- the row is taken out before its place is counted: first, second, third, last, past the end
  pub placed : map (λ place. conferences_in 6 (made_by (moved_to place))) (0 ∷ 1 ∷ 2 ∷ 3 ∷ 99 ∷ [])
      ≡ (9 ∷ 11 ∷ 6 ∷ 10 ∷ []) ∷ (11 ∷ 9 ∷ 6 ∷ 10 ∷ []) ∷ (11 ∷ 6 ∷ 9 ∷ 10 ∷ [])
      ∷ (11 ∷ 6 ∷ 10 ∷ 9 ∷ []) ∷ (11 ∷ 6 ∷ 10 ∷ 9 ∷ []) ∷ []
  -- so it is if the place is after the one that it had
  pub placed_downwards : conferences_in 6 (made_by (add_member bo 11 6 1 2 0))
      ≡ 6 ∷ 9 ∷ 11 ∷ 10 ∷ []
  -- a new row at the first place, at the end, and past it
  pub placed_anew : map (λ place. conferences_in 8 (made_by (joins_at place))) (0 ∷ 1 ∷ 99 ∷ [])
      ≡ (9 ∷ 8 ∷ []) ∷ (8 ∷ 9 ∷ []) ∷ (8 ∷ 9 ∷ []) ∷ []
  -- the places are without a gap then
  pub places_follow : places_of 6 (made_by (moved_to 0)) ≡ 0 ∷ 1 ∷ 2 ∷ 3 ∷ []
  -- and so they are with one past the end
  pub place_past_the_end : places_of 6 (made_by (moved_to 99)) ≡ 0 ∷ 1 ∷ 2 ∷ 3 ∷ []
  -- a membership that is set again keeps its turn among the members
  pub joining_order_kept : persons_in 9 (made_by (moved_to 0)) ≡ 6 ∷ 7 ∷ 5 ∷ []
  -- one that was ended and begins anew is the last
  pub joins_last : persons_in 9 (with_effects (effect.MemberGone 6 9 ∷ member 6 9 0 6 0 ∷ []))
      ≡ 7 ∷ 5 ∷ 6 ∷ []
  -- what was read stays when a membership is set again
  pub reads_kept : read_of (made_by (moved_to 0)) 6 9 ≡ range 2 3 ∷ []
  -- and so does the time
  pub time_kept : time_in 6 9 (made_by (moved_to 0)) ≡ Some 25
  -- a new membership was read when it was added
  pub time_of_joining : time_in 8 9 (made_by (joins_at 0)) ≡ Some 30
  -- and nothing was read in it
  pub read_before_any : read_of (made_by (joins_at 0)) 8 9 ≡ []
  -- one membership more than there may be is refused with the person, not the caller
  pub memberships_at_the_limit :
      early_of (map (λ many. add_member (with_memberships many bo) 9 8 1 0 0) (1999 ∷ 2000 ∷ []))
      ≡ None ∷ refusal 45 8 ∷ []
  -- the right to join comes before the limit
  pub limit_is_last : (add_member (with_memberships 2000 di) 10 8 1 0 0).early ≡ refusal 11 10
  -- a membership that is there is set at the limit too
  pub set_again_at_the_limit : (add_member (after_many 2000 di) 9 8 1 0 0).early ≡ None
  -- so do the effects: not of one membership more, but of one that is there
  pub fits_at_the_limit :
      map (λ asked. fits (member 8 9 0 8 0) asked.db)
      (with_memberships 1999 di ∷ with_memberships 2000 di ∷ after_many 2000 di ∷ [])
      ≡ true ∷ false ∷ true ∷ []
  -- the effects of the calls fit
  pub calls_fit :
      map (λ call. all_fit (outcome_of call).effects rows)
      (sub_member bo 9 6 ∷ mark_as_read bo 9 (1 ∷ [])
      ∷ set_read_ranges bo 9 (range 1 2 ∷ range 3 5 ∷ []) ∷ moved_to 99 ∷ joins_at 99
      ∷ set_membership_type bo 6 9 32 ∷ [])
      ≡ replicate 6 true
  -- a membership is told whole
  pub read_told : query_read_texts bo 6 9 true 0
      ≡ answers (reply.Membership (membership_of_bo 2 25 two_and_three))
  -- its place is that among those that are shown
  pub read_told_to_another : query_read_texts di 6 9 true 0
      ≡ answers (reply.Membership (membership_of_bo 1 25 two_and_three))
  -- the first so many ranges are told; 0, and more than there are, is all
  pub first_ranges :
      map (query_read_texts (after (has_read three_ranges) bo) 6 9 true) (0 ∷ 1 ∷ 2 ∷ 3 ∷ 4 ∷ [])
      ≡ three_told (shown.All three_ranges) ∷ three_told (shown.All (range 1 1 ∷ []))
      ∷ three_told (shown.All (range 1 1 ∷ range 3 3 ∷ [])) ∷ three_told (shown.All three_ranges)
      ∷ three_told (shown.All three_ranges) ∷ []
  -- not wanted, they are counted, but only those that would be told
  pub ranges_counted :
      map (query_read_texts (after (has_read three_ranges) bo) 6 9 false) (0 ∷ 1 ∷ 2 ∷ 3 ∷ 4 ∷ [])
      ≡ three_told (shown.Count 3) ∷ three_told (shown.Count 1) ∷ three_told (shown.Count 2)
      ∷ three_told (shown.Count 3) ∷ three_told (shown.Count 3) ∷ []
  -- if it is secret what was read, it is told to its person and a strong session; others are told
  -- no ranges and the time 0
  pub secret_reads :
      map (λ asked. query_read_texts (after secretive asked) 6 9 true 0)
      (bo ∷ strong ∷ anna ∷ di ∷ not_strong ∷ [])
      ≡ answers (reply.Membership (membership_of_bo 2 25 two_and_three))
      ∷ answers (reply.Membership (membership_of_bo 2 25 two_and_three))
      ∷ answers (reply.Membership (membership_of_bo 2 0 (shown.All [])))
      ∷ answers (reply.Membership (membership_of_bo 1 0 (shown.All [])))
      ∷ answers (reply.Membership (membership_of_bo 1 0 (shown.All []))) ∷ []
  -- and no number of ranges
  pub secret_reads_counted : query_read_texts (after secretive di) 6 9 false 0
      ≡ answers (reply.Membership (membership_of_bo 1 0 (shown.Count 0)))
  -- its supervisor is told, and the person that is supervised
  pub secret_reads_under_another :
      map (λ asked. query_read_texts (after (under_di 6 ++ secretive) asked) 6 9 true 0)
      (di ∷ bo ∷ [])
      ≡ answers (reply.Membership (membership_of_bo 1 25 two_and_three))
      ∷ answers (reply.Membership (membership_of_bo 2 25 two_and_three)) ∷ []
  -- what nobody set yet has the time of its adding
  pub never_read : query_read_texts bo 6 6 true 0
      ≡ answers (reply.Membership (record (membership_of_bo 1 10 (shown.All []))
      { conference = 6; priority = 255; added_at = 10 }))
  -- a secret membership is told to its person
  pub secret_membership_told : query_read_texts cy 7 9 true 0
      ≡ answers (reply.Membership
      (record (membership_of_bo 0 20 (shown.All [])) { added_by = 7; kind = 32 }))
  -- refused in this order: nobody is logged in; the person is 0; it is none; the conference is 0;
  -- it is missing; it is hidden; the membership is hidden; there is none
  pub querying_refused :
      early_of (query_read_texts stranger 0 0 true 0 ∷ query_read_texts bo 0 0 true 0
      ∷ query_read_texts bo 9 0 true 0 ∷ query_read_texts bo 6 0 true 0
      ∷ query_read_texts bo 6 99 true 0 ∷ query_read_texts di 6 11 true 0
      ∷ query_read_texts di 7 9 true 0 ∷ query_read_texts bo 6 12 true 0 ∷ [])
      ≡ refusal 6 0 ∷ refusal 8 0 ∷ refusal 10 9 ∷ refusal 8 0 ∷ refusal 9 99 ∷ refusal 9 11
      ∷ refusal 13 9 ∷ refusal 13 12 ∷ []
  -- all memberships by their places, to the person, the conferences' supervisor and a strong
  -- session
  pub all_listed : map (λ asked. memberships_of_bo asked 0 9) (bo ∷ anna ∷ strong ∷ [])
      ≡ replicate 3 ((0, 11) ∷ (1, 6) ∷ (2, 9) ∷ (3, 10) ∷ [])
  -- others are not told of one in a secret conference, nor the person's supervisor, and places
  -- count without it
  pub some_listed : map (λ asked. memberships_of_bo asked 0 9)
      (cy ∷ di ∷ after (under_di 6) di ∷ [])
      ≡ replicate 3 ((0, 6) ∷ (1, 9) ∷ (2, 10) ∷ [])
  -- a secret membership is not told to others
  pub secret_listed :
      map (λ asked. places_told (outcome_of (get_membership asked 7 0 9 true 0)).reply)
      (cy ∷ anna ∷ di ∷ [])
      ≡ ((0, 9) ∷ (1, 7) ∷ []) ∷ ((0, 9) ∷ (1, 7) ∷ []) ∷ ((0, 7) ∷ []) ∷ []
  -- but to the supervisor of the person
  pub secret_listed_to_its_supervisor :
      places_told
      (outcome_of (get_membership (after (effect.ConfField 7 (field.Supervisor 8) ∷ []) di)
      7 0 9 true 0)).reply
      ≡ (0, 9) ∷ (1, 7) ∷ []
  -- from a place among the shown ones, and so many
  pub listed_from_a_place : memberships_of_bo bo 1 2 ∷ memberships_of_bo di 1 1
      ∷ memberships_of_bo di 2 9 ∷ memberships_of_bo bo 0 0 ∷ []
      ≡ ((1, 6) ∷ (2, 9) ∷ []) ∷ ((1, 9) ∷ []) ∷ ((2, 10) ∷ []) ∷ [] ∷ []
  -- one that is listed is told whole
  pub membership_told : get_membership di 6 1 1 true 0
      ≡ answers (reply.Memberships (membership_of_bo 1 25 two_and_three ∷ []))
  -- its ranges are counted, if they are not wanted
  pub membership_counted : get_membership (after (has_read three_ranges) di) 6 1 1 false 2
      ≡ answers (reply.Memberships (membership_of_bo 1 26 (shown.Count 2) ∷ []))
  -- no ranges and the time 0, if it is secret what was read
  pub membership_in_secret : get_membership (after secretive di) 6 1 1 true 0
      ≡ answers (reply.Memberships (membership_of_bo 1 0 (shown.All []) ∷ []))
  -- no membership at all: place 0 passes
  pub no_memberships : get_membership (after (effect.MemberGone 8 8 ∷ []) bo) 8 0 9 true 0
      ≡ answers (reply.Memberships [])
  -- refused in this order: nobody is logged in; the person is 0; it is none; a place past the
  -- shown ones, of which the person has more
  pub listing_refused :
      early_of (get_membership stranger 0 9 0 true 0 ∷ get_membership bo 0 9 0 true 0
      ∷ get_membership bo 9 9 0 true 0 ∷ get_membership di 6 3 0 true 0
      ∷ get_membership bo 6 3 0 true 0 ∷ get_membership bo 6 4 0 true 0
      ∷ get_membership di 7 1 0 true 0 ∷ [])
      ≡ refusal 6 0 ∷ refusal 8 0 ∷ refusal 10 9 ∷ refusal 19 3 ∷ None ∷ refusal 19 4 ∷ refusal 19 1
      ∷ []
  -- what ends is there, by its person and its conference
  pub gone_fits :
      map (λ what. fits what rows)
      (effect.MemberGone 6 9 ∷ effect.MemberGone 9 6 ∷ effect.MemberGone 6 12
      ∷ effect.MemberGone 8 9 ∷ [])
      ≡ true ∷ false ∷ false ∷ false ∷ []
  -- and does not end twice
  pub gone_once : fits (effect.MemberGone 6 9) (with_effects (effect.MemberGone 6 9 ∷ [])) ≡ false
  -- the other conferences keep their order
  pub gone_closes_up : conferences_in 6 (with_effects (effect.MemberGone 6 6 ∷ []))
      ≡ 11 ∷ 9 ∷ 10 ∷ []
  -- and their places are without a gap
  pub places_close_up : places_of 6 (with_effects (effect.MemberGone 6 6 ∷ [])) ≡ 0 ∷ 1 ∷ 2 ∷ []
  -- other members stay
  pub gone_leaves_others : persons_in 9 (with_effects (effect.MemberGone 6 9 ∷ [])) ≡ 7 ∷ 5 ∷ []
  -- and the places of other persons
  pub places_of_others : conferences_in 5 (with_effects (effect.MemberGone 6 9 ∷ [])) ≡ 5 ∷ 9 ∷ []
  -- nothing is read in a membership that ended
  pub reads_gone : read_of (with_effects (effect.MemberGone 6 9 ∷ [])) 6 9 ≡ []
  -- what was read in other memberships stays
  pub reads_of_others :
      map (λ what. read_of (with_effects (what ∷ [])) 6 9)
      (effect.MemberGone 6 11 ∷ effect.MemberGone 7 9 ∷ [])
      ≡ (range 2 3 ∷ []) ∷ (range 2 3 ∷ []) ∷ []
  -- nor in one that begins anew
  pub reads_gone_for_good :
      read_of (with_effects (effect.MemberGone 6 9 ∷ member 6 9 0 6 0 ∷ [])) 6 9
      ≡ []
