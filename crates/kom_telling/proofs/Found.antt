-- What holds of all rows holds of one that is found.
use Rattle.std.proofs.Common.{◌≡◌, ℕ, ◌+◌, ◌<◌, ◌≤◌, ◌*◌, ◌^◌, Bool, List, [], ◌∷◌, length, Option, option_map, Some}
use Rattle.std.proofs.Common.{None, find, arith}
use Rattle.std.proofs.Common.{inl, inr, refl}
use Rattle.std.specs.List.{AllByRecursion}
use Rattle.std.proofs.lemmas.Bool.{cases_Bool}
use Rattle.kom_types.specs.Parts.{Part}
use Rattle.kom_types.specs.declared.limits.TheConstants.{LONGEST_BODY, LONGEST_NAME, LONGEST_USER_NAME}
use Rattle.kom_types.specs.declared.conferences.ConferenceRow.{ConferenceRow}
use Rattle.kom_types.specs.declared.memberships.MembershipRow.{MembershipRow}
use Rattle.kom_types.specs.declared.memberships.ReadRange.{ReadRange}
use Rattle.kom_types.specs.declared.persons.PersonRow.{PersonRow}
use Rattle.kom_types.specs.declared.texts.TextRow.{TextRow}
use Rattle.kom_types.specs.tables.Memberships.{at_place}
use Rattle.read_ranges.specs.Numbers.{RiseFrom, AreRanges, greatest}
use Rattle.kom_model.specs.Db.{Db, conference_of, person_of, text_of}
use Rattle.kom_model.specs.Whole.{IsWhole}
use Rattle.kom_snapshot.specs.Listed.{IsListed, IsListedPerson}
use Rattle.kom_telling.specs.Sections.{row_parts}
use Rattle.kom_telling.specs.declared.section.Joined.{Joined}

some-same : {R : Type 0} (one other : R) → Some one ≡ Some other → one ≡ other
some-same one other is = cc

module _ {R : Type 0} (P : R → Type 0) (test : R → Bool) where
  all-found : (rows : List R) (row : R) → AllByRecursion P rows → Some row ≡ find test rows → P row
  all-found [] row all is = absurd (cc is)
  all-found (first ∷ rows) row all is = elim (cases_Bool (test first)) [
    | inl here ↦
        let found : Some row ≡ Some first = rw here at is in
        rw (some-same row first found) all.0
    | inr there ↦ let later : Some row ≡ find test rows = rw there at is in all-found rows row all.1 later
  ]

pub short-name : (db : Db) (number : ℕ) (row : ConferenceRow) → IsWhole db → Some row ≡ conference_of db number →
    length row.name ≤ LONGEST_NAME
unfolding conference_of
short-name db number row whole is =
    all-found (λ (one : ConferenceRow). length one.name ≤ LONGEST_NAME) _ db.conferences row whole.conferences.short is

pub short-user : (db : Db) (number : ℕ) (row : PersonRow) → IsListed db → Some row ≡ person_of db number →
    length row.user ≤ LONGEST_USER_NAME
unfolding person_of
short-user db number row listed is = (all-found IsListedPerson _ db.persons row listed.persons is).user

pub short-body : (db : Db) (number : ℕ) (row : TextRow) → IsWhole db → Some row ≡ text_of db number →
    length row.body ≤ LONGEST_BODY
unfolding text_of
short-body db number row whole is =
    all-found (λ (one : TextRow). length one.body ≤ LONGEST_BODY) _ db.texts row whole.texts.short is

-- ranges are so few that four bytes tell how many: each has a number of its own, and one is after it
rise-few : (least : ℕ) (ranges : List ReadRange) → least ≤ greatest + 2 → RiseFrom least ranges →
    2 * length ranges + least ≤ greatest + 2
rise-few least [] within rise = omega (arith, within)
rise-few least (one ∷ ranges) within rise =
    let rest = rise-few (one.last + 2) ranges (omega (arith, rise.2)) rise.3 in
    omega (arith, rise.0, rise.1, rest)

pub few-ranges : (ranges : List ReadRange) → AreRanges ranges → length ranges < 2 ^ 32
few-ranges ranges are = let few = rise-few 1 ranges (omega arith) are in omega (arith, few)

-- the parts of a membership that may be there do not depend on where it stands
abbrev pub found_parts : Db → Joined → Option MembershipRow → List Part
found_parts db one found = elim found [ None ↦ [] | Some row ↦ row_parts db one row ]

pub unplaced-parts : (db : Db) (one : Joined) (found : Option MembershipRow) →
    found_parts db one (option_map (at_place 0) found) ≡ found_parts db one found
unplaced-parts db one None = refl
unplaced-parts db one (Some row) = refl
