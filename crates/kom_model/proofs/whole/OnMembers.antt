-- Effects on memberships leave whole rows.
use Rattle.std.proofs.Common.{◌≡◌, ℕ, ◌+◌, ◌≤◌, true, ◌==◌, List, [], ◌∷◌}
use Rattle.std.proofs.Common.{arith, inl, inr, nat_lt, nat_le}
use Rattle.std.proofs.lemmas.Bool.{cases_Bool, and_parts, ltb-true, leb-true, eqb-false}
use Rattle.kom_types.specs.declared.effects.Effect.TheVariants as effect
use Rattle.kom_types.specs.declared.memberships.MembershipRow.{MembershipRow}
use Rattle.kom_types.specs.declared.memberships.ReadRange.{ReadRange}
use Rattle.read_ranges.specs.Changed.{rise_after}
use Rattle.read_ranges.specs.Merged.{merge_all, with_range}
use Rattle.read_ranges.specs.Reads.{ReadRow}
use Rattle.kom_model.specs.Db.{Db, conference_of, person_of, membership_of, memberships_of}
use Rattle.kom_model.specs.Effects.{fits, after_effect, member_row}
use Rattle.kom_model.specs.Whole.{IsWhole, AreMemberships, RiseApart}
use Rattle.kom_model.proofs.whole.Memberships.{memberships-set, memberships-gone, memberships-read}

-- ---- ranges that rise, with those that touch made one
rise-before : (least : ℕ) (one : ReadRange) (ranges : List ReadRange) → least ≤ one.first → one.first ≤ one.last →
    RiseApart (one.last + 1) ranges → RiseApart least (with_range one ranges)
rise-before least one [] first order rise = (first, order, tt)
rise-before least one (next ∷ ranges) first order rise = elim (cases_Bool (next.first == one.last + 1)) [
  | inl touch ↦
      let last = rise.0 in let longer = rise.1 in
      rw touch (first, omega (arith, order, last, longer), rise.2)
  | inr apart ↦
      let differ = eqb-false next.first (one.last + 1) apart in
      let after : one.last + 1 ≤ next.first = rise.0 in
      let beyond : one.last + 2 ≤ next.first = omega (arith, after, differ) in
      rw apart (first, order, (beyond, rise.1, rise.2))
]

rise-merged : (end : ℕ) (ranges : List ReadRange) → rise_after end ranges ≡ true →
    RiseApart (end + 1) (merge_all ranges)
rise-merged end [] rise = tt
rise-merged end (one ∷ ranges) rise =
    let parts = and_parts _ (rise_after one.last ranges) rise in
    let order = and_parts (nat_lt end one.first) (nat_le one.first one.last) parts.0 in
    let first = ltb-true end one.first order.0 in
    rise-before (end + 1) one (merge_all ranges) (omega (arith, first)) (leb-true one.first one.last order.1)
    (rise-merged one.last ranges parts.1)

module _ (db : Db) (whole : IsWhole db) where
  memberships-whole : (new : List MembershipRow) (reads : List ReadRow) →
      AreMemberships new reads db.persons db.conferences →
      IsWhole (record db { memberships = new; reads = reads })
  memberships-whole new reads memberships = record {
    conferences = whole.conferences;
    persons = whole.persons;
    texts = whole.texts;
    memberships = memberships;
    recipients = whole.recipients;
    links = whole.links;
    marks = whole.marks;
    items = whole.items;
  }

  pub member_set-whole : (person conference position priority added_by added_at kind : ℕ) →
      fits (effect.MemberSet person conference position priority added_by added_at kind) db ≡ true →
      IsWhole (after_effect (effect.MemberSet person conference position priority added_by added_at kind) db)
  unfolding fits after_effect person_of conference_of membership_of memberships_of
  member_set-whole person conference position priority added_by added_at kind fit =
      let room = and_parts _ _ fit in
      let there = and_parts _ _ room.0 in
      memberships-whole _ _ (memberships-set db.persons db.conferences db.memberships db.reads whole.memberships
      (member_row person conference position priority added_by added_at kind) there.0 there.1 room.1)

  pub member_gone-whole : (person conference : ℕ) → fits (effect.MemberGone person conference) db ≡ true →
      IsWhole (after_effect (effect.MemberGone person conference) db)
  unfolding fits after_effect membership_of
  member_gone-whole person conference fit = memberships-whole _ _
      (memberships-gone db.persons db.conferences db.memberships db.reads whole.memberships person conference fit)

  pub read_set-whole : (person conference at : ℕ) (ranges : List ReadRange) →
      fits (effect.ReadSet person conference at ranges) db ≡ true →
      IsWhole (after_effect (effect.ReadSet person conference at ranges) db)
  unfolding fits after_effect
  read_set-whole person conference at ranges fit =
      let rise = (and_parts _ (rise_after 0 ranges) fit).1 in
      let one : RiseApart 1 (merge_all ranges) = rise-merged 0 ranges rise in
      memberships-whole _ _ (memberships-read db.persons db.conferences db.memberships db.reads whole.memberships
      person conference at (merge_all ranges) one)
