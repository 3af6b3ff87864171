-- A desk in memory stands after each of its acts.
use Rattle.std.proofs.Common.{◌≡◌, ◌≢◌, ℕ, zero, suc, ◌+◌, ◌<◌, ◌≤◌, inl, inr, Bool, true, false, List, [], ◌∷◌, ◌++◌}
use Rattle.std.proofs.Common.{length, map, filter, eqb, append-nil, refl, sym, ap, subst, ◌∙◌, arith, if◌then◌else◌}
use Rattle.std.specs.Prelude.{count_by}
use Rattle.std.specs.List.{range_with_len}
use Rattle.std.proofs.lemmas.Bool.{cases_eq, cases_lt, ne_eqb}
use Rattle.std.proofs.lemmas.List.Elements.{filter-append}
use Rattle.std.proofs.lemmas.List.FromFn.{length-range_with_len}
use Rattle.std.proofs.lemmas.List.Sums.{count_by-le-length, sum_by-cons}
use Rattle.kom_types.specs.declared.acts.Act.{Act}
use Rattle.kom_types.specs.declared.acts.Act.TheVariants as act
use Rattle.kom_types.specs.declared.acts.Record.{Record}
use Rattle.kom_links.specs.DeskCalls.{record_of}
use Rattle.kom_links.specs.Records.{IsOpen, is_open}
use Rattle.memory_links.specs.declared.planned_items.Drained.{Drained}
use Rattle.memory_links.specs.PlannedItems.{item_of, given_in}
use Rattle.memory_links.specs.Standing.{Stands, count_open}
use Rattle.memory_links.proofs.Opening.{open_other, open_closed, absent_open, absent_push}

-- ---- how many numbers pass a test

counted_at : (p : ℕ → Bool) (a n : ℕ) (passes : Bool) → p a ≡ passes →
    count_by p (range_with_len a (suc n)) ≡ (if passes then 1 else 0) + count_by p (range_with_len (a + 1) n)
counted_at p a n passes is =
    sum_by-cons (λ k. if p k then 1 else 0) a (range_with_len (a + 1) n)
    ∙ ap (λ b. (if b then 1 else 0) + count_by p (range_with_len (a + 1) n)) is

-- numbers that all pass it alike
counted_alike : (p q : ℕ → Bool) (a n : ℕ) → ((k : ℕ) → a ≤ k → q k ≡ p k) →
    count_by q (range_with_len a n) ≡ count_by p (range_with_len a n)
counted_alike p q a zero alike = refl
counted_alike p q a (suc n) alike =
    counted_at q a n (p a) (alike a (omega arith))
    ∙ ap (λ rest. (if p a then 1 else 0) + rest) (counted_alike p q (a + 1) n (λ k le. alike k (omega arith)))
    ∙ sym (counted_at p a n (p a) refl)

-- all alike but one, which passes it no longer
counted_fewer : (p q : ℕ → Bool) (one a n : ℕ) → ((k : ℕ) → k ≢ one → q k ≡ p k) → p one ≡ true → q one ≡ false →
    a ≤ one → one < a + n → count_by q (range_with_len a n) + 1 ≤ count_by p (range_with_len a n)
counted_fewer p q one a zero alike was is from before = absurd (omega arith)
counted_fewer p q one a (suc n) alike was is from before = elim (cases_eq a one) [
  | inl here ↦
      let rest : count_by q (range_with_len (a + 1) n) ≡ count_by p (range_with_len (a + 1) n) =
      counted_alike p q (a + 1) n (λ k le. alike k (λ e. absurd (omega arith))) in
      let old : count_by p (range_with_len a (suc n)) ≡ 1 + count_by p (range_with_len (a + 1) n) =
      counted_at p a n true (ap p here ∙ was) in
      let new : count_by q (range_with_len a (suc n)) ≡ 0 + count_by q (range_with_len (a + 1) n) =
      counted_at q a n false (ap q here ∙ is) in
      omega arith
  | inr other ↦
      let rest : count_by q (range_with_len (a + 1) n) + 1 ≤ count_by p (range_with_len (a + 1) n) =
      counted_fewer p q one (a + 1) n alike was is (omega arith) (omega arith) in
      let old : count_by p (range_with_len a (suc n))
      ≡ (if p a then 1 else 0) + count_by p (range_with_len (a + 1) n) = counted_at p a n (p a) refl in
      let new : count_by q (range_with_len a (suc n))
      ≡ (if p a then 1 else 0) + count_by q (range_with_len (a + 1) n) = counted_at q a n (p a) (alike a other) in
      omega arith
]

-- ---- what is known of an open session

pub open_known : {sessions : ℕ} {records : List Record} {drains : List Drained} {room : ℕ} (session : ℕ) →
    Stands sessions records drains room → IsOpen session records → session ≤ sessions
open_known {sessions} {records} session stands here = elim (cases_lt sessions session) [
  | inl more ↦ absurd (true_false (sym here ∙ absent_open session records (stands.absent session more)))
  | inr known ↦ known
]
  where
    true_false : true ≡ false → ⊥
    true_false e = cc

-- after it is closed, there are fewer that are open
closed_fewer : {sessions : ℕ} {records : List Record} {drains : List Drained} {room : ℕ} (pass moment session : ℕ) →
    Stands sessions records drains room → IsOpen session records →
    count_open sessions (records ++ record_of pass moment (act.Close session) session false ∷ []) + 1
    ≤ count_open sessions records
closed_fewer {sessions} {records} pass moment session stands here =
    let known : session ≤ sessions = open_known session stands here in
    let made : Record = record_of pass moment (act.Close session) session false in
    counted_fewer (λ n. is_open n records) (λ n. is_open n (records ++ made ∷ [])) session 0 (sessions + 1)
    (λ n other. open_other n records made (λ e. other (sym e))) here (open_closed records pass moment session)
    (omega arith) (omega arith)

-- there is room for its Close
pub room_to_close : {sessions : ℕ} {records : List Record} {drains : List Drained} {room : ℕ} (session : ℕ) →
    Stands sessions records drains room → IsOpen session records → 0 < room
room_to_close session stands here =
    let fewer = closed_fewer 0 0 session stands here in
    let counted = stands.counted in
    omega arith

-- ---- after an act was recorded

-- where there is room for the Close of each session
pub stands_more : {sessions : ℕ} {records : List Record} {drains : List Drained} {room : ℕ} {pass moment session : ℕ}
    {what : Act} (made : Record) (new : List Record) (known left : ℕ) → Stands sessions records drains room →
    made ≡ record_of pass moment what session false → new ≡ records ++ made ∷ [] → sessions ≤ known →
    session ≤ known → known < left → Stands known new drains left
stands_more {sessions} {records} {drains} made new known left stands is added more session room =
    subst (λ (records : List Record). Stands known records drains left) (sym added) (
    let here : made.session ≤ known = subst (λ (made : Record). made.session ≤ known) (sym is) session in
    let numbers : length (range_with_len 0 (known + 1)) ≡ known + 1 = length-range_with_len 0 (known + 1) in
    let most : count_open known (records ++ made ∷ []) ≤ length (range_with_len 0 (known + 1)) =
    count_by-le-length (λ n. is_open n (records ++ made ∷ [])) (range_with_len 0 (known + 1)) in
    record {
      absent = λ n over. absent_push n records made (λ e. absurd (omega arith)) (stands.absent n (omega arith));
      ungiven = λ n over. stands.ungiven n (omega arith);
      counted = omega arith;
    }
    )

-- where a drain gave items too
pub stands_drained : {sessions : ℕ} {records : List Record} {drains : List Drained} {room : ℕ} (drained : Drained)
    (new : List Drained) → Stands sessions records drains room → new ≡ drains ++ drained ∷ [] →
    drained.session ≤ sessions → Stands sessions records new room
stands_drained {sessions} {records} {drains} {room} drained new stands added known =
    subst (λ (drains : List Drained). Stands sessions records drains room) (sym added) record {
      absent = stands.absent;
      ungiven = λ n over. given_other drains drained n (λ e. absurd (omega arith)) ∙ stands.ungiven n over;
      counted = stands.counted;
    }
  where
    given_other : (drains : List Drained) (drained : Drained) (n : ℕ) → drained.session ≢ n →
        given_in (drains ++ drained ∷ []) n ≡ given_in drains n
    given_other drains drained n other =
        let mine : Drained → Bool = λ drained. eqb drained.session n in
        ap (map (λ (drained : Drained). map item_of drained.items.items))
        (filter-append mine drains (drained ∷ [])
        ∙ ap (λ b. filter mine drains ++ (if b then drained ∷ [] else [])) (ne_eqb _ _ other)
        ∙ append-nil (filter mine drains))

-- where it is the Close of an open session
pub stands_closed : {sessions : ℕ} {records : List Record} {drains : List Drained} {room : ℕ}
    {pass moment session : ℕ} (made : Record) (new : List Record) (left : ℕ) → Stands sessions records drains room →
    made ≡ record_of pass moment (act.Close session) session false → new ≡ records ++ made ∷ [] →
    IsOpen session records → room ≤ left + 1 → Stands sessions new drains left
stands_closed {sessions} {records} {drains} {pass = pass} {moment} {session} made new left stands is added here room =
    let close : Record = record_of pass moment (act.Close session) session false in
    let known : session ≤ sessions = open_known session stands here in
    let fewer = closed_fewer pass moment session stands here in
    let counted = stands.counted in
    subst (λ (records : List Record). Stands sessions records drains left)
    (sym (added ∙ ap (λ (made : Record). records ++ made ∷ []) is)) record {
      absent = λ n over. absent_push n records close (λ e. absurd (omega arith)) (stands.absent n over);
      ungiven = stands.ungiven;
      counted = omega arith;
    }
