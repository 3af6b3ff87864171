-- Passes that are joined into one seat, the last one first.
use Rattle.std.proofs.Common.{◌≡◌, ℕ, zero, suc, ◌<◌, ◌⊎◌, inl, inr, List, [], ◌∷◌, ◌++◌, length, map, get_or, max, All}
use Rattle.std.proofs.Common.{Contains, sym, refl, ap, ◌∙◌, subst, arith, append_assoc}
use Rattle.std.proofs.lemmas.List.Elements.{All-cons, All-contains, All-weaker}
use mathlib.Core.Option as maybe
use mathlib.Core.List.{IsPrefix}
use Rattle.atomic_table.specs.Seated.{TableId}
use Rattle.kom_state_lock.specs.declared.views.View.{View}
use Rattle.kom_state_lock.specs.Views.{entries_of, share_of, after_join, note_of}
use Rattle.kom_state_lock.specs.Passes.{PassModel, pass_model, drawn_by, number_of, IsClosed}
use Rattle.kom_state_lock.specs.Closing.{Among, IsIn, Covers, IsSettled}
use Rattle.kom_state_lock.proofs.Begins.{begins_itself}
use Rattle.kom_state_lock.proofs.Places.{in_second}

among_more : {A : Type 0} (xs ys : List A) (x : A) → Among ys x → Among (xs ++ ys) x
among_more xs ys x a = in_second xs ys a.0 x a.1

is_max : (m n : ℕ) → (max m n ≡ m) ⊎ (max m n ≡ n)
is_max m n = grind arith

contains_first : {A : Type 0} (x y : A) (xs : List A) → x ≡ y → Contains (x ∷ xs) y
contains_first x y xs e = (0, omega arith, e)

contains_more : {A : Type 0} (x y : A) (xs : List A) → Contains xs y → Contains (x ∷ xs) y
contains_more x y xs c = (suc c.0, (let h = c.1 in omega arith), c.2)

module _ {B E : Type 0} where
  -- of all passes the rest is left, and the seat knows what the others know
  pub record AreGathered (all rest : List (PassModel B E)) (v : View B E) : Type 0 where
    pub gone : List (PassModel B E)
    pub parts : all ≡ rest ++ gone
    pub each : All (IsIn v) gone
    pub drawn : Contains (map drawn_by gone) v.drawn

  -- what a seat knew it knows after it takes in another
  is_in_joined : (v w : View B E) (p : PassModel B E) → IsIn v p → IsIn (after_join v w) p
  is_in_joined v w p is = record {
    mine = elim is.mine [
      | inl own ↦ inl own
      | inr share ↦ inr (among_more (share_of w ∷ w.joined) v.joined
          (record { number = p.number; mine = p.mine }) share)
    ];
    seen = elim is.seen [
      | inl own ↦ inr (0, ap maybe.some (sym own))
      | inr before ↦ inr (among_more (v.seen ∷ w.seen ∷ w.beginnings) v.beginnings p.seen before)
    ];
    drawn = let d = is.drawn in omega arith;
  }

  -- and what the other one knows of itself
  is_in_other : (table : TableId) (v w : View B E) (p : PassModel B E) → pass_model table w ≡ p →
      IsIn (after_join v w) p
  is_in_other table v w p e =
      subst (IsIn (after_join v w)) e record { mine = inr (0, refl); seen = inr (1, refl); drawn = omega arith }

  pub one_gathered : (table : TableId) (all rest rest' : List (PassModel B E)) (p : PassModel B E) (v w n : View B E)
      → AreGathered all rest v → rest ≡ rest' ++ p ∷ [] → pass_model table w ≡ p → n ≡ after_join v w
      → AreGathered all rest' n
  one_gathered table all rest rest' p v w n before e is new =
      let d : w.drawn ≡ p.drawn = ap (λ (q : PassModel B E). q.drawn) is in
      subst (AreGathered all rest') (sym new) record {
        gone = p ∷ before.gone;
        parts = before.parts ∙ (ap (λ (l : List (PassModel B E)). l ++ before.gone) e
            ∙ append_assoc rest' (p ∷ []) before.gone);
        each = All-cons (IsIn (after_join v w)) p before.gone (is_in_other table v w p is)
            (λ k x h. is_in_joined v w _ (before.each k x h));
        drawn = elim (is_max v.drawn w.drawn) [
          | inl old ↦ contains_more p.drawn (max v.drawn w.drawn) (map drawn_by before.gone)
              (subst (Contains (map drawn_by before.gone)) (sym old) before.drawn)
          | inr other ↦ contains_first p.drawn (max v.drawn w.drawn) (map drawn_by before.gone) (sym d ∙ sym other)
        ];
      }

  pub some_pass : (all : List (PassModel B E)) (n : ℕ) → Contains (map number_of all) n → 0 < length all
  some_pass [] n c = absurd (let h = c.1 in omega arith)
  some_pass (p ∷ all) n c = omega arith

  from_map : (all : List (PassModel B E)) (k n : ℕ) → k < length (map number_of all)
      → get_or (map number_of all) k n ≡ n → (p : PassModel B E) × Contains all p × (p.number ≡ n)
  from_map [] k n h e = absurd (omega arith)
  from_map (p ∷ all) zero n h e = (p, contains_first p p all refl, e)
  from_map (p ∷ all) (suc k) n h e = let r = from_map all k n (omega arith) e in (r.0, contains_more p r.0 all r.1, r.2)

  pub covers : (passes : ℕ) (all : List (PassModel B E)) (v : View B E) → All (IsIn v) all
      → ((n : ℕ) → n < passes → Contains (map number_of all) n) → Covers passes v
  covers passes all v knows every n low =
      let c = every n low in
      let r = from_map all c.0 n c.1 c.2 in
      let is = All-contains (IsIn v) all r.0 knows r.1 in
      elim is.mine [
        | inl own ↦ inl (sym r.2 ∙ own.0)
        | inr share ↦ inr (share.0, record { number = r.0.number; mine = r.0.mine }, share.1, r.2)
      ]

  closed_mine : (pass_of : E → ℕ) (passes : ℕ) (v : View B E) (p : PassModel B E) → IsSettled pass_of passes v
      → IsIn v p → p.mine ≡ entries_of pass_of p.number v.seen
  closed_mine pass_of passes v p s is = elim is.mine [
    | inl own ↦ own.1 ∙ (s.mine ∙ ap (λ n. entries_of pass_of n v.seen) (sym own.0))
    | inr share ↦ s.joined share.0 (record { number = p.number; mine = p.mine }) share.1
  ]

  closed_seen : (pass_of : E → ℕ) (passes : ℕ) (v : View B E) (p : PassModel B E) → IsSettled pass_of passes v
      → IsIn v p → IsPrefix p.seen v.seen
  closed_seen pass_of passes v p s is = elim is.seen [
    | inl own ↦ subst (λ z. IsPrefix z v.seen) (sym own) (begins_itself v.seen)
    | inr before ↦ s.beginnings before.0 p.seen before.1
  ]

  pub all_closed : (pass_of : E → ℕ) (passes : ℕ) (table : TableId) (all : List (PassModel B E)) (v : View B E)
      (last : PassModel B E) → IsSettled pass_of passes v → All (IsIn v) all → last ≡ pass_model table (note_of v)
      → All (IsClosed pass_of last) all
  all_closed pass_of passes table all v last s knows e = subst (λ l. All (IsClosed pass_of l) all) (sym e)
      (All-weaker (IsIn v) (IsClosed pass_of (pass_model table (note_of v)))
      (λ p is. record {
        mine = closed_mine pass_of passes v p s is;
        seen = closed_seen pass_of passes v p s is;
        drawn = is.drawn;
      }) all knows)
