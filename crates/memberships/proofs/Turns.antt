-- Entries in the order of joining, as a list that look-ups tell.
use Rattle.std.proofs.Common.{◌≡◌, ℕ, true, false, cond, List, [], ◌∷◌, Option, Some, None, option_map, Decides, refl}
use Rattle.std.proofs.Common.{sym, ◌∙◌, ap, subst}
use Rattle.std.specs.Cmp.{IsEquivalence, decided}
use Rattle.std.specs.List.{AllByRecursion, IsDistinct}
use Rattle.std.specs.Map.{keys_of}
use Rattle.std.proofs.lemmas.Bool.{eqb-true, eq-eqb, and_parts, and_from}
use Rattle.std.proofs.lemmas.Map.Keys.{IsDistinct-head, IsDistinct-tail, IsDistinct-cons}
use Rattle.memberships.specs.declared.kept.Kept.{Kept}
use Rattle.memberships.specs.Order.{sort_by}
use Rattle.memberships.specs.Entries.{Key, Entry, same_key, in_turn, kept_at, turn_of}
use Rattle.memberships.proofs.Pairs.{Pairwise}
use Rattle.memberships.proofs.Order.{Rises, rises_ordered, named, named-ordered, Differ, differ_ordered}
use Rattle.memberships.proofs.Order.{apart_from_named, all_from_named, named_has, one_order}

pub key_decides : (one other : Key) → Decides (same_key one other) (one ≡ other)
key_decides one other = (
  λ holds.
      let parts = and_parts _ _ holds in
      let first : one.0 ≡ other.0 = eqb-true one.0 other.0 parts.0 in
      let second : one.1 ≡ other.1 = eqb-true one.1 other.1 parts.1 in
      λ i. (first i, second i),
  λ e. and_from _ _ (eq-eqb one.0 other.0 (ap (λ (k : Key). k.0) e)) (eq-eqb one.1 other.1 (ap (λ (k : Key). k.1) e)),
)

pub key_laws : IsEquivalence same_key
key_laws = decided same_key key_decides

abbrev pub key_of : Entry → Key
key_of e = e.0

abbrev pub turn : Entry → ℕ
turn e = e.1.turn

-- the entry of a key
abbrev pub entry_at : Key → List Entry → Option Entry
entry_at key entries = named turn same_key key_decides key_of key entries

-- no two entries have one key
abbrev pub KeysDiffer : List Entry → Type 0
KeysDiffer entries = Differ turn same_key key_decides key_of entries

pub keys_differ : (es : List Entry) → IsDistinct same_key (keys_of es) → KeysDiffer es
keys_differ [] distinct = tt
keys_differ (e ∷ es) distinct = (
  heads es (IsDistinct-head same_key e.0 (keys_of es) distinct),
  keys_differ es (IsDistinct-tail same_key e.0 (keys_of es) distinct),
)
  where
    heads : (fs : List Entry) → AllByRecursion (λ k. same_key e.0 k ≡ false) (keys_of fs) →
        AllByRecursion (λ f. same_key e.0 f.0 ≡ false) fs
    heads [] all = tt
    heads (f ∷ fs) all = (all.0, heads fs all.1)

pub distinct_keys : (es : List Entry) → KeysDiffer es → IsDistinct same_key (keys_of es)
unfolding IsDistinct
distinct_keys [] differ = tt
distinct_keys (e ∷ es) differ =
    IsDistinct-cons same_key e.0 (keys_of es) (heads es differ.0) (distinct_keys es differ.1)
  where
    heads : (fs : List Entry) → AllByRecursion (λ f. same_key e.0 f.0 ≡ false) fs →
        AllByRecursion (λ k. same_key e.0 k ≡ false) (keys_of fs)
    heads [] all = tt
    heads (f ∷ fs) all = (all.0, heads fs all.1)

pub entry_at-lookup : (k : Key) (es : List Entry) → entry_at k es ≡ option_map (λ kept. (k, kept)) (kept_at k es)
entry_at-lookup k [] = refl
entry_at-lookup k (e ∷ es) =
    elim (same_key k e.0) as
    (λ b. same_key k e.0 ≡ b →
    cond b (Some e) (entry_at k es) ≡ option_map (λ kept. (k, kept)) (cond b (Some e.1) (kept_at k es))) [
      | true ↦ λ is. let same : e.0 ≡ k = sym ((key_decides k e.0).0 is) in λ i. Some (same i, e.1)
      | false ↦ λ other. entry_at-lookup k es
    ] refl

pub kept_at-entry : (k : Key) (es : List Entry) → kept_at k es ≡ option_map (λ e. e.1) (entry_at k es)
kept_at-entry k es = value (kept_at k es) ∙ ap (option_map (λ (e : Entry). e.1)) (sym (entry_at-lookup k es))
  where
    value : (o : Option Kept) → o ≡ option_map (λ (e : Entry). e.1) (option_map (λ kept. (k, kept)) o)
    value None = refl
    value (Some x) = refl

-- entries in the order of joining, of which these are kept at the keys
pub record AreInTurn (es : List Entry) (kept : Key → Option Kept) : Type 0 where
  pub rises : Rises turn es
  pub differ : KeysDiffer es
  pub found : (key : Key) → kept_at key es ≡ kept key

-- there is one such list
pub one_turn : (xs ys : List Entry) (kept : Key → Option Kept) → AreInTurn xs kept → AreInTurn ys kept → xs ≡ ys
one_turn xs ys kept one other =
    one_order turn same_key key_decides key_of xs ys one.rises other.rises one.differ other.differ (λ k.
    entry_at-lookup k xs ∙ ap (option_map (λ v. (k, v))) (one.found k ∙ sym (other.found k))
    ∙ sym (entry_at-lookup k ys))

-- turns are given once
abbrev pub TurnsDiffer : List Entry → Type 0
TurnsDiffer es = (one other : Key) (turn : ℕ) → turn_of one es ≡ Some turn → turn_of other es ≡ Some turn → one ≡ other

-- the entries that `in_turn` gives are in turn
pub in_turn_is : (es : List Entry) → IsDistinct same_key (keys_of es) → TurnsDiffer es →
    AreInTurn (in_turn es) (λ key. kept_at key es)
unfolding in_turn
in_turn_is es distinct apart =
    let differ : KeysDiffer es = keys_differ es distinct in
    let numbers : Pairwise (λ (x y : Entry). turn x ≡ turn y → ⊥) es =
    apart_from_named turn same_key key_decides key_of es differ (λ j k x y found other e.
    apart j k (turn y) (ap (option_map (λ kept. kept.turn)) (kept_at-entry j es ∙ ap (option_map (λ e. e.1)) found)
    ∙ ap Some e)
    (ap (option_map (λ kept. kept.turn)) (kept_at-entry k es ∙ ap (option_map (λ e. e.1)) other))) in
    record {
      rises = rises_ordered turn es numbers;
      differ = differ_ordered turn same_key key_decides key_of es differ;
      found = λ k. kept_at-entry k (sort_by turn es)
          ∙ ap (option_map (λ e. e.1)) (named-ordered turn same_key key_decides key_of k es differ)
          ∙ sym (kept_at-entry k es);
    }

-- what holds of each entry that is kept holds of each entry in turn
pub all_in_turn : (P : Entry → Type 0) (es : List Entry) (kept : Key → Option Kept) → AreInTurn es kept →
    ((key : Key) (v : Kept) → kept key ≡ Some v → P (key, v)) → AllByRecursion P es
all_in_turn P es kept turns each =
    all_from_named turn same_key key_decides key_of P es turns.differ (λ k e found.
    let is : k ≡ e.0 = named_has turn same_key key_decides key_of k es e found in
    let there : kept k ≡ Some e.1 = sym (turns.found k) ∙ kept_at-entry k es ∙ ap (option_map (λ x. x.1)) found in
    subst (λ key. P (key, e.1)) is (each k e.1 there))

-- what holds of each entry that its key finds holds of all
pub all_kept : (P : Entry → Type 0) (es : List Entry) → IsDistinct same_key (keys_of es) →
    ((e : Entry) → kept_at e.0 es ≡ Some e.1 → P e) → AllByRecursion P es
all_kept P es distinct each =
    all_from_named turn same_key key_decides key_of P es (keys_differ es distinct) (λ k e found.
    let is : k ≡ e.0 = named_has turn same_key key_decides key_of k es e found in
    let there : kept_at k es ≡ Some e.1 = kept_at-entry k es ∙ ap (option_map (λ x. x.1)) found in
    each e (ap (λ key. kept_at key es) (sym is) ∙ there))

-- the list of a key is this one now, and those of all other keys are as they were
pub record Sets (old new : ℕ → List ℕ) (key : ℕ) (list : List ℕ) : Type 0 where
  pub here : new key ≡ list
  pub others : (other : ℕ) → (other ≡ key → ⊥) → new other ≡ old other
