-- Blocks one after the other, and the last slots after them: what stands in a slot, and after one of them has changed.
use Rattle.std.proofs.Common.{◌≡◌, ℕ, zero, suc, ◌+◌, ◌*◌, ◌<◌, List, [], ◌∷◌, ◌++◌, length, slice_get, Option, Some}
use Rattle.std.proofs.Common.{None, refl, sym, ap, subst, ◌∙◌, arith, append_assoc}
use Rattle.std.specs.List.{AllByRecursion}
use Rattle.std.proofs.Math.ListN.{set}
use Rattle.std.proofs.lemmas.List.{length-append}
use Rattle.std.proofs.lemmas.Option.{none-some, same_Some}
use Rattle.row_slots.specs.Slots.{empty_slot, replace_row, slots_of, IsBlock}

module _ {X : Type 0} where
  pub get-within : (xs ys : List X) (place : ℕ) → place < length xs → slice_get (xs ++ ys) place ≡ slice_get xs place
  get-within [] ys place within = absurd (omega arith)
  get-within (x ∷ xs) ys zero within = refl
  get-within (x ∷ xs) ys (suc place) within = get-within xs ys place (omega arith)

  pub get-after : (xs ys : List X) (place : ℕ) → slice_get (xs ++ ys) (length xs + place) ≡ slice_get ys place
  get-after [] ys place = ap (slice_get ys) (omega arith)
  get-after (x ∷ xs) ys place =
      let next : length (x ∷ xs) + place ≡ suc (length xs + place) = omega arith in
      ap (slice_get (x ∷ (xs ++ ys))) next ∙ get-after xs ys place

  pub all-set : (P : X → Type 0) (xs : List X) (place : ℕ) (x : X) → AllByRecursion P xs → P x →
      AllByRecursion P (set xs place x)
  all-set P [] place x all one = all
  all-set P (first ∷ xs) zero x all one = (one, all.1)
  all-set P (first ∷ xs) (suc place) x all one = (all.0, all-set P xs place x all.1 one)

  pub all-push : (P : X → Type 0) (xs : List X) (x : X) → AllByRecursion P xs → P x → AllByRecursion P (xs ++ x ∷ [])
  all-push P [] x all one = (one, all)
  all-push P (first ∷ xs) x all one = (all.0, all-push P xs x all.1 one)

  pub all-at : (P : X → Type 0) (xs : List X) (place : ℕ) (x : X) → AllByRecursion P xs → slice_get xs place ≡ Some x →
      P x
  all-at P [] place x all there = absurd (none-some x there)
  all-at P (first ∷ xs) zero x all there = subst P (same_Some first x there) all.0
  all-at P (first ∷ xs) (suc place) x all there = all-at P xs place x all.1 there

module _ {R : Type 0} where
  -- ---- what stands in a slot

  pub get-laid : (blocks : List (List (Option R))) (last : List (Option R)) (which place : ℕ) (block : List (Option R))
      →
      AllByRecursion IsBlock blocks → slice_get blocks which ≡ Some block → place < 64 →
      slice_get (slots_of blocks last) (64 * which + place) ≡ slice_get block place
  get-laid [] last which place block whole there within = absurd (none-some block there)
  get-laid (first ∷ blocks) last zero place block whole there within =
      let is : first ≡ block = same_Some first block there in
      ap (slice_get (first ++ slots_of blocks last)) (omega arith)
      ∙ get-within first (slots_of blocks last) place (omega (arith, whole.0))
      ∙ ap (λ b. slice_get b place) is
  get-laid (first ∷ blocks) last (suc which) place block whole there within =
      ap (slice_get (first ++ slots_of blocks last)) (omega (arith, whole.0))
      ∙ get-after first (slots_of blocks last) (64 * which + place)
      ∙ get-laid blocks last which place block whole.1 there within

  pub get-last : (blocks : List (List (Option R))) (last : List (Option R)) (place : ℕ) →
      AllByRecursion IsBlock blocks →
      slice_get (slots_of blocks last) (64 * length blocks + place) ≡ slice_get last place
  get-last [] last place whole = ap (slice_get last) (omega arith)
  get-last (first ∷ blocks) last place whole =
      ap (slice_get (first ++ slots_of blocks last)) (omega (arith, whole.0))
      ∙ get-after first (slots_of blocks last) (64 * length blocks + place)
      ∙ get-last blocks last place whole.1

  -- ---- one slot is changed

  module _ (changed : ℕ → List (Option R) → List (Option R))
      (here : (slot : Option R) (slots rest : List (Option R)) →
      changed zero ((slot ∷ slots) ++ rest) ≡ changed zero (slot ∷ slots) ++ rest)
      (later : (place : ℕ) (slot : Option R) (slots : List (Option R)) →
      changed (suc place) (slot ∷ slots) ≡ slot ∷ changed place slots) where
    changed-within : (slots rest : List (Option R)) (place : ℕ) → place < length slots →
        changed place (slots ++ rest) ≡ changed place slots ++ rest
    changed-within [] rest place within = absurd (omega arith)
    changed-within (slot ∷ slots) rest zero within = here slot slots rest
    changed-within (slot ∷ slots) rest (suc place) within =
        later place slot (slots ++ rest)
        ∙ ap (λ tail. slot ∷ tail) (changed-within slots rest place (omega arith))
        ∙ ap (λ all. all ++ rest) (sym (later place slot slots))

    changed-after : (slots rest : List (Option R)) (place : ℕ) →
        changed (length slots + place) (slots ++ rest) ≡ slots ++ changed place rest
    changed-after [] rest place = ap (λ p. changed p rest) (omega arith)
    changed-after (slot ∷ slots) rest place =
        let next : length (slot ∷ slots) + place ≡ suc (length slots + place) = omega arith in
        ap (λ p. changed p (slot ∷ (slots ++ rest))) next
        ∙ later (length slots + place) slot (slots ++ rest)
        ∙ ap (λ tail. slot ∷ tail) (changed-after slots rest place)

    changed-laid : (blocks : List (List (Option R))) (last : List (Option R)) (which place : ℕ)
        (block : List (Option R)) → AllByRecursion IsBlock blocks → slice_get blocks which ≡ Some block → place < 64 →
        slots_of (set blocks which (changed place block)) last ≡ changed (64 * which + place) (slots_of blocks last)
    changed-laid [] last which place block whole there within = absurd (none-some block there)
    changed-laid (first ∷ blocks) last zero place block whole there within =
        let is : block ≡ first = sym (same_Some first block there) in
        ap (λ b. changed place b ++ slots_of blocks last) is
        ∙ sym (changed-within first (slots_of blocks last) place (omega (arith, whole.0)))
        ∙ ap (λ p. changed p (first ++ slots_of blocks last)) (omega arith)
    changed-laid (first ∷ blocks) last (suc which) place block whole there within =
        ap (λ rest. first ++ rest) (changed-laid blocks last which place block whole.1 there within)
        ∙ sym (changed-after first (slots_of blocks last) (64 * which + place))
        ∙ ap (λ p. changed p (first ++ slots_of blocks last)) (omega (arith, whole.0))

    changed-last : (blocks : List (List (Option R))) (last : List (Option R)) (place : ℕ) →
        AllByRecursion IsBlock blocks →
        slots_of blocks (changed place last) ≡ changed (64 * length blocks + place) (slots_of blocks last)
    changed-last [] last place whole = ap (λ p. changed p last) (omega arith)
    changed-last (first ∷ blocks) last place whole =
        ap (λ rest. first ++ rest) (changed-last blocks last place whole.1)
        ∙ sym (changed-after first (slots_of blocks last) (64 * length blocks + place))
        ∙ ap (λ p. changed p (first ++ slots_of blocks last)) (omega (arith, whole.0))

  emptied_here : (slot : Option R) (slots rest : List (Option R)) →
      empty_slot zero ((slot ∷ slots) ++ rest) ≡ empty_slot zero (slot ∷ slots) ++ rest
  emptied_here slot slots rest = refl

  emptied_later : (place : ℕ) (slot : Option R) (slots : List (Option R)) →
      empty_slot (suc place) (slot ∷ slots) ≡ slot ∷ empty_slot place slots
  emptied_later place slot slots = refl

  pub emptied-laid : (blocks : List (List (Option R))) (last : List (Option R)) (which place : ℕ)
      (block : List (Option R)) → AllByRecursion IsBlock blocks → slice_get blocks which ≡ Some block → place < 64 →
      slots_of (set blocks which (empty_slot place block)) last ≡ empty_slot (64 * which + place) (slots_of blocks last)
  emptied-laid = changed-laid empty_slot emptied_here emptied_later

  pub emptied-last : (blocks : List (List (Option R))) (last : List (Option R)) (place : ℕ) →
      AllByRecursion IsBlock blocks →
      slots_of blocks (empty_slot place last) ≡ empty_slot (64 * length blocks + place) (slots_of blocks last)
  emptied-last = changed-last empty_slot emptied_here emptied_later

  module _ (row : R) where
    replaced_here : (slot : Option R) (slots rest : List (Option R)) →
        replace_row zero row ((slot ∷ slots) ++ rest) ≡ replace_row zero row (slot ∷ slots) ++ rest
    replaced_here None slots rest = refl
    replaced_here (Some first) slots rest = refl

    replaced_later : (place : ℕ) (slot : Option R) (slots : List (Option R)) →
        replace_row (suc place) row (slot ∷ slots) ≡ slot ∷ replace_row place row slots
    replaced_later place slot slots = refl

    pub replaced-laid : (blocks : List (List (Option R))) (last : List (Option R)) (which place : ℕ)
        (block : List (Option R)) → AllByRecursion IsBlock blocks → slice_get blocks which ≡ Some block → place < 64 →
        slots_of (set blocks which (replace_row place row block)) last
        ≡ replace_row (64 * which + place) row (slots_of blocks last)
    replaced-laid = changed-laid (λ place slots. replace_row place row slots) replaced_here replaced_later

    pub replaced-last : (blocks : List (List (Option R))) (last : List (Option R)) (place : ℕ) →
        AllByRecursion IsBlock blocks →
        slots_of blocks (replace_row place row last)
        ≡ replace_row (64 * length blocks + place) row (slots_of blocks last)
    replaced-last = changed-last (λ place slots. replace_row place row slots) replaced_here replaced_later

  -- ---- one more slot, and one more block

  pub laid-push : (blocks : List (List (Option R))) (last : List (Option R)) (slot : Option R) →
      slots_of blocks (last ++ slot ∷ []) ≡ slots_of blocks last ++ slot ∷ []
  laid-push [] last slot = refl
  laid-push (first ∷ blocks) last slot =
      ap (λ rest. first ++ rest) (laid-push blocks last slot)
      ∙ sym (append_assoc first (slots_of blocks last) (slot ∷ []))

  pub laid-settled : (blocks : List (List (Option R))) (block last : List (Option R)) →
      slots_of (blocks ++ block ∷ []) last ≡ slots_of blocks (block ++ last)
  laid-settled [] block last = refl
  laid-settled (first ∷ blocks) block last = ap (λ rest. first ++ rest) (laid-settled blocks block last)

  pub length-laid : (blocks : List (List (Option R))) (last : List (Option R)) → AllByRecursion IsBlock blocks →
      length (slots_of blocks last) ≡ 64 * length blocks + length last
  length-laid [] last whole = omega arith
  length-laid (first ∷ blocks) last whole =
      length-append first (slots_of blocks last)
      ∙ omega (arith, whole.0, length-laid blocks last whole.1)
