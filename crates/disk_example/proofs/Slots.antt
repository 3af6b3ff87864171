-- What a torn write of a slot, or of the byte that names one, stands for.
use Rattle.std.proofs.Common.{◌≡◌, ◌<◌, ◌⊎◌, ◌==◌, inl, inr, ℕ, Bool, true, false, List, length, get_or, take, drop}
use Rattle.std.proofs.Common.{Result, Ok, Err, OnOk, if◌then◌else◌, refl, sym, ◌∙◌, ap, subst, arith}
use Rattle.std.proofs.lemmas.List.{get_or-take, drop-take, drop-drop}
use Rattle.kom_disk.specs.Disk.{IsTorn, ComesBy, Only}
use Rattle.disk_example.specs.Cell.{content_of, other_of, IsEither, IsSettled}

-- the slot of this name
abbrev slot : Bool → List ℕ → List ℕ
slot is_second file = if is_second then take 8 (drop 9 file) else take 8 (drop 1 file)

same_name : (n : ℕ) (image file : List ℕ) → 0 < n → take n image ≡ take n file → get_or image 0 0 ≡ get_or file 0 0
same_name n image file some same =
    sym (get_or-take n image 0 0 some) ∙ ap (λ (l : List ℕ). get_or l 0 0) same ∙ get_or-take n file 0 0 some

module _ (file image : List ℕ) where
  -- a write into the other slot changes neither the name nor the slot
  torn_other : (is_second : Bool) → is_second ≡ (get_or file 0 0 == 1) → IsTorn (if is_second then 1 else 9) 8 file image
      → content_of image ≡ content_of file
  torn_other true named torn =
      let same : get_or image 0 0 ≡ get_or file 0 0 = same_name 1 image file (omega arith) torn.prefix in
      ap (λ (n : ℕ). slot (n == 1) image) same ∙ ap (λ (b : Bool). slot b image) (sym named) ∙ ap (take 8) torn.suffix
      ∙ ap (λ (b : Bool). slot b file) named
  torn_other false named torn =
      let same : get_or image 0 0 ≡ get_or file 0 0 = same_name 9 image file (omega arith) torn.prefix in
      ap (λ (n : ℕ). slot (n == 1) image) same ∙ ap (λ (b : Bool). slot b image) (sym named)
      ∙ sym (drop-take 1 8 image) ∙ ap (drop 1) torn.prefix ∙ drop-take 1 8 file ∙ ap (λ (b : Bool). slot b file) named

  same_slots : drop 1 image ≡ drop 1 file → (b : Bool) → slot b image ≡ slot b file
  same_slots same true = ap (take 8) (sym (drop-drop 8 1 image) ∙ ap (drop 8) same ∙ drop-drop 8 1 file)
  same_slots same false = ap (take 8) same

  either : (b c : Bool) → (slot b file ≡ slot c file)
      ⊎ (slot b file ≡ (if c then take 8 (drop 1 file) else take 8 (drop 9 file)))
  either true true = inl refl
  either true false = inr refl
  either false true = inr refl
  either false false = inl refl

  -- whatever byte a write of the name leaves, it names one of the slots
  torn_name : IsTorn 0 1 file image → IsEither (content_of file) (other_of file) 0 image
  torn_name torn =
      let P : List ℕ → Type 0 = λ (l : List ℕ). (l ≡ content_of file) ⊎ (l ≡ other_of file) in
      subst P (sym (same_slots torn.suffix (get_or image 0 0 == 1)))
      (either (get_or image 0 0 == 1) (get_or file 0 0 == 1))

-- what a stop leaves after a write to a stable file
module _ (file : List ℕ) (old new : List ℕ → Type 0) (stable : Only file old) where
  pub left_of_other : (is_second : Bool) (at : ℕ) (content : List ℕ) → is_second ≡ (get_or file 0 0 == 1)
      → at ≡ (if is_second then 1 else 9) → length content ≡ 8
      → ComesBy (IsTorn at (length content)) old new → (image : List ℕ) → new image → content_of image ≡ content_of file
  left_of_other is_second at content named place long comes image left =
      let from = comes image left in
      let P : ℕ → ℕ → List ℕ → Type 0 = λ at n was. IsTorn at n was image in
      torn_other file image is_second named
      (subst (λ (m : ℕ). P m 8 file) place
      (subst (λ (n : ℕ). P at n file) long (subst (P at (length content)) (stable from.0 from.1) from.2)))

  pub left_of_name : ComesBy (IsTorn 0 1) old new → (image : List ℕ) → new image
      → IsEither (content_of file) (other_of file) 0 image
  left_of_name comes image left =
      let from = comes image left in
      torn_name file image (subst (λ (was : List ℕ). IsTorn 0 1 was image) (stable from.0 from.1) from.2)

-- what a file holds whose other slot was written, and then synced
module _ (file written content : List ℕ) (is_second : Bool) (at : ℕ) (named : is_second ≡ (get_or file 0 0 == 1))
    (place : at ≡ (if is_second then 1 else 9)) (torn : IsTorn at 8 file written)
    (given : take 8 (drop at written) ≡ content) where
  still_named : is_second ≡ (get_or written 0 0 == 1)
  still_named =
      let same : get_or written 0 0 ≡ get_or file 0 0 = same_name at written file (some is_second place) torn.prefix in
      named ∙ ap (λ (n : ℕ). n == 1) (sym same)
    where
      some : (b : Bool) → at ≡ (if b then 1 else 9) → 0 < at
      some true is = omega (arith, is)
      some false is = omega (arith, is)

  other : (b : Bool) → at ≡ (if b then 1 else 9) → b ≡ (get_or written 0 0 == 1) → other_of written ≡ content
  other true is here =
      ap (λ (b : Bool). if b then take 8 (drop 1 written) else take 8 (drop 9 written)) (sym here)
      ∙ ap (λ (n : ℕ). take 8 (drop n written)) (sym is) ∙ given
  other false is here =
      ap (λ (b : Bool). if b then take 8 (drop 1 written) else take 8 (drop 9 written)) (sym here)
      ∙ ap (λ (n : ℕ). take 8 (drop n written)) (sym is) ∙ given

  pub written_other : {E : Type 0} (synced : List ℕ) → synced ≡ written
      → (images : List ℕ → Type 0) (result : Result (Unit {0}) E) → OnOk result (Only synced images)
      → OnOk result
      (IsSettled is_second synced images × (content_of synced ≡ content_of file) × (other_of synced ≡ content))
  written_other synced same images (Err error) stable = tt
  written_other synced same images (Ok done) stable = (
    record { named = still_named ∙ ap (λ (l : List ℕ). get_or l 0 0 == 1) (sym same); stable = stable },
    ap content_of same ∙ torn_other file written is_second named (subst (λ (m : ℕ). IsTorn m 8 file written) place torn),
    ap other_of same ∙ other is_second place still_named,
  )
