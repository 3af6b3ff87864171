-- What stands at a gate, by its byte and the eight bytes after it.
use Rattle.std.proofs.Common.{◌≡◌, ◌<◌, ◌≤◌, ◌+◌, inl, inr, ℕ, Bool, List, [], ◌∷◌, ◌++◌, length, take, drop, get_or}
use Rattle.std.proofs.Common.{suc, refl, sym, ◌∙◌, ap, subst, arith}
use Rattle.std.specs.Prelude.{nat_le, if◌then◌else◌}
use Rattle.std.specs.Int.{w64, from_le_bytes}
use Rattle.std.proofs.lemmas.Bool.Decides.{eqb_tells, leb_tells}
use Rattle.std.proofs.lemmas.List.{length-take-le, length-drop, get_or-drop, drop_more}
use Rattle.batch_log.specs.Batches.{with_length, AreBytes, IsBroken}
use Rattle.batch_log.specs.Walk.{found_by, HasFirst, Stands}
use Rattle.batch_log.specs.declared.walks.Found.{Found}
use Rattle.batch_log.specs.declared.walks.Found.TheVariants.{Batch, End, Broken}
use Rattle.batch_log.proofs.Reading.{sized_is, length_fits}

-- eight numbers after the first, as one
pub size_of : (head : List ℕ)
    → from_le_bytes w64 (get_or head 1 0 ∷ get_or head 2 0 ∷ get_or head 3 0 ∷ get_or head 4 0 ∷ get_or head 5 0
    ∷ get_or head 6 0 ∷ get_or head 7 0 ∷ get_or head 8 0 ∷ []) ≡ from_le_bytes w64 (drop 1 head)
size_of head =
    omega (
      arith,
      get_or-drop 1 head 0 0,
      get_or-drop 1 head 1 0,
      get_or-drop 1 head 2 0,
      get_or-drop 1 head 3 0,
      get_or-drop 1 head 4 0,
      get_or-drop 1 head 5 0,
      get_or-drop 1 head 6 0,
      get_or-drop 1 head 7 0,
    )

module _ (rest more : List ℕ) (gate size : ℕ) (is : rest ≡ gate ∷ more) where
  pub stands_by : (gate ≡ 1 → 9 + size < length rest → HasFirst size rest)
      → (length rest ≤ 9 + size → IsBroken more) → Stands rest (found_by gate size (length rest))
  stands_by whole broken =
      elim (eqb_tells gate 1) [
        | inr shut ↦ subst
            (λ (b : Bool). Stands rest
            (if b then (if nat_le (length rest) (9 + size) then Broken else Batch size) else End gate))
            (sym shut.0) (shut.1, (more, is))
        | inl opens ↦ subst
            (λ (b : Bool). Stands rest
            (if b then (if nat_le (length rest) (9 + size) then Broken else Batch size) else End gate))
            (sym opens.0)
            (elim (leb_tells (length rest) (9 + size)) [
              | inl few ↦ subst (λ (b : Bool). Stands rest (if b then Broken else Batch size)) (sym few.0)
                  (more, is ∙ ap (λ (g : ℕ). g ∷ more) opens.1, broken few.1)
              | inr long ↦ subst (λ (b : Bool). Stands rest (if b then Broken else Batch size)) (sym long.0)
                  (whole opens.1 long.1)
            ])
      ]

  has_first : AreBytes (take 8 more) → size ≡ from_le_bytes w64 (take 8 more) → gate ≡ 1 → 9 + size < length rest
      → HasFirst size rest
  has_first are counts opens long =
      let enough : 8 + size < length more = omega (arith, ap length is, long) in
      let body = take size (drop 8 more) in
      let next : drop (8 + size) more ≡ get_or more (8 + size) 0 ∷ drop (8 + size + 1) more =
      drop_more more (8 + size) 0 enough in
      record {
        body = body;
        gate = get_or more (8 + size) 0;
        after = drop (8 + size + 1) more;
        whole = is ∙ ap (λ (g : ℕ). g ∷ more) opens
            ∙ ap (λ (l : List ℕ). 1 ∷ l)
            (sized_is more size are counts (omega (arith, enough))
            ∙ ap (λ (l : List ℕ). with_length body ++ l) next);
        counts = length-take-le size (drop 8 more) (omega (arith, length-drop 8 more, enough));
        short = omega (arith, counts, length_fits (take 8 more) are);
      }

-- by the one byte that is read where there are fewer than nine
pub stands_short : (rest head : List ℕ) → 0 < length rest → length rest < 9 → head ≡ take 1 rest
    → Stands rest (found_by (get_or head 0 0) 0 (length rest))
stands_short [] head some few is = absurd (omega (arith, some))
stands_short (gate ∷ more) head some few is =
    subst (λ (l : List ℕ). Stands (gate ∷ more) (found_by (get_or l 0 0) 0 (length (gate ∷ more)))) (sym is)
    (stands_by (gate ∷ more) more gate 0 refl (λ opens long. absurd (omega (arith, few, long)))
    (λ ends. inl (omega (arith, few))))

-- by nine
pub stands_whole : (rest head : List ℕ) → 9 ≤ length rest → head ≡ take 9 rest → AreBytes head
    → Stands rest (found_by (get_or head 0 0) (from_le_bytes w64 (drop 1 head)) (length rest))
stands_whole [] head long is are = absurd (omega (arith, long))
stands_whole (gate ∷ more) head long is are =
    let P : List ℕ → Type 0 = λ l. AreBytes l
    → Stands (gate ∷ more) (found_by (get_or l 0 0) (from_le_bytes w64 (drop 1 l)) (length (gate ∷ more))) in
    subst P (sym is)
    (λ bytes. stands_by (gate ∷ more) more gate (from_le_bytes w64 (take 8 more)) refl
    (has_first (gate ∷ more) more gate (from_le_bytes w64 (take 8 more)) refl (λ i. bytes (suc i)) refl)
    (λ ends. inr (omega (arith, ends)))) are

-- what stands there, with so many bytes from the gate on
pub found_short : (rest head : List ℕ) (left : ℕ) (found : Found) → length rest ≡ left → 0 < left → left < 9
    → head ≡ take 1 rest → found ≡ found_by (get_or head 0 0) 0 left → Stands rest found
found_short rest head left found counts some few is by =
    subst (Stands rest) (sym by)
    (subst (λ (n : ℕ). Stands rest (found_by (get_or head 0 0) 0 n)) counts
    (stands_short rest head (omega (arith, counts, some)) (omega (arith, counts, few)) is))

pub found_whole : (rest head : List ℕ) (left size : ℕ) (found : Found) → length rest ≡ left → 9 ≤ left
    → head ≡ take 9 rest → AreBytes head → size ≡ from_le_bytes w64 (drop 1 head)
    → found ≡ found_by (get_or head 0 0) size left → Stands rest found
found_whole rest head left size found counts long is are sized by =
    subst (Stands rest) (sym by)
    (subst (λ (m : ℕ). Stands rest (found_by (get_or head 0 0) m left)) (sym sized)
    (subst (λ (n : ℕ). Stands rest (found_by (get_or head 0 0) (from_le_bytes w64 (drop 1 head)) n)) counts
    (stands_whole rest head (omega (arith, counts, long)) is are)))

head_is : (head : List ℕ) → 0 < length head → head ≡ get_or head 0 0 ∷ drop 1 head
head_is [] some = absurd (omega (arith, some))
head_is (gate ∷ more) some = refl

-- a gate with no byte after it tells no length
pub no_size : (head : List ℕ) → length head ≡ 1 → 0 ≡ from_le_bytes w64 (drop 1 head)
no_size [] one = absurd (omega (arith, one))
no_size (gate ∷ []) one = refl
no_size (gate ∷ (next ∷ more)) one = absurd (omega (arith, one))

-- it is by the gate and the length that the read told
pub found_told : (place size left : ℕ) (old new : List (ℕ × List ℕ)) (head : List ℕ) (found : Found)
    → 0 < length head → new ≡ old ++ (place, head) ∷ [] → size ≡ from_le_bytes w64 (drop 1 head)
    → found ≡ found_by (get_or head 0 0) size left
    → (gate : ℕ) × (bytes : List ℕ) × (new ≡ old ++ (place, gate ∷ bytes) ∷ [])
    × (found ≡ found_by gate (from_le_bytes w64 bytes) left)
found_told place size left old new head found some told sized by = (
  get_or head 0 0,
  drop 1 head,
  told ∙ ap (λ (l : List ℕ). old ++ (place, l) ∷ []) (head_is head some),
  by ∙ ap (λ (n : ℕ). found_by (get_or head 0 0) n left) sized,
)
