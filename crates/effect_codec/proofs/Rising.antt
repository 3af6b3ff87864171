-- Ranges that are tried as they come.
use Rattle.std.proofs.Common.{◌≡◌, ℕ, suc, ◌+◌, ◌-◌, ◌*◌, ◌<◌, ◌≤◌, Bool, true, ◌&&◌, List, drop}
use Rattle.std.proofs.Common.{ap, sym, ◌∙◌, arith, ltb, leb}
use Rattle.std.specs.Int.{w32, from_le_bytes}
use Rattle.std.proofs.lemmas.List.{drop-drop}
use Rattle.read_ranges.specs.Changed.{rise_after}
use Rattle.effect_codec.specs.Fields.{ranges_of}

-- what is left of ranges, from one of them on
abbrev pub left_rise : ℕ → ℕ → ℕ → List ℕ → Bool
left_rise many place end bytes = rise_after end (ranges_of (many - place) (drop (8 * place) bytes))

module _ (many place end first last : ℕ) (bytes : List ℕ) (more : place < many)
    (first_is : first ≡ from_le_bytes w32 (drop (8 * place) bytes))
    (last_is : last ≡ from_le_bytes w32 (drop 4 (drop (8 * place) bytes))) where
  -- the first of them rises, and the others after it
  rises_on : left_rise many place end bytes
      ≡ (ltb end first && leb first last && left_rise many (place + 1) last bytes)
  rises_on =
      let count : many - place ≡ suc (many - (place + 1)) = omega (arith, more) in
      let places : 8 * place + 8 ≡ 8 * (place + 1) = omega arith in
      let here : List ℕ = drop (8 * place) bytes in
      let next : drop 8 here ≡ drop (8 * (place + 1)) bytes =
      drop-drop 8 (8 * place) bytes ∙ ap (λ (n : ℕ). drop n bytes) places in
      let others : ℕ → List ℕ → Bool = λ n l. rise_after n (ranges_of (many - (place + 1)) l) in
      let own_first : ℕ = from_le_bytes w32 here in
      let own_last : ℕ = from_le_bytes w32 (drop 4 here) in
      ap (λ (n : ℕ). rise_after end (ranges_of n here)) count
      ∙ ap (λ (l : List ℕ). ltb end own_first && leb own_first own_last && others own_last l) next
      ∙ ap (λ (n : ℕ). ltb end n && leb n own_last && others own_last (drop (8 * (place + 1)) bytes)) (sym first_is)
      ∙ ap (λ (n : ℕ). ltb end first && leb first n && others n (drop (8 * (place + 1)) bytes)) (sym last_is)

  -- the first of them is tried
  pub tried : (test : Bool) → (ltb end first && leb first last) ≡ test
      → left_rise many place end bytes ≡ (test && left_rise many (place + 1) last bytes)
  tried test is = rises_on ∙ ap (λ (b : Bool). b && left_rise many (place + 1) last bytes) is

-- none of them is left
pub none_left : (many place end : ℕ) (bytes : List ℕ) → many ≤ place → left_rise many place end bytes ≡ true
none_left many place end bytes all =
    let none : many - place ≡ 0 = omega (arith, all) in
    ap (λ (n : ℕ). rise_after end (ranges_of n (drop (8 * place) bytes))) none
