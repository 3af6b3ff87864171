-- Beginnings of a history.
use Rattle.std.proofs.Common.{◌≡◌, ◌≤◌, Bool, true, false, leb, List, [], ◌∷◌, ◌++◌, length, sym, refl, ap, ◌∙◌, arith}
use Rattle.std.proofs.Common.{append-nil, append_assoc, length-append, if◌then◌else◌}
use Rattle.std.proofs.lemmas.Bool.Decides.{nat_tests}
use mathlib.Core.List.{IsPrefix}
use Rattle.kom_state_lock.specs.Views.{longer}

module _ {A : Type 0} where
  pub begins_itself : (xs : List A) → IsPrefix xs xs
  begins_itself xs = ([], append-nil xs)

  pub begins_more : (xs ys : List A) → IsPrefix xs (xs ++ ys)
  begins_more xs ys = (ys, refl)

  pub begins_through : (xs ys zs : List A) → IsPrefix xs ys → IsPrefix ys zs → IsPrefix xs zs
  begins_through xs ys zs p q = (p.0 ++ q.0, sym (append_assoc xs p.0 q.0) ∙ (ap (λ w. w ++ q.0) p.1 ∙ q.1))

  no_rest : (xs ys rest : List A) → xs ++ rest ≡ ys → length ys ≤ length xs → xs ≡ ys
  no_rest xs ys [] e short = sym (append-nil xs) ∙ e
  no_rest xs ys (x ∷ rest) e short = absurd (omega (arith, ap length e, length-append xs (x ∷ rest)))

  -- a beginning that is as long as the whole is the whole
  pub begins_whole : (xs ys : List A) → IsPrefix xs ys → length ys ≤ length xs → xs ≡ ys
  begins_whole xs ys p short = no_rest xs ys p.0 p.1 short

  longer_by : (xs ys : List A) (b : Bool) (P : List A → Type 0) → (leb (length xs) (length ys) ≡ b)
      → (leb (length xs) (length ys) ≡ true → P ys) → (leb (length xs) (length ys) ≡ false → P xs)
      → P (if b then ys else xs)
  longer_by xs ys true P e above below = above e
  longer_by xs ys false P e above below = below e

  pub longer_begins : (xs ys all : List A) → IsPrefix xs all → IsPrefix ys all → IsPrefix (longer xs ys) all
  longer_begins xs ys all p q = longer_by xs ys (leb (length xs) (length ys)) (λ zs. IsPrefix zs all) refl (λ _. q)
      (λ _. p)

  pub longer_first : (xs ys all : List A) → xs ≡ all → IsPrefix ys all → longer xs ys ≡ all
  longer_first xs ys all e q = longer_by xs ys (leb (length xs) (length ys)) (λ zs. zs ≡ all) refl
      (λ is. let le : length xs ≤ length ys = grind (arith, nat_tests) in
      begins_whole ys all q (omega (arith, ap length e)))
      (λ is. e)

  pub longer_second : (xs ys all : List A) → IsPrefix xs all → ys ≡ all → longer xs ys ≡ all
  longer_second xs ys all p e = longer_by xs ys (leb (length xs) (length ys)) (λ zs. zs ≡ all) refl
      (λ is. e)
      (λ is. let less : length ys ≤ length xs = grind (arith, nat_tests) in
      begins_whole xs all p (omega (arith, ap length e)))
