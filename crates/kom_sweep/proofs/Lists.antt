-- Lists that grow at their end.
use Rattle.std.proofs.Common.{◌≡◌, ℕ, ◌+◌, ◌<◌, ◌-◌, List, [], ◌∷◌, ◌++◌, map, take}
use Rattle.std.proofs.Common.{length, get_or, sym, ap, ◌∙◌}
use Rattle.std.proofs.Common.{Option}
use Rattle.std.specs.Prelude.{filter_map}
use Rattle.std.specs.List.{AllByRecursion}
use Rattle.std.proofs.lemmas.List.{map-append, take_more}
use Rattle.std.proofs.lemmas.List.Elements.{filter_map-append}

pub all_on : {X : Type 0} (P : X → Type 0) (xs ys : List X) → AllByRecursion P xs → AllByRecursion P ys →
    AllByRecursion P (xs ++ ys)
all_on P [] ys one two = two
all_on P (x ∷ xs) ys one two = (one.0, all_on P xs ys one.1 two)

-- one number more
pub names_more : {X : Type 0} (numbers : List ℕ) (i d : ℕ) (xs : List (ℕ × X)) (x : X) → i < length numbers →
    map (λ one. one.0) xs ≡ take i numbers →
    map (λ one. one.0) (xs ++ (get_or numbers i d, x) ∷ []) ≡ take (i + 1) numbers
names_more {X} numbers i d xs x less before =
    map-append (λ (one : ℕ × X). one.0) xs ((get_or numbers i d, x) ∷ [])
    ∙ ap (λ (all : List ℕ). all ++ get_or numbers i d ∷ []) before ∙ sym (take_more numbers i d less)

-- the numbers that one element more names
pub named_more : {X Y : Type 0} (f : Y → Option ℕ) (ys : List Y) (i : ℕ) (d : Y) (xs more : List (ℕ × X)) →
    i < length ys → map (λ one. one.0) xs ≡ filter_map f (take i ys) →
    map (λ one. one.0) more ≡ filter_map f (get_or ys i d ∷ []) →
    map (λ one. one.0) (xs ++ more) ≡ filter_map f (take (i + 1) ys)
named_more {X} {Y} f ys i d xs more less before one =
    map-append (λ (one : ℕ × X). one.0) xs more
    ∙ ap (λ (all : List ℕ). all ++ map (λ (one : ℕ × X). one.0) more) before
    ∙ ap (λ (all : List ℕ). filter_map f (take i ys) ++ all) one
    ∙ sym (filter_map-append f (take i ys) (get_or ys i d ∷ []))
    ∙ ap (filter_map f) (sym (take_more ys i d less))
