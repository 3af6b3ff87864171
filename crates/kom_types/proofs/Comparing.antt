-- A derived `==` at an enum holds of equal values alone, where that of the fields of each variant does.
use Rattle.std.proofs.Common.{◌≡◌, refl, sym, ap, subst, Bool, true, false, ◌&&◌, true≢false, ◌==◌, ℕ, zero, suc}
use Rattle.std.specs.Bool.{Decides}
use Rattle.std.specs.Cmp.{booleans_Decides}
use Rattle.std.proofs.lemmas.Bool.{and_parts}
use Rattle.std.proofs.lemmas.Bool.Decides.{Decides-eqb}
use Rattle.std.proofs.lemmas.Slice.Eq.{slice_eq-Decides}
use Rattle.std.specs.Cmp.Lexicographic.{pointwise}
use mathlib.Core.Bool.{beq}
use mathlib.Core.Logic.{◌⊎◌, inl, inr}
use mathlib.Core.List.{List, [], ◌∷◌}
use denote.Struct.Field.{Field}
use denote.Struct.Record as Struct
use denote.Struct.Values.{Values}
use denote.Enum.Declared.{Record, Choice, values_one}
use denote.Enum.Compared.{Each, by}

-- a test holds of two values where they are equal, and nowhere else
pub record Compares {A : Type 0} (r : Bool) (x y : A) : Type 0 where
  pub decides : Decides r (x ≡ y)

-- `==` at the fields of each variant says whether these are equal
abbrev pub Exact : (Fss : List (List Field)) → Each Bool Fss → Type 0
Exact [] each = Unit {0}
Exact (Fs ∷ Fss) each = ((x y : Values Fs) → Compares (each.0 x y) x y) × Exact Fss each.1

-- the first variants, and the others, so that each part is shown by itself
abbrev firsts : ℕ → List (List Field) → List (List Field)
firsts zero Fss = []
firsts (suc n) [] = []
firsts (suc n) (Fs ∷ Fss) = Fs ∷ firsts n Fss

abbrev others : ℕ → List (List Field) → List (List Field)
others zero Fss = Fss
others (suc n) [] = []
others (suc n) (Fs ∷ Fss) = others n Fss

abbrev first_each : (n : ℕ) (Fss : List (List Field)) → Each Bool Fss → Each Bool (firsts n Fss)
first_each zero Fss each = tt
first_each (suc n) [] each = tt
first_each (suc n) (Fs ∷ Fss) each = (each.0, first_each n Fss each.1)

abbrev other_each : (n : ℕ) (Fss : List (List Field)) → Each Bool Fss → Each Bool (others n Fss)
other_each zero Fss each = each
other_each (suc n) [] each = tt
other_each (suc n) (Fs ∷ Fss) each = other_each n Fss each.1

after-exact : (n : ℕ) (Fss : List (List Field)) (each : Each Bool Fss) →
    Exact (firsts n Fss) (first_each n Fss each) → Exact (others n Fss) (other_each n Fss each) → Exact Fss each
after-exact zero Fss each one other = other
after-exact (suc n) [] each one other = tt
after-exact (suc n) (Fs ∷ Fss) each one other = (one.0, after-exact n Fss each.1 one.1 other)

pub record IsExact (Fss : List (List Field)) (each : Each Bool Fss) : Type 0 where
  pub exact : Exact Fss each

pub all : {Fss : List (List Field)} {each : Each Bool Fss} → Exact Fss each → IsExact Fss each
all exact = record { exact = exact }

pub after : (n : ℕ) {Fss : List (List Field)} {each : Each Bool Fss} →
    Exact (firsts n Fss) (first_each n Fss each) → IsExact (others n Fss) (other_each n Fss each) → IsExact Fss each
after n {Fss = Fss} {each = each} one other = record { exact = after-exact n Fss each one other.exact }

abbrev IsLeft : {A B : Type 0} → A ⊎ B → Type 0
IsLeft (inl x) = Unit {0}
IsLeft (inr y) = ⊥

abbrev left : {A B : Type 0} → A → A ⊎ B → A
left a (inl x) = x
left a (inr y) = a

abbrev right : {A B : Type 0} → B → A ⊎ B → B
right b (inl x) = b
right b (inr y) = y

choice-exact : (Fss : List (List Field)) (each : Each Bool Fss) → Exact Fss each → (c d : Choice Fss) →
    Decides (by false false Fss each c d) (c ≡ d)
choice-exact [] each exact c d = absurd c
choice-exact (Fs ∷ Fss) each exact (inl x) (inl y) =
    (λ is. ap inl ((exact.0 x y).decides.0 is), λ same. (exact.0 x y).decides.1 (ap (left x) same))
choice-exact (Fs ∷ Fss) each exact (inr c) (inr d) =
    let other = choice-exact Fss each.1 exact.1 c d in
    (λ is. ap inr (other.0 is), λ same. other.1 (ap (right c) same))
choice-exact (Fs ∷ Fss) each exact (inl x) (inr d) =
    (λ is. absurd (true≢false (sym is)), λ same. absurd (subst IsLeft same tt))
choice-exact (Fs ∷ Fss) each exact (inr c) (inl y) =
    (λ is. absurd (true≢false (sym is)), λ same. absurd (subst IsLeft (sym same) tt))

pub of_enum : (N : Record) (each : Each Bool N.parts) → IsExact N.parts each → (x y : N.D) →
    Compares (by false false N.parts each (N.as_values x) (N.as_values y)) x y
of_enum N each all x y =
    let choice = choice-exact N.parts each all.exact (N.as_values x) (N.as_values y) in
    record { decides = (λ is. values_one N x y (choice.0 is), λ same. choice.1 (ap N.as_values same)) }

both : (r s : Bool) → r ≡ true → s ≡ true → (r && s) ≡ true
both true true one two = refl
both true false one two = two
both false s one two = one

same-pair : {A B : Type 0} (x y : A × B) → x.0 ≡ y.0 → x.1 ≡ y.1 → x ≡ y
same-pair (a, b) (c, d) one two = cc

-- no field; the last field; a field before others
pub none : (x y : Unit {0}) → Compares true x y
none x y = record { decides = (λ is. refl, λ same. refl) }

pub last : {A : Type 0} (x y : A × Unit {0}) (r : Bool) → Compares r x.0 y.0 → Compares r x y
last x y r one = record {
  decides = (λ is. same-pair x y (one.decides.0 is) refl, λ same. one.decides.1 (ap (λ p. p.0) same));
}

pub before : {A B : Type 0} (x y : A × B) (r s : Bool) → Compares r x.0 y.0 → Compares s x.1 y.1 → Compares (r && s) x y
before x y r s one two = record {
  decides = (
    λ is. same-pair x y (one.decides.0 (and_parts r s is).0) (two.decides.0 (and_parts r s is).1),
    λ same. both r s (one.decides.1 (ap (λ p. p.0) same)) (two.decides.1 (ap (λ p. p.1) same)),
  );
}

pub number : (x y : ℕ) → Compares (x == y) x y
number x y = record { decides = Decides-eqb x y }

pub list : {A : Type 0} (E : A → A → Bool) → ((x y : A) → Compares (E x y) x y) → (xs ys : List A) →
    Compares (pointwise E xs ys) xs ys
list E each xs ys = record { decides = slice_eq-Decides (λ a b. (each a b).decides) xs ys _ refl }

pub flag : (x y : Bool) → Compares (beq x y) x y
flag x y = record { decides = booleans_Decides x y }

-- a struct is equal where its fields are
pub of_struct : (N : Struct.Record) → Struct.Propositions N → (x y : N.D) (r : Bool) →
    Compares r (N.as_values x) (N.as_values y) → Compares r x y
of_struct N propositions x y r one = record {
  decides = (
    λ is. Struct.values_one N propositions x y (one.decides.0 is),
    λ same. one.decides.1 (ap N.as_values same),
  );
}
