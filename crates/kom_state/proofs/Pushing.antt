-- Values that are pushed one for each element of a list.
use Rattle.std.proofs.Common.{◌≡◌, ℕ, ◌+◌, ◌<◌, Bool, true, false, cond, List, [], ◌∷◌, ◌++◌, length, map, filter, take}
use Rattle.std.proofs.Common.{get_or, Some, None, sym, ap, ◌∙◌, inl, inr, ◌≤◌, arith}
use Rattle.std.specs.List.{slice_get}
use Rattle.std.proofs.lemmas.List.{take_more, take_all, map-append, append_assoc, append-nil}
use Rattle.std.proofs.lemmas.List.Elements.{filter-append}
use Rattle.std.proofs.lemmas.Option.{none-some, slice_get_within, slice_get_cases, slice_get-get_or}
use Rattle.std.proofs.lemmas.Option.{get_or_from_slice_get}

module _ {X Y : Type 0} (make : X → Y) (old : List Y) (xs : List X) where
  -- one more of them
  pub pushed : (place : ℕ) (x : X) (now new : List Y) → slice_get xs place ≡ Some x →
      now ≡ old ++ map make (take place xs) → new ≡ now ++ make x ∷ [] →
      new ≡ old ++ map make (take (place + 1) xs)
  pushed place x now new here is push =
      let more : take (place + 1) xs ≡ take place xs ++ x ∷ [] =
      take_more xs place x (slice_get_within xs place x here)
      ∙ ap (λ one. take place xs ++ one ∷ []) (get_or_from_slice_get xs place x x here) in
      push ∙ ap (λ l. l ++ make x ∷ []) is
      ∙ append_assoc old (map make (take place xs)) (make x ∷ [])
      ∙ ap (λ l. old ++ l) (sym (map-append make (take place xs) (x ∷ [])) ∙ ap (map make) (sym more))

  pub pushed-item : (place : ℕ) (x : X) (now new : List Y) → place < length xs → x ≡ get_or xs place x →
      now ≡ old ++ map make (take place xs) → new ≡ now ++ make x ∷ [] →
      new ≡ old ++ map make (take (place + 1) xs)
  pushed-item place x now new inside item is push =
      pushed place x now new (slice_get-get_or xs place x inside ∙ ap Some (sym item)) is push

  pub pushed-none : old ≡ old ++ map make (take 0 xs)
  pushed-none = sym (append-nil old)

  -- all of them
  pub pushed-all : (place : ℕ) (now : List Y) → length xs ≤ place → now ≡ old ++ map make (take place xs) →
      now ≡ old ++ map make xs
  pushed-all place now past is = is ∙ ap (λ l. old ++ map make l) (take_all place xs past)

  -- no place within the list is empty
  pub pushed-past : (place : ℕ) → place < length xs → slice_get xs place ≡ None → ⊥
  pushed-past place inside none =
      elim (slice_get_cases xs place).1 [
        | inl found ↦ none-some found.0 (sym none ∙ found.2)
        | inr past ↦ let le : length xs ≤ place = past.0 in omega arith
      ]

module _ {X Y : Type 0} (test : X → Bool) (make : X → Y) (old : List Y) (xs : List X) where
  -- what is pushed for those of the first elements that pass the test
  abbrev pub pushed_to : ℕ → List Y
  pushed_to place = old ++ map make (filter test (take place xs))

  module _ (place : ℕ) (x : X) (inside : place < length xs) (is : x ≡ get_or xs place x) where
    more : filter test (take (place + 1) xs) ≡ filter test (take place xs) ++ filter test (x ∷ [])
    more =
        ap (filter test) (take_more xs place x inside ∙ ap (λ one. take place xs ++ one ∷ []) (sym is))
        ∙ filter-append test (take place xs) (x ∷ [])

    -- one more of them passes
    pub pushed-kept : test x ≡ true → (now new : List Y) → now ≡ pushed_to place → new ≡ now ++ make x ∷ [] →
        new ≡ pushed_to (place + 1)
    pushed-kept kept now new was push =
        let last : filter test (x ∷ []) ≡ x ∷ [] = ap (λ b. cond b (x ∷ []) []) kept in
        push ∙ ap (λ l. l ++ make x ∷ []) was
        ∙ append_assoc old (map make (filter test (take place xs))) (make x ∷ [])
        ∙ ap (λ l. old ++ l) (sym (map-append make (filter test (take place xs)) (x ∷ []))
        ∙ ap (map make) (sym (more ∙ ap (λ l. filter test (take place xs) ++ l) last)))

    -- one more does not
    pub pushed-left : test x ≡ false → (now : List Y) → now ≡ pushed_to place → now ≡ pushed_to (place + 1)
    pushed-left left now was =
        let last : filter test (x ∷ []) ≡ [] = ap (λ b. cond b (x ∷ []) []) left in
        was ∙ ap (λ l. old ++ map make l)
        (sym (more ∙ ap (λ l. filter test (take place xs) ++ l) last ∙ append-nil (filter test (take place xs))))
