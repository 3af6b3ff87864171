-- The steps of a look at a name, letter by letter.
use Rattle.std.proofs.Common.{◌≡◌, ◌≢◌, ℕ, ◌≤◌, ◌⊎◌, Bool, true, false, cond, eqb, ltb, List, [], ◌∷◌, ◌++◌, length}
use Rattle.std.proofs.Common.{take, drop, Option, Some, None, MatchOption, Result, Ok, Err, IfOk, refl, sym, ap, subst}
use Rattle.std.proofs.Common.{◌∙◌, zero, suc, inl, inr, arith, append_assoc, take-append-drop}
use Rattle.std.specs.Option.{option_map_or}
use Rattle.std.proofs.lemmas.Bool.{cases_Bool, eqb-true}
use Rattle.std.proofs.lemmas.List.{take_all}
use Rattle.name_lookup.specs.declared.steps.Step.{Step}
use Rattle.name_lookup.specs.declared.steps.Step.TheVariants.{Found, Seek}
use Rattle.name_lookup.specs.Letters.{after_word, first_word, ends_word, matches}
use Rattle.name_lookup.specs.Steps.{IsStepOf, Passes, Bumps}
use Rattle.name_lookup.proofs.Skips.{Hit, To, Past, over, skip, wrap, bumped, wrap-over, bumped-take}
use Rattle.name_lookup.proofs.Skips.{through_word-ended, through_word-all, tells_found, tells_seek, tells_end}

drop_all : (xs : List ℕ) → drop (length xs) xs ≡ []
drop_all [] = refl
drop_all (x ∷ xs) = drop_all xs

-- what is told of a pattern and a name, by what is left of both after the letters that are the target
abbrev pub Told : List ℕ → List ℕ → ℕ → List ℕ → List ℕ → List ℕ → Type 0
Told pattern name start target rest left =
    skip pattern name ≡ wrap (take start target) (drop start target) (skip rest left)

module _ (pattern name : List ℕ) (start : ℕ) (target : List ℕ) (asked : ℕ) (later left : List ℕ)
    (within : start ≤ length target) (told : Told pattern name start target (asked ∷ later) left) where
  -- a word is passed with its blank
  pub told_word : (rest after : List ℕ) → eqb asked 32 ≡ true → Passes true left rest target after →
      Told pattern name (length after) after later rest
  told_word rest after blank passes =
      let ends : ends_word left ≡ true = sym passes.ends in
      let part = first_word left in
      let here : skip (asked ∷ later) left ≡ over part (skip later (after_word left)) = rw (blank, ends) refl in
      let whole : take start target ++ (drop start target ++ (part ++ 32 ∷ [])) ≡ after =
      sym (append_assoc (take start target) (drop start target) (part ++ 32 ∷ []))
      ∙ ap (λ l. l ++ (part ++ 32 ∷ [])) (take-append-drop start target)
      ∙ ap (λ l. target ++ l) (sym (through_word-ended left ends)) ∙ sym passes.target in
      told ∙ ap (wrap (take start target) (drop start target)) here
      ∙ wrap-over (take start target) (drop start target) part (skip later (after_word left))
      ∙ ap (λ l. wrap l [] (skip later (after_word left))) whole
      ∙ ap (λ l. wrap after [] (skip later l)) (sym passes.letters)
      ∙ ap (λ l. wrap l [] (skip later rest)) (sym (take_all (length after) after (omega arith)))
      ∙ ap (λ l. wrap (take (length after) after) l (skip later rest)) (sym (drop_all after))

  -- the name has ended
  pub told_ended : (rest after : List ℕ) → eqb asked 32 ≡ true → Passes false left rest target after →
      IsStepOf (cond (matches later []) Found Seek) pattern name after
  told_ended rest after blank passes = by (matches later []) refl
    where
      ends : ends_word left ≡ false
      ends = sym passes.ends

      here : skip (asked ∷ later) left ≡ cond (matches later []) Hit (To left)
      here = rw (blank, ends) refl

      whole : take start target ++ (drop start target ++ left) ≡ after
      whole =
          sym (append_assoc (take start target) (drop start target) left)
          ∙ ap (λ l. l ++ left) (take-append-drop start target)
          ∙ ap (λ l. target ++ l) (sym (through_word-all left ends)) ∙ sym passes.target

      by : (all : Bool) → matches later [] ≡ all → IsStepOf (cond all Found Seek) pattern name after
      by true is =
          tells_found pattern name after
          (told ∙ ap (wrap (take start target) (drop start target)) (here ∙ ap (λ b. cond b Hit (To left)) is))
      by false is =
          tells_seek pattern name after
          (told ∙ ap (wrap (take start target) (drop start target)) (here ∙ ap (λ b. cond b Hit (To left)) is)
          ∙ ap To whole)

  -- the name goes on with another letter, or has ended
  other_letter : (letter : Option ℕ) (rest : List ℕ) → eqb asked 32 ≡ false →
      MatchOption letter ((left ≡ []) × (rest ≡ [])) (λ l. left ≡ l ∷ rest) → letter ≢ Some asked →
      skip (asked ∷ later) left
      ≡ cond (option_map_or (ltb asked) letter false) Past (To (first_word (asked ∷ later)))
  other_letter None rest other gives unlike =
      ap (skip (asked ∷ later)) gives.0 ∙ rw other refl
  other_letter (Some letter) rest other gives unlike = by (cases_Bool (eqb letter asked))
    where
      by : (eqb letter asked ≡ true) ⊎ (eqb letter asked ≡ false) → skip (asked ∷ later) left
          ≡ cond (ltb asked letter) Past (To (first_word (asked ∷ later)))
      by (inl is) = absurd (unlike (ap (λ l. Some l) (eqb-true letter asked is)))
      by (inr apart) = ap (skip (asked ∷ later)) gives ∙ rw (other, apart) refl

  pub told_above : (letter : Option ℕ) (rest after : List ℕ) (step : Step) → eqb asked 32 ≡ false →
      MatchOption letter ((left ≡ []) × (rest ≡ [])) (λ l. left ≡ l ∷ rest) → letter ≢ Some asked →
      option_map_or (ltb asked) letter false ≡ true → Bumps start target step after → IsStepOf step pattern name after
  told_above letter rest after step other gives unlike above bumps = by start within past bumps
    where
      past : skip pattern name ≡ bumped (take start target)
      past =
          told ∙ ap (wrap (take start target) (drop start target))
          (other_letter letter rest other gives unlike ∙ ap (λ b. cond b Past (To (first_word (asked ∷ later)))) above)

      by : (at : ℕ) → at ≤ length target → skip pattern name ≡ bumped (take at target) → Bumps at target step after →
          IsStepOf step pattern name after
      by zero le is bumps =
          subst (λ s. IsStepOf s pattern name after) (sym bumps) (tells_end pattern name after is)
      by (suc at) le is bumps =
          subst (λ s. IsStepOf s pattern name after) (sym bumps.0)
          (tells_seek pattern name after (is ∙ bumped-take at target le ∙ ap To (sym bumps.1)))

  pub told_below : (letter : Option ℕ) (rest after : List ℕ) → eqb asked 32 ≡ false →
      MatchOption letter ((left ≡ []) × (rest ≡ [])) (λ l. left ≡ l ∷ rest) → letter ≢ Some asked →
      option_map_or (ltb asked) letter false ≡ false → after ≡ target ++ first_word (asked ∷ later) →
      IsStepOf Seek pattern name after
  told_below letter rest after other gives unlike below is =
      let word = first_word (asked ∷ later) in
      tells_seek pattern name after
      (told ∙ ap (wrap (take start target) (drop start target))
      (other_letter letter rest other gives unlike ∙ ap (λ b. cond b Past (To word)) below)
      ∙ ap To (sym (append_assoc (take start target) (drop start target) word)
      ∙ ap (λ l. l ++ word) (take-append-drop start target) ∙ sym is))

-- the pattern has ended
pub told_found : (pattern name : List ℕ) (start : ℕ) (target rest left : List ℕ) → length rest ≡ 0 →
    Told pattern name start target rest left → matches pattern name ≡ true
told_found pattern name start target [] left none told = tells_found pattern name target told
told_found pattern name start target (letter ∷ rest) left none told = absurd (omega (arith, none))

pub if_ok : {T E : Type 0} (P Q : T → Type 0) (r : Result T E) → ((x : T) → P x → Q x) → IfOk r P → IfOk r Q
if_ok P Q (Ok x) f p = f x p
if_ok P Q (Err e) f p = tt
