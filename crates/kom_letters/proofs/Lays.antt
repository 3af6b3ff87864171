-- What holds of the lines of any text.
use Rattle.std.proofs.Common.{◌≡◌, ◌≢◌, ℕ, ◌+◌, ◌-◌, ◌%◌, ◌≤◌, Bool, true, false, not, ◌&&◌, ◌||◌, ◌==◌, nat_le, cond}
use Rattle.std.proofs.Common.{List, [], ◌∷◌, ◌++◌}
use Rattle.std.proofs.Common.{slice_index, replicate, All, IsTrue, refl, sym, ap, ◌∙◌, arith}
use Rattle.std.proofs.lemmas.Bool.{and_parts}
use Rattle.std.proofs.lemmas.Bool.Decides.{nat_tests}
use Rattle.std.proofs.lemmas.List.Elements.{All-nil, All-cons, All-head, All-tail, All-append, All-replicate}
use Rattle.unicode_width.specs.Width.{char_width}
use Rattle.unicode_width.proofs.Rules.{width_or_zero-le}
use Rattle.kom_letters.specs.Kinds.{is_plain, shown_letter, columns_of}
use Rattle.kom_letters.specs.Spacing.{piece_of, shown_letters}
use Rattle.kom_letters.specs.Lines.{column_after, cursor, StaysWithin, StandsBehindBlanks, is_shown}
use Rattle.kom_letters.specs.Lines.{visible_letters, word_fits, kept_behind, fits, as_laid, lay_out}

pub blank_columns : columns_of 32 ≡ 1
unfolding columns_of char_width
blank_columns = refl

pub columns_of_le : (c : ℕ) → columns_of c ≤ 3
unfolding columns_of
columns_of_le c = grind (arith, nat_tests, width_or_zero-le false c)

-- the cases of what a letter becomes
placed_cases : (columns at c : ℕ) (rest : List ℕ) (P : List ℕ → Type 0) → (c ≡ 10 → P (10 ∷ 32 ∷ []))
    → (c ≢ 10 → at + columns_of c ≤ columns → P (c ∷ [])) → (c ≡ 32 → P (10 ∷ 32 ∷ []))
    → (c ≢ 10 → P (10 ∷ 32 ∷ c ∷ [])) → P (as_laid columns at c rest)
unfolding as_laid
placed_cases columns at c rest P feed same blank cut =
    elim (c == 10) as
    (λ b. (c == 10) ≡ b → P (cond b (10 ∷ 32 ∷ []) (cond (fits columns at c rest) (c ∷ [])
    (cond (c == 32) (10 ∷ 32 ∷ []) (10 ∷ 32 ∷ c ∷ []))))) [
      | true ↦ λ e. let is : c ≡ 10 = grind (arith, nat_tests) in feed is
      | false ↦ λ e. let no : c ≢ 10 = grind (arith, nat_tests) in
          elim (fits columns at c rest) as
          (λ b. fits columns at c rest ≡ b → P (cond b (c ∷ []) (cond (c == 32) (10 ∷ 32 ∷ []) (10 ∷ 32 ∷ c ∷ [])))) [
            | true ↦ λ fit. same no (fits_narrow columns at c rest fit)
            | false ↦ λ fit. elim (c == 32) as (λ b. (c == 32) ≡ b → P (cond b (10 ∷ 32 ∷ []) (10 ∷ 32 ∷ c ∷ []))) [
              | true ↦ λ is_blank. let is : c ≡ 32 = grind (arith, nat_tests) in blank is
              | false ↦ λ other. cut no
            ] refl
          ] refl
    ] refl
  where
    fits_narrow : (columns at c : ℕ) (rest : List ℕ) → fits columns at c rest ≡ true → at + columns_of c ≤ columns
    fits_narrow columns at c rest fit =
        let both = and_parts (nat_le (at + columns_of c + kept_behind rest) columns)
        (not (c == 32) || word_fits (columns - at - 1) rest) fit in
        let narrow : at + columns_of c + kept_behind rest ≤ columns = grind (arith, nat_tests, both.0) in
        omega arith

moved_within : (columns at c : ℕ) → at + columns_of c ≤ columns → column_after at c ≤ columns
moved_within columns at c narrow = grind (arith, nat_tests)

-- no line is wider than the columns
pub laid_within : (columns at : ℕ) (cs : List ℕ) → 20 ≤ columns → at ≤ columns →
    StaysWithin columns at (lay_out columns at cs)
laid_within columns at [] wide within = within
laid_within columns at (c ∷ cs) wide within =
    let first : 0 + columns_of 32 ≤ columns = omega (arith, blank_columns) in
    let second : (0 + columns_of 32) + columns_of c ≤ columns = omega (arith, blank_columns, columns_of_le c) in
    placed_cases columns at c cs
    (λ (here : List ℕ). StaysWithin columns at (here ++ lay_out columns (cursor at here) cs))
    (λ is. (within, (omega arith, laid_within columns (0 + columns_of 32) cs wide first)))
    (λ no narrow. (within, laid_within columns (column_after at c) cs wide (moved_within columns at c narrow)))
    (λ is. (within, (omega arith, laid_within columns (0 + columns_of 32) cs wide first)))
    (λ no. (
      within,
      (
        omega arith,
        (
          first,
          laid_within columns (column_after (0 + columns_of 32) c) cs wide
              (moved_within columns (0 + columns_of 32) c second),
        ),
      ),
    ))

-- behind each line feed stands a blank
pub not_blank : ◌≡◌ {A = ℕ} 32 10 → ⊥
not_blank e = omega arith

pub laid_blanks : (columns at : ℕ) (cs : List ℕ) → StandsBehindBlanks (lay_out columns at cs)
laid_blanks columns at [] = tt
laid_blanks columns at (c ∷ cs) =
    placed_cases columns at c cs (λ (here : List ℕ). StandsBehindBlanks (here ++ lay_out columns (cursor at here) cs))
    (λ is. (λ feed. refl, (λ e. absurd (not_blank e), laid_blanks columns (0 + columns_of 32) cs)))
    (λ no narrow. (λ is. absurd (no is), laid_blanks columns (column_after at c) cs))
    (λ is. (λ feed. refl, (λ e. absurd (not_blank e), laid_blanks columns (0 + columns_of 32) cs)))
    (λ no. (
      λ feed. refl,
      (
        λ e. absurd (not_blank e),
        (λ is. absurd (no is), laid_blanks columns (column_after (0 + columns_of 32) c) cs),
      ),
    ))

-- what is seen of a text stays
feed_unseen : (c : ℕ) (cs : List ℕ) → c ≡ 10 → visible_letters cs ≡ visible_letters (c ∷ cs)
feed_unseen c cs is = sym (ap (λ (d : ℕ). visible_letters (d ∷ cs)) is)

blank_unseen : (c : ℕ) (cs : List ℕ) → c ≡ 32 → visible_letters cs ≡ visible_letters (c ∷ cs)
blank_unseen c cs is = sym (ap (λ (d : ℕ). visible_letters (d ∷ cs)) is)

with_letter : (c : ℕ) (xs ys : List ℕ) → visible_letters xs ≡ visible_letters ys →
    visible_letters (c ∷ xs) ≡ visible_letters (c ∷ ys)
with_letter c xs ys same = ap (λ (zs : List ℕ). cond (not ((c == 32) || (c == 10))) (c ∷ zs) zs) same

pub laid_seen : (columns at : ℕ) (cs : List ℕ) → visible_letters (lay_out columns at cs) ≡ visible_letters cs
laid_seen columns at [] = refl
laid_seen columns at (c ∷ cs) =
    placed_cases columns at c cs
    (λ (here : List ℕ). visible_letters (here ++ lay_out columns (cursor at here) cs) ≡ visible_letters (c ∷ cs))
    (λ is. laid_seen columns (0 + columns_of 32) cs ∙ feed_unseen c cs is)
    (λ no narrow. with_letter c (lay_out columns (column_after at c) cs) cs (laid_seen columns (column_after at c) cs))
    (λ is. laid_seen columns (0 + columns_of 32) cs ∙ blank_unseen c cs is)
    (λ no. with_letter c (lay_out columns (column_after (0 + columns_of 32) c) cs) cs
    (laid_seen columns (column_after (0 + columns_of 32) c) cs))

-- letters of the allowed kinds alone
abbrev pub Shown : ℕ → Type 0
Shown c = IsTrue (is_shown c)

feed_shown : Shown 10
unfolding is_plain
feed_shown = refl

pub blank_shown : Shown 32
unfolding is_plain
blank_shown = refl

plain_shown : (c : ℕ) → is_plain c ≡ true → Shown c
plain_shown c is = ap (λ (b : Bool). b || (c == 10)) is

question_plain : is_plain 63 ≡ true
unfolding is_plain
question_plain = refl

-- what is shown of any letter is plain
pub shown_letter_plain : (c : ℕ) → is_plain (shown_letter c) ≡ true
shown_letter_plain c = elim (is_plain c) as (λ b. is_plain c ≡ b → is_plain (cond b c 63) ≡ true) [
  | true ↦ λ e. e
  | false ↦ λ e. question_plain
] refl

piece_shown : (at c : ℕ) (rest : List ℕ) → All Shown (piece_of at c rest).0
unfolding piece_of
piece_shown at c rest =
    elim (c == 9) as
    (λ b. All Shown (cond {A = List ℕ × ℕ} b (replicate (8 - at) 32, 0) (cond {A = List ℕ × ℕ} (c == 10) (10 ∷ [], 0)
    (cond {A = List ℕ × ℕ} ((c == 13) && (slice_index rest 0 == 10)) ([], at)
    (shown_letter c ∷ [], (at + columns_of (shown_letter c)) % 8)))).0) [
      | true ↦ All-replicate Shown (8 - at) 32 blank_shown
      | false ↦ elim (c == 10) as
          (λ b. All Shown (cond {A = List ℕ × ℕ} b (10 ∷ [], 0)
          (cond {A = List ℕ × ℕ} ((c == 13) && (slice_index rest 0 == 10)) ([], at)
          (shown_letter c ∷ [], (at + columns_of (shown_letter c)) % 8))).0) [
            | true ↦ All-cons Shown 10 [] feed_shown (All-nil Shown)
            | false ↦ elim ((c == 13) && (slice_index rest 0 == 10)) as
                (λ b. All Shown (cond {A = List ℕ × ℕ} b ([], at)
                (shown_letter c ∷ [], (at + columns_of (shown_letter c)) % 8)).0) [
                  | true ↦ All-nil Shown
                  | false ↦ All-cons Shown (shown_letter c) [] (plain_shown (shown_letter c) (shown_letter_plain c))
                      (All-nil Shown)
                ]
          ]
    ]

pub spaced_shown : (at : ℕ) (cs : List ℕ) → All Shown (shown_letters at cs)
spaced_shown at [] = All-nil Shown
spaced_shown at (c ∷ cs) =
    All-append Shown (piece_of at c cs).0 (shown_letters (piece_of at c cs).1 cs) (piece_shown at c cs)
    (spaced_shown (piece_of at c cs).1 cs)

pub laid_shown : (columns at : ℕ) (cs : List ℕ) → All Shown cs → All Shown (lay_out columns at cs)
laid_shown columns at [] all = All-nil Shown
laid_shown columns at (c ∷ cs) all =
    let here_shown : Shown c = All-head Shown c cs all in
    let rest_shown : All Shown cs = All-tail Shown c cs all in
    let line = λ (tail : List ℕ) (shown : All Shown tail). All-cons Shown 10 (32 ∷ tail) feed_shown
    (All-cons Shown 32 tail blank_shown shown) in
    placed_cases columns at c cs (λ (here : List ℕ). All Shown (here ++ lay_out columns (cursor at here) cs))
    (λ is. line (lay_out columns (0 + columns_of 32) cs) (laid_shown columns (0 + columns_of 32) cs rest_shown))
    (λ no narrow. All-cons Shown c (lay_out columns (column_after at c) cs) here_shown
    (laid_shown columns (column_after at c) cs rest_shown))
    (λ is. line (lay_out columns (0 + columns_of 32) cs) (laid_shown columns (0 + columns_of 32) cs rest_shown))
    (λ no. line (c ∷ lay_out columns (column_after (0 + columns_of 32) c) cs) (All-cons Shown c
    (lay_out columns (column_after (0 + columns_of 32) c) cs) here_shown
    (laid_shown columns (column_after (0 + columns_of 32) c) cs rest_shown)))
