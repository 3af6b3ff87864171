use Rattle.std.proofs.Common.{◌≡◌, ℕ, List, [], ◌∷◌, length, Some, MatchOption, sym, subst, arith}
use Rattle.std.specs.List.{slice_get}
use Rattle.kom_commands.specs.Words.{IsSpelled, IsRefused}
use Rattle.kom_commands.proofs.words.command_of.Goals as goal

one_word : (words : List (List ℕ)) (a : List ℕ) → length words ≡ 1 → slice_get words 0 ≡ Some a → words ≡ a ∷ []
one_word [] a long first = absurd (omega arith)
one_word (x ∷ []) a long first = cc
one_word (x ∷ y ∷ words) a long first = absurd (omega arith)

two_words : (words : List (List ℕ)) (a b : List ℕ) → length words ≡ 2 → slice_get words 0 ≡ Some a →
    slice_get words 1 ≡ Some b → words ≡ a ∷ b ∷ []
two_words [] a b long first second = absurd (omega arith)
two_words (x ∷ []) a b long first second = absurd (omega arith)
two_words (x ∷ y ∷ []) a b long first second = cc
two_words (x ∷ y ∷ z ∷ words) a b long first second = absurd (omega arith)

three_words : (words : List (List ℕ)) (a b d : List ℕ) → length words ≡ 3 → slice_get words 0 ≡ Some a →
    slice_get words 1 ≡ Some b → slice_get words 2 ≡ Some d → words ≡ a ∷ b ∷ d ∷ []
three_words [] a b d long first second third = absurd (omega arith)
three_words (x ∷ []) a b d long first second third = absurd (omega arith)
three_words (x ∷ y ∷ []) a b d long first second third = absurd (omega arith)
three_words (x ∷ y ∷ z ∷ []) a b d long first second third = cc
three_words (x ∷ y ∷ z ∷ w ∷ words) a b d long first second third = absurd (omega arith)

four_words : (words : List (List ℕ)) (a b d e : List ℕ) → length words ≡ 4 → slice_get words 0 ≡ Some a →
    slice_get words 1 ≡ Some b → slice_get words 2 ≡ Some d → slice_get words 3 ≡ Some e → words ≡ a ∷ b ∷ d ∷ e ∷ []
four_words [] a b d e long first second third fourth = absurd (omega arith)
four_words (x ∷ []) a b d e long first second third fourth = absurd (omega arith)
four_words (x ∷ y ∷ []) a b d e long first second third fourth = absurd (omega arith)
four_words (x ∷ y ∷ z ∷ []) a b d e long first second third fourth = absurd (omega arith)
four_words (x ∷ y ∷ z ∷ w ∷ []) a b d e long first second third fourth = cc
four_words (x ∷ y ∷ z ∷ w ∷ v ∷ words) a b d e long first second third fourth = absurd (omega arith)

pub returns-in-1 : goal.returns-in-1
returns-in-1 c =
    subst (λ (words : List (List ℕ)). MatchOption c.command_alone.result (IsRefused words) (IsSpelled words))
    (sym (one_word c.args.words.now c.word.result.now (omega (arith, c.len.ensures, c.in-1.is)) c.word.ensures))
    c.command_alone.ensures

pub returns-in-2 : goal.returns-in-2
returns-in-2 c =
    subst (λ (words : List (List ℕ)). MatchOption c.command_over.result (IsRefused words) (IsSpelled words))
    (sym (two_words c.args.words.now c.word-in-2.result.now c.word-in-2-2.result.now
    (omega (arith, c.len.ensures, c.in-2.is)) c.word-in-2.ensures c.word-in-2-2.ensures))
    c.command_over.ensures

pub returns-in-3 : goal.returns-in-3
returns-in-3 c =
    subst (λ (words : List (List ℕ)). MatchOption c.command_with.result (IsRefused words) (IsSpelled words))
    (sym (three_words c.args.words.now c.word-in-3.result.now c.word-in-3-2.result.now c.word-in-3-3.result.now
    (omega (arith, c.len.ensures, c.in-3.is)) c.word-in-3.ensures c.word-in-3-2.ensures c.word-in-3-3.ensures))
    c.command_with.ensures

pub returns-in-4 : goal.returns-in-4
returns-in-4 c =
    subst (λ (words : List (List ℕ)). MatchOption c.command_at.result (IsRefused words) (IsSpelled words))
    (sym (four_words c.args.words.now c.word-in-4.result.now c.word-in-4-2.result.now c.word-in-4-3.result.now
    c.word-in-4-4.result.now (omega (arith, c.len.ensures, c.in-4.is)) c.word-in-4.ensures c.word-in-4-2.ensures
    c.word-in-4-3.ensures c.word-in-4-4.ensures))
    c.command_at.ensures
