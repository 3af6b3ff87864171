-- The words that count, as one of the table's words is written.
use Rattle.std.proofs.Common.{◌≡◌, ◌≢◌, ℕ, zero, suc, ◌≤◌, List, [], ◌∷◌, sym, ◌∙◌, arith}
use Rattle.std.specs.Prelude.{slice_index, slice_set}
use mathlib.Core.Option.{some, some-injective, some-ne-none}
use lib.ListN.{get_elem?}
use Rattle.atomic_table.proofs.Lists.{set_here, set_else}
use Rattle.kom_state_lock.specs.Rule.{AreWords}
use Rattle.kom_state_lock.proofs.Places.{here_below}

pub word_found : (words : List ℕ) (i n : ℕ) → get_elem? words i ≡ some n → slice_index words i ≡ n
word_found [] i n e = absurd (some-ne-none n (sym e))
word_found (x ∷ words) zero n e = some-injective x n e
word_found (x ∷ words) (suc i) n e = word_found words i n e

here : (words : List ℕ) (i old new : ℕ) → get_elem? words i ≡ some old → get_elem? (slice_set words i new) i ≡ some new
here words i old new e = set_here words i new (here_below words i old e)

there : (words : List ℕ) (i j n new : ℕ) → j ≢ i → get_elem? words j ≡ some n
    → get_elem? (slice_set words i new) j ≡ some n
there words i j n new other e = set_else words i j new other ∙ e

module _ (t sv l : ℕ) (words : List ℕ) (are : AreWords t sv l words) where
  pub next_written : (n : ℕ) → AreWords n sv l (slice_set words 0 n)
  next_written n = record {
    next = here words 0 t n are.next;
    now = there words 0 8 sv n (λ e. omega arith) are.now;
    written = there words 0 16 l n (λ e. omega arith) are.written;
  }

  pub now_written : (n : ℕ) → AreWords t n l (slice_set words 8 n)
  now_written n = record {
    next = there words 8 0 t n (λ e. omega arith) are.next;
    now = here words 8 sv n are.now;
    written = there words 8 16 l n (λ e. omega arith) are.written;
  }

  pub length_written : (n : ℕ) → AreWords t sv n (slice_set words 16 n)
  length_written n = record {
    next = there words 16 0 t n (λ e. omega arith) are.next;
    now = there words 16 8 sv n (λ e. omega arith) are.now;
    written = here words 16 l n are.written;
  }

  -- another word may be anything
  pub other_written : (i n : ℕ) → 24 ≤ i → AreWords t sv l (slice_set words i n)
  other_written i n far = record {
    next = there words i 0 t n (λ e. omega arith) are.next;
    now = there words i 8 sv n (λ e. omega arith) are.now;
    written = there words i 16 l n (λ e. omega arith) are.written;
  }
