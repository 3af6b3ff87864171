-- Numbers that a writer puts in a row.
use Rattle.std.proofs.Common.{◌≡◌, ℕ, Bool, true, false, List, [], ◌∷◌, ◌++◌, refl, sym, ap, subst, ◌∙◌, append_assoc}
use Rattle.std.proofs.Common.{Result, Ok, Err}
use Rattle.std.specs.Prelude.{OnOk, OnErr}
use Rattle.std.specs.List.{flat_map}
use Rattle.std.specs.Fmt.{decimal}
use Rattle.std.proofs.lemmas.List.Sums.{fold-append}
use Rattle.kom_types.specs.spellings.Words.{number}
use Rattle.kom_framing.specs.Writing.{Written, put_word, put_numbers}
use Rattle.kom_replies.specs.Items.{Begins}
use Rattle.kom_replies.specs.Sinks.{with_words, Keeps}

-- the numbers are words
pub words_of_numbers : (values : List ℕ) (written : Written) →
    with_words put_word (flat_map number values) written ≡ put_numbers values written
words_of_numbers [] written = refl
words_of_numbers (value ∷ values) written = words_of_numbers values (put_word (decimal value) written)

-- the first of them, and then the others
pub numbers_parted : (values first others : List ℕ) (written : Written) → first ++ others ≡ values →
    with_words put_word (flat_map number others) (put_numbers first written)
    ≡ with_words put_word (flat_map number values) written
numbers_parted values first others written parted =
    words_of_numbers others (put_numbers first written)
    ∙ sym (fold-append (λ before value. put_word (decimal value) before) written first others)
    ∙ ap (λ all. put_numbers all written) parted ∙ sym (words_of_numbers values written)

keeps_word : (word bytes : List ℕ) (joined : Bool) (prefix : List ℕ) →
    Begins prefix (record { bytes = bytes; joined = joined }) →
    Begins prefix (put_word word (record { bytes = bytes; joined = joined }))
keeps_word word bytes true prefix begins = record {
  more = begins.more ++ word;
  is = ap (λ all. all ++ word) begins.is ∙ append_assoc prefix begins.more word;
}
keeps_word word bytes false prefix begins = record {
  more = (begins.more ++ 32 ∷ []) ++ word;
  is = ap (λ all. (all ++ 32 ∷ []) ++ word) begins.is
      ∙ ap (λ all. all ++ word) (append_assoc prefix begins.more (32 ∷ []))
      ∙ append_assoc prefix (begins.more ++ 32 ∷ []) word;
}

-- what was written stays
pub numbers_keep : (values : List ℕ) (written : Written) → Keeps Begins written (put_numbers values written)
numbers_keep [] written = λ prefix begins. begins
numbers_keep (value ∷ values) written = λ prefix begins.
    numbers_keep values (put_word (decimal value) written) prefix
    (keeps_word (decimal value) written.bytes written.joined prefix begins)

pub on_ok : {X E P Q : Type 0} (result : Result X E) → (P → Q) → OnOk result P → OnOk result Q
on_ok (Ok value) more holds = more holds
on_ok (Err found) more holds = holds

-- and so it does where they are refused
pub kept_either : {X E : Type 0} (result : Result X E) (values : List ℕ) (old new : Written) →
    OnOk result (new ≡ put_numbers values old) → OnErr result (new ≡ old) → Keeps Begins old new
kept_either (Ok value) values old new put unput = λ prefix begins.
    subst (Begins prefix) (sym put) (numbers_keep values old prefix begins)
kept_either (Err found) values old new put unput = λ prefix begins. subst (Begins prefix) (sym unput) begins
