-- Looking a call's number up in one table after the other.
use Rattle.std.proofs.Common.{◌≡◌, ℕ, ◌==◌, List, [], ◌++◌, Some, None, Result, Ok, Err, refl, ap, sym, subst, ◌∙◌}
use Rattle.std.specs.Prelude.{Option}
use Rattle.std.specs.Option.{option_or}
use Rattle.std.proofs.lemmas.List.Folds.{find-append}
use Rattle.kom_types.specs.declared.calls.Call.{Call}
use Rattle.kom_types.specs.Token.{Token}
use Rattle.kom_types.specs.calls.Pattern.{Pattern}
use Rattle.kom_calls.specs.declared.fault.ArgumentFault.{ArgumentFault}
use Rattle.kom_calls.specs.Reads.{ReadsBy, pattern_of}

-- no call of these tables has the number, and the tokens are as they were
pub record Past (number : ℕ) (tables : List Pattern) (tokens now : List Token) : Type 0 where
  pub none : pattern_of number tables ≡ None
  pub same : now ≡ tokens

pub past_none : (number : ℕ) (tokens : List Token) → Past number [] tokens tokens
past_none number tokens = record { none = refl; same = refl }

unknown : (found : Option Pattern) (tokens rest : List Token) → ReadsBy found tokens (Ok None) rest →
    (found ≡ None) × (rest ≡ tokens)
unknown None tokens rest reads = (refl, reads)
unknown (Some pattern) tokens rest reads = absurd reads

-- in a table the number is looked for after others
pattern_of-append : (number : ℕ) (tables table : List Pattern) → pattern_of number tables ≡ None →
    pattern_of number (tables ++ table) ≡ pattern_of number table
pattern_of-append number tables table none =
    find-append (λ pattern. pattern.number == number) tables table
    ∙ ap (λ found. option_or found (pattern_of number table)) none

pub past_next : (number : ℕ) (tables table : List Pattern) (tokens now rest : List Token) (read : Option Call) →
    Past number tables tokens now → ReadsBy (pattern_of number table) now (Ok read) rest → read ≡ None →
    Past number (tables ++ table) tokens rest
past_next number tables table tokens now rest read past reads none =
    let here = unknown (pattern_of number table) now rest
    (subst (λ r. ReadsBy (pattern_of number table) now (Ok r) rest) none reads) in
    record {
      none = pattern_of-append number tables table past.none ∙ here.0;
      same = here.1 ∙ past.same;
    }

-- the last table's result is that of all
pub last : (number : ℕ) (tables table : List Pattern) (tokens now rest : List Token)
    (result : Result (Option Call) ArgumentFault) → Past number tables tokens now →
    ReadsBy (pattern_of number table) now result rest → ReadsBy (pattern_of number (tables ++ table)) tokens result rest
last number tables table tokens now rest result past reads =
    subst (λ found. ReadsBy found tokens result rest) (sym (pattern_of-append number tables table past.none))
    (subst (λ t. ReadsBy (pattern_of number table) t result rest) past.same reads)

-- a result that tells of a call
abbrev pub IsSettled : Result (Option Call) ArgumentFault → Type 0
IsSettled (Ok None) = ⊥
IsSettled (Ok (Some call)) = Unit {0}
IsSettled (Err found) = Unit {0}

settles : (found more : Option Pattern) (tokens rest later : List Token) (result : Result (Option Call) ArgumentFault) →
    IsSettled result → ReadsBy found tokens result rest → ReadsBy (option_or found more) tokens result later
settles None more tokens rest later (Ok None) settled reads = absurd settled
settles None more tokens rest later (Ok (Some call)) settled reads = absurd reads
settles None more tokens rest later (Err found) settled reads = absurd reads
settles (Some pattern) more tokens rest later (Ok None) settled reads = absurd settled
settles (Some pattern) more tokens rest later (Ok (Some call)) settled reads = reads
settles (Some pattern) more tokens rest later (Err found) settled reads = reads

-- no later table has the number
pub settled : (number : ℕ) (tables table later : List Pattern) (tokens now rest : List Token)
    (result : Result (Option Call) ArgumentFault) → Past number tables tokens now → IsSettled result →
    ReadsBy (pattern_of number table) now result rest →
    ReadsBy (pattern_of number ((tables ++ table) ++ later)) tokens result rest
settled number tables table later tokens now rest result past is reads =
    subst (λ found. ReadsBy found tokens result rest)
    (sym (find-append (λ pattern. pattern.number == number) (tables ++ table) later))
    (settles (pattern_of number (tables ++ table)) (pattern_of number later) tokens rest rest result is
    (last number tables table tokens now rest result past reads))
