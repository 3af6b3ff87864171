-- What a writer has written.
use Rattle.std.specs.Prelude.{ℕ, Bool, true, false, if◌then◌else◌, List, [], ◌∷◌, ◌++◌, take, fold}
use Rattle.std.specs.Fmt.{decimal}

-- the bytes so far, and whether the next word follows without a space
pub record Written : Type 0 where
  pub bytes : List ℕ
  pub joined : Bool

-- the first bytes of a buffer, of so many
abbrev pub written_to : ℕ → List ℕ → Bool → Written
written_to used out joined = record { bytes = take used out; joined = joined }

-- with this word at the end; the word after it follows without a space where this one is a sign
-- before a reference
abbrev pub put : List ℕ → Bool → Written → Written
put word sign written = record {
  bytes = (if written.joined then written.bytes else written.bytes ++ 32 ∷ []) ++ word;
  joined = sign;
}

-- a word that others follow with a space
abbrev pub put_word : List ℕ → Written → Written
put_word word written = put word false written

-- numbers, one after the other
abbrev pub put_numbers : List ℕ → Written → Written
put_numbers values written = fold (λ before value. put_word (decimal value) before) written values

-- a line's end
abbrev pub end_line : Written → Written
end_line written = record { bytes = written.bytes ++ 10 ∷ []; joined = true }
