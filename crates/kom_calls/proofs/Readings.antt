-- How a line reads that begins with a reference and a call number.
use Rattle.std.proofs.Common.{◌≡◌, ℕ, eqb, Bool, true, false, List, [], ◌∷◌, Some, None, Ok, Err, option_map, refl, ap}
use Rattle.std.proofs.Common.{sym, subst, ◌∙◌, zero, suc, ◌+◌, drop, arith}
use Rattle.std.specs.Prelude.{Option, option_and_then, slice_get}
use Rattle.std.specs.Option.{ok_or}
use Rattle.std.proofs.lemmas.Bool.{eqb-true}
use Rattle.kom_types.specs.declared.calls.Call.{Call}
use Rattle.kom_types.specs.declared.calls.Call.TheVariants.{Refused}
use Rattle.kom_types.specs.Token.{Token, integer_of}
use Rattle.kom_types.specs.Reading.{Request, reading_of, patterns, call_by, call_of}
use Rattle.kom_types.specs.calls.Arguments.{Taken, Took, Departs, Malformed, integer}
use Rattle.kom_types.specs.calls.Pattern.{Pattern}
use Rattle.kom_calls.specs.declared.fault.ArgumentFault.{ArgumentFault}
use Rattle.kom_calls.specs.declared.fault.ArgumentFault.TheVariants as fault
use Rattle.kom_calls.specs.Telling.{DepartsAs, ReadsAs}
use Rattle.kom_calls.specs.Reads.{ReadsBy, pattern_of, takes_room}
use Rattle.kom_calls.specs.Lines.{line_takes_room}

-- what a token is to the rule of an integer, by the integer that it spells
abbrev pub integer_by : Option ℕ → List Token → Taken ℕ
integer_by spelled tail = elim spelled [ Some number ↦ Took number tail | None ↦ Departs Malformed ]

-- the integer at an index of a line's tokens
pub integer_at : (tokens : List Token) (place : ℕ) →
    integer (drop place tokens)
    ≡ integer_by (option_and_then integer_of (slice_get tokens place)) (drop (place + 1) tokens)
integer_at [] zero = refl
integer_at [] (suc place) = refl
integer_at (token ∷ tokens) zero = refl
integer_at (token ∷ tokens) (suc place) =
    let next : suc (place + 1) ≡ suc place + 1 = omega arith in
    integer_at tokens place
    ∙ ap (λ n. integer_by (option_and_then integer_of (slice_get tokens place)) (drop n (token ∷ tokens))) next

pub told_integer : (spelled : Option ℕ) (tail : List Token) →
    ReadsAs false (integer_by spelled tail) (ok_or spelled fault.Malformed) tail
told_integer (Some number) tail = refl
told_integer None tail = refl

took : (spelled : Option ℕ) (tail rest : List Token) (number : ℕ) → integer_by spelled tail ≡ Took number rest →
    (spelled ≡ Some number) × (tail ≡ rest)
took (Some n) tail rest number taken =
    let same : n ≡ number = cc in
    let left : tail ≡ rest = cc in
    (ap Some same, left)
took None tail rest number taken = cc

departed : (spelled : Option ℕ) (tail : List Token) (found : ArgumentFault) →
    DepartsAs false (integer_by spelled tail) found → spelled ≡ None
departed (Some n) tail fault.Malformed taken = cc
departed (Some n) tail fault.BadBool taken = cc
departed (Some n) tail fault.LongArray taken = cc
departed (Some n) tail fault.Memory taken = cc
departed None tail found taken = refl

-- a call with the line's reference
abbrev pub with_reference : ℕ → Option Call → Option Request
with_reference reference read = option_map (λ call. record { reference = reference; call = call }) read

-- a line without a reference is malformed
pub no_reference : (tokens : List Token) (found : ArgumentFault) → DepartsAs false (integer tokens) found →
    reading_of tokens ≡ None
unfolding reading_of
no_reference [] found taken = refl
no_reference (x ∷ []) found taken = refl
no_reference (x ∷ y ∷ rest) found taken =
    ap (option_and_then (λ r. option_and_then (λ n. with_reference r (call_of n rest)) (integer_of y)))
    (departed (integer_of x) (y ∷ rest) found taken)

-- a line without a call number is malformed
pub no_number : (tokens after : List Token) (reference : ℕ) (found : ArgumentFault) →
    integer tokens ≡ Took reference after → DepartsAs false (integer after) found → reading_of tokens ≡ None
unfolding reading_of
no_number [] after reference found first second = refl
no_number (x ∷ []) after reference found first second = refl
no_number (x ∷ y ∷ rest) after reference found first second =
    let a = took (integer_of x) (y ∷ rest) after reference first in
    let b = departed (integer_of y) rest found
    (subst (λ ts. DepartsAs false (integer ts) found) (sym a.1) second) in
    rw (a.0, b) refl

-- a line with a reference and a number reads as the call of that number
pub reads_call : (tokens after rest : List Token) (reference number : ℕ) → integer tokens ≡ Took reference after →
    integer after ≡ Took number rest →
    reading_of tokens ≡ with_reference reference (call_by (pattern_of number patterns) rest)
unfolding reading_of call_of
reads_call [] after rest reference number first second = cc
reads_call (x ∷ []) after rest reference number first second =
    let a = took (integer_of x) [] after reference first in
    let b : integer [] ≡ Took number rest = subst (λ ts. integer ts ≡ Took number rest) (sym a.1) second in
    cc
reads_call (x ∷ y ∷ left) after rest reference number first second =
    let a = took (integer_of x) (y ∷ left) after reference first in
    let b = took (integer_of y) left rest number (subst (λ ts. integer ts ≡ Took number rest) (sym a.1) second) in
    rw (a.0, b.0, b.1) refl

-- and it takes room where that call does
pub takes_room_of : (tokens after rest : List Token) (reference number : ℕ) → integer tokens ≡ Took reference after →
    integer after ≡ Took number rest → line_takes_room tokens ≡ takes_room number
takes_room_of [] after rest reference number first second = cc
takes_room_of (x ∷ []) after rest reference number first second =
    let a = took (integer_of x) [] after reference first in
    let b : integer [] ≡ Took number rest = subst (λ ts. integer ts ≡ Took number rest) (sym a.1) second in
    cc
takes_room_of (x ∷ y ∷ left) after rest reference number first second =
    let a = took (integer_of x) (y ∷ left) after reference first in
    let b = took (integer_of y) left rest number (subst (λ ts. integer ts ≡ Took number rest) (sym a.1) second) in
    rw (b.0, line_takes_room) refl

-- what a result by a pattern says of the call
pub told_call : (found : Option Pattern) (tokens rest : List Token) (call : Call) →
    ReadsBy found tokens (Ok (Some call)) rest → call_by found tokens ≡ Some call
told_call None tokens rest call reads = absurd reads
told_call (Some pattern) tokens rest call reads = rw reads.0 refl

pub told_unknown : (found : Option Pattern) (tokens rest : List Token) → ReadsBy found tokens (Ok None) rest →
    call_by found tokens ≡ Some (Refused 2 0)
told_unknown None tokens rest reads = refl
told_unknown (Some pattern) tokens rest reads = absurd reads

pub told_malformed : (found : Option Pattern) (tokens rest : List Token) →
    ReadsBy found tokens (Err fault.Malformed) rest → call_by found tokens ≡ None
told_malformed None tokens rest reads = absurd reads
told_malformed (Some pattern) tokens rest reads = rw reads refl

pub told_bad_bool : (found : Option Pattern) (tokens rest : List Token) →
    ReadsBy found tokens (Err fault.BadBool) rest → call_by found tokens ≡ Some (Refused 61 0)
told_bad_bool None tokens rest reads = absurd reads
told_bad_bool (Some pattern) tokens rest reads = rw reads refl

pub told_long_array : (found : Option Pattern) (tokens rest : List Token) →
    ReadsBy found tokens (Err fault.LongArray) rest → call_by found tokens ≡ Some (Refused 46 0)
told_long_array None tokens rest reads = absurd reads
told_long_array (Some pattern) tokens rest reads = rw reads refl

-- the pattern that is found has the number
first_has : (number : ℕ) (pattern found : Pattern) (some : List Pattern) (same : Bool) →
    eqb pattern.number number ≡ same → (pattern_of number some ≡ Some found → found.number ≡ number) →
    pattern_of number (pattern ∷ some) ≡ Some found → found.number ≡ number
first_has number pattern found some true same later is =
    let first : Some pattern ≡ Some found = rw same at is in
    let it : pattern ≡ found = cc in
    ap (λ (p : Pattern). p.number) (sym it) ∙ eqb-true pattern.number number same
first_has number pattern found some false same later is = later (rw same at is)

has_number : (number : ℕ) (found : Pattern) (some : List Pattern) → pattern_of number some ≡ Some found →
    found.number ≡ number
has_number number found [] is = cc
has_number number found (pattern ∷ some) is =
    first_has number pattern found some (eqb pattern.number number) refl (has_number number found some) is

with_pattern : (found : Option Pattern) (tokens rest : List Token) → ReadsBy found tokens (Err fault.Memory) rest →
    (pattern : Pattern) × (found ≡ Some pattern) × (takes_room pattern.number ≡ true)
with_pattern None tokens rest reads = absurd reads
with_pattern (Some pattern) tokens rest reads = (pattern, refl, reads)

-- memory runs out only where the call of the number takes room
pub told_memory : (number : ℕ) (tokens rest : List Token) →
    ReadsBy (pattern_of number patterns) tokens (Err fault.Memory) rest → takes_room number ≡ true
told_memory number tokens rest reads =
    let found = with_pattern (pattern_of number patterns) tokens rest reads in
    let same : found.0.number ≡ number = has_number number found.0 patterns found.1 in
    ap takes_room (sym same) ∙ found.2
