-- The bytes of a counter that is raised, read and written.
use Rattle.std.proofs.Common.{◌≡◌, ◌≢◌, ℕ, suc, ◌+◌, ◌<◌, ◌≤◌, ◌==◌, Bool, true, false, List, [], ◌∷◌}
use Rattle.std.proofs.Common.{◌++◌, length, drop, refl, sym, ap, ◌∙◌, subst, arith, ltb, get_or, length-append}
use Rattle.std.proofs.Common.{append_assoc, append-nil, Option, Some, None, inl, inr, cond}
use Rattle.std.specs.Int.{w32, w64, to_le_bytes, from_le_bytes}
use Rattle.std.proofs.lemmas.Bool.{le-ltb, lt-ltb, ltb-false, cases_Bool, eqb-true}
use Rattle.std.proofs.lemmas.List.{drop-drop, drop-append-le, length-drop}
use Rattle.std.proofs.lemmas.Nat.{from_le_bytes-to_le_bytes_4, from_le_bytes-to_le_bytes_8}
use Rattle.kom_types.specs.declared.effects.Effect.{Effect}
use Rattle.kom_types.specs.declared.raised.Raised.{Raised}
use Rattle.kom_types.specs.declared.raised.RaisedCounter.{RaisedCounter}
use Rattle.kom_types.specs.declared.raised.RaisedCounter.TheVariants as counter
use Rattle.effect_codec.specs.Coding.{coded_effect, effect_at, IsInRange}
use Rattle.effect_codec.specs.Fields.{Read, Whole, Short, Wrong, and_then, byte_at}
use Rattle.effect_codec.specs.Laws.{AreBytes}
use Rattle.effect_codec.specs.Parts.{raised_number, raised_counter, coded_raised, IsRaisedInRange}
use Rattle.effect_codec.specs.Parts.{raised_from, raised_at}
use Rattle.effect_codec.proofs.Effects.{effect_again}
use Rattle.effect_codec.proofs.Spelled.{le_4, le_8, bytes_dropped, taken_and_dropped}
use Rattle.effect_codec.proofs.Stays.{Stays, and_then_stays, byte_stays, read_stays, le_before, short_before}

abbrev raised_as : RaisedCounter → ℕ → ℕ → Raised
raised_as what object next = record { counter = what; object = object; next = next }

-- a number of a counter gives the counter
pub counter_again : (what : RaisedCounter) → raised_counter (raised_number what) ≡ Some what
counter_again counter.Conferences = refl
counter_again counter.Texts = refl
counter_again counter.Locals = refl
counter_again counter.Created = refl
counter_again counter.TextItems = refl
counter_again counter.ConferenceItems = refl
counter_again counter.Sessions = refl

-- what is read where no byte is there; where the first is another kind; and where it is alone
pub none_there : (bytes : List ℕ) → length bytes ≡ 0 → raised_at bytes ≡ Short
none_there [] is = refl
none_there (kind ∷ rest) is = absurd (omega (arith, is))

pub other_kind : (bytes : List ℕ) → 0 < length bytes → (get_or bytes 0 0 ≡ 25 → ⊥) → raised_at bytes ≡ Wrong
other_kind [] some other = absurd (omega (arith, some))
other_kind (kind ∷ rest) some other = elim (cases_Bool (kind == 25)) [
  | inl is ↦ absurd (other (eqb-true kind 25 is))
  | inr is ↦ rw is refl
]

pub kind_alone : (bytes : List ℕ) → length bytes ≡ 1 → get_or bytes 0 0 ≡ 25 → raised_at bytes ≡ Short
kind_alone [] one is = absurd (omega (arith, one))
kind_alone (kind ∷ []) one is = rw is refl
kind_alone (kind ∷ number ∷ rest) one is = absurd (omega (arith, one))

-- what is read after the kind and the number of a counter
after_both : (bytes : List ℕ) (found : Option RaisedCounter) → 2 ≤ length bytes → get_or bytes 0 0 ≡ 25
    → raised_counter (get_or bytes 1 0) ≡ found → raised_at bytes ≡ raised_from found (drop 2 bytes)
after_both [] found two is known = absurd (omega (arith, two))
after_both (kind ∷ []) found two is known = absurd (omega (arith, two))
after_both (kind ∷ number ∷ rest) found two is known =
    let at : raised_at (kind ∷ number ∷ rest) ≡ raised_from (raised_counter number) rest = rw is refl in
    at ∙ ap (λ (f : Option RaisedCounter). raised_from f rest) known

pub no_counter : (bytes : List ℕ) → 2 ≤ length bytes → get_or bytes 0 0 ≡ 25
    → raised_counter (get_or bytes 1 0) ≡ None → raised_at bytes ≡ Wrong
no_counter bytes two is known = after_both bytes None two is known

pub too_few : (bytes : List ℕ) (what : RaisedCounter) → 2 ≤ length bytes → length bytes < 14 → get_or bytes 0 0 ≡ 25
    → raised_counter (get_or bytes 1 0) ≡ Some what → raised_at bytes ≡ Short
too_few bytes what two few is known =
    let less : ltb (length (drop 2 bytes)) 12 ≡ true = lt-ltb _ _ (omega (arith, few, two, length-drop 2 bytes)) in
    after_both bytes (Some what) two is known ∙ rw less refl

pub whole_there : (bytes : List ℕ) (what : RaisedCounter) (object next : ℕ) → 14 ≤ length bytes
    → get_or bytes 0 0 ≡ 25 → raised_counter (get_or bytes 1 0) ≡ Some what
    → object ≡ from_le_bytes w32 (drop 2 bytes) → next ≡ from_le_bytes w64 (drop 6 bytes)
    → raised_at bytes ≡ Whole (record { counter = what; object = object; next = next }) (drop 14 bytes)
whole_there bytes what object next here is known object_is next_is =
    let enough : ltb (length (drop 2 bytes)) 12 ≡ false = le-ltb _ _ (omega (arith, here, length-drop 2 bytes)) in
    let raised : ℕ → ℕ → Raised = raised_as what in
    let rest : List ℕ = drop 2 bytes in
    let read : raised_from (Some what) rest
    ≡ Whole (raised (from_le_bytes w32 rest) (from_le_bytes w64 (drop 4 rest))) (drop 12 rest) = rw enough refl in
    after_both bytes (Some what) (omega (arith, here)) is known ∙ read
    ∙ ap (λ (l : List ℕ). Whole (raised (from_le_bytes w32 rest) (from_le_bytes w64 l)) (drop 12 rest)) (drop-drop 4 2
    bytes)
    ∙ ap (λ (l : List ℕ). Whole (raised (from_le_bytes w32 rest) (from_le_bytes w64 (drop 6 bytes))) l) (drop-drop 12 2
    bytes)
    ∙ ap (λ (n : ℕ). Whole (raised n (from_le_bytes w64 (drop 6 bytes))) (drop 14 bytes)) (sym object_is)
    ∙ ap (λ (n : ℕ). Whole (raised object n) (drop 14 bytes)) (sym next_is)

-- what is written is read again
pub raised_again : (given : Raised) (rest : List ℕ) → IsRaisedInRange given
    → raised_at (coded_raised given ++ rest) ≡ Whole given rest
raised_again given rest is =
    let bytes : List ℕ = (to_le_bytes w32 given.object ++ to_le_bytes w64 given.next) ++ rest in
    let raised : ℕ → ℕ → Raised = raised_as given.counter in
    let twelve : length (to_le_bytes w32 given.object ++ to_le_bytes w64 given.next) ≡ 12 = refl in
    let enough : ltb (length bytes) 12 ≡ false =
    le-ltb _ _ (omega (
      arith,
      twelve,
      length-append (to_le_bytes w32 given.object ++ to_le_bytes w64 given.next) rest,
    )) in
    let read : raised_from (Some given.counter) bytes
    ≡ Whole (raised (from_le_bytes w32 bytes) (from_le_bytes w64 (drop 4 bytes))) rest = rw enough refl in
    ap (λ (f : Option RaisedCounter). raised_from f bytes) (counter_again given.counter) ∙ read
    ∙ ap (λ (n : ℕ). Whole (raised n (from_le_bytes w64 (drop 4 bytes))) rest)
    (from_le_bytes-to_le_bytes_4 given.object is.0)
    ∙ ap (λ (n : ℕ). Whole (raised given.object n) rest) (from_le_bytes-to_le_bytes_8 given.next is.1)

some_same : (one other : RaisedCounter) → Some one ≡ Some other → one ≡ other
some_same one other both = cc both

-- one counter is tried, and then the others
known : (number place : ℕ) (this what : RaisedCounter) (others : Option RaisedCounter) → raised_number this ≡ place
    → (others ≡ Some what → raised_number what ≡ number) → cond (number == place) (Some this) others ≡ Some what
    → raised_number what ≡ number
known number place this what others at later is = elim (cases_Bool (number == place)) [
  | inl same ↦
      let found : Some this ≡ Some what = rw same at is in
      ap raised_number (sym (some_same this what found)) ∙ at ∙ sym (eqb-true number place same)
  | inr other ↦ let rest : others ≡ Some what = rw other at is in later rest
]

abbrev from_7 : ℕ → Option RaisedCounter
from_7 number = cond (number == 7) (Some counter.Sessions) None

abbrev from_6 : ℕ → Option RaisedCounter
from_6 number = cond (number == 6) (Some counter.ConferenceItems) (from_7 number)

abbrev from_5 : ℕ → Option RaisedCounter
from_5 number = cond (number == 5) (Some counter.TextItems) (from_6 number)

abbrev from_4 : ℕ → Option RaisedCounter
from_4 number = cond (number == 4) (Some counter.Created) (from_5 number)

abbrev from_3 : ℕ → Option RaisedCounter
from_3 number = cond (number == 3) (Some counter.Locals) (from_4 number)

abbrev from_2 : ℕ → Option RaisedCounter
from_2 number = cond (number == 2) (Some counter.Texts) (from_3 number)

none-some : (what : RaisedCounter) (number : ℕ) → None ≡ Some what → raised_number what ≡ number
none-some what number none = absurd (cc none)

-- a number that is known is that of its counter
counter_spelled : (number : ℕ) (what : RaisedCounter) → raised_counter number ≡ Some what → raised_number what ≡ number
counter_spelled number what =
    known number 1 counter.Conferences what (from_2 number) refl
    (known number 2 counter.Texts what (from_3 number) refl
    (known number 3 counter.Locals what (from_4 number) refl
    (known number 4 counter.Created what (from_5 number) refl
    (known number 5 counter.TextItems what (from_6 number) refl
    (known number 6 counter.ConferenceItems what (from_7 number) refl
    (known number 7 counter.Sessions what None refl (none-some what number)))))))

whole_same : (one other : Raised) (rest after : List ℕ) → Whole one rest ≡ Whole other after → (one ≡ other) × (rest ≡
    after)
whole_same one other rest after same = (cc same, cc same)

-- what is read after the number of a counter
after_counter : (found : Option RaisedCounter) (given : Raised) (bytes rest : List ℕ) → AreBytes bytes
    → raised_from found bytes ≡ Whole given rest
    → (found ≡ Some given.counter)
    × (bytes ≡ (to_le_bytes w32 given.object ++ to_le_bytes w64 given.next) ++ rest) × IsRaisedInRange given
after_counter None given bytes rest are is = absurd (cc is)
after_counter (Some what) given bytes rest are is = elim (cases_Bool (ltb (length bytes) 12)) [
  | inl short ↦ let none : Short ≡ Whole given rest = rw short at is in absurd (cc none)
  | inr enough ↦
      let here : 12 ≤ length bytes = ltb-false _ _ enough in
      let raised : Raised =
      record { counter = what; object = from_le_bytes w32 bytes; next = from_le_bytes w64 (drop 4 bytes) } in
      let read : Whole raised (drop 12 bytes) ≡ Whole given rest = rw enough at is in
      let same = whole_same raised given (drop 12 bytes) rest read in
      let object = le_4 bytes are (omega (arith, here)) in
      let next = le_8 (drop 4 bytes) (bytes_dropped 4 bytes are) (omega (arith, here, length-drop 4 bytes)) in
      let spelling : List ℕ = to_le_bytes w32 raised.object ++ to_le_bytes w64 raised.next in
      let first : bytes ≡ to_le_bytes w32 raised.object ++ drop 4 bytes =
      taken_and_dropped 4 bytes ∙ ap (λ (l : List ℕ). l ++ drop 4 bytes) (sym object.0) in
      let second : drop 4 bytes ≡ to_le_bytes w64 raised.next ++ drop 12 bytes =
      taken_and_dropped 8 (drop 4 bytes) ∙ ap (λ (l : List ℕ). l ++ drop 8 (drop 4 bytes)) (sym next.0)
      ∙ ap (λ (l : List ℕ). to_le_bytes w64 raised.next ++ l) (drop-drop 8 4 bytes) in
      let spelled : bytes ≡ spelling ++ drop 12 bytes =
      first ∙ ap (λ (l : List ℕ). to_le_bytes w32 raised.object ++ l) second
      ∙ sym (append_assoc (to_le_bytes w32 raised.object) (to_le_bytes w64 raised.next) (drop 12 bytes)) in (
        ap (λ (r : Raised). Some r.counter) same.0,
        spelled ∙ ap (λ (l : List ℕ). spelling ++ l) same.1
            ∙ ap (λ (r : Raised). (to_le_bytes w32 r.object ++ to_le_bytes w64 r.next) ++ rest) same.0,
        subst IsRaisedInRange same.0 (object.1, next.1),
      )
]

after_kind : (given : Raised) (bytes rest : List ℕ) → AreBytes bytes
    → and_then (byte_at bytes) (λ number after. raised_from (raised_counter number) after) ≡ Whole given rest
    → (bytes ≡ raised_number given.counter ∷ (to_le_bytes w32 given.object ++ to_le_bytes w64 given.next) ++ rest)
    × IsRaisedInRange given
after_kind given [] rest are is = absurd (cc is)
after_kind given (number ∷ bytes) rest are is =
    let after = after_counter (raised_counter number) given bytes rest (λ i. are (suc i)) is in (
      ap (λ (n : ℕ). n ∷ bytes) (sym (counter_spelled number given.counter after.0))
          ∙ ap (λ (l : List ℕ). raised_number given.counter ∷ l) after.1,
      after.2,
    )

-- what is read begins with its bytes
pub raised_spelled : (given : Raised) (bytes rest : List ℕ) → AreBytes bytes → raised_at bytes ≡ Whole given rest
    → (bytes ≡ coded_raised given ++ rest) × IsRaisedInRange given
raised_spelled given [] rest are is = absurd (cc is)
raised_spelled given (kind ∷ bytes) rest are is = elim (cases_Bool (kind == 25)) [
  | inr other ↦ let wrong : Wrong ≡ Whole given rest = rw other at is in absurd (cc wrong)
  | inl same ↦
      let read : and_then (byte_at bytes) (λ number after. raised_from (raised_counter number) after)
      ≡ Whole given rest = rw same at is in
      let after = after_kind given bytes rest (λ i. are (suc i)) read in
      (ap (λ (n : ℕ). n ∷ bytes) (eqb-true kind 25 same) ∙ ap (λ (l : List ℕ). 25 ∷ l) after.0, after.1)
]

-- more bytes change nothing that was read, or was wrong
after_number : (given : Option RaisedCounter) (bytes more : List ℕ)
    → Stays (raised_from given bytes) more (raised_from given (bytes ++ more))
after_number None bytes more = refl
after_number (Some what) bytes more =
    read_stays (λ l. raised_as what (from_le_bytes w32 l) (from_le_bytes w64 (drop 4 l))) 12 bytes more (λ here.
    ap (λ (n : ℕ). raised_as what n (from_le_bytes w64 (drop 4 (bytes ++ more))))
    (le_before w32 bytes more (omega arith) (omega (arith, here)))
    ∙ ap (λ (l : List ℕ). raised_as what (from_le_bytes w32 bytes) (from_le_bytes w64 l))
    (drop-append-le 4 bytes more (omega (arith, here)))
    ∙ ap (raised_as what (from_le_bytes w32 bytes))
    (le_before w64 (drop 4 bytes) more (omega arith) (omega (arith, here, length-drop 4 bytes))))

abbrev after_byte : List ℕ → Read Raised
after_byte l = and_then (byte_at l) (λ number later. raised_from (raised_counter number) later)

kind_stays : (test : Bool) (bytes more : List ℕ) →
    Stays (cond test (after_byte bytes) Wrong) more (cond test (after_byte (bytes ++ more)) Wrong)
kind_stays true bytes more = and_then_stays (byte_at bytes) (byte_at (bytes ++ more))
    (λ number later. raised_from (raised_counter number) later) more (byte_stays bytes more)
    (λ number later. after_number (raised_counter number) later more)
kind_stays false bytes more = refl

raised_stays : (bytes more : List ℕ) → Stays (raised_at bytes) more (raised_at (bytes ++ more))
raised_stays [] more = tt
raised_stays (kind ∷ bytes) more = kind_stays (kind == 25) bytes more

pub raised_short : (given : Raised) (bytes missing : List ℕ) → IsRaisedInRange given → missing ≢ []
    → coded_raised given ≡ bytes ++ missing → raised_at bytes ≡ Short
raised_short given bytes missing is some same =
    let whole : raised_at (bytes ++ missing) ≡ Whole given [] =
    ap raised_at (sym same ∙ sym (append-nil (coded_raised given))) ∙ raised_again given [] is in
    short_before (raised_at bytes) given missing some
    (subst (λ (r : Read Raised). Stays (raised_at bytes) missing r) whole (raised_stays bytes missing))

pub raised_wrong : (given : Raised) (bytes more rest : List ℕ) → IsRaisedInRange given → raised_at bytes ≡ Wrong
    → bytes ++ more ≢ coded_raised given ++ rest
raised_wrong given bytes more rest is wrong same =
    let after : raised_at (bytes ++ more) ≡ Wrong =
    subst (λ (r : Read Raised). Stays r more (raised_at (bytes ++ more))) wrong (raised_stays bytes more) in
    let whole : raised_at (bytes ++ more) ≡ Whole given rest = ap raised_at same ∙ raised_again given rest is in
    let apart : Wrong ≡ Whole given rest = sym after ∙ whole in
    cc apart

-- no effect has this kind
pub raised_apart : (what : Effect) (given : Raised) (after_what after_given : List ℕ) → IsInRange what
    → coded_effect what ++ after_what ≢ coded_raised given ++ after_given
raised_apart what given after_what after_given is same =
    let whole : effect_at (coded_raised given ++ after_given) ≡ Whole what after_what =
    ap effect_at (sym same) ∙ effect_again what after_what is in
    let wrong : effect_at (coded_raised given ++ after_given) ≡ Wrong = refl in
    let apart : Wrong ≡ Whole what after_what = sym wrong ∙ whole in
    cc apart
