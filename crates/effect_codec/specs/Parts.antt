-- The bytes of a counter that is raised, and of a part of a snapshot. That a counter has its number
-- in one byte, its object in four and what it is set to in eight is the store's own choice.
use Rattle.std.specs.Prelude.{◌≡◌, ◌≢◌, ℕ, ◌<◌, ◌≤◌, ◌^◌, ◌==◌, nat_lt, List, [], ◌∷◌, ◌++◌, length}
use Rattle.std.specs.Prelude.{drop, Option, Some, None, Result, Ok, Err, if◌then◌else◌}
use Rattle.std.specs.Int.{w32, w64, to_le_bytes, from_le_bytes}
use Rattle.kom_types.specs.Parts.{Part, Makes, Raises}
use Rattle.kom_types.specs.declared.effects.Effect.{Effect}
use Rattle.kom_types.specs.declared.raised.Raised.{Raised}
use Rattle.kom_types.specs.declared.raised.RaisedCounter.{RaisedCounter}
use Rattle.kom_types.specs.declared.raised.RaisedCounter.TheVariants as counter
use Rattle.effect_codec.specs.declared.raised.NotRaised.{NotRaised}
use Rattle.effect_codec.specs.Coding.{coded_effect, IsInRange, IsShortEnough}
use Rattle.effect_codec.specs.Fields.{Read, Whole, Short, Wrong, and_then, byte_at}
use Rattle.effect_codec.specs.Laws.{AreBytes}

-- the kind of a counter that is raised, which no effect has
abbrev pub raised_kind : ℕ
raised_kind = 25

abbrev pub raised_number : RaisedCounter → ℕ
raised_number counter.Conferences = 1
raised_number counter.Texts = 2
raised_number counter.Locals = 3
raised_number counter.Created = 4
raised_number counter.TextItems = 5
raised_number counter.ConferenceItems = 6
raised_number counter.Sessions = 7

abbrev pub raised_counter : ℕ → Option RaisedCounter
raised_counter number =
    if number == 1 then Some counter.Conferences
    else if number == 2 then Some counter.Texts
    else if number == 3 then Some counter.Locals
    else if number == 4 then Some counter.Created
    else if number == 5 then Some counter.TextItems
    else if number == 6 then Some counter.ConferenceItems
    else if number == 7 then Some counter.Sessions
    else None

-- the bytes of a counter that is raised
abbrev pub coded_raised : Raised → List ℕ
coded_raised given =
    raised_kind ∷ raised_number given.counter
    ∷ (to_le_bytes w32 given.object ++ to_le_bytes w64 given.next)

abbrev pub IsRaisedInRange : Raised → Type 0
IsRaisedInRange given = (given.object < 2 ^ 32) × (given.next < 2 ^ 64)

-- the object of a counter, and what it is set to
abbrev pub raised_from : Option RaisedCounter → List ℕ → Read Raised
raised_from None bytes = Wrong
raised_from (Some counter) bytes =
    if nat_lt (length bytes) 12 then Short
    else Whole (record {
      counter = counter;
      object = from_le_bytes w32 bytes;
      next = from_le_bytes w64 (drop 4 bytes);
    }) (drop 12 bytes)

-- what bytes are: a counter that is raised, and the bytes after it; too few; or none that begin
-- with one, whatever follows them
abbrev pub raised_at : List ℕ → Read Raised
raised_at bytes = and_then (byte_at bytes) (λ kind rest.
    if kind == raised_kind
    then and_then (byte_at rest) (λ number after. raised_from (raised_counter number) after)
    else Wrong)

-- the bytes of a part; what of it is in range; and which of its lengths are
abbrev pub coded_part : Part → List ℕ
coded_part (Makes what) = coded_effect what
coded_part (Raises given) = coded_raised given

abbrev pub IsPartInRange : Part → Type 0
IsPartInRange (Makes what) = IsInRange what
IsPartInRange (Raises given) = IsRaisedInRange given

abbrev pub IsPartShort : Part → Type 0
IsPartShort (Makes what) = IsShortEnough what
IsPartShort (Raises given) = Unit {0}

-- what the reader of raised counters answers
abbrev pub GivesRaised : List ℕ → Result (Option Raised) NotRaised → Type 0
GivesRaised bytes (Ok (Some given)) =
    (raised_at bytes ≡ Whole given (drop 14 bytes)) × (14 ≤ length bytes)
GivesRaised bytes (Ok None) = raised_at bytes ≡ Short
GivesRaised bytes (Err why) = raised_at bytes ≡ Wrong

-- The bytes of a counter that is raised are read as it, whatever follows them; what is read as one
-- begins with its bytes; what lacks some of its bytes is too short until all are there; what is
-- wrong begins with none, whatever follows; and no effect's bytes begin one.
pub record RaisedStand : Type 0 where
  pub again : (given : Raised) (rest : List ℕ) → IsRaisedInRange given
      → raised_at (coded_raised given ++ rest) ≡ Whole given rest
  pub spelled : (given : Raised) (bytes rest : List ℕ) → AreBytes bytes
      → raised_at bytes ≡ Whole given rest
      → (bytes ≡ coded_raised given ++ rest) × IsRaisedInRange given
  pub stays_short : (given : Raised) (bytes missing : List ℕ) → IsRaisedInRange given
      → missing ≢ [] → coded_raised given ≡ bytes ++ missing → raised_at bytes ≡ Short
  pub stays_wrong : (given : Raised) (bytes more rest : List ℕ) → IsRaisedInRange given
      → raised_at bytes ≡ Wrong → bytes ++ more ≢ coded_raised given ++ rest
  pub apart : (what : Effect) (given : Raised) (after_what after_given : List ℕ) → IsInRange what
      → coded_effect what ++ after_what ≢ coded_raised given ++ after_given
