-- A greeting that has begun, and what a piece of the stream makes of it.
use Rattle.std.specs.Prelude.{◌≡◌, ℕ, ◌+◌, ◌^◌, ◌<◌, ◌≤◌, List, [], ◌++◌, length, take, drop, Some}
use Rattle.std.specs.Prelude.{None, Result, Ok, Err}
use Rattle.kom_types.specs.declared.limits.TheConstants.{LONGEST_STREAM}
use Rattle.kom_types.specs.declared.side.Side.{Side}
use Rattle.kom_types.specs.declared.shortage.Memory.{Memory}
use Rattle.kom_types.specs.Grammar.{welcome}
use Rattle.kom_types.specs.Stream as stream
use Rattle.kom_framing.specs.declared.fault.Fault.{Fault}
use Rattle.kom_framing.specs.declared.greeting.Phase.{Phase}
use Rattle.kom_framing.specs.declared.greeting.Phase.TheVariants as phase
use Rattle.kom_framing.specs.declared.greeting.Greeting.{Greeting}
use Rattle.kom_framing.specs.declared.greeting.Turn.{Turn}
use Rattle.kom_framing.specs.declared.greeting.Turn.TheVariants as turn
use Rattle.kom_framing.specs.declared.greeting.Heard.{Heard}
use Rattle.kom_framing.specs.declared.greeting.Heard.TheVariants as heard_so
use Rattle.kom_framing.specs.declared.lines.Scan.{Scan}
use Rattle.kom_framing.specs.declared.lines.Scan.TheVariants as scan
use Rattle.kom_framing.specs.Splitting.{Opening, Nothing, Letter, Length, Name, Letters}
use Rattle.kom_framing.specs.Hearing.{Greets, Going, Ended, Stuck, hear, onward, hear_all}
use Rattle.kom_framing.specs.BegunLines.{fault_seen}

-- what is kept of a greeting
abbrev pub opening_kept : Phase → List ℕ → Opening
opening_kept phase.Nothing name = Nothing
opening_kept phase.Letter name = Letter
opening_kept (phase.Length digits number) name = Length digits number
opening_kept (phase.Name count) name = Name count name
opening_kept (phase.Letters count) name = Letters (drop count welcome)

-- one to four digits of a length
pub record IsLength (digits number : ℕ) (name : List ℕ) : Type 0 where
  pub few : digits ≤ 4
  pub small : number < 10 ^ digits
  pub nameless : name ≡ []

-- so many letters of a server's greeting, and more to come
pub record AreLetters (count : ℕ) (name : List ℕ) : Type 0 where
  pub fewer : count < 7
  pub nameless : name ≡ []

-- what is kept is that of a greeting that goes on
abbrev pub IsGreeting : Phase → List ℕ → Type 0
IsGreeting phase.Nothing name = name ≡ []
IsGreeting phase.Letter name = name ≡ []
IsGreeting (phase.Length digits number) name = IsLength digits number name
IsGreeting (phase.Name count) name = length name < count
IsGreeting (phase.Letters count) name = AreLetters count name

-- what a byte does to a greeting
abbrev pub Turns : Result Turn Memory → Phase → List ℕ → ℕ → List ℕ → Type 0
Turns (Ok (turn.Goes after)) before old byte new =
    (hear (opening_kept before old) byte ≡ Going (opening_kept after new)) × IsGreeting after new
Turns (Ok turn.Ends) before old byte new = hear (opening_kept before old) byte ≡ Ended new
Turns (Ok turn.Unfit) before old byte new = hear (opening_kept before old) byte ≡ Stuck
Turns (Err memory) before old byte new = new ≡ old

-- the name has more bytes at its end, and was not changed
abbrev pub Lengthens : List ℕ → List ℕ → Type 0
Lengthens old new = take (length old) new ≡ old

abbrev pub IsGoing : Greets → Type 0
IsGoing (Going opening) = Unit {0}
IsGoing (Ended name) = ⊥
IsGoing Stuck = ⊥

pub record HearsTo (count : ℕ) (before : Greets) (window new : List ℕ) : Type 0 where
  pub some : 1 ≤ count
  pub within : count ≤ length window
  pub ended : onward before (take count window) ≡ Ended new

pub record IsUnheardAt (at : ℕ) (before : Greets) (window : List ℕ) : Type 0 where
  pub within : at < length window
  pub going : IsGoing (onward before (take at window))
  pub stuck : onward before (take (at + 1) window) ≡ Stuck

-- how a greeting went through a window
abbrev pub Hears : Result Heard Memory → Phase → List ℕ → List ℕ → List ℕ → Type 0
Hears (Ok (heard_so.Goes after)) before old window new =
    (onward (Going (opening_kept before old)) window ≡ Going (opening_kept after new))
    × IsGreeting after new
Hears (Ok (heard_so.Ends count)) before old window new =
    HearsTo count (Going (opening_kept before old)) window new
Hears (Ok (heard_so.Unfit at)) before old window new =
    IsUnheardAt at (Going (opening_kept before old)) window
Hears (Err memory) before old window new = Unit {0}

abbrev pub greeting_kept : Greeting → Opening
greeting_kept greeting = opening_kept greeting.phase greeting.name.items

abbrev pub IsBegunGreeting : Greeting → Type 0
IsBegunGreeting greeting = IsGreeting greeting.phase greeting.name.items

pub record IsSame (old new : Greeting) : Type 0 where
  pub phase : new.phase ≡ old.phase
  pub name : new.name.items ≡ old.name.items

-- the greeting takes the whole piece, and goes on
pub record GreetsOn (place : ℕ) (old : Greeting) (piece : List ℕ) (new : Greeting) : Type 0 where
  pub greeting : IsBegunGreeting new
  pub early : place + length piece ≤ LONGEST_STREAM
  pub split : (side : Side) (bytes : List ℕ) → hear_all side bytes ≡ Going (greeting_kept old)
      → stream.greeting_from side place bytes piece ≡ stream.stopped_in (bytes ++ piece) None
  pub heard_more : (side : Side) (bytes : List ℕ) → hear_all side bytes ≡ Going (greeting_kept old)
      → hear_all side (bytes ++ piece) ≡ Going (greeting_kept new)

-- the greeting ends with the last of so many bytes of the piece
pub record GreetsTo (count place : ℕ) (old : Greeting) (piece : List ℕ) (new : Greeting)
    : Type 0 where
  pub some : 1 ≤ count
  pub within : count ≤ length piece
  pub early : place + count ≤ LONGEST_STREAM
  pub lengthens : Lengthens old.name.items new.name.items
  pub split : (side : Side) (bytes : List ℕ) → hear_all side bytes ≡ Going (greeting_kept old)
      → stream.greeting_from side place bytes piece
      ≡ record (stream.lines_from side (place + count) [] (drop count piece))
      { greeting = Some new.name.items }

-- the stream has this fault within its greeting
pub record GreetsFail (place : ℕ) (old : Greeting) (piece : List ℕ) (found : Fault) : Type 0 where
  pub split : (side : Side) (bytes : List ℕ) → hear_all side bytes ≡ Going (greeting_kept old)
      → (rest : List ℕ)
      × (stream.greeting_from side place bytes piece
      ≡ stream.stopped_in rest (Some (fault_seen found)))

-- how a greeting went through a piece of the stream that begins at this place
abbrev pub ScansGreeting : Result Scan Memory → ℕ → Greeting → List ℕ → Greeting → Type 0
ScansGreeting (Ok scan.Goes) place old piece new = GreetsOn place old piece new
ScansGreeting (Ok (scan.Ends count)) place old piece new = GreetsTo count place old piece new
ScansGreeting (Ok (scan.Fails found)) place old piece new =
    GreetsFail place old piece found × IsBegunGreeting new
ScansGreeting (Err memory) place old piece new = IsSame old new
