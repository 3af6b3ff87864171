-- What a splitter holds, and how that stands to the stream that was fed.
use Rattle.std.specs.Prelude.{◌≡◌, ℕ, List, [], ◌∷◌, ◌++◌, length, drop, take_while, Option, Some}
use Rattle.std.specs.Prelude.{None, option_to_list, map, Result, Ok, Err}
use Rattle.kom_types.specs.declared.side.Side.{Side}
use Rattle.kom_types.specs.declared.side.Side.TheVariants as side
use Rattle.kom_types.specs.ByteKind.{is_blank, is_digit}
use Rattle.kom_types.specs.Token.{number_of}
use Rattle.kom_types.specs.Grammar.{drop_while, welcome}
use Rattle.kom_types.specs.Stream as stream
use Rattle.kom_framing.specs.declared.units.Unit.{Unit as StreamUnit}
use Rattle.kom_framing.specs.declared.units.Unit.TheVariants as unit
use Rattle.kom_framing.specs.declared.splitter.FeedRefusal.{FeedRefusal}
use Rattle.kom_framing.specs.declared.splitter.FeedRefusal.TheVariants as refusal

-- what is kept of a greeting that has begun: of a client's nothing yet, its letter, how many digits
-- its name's length has so far and what they spell, or the name's length with the bytes that have
-- come; of a server's the letters that are to come
pub data Opening : Type 0 where
  Nothing : Opening
  Letter : Opening
  Length : ℕ → ℕ → Opening
  Name : ℕ → List ℕ → Opening
  Letters : List ℕ → Opening

abbrev pub opening_from : List ℕ → List ℕ → Opening
opening_from [] [] = Letter
opening_from [] (byte ∷ name) = Name 0 name
opening_from (digit ∷ digits) [] = Length (length (digit ∷ digits)) (number_of (digit ∷ digits))
opening_from (digit ∷ digits) (byte ∷ name) = Name (number_of (digit ∷ digits)) name

abbrev pub client_opening : List ℕ → Opening
client_opening [] = Nothing
client_opening (letter ∷ bytes) =
    let text = drop_while is_blank bytes in
    opening_from (take_while is_digit text) (drop_while is_digit text)

-- what is kept of these bytes, with which a greeting has begun
abbrev pub opening_of : Side → List ℕ → Opening
opening_of side.Client bytes = client_opening bytes
opening_of side.Server bytes = Letters (drop (length bytes) welcome)

-- the unit that has begun: the greeting, or a line with its bytes so far
pub data Begun : Type 0 where
  Greeting : Opening → Begun
  InLine : List ℕ → Begun

-- What a splitter holds: whose stream it splits, the units that are complete and not yet taken, the
-- unit that has begun, how many bytes were fed, and the fault if it was met.
pub record Splitting : Type 0 where
  pub side : Side
  pub held : List StreamUnit
  pub begun : Begun
  pub place : ℕ
  pub fault : Option stream.Fault

-- the units of a stream: its greeting, and then its lines
abbrev pub units_of : stream.Split → List StreamUnit
units_of split = map unit.Hello (option_to_list split.greeting) ++ map unit.Line split.lines

-- the unit with which a stream ends that is not at fault
abbrev pub begun_by : Side → Option (List ℕ) → List ℕ → Begun
begun_by side None rest = Greeting (opening_of side rest)
begun_by side (Some name) rest = InLine rest

abbrev pub begun_of : Side → stream.Split → Begun
begun_of side split = begun_by side split.greeting split.rest

-- These bytes of a stream of this side were fed and these units taken, in any pieces and at any
-- times: the units taken and those still held are the units of the stream.
pub record IsAtBy (side : Side) (splitting : Splitting) (fed : List ℕ) (taken : List StreamUnit)
    : Type 0 where
  pub side_is : splitting.side ≡ side
  pub units : units_of (stream.stream_by side fed) ≡ taken ++ splitting.held
  pub fault : splitting.fault ≡ (stream.stream_by side fed).fault
  pub begun : splitting.fault ≡ None
      → splitting.begun ≡ begun_of side (stream.stream_by side fed)
  pub place : splitting.fault ≡ None → splitting.place ≡ length fed

-- the same of a client's stream
abbrev pub IsAt : Splitting → List ℕ → List StreamUnit → Type 0
IsAt splitting fed taken = IsAtBy side.Client splitting fed taken

-- what a feed answers that meets this fault, and each one after it
abbrev pub refusal_at : stream.Fault → FeedRefusal
refusal_at (stream.Malformed place) = refusal.Malformed place
refusal_at (stream.LineTooLong place) = refusal.LineTooLong place

-- What a feed answers, after which these bytes were fed in all: a fault exactly where the stream
-- has it.
abbrev pub Answers : Side → Result (Unit {0}) FeedRefusal → List ℕ → Splitting → List StreamUnit
    → Type 0
Answers side (Ok done) fed new taken =
    ((stream.stream_by side fed).fault ≡ None) × IsAtBy side new fed taken
Answers side (Err (refusal.Malformed place)) fed new taken =
    ((stream.stream_by side fed).fault ≡ Some (stream.Malformed place))
    × IsAtBy side new fed taken
Answers side (Err (refusal.LineTooLong place)) fed new taken =
    ((stream.stream_by side fed).fault ≡ Some (stream.LineTooLong place))
    × IsAtBy side new fed taken
Answers side (Err refusal.Memory) fed new taken = Unit {0}
