use Rattle.std.specs.Prelude.{ℕ, ◌==◌, List, [], ◌∷◌, ◌++◌, Option, Some, None, option_map}
use Rattle.std.specs.Prelude.{option_and_then, find}
use Rattle.std.specs.Option.{option_or}
use Rattle.kom_types.specs.declared.errors.TheConstants as error
use Rattle.kom_types.specs.declared.calls.Call.{Call}
use Rattle.kom_types.specs.declared.calls.Call.TheVariants.{Refused}
use Rattle.kom_types.specs.Token.{Token, integer_of}
use Rattle.kom_types.specs.calls.Arguments.{Taken, Took, Departs, Malformed, BadBool, LongArray}
use Rattle.kom_types.specs.calls.Pattern.{Pattern}
use Rattle.kom_types.specs.calls.Sessions as Sessions
use Rattle.kom_types.specs.calls.Server as Server
use Rattle.kom_types.specs.calls.Persons as Persons
use Rattle.kom_types.specs.calls.Conferences as Conferences
use Rattle.kom_types.specs.calls.Texts as Texts
use Rattle.kom_types.specs.calls.Memberships as Memberships
use Rattle.kom_types.specs.calls.AuxItems as AuxItems
use Rattle.kom_types.specs.Stream.{Line, Fault, stream_of}
use Rattle.kom_types.specs.Stream as stream

-- the patterns of all calls
unfoldable pub patterns : List Pattern
patterns =
    Sessions.patterns ++ Server.patterns ++ Persons.patterns ++ Conferences.patterns
    ++ Texts.patterns ++ Memberships.patterns ++ AuxItems.patterns

-- The call that arguments come to: the one that they make; or what the reader refuses, error 61
-- for an integer in place of a truth value and 46 for an array that is too long; or none where they
-- depart from the pattern otherwise.
abbrev pub call_told : Taken Call → Option Call
call_told (Took call tail) = Some call
call_told (Departs Malformed) = None
call_told (Departs BadBool) = Some (Refused error.BAD_BOOL 0)
call_told (Departs LongArray) = Some (Refused error.LONG_ARRAY 0)

-- the call that arguments make by a pattern, if one was found; a number that is not known is
-- refused with error 2, status 0, whatever follows it
abbrev pub call_by : Option Pattern → List Token → Option Call
call_by (Some pattern) arguments = call_told (pattern.reads arguments)
call_by None arguments = Some (Refused error.NOT_IMPLEMENTED 0)

-- the call of a number and its arguments, or none where they depart from its pattern
unfoldable pub call_of : ℕ → List Token → Option Call
call_of number arguments = call_by (find (λ pattern. pattern.number == number) patterns) arguments

-- a line that was read: the client's reference, and the call
pub record Request : Type 0 where
  pub reference : ℕ
  pub call : Call

-- A line is a reference number, a call number and the call's arguments, or it is malformed.
-- (Protocol A, "Client-Server Protocol".)
unfoldable pub reading_of : List Token → Option Request
reading_of [] = None
reading_of (reference ∷ []) = None
reading_of (reference ∷ number ∷ arguments) =
    option_and_then (λ r. option_and_then (λ n.
    option_map (λ call. record { reference = r; call = call }) (call_of n arguments))
    (integer_of number)) (integer_of reference)

-- the place of the line feed of the first line that is malformed
abbrev pub first_malformed : List Line → Option ℕ
first_malformed [] = None
first_malformed (line ∷ lines) =
    elim (reading_of line.tokens) [ None ↦ Some line.end | Some request ↦ first_malformed lines ]

-- where a stream's fault stands
abbrev pub place_of : Fault → ℕ
place_of (stream.Malformed place) = place
place_of (stream.LineTooLong place) = place

-- The place at which a stream departs from the protocol: that of its first malformed line, or else
-- of its own fault.
abbrev pub fault_of : List ℕ → Option ℕ
fault_of bytes =
    let split = stream_of bytes in
    option_or (first_malformed split.lines) (option_map place_of split.fault)
