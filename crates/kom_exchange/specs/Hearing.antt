-- What a server was heard to say, of the bytes that its link gave.
use Rattle.std.specs.Prelude.{◌≡◌, ℕ, ◌⊎◌, Bool, true, false, List, ◌∷◌, ◌++◌}
use Rattle.std.specs.Prelude.{Option, IfSome}
use Rattle.kom_types.specs.declared.replies.Reply.{Reply}
use Rattle.kom_types.specs.declared.side.Side.TheVariants as side
use Rattle.kom_types.specs.Stream.{Line, stream_by}
use Rattle.kom_framing.specs.declared.units.Unit.{Unit as StreamUnit}
use Rattle.kom_framing.specs.declared.units.Unit.TheVariants as unit
use Rattle.kom_framing.specs.Splitting.{Splitting, IsAtBy, units_of}
use Rattle.kom_links.specs.Talk.{IsPrefix}
use Rattle.kom_records.specs.declared.replies.ResultKind.{ResultKind}
use Rattle.kom_records.specs.Replies.{IsReplyLine}

-- a unit of the stream of which these bytes are the first
pub record HasUnit (one : StreamUnit) (taken : List ℕ) : Type 0 where
  pub fed : List ℕ
  pub before : List StreamUnit
  pub after : List StreamUnit
  pub first : IsPrefix fed taken
  pub stands : units_of (stream_by side.Server fed) ≡ before ++ one ∷ after

-- a line of it that spells such a reply, with the reference of its request
pub record HasReply (which : ResultKind) (read : ℕ × Reply) (taken : List ℕ) : Type 0 where
  pub line : Line
  pub spelled : IsReplyLine which line.tokens read
  pub heard : HasUnit (unit.Line line) taken

-- What a splitter holds, of what a link gave: it was fed all of it, unless memory ran out.
pub record IsSplit (splitting : Splitting) (has_fault : Bool) (taken : Option (List ℕ))
    : Type 0 where
  pub fed : List ℕ
  pub units : List StreamUnit
  pub at : IsAtBy side.Server splitting fed units
  pub begun : IfSome taken (λ bytes. IsPrefix fed bytes)
  pub whole : has_fault ≡ false → IfSome taken (λ bytes. bytes ≡ fed)

-- A piece more was fed; or memory ran out, which is noted, and none of it was.
abbrev pub Feeds : Splitting → List ℕ → Splitting → Bool → Type 0
Feeds old piece new has_fault = (fed : List ℕ) (units : List StreamUnit)
    → IsAtBy side.Server old fed units
    → IsAtBy side.Server new (fed ++ piece) units
    ⊎ (has_fault ≡ true) × IsAtBy side.Server new fed units
