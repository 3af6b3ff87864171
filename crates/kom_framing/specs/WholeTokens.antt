-- The tokens of a window that begins with a line, each with the byte after it.
use Rattle.std.specs.Prelude.{◌≡◌, ℕ, ◌+◌, ◌^◌, ◌-◌, ◌<◌, ◌≤◌, List, [], ◌∷◌, ◌++◌, length, get_or}
use Rattle.std.specs.Prelude.{take}
use Rattle.kom_types.specs.declared.side.Side.{Side}
use Rattle.kom_types.specs.declared.byte_kind.ByteKind.TheVariants as kind
use Rattle.kom_types.specs.ByteKind.{kind_of}
use Rattle.kom_framing.specs.declared.lexer.Lexer.{Lexer}
use Rattle.kom_framing.specs.declared.lexer.Lexer.TheVariants as lexer
use Rattle.kom_framing.specs.Scanning.{IsBegun}
use Rattle.kom_framing.specs.BegunLines.{EndsIn}

-- a line that has come as far as `start` goes on so to `end`, where these starts are added
abbrev pub Leads : List ℕ → ℕ → ℕ → List ℕ → Lexer → Type 0
Leads window start end more after =
    (side : Side) (starts : List ℕ) → IsBegun side (take start window) starts lexer.Between
    → IsBegun side (take end window) (starts ++ more) after

-- a run of digits goes from one place to another, and spells this number
pub record IsRunTo (window : List ℕ) (start end number : ℕ) : Type 0 where
  pub some : start < end
  pub within : end ≤ length window
  pub short : end ≤ start + 16
  pub small : number < 10 ^ (end - start)
  pub leads : Leads window start end [] (lexer.Run start number)

-- a token goes from one place to another, if a blank or the line's end is after it
pub record IsTokenTo (window : List ℕ) (start end : ℕ) : Type 0 where
  pub some : start < end
  pub blank : end < length window → kind_of (get_or window end 0) ≡ kind.Blank
      → Leads window start (end + 1) (start ∷ []) lexer.Between
  pub feed : end < length window → kind_of (get_or window end 0) ≡ kind.LineFeed
      → (side : Side) (starts : List ℕ) → IsBegun side (take start window) starts lexer.Between
      → EndsIn side [] window (starts ++ start ∷ []) (end + 1)
