use Rattle.std.specs.Prelude.{ℕ, Bool, ◌==◌, ◌||◌, ◌&&◌, nat_le, if◌then◌else◌}
use Rattle.kom_types.specs.declared.byte_kind.ByteKind.{ByteKind}
use Rattle.kom_types.specs.declared.byte_kind.ByteKind.TheVariants.{Blank, LineFeed, Digit}
use Rattle.kom_types.specs.declared.byte_kind.ByteKind.TheVariants.{Hollerith, Open, Close, Star}
use Rattle.kom_types.specs.declared.byte_kind.ByteKind.TheVariants.{Sign, Other}

-- a space, a tab or a carriage return
abbrev pub is_blank : ℕ → Bool
is_blank byte = byte == 32 || byte == 9 || byte == 13

-- a decimal digit
abbrev pub is_digit : ℕ → Bool
is_digit byte = nat_le 48 byte && nat_le byte 57

-- `=`, `%` or `:`
abbrev pub is_sign : ℕ → Bool
is_sign byte = byte == 61 || byte == 37 || byte == 58

-- what a byte may be in a line, outside a string's bytes
abbrev pub kind_of : ℕ → ByteKind
kind_of byte =
    if is_blank byte then Blank
    else if byte == 10 then LineFeed
    else if is_digit byte then Digit
    else if byte == 72 then Hollerith
    else if byte == 123 then Open
    else if byte == 125 then Close
    else if byte == 42 then Star
    else if is_sign byte then Sign
    else Other
