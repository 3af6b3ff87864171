-- What a printed line is split into.
use Rattle.std.specs.Prelude.{◌≡◌, ℕ, List}
use Rattle.kom_types.specs.declared.side.Side.TheVariants as side
use Rattle.kom_types.specs.Grammar.{Whole, line_form}
use Rattle.kom_types.specs.Token.{Token}

-- these bytes are one line of a server, and this holds of its tokens
abbrev pub IsSplit : List ℕ → (List Token → Type 0) → Type 0
IsSplit bytes Holds =
    (tokens : List Token) × ((line_form side.Server bytes ≡ Whole tokens) × Holds tokens)
