-- How often numbers are needed of the room for texts.
use Rattle.std.specs.Prelude.{◌≡◌, ℕ, Bool, false, List, Option, Some, None, count_by, nat_eq}
use Rattle.std.specs.HashMap.{HashMap, get}
use Rattle.std.specs.Map.{count_at}
use Rattle.std.specs.Option.{option_map_or}
use Rattle.texts.specs.declared.needs.Need.{Need}
use Rattle.texts.specs.declared.needs.Need.TheVariants as need

-- the number of the text, conference or person that a need is of
abbrev pub number_of : Need → Option ℕ
number_of need.Text = None
number_of need.Recipient = None
number_of (need.RecipientOf text) = Some text
number_of (need.Local conference) = Some conference
number_of need.Link = None
number_of (need.LinkFrom text footnote) = Some text
number_of (need.LinkInto text footnote) = Some text
number_of need.Mark = None
number_of (need.MarkOf person) = Some person
number_of (need.MarkOn text) = Some text
number_of (need.Created person) = Some person

-- whether a need is of this number
abbrev pub is_of : ℕ → Need → Bool
is_of number need = option_map_or (nat_eq number) (number_of need) false

-- each number is counted as often as needs are of it
abbrev pub AreCounts : {S : Type 0} → HashMap ℕ ℕ S → List Need → Type 0
AreCounts counts needs =
    (number : ℕ) → count_at (get nat_eq counts) number ≡ count_by (is_of number) needs
