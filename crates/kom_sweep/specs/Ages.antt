-- What is known of the comments and footnotes to a text, and of the days of its recipients.
use Rattle.std.specs.Prelude.{◌≡◌, ℕ, nat_lt, ◌&&◌, ◌||◌, Bool, true, false, List}
use Rattle.std.specs.Prelude.{Option, Some, None, if◌then◌else◌}
use Rattle.std.specs.List.{list_all}
use Rattle.kom_types.specs.declared.replies.Reply.{Reply}
use Rattle.kom_sweep.specs.declared.ages.Ages.{Ages}
use Rattle.kom_sweep.specs.declared.rule.Days.{Days}
use Rattle.kom_sweep.specs.Due.{is_told, are_older}

-- one more age of the youngest
abbrev pub least : ℕ → Option ℕ → ℕ
least age None = age
least age (Some youngest) = if nat_lt age youngest then age else youngest

abbrev pub with_age : Ages → Option ℕ → Ages
with_age ages None = record ages { are_told = false }
with_age ages (Some age) = record ages { youngest = Some (least age ages.youngest) }

-- the youngest, if there is one, is older than so many days
abbrev pub is_above : ℕ → Option ℕ → Bool
is_above days None = true
is_above days (Some youngest) = nat_lt days youngest

-- whether all were told, and whether all that were are older than any number of days
pub record TellsOf (moment : ℕ) (children : List (ℕ × Option Reply)) (ages : Ages) : Type 0 where
  pub all : ages.are_told ≡ list_all is_told children
  pub older : (days : ℕ) → is_above days ages.youngest ≡ are_older moment days children

-- a conference of these days lets go, by what is known
abbrev pub lets_go_by : ℕ → Ages → Days → Bool
lets_go_by age ages days = (nat_lt 0 days.expire && nat_lt days.expire age)
    || (nat_lt days.nice age && is_above days.keep_commented ages.youngest)
