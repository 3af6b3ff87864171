-- What comes next.
use Rattle.std.specs.Prelude.{ℕ, Bool, nat_lt, List, fold, filter, find, Option, Some, None}
use Rattle.std.specs.Prelude.{if◌then◌else◌}
use Rattle.std.specs.List.{list_any}
use Rattle.kom_reader.specs.declared.rows.Row.{Row}
use Rattle.kom_reader.specs.declared.rows.Place.{Place}
use Rattle.kom_reader.specs.declared.steps.Step.{Step}
use Rattle.kom_reader.specs.declared.steps.Step.TheVariants as step
use Rattle.kom_reader.specs.Reading.{Reading, is_unread, is_row_in}

-- the one of two rows that has the lower local number
abbrev pub lower : Option Row → Row → Option Row
lower None row = Some row
lower (Some first) row = if nat_lt row.local first.local then Some row else Some first

-- the unread row of a conference that has the lowest local number
abbrev pub first_in : ℕ → List Row → Option Row
first_in conference rows = fold lower None (filter (is_row_in conference) rows)

-- a membership in which something is unread
abbrev pub has_rows : List Row → Place → Bool
has_rows rows place = list_any (is_row_in place.conference) rows

abbrev pub step_elsewhere : Option Place → Step
step_elsewhere (Some place) = step.Go place.conference
step_elsewhere None = step.Wait

abbrev pub step_here : Option Row → Option Place → Step
step_here (Some row) place = step.Text row.text
step_here None place = step_elsewhere place

abbrev pub step_of : Option ℕ → Option Row → Option Place → Step
step_of (Some text) row place = step.Branch text
step_of None row place = step_here row place

-- First come the texts of the branch that are unread, then those of the conference by their local
-- numbers, and then the conference of the highest rank in which something is unread.
abbrev pub next_step : Reading → Step
next_step reading =
    step_of (find (λ text. is_unread text reading.rows) reading.branch)
    (first_in reading.working reading.rows) (find (has_rows reading.rows) reading.places)
