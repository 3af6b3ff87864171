-- The exit statuses of the program.
use Rattle.std.specs.Prelude.{◌≡◌, ◌⊎◌, ℕ, Bool, if◌then◌else◌}
use Rattle.kom_commands.specs.declared.cases.Cases.{Cases}

-- the status of the first case that was met, and 0 of none; the last ones are that a sweep was
-- refused or given up, that the sink failed, and that memory ran out
abbrev pub status_of : Cases → Bool → ℕ
status_of cases sink_failed =
    if cases.store_failed then 3
    else if cases.is_unfit then 4
    else if cases.gate_failed then 5
    else if cases.is_refused then 8
    else if cases.is_given_up then 10
    else if sink_failed then 7
    else if cases.no_memory then 6
    else 0

-- the statuses of commands that are carried out
abbrev pub IsStatus : ℕ → Type 0
IsStatus status = (status ≡ 0) ⊎ (status ≡ 3) ⊎ (status ≡ 4) ⊎ (status ≡ 5) ⊎ (status ≡ 6)
    ⊎ (status ≡ 7) ⊎ (status ≡ 8) ⊎ (status ≡ 10)
