-- The lines that tell what a run came to.
use Rattle.std.specs.Prelude.{ℕ, List, ◌++◌, codes}
use Rattle.kom_commands.specs.Reports.{line}
use Rattle.kom_load.specs.declared.summaries.Summary.{Summary}

abbrev pub lines_of : Summary → List ℕ
lines_of summary =
    line (codes "calls") summary.calls ++ line (codes "ok") summary.ok
    ++ line (codes "refused") summary.refused ++ line (codes "conferences") summary.conferences
    ++ line (codes "texts") summary.texts
