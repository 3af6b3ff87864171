use Rattle.std.proofs.Common.{◌≡◌, map, take}
use Rattle.std.specs.List.{filter_map}
use Rattle.kom_model.specs.calls.Conferences.{name_of}
use Rattle.query_calls.specs.Shown.{shown_of}
use Rattle.query_calls.proofs.lookup.shown_names.Given as goal

abbrev pub invariant-loop-number : goal.invariant-loop-number
invariant-loop-number l =
    l.names
    ≡ map name_of (filter_map (shown_of l.rows.db l.caller l.persons l.conferences)
    (take l.number-index l.number-items))
