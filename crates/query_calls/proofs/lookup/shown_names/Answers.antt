use Rattle.std.proofs.Common.{◌≡◌, ℕ, List, [], ◌∷◌, ◌++◌, map, take, sym, ap, ◌∙◌}
use Rattle.std.specs.List.{filter_map}
use Rattle.std.proofs.lemmas.List.{take_all}
use Rattle.kom_types.specs.Names.{finds}
use Rattle.kom_model.specs.calls.Conferences.{name_of}
use Rattle.query_calls.specs.Shown.{shown_of}
use Rattle.query_calls.proofs.Shown.{names_shown, names_hidden, shown_all}
use Rattle.query_calls.proofs.lookup.shown_names.Goals as goal
use Rattle.query_calls.proofs.lookup.shown_names.Goals.{in-Some+in_ok-name_of+in_ok-push, in_default}

pub loop-number-preserved : goal.loop-number-preserved
loop-number-preserved c =
    let names = c.loop-number.names in
    elim c.match-shown.branch [
      | in-Some+in_ok-name_of+in_ok-push w ↦
          names_shown _ _ _ _ _ _ c.loop-number-test.true names _ _ c.loop-number.invariant (sym w.in-Some.ensures)
          (w.names-is ∙ w.in_ok-push.ensures.ok ∙ ap (λ one. names ++ one ∷ []) w.in_ok-name_of.ensures)
      | in_default w ↦
          rw w.names-is
          (names_hidden _ _ _ _ _ _ c.loop-number-test.true names c.loop-number.invariant (sym w.in_default.ensures))
    ]

pub returns : goal.returns
returns c =
    let shown : List ℕ → _ = filter_map
    (shown_of c.rows-rows.result.now.db c.caller-caller.result c.args.persons c.args.conferences) in
    let numbers : take c.loop-number.number-index c.as_slice-number-items.result.now ≡ c.in_ok-numbers.numbers =
    take_all _ _ c.loop-number-test.false ∙ c.as_slice-number-items.ensures in
    rw (← c.caller-caller.ensures, ← c.rows-rows.ensures)
    (c.loop-number.invariant
    ∙ ap (λ those. map name_of (shown those)) numbers
    ∙ ap (map name_of) (shown_all _ _ _ _ (λ row. finds c.args.pattern.now row.name) _ c.in_ok-numbers.ensures.rising
    c.in_ok-numbers.ensures.found))
