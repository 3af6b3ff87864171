use Rattle.std.proofs.Common.{Some, option_map, option_copied, sym, ap, ◌∙◌}
use Rattle.kom_types.specs.tables.Memberships.{at_place}
use Rattle.memberships.proofs.Finding.{found, not_found}
use Rattle.memberships.proofs.table.Memberships.unplaced.Goals as goal

pub returns-in_err-kept : goal.returns-in_err-kept
returns-in_err-kept c =
    rw (← c.self.view_is)
    (c.from_residual.ensures
    ∙ sym (ap (option_map (at_place 0)) (not_found _ _ _ _ c.self.invariant.0 c.args.person c.args.conference
    (sym c.get.ensures.value ∙ ap option_copied c.in_err-kept.was))))

pub returns : goal.returns
returns c =
    rw (← c.self.view_is)
    (ap Some c.show.ensures
    ∙ sym (ap (option_map (at_place 0)) (found _ _ _ _ c.self.invariant.0 c.args.person c.args.conference
    c.in_ok-kept.kept.now (sym c.get.ensures.value ∙ ap option_copied c.in_ok-kept.was))))
