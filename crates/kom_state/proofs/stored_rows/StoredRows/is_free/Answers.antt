use Rattle.std.proofs.Common.{not, sym, ap, ◌∙◌}
use Rattle.std.specs.List.{list_any}
use Rattle.kom_model.specs.Db.{conferences_of}
use Rattle.name_lookup.specs.NamedRows.{clash_of}
use Rattle.kom_state.proofs.Names.{is_other, free-not_taken, free-taken}
use Rattle.kom_state.proofs.stored_rows.StoredRows.is_free.Goals as goal

pub returns-in-None : goal.returns-in-None
unfolding conferences_of
returns-in-None c =
    let rows = c.self.inside.conferences.rows in let name = c.args.name.now in
    let none = sym (ap (clash_of name) c.self.invariant.same_names) ∙ sym c.taken.ensures.number ∙ c.in-None.is in
    sym (ap (λ s. not (list_any (is_other c.args.number name) s.db.conferences)) (sym c.self.view_is)
    ∙ ap not (free-not_taken c.args.number name rows none))

pub returns-in-Some : goal.returns-in-Some
unfolding conferences_of
returns-in-Some c =
    let rows = c.self.inside.conferences.rows in let name = c.args.name.now in
    let first = sym (ap (clash_of name) c.self.invariant.same_names) ∙ sym c.taken.ensures.number ∙ c.in-Some.is in
    let apart = rw c.self.invariant.same_names at c.taken.ensures.none_clash in
    sym (ap (λ s. not (list_any (is_other c.args.number name) s.db.conferences)) (sym c.self.view_is)
    ∙ free-taken c.args.number c.in-Some.other name rows apart first)
