use Rattle.std.proofs.Common.{◌≡◌, List, ℕ, map, filter, IfOk, ap, subst, ◌∙◌}
use Rattle.kom_types.specs.Names.{finds}
use Rattle.kom_types.specs.tables.Conferences.{number_of_conference}
use Rattle.kom_model.specs.Db.{conferences_of}
use Rattle.name_lookup.specs.NamedRows.{matches_of}
use Rattle.kom_state.proofs.Names.{found-names}
use Rattle.kom_state.proofs.stored_rows.StoredRows.find_conferences.Goals as goal

pub returns-clause-found : goal.returns-clause-found
unfolding conferences_of
returns-clause-found c =
    let pattern = c.args.pattern.now in
    subst (λ (numbers : List ℕ). IfOk c.find.result (λ found. found ≡ numbers))
    (ap (matches_of pattern) c.self.invariant.same_names ∙ found-names pattern c.self.inside.conferences.rows
    ∙ ap (λ s. map number_of_conference (filter (λ row. finds pattern row.name) s.db.conferences)) c.self.view_is)
    c.find.ensures
