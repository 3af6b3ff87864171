use Rattle.std.proofs.Common.{◌≡◌, cond, sym, ap, subst, ◌∙◌}
use Rattle.std.proofs.lemmas.Bool.{eq-eqb, not-true}
use Rattle.kom_types.specs.declared.errors.TheConstants as error
use Rattle.kom_model.specs.Effects.{has_letterbox}
use Rattle.kom_model.specs.calls.Guards.{Guard, Guards, refusal, free_guard}
use Rattle.name_lookup.specs.NamedRows.{clash_of}
use Rattle.kom_state.proofs.Names.{free-taken, free-not_taken}
use Rattle.kom_state.proofs.Taken.{free_guard-free, free_guard-taken}
use Rattle.kom_state.proofs.stored_rows.StoredRows.free_guard.Goals as goal
use Rattle.kom_state.proofs.stored_rows.StoredRows.free_guard.Goals.{In-Some}

refused : (c : In-Some) → (c.in-Some.other ≡ c.args.number → ⊥) →
    free_guard c.args.self.now.db c.args.number c.args.name.now
    ≡ cond (has_letterbox c.args.self.now.db c.in-Some.other) (refusal error.PERSON_EXISTS 0)
    (refusal error.CONFERENCE_EXISTS 0)
refused c apart =
    let name = c.args.name.now in
    rw (← c.self.view_is)
    (free_guard-taken _ c.args.number c.in-Some.other name c.self.invariant.whole.conferences.rising
    (sym (ap (clash_of name) c.self.invariant.same_names) ∙ sym c.taken.ensures.number ∙ c.in-Some.is) apart)

pub returns-then-has_letterbox : goal.returns-then-has_letterbox
returns-then-has_letterbox c =
    let eq = refused (goal.at.returns-then-has_letterbox c).In-Some c.if-other-number.false
    ∙ ap (λ b. cond b (refusal error.PERSON_EXISTS 0) (refusal error.CONFERENCE_EXISTS 0))
    (sym c.has_letterbox.ensures ∙ c.if-has_letterbox.true) in
    subst (λ (guard : Guard). Guards guard c.refuse.result) (sym eq) c.refuse.ensures

pub returns-else-has_letterbox : goal.returns-else-has_letterbox
returns-else-has_letterbox c =
    let eq = refused (goal.at.returns-else-has_letterbox c).In-Some c.if-other-number.false
    ∙ ap (λ b. cond b (refusal error.PERSON_EXISTS 0) (refusal error.CONFERENCE_EXISTS 0))
    (sym c.has_letterbox.ensures ∙ c.if-has_letterbox.false) in
    subst (λ (guard : Guard). Guards guard c.refuse-else-has_letterbox.result) (sym eq)
    c.refuse-else-has_letterbox.ensures

pub returns-then-other-number : goal.returns-then-other-number
returns-then-other-number c =
    let rows = c.self.inside.conferences.rows in let name = c.args.name.now in
    let found = sym (ap (clash_of name) c.self.invariant.same_names) ∙ sym c.taken.ensures.number ∙ c.in-Some.is in
    let apart = rw c.self.invariant.same_names at c.taken.ensures.none_clash in
    rw (← c.self.view_is)
    (free_guard-free _ c.args.number name (not-true _
    (free-taken c.args.number c.in-Some.other name rows apart found
    ∙ eq-eqb c.in-Some.other c.args.number c.if-other-number.true)))

pub returns-in-None : goal.returns-in-None
returns-in-None c =
    let rows = c.self.inside.conferences.rows in let name = c.args.name.now in
    let none = sym (ap (clash_of name) c.self.invariant.same_names) ∙ sym c.taken.ensures.number ∙ c.in-None.is in
    rw (← c.self.view_is) (free_guard-free _ c.args.number name (free-not_taken c.args.number name rows none))
