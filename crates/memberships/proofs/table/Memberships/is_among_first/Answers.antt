use Rattle.std.proofs.Common.{is_some, option_copied, sym, ap, ◌∙◌}
use Rattle.std.proofs.lemmas.Bool.{false≢true}
use Rattle.memberships.proofs.Finding.{none_of, element_of, conference_kept}
use Rattle.memberships.proofs.Joined.{whole_first, before_next, none_first}
use Rattle.memberships.proofs.table.Memberships.is_among_first.Goals as goal

pub returns-in_default : goal.returns-in_default
returns-in_default c =
    rw (← c.self.view_is)
    (sym (none_first _ _ _ _ c.self.invariant.0 c.args.person c.args.conference c.args.count
    (sym c.get.ensures.value ∙ ap option_copied c.in_default.is)))

pub returns-in_default-get : goal.returns-in_default-get
returns-in_default-get c =
    let there = sym c.get.ensures.value ∙ ap option_copied c.in-Some.is in
    let none = none_of _ _ c.args.count c.list.ensures c.in_default-get.ensures.lookup.3 in
    rw (← c.self.view_is)
    (sym (whole_first _ _ _ _ c.self.invariant.0 c.args.person c.args.conference c.in-Some.kept.now there c.args.count
    none))

-- the next member is kept
pub unreachable-requires : goal.unreachable-requires
unreachable-requires c =
    let gives = c.in-Some-get.ensures.lookup in
    let at = element_of _ _ c.args.count c.in-Some-get.next.now c.list.ensures gives.3.0 gives.1 in
    let there = conference_kept _ _ _ _ c.self.invariant.0 c.args.conference c.args.count c.in-Some-get.next.now at in
    false≢true (ap is_some (ap option_copied (sym c.in-None.is) ∙ c.get-3.ensures.value) ∙ there)

pub returns : goal.returns
returns c =
    let gives = c.in-Some-get.ensures.lookup in
    let at = element_of _ _ c.args.count c.in-Some-get.next.now c.list.ensures gives.3.0 gives.1 in
    let there = sym c.get.ensures.value ∙ ap option_copied c.in-Some.is in
    let its = sym c.get-3.ensures.value ∙ ap option_copied c.in-Some-get-2.is in
    rw (← c.self.view_is)
    (sym (before_next _ _ _ _ c.self.invariant.0 c.args.person c.args.conference c.in-Some.kept.now there c.args.count
    c.in-Some-get.next.now c.in-Some-get-2.other.now at its))
