use Rattle.std.proofs.Common.{◌≡◌, ℕ, false, not, Option, Some, None, option_map, refl, sym, ap, ◌∙◌, rules, tests}
use Rattle.std.proofs.lemmas.Option.{none-some, same_Some}
use Rattle.kom_types.specs.declared.memberships.MembershipRow.{MembershipRow}
use Rattle.kom_types.specs.tables.Memberships.{is_secret_membership}
use Rattle.kom_model.specs.Db.{membership_of, membership_kind_of}
use Rattle.query_calls.proofs.hidden.is_plain_member.Goals as goal

-- by the kind of what is found
by_none : (found : Option MembershipRow) → option_map (λ row. row.kind) found ≡ None →
    false ≡ elim found [ None ↦ false | Some row ↦ not (is_secret_membership row.kind) ]
by_none None is = refl
by_none (Some row) is = absurd (none-some row.kind (sym is))

by_some : (found : Option MembershipRow) (kind : ℕ) → option_map (λ row. row.kind) found ≡ Some kind →
    not (is_secret_membership kind) ≡ elim found [ None ↦ false | Some row ↦ not (is_secret_membership row.kind) ]
by_some None kind is = absurd (none-some kind is)
by_some (Some row) kind is = ap (λ k. not (is_secret_membership k)) (sym (same_Some row.kind kind is))

pub returns-in-None : goal.returns-in-None
unfolding membership_kind_of
returns-in-None c =
    by_none (membership_of c.args.rows.now.db c.args.person c.args.conference)
    (sym c.membership_kind.ensures ∙ c.in-None.is)

pub returns-in-Some : goal.returns-in-Some
unfolding membership_kind_of
returns-in-Some c =
    (search (rules, tests))
    ∙ by_some (membership_of c.args.rows.now.db c.args.person c.args.conference) c.in-Some.kind
    (sym c.membership_kind.ensures ∙ c.in-Some.is)
