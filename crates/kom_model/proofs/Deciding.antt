-- What holds of every refusal and of what a definition gives holds of what its call comes to.
use Rattle.std.proofs.Common.{◌≡◌, ℕ, true, false, cond, List, [], Some, None, refl, length}
use Rattle.std.specs.Prelude.{nat_le}
use Rattle.kom_types.specs.declared.limits.TheConstants.{LONGEST_REPLY}
use Rattle.kom_types.specs.declared.calls.Call.{Call}
use Rattle.kom_types.specs.declared.decisions.Decision.{Decision}
use Rattle.kom_types.specs.declared.effects.Effect.{Effect}
use Rattle.kom_types.specs.declared.items.Item.TheVariants as item
use Rattle.kom_types.specs.Printing.{print_of}
use Rattle.kom_model.specs.declared.call_errors.Refused.{Refused}
use Rattle.kom_model.specs.calls.Call.{Asked, Definition, outcome_of, refuse}
use Rattle.kom_model.specs.Decide.{definition_of, decision_of, limit_reply}

module _ (P : Decision → Type 0) (refused : (why : Refused) → P (refuse why)) where
  decided-meets : (definition : Definition) → (definition.early ≡ None → P definition.rest) → P (outcome_of definition)
  decided-meets definition rest =
      elim definition.early as
      (λ early. (early ≡ None → P definition.rest) → P (outcome_of (record { early = early; rest = definition.rest })))
      [ Some why ↦ λ wrong. refused why | None ↦ λ holds. holds refl ] rest

  limited-meets : (reference : ℕ) (decision : Decision) → P decision → P (limit_reply reference decision)
  limited-meets reference decision holds =
      elim (nat_le (length (print_of (item.Reply reference decision.reply))) LONGEST_REPLY) as
      (λ b. P (cond b decision (refuse (record { code = 46; status = 0 }))))
      [ true ↦ holds | false ↦ refused (record { code = 46; status = 0 }) ]

  pub decision-meets : (asked : Asked) (what : Call) →
      ((definition_of asked what).early ≡ None → P (definition_of asked what).rest) → P (decision_of asked what)
  unfolding decision_of
  decision-meets asked what rest =
      limited-meets asked.reference (outcome_of (definition_of asked what))
      (decided-meets (definition_of asked what) rest)

-- the same of its effects alone
pub decision-holds : (P : List Effect → Type 0) → P [] → (asked : Asked) (what : Call) →
    ((definition_of asked what).early ≡ None → P (definition_of asked what).rest.effects) →
    P (decision_of asked what).effects
decision-holds P none asked what rest =
    decision-meets (λ decision. P decision.effects) (λ why. none) asked what rest
