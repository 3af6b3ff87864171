use Rattle.std.proofs.Common.{◌≡◌, ℕ, ◌++◌, map, sym, ap, ◌∙◌}
use Rattle.std.proofs.lemmas.List.{append-nil, at_drop_all}
use Rattle.std.proofs.lemmas.Simd.{map-map}
use Rattle.kom_types.specs.declared.effects.Effect.{Effect}
use Rattle.kom_types.specs.declared.effects.Effect.TheVariants as effect
use Rattle.kom_types.specs.declared.memberships.MembershipRow.{MembershipRow}
use Rattle.kom_model.specs.Db.{memberships_at}
use Rattle.conf_calls.proofs.deletion.push_memberships.Goals as goal

abbrev key_of : MembershipRow → ℕ × ℕ
key_of = λ row. (row.person, row.conference)

pub returns : goal.returns
returns c =
    let old = c.args.effects.now in
    let now = c.loop-person.effects in
    let keys = c.deref-person-items.result.now in
    let rows = memberships_at c.args.rows.now.db c.args.number in
    let gone : ℕ × ℕ → Effect = λ key. effect.MemberGone key.0 key.1 in
    let told : keys ≡ map key_of rows = c.deref-person-items.ensures.value ∙ c.in_ok-keys.ensures in
    sym (append-nil now)
    ∙ sym (at_drop_all (λ rest. now ++ map gone rest) keys c.loop-person.person-index c.loop-person-test.false)
    ∙ c.loop-person.invariant
    ∙ ap (λ all. old ++ all) (ap (map gone) told ∙ map-map gone key_of rows)
