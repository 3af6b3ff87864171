use Rattle.std.proofs.Common.{◌≡◌, [], ◌∷◌, Some, sym, ap, ◌∙◌, subst, arith}
use Rattle.atomic_table.specs.Table.{rest}
use Rattle.kom_state_lock.specs.Passes.{MayPut}
use Rattle.kom_state_lock.proofs.Turns.{hands_on_allowed}
use Rattle.kom_state_lock.proofs.steps.hand_on.Goals as goal

pub fetch_add-served-requires : goal.fetch_add-served-requires
fetch_add-served-requires g c =
    let key = c.args.words.now.key in
    let b = g.B.Booked in
    let e = c.exchange.ensures in
    let view : c.exchange.new.seat.me.0 ≡ c.args.seat.now.me.0 = ap (λ m. m.0) e.3 in
    let slot : c.exchange.new.seat.me.1 ≡ (0, Some c.args.value) ∷ [] = ap (λ m. m.1) e.3
    ∙ ap (λ l. (0, Some c.args.value) ∷ rest l) c.requires.carries in (
      e.0 ∙ c.requires.table.1,
      omega (arith, c.requires.table.0.0),
      hands_on_allowed b.pass_of b.led key.value.value key.passes b.stays (b.staying_leads key.value.value)
          c.args.words.now.table_id.slots c.exchange.new.seat.id c.exchange.new.seat.me c.args.value
          (subst (λ v. MayPut b.stays v.turn c.args.value) (sym view) c.requires.value) slot,
    )
