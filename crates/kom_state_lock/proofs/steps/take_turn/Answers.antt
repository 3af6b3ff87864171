use Rattle.std.proofs.Common.{◌≡◌, [], ◌∷◌, Some, sym, ap, ◌∙◌}
use Rattle.atomic_table.specs.Table.{rest}
use Rattle.kom_state_lock.proofs.steps.take_turn.Goals as goal

pub exchange-requires : goal.exchange-requires
exchange-requires g c =
    let took = c.wait_turn.ensures.taken in
    let drew = c.draw-ticket.ensures in
    let slots : c.wait_turn.new.seat.me.1 ≡ (0, Some took.0) ∷ [] = ap (λ m. m.1) took.2
    ∙ ap (λ l. (0, Some took.0) ∷ l) (ap (λ m. m.1) drew.drawn.0 ∙ c.requires.free.1) in (
      c.wait_turn.ensures.seat.0 ∙ (drew.seat.0 ∙ c.requires.table.1),
      (Some took.0, slots ∙ ap (λ l. (0, Some took.0) ∷ rest l) (sym slots)),
    )
