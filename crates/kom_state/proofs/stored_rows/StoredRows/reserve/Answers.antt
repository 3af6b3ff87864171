use Rattle.std.proofs.Common.{sym, ◌∙◌}
use Rattle.kom_state.proofs.Roomless.{roomless_room}
use Rattle.kom_state.proofs.stored_rows.StoredRows.reserve.Goals as goal

pub returns-then-are_of_texts-clause-ok : goal.returns-then-are_of_texts-clause-ok
returns-then-are_of_texts-clause-ok c =
    roomless_room _ c.args.effects.now (sym c.are_of_texts.ensures ∙ c.if-are_of_texts.true)
    c.in_ok-reserve_texts.ensures.ok
