use Rattle.std.proofs.Common.{◌∙◌, sym, ap}
use Rattle.std.specs.Option.{option_map}
use Rattle.std.proofs.lemmas.Option.{slice_get-map}
use Rattle.indexmap.specs.IndexMap.{values}
use Rattle.sessions.proofs.table.Sessions.nth_seat.Goals as goal

pub returns : goal.returns
returns c =
    let rows = c.self.inside.rows in
    rw (← c.self.view_is, c.seat.ensures)
    (ap (λ entry. option_map (λ row. row.seat) (option_map (λ e. e.1) entry)) c.in_ok-row.ensures.entry
    ∙ ap (option_map (λ row. row.seat)) (sym (slice_get-map (λ e. e.1) rows.entries c.args.place))
    ∙ sym (slice_get-map (λ row. row.seat) (values rows) c.args.place))
