use Rattle.std.proofs.Common.{option_map, nat_eq, sym, ap, ◌∙◌, arith}
use Rattle.std.specs.Option.{option_flatten}
use Rattle.std.specs.Set.{remove_key}
use Rattle.row_slots.specs.Slots.{rows_in}
use Rattle.row_slots.proofs.Places.{row_at}
use Rattle.row_slots.proofs.DenseRooms.{dense_rooms_stay, no_dense_room_falls}
use Rattle.misc_links.proofs.OneList.{has_changed}
use Rattle.misc_links.proofs.Receiving.{are_once, recipient_found, row_found, without_none, has_place, rows_left}
use Rattle.misc_links.proofs.Receiving.{IsKept-left}
use Rattle.misc_links.proofs.recipients.Recipients.remove.Goals as goal

pub returns-in_err-place-clause-recipient : goal.returns-in_err-place-clause-recipient
returns-in_err-place-clause-recipient c =
    rw (← c.self.view_is)
    (c.from_residual.ensures
    ∙ sym (recipient_found c.self.inside.rows.slots _ c.self.invariant c.args.text c.args.conference
    c.list.result.now c.list.ensures c.place_of.result c.place_of.ensures
    ∙ ap (λ o. option_flatten (option_map (row_at c.self.inside.rows.slots) o)) c.in_err-place.was))

pub returns-in_err-place-clause-recipients : goal.returns-in_err-place-clause-recipients
returns-in_err-place-clause-recipients c =
    rw (← c.self.view_is)
    (sym (without_none c.args.text c.args.conference (rows_in c.self.inside.rows.slots)
    (recipient_found c.self.inside.rows.slots _ c.self.invariant c.args.text c.args.conference
    c.list.result.now c.list.ensures c.place_of.result c.place_of.ensures
    ∙ ap (λ o. option_flatten (option_map (row_at c.self.inside.rows.slots) o)) c.in_err-place.was)))

pub returns-in_err-place-clause-once : goal.returns-in_err-place-clause-once
returns-in_err-place-clause-once c = rw (← c.self.view_is) (are_once c.self.inside.rows.slots _ c.self.invariant)

pub remove-requires : goal.remove-requires
remove-requires c =
    let row = row_found c.self.inside.rows.slots _ c.self.invariant c.args.text c.args.conference
    c.list.result.now c.list.ensures c.in_ok-place.place (sym c.in_ok-place.was ∙ c.place_of.ensures) in
    has_place c.self.inside.rows.slots _ c.self.invariant c.args.text c.args.conference c.in_ok-place.place row.0 row.1
    row.3

pub invariant_of-self : goal.invariant_of-self
invariant_of-self c =
    let row = row_found c.self.inside.rows.slots _ c.self.invariant c.args.text c.args.conference
    c.list.result.now c.list.ensures c.in_ok-place.place (sym c.in_ok-place.was ∙ c.place_of.ensures) in
    rw c.take-recipient.ensures.slots
    (IsKept-left c.self.inside.rows.slots _ c.self.invariant c.args.text c.args.conference c.in_ok-place.place row.0
    row.1 row.3 _
    (has_changed c.args.text c.self.inside.by_text c.remove.new.self c.remove.ensures.others
    (remove_key (nat_eq c.in_ok-place.place)) c.remove.ensures.list))

pub returns-clause-recipient : goal.returns-clause-recipient
returns-clause-recipient c =
    rw (← c.self.view_is)
    (c.take-recipient.ensures.row
    ∙ sym (recipient_found c.self.inside.rows.slots _ c.self.invariant c.args.text c.args.conference
    c.list.result.now c.list.ensures c.place_of.result c.place_of.ensures
    ∙ ap (λ o. option_flatten (option_map (row_at c.self.inside.rows.slots) o)) c.in_ok-place.was))

pub returns-clause-recipients : goal.returns-clause-recipients
returns-clause-recipients c =
    let row = row_found c.self.inside.rows.slots _ c.self.invariant c.args.text c.args.conference
    c.list.result.now c.list.ensures c.in_ok-place.place (sym c.in_ok-place.was ∙ c.place_of.ensures) in
    rw (← c.self.view_is)
    (ap rows_in c.take-recipient.ensures.slots
    ∙ rows_left c.self.inside.rows.slots _ c.self.invariant c.args.text c.args.conference c.in_ok-place.place row.0
    row.1 row.3)

pub returns-clause-once : goal.returns-clause-once
returns-clause-once c = rw (← c.self.view_is) (are_once c.self.inside.rows.slots _ c.self.invariant)

pub returns-clause-room : goal.returns-clause-room
returns-clause-room c =
    rw (← c.self.view_is)
    (record {
      spare = c.take-recipient.ensures.spare;
      texts = dense_rooms_stay c.self.inside.by_text c.remove.new.self
          (no_dense_room_falls _ _ c.args.text c.remove.ensures.others (omega (arith, c.remove.ensures.room)));
    })
