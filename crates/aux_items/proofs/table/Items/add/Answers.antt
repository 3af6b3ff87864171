use Rattle.std.proofs.Common.{Some, ◌≡◌, ◌∷◌, [], ◌++◌, length, ap, ◌∙◌, arith}
use Rattle.std.proofs.lemmas.Result.{IfOk-at_ok}
use Rattle.row_slots.specs.Slots.{rows_in}
use Rattle.row_slots.proofs.Rows.{rows_in-push}
use Rattle.aux_items.specs.Items.{Attached, item_numbered, room_on}
use Rattle.aux_items.proofs.Rooms.{room_among-is, rooms_used}
use Rattle.aux_items.proofs.Updates.{IsKept-added}
use Rattle.aux_items.proofs.table.Items.add.Goals as goal

pub push-requires-2 : goal.push-requires-2
push-requires-2 c =
    let row = c.args.row in
    let same = ap (λ (t : Attached). room_on t row.on_text row.object) c.self.view_is in
    omega (arith, same, room_among-is c.self.inside.of_objects row.on_text row.object, c.requires.room.of_object)

pub invariant_of-self : goal.invariant_of-self
invariant_of-self c =
    let slots = c.self.inside.rows.slots in
    let row = c.args.row in
    let added : c.push.new.self.slots ≡ slots ++ Some row ∷ [] =
    IfOk-at_ok (λ _. c.push.new.self.slots ≡ slots ++ Some row ∷ []) c.unwrap-place.ensures c.push.ensures.ok in
    let place : c.unwrap-place.result ≡ length slots =
    IfOk-at_ok (λ p. p ≡ length slots) c.unwrap-place.ensures c.push.ensures.place in
    let absent = ap (λ (t : Attached). item_numbered row.on_text row.object row.item.number t.rows) c.self.view_is
    ∙ c.requires.absent in
    rw added (IsKept-added slots _ c.self.invariant _ row absent (rw place at c.push-2.ensures.lists))

pub returns-clause-rows : goal.returns-clause-rows
returns-clause-rows c =
    let slots = c.self.inside.rows.slots in
    let row = c.args.row in
    let added : c.push.new.self.slots ≡ slots ++ Some row ∷ [] =
    IfOk-at_ok (λ _. c.push.new.self.slots ≡ slots ++ Some row ∷ []) c.unwrap-place.ensures c.push.ensures.ok in
    rw (← c.self.view_is) (ap rows_in added ∙ rows_in-push slots row)

pub returns-clause-room : goal.returns-clause-room
returns-clause-room c =
    rw (← c.self.view_is)
    (record {
      spare = omega (arith, c.push.ensures.spare);
      of_objects = rooms_used c.self.inside.of_objects c.push-2.new.self c.args.row.on_text c.args.row.object
          c.push-2.ensures.room;
    })
