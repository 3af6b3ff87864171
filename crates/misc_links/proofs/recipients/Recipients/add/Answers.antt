use Rattle.std.proofs.Common.{Some, ◌≡◌, ◌∷◌, [], ◌++◌, length, ap, ◌∙◌, arith}
use Rattle.std.proofs.lemmas.Result.{IfOk-at_ok}
use Rattle.row_slots.specs.Slots.{rows_in}
use Rattle.row_slots.proofs.DenseRooms.{dense_room_in-dense_rooms}
use Rattle.row_slots.proofs.Rows.{rows_in-push}
use Rattle.kom_types.specs.tables.Texts.{recipient_of}
use Rattle.misc_links.specs.Received.{Received, room_of_text}
use Rattle.misc_links.proofs.OneList.{has_changed, uses_one}
use Rattle.misc_links.proofs.Receiving.{IsKept-added}
use Rattle.misc_links.proofs.recipients.Recipients.add.Goals as goal

pub push-requires-2 : goal.push-requires-2
push-requires-2 c =
    let same = ap (λ (t : Received). room_of_text t c.args.recipient.text) c.self.view_is in
    omega (arith, same, dense_room_in-dense_rooms c.self.inside.by_text c.args.recipient.text, c.requires.room.of_text)

pub invariant_of-self : goal.invariant_of-self
invariant_of-self c =
    let slots = c.self.inside.rows.slots in
    let added : c.push.new.self.slots ≡ slots ++ Some c.args.recipient ∷ [] =
    IfOk-at_ok (λ _. c.push.new.self.slots ≡ slots ++ Some c.args.recipient ∷ []) c.unwrap-place.ensures
    c.push.ensures.ok in
    let place : c.unwrap-place.result ≡ length slots =
    IfOk-at_ok (λ p. p ≡ length slots) c.unwrap-place.ensures c.push.ensures.place in
    let absent = ap (λ (t : Received). recipient_of c.args.recipient.text c.args.recipient.conference t.recipients)
    c.self.view_is ∙ c.requires.absent in
    rw added
    (IsKept-added slots _ c.self.invariant c.args.recipient absent _
    (has_changed c.args.recipient.text c.self.inside.by_text c.push-2.new.self c.push-2.ensures.others
    (λ places. places ++ length slots ∷ []) (rw place at c.push-2.ensures.list)))

pub returns-clause-recipients : goal.returns-clause-recipients
returns-clause-recipients c =
    let slots = c.self.inside.rows.slots in
    let added : c.push.new.self.slots ≡ slots ++ Some c.args.recipient ∷ [] =
    IfOk-at_ok (λ _. c.push.new.self.slots ≡ slots ++ Some c.args.recipient ∷ []) c.unwrap-place.ensures
    c.push.ensures.ok in
    rw (← c.self.view_is) (ap rows_in added ∙ rows_in-push slots c.args.recipient)

pub returns-clause-room : goal.returns-clause-room
returns-clause-room c =
    rw (← c.self.view_is)
    (record {
      spare = omega (arith, c.push.ensures.spare);
      texts = λ other. omega (
        arith,
        dense_room_in-dense_rooms c.self.inside.by_text other,
        dense_room_in-dense_rooms c.push-2.new.self other,
        uses_one c.args.recipient.text c.self.inside.by_text c.push-2.new.self c.push-2.ensures.others
            c.push-2.ensures.room other,
      );
    })
