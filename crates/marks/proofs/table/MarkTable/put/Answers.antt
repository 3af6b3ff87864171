use Rattle.std.proofs.Common.{◌≡◌, Some, ◌∷◌, [], ◌++◌, length, sym, ap, ◌∙◌, arith}
use Rattle.std.proofs.lemmas.Result.{IfOk-at_ok}
use Rattle.kom_types.specs.tables.Texts.{mark_of, with_mark}
use Rattle.row_slots.specs.Slots.{rows_in}
use Rattle.row_slots.proofs.Rooms.{room_in-rooms_of}
use Rattle.row_slots.proofs.Rows.{rows_in-push}
use Rattle.marks.specs.Marked.{Marked, room_of_person, room_on}
use Rattle.marks.proofs.OneList.{has_changed}
use Rattle.marks.proofs.Updates.{with_new, IsKept-added}
use Rattle.marks.proofs.table.MarkTable.put.Goals as goal

pub push-requires-2 : goal.push-requires-2
push-requires-2 c =
    let same = ap (λ (t : Marked). room_of_person t c.args.row.person) c.self.view_is in
    omega (arith, same, room_in-rooms_of c.self.inside.of_person c.args.row.person, c.requires.room.of_person)

pub push-requires-3 : goal.push-requires-3
push-requires-3 c =
    let same = ap (λ (t : Marked). room_on t c.args.row.text) c.self.view_is in
    omega (arith, same, room_in-rooms_of c.self.inside.on_text c.args.row.text, c.requires.room.on_text)

pub invariant_of-self : goal.invariant_of-self
invariant_of-self c =
    let slots = c.self.inside.rows.slots in
    let added : c.push.new.self.slots ≡ slots ++ Some c.args.row ∷ [] =
    IfOk-at_ok (λ _. c.push.new.self.slots ≡ slots ++ Some c.args.row ∷ []) c.unwrap-place.ensures c.push.ensures.ok in
    let place : c.unwrap-place.result ≡ length slots =
    IfOk-at_ok (λ p. p ≡ length slots) c.unwrap-place.ensures c.push.ensures.place in
    let absent = ap (λ (t : Marked). mark_of c.args.row.person c.args.row.text t.marks) c.self.view_is
    ∙ c.requires.absent in
    rw added
    (IsKept-added slots _ _ c.self.invariant _ _ c.args.row absent
    (has_changed c.args.row.person (λ places. places ++ length slots ∷ []) _ _ c.push-2.ensures.others
    (rw place at c.push-2.ensures.list))
    (has_changed c.args.row.text (λ places. places ++ length slots ∷ []) _ _ c.push-3.ensures.others
    (rw place at c.push-3.ensures.list)))

pub returns-clause-marks : goal.returns-clause-marks
returns-clause-marks c =
    let slots = c.self.inside.rows.slots in
    let added : c.push.new.self.slots ≡ slots ++ Some c.args.row ∷ [] =
    IfOk-at_ok (λ _. c.push.new.self.slots ≡ slots ++ Some c.args.row ∷ []) c.unwrap-place.ensures c.push.ensures.ok in
    let absent = ap (λ (t : Marked). mark_of c.args.row.person c.args.row.text t.marks) c.self.view_is
    ∙ c.requires.absent in
    ap rows_in added ∙ rows_in-push slots c.args.row ∙ sym (with_new c.args.row (rows_in slots) absent)
    ∙ ap (λ (t : Marked). with_mark c.args.row t.marks) c.self.view_is

pub returns-clause-room : goal.returns-clause-room
returns-clause-room c =
    rw (← c.self.view_is)
    (record {
      spare = omega (arith, c.push.ensures.spare);
      of_person = omega (
        arith,
        room_in-rooms_of c.self.inside.of_person c.args.row.person,
        room_in-rooms_of c.push-2.new.self c.args.row.person,
        c.push-2.ensures.room,
      );
      on_text = omega (
        arith,
        room_in-rooms_of c.self.inside.on_text c.args.row.text,
        room_in-rooms_of c.push-3.new.self c.args.row.text,
        c.push-3.ensures.room,
      );
      other_persons = λ other unlike. omega (
        arith,
        room_in-rooms_of c.self.inside.of_person other,
        room_in-rooms_of c.push-2.new.self other,
        c.push-2.ensures.others.rooms other unlike,
      );
      other_texts = λ other unlike. omega (
        arith,
        room_in-rooms_of c.self.inside.on_text other,
        room_in-rooms_of c.push-3.new.self other,
        c.push-3.ensures.others.rooms other unlike,
      );
    })
