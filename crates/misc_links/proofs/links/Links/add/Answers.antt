use Rattle.std.proofs.Common.{Some, ◌≡◌, ◌∷◌, [], ◌++◌, length, ap, ◌∙◌, arith}
use Rattle.std.proofs.lemmas.Result.{IfOk-at_ok}
use Rattle.row_slots.specs.Slots.{rows_in}
use Rattle.row_slots.proofs.Rows.{rows_in-push}
use Rattle.kom_types.specs.tables.Texts.{link_of}
use Rattle.misc_links.specs.Linked.{Linked, room_from, room_into}
use Rattle.misc_links.proofs.Rooms.{room_among-is, rooms_used}
use Rattle.misc_links.proofs.Updates.{IsKept-added}
use Rattle.misc_links.proofs.links.Links.add.Goals as goal

pub push-requires-2 : goal.push-requires-2
push-requires-2 c =
    let same = ap (λ (t : Linked). room_from t c.args.link.child c.args.link.footnote) c.self.view_is in
    omega (arith, same, room_among-is c.self.inside.from c.args.link.child c.args.link.footnote, c.requires.room.from)

pub push-requires-3 : goal.push-requires-3
push-requires-3 c =
    let same = ap (λ (t : Linked). room_into t c.args.link.parent c.args.link.footnote) c.self.view_is in
    omega (arith, same, room_among-is c.self.inside.into c.args.link.parent c.args.link.footnote, c.requires.room.into)

pub invariant_of-self : goal.invariant_of-self
invariant_of-self c =
    let slots = c.self.inside.rows.slots in
    let added : c.push.new.self.slots ≡ slots ++ Some c.args.link ∷ [] =
    IfOk-at_ok (λ _. c.push.new.self.slots ≡ slots ++ Some c.args.link ∷ []) c.unwrap-place.ensures c.push.ensures.ok in
    let place : c.unwrap-place.result ≡ length slots =
    IfOk-at_ok (λ p. p ≡ length slots) c.unwrap-place.ensures c.push.ensures.place in
    let absent = ap (λ (t : Linked). link_of c.args.link.child c.args.link.parent c.args.link.footnote t.links)
    c.self.view_is ∙ c.requires.absent in
    rw added
    (IsKept-added slots _ _ c.self.invariant _ _ c.args.link absent
    (rw place at c.push-2.ensures.lists) (rw place at c.push-3.ensures.lists))

pub returns-clause-links : goal.returns-clause-links
returns-clause-links c =
    let slots = c.self.inside.rows.slots in
    let added : c.push.new.self.slots ≡ slots ++ Some c.args.link ∷ [] =
    IfOk-at_ok (λ _. c.push.new.self.slots ≡ slots ++ Some c.args.link ∷ []) c.unwrap-place.ensures c.push.ensures.ok in
    rw (← c.self.view_is) (ap rows_in added ∙ rows_in-push slots c.args.link)

pub returns-clause-room : goal.returns-clause-room
returns-clause-room c =
    rw (← c.self.view_is)
    (record {
      spare = omega (arith, c.push.ensures.spare);
      from = rooms_used c.self.inside.from c.push-2.new.self c.args.link.child c.args.link.footnote
          c.push-2.ensures.room;
      into = rooms_used c.self.inside.into c.push-3.new.self c.args.link.parent c.args.link.footnote
          c.push-3.ensures.room;
    })
