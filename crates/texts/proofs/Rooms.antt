-- What tables and lists have room for, from the room that rows need.
use Rattle.std.proofs.Common.{◌≡◌, ℕ, ◌<◌, ◌≤◌, Bool, true, false, cond, ◌&&◌, eqb, refl, sym, subst, inl, inr, arith}
use Rattle.std.proofs.lemmas.Bool.{cases_Bool, cases_eq, and_parts, eq-eqb, eqb-true, ne_eqb}
use Rattle.kom_types.specs.Bits.{alike}
use Rattle.kom_types.specs.declared.texts.TextLink.{TextLink}
use Rattle.kom_types.specs.declared.texts.MarkRow.{MarkRow}
use Rattle.kom_types.specs.declared.texts.Recipient.{Recipient}
use Rattle.local_maps.specs.Maps.{room_of}
use Rattle.marks.specs.Marked as marked
use Rattle.misc_links.specs.Linked as linked
use Rattle.misc_links.specs.Received as received
use Rattle.texts.specs.declared.needs.Need.TheVariants as need
use Rattle.texts.specs.Needs.{HasRoom, text_needs, recipient_needs, link_needs, mark_needs, created_needs}
use Rattle.texts.specs.Stored.{Room}

module _ (room : Room) where
  pub room_for_local : (given : Recipient) → HasRoom room (recipient_needs given) →
      0 < room_of room.locals given.conference
  room_for_local given has =
      let same : eqb given.conference given.conference ≡ true = eq-eqb _ _ refl in
      rw same at (has (need.Local given.conference))

  pub room_for_recipient : (given : Recipient) → HasRoom room (recipient_needs given) →
      received.HasRoom room.recipients given.text
  room_for_recipient given has =
      let same : eqb given.text given.text ≡ true = eq-eqb _ _ refl in
      record {
        spare = has need.Recipient;
        of_text = rw same at (has (need.RecipientOf given.text));
      }

  alike_itself : (b : Bool) → alike b b ≡ true
  alike_itself true = refl
  alike_itself false = refl

  pub room_for_link : (given : TextLink) → HasRoom room (link_needs given) →
      linked.HasRoom room.links given.child given.parent given.footnote
  room_for_link given has =
      let child : eqb given.child given.child ≡ true = eq-eqb _ _ refl in
      let parent : eqb given.parent given.parent ≡ true = eq-eqb _ _ refl in
      let kind : alike given.footnote given.footnote ≡ true = alike_itself given.footnote in
      record {
        spare = has need.Link;
        from = rw (child, kind) at (has (need.LinkFrom given.child given.footnote));
        into = rw (parent, kind) at (has (need.LinkInto given.parent given.footnote));
      }

  pub room_for_mark : (given : MarkRow) → HasRoom room (mark_needs given) →
      marked.HasRoom room.marks given.person given.text
  room_for_mark given has =
      let person : eqb given.person given.person ≡ true = eq-eqb _ _ refl in
      let text : eqb given.text given.text ≡ true = eq-eqb _ _ refl in
      record {
        spare = has need.Mark;
        of_person = rw person at (has (need.MarkOf given.person));
        on_text = rw text at (has (need.MarkOn given.text));
      }

  pub room_for_created : (person : ℕ) → HasRoom room (created_needs person) → 0 < room_of room.created person
  room_for_created person has =
      let same : eqb person person ≡ true = eq-eqb _ _ refl in
      rw same at (has (need.Created person))

  -- ---- room that was made

  pub HasRoom-text : 1 ≤ room.texts → HasRoom room text_needs
  HasRoom-text one need.Text = one
  HasRoom-text one other = omega arith

  -- there is room for one where it is wanted, and elsewhere none is wanted
  room_at : (at : ℕ) (room : ℕ → ℕ) → 1 ≤ room at → (other : ℕ) → cond (eqb other at) 1 0 ≤ room other
  room_at at room one other = elim (cases_eq other at) [
    | inl is ↦
        let here : eqb other at ≡ true = eq-eqb _ _ is in rw here (subst (λ n. 1 ≤ room n) (sym is) one)
    | inr ne ↦ let elsewhere : eqb other at ≡ false = ne_eqb _ _ ne in rw elsewhere (omega arith)
  ]

  same_kinds : (kind other : Bool) → alike kind other ≡ true → kind ≡ other
  same_kinds true true is = refl
  same_kinds true false is = cc
  same_kinds false true is = cc
  same_kinds false false is = refl

  room_of_kind : (at : ℕ) (footnote : Bool) (room : ℕ → Bool → ℕ) → 1 ≤ room at footnote → (other : ℕ) (kind : Bool) →
      cond (eqb other at && alike kind footnote) 1 0 ≤ room other kind
  room_of_kind at footnote room one other kind = elim (cases_Bool (eqb other at && alike kind footnote)) [
    | inl is ↦
        let parts = and_parts (eqb other at) (alike kind footnote) is in
        let its_text = eqb-true _ _ parts.0 in
        let its_kind = same_kinds kind footnote parts.1 in
        rw is (subst (λ n. 1 ≤ room n kind) (sym its_text) (subst (λ k. 1 ≤ room at k) (sym its_kind) one))
    | inr none ↦ rw none (omega arith)
  ]

  pub HasRoom-recipient : (given : Recipient) → 1 ≤ room.recipients.spare →
      1 ≤ received.room_of_text room.recipients given.text → 1 ≤ room_of room.locals given.conference →
      HasRoom room (recipient_needs given)
  HasRoom-recipient given spare of_text local need.Recipient = spare
  HasRoom-recipient given spare of_text local (need.RecipientOf text) =
      omega (arith, room_at given.text (received.room_of_text room.recipients) of_text text)
  HasRoom-recipient given spare of_text local (need.Local conference) =
      omega (arith, room_at given.conference (room_of room.locals) local conference)
  HasRoom-recipient given spare of_text local other = omega arith

  pub HasRoom-link : (given : TextLink) → 1 ≤ room.links.spare →
      1 ≤ linked.room_from room.links given.child given.footnote →
      1 ≤ linked.room_into room.links given.parent given.footnote → HasRoom room (link_needs given)
  HasRoom-link given spare from into need.Link = spare
  HasRoom-link given spare from into (need.LinkFrom text kind) =
      omega (arith, room_of_kind given.child given.footnote (linked.room_from room.links) from text kind)
  HasRoom-link given spare from into (need.LinkInto text kind) =
      omega (arith, room_of_kind given.parent given.footnote (linked.room_into room.links) into text kind)
  HasRoom-link given spare from into other = omega arith

  pub HasRoom-mark : (given : MarkRow) → 1 ≤ room.marks.spare →
      1 ≤ marked.room_of_person room.marks given.person → 1 ≤ marked.room_on room.marks given.text →
      HasRoom room (mark_needs given)
  HasRoom-mark given spare of_person on_text need.Mark = spare
  HasRoom-mark given spare of_person on_text (need.MarkOf person) =
      omega (arith, room_at given.person (marked.room_of_person room.marks) of_person person)
  HasRoom-mark given spare of_person on_text (need.MarkOn text) =
      omega (arith, room_at given.text (marked.room_on room.marks) on_text text)
  HasRoom-mark given spare of_person on_text other = omega arith

  pub HasRoom-created : (person : ℕ) → 1 ≤ room_of room.created person → HasRoom room (created_needs person)
  HasRoom-created person one (need.Created other) = omega (arith, room_at person (room_of room.created) one other)
  HasRoom-created person one other = omega arith
