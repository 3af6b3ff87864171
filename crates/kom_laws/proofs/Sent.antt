-- Of what calls send: who calls, an area and the items that are named are the same without what is hidden from a group.
use Rattle.std.proofs.Common.{◌≡◌, ℕ, Bool, ◌==◌, false, List}
use Rattle.std.proofs.Common.{Option, Some, None, refl, ap}
use Rattle.std.specs.List.{filter_map, find}
use Rattle.kom_types.specs.declared.aux_items.AuxRow.{AuxRow}
use Rattle.kom_types.specs.declared.messages.Message.{Message}
use Rattle.kom_types.specs.declared.persons.PersonRow.{PersonRow}
use Rattle.kom_types.specs.declared.seats.Seat.{Seat}
use Rattle.kom_model.specs.declared.viewers.Viewer.{Viewer}
use Rattle.kom_model.specs.Db.{Db, person_of}
use Rattle.kom_model.specs.Messages.{new_user_area}
use Rattle.kom_model.specs.ToWhom.{items_named}
use Rattle.kom_model.specs.calls.Call.{Asked, seat_of}
use Rattle.kom_model.specs.calls.Guards.{caller, viewer_at}
use Rattle.kom_laws.specs.Groups.{Group, is_unread}
use Rattle.kom_laws.specs.masking.Masks.{masked_person}
use Rattle.kom_laws.specs.Erasing.{erased_db, mask_of}
use Rattle.kom_laws.specs.Laws.{told_to}
use Rattle.kom_laws.proofs.masking.Accessors.{same-person, items-read}
use Rattle.kom_laws.proofs.Messages.{of_row, changed-told}

-- who looks from a seat is the same person whatever the rows are
seat-person : (one other : Db) (seat : Option Seat) → (viewer_at one seat).person ≡ (viewer_at other seat).person
seat-person one other None = refl
seat-person one other (Some seat) = refl

module _ (group : Group) (asked : Asked) (viewer : Viewer) where
  -- the same call without what is hidden from the group
  abbrev part : Asked
  part = record asked { db = erased_db group asked.db }

  pub caller-erased : (caller part).person ≡ (caller asked).person
  caller-erased = seat-person part.db asked.db (seat_of asked)

  pub area-told : (person text : ℕ) →
      told_to viewer (of_row (λ row. new_user_area person row.user_area text) (person_of part.db person))
      ≡ told_to viewer (of_row (λ row. new_user_area person row.user_area text) (person_of asked.db person))
  unfolding person_of
  area-told person text =
      let test : PersonRow → Bool = λ row. row.number == person in
      let tell : PersonRow → Option Message = λ row. (new_user_area person row.user_area text).told viewer in
      changed-told viewer test (masked_person (mask_of group asked.db)) _ _
      (λ row. same-person test (mask_of group asked.db) row refl)
      (λ row here. same-person tell (mask_of group asked.db) row refl) asked.db.persons

  pub named-read : (text : ℕ) (numbers : List ℕ) → is_unread group asked.db text ≡ false →
      items_named part.db text numbers ≡ items_named asked.db text numbers
  named-read text numbers read = ap (λ (items : List AuxRow).
      filter_map (λ number. find (λ item. item.number == number) items) numbers)
      (items-read (mask_of group asked.db) asked.db text read)
