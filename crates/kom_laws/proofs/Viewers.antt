-- Who looks from a seat, and whether strongly, is the same without what a mask hides.
use Rattle.std.proofs.Common.{◌≡◌, ℕ, ◌==◌, ◌&&◌, Bool, false, refl, ap}
use Rattle.kom_types.specs.declared.persons.PersonRow.{PersonRow}
use Rattle.kom_types.specs.declared.seats.Seat.{Seat}
use Rattle.kom_types.specs.tables.Persons.{is_mighty}
use Rattle.kom_model.specs.declared.viewers.Viewer.{Viewer}
use Rattle.kom_model.specs.Db.{Db, person_of}
use Rattle.kom_model.specs.Viewers.{has_might, viewer_of}
use Rattle.kom_laws.specs.masking.Masks.{Mask, masked_db, masked_person}
use Rattle.kom_laws.proofs.masking.Accessors.{same-person}
use Rattle.kom_laws.proofs.masking.Rows.{told-changed}

-- no mask hides the privileges of a person
might-masked : (mask : Mask) (db : Db) (person : ℕ) → has_might (masked_db mask db) person ≡ has_might db person
unfolding person_of
might-masked mask db person =
    let test : PersonRow → Bool = λ row. row.number == person in
    let tell : PersonRow → Bool = λ row. is_mighty row.privileges in
    told-changed test (masked_person mask) false tell tell
    (λ row. same-person test mask row refl) (λ row here. same-person tell mask row refl) db.persons

pub viewer-masked : (mask : Mask) (db : Db) (seat : Seat) → viewer_of (masked_db mask db) seat ≡ viewer_of db seat
viewer-masked mask db seat =
    ap (λ (might : Bool). let viewer : Viewer = record {
      person = seat.person;
      strong = seat.level == 255 && might;
    } in viewer) (might-masked mask db seat.person)
