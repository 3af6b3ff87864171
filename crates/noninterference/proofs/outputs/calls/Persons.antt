-- The calls about persons come to the same over two sets of stored rows that are alike to the caller.
use Rattle.std.proofs.Common.{◌≡◌, ℕ, ◌==◌, [], None, refl, ap}
use Rattle.std.specs.Prelude.{is_some}
use Rattle.kom_types.specs.declared.errors.TheConstants as error
use Rattle.kom_types.specs.declared.persons.NewPerson.{NewPerson}
use Rattle.kom_types.specs.declared.persons.PasswordChange.{PasswordChange}
use Rattle.kom_types.specs.declared.persons.Person.{Person}
use Rattle.kom_types.specs.declared.replies.Reply.{Reply}
use Rattle.kom_types.specs.declared.replies.Reply.TheVariants as reply
use Rattle.kom_types.specs.tables.Persons.{may_create_persons}
use Rattle.kom_model.specs.Db.{Db, person_of}
use Rattle.kom_model.specs.Shown.{person_told}
use Rattle.kom_model.specs.calls.Call.{Asked, answer}
use Rattle.kom_model.specs.calls.Guards.{caller, login_guard, new_items_guard, with_items}
use Rattle.kom_types.specs.declared.aux_items.Object.TheVariants as object
use Rattle.kom_model.specs.calls.Persons.{set_priv_bits, set_passwd, set_pers_flags, set_user_area, get_person_stat}
use Rattle.kom_model.specs.calls.Persons.{create_person, person_reply, may_make_persons, maker}
use Rattle.kom_model.specs.calls.Persons.{person_effects}
use Rattle.noninterference.specs.outputs.Answers.{ComesToSame}
use Rattle.noninterference.proofs.outputs.Alike.{IsAlikeTo, over, caller-same, there-same, person-told, password-same}
use Rattle.noninterference.proofs.outputs.Alike.{free-same}
use Rattle.noninterference.proofs.outputs.Passing.{itself, passing, ended, by-guard}
use Rattle.noninterference.proofs.outputs.Rows.{replied-same}

module _ (asked : Asked) (one : Db) (alike : IsAlikeTo (caller asked) one asked.db) where
  abbrev part : Asked
  part = over one asked

  same : caller part ≡ caller asked
  same = caller-same asked one alike

  there : (person : ℕ) → is_some (person_of one person) ≡ is_some (person_of asked.db person)
  there person = there-same (caller asked) one asked.db alike person

  pub set_priv_bits-same : (person privileges : ℕ) →
      ComesToSame (set_priv_bits part person privileges) (set_priv_bits asked person privileges)
  set_priv_bits-same person privileges = rw same (rw (there person) (itself _))

  pub set_passwd-same : (given : PasswordChange) → ComesToSame (set_passwd part given) (set_passwd asked given)
  set_passwd-same given = rw same (rw (there given.person)
      (rw (alike.rights.supervises (caller asked).person given.person)
      (rw (password-same (caller asked) one asked.db alike (caller asked).person given.old_password) (itself _))))

  pub set_pers_flags-same : (person flags : ℕ) →
      ComesToSame (set_pers_flags part person flags) (set_pers_flags asked person flags)
  set_pers_flags-same person flags =
      rw same (rw (there person) (rw (alike.rights.supervises (caller asked).person person) (itself _)))

  pub set_user_area-same : (person text : ℕ) →
      ComesToSame (set_user_area part person text) (set_user_area asked person text)
  set_user_area-same person text = rw same (rw (there person)
      (rw (alike.rights.supervises (caller asked).person person) (rw (alike.rights.reads text) (itself _))))

  reply-same : login_guard (caller asked) ≡ None → (person : ℕ) →
      person_reply one (caller asked) person ≡ person_reply asked.db (caller asked) person
  reply-same login person =
      let none : Reply = reply.Refused error.UNDEFINED_PERSON person in
      let tell : Person → Reply = λ told. reply.Person told in
      replied-same none tell (person_told one (caller asked)) (person_told asked.db (caller asked))
      (person_of one person) (person_of asked.db person) ((alike.told login).person person)

  pub get_person_stat-same : (person : ℕ) → ComesToSame (get_person_stat part person) (get_person_stat asked person)
  get_person_stat-same person = simp (same, by-guard, there) (passing refl (λ login. passing refl (λ is.
      ended (ap answer (reply-same login person)))))

  may_make-same : (person : ℕ) → may_make_persons one person ≡ may_make_persons asked.db person
  may_make-same person = person-told (caller asked) one asked.db alike (person == 0)
      (λ row. may_create_persons row.privileges) (λ row. refl) person

  pub create_person-same : (given : NewPerson) → ComesToSame (create_person part given) (create_person asked given)
  create_person-same given = record {
    early = rw same (rw alike.public.next_conference (rw (may_make-same (caller asked).person)
        (rw (free-same (caller asked) one asked.db alike 0 given.name) refl)));
    rest = λ passes. rw same (ap (λ number.
        with_items (new_items_guard object.Letterbox (maker (caller asked).person number) given.aux_items) (record {
          reply = reply.Number number;
          effects = person_effects asked number given;
          changes = [];
        })) alike.public.next_conference);
  }
