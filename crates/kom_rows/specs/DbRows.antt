-- Stored rows, effects and rights whose outcome was worked out by hand.
use Rattle.std.specs.Prelude.{◌≡◌, ℕ, true, false, List, [], ◌∷◌, ◌++◌, map, codes, replicate, Some}
use Rattle.std.specs.Prelude.{None, option_map}
use Rattle.kom_types.specs.declared.limits.TheConstants.{MOST_MEMBERSHIPS}
use Rattle.kom_types.specs.declared.effects.Counter.TheVariants as counter
use Rattle.kom_types.specs.declared.effects.ConfField.TheVariants as field
use Rattle.kom_types.specs.declared.effects.Effect.{Effect}
use Rattle.kom_types.specs.declared.effects.Effect.TheVariants as effect
use Rattle.kom_types.specs.declared.effects.PersonField.TheVariants as person_field
use Rattle.kom_types.specs.declared.memberships.MembershipRow.{MembershipRow}
use Rattle.kom_types.specs.tables.Memberships.{without_membership}
use Rattle.kom_rows.specs.Cast.{makes, makes_person, joins, is_invited, person, nobody}
use Rattle.kom_rows.specs.Cast.{strong_nobody, conferences_in, persons_in, places_of}
use Rattle.kom_model.specs.Db.{Db, empty_db, conference_of, person_of, membership_of}
use Rattle.kom_model.specs.Effects.{fits, apply_all, all_fit}
use Rattle.kom_model.specs.Rights.{supervises, sees, reads_conference}

-- An open conference 1; persons 5, 6, 7 and 8; a secret conference 9, which the members of the
-- protected conference 10 supervise; 6 is a member of 10, 7 was invited to it, and 8 to 9.
abbrev pub made_rows : List Effect
made_rows =
    makes 1 (codes "News") 8 ∷ makes_person 5 (codes "Anna") ++ makes_person 6 (codes "Bo")
    ++ makes_person 7 (codes "Cia") ++ makes_person 8 (codes "Dan")
    ++ makes 9 (codes "Board") 160 ∷ makes 10 (codes "Chairs") 128
    ∷ effect.ConfField 9 (field.Supervisor 10)
    ∷ joins 6 10 0 ∷ is_invited 7 10 ∷ is_invited 8 9 ∷ joins 7 1 0 ∷ joins 6 1 5 ∷ []

abbrev pub rows : Db
rows = apply_all made_rows empty_db

abbrev pub with_effect : Effect → Db
with_effect what = apply_all (what ∷ []) rows

abbrev pub with_effects : List Effect → Db
with_effects effects = apply_all effects rows

-- a secret letterbox of nobody's, and a letterbox that supervises itself
abbrev pub alone : Db
alone = with_effect (effect.ConfAdded 11 (codes "Eva") 176 30 5 5)

abbrev pub itself : Db
itself = with_effect (effect.ConfAdded 11 (codes "Eva") 16 30 5 11)

-- the conference 1 with each of its fields set, and with another name
abbrev pub sets_all : List Effect
sets_all =
    effect.ConfField 1 (field.Presentation 21)
    ∷ effect.ConfField 1 (field.Motd 22)
    ∷ effect.ConfField 1 (field.Supervisor 23)
    ∷ effect.ConfField 1 (field.PermittedSubmitters 24)
    ∷ effect.ConfField 1 (field.SuperConference 25)
    ∷ effect.ConfField 1 (field.Kind 168)
    ∷ effect.ConfField 1 (field.Nice 26)
    ∷ effect.ConfField 1 (field.KeepCommented 27)
    ∷ effect.ConfField 1 (field.Expire 28)
    ∷ effect.ConfField 1 (field.LastWritten 29)
    ∷ effect.ConfNamed 1 (codes "Olds")
    ∷ []

-- the person 5 with each of its fields set, another password, each counter raised and a login
abbrev pub sets_person : List Effect
sets_person =
    effect.PersonField 5 (person_field.Privileges 1)
    ∷ effect.PersonField 5 (person_field.Flags 2)
    ∷ effect.PersonField 5 (person_field.UserArea 3)
    ∷ effect.Password 5 (replicate 32 4)
    ∷ effect.Counted 5 counter.TimePresent 5
    ∷ effect.Counted 5 counter.CreatedLines 6
    ∷ effect.Counted 5 counter.CreatedBytes 7
    ∷ effect.Counted 5 counter.ReadTexts 8
    ∷ effect.Counted 5 counter.TextFetches 9
    ∷ effect.Counted 5 counter.CreatedPersons 10
    ∷ effect.Counted 5 counter.CreatedConferences 11
    ∷ effect.LoggedIn 5 12 (codes "anna")
    ∷ []

-- a membership as its person, its conference and its place
abbrev pub member_places : List MembershipRow → List (ℕ × ℕ × ℕ)
member_places memberships = map (λ row. (row.person, row.conference, row.position)) memberships

-- what the definitions of the stored rows say of cases that were worked out by hand
pub record DbRows : Type 0 where
  pub all_are_made : all_fit made_rows empty_db ≡ true
  pub next_number : rows.next_conference ≡ 11
  pub number_used : fits (makes 9 (codes "Eva") 0) rows ≡ false
  pub number_left_out : fits (makes 12 (codes "Eva") 0) rows ≡ true
  pub last_number : fits (makes 65535 (codes "Eva") 0) rows ≡ true
  pub past_the_last_number : fits (makes 65536 (codes "Eva") 0) rows ≡ false
  pub name_taken : fits (makes 11 (codes "nEWS") 0) rows ≡ false
  pub longest_name : fits (makes 11 (replicate 60 65) 0) rows ≡ true
  pub name_too_long : fits (makes 11 (replicate 61 65) 0) rows ≡ false
  pub secret_and_unprotected : fits (makes 11 (codes "Eva") 32) rows ≡ false
  pub secret_and_protected : fits (makes 11 (codes "Eva") 160) rows ≡ true
  pub does_not_fit : conference_of (with_effect (makes 11 (codes "nEWS") 0)) 11 ≡ None
  pub renamed_alike : fits (effect.ConfNamed 1 (codes "NEWS")) rows ≡ true
  pub renamed_as_another : fits (effect.ConfNamed 1 (codes "chairs")) rows ≡ false
  pub renamed_missing : fits (effect.ConfNamed 2 (codes "Eva")) rows ≡ false
  pub type_set : fits (effect.ConfField 1 (field.Kind 168)) rows ≡ true
  pub type_unguarded : fits (effect.ConfField 1 (field.Kind 32)) rows ≡ false
  pub letterbox_lost : fits (effect.ConfField 5 (field.Kind 136)) rows ≡ false
  pub letterbox_made : fits (effect.ConfField 1 (field.Kind 24)) rows ≡ false
  pub field_set :
      option_map (λ row. row.nice)
      (conference_of (with_effect (effect.ConfField 1 (field.Nice 3))) 1)
      ≡ Some 3
  pub field_of_another :
      option_map (λ row. row.nice)
      (conference_of (with_effect (effect.ConfField 1 (field.Nice 3))) 9)
      ≡ Some 77
  pub person_without_letterbox : fits (effect.PersonAdded 1 0 0 10) rows ≡ false
  pub person_twice : fits (effect.PersonAdded 5 0 0 10) rows ≡ false
  pub field_of_nobody : fits (effect.PersonField 1 (person_field.Flags 128)) rows ≡ false
  pub user_name_too_long : fits (effect.LoggedIn 5 30 (replicate 1025 65)) rows ≡ false
  pub logged_in :
      option_map (λ row. row.sessions)
      (person_of (with_effect (effect.LoggedIn 5 30 (codes "a"))) 5)
      ≡ Some 1
  pub counted_to_the_end :
      option_map (λ row. row.created_lines)
      (person_of (with_effect (effect.Counted 5 counter.CreatedLines 4294967300)) 5)
      ≡ Some 4294967295
  pub member_of_nothing : fits (joins 5 2 0) rows ≡ false
  pub nobody_joins : fits (joins 1 1 0) rows ≡ false
  pub by_places : conferences_in 6 rows ≡ 10 ∷ 6 ∷ 1 ∷ []
  pub by_joining : persons_in 1 rows ≡ 7 ∷ 6 ∷ []
  pub moved_down : conferences_in 6 (with_effect (joins 6 10 2)) ≡ 6 ∷ 1 ∷ 10 ∷ []
  pub moved_up : conferences_in 6 (with_effect (joins 6 1 1)) ≡ 10 ∷ 1 ∷ 6 ∷ []
  pub set_again_in_its_turn : persons_in 1 (with_effect (joins 7 1 9)) ≡ 7 ∷ 6 ∷ []
  pub read_as_added :
      option_map (λ row. row.last_time_read) (membership_of (with_effect (joins 5 1 0)) 5 1)
      ≡ Some 20
  pub own_letterbox : supervises rows 6 6 ≡ true
  pub by_a_conference : supervises rows 6 9 ≡ true
  pub only_invited : supervises rows 7 9 ≡ false
  pub member_supervises_not : supervises rows 8 9 ≡ false
  pub nobody_supervises : supervises rows 0 9 ≡ false
  pub missing_is_unsupervised : supervises rows 5 2 ≡ false
  pub open_to_nobody : sees rows nobody 1 ≡ true
  pub secret_to_nobody : sees rows nobody 9 ≡ false
  pub secret_to_others : sees rows (person 5) 9 ≡ false
  pub secret_to_its_supervisor : sees rows (person 6) 9 ≡ true
  pub secret_to_the_invited : sees rows (person 8) 9 ≡ true
  pub strong_sees_all : sees rows strong_nobody 9 ≡ true
  pub missing_is_seen_by_none : sees rows strong_nobody 2 ≡ false
  pub protected_is_seen : sees rows (person 8) 10 ≡ true
  pub protected_is_not_read : reads_conference rows (person 8) 10 ≡ false
  pub read_by_the_invited : reads_conference rows (person 7) 10 ≡ true
  pub read_by_its_person : reads_conference rows (person 8) 8 ≡ true
  pub letterbox_of_another : reads_conference rows (person 8) 7 ≡ false
  pub open_is_read : reads_conference rows nobody 1 ≡ true
  pub number_never_given : fits (makes 2 (codes "Eva") 0) rows ≡ false
  pub number_zero : fits (makes 0 (codes "Eva") 0) empty_db ≡ false
  pub renamed_too_long : fits (effect.ConfNamed 1 (replicate 61 65)) rows ≡ false
  pub field_of_no_conference : fits (effect.ConfField 2 (field.Nice 3)) rows ≡ false
  pub secret_letterbox : fits (effect.ConfField 5 (field.Kind 176)) rows ≡ true
  pub longest_user_name : fits (effect.LoggedIn 5 30 (replicate 1024 65)) rows ≡ true
  pub login_of_nobody : fits (effect.LoggedIn 1 30 (codes "a")) rows ≡ false
  pub password_of_nobody : fits (effect.Password 1 (replicate 32 4)) rows ≡ false
  pub count_of_nobody : fits (effect.Counted 1 counter.ReadTexts 1) rows ≡ false
  pub conference_as_made :
      conference_of (with_effect (effect.ConfAdded 11 (codes "Eva") 160 30 6 7)) 11
      ≡ Some (record {
        number = 11;
        name = codes "Eva";
        kind = 160;
        created = 30;
        last_written = 30;
        creator = 6;
        presentation = 0;
        motd = 0;
        supervisor = 7;
        submitters = 0;
        super_conference = 0;
        nice = 77;
        keep_commented = 77;
        expire = 0;
        next_local = 1;
        next_item = 1;
      })
  pub conference_with_all_set : conference_of (with_effects sets_all) 1
      ≡ Some (record {
        number = 1;
        name = codes "Olds";
        kind = 168;
        created = 10;
        last_written = 29;
        creator = 5;
        presentation = 21;
        motd = 22;
        supervisor = 23;
        submitters = 24;
        super_conference = 25;
        nice = 26;
        keep_commented = 27;
        expire = 28;
        next_local = 1;
        next_item = 1;
      })
  pub person_as_made : person_of rows 5
      ≡ Some (record {
        number = 5;
        privileges = 7168;
        flags = 0;
        last_login = 10;
        user = [];
        user_area = 0;
        hash = replicate 32 0;
        time_present = 0;
        sessions = 0;
        created_lines = 0;
        created_bytes = 0;
        read_texts = 0;
        text_fetches = 0;
        created_persons = 0;
        created_conferences = 0;
        next_created = 1;
      })
  pub person_with_all_set : person_of (with_effects sets_person) 5
      ≡ Some (record {
        number = 5;
        privileges = 1;
        flags = 2;
        last_login = 12;
        user = codes "anna";
        user_area = 3;
        hash = replicate 32 4;
        time_present = 5;
        sessions = 1;
        created_lines = 6;
        created_bytes = 7;
        read_texts = 8;
        text_fetches = 9;
        created_persons = 10;
        created_conferences = 11;
        next_created = 1;
      })
  pub membership_as_made :
      membership_of (with_effect (effect.MemberSet 5 1 0 3 6 90 64)) 5 1
      ≡ Some (record {
        person = 5;
        conference = 1;
        position = 0;
        priority = 3;
        added_by = 6;
        added_at = 90;
        last_time_read = 90;
        kind = 64;
      })
  pub membership_set_again :
      membership_of (with_effect (effect.MemberSet 6 10 9 3 5 90 64)) 6 10
      ≡ Some (record {
        person = 6;
        conference = 10;
        position = 2;
        priority = 3;
        added_by = 5;
        added_at = 90;
        last_time_read = 20;
        kind = 64;
      })
  pub places_count_up : places_of 6 rows ≡ 0 ∷ 1 ∷ 2 ∷ []
  pub moved_past_the_end : places_of 6 (with_effect (joins 6 10 9)) ≡ 0 ∷ 1 ∷ 2 ∷ []
  pub places_of_others : places_of 7 (with_effect (joins 6 10 2)) ≡ 0 ∷ 1 ∷ 2 ∷ []
  pub taken_out : member_places (without_membership 6 6 rows.memberships)
      ≡ (5, 5, 0) ∷ (7, 7, 1) ∷ (8, 8, 0) ∷ (6, 10, 0) ∷ (7, 10, 2) ∷ (8, 9, 1) ∷ (7, 1, 0)
      ∷ (6, 1, 1) ∷ []
  pub limit_of_memberships : MOST_MEMBERSHIPS ≡ 2000
  pub seen_by_its_person : sees alone (person 11) 11 ≡ true
  pub read_by_its_own_person : reads_conference alone (person 11) 11 ≡ true
  pub nobody_is_no_supervisor :
      supervises (with_effect (effect.ConfField 1 (field.Supervisor 0))) 0 1 ≡ false
  pub named_supervisor : supervises itself 11 11 ≡ true
  pub strong_reads_all : reads_conference rows strong_nobody 10 ≡ true
