-- What calls over persons and conferences come to, worked out by hand.
use Rattle.std.specs.Prelude.{◌≡◌, ℕ, true, false, List, [], ◌∷◌, codes, replicate, None}
use Rattle.kom_types.specs.declared.effects.Counter.TheVariants as counter
use Rattle.kom_types.specs.declared.effects.Effect.TheVariants as effect
use Rattle.kom_types.specs.declared.effects.PersonField.TheVariants as field
use Rattle.kom_types.specs.declared.conferences.ConferenceName.{ConferenceName}
use Rattle.kom_types.specs.declared.conferences.NewConference.{NewConference}
use Rattle.kom_types.specs.declared.persons.NewPerson.{NewPerson}
use Rattle.kom_types.specs.declared.replies.Reply.TheVariants as reply
use Rattle.kom_types.specs.declared.session_changes.SessionChange.TheVariants as change
use Rattle.kom_types.specs.tables.Persons.{password_hash}
use Rattle.kom_rows.specs.Cast.{Cast, cast_over, one_seat}
use Rattle.kom_model.specs.Effects.{all_fit}
use Rattle.kom_model.specs.Db.{empty_db}
use Rattle.kom_model.specs.Initial.{initial, initial_effects}
use Rattle.kom_model.specs.calls.Call.{answer, done_with}
use Rattle.kom_model.specs.calls.Guards.{refusal}
use Rattle.kom_model.specs.calls.Conferences as Conferences
use Rattle.kom_model.specs.calls.Persons as Persons
use Rattle.kom_model.specs.calls.Sessions as Sessions

-- over a server that began at moment 0
abbrev pub cast : Cast
cast = cast_over (initial [] 0) one_seat

open cast use {stranger, anna, high_anna as strong}

abbrev pub person : List ℕ → NewPerson
person name = record { name = name; password = []; flags = 128; aux_items = [] }

abbrev pub conference : List ℕ → ℕ → NewConference
conference name kind = record { name = name; kind = kind; aux_items = [] }

abbrev pub name_of_conference : ℕ → ℕ → List ℕ → ConferenceName
name_of_conference number kind name = record { name = name; kind = kind; number = number }

-- what calls over persons and conferences come to in cases that were worked out by hand
pub record CallRows : Type 0 where
  pub hash_of_no_password : password_hash 5 []
      ≡ 34 ∷ 31 ∷ 138 ∷ 242 ∷ 55 ∷ 42 ∷ 149 ∷ 6 ∷ 79 ∷ 46 ∷ 247 ∷ 215 ∷ 113 ∷ 34 ∷ 22 ∷ 169 ∷ 171
      ∷ 70 ∷ 231 ∷ 239 ∷ 152 ∷ 72 ∷ 47 ∷ 210 ∷ 55 ∷ 225 ∷ 6 ∷ 248 ∷ 62 ∷ 170 ∷ 117 ∷ 105 ∷ []
  pub begins : all_fit (initial_effects (codes "secret") 3) empty_db ≡ true
  pub login_of_no_person : (Sessions.login stranger 0 [] false).early ≡ refusal 8 0
  pub login_of_a_conference : (Sessions.login stranger 4 [] false).early ≡ refusal 10 4
  pub login_by_another_password : (Sessions.login stranger 5 (codes "x") false).early ≡ refusal 4 5
  pub login_by_the_password : (Sessions.login stranger 5 [] true).early ≡ None
  pub login_by_a_strong_session : (Sessions.login strong 5 (codes "x") true).early ≡ None
  pub logs_in : (Sessions.login stranger 5 [] true).rest
      ≡ done_with (effect.LoggedIn 5 30 (codes "ceder") ∷ []) (change.Person 1 5 true ∷ [])
  pub logs_in_again : (Sessions.login anna 5 [] false).rest
      ≡ done_with
      (effect.Counted 5 counter.TimePresent 20 ∷ effect.LoggedIn 5 30 (codes "ceder") ∷ [])
      (change.Person 1 0 false ∷ change.Person 1 5 false ∷ [])
  pub logs_out : (Sessions.logout anna).rest
      ≡ done_with (effect.Counted 5 counter.TimePresent 20 ∷ []) (change.Person 1 0 false ∷ [])
  pub nobody_logs_out : (Sessions.logout stranger).rest ≡ done_with [] []
  pub privileges_by_nobody : (Persons.set_priv_bits stranger 5 0).early ≡ refusal 6 0
  pub privileges_of_no_person : (Persons.set_priv_bits anna 6 0).early ≡ refusal 10 6
  pub privileges_without_strength : (Persons.set_priv_bits anna 5 0).early ≡ refusal 12 0
  pub privileges_are_set : (Persons.set_priv_bits strong 5 0).rest
      ≡ done_with (effect.PersonField 5 (field.Privileges 0) ∷ []) []
  pub person_made : (Persons.create_person stranger (person (codes "Bo"))).rest
      ≡ record {
        reply = reply.Number 6;
        effects =
            effect.ConfAdded 6 (codes "Bo") 152 30 6 6
            ∷ effect.PersonAdded 6 7168 128 30
            ∷ effect.Password 6 (password_hash 6 [])
            ∷ effect.MemberSet 6 6 0 255 6 30 0
            ∷ [];
        changes = [];
      }
  pub made_by_another : (Persons.create_person anna (person (codes "Bo"))).rest
      ≡ record {
        reply = reply.Number 6;
        effects =
            effect.ConfAdded 6 (codes "Bo") 152 30 5 6
            ∷ effect.PersonAdded 6 7168 128 30
            ∷ effect.Password 6 (password_hash 6 [])
            ∷ effect.MemberSet 6 6 0 255 5 30 0
            ∷ effect.Counted 5 counter.CreatedPersons 1
            ∷ [];
        changes = [];
      }
  pub name_of_a_letterbox : (Persons.create_person stranger (person (codes "aDMINISTRATOR"))).early
      ≡ refusal 21 0
  pub name_of_a_conference : (Persons.create_person stranger (person (codes "news"))).early
      ≡ refusal 20 0
  pub name_without_a_word : (Persons.create_person stranger (person (codes "(x)"))).early
      ≡ refusal 18 0
  pub name_too_long : (Persons.create_person stranger (person (replicate 61 65))).early
      ≡ refusal 5 60
  pub conference_by_nobody : (Conferences.create_conf stranger (conference (codes "Open") 8)).early
      ≡ refusal 6 0
  pub letterbox_refused : (Conferences.create_conf anna (conference (codes "Open") 16)).early
      ≡ refusal 23 0
  pub secret_needs_protection : (Conferences.create_conf anna (conference (codes "Open") 32)).early
      ≡ refusal 22 0
  pub conference_made : (Conferences.create_conf anna (conference (codes "Open") 8)).rest
      ≡ record {
        reply = reply.Number 6;
        effects =
            effect.ConfAdded 6 (codes "Open") 8 30 5 5
            ∷ effect.Counted 5 counter.CreatedConferences 1
            ∷ [];
        changes = [];
      }
  pub renamed_alike : (Conferences.change_name anna 4 (codes "NEWS")).early ≡ None
  pub renamed_as_another : (Conferences.change_name anna 4 (codes "administrator")).early
      ≡ refusal 21 0
  pub found_persons : (Conferences.lookup_z_name stranger (codes "a") true true).rest
      ≡ answer (reply.ConferenceNames (name_of_conference 5 144 (codes "Administrator") ∷ []))
  pub found_conferences : (Conferences.lookup_z_name stranger [] false true).rest
      ≡ answer (reply.ConferenceNames
      (name_of_conference 1 0 (codes "Presentations of conferences")
      ∷ name_of_conference 2 0 (codes "Presentations of persons")
      ∷ name_of_conference 3 0 (codes "Messages of the day")
      ∷ name_of_conference 4 0 (codes "News")
      ∷ []))
  pub next_above : Conferences.find_next_conf_no anna 3
      ≡ record { early = None; rest = answer (reply.Number 4) }
  pub none_above : (Conferences.find_next_conf_no anna 5).early ≡ refusal 9 5
  pub next_below : (Conferences.find_previous_conf_no anna 65535).rest ≡ answer (reply.Number 5)
  pub none_below : (Conferences.find_previous_conf_no anna 1).early ≡ refusal 9 1
  pub nearest_by_nobody : (Conferences.find_next_conf_no stranger 3).early ≡ refusal 6 0
  pub first_unused : (Conferences.first_unused_conf_no stranger).rest ≡ answer (reply.Number 6)
  pub too_long_to_do : (Sessions.change_what_i_am_doing stranger (replicate 61 65)).early
      ≡ refusal 5 60
  pub client_told : (Sessions.get_client_name stranger 1).rest ≡ answer (reply.Text [])
  pub client_of_no_session : (Sessions.get_client_name stranger 3).early ≡ refusal 42 3
  pub client_of_an_ended_session : (Sessions.get_client_name stranger 2).early ≡ refusal 42 2
