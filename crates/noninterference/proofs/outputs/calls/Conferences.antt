-- The calls about conferences come to the same over two sets of stored rows that are alike to the caller.
use Rattle.std.proofs.Common.{◌≡◌, ℕ, ◌-◌, Bool, true, false, not, ◌&&◌, nat_lt, List, [], ◌∷◌, ◌++◌, Option, Some}
use Rattle.std.proofs.Common.{None}
use Rattle.std.proofs.Common.{refl, sym, ap, ap₂, ◌∙◌}
use Rattle.std.specs.Prelude.{map, option_map, reverse}
use Rattle.std.specs.List.{filter, filter_map}
use Rattle.kom_types.specs.Bits.{alike}
use Rattle.kom_types.specs.declared.errors.TheConstants as error
use Rattle.kom_types.specs.declared.conferences.Conference.{Conference}
use Rattle.kom_types.specs.declared.conferences.ConferenceName.{ConferenceName}
use Rattle.kom_types.specs.declared.conferences.ConferenceRow.{ConferenceRow}
use Rattle.kom_types.specs.declared.conferences.NewConference.{NewConference}
use Rattle.kom_types.specs.declared.effects.Effect.TheVariants as effect
use Rattle.kom_types.specs.declared.memberships.MembershipRow.{MembershipRow}
use Rattle.kom_types.specs.declared.replies.Reply.{Reply}
use Rattle.kom_types.specs.declared.replies.Reply.TheVariants as reply
use Rattle.kom_types.specs.tables.Conferences.{is_letterbox, is_secret_conference}
use Rattle.kom_types.specs.tables.Persons.{may_create_conferences}
use Rattle.kom_types.specs.Names.{finds}
use Rattle.kom_model.specs.Db.{Db, conference_of, conferences_of, memberships_at}
use Rattle.kom_model.specs.Rights.{sees, supervises}
use Rattle.kom_model.specs.Shown.{conference_told}
use Rattle.kom_model.specs.calls.Call.{Asked, answer, done_with}
use Rattle.kom_model.specs.calls.Conferences.{change_name, set_presentation, set_etc_motd, set_supervisor}
use Rattle.kom_model.specs.calls.Conferences.{set_permitted_submitters, set_super_conf, set_conf_type, may_become}
use Rattle.kom_model.specs.calls.Conferences.{set_garb_nice, set_expire, set_keep_commented, delete_conf}
use Rattle.kom_model.specs.calls.Conferences.{gone_conference, gone_person, left_by_deletion, create_conf}
use Rattle.kom_model.specs.calls.Conferences.{may_make_conferences, lookup_z_name, is_wanted, name_of, get_uconf_stat}
use Rattle.kom_model.specs.calls.Conferences.{uconference_of, get_conf_stat, conference_reply, first_unused_conf_no}
use Rattle.kom_model.specs.calls.Conferences.{first_seen, nearest, find_next_conf_no, find_previous_conf_no}
use Rattle.kom_model.specs.calls.Guards.{caller, new_items_guard, with_items}
use Rattle.kom_model.specs.calls.AuxItems.{items_added}
use Rattle.kom_model.specs.calls.Sessions.{counts}
use Rattle.kom_types.specs.AuxItems.{items_from}
use Rattle.kom_types.specs.declared.aux_items.Object.TheVariants as object
use Rattle.kom_types.specs.declared.effects.Counter.TheVariants as counter
use Rattle.kom_laws.specs.masking.Masks.{blank_conference, blank_membership}
use Rattle.kom_laws.proofs.masking.Rows.{told}
use Rattle.noninterference.specs.outputs.Answers.{ComesToSame}
use Rattle.noninterference.specs.outputs.Same.{HasSameConference}
use Rattle.noninterference.proofs.outputs.Alike.{IsAlikeTo, over, caller-same, conference-told, person-told, free-same}
use Rattle.noninterference.proofs.outputs.Alike.{seen-passed}
use Rattle.noninterference.proofs.outputs.Passing.{itself, from-path, passing, ended, by-guard}
use Rattle.noninterference.proofs.outputs.Rows.{told-alike, map-alike, filter-alike, find-alike, filter-tests}
use Rattle.noninterference.proofs.outputs.Rows.{replied-same, reverse-alike}

module _ (asked : Asked) (one : Db) (alike_to : IsAlikeTo (caller asked) one asked.db) where
  abbrev part : Asked
  part = over one asked

  same : caller part ≡ caller asked
  same = caller-same asked one alike_to

  owns : (number : ℕ) → supervises one (caller asked).person number ≡ supervises asked.db (caller asked).person number
  owns number = alike_to.rights.supervises (caller asked).person number

  pub change_name-same : (number : ℕ) (name : List ℕ) →
      ComesToSame (change_name part number name) (change_name asked number name)
  change_name-same number name = rw same (rw (alike_to.rights.sees number) (rw (owns number)
      (rw (free-same (caller asked) one asked.db alike_to number name) (itself _))))

  pub set_presentation-same : (number text : ℕ) →
      ComesToSame (set_presentation part number text) (set_presentation asked number text)
  set_presentation-same number text = rw same (rw (alike_to.rights.sees number) (rw (owns number)
      (rw (alike_to.rights.reads text) (itself _))))

  pub set_etc_motd-same : (number text : ℕ) →
      ComesToSame (set_etc_motd part number text) (set_etc_motd asked number text)
  set_etc_motd-same number text = rw same (rw (alike_to.rights.sees number) (rw (owns number)
      (rw (alike_to.rights.reads text) (itself _))))

  pub set_supervisor-same : (number other : ℕ) →
      ComesToSame (set_supervisor part number other) (set_supervisor asked number other)
  set_supervisor-same number other = rw same (simp alike_to.rights.sees (rw (owns number) (itself _)))

  pub set_permitted_submitters-same : (number other : ℕ) →
      ComesToSame (set_permitted_submitters part number other) (set_permitted_submitters asked number other)
  set_permitted_submitters-same number other = rw same (simp alike_to.rights.sees (rw (owns number) (itself _)))

  pub set_super_conf-same : (number other : ℕ) →
      ComesToSame (set_super_conf part number other) (set_super_conf asked number other)
  set_super_conf-same number other = rw same (simp alike_to.rights.sees (rw (owns number) (itself _)))

  may_become-same : (number kind : ℕ) → may_become one number kind ≡ may_become asked.db number kind
  may_become-same number kind = conference-told (caller asked) one asked.db alike_to false
      (λ row. alike (is_letterbox kind) (is_letterbox row.kind)
      && not (is_letterbox kind && is_secret_conference kind)) (λ row. refl) number

  pub set_conf_type-same : (number kind : ℕ) →
      ComesToSame (set_conf_type part number kind) (set_conf_type asked number kind)
  set_conf_type-same number kind = rw same (rw (alike_to.rights.sees number) (rw (owns number)
      (rw (may_become-same number kind) (itself _))))

  pub set_garb_nice-same : (number days : ℕ) →
      ComesToSame (set_garb_nice part number days) (set_garb_nice asked number days)
  set_garb_nice-same number days = rw same (rw (alike_to.rights.sees number) (rw (owns number) (itself _)))

  pub set_expire-same : (number days : ℕ) → ComesToSame (set_expire part number days) (set_expire asked number days)
  set_expire-same number days = rw same (rw (alike_to.rights.sees number) (rw (owns number) (itself _)))

  pub set_keep_commented-same : (number days : ℕ) →
      ComesToSame (set_keep_commented part number days) (set_keep_commented asked number days)
  set_keep_commented-same number days = rw same (rw (alike_to.rights.sees number) (rw (owns number) (itself _)))

  -- what goes with a conference that is seen
  gone_person-same : (number : ℕ) → gone_person one number ≡ gone_person asked.db number
  gone_person-same number = person-told (caller asked) one asked.db alike_to []
      (λ row. effect.PersonGone number ∷ []) (λ row. refl) number

  gone_members-same : (number : ℕ) →
      map (λ (row : MembershipRow). effect.MemberGone row.person row.conference) (memberships_at one number)
      ≡ map (λ (row : MembershipRow). effect.MemberGone row.person row.conference) (memberships_at asked.db number)
  gone_members-same number = map-alike blank_membership (λ row. effect.MemberGone row.person row.conference)
      (λ row. refl) (memberships_at one number) (memberships_at asked.db number)
      (alike_to.public.memberships_at number)

  gone-same : (number : ℕ) → HasSameConference number one asked.db →
      gone_conference part number ≡ gone_conference asked number
  gone-same number all = rw (all.locals, alike_to.public.marks number, all.items)
      (rw (gone_members-same number) (rw (gone_person-same number) refl))

  pub delete_conf-same : (number : ℕ) → ComesToSame (delete_conf part number) (delete_conf asked number)
  delete_conf-same number = simp (same, by-guard, alike_to.rights.sees, alike_to.rights.supervises)
      (passing refl (λ login. passing refl (λ seen. passing refl (λ supervised.
      ended (ap (λ effects. done_with effects (filter_map (left_by_deletion number) asked.seats))
      (gone-same number (alike_to.conference number (seen-passed asked.db (caller asked) number seen))))))))

  may_make-same : (person : ℕ) → may_make_conferences one person ≡ may_make_conferences asked.db person
  may_make-same person = person-told (caller asked) one asked.db alike_to false
      (λ row. may_create_conferences row.privileges) (λ row. refl) person

  pub create_conf-same : (given : NewConference) → ComesToSame (create_conf part given) (create_conf asked given)
  create_conf-same given = record {
    early = rw same (rw alike_to.public.next_conference (rw (may_make-same (caller asked).person)
        (rw (free-same (caller asked) one asked.db alike_to 0 given.name) refl)));
    rest = λ passes. rw same (ap (λ number.
        with_items (new_items_guard object.Conference (caller asked).person given.aux_items) (record {
          reply = reply.Number number;
          effects =
              effect.ConfAdded number given.name given.kind asked.moment (caller asked).person (caller asked).person
              ∷ items_added false number (items_from 1 (caller asked).person asked.moment given.aux_items)
              ++ counts (caller asked).person counter.CreatedConferences 1;
          changes = [];
        })) alike_to.public.next_conference);
  }

  -- what is found by a name
  looked_up-same : (pattern : List ℕ) (persons conferences : Bool) →
      map name_of (filter (λ row. finds pattern row.name && is_wanted persons conferences row
      && sees one (caller part) row.number) (conferences_of one))
      ≡ map name_of (filter (λ row. finds pattern row.name && is_wanted persons conferences row
      && sees asked.db (caller asked) row.number) (conferences_of asked.db))
  looked_up-same pattern persons conferences =
      let test : ConferenceRow → Bool = λ row. finds pattern row.name && is_wanted persons conferences row
      && sees asked.db (caller asked) row.number in
      ap (map name_of) (filter-tests _ test (λ row. rw same (rw (alike_to.rights.sees row.number) refl))
      (conferences_of one))
      ∙ map-alike blank_conference name_of (λ row. refl) _ _ (filter-alike blank_conference test (λ row. refl)
      (conferences_of one) (conferences_of asked.db) alike_to.public.conferences)

  pub lookup-same : (pattern : List ℕ) (persons conferences : Bool) →
      ComesToSame (lookup_z_name part pattern persons conferences) (lookup_z_name asked pattern persons conferences)
  lookup-same pattern persons conferences = record {
    early = refl;
    rest = λ passes. ap (λ (names : List ConferenceName). answer (reply.ConferenceNames names))
        (looked_up-same pattern persons conferences);
  }

  uconference-same : (number : ℕ) → HasSameConference number one asked.db →
      uconference_of one number ≡ uconference_of asked.db number
  uconference-same number all = ap₂ (λ (found : Option ConferenceRow) (next : ℕ).
      told (reply.Refused error.UNDEFINED_CONFERENCE number) (λ row. reply.UConference (record {
        name = row.name;
        kind = row.kind;
        highest_local = next - 1;
        nice = row.nice;
      })) found) all.row all.next_local

  pub get_uconf_stat-same : (number : ℕ) → ComesToSame (get_uconf_stat part number) (get_uconf_stat asked number)
  get_uconf_stat-same number = simp (same, by-guard, alike_to.rights.sees)
      (passing refl (λ login. passing refl (λ seen. ended (ap answer (uconference-same number
      (alike_to.conference number (seen-passed asked.db (caller asked) number seen)))))))

  reply-same : (number : ℕ) → sees asked.db (caller asked) number ≡ true →
      conference_reply one (caller asked) number ≡ conference_reply asked.db (caller asked) number
  reply-same number seen =
      let none : Reply = reply.Refused error.UNDEFINED_CONFERENCE number in
      let tell : Conference → Reply = λ told. reply.Conference told in
      replied-same none tell (conference_told one (caller asked)) (conference_told asked.db (caller asked))
      (conference_of one number) (conference_of asked.db number) (alike_to.shown.conference number seen)

  pub get_conf_stat-same : (number : ℕ) → ComesToSame (get_conf_stat part number) (get_conf_stat asked number)
  get_conf_stat-same number = simp (same, by-guard, alike_to.rights.sees)
      (passing refl (λ login. passing refl (λ seen. ended (ap answer (reply-same number
      (seen-passed asked.db (caller asked) number seen))))))

  pub first_unused-same : ComesToSame (first_unused_conf_no part) (first_unused_conf_no asked)
  first_unused-same = rw alike_to.public.next_conference (itself _)

  -- the nearest conference that is seen
  nearest-over : (start : ℕ) (found : Option ConferenceRow) → nearest part start found ≡ nearest asked start found
  nearest-over start None = rw same refl
  nearest-over start (Some row) = rw same refl

  nearest-told : (start : ℕ) (found : Option ConferenceRow) → nearest asked start found
      ≡ told (nearest asked start None) (λ row. nearest asked start (Some row)) found
  nearest-told start None = refl
  nearest-told start (Some row) = refl

  nearest-same : (start : ℕ) (found found' : Option ConferenceRow) →
      option_map blank_conference found ≡ option_map blank_conference found' →
      ComesToSame (nearest part start found) (nearest asked start found')
  nearest-same start found found' same = from-path _ _ (nearest-over start found ∙ nearest-told start found
      ∙ told-alike blank_conference (λ row. nearest asked start (Some row)) (λ row. refl) (nearest asked start None)
      found found' same ∙ sym (nearest-told start found'))

  first_seen-same : (test : ConferenceRow → Bool) → ((row : ConferenceRow) → test (blank_conference row) ≡ test row) →
      (ones others : List ConferenceRow) → map blank_conference ones ≡ map blank_conference others →
      option_map blank_conference (first_seen part test ones)
      ≡ option_map blank_conference (first_seen asked test others)
  first_seen-same test tests ones others rows = rw same (simp alike_to.rights.sees
      (find-alike blank_conference (λ row. test row && sees asked.db (caller asked) row.number)
      (λ row. ap (λ b. b && sees asked.db (caller asked) row.number) (tests row)) ones others rows))

  pub find_next-same : (start : ℕ) → ComesToSame (find_next_conf_no part start) (find_next_conf_no asked start)
  find_next-same start = nearest-same start _ _ (first_seen-same (λ row. nat_lt start row.number) (λ row. refl)
      (conferences_of one) (conferences_of asked.db) alike_to.public.conferences)

  pub find_previous-same : (start : ℕ) →
      ComesToSame (find_previous_conf_no part start) (find_previous_conf_no asked start)
  find_previous-same start = nearest-same start _ _ (first_seen-same (λ row. nat_lt row.number start) (λ row. refl)
      (reverse (conferences_of one)) (reverse (conferences_of asked.db))
      (reverse-alike blank_conference (conferences_of one) (conferences_of asked.db) alike_to.public.conferences))
