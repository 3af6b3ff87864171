-- The calls about memberships, and what was read, come to the same over two sets of stored rows that are alike to the
-- caller.
use Rattle.std.proofs.Common.{◌≡◌, ℕ, ◌+◌, Bool, true, false, cond, not, ◌&&◌, nat_lt, List, [], ◌∷◌, length}
use Rattle.std.proofs.Common.{None, refl, ap, ap₂, ◌∙◌}
use Rattle.std.specs.Prelude.{map, is_some, bit_or}
use Rattle.std.specs.List.{filter, AllByRecursion}
use Rattle.std.proofs.lemmas.Bool.{and_parts}
use Rattle.std.proofs.Common.{eqb-true, subst, sym}
use Rattle.kom_types.specs.declared.errors.TheConstants as error
use Rattle.kom_types.specs.declared.effects.Effect.TheVariants as effect
use Rattle.kom_types.specs.declared.memberships.Membership.{Membership}
use Rattle.kom_types.specs.declared.memberships.MembershipRow.{MembershipRow}
use Rattle.kom_types.specs.declared.memberships.ReadRange.{ReadRange}
use Rattle.kom_types.specs.declared.replies.Reply.{Reply}
use Rattle.kom_types.specs.declared.replies.Reply.TheVariants as reply
use Rattle.kom_types.specs.tables.Conferences.{is_read_protected, forbids_secret}
use Rattle.kom_types.specs.tables.Memberships.{is_membership, is_passive}
use Rattle.kom_model.specs.Db.{Db, person_of, membership_of, memberships_of}
use Rattle.kom_model.specs.Rights.{sees}
use Rattle.kom_model.specs.Shown.{shows_membership, memberships_shown}
use Rattle.kom_model.specs.calls.Call.{Asked, answer, done_with}
use Rattle.kom_model.specs.calls.Guards.{caller, conference_guard}
use Rattle.kom_model.specs.calls.Memberships.{shows_row, mark_as_read, mark_as_unread, set_unread}
use Rattle.kom_model.specs.calls.Memberships.{set_last_read, set_read_ranges, change_conference, sub_member}
use Rattle.kom_model.specs.calls.Memberships.{refuses_secret, is_near, is_open, set_member, member_effects, add_member}
use Rattle.kom_model.specs.calls.Memberships.{type_effects, set_membership_type, is_shown, is_unread, get_unread_confs}
use Rattle.kom_model.specs.calls.Memberships.{get_members, membership_told, place_of, told_reply}
use Rattle.kom_model.specs.calls.Memberships.{query_read_texts, all_told, part, get_membership}
use Rattle.kom_laws.specs.masking.Masks.{blank_membership}
use Rattle.kom_laws.proofs.masking.Rows.{told as told_of}
use Rattle.noninterference.specs.outputs.Answers.{ComesToSame}
use Rattle.noninterference.specs.outputs.Same.{HasSameConference}
use Rattle.noninterference.proofs.outputs.Alike.{IsAlikeTo, over, caller-same, there-same, conference-told, seen-passed}
use Rattle.noninterference.proofs.outputs.Passing.{itself, resting, passing, by-guard}
use Rattle.noninterference.proofs.outputs.Rows.{told-tells, told-where, map-alike, filter-alike, filter-tests}
use Rattle.noninterference.proofs.outputs.Rows.{length-alike, all-kept, all-dropped, all-taken}

-- two tests of a row that shows, and by which it is told
both-same : (shows shows' passes tells tells' : Bool) → shows ≡ shows' → (shows' ≡ true → tells ≡ tells') →
    (shows && passes && tells) ≡ (shows' && passes && tells')
both-same shows true passes tells tells' same told = rw same (rw (told refl) refl)
both-same shows false passes tells tells' same told = rw same refl

module _ (asked : Asked) (one : Db) (alike : IsAlikeTo (caller asked) one asked.db) where
  abbrev rest : Asked
  rest = over one asked

  same : caller rest ≡ caller asked
  same = caller-same asked one alike

  all : (conference : ℕ) → conference_guard asked.db (caller asked) conference ≡ None →
      HasSameConference conference one asked.db
  all conference seen = alike.conference conference (seen-passed asked.db (caller asked) conference seen)

  there : (person : ℕ) → is_some (person_of one person) ≡ is_some (person_of asked.db person)
  there person = there-same (caller asked) one asked.db alike person

  -- ---- what the caller read
  pub mark_as_read-same : (conference : ℕ) (locals : List ℕ) →
      ComesToSame (mark_as_read rest conference locals) (mark_as_read asked conference locals)
  mark_as_read-same conference locals = simp (same, by-guard, alike.rights.sees, alike.public.kind)
      (passing refl (λ login. passing refl (λ seen. let known : HasSameConference conference one asked.db =
      all conference seen in rw (known.next_local, known.ranges (caller asked).person) (itself _))))

  pub mark_as_unread-same : (conference local : ℕ) →
      ComesToSame (mark_as_unread rest conference local) (mark_as_unread asked conference local)
  mark_as_unread-same conference local = simp (same, by-guard, alike.rights.sees, alike.public.kind)
      (passing refl (λ login. passing refl (λ seen. let known : HasSameConference conference one asked.db =
      all conference seen in rw (known.next_local, known.ranges (caller asked).person) (itself _))))

  pub set_unread-same : (conference count : ℕ) →
      ComesToSame (set_unread rest conference count) (set_unread asked conference count)
  set_unread-same conference count = simp (same, by-guard, alike.rights.sees, alike.public.kind)
      (passing refl (λ login. passing refl (λ seen. let known : HasSameConference conference one asked.db =
      all conference seen in rw known.next_local (itself _))))

  pub set_last_read-same : (conference local : ℕ) →
      ComesToSame (set_last_read rest conference local) (set_last_read asked conference local)
  set_last_read-same conference local = simp (same, by-guard, alike.rights.sees, alike.public.kind)
      (passing refl (λ login. passing refl (λ seen. let known : HasSameConference conference one asked.db =
      all conference seen in rw known.next_local (itself _))))

  pub set_read_ranges-same : (conference : ℕ) (ranges : List ReadRange) →
      ComesToSame (set_read_ranges rest conference ranges) (set_read_ranges asked conference ranges)
  set_read_ranges-same conference ranges = simp (same, by-guard, alike.rights.sees, alike.public.kind)
      (passing refl (λ login. passing refl (λ seen. let known : HasSameConference conference one asked.db =
      all conference seen in rw known.next_local (itself _))))

  -- ---- memberships that begin, change and end
  pub change_conference-same : (conference : ℕ) →
      ComesToSame (change_conference rest conference) (change_conference asked conference)
  change_conference-same conference = rw same (rw (alike.rights.sees conference)
      (rw (alike.public.kind (caller asked).person conference) (itself _)))

  row-same : (person conference : ℕ) →
      shows_row one (caller asked) person conference ≡ shows_row asked.db (caller asked) person conference
  row-same person conference =
      ap (told_of false (shows_membership one (caller asked) person conference)) (alike.public.kind person conference)
      ∙ told-tells false (shows_membership one (caller asked) person conference)
      (shows_membership asked.db (caller asked) person conference) (alike.shown.membership person conference) _

  pub sub_member-same : (conference person : ℕ) →
      ComesToSame (sub_member rest conference person) (sub_member asked conference person)
  sub_member-same conference person = rw same (rw (there person) (rw (row-same person conference)
      (simp (alike.rights.sees, alike.rights.supervises) (itself _))))

  refuses-same : (conference : ℕ) → refuses_secret one conference ≡ refuses_secret asked.db conference
  refuses-same conference = conference-told (caller asked) one asked.db alike false
      (λ row. forbids_secret row.kind) (λ row. refl) conference

  open-same : (conference : ℕ) → is_open one conference ≡ is_open asked.db conference
  open-same conference = conference-told (caller asked) one asked.db alike false
      (λ row. not (is_read_protected row.kind)) (λ row. refl) conference

  count-same : (person : ℕ) → length (memberships_of one person) ≡ length (memberships_of asked.db person)
  count-same person = length-alike blank_membership _ _ (alike.public.memberships person)

  near-same : (person : ℕ) → is_near one (caller rest) person ≡ is_near asked.db (caller asked) person
  near-same person = rw same (rw (alike.rights.supervises (caller asked).person person) refl)

  member_effects-same : (person conference priority place kind : ℕ) → HasSameConference conference one asked.db →
      member_effects rest person conference priority place kind
      ≡ member_effects asked person conference priority place kind
  member_effects-same person conference priority place kind known =
      let near : is_near one (caller rest) person ≡ is_near asked.db (caller asked) person = near-same person in
      let found = known.membership person in
      λ i. told_of (effect.MemberSet person conference place priority (same i).person asked.moment
      (cond (near i) kind (bit_or kind 128)) ∷ [])
      (λ (row : MembershipRow). cond (near i) (set_member row priority place kind ∷ []) []) (found i)

  pub add_member-same : (conference person priority place kind : ℕ) → ComesToSame
      (add_member rest conference person priority place kind) (add_member asked conference person priority place kind)
  add_member-same conference person priority place kind =
      simp (
        same,
        by-guard,
        there,
        refuses-same,
        open-same,
        count-same,
        alike.itself,
        alike.rights.sees,
        alike.rights.supervises,
        alike.public.kind,
      )
      (passing refl (λ login. passing refl (λ seen. resting (ap (λ effects. done_with effects [])
      (member_effects-same person conference priority place kind (all conference seen))))))

  type_effects-same : (person conference kind : ℕ) → HasSameConference conference one asked.db →
      type_effects one person conference kind ≡ type_effects asked.db person conference kind
  type_effects-same person conference kind known = ap (told_of []
      (λ (row : MembershipRow). set_member row row.priority row.position kind ∷ [])) (known.membership person)

  pub set_membership_type-same : (person conference kind : ℕ) → ComesToSame
      (set_membership_type rest person conference kind) (set_membership_type asked person conference kind)
  set_membership_type-same person conference kind =
      simp (same, by-guard, there, refuses-same, row-same, alike.rights.sees, alike.rights.supervises)
      (passing refl (λ login. passing refl (λ is. passing refl (λ seen. resting (ap (λ effects. done_with effects [])
      (type_effects-same person conference kind (all conference seen)))))))

  -- ---- what is told of memberships
  unread-same : (row : MembershipRow) → sees asked.db (caller asked) row.conference ≡ true →
      is_unread one row ≡ is_unread asked.db row
  unread-same row seen =
      let known : HasSameConference row.conference one asked.db = alike.conference row.conference seen in
      rw (known.first_local, known.next_local, known.ranges row.person) refl

  shown-same : (row : MembershipRow) → is_shown rest row ≡ is_shown asked row
  shown-same row = rw same (alike.shown.membership row.person row.conference row.kind)

  -- a membership that is shown is in a conference that is seen
  shown-seen : (row : MembershipRow) → is_shown asked row ≡ true → sees asked.db (caller asked) row.conference ≡ true
  unfolding shows_membership
  shown-seen row shown = (and_parts _ _ shown).0

  unread_confs-same : (person : ℕ) →
      map (λ (row : MembershipRow). row.conference) (filter
      (λ row. is_shown rest row && not (is_passive row.kind) && is_unread one row) (memberships_of one person))
      ≡ map (λ (row : MembershipRow). row.conference) (filter
      (λ row. is_shown asked row && not (is_passive row.kind) && is_unread asked.db row)
      (memberships_of asked.db person))
  unread_confs-same person =
      let test : MembershipRow → Bool = λ row. is_shown asked row && not (is_passive row.kind)
      && is_unread asked.db row in
      ap (map (λ (row : MembershipRow). row.conference)) (filter-tests _ test (λ row. both-same _ _
      (not (is_passive row.kind)) _ _ (shown-same row) (λ shown. unread-same row (shown-seen row shown)))
      (memberships_of one person))
      ∙ map-alike blank_membership (λ row. row.conference) (λ row. refl) _ _
      (filter-alike blank_membership test (λ row. refl) _ _ (alike.public.memberships person))

  pub get_unread_confs-same : (person : ℕ) →
      ComesToSame (get_unread_confs rest person) (get_unread_confs asked person)
  get_unread_confs-same person = record {
    early = rw same (rw (there person) (rw (alike.shown.reserved person)
        (rw (alike.rights.supervises (caller asked).person person) refl)));
    rest = λ passes. ap (λ numbers. answer (reply.Numbers numbers)) (unread_confs-same person);
  }

  pub get_members-same : (conference first count : ℕ) →
      ComesToSame (get_members rest conference first count) (get_members asked conference first count)
  get_members-same conference first count = simp same (rw (alike.rights.sees conference)
      (rw (alike.shown.members conference) (itself _)))

  -- a membership that is shown is told the same
  told-same : (want_ranges : Bool) (most place : ℕ) (row : MembershipRow) →
      sees asked.db (caller asked) row.conference ≡ true →
      membership_told rest want_ranges most place row ≡ membership_told asked want_ranges most place row
  told-same want_ranges most place row seen =
      rw same (rw (alike.shown.time row) (rw (alike.shown.ranges row seen) refl))

  place-same : (row : MembershipRow) → place_of rest row ≡ place_of asked row
  place-same row =
      let test : MembershipRow → Bool = λ other. nat_lt other.position row.position && is_shown asked other in
      ap length (filter-tests _ test (λ other. ap (λ shown. nat_lt other.position row.position && shown)
      (shown-same other)) (memberships_of one row.person))
      ∙ length-alike blank_membership _ _ (filter-alike blank_membership test (λ other. refl) _ _
      (alike.public.memberships row.person))

  told_reply-same : (person conference : ℕ) (want_ranges : Bool) (most : ℕ) →
      sees asked.db (caller asked) conference ≡ true →
      told_reply rest person conference want_ranges most ≡ told_reply asked person conference want_ranges most
  unfolding membership_of
  told_reply-same person conference want_ranges most seen =
      let none : Reply = reply.Refused error.NOT_MEMBER conference in
      let tell : Asked → MembershipRow → Reply = λ asked row.
      reply.Membership (membership_told asked want_ranges most (place_of asked row) row) in
      ap (told_of none (tell rest)) ((alike.conference conference seen).membership person)
      ∙ told-where (is_membership person conference) none (tell rest) (tell asked)
      (λ row here. let here_seen : sees asked.db (caller asked) row.conference ≡ true =
      subst (λ number. sees asked.db (caller asked) number ≡ true)
      (sym (eqb-true row.conference conference (and_parts _ _ here).1)) seen in
      ap (λ told. reply.Membership told) (ap (λ place. membership_told rest want_ranges most place row) (place-same row)
      ∙ told-same want_ranges most (place_of asked row) row here_seen)) asked.db.memberships

  pub query_read_texts-same : (person conference : ℕ) (want_ranges : Bool) (most : ℕ) → ComesToSame
      (query_read_texts rest person conference want_ranges most)
      (query_read_texts asked person conference want_ranges most)
  query_read_texts-same person conference want_ranges most =
      simp (same, by-guard, there, row-same, alike.rights.sees)
      (passing refl (λ login. passing refl (λ is. passing refl (λ seen. resting (ap answer
      (told_reply-same person conference want_ranges most (seen-passed asked.db (caller asked) conference seen)))))))

  all_told-same : (want_ranges : Bool) (most place : ℕ) (rows : List MembershipRow) →
      AllByRecursion (λ row. sees asked.db (caller asked) row.conference ≡ true) rows →
      all_told rest want_ranges most place rows ≡ all_told asked want_ranges most place rows
  all_told-same want_ranges most place [] seen = refl
  all_told-same want_ranges most place (row ∷ rows) seen =
      ap₂ (λ (first : Membership) (others : List Membership). first ∷ others)
      (told-same want_ranges most place row seen.0) (all_told-same want_ranges most (place + 1) rows seen.1)

  pub get_membership-same : (person first count : ℕ) (want_ranges : Bool) (most : ℕ) → ComesToSame
      (get_membership rest person first count want_ranges most)
      (get_membership asked person first count want_ranges most)
  get_membership-same person first count want_ranges most =
      let shown : memberships_shown one (caller rest) person ≡ memberships_shown asked.db (caller asked) person =
      ap (λ viewer. memberships_shown one viewer person) same ∙ alike.shown.memberships person in
      let seen : (row : MembershipRow) → shows_membership asked.db (caller asked) row.person row.conference row.kind
      ≡ true → sees asked.db (caller asked) row.conference ≡ true = λ row is. shown-seen row is in
      record {
        early = rw same (rw (there person) (rw (alike.shown.memberships person) refl));
        rest = λ passes. ap (λ told. answer (reply.Memberships told))
            (ap (λ rows. all_told rest want_ranges most first (part first count rows)) shown
            ∙ all_told-same want_ranges most first (part first count (memberships_shown asked.db (caller asked) person))
            (all-taken _ count _ (all-dropped _ first _ (all-kept
            (λ (row : MembershipRow). sees asked.db (caller asked) row.conference ≡ true) _ seen
            (memberships_of asked.db person)))));
      }
