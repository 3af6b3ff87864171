-- What the rights say by the head of a conference.
use Rattle.std.proofs.Common.{◌≡◌, ℕ, Bool, true, false, not, ◌||◌, Option, Some, None, ap, ◌∙◌}
use Rattle.kom_types.specs.declared.conferences.ConferenceHead.{ConferenceHead}
use Rattle.kom_types.specs.tables.Conferences.{is_read_protected, is_secret_conference}
use Rattle.kom_model.specs.declared.viewers.Viewer.{Viewer}
use Rattle.kom_model.specs.Db.{Db, conference_head_of}
use Rattle.kom_model.specs.Rights.{supervises, sees, reads_conference, stands_for, is_let_in}
use Rattle.kom_model.specs.Rights.{may_submit, is_submitter}

-- what a head that may be there tells
abbrev told : (ConferenceHead → Bool) → Option ConferenceHead → Bool
told tell found = elim found [ None ↦ false | Some head ↦ tell head ]

pub supervises_none : (db : Db) (person conference : ℕ) → conference_head_of db conference ≡ None →
    supervises db person conference ≡ false
unfolding supervises
supervises_none db person conference is = ap (told (λ head. stands_for db person head.supervisor)) is

pub supervises_some : (db : Db) (person conference : ℕ) (head : ConferenceHead) →
    conference_head_of db conference ≡ Some head → supervises db person conference ≡ stands_for db person
    head.supervisor
unfolding supervises
supervises_some db person conference head is = ap (told (λ head. stands_for db person head.supervisor)) is

pub sees_none : (db : Db) (viewer : Viewer) (conference : ℕ) → conference_head_of db conference ≡ None →
    sees db viewer conference ≡ false
unfolding sees
sees_none db viewer conference is =
    ap (told (λ head. not (is_secret_conference head.kind) || is_let_in db viewer conference head.supervisor)) is

pub sees_some : (db : Db) (viewer : Viewer) (conference : ℕ) (head : ConferenceHead) →
    conference_head_of db conference ≡ Some head →
    sees db viewer conference ≡ (not (is_secret_conference head.kind) || is_let_in db viewer conference head.supervisor)
unfolding sees
sees_some db viewer conference head is =
    ap (told (λ head. not (is_secret_conference head.kind) || is_let_in db viewer conference head.supervisor)) is

pub sees_open : (db : Db) (viewer : Viewer) (conference : ℕ) (head : ConferenceHead) →
    conference_head_of db conference ≡ Some head → is_secret_conference head.kind ≡ false →
    sees db viewer conference ≡ true
sees_open db viewer conference head is not_set =
    sees_some db viewer conference head is
    ∙ ap (λ b. not b || is_let_in db viewer conference head.supervisor) not_set

pub reads_none : (db : Db) (viewer : Viewer) (conference : ℕ) → conference_head_of db conference ≡ None →
    reads_conference db viewer conference ≡ false
unfolding reads_conference
reads_none db viewer conference is =
    ap (told (λ head. not (is_read_protected head.kind) || is_let_in db viewer conference head.supervisor)) is

pub reads_some : (db : Db) (viewer : Viewer) (conference : ℕ) (head : ConferenceHead) →
    conference_head_of db conference ≡ Some head →
    reads_conference db viewer conference ≡ (not (is_read_protected head.kind) || is_let_in db viewer conference
    head.supervisor)
unfolding reads_conference
reads_some db viewer conference head is =
    ap (told (λ head. not (is_read_protected head.kind) || is_let_in db viewer conference head.supervisor)) is

pub reads_open : (db : Db) (viewer : Viewer) (conference : ℕ) (head : ConferenceHead) →
    conference_head_of db conference ≡ Some head → is_read_protected head.kind ≡ false →
    reads_conference db viewer conference ≡ true
reads_open db viewer conference head is not_set =
    reads_some db viewer conference head is
    ∙ ap (λ b. not b || is_let_in db viewer conference head.supervisor) not_set

pub submits_none : (db : Db) (viewer : Viewer) (conference : ℕ) → conference_head_of db conference ≡ None →
    may_submit db viewer conference ≡ false
unfolding may_submit
submits_none db viewer conference is =
    ap (told (λ head. viewer.strong || is_submitter db viewer.person head.submitters
    || stands_for db viewer.person head.supervisor)) is

pub submits_some : (db : Db) (viewer : Viewer) (conference : ℕ) (head : ConferenceHead) →
    conference_head_of db conference ≡ Some head →
    may_submit db viewer conference ≡ (viewer.strong || is_submitter db viewer.person head.submitters
    || stands_for db viewer.person head.supervisor)
unfolding may_submit
submits_some db viewer conference head is =
    ap (told (λ head. viewer.strong || is_submitter db viewer.person head.submitters
    || stands_for db viewer.person head.supervisor)) is
