-- The calls about aux-items come to the same over two sets of stored rows that are alike to the caller.
use Rattle.std.proofs.Common.{◌≡◌, ℕ, Bool, true, false, cond, ◌||◌, refl, ap, ◌∙◌}
use Rattle.kom_types.specs.declared.aux_items.Adder.{Adder}
use Rattle.kom_types.specs.declared.aux_items.AuxChange.{AuxChange}
use Rattle.kom_types.specs.declared.aux_items.Object.{Object}
use Rattle.kom_types.specs.declared.aux_items.Object.TheVariants as object
use Rattle.kom_types.specs.tables.Conferences.{is_letterbox}
use Rattle.kom_model.specs.declared.viewers.Viewer.{Viewer}
use Rattle.kom_model.specs.Db.{Db, text_author_of}
use Rattle.kom_model.specs.Rights.{supervises, is_author}
use Rattle.kom_model.specs.Shown.{text_adder, conference_adder}
use Rattle.kom_model.specs.calls.AuxItems.{modify_text_info, modify_conf_info, change_items, object_of}
use Rattle.kom_model.specs.calls.Call.{Asked}
use Rattle.kom_model.specs.calls.Guards.{caller, login_guard, text_guard, conference_guard}
use Rattle.kom_laws.proofs.masking.Rows.{told}
use Rattle.noninterference.specs.outputs.Answers.{ComesToSame}
use Rattle.noninterference.specs.outputs.Same.{HasSameText, HasSameConference}
use Rattle.noninterference.proofs.outputs.Alike.{IsAlikeTo, over, caller-same, text-same, conference-same, read-passed}
use Rattle.noninterference.proofs.outputs.Alike.{seen-passed, conference-told}
use Rattle.noninterference.proofs.outputs.Passing.{two-guards}
use Rattle.noninterference.proofs.outputs.Rows.{told-tells}

module _ (asked : Asked) (one : Db) (alike : IsAlikeTo (caller asked) one asked.db) where
  abbrev part : Asked
  part = over one asked

  same : caller part ≡ caller asked
  same = caller-same asked one alike

  -- who looks owns the same
  owned-same : (text : ℕ) → text_adder one (caller asked) text ≡ text_adder asked.db (caller asked) text
  owned-same text =
      let viewer : Viewer = caller asked in
      let owned = ap (told viewer.strong (λ author. is_author viewer.person author
      || supervises one viewer.person author || viewer.strong)) (alike.public.author text)
      ∙ told-tells viewer.strong _ _ (λ (author : ℕ). ap (λ supervised. is_author viewer.person author
      || supervised || viewer.strong) (alike.rights.supervises viewer.person author)) (text_author_of asked.db text) in
      λ i. record { person = viewer.person; owns = owned i }

  text_adder-same : (text : ℕ) → text_adder one (caller part) text ≡ text_adder asked.db (caller asked) text
  text_adder-same text = ap (λ viewer. text_adder one viewer text) same ∙ owned-same text

  conference_adder-same : (conference : ℕ) →
      conference_adder one (caller part) conference ≡ conference_adder asked.db (caller asked) conference
  conference_adder-same conference = ap (λ viewer. conference_adder one viewer conference) same
      ∙ ap (λ supervised. record { person = (caller asked).person; owns = supervised || (caller asked).strong })
      (alike.rights.supervises (caller asked).person conference)

  text_guard-same : (text : ℕ) → text_guard one (caller part) text ≡ text_guard asked.db (caller asked) text
  text_guard-same text = ap (λ viewer. text_guard one viewer text) same
      ∙ text-same (caller asked) one asked.db alike text

  conference_guard-same : (conference : ℕ) →
      conference_guard one (caller part) conference ≡ conference_guard asked.db (caller asked) conference
  conference_guard-same conference = ap (λ viewer. conference_guard one viewer conference) same
      ∙ conference-same (caller asked) one asked.db alike conference

  -- what a change of items comes to
  text_changed-same : (adder : Adder) (change : AuxChange) → HasSameText change.object one asked.db →
      change_items part true object.Text adder change ≡ change_items asked true object.Text adder change
  text_changed-same adder change whole = rw (whole.items, whole.next_item) refl

  conference_changed-same : (on : Object) (adder : Adder) (change : AuxChange) →
      HasSameConference change.object one asked.db →
      change_items part false on adder change ≡ change_items asked false on adder change
  conference_changed-same on adder change all = rw (all.items, all.next_item) refl

  pub modify_text_info-same : (change : AuxChange) →
      ComesToSame (modify_text_info part change) (modify_text_info asked change)
  modify_text_info-same change = two-guards (login_guard (caller part)) (login_guard (caller asked))
      (text_guard one (caller part) change.object) (text_guard asked.db (caller asked) change.object) _ _
      (ap login_guard same) (text_guard-same change.object) (λ login read.
      ap (λ adder. change_items part true object.Text adder change) (text_adder-same change.object)
      ∙ text_changed-same (text_adder asked.db (caller asked) change.object) change
      (alike.text change.object login (read-passed asked.db (caller asked) change.object read)))

  object-same : (conference : ℕ) → object_of one conference ≡ object_of asked.db conference
  object-same conference = ap (λ (letterbox : Bool). cond letterbox object.Letterbox object.Conference)
      (conference-told (caller asked) one asked.db alike false (λ row. is_letterbox row.kind) (λ row. refl) conference)

  pub modify_conf_info-same : (change : AuxChange) →
      ComesToSame (modify_conf_info part change) (modify_conf_info asked change)
  modify_conf_info-same change = two-guards (login_guard (caller part)) (login_guard (caller asked))
      (conference_guard one (caller part) change.object) (conference_guard asked.db (caller asked) change.object) _ _
      (ap login_guard same) (conference_guard-same change.object) (λ login seen.
      ap (λ on. change_items part false on (conference_adder one (caller part) change.object) change)
      (object-same change.object)
      ∙ ap (λ adder. change_items part false (object_of asked.db change.object) adder change)
      (conference_adder-same change.object)
      ∙ conference_changed-same (object_of asked.db change.object)
      (conference_adder asked.db (caller asked) change.object) change
      (alike.conference change.object (seen-passed asked.db (caller asked) change.object seen)))
