-- Along a history of acts of a sweep the texts go that its records delete.
use Rattle.std.proofs.Common.{◌≡◌, ℕ, ◌||◌, ◌&&◌, Bool, true, false, not, List, [], ◌∷◌, ◌++◌, refl, sym, ap, ◌∙◌}
use Rattle.std.proofs.Common.{subst, inl, inr}
use Rattle.std.specs.Prelude.{map}
use Rattle.std.proofs.lemmas.Bool.{cases_Bool}
use Rattle.kom_types.specs.declared.acts.Act.{Act}
use Rattle.kom_types.specs.declared.acts.Act.TheVariants as act
use Rattle.kom_types.specs.declared.acts.Record.{Record}
use Rattle.kom_types.specs.declared.calls.Call.{Call}
use Rattle.kom_types.specs.declared.calls.Call.TheVariants as call
use Rattle.kom_types.specs.declared.aux_items.ItemRow.{ItemRow}
use Rattle.kom_types.specs.declared.texts.TextLink.{TextLink}
use Rattle.kom_model.specs.After.{after, reply_in}
use Rattle.kom_model.specs.Db.{Db}
use Rattle.kom_model.specs.Legal.{state_after}
use Rattle.kom_model.specs.State.{State, IsSound}
use Rattle.kom_model.proofs.Soundness.{IsSound-after}
use Rattle.kom_laws.proofs.masking.Effects.{same-db}
use Rattle.kom_sweep.specs.Replies.{is_refused}
use Rattle.sweep_laws.specs.Leaving.{HistoryLeaves, deleted_along, deleted_by, named_in}
use Rattle.sweep_laws.specs.Leaving.{is_swept_call, is_other_call, passes}
use Rattle.sweep_laws.specs.Without.{without_texts, without_logins, stays, stays_link, stays_item, IsWithout}
use Rattle.sweep_laws.proofs.Deleting.{none-without, deletion-leaves}
use Rattle.sweep_laws.proofs.Kept.{filter-both, stays-more}
use Rattle.sweep_laws.proofs.Others.{other-leaves}

-- ---- some texts, and then others
and-apart : (a b c d : Bool) → ((a && b) && (c && d)) ≡ ((a && c) && (b && d))
and-apart true b true d = refl
and-apart true true false d = refl
and-apart true false false d = refl
and-apart false b c d = refl

or-apart : (a b c : Bool) → (a || (b && c)) ≡ ((a || b) && (a || c))
or-apart true b c = refl
or-apart false b c = refl

link-more : (one other : List ℕ) (row : TextLink) →
    stays_link (one ++ other) row ≡ (stays_link one row && stays_link other row)
link-more one other row = rw (stays-more one other row.child, stays-more one other row.parent)
    (and-apart (stays one row.child) (stays other row.child) (stays one row.parent) (stays other row.parent))

item-more : (one other : List ℕ) (row : ItemRow) →
    stays_item (one ++ other) row ≡ (stays_item one row && stays_item other row)
item-more one other row = rw (stays-more one other row.object)
    (or-apart (not row.on_text) (stays one row.object) (stays other row.object))

more-without : (one other : List ℕ) (db : Db) →
    without_texts other (without_texts one db) ≡ without_texts (one ++ other) db
more-without one other db = same-db refl refl refl refl
    (filter-both (λ row. stays one row.number) (λ row. stays other row.number) (λ row. stays (one ++ other) row.number)
    (λ row. stays-more one other row.number) db.texts)
    (filter-both (λ row. stays one row.text) (λ row. stays other row.text) (λ row. stays (one ++ other) row.text)
    (λ row. stays-more one other row.text) db.recipients)
    (filter-both (stays_link one) (stays_link other) (stays_link (one ++ other)) (link-more one other) db.links)
    (filter-both (λ row. stays one row.text) (λ row. stays other row.text) (λ row. stays (one ++ other) row.text)
    (λ row. stays-more one other row.text) db.marks)
    (filter-both (stays_item one) (stays_item other) (stays_item (one ++ other)) (item-more one other) db.items)
    refl refl

pub without-then : (one other : List ℕ) (first second third : Db) → IsWithout one first second →
    IsWithout other second third → IsWithout (one ++ other) first third
without-then one other first second third is then = record {
  rows = then.rows
      ∙ ap (λ (db : Db). record (without_texts other db) { persons = third.persons }) is.rows
      ∙ ap (λ (db : Db). record db { persons = third.persons }) (more-without one other first);
  persons = then.persons ∙ is.persons;
}

-- ---- one record
deleted-without : (gone : List ℕ) (old new : Db) → new ≡ without_texts gone old → IsWithout gone old new
deleted-without gone old new is = record {
  rows = is ∙ ap (λ (db : Db). record (without_texts gone old) { persons = db.persons }) (sym is);
  persons = ap (λ (db : Db). map without_logins db.persons) is;
}

pub nothing-named : (state : State) (made : Record) → named_in made.entry.act ≡ [] → deleted_by state made ≡ []
nothing-named state made none = elim (cases_Bool (is_refused (reply_in state made))) [
  | inl refused ↦ rw refused refl
  | inr accepted ↦ rw accepted none
]

-- what a call, or an act, of a sweep is
data Kind (what : Act) : Type 0 where
  Deleting : (text : ℕ) → named_in what ≡ text ∷ [] → Kind what
  Other : passes is_other_call what ≡ true → named_in what ≡ [] → Kind what

call-kind : (session reference : ℕ) (what : Call) → is_swept_call what ≡ true → Kind (act.Call session reference what)
call-kind session reference (call.DeleteText text) is = Deleting text refl
call-kind session reference (call.Login person password invisible) is = Other refl refl
call-kind session reference other is = Other is refl

kind-of : (what : Act) → passes is_swept_call what ≡ true → Kind what
kind-of (act.Call session reference what) is = call-kind session reference what is
kind-of (act.Connect user host) is = Other refl refl
kind-of (act.Broken session) is = Other refl refl
kind-of (act.Drain session) is = Other refl refl
kind-of act.Flush is = Other refl refl
kind-of (act.Close session) is = Other refl refl

pub record-leaves : (state : State) (made : Record) → IsSound state → passes is_swept_call made.entry.act ≡ true →
    IsWithout (deleted_by state made) state.db (after state made).db
record-leaves state made sound is = elim (kind-of made.entry.act is) [
  | Deleting text named ↦ deleted-without (deleted_by state made) state.db (after state made).db
      (deletion-leaves state made text sound.whole named)
  | Other other none ↦ subst (λ (gone : List ℕ). IsWithout gone state.db (after state made).db)
      (sym (nothing-named state made none)) (other-leaves state made other)
]

-- ---- a history
pub history-leaves : HistoryLeaves
history-leaves state [] sound legal all = record {
  rows = ap (λ (db : Db). record db { persons = state.db.persons }) (sym (none-without state.db));
  persons = refl;
}
history-leaves state (made ∷ history) sound legal all = without-then (deleted_by state made)
    (deleted_along (after state made) history) state.db (after state made).db (state_after state (made ∷ history)).db
    (record-leaves state made sound all.0)
    (history-leaves (after state made) history (IsSound-after state made legal.0.user sound) legal.1 all.1)
