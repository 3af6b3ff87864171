-- What a book that is made or opened comes to.
use Rattle.std.proofs.Common.{◌≡◌, ℕ, true, false, List, [], ◌++◌, Option, Some, None, Result, Ok, Err, refl, sym}
use Rattle.std.proofs.Common.{ap, ◌∙◌, subst}
use Rattle.std.specs.Prelude.{IfOk, IfErr, IfSome, MatchResult}
use Rattle.kom_types.specs.declared.effects.Effect.{Effect}
use Rattle.kom_model.specs.Db.{Db, empty_db}
use Rattle.kom_model.specs.Effects.{apply_all, all_fit, fitting_effects}
use Rattle.kom_model.specs.Initial.{initial, initial_effects}
use Rattle.kom_model.proofs.Kept.{all_fitted, apply_all-fitting}
use Rattle.kom_model.specs.State.{IsSound, opening_state}
use Rattle.kom_state.specs.Keepers.{append_pending}
use Rattle.kom_journal.specs.Journals.{JournalView}
use Rattle.kom_book.specs.Books.{BookView, IsPlain}
use Rattle.kom_journal.specs.Images.{Image, AreFor}
use Rattle.kom_book.specs.Stores.{IsLeftNow}
use Rattle.kom_book.proofs.StoreSteps.{SaysNow}

-- a result that is this, or an error that is that
pub ok_of : {X E : Type 0} (result : Result X E) (value : X) (P : X → Type 0) → IfOk result (λ x. x ≡ value) →
    P value → IfOk result P
ok_of (Ok x) value P is holds = subst P (sym is) holds
ok_of (Err e) value P is holds = tt

pub err_of : {X E : Type 0} (result : Result X E) (error : E) (Q : E → Type 0) → IfErr result (λ e. e ≡ error) →
    Q error → IfErr result Q
err_of (Ok x) error Q is holds = tt
err_of (Err e) error Q is holds = subst Q (sym is) holds

pub match_of : {X E : Type 0} (result : Result X E) (value : X) (error : E) (P : X → Type 0) (Q : E → Type 0) →
    IfOk result (λ x. x ≡ value) → IfErr result (λ e. e ≡ error) → P value → Q error → MatchResult result P Q
match_of (Ok x) value error P Q ok err first second = subst P (sym ok) first
match_of (Err e) value error P Q ok err first second = subst Q (sym err) second

-- ---- the first batch

some_after : (kept waited now : List Effect) → Some now ≡ append_pending kept (Some waited) → now ≡ waited ++ kept
some_after kept waited now is = cc

-- what waits for the first flush of a store
pub first_pending : (effects waited now : List Effect) → waited ≡ [] →
    Some now ≡ append_pending (fitting_effects effects empty_db) (Some waited) → now ≡ fitting_effects effects empty_db
first_pending effects waited now none kept =
    some_after (fitting_effects effects empty_db) waited now kept
    ∙ ap (λ (list : List Effect). list ++ fitting_effects effects empty_db) none

pub first_fits : (effects now : List Effect) → now ≡ fitting_effects effects empty_db → all_fit now empty_db ≡ true
first_fits effects now is =
    ap (λ (list : List Effect). all_fit list empty_db) is ∙ all_fitted effects empty_db

pub first_rows : (password : List ℕ) (moment : ℕ) (now : List Effect) →
    now ≡ fitting_effects (initial_effects password moment) empty_db → apply_all now empty_db ≡ initial password moment
unfolding initial
first_rows password moment now is =
    ap (λ (list : List Effect). apply_all list empty_db) is
    ∙ apply_all-fitting (initial_effects password moment) empty_db

pub initial_is : (password : List ℕ) (moment : ℕ) →
    apply_all (initial_effects password moment) empty_db ≡ initial password moment
unfolding initial
initial_is password moment = refl

-- ---- what a stop leaves now

module _ {D : Type 0} (moment : D → ℕ) (images_at : D → ℕ → Image → Type 0) (images : D → Image → Type 0) where
  pub stands_now : (disk : D) (db : Db) → SaysNow moment images_at images → AreFor (images disk) db →
      AreFor (IsLeftNow moment images_at disk) db
  stands_now disk db says stands image left = stands image ((says disk image).0 left)

-- a book without a store, before its first act
pub plain_unstored : {D : Type 0} (book : BookView D) (db : Db) → book.core.state ≡ opening_state db →
    IsSound book.core.state → book.journal ≡ None → book.refused ≡ None → IsPlain book
plain_unstored {D} book db state sound none calm = record {
  opening = (db, state, sound);
  waits = subst (λ (journal : Option (JournalView D)). IfSome journal (λ store. store.pending ≡ [])) (sym none) tt;
  whole = subst (λ (journal : Option (JournalView D)). IfSome journal (λ store. store.refused ≡ false)) (sym none) tt;
  refused = calm;
}
