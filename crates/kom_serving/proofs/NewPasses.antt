-- A pass that has served nothing yet.
use Rattle.std.proofs.Common.{◌≡◌, ℕ, ◌≤◌, nat_eq, eqb, true, List, [], ◌∷◌, map, All, get_or, Option, Some, None}
use Rattle.std.proofs.Common.{inl, inr, refl, sym, subst, ◌∙◌, ap, arith}
use Rattle.std.proofs.lemmas.Bool.{cases_lt, eq-eqb}
use Rattle.std.proofs.lemmas.Option.{get_or_from_slice_get}
use Rattle.std.specs.Option.{IfSome}
use Rattle.std.specs.List.{AllByRecursion, IsDistinct}
use Rattle.kom_types.specs.declared.acts.Record.{Record}
use Rattle.kom_links.specs.declared.served.Served.{Served}
use Rattle.kom_links.specs.Outside.{LinkView}
use Rattle.kom_links.specs.Records.{is_open}
use Rattle.kom_links.specs.Talk.{IsChosen}
use Rattle.kom_model.specs.State.{State}
use Rattle.kom_state_lock.specs.Passes.{HallModel, PassModel, AreNewPasses, IsClosed, new_pass}
use Rattle.kom_state_lock.specs.Views.{entries_of}
use Rattle.hall_desk.specs.Passes.{PassView, of_pass}
use Rattle.kom_serving.specs.Runs.{Talks, sessions_of, IsOfOne}
use Rattle.kom_serving.specs.Serving.{Serves}

no_moments : (records : List Record) → records ≡ [] → (gave : Option (List ℕ)) →
    IfSome gave (λ readings. IsChosen (map (λ (made : Record). made.entry.moment) records) readings)
no_moments records none None = tt
no_moments records none (Some readings) =
    subst (λ (l : List Record). IsChosen (map (λ (made : Record). made.entry.moment) l) readings) (sym none) tt

module _ {L : Type 0} where
  -- what holds of no links holds of those that a new gate gave back
  of_none : (P : List (L × Served) → Type 0) (returned : Option (List (L × Served))) →
      IfSome returned (λ links. links ≡ []) → P [] → IfSome returned P
  of_none P None new holds = tt
  of_none P (Some links) new holds = subst P (sym new) holds

  -- what holds of any links holds of those that were given back
  of_any : (P : List (L × Served) → Type 0) (returned : Option (List (L × Served))) →
      ((links : List (L × Served)) → P links) → IfSome returned P
  of_any P None holds = tt
  of_any P (Some links) holds = holds links

  pub serves-nothing : (view : L → LinkView) (start : State) (pass : PassView)
      (returned : Option (List (L × Served))) (gave : Option (List ℕ)) → pass.seen ≡ [] → pass.mine ≡ [] →
      IfSome returned (λ links. links ≡ []) → Serves view start pass returned gave
  unfolding IsDistinct
  serves-nothing view start pass returned gave unseen unused new = record {
    mine = unused ∙ sym (ap (of_pass pass.number) unseen);
    talks = of_none
        (λ links. AllByRecursion (λ back. Talks start pass.seen pass.mine pass.drawn (view back.0) back.1) links)
        returned new tt;
    owned = of_any (λ links. AllByRecursion (IsOfOne (sessions_of links)) pass.mine) returned
        (λ links. subst (AllByRecursion (IsOfOne (sessions_of links))) (sym unused) tt);
    timed = no_moments pass.mine unused gave;
    distinct = of_none (λ links. IsDistinct nat_eq (sessions_of links)) returned new tt;
    closed = λ free session. ap (is_open session) unused;
  }

nil_apart : {E : Type 0} (entry : E) (rest : List E) → entry ∷ rest ≡ [] → ⊥
nil_apart entry rest is = cc

module _ {E : Type 0} (pass_of : E → ℕ) where
  none_in : (seen : List E) → ((number : ℕ) → entries_of pass_of number seen ≡ []) → seen ≡ []
  none_in [] none = refl
  none_in (entry ∷ seen) none =
      let own : eqb (pass_of entry) (pass_of entry) ≡ true = eq-eqb (pass_of entry) (pass_of entry) refl in
      let has : entries_of pass_of (pass_of entry) (entry ∷ seen) ≡ entry ∷ entries_of pass_of (pass_of entry) seen =
      rw own refl in
      absurd (nil_apart entry (entries_of pass_of (pass_of entry) seen) (sym has ∙ none (pass_of entry)))

module _ {B E : Type 0} (pass_of : E → ℕ) where
  -- where no pass has made an act, the history of the hall is empty
  pub none_seen : (hall : HallModel B) (passes : List (PassModel B E)) (count : ℕ) (last : PassModel B E) →
      hall.passes ≡ count → AreNewPasses hall.table count passes → All (IsClosed pass_of last) passes →
      ((number : ℕ) → hall.passes ≤ number → entries_of pass_of number last.seen ≡ []) → last.seen ≡ []
  none_seen hall passes count last same new closed strangers =
      none_in pass_of last.seen (λ number. elim (cases_lt number count) [
        | inl low ↦
            let fresh : PassModel B E = new_pass hall.table number in
            let at : get_or passes number fresh ≡ fresh =
            get_or_from_slice_get passes number fresh fresh (new.1 number low) in
            let shut : IsClosed pass_of last fresh =
            subst (IsClosed pass_of last) at (closed number fresh (omega (arith, low, new.0))) in
            sym shut.mine
        | inr high ↦ strangers number (omega (arith, high, same))
      ])

  -- so such a hall was closed on the server with which it was opened
  pub closed_unused : (led : B → List E → B → Type 0) (hall : HallModel B) (passes : List (PassModel B E)) (count : ℕ)
      (last : PassModel B E) (server value : B) → hall.passes ≡ count → AreNewPasses hall.table count passes →
      All (IsClosed pass_of last) passes →
      ((number : ℕ) → hall.passes ≤ number → entries_of pass_of number last.seen ≡ []) → hall.opening ≡ server →
      led hall.opening last.seen value → led server [] value
  closed_unused led hall passes count last server value same new closed strangers from leads =
      subst (λ (opening : B). led opening [] value) from
      (subst (λ (seen : List E). led hall.opening seen value)
      (none_seen hall passes count last same new closed strangers) leads)
