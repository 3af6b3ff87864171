-- What a crowd in which nobody is left was.
use Rattle.std.proofs.Common.{◌≡◌, ℕ, ◌+◌, zero, suc, List, [], ◌∷◌, Option, Some, None, sym, subst}
use Rattle.std.proofs.Common.{inl, inr, length, arith}
use Rattle.std.specs.Prelude.{count_by, is_some, slice_index_or}
use Rattle.std.specs.Option.{IfSome}
use Rattle.slab.specs.Slab.{Slab, get, slab_len}
use Rattle.kom_types.specs.declared.acts.Record.{Record}
use Rattle.kom_links.specs.declared.served.Served.{Served}
use Rattle.kom_links.specs.DeskCalls.{DeskView}
use Rattle.kom_links.specs.Doors.{GateView}
use Rattle.kom_links.specs.Outside.{LinkView}
use Rattle.kom_hub.specs.declared.guest.Guest.{Guest}
use Rattle.kom_hub.specs.Crowds.{guests, IsAmong, HasOwner, IsOwned, IsBack, Stands}
use Rattle.kom_hub.specs.Hub.{IsOfOne, WasServed, IsServedCrowd, AllGivenBack}
use Rattle.kom_hub.proofs.Crowding.{all_by}
use Rattle.kom_hub.proofs.Standing.{count_cons}

none_there : {T L : Type 0} (crowd : Slab (Guest T L)) → slab_len crowd ≡ 0 → (key : ℕ) (guest : Guest T L)
    → get crowd key ≡ Some guest → ⊥
none_there {T = T} {L = L} crowd empty key guest at = go crowd.slots empty key at
  where
    go : (slots : List (Option (Guest T L))) → count_by is_some slots ≡ 0 → (key : ℕ)
        → slice_index_or slots key None ≡ Some guest → ⊥
    go [] none key at = cc
    go (None ∷ slots) none zero at = cc
    go (Some one ∷ slots) none zero at = absurd (omega (arith, none, count_cons (Some one) slots))
    go (None ∷ slots) none (suc key) at = go slots none key at
    go (Some one ∷ slots) none (suc key) at = absurd (omega (arith, none, count_cons (Some one) slots))

module _ {T L : Type 0} (kept : T → DeskView → LinkView → Type 0) (talks : DeskView → LinkView → Served → Type 0)
    (view : L → LinkView) where
  pub all_given_back : (begun : Option (List ℕ)) (desk : DeskView) (gave : Option (List ℕ))
      (crowd : Slab (Guest T L)) (gate : GateView L) → slab_len crowd ≡ 0
      → Stands kept talks view begun desk gave crowd gate → AllGivenBack gate
  all_given_back begun desk gave crowd gate empty stands =
      go gate.given gate.returned stands.given stands.returned
    where
      go : (given : Option ℕ) (returned : Option (List (L × Served)))
          → IfSome given (λ number. number ≡ length stands.links + slab_len crowd)
          → IfSome returned (λ told. told ≡ stands.links)
          → IfSome given (λ number. IfSome returned (λ links. number ≡ length links))
      go None returned many told = tt
      go (Some number) None many told = tt
      go (Some number) (Some links) many told =
          subst (λ (links : List (L × Served)). number ≡ length links) (sym told) (omega (arith, many, empty))

  pub served_crowd : (begun : Option (List ℕ)) (desk : DeskView) (gave : Option (List ℕ))
      (crowd : Slab (Guest T L)) (gate : GateView L) → slab_len crowd ≡ 0
      → Stands kept talks view begun desk gave crowd gate
      → IsServedCrowd talks view begun desk gave gate.returned
  served_crowd begun desk gave crowd gate empty stands = record {
    links = stands.links;
    told = stands.returned;
    talk = all_by (IsBack kept talks view desk (guests crowd)) (WasServed talks view desk) stands.links
        (λ back is. record { answers = is.answers; heard = is.heard; talk = is.talk; known = is.known }) stands.is.back;
    distinct = stands.is.distinct;
    owned = all_by (IsOwned (guests crowd) stands.links) (IsOfOne stands.links) desk.mine of stands.is.owned;
    timed = stands.is.timed;
  }
    where
      left : (number : ℕ) → HasOwner {T = T} (guests crowd) stands.links number → IsAmong number stands.links
      left number (inl owner) = absurd (none_there crowd empty owner.0 owner.1 owner.2)
      left number (inr among) = among

      of : (made : Record) → IsOwned {T = T} (guests crowd) stands.links made → IsOfOne stands.links made
      of made (inl own) = inl (own.0, left made.session own.1)
      of made (inr flush) = inr flush
