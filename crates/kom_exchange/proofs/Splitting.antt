-- What a splitter holds of what a link gave.
use Rattle.std.proofs.Common.{◌≡◌, ℕ, Bool, true, false, List, [], ◌∷◌, ◌++◌, take, Option, Some, None, IfSome}
use Rattle.std.proofs.Common.{inl, inr, ◌⊎◌}
use Rattle.std.proofs.Common.{refl, sym, ap, subst, ◌∙◌, append_assoc, append-nil}
use Rattle.std.specs.Prelude.{MatchOption}
use Rattle.kom_types.specs.declared.side.Side.{Side}
use Rattle.kom_types.specs.declared.side.Side.TheVariants as side
use Rattle.kom_framing.specs.declared.units.Unit.{Unit as StreamUnit}
use Rattle.kom_framing.specs.Splitting.{Splitting, IsAtBy}
use Rattle.kom_links.specs.declared.link.Got.{Got}
use Rattle.kom_links.specs.declared.link.Got.TheVariants as got
use Rattle.kom_links.specs.Outside.{LinkView, Reads, IsNothing, IsFresh, read_bytes, with_bytes}
use Rattle.kom_links.specs.Talk.{IsPrefix}
use Rattle.kom_exchange.specs.Asking.{Asking}
use Rattle.kom_exchange.specs.Hearing.{IsSplit, HasUnit, Feeds}
use Rattle.kom_exchange.specs.Steps.{HasHeard}
use Rattle.kom_exchange.proofs.Spelling.{if_map, if_more}

true_false : true ≡ false → ⊥
true_false e = cc

pub fresh_put : (link : LinkView) → IsFresh link → IsNothing link.put
fresh_put link f = f.nothing_put

-- nothing was heard
pub split_new : (splitting : Splitting) (fault : Bool) (link now : LinkView) → IsAtBy side.Server splitting [] []
    → IsFresh link → now ≡ link → IsSplit splitting fault now.taken
split_new splitting fault link now at f e =
    let none : IsNothing now.taken = subst (λ (l : LinkView). IsNothing l.taken) (sym e) f.nothing_taken in
    record {
      fed = [];
      units = [];
      at = at;
      begun = if_map (λ bytes. bytes ≡ []) (λ bytes. IsPrefix [] bytes) now.taken (λ bytes _. (bytes, refl)) none;
      whole = λ _. none;
    }

-- ---- a piece is fed

pub feeds_none : (old new : Splitting) (piece : List ℕ) (fault : Bool) → fault ≡ true → new ≡ old
    → Feeds old piece new fault
feeds_none old new piece fault e same = λ fed units at.
    inr (e, subst (λ (s : Splitting). IsAtBy side.Server s fed units) (sym same) at)

-- a beginning is one of more
prefix_more : (fed bytes piece : List ℕ) → IsPrefix fed bytes → IsPrefix fed (bytes ++ piece)
prefix_more fed bytes piece p =
    (p.0 ++ piece, sym (append_assoc fed p.0 piece) ∙ ap (λ (xs : List ℕ). xs ++ piece) p.1)

fed_more : (a b : Splitting) (was now : Bool) (old new : Option (List ℕ)) (piece : List ℕ) → was ≡ false
    → (s : IsSplit a was old) → new ≡ with_bytes piece old
    → (IsAtBy side.Server b (s.fed ++ piece) s.units) ⊎ ((now ≡ true) × IsAtBy side.Server b s.fed s.units)
    → IsSplit b now new
fed_more a b was now old new piece ok s e (inl at) = record {
  fed = s.fed ++ piece;
  units = s.units;
  at = at;
  begun = if_more (λ bytes. bytes ≡ s.fed) (λ bytes. IsPrefix (s.fed ++ piece) bytes) piece old new e
      (λ bytes same. ([], append-nil (s.fed ++ piece) ∙ ap (λ (xs : List ℕ). xs ++ piece) (sym same))) (s.whole ok);
  whole = λ _. if_more (λ bytes. bytes ≡ s.fed) (λ bytes. bytes ≡ s.fed ++ piece) piece old new e
      (λ bytes same. ap (λ (xs : List ℕ). xs ++ piece) same) (s.whole ok);
}
fed_more a b was now old new piece ok s e (inr lost) = record {
  fed = s.fed;
  units = s.units;
  at = lost.1;
  begun = if_more (λ bytes. IsPrefix s.fed bytes) (λ bytes. IsPrefix s.fed bytes) piece old new e
      (λ bytes p. prefix_more s.fed bytes piece p) s.begun;
  whole = λ f. absurd (true_false (sym lost.0 ∙ f));
}

pub split_fed : (a b : Splitting) (was now : Bool) (old new : LinkView) (buffer piece : List ℕ) (count : ℕ)
    → was ≡ false → IsSplit a was old.taken → Reads old buffer (got.Some count) new → piece ≡ take count buffer
    → Feeds a piece b now → IsSplit b now new.taken
split_fed a b was now old new buffer piece count ok s r e f =
    fed_more a b was now old.taken new.taken piece ok s
    (r.taken ∙ ap (λ (xs : List ℕ). with_bytes xs old.taken) (sym e))
    (f s.fed s.units s.at)

-- a read that gave nothing
split_still : (a : Splitting) (fault : Bool) (old new : Option (List ℕ)) → IsSplit a fault old → new ≡ with_bytes [] old
    → IsSplit a fault new
split_still a fault old new s e = record {
  fed = s.fed;
  units = s.units;
  at = s.at;
  begun = if_more (λ bytes. IsPrefix s.fed bytes) (λ bytes. IsPrefix s.fed bytes) [] old new e
      (λ bytes p. prefix_more s.fed bytes [] p) s.begun;
  whole = λ f. if_more (λ bytes. bytes ≡ s.fed) (λ bytes. bytes ≡ s.fed) [] old new e
      (λ bytes same. append-nil bytes ∙ same) (s.whole f);
}

pub split_same : (a : Splitting) (fault : Bool) (old new : LinkView) (buffer : List ℕ) (answer : Got)
    → IsSplit a fault old.taken → Reads old buffer answer new → read_bytes answer buffer ≡ []
    → IsSplit a fault new.taken
split_same a fault old new buffer answer s r none =
    split_still a fault old.taken new.taken s (r.taken ∙ ap (λ (xs : List ℕ). with_bytes xs old.taken) none)

-- ---- a unit is taken

abbrev pub Takes : Splitting → Option StreamUnit → Splitting → Type 0
Takes old one new = (of : Side) (fed : List ℕ) (units : List StreamUnit) → IsAtBy of old fed units
    → MatchOption one (IsAtBy of new fed units) (λ unit. IsAtBy of new fed (units ++ unit ∷ []))

pub split_taken : (a b : Splitting) (fault : Bool) (taken : Option (List ℕ)) (one : Option StreamUnit)
    → IsSplit a fault taken → Takes a one b → IsSplit b fault taken
split_taken a b fault taken None s t = record {
  fed = s.fed;
  units = s.units;
  at = t side.Server s.fed s.units s.at;
  begun = s.begun;
  whole = s.whole;
}
split_taken a b fault taken (Some one) s t = record {
  fed = s.fed;
  units = s.units ++ one ∷ [];
  at = t side.Server s.fed s.units s.at;
  begun = s.begun;
  whole = s.whole;
}

pub unit_heard : (a b : Splitting) (fault : Bool) (server : Asking) (one : Option StreamUnit)
    → IsSplit a fault server.link.taken → Takes a one b → IfSome one (λ one. HasHeard one server)
unit_heard a b fault server None s t = tt
unit_heard a b fault server (Some one) s t =
    let at : IsAtBy side.Server b s.fed (s.units ++ one ∷ []) = t side.Server s.fed s.units s.at in
    record {
      heard = if_map (λ bytes. IsPrefix s.fed bytes) (λ bytes. HasUnit one bytes) server.link.taken
          (λ bytes p. record {
            fed = s.fed;
            before = s.units;
            after = b.held;
            first = p;
            stands = at.units ∙ append_assoc s.units (one ∷ []) b.held;
          }) s.begun;
    }
