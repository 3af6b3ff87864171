-- A session stays open while it is not closed.
use Rattle.std.proofs.Common.{◌≡◌, ℕ, ◌==◌, Bool, true, false, not, ◌&&◌, ◌||◌, IsTrue, inl, inr, List, [], ◌∷◌, ◌++◌}
use Rattle.std.proofs.Common.{refl, sym, ◌∙◌, ap, ap₂, subst, eq-eqb}
use Rattle.std.proofs.Common.{Result, Ok, Err}
use Rattle.std.proofs.lemmas.List.Folds.{list_any-append}
use Rattle.kom_types.specs.declared.acts.Act.TheVariants as act
use Rattle.kom_types.specs.declared.answers.Why.TheVariants as why
use Rattle.kom_types.specs.declared.acts.Record.{Record}
use Rattle.kom_types.specs.declared.calls.Call.{Call}
use Rattle.kom_types.specs.declared.items.Item.{Item}
use Rattle.kom_types.specs.declared.answers.NotMade.{NotMade}
use Rattle.kom_types.specs.declared.answers.NotMade.TheVariants as fault
use Rattle.kom_links.specs.Records.{is_connect, is_close, has_connect, has_close, has_session, IsOpen}
use Rattle.kom_links.specs.DeskCalls.{DeskView, Calls, Connects, Drains, Flushes, AddsNoneOrShort}

open_bools : (connect close x y : Bool) → y ≡ false → IsTrue (connect && not close) →
    IsTrue ((connect || (x || false)) && not (close || (y || false)))
open_bools true false x false e h = refl
open_bools true false x true e h = cc
open_bools true true x y e h = cc
open_bools false close x y e h = cc

pub open_push : (session : ℕ) (mine : List Record) (made : Record) → is_close made.entry.act ≡ false →
    IsOpen session mine → IsOpen session (mine ++ made ∷ [])
open_push session mine made e h =
    ap₂ (λ a b. a && not b)
    (list_any-append (λ (made : Record). is_connect made.entry.act && made.session == session) mine (made ∷ []))
    (list_any-append (λ (made : Record). is_close made.entry.act && made.session == session) mine (made ∷ []))
    ∙ open_bools (has_connect session mine) (has_close session mine)
    (is_connect made.entry.act && made.session == session) (is_close made.entry.act && made.session == session)
    (ap (λ c. c && made.session == session) e) h

opens : (session : ℕ) (mine new : List Record) (made : Record) → is_close made.entry.act ≡ false →
    new ≡ mine ++ made ∷ [] → IsOpen session mine → IsOpen session new
opens session mine new made e is h = subst (IsOpen session) (sym is) (open_push session mine made e h)

keeps : (session : ℕ) (mine new : List Record) → new ≡ mine → IsOpen session mine → IsOpen session new
keeps session mine new is h = subst (IsOpen session) (sym is) h

pub open_called : {X : Type 0} (session reference : ℕ) (call : Call) (x y : DeskView) (moment : ℕ)
    (answer : Result X NotMade) → Calls x moment (act.Call session reference call) session answer y →
    IsOpen session x.mine → IsOpen session y.mine
open_called session reference call x y moment (Ok value) calls h = opens session x.mine y.mine _ refl calls.added.1 h
open_called session reference call x y moment (Err fault) calls h = keeps session x.mine y.mine calls.rest.none_added h

pub open_drained : {X : Type 0} (session : ℕ) (items : List Item) (x y : DeskView) (moment : ℕ)
    (answer : Result X NotMade) → Drains x moment session items answer y → IsOpen session x.mine →
    IsOpen session y.mine
open_drained session items x y moment (Ok value) drains h = opens session x.mine y.mine _ refl drains.added h
open_drained session items x y moment (Err fault) drains h = keeps session x.mine y.mine drains.rest.none_added h

short_or_none : (session : ℕ) (x y : DeskView) (moment : ℕ) (reason : NotMade) → AddsNoneOrShort x moment reason y →
    IsOpen session x.mine → IsOpen session y.mine
short_or_none session x y moment (fault.Gone why.Stopped) (inl none) h = keeps session x.mine y.mine none h
short_or_none session x y moment (fault.Gone why.Stopped) (inr short) h = opens session x.mine y.mine _ refl short h
short_or_none session x y moment (fault.Gone why.Absent) none h = keeps session x.mine y.mine none h
short_or_none session x y moment (fault.Gone why.Dropped) none h = keeps session x.mine y.mine none h
short_or_none session x y moment (fault.Gone why.Overrun) none h = keeps session x.mine y.mine none h
short_or_none session x y moment (fault.Full number) none h = keeps session x.mine y.mine none h
short_or_none session x y moment fault.Memory none h = keeps session x.mine y.mine none h

pub open_flushed : {X : Type 0} (session : ℕ) (x y : DeskView) (moment : ℕ) (answer : Result X NotMade) →
    Flushes x moment answer y → IsOpen session x.mine → IsOpen session y.mine
open_flushed session x y moment (Ok value) flushes h = opens session x.mine y.mine _ refl flushes.added h
open_flushed session x y moment (Err reason) flushes h = short_or_none session x y moment reason flushes.none_added h

-- a session that is connected is open
connected_bools : (connect close own : Bool) → close ≡ false → own ≡ true →
    IsTrue ((connect || ((true && own) || false)) && not (close || ((false && own) || false)))
connected_bools true false true e f = refl
connected_bools false false true e f = refl
connected_bools connect true own e f = cc
connected_bools connect false false e f = cc

none_closed : (session : ℕ) (mine : List Record) → has_session session mine ≡ false → has_close session mine ≡ false
none_closed session [] e = refl
none_closed session (made ∷ mine) e =
    both (is_close made.entry.act) (made.session == session) (has_session session mine) (has_close session mine) e
    (none_closed session mine)
  where
    both : (a b rest closed : Bool) → (b || rest) ≡ false → (rest ≡ false → closed ≡ false) →
        ((a && b) || closed) ≡ false
    both true true rest closed e f = cc
    both true false rest closed e f = f e
    both false true rest closed e f = cc
    both false false rest closed e f = f e

pub open_connected : (session moment : ℕ) (user host : List ℕ) (x y : DeskView) →
    Connects x moment user host (Ok session) y → IsOpen session y.mine
open_connected session moment user host x y connects =
    subst (IsOpen session) (sym connects.added)
    (ap₂ (λ a b. a && not b)
    (list_any-append (λ (made : Record). is_connect made.entry.act && made.session == session) x.mine _)
    (list_any-append (λ (made : Record). is_close made.entry.act && made.session == session) x.mine _)
    ∙ connected_bools (has_connect session x.mine) (has_close session x.mine) (session == session)
    (none_closed session x.mine connects.new_number.1) (eq-eqb session session refl))
