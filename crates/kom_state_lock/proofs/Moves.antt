-- A seat that changes keeps what is true of the table, where the others' turns allow it.
use Rattle.std.proofs.Common.{◌≡◌, ◌≢◌, ℕ, ◌+◌, ◌^◌, ◌<◌, ◌≤◌, ◌⊎◌, inl, inr, Bool, true, false, cond, List, length}
use Rattle.std.proofs.Common.{set, sym, refl, ap, ◌∙◌, subst, arith, length-set, Some, Option}
use Rattle.std.specs.Prelude.{count_by}
use mathlib.Core.Option as maybe
use mathlib.Core.List.{IsPrefix}
use lib.ListN.{get_elem?}
use Rattle.atomic_table.proofs.Lists.{at_set, set_else}
use Rattle.kom_state_lock.specs.declared.views.Turn.{Turn}
use Rattle.kom_state_lock.specs.declared.views.Turn.TheVariants.{Resting, Waiting, Holding, Logged, Spent, Closed}
use Rattle.kom_state_lock.specs.declared.views.Share.{Share}
use Rattle.kom_state_lock.specs.declared.views.View.{View}
use Rattle.kom_state_lock.specs.Views.{entries_of, ticket_in, is_over, is_served, may_have_ticket, is_original}
use Rattle.kom_state_lock.specs.Views.{spent_seat}
use Rattle.kom_state_lock.specs.Rule.{InTurn, IsJoined, IsSeated, IsHome, IsAway, IsKnown, Stands}
use Rattle.kom_state_lock.proofs.Begins.{begins_through}
use Rattle.kom_state_lock.proofs.Places.{here_below, count_set}

-- who has a ticket takes turns
pub has_ticket : {B E : Type 0} (turn : Turn B E) (k : ℕ) → ticket_in turn ≡ Some k → is_over turn ≡ false
has_ticket Resting k e = refl
has_ticket (Waiting ticket) k e = refl
has_ticket (Holding ticket taken before) k e = refl
has_ticket (Logged ticket left) k e = refl
has_ticket Spent k e = absurd cc
has_ticket Closed k e = absurd cc

pub served_goes : {B E : Type 0} (turn : Turn B E) → is_served turn ≡ true → is_over turn ≡ false
served_goes Resting e = refl
served_goes (Waiting ticket) e = refl
served_goes (Holding ticket taken before) e = refl
served_goes (Logged ticket left) e = refl
served_goes Spent e = absurd cc
served_goes Closed e = absurd cc

pub goes_original : {B E : Type 0} (turn : Turn B E) → is_over turn ≡ false → is_original turn ≡ true
goes_original Resting e = refl
goes_original (Waiting ticket) e = refl
goes_original (Holding ticket taken before) e = refl
goes_original (Logged ticket left) e = refl
goes_original Spent e = absurd cc
goes_original Closed e = absurd cc

pub ticket_original : {B E : Type 0} (turn : Turn B E) → cond (may_have_ticket turn) 1 0 ≤ cond (is_original turn) 1 0
ticket_original Resting = omega arith
ticket_original (Waiting ticket) = omega arith
ticket_original (Holding ticket taken before) = omega arith
ticket_original (Logged ticket left) = omega arith
ticket_original Spent = omega arith
ticket_original Closed = omega arith

module _ {B E : Type 0} (pass_of : E → ℕ) (led : B → List E → B → Type 0) (opening : B) (passes : ℕ) where
  abbrev V : Type 0
  V = View B E

  abbrev Homes : Type 0
  Homes = List (maybe.Option (Option B))

  abbrev Standing : ℕ → ℕ → List E → Homes → List V → Type 0
  Standing = Stands pass_of led opening passes

  -- a ticket is below the next one
  pub ticket_below : (t sv : ℕ) (h : List E) (homes : Homes) (seen : List E) (turn : Turn B E) (k : ℕ)
      → InTurn pass_of led opening t sv h homes seen turn → ticket_in turn ≡ Some k → k < t
  ticket_below t sv h homes seen Resting k says e = absurd cc
  ticket_below t sv h homes seen (Waiting mine) k says e = let same : mine ≡ k = cc in omega (arith, says.1)
  ticket_below t sv h homes seen (Holding mine taken before) k says e = let same : mine ≡ k = cc in
      omega (arith, says.0.drawn)
  ticket_below t sv h homes seen (Logged mine left) k says e = let same : mine ≡ k = cc in omega (arith, says.0.drawn)
  ticket_below t sv h homes seen Spent k says e = absurd cc
  ticket_below t sv h homes seen Closed k says e = absurd cc

  -- a turn that is served has the ticket that is served, and the slot
  pub served_now : (t sv : ℕ) (h : List E) (homes : Homes) (seen : List E) (turn : Turn B E)
      → InTurn pass_of led opening t sv h homes seen turn → is_served turn ≡ true → ticket_in turn ≡ Some sv
  served_now t sv h homes seen Resting says e = absurd cc
  served_now t sv h homes seen (Waiting mine) says e = absurd cc
  served_now t sv h homes seen (Holding mine taken before) says e = ap Some says.0.now
  served_now t sv h homes seen (Logged mine left) says e = ap Some says.0.now
  served_now t sv h homes seen Spent says e = absurd cc
  served_now t sv h homes seen Closed says e = absurd cc

  -- what a change of the seat id from v to w asks, where the table goes from t sv h homes to t' sv' h' homes'
  pub record IsMove (t sv : ℕ) (h : List E) (homes : Homes) (views : List V) (id : ℕ) (v : V) (t' sv' : ℕ) (h' : List E)
      (homes' : Homes) (w : V) : Type 0 where
    pub here : get_elem? views id ≡ maybe.some v
    pub goes : is_over v.turn ≡ false
    pub still : is_over w.turn ≡ false
    pub number : w.number ≡ v.number
    pub joined : w.joined ≡ v.joined
    pub next : w.next ≡ v.next
    pub beginnings : w.beginnings ≡ v.beginnings
    pub rises : t ≤ t'
    pub ordered : sv' ≤ t'
    pub served : sv' ≤ 2 ^ 62
    pub room : (t' + sv) + cond (may_have_ticket v.turn) 1 0 ≤ (t + sv') + cond (may_have_ticket w.turn) 1 0
    pub begins : IsPrefix h h'
    pub entries : (n : ℕ) → n ≢ id → entries_of pass_of n h' ≡ entries_of pass_of n h
    pub slot : IsHome pass_of led opening sv' h' homes' ⊎ IsAway pass_of led opening homes' (set views id w)
    pub rest : (j : ℕ) (u : V) → j ≢ id → get_elem? views j ≡ maybe.some u → is_over u.turn ≡ false
        → InTurn pass_of led opening t sv h homes u.seen u.turn
        → InTurn pass_of led opening t' sv' h' homes' u.seen u.turn
    pub fresh : (k : ℕ) → ticket_in w.turn ≡ Some k → (ticket_in v.turn ≡ Some k) ⊎ (t ≤ k)
    pub seen : IsPrefix w.seen h'
    pub mine : w.mine ≡ entries_of pass_of id h'
    pub drawn : w.drawn ≤ t'
    pub turn : InTurn pass_of led opening t' sv' h' homes' w.seen w.turn
    pub known : IsKnown pass_of led opening h' (set views id w)

  module _ (t sv : ℕ) (h : List E) (homes : Homes) (views : List V) (id : ℕ) (v : V) (t' sv' : ℕ) (h' : List E)
      (homes' : Homes) (w : V)
      (r : Standing t sv h homes views) (m : IsMove t sv h homes views id v t' sv' h' homes' w) where
    abbrev Seat : ℕ → V → Type 0
    Seat = IsSeated pass_of led opening passes t' sv' h' homes' (set views id w)

    still_joined : (share : Share E) → IsJoined pass_of led opening h views share
        → IsJoined pass_of led opening h' (set views id w) share
    still_joined share is =
        let n : ℕ = share.number in
        let other : n ≢ id = λ e.
        let same : maybe.some spent_seat ≡ maybe.some v = sym is.spent ∙ (ap (get_elem? views) e ∙ m.here) in
        let over : spent_seat ≡ v = maybe.some-injective spent_seat v same in
        let no : true ≡ false = ap (λ (u : V). is_over u.turn) over ∙ m.goes in absurd cc in
        record {
          spent = set_else views id n w other ∙ is.spent;
          mine = is.mine ∙ sym (m.entries n other);
        }

    long : length (set views id w) ≡ length views
    long = length-set views id w

    own : Seat id w
    own = let old = r.each id v m.here m.goes in record {
      number = m.number ∙ old.number;
      within = old.within;
      seen = m.seen;
      mine = m.mine;
      drawn = m.drawn;
      turn = m.turn;
      joined = λ k share e. still_joined share
          (old.joined k share (subst (λ (l : List (Share E)). get_elem? l k ≡ maybe.some share) m.joined e));
      beginnings = λ k seen e. begins_through seen h h'
          (old.beginnings k seen
          (subst (λ (l : List (List E)). get_elem? l k ≡ maybe.some seen) m.beginnings e)) m.begins;
      next = λ some. let some' : 0 < v.next = omega (arith, m.next) in let is = old.next some' in
          (is.0, m.next ∙ (is.1 ∙ sym long));
    }

    theirs : (j : ℕ) (u : V) → j ≢ id → get_elem? views j ≡ maybe.some u → is_over u.turn ≡ false → Seat j u
    theirs j u other e goes = let old = r.each j u e goes in record {
      number = old.number;
      within = old.within;
      seen = begins_through u.seen h h' old.seen m.begins;
      mine = old.mine ∙ sym (m.entries j other);
      drawn = let d = old.drawn in let up = m.rises in omega arith;
      turn = m.rest j u other e goes old.turn;
      joined = λ k share f. still_joined share (old.joined k share f);
      beginnings = λ k seen f. begins_through seen h h' (old.beginnings k seen f) m.begins;
      next = λ some. let is = old.next some in (is.0, is.1 ∙ sym long);
    }

    each' : (j : ℕ) (u : V) → get_elem? (set views id w) j ≡ maybe.some u → is_over u.turn ≡ false → Seat j u
    each' j u e goes = elim (at_set views id j w u e) [
      | inl s ↦ subst (λ (z : ℕ × V). Seat z.0 z.1) (λ i. (sym s.0 i, s.1 i)) own
      | inr s ↦ theirs j u s.0 s.1 goes
    ]

    -- another seat has no ticket of this one
    alone : (j : ℕ) (u : V) (k : ℕ) → j ≢ id → get_elem? views j ≡ maybe.some u → ticket_in u.turn ≡ Some k
        → ticket_in w.turn ≡ Some k → ⊥
    alone j u k other e his mine = elim (m.fresh k mine) [
      | inl old ↦ other (r.apart j id u v k e m.here his old)
      | inr new ↦ let low : k < t = ticket_below t sv h homes u.seen u.turn k
          (r.each j u e (has_ticket u.turn k his)).turn his in omega arith
    ]

    apart' : (i j : ℕ) (x y : V) (k : ℕ) → get_elem? (set views id w) i ≡ maybe.some x
        → get_elem? (set views id w) j ≡ maybe.some y
        → ticket_in x.turn ≡ Some k → ticket_in y.turn ≡ Some k → i ≡ j
    apart' i j x y k e f p q = elim (at_set views id i w x e) [
      | inl a ↦ elim (at_set views id j w y f) [
        | inl b ↦ a.0 ∙ sym b.0
        | inr b ↦ absurd (alone j y k b.0 b.1 q (ap (λ (u : V). ticket_in u.turn) a.1 ∙ p))
      ]
      | inr a ↦ elim (at_set views id j w y f) [
        | inl b ↦ absurd (alone i x k a.0 a.1 p (ap (λ (u : V). ticket_in u.turn) b.1 ∙ q))
        | inr b ↦ r.apart i j x y k a.1 b.1 p q
      ]
    ]

    pub moved : Standing t' sv' h' homes' (set views id w)
    moved = record {
      few = r.few;
      ordered = m.ordered;
      served = m.served;
      seats = let c = count_set (λ (u : V). is_original u.turn) views id v w m.here in
          let a = goes_original v.turn m.goes in let b = goes_original w.turn m.still in
          let c' : count_by (λ (u : V). is_original u.turn) (set views id w) + 1
          ≡ count_by (λ (u : V). is_original u.turn) views + 1 =
          subst (λ (z : Bool × Bool). count_by (λ (u : V). is_original u.turn) (set views id w) + cond z.0 1 0
          ≡ count_by (λ (u : V). is_original u.turn) views + cond z.1 1 0) (λ i. (a i, b i)) c in
          let s = r.seats in omega arith;
      tickets = let c = count_set (λ (u : V). may_have_ticket u.turn) views id v w m.here in let s = r.tickets in
          let q = m.room in omega arith;
      slot = m.slot;
      each = each';
      apart = apart';
      unborn = λ n far. let far' : length views ≤ n = omega (arith, long) in
          let near : id < length views = here_below views id v m.here in
          m.entries n (λ e. omega arith) ∙ r.unborn n far';
      strangers = λ n far. let near : id < passes = (r.each id v m.here m.goes).within in m.entries n (λ e. omega arith)
          ∙ r.strangers n far;
      known = m.known;
    }

    -- a seat that has its turn is the only one
    pub one_served : (j : ℕ) (u : V) → get_elem? views j ≡ maybe.some u → is_served u.turn ≡ true
        → ticket_in v.turn ≡ Some sv → j ≡ id
    one_served j u e serves mine = r.apart j id u v sv e m.here
        (served_now t sv h homes u.seen u.turn (r.each j u e (served_goes u.turn serves)).turn serves) mine
