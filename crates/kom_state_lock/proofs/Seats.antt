-- Seats are split off, joined, and close the hall.
use Rattle.std.proofs.Common.{◌≡◌, ◌≢◌, ℕ, zero, suc, ◌+◌, ◌<◌, ◌≤◌, ◌⊎◌, inl, inr, Bool, true, false, cond, List, []}
use Rattle.std.proofs.Common.{◌∷◌, ◌++◌, length, set, sym, refl, ap, ◌∙◌, subst, arith, length-set, length-append, Some}
use Rattle.std.proofs.Common.{None, Option}
use Rattle.std.specs.Prelude.{count_by}
use Rattle.std.proofs.lemmas.List.Sums.{count_by-le-length}
use mathlib.Core.Option as maybe
use mathlib.Core.List.{IsPrefix}
use mathlib.Core.Logic.{dite}
use native.Mathlib.Decide.{ℕ_discrete}
use lib.ListN.{get_elem?}
use Rattle.atomic_table.specs.Table.{State, Splits, Joins, Seen, Final}
use Rattle.atomic_table.proofs.Lists.{at_set, set_here, set_else, at_longer}
use Rattle.kom_state_lock.specs.declared.views.Turn.{Turn}
use Rattle.kom_state_lock.specs.declared.views.Turn.TheVariants.{Resting, Waiting, Holding, Logged, Spent, Closed}
use Rattle.kom_state_lock.specs.declared.views.Share.{Share}
use Rattle.kom_state_lock.specs.declared.views.View.{View}
use Rattle.kom_state_lock.specs.Views.{entries_of, ticket_in, is_over, is_served, may_have_ticket, is_original}
use Rattle.kom_state_lock.specs.Views.{spent_seat, first_seat, after_split, split_off, share_of, after_join}
use Rattle.kom_state_lock.specs.Views.{after_close, note_of}
use Rattle.kom_state_lock.specs.Rule.{at_home, AreWords, InTurn, IsJoined, IsSeated, IsHome, IsKnown, Stands, Rule}
use Rattle.kom_state_lock.specs.Closing.{Covers, IsSettled}
use Rattle.kom_state_lock.proofs.Begins.{begins_itself, longer_begins, longer_first, longer_second}
use Rattle.kom_state_lock.proofs.Places.{here_below, at_end, count_set, count_end, in_either}
use Rattle.kom_state_lock.proofs.Moves.{goes_original, served_goes}

bit_small : (b : Bool) → cond {A = ℕ} b 1 0 ≤ 1
bit_small true = omega arith
bit_small false = omega arith

module _ {B E : Type 0} (pass_of : E → ℕ) (led : B → List E → B → Type 0) (opening : B) (passes : ℕ) where
  abbrev V : Type 0
  V = View B E

  abbrev Homes : Type 0
  Homes = List (maybe.Option (Option B))

  abbrev Ruled : State (Option B) V → Type 0
  Ruled = Rule pass_of led opening passes

  abbrev Standing : ℕ → ℕ → List E → Homes → List V → Type 0
  Standing = Stands pass_of led opening passes

  -- what is seen matters to a logged turn alone
  other_seen : (t sv : ℕ) (h : List E) (homes : Homes) (seen seen' : List E) (turn : Turn B E) → is_served turn ≡ false
      → InTurn pass_of led opening t sv h homes seen turn → InTurn pass_of led opening t sv h homes seen' turn
  other_seen t sv h homes seen seen' Resting idle says = tt
  other_seen t sv h homes seen seen' (Waiting mine) idle says = says
  other_seen t sv h homes seen seen' (Holding mine taken before) idle says = absurd cc
  other_seen t sv h homes seen seen' (Logged mine left) idle says = absurd cc
  other_seen t sv h homes seen seen' Spent idle says = tt
  other_seen t sv h homes seen seen' Closed idle says = tt

  -- a seat with the number next, or no longer able to split, and one more after the others
  module _ (t sv : ℕ) (h : List E) (homes : Homes) (views : List V) (id next : ℕ) (v right : V)
      (r : Standing t sv h homes views)
      (here : get_elem? views id ≡ maybe.some v) (goes : is_over v.turn ≡ false) where
    abbrev left : V
    left = record v { next = next }

    abbrev more : List V
    more = set views id left ++ right ∷ []

    near : id < length views
    near = here_below views id v here

    long : length more ≡ length views + 1
    long = length-append (set views id left) (right ∷ []) ∙ ap (λ n. n + 1) (length-set views id left)

    there : get_elem? more id ≡ maybe.some left
    there = at_longer (set views id left) (right ∷ []) id left (set_here views id left near)

    as_before : (i : ℕ) (u : V) → i ≢ id → get_elem? views i ≡ maybe.some u → get_elem? more i ≡ maybe.some u
    as_before i u other e = at_longer (set views id left) (right ∷ []) i u (set_else views id i left other ∙ e)

    still_joined : (share : Share E) → IsJoined pass_of led opening h views share
        → IsJoined pass_of led opening h more share
    still_joined share is =
        let other : share.number ≢ id = λ e.
        let same : spent_seat ≡ v = maybe.some-injective spent_seat v
        (sym is.spent ∙ (ap (get_elem? views) e ∙ here)) in
        let bad : true ≡ false = ap (λ (u : V). is_over u.turn) same ∙ goes in absurd cc in
        record { spent = as_before share.number spent_seat other is.spent; mine = is.mine }

    -- who is there now was there before, with the same ticket, or is the new one
    from : (i : ℕ) (x : V) → get_elem? more i ≡ maybe.some x → ((i ≡ length views) × (right ≡ x))
        ⊎ (((i ≡ id) × (left ≡ x)) ⊎ ((i ≢ id) × (get_elem? views i ≡ maybe.some x)))
    from i x e = elim (at_end (set views id left) right x i e) [
      | inl a ↦ inr (at_set views id i left x a)
      | inr b ↦ inl (b.0 ∙ length-set views id left, b.1)
    ]

    ticket_before : (i : ℕ) (x : V) (k : ℕ) → ticket_in right.turn ≡ None → get_elem? more i ≡ maybe.some x
        → ticket_in x.turn ≡ Some k → (u : V) × (get_elem? views i ≡ maybe.some u) × (ticket_in u.turn ≡ Some k)
    ticket_before i x k none e mine = elim (from i x e) [
      | inl a ↦ let bad : None ≡ Some k = sym none ∙ (ap (λ (u : V). ticket_in u.turn) a.1 ∙ mine) in absurd cc
      | inr b ↦ elim b [
        | inl c ↦ (v, ap (get_elem? views) c.0 ∙ here, ap (λ (u : V). ticket_in u.turn) c.1 ∙ mine)
        | inr d ↦ (x, d.1, mine)
      ]
    ]

    pub added : ticket_in right.turn ≡ None
        → count_by (λ (u : V). is_original u.turn) views + cond (is_original right.turn) 1 0 ≤ passes
        → (0 < next → (id ≡ 0) × (next ≡ length views + 1))
        → ((i : ℕ) (u : V) → i ≢ id → get_elem? views i ≡ maybe.some u → is_over u.turn ≡ false → 0 < u.next → ⊥)
        → (is_over right.turn ≡ false → IsSeated pass_of led opening passes t sv h homes more (length views) right)
        → Standing t sv h homes more
    added none fit own_next their_next newcomer =
        let Seat : ℕ → V → Type 0 = IsSeated pass_of led opening passes t sv h homes more in
        let old = r.each id v here goes in
        let own : Seat id left = record {
          number = old.number;
          within = old.within;
          seen = old.seen;
          mine = old.mine;
          drawn = old.drawn;
          turn = old.turn;
          joined = λ k share e. still_joined share (old.joined k share e);
          beginnings = old.beginnings;
          next = λ some. let is = own_next some in (is.0, is.1 ∙ sym long);
        } in
        let theirs : (i : ℕ) (u : V) → i ≢ id → get_elem? views i ≡ maybe.some u → is_over u.turn ≡ false
        → Seat i u = λ i u other e go.
        let was = r.each i u e go in record {
          number = was.number;
          within = was.within;
          seen = was.seen;
          mine = was.mine;
          drawn = was.drawn;
          turn = was.turn;
          joined = λ k share f. still_joined share (was.joined k share f);
          beginnings = was.beginnings;
          next = λ some. absurd (their_next i u other e go some);
        } in
        record {
          few = r.few;
          ordered = r.ordered;
          served = r.served;
          seats = let c = count_set (λ (u : V). is_original u.turn) views id v left here in
              let d = count_end (λ (u : V). is_original u.turn) (set views id left) right in omega arith;
          tickets = let c = count_set (λ (u : V). may_have_ticket u.turn) views id v left here in
              let d = count_end (λ (u : V). may_have_ticket u.turn) (set views id left) right in let s = r.tickets in
              omega arith;
          slot = elim r.slot [
            | inl home ↦ inl home
            | inr away ↦ inr (dite (ℕ_discrete away.0 id)
                (λ e. let is : away.1 ≡ v = maybe.some-injective away.1 v
                (sym away.2 ∙ (ap (get_elem? views) e ∙ here)) in
                (id, left, there, sym (ap (λ (u : V). is_served u.turn) is) ∙ away.3, away.4))
                (λ other. (away.0, away.1, as_before away.0 away.1 other away.2, away.3, away.4)))
          ];
          each = λ i u e go. elim (from i u e) [
            | inl a ↦ subst (λ (z : ℕ × V). Seat z.0 z.1) (λ j. (sym a.0 j, a.1 j))
                (newcomer (ap (λ (x : V). is_over x.turn) a.1 ∙ go))
            | inr b ↦ elim b [
              | inl c ↦ subst (λ (z : ℕ × V). Seat z.0 z.1) (λ j. (sym c.0 j, c.1 j)) own
              | inr d ↦ theirs i u d.0 d.1 go
            ]
          ];
          apart = λ i j x y k e f p q.
              let a = ticket_before i x k none e p in let b = ticket_before j y k none f q in
              r.apart i j a.0 b.0 k a.1 b.1 a.2 b.2;
          unborn = λ n far. r.unborn n (omega (arith, long));
          strangers = r.strangers;
          known = dite (ℕ_discrete r.known.0 id)
              (λ e. let is : r.known.1 ≡ v = maybe.some-injective r.known.1 v
              (sym r.known.2 ∙ (ap (get_elem? views) e ∙ here)) in
              (id, left, there, goes, sym (ap (λ (u : V). u.seen) is) ∙ r.known.4))
              (λ other. (r.known.0, r.known.1, as_before r.known.0 r.known.1 other r.known.2, r.known.3, r.known.4));
        }

  -- the first seat may split while there are fewer seats than passes
  pub splits_allowed : (id : ℕ) (v : V) → is_over v.turn ≡ false → 0 < v.next → v.next < passes
      → Splits Ruled id v (after_split v) (split_off v)
  splits_allowed id v goes some room s r here =
      let st = r.stands in
      let views = s.views in
      let old = st.each id v here goes in
      let is = old.next some in
      let right : V = split_off v in
      let all = count_by-le-length (λ (u : V). is_original u.turn) views in
      record {
        ticket = r.ticket;
        serving = r.serving;
        history = r.history;
        words = r.words;
        stands = added r.ticket r.serving r.history s.homes views id (v.next + 1) v right st here goes refl
            (omega (arith, is.1))
            (λ _. (is.0, ap (λ n. n + 1) is.1))
            (λ i u other e go more. other (((st.each i u e go).next more).0 ∙ sym is.0))
            (λ _. record {
              number = is.1;
              within = omega (arith, is.1);
              seen = old.seen;
              mine = sym (st.unborn (length views) (omega arith));
              drawn = old.drawn;
              turn = tt;
              joined = λ k share e. absurd (maybe.some-ne-none share (sym e));
              beginnings = λ k seen e. absurd (maybe.some-ne-none seen (sym e));
              next = λ none. absurd (omega arith);
            });
      }

  -- where a seat has all numbers, no other takes turns
  alone : (t sv : ℕ) (h : List E) (homes : Homes) (views : List V) (id : ℕ) (v : V) → Standing t sv h homes views
      → get_elem? views id ≡ maybe.some v → is_over v.turn ≡ false → Covers passes v
      → (i : ℕ) (u : V) → get_elem? views i ≡ maybe.some u → is_over u.turn ≡ false → i ≡ id
  alone t sv h homes views id v r here goes all i u e go =
      let mine = r.each id v here goes in
      elim (all i (r.each i u e go).within) [
        | inl same ↦ same ∙ mine.number
        | inr joined ↦
            let is = mine.joined joined.0 joined.1 joined.2 in
            let over : spent_seat ≡ u = maybe.some-injective spent_seat u
            (sym is.spent ∙ (ap (get_elem? views) joined.3 ∙ e)) in
            let bad : true ≡ false = ap (λ (x : V). is_over x.turn) over ∙ go in absurd cc
      ]

  -- the last seat may leave a note
  pub notes_allowed : (id : ℕ) (v : V) → is_over v.turn ≡ false → Covers passes v
      → Splits Ruled id v (after_close v) (note_of v)
  notes_allowed id v goes all s r here =
      let st = r.stands in record {
        ticket = r.ticket;
        serving = r.serving;
        history = r.history;
        words = r.words;
        stands = added r.ticket r.serving r.history s.homes s.views id 0 v (note_of v) st here goes refl
            (let c = st.seats in omega arith)
            (λ none. absurd (omega arith))
            (λ i u other e go _. other
            (alone r.ticket r.serving r.history s.homes s.views id v st here goes all i u e go))
            (λ over. absurd cc);
      }

  module _ (t sv : ℕ) (h : List E) (homes : Homes) (views : List V) (id other : ℕ) (v w : V)
      (r : Standing t sv h homes views)
      (here : get_elem? views id ≡ maybe.some v) (goes : is_over v.turn ≡ false) (idle : is_served v.turn ≡ false)
      (apart : other ≢ id) (there : get_elem? views other ≡ maybe.some w) (goes' : is_over w.turn ≡ false)
      (idle' : is_served w.turn ≡ false) where
    abbrev both : V
    both = after_join v w

    abbrev one : List V
    one = set views id both

    abbrev fewer : List V
    fewer = set one other spent_seat

    abbrev Seat : ℕ → V → Type 0
    Seat = IsSeated pass_of led opening passes t sv h homes fewer

    wide : length fewer ≡ length views
    wide = length-set one other spent_seat ∙ length-set views id both

    other_near : other < length one
    other_near = let near : other < length views = here_below views other w there in
        omega (arith, length-set views id both)

    both_there : get_elem? fewer id ≡ maybe.some both
    both_there = set_else one other id spent_seat (λ e. apart (sym e))
        ∙ set_here views id both (here_below views id v here)

    spent_there : get_elem? fewer other ≡ maybe.some spent_seat
    spent_there = set_here one other spent_seat other_near

    unchanged : (i : ℕ) (u : V) → i ≢ id → i ≢ other → get_elem? views i ≡ maybe.some u
        → get_elem? fewer i ≡ maybe.some u
    unchanged i u a b e = set_else one other i spent_seat b ∙ (set_else views id i both a ∙ e)

    who : (i : ℕ) (x : V) → get_elem? fewer i ≡ maybe.some x
        → ((i ≡ other) × (spent_seat ≡ x)) ⊎ (((i ≡ id) × (both ≡ x))
        ⊎ ((i ≢ other) × (i ≢ id) × (get_elem? views i ≡ maybe.some x)))
    who i x e = elim (at_set one other i spent_seat x e) [
      | inl a ↦ inl a
      | inr b ↦ elim (at_set views id i both x b.1) [ inl c ↦ inr (inl c) | inr d ↦ inr (inr (b.0, d.0, d.1)) ]
    ]

    spent_joined : (share : Share E) → IsJoined pass_of led opening h views share
        → IsJoined pass_of led opening h fewer share
    spent_joined share is =
        let a : share.number ≢ id = λ e.
        let same : spent_seat ≡ v = maybe.some-injective spent_seat v
        (sym is.spent ∙ (ap (get_elem? views) e ∙ here)) in
        let bad : true ≡ false = ap (λ (u : V). is_over u.turn) same ∙ goes in absurd cc in
        let b : share.number ≢ other = λ e.
        let same : spent_seat ≡ w = maybe.some-injective spent_seat w
        (sym is.spent ∙ (ap (get_elem? views) e ∙ there)) in
        let bad : true ≡ false = ap (λ (u : V). is_over u.turn) same ∙ goes' in absurd cc in
        record { spent = unchanged share.number spent_seat a b is.spent; mine = is.mine }

    old : IsSeated pass_of led opening passes t sv h homes views id v
    old = r.each id v here goes

    old' : IsSeated pass_of led opening passes t sv h homes views other w
    old' = r.each other w there goes'

    share_joined : (k : ℕ) (share : Share E) → get_elem? (share_of w ∷ w.joined) k ≡ maybe.some share
        → IsJoined pass_of led opening h fewer share
    share_joined zero share e =
        subst (IsJoined pass_of led opening h fewer) (maybe.some-injective (share_of w) share e) record {
          spent = ap (get_elem? fewer) old'.number ∙ spent_there;
          mine = old'.mine ∙ ap (λ n. entries_of pass_of n h) (sym old'.number);
        }
    share_joined (suc k) share e = spent_joined share (old'.joined k share e)

    beginning_seen : (k : ℕ) (seen : List E) → get_elem? (v.seen ∷ w.seen ∷ w.beginnings) k ≡ maybe.some seen
        → IsPrefix seen h
    beginning_seen zero seen e = subst (λ z. IsPrefix z h) (maybe.some-injective v.seen seen e) old.seen
    beginning_seen (suc zero) seen e = subst (λ z. IsPrefix z h) (maybe.some-injective w.seen seen e) old'.seen
    beginning_seen (suc (suc k)) seen e = old'.beginnings k seen e

    own : Seat id both
    own = record {
      number = old.number;
      within = old.within;
      seen = longer_begins v.seen w.seen h old.seen old'.seen;
      mine = old.mine;
      drawn = let a = old.drawn in let b = old'.drawn in omega arith;
      turn = other_seen t sv h homes v.seen both.seen v.turn idle old.turn;
      joined = λ k share e. elim (in_either (share_of w ∷ w.joined) v.joined k share e) [
        | inl a ↦ share_joined a.0 share a.1
        | inr b ↦ spent_joined share (old.joined b.0 share b.1)
      ];
      beginnings = λ k seen e. elim (in_either (v.seen ∷ w.seen ∷ w.beginnings) v.beginnings k seen e) [
        | inl a ↦ beginning_seen a.0 seen a.1
        | inr b ↦ old.beginnings b.0 seen b.1
      ];
      next = λ some. let is = old.next some in (is.0, is.1 ∙ sym wide);
    }

    theirs : (i : ℕ) (u : V) → i ≢ other → i ≢ id → get_elem? views i ≡ maybe.some u → is_over u.turn ≡ false → Seat i u
    theirs i u a b e go = let was = r.each i u e go in record {
      number = was.number;
      within = was.within;
      seen = was.seen;
      mine = was.mine;
      drawn = was.drawn;
      turn = was.turn;
      joined = λ k share f. spent_joined share (was.joined k share f);
      beginnings = was.beginnings;
      next = λ some. let is = was.next some in (is.0, is.1 ∙ sym wide);
    }

    ticket_then : (i : ℕ) (x : V) (k : ℕ) → get_elem? fewer i ≡ maybe.some x → ticket_in x.turn ≡ Some k → (u : V)
        × (get_elem? views i ≡ maybe.some u) × (ticket_in u.turn ≡ Some k)
    ticket_then i x k e mine = elim (who i x e) [
      | inl a ↦ let bad : None ≡ Some k = ap (λ (u : V). ticket_in u.turn) a.1 ∙ mine in absurd cc
      | inr b ↦ elim b [
        | inl c ↦ (v, ap (get_elem? views) c.0 ∙ here, ap (λ (u : V). ticket_in u.turn) c.1 ∙ mine)
        | inr d ↦ (x, d.2, mine)
      ]
    ]

    unserved_other : (i : ℕ) (u x : V) → get_elem? views i ≡ maybe.some u → is_served u.turn ≡ true → (j : ℕ)
        → get_elem? views j ≡ maybe.some x → is_served x.turn ≡ false → i ≢ j
    unserved_other i u x e serves j f no_turn same =
        let is : u ≡ x = maybe.some-injective u x (sym e ∙ (ap (get_elem? views) same ∙ f)) in
        let bad : true ≡ false = sym serves ∙ (ap (λ (y : V). is_served y.turn) is ∙ no_turn) in absurd cc

    seen_whole : (i : ℕ) (u : V) → get_elem? views i ≡ maybe.some u → is_over u.turn ≡ false → u.seen ≡ h → Dec (i ≡ id)
        → Dec (i ≡ other) → IsKnown pass_of led opening h fewer
    seen_whole i u e go whole (yes a) b =
        let is : u ≡ v = maybe.some-injective u v (sym e ∙ (ap (get_elem? views) a ∙ here)) in
        (id, both, both_there, goes, longer_first v.seen w.seen h (sym (ap (λ (x : V). x.seen) is) ∙ whole) old'.seen)
    seen_whole i u e go whole (no a) (yes b) =
        let is : u ≡ w = maybe.some-injective u w (sym e ∙ (ap (get_elem? views) b ∙ there)) in
        (id, both, both_there, goes, longer_second v.seen w.seen h old.seen (sym (ap (λ (x : V). x.seen) is) ∙ whole))
    seen_whole i u e go whole (no a) (no b) = (i, u, unchanged i u a b e, go, whole)

    pub joined_stands : Standing t sv h homes fewer
    joined_stands = record {
      few = r.few;
      ordered = r.ordered;
      served = r.served;
      seats = let c = count_set (λ (u : V). is_original u.turn) views id v both here in
          let d = count_set (λ (u : V). is_original u.turn) one other w spent_seat
          (set_else views id other both apart ∙ there) in
          let e : cond {A = ℕ} (is_original w.turn) 1 0 ≡ 1 = ap (λ (b : Bool). cond {A = ℕ} b 1 0)
          (goes_original w.turn goes') in
          let s = r.seats in omega arith;
      tickets = let c = count_set (λ (u : V). may_have_ticket u.turn) views id v both here in
          let d = count_set (λ (u : V). may_have_ticket u.turn) one other w spent_seat
          (set_else views id other both apart ∙ there) in
          let e = bit_small (may_have_ticket w.turn) in
          let s = r.tickets in omega arith;
      slot = elim r.slot [
        | inl home ↦ inl home
        | inr away ↦ inr (
          away.0,
          away.1,
          unchanged away.0 away.1
              (unserved_other away.0 away.1 v away.2 away.3 id here idle)
              (unserved_other away.0 away.1 w away.2 away.3 other there idle') away.2,
          away.3,
          away.4,
        )
      ];
      each = λ i u e go. elim (who i u e) [
        | inl a ↦ let bad : true ≡ false = ap (λ (x : V). is_over x.turn) a.1 ∙ go in absurd cc
        | inr b ↦ elim b [
          | inl c ↦ subst (λ (z : ℕ × V). Seat z.0 z.1) (λ j. (sym c.0 j, c.1 j)) own
          | inr d ↦ theirs i u d.0 d.1 d.2 go
        ]
      ];
      apart = λ i j x y k e f p q. let a = ticket_then i x k e p in let b = ticket_then j y k f q in
          r.apart i j a.0 b.0 k a.1 b.1 a.2 b.2;
      unborn = λ n far. r.unborn n (omega (arith, wide));
      strangers = r.strangers;
      known = seen_whole r.known.0 r.known.1 r.known.2 r.known.3 r.known.4 (ℕ_discrete r.known.0 id)
          (ℕ_discrete r.known.0 other);
    }

  -- one seat takes in another, where neither has its turn
  pub joins_allowed : (id other : ℕ) (v w : V) → is_over v.turn ≡ false → is_served v.turn ≡ false
      → is_over w.turn ≡ false → is_served w.turn ≡ false
      → Joins Ruled id v other w (after_join v w) spent_seat
  joins_allowed id other v w goes idle goes' idle' s r here apart there =
      let there' : get_elem? s.views other ≡ maybe.some w = sym (set_else s.views id other (after_join v w) apart)
      ∙ there in record {
        ticket = r.ticket;
        serving = r.serving;
        history = r.history;
        words = r.words;
        stands = joined_stands r.ticket r.serving r.history s.homes s.views id other v w r.stands here goes idle
            apart there' goes' idle';
      }

  -- the closing value, and what the last seat then knows
  pub record IsClosing (v : V) (slots : List (Option B)) : Type 0 where
    pub value : B
    pub slot : get_elem? slots 0 ≡ maybe.some (Some value)
    pub leads : led opening v.seen value
    pub settled : IsSettled pass_of passes v

  pub closes : (id : ℕ) (v : V) (words : List ℕ) (slots : List (Option B)) → is_over v.turn ≡ false
      → is_served v.turn ≡ false → Covers passes v → Final (Seen Ruled id v) words slots → IsClosing v slots
  closes id v words slots goes idle all final =
      let s = final.0 in
      let r = final.1.0 in
      let here = final.1.1 in
      let st = r.stands in
      let h = r.history in
      let only = alone r.ticket r.serving h s.homes s.views id v st here goes all in
      let old = st.each id v here goes in
      let known = st.known in
      let whole : v.seen ≡ h =
      let same : known.0 ≡ id = only known.0 known.1 known.2 known.3 in
      let is : known.1 ≡ v = maybe.some-injective known.1 v (sym known.2 ∙ (ap (get_elem? s.views) same ∙ here)) in
      sym (ap (λ (x : V). x.seen) is) ∙ known.4 in
      let home : IsHome pass_of led opening r.serving h s.homes = elim st.slot [
        | inl home ↦ home
        | inr away ↦
            let same : away.0 ≡ id = only away.0 away.1 away.2 (served_goes away.1.turn away.3) in
            let is : away.1 ≡ v = maybe.some-injective away.1 v (sym away.2 ∙ (ap (get_elem? s.views) same ∙ here)) in
            let bad : true ≡ false = sym away.3 ∙ (ap (λ (x : V). is_served x.turn) is ∙ idle) in absurd cc
      ] in
      record {
        value = home.0;
        slot = final.4 0 (Some home.0) (ap (λ hs. get_elem? hs 0) home.1);
        leads = subst (λ z. led opening z home.0) (sym whole) home.2;
        settled = record {
          within = omega (arith, old.number, old.within);
          mine = old.mine ∙ (λ i. entries_of pass_of (sym old.number i) (sym whole i));
          joined = λ k share e. (old.joined k share e).mine ∙ ap (entries_of pass_of share.number) (sym whole);
          beginnings = λ k seen e. subst (IsPrefix seen) (sym whole) (old.beginnings k seen e);
          strangers = λ n far. ap (entries_of pass_of n) whole ∙ st.strangers n far;
        };
      }

  alone_at_first : (value : B) → 0 < passes → (i : ℕ) (v : V) → get_elem? (first_seat ∷ []) i ≡ maybe.some v
      → IsSeated pass_of led opening passes 0 0 [] (at_home value) (first_seat ∷ []) i v
  alone_at_first value some zero v e =
      subst (IsSeated pass_of led opening passes 0 0 [] (at_home value) (first_seat ∷ []) zero)
      (maybe.some-injective first_seat v e) record {
        number = refl;
        within = some;
        seen = begins_itself [];
        mine = refl;
        drawn = omega arith;
        turn = tt;
        joined = λ k share f. absurd (maybe.some-ne-none share (sym f));
        beginnings = λ k seen f. absurd (maybe.some-ne-none seen (sym f));
        next = λ _. (refl, refl);
      }
  alone_at_first value some (suc i) v e = absurd (maybe.some-ne-none v (sym e))

  no_ticket_at_first : (i : ℕ) (v : V) (k : ℕ) → get_elem? (first_seat ∷ []) i ≡ maybe.some v
      → ticket_in v.turn ≡ Some k → ⊥
  no_ticket_at_first zero v k e mine = let bad : None ≡ Some k = ap (λ (u : V). ticket_in u.turn)
      (maybe.some-injective first_seat v e) ∙ mine in cc
  no_ticket_at_first (suc i) v k e mine = maybe.some-ne-none v (sym e)

  -- the table at the start
  pub opens : (words : List ℕ) (value : B) → AreWords 0 0 0 words → 0 < passes → passes ≤ 65 → led opening [] value
      → Ruled record { words = words; homes = at_home value; views = first_seat ∷ [] }
  opens words value are some few leads = record {
    ticket = 0;
    serving = 0;
    history = [];
    words = are;
    stands = record {
      few = few;
      ordered = omega arith;
      served = omega arith;
      seats = omega arith;
      tickets = omega arith;
      slot = inl (value, refl, leads, omega arith);
      each = λ i v e go. alone_at_first value some i v e;
      apart = λ i j x y k e f p q. absurd (no_ticket_at_first i x k e p);
      unborn = λ n far. refl;
      strangers = λ n far. refl;
      known = (0, first_seat, refl, refl, refl);
    };
  }

  -- the same where the last seat has left its note
  pub noted_closes : (id : ℕ) (v w : V) (words : List ℕ) (slots : List (Option B)) → w ≡ after_close v
      → is_over v.turn ≡ false → is_served v.turn ≡ false → Covers passes v → Final (Seen Ruled id w) words slots
      → IsClosing v slots
  noted_closes id v w words slots e goes idle all final =
      let c = closes id (after_close v) words slots goes idle all
      (subst (λ (u : V). Final (Seen Ruled id u) words slots) e final) in
      let s = c.settled in
      record {
        value = c.value;
        slot = c.slot;
        leads = c.leads;
        settled = record {
          within = s.within;
          mine = s.mine;
          joined = s.joined;
          beginnings = s.beginnings;
          strangers = s.strangers;
        };
      }
