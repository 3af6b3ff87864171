-- The steps of a turn keep the rule: draw, look, take, log and hand on.
use Rattle.std.proofs.Common.{◌≡◌, ◌≢◌, ℕ, ◌+◌, ◌^◌, ◌%◌, ◌<◌, ◌≤◌, inl, inr, Bool, true, false, cond, eqb, List, []}
use Rattle.std.proofs.Common.{◌∷◌, ◌++◌, length, set, sym, refl, ap, ◌∙◌, subst, arith, length-append, append-nil}
use Rattle.std.proofs.Common.{mod-eq_of_lt, eq-eqb, ne_eqb, Some, Option}
use Rattle.std.specs.Prelude.{slice_index, slice_set}
use Rattle.std.proofs.lemmas.List.Elements.{filter-append}
use mathlib.Core.Option as maybe
use mathlib.Core.List.{IsPrefix}
use mathlib.Core.Logic.{dite}
use native.Mathlib.Decide.{ℕ_discrete}
use lib.ListN.{get_elem?}
use Rattle.atomic_table.specs.Table.{State, Me, Act, keeps, takes, gives, stepped, Valid, Allows, carried_after}
use Rattle.atomic_table.specs.Table.{put_back}
use Rattle.atomic_table.proofs.Lists.{set_here, set_else, set_again}
use Rattle.kom_state_lock.specs.declared.views.Turn.{Turn}
use Rattle.kom_state_lock.specs.declared.views.Turn.TheVariants.{Resting, Waiting, Holding, Logged, Spent, Closed}
use Rattle.kom_state_lock.specs.declared.views.View.{View}
use Rattle.kom_state_lock.specs.Views.{entries_of, ticket_in, ticket_of, is_over, is_served, may_have_ticket}
use Rattle.kom_state_lock.specs.Views.{is_original, history_in, after_draw, after_take, after_log, after_hand_on}
use Rattle.kom_state_lock.specs.Rule.{at_home, is_out, AreWords, IsServed, InTurn, IsHome, IsAway, IsKnown, Stands}
use Rattle.kom_state_lock.specs.Rule.{Rule}
use Rattle.kom_state_lock.specs.Steps.{Draws, Looks, Logs, HandsOn, Marks}
use Rattle.kom_state_lock.specs.Passes.{MayLog, MayPut}
use Rattle.kom_state_lock.proofs.Begins.{begins_itself, begins_more}
use Rattle.kom_state_lock.proofs.Places.{here_below, count_less}
use Rattle.kom_state_lock.proofs.Words.{word_found, next_written, now_written, length_written, other_written}
use Rattle.kom_state_lock.proofs.Moves.{ticket_original, served_now, served_goes, ticket_below, moved, IsMove}

abbrev bit : Bool → ℕ
bit b = cond b 1 0

not_true : (b : Bool) → (b ≡ true → ⊥) → b ≡ false
not_true true idle = absurd (idle refl)
not_true false idle = refl

module _ {E : Type 0} (pass_of : E → ℕ) where
  pub entries_end_own : (n : ℕ) (history : List E) (entry : E) → pass_of entry ≡ n
      → entries_of pass_of n (history ++ entry ∷ []) ≡ entries_of pass_of n history ++ entry ∷ []
  entries_end_own n history entry own =
      let b : eqb (pass_of entry) n ≡ true = eq-eqb (pass_of entry) n own in
      filter-append (λ e. eqb (pass_of e) n) history (entry ∷ [])
      ∙ ap (λ z. entries_of pass_of n history ++ cond z (entry ∷ []) []) b

  pub entries_end_other : (n : ℕ) (history : List E) (entry : E) → pass_of entry ≢ n
      → entries_of pass_of n (history ++ entry ∷ []) ≡ entries_of pass_of n history
  entries_end_other n history entry other =
      let b : eqb (pass_of entry) n ≡ false = ne_eqb (pass_of entry) n other in
      filter-append (λ e. eqb (pass_of e) n) history (entry ∷ [])
      ∙ (ap (λ z. entries_of pass_of n history ++ cond z (entry ∷ []) []) b ∙ append-nil (entries_of pass_of n history))

module _ {B E : Type 0} (pass_of : E → ℕ) (led : B → List E → B → Type 0) (opening : B) (passes : ℕ) where
  abbrev V : Type 0
  V = View B E

  abbrev Homes : Type 0
  Homes = List (maybe.Option (Option B))

  abbrev Table : Type 0
  Table = State (Option B) V

  abbrev Ruled : Table → Type 0
  Ruled = Rule pass_of led opening passes

  abbrev Standing : ℕ → ℕ → List E → Homes → List V → Type 0
  Standing = Stands pass_of led opening passes

  abbrev Says : ℕ → ℕ → List E → Homes → List E → Turn B E → Type 0
  Says = InTurn pass_of led opening

  later : (t t' sv : ℕ) (h : List E) (homes : Homes) (seen : List E) (turn : Turn B E) → t ≤ t'
      → Says t sv h homes seen turn → Says t' sv h homes seen turn
  later t t' sv h homes seen Resting le says = tt
  later t t' sv h homes seen (Waiting mine) le says = (says.0, omega (arith, says.1))
  later t t' sv h homes seen (Holding mine taken before) le says =
      (record { now = says.0.now; drawn = omega (arith, says.0.drawn); few = says.0.few; out = says.0.out }, says.1)
  later t t' sv h homes seen (Logged mine left) le says =
      (record { now = says.0.now; drawn = omega (arith, says.0.drawn); few = says.0.few; out = says.0.out }, says.1)
  later t t' sv h homes seen Spent le says = tt
  later t t' sv h homes seen Closed le says = tt

  -- a turn that is not served asks nothing of the slot or the history
  unserved : (t sv : ℕ) (h h' : List E) (homes homes' : Homes) (seen : List E) (turn : Turn B E)
      → is_served turn ≡ false → Says t sv h homes seen turn → Says t sv h' homes' seen turn
  unserved t sv h h' homes homes' seen Resting idle says = tt
  unserved t sv h h' homes homes' seen (Waiting mine) idle says = says
  unserved t sv h h' homes homes' seen (Holding mine taken before) idle says = absurd cc
  unserved t sv h h' homes homes' seen (Logged mine left) idle says = absurd cc
  unserved t sv h h' homes homes' seen Spent idle says = tt
  unserved t sv h h' homes homes' seen Closed idle says = tt

  -- the same where the next ticket is served, which the seat has not
  passed_over : (t sv : ℕ) (h : List E) (homes homes' : Homes) (seen : List E) (turn : Turn B E)
      → is_served turn ≡ false → (ticket_in turn ≡ Some sv → ⊥) → Says t sv h homes seen turn
      → Says t (sv + 1) h homes' seen turn
  passed_over t sv h homes homes' seen Resting idle other says = tt
  passed_over t sv h homes homes' seen (Waiting mine) idle other says =
      let apart : mine ≢ sv = λ e. other (ap Some e) in
      let low = says.0 in (omega arith, says.1)
  passed_over t sv h homes homes' seen (Holding mine taken before) idle other says = absurd cc
  passed_over t sv h homes homes' seen (Logged mine left) idle other says = absurd cc
  passed_over t sv h homes homes' seen Spent idle other says = tt
  passed_over t sv h homes homes' seen Closed idle other says = tt

  -- tickets do not run out: each above 2^62 is some seat's for ever
  pub bounded : (t sv : ℕ) (h : List E) (homes : Homes) (views : List V) → Standing t sv h homes views → t ≤ 2 ^ 62 + 65
  bounded t sv h homes views r =
      let c = count_less (λ (u : V). may_have_ticket u.turn) (λ (u : V). is_original u.turn) views
      (λ u. ticket_original u.turn) in
      let a = r.tickets in let b = r.seats in let d = r.few in let e = r.served in omega arith

  pub short : (t sv : ℕ) (h : List E) (homes : Homes) (views : List V) (i : ℕ) (v : V) → Standing t sv h homes views
      → get_elem? views i ≡ maybe.some v → is_served v.turn ≡ true → sv < t
  short t sv h homes views i v r e serves =
      let says = (r.each i v e (served_goes v.turn serves)).turn in
      ticket_below pass_of led opening passes t sv h homes v.seen v.turn sv says
      (served_now pass_of led opening passes t sv h homes v.seen v.turn says serves)

  module _ (t sv : ℕ) (h : List E) (homes : Homes) (views : List V) (id : ℕ) (v w : V) (r : Standing t sv h homes views)
      (here : get_elem? views id ≡ maybe.some v) where
    near : id < length views
    near = here_below views id v here

    -- a slot that is out stays out with the same seat
    away_stays : is_served v.turn ≡ false → IsAway pass_of led opening homes views
        → IsAway pass_of led opening homes (set views id w)
    away_stays idle away =
        let i = away.0 in let u = away.1 in
        let other : i ≢ id = λ e.
        let same : u ≡ v = maybe.some-injective u v (sym away.2 ∙ (ap (get_elem? views) e ∙ here)) in
        let bad : true ≡ false = sym away.3 ∙ (ap (λ (x : V). is_served x.turn) same ∙ idle) in absurd cc in
        (i, u, set_else views id i w other ∙ away.2, away.3, away.4)

    known_stays : is_over w.turn ≡ false → w.seen ≡ v.seen → IsKnown pass_of led opening h views
        → IsKnown pass_of led opening h (set views id w)
    known_stays goes same known = dite (ℕ_discrete known.0 id)
        (λ e. let is : known.1 ≡ v = maybe.some-injective known.1 v (sym known.2 ∙ (ap (get_elem? views) e ∙ here)) in
        (id, w, set_here views id w near, goes, same ∙ (sym (ap (λ (x : V). x.seen) is) ∙ known.4)))
        (λ other. (known.0, known.1, set_else views id known.0 w other ∙ known.2, known.3, known.4))

    -- the others are not served while this seat has the ticket that is served
    others_wait : ticket_in v.turn ≡ Some sv → (j : ℕ) (u : V) → j ≢ id → get_elem? views j ≡ maybe.some u
        → is_served u.turn ≡ false
    others_wait mine j u other e = not_true (is_served u.turn) (λ serves.
        other (r.apart j id u v sv e here
        (served_now pass_of led opening passes t sv h homes u.seen u.turn
        (r.each j u e (served_goes u.turn serves)).turn serves) mine))

    -- the slot is at home while the ticket that is served waits
    at_home_now : ticket_in v.turn ≡ Some sv → is_served v.turn ≡ false → IsHome pass_of led opening sv h homes
    at_home_now mine idle = elim r.slot [
      | inl home ↦ home
      | inr away ↦
          let same : away.0 ≡ id = r.apart away.0 id away.1 v sv away.2 here
          (served_now pass_of led opening passes t sv h homes away.1.seen away.1.turn
          (r.each away.0 away.1 away.2 (served_goes away.1.turn away.3)).turn away.3) mine in
          let is : away.1 ≡ v = maybe.some-injective away.1 v (sym away.2 ∙ (ap (get_elem? views) same ∙ here)) in
          let bad : true ≡ false = sym away.3 ∙ (ap (λ (x : V). is_served x.turn) is ∙ idle) in absurd cc
    ]

  turn_in : (t sv : ℕ) (h : List E) (homes : Homes) (v : V) (turn : Turn B E) → v.turn ≡ turn
      → Says t sv h homes v.seen v.turn → Says t sv h homes v.seen turn
  turn_in t sv h homes v turn e says = subst (λ (x : Turn B E). Says t sv h homes v.seen x) e says

  drawn_stands : (t sv : ℕ) (h : List E) (homes : Homes) (views : List V) (id : ℕ) (v : V) → Standing t sv h homes views
      → get_elem? views id ≡ maybe.some v → v.turn ≡ Resting →
      Standing (t + 1) sv h homes (set views id (after_draw t v))
  drawn_stands t sv h homes views id v r here free =
      let w : V = after_draw t v in
      let goes : is_over v.turn ≡ false = ap is_over free in
      let idle : is_served v.turn ≡ false = ap is_served free in
      let none : may_have_ticket v.turn ≡ false = ap may_have_ticket free in
      let old = r.each id v here goes in
      let ordered = r.ordered in let drawn = old.drawn in
      let move : IsMove pass_of led opening passes t sv h homes views id v (t + 1) sv h homes w = record {
        here = here;
        goes = goes;
        still = refl;
        number = refl;
        joined = refl;
        next = refl;
        beginnings = refl;
        rises = omega arith;
        ordered = omega arith;
        served = r.served;
        room = let c : bit (may_have_ticket v.turn) ≡ 0 = ap bit none in omega arith;
        begins = begins_itself h;
        entries = λ n other. refl;
        slot = elim r.slot [
          | inl home ↦ inl home
          | inr away ↦ inr (away_stays t sv h homes views id v w r here idle away)
        ];
        rest = λ j u other e go says. later t (t + 1) sv h homes u.seen u.turn (omega arith) says;
        fresh = λ k e. let same : t ≡ k = cc in inr (omega arith);
        seen = old.seen;
        mine = old.mine;
        drawn = omega arith;
        turn = (ordered, omega arith);
        known = known_stays t sv h homes views id v w r here refl refl r.known;
      } in moved pass_of led opening passes t sv h homes views id v (t + 1) sv h homes w r move

  pub draws_allowed : (slots id : ℕ) (me : Me (Option B) V) → me.0.turn ≡ Resting
      → Allows Ruled slots id me 0 (λ n. (n + 1) % 2 ^ 64) (Draws me)
  draws_allowed slots id me free s r wide here fits =
      let t = r.ticket in
      let found : slice_index s.words 0 ≡ t = word_found s.words 0 t r.words.next in
      let low = bounded t r.serving r.history s.homes s.views r.stands in
      let more : (t + 1) % 2 ^ 64 ≡ t + 1 = mod-eq_of_lt (omega arith) in
      let drawn = (r.stands.each id me.0 here (ap is_over free)).drawn in
      subst (λ (n : ℕ). (w : V) × (a : Act (Option B)) × Valid s.homes me.1 a
      × Ruled (stepped s 0 ((n + 1) % 2 ^ 64) id me.1 w a) × Draws me n (w, carried_after me.1 a)) (sym found) (
        after_draw t me.0,
        keeps,
        tt,
        record {
          ticket = t + 1;
          serving = r.serving;
          history = r.history;
          words = subst (λ n. AreWords (t + 1) r.serving (length r.history) (slice_set s.words 0 n)) (sym more)
              (next_written t r.serving (length r.history) s.words r.words (t + 1));
          stands = drawn_stands t r.serving r.history s.homes s.views id me.0 r.stands here free;
        },
        (refl, drawn),
      )

  taken_stands : (t sv : ℕ) (h : List E) (homes homes' : Homes) (views : List V) (id : ℕ) (v : V) (value : B)
      → Standing t sv h homes views → get_elem? views id ≡ maybe.some v
      → v.turn ≡ Waiting sv → sv < 2 ^ 62 → led opening h value → length h ≤ sv → homes' ≡ is_out
      → Standing t sv h homes' (set views id (after_take sv value h v))
  taken_stands t sv h homes homes' views id v value r here waits few leads fits out =
      let w : V = after_take sv value h v in
      let goes : is_over v.turn ≡ false = ap is_over waits in
      let idle : is_served v.turn ≡ false = ap is_served waits in
      let mine : ticket_in v.turn ≡ Some sv = ap ticket_in waits in
      let old = r.each id v here goes in
      let says = turn_in t sv h homes v (Waiting sv) waits old.turn in
      let move : IsMove pass_of led opening passes t sv h homes views id v t sv h homes' w = record {
        here = here;
        goes = goes;
        still = refl;
        number = refl;
        joined = refl;
        next = refl;
        beginnings = refl;
        rises = omega arith;
        ordered = r.ordered;
        served = r.served;
        room = let c : bit (may_have_ticket v.turn) ≡ 1 = ap (λ (x : Turn B E). bit (may_have_ticket x)) waits in
            omega arith;
        begins = begins_itself h;
        entries = λ n other. refl;
        slot = inr (id, w, set_here views id w (near t sv h homes views id v w r here), refl, out);
        rest = λ j u other e go says. unserved t sv h h homes homes' u.seen u.turn
            (others_wait t sv h homes views id v w r here mine j u other e) says;
        fresh = λ k e. inl (mine ∙ e);
        seen = old.seen;
        mine = old.mine;
        drawn = old.drawn;
        turn = (
          record { now = refl; drawn = says.1; few = few; out = out },
          record { whole = refl; leads = leads; short = fits },
        );
        known = known_stays t sv h homes views id v w r here refl refl r.known;
      } in moved pass_of led opening passes t sv h homes views id v t sv h homes' w r move

  pub looks_allowed : (slots id ticket : ℕ) (me : Me (Option B) V) (told : Option B) → me.0.turn ≡ Waiting ticket
      → ticket < 2 ^ 62 → told ≡ Some opening
      → Allows Ruled slots id me 8 (λ n. n) (Looks pass_of led told me)
  looks_allowed slots id ticket me told waits few says s r wide here fits =
      let sv = r.serving in
      let found : slice_index s.words 8 ≡ sv = word_found s.words 8 sv r.words.now in
      let Goal : ℕ → Type 0 = λ n. (w : V) × (a : Act (Option B)) × Valid s.homes me.1 a
      × Ruled (stepped s 8 n id me.1 w a) × Looks pass_of led told me n (w, carried_after me.1 a) in
      let same : AreWords r.ticket sv (length r.history) (slice_set s.words 8 sv) =
      now_written r.ticket sv (length r.history) s.words r.words sv in
      subst Goal (sym found) (dite (ℕ_discrete sv ticket)
      (λ hit.
      let v : V = me.0 in
      let waits' : v.turn ≡ Waiting sv = waits ∙ ap Waiting (sym hit) in
      let home = at_home_now r.ticket sv r.history s.homes s.views id v v r.stands here (ap ticket_in waits')
      (ap is_served waits') in
      let old = r.stands.each id v here (ap is_over waits) in
      let out : slice_set s.homes 0 maybe.none ≡ is_out = ap (λ hs. slice_set hs 0 maybe.none) home.1 in
      let w : V = after_take sv home.0 r.history v in (
        w,
        takes 0 (Some home.0),
        ap (λ hs. get_elem? hs 0) home.1,
        record {
          ticket = r.ticket;
          serving = sv;
          history = r.history;
          words = same;
          stands = taken_stands r.ticket sv r.history s.homes (slice_set s.homes 0 maybe.none) s.views id v home.0
              r.stands here waits' (omega arith) home.2 home.3 out;
        },
        λ ticket' opening' e f.
            let one : ticket ≡ ticket' = cc in
            let two : opening ≡ opening' = cc in (
              (λ other. absurd (other (hit ∙ one))),
              (λ _. (
                home.0,
                r.history,
                (let three : sv ≡ ticket' = hit ∙ one in
                    λ i. (after_take (three i) home.0 r.history v, (0, Some home.0) ∷ me.1)),
                subst (λ x. led x r.history home.0) two home.2,
                old.seen,
                omega (arith, home.3),
                old.mine ∙ ap (λ n. entries_of pass_of n r.history) (sym old.number),
              )),
            ),
      ))
      (λ miss. (
        me.0,
        keeps,
        tt,
        record {
          ticket = r.ticket;
          serving = sv;
          history = r.history;
          words = same;
          stands = subst (λ vs. Standing r.ticket sv r.history s.homes vs)
              (sym (set_again s.views id me.0 here)) r.stands;
        },
        λ ticket' opening' e f.
            let one : ticket ≡ ticket' = cc in
            ((λ _. refl), (λ hit. absurd (miss (hit ∙ sym one)))),
      )))

  -- a word to sleep on may be marked at any time
  pub marks_allowed : (slots id word mark : ℕ) (me : Me (Option B) V) → 24 ≤ word
      → Allows Ruled slots id me word (λ _. mark) (λ _. Marks me)
  marks_allowed slots id word mark me far s r wide here fits = (
    me.0,
    keeps,
    tt,
    record {
      ticket = r.ticket;
      serving = r.serving;
      history = r.history;
      words = other_written r.ticket r.serving (length r.history) s.words r.words word mark far;
      stands = subst (λ vs. Standing r.ticket r.serving r.history s.homes vs)
          (sym (set_again s.views id me.0 here)) r.stands;
    },
    refl,
  )

  -- a turn that is not logged, as its seat has it
  logged_stands : (t sv : ℕ) (h : List E) (homes : Homes) (views : List V) (id ticket : ℕ) (v : V) (taken : B)
      (before : List E) (entry : E) (left : B) → Standing t sv h homes views → get_elem? views id ≡ maybe.some v
      → v.turn ≡ Holding ticket taken before → pass_of entry ≡ v.number
      → (led opening h taken → led opening (h ++ entry ∷ []) left)
      → (before ≡ h) × Standing t sv (h ++ entry ∷ []) homes (set views id (after_log entry left v))
  logged_stands t sv h homes views id ticket v taken before entry left r here holds names follows =
      let w : V = after_log entry left v in
      let h' : List E = h ++ entry ∷ [] in
      let goes : is_over v.turn ≡ false = ap is_over holds in
      let old = r.each id v here goes in
      let says = turn_in t sv h homes v (Holding ticket taken before) holds old.turn in
      let mine : ticket_in v.turn ≡ Some sv = ap ticket_in holds ∙ ap Some says.0.now in
      let own : pass_of entry ≡ id = names ∙ old.number in
      let same : history_in v.turn v.seen ≡ h = ap (λ x. history_in x v.seen) holds ∙ says.1.whole in
      let whole : history_in v.turn v.seen ++ entry ∷ [] ≡ h' = ap (λ (z : List E). z ++ entry ∷ []) same in
      let number : ticket_of v.turn ≡ ticket = ap ticket_of holds in
      let there = set_here views id w (near t sv h homes views id v w r here) in
      let fits = says.1.short in
      let move : IsMove pass_of led opening passes t sv h homes views id v t sv h' homes w = record {
        here = here;
        goes = goes;
        still = refl;
        number = refl;
        joined = refl;
        next = refl;
        beginnings = refl;
        rises = omega arith;
        ordered = r.ordered;
        served = r.served;
        room = let c : bit (may_have_ticket v.turn) ≡ 1 = ap (λ (x : Turn B E). bit (may_have_ticket x)) holds in
            omega arith;
        begins = begins_more h (entry ∷ []);
        entries = λ n other. entries_end_other pass_of n h entry (λ e. other (sym e ∙ own));
        slot = inr (id, w, there, refl, says.0.out);
        rest = λ j u other e go turn. unserved t sv h h' homes homes u.seen u.turn
            (others_wait t sv h homes views id v w r here mine j u other e) turn;
        fresh = λ k e. inl (ap ticket_in holds ∙ (ap Some (sym number) ∙ e));
        seen = subst (λ z. IsPrefix z h') (sym whole) (begins_itself h');
        mine = ap (λ (z : List E). z ++ entry ∷ []) old.mine ∙ sym (entries_end_own pass_of id h entry own);
        drawn = old.drawn;
        turn = (
          subst (IsServed pass_of led opening t sv homes) (sym number) says.0,
          record {
            whole = whole;
            leads = follows says.1.leads;
            short = omega (arith, length-append h (entry ∷ []));
          },
        );
        known = (id, w, there, refl, whole);
      } in (says.1.whole, moved pass_of led opening passes t sv h homes views id v t sv h' homes w r move)

  pub logs_allowed : (slots id ticket : ℕ) (me : Me (Option B) V) (taken : B) (before : List E) (entry : E) (left : B)
      (told : Option E) (value : Option B)
      → me.0.turn ≡ Holding ticket taken before → pass_of entry ≡ me.0.number
      → ((history : List E) → led opening history taken → led opening (history ++ entry ∷ []) left)
      → told ≡ Some entry → value ≡ Some left
      → Allows Ruled slots id me 16 (λ n. (n + 1) % 2 ^ 64) (λ _. Logs told value me)
  logs_allowed slots id ticket me taken before entry left told value holds names follows one two s r wide here fits =
      let h = r.history in
      let found : slice_index s.words 16 ≡ length h = word_found s.words 16 (length h) r.words.written in
      let v : V = me.0 in
      let old = r.stands.each id v here (ap is_over holds) in
      let says = turn_in r.ticket r.serving h s.homes v (Holding ticket taken before) holds old.turn in
      let low = r.stands.served in
      let brief = says.1.short in
      let more : (length h + 1) % 2 ^ 64 ≡ length (h ++ entry ∷ []) = mod-eq_of_lt (omega arith)
      ∙ sym (length-append h (entry ∷ [])) in
      let both = logged_stands r.ticket r.serving h s.homes s.views id ticket v taken before entry left r.stands here
      holds names (follows h) in
      subst (λ (n : ℕ). (w : V) × (a : Act (Option B)) × Valid s.homes me.1 a
      × Ruled (stepped s 16 ((n + 1) % 2 ^ 64) id me.1 w a) × Logs told value me (w, carried_after me.1 a))
      (sym found) (
        after_log entry left v,
        keeps,
        tt,
        record {
          ticket = r.ticket;
          serving = r.serving;
          history = h ++ entry ∷ [];
          words = subst (λ n. AreWords r.ticket r.serving (length (h ++ entry ∷ [])) (slice_set s.words 16 n))
              (sym more)
              (length_written r.ticket r.serving (length h) s.words r.words (length (h ++ entry ∷ [])));
          stands = both.1;
        },
        λ entry' left' f g.
            let c : entry ≡ entry' = cc in
            let d : left ≡ left' = cc in
            λ i. (after_log (c i) (d i) v, me.1),
      )

  pub may_log : (follows : B → E → B → Type 0) (turn : Turn B E) (entry : E) (value : B)
      → MayLog follows turn entry value
      → (ticket : ℕ) × (taken : B) × (before : List E) × (turn ≡ Holding ticket taken before)
      × follows taken entry value
  may_log follows Resting entry value may = absurd may
  may_log follows (Waiting ticket) entry value may = absurd may
  may_log follows (Holding ticket taken before) entry value may = (ticket, taken, before, refl, may)
  may_log follows (Logged ticket left) entry value may = absurd may
  may_log follows Spent entry value may = absurd may
  may_log follows Closed entry value may = absurd may

  -- where a value may be put back, the history leads to it
  module _ (stays : B → B → Type 0) (staying : (history : List E) (old new : B) → led opening history old
      → stays old new → led opening history new) where
    ready_in : (t sv : ℕ) (h : List E) (homes : Homes) (seen : List E) (turn : Turn B E) (value : B)
        → MayPut stays turn value → Says t sv h homes seen turn
        → (ticket_in turn ≡ Some sv) × (is_served turn ≡ true) × (may_have_ticket turn ≡ true) × (is_over turn ≡ false)
        × (sv < t) × (sv < 2 ^ 62) × (homes ≡ is_out) × (history_in turn seen ≡ h) × led opening h value
        × (length h ≤ sv + 1)
    ready_in t sv h homes seen Resting value may says = absurd may
    ready_in t sv h homes seen (Waiting ticket) value may says = absurd may
    ready_in t sv h homes seen (Holding ticket taken before) value may says =
        let now = says.0.now in let d = says.0.drawn in let f = says.0.few in let l = says.1.short in (
          ap Some now,
          refl,
          refl,
          refl,
          omega arith,
          omega arith,
          says.0.out,
          says.1.whole,
          staying h taken value says.1.leads may,
          omega arith,
        )
    ready_in t sv h homes seen (Logged ticket left) value may says =
        let now = says.0.now in let d = says.0.drawn in let f = says.0.few in (
          ap Some now,
          refl,
          refl,
          refl,
          omega arith,
          omega arith,
          says.0.out,
          says.1.whole,
          subst (led opening h) (sym may) says.1.leads,
          says.1.short,
        )
    ready_in t sv h homes seen Spent value may says = absurd may
    ready_in t sv h homes seen Closed value may says = absurd may

    handed_stands : (t sv : ℕ) (h : List E) (homes homes' : Homes) (views : List V) (id : ℕ) (v : V) (value : B)
        → Standing t sv h homes views → get_elem? views id ≡ maybe.some v
        → MayPut stays v.turn value → is_over v.turn ≡ false → (homes ≡ is_out → homes' ≡ at_home value) → (sv < 2 ^ 62)
        × Standing t (sv + 1) h homes' (set views id (after_hand_on v))
    handed_stands t sv h homes homes' views id v value r here may goes back =
        let w : V = after_hand_on v in
        let old = r.each id v here goes in
        let ready = ready_in t sv h homes v.seen v.turn value may old.turn in
        let mine = ready.0 in
        let below = ready.4 in
        let few = ready.5 in
        let there = set_here views id w (near t sv h homes views id v w r here) in
        let move : IsMove pass_of led opening passes t sv h homes views id v t (sv + 1) h homes' w = record {
          here = here;
          goes = goes;
          still = refl;
          number = refl;
          joined = refl;
          next = refl;
          beginnings = refl;
          rises = omega arith;
          ordered = omega arith;
          served = omega arith;
          room = let c : bit (may_have_ticket v.turn) ≡ 1 = ap bit ready.2 in omega arith;
          begins = begins_itself h;
          entries = λ n other. refl;
          slot = inl (value, back ready.6, ready.8, ready.9);
          rest = λ j u other e go says. passed_over t sv h homes homes' u.seen u.turn
              (others_wait t sv h homes views id v w r here mine j u other e)
              (λ his. other (r.apart j id u v sv e here his mine)) says;
          fresh = λ k e. absurd cc;
          seen = subst (λ z. IsPrefix z h) (sym ready.7) (begins_itself h);
          mine = old.mine;
          drawn = old.drawn;
          turn = tt;
          known = (id, w, there, refl, ready.7);
        } in (few, moved pass_of led opening passes t sv h homes views id v t (sv + 1) h homes' w r move)

    put_goes : (turn : Turn B E) (value : B) → MayPut stays turn value → is_over turn ≡ false
    put_goes Resting value may = absurd may
    put_goes (Waiting ticket) value may = absurd may
    put_goes (Holding ticket taken before) value may = refl
    put_goes (Logged ticket left) value may = refl
    put_goes Spent value may = absurd may
    put_goes Closed value may = absurd may

    pub hands_on_allowed : (slots id : ℕ) (me : Me (Option B) V) (value : B) → MayPut stays me.0.turn value
        → me.1 ≡ (0, Some value) ∷ [] → Allows Ruled slots id me 8 (λ n. (n + 1) % 2 ^ 64) (λ _. HandsOn me)
    hands_on_allowed slots id me value may carries s r wide here fits =
        let sv = r.serving in
        let v : V = me.0 in
        let found : slice_index s.words 8 ≡ sv = word_found s.words 8 sv r.words.now in
        let both = handed_stands r.ticket sv r.history s.homes
        (put_back s.homes me.1) s.views id v value r.stands here may (put_goes v.turn value may)
        (λ out. ap (put_back s.homes) carries ∙ ap (λ (hs : Homes). slice_set hs 0 (maybe.some (Some value))) out) in
        let low = both.0 in
        let more : (sv + 1) % 2 ^ 64 ≡ sv + 1 = mod-eq_of_lt (omega arith) in
        subst (λ (n : ℕ). (w : V) × (a : Act (Option B)) × Valid s.homes me.1 a
        × Ruled (stepped s 8 ((n + 1) % 2 ^ 64) id me.1 w a) × HandsOn me (w, carried_after me.1 a)) (sym found) (
          after_hand_on v,
          gives,
          tt,
          record {
            ticket = r.ticket;
            serving = sv + 1;
            history = r.history;
            words = subst (λ n. AreWords r.ticket (sv + 1) (length r.history) (slice_set s.words 8 n)) (sym more)
                (now_written r.ticket sv (length r.history) s.words r.words (sv + 1));
            stands = both.1;
          },
          refl,
        )
