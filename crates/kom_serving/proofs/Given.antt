-- The drains of a session gave all that was queued for it up to its last call.
use Rattle.std.proofs.Common.{◌≡◌, ℕ, ◌⊎◌, inl, inr, Bool, true, false, ◌&&◌, ◌||◌, eqb, ◌==◌, List, [], ◌∷◌, ◌++◌}
use Rattle.std.proofs.Common.{Some, refl, sym, ap, subst, ◌∙◌, append_assoc, if◌then◌else◌}
use Rattle.std.specs.List.{list_all, flat_map, AllByRecursion}
use Rattle.std.proofs.lemmas.Bool.{cases_Bool, eqb-true}
use Rattle.std.proofs.lemmas.List.Folds.{list_any-append, list_all-append}
use Rattle.std.proofs.lemmas.List.Concat.{flat_map-append}
use Rattle.kom_types.specs.declared.acts.Act.{Act}
use Rattle.kom_types.specs.declared.acts.Act.TheVariants as act
use Rattle.kom_types.specs.declared.acts.Record.{Record}
use Rattle.kom_types.specs.declared.answers.NotMade.TheVariants.{Gone}
use Rattle.kom_types.specs.declared.answers.Why.TheVariants as why
use Rattle.kom_types.specs.declared.items.Item.{Item}
use Rattle.kom_links.specs.DeskCalls.{record_of}
use Rattle.kom_links.specs.Records.{is_connect, has_connect, IsOpen}
use Rattle.kom_links.specs.Talk.{Step, Connects, Asks, Breaks, Flushes, Drains, Closes, first_given, other_given}
use Rattle.kom_links.specs.Talk.{own_step, steps_of, is_quiet, IsDrained}
use Rattle.kom_model.specs.State.{State, session_of}
use Rattle.kom_model.specs.Refusal.{refusal_of}
use Rattle.kom_model.specs.After.{MayFollow, after}
use Rattle.kom_model.specs.Legal.{IsLegal, AreByOwners, state_after}
use Rattle.kom_model.specs.Out.{out_of, given_by, given_along, given_by_pass, given_from}
use Rattle.kom_model.specs.Laws.{IsPrefix, all_given}
use Rattle.kom_model.proofs.Complete.{gives_all_before, gives_all_to_dropped}
use Rattle.hall_desk.specs.Passes.{of_pass}
use Rattle.hall_desk.specs.Desks.{WasStopped}
use Rattle.hall_desk.proofs.Starting.{IsStart}
use Rattle.hall_desk.proofs.Stepping.{AreDrawn, drawn-after}
use Rattle.hall_desk.proofs.Histories.{or_cases, of_pass-append, state_after-append, given-append, given_before}
use Rattle.hall_desk.proofs.Histories.{open_has}
use Rattle.kom_serving.specs.Runs.{is_call, has_call, GaveAll}
use Rattle.kom_serving.proofs.Histories.{not_both, legal_prefix, legal_tail, owners_prefix, connect_above, connect_of}
use Rattle.kom_serving.proofs.Owning.{IsKept}
use Rattle.kom_serving.proofs.Within.{IsApart}
use Rattle.kom_serving.proofs.Calls.{kept_from, kept_once, calls_own, apart_calls, quiet_calls, done_calls}
use Rattle.kom_serving.proofs.Calls.{dropped_ended}

-- ---- what the whole gives goes on

given_along-append : (state : State) (n : ℕ) (a b : List Record) →
    given_along state n (a ++ b) ≡ given_along state n a ++ given_along (state_after state a) n b
given_along-append state n [] b = refl
given_along-append state n (made ∷ a) b =
    ap (λ rest. given_by state n made ++ rest) (given_along-append (after state made) n a b)
    ∙ sym (append_assoc (given_by state n made) (given_along (after state made) n a)
    (given_along (state_after (after state made) a) n b))

all_given_more : (state : State) (n : ℕ) (a b : List Record) →
    IsPrefix (all_given state n a) (all_given state n (a ++ b))
all_given_more state n a b = (
  all_given (state_after state a) n b,
  sym (ap (λ (given : List (List Item)). flat_map (λ items. items) given) (given_along-append state n a b)
      ∙ flat_map-append (λ items. items) (given_along state n a) (given_along (state_after state a) n b)),
)

prefix_then : (a b c : List Item) → IsPrefix a b → IsPrefix b c → IsPrefix a c
prefix_then a b c (more, one) (more', two) =
    (more ++ more', sym (append_assoc a more more') ∙ ap (λ (first : List Item). first ++ more') one ∙ two)

-- ---- what holds of histories

drawn_along : (state : State) (history : List Record) → AreDrawn state → AreDrawn (state_after state history)
drawn_along state [] drawn = drawn
drawn_along state (made ∷ history) drawn = drawn_along (after state made) history (drawn-after state made drawn)

owners_tail : (state : State) (a b : List Record) → AreByOwners state (a ++ b) → AreByOwners (state_after state a) b
owners_tail state [] b owned = owned
owners_tail state (made ∷ a) b owned = owners_tail (after state made) a b owned.1

second_true : (a b : Bool) → b ≡ true → (a || b) ≡ true
second_true true b there = refl
second_true false b there = there

none_true : (a b : Bool) → a ≡ false → b ≡ false → (a || b) ≡ false
none_true true b one two = cc
none_true false b one two = two

connected_before : (n pass : ℕ) (a b : List Record) → has_connect n (of_pass pass (a ++ b)) ≡ true →
    has_connect n (of_pass pass b) ≡ false → has_connect n (of_pass pass a) ≡ true
connected_before n pass a b connected never =
    elim (or_cases (has_connect n (of_pass pass a)) (has_connect n (of_pass pass b))
    (sym (list_any-append (λ made. is_connect made.entry.act && made.session == n) (of_pass pass a) (of_pass pass b))
    ∙ ap (has_connect n) (sym (of_pass-append pass a b)) ∙ connected)) [
      | inl here ↦ here
      | inr later ↦ absurd (not_both _ later never)
    ]

-- ---- the steps of a session along a history

module _ (n pass : ℕ) where
  -- what one act of the pass is to the session, in this state
  abbrev own_steps : State → Act → ℕ → List Step
  own_steps state (act.Connect user host) session = own_step (session == n) (Connects user host) []
  own_steps state (act.Call caller reference call) session =
      own_step (session == n) (Asks (record { reference = reference; call = call })) []
  own_steps state (act.Broken caller) session = own_step (session == n) Breaks []
  own_steps state (act.Drain caller) session = own_step (session == n) (Drains (given_from n state)) []
  own_steps state act.Flush session = Flushes ∷ []
  own_steps state (act.Close caller) session = own_step (session == n) Closes []

  abbrev steps_at : State → Record → List Step
  steps_at state made =
      if made.entry.pass == pass then own_steps state made.entry.act made.session else []

  abbrev along : State → List Record → List Step
  along state [] = []
  along state (made ∷ history) = steps_at state made ++ along (after state made) history

  along-append : (state : State) (a b : List Record) → along state (a ++ b) ≡ along state a
      ++ along (state_after state a) b
  along-append state [] b = refl
  along-append state (made ∷ a) b =
      ap (λ rest. steps_at state made ++ rest) (along-append (after state made) a b)
      ∙ sym (append_assoc (steps_at state made) (along (after state made) a)
      (along (state_after (after state made) a) b))

  own_then : (own : Bool) (step : Step) (steps : List Step) → own_step own step steps ≡ own_step own step [] ++ steps
  own_then true step steps = refl
  own_then false step steps = refl

  own_drains : (own : Bool) (first items : List Item) (records : List Record) (given all : List (List Item)) →
      all ≡ (if own then first ∷ [] else []) ++ given → (own ≡ true → first ≡ items) →
      (elim own [
        | true ↦ Drains (first_given all) ∷ steps_of n records (other_given all)
        | false ↦ steps_of n records all
      ]) ≡ own_step own (Drains items) [] ++ steps_of n records given
  own_drains true first items records given all is same =
      ap (λ (all : List (List Item)). Drains (first_given all) ∷ steps_of n records (other_given all)) is
      ∙ ap (λ (items : List Item). Drains items ∷ steps_of n records given) (same refl)
  own_drains false first items records given all is same =
      ap (λ (all : List (List Item)). steps_of n records all) is

  step_is : (state : State) (by moment : ℕ) (what : Act) (session : ℕ) (short : Bool) (records : List Record)
      (given : List (List Item)) → MayFollow state (record_of by moment what session short) →
      steps_of n (record_of by moment what session short ∷ records)
      (given_by state n (record_of by moment what session short) ++ given)
      ≡ own_steps state what session ++ steps_of n records given
  step_is state by moment (act.Connect user host) session short records given may =
      own_then (session == n) (Connects user host) (steps_of n records given)
  step_is state by moment (act.Call caller reference call) session short records given may =
      own_then (session == n) (Asks (record { reference = reference; call = call })) (steps_of n records given)
  step_is state by moment (act.Broken caller) session short records given may =
      own_then (session == n) Breaks (steps_of n records given)
  step_is state by moment (act.Drain caller) session short records given may =
      subst (λ (k : ℕ). steps_of n (record_of by moment (act.Drain caller) k short ∷ records)
      (given_by state n (record_of by moment (act.Drain caller) k short) ++ given)
      ≡ own_steps state (act.Drain caller) k ++ steps_of n records given) (sym may.session)
      (own_drains (eqb caller n) (given_from caller state) (given_from n state) records given
      (given_by state n (record_of by moment (act.Drain caller) caller short) ++ given) refl
      (λ here. ap (λ (k : ℕ). given_from k state) (eqb-true caller n here)))
  step_is state by moment act.Flush session short records given may = refl
  step_is state by moment (act.Close caller) session short records given may =
      own_then (session == n) Closes (steps_of n records given)

  -- they are the steps among the pass's records
  along_is : (state : State) (history : List Record) → IsLegal state history →
      steps_of n (of_pass pass history) (given_by_pass state pass n history) ≡ along state history
  along_is state [] legal = refl
  along_is state (made ∷ history) legal =
      let rest : steps_of n (of_pass pass history) (given_by_pass (after state made) pass n history)
      ≡ along (after state made) history = along_is (after state made) history legal.1 in
      elim (cases_Bool (eqb made.entry.pass pass)) [
        | inl here ↦ rw here
            (step_is state made.entry.pass made.entry.moment made.entry.act made.session made.short
            (of_pass pass history) (given_by_pass (after state made) pass n history) legal.0
            ∙ ap (λ last. own_steps state made.entry.act made.session ++ last) rest)
        | inr there ↦ rw there rest
      ]

  -- ---- where a step is made

  abbrev IsOne : List Step → Type 0
  IsOne steps = (steps ≡ []) ⊎ ((step : Step) × (steps ≡ step ∷ []))

  own_one : (own : Bool) (step : Step) → IsOne (own_step own step [])
  own_one true step = inr (step, refl)
  own_one false step = inl refl

  one_at_most : (state : State) (what : Act) (session : ℕ) → IsOne (own_steps state what session)
  one_at_most state (act.Connect user host) session = own_one (session == n) (Connects user host)
  one_at_most state (act.Call caller reference call) session =
      own_one (session == n) (Asks (record { reference = reference; call = call }))
  one_at_most state (act.Broken caller) session = own_one (session == n) Breaks
  one_at_most state (act.Drain caller) session = own_one (session == n) (Drains (given_from n state))
  one_at_most state act.Flush session = inr (Flushes, refl)
  one_at_most state (act.Close caller) session = own_one (session == n) Closes

  one_step : (state : State) (made : Record) → IsOne (steps_at state made)
  one_step state made =
      elim (cases_Bool (eqb made.entry.pass pass)) [
        | inl here ↦ rw here (one_at_most state made.entry.act made.session)
        | inr there ↦ rw there (inl refl)
      ]

  -- the record by which a step was made, and what is before and after it
  record Found (state : State) (history : List Record) (before : List Step) (step : Step) (rest : List Step)
      : Type 0 where
    pub earlier : List Record
    pub made : Record
    pub later : List Record
    pub all : history ≡ earlier ++ (made ∷ later)
    pub until : along state earlier ≡ before
    pub here : steps_at (state_after state earlier) made ≡ step ∷ []
    pub from : along (state_after state earlier) (made ∷ later) ≡ step ∷ rest

  find_step : (state : State) (history : List Record) (before : List Step) (step : Step) (rest : List Step) →
      along state history ≡ before ++ (step ∷ rest) → Found state history before step rest
  find_step state [] [] step rest e = let wrong : [] ≡ step ∷ rest = e in cc
  find_step state [] (first ∷ before) step rest e = let wrong : [] ≡ first ∷ (before ++ (step ∷ rest)) = e in cc
  find_step state (made ∷ history) before step rest e = go before e (one_step state made)
      (λ before e. find_step (after state made) history before step rest e)
    where
      next : State
      next = after state made

      go : (before : List Step) → steps_at state made ++ along next history ≡ before ++ (step ∷ rest) →
          IsOne (steps_at state made) → ((before : List Step) → along next history ≡ before ++ (step ∷ rest) →
          Found next history before step rest) → Found state (made ∷ history) before step rest
      go before e (inl none) again =
          let rear : along next history ≡ before ++ (step ∷ rest) =
          sym (ap (λ first. first ++ along next history) none) ∙ e in
          let found : Found next history before step rest = again before rear in
          record {
            earlier = made ∷ found.earlier;
            made = found.made;
            later = found.later;
            all = ap (λ all. made ∷ all) found.all;
            until = ap (λ first. first ++ along next found.earlier) none ∙ found.until;
            here = found.here;
            from = found.from;
          }
      go [] e (inr (one, is)) again =
          let all : one ∷ along next history ≡ step ∷ rest =
          sym (ap (λ first. first ++ along next history) is) ∙ e in
          let same : one ≡ step = cc in
          record {
            earlier = [];
            made = made;
            later = history;
            all = refl;
            until = refl;
            here = is ∙ ap (λ (one : Step). one ∷ []) same;
            from = e;
          }
      go (first ∷ before) e (inr (one, is)) again =
          let all : one ∷ along next history ≡ first ∷ (before ++ (step ∷ rest)) =
          sym (ap (λ first. first ++ along next history) is) ∙ e in
          let same : one ≡ first = cc in
          let rear : along next history ≡ before ++ (step ∷ rest) = cc in
          let found : Found next history before step rest = again before rear in
          record {
            earlier = made ∷ found.earlier;
            made = found.made;
            later = found.later;
            all = ap (λ all. made ∷ all) found.all;
            until = ap (λ first. first ++ along next found.earlier) is ∙ ap (λ (one : Step).
                one ∷ along next found.earlier) same ∙ ap (λ rest. first ∷ rest) found.until;
            here = found.here;
            from = found.from;
          }

  -- ---- a flush, and a drain that gave nothing

  own_flush : (own : Bool) (step : Step) → (step ≡ Flushes → ⊥) → own_step own step [] ≡ Flushes ∷ [] → ⊥
  own_flush true step other e = let same : step ≡ Flushes = cc in other same
  own_flush false step other e = cc

  flush_act : (state : State) (what : Act) (session : ℕ) → own_steps state what session ≡ Flushes ∷ [] →
      what ≡ act.Flush
  flush_act state (act.Connect user host) session e =
      absurd (own_flush (session == n) (Connects user host) (λ e. cc) e)
  flush_act state (act.Call caller reference call) session e =
      absurd (own_flush (session == n) (Asks (record { reference = reference; call = call })) (λ e. cc) e)
  flush_act state (act.Broken caller) session e = absurd (own_flush (session == n) Breaks (λ e. cc) e)
  flush_act state (act.Drain caller) session e =
      absurd (own_flush (session == n) (Drains (given_from n state)) (λ e. cc) e)
  flush_act state act.Flush session e = refl
  flush_act state (act.Close caller) session e = absurd (own_flush (session == n) Closes (λ e. cc) e)

  is_flush : (state : State) (made : Record) → steps_at state made ≡ Flushes ∷ [] → made.entry.act ≡ act.Flush
  is_flush state made e =
      elim (cases_Bool (eqb made.entry.pass pass)) [
        | inl here ↦ flush_act state made.entry.act made.session (rw here at e)
        | inr there ↦ let wrong : [] ≡ Flushes ∷ [] = rw there at e in cc
      ]

  own_drain : (own : Bool) (step : Step) → own_step own step [] ≡ Drains [] ∷ [] → (own ≡ true) × (step ≡ Drains [])
  own_drain true step e = (refl, cc)
  own_drain false step e = cc

  abbrev DrainsNone : State → Act → Type 0
  DrainsNone state what = (what ≡ act.Drain n) × (given_from n state ≡ [])

  drain_act : (state : State) (by moment : ℕ) (what : Act) (session : ℕ) (short : Bool) →
      MayFollow state (record_of by moment what session short) →
      own_steps state what session ≡ Drains [] ∷ [] → DrainsNone state what
  drain_act state by moment (act.Connect user host) session short may e =
      let is : Connects user host ≡ Drains [] = (own_drain (session == n) (Connects user host) e).1 in cc
  drain_act state by moment (act.Call caller reference call) session short may e =
      let asks : Step = Asks (record { reference = reference; call = call }) in
      let is : Asks (record { reference = reference; call = call }) ≡ Drains [] =
      (own_drain (session == n) (Asks (record { reference = reference; call = call })) e).1 in cc
  drain_act state by moment (act.Broken caller) session short may e =
      let is : Breaks ≡ Drains [] = (own_drain (session == n) Breaks e).1 in cc
  drain_act state by moment (act.Drain caller) session short may e =
      let both = own_drain (session == n) (Drains (given_from n state)) e in
      let at : session ≡ n = eqb-true _ _ both.0 in
      let is : Drains (given_from n state) ≡ Drains [] = both.1 in
      (ap (λ k. act.Drain k) (sym may.session ∙ at), cc)
  drain_act state by moment act.Flush session short may e = let is : Flushes ∷ [] ≡ Drains [] ∷ [] = e in cc
  drain_act state by moment (act.Close caller) session short may e =
      let is : Closes ≡ Drains [] = (own_drain (session == n) Closes e).1 in cc

  is_drain : (state : State) (made : Record) → MayFollow state made → steps_at state made ≡ Drains [] ∷ [] →
      DrainsNone state made.entry.act
  is_drain state made may e =
      elim (cases_Bool (eqb made.entry.pass pass)) [
        | inl here ↦ drain_act state made.entry.pass made.entry.moment made.entry.act made.session made.short may
            (rw here at e)
        | inr there ↦ let wrong : [] ≡ Drains [] ∷ [] = rw there at e in cc
      ]

  -- by quiet steps the session neither connects nor calls
  quiet_along : (state : State) (history : List Record) → IsLegal state history →
      list_all is_quiet (along state history) ≡ true →
      (has_call n (of_pass pass history) ≡ false) × (has_connect n (of_pass pass history) ≡ false)
  quiet_along state history legal quiet =
      quiet_calls n (of_pass pass history) (given_by_pass state pass n history)
      (subst (λ (steps : List Step). list_all is_quiet steps ≡ true) (sym (along_is state history legal)) quiet)

-- ---- a flush that the store refused

refuses : (state : State) (by moment : ℕ) (what : Act) (session : ℕ) (short : Bool) → what ≡ act.Flush →
    short ≡ true → (after state (record_of by moment what session short)).store_refused ≡ true
refuses state by moment act.Flush session short is refused = rw refused refl
refuses state by moment (act.Connect user host) session short is refused = cc
refuses state by moment (act.Call caller reference call) session short is refused = cc
refuses state by moment (act.Broken caller) session short is refused = cc
refuses state by moment (act.Drain caller) session short is refused = cc
refuses state by moment (act.Close caller) session short is refused = cc

-- ---- what was given

-- At a drain that is refused as dropped.
pub gave_dropped : (start : State) → IsStart start → (n pass : ℕ) (before rest : List Record) →
    IsLegal start (before ++ rest) → AreByOwners start (before ++ rest) → IsOpen n (of_pass pass before) →
    refusal_of (state_after start before) (act.Drain n) ≡ Some (Gone why.Dropped) →
    GaveAll start n (before ++ rest)
gave_dropped start begins n pass before rest legal owned is_open refused =
    let legal' : IsLegal start before = legal_prefix start before rest legal in
    let rear : IsLegal (state_after start before) rest = legal_tail start before rest legal in
    let state : State = state_after start before in
    let drawn : AreDrawn state = drawn_along start before begins.drawn in
    let kept : IsKept n pass state =
    inl (open_has start begins.drawn n pass before legal' (owners_prefix start before rest owned) is_open) in
    let all : all_given start n before ≡ out_of start n before =
    gives_all_to_dropped start n before begins.sound legal' refused in (
      before,
      rest,
      refl,
      kept_once n pass state rest drawn rear kept,
      done_calls n state rest drawn rear
          (inl (dropped_ended state.store_refused (session_of n state) refused)),
      subst (λ (items : List Item). IsPrefix items (all_given start n (before ++ rest))) all
          (all_given_more start n before rest),
    )

-- Where a flush and then a drain that gave nothing come after the last call of the session, among the records of
-- the pass that were added to those of a history.
pub gave_drained : (start : State) → IsStart start → (n pass : ℕ) (history more : List Record) →
    IsLegal start (history ++ more) → AreByOwners start (history ++ more) →
    has_connect n (of_pass pass more) ≡ true →
    IsDrained (steps_of n (of_pass pass more) (given_by_pass start pass n (history ++ more))) →
    GaveAll start n (history ++ more) ⊎ WasStopped start (history ++ more)
gave_drained start begins n pass history more legal owned connected (b, between, r, steps, quiet, quiet', last) =
    let s : State = state_after start history in
    let rear : IsLegal s more = legal_tail start history more legal in
    let fresh : given_by_pass start pass n history ≡ [] =
    given_before n pass start history begins.drawn (legal_prefix start history more legal)
    (connect_above n s more rear (connect_of n pass more connected)) in
    let given : given_by_pass start pass n (history ++ more) ≡ given_by_pass s pass n more =
    given-append start pass n history more ∙ ap (λ first. first ++ given_by_pass s pass n more) fresh in
    let all_steps : along n pass s more ≡ (b ++ (Flushes ∷ between)) ++ (Drains [] ∷ r) =
    sym (along_is n pass s more rear)
    ∙ ap (λ (given : List (List Item)). steps_of n (of_pass pass more) given) (sym given) ∙ steps in
    let drain : Found n pass s more (b ++ (Flushes ∷ between)) (Drains []) r =
    find_step n pass s more (b ++ (Flushes ∷ between)) (Drains []) r all_steps in
    let flush : Found n pass s drain.earlier b Flushes between =
    find_step n pass s drain.earlier b Flushes between drain.until in
    let before : List Record = history ++ flush.earlier in
    let middle : List Record = flush.made ∷ flush.later in
    let rest : List Record = drain.made ∷ drain.later in
    let joined : history ++ drain.earlier ≡ before ++ middle =
    ap (λ last. history ++ last) flush.all ∙ sym (append_assoc history flush.earlier middle) in
    let whole : history ++ more ≡ (before ++ middle) ++ rest =
    ap (λ last. history ++ last) drain.all ∙ sym (append_assoc history drain.earlier rest)
    ∙ ap (λ first. first ++ rest) joined in
    let whole' : history ++ more ≡ before ++ (middle ++ rest) = whole ∙ append_assoc before middle rest in
    let legal' : IsLegal start ((before ++ middle) ++ rest) =
    subst (λ (all : List Record). IsLegal start all) whole legal in
    let legal'' : IsLegal start (before ++ (middle ++ rest)) =
    subst (λ (all : List Record). IsLegal start all) whole' legal in
    let owned'' : AreByOwners start (before ++ (middle ++ rest)) =
    subst (λ (all : List Record). AreByOwners start all) whole' owned in
    let at : State = state_after start before in
    let at_is : at ≡ state_after s flush.earlier = state_after-append start history flush.earlier in
    let then_is : state_after start (before ++ middle) ≡ state_after s drain.earlier =
    ap (state_after start) (sym joined) ∙ state_after-append start history drain.earlier in
    let flushes : flush.made.entry.act ≡ act.Flush =
    is_flush n pass (state_after s flush.earlier) flush.made flush.here in
    elim (cases_Bool flush.made.short) [
      | inl short ↦
          let refused : (state_after start (before ++ (flush.made ∷ []))).store_refused ≡ true =
          ap (λ (state : State). state.store_refused) (state_after-append start before (flush.made ∷ []))
          ∙ refuses at flush.made.entry.pass flush.made.entry.moment flush.made.entry.act flush.made.session
          flush.made.short flushes short in
          inr (
            before ++ (flush.made ∷ []),
            flush.later ++ rest,
            whole' ∙ sym (append_assoc before (flush.made ∷ []) (flush.later ++ rest)),
            inr refused,
          )
      | inr took ↦
          let first : IsLegal start (before ++ middle) = legal_prefix start (before ++ middle) rest legal' in
          let may : MayFollow (state_after start (before ++ middle)) drain.made =
          (legal_tail start (before ++ middle) rest legal').0 in
          let drained : DrainsNone n pass (state_after start (before ++ middle)) drain.made.entry.act =
          is_drain n pass (state_after start (before ++ middle)) drain.made may
          (subst (λ (state : State). steps_at n pass state drain.made ≡ Drains [] ∷ []) (sym then_is) drain.here) in
          let gave : IsPrefix (out_of start n before) (all_given start n (before ++ middle)) =
          gives_all_before start n before flush.later flush.made drain.made begins.sound first flushes took
          (drained.0, may, drained.1) in
          let after_is : along n pass at (middle ++ rest) ≡ (Flushes ∷ between) ++ (Drains [] ∷ r) =
          along-append n pass at middle rest
          ∙ ap (λ (state : State). along n pass at middle ++ along n pass state rest)
          (sym (state_after-append start before middle) ∙ then_is)
          ∙ ap (λ last. along n pass at middle ++ last) drain.from
          ∙ ap (λ (state : State). along n pass state middle ++ (Drains [] ∷ r)) at_is
          ∙ ap (λ first. first ++ (Drains [] ∷ r)) flush.from in
          let rear' : IsLegal at (middle ++ rest) = legal_tail start before (middle ++ rest) legal'' in
          let calls : (has_call n (of_pass pass (middle ++ rest)) ≡ false)
          × (has_connect n (of_pass pass (middle ++ rest)) ≡ false) =
          quiet_along n pass at (middle ++ rest) rear'
          (ap (λ (steps : List Step). list_all is_quiet steps) after_is
          ∙ list_all-append is_quiet (Flushes ∷ between) (Drains [] ∷ r) ∙ both_true _ _ quiet quiet') in
          let connected' : has_connect n (of_pass pass before) ≡ true =
          connected_before n pass before (middle ++ rest)
          (subst (λ (all : List Record). has_connect n (of_pass pass all) ≡ true) whole'
          (ap (has_connect n) (of_pass-append pass history more)
          ∙ list_any-append (λ made. is_connect made.entry.act && made.session == n) (of_pass pass history)
          (of_pass pass more) ∙ second_true _ _ connected)) calls.1 in
          let drawn : AreDrawn at = drawn_along start before begins.drawn in
          let kept : IsKept n pass at =
          kept_from n pass start before begins.drawn (legal_prefix start before (middle ++ rest) legal'')
          (owners_prefix start before (middle ++ rest) owned'') connected' in
          let mine : GaveAll start n (before ++ (middle ++ rest)) = (
            before,
            middle ++ rest,
            refl,
            kept_once n pass at (middle ++ rest) drawn rear' kept,
            calls_own n pass at (middle ++ rest) drawn rear'
                (owners_tail start before (middle ++ rest) owned'') kept calls.0,
            prefix_then _ _ _ gave
                (subst (λ (all : List Record). IsPrefix (all_given start n (before ++ middle)) (all_given start n all))
                (append_assoc before middle rest) (all_given_more start n (before ++ middle) rest)),
          ) in
          inl (subst (λ (all : List Record). GaveAll start n all) (sym whole') mine)
    ]
  where
    both_true : (a b : Bool) → a ≡ true → b ≡ true → (a && b) ≡ true
    both_true true b one two = two
    both_true false b one two = cc

-- A history that goes on by records of others changes nothing of it.
pub gave_on : (start : State) → IsStart start → (n pass : ℕ) (history more : List Record) →
    IsLegal start (history ++ more) → AreByOwners start (history ++ more) →
    has_connect n (of_pass pass history) ≡ true → AllByRecursion (IsApart n) (of_pass pass more) →
    GaveAll start n history → GaveAll start n (history ++ more)
gave_on start begins n pass history more legal owned connected apart (before, rest, is, once, none, gave) =
    let state : State = state_after start history in
    let drawn : AreDrawn state = drawn_along start history begins.drawn in
    let rear : IsLegal state more = legal_tail start history more legal in
    let kept : IsKept n pass state =
    kept_from n pass start history begins.drawn (legal_prefix start history more legal)
    (owners_prefix start history more owned) connected in (
      before,
      rest ++ more,
      ap (λ (first : List Record). first ++ more) is ∙ append_assoc before rest more,
      list_any-append (λ made. is_connect made.entry.act && made.session == n) rest more
          ∙ none_true _ _ once (kept_once n pass state more drawn rear kept),
      list_any-append (λ made. is_call made.entry.act && made.session == n) rest more
          ∙ none_true _ _ none (calls_own n pass state more drawn rear (owners_tail start history more owned) kept
          (apart_calls n (of_pass pass more) apart)),
      prefix_then _ _ _ gave (all_given_more start n history more),
    )
