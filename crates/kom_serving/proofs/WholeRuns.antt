-- A whole run: one pass served one gate, and the hall was closed.
use Rattle.std.proofs.Common.{◌≡◌, ℕ, zero, suc, ◌+◌, ◌<◌, ◌≤◌, inl, inr, nat_eq, true, false, eqb, List, [], ◌∷◌, ◌++◌}
use Rattle.std.proofs.Common.{length, map, All, Option, Some, None, refl, sym, ap, subst, ◌∙◌, arith, append-nil}
use Rattle.std.specs.Prelude.{slice_index_or}
use Rattle.std.specs.Option.{IfSome, option_to_list}
use Rattle.std.specs.List.{slice_get, AllByRecursion, IsDistinct}
use Rattle.std.proofs.lemmas.Bool.{cases_Bool, cases_eq, eq-eqb}
use Rattle.std.proofs.lemmas.List.{append_cancel_left, map-append, length_push}
use Rattle.kom_types.specs.declared.acts.Record.{Record}
use Rattle.kom_links.specs.declared.served.Served.{Served}
use Rattle.kom_links.specs.Doors.{GateView, Gains}
use Rattle.kom_links.specs.Outside.{LinkView, IsNothing}
use Rattle.kom_links.specs.Talk.{IsChosen}
use Rattle.kom_model.specs.State.{State}
use Rattle.kom_model.specs.Legal.{IsLegal, AreByOwners}
use Rattle.kom_model.proofs.Prefixes.{gives_prefixes}
use Rattle.kom_state_lock.specs.Views.{entries_of}
use Rattle.kom_state_lock.specs.Passes.{HallModel, PassModel, new_pass, AreNewPasses, IsPassOf, HoldsNoTurn, IsReady}
use Rattle.kom_state_lock.specs.Passes.{AreReady, IsClosed}
use Rattle.hall_desk.specs.Acts.{IsLed, IsOpening}
use Rattle.hall_desk.specs.Passes.{PassView, pass_view, of_pass}
use Rattle.hall_desk.specs.Desks.{Kept, GoesOn}
use Rattle.hall_desk.proofs.Starting.{IsStart, starts}
use Rattle.hall_desk.proofs.Histories.{of_pass-append}
use Rattle.kom_serving.specs.Runs.{Talks, sessions_of, IsOfOne, AllGivenBack, IsFirstReading, IsRun, told_sessions}
use Rattle.kom_serving.specs.Serving.{Serves}
use Rattle.kom_serving.proofs.Links.{all_map, talks_on}

told_map : {X : Type 0} (P Q : X → Type 0) (told : Option X) → ((x : X) → P x → Q x) → IfSome told P → IfSome told Q
told_map P Q None turn before = tt
told_map P Q (Some x) turn before = turn x before

-- no record of a longer history, none of a shorter one
pub none_later : (number : ℕ) (made : Record) (history : List Record) → of_pass number (made ∷ history) ≡ [] →
    of_pass number history ≡ []
none_later number made history none =
    elim (cases_Bool (eqb made.entry.pass number)) [
      | inl here ↦ let wrong : made ∷ of_pass number history ≡ [] = rw here at none in cc
      | inr there ↦ rw there at none
    ]

-- where no other pass has a record, each is of pass 0
pub all_zero : (history : List Record) → ((number : ℕ) → 1 ≤ number → of_pass number history ≡ []) →
    AllByRecursion (λ made. made.entry.pass < 1) history
all_zero [] others = tt
all_zero (made ∷ history) others = (
  elim (cases_eq made.entry.pass 0) [
    | inl here ↦ omega (arith, here)
    | inr some ↦
        let here : eqb made.entry.pass made.entry.pass ≡ true = eq-eqb _ _ refl in
        let none : of_pass made.entry.pass (made ∷ history) ≡ [] = others made.entry.pass (omega arith) in
        let wrong : made ∷ of_pass made.entry.pass history ≡ [] = rw here at none in
        cc
  ],
  all_zero history (λ number some. none_later number made history (others number some)),
)

told_apart : {L : Type 0} (gate : GateView L) (returned : Option (List (L × Served))) → gate.returned ≡ returned →
    IfSome returned (λ links. IsDistinct nat_eq (sessions_of links)) → IsDistinct nat_eq (told_sessions gate)
unfolding IsDistinct
told_apart gate None is distinct = rw is tt
told_apart gate (Some links) is distinct = rw is distinct

-- What one pass served, in a history that went on without it.
pub run_of_one : {L : Type 0} (view : L → LinkView) (start : State) → IsStart start → (history : List Record)
    (drawn : ℕ) (pass : PassView) (more : List Record) (gate : GateView L) (gave : Option (List ℕ)) →
    IsLegal start history → AreByOwners start history →
    ((number : ℕ) → 1 ≤ number → of_pass number history ≡ []) → history ≡ pass.seen ++ more → pass.number ≡ 0 →
    pass.mine ≡ of_pass 0 history → pass.drawn ≤ drawn → Serves view start pass gate.returned gave →
    AllGivenBack gate → IsRun view start history drawn (gate ∷ []) (gave ∷ [])
run_of_one {L} view start begins history drawn pass more gate gave legal owned others goes_on numbered mine grown serves
    back =
    let mine' : pass.mine ≡ of_pass 0 pass.seen = serves.mine ∙ ap (λ (n : ℕ). of_pass n pass.seen) numbered in
    let none : [] ≡ of_pass 0 more =
    append_cancel_left (of_pass 0 pass.seen) [] (of_pass 0 more)
    (append-nil (of_pass 0 pass.seen) ∙ sym mine' ∙ mine ∙ ap (of_pass 0) goes_on
    ∙ of_pass-append 0 pass.seen more) in
    let lift : (back : L × Served) → Talks start pass.seen pass.mine pass.drawn (view back.0) back.1 →
    Talks start history (of_pass 0 history) drawn (view back.0) back.1 = λ back talks.
    subst (λ (all : List Record). Talks start all (of_pass 0 history) drawn (view back.0) back.1) (sym goes_on)
    (subst (λ (own : List Record). Talks start (pass.seen ++ more) own drawn (view back.0) back.1)
    (append-nil pass.mine ∙ mine)
    (talks_on start begins 0 pass.seen more pass.mine [] pass.drawn drawn (view back.0) back.1
    (subst (λ (all : List Record). IsLegal start all) goes_on legal)
    (subst (λ (all : List Record). AreByOwners start all) goes_on owned) mine' none grown tt talks)) in
    record {
      sound = begins.sound;
      legal = legal;
      by_owners = owned;
      in_order = λ session. gives_prefixes start session history begins.sound legal;
      numbered = all_zero history others;
      workers = (
        record {
          given_back = back;
          talks = told_map
              (λ links. AllByRecursion (λ back. Talks start pass.seen pass.mine pass.drawn (view back.0) back.1) links)
              (λ links. AllByRecursion (λ back. Talks start history (of_pass 0 history) drawn (view back.0) back.1)
              links) gate.returned
              (λ links talks. all_map (λ back. Talks start pass.seen pass.mine pass.drawn (view back.0) back.1)
              (λ back. Talks start history (of_pass 0 history) drawn (view back.0) back.1) links lift talks)
              serves.talks;
          owned = subst
              (λ (mine : List Record). IfSome gate.returned (λ links.
              AllByRecursion (IsOfOne (sessions_of links)) mine)) mine serves.owned;
          timed = subst
              (λ (mine : List Record). IfSome gave (λ readings.
              IsChosen (map (λ (made : Record). made.entry.moment) mine) readings)) mine serves.timed;
        },
        tt,
      );
      distinct = subst (λ (sessions : List ℕ). IsDistinct nat_eq sessions) (sym (append-nil (told_sessions gate)))
          (told_apart gate gate.returned refl serves.distinct);
    }

-- the same run, from a state that is this one
pub run_from : {L : Type 0} (view : L → LinkView) (start other : State) (history : List Record) (drawn : ℕ)
    (gates : List (GateView L)) (clocks : List (Option (List ℕ))) → start ≡ other →
    IsRun view start history drawn gates clocks → IsRun view other history drawn gates clocks
run_from view start other history drawn gates clocks same run =
    subst (λ (start : State). IsRun view start history drawn gates clocks) same run

-- the first reading of a clock that had given none
pub first_now : (before after : Option (List ℕ)) (moment : ℕ) → IsNothing before → Gains before moment after →
    IsFirstReading moment (after ∷ [])
first_now before None moment nothing gains = tt
first_now before (Some after) moment nothing gains =
    let none : gains.0 ≡ [] = subst (λ (told : Option (List ℕ)). IsNothing told) gains.1 nothing in
    let sole : after ≡ moment ∷ [] = gains.2 ∙ ap (λ (earlier : List ℕ). earlier ++ moment ∷ []) none in
    subst (λ (readings : List ℕ). IsFirstReading moment (Some readings ∷ [])) (sym sole) refl

-- a list to which its one element was pushed
pub sole : {X : Type 0} (items before : List X) (one : X) → items ≡ before ++ one ∷ [] → before ≡ [] →
    items ≡ one ∷ []
sole items before one pushed none = pushed ∙ ap (λ before. before ++ one ∷ []) none

-- ---- from the lock

module _ {B E : Type 0} where
  -- the two passes of a new hall, taken from the end of their row
  pub dealt : (hall : HallModel B) (all once twice : List (PassModel B E)) (popped popped' : Option (PassModel B E))
      (own first : PassModel B E) → AreNewPasses hall.table 2 all → all ≡ once ++ option_to_list popped →
      popped ≡ Some own → once ≡ twice ++ option_to_list popped' → popped' ≡ Some first →
      (twice ≡ []) × (first ≡ new_pass hall.table 0) × (own ≡ new_pass hall.table 1)
  dealt hall all once [] popped popped' own first new one some two some' =
      let left : once ≡ first ∷ [] = two ∙ ap (λ (popped : Option (PassModel B E)). option_to_list popped) some' in
      let is : all ≡ first ∷ own ∷ [] =
      one ∙ ap (λ (popped : Option (PassModel B E)). once ++ option_to_list popped) some
      ∙ ap (λ (l : List (PassModel B E)). l ++ own ∷ []) left in
      let at_first : Some first ≡ Some (new_pass hall.table 0) =
      subst (λ (l : List (PassModel B E)). slice_get l 0 ≡ Some (new_pass hall.table 0)) is (new.1 0 (omega arith)) in
      let at_own : Some own ≡ Some (new_pass hall.table 1) =
      subst (λ (l : List (PassModel B E)). slice_get l 1 ≡ Some (new_pass hall.table 1)) is (new.1 1 (omega arith)) in
      (refl, cc, cc)
  dealt hall all once (x ∷ twice) popped popped' own first new one some two some' =
      let left : once ≡ (x ∷ twice) ++ first ∷ [] =
      two ∙ ap (λ (popped : Option (PassModel B E)). (x ∷ twice) ++ option_to_list popped) some' in
      let is : all ≡ ((x ∷ twice) ++ first ∷ []) ++ own ∷ [] =
      one ∙ ap (λ (popped : Option (PassModel B E)). once ++ option_to_list popped) some
      ∙ ap (λ (l : List (PassModel B E)). l ++ own ∷ []) left in
      let two_long : length all ≡ 2 = new.0 in
      let e : length all ≡ suc (length ((twice ++ first ∷ []) ++ own ∷ [])) = ap length is in
      let a : length ((twice ++ first ∷ []) ++ own ∷ []) ≡ length (twice ++ first ∷ []) + 1 =
      length_push (twice ++ first ∷ []) own in
      let b : length (twice ++ first ∷ []) ≡ length twice + 1 = length_push twice first in
      absurd (omega arith)

  two_ready : (hall : HallModel B) (first own : PassModel B E) → hall.passes ≡ 2 → IsPassOf hall first →
      IsPassOf hall own → first.number ≡ 0 → own.number ≡ 1 → HoldsNoTurn first.turn → HoldsNoTurn own.turn →
      AreReady hall (first ∷ own ∷ [])
  two_ready hall first own two table table' none one free free' = record { long = sym two; each = each }
    where
      each : (k : ℕ) (d : PassModel B E) → k < 2 → IsReady hall k (slice_index_or (first ∷ own ∷ []) k d)
      each zero d low = record { table = table; number = none; free = free }
      each (suc zero) d low = record { table = table'; number = one; free = free' }
      each (suc (suc k)) d low = absurd (omega arith)

  -- what the desk leaves of the first pass, and the other one, are all that the hall has
  pub both_ready : (made : E → Record) (hall : HallModel B) (rest items items' : List (PassModel B E))
      (first left own : PassModel B E) (desk desk' : Kept) → hall.passes ≡ 2 → rest ≡ [] →
      first ≡ new_pass hall.table 0 → own ≡ new_pass hall.table 1 → desk.table ≡ hall.table →
      desk.pass ≡ pass_view made first → GoesOn desk desk' → pass_view made left ≡ desk'.pass →
      left.table ≡ desk'.table → HoldsNoTurn left.turn → items ≡ rest ++ left ∷ [] → items' ≡ items ++ own ∷ [] →
      (items' ≡ left ∷ own ∷ []) × AreReady hall items'
  both_ready made hall rest items items' first left own desk desk' two none is is' table pass on view table' free
      pushed pushed' =
      let all : items' ≡ left ∷ own ∷ [] =
      pushed' ∙ ap (λ (l : List (PassModel B E)). l ++ own ∷ [])
      (pushed ∙ ap (λ (l : List (PassModel B E)). l ++ left ∷ []) none) in
      let number : left.number ≡ 0 =
      ap (λ (pass : PassView). pass.number) view ∙ on.number ∙ ap (λ (pass : PassView). pass.number) pass
      ∙ ap (λ (pass : PassModel B E). pass.number) is in
      let own_free : HoldsNoTurn own.turn = subst (λ (pass : PassModel B E). HoldsNoTurn pass.turn) (sym is') tt in (
        all,
        subst (AreReady hall) (sym all)
            (two_ready hall left own two (table' ∙ on.table ∙ table) (ap (λ (pass : PassModel B E). pass.table) is')
            number (ap (λ (pass : PassModel B E). pass.number) is') free own_free),
      )

module _ {B E : Type 0} (made : E → Record) (server : B → State) (pass_of : E → ℕ) (led : B → List E → B → Type 0)
    (names : (entry : E) → pass_of entry ≡ (made entry).entry.pass)
    (leads : (opening : B) (history : List E) (value : B) → led opening history value
    → IsLed made server opening history value) where
  pub entries_made : (number : ℕ) (history : List E) →
      map made (entries_of pass_of number history) ≡ of_pass number (map made history)
  entries_made number [] = refl
  entries_made number (entry ∷ history) =
      let rest : map made (entries_of pass_of number history) ≡ of_pass number (map made history) =
      entries_made number history in
      elim (cases_Bool (eqb (pass_of entry) number)) [
        | inl here ↦
            let here' : eqb (made entry).entry.pass number ≡ true = ap (λ k. eqb k number) (sym (names entry)) ∙ here in
            rw (here, here') (ap (λ (last : List Record). made entry ∷ last) rest)
        | inr there ↦
            let there' : eqb (made entry).entry.pass number ≡ false =
            ap (λ k. eqb k number) (sym (names entry)) ∙ there in
            rw (there, there') rest
      ]

  -- the run of a pass that is in a hall beside one that made no act
  closed_run : {L : Type 0} (view : L → LinkView) (opening value : B) (last first own : PassModel B E)
      (pass : PassView) (gate : GateView L) (gave : Option (List ℕ)) → IsStart (server opening) →
      led opening last.seen value → IsClosed pass_of last first → IsClosed pass_of last own →
      ((number : ℕ) → 2 ≤ number → entries_of pass_of number last.seen ≡ []) → own.number ≡ 1 → own.mine ≡ [] →
      pass_view made first ≡ pass → pass.number ≡ 0 → Serves view (server opening) pass gate.returned gave →
      AllGivenBack gate → IsRun view (server opening) (map made last.seen) last.drawn (gate ∷ []) (gave ∷ [])
  closed_run view opening value last first own pass gate gave begins led' closed closed' strangers one unused is
      numbered
      serves back =
      let start : State = server opening in
      let history : List Record = map made last.seen in
      let lead = leads opening last.seen value led' in
      let serves' : Serves view start (pass_view made first) gate.returned gave =
      subst (λ (pass : PassView). Serves view start pass gate.returned gave) (sym is) serves in
      let numbered' : first.number ≡ 0 = ap (λ (pass : PassView). pass.number) is ∙ numbered in
      let none_own : entries_of pass_of 1 last.seen ≡ [] =
      ap (λ (n : ℕ). entries_of pass_of n last.seen) (sym one) ∙ sym closed'.mine ∙ unused in
      let mine : map made first.mine ≡ of_pass 0 history =
      ap (map made) closed.mine ∙ ap (λ (n : ℕ). map made (entries_of pass_of n last.seen)) numbered'
      ∙ entries_made 0 last.seen in
      let goes_on : history ≡ map made first.seen ++ map made closed.seen.0 =
      sym (ap (map made) closed.seen.1) ∙ map-append made first.seen closed.seen.0 in
      run_of_one view start begins history last.drawn (pass_view made first) (map made closed.seen.0) gate gave
      lead.legal lead.owned (others none_own) goes_on numbered' mine closed.drawn serves' back
    where
      others : entries_of pass_of 1 last.seen ≡ [] → (number : ℕ) → 1 ≤ number →
          of_pass number (map made last.seen) ≡ []
      others none number some =
          elim (cases_eq number 1) [
            | inl is ↦ sym (entries_made number last.seen)
                ∙ ap (map made) (ap (λ (n : ℕ). entries_of pass_of n last.seen) is ∙ none)
            | inr other ↦ sym (entries_made number last.seen) ∙ ap (map made) (strangers number (omega arith))
          ]

  -- the same by what the calls say
  pub run_closed : {L : Type 0} (view : L → LinkView) (hall : HallModel B) (items : List (PassModel B E)) (value : B)
      (last first left own : PassModel B E) (desk desk' : Kept) (gate : GateView L) (gave : Option (List ℕ)) →
      hall.passes ≡ 2 → IsOpening (server hall.opening) → led hall.opening last.seen value →
      All (IsClosed pass_of last) items → items ≡ left ∷ own ∷ [] →
      ((number : ℕ) → hall.passes ≤ number → entries_of pass_of number last.seen ≡ []) →
      first ≡ new_pass hall.table 0 → own ≡ new_pass hall.table 1 → desk.start ≡ server hall.opening →
      desk.pass ≡ pass_view made first → GoesOn desk desk' → pass_view made left ≡ desk'.pass →
      Serves view desk'.start desk'.pass gate.returned gave → AllGivenBack gate →
      IsRun view (server hall.opening) (map made last.seen) last.drawn (gate ∷ []) (gave ∷ [])
  run_closed view hall items value last first left own desk desk' gate gave two opening led' closed all strangers is
      is' start pass on left_is serves back =
      let both : All (IsClosed pass_of last) (left ∷ own ∷ []) = subst (All (IsClosed pass_of last)) all closed in
      let serves' : Serves view (server hall.opening) desk'.pass gate.returned gave =
      subst (λ (start : State). Serves view start desk'.pass gate.returned gave) (on.start ∙ start) serves in
      closed_run view hall.opening value last left own desk'.pass gate gave (starts (server hall.opening) opening) led'
      (both 0 left (omega arith)) (both 1 own (omega arith))
      (λ number some. strangers number (omega (arith, two, some)))
      (ap (λ (pass : PassModel B E). pass.number) is') (ap (λ (pass : PassModel B E). pass.mine) is') left_is
      (on.number ∙ ap (λ (pass : PassView). pass.number) pass ∙ ap (λ (pass : PassModel B E). pass.number) is) serves'
      back
