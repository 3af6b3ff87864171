-- A whole sweep: one pass made the acts of a desk, and the hall was closed.
use Rattle.std.proofs.Common.{◌≡◌, ℕ, ◌<◌, ◌≤◌, inl, inr, Bool, true, eqb, List, [], ◌∷◌, ◌++◌, map, All}
use Rattle.std.proofs.Common.{Option, refl, sym, ap, subst, ◌∙◌, arith, append-nil}
use Rattle.std.specs.List.{AllByRecursion}
use Rattle.std.proofs.lemmas.Bool.{cases_eq, eq-eqb}
use Rattle.std.proofs.lemmas.List.{append_cancel_left, map-append}
use Rattle.kom_types.specs.declared.acts.Record.{Record}
use Rattle.kom_links.specs.declared.world_counts.WorldCounts.{WorldCounts}
use Rattle.kom_links.specs.WorldCounts.{with_disk}
use Rattle.kom_links.specs.Answers.{Answer}
use Rattle.kom_links.specs.DeskCalls.{DeskView}
use Rattle.kom_links.specs.Outside.{IsNothing}
use Rattle.kom_model.specs.State.{State}
use Rattle.kom_model.specs.Out.{given_by_pass}
use Rattle.kom_model.proofs.Prefixes.{gives_prefixes}
use Rattle.kom_state_lock.specs.Views.{entries_of}
use Rattle.kom_state_lock.specs.Passes.{HallModel, PassModel, new_pass, IsClosed}
use Rattle.kom_sweep.specs.declared.ends.SweepEnd.{SweepEnd}
use Rattle.kom_sweep.specs.Acting.{sight}
use Rattle.kom_sweep.specs.Sweeps.{IsSweep}
use Rattle.hall_desk.specs.Acts.{IsLed, IsOpening}
use Rattle.hall_desk.specs.Passes.{PassView, pass_view, of_pass}
use Rattle.hall_desk.specs.Desks.{Kept, GoesOn, Stands, desk_view}
use Rattle.hall_desk.proofs.Starting.{starts}
use Rattle.hall_desk.proofs.Histories.{of_pass-append}
use Rattle.kom_server.specs.Statuses.{AsksClock}
use Rattle.kom_server.specs.Sweeps.{new_desk, IsOnlyDesk, IsSweepRun}
use Rattle.kom_server.proofs.Hiding.{opened_hides}
use Rattle.kom_serving.proofs.WholeRuns.{all_zero, entries_made}

-- where each record is of pass 0, its records are all
all_own : (history : List Record) → AllByRecursion (λ made. made.entry.pass < 1) history → of_pass 0 history ≡ history
all_own [] low = refl
all_own (made ∷ history) low =
    elim (cases_eq made.entry.pass 0) [
      | inl is ↦
          let here : eqb made.entry.pass 0 ≡ true = eq-eqb made.entry.pass 0 is in
          rw here (ap (λ (rest : List Record). made ∷ rest) (all_own history low.1))
      | inr other ↦ absurd (omega (arith, low.0))
    ]

-- what holds of all holds of the later ones
all_later : (P : Record → Type 0) (before later : List Record) → AllByRecursion P (before ++ later) →
    AllByRecursion P later
all_later P [] later all = all
all_later P (made ∷ before) later all = all_later P before later all.1

-- the one pass that has records has seen them all
sees_all : (history seen later : List Record) → history ≡ seen ++ later → of_pass 0 seen ≡ of_pass 0 history →
    AllByRecursion (λ made. made.entry.pass < 1) history → seen ≡ history
sees_all history seen later goes_on same low =
    let none : [] ≡ of_pass 0 later =
    append_cancel_left (of_pass 0 seen) [] (of_pass 0 later)
    (append-nil (of_pass 0 seen) ∙ same ∙ ap (of_pass 0) goes_on ∙ of_pass-append 0 seen later) in
    let all : of_pass 0 later ≡ later =
    all_own later (all_later (λ made. made.entry.pass < 1) seen later
    (subst (AllByRecursion (λ made. made.entry.pass < 1)) goes_on low)) in
    sym (append-nil seen) ∙ ap (λ (rest : List Record). seen ++ rest) (none ∙ all) ∙ sym goes_on

-- what a desk of a new pass is for contracts
abbrev view_of : State → PassView → List Answer → DeskView
view_of start pass answers = record {
  pass = pass.number;
  mine = pass.mine;
  gave_to = λ session. given_by_pass start pass.number session pass.seen;
  answers = answers;
  lock_full = pass.waits;
}

module _ {B E : Type 0} (made : E → Record) where
  pub view_new : (hall : HallModel B) (first : PassModel B E) (desk : Kept) → first ≡ new_pass hall.table 0 →
      desk.pass ≡ pass_view made first → desk.answers ≡ [] → desk_view desk ≡ new_desk
  view_new hall first desk is pass none =
      let fresh : PassModel B E = new_pass hall.table 0 in
      let new : desk.pass ≡ pass_view made fresh = pass ∙ ap (λ (pass : PassModel B E). pass_view made pass) is in
      ap (λ (pass : PassView). view_of desk.start pass desk.answers) new
      ∙ ap (λ (answers : List Answer). view_of desk.start (pass_view made fresh) answers) none

module _ {B E : Type 0} (made : E → Record) (server : B → State) (pass_of : E → ℕ) (led : B → List E → B → Type 0)
    (names : (entry : E) → pass_of entry ≡ (made entry).entry.pass)
    (leads : (opening : B) (history : List E) (value : B) → led opening history value
    → IsLed made server opening history value) where
  -- no other pass has a record
  none_other : (last own : PassModel B E) (passes : ℕ) → passes ≡ 2 → IsClosed pass_of last own → own.number ≡ 1 →
      own.mine ≡ [] → ((number : ℕ) → passes ≤ number → entries_of pass_of number last.seen ≡ []) → (number : ℕ) →
      1 ≤ number → of_pass number (map made last.seen) ≡ []
  none_other last own passes two closed one unused strangers number some =
      let none : entries_of pass_of 1 last.seen ≡ [] =
      ap (λ (n : ℕ). entries_of pass_of n last.seen) (sym one) ∙ sym closed.mine ∙ unused in
      elim (cases_eq number 1) [
        | inl is ↦ sym (entries_made made server pass_of led names leads number last.seen)
            ∙ ap (map made) (ap (λ (n : ℕ). entries_of pass_of n last.seen) is ∙ none)
        | inr other ↦ sym (entries_made made server pass_of led names leads number last.seen)
            ∙ ap (map made) (strangers number (omega (arith, two)))
      ]

  -- what the desk of the first pass knows, once the hall is closed
  only_desk : (start : State) (last left own : PassModel B E) (passes : ℕ) (desk : Kept) → passes ≡ 2 →
      IsClosed pass_of last left → IsClosed pass_of last own → own.number ≡ 1 → own.mine ≡ [] →
      ((number : ℕ) → passes ≤ number → entries_of pass_of number last.seen ≡ []) → pass_view made left ≡ desk.pass →
      desk.pass.number ≡ 0 → desk.start ≡ start → Stands desk →
      IsOnlyDesk start (map made last.seen) last.drawn desk
  only_desk start last left own passes desk two closed closed' one unused strangers is numbered from stands =
      let history : List Record = map made last.seen in
      let low : AllByRecursion (λ made. made.entry.pass < 1) history =
      all_zero history (none_other last own passes two closed' one unused strangers) in
      let seen_is : map made left.seen ≡ desk.pass.seen = ap (λ (pass : PassView). pass.seen) is in
      let mine_is : map made left.mine ≡ desk.pass.mine = ap (λ (pass : PassView). pass.mine) is in
      let numbered' : left.number ≡ 0 = ap (λ (pass : PassView). pass.number) is ∙ numbered in
      let mine : map made left.mine ≡ of_pass 0 history =
      ap (map made) closed.mine ∙ ap (λ (n : ℕ). map made (entries_of pass_of n last.seen)) numbered'
      ∙ entries_made made server pass_of led names leads 0 last.seen in
      let own_seen : desk.pass.mine ≡ of_pass 0 desk.pass.seen =
      stands.knows.mine ∙ ap (λ (n : ℕ). of_pass n desk.pass.seen) numbered in
      let goes_on : history ≡ desk.pass.seen ++ map made closed.seen.0 =
      sym (ap (map made) closed.seen.1) ∙ map-append made left.seen closed.seen.0
      ∙ ap (λ (seen : List Record). seen ++ map made closed.seen.0) seen_is in
      let all : desk.pass.seen ≡ history =
      sees_all history desk.pass.seen (map made closed.seen.0) goes_on (sym own_seen ∙ sym mine_is ∙ mine) low in
      record {
        start_of = from;
        number = numbered;
        seen_all = all;
        made_all = sym mine_is ∙ mine ∙ all_own history low;
        drawn_by = subst (λ (n : ℕ). n ≤ last.drawn) (ap (λ (pass : PassView). pass.drawn) is) closed.drawn;
      }

  -- the sweep of a desk, by what the calls say
  pub sweep_closed : (hall : HallModel B) (items : List (PassModel B E)) (value : B)
      (last first left own : PassModel B E) (desk desk' : Kept) (person : ℕ) (password : List ℕ) (told : Option ℕ)
      (before gave : Option (List ℕ)) (ending : SweepEnd) →
      hall.passes ≡ 2 → IsOpening (server hall.opening) → led hall.opening last.seen value →
      All (IsClosed pass_of last) items → items ≡ left ∷ own ∷ [] →
      ((number : ℕ) → hall.passes ≤ number → entries_of pass_of number last.seen ≡ []) →
      first ≡ new_pass hall.table 0 → own ≡ new_pass hall.table 1 → desk.start ≡ server hall.opening →
      desk.pass ≡ pass_view made first → desk.answers ≡ [] → GoesOn desk desk' → pass_view made left ≡ desk'.pass →
      Stands desk' → IsNothing before →
      IsSweep person password told (sight (desk_view desk) before 1) (desk_view desk') gave ending →
      IsSweepRun (server hall.opening) person password told (map made last.seen) last.drawn (gave ∷ []) ending
  sweep_closed hall items value last first left own desk desk' person password told before gave ending two opening led'
      closed all strangers is is' start pass none on left_is stands fresh sweeps =
      let both : All (IsClosed pass_of last) (left ∷ own ∷ []) = subst (All (IsClosed pass_of last)) all closed in
      let lead = leads hall.opening last.seen value led' in
      let begins = starts (server hall.opening) opening in
      record {
        sound = begins.sound;
        legal = lead.legal;
        by_owners = lead.owned;
        in_order = λ session. gives_prefixes (server hall.opening) session (map made last.seen) begins.sound lead.legal;
        hides = opened_hides (server hall.opening) opening (map made last.seen);
        desk = desk';
        only = only_desk (server hall.opening) last left own hall.passes desk' two (both 0 left (omega arith))
            (both 1 own (omega arith)) (ap (λ (pass : PassModel B E). pass.number) is')
            (ap (λ (pass : PassModel B E). pass.mine) is') strangers left_is
            (on.number ∙ ap (λ (pass : PassView). pass.number) pass ∙ ap (λ (pass : PassModel B E). pass.number) is)
            (on.start ∙ start) stands;
        stands = stands;
        before = before;
        gave = gave;
        unread = fresh;
        clock = refl;
        sweeps = subst (λ (view : DeskView). IsSweep person password told (sight view before 1) (desk_view desk') gave
            ending) (view_new made hall first desk is pass none) sweeps;
      }

-- the same of a server that is this one, and of a clock that is told so
pub sweep_from : (start other : State) (person : ℕ) (password : List ℕ) (first told : Option ℕ)
    (history : List Record) (drawn : ℕ) (clocks : List (Option (List ℕ))) (ending : SweepEnd) → start ≡ other →
    first ≡ told → IsSweepRun start person password first history drawn clocks ending →
    IsSweepRun other person password told history drawn clocks ending
sweep_from start other person password first told history drawn clocks ending same same' run =
    subst (λ (told : Option ℕ). IsSweepRun other person password told history drawn clocks ending) same'
    (subst (λ (start : State). IsSweepRun start person password first history drawn clocks ending) same run)

-- what a store that was opened was asked for
pub clock_on : (swept has : Bool) (old between new : WorldCounts) → has ≡ true → between ≡ with_disk true old →
    AsksClock swept between new → AsksClock swept (with_disk has old) new
clock_on swept has old between new there counts asks =
    subst (λ (has : Bool). AsksClock swept (with_disk has old) new) (sym there)
    (subst (λ (from : WorldCounts). AsksClock swept from new) counts asks)
