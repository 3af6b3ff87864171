-- What the status of a command that was carried out says of its cases.
use Rattle.std.proofs.Common.{◌≡◌, ◌≢◌, ◌⊎◌, ◌↔◌, ◌≤◌, inl, inr, ℕ, Bool, not, eqb, true, false, List, Option, Some}
use Rattle.std.proofs.Common.{None, ◌||◌, refl, sym, ap, subst, ◌∙◌, arith}
use Rattle.std.proofs.lemmas.Bool.{false≢true, true≢false, ne_eqb}
use Rattle.std.specs.Option.{IfSome}
use Rattle.std.specs.Prelude.{IsTrue, is_some}
use Rattle.kom_commands.specs.declared.cases.Cases.{Cases}
use Rattle.kom_commands.specs.declared.words.Command.{Command}
use Rattle.kom_commands.specs.declared.words.Command.TheVariants as command
use Rattle.kom_commands.specs.Words.{IsSpelled, serves}
use Rattle.kom_links.specs.declared.world_counts.WorldCounts.{WorldCounts}
use Rattle.kom_links.specs.Outside.{Rose}
use Rattle.kom_commands.specs.Statuses.{IsStatus, status_of}
use Rattle.kom_book.specs.Stops.{records_of}
use Rattle.kom_book.specs.declared.ticked.Ticked.{Ticked}
use Rattle.store_check.specs.Stores.{IsWrong, IsUnswept, Fails}
use Rattle.kom_serving.specs.Runs.{Service}
use Rattle.kom_server.specs.Statuses.{StoreFails, HasRefused, Asks, Sweeps, IsWell, IsWellAt}
use Rattle.kom_server.proofs.StatusCases.{is_status, never_two, three, four, five, six, seven, eight, ten}
use Rattle.kom_server.proofs.StatusCases.{nothing_wrong, something_wrong}

-- a store that failed for a reason failed for one that follows
pub fails_too : {D L : Type 0} (faults : D → ℕ) (one other : Type 0) (disk : Option D)
    (end : Option (Service (Ticked D) L)) → (one → other) → StoreFails faults one disk end →
    StoreFails faults other disk end
fails_too faults one other None end so (inl unopened) = inl (so unopened)
fails_too faults one other (Some disk) end so (inl failed) = inl failed
fails_too faults one other None end so (inr refused) = inr refused
fails_too faults one other (Some disk) end so (inr refused) = inr refused

-- what rose from a later count rose from an earlier one
pub rose_from : (before between after : ℕ) → before ≤ between → Rose between after → Rose before after
rose_from before between after earlier (inl more) = inl (omega arith)
rose_from before between after earlier (inr most) = inr most

-- where no store is named none fails
pub never_fails : {D L : Type 0} (faults : D → ℕ) (unopened : Type 0) (failed : Bool) (disk : Option D)
    (end : Option (Service (Ticked D) L)) → (unopened → ⊥) → failed ≡ false → is_some disk ≡ false →
    IfSome end (λ service. HasRefused (records_of service.seen) → ⊥) →
    (IsTrue failed ↔ StoreFails faults unopened disk end)
never_fails faults unopened failed (Some disk) end opened well none unrefused = absurd (true≢false none)
never_fails faults unopened failed None None opened well none unrefused = (
  λ is. absurd (false≢true (sym well ∙ is)),
  λ either. elim either [ inl why ↦ absurd (opened why) | inr has ↦ absurd has ],
)
never_fails faults unopened failed None (Some service) opened well none unrefused = (
  λ is. absurd (false≢true (sym well ∙ is)),
  λ either. elim either [ inl why ↦ absurd (opened why) | inr has ↦ absurd (unrefused has) ],
)

-- the same of a store that is not served
pub fails_unserved : {D L : Type 0} (faults : D → ℕ) (one other failed : Type 0) (disk : Option D)
    (end : Option (Service (Ticked D) L)) → is_some end ≡ false → (one → other) → (is_some disk ≡ false → failed) →
    (failed ↔ Fails faults one disk) → (failed ↔ StoreFails faults other disk end)
fails_unserved faults one other failed disk (Some service) none then unopened so = absurd (true≢false none)
fails_unserved faults one other failed None None none then unopened so = (
  λ is. inl (then (so.0 is)),
  λ either. elim either [ inl why ↦ unopened refl | inr has ↦ absurd has ],
)
fails_unserved faults one other failed (Some disk) None none then unopened so = (
  λ is. inl (so.0 is),
  λ either. elim either [ inl why ↦ so.1 why | inr has ↦ absurd has ],
)

-- the same of one that is served
pub fails_served : {D L : Type 0} (faults : D → ℕ) (one other failed : Type 0) (disk : Option D)
    (end : Option (Service (Ticked D) L)) → (one ↔ other) → (failed ↔ StoreFails faults one disk end) →
    (failed ↔ StoreFails faults other disk end)
fails_served faults one other failed disk end same so = (
  λ is. fails_too faults one other disk end same.0 (so.0 is),
  λ fails. so.1 (fails_too faults other one disk end same.1 fails),
)

-- what is there has this, or it is not there
pub there_and : (P Q : Type 0) (there : Bool) → (there ≡ false → P) → Q → P ⊎ ((there ≡ true) × Q)
there_and P Q true unless has = inr (refl, has)
there_and P Q false unless has = inl (unless refl)

pub there_or : (P : Type 0) (there : Bool) → (there ≡ false → P) → P ⊎ (there ≡ true)
there_or P true unless = inr refl
there_or P false unless = inl (unless refl)

pub also : {F P : Type 0} (said : Bool) → said ≡ true → (F ↔ P) → (F ↔ (IsTrue said × P))
also said is so = (λ f. (is, so.0 f), λ both. so.1 both.1)

pub neither : {P : Type 0} (failed said : Bool) → failed ≡ false → said ≡ false → (IsTrue failed ↔ (IsTrue said × P))
neither failed said well idle =
    (λ is. absurd (false≢true (sym well ∙ is)), λ both. absurd (false≢true (sym idle ∙ both.0)))

-- what one of two is where the other is not
pub unless : (W P : Type 0) → W ⊎ P → (W → ⊥) → P
unless W P (inl wrong) well = absurd (well wrong)
unless W P (inr p) well = p

-- where a command does not serve no gate failed
pub not_gate : {P : Type 0} (said : Command) (failed : Bool) → serves said ≡ false →
    (IsTrue failed ↔ (IsTrue (serves said) × P)) → failed ≡ false
not_gate said true idle so = absurd (false≢true (sym idle ∙ (so.0 refl).0))
not_gate said false idle so = refl

-- what was refused or given up is a sweep
pub was_sweep : (words : List (List ℕ)) (said : Command) (cases : Cases) (there : Bool) → IsSpelled words said →
    IsUnswept cases ⊎ ((there ≡ true) × ((person : ℕ) × (said ≡ command.Sweep person))) → (IsUnswept cases → ⊥) →
    Sweeps words
was_sweep words said cases there spelled (inl unswept) swept = absurd (swept unswept)
was_sweep words said cases there spelled (inr (has, (person, is))) swept =
    (person, subst (λ (said : Command). IsSpelled words said) is spelled)

-- a sweep of which nothing is there
pub swept_end : (status : ℕ) (there : Bool) → IsStatus status → ((status ≡ 0) ⊎ (status ≡ 7) → there ≡ true) →
    ((status ≡ 8) ⊎ (status ≡ 10) → there ≡ true) → (status ≡ 5 → ⊥) →
    (status ≡ 3) ⊎ ((status ≡ 4) ⊎ ((status ≡ 6) ⊎ (there ≡ true)))
swept_end status there (inl zero) well ended gate = inr (inr (inr (well (inl zero))))
swept_end status there (inr (inl three)) well ended gate = inl three
swept_end status there (inr (inr (inl four))) well ended gate = inr (inl four)
swept_end status there (inr (inr (inr (inl five)))) well ended gate = absurd (gate five)
swept_end status there (inr (inr (inr (inr (inl six))))) well ended gate = inr (inr (inl six))
swept_end status there (inr (inr (inr (inr (inr (inl seven)))))) well ended gate = inr (inr (inr (well (inr seven))))
swept_end status there (inr (inr (inr (inr (inr (inr (inl eight))))))) well ended gate =
    inr (inr (inr (ended (inl eight))))
swept_end status there (inr (inr (inr (inr (inr (inr (inr ten))))))) well ended gate =
    inr (inr (inr (ended (inr ten))))

-- what makes a store is no sweep
pub init_sweeps : (person : ℕ) → command.Init ≡ command.Sweep person → ⊥
init_sweeps person is = cc

pub load_sweeps : (count person : ℕ) → command.Load count ≡ command.Sweep person → ⊥
load_sweeps count person is = cc

-- a check is no sweep
pub check_sweeps : (person : ℕ) → command.Check ≡ command.Sweep person → ⊥
check_sweeps person is = cc

-- of what is not there any fact holds
pub none_there : {X : Type 0} (P : X → Type 0) (end : Option X) → is_some end ≡ false → IfSome end P
none_there P None none = tt
none_there P (Some x) none = absurd (true≢false none)

-- nothing is there that was served, unless a command serves or sweeps
pub unserved_end : (words : List (List ℕ)) (said : Command) (has_disk has_end : Bool) (old new : WorldCounts) →
    IsSpelled words said → Asks said has_disk has_end old new → (serves said ≡ true → has_end ≡ false) →
    (has_end ≡ false) ⊎ Sweeps words
unserved_end words command.Once has_disk has_end old new spelled asks unserved = inl (unserved refl)
unserved_end words command.OnceOver has_disk has_end old new spelled asks unserved = inl (unserved refl)
unserved_end words (command.Serve at) has_disk has_end old new spelled asks unserved = inl (unserved refl)
unserved_end words command.Init has_disk has_end old new spelled asks unserved = inl asks.0
unserved_end words command.Check has_disk has_end old new spelled asks unserved = inl asks.0
unserved_end words (command.Load count) has_disk has_end old new spelled asks unserved = inl asks.1
unserved_end words (command.Sweep person) has_disk has_end old new spelled asks unserved = inr (person, spelled)

-- the status of words that are no command
pub not_well : IsWellAt 2 → ⊥
not_well (inl zero) = omega (arith, zero)
not_well (inr seven) = omega (arith, seven)

-- ---- whether the sink failed, by the count of its faults

pub zero_failed : (faults : ℕ) → faults ≡ 0 → not (eqb faults 0) ≡ false
zero_failed faults none = rw none refl

pub has_failed : (faults counted : ℕ) → faults ≡ counted → (IsTrue (not (eqb faults 0)) ↔ (counted ≢ 0))
has_failed faults counted is = (
  λ failed none. false≢true (sym (zero_failed faults (is ∙ none)) ∙ failed),
  λ some. ap not (ne_eqb faults 0 (λ none. some (sym is ∙ none))),
)

-- where nothing is put to the sink if something went wrong, nothing did if it failed
all_right : (a u g m r b s : Bool) → ((a || u || g || m || r || b) ≡ true → s ≡ false) → s ≡ true →
    (g ≡ false) × (r ≡ false) × (b ≡ false)
all_right true u g m r b s silent failed = absurd (false≢true (sym (silent refl) ∙ failed))
all_right false true g m r b s silent failed = absurd (false≢true (sym (silent refl) ∙ failed))
all_right false false true m r b s silent failed = absurd (false≢true (sym (silent refl) ∙ failed))
all_right false false false true r b s silent failed = absurd (false≢true (sym (silent refl) ∙ failed))
all_right false false false false true b s silent failed = absurd (false≢true (sym (silent refl) ∙ failed))
all_right false false false false false true s silent failed = absurd (false≢true (sym (silent refl) ∙ failed))
all_right false false false false false false s silent failed = (refl, refl, refl)

pub sink_apart : (cases : Cases) (s : Bool) → (IsWrong cases → s ≡ false) → s ≡ true →
    (cases.gate_failed ≡ false) × (cases.is_refused ≡ false) × (cases.is_given_up ≡ false)
sink_apart cases s silent failed =
    all_right cases.store_failed cases.is_unfit cases.gate_failed cases.no_memory cases.is_refused cases.is_given_up s
    silent failed

module _ (cases : Cases) (s : Bool) (status : ℕ) (is : status ≡ status_of cases s) where
  pub which_status : IsStatus status
  which_status = rw is (is_status cases.store_failed cases.is_unfit cases.gate_failed cases.is_refused
      cases.is_given_up s cases.no_memory)

  pub some_status : (status ≡ 2) ⊎ IsStatus status
  some_status = inr which_status

  pub failed_gate : status ≡ 5 → IsTrue cases.gate_failed
  failed_gate five' =
      let at = five cases.store_failed cases.is_unfit cases.gate_failed cases.is_refused cases.is_given_up s
      cases.no_memory in
      (at.0 (sym is ∙ five')).2

  pub no_refusal : status ≡ 2 → ⊥
  no_refusal two = never_two cases.store_failed cases.is_unfit cases.gate_failed cases.is_refused cases.is_given_up s
      cases.no_memory (sym is ∙ two)

  pub store_status : (F : Type 0) → (IsTrue cases.store_failed ↔ F) → ((status ≡ 3) ↔ F)
  store_status F so =
      let at = three cases.store_failed cases.is_unfit cases.gate_failed cases.is_refused cases.is_given_up s
      cases.no_memory in
      (λ three. so.0 (at.0 (sym is ∙ three)), λ failed. is ∙ at.1 (so.1 failed))

  pub unfit_status : status ≡ 4 → IsTrue cases.is_unfit
  unfit_status four' = four cases.store_failed cases.is_unfit cases.gate_failed cases.is_refused cases.is_given_up s
      cases.no_memory (sym is ∙ four')

  pub gate_status : (S P : Type 0) → (IsTrue cases.gate_failed ↔ (S × P)) →
      ((status ≡ 5) ↔ (S × (status ≢ 3) × (status ≢ 4) × P))
  gate_status S P so =
      let at = five cases.store_failed cases.is_unfit cases.gate_failed cases.is_refused cases.is_given_up s
      cases.no_memory in (
        λ five'.
            let all = at.0 (sym is ∙ five') in
            let both = so.0 all.2 in
            (both.0, (λ three. all.0 (sym is ∙ three)), (λ four. all.1 (sym is ∙ four)), both.1),
        λ all. is ∙ at.1 ((λ three. all.1 (is ∙ three)), (λ four. all.2 (is ∙ four)), so.1 (all.0, all.3)),
      )

  pub sink_status : (R F : Type 0) →
      (s ≡ true → (cases.gate_failed ≡ false) × (cases.is_refused ≡ false) × (cases.is_given_up ≡ false)) →
      (IsTrue s ↔ F) → R →
      ((status ≡ 7) ↔ (R × (status ≢ 3) × (status ≢ 4) × F))
  sink_status R F apart so r =
      let at = seven cases.store_failed cases.is_unfit cases.gate_failed cases.is_refused cases.is_given_up s
      cases.no_memory apart in (
        λ seven'.
            let all = at.0 (sym is ∙ seven') in
            (r, (λ three. all.0 (sym is ∙ three)), (λ four. all.1 (sym is ∙ four)), so.0 all.2),
        λ all. is ∙ at.1 ((λ three. all.1 (is ∙ three)), (λ four. all.2 (is ∙ four)), so.1 all.3),
      )

  pub memory_status : status ≡ 6 → IsTrue cases.no_memory
  memory_status six' = six cases.store_failed cases.is_unfit cases.gate_failed cases.is_refused cases.is_given_up s
      cases.no_memory (sym is ∙ six')

  pub sweep_status : IsUnswept cases → (status ≡ 8) ⊎ (status ≡ 10) → ⊥
  sweep_status unswept (inl eight') =
      false≢true (sym unswept.0
      ∙ eight cases.store_failed cases.is_unfit cases.gate_failed cases.is_refused cases.is_given_up s cases.no_memory
      (sym is ∙ eight'))
  sweep_status unswept (inr ten') =
      false≢true (sym unswept.1
      ∙ ten cases.store_failed cases.is_unfit cases.gate_failed cases.is_refused cases.is_given_up s cases.no_memory
      (sym is ∙ ten'))

  -- at 0 and 7 all went well, where nothing is put to the sink if something went wrong
  pub all_well : (P : Type 0) → (IsWrong cases → s ≡ false) → IsWrong cases ⊎ P → (status ≡ 0) ⊎ (status ≡ 7) → P
  all_well P silent (inr so) ended = so
  all_well P silent (inl wrong) (inl none) =
      absurd (nothing_wrong cases.store_failed cases.is_unfit cases.gate_failed cases.is_refused cases.is_given_up s
      cases.no_memory silent
      (inl (sym is ∙ none)) wrong)
  all_well P silent (inl wrong) (inr unwritten) =
      absurd (nothing_wrong cases.store_failed cases.is_unfit cases.gate_failed cases.is_refused cases.is_given_up s
      cases.no_memory silent
      (inr (sym is ∙ unwritten)) wrong)

  pub is_well : (IsWrong cases → s ≡ false) → IsWellAt status → IsWell cases
  is_well silent (inl none) =
      nothing_wrong cases.store_failed cases.is_unfit cases.gate_failed cases.is_refused cases.is_given_up s
      cases.no_memory silent (inl (sym is ∙ none))
  is_well silent (inr unwritten) =
      nothing_wrong cases.store_failed cases.is_unfit cases.gate_failed cases.is_refused cases.is_given_up s
      cases.no_memory silent (inr (sym is ∙ unwritten))

  pub some_wrong : status ≢ 0 → status ≢ 7 → IsWrong cases
  some_wrong not_zero not_seven =
      something_wrong cases.store_failed cases.is_unfit cases.gate_failed cases.is_refused cases.is_given_up s
      cases.no_memory
      (λ zero. not_zero (is ∙ zero)) (λ seven. not_seven (is ∙ seven))
