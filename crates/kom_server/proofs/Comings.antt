use Rattle.std.proofs.Common.{◌≡◌, ℕ, Bool, List, Option, Some, None, refl, sym, subst}
use Rattle.std.specs.Option.{IfSome}
use Rattle.kom_commands.specs.declared.cases.Cases.{Cases}
use Rattle.kom_commands.specs.declared.numbers.AtPort.{AtPort}
use Rattle.kom_disk.specs.declared.disk.Disk.{Ghosts}
use Rattle.kom_links.specs.declared.world_counts.WorldCounts.{WorldCounts}
use Rattle.kom_links.specs.Doors.{SinkView, WorldView, KeepsTold}
use Rattle.kom_links.specs.Outside.{LinkView}
use Rattle.kom_model.specs.State.{State}
use Rattle.kom_book.specs.declared.ticked.Ticked.{Ticked}
use Rattle.kom_sweep.specs.declared.ends.SweepEnd.{SweepEnd}
use Rattle.kom_serving.specs.Runs.{Service}
use Rattle.kom_server.specs.Comes.{IsHidingRun, ServesNew, OverStore, EndsSweep, MakesStore, Comes, ComesOver}
use Rattle.kom_server.specs.Statuses.{FindsStore, serve_over}
use Rattle.kom_server.proofs.SweepRuns.{sweep_from}

-- a fact of what is there leads to another
some_such : {T : Type 0} (P Q : T → Type 0) (end : Option T) → IfSome end P →
    ((x : T) → end ≡ Some x → P x → Q x) → IfSome end Q
some_such P Q None holds leads = tt
some_such P Q (Some x) holds leads = leads x refl holds

-- it is over where this holds, if it is where that does which follows
pub hiding_when : {D L : Type 0} (view : L → LinkView) (port : Option AtPort) (start : State) (one other : Type 0)
    (service : Service (Ticked D) L) → (other → one) → IsHidingRun view port start one service →
    IsHidingRun view port start other service
hiding_when view port start one other service so run =
    record { run = run.run; hides = run.hides; number = run.number; over = λ well. run.over (so well) }

pub new_when : {D L : Type 0} (view : L → LinkView) (one other : Type 0) (service : Service (Ticked D) L) →
    (other → one) → ServesNew view one service → ServesNew view other service
new_when view one other service so serves = record {
  opened = serves.opened;
  first = serves.first;
  run = hiding_when view _ _ one other service so serves.run;
  unrefused = serves.unrefused;
}

pub ends_when : {D L : Type 0} (person : ℕ) (given password : List ℕ) (first other : Option ℕ)
    (told more : SweepEnd → Type 0) (start : State) (service : Service (Ticked D) L) → given ≡ password →
    first ≡ other → ((ending : SweepEnd) → told ending → more ending) →
    EndsSweep person given first told start service → EndsSweep person password other more start service
ends_when person given password first other told more start service same same' so ends =
    subst (λ (password : List ℕ). EndsSweep person password other more start service) same (record {
      ending = ends.ending;
      run = sweep_from _ _ _ _ _ _ _ _ _ _ refl same' ends.run;
      tells = so ends.ending ends.tells;
      no_gate = ends.no_gate;
    })

-- the same of a state and a moment that are these
pub ends_from : {D L : Type 0} (person : ℕ) (password : List ℕ) (first other : Option ℕ) (told : SweepEnd → Type 0)
    (start start' : State) (end : Option (Service (Ticked D) L)) → first ≡ other → start ≡ start' →
    IfSome end (EndsSweep person password first told start) → IfSome end (EndsSweep person password other told start')
ends_from person password first other told start start' end same same' ends =
    subst (λ (first : Option ℕ). IfSome end (EndsSweep person password first told start')) same
    (subst (λ (start : State). IfSome end (EndsSweep person password first told start)) same' ends)

-- what is found stayed, and so did what was asked for before
pub finds_when : (tells : Bool) (world later : WorldView) (given path : List ℕ) (unfit unfit' well well' : Type 0)
    (has_disk begun : Bool) (old old' new : WorldCounts) → KeepsTold world later → given ≡ path → old' ≡ old →
    (unfit → unfit') → (well → well') → FindsStore tells later.files given unfit' well' has_disk begun old' new →
    FindsStore tells world.files path unfit well has_disk begun old new
finds_when tells world later given path unfit unfit' well well' has_disk begun old old' new told same counts so so'
    finds =
    subst (λ (path : List ℕ). FindsStore tells world.files path unfit well has_disk begun old new) same
    (subst (λ (old : WorldCounts). FindsStore tells world.files given unfit well has_disk begun old new) counts
    (subst (λ (files : Option (List ℕ → List ℕ)). FindsStore tells files given unfit well has_disk begun old' new)
    told.files (record {
      none = λ is. finds.none (so is);
      one = λ is. finds.one (so' is);
      untouched = finds.untouched;
    })))

module _ {D : Type 0} (d : Ghosts D) where
  -- what the world tells stayed, and what was done over the store says this too
  pub over_when : {L : Type 0} (world later : WorldView) (given path : List ℕ)
      (one other : State → Service (Ticked D) L → Type 0) (disk : Option D) (end : Option (Service (Ticked D) L)) →
      KeepsTold world later → given ≡ path →
      ((start : State) (service : Service (Ticked D) L) → end ≡ Some service → one start service
      → other start service) →
      OverStore d later given one disk end → OverStore d world path other disk end
  over_when world later given path one other disk end told same so over =
      subst (λ (path : List ℕ). OverStore d world path other disk end) same (record {
        db = over.db;
        found = rw (sym told.files) over.found;
        does_so = some_such _ _ end over.does_so (λ service there did. so _ service there did);
        left = over.left;
      })

  pub makes_when : {C : Type 0} (gave : C → Option (List ℕ)) (world later : WorldView)
      (given path given' password : List ℕ) (one one' other other' : Type 0) (disk : Option D) (sink : SinkView) →
      KeepsTold world later → given ≡ path → given' ≡ password → (one' → one) → (other' → other) →
      MakesStore d gave later given given' one other disk sink →
      MakesStore d gave world path password one' other' disk sink
  makes_when gave world later given path given' password one one' other other' disk sink told same same' so so' makes =
      subst (λ (path : List ℕ). MakesStore d gave world path password one' other' disk sink) same
      (subst (λ (password : List ℕ). MakesStore d gave world given password one' other' disk sink) same' (record {
        empty = λ well. rw (sym told.files) (makes.empty (so well));
        full = λ used. rw (sym told.files) (makes.full (so' used));
        put = λ well. makes.put (so well);
        rows = λ well. rw (sym told.moment) (makes.rows (so well));
      }))

  pub comes_over : {L C : Type 0} (view : L → LinkView) (gave : C → Option (List ℕ)) (words : List (List ℕ))
      (old new : WorldView) (cases : Cases) (disk : Option D) (end : Option (Service (Ticked D) L))
      (sink : SinkView) (port : Option AtPort) →
      Comes d view gave words old new cases disk end sink (serve_over port) →
      ComesOver d view gave words old new cases disk end sink port
  comes_over view gave words old new cases disk end sink None comes = comes
  comes_over view gave words old new cases disk end sink (Some at) comes = comes
