use Rattle.std.proofs.Common.{◌≡◌, ℕ, IsTrue, Option, inl, inr, refl, subst, ◌∙◌}
use Rattle.std.proofs.lemmas.Bool.{false≢true}
use Rattle.kom_commands.specs.declared.words.Command.TheVariants as command
use Rattle.kom_journal.specs.Images.{AreFor, images}
use Rattle.kom_links.specs.Doors.{GivesFirst}
use Rattle.kom_model.specs.Initial.{initial}
use Rattle.kom_book.specs.Books.{disk_in}
use Rattle.kom_server.proofs.Carried.{init_sweeps}
use Rattle.kom_server.proofs.Fitting.{report_fits}
use Rattle.kom_server.proofs.Making.{found_empty, not_failed}
use Rattle.kom_server.proofs.StoreRuns.{there_so, disk_there}
use Rattle.kom_server.proofs.store_runs.init.Goals as goal

pub returns-in-Ok-init-clause-cases : goal.returns-in-Ok-init-clause-cases
returns-in-Ok-init-clause-cases g c before earlier =
    report_fits g.W.Disk.Disk.faults command.Init _ _ c.into_disk.result _ refl init_sweeps (
      λ is. absurd (false≢true is),
      λ either. elim either [
        | inl fails ↦ absurd (not_failed g.W.Disk.Disk.faults _ c.into_disk.result _
            (rw c.into_disk.ensures.disk (disk_there c.in-Ok-init.book ∙ c.in-Ok-init.ensures.store))
            (rw c.into_disk.ensures.disk c.in-Ok-init.ensures.no_cause) c.in-Ok.ensures.found.no_fault fails)
        | inr none ↦ absurd none
      ],
    ) refl (λ unfit. absurd (false≢true unfit)) (refl, refl)

pub returns-in-Ok-init-clause-made : goal.returns-in-Ok-init-clause-made
returns-in-Ok-init-clause-made g c =
    let moment : ℕ = c.now-now.result in
    let password = c.args.password.now in
    let first : g.W.Clock.Clock.first c.in-Ok-clock.clock ≡ (g.W.World.view c.args.world.now).moment =
    c.in-Ok-clock.ensures.first ∙ c.in-Ok.ensures.told.moment in
    let disk : c.into_disk.result ≡ disk_in c.in-Ok-init.book = c.into_disk.ensures.disk in
    let met = g.met.W.Disk.Disk g.world.𝓛 g.world.𝓜 g.world.𝓡 ((λ s x. x), (λ x. x), (λ x. x), λ x. x) in
    record {
      empty = λ well.
          found_empty g.W.Disk.Disk.tells _ _ _ _ (g.W.Disk.Disk.size c.in-Ok.disk) c.in-Ok.ensures.found
          (met.counts_bytes c.in-Ok.disk) c.in-Ok-init.ensures.new;
      full = λ used. absurd (false≢true used);
      put = λ well. c.put_text.ensures;
      rows = λ well. (
        moment,
        (
          c.in-Ok-clock.clock,
          c.in-Ok-clock.ensures.fresh,
          subst (λ (told : Option ℕ). GivesFirst told (g.W.Clock.Clock.gave c.in-Ok-clock.clock) moment) first
              c.now-now.ensures.first,
        ),
        rw disk
            (there_so (IsTrue g.W.Disk.Disk.tells) (λ made. AreFor (images g.W.Disk.Disk.images made)
            (initial password moment)) (disk_in c.in-Ok-init.book)
            (disk_there c.in-Ok-init.book ∙ c.in-Ok-init.ensures.store) c.in-Ok-init.ensures.rows),
      );
    }
