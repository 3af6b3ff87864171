use Rattle.std.proofs.Common.{inl, inr, None, refl, sym, ap, ◌∙◌}
use Rattle.std.proofs.lemmas.Bool.{false≢true}
use Rattle.kom_commands.specs.Words.{serves}
use Rattle.kom_server.specs.Statuses.{opens_store}
use Rattle.kom_server.proofs.Carried.{never_fails, fails_unserved, rose_from, none_there, check_sweeps, load_sweeps}
use Rattle.kom_server.proofs.Carried.{unless}
use Rattle.kom_server.proofs.Fitting.{report_fits}
use Rattle.kom_server.proofs.Spelling.{word_at}
use Rattle.kom_server.proofs.running.carry_out.Goals as goal

-- ---- once

pub returns-in-Once-clause-asks : goal.returns-in-Once-clause-asks
returns-in-Once-clause-asks g c = rw c.in-Once.is c.once.ensures.asks

pub returns-in-Once-clause-cases : goal.returns-in-Once-clause-cases
returns-in-Once-clause-cases g c = rw c.in-Once.is c.once.ensures.cases

pub returns-in-Once-clause-silent : goal.returns-in-Once-clause-silent
returns-in-Once-clause-silent g c either = refl

pub returns-in-Once-clause-finds : goal.returns-in-Once-clause-finds
returns-in-Once-clause-finds g c opens = absurd (false≢true (sym (ap opens_store c.in-Once.is) ∙ opens))

pub returns-in-Once-clause-comes : goal.returns-in-Once-clause-comes
returns-in-Once-clause-comes g c = rw c.in-Once.is c.once.ensures.once

-- ---- once over a store

pub returns-in-OnceOver-clause-asks : goal.returns-in-OnceOver-clause-asks
returns-in-OnceOver-clause-asks g c = rw c.in-OnceOver.is c.serve_store.ensures.asks

pub returns-in-OnceOver-clause-cases : goal.returns-in-OnceOver-clause-cases
returns-in-OnceOver-clause-cases g c = rw c.in-OnceOver.is c.serve_store.ensures.cases

pub returns-in-OnceOver-clause-silent : goal.returns-in-OnceOver-clause-silent
returns-in-OnceOver-clause-silent g c either = refl

pub returns-in-OnceOver-clause-finds : goal.returns-in-OnceOver-clause-finds
returns-in-OnceOver-clause-finds g c opens =
    rw (word_at c.args.words.now 1 c.word.result.now c.word.ensures) c.serve_store.ensures.finds

pub returns-in-OnceOver-clause-comes : goal.returns-in-OnceOver-clause-comes
returns-in-OnceOver-clause-comes g c =
    rw (c.in-OnceOver.is, word_at c.args.words.now 1 c.word.result.now c.word.ensures)
    c.serve_store.ensures.over

-- ---- serve

pub returns-in-Serve-clause-asks : goal.returns-in-Serve-clause-asks
returns-in-Serve-clause-asks g c = rw c.in-Serve.is c.serve_store-in-Serve.ensures.asks

pub returns-in-Serve-clause-cases : goal.returns-in-Serve-clause-cases
returns-in-Serve-clause-cases g c = rw c.in-Serve.is c.serve_store-in-Serve.ensures.cases

pub returns-in-Serve-clause-silent : goal.returns-in-Serve-clause-silent
returns-in-Serve-clause-silent g c either = refl

pub returns-in-Serve-clause-finds : goal.returns-in-Serve-clause-finds
returns-in-Serve-clause-finds g c opens =
    rw (word_at c.args.words.now 1 c.word-in-Serve.result.now c.word-in-Serve.ensures)
    c.serve_store-in-Serve.ensures.finds

pub returns-in-Serve-clause-comes : goal.returns-in-Serve-clause-comes
returns-in-Serve-clause-comes g c =
    rw (c.in-Serve.is, word_at c.args.words.now 1 c.word-in-Serve.result.now c.word-in-Serve.ensures)
    c.serve_store-in-Serve.ensures.over

-- ---- init

pub returns-in-Init-clause-asks : goal.returns-in-Init-clause-asks
returns-in-Init-clause-asks g c = rw c.in-Init.is c.init.ensures.asks

pub returns-in-Init-clause-cases : goal.returns-in-Init-clause-cases
returns-in-Init-clause-cases g c = rw c.in-Init.is (c.init.ensures.cases c.args.before c.requires.before)

pub returns-in-Init-clause-silent : goal.returns-in-Init-clause-silent
returns-in-Init-clause-silent g c (inl serving) = absurd (false≢true (sym (ap serves c.in-Init.is) ∙ serving))
returns-in-Init-clause-silent g c (inr wrong) = c.init.ensures.silent wrong

pub returns-in-Init-clause-finds : goal.returns-in-Init-clause-finds
returns-in-Init-clause-finds g c opens = absurd (false≢true (sym (ap opens_store c.in-Init.is) ∙ opens))

pub returns-in-Init-clause-comes : goal.returns-in-Init-clause-comes
returns-in-Init-clause-comes g c =
    rw (
      c.in-Init.is,
      word_at c.args.words.now 1 c.word-in-Init.result.now c.word-in-Init.ensures,
      word_at c.args.words.now 2 c.word-in-Init-2.result.now c.word-in-Init-2.ensures ∙ sym c.as_bytes.ensures.value,
    )
    c.init.ensures.made

-- ---- check

pub returns-in-Check-clause-asks : goal.returns-in-Check-clause-asks
returns-in-Check-clause-asks g c = rw c.in-Check.is (refl, c.check-disk.ensures.asks)

pub returns-in-Check-clause-cases : goal.returns-in-Check-clause-cases
returns-in-Check-clause-cases g c =
    rw c.in-Check.is
    (report_fits g.W.Disk.Disk.faults _ _ c.check-disk.result.cases c.check-disk.result.disk None refl check_sweeps
    (fails_unserved {L = g.row.W-Gate-Link.Denot} g.W.Disk.Disk.faults _ _ _ c.check-disk.result.disk None refl
    (λ rose. (refl, rose_from _ _ _ c.requires.before rose)) c.check-disk.ensures.unopened c.check-disk.ensures.failed)
    c.check-disk.ensures.gate (λ unfit. (refl, refl)) c.check-disk.ensures.unswept)

pub returns-in-Check-clause-silent : goal.returns-in-Check-clause-silent
returns-in-Check-clause-silent g c (inl serving) = absurd (false≢true (sym (ap serves c.in-Check.is) ∙ serving))
returns-in-Check-clause-silent g c (inr wrong) = c.check-disk.ensures.silent wrong

pub returns-in-Check-clause-finds : goal.returns-in-Check-clause-finds
returns-in-Check-clause-finds g c opens =
    rw (word_at c.args.words.now 1 c.word-in-Check.result.now c.word-in-Check.ensures)
    (record {
      none = c.check-disk.ensures.unfit;
      one = unless _ _ c.check-disk.ensures.exact;
      untouched = λ told holds. (refl, c.check-disk.ensures.asks);
    })

pub returns-in-Check-clause-comes : goal.returns-in-Check-clause-comes
returns-in-Check-clause-comes g c =
    rw (c.in-Check.is, word_at c.args.words.now 1 c.word-in-Check.result.now c.word-in-Check.ensures)
    (unless _ _ c.check-disk.ensures.reported)

-- ---- load

pub returns-in-Load-clause-asks : goal.returns-in-Load-clause-asks
returns-in-Load-clause-asks g c = rw c.in-Load.is (c.load.ensures.alone.0, c.load.ensures.alone.1, refl)

pub returns-in-Load-clause-cases : goal.returns-in-Load-clause-cases
returns-in-Load-clause-cases g c =
    rw c.in-Load.is
    (report_fits g.W.Disk.Disk.faults _ _ c.load.result.cases c.load.result.disk c.load.result.end refl
    (load_sweeps c.in-Load.count)
    (never_fails g.W.Disk.Disk.faults _ c.load.result.cases.store_failed c.load.result.disk c.load.result.end
    (λ named. false≢true named.0) c.load.ensures.well.0 c.load.ensures.alone.0
    (none_there _ c.load.result.end c.load.ensures.alone.1))
    c.load.ensures.well.2 (λ unfit. absurd (false≢true (sym c.load.ensures.well.1 ∙ unfit))) c.load.ensures.well.3)

pub returns-in-Load-clause-silent : goal.returns-in-Load-clause-silent
returns-in-Load-clause-silent g c (inl serving) = absurd (false≢true (sym (ap serves c.in-Load.is) ∙ serving))
returns-in-Load-clause-silent g c (inr wrong) = c.load.ensures.silent wrong

pub returns-in-Load-clause-finds : goal.returns-in-Load-clause-finds
returns-in-Load-clause-finds g c opens = absurd (false≢true (sym (ap opens_store c.in-Load.is) ∙ opens))

pub returns-in-Load-clause-comes : goal.returns-in-Load-clause-comes
returns-in-Load-clause-comes g c = rw c.in-Load.is (unless _ _ c.load.ensures.loaded)

-- ---- sweep

pub returns-in-Sweep-clause-asks : goal.returns-in-Sweep-clause-asks
returns-in-Sweep-clause-asks g c = rw c.in-Sweep.is c.sweep_store.ensures.asks

pub returns-in-Sweep-clause-cases : goal.returns-in-Sweep-clause-cases
returns-in-Sweep-clause-cases g c = rw c.in-Sweep.is (c.sweep_store.ensures.cases c.args.before c.requires.before)

pub returns-in-Sweep-clause-silent : goal.returns-in-Sweep-clause-silent
returns-in-Sweep-clause-silent g c (inl serving) = absurd (false≢true (sym (ap serves c.in-Sweep.is) ∙ serving))
returns-in-Sweep-clause-silent g c (inr wrong) = c.sweep_store.ensures.silent wrong

pub returns-in-Sweep-clause-finds : goal.returns-in-Sweep-clause-finds
returns-in-Sweep-clause-finds g c opens =
    rw (word_at c.args.words.now 1 c.word-in-Sweep.result.now c.word-in-Sweep.ensures) c.sweep_store.ensures.finds

pub returns-in-Sweep-clause-comes : goal.returns-in-Sweep-clause-comes
returns-in-Sweep-clause-comes g c =
    rw (
      c.in-Sweep.is,
      word_at c.args.words.now 1 c.word-in-Sweep.result.now c.word-in-Sweep.ensures,
      word_at c.args.words.now 3 c.word-in-Sweep-2.result.now c.word-in-Sweep-2.ensures
          ∙ sym c.as_bytes-in-Sweep.ensures.value,
    )
    c.sweep_store.ensures.swept
