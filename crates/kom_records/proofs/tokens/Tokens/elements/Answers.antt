use Rattle.std.proofs.lemmas.Result.{err_from_is_err_and}
use Rattle.kom_types.specs.calls.Arguments.{elements}
use Rattle.kom_records.proofs.Gathering.{goes_on, departs}
use Rattle.kom_records.proofs.tokens.Tokens.elements.Goals as goal

pub returns-in_err-value : goal.returns-in_err-value
returns-in_err-value g c =
    let p = err_from_is_err_and c.from_residual-in_err-value.result c.from_residual-in_err-value.ensures.1 in
    let reads = g.T.Element.reads in
    rw (p.1, p.2) (departs c.in_err-value.field-0.0 reads c.loop.values.items c.args.count c.loop.counter
    c.loop.self (elements reads c.args.count c.args.self.now) c.loop-test.true c.in_err-value.ensures c.loop.invariant)

pub loop-preserved : goal.loop-preserved
loop-preserved g c =
    let reads = g.T.Element.reads in
    rw c.in_ok-push.ensures.items (goes_on reads c.loop.values.items c.args.count c.loop.counter
    c.loop.self _ c.in_ok-value.value (elements reads c.args.count c.args.self.now) c.loop-test.true
    c.in_ok-value.ensures c.loop.invariant)
