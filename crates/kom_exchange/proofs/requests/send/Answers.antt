use Rattle.std.proofs.Common.{rules, sym, ◌∙◌}
use Rattle.kom_exchange.proofs.Links.{puts_nothing, puts_whole, puts_more, puts_waits, puts_failed}
use Rattle.kom_exchange.specs.declared.visit_end.VisitEnd.TheVariants as end
use Rattle.kom_exchange.proofs.requests.send.Goals as goal

pub loop-init : goal.loop-init
loop-init g c = record {
  can = search rules;
  finite = search rules;
  puts = puts_nothing c.args.bytes.now (g.L.Link.view c.args.link.now);
}

pub returns-then-is_empty : goal.returns-then-is_empty
returns-then-is_empty g c =
    puts_whole c.loop.rest.now c.args.bytes.now c.loop.invariant.puts (sym c.is_empty.ensures ∙ c.if-is_empty.true)

pub loop-preserved-in-Some-write : goal.loop-preserved-in-Some-write
loop-preserved-in-Some-write g c = record {
  can = search rules;
  finite = search rules;
  puts = puts_more c.loop.rest.now c.args.bytes.now c.in-Some-write.count c.loop.invariant.puts c.in-Some-write.ensures;
}

pub loop-preserved : goal.loop-preserved
loop-preserved g c = record {
  can = search rules;
  finite = search rules;
  puts = puts_waits c.loop.rest.now c.args.bytes.now c.loop.invariant.puts c.in-NotYet.ensures;
}

pub returns-in-Failed : goal.returns-in-Failed
returns-in-Failed g c =
    puts_failed end.LinkFault c.loop.rest.now c.args.bytes.now c.loop.invariant.puts c.in-Failed.ensures
