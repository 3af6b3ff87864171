use Rattle.std.proofs.Common.{rules, ◌≡◌, ◌+◌, ◌-◌, List, ℕ, [], drop, arith, sym, subst, ap, ◌∙◌}
use Rattle.std.specs.Prelude.{option_to_list}
use Rattle.std.proofs.lemmas.List.{length-drop}
use Rattle.kom_types.specs.Stream as stream
use Rattle.kom_framing.specs.declared.units.Unit.{Unit as StreamUnit}
use Rattle.kom_framing.specs.declared.lines.BegunLine.{BegunLine}
use Rattle.kom_framing.specs.Spans.{tokens_of}
use Rattle.kom_framing.specs.BegunLines.{ScansTo, units_at, IsLine}
use Rattle.kom_framing.specs.WholeLines.{AddsTo, Continues}
use Rattle.kom_framing.proofs.WholeLines.{piece_left, continues_at_once, continues_line}
use Rattle.kom_framing.proofs.lines.lines_of.Goals as goal

pub loop-at-init : goal.loop-at-init
loop-at-init c = record {
  within = search rules;
  early = search rules;
  fresh = search rules;
  line = c.new-begun.ensures.line c.args.side;
  split = search rules;
}

pub loop-at-preserved-in-Some : goal.loop-at-preserved-in-Some
loop-at-preserved-in-Some c =
    let inv = c.loop-at.invariant in
    let adds : AddsTo c.in-Some.count (c.args.place + c.loop-at.at) (drop c.loop-at.at c.args.piece.now)
    c.loop-at.whole.items c.add_whole.new.units.items =
    subst (λ (rest : List ℕ). AddsTo c.in-Some.count (c.args.place + c.loop-at.at) rest
    c.loop-at.whole.items c.add_whole.new.units.items) (piece_left c.args.piece.now c.loop-at.at)
    (rw c.in-Some.is at c.in_ok-count.ensures) in
    record {
      within = omega (arith, adds.within, length-drop c.loop-at.at c.args.piece.now);
      early = omega (arith, adds.early);
      fresh = inv.fresh;
      line = inv.line;
      split = continues_at_once c.args.side c.args.place c.loop-at.at c.in-Some.count c.args.piece.now
          c.loop-at.whole.items c.add_whole.new.units.items adds inv.split;
    }

pub loop-at-preserved : goal.loop-at-preserved
loop-at-preserved c =
    let inv = c.loop-at.invariant in
    let scanned : ScansTo c.args.side c.in-Ends.count (c.args.place + c.loop-at.at) c.loop-at.begun
    (drop c.loop-at.at c.args.piece.now) c.scan.new.self =
    subst (λ (rest : List ℕ). ScansTo c.args.side c.in-Ends.count (c.args.place + c.loop-at.at) c.loop-at.begun rest
    c.scan.new.self) (piece_left c.args.piece.now c.loop-at.at) (rw c.in-Ends.is at c.in_ok-scan-in-None.ensures) in
    let taken = c.replace-line.ensures in
    let same : c.add_whole.new.units.items ≡ c.loop-at.whole.items = rw c.in-None.is at c.in_ok-count.ensures in
    let so_far : Continues c.add_whole.new.units.items
    (stream.lines_from c.args.side (c.args.place + c.loop-at.at) [] (drop c.loop-at.at c.args.piece.now))
    (stream.lines_from c.args.side c.args.place [] c.args.piece.now) =
    subst (λ (us : List StreamUnit). Continues us
    (stream.lines_from c.args.side (c.args.place + c.loop-at.at) [] (drop c.loop-at.at c.args.piece.now))
    (stream.lines_from c.args.side c.args.place [] c.args.piece.now)) (sym same) inv.split in
    let ended : option_to_list c.into_unit.result
    ≡ units_at (tokens_of c.scan.new.self.text.items c.scan.new.self.starts.items)
    (c.args.place + (c.loop-at.at + c.in-Ends.count) - 1) =
    c.into_unit.ensures
    ∙ ap (λ (l : BegunLine). units_at (tokens_of l.text.items l.starts.items)
    (c.args.place + (c.loop-at.at + c.in-Ends.count) - 1)) taken.value in
    record {
      within = omega (arith, scanned.within, length-drop c.loop-at.at c.args.piece.now);
      early = omega (arith, scanned.early);
      fresh = rw taken.after c.new.ensures.text;
      line = subst (IsLine c.args.side) (sym taken.after) (c.new.ensures.line c.args.side);
      split =
          subst (λ (us : List StreamUnit). Continues us
          (stream.lines_from c.args.side (c.args.place + (c.loop-at.at + c.in-Ends.count)) []
          (drop (c.loop-at.at + c.in-Ends.count) c.args.piece.now))
          (stream.lines_from c.args.side c.args.place [] c.args.piece.now))
          (sym c.in_ok-add-in-Ends.ensures.ok)
          (continues_line c.args.side c.args.place c.loop-at.at c.in-Ends.count c.args.piece.now c.add_whole.new.units.items
          (option_to_list c.into_unit.result) c.loop-at.begun c.scan.new.self inv.fresh scanned ended so_far);
    }
