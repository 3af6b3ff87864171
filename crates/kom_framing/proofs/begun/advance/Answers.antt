use Rattle.std.proofs.Common.{◌+◌, ℕ, List, Ok, subst}
use Rattle.std.proofs.lemmas.Result.{err_from_is_err_and}
use Rattle.kom_framing.specs.declared.lines.Scan.{Scan}
use Rattle.kom_framing.specs.Advancing.{ScansUnit}
use Rattle.kom_framing.specs.WholeLines.{AreLines}
use Rattle.kom_framing.proofs.WholeLines.{piece_left}
use Rattle.kom_framing.proofs.Advancing.{unit_goes_on, unit_goes_wrong, unit_goes_past, unit_stays}
use Rattle.kom_framing.proofs.begun.advance.Goals as goal

pub returns-in_err-scan-clause-advances : goal.returns-in_err-scan-clause-advances
returns-in_err-scan-clause-advances c =
    let p = err_from_is_err_and c.from_residual.result c.from_residual.ensures.1 in
    rw p.1
    (unit_stays c.args.side c.args.place c.args.begun.now c.scan.new.self c.args.piece.now _ c.in_err-scan.ensures
    c.requires.kept)

pub returns-in-Goes-clause-advances : goal.returns-in-Goes-clause-advances
returns-in-Goes-clause-advances c =
    let scanned = subst
    (λ (s : Scan). ScansUnit c.args.side (Ok s) c.args.place c.args.begun.now c.args.piece.now c.scan.new.self)
    c.in-Goes.is c.in_ok-scan.ensures in
    unit_goes_on c.args.side c.args.units.now.items c.args.place c.args.begun.now c.scan.new.self c.args.piece.now
    scanned

pub returns-in-Fails-clause-advances : goal.returns-in-Fails-clause-advances
returns-in-Fails-clause-advances c =
    let scanned = subst
    (λ (s : Scan). ScansUnit c.args.side (Ok s) c.args.place c.args.begun.now c.args.piece.now c.scan.new.self)
    c.in-Fails.is c.in_ok-scan.ensures in
    unit_goes_wrong c.args.side c.args.units.now.items c.args.place c.args.begun.now c.scan.new.self c.args.piece.now
    c.in-Fails.found scanned

pub returns-in-Ok-clause-advances : goal.returns-in-Ok-clause-advances
returns-in-Ok-clause-advances c =
    let scanned = subst
    (λ (s : Scan). ScansUnit c.args.side (Ok s) c.args.place c.args.begun.now c.args.piece.now c.scan.new.self)
    c.in-Ends.is c.in_ok-scan.ensures in
    unit_goes_past c.args.side c.args.units.now.items c.args.place c.in-Ends.count c.args.begun.now c.scan.new.self
    c.args.piece.now
    c.in-Ok.lines scanned
    (subst (λ (rest : List ℕ). AreLines c.args.side c.in-Ok.lines (c.args.place + c.in-Ends.count) rest)
    (piece_left c.args.piece.now c.in-Ends.count) c.in-Ok.ensures.lines)
