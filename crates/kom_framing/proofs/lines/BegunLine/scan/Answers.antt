use Rattle.std.proofs.Common.{List, ℕ, ◌+◌, length, arith, subst}
use Rattle.std.proofs.lemmas.List.{take_rest}
use Rattle.kom_framing.specs.BegunLines.{FailsAt}
use Rattle.kom_framing.proofs.BegunLines.{IsWindow, scans_on, scans_past, scans_to, scans_unfit, same_line}
use Rattle.kom_framing.proofs.lines.BegunLine.scan.Goals as goal

pub returns-then-window-piece : goal.returns-then-window-piece
returns-then-window-piece c =
    let w : IsWindow c.window_of-window.result.now c.args.piece.now = record {
      prefix = c.window_of-window.ensures.prefix;
      within = c.window_of-window.ensures.within;
    } in
    let taken = rw c.in-Goes.is at c.in_ok-take.ensures in
    scans_on c.args.side c.args.place c.args.self.now c.take.new.self c.window_of-window.result.now c.args.piece.now w
    c.if-window-piece.true c.window_of-window.ensures.place taken

pub returns-else-window-piece : goal.returns-else-window-piece
returns-else-window-piece c =
    let w : IsWindow c.window_of-window.result.now c.args.piece.now = record {
      prefix = c.window_of-window.ensures.prefix;
      within = c.window_of-window.ensures.within;
    } in
    let taken = rw c.in-Goes.is at c.in_ok-take.ensures in
    let fails =
    subst (λ (rest : List ℕ). FailsAt c.args.side (c.args.place + length c.window_of-window.result.now)
    c.take.new.self.text.items rest c.fault_at.result)
    (take_rest c.args.piece.now (length c.window_of-window.result.now)) c.fault_at.ensures in (
      scans_past c.args.side c.args.place c.args.self.now c.take.new.self c.window_of-window.result.now c.args.piece.now
          c.fault_at.result w c.window_of-window.ensures.place taken fails,
      taken.1,
    )

pub returns-in-Ends : goal.returns-in-Ends
returns-in-Ends c =
    let w : IsWindow c.window_of-window.result.now c.args.piece.now = record {
      prefix = c.window_of-window.ensures.prefix;
      within = c.window_of-window.ensures.within;
    } in
    let taken = rw c.in-Ends.is at c.in_ok-take.ensures in
    scans_to c.args.side c.in-Ends.count c.args.place c.args.self.now c.take.new.self c.window_of-window.result.now
    c.args.piece.now
    w c.window_of-window.ensures.place (omega (arith, c.window_of-window.ensures.short, c.len.ensures)) taken

pub returns-in-Unfit : goal.returns-in-Unfit
returns-in-Unfit c =
    let w : IsWindow c.window_of-window.result.now c.args.piece.now = record {
      prefix = c.window_of-window.ensures.prefix;
      within = c.window_of-window.ensures.within;
    } in
    let taken = rw c.in-Unfit.is at c.in_ok-take.ensures in (
      scans_unfit c.args.side c.in-Unfit.at c.args.place c.args.self.now c.window_of-window.result.now c.args.piece.now
          w
          c.window_of-window.ensures.place (omega (arith, c.window_of-window.ensures.short, c.len.ensures)) taken.1,
      same_line c.args.side c.args.self.now c.take.new.self taken.0 c.requires.line,
    )
