use Rattle.std.proofs.Common.{◌≡◌, length, vec_len, arith, sym, subst, ◌∙◌}
use Rattle.kom_framing.specs.BegunGreetings.{IsGreeting}
use Rattle.kom_framing.proofs.BegunLines.{IsWindow}
use Rattle.kom_framing.proofs.BegunGreetings.{greets_on, greets_late, greets_to, greets_unfit}
use Rattle.kom_framing.proofs.greeting.Greeting.scan.Goals as goal

pub returns-then-window-piece : goal.returns-then-window-piece
returns-then-window-piece c =
    let w : IsWindow c.window_of-window.result.now c.args.piece.now = record {
      prefix = c.window_of-window.ensures.prefix;
      within = c.window_of-window.ensures.within;
    } in
    let hears = rw c.in-Ok-Goes.field-0-is at c.in-Ok-Goes.ensures.hears in
    greets_on c.args.place c.args.self.now _ c.window_of-window.result.now c.args.piece.now w c.if-window-piece.true
    c.window_of-window.ensures.place hears.0 hears.1

pub returns-else-window-piece : goal.returns-else-window-piece
returns-else-window-piece c =
    let w : IsWindow c.window_of-window.result.now c.args.piece.now = record {
      prefix = c.window_of-window.ensures.prefix;
      within = c.window_of-window.ensures.within;
    } in
    let hears = rw c.in-Ok-Goes.field-0-is at c.in-Ok-Goes.ensures.hears in (
      greets_late c.args.place c.args.self.now c.window_of-window.result.now c.args.piece.now _ w
          (omega (arith, c.window_of-window.ensures.within, c.if-window-piece.false))
          (c.window_of-window.ensures.full c.if-window-piece.false) hears.0,
      hears.1,
    )

pub returns-in-Ok-Ends : goal.returns-in-Ok-Ends
returns-in-Ok-Ends c =
    let w : IsWindow c.window_of-window.result.now c.args.piece.now = record {
      prefix = c.window_of-window.ensures.prefix;
      within = c.window_of-window.ensures.within;
    } in
    let hears = rw c.in-Ok-Ends.field-0-is at c.in-Ok-Ends.ensures.hears in
    greets_to c.in-Ok-Ends.count c.args.place c.args.self.now _ c.window_of-window.result.now c.args.piece.now w
    c.window_of-window.ensures.place c.in-Ok-Ends.ensures.lengthens hears

pub returns-in-Ok-Unfit : goal.returns-in-Ok-Unfit
returns-in-Ok-Unfit c =
    let w : IsWindow c.window_of-window.result.now c.args.piece.now = record {
      prefix = c.window_of-window.ensures.prefix;
      within = c.window_of-window.ensures.within;
    } in
    let hears = rw c.in-Ok-Unfit.field-0-is at c.in-Ok-Unfit.ensures.hears in
    let known : vec_len c.args.self.now.name ≡ length c.args.self.now.name.items = omega arith in
    let kept = c.in-Ok-Unfit.ensures.lengthens in
    let same = c.truncate.ensures.items ∙ rw (c.len-known.ensures, known) kept in (
      greets_unfit c.in-Ok-Unfit.at c.args.place c.args.self.now c.window_of-window.result.now c.args.piece.now w
          c.window_of-window.ensures.place hears,
      subst (IsGreeting c.args.self.now.phase) (sym same) c.requires.greeting,
    )
