use Rattle.std.proofs.Common.{ℕ, List, ◌++◌, take, drop, arith, sym, subst}
use Rattle.kom_framing.specs.declared.lexer.Lexer.{Lexer}
use Rattle.kom_framing.specs.declared.lexer.Lexer.TheVariants as lexer
use Rattle.kom_framing.specs.Scanning.{Does, IsLexer}
use Rattle.kom_framing.proofs.Steps.{does_window_move, length_seen, inside_within}
use Rattle.kom_framing.proofs.lexer.Lexer.step.Goals as goal

pub step_inside-requires-clause-room : goal.step_inside-requires-clause-room
step_inside-requires-clause-room c =
    let bytes : List ℕ = c.args.text.now ++ take c.args.at c.args.window.now in
    let inside = subst (λ (l : Lexer). IsLexer l bytes) c.in-Inside.is c.requires.lexer in
    omega (
      arith,
      inside_within c.in-Inside.start c.in-Inside.lacking bytes inside,
      length_seen c.args.text.now c.args.window.now c.args.at c.requires.some,
      c.requires.room,
      c.requires.some,
    )

pub returns-in-Between : goal.returns-in-Between
returns-in-Between c =
    let bytes : List ℕ = c.args.text.now ++ take c.args.at c.args.window.now in
    let moved =
    c.step_between.ensures bytes (length_seen c.args.text.now c.args.window.now c.args.at c.requires.some) in
    subst (λ (l : Lexer). Does c.args.side c.step_between.result l bytes (drop c.args.at c.args.window.now))
    (sym c.in-Between.is)
    (does_window_move c.args.side c.step_between.result lexer.Between bytes c.args.window.now c.args.at c.requires.some
    moved)

pub returns-in-Run : goal.returns-in-Run
returns-in-Run c =
    let bytes : List ℕ = c.args.text.now ++ take c.args.at c.args.window.now in
    let run = subst (λ (l : Lexer). IsLexer l bytes) c.in-Run.is c.requires.lexer in
    let moved =
    c.step_in_run.ensures c.args.side bytes
    (length_seen c.args.text.now c.args.window.now c.args.at c.requires.some) run in
    subst (λ (l : Lexer). Does c.args.side c.step_in_run.result l bytes (drop c.args.at c.args.window.now))
    (sym c.in-Run.is)
    (does_window_move c.args.side c.step_in_run.result
    (lexer.Run c.in-Run.start c.in-Run.number) bytes c.args.window.now
    c.args.at c.requires.some moved)

pub returns-in-AfterSign : goal.returns-in-AfterSign
returns-in-AfterSign c =
    let bytes : List ℕ = c.args.text.now ++ take c.args.at c.args.window.now in
    let after = subst (λ (l : Lexer). IsLexer l bytes) c.in-AfterSign.is c.requires.lexer in
    let moved =
    c.step_after_sign.ensures c.args.side bytes
    (length_seen c.args.text.now c.args.window.now c.args.at c.requires.some) after in
    subst (λ (l : Lexer). Does c.args.side c.step_after_sign.result l bytes (drop c.args.at c.args.window.now))
    (sym c.in-AfterSign.is)
    (does_window_move c.args.side c.step_after_sign.result (lexer.AfterSign c.in-AfterSign.start) bytes
    c.args.window.now c.args.at c.requires.some moved)
