use Rattle.std.proofs.Common.{List, ℕ, take, ap, ◌∙◌, arith}
use Rattle.std.proofs.lemmas.List.{take-take}
use Rattle.kom_framing.proofs.lines.text_of.Goals as goal

pub returns-then-window-ge-SHORT : goal.returns-then-window-ge-SHORT
returns-then-window-ge-SHORT c =
    c.from_buf_and_len.ensures.items
    ∙ ap (λ (bytes : List ℕ). take c.args.count bytes) c.copy_from_slice.ensures.after
    ∙ take-take c.args.count 24 c.args.window.now (omega (arith, c.if-count-le-SHORT.true))
