use Rattle.std.proofs.Common.{ℕ, List, max, sym, ap, subst, ◌∙◌, arith}
use Rattle.kom_letters.specs.Charsets.{letters_of}
use Rattle.kom_letters.specs.Lines.{visible_letters}
use Rattle.kom_letters.specs.Showing.{IsHarmlessFrom}
use Rattle.kom_letters.proofs.Harmless.{harmless_text, seen_text}
use Rattle.kom_letters.proofs.showing.show.Goals as goal

pub returns-clause-harmless : goal.returns-clause-harmless
returns-clause-harmless c =
    subst (λ (cs : List ℕ). IsHarmlessFrom (max c.args.columns 20) c.args.start cs) (sym c.in_ok-text.ensures)
    (harmless_text (max c.args.columns 20) c.args.start (letters_of c.args.charset c.args.bytes.now) (omega arith))

pub returns-clause-seen : goal.returns-clause-seen
returns-clause-seen c =
    ap visible_letters c.in_ok-text.ensures
    ∙ seen_text (max c.args.columns 20) c.args.start (letters_of c.args.charset c.args.bytes.now)
