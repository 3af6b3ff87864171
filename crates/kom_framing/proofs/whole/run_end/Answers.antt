use Rattle.kom_framing.proofs.WholeTokens.{run_token}
use Rattle.kom_framing.proofs.whole.run_end.Goals as goal

pub returns-else-end-window : goal.returns-else-end-window
returns-else-end-window c =
    run_token c.args.window.now c.args.start c.digits_from-end.result.0 c.digits_from-end.result.1
    c.digits_from-end.ensures
