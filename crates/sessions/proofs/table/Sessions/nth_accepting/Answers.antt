use Rattle.std.proofs.Common.{◌∙◌, sym, ap}
use Rattle.std.specs.Prelude.{slice_get}
use Rattle.indexmap.specs.IndexMap.{values}
use Rattle.sessions.proofs.Kept.{nth-there, nth-absent}
use Rattle.sessions.proofs.table.Sessions.nth_accepting.Goals as goal

pub returns-in_err-session : goal.returns-in_err-session
returns-in_err-session c =
    rw (c.from_residual.ensures, ← c.self.view_is)
    (sym (nth-absent c.args.message (values c.self.inside.rows) c.args.place
    (c.in_err-session.ensures ∙ ap (λ list. slice_get list c.args.place)
    (c.self.invariant.1.numbers c.args.message c.requires))))

pub returns : goal.returns
returns c =
    c.seat.ensures ∙ rw (← c.self.view_is) (nth-there c.args.message (values c.self.inside.rows) c.args.place
    c.in_ok-session.session c.self.invariant.0
    (c.in_ok-session.ensures ∙ ap (λ list. slice_get list c.args.place)
    (c.self.invariant.1.numbers c.args.message c.requires)))
