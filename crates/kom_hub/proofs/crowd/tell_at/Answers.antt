use Rattle.std.proofs.Common.{sym}
use Rattle.kom_hub.proofs.Standing.{half_told}
use Rattle.kom_hub.proofs.crowd.tell_at.Goals as goal

pub returns-in_default : goal.returns-in_default
returns-in_default g c = λ begun before after gave gate heard half. half

pub returns : goal.returns
returns g c = λ begun before after gave gate heard half.
    half_told g.T.Converse.kept g.T.Converse.talks g.L.Link.view g.met.T.Converse.kept_on
    g.met.T.Converse.talks_on begun c.args.number before after gave c.args.crowd.now c.args.key c.in-Some.guest.now
    c.tell.new.self gate (sym c.in-Some.ensures.value) (c.tell.ensures before after heard) half
