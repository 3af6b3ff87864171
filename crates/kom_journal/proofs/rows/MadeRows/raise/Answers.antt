use Rattle.std.proofs.Common.{◌≡◌, true, sym, ap, subst}
use Rattle.kom_model.specs.Db.{Db}
use Rattle.kom_model.specs.Raising.{may_raise}
use Rattle.kom_journal.proofs.Wholeness.{whole_raised}
use Rattle.kom_journal.proofs.rows.MadeRows.raise.Goals as goal

pub invariant_of-self : goal.invariant_of-self
invariant_of-self c =
    whole_raised c.args.given c.self.inside.rows.db c.raise.new.self.db
    (subst (λ (db : Db). may_raise c.args.given db ≡ true) (sym (ap (λ stored. stored.db) c.self.view_is)) c.requires)
    c.raise.ensures c.self.invariant
