use Rattle.std.proofs.Common.{sym, subst, ap, ◌∙◌}
use Rattle.row_table.specs.Tables.{IsByNumber}
use Rattle.kom_types.specs.tables.Conferences.{number_of_conference}
use Rattle.kom_types.specs.tables.Memberships.{count_of}
use Rattle.kom_model.specs.Db.{Db}
use Rattle.kom_model.specs.Whole.{IsWhole}
use Rattle.memberships.specs.Table.{IsOrderly}
use Rattle.kom_state.proofs.Members.{length-memberships_of}
use Rattle.kom_state.proofs.Placed.{are_there, are_in_place, are_found}
use Rattle.kom_state.proofs.Secrecy.{found_by_secret}
use Rattle.kom_state.proofs.stored_rows.StoredRows.membership_count.Goals as goal

pub returns-clause-count : goal.returns-clause-count
returns-clause-count c =
    c.count_of_person.ensures.count ∙ ap (λ s. count_of c.args.person s.db.memberships) c.self.view_is
    ∙ sym (length-memberships_of c.args.self.now.db c.args.person)

pub returns-clause-there : goal.returns-clause-there
returns-clause-there c =
    are_there c.args.self.now.db c.args.person
    (subst IsWhole (ap (λ s. s.db) c.self.view_is) c.self.invariant.whole)

pub returns-clause-in_place : goal.returns-clause-in_place
returns-clause-in_place c =
    are_in_place c.args.self.now.db c.args.person
    (subst (λ (db : Db). IsOrderly db.memberships) (ap (λ s. s.db) c.self.view_is) c.count_of_person.ensures.orderly)

pub returns-clause-found : goal.returns-clause-found
returns-clause-found c =
    are_found c.args.self.now.db c.args.person
    (subst (λ (db : Db). IsOrderly db.memberships) (ap (λ s. s.db) c.self.view_is) c.count_of_person.ensures.orderly)

pub returns-clause-by_secret : goal.returns-clause-by_secret
returns-clause-by_secret c =
    found_by_secret c.args.self.now.db c.args.person
    (subst (IsByNumber number_of_conference) (ap (λ s. s.db.conferences) c.self.view_is)
    c.self.invariant.whole.conferences.rising)
    (subst (λ (db : Db). IsOrderly db.memberships) (ap (λ s. s.db) c.self.view_is) c.count_of_person.ensures.orderly)
