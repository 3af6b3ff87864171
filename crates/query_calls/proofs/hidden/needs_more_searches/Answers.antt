use Rattle.std.proofs.Common.{◌≡◌, Bool, true, false, ◌||◌, ◌∙◌, length, ltb, ap, sym}
use Rattle.std.proofs.lemmas.Bool.{lt-ltb, le-ltb}
use Rattle.query_calls.specs.Hidden.{unseen_count}
use Rattle.query_calls.proofs.HiddenRows.{secret_counted}
use Rattle.query_calls.proofs.hidden.needs_more_searches.Goals as goal

pub returns-then-searches-secret_memberships : goal.returns-then-searches-secret_memberships
returns-then-searches-secret_memberships c =
    let db = c.args.rows.now.db in
    let viewer = c.args.viewer.now in
    let numbers = c.secret_memberships.result.now in
    let unseen : Bool = ltb c.args.searches (unseen_count db viewer c.args.person) in
    let many : ltb c.args.searches (length numbers) ≡ true =
    lt-ltb c.args.searches (length numbers) c.if-searches-secret_memberships.true in
    many ∙ ap (λ b. b || unseen) (sym many)
    ∙ ap (λ n. ltb c.args.searches n || unseen)
    (secret_counted db viewer c.args.person numbers c.secret_memberships.ensures)

pub returns-else-searches-secret_memberships : goal.returns-else-searches-secret_memberships
returns-else-searches-secret_memberships c =
    let db = c.args.rows.now.db in
    let viewer = c.args.viewer.now in
    let numbers = c.secret_memberships.result.now in
    let unseen : Bool = ltb c.args.searches (unseen_count db viewer c.args.person) in
    let few : ltb c.args.searches (length numbers) ≡ false =
    le-ltb c.args.searches (length numbers) c.if-searches-secret_memberships.false in
    ap (ltb c.args.searches) c.unseen_count.ensures ∙ ap (λ b. b || unseen) (sym few)
    ∙ ap (λ n. ltb c.args.searches n || unseen)
    (secret_counted db viewer c.args.person numbers c.secret_memberships.ensures)
