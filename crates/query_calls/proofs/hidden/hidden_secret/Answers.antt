use Rattle.std.proofs.Common.{◌&&◌, ℕ, Bool, not, ◌∙◌, rules, tests}
use Rattle.std.proofs.lemmas.Iterator.{YieldsList-from_slice}
use Rattle.std.proofs.lemmas.Iterator.Consumers.{YieldsList-at, YieldsList-from_filter}
use Rattle.std.proofs.lemmas.Iterator.Consumers.{count_from_yields_List}
use Rattle.std.proofs.lemmas.List.Sums.{length-filter}
use Rattle.kom_model.specs.Shown.{shows_membership}
use Rattle.query_calls.specs.Hidden.{is_before}
use Rattle.query_calls.proofs.HiddenRows.{hidden_secret}
use Rattle.query_calls.proofs.hidden.hidden_secret.Goals as goal

pub returns : goal.returns
returns c =
    let db = c.args.rows.now.db in
    let viewer = c.args.viewer.now in
    let person = c.args.person in
    let test : ℕ → Bool =
    λ conference. not (shows_membership db viewer person conference 32)
    && is_before db person c.args.first conference in
    count_from_yields_List c.filter.result c.count.result c.count.ensures.ran
    (YieldsList-from_filter _ test
    (YieldsList-at c.filter.ensures.source (YieldsList-from_slice c.secret_memberships.result.now c.iter.ensures.rest))
    c.filter.ensures.closure (λ x b q k. search (rules, tests)))
    ∙ length-filter test c.secret_memberships.result.now
    ∙ c.secret_memberships.ensures test
    ∙ hidden_secret db viewer person c.requires.in_place c.requires.found c.args.first
