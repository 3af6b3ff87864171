use Rattle.std.proofs.Common.{◌&&◌, ℕ, Bool, List, is_some, ap, ◌∙◌, rules, tests}
use Rattle.std.specs.List.{count_by}
use Rattle.std.proofs.lemmas.Iterator.{YieldsList-from_slice}
use Rattle.std.proofs.lemmas.Iterator.Consumers.{YieldsList-at, YieldsList-from_filter}
use Rattle.std.proofs.lemmas.Iterator.Consumers.{count_from_yields_List}
use Rattle.std.proofs.lemmas.List.Sums.{length-filter}
use Rattle.kom_model.specs.Db.{membership_of}
use Rattle.query_calls.specs.Hidden.{is_before, is_unseen}
use Rattle.query_calls.proofs.HiddenRows.{hidden_plain}
use Rattle.query_calls.proofs.hidden.hidden_plain.Goals as goal

pub returns : goal.returns
returns c =
    let db = c.args.rows.now.db in
    let viewer = c.args.viewer.now in
    let person = c.args.person in
    let test : ℕ → Bool =
    λ conference. is_unseen db viewer person conference && is_before db person c.args.first conference in
    let found : ℕ → Bool = λ conference. is_some (membership_of db person conference) && test conference in
    count_from_yields_List c.filter.result c.count.result c.count.ensures.ran
    (YieldsList-from_filter _ found
    (YieldsList-at c.filter.ensures.source (YieldsList-from_slice c.secret_conferences.result.now c.iter.ensures.rest))
    c.filter.ensures.closure (λ x b q k. search (rules, tests)))
    ∙ length-filter found c.secret_conferences.result.now
    ∙ ap (λ (numbers : List ℕ). count_by found numbers) c.secret_conferences.ensures
    ∙ c.requires.by_secret test
    ∙ hidden_plain db viewer person c.requires.in_place c.requires.found c.args.first c.requires.there
