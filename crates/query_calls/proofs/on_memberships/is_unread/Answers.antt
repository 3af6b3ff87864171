use Rattle.std.proofs.Common.{◌≡◌, ◌-◌, [], refl, sym, ap, ◌∙◌}
use Rattle.read_ranges.specs.Changed.{has_unread}
use Rattle.kom_model.specs.Db.{read_of, first_local_of}
use Rattle.kom_model.specs.calls.Memberships.{highest_of}
use Rattle.query_calls.proofs.Memberships.{unread_of_none}
use Rattle.query_calls.proofs.on_memberships.is_unread.Goals as goal

pub returns-in-None : goal.returns-in-None
returns-in-None c =
    let db = c.args.rows.now.db in
    let row = c.args.row.now in
    let first = c.first_local-first.result in
    let last = c.saturating_sub-last.result in
    let none : read_of db row.person row.conference ≡ [] = c.in-None.ensures.none refl in
    let highest : last ≡ highest_of db row.conference =
    c.saturating_sub-last.ensures ∙ ap (λ n. n - 1) c.next_local.ensures in
    sym (unread_of_none first last)
    ∙ ap (λ n. has_unread n last []) c.first_local-first.ensures
    ∙ ap (λ n. has_unread (first_local_of db row.conference) n []) highest
    ∙ ap (λ ranges. has_unread (first_local_of db row.conference) (highest_of db row.conference) ranges) (sym none)
