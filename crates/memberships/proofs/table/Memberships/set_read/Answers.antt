use Rattle.std.proofs.Common.{◌≡◌, Some, None, is_some, cond, refl, sym, ap, ◌∙◌}
use Rattle.std.specs.Option.{option_copied_mut}
use Rattle.read_ranges.specs.Merged.{merge_all}
use Rattle.read_ranges.specs.Reads.{with_read, read_at}
use Rattle.memberships.specs.Entries.{Key, same_key, kept_with_read, reads_of, kept_at}
use Rattle.memberships.specs.Table.{Table}
use Rattle.memberships.proofs.Renewing.{Renews, IsTable-kept}
use Rattle.memberships.proofs.ReadRows.{rows_none, unread_none, rows_read, reads_set}
use Rattle.memberships.proofs.Secrets.{AreSecrets-read}
use Rattle.memberships.proofs.table.Memberships.set_read.Goals as goal

absent : (c : goal.After-drop-ranges) →
    kept_at (c.args.person, c.args.conference) c.self.inside.entries.entries ≡ None
absent c = sym c.get_mut.ensures.value ∙ ap option_copied_mut c.in_default.is

pub returns-in_default-clause-rows : goal.returns-in_default-clause-rows
returns-in_default-clause-rows c =
    rw (c.get_mut.follows.holds-at-none, ← c.self.view_is)
    (rows_none _ _ _ _ c.self.invariant.0 c.args.person c.args.conference c.args.at (absent c))

pub returns-in_default-clause-reads : goal.returns-in_default-clause-reads
returns-in_default-clause-reads c =
    rw (c.get_mut.follows.holds-at-none, ← c.self.view_is)
    (unread_none _ _ _ _ c.self.invariant.0 c.args.person c.args.conference (merge_all c.args.ranges.items) (absent c))

renews : (c : goal.After-self-2-1) →
    Renews c.self.inside.entries.entries (c.get_mut.follows.lender c.set_read.new.self).entries c.args.person
    c.args.conference c.in-Some.kept.now (kept_with_read c.args.at c.from_list.result c.in-Some.kept.now)
renews c =
    let here : Key = (c.args.person, c.args.conference) in
    let there : kept_at here c.self.inside.entries.entries ≡ Some c.in-Some.kept.now =
    sym c.get_mut.ensures.value ∙ ap option_copied_mut c.in-Some.is in
    let wrote = c.get_mut.follows.holds c.set_read.new.self in
    record {
      there = there;
      same_turn = refl;
      unique = wrote.4;
      changed = λ key. (wrote.3 (ap is_some there)).0 key
          ∙ ap (λ kept. cond (same_key here key) (Some kept) (kept_at key c.self.inside.entries.entries))
          c.set_read.ensures;
    }

pub invariant_of-self-2 : goal.invariant_of-self-2
invariant_of-self-2 c = (
  IsTable-kept _ _ _ _ _ _ _ _ _ c.self.invariant.0 (renews c),
  AreSecrets-read _ _ _ _ c.self.invariant.1 c.args.person c.args.conference c.args.at
      (rows_read _ _ _ _ c.self.invariant.0 c.args.person c.args.conference _ _ _ _ (renews c)),
)

pub returns-clause-rows : goal.returns-clause-rows
returns-clause-rows c =
    rows_read _ _ _ _ c.self.invariant.0 c.args.person c.args.conference _ _ _ _ (renews c)
    ∙ ap (λ (t : Table). read_at c.args.person c.args.conference c.args.at t.rows) c.self.view_is

pub returns-clause-reads : goal.returns-clause-reads
returns-clause-reads c =
    reads_set _ _ _ _ c.self.invariant.0 c.args.person c.args.conference _ _ _ (renews c)
    ∙ ap (λ ranges. with_read c.args.person c.args.conference ranges (reads_of c.self.inside.entries.entries))
    c.from_list.ensures.ranges
    ∙ ap (λ (t : Table). with_read c.args.person c.args.conference (merge_all c.args.ranges.items) t.reads)
    c.self.view_is
