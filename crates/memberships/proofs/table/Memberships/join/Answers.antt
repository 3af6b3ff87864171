use Rattle.std.proofs.Common.{false, insert, Some, cond, refl, ap, ◌∙◌, arith}
use Rattle.std.proofs.lemmas.Result.{IfOk-at_ok}
use Rattle.kom_types.specs.tables.Memberships.{is_secret_membership, membership_of, with_membership}
use Rattle.indexmap.specs.IndexMap.{Updates}
use Rattle.read_ranges.specs.Reads.{with_reader}
use Rattle.row_slots.specs.Lists.{list_of}
use Rattle.memberships.specs.Entries.{Key, same_key, kept_of, rows_of, kept_at}
use Rattle.memberships.specs.Table.{Table, room_of_person, room_of_conference}
use Rattle.memberships.proofs.Finding.{absent_kept}
use Rattle.memberships.proofs.Joining.{Joins, IsTable-joined}
use Rattle.memberships.proofs.JoinedRows.{with_joined}
use Rattle.memberships.proofs.ReadRows.{reads_joined}
use Rattle.memberships.proofs.Rooms.{sets_list, room_in-both, both_fall, both_same, falls_by_one}
use Rattle.memberships.proofs.Secrets.{Changes, AreSecrets-after, relisted}
use Rattle.memberships.proofs.SecretRows.{changes_joined}
use Rattle.memberships.proofs.Turns.{Sets}
use Rattle.memberships.proofs.table.Memberships.join.Goals as goal
use Rattle.memberships.proofs.table.Memberships.join.Goals.{After-push}

pub insert-requires-2 : goal.insert-requires-2
insert-requires-2 c =
    let same = ap (λ (t : Table). room_of_person t c.args.row.now.person) c.self.view_is in
    omega (
      arith,
      same,
      room_in-both c.self.inside.conferences c.self.inside.secret_conferences c.args.row.now.person,
      c.requires.room.of_person,
    )

pub push-requires : goal.push-requires
push-requires c =
    let same = ap (λ (t : Table). room_of_conference t c.args.row.now.conference) c.self.view_is in
    omega (
      arith,
      same,
      room_in-both c.self.inside.persons c.self.inside.secret_persons c.args.row.now.conference,
      c.requires.room.of_conference,
    )

joins : (c : After-push) →
    Joins c.self.inside.entries.entries c.insert.new.self.entries c.self.inside.next_turn c.args.row.now.person
    c.args.row.now.conference
    (kept_of c.args.row.now c.self.inside.next_turn c.args.row.now.last_time_read c.new-read.result)
joins c =
    let here : Key = (c.args.row.now.person, c.args.row.now.conference) in
    let updates = IfOk-at_ok
    (λ _. Updates same_key c.self.inside.entries c.insert.new.self here (Some c.of-kept.result))
    c.unwrap-none.ensures c.insert.ensures.updates in
    record {
      absent = absent_kept _ _ _ _ c.self.invariant.0 c.args.row.now.person c.args.row.now.conference
          (ap (λ (t : Table). membership_of c.args.row.now.person c.args.row.now.conference t.rows) c.self.view_is
          ∙ c.requires.absent);
      last = refl;
      unread = c.new-read.ensures.none;
      unique = c.insert.ensures.unique;
      changed = λ key. updates.0 key
          ∙ ap (λ kept. cond (same_key here key) (Some kept) (kept_at key c.self.inside.entries.entries))
          c.of-kept.ensures;
    }

-- the conference is put into the list of the person, and the person into that of the conference
put : (c : After-push) →
    Sets (list_of c.self.inside.conferences) (list_of c.insert-2.new.self) c.args.row.now.person
    (insert (list_of c.self.inside.conferences c.args.row.now.person) c.args.row.now.position
    c.args.row.now.conference)
put c = sets_list _ _ _ _ c.insert-2.ensures.others c.insert-2.ensures.list

changes : (c : After-push) →
    Changes (rows_of (list_of c.self.inside.conferences) c.self.inside.entries.entries)
    (rows_of (list_of c.insert-2.new.self) c.insert.new.self.entries) c.args.row.now.person c.args.row.now.conference
    false (is_secret_membership c.args.row.now.kind)
changes c = changes_joined _ _ _ _ _ _ c.self.invariant.0 c.args.row.now _ _ refl (joins c) (put c)

pub relist-requires-clause-room : goal.relist-requires-clause-room
relist-requires-clause-room c =
    λ none secret.
    let same = ap (λ (t : Table). room_of_person t c.args.row.now.person) c.self.view_is in
    omega (
      arith,
      same,
      room_in-both c.self.inside.conferences c.self.inside.secret_conferences c.args.row.now.person,
      c.requires.room.of_person,
    )

pub relist-requires-2-clause-room : goal.relist-requires-2-clause-room
relist-requires-2-clause-room c =
    λ none secret.
    let same = ap (λ (t : Table). room_of_conference t c.args.row.now.conference) c.self.view_is in
    omega (
      arith,
      same,
      room_in-both c.self.inside.persons c.self.inside.secret_persons c.args.row.now.conference,
      c.requires.room.of_conference,
    )

pub invariant_of-self : goal.invariant_of-self
invariant_of-self c =
    let at = (goal.at.invariant_of-self c).After-push in (
      IsTable-joined _ _ _ _ _ _ _ _ c.self.invariant.0 (joins at) c.args.row.now.position _ _ (put at)
          (sets_list _ _ _ _ c.push.ensures.others c.push.ensures.list),
      AreSecrets-after _ _ _ _ c.self.invariant.1 _ _ false (is_secret_membership c.args.row.now.kind) (changes at) _ _
          (rw (← c.is_secret-is.ensures)
          (relisted c.self.inside.secret_conferences c.relist.new.lists _ _ false c.is_secret-is.result
          c.relist.ensures.list c.relist.ensures.others))
          (rw (← c.is_secret-is.ensures)
          (relisted c.self.inside.secret_persons c.relist-2.new.lists _ _ false c.is_secret-is.result
          c.relist-2.ensures.list c.relist-2.ensures.others)),
    )

pub returns-clause-rows : goal.returns-clause-rows
returns-clause-rows c =
    let at = (goal.at.returns-clause-rows c).After-push in
    with_joined _ _ _ _ _ _ c.args.row.now _ c.self.invariant.0 (joins at) (put at)
    ∙ ap (λ (t : Table). with_membership c.args.row.now t.rows) c.self.view_is

pub returns-clause-reads : goal.returns-clause-reads
returns-clause-reads c =
    reads_joined _ _ _ _ c.self.invariant.0 c.args.row.now.person c.args.row.now.conference _ _
    (joins (goal.at.returns-clause-reads c).After-push)
    ∙ ap (λ (t : Table). with_reader c.args.row.now.person c.args.row.now.conference t.reads) c.self.view_is

pub returns-clause-room : goal.returns-clause-room
returns-clause-room c =
    rw (← c.self.view_is)
    (record {
      spare = omega (arith, c.insert.ensures.spare);
      of_person = both_fall c.self.inside.conferences c.insert-2.new.self c.self.inside.secret_conferences
          c.relist.new.lists c.args.row.now.person (omega (arith, c.insert-2.ensures.room))
          (falls_by_one _ _ false c.is_secret-is.result c.relist.ensures.room);
      of_conference = both_fall c.self.inside.persons c.push.new.self c.self.inside.secret_persons
          c.relist-2.new.lists c.args.row.now.conference (omega (arith, c.push.ensures.room))
          (falls_by_one _ _ false c.is_secret-is.result c.relist-2.ensures.room);
      other_persons = λ other unlike. both_same c.self.inside.conferences c.insert-2.new.self
          c.self.inside.secret_conferences c.relist.new.lists other
          (c.insert-2.ensures.others.rooms other unlike) (c.relist.ensures.others.rooms other unlike);
      other_conferences = λ other unlike. both_same c.self.inside.persons c.push.new.self
          c.self.inside.secret_persons c.relist-2.new.lists other
          (c.push.ensures.others.rooms other unlike) (c.relist-2.ensures.others.rooms other unlike);
    })
