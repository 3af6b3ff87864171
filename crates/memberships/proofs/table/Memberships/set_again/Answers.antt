use Rattle.std.proofs.Common.{◌≡◌, nat_eq, cond, is_some, insert, Some, refl, sym, ap, ◌∙◌, arith}
use Rattle.std.specs.Option.{option_copied_mut}
use Rattle.std.specs.Set.{remove_key}
use Rattle.kom_types.specs.tables.Memberships.{is_secret_membership, membership_of, with_membership}
use Rattle.read_ranges.specs.Reads.{with_reader}
use Rattle.row_slots.specs.Lists.{list_of, room_of}
use Rattle.memberships.specs.Entries.{Key, same_key, kept_of, rows_of, kept_at}
use Rattle.memberships.specs.Table.{Table, room_of_person, room_of_conference}
use Rattle.memberships.proofs.Finding.{there_kept}
use Rattle.memberships.proofs.ReadRows.{reads_stay}
use Rattle.memberships.proofs.Renewing.{Renews, IsTable-renewed}
use Rattle.memberships.proofs.RenewedRows.{with_renewed}
use Rattle.memberships.proofs.Rooms.{is_some_copied, room_in-both, both_fall, both_same, falls_by_one}
use Rattle.memberships.proofs.Secrets.{Changes, AreSecrets-after, person_there, conference_there, relisted}
use Rattle.memberships.proofs.SecretRows.{changes_renewed}
use Rattle.memberships.proofs.Turns.{Sets}
use Rattle.memberships.proofs.table.Memberships.set_again.Goals as goal
use Rattle.memberships.proofs.table.Memberships.set_again.Goals.{After-insert}

pub unwrap-kept-requires : goal.unwrap-kept-requires
unwrap-kept-requires c =
    let same = ap (λ (t : Table). membership_of c.args.row.now.person c.args.row.now.conference t.rows)
    c.self.view_is in
    let there = there_kept _ _ _ _ c.self.invariant.0 c.args.row.now.person c.args.row.now.conference
    (ap is_some same ∙ c.requires.there) in
    is_some_copied _ (ap is_some (c.get_mut.ensures.value ∙ there.1))

renews : (c : After-insert) →
    Renews c.self.inside.entries.entries (c.get_mut.follows.lender c.renew.new.self).entries c.args.row.now.person
    c.args.row.now.conference c.unwrap-kept.result.now
    (kept_of c.args.row.now c.unwrap-kept.result.now.turn c.unwrap-kept.result.now.last_time_read
    c.unwrap-kept.result.now.read)
renews c =
    let here : Key = (c.args.row.now.person, c.args.row.now.conference) in
    let there : kept_at here c.self.inside.entries.entries ≡ Some c.unwrap-kept.result.now =
    sym c.get_mut.ensures.value ∙ ap option_copied_mut c.unwrap-kept.ensures in
    let wrote = c.get_mut.follows.holds c.renew.new.self in
    record {
      there = there;
      same_turn = refl;
      unique = wrote.4;
      changed = λ key. (wrote.3 (ap is_some there)).0 key
          ∙ ap (λ kept. cond (same_key here key) (Some kept) (kept_at key c.self.inside.entries.entries))
          c.renew.ensures;
    }

moves : (c : After-insert) →
    Sets (list_of c.self.inside.conferences) (list_of c.insert.new.self) c.args.row.now.person
    (insert (remove_key (nat_eq c.args.row.now.conference) (list_of c.self.inside.conferences c.args.row.now.person))
    c.args.row.now.position c.args.row.now.conference)
moves c = record {
  here = c.insert.ensures.list
      ∙ ap (λ l. insert l c.args.row.now.position c.args.row.now.conference) c.remove.ensures.list;
  others = λ other unlike. c.insert.ensures.others.lists other unlike ∙ c.remove.ensures.others.lists other unlike;
}

changes : (c : After-insert) →
    Changes (rows_of (list_of c.self.inside.conferences) c.self.inside.entries.entries)
    (rows_of (list_of c.insert.new.self) (c.get_mut.follows.lender c.renew.new.self).entries) c.args.row.now.person
    c.args.row.now.conference c.is_secret-was.result (is_secret_membership c.args.row.now.kind)
changes c =
    changes_renewed _ _ _ _ _ _ c.self.invariant.0 c.args.row.now _ _ _ c.is_secret-was.ensures refl (renews c)
    (moves c)

pub relist-requires-clause-there : goal.relist-requires-clause-there
relist-requires-clause-there c =
    λ secret none.
    let at = (goal.at.relist-requires-clause-there c).After-insert in
    person_there _ _ _ _ c.self.invariant.1 _ _ c.is_secret-was.result (is_secret_membership c.args.row.now.kind)
    (changes at) secret (sym c.is_secret-is.ensures ∙ none)

pub relist-requires-clause-room : goal.relist-requires-clause-room
relist-requires-clause-room c =
    λ none secret.
    let same = ap (λ (t : Table). room_of_person t c.args.row.now.person) c.self.view_is in
    omega (
      arith,
      same,
      room_in-both c.self.inside.conferences c.self.inside.secret_conferences c.args.row.now.person,
      c.requires.room.of_person,
    )

pub relist-requires-2-clause-there : goal.relist-requires-2-clause-there
relist-requires-2-clause-there c =
    λ secret none.
    let at = (goal.at.relist-requires-2-clause-there c).After-insert in
    conference_there _ _ _ _ c.self.invariant.1 _ _ c.is_secret-was.result (is_secret_membership c.args.row.now.kind)
    (changes at) secret (sym c.is_secret-is.ensures ∙ none)

pub relist-requires-2-clause-room : goal.relist-requires-2-clause-room
relist-requires-2-clause-room c =
    λ none secret.
    let same = ap (λ (t : Table). room_of_conference t c.args.row.now.conference) c.self.view_is in
    omega (
      arith,
      same,
      room_in-both c.self.inside.persons c.self.inside.secret_persons c.args.row.now.conference,
      c.requires.room.of_conference,
    )

pub invariant_of-self : goal.invariant_of-self
invariant_of-self c =
    let at = (goal.at.invariant_of-self c).After-insert in (
      IsTable-renewed _ _ _ _ _ _ _ _ _ c.self.invariant.0 (renews at) _ _ (moves at),
      AreSecrets-after _ _ _ _ c.self.invariant.1 _ _ c.is_secret-was.result
          (is_secret_membership c.args.row.now.kind) (changes at) _ _
          (rw (← c.is_secret-is.ensures)
          (relisted c.self.inside.secret_conferences c.relist.new.lists _ _ c.is_secret-was.result
          c.is_secret-is.result c.relist.ensures.list c.relist.ensures.others))
          (rw (← c.is_secret-is.ensures)
          (relisted c.self.inside.secret_persons c.relist-2.new.lists _ _ c.is_secret-was.result
          c.is_secret-is.result c.relist-2.ensures.list c.relist-2.ensures.others)),
    )

pub returns-clause-rows : goal.returns-clause-rows
returns-clause-rows c =
    let at = (goal.at.returns-clause-rows c).After-insert in
    with_renewed _ _ _ _ _ _ c.args.row.now _ c.self.invariant.0 (renews at) (moves at)
    ∙ ap (λ (t : Table). with_membership c.args.row.now t.rows) c.self.view_is

pub returns-clause-reads : goal.returns-clause-reads
returns-clause-reads c =
    reads_stay _ _ _ _ c.self.invariant.0 c.args.row.now.person c.args.row.now.conference _ _ _
    (renews (goal.at.returns-clause-reads c).After-insert) refl
    ∙ ap (λ (t : Table). with_reader c.args.row.now.person c.args.row.now.conference t.reads) c.self.view_is

-- the room of the person is the same once the conference is put back
rooms : (c : After-insert) → room_of c.insert.new.self c.args.row.now.person
    ≡ room_of c.self.inside.conferences c.args.row.now.person
rooms c = omega (arith, c.remove.ensures.room, c.insert.ensures.room)

pub returns-clause-room : goal.returns-clause-room
returns-clause-room c =
    let at = (goal.at.returns-clause-room c).After-insert in
    rw (← c.self.view_is)
    (record {
      spare = omega (arith, (c.get_mut.follows.holds c.renew.new.self).6);
      of_person = both_fall c.self.inside.conferences c.insert.new.self c.self.inside.secret_conferences
          c.relist.new.lists c.args.row.now.person (omega (arith, rooms at))
          (falls_by_one _ _ c.is_secret-was.result c.is_secret-is.result c.relist.ensures.room);
      of_conference = both_fall c.self.inside.persons c.self.inside.persons c.self.inside.secret_persons
          c.relist-2.new.lists c.args.row.now.conference (omega arith)
          (falls_by_one _ _ c.is_secret-was.result c.is_secret-is.result c.relist-2.ensures.room);
      other_persons = λ other unlike. both_same c.self.inside.conferences c.insert.new.self
          c.self.inside.secret_conferences c.relist.new.lists other
          (c.insert.ensures.others.rooms other unlike ∙ c.remove.ensures.others.rooms other unlike)
          (c.relist.ensures.others.rooms other unlike);
      other_conferences = λ other unlike. both_same c.self.inside.persons c.self.inside.persons
          c.self.inside.secret_persons c.relist-2.new.lists other refl (c.relist-2.ensures.others.rooms other unlike);
    })
