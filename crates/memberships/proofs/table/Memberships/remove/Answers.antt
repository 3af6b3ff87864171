use Rattle.std.proofs.Common.{◌≡◌, nat_eq, Some, is_some, false, refl, sym, ap, ◌∙◌, arith}
use Rattle.std.specs.Bool.{⊤}
use Rattle.std.specs.Set.{remove_key}
use Rattle.std.proofs.lemmas.Option.{MatchOption-at_none}
use Rattle.kom_types.specs.tables.Memberships.{is_secret_membership, without_membership}
use Rattle.read_ranges.specs.Reads.{without_reader}
use Rattle.row_slots.specs.Lists.{list_of}
use Rattle.row_slots.proofs.Rooms.{no_room_falls}
use Rattle.memberships.specs.Entries.{rows_of, kept_at}
use Rattle.memberships.specs.Table.{Table}
use Rattle.memberships.proofs.Finding.{is_there, person_there as person_listed}
use Rattle.memberships.proofs.Leaving.{Leaves, IsTable-left}
use Rattle.memberships.proofs.Rooms.{sets_list, both_stay, no_fall}
use Rattle.memberships.proofs.LeftRows.{without_left, without_none}
use Rattle.memberships.proofs.ReadRows.{reads_left, reads_none}
use Rattle.memberships.proofs.Secrets.{Changes, AreSecrets-after, person_there, conference_there, relisted}
use Rattle.memberships.proofs.SecretRows.{changes_removed}
use Rattle.memberships.proofs.Turns.{Sets}
use Rattle.memberships.proofs.table.Memberships.remove.Goals as goal
use Rattle.memberships.proofs.table.Memberships.remove.Goals.{After-remove-2}

pub returns-in_default-clause-there : goal.returns-in_default-clause-there
returns-in_default-clause-there c =
    rw (← c.self.view_is)
    (sym (is_there _ _ _ _ c.self.invariant.0 c.args.person c.args.conference
    ∙ ap is_some (sym c.swap_remove.ensures.value ∙ c.in_default.is)))

pub returns-in_default-clause-rows : goal.returns-in_default-clause-rows
returns-in_default-clause-rows c =
    without_none _ _ _ _ _ c.args.person c.args.conference c.self.invariant.0
    (sym c.swap_remove.ensures.value ∙ c.in_default.is)
    (MatchOption-at_none _ (λ _. ⊤) c.in_default.is c.swap_remove.ensures.unchanged)
    ∙ ap (λ (t : Table). without_membership c.args.person c.args.conference t.rows) c.self.view_is

pub returns-in_default-clause-reads : goal.returns-in_default-clause-reads
returns-in_default-clause-reads c =
    reads_none _ _ _ _ c.self.invariant.0 c.args.person c.args.conference _
    (sym c.swap_remove.ensures.value ∙ c.in_default.is)
    (MatchOption-at_none _ (λ _. ⊤) c.in_default.is c.swap_remove.ensures.unchanged)
    ∙ ap (λ (t : Table). without_reader c.args.person c.args.conference t.reads) c.self.view_is

-- the person is in the list of the conference
pub remove-requires-2 : goal.remove-requires-2
remove-requires-2 c =
    person_listed _ _ _ _ c.self.invariant.0 c.args.person c.args.conference c.in-Some.kept
    (sym c.swap_remove.ensures.value ∙ c.in-Some.is)

there : (c : After-remove-2) →
    kept_at (c.args.person, c.args.conference) c.self.inside.entries.entries ≡ Some c.in-Some.kept
there c = sym c.swap_remove.ensures.value ∙ c.in-Some.is

leaves : (c : After-remove-2) →
    Leaves c.self.inside.entries.entries c.swap_remove.new.self.entries c.args.person c.args.conference
leaves c = record { unique = c.swap_remove.ensures.unique; changed = c.swap_remove.ensures.updates.0 }

-- the conference is taken out of the list of the person
takes : (c : After-remove-2) →
    Sets (list_of c.self.inside.conferences) (list_of c.remove.new.self) c.args.person
    (remove_key (nat_eq c.args.conference) (list_of c.self.inside.conferences c.args.person))
takes c = sets_list _ _ _ _ c.remove.ensures.others c.remove.ensures.list

changes : (c : After-remove-2) →
    Changes (rows_of (list_of c.self.inside.conferences) c.self.inside.entries.entries)
    (rows_of (list_of c.remove.new.self) c.swap_remove.new.self.entries) c.args.person c.args.conference
    (is_secret_membership c.in-Some.kept.kind) false
changes c = changes_removed _ _ _ _ _ _ c.self.invariant.0 _ _ _ _ refl (there c) (leaves c) (takes c)

pub relist-requires-clause-there : goal.relist-requires-clause-there
relist-requires-clause-there c =
    λ secret none.
    person_there _ _ _ _ c.self.invariant.1 _ _ (is_secret_membership c.in-Some.kept.kind) false
    (changes (goal.at.relist-requires-clause-there c).After-remove-2) (sym c.is_secret-was.ensures ∙ secret) none

pub relist-requires-2-clause-there : goal.relist-requires-2-clause-there
relist-requires-2-clause-there c =
    λ secret none.
    conference_there _ _ _ _ c.self.invariant.1 _ _ (is_secret_membership c.in-Some.kept.kind) false
    (changes (goal.at.relist-requires-2-clause-there c).After-remove-2) (sym c.is_secret-was.ensures ∙ secret) none

pub invariant_of-self-2 : goal.invariant_of-self-2
invariant_of-self-2 c =
    let at = (goal.at.invariant_of-self-2 c).After-remove-2 in (
      IsTable-left _ _ _ _ _ c.args.person c.args.conference c.self.invariant.0 (leaves at) _ _ (takes at)
          (sets_list _ _ _ _ c.remove-2.ensures.others c.remove-2.ensures.list),
      AreSecrets-after _ _ _ _ c.self.invariant.1 _ _ (is_secret_membership c.in-Some.kept.kind) false (changes at) _ _
          (rw (← c.is_secret-was.ensures)
          (relisted c.self.inside.secret_conferences c.relist.new.lists _ _ c.is_secret-was.result false
          c.relist.ensures.list c.relist.ensures.others))
          (rw (← c.is_secret-was.ensures)
          (relisted c.self.inside.secret_persons c.relist-2.new.lists _ _ c.is_secret-was.result false
          c.relist-2.ensures.list c.relist-2.ensures.others)),
    )

pub returns-clause-there : goal.returns-clause-there
returns-clause-there c =
    rw (← c.self.view_is)
    (sym (is_there _ _ _ _ c.self.invariant.0 c.args.person c.args.conference
    ∙ ap is_some (there (goal.at.returns-clause-there c).After-remove-2)))

pub returns-clause-rows : goal.returns-clause-rows
returns-clause-rows c =
    let at = (goal.at.returns-clause-rows c).After-remove-2 in
    without_left _ _ _ _ _ _ c.args.person c.args.conference c.in-Some.kept c.self.invariant.0 (there at) (leaves at)
    (takes at)
    ∙ ap (λ (t : Table). without_membership c.args.person c.args.conference t.rows) c.self.view_is

pub returns-clause-reads : goal.returns-clause-reads
returns-clause-reads c =
    reads_left _ _ _ _ c.self.invariant.0 c.args.person c.args.conference _
    (leaves (goal.at.returns-clause-reads c).After-remove-2)
    ∙ ap (λ (t : Table). without_reader c.args.person c.args.conference t.reads) c.self.view_is

pub returns-clause-room : goal.returns-clause-room
returns-clause-room c =
    rw (← c.self.view_is)
    (record {
      spare = omega (arith, c.swap_remove.ensures.room.0);
      persons = both_stay c.self.inside.conferences c.remove.new.self c.self.inside.secret_conferences
          c.relist.new.lists
          (no_room_falls _ _ c.args.person c.remove.ensures.others (omega (arith, c.remove.ensures.room)))
          (no_room_falls _ _ c.args.person c.relist.ensures.others
          (no_fall _ _ c.is_secret-was.result c.relist.ensures.room));
      conferences = both_stay c.self.inside.persons c.remove-2.new.self c.self.inside.secret_persons
          c.relist-2.new.lists
          (no_room_falls _ _ c.args.conference c.remove-2.ensures.others (omega (arith, c.remove-2.ensures.room)))
          (no_room_falls _ _ c.args.conference c.relist-2.ensures.others
          (no_fall _ _ c.is_secret-was.result c.relist-2.ensures.room));
    })
