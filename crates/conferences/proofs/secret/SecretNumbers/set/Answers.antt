use Rattle.std.proofs.Common.{◌≡◌, ◌+◌, ◌<◌, length, true, false, is_ok, insert, ap, ◌∙◌, arith}
use Rattle.std.proofs.lemmas.List.Edits.{length-insert}
use Rattle.conferences.specs.Secret.{with_if}
use Rattle.conferences.proofs.Chosen.{IsRising-listed}
use Rattle.conferences.proofs.Places.{found_at, place_for, IsPlace, removed_at, there_at}
use Rattle.conferences.proofs.Places.{inserted_at, absent_at}
use Rattle.conferences.proofs.secret.SecretNumbers.set.Goals as goal
use Rattle.conferences.proofs.secret.SecretNumbers.set.Goals.{After-remove, After-insert}

removed : (c : After-remove) → c.remove.new.self.items ≡ with_if false c.args.number c.self.inside.numbers.items
removed c =
    let found = found_at c.self.inside.numbers.items c.args.number c.in-Ok.place c.self.invariant
    (rw c.deref.ensures.value at c.in-Ok.ensures.position) in
    c.remove.ensures.items
    ∙ removed_at c.self.inside.numbers.items c.args.number c.in-Ok.place c.self.invariant found.0 found.1

pub invariant_of-self : goal.invariant_of-self
invariant_of-self c =
    rw (removed c) (IsRising-listed false c.args.number c.self.inside.numbers.items c.self.invariant)

pub returns-in-Ok-clause-numbers : goal.returns-in-Ok-clause-numbers
returns-in-Ok-clause-numbers c = rw (c.if-not-is_in.true, ← c.self.view_is) (removed c)

pub returns-else-not-is_in-clause-numbers : goal.returns-else-not-is_in-clause-numbers
returns-else-not-is_in-clause-numbers c =
    let found = found_at c.self.inside.numbers.items c.args.number c.in-Ok.place c.self.invariant
    (rw c.deref.ensures.value at c.in-Ok.ensures.position) in
    rw (c.if-not-is_in.false, ← c.self.view_is)
    (there_at c.self.inside.numbers.items c.args.number c.in-Ok.place c.self.invariant found.0 found.1)

place : (c : After-insert) → IsPlace c.self.inside.numbers.items c.args.number c.in-Err.place
place c =
    place_for c.self.inside.numbers.items c.args.number c.in-Err.place c.self.invariant
    (rw c.deref.ensures.value at c.in-Err.ensures.position)

-- the list has room for the number
fits : (c : After-insert) → c.self.inside.numbers.len < c.self.inside.numbers.cap
fits c =
    let numbers = c.self.inside.numbers.items in
    let room = rw (c.if-is_in.true, ← c.self.view_is) at c.requires in
    let longer : length (insert numbers c.in-Err.place c.args.number) ≡ length numbers + 1 =
    length-insert numbers c.in-Err.place c.args.number (place c).within in
    let listed_is : length (insert numbers c.in-Err.place c.args.number) ≡ length (with_if true c.args.number numbers) =
    ap length (inserted_at numbers c.args.number c.in-Err.place (place c)) in
    omega (arith, c.self.inside.numbers.ok.0)

pub unwrap-requires : goal.unwrap-requires
unwrap-requires c = c.insert.ensures.succeeds (fits c)

inserted : (c : After-insert) → is_ok c.insert.result ≡ true →
    c.insert.new.self.items ≡ with_if true c.args.number c.self.inside.numbers.items
inserted c ok =
    rw ok at c.insert.ensures.items
    ∙ inserted_at c.self.inside.numbers.items c.args.number c.in-Err.place (place c)

pub invariant_of-self-then-is_in : goal.invariant_of-self-then-is_in
invariant_of-self-then-is_in c =
    rw (inserted (goal.at.invariant_of-self-then-is_in c).After-insert (ap is_ok c.unwrap.ensures))
    (IsRising-listed true c.args.number c.self.inside.numbers.items c.self.invariant)

pub returns-in-Err-clause-numbers : goal.returns-in-Err-clause-numbers
returns-in-Err-clause-numbers c =
    rw (c.if-is_in.true, ← c.self.view_is)
    (inserted (goal.at.returns-in-Err-clause-numbers c).After-insert (ap is_ok c.unwrap.ensures))

pub returns-in-Err-clause-room : goal.returns-in-Err-clause-room
returns-in-Err-clause-room c =
    (c.insert.ensures.in_place (fits (goal.at.returns-in-Err-clause-room c).After-insert)).1.0
    ∙ ap (λ list. list.room) c.self.view_is

pub returns-else-is_in-clause-numbers : goal.returns-else-is_in-clause-numbers
returns-else-is_in-clause-numbers c =
    let numbers = c.self.inside.numbers.items in
    let at = place_for numbers c.args.number c.in-Err.place c.self.invariant
    (rw c.deref.ensures.value at c.in-Err.ensures.position) in
    rw (c.if-is_in.false, ← c.self.view_is) (absent_at numbers c.args.number c.in-Err.place at)
