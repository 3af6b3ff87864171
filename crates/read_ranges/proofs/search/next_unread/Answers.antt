use Rattle.std.proofs.Common.{ℕ, List, Some, IfSome, IsNone, ◌↔◌, ◌∙◌, arith}
use Rattle.std.proofs.lemmas.Bool.Decides.{nat_tests}
use Rattle.kom_types.specs.declared.memberships.ReadRange.{ReadRange}
use Rattle.read_ranges.specs.Numbers.{union_of, IsReadFrom, IsNextUnread}
use Rattle.read_ranges.proofs.Found.{next_exact, next_here, next_after_end, holds_at, holds_past_all}
use Rattle.read_ranges.proofs.search.next_unread.Goals as goal

-- where a range has n, the number after its end is next
after_end : (c : goal.After-checked_add) → IfSome c.checked_add.result
    (IsNextUnread (union_of c.args.ranges.now) c.args.from) ×
    (IsNone c.checked_add.result ↔ IsReadFrom (union_of c.args.ranges.now) c.args.from)
after_end c =
    let found = c.in-Some.ensures.lookup in
    next_exact _ _ _ (next_after_end _ c.requires.ranges _ _ c.place_of.ensures _ found.3.0 found.1
    c.if-first-from.true _ c.checked_add.ensures)

-- where n is in no range, n itself is next
here : (xs : List ReadRange) (n : ℕ) → IsNextUnread (union_of xs) n n → IsNone (Some n) ↔ IsReadFrom (union_of xs) n
here xs n next = (next_exact xs n (Some n) next).1

pub returns-in-Some-clause-found : goal.returns-in-Some-clause-found
returns-in-Some-clause-found c = (after_end c).0

pub returns-in-Some-clause-none : goal.returns-in-Some-clause-none
returns-in-Some-clause-none c = (after_end c).1

not_begun : (c : goal.Else-first-from) → IsNextUnread (union_of c.args.ranges.now) c.args.from c.args.from
not_begun c =
    let found = c.in-Some.ensures.lookup in
    next_here _ c.requires.ranges _ _ c.place_of.ensures
    (holds_at _ c.requires.ranges _ _ c.place_of.ensures _ found.3.0 found.1 ∙ grind (arith, nat_tests)) (omega arith)

pub returns-in_default-clause-found : goal.returns-in_default-clause-found
returns-in_default-clause-found c = not_begun c

pub returns-in_default-clause-none : goal.returns-in_default-clause-none
returns-in_default-clause-none c = here _ _ (not_begun c)

past_all : (c : goal.In_default) → IsNextUnread (union_of c.args.ranges.now) c.args.from c.args.from
past_all c =
    let missing = rw c.in_default.is at c.get.ensures.lookup in
    next_here _ c.requires.ranges _ _ c.place_of.ensures
    (holds_past_all _ c.requires.ranges _ _ c.place_of.ensures _ (omega arith) missing.3) (omega arith)

pub returns-in_default-2-clause-found : goal.returns-in_default-2-clause-found
returns-in_default-2-clause-found c = past_all c

pub returns-in_default-2-clause-none : goal.returns-in_default-2-clause-none
returns-in_default-2-clause-none c = here _ _ (past_all c)
