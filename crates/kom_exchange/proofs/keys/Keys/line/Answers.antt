use Rattle.std.proofs.Common.{◌≡◌, ℕ, ◌+◌, ◌<◌, List, length, take, drop, arith}
use Rattle.kom_exchange.specs.Pages.{first_line, behind_line}
use Rattle.kom_exchange.proofs.Typed.{typed_line, has_typed}
use Rattle.kom_exchange.proofs.keys.Keys.line.Goals as goal

pub invariant_of-self : goal.invariant_of-self
invariant_of-self g c =
    let held : List ℕ = c.self.inside.held.items in
    let end : ℕ = c.line_end-end.result in
    let within : end < length held = omega (arith, c.self.inside.held.ok.0) in
    let first : take end held ≡ first_line held = rw c.as_slice.ensures.value at c.line_end-end.ensures.first in
    let behind : drop (end + 1) held ≡ behind_line held =
    rw c.as_slice.ensures.value at c.line_end-end.ensures.behind in
    typed_line (g.K.Link.view c.self.inside.link).taken held c.in_ok-rest.rest.items end c.self.inside.has_fault
    c.self.invariant within first (rw c.as_slice-3.ensures.value at c.in_ok-rest.ensures) behind

pub returns-clause-typed : goal.returns-clause-typed
returns-clause-typed g c =
    let held : List ℕ = c.self.inside.held.items in
    let end : ℕ = c.line_end-end.result in
    let within : end < length held = omega (arith, c.self.inside.held.ok.0) in
    let first : take end held ≡ first_line held = rw c.as_slice.ensures.value at c.line_end-end.ensures.first in
    has_typed (g.K.Link.view c.self.inside.link).taken held c.in_ok-line.line.items end c.self.inside.has_fault
    c.self.invariant within first (rw c.as_slice-2.ensures.value at c.in_ok-line.ensures.items)
