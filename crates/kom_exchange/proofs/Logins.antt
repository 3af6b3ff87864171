-- What a link took of a login.
use Rattle.std.proofs.Common.{◌≡◌, ℕ, Bool, true, false, List, [], ◌++◌, Result, Ok, Err, IfOk, refl, sym}
use Rattle.std.proofs.Common.{ap, subst, ◌∙◌}
use Rattle.std.specs.Str.{chars}
use Rattle.kom_types.specs.Printing.{line_of}
use Rattle.kom_links.specs.Outside.{LinkView}
use Rattle.kom_exchange.specs.declared.request.Request.{Request}
use Rattle.kom_exchange.specs.declared.visit_end.VisitEnd.{VisitEnd}
use Rattle.kom_exchange.specs.Asking.{Asking, Puts, PutsPart, HasLoggedIn, LogsIn, login, with_request, words_of}
use Rattle.kom_exchange.specs.Steps.{IsIn}
use Rattle.kom_exchange.proofs.Links.{puts_none}

-- the password, by the letters of the line
pub logs_as : (result : Result Bool VisitEnd) (person : ℕ) (password items typed line : List ℕ) (old new : Asking)
    → LogsIn result person password old new → password ≡ items → items ≡ chars typed → typed ≡ line
    → LogsIn result person (chars line) old new
logs_as result person password items typed line old new logs first second third =
    subst (λ (xs : List ℕ). LogsIn result person xs old new) (first ∙ second ∙ ap chars third) logs

-- what contracts see, by what it equals
pub logs_from : (result : Result Bool VisitEnd) (person : ℕ) (password : List ℕ) (inside old new : Asking)
    → inside ≡ old → LogsIn result person password inside new → LogsIn result person password old new
logs_from result person password inside old new e logs =
    subst (λ (x : Asking). LogsIn result person password x new) e logs

-- nothing was sent
pub none_sent : (bytes : List ℕ) (link : LinkView) → PutsPart link bytes link
none_sent bytes link = ([], (bytes, refl), puts_none link)

pub same_sent : (bytes : List ℕ) (old new : LinkView) → new ≡ old → PutsPart old bytes new
same_sent bytes old new same = subst (λ (l : LinkView). PutsPart old bytes l) (sym same) (none_sent bytes old)

-- or some of it
pub part_sent : (person : ℕ) (password : List ℕ) (request : Request) (old mid : Asking) (link : LinkView)
    → request ≡ login person password → mid ≡ with_request request old → PutsPart mid.link mid.waiting link
    → PutsPart old.link (old.waiting ++ line_of (words_of (old.next, login person password))) link
part_sent person password request old mid link er em p =
    subst (λ (r : Request). PutsPart old.link (old.waiting ++ line_of (words_of (old.next, r))) link) er
    (subst (λ (m : Asking). PutsPart m.link m.waiting link) em p)

-- or all
pub logged_in : (person : ℕ) (password : List ℕ) (request : Request) (old mid new : Asking)
    → request ≡ login person password → mid ≡ with_request request old → Puts mid.link mid.waiting new.link
    → new.asked ≡ mid.asked → new.next ≡ mid.next → new.waiting ≡ [] → HasLoggedIn person password old new
logged_in person password request old mid new er em p asked next waiting =
    let whole : mid ≡ with_request (login person password) old =
    em ∙ ap (λ (r : Request). with_request r old) er in
    record {
      sent = subst (λ (m : Asking). Puts m.link m.waiting new.link) whole p;
      asked = asked ∙ ap (λ (m : Asking). m.asked) whole;
      waiting = waiting;
      next = next ∙ ap (λ (m : Asking). m.next) whole;
    }

false_true : false ≡ true → ⊥
false_true e = cc

-- who is in was asked to be
pub is_in : (result : Result Bool VisitEnd) (person : ℕ) (password : List ℕ) (old new : Asking)
    → LogsIn result person password old new → IfOk result (λ entered. IsIn entered person new)
is_in (Ok true) person password old new h =
    record { login = λ _. (old.next, password, (old.asked, [], h.asked)) }
is_in (Ok false) person password old new h = record { login = λ e. absurd (false_true e) }
is_in (Err end) person password old new h = tt
