-- How often the desk is asked for the reads of a link that found nothing.
use Rattle.std.proofs.Common.{◌≡◌, ℕ, ◌+◌, ◌≤◌, Bool, true, false, List, [], ◌∷◌, ◌++◌, length, filter, Option, Some}
use Rattle.std.proofs.Common.{None, refl, sym, ◌∙◌, ap, subst, arith}
use Rattle.std.specs.Prelude.{IfSome}
use Rattle.std.proofs.lemmas.List.{length-append}
use Rattle.std.proofs.lemmas.List.Elements.{filter-append}
use Rattle.kom_links.specs.declared.link.Got.{Got}
use Rattle.kom_links.specs.Answers.{Answer, asks_in}
use Rattle.kom_links.specs.Outside.{Look, LinkView, Reads, is_not_yet}
use Rattle.kom_session.specs.Kept.{Goes, IsAskedFor}
use Rattle.kom_session.specs.Known.{State}
use Rattle.kom_session.specs.Left.{waits_in}
use Rattle.kom_session.proofs.Answered.{asks_append}

-- the link was not read, and something more may be asked
pub asked_more : {a b : State} → Goes a b → b.seen.link.reads ≡ a.seen.link.reads
    → IsAskedFor a.seen.link.reads a.seen.desk.answers b.seen.link.reads b.seen.desk.answers
asked_more {a} {b} p same = go b.seen.link.reads same
  where
    more : asks_in b.seen.desk.answers ≡ asks_in a.seen.desk.answers + asks_in p.answers
    more = ap asks_in p.tells ∙ asks_append a.seen.desk.answers p.answers

    go : (reads : Option (List Look)) → reads ≡ a.seen.link.reads
        → IsAskedFor a.seen.link.reads a.seen.desk.answers reads b.seen.desk.answers
    go None e = tt
    go (Some looks) e = (looks, sym e, omega (arith, more))

pub asked_none : (reads : Option (List Look)) (answers : List Answer)
    → IsAskedFor reads answers reads answers
asked_none None answers = tt
asked_none (Some looks) answers = (looks, refl, omega arith)

pub asked_trans : (a b c : State)
    → IsAskedFor a.seen.link.reads a.seen.desk.answers b.seen.link.reads b.seen.desk.answers
    → IsAskedFor b.seen.link.reads b.seen.desk.answers c.seen.link.reads c.seen.desk.answers
    → IsAskedFor a.seen.link.reads a.seen.desk.answers c.seen.link.reads c.seen.desk.answers
asked_trans a b c p q = go c.seen.link.reads q
  where
    go : (reads : Option (List Look))
        → IsAskedFor b.seen.link.reads b.seen.desk.answers reads c.seen.desk.answers
        → IsAskedFor a.seen.link.reads a.seen.desk.answers reads c.seen.desk.answers
    go None q = tt
    go (Some looks) (between, e, second) =
        let (before, was, first) =
        subst (λ (reads : Option (List Look)). IsAskedFor a.seen.link.reads a.seen.desk.answers reads
        b.seen.desk.answers) e p in
        (before, was, omega (arith, first, second))

waits_append : (looks : List Look) (look : Look)
    → waits_in (looks ++ look ∷ []) ≡ waits_in looks + waits_in (look ∷ [])
waits_append looks look =
    ap length (filter-append (λ (look : Look). look.waited) looks (look ∷ []))
    ∙ length-append (filter (λ (look : Look). look.waited) looks)
    (filter (λ (look : Look). look.waited) (look ∷ []))

one_wait : (taken put : List ℕ) (waited : Bool)
    → waits_in (record { taken = taken; put = put; waited = waited } ∷ []) ≤ 1
one_wait taken put true = omega arith
one_wait taken put false = omega arith

no_wait : (taken put : List ℕ) (waited : Bool) → waited ≡ false
    → waits_in (record { taken = taken; put = put; waited = waited } ∷ []) ≡ 0
no_wait taken put true e = absurd (cc (e))
no_wait taken put false e = refl

-- the link was read once, and, where nothing was there, the desk asked once more
pub asked_read : {buffer : List ℕ} {answer : Got} {before after : LinkView} (old new : List Answer)
    → Reads before buffer answer after
    → asks_in old ≤ asks_in new → (is_not_yet answer ≡ true → asks_in old + 1 ≤ asks_in new)
    → IsAskedFor before.reads old after.reads new
asked_read {buffer} {answer} {before} {after} old new reads more once = go after.reads reads.looked
  where
    fits : (waited : Bool) → (waited ≡ true → asks_in old + 1 ≤ asks_in new) → (first : List Look)
        (taken put : List ℕ)
        → waits_in (first ++ record { taken = taken; put = put; waited = waited } ∷ []) + asks_in old
        ≤ waits_in first + asks_in new
    fits true once first taken put =
        let count = waits_append first (record { taken = taken; put = put; waited = true }) in
        let one = one_wait taken put true in let asked = once refl in omega (arith, count, one, asked)
    fits false once first taken put =
        let count = waits_append first (record { taken = taken; put = put; waited = false }) in
        let none = no_wait taken put false refl in omega (arith, count, none, more)

    go : (told : Option (List Look)) → IfSome told (λ looks. (first : List Look) × (taken put : List ℕ)
        × (before.reads ≡ Some first) × (before.taken ≡ Some taken) × (before.put ≡ Some put)
        × (looks ≡ first ++ record { taken = taken; put = put; waited = is_not_yet answer } ∷ []))
        → IsAskedFor before.reads old told new
    go None facts = tt
    go (Some looks) (first, taken, put, was, took, puts, e) = (
      first,
      was,
      subst (λ looks. waits_in looks + asks_in old ≤ waits_in first + asks_in new) (sym e)
          (fits (is_not_yet answer) once first taken put),
    )

-- for each read of a link that was not read before, which found nothing, the desk was asked
pub asked_all : (P : List Look → Type 0) (reads reads' : Option (List Look))
    (before mid after answers more : List Answer) → IfSome reads (λ looks. looks ≡ [])
    → IsAskedFor reads before reads' mid → after ≡ mid ++ more → after ≡ before ++ answers →
    IfSome reads' P → IfSome reads' (λ looks. P looks × (waits_in looks ≤ asks_in answers))
asked_all P reads None before mid after answers more none asked grows tells holds = tt
asked_all P reads (Some looks) before mid after answers more none (first, was, fits) grows tells
    holds =
    let nothing : first ≡ [] =
    subst (λ (reads : Option (List Look)). IfSome reads (λ looks. looks ≡ [])) was none in
    let no_wait : waits_in first ≡ 0 = ap waits_in nothing in
    let all : asks_in mid + asks_in more ≡ asks_in before + asks_in answers =
    sym (asks_append mid more) ∙ sym (ap asks_in grows) ∙ ap asks_in tells
    ∙ asks_append before answers in (holds, omega arith)
