use Rattle.std.proofs.Common.{◌≡◌, ℕ, List, [], take, drop, Option, Some, None, Result, Ok, Err, refl, sym, subst}
use Rattle.std.proofs.Common.{arith, append-nil, inl, inr}
use Rattle.std.specs.Option.{IfSome}
use Rattle.std.proofs.lemmas.List.{take-append-drop}
use Rattle.kom_links.specs.Doors.{SinkView, Puts}
use Rattle.kom_links.specs.Outside.{IsNothing, Rose, with_bytes}
use Rattle.kom_links.specs.Talk.{IsPrefix}
use Rattle.kom_commands.specs.Reports.{HasText}
use Rattle.kom_commands.proofs.reports.put_text.Goals as goal

-- a count that rose from 0 is not 0
none_rose : (after : ℕ) → Rose 0 after → after ≡ 0 → ⊥
none_rose after rose none = elim rose [ inl more ↦ omega (arith, more, none) | inr most ↦ omega (arith, most, none) ]

abbrev Shows : List ℕ → ℕ → Option (List ℕ) → Type 0
Shows text faults put = IfSome put (λ bytes. IsPrefix bytes text × (faults ≡ 0 → bytes ≡ text))

whole_put : (text : List ℕ) (before : Option (List ℕ)) (faults : ℕ) → IsNothing before →
    Shows text faults (with_bytes text before)
whole_put text None faults nothing = tt
whole_put text (Some bytes) faults nothing = rw nothing (([], append-nil text), λ _. refl)

prefix_put : (text : List ℕ) (count : ℕ) (before : Option (List ℕ)) (faults : ℕ) → IsNothing before →
    (faults ≡ 0 → ⊥) → Shows text faults (with_bytes (take count text) before)
prefix_put text count None faults nothing failed = tt
prefix_put text count (Some bytes) faults nothing failed =
    rw nothing ((drop count text, take-append-drop count text), λ none. absurd (failed none))

text_put : {T E : Type 0} (text : List ℕ) (result : Result T E) (old new : SinkView) → IsNothing old.put →
    old.faults ≡ 0 → Puts old text result new → HasText text new
text_put text (Ok value) old new nothing none puts =
    subst (Shows text new.faults) (sym puts.all) (whole_put text old.put new.faults nothing)
text_put text (Err fault) old new nothing none puts =
    subst (Shows text new.faults) (sym puts.some.2) (prefix_put text puts.some.0 old.put new.faults nothing
    (none_rose new.faults (subst (λ (old : ℕ). Rose old new.faults) none puts.failed)))

pub returns : goal.returns
returns g c =
    text_put c.args.text.now c.write.result (g.S.Sink.view c.args.sink.now) (g.S.Sink.view c.write.new.self)
    c.requires.fresh.nothing_put c.requires.fresh.no_fault c.write.ensures
