use Rattle.std.proofs.Common.{◌≡◌, ◌+◌, ℕ, List, [], ◌∷◌, ◌++◌, take, nat_le, if◌then◌else◌, refl, sym, ◌∙◌, ap}
use Rattle.std.proofs.lemmas.List.{take_more}
use Rattle.kom_disk.specs.Shared.{shown_at}
use Rattle.kom_disk.specs.declared.shared_disk.Change.{Change}
use Rattle.kom_disk.proofs.shared_disk.shown.Goals as goal

shown_more : (bytes : List ℕ) (xs : List Change) (x : Change) (number : ℕ)
    → shown_at bytes (xs ++ x ∷ []) number ≡ (if nat_le x.call number then x.bytes.items else shown_at bytes xs number)
shown_more bytes [] x number = refl
shown_more bytes (change ∷ xs) x number =
    shown_more (if nat_le change.call number then change.bytes.items else bytes) xs x number

pub loop-change-preserved : goal.loop-change-preserved
loop-change-preserved c =
    let done : List Change = take c.loop-change.change-index c.args.changes.now in
    let one : Change = c.change-item.result in
    let more : take (c.loop-change.change-index + 1) c.args.changes.now ≡ done ++ one ∷ [] =
    take_more c.args.changes.now c.loop-change.change-index one c.loop-change-test.true
    ∙ ap (λ (s : Change). done ++ s ∷ []) (sym c.change-item.is) in
    c.later-shown.ensures
    ∙ ap (λ (l : List ℕ). if nat_le one.call c.args.number then one.bytes.items else l) c.loop-change.invariant
    ∙ sym (ap (λ (l : List Change). shown_at c.args.start.now l c.args.number) more
    ∙ shown_more c.args.start.now done one c.args.number)
