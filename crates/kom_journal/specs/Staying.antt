-- What a journal keeps while effects come to wait.
use Rattle.std.proofs.Common.{◌≤◌, ℕ, List, ◌∷◌, length, length-append, refl, subst, ◌∙◌}
use Rattle.std.proofs.Math.Nat.{le_trans, le-add_left}
use Rattle.kom_types.specs.declared.effects.Effect.{Effect}
use Rattle.effect_codec.specs.Coding.{coded_effect}
use Rattle.kom_journal.specs.Files.{body_of}
use Rattle.kom_journal.specs.Journals.{JournalView, StaysAs}

-- room for effects is room for those after the first
pub less_room : (one : Effect) (more : List Effect) (spare : ℕ)
    → length (body_of (one ∷ more)) ≤ spare → length (body_of more) ≤ spare
less_room one more spare room =
    le_trans (le-add_left (length (body_of more)) (length (coded_effect one)))
    (subst (λ (n : ℕ). n ≤ spare) (length-append (coded_effect one) (body_of more)) room)

pub itself : {D : Type 0} → (journal : JournalView D) → StaysAs journal journal
itself journal = record { disk = refl; refused = refl; batches = refl; place = refl }

pub in_turn : {D : Type 0} → (first second third : JournalView D) → StaysAs first second
    → StaysAs second third → StaysAs first third
in_turn first second third before after = record {
  disk = after.disk ∙ before.disk;
  refused = after.refused ∙ before.refused;
  batches = after.batches ∙ before.batches;
  place = after.place ∙ before.place;
}
