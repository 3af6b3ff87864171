use Rattle.std.proofs.Common.{◌≡◌, [], ◌∷◌, ◌++◌, Some, refl, sym, ap, ◌∙◌, subst}
use Rattle.std.specs.Prelude.{replicate}
use Rattle.atomic_table.specs.Table.{opening}
use Rattle.kom_state_lock.specs.Rule.{AreWords, Rule}
use Rattle.kom_state_lock.specs.Views.{first_seat}
use Rattle.kom_state_lock.proofs.Seats.{opens}
use Rattle.kom_state_lock.proofs.dealing.lay_table.Goals as goal

pub new-requires : goal.new-requires
new-requires g c =
    let b = g.B.Booked in
    let value = c.args.value in
    let slots : c.push_reserved.new.self.items ≡ Some value ∷ [] = c.push_reserved.ensures.items
    ∙ ap (λ xs. xs ++ Some value ∷ []) c.in-Ok.ensures.items in
    let passes = c.args.passes in
    let words = replicate 152 0 in
    let are : AreWords 0 0 0 words = record { next = refl; now = refl; written = refl } in
    subst (λ xs. Rule b.pass_of b.led c.of.result.value passes (opening words xs first_seat)) (sym slots)
    (subst (λ x. Rule b.pass_of b.led x passes (opening words (Some value ∷ []) first_seat)) (sym c.of.ensures)
    (opens b.pass_of b.led value passes words value are c.requires.0 c.requires.1 (b.empty_leads value)))
