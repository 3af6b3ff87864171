use Rattle.std.proofs.Common.{◌≡◌, [], ◌∷◌, ◌++◌, take, drop, is_ok, if◌then◌else◌, ap, ◌∙◌}
use Rattle.std.proofs.lemmas.List.{take-append-drop}
use Rattle.row_slots.specs.Slots.{slots_of}
use Rattle.row_slots.proofs.Laid.{laid-settled}
use Rattle.row_slots.proofs.slots.Slots.settle.Goals as goal

pub returns : goal.returns
returns g c =
    let all = c.self.inside.settled.items in
    let last = c.self.inside.last.items in
    let pushed : c.push.new.self.items ≡ c.reserve.new.self.items ++ c.of.result ∷ [] =
    c.push.ensures.items
    ∙ ap (λ r. if is_ok r then c.reserve.new.self.items ++ c.of.result ∷ [] else c.reserve.new.self.items)
    c.unwrap.ensures in
    let first : c.of.result ≡ take 64 last =
    c.of.ensures ∙ c.shrink_to_fit.ensures.items ∙ ap (λ v. v.items) c.replace-slots.ensures.value
    ∙ c.in-Ok.ensures.items in
    let rest : c.replace-slots.new.dest.items ≡ drop 64 last =
    ap (λ v. v.items) c.replace-slots.ensures.after ∙ c.in-Ok.ensures.tail in
    let joined : c.of.result ++ c.replace-slots.new.dest.items ≡ last =
    ap (λ them. them ++ c.replace-slots.new.dest.items) first ∙ ap (λ them. take 64 last ++ them) rest
    ∙ take-append-drop 64 last in
    rw (← c.self.view_is)
    (ap (λ them. slots_of them c.replace-slots.new.dest.items)
    (pushed ∙ ap (λ them. them ++ c.of.result ∷ []) c.reserve.ensures.items)
    ∙ laid-settled all c.of.result c.replace-slots.new.dest.items
    ∙ ap (slots_of all) joined)
