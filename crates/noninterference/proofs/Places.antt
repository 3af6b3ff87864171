-- Lists of entries are alike place by place.
use Rattle.std.proofs.Common.{◌≡◌, ℕ, suc, ◌<◌, ◌↔◌, List, [], ◌∷◌, length, drop, get_or, refl, sym, ap, ◌∙◌, drop-cons}
use Rattle.kom_types.specs.declared.acts.Entry.{Entry}
use Rattle.kom_laws.specs.Groups.{Group}
use Rattle.noninterference.specs.respect.Hidden.{AreAlike}
use Rattle.noninterference.specs.Hiding.{StandAlike}

-- lists that are alike are as long
pub alike-long : (group : Group) (ones others : List Entry) → AreAlike group ones others → length ones ≡ length others
alike-long group [] [] alike = refl
alike-long group [] (other ∷ others) alike = absurd alike
alike-long group (one ∷ ones) [] alike = absurd alike
alike-long group (one ∷ ones) (other ∷ others) alike = ap suc (alike-long group ones others alike.2)

-- what is left of them is alike where its first entries are, and the rest
pub left-alike : (group : Group) (ones others : List Entry) (place : ℕ) (one other : Entry) → place < length ones →
    place < length others → one ≡ get_or ones place one → other ≡ get_or others place other →
    AreAlike group (drop place ones) (drop place others)
    ↔ (StandAlike group one other × AreAlike group (drop (suc place) ones) (drop (suc place) others))
left-alike group ones others place one other in_ones in_others is is' =
    let first : drop place ones ≡ one ∷ drop (suc place) ones = drop-cons ones place one in_ones
    ∙ ap (λ x. x ∷ drop (suc place) ones) (sym is) in
    let first' : drop place others ≡ other ∷ drop (suc place) others = drop-cons others place other in_others
    ∙ ap (λ x. x ∷ drop (suc place) others) (sym is') in
    rw (first, first') ((λ alike. ((alike.0, alike.1), alike.2)), (λ both. (both.0.0, both.0.1, both.1)))
