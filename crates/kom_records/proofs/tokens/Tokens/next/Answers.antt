use Rattle.std.proofs.Common.{◌≡◌, ℕ, ◌+◌, List, ◌∷◌, drop, Some, ap, sym, ◌∙◌}
use Rattle.std.specs.Prelude.{slice_get}
use Rattle.std.proofs.lemmas.List.{drop_more}
use Rattle.std.proofs.lemmas.Option.{slice_get_within, get_or_from_slice_get}
use Rattle.kom_types.specs.Token.{Token}
use Rattle.kom_records.proofs.tokens.Tokens.next.Goals as goal

-- what is left of a list begins with the element at that index
drop_at : (tokens : List Token) (index : ℕ) (token : Token) → slice_get tokens index ≡ Some token →
    drop index tokens ≡ token ∷ drop (index + 1) tokens
drop_at tokens index token found =
    drop_more tokens index token (slice_get_within tokens index token found)
    ∙ ap (λ (first : Token). first ∷ drop (index + 1) tokens) (get_or_from_slice_get tokens index token token found)

pub returns-then-place-len : goal.returns-then-place-len
returns-then-place-len c =
    sym c.self.view_is ∙ drop_at c.self.inside.line.now.tokens c.self.inside.place _ c.token.ensures
