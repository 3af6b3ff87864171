use Rattle.std.proofs.Common.{◌≡◌, ℕ, List, [], ◌∷◌, length, refl, sym, ap, ◌∙◌, arith}
use Rattle.std.proofs.lemmas.Bool.{false≢true}
use Rattle.std.specs.Prelude.{codes}
use lib.Pointwise.{bytes_decides}
use Rattle.kom_commands.specs.declared.words.Command.{Command}
use Rattle.kom_commands.specs.declared.words.Command.TheVariants as command
use Rattle.kom_commands.specs.Loads.{SaysLoad}
use Rattle.kom_commands.specs.Words.{IsSpelled}
use Rattle.kom_commands.proofs.Spelling.{heads}
use Rattle.kom_commands.proofs.words.command_over.Goals as goal

-- two words of another first one are no command
none_of_two : (a b : List ℕ) → ((count : ℕ) → SaysLoad (a ∷ b ∷ []) count → ⊥) → (a ≡ codes "once" → ⊥) →
    (a ≡ codes "check" → ⊥) → (said : Command) → IsSpelled (a ∷ b ∷ []) said → ⊥
none_of_two a b no_load no_once no_check command.Once spelled =
    omega (arith, ap (λ (words : List (List ℕ)). length words) spelled)
none_of_two a b no_load no_once no_check command.OnceOver spelled =
    no_once (heads (a ∷ b ∷ []) a (codes "once") _ _ refl spelled.1)
none_of_two a b no_load no_once no_check (command.Serve at) spelled =
    omega (arith, ap (λ (words : List (List ℕ)). length words) spelled.3)
none_of_two a b no_load no_once no_check command.Init spelled =
    omega (arith, ap (λ (words : List (List ℕ)). length words) spelled.2)
none_of_two a b no_load no_once no_check command.Check spelled =
    no_check (heads (a ∷ b ∷ []) a (codes "check") _ _ refl spelled.1)
none_of_two a b no_load no_once no_check (command.Load count) spelled = no_load count spelled
none_of_two a b no_load no_once no_check (command.Sweep person) spelled =
    omega (arith, ap (λ (words : List (List ℕ)). length words) spelled.2.1)

pub returns-else-eq-2 : goal.returns-else-eq-2
returns-else-eq-2 c =
    none_of_two c.args.word.now c.args.store.now c.in_default.ensures.none
    (λ is. false≢true (sym c.if-eq.false ∙ c.eq.ensures ∙ (bytes_decides c.args.word.now (codes "once")).1 is))
    (λ is. false≢true (sym c.if-eq-2.false ∙ c.eq-else-eq.ensures
    ∙ (bytes_decides c.args.word.now (codes "check")).1 is))
