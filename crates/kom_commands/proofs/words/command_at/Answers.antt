use Rattle.std.proofs.Common.{ℕ, List, [], ◌∷◌, length, ap, arith}
use Rattle.kom_commands.specs.declared.numbers.AtPort.{AtPort}
use Rattle.kom_commands.specs.declared.words.Command.{Command}
use Rattle.kom_commands.specs.declared.words.Command.TheVariants as command
use Rattle.kom_commands.specs.Numbers.{SaysServe}
use Rattle.kom_commands.specs.Sweeps.{SaysSweep}
use Rattle.kom_commands.specs.Words.{IsSpelled}
use Rattle.kom_commands.proofs.words.command_at.Goals as goal

-- four words are no other command
none_of_four : (a b d e : List ℕ) → ((at : AtPort) → SaysServe (a ∷ b ∷ d ∷ e ∷ []) at → ⊥) →
    ((person : ℕ) → SaysSweep (a ∷ b ∷ d ∷ e ∷ []) person → ⊥) → (said : Command) →
    IsSpelled (a ∷ b ∷ d ∷ e ∷ []) said → ⊥
none_of_four a b d e no_serve no_sweep command.Once spelled =
    omega (arith, ap (λ (words : List (List ℕ)). length words) spelled)
none_of_four a b d e no_serve no_sweep command.OnceOver spelled =
    omega (arith, ap (λ (words : List (List ℕ)). length words) spelled.1)
none_of_four a b d e no_serve no_sweep (command.Serve at) spelled = no_serve at spelled
none_of_four a b d e no_serve no_sweep command.Init spelled =
    omega (arith, ap (λ (words : List (List ℕ)). length words) spelled.2)
none_of_four a b d e no_serve no_sweep command.Check spelled =
    omega (arith, ap (λ (words : List (List ℕ)). length words) spelled.1)
none_of_four a b d e no_serve no_sweep (command.Load count) spelled =
    omega (arith, ap (λ (words : List (List ℕ)). length words) spelled.1)
none_of_four a b d e no_serve no_sweep (command.Sweep person) spelled = no_sweep person spelled

pub returns-in-None : goal.returns-in-None
returns-in-None c =
    none_of_four c.args.word.now c.args.store.now c.args.third.now c.args.fourth.now c.in_default.ensures.none
    c.in-None.ensures.none
