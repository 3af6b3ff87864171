-- What the drains of a session give is a prefix of what it is to be sent.
use Rattle.std.proofs.Common.{ℕ, List, ◌++◌, sym, ap, ◌∙◌}
use Rattle.std.proofs.lemmas.List.{map-append}
use Rattle.kom_types.specs.declared.acts.Record.{Record}
use Rattle.kom_model.specs.State.{State, IsSound}
use Rattle.kom_model.specs.Legal.{IsLegal}
use Rattle.kom_model.specs.Out.{items_of, out_of}
use Rattle.kom_model.specs.Laws.{IsPrefix, all_given}
use Rattle.kom_model.proofs.Along.{taken_along, given-taken, out-added, MovesAlong, history_moves}

pub gives_prefixes : (state : State) (n : ℕ) (history : List Record) → IsSound state → IsLegal state history →
    IsPrefix (all_given state n history) (out_of state n history)
gives_prefixes state n history sound legal =
    let along : MovesAlong n state history = history_moves n state history sound legal in (
      items_of along.rest,
      ap (λ items. items ++ items_of along.rest) (given-taken n state history)
          ∙ sym (map-append (λ one. one.item) (taken_along n state history) along.rest)
          ∙ ap items_of (sym along.moves)
          ∙ sym (out-added n state history),
    )
