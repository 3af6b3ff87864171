use Rattle.std.proofs.Common.{◌<◌, List, ℕ, length, get_or, Some, ap, sym, ◌∙◌, arith}
use Rattle.std.specs.Prelude.{slice_get}
use Rattle.std.proofs.lemmas.List.{length-map}
use Rattle.kom_types.specs.Stream as stream
use Rattle.kom_framing.specs.Spans.{token_of}
use Rattle.kom_framing.proofs.Spans.{is_token_at, token_at_index}
use Rattle.kom_framing.proofs.line.Line.token.Goals as goal

pub token_at-requires : goal.token_at-requires
token_at-requires c =
    let starts : List ℕ = c.self.inside.starts.items in
    let below : c.args.index < length starts =
    omega (
      arith,
      c.requires,
      ap (λ (l : stream.Line). length l.tokens) c.self.view_is,
      length-map starts (token_of c.self.inside.text.items),
    ) in
    rw (c.as_slice.ensures, c.as_slice-2.ensures)
    (is_token_at c.self.inside.text.items starts c.args.index 0 c.self.invariant below)

pub returns : goal.returns
returns c =
    let starts : List ℕ = c.self.inside.starts.items in
    let below : c.args.index < length starts =
    omega (
      arith,
      c.requires,
      ap (λ (l : stream.Line). length l.tokens) c.self.view_is,
      length-map starts (token_of c.self.inside.text.items),
    ) in
    sym (ap (λ (l : stream.Line). slice_get l.tokens c.args.index) c.self.view_is)
    ∙ token_at_index c.self.inside.text.items starts c.args.index 0 below
    ∙ ap (λ (ss : List ℕ). Some (token_of c.self.inside.text.items (get_or ss c.args.index 0)))
    (sym c.as_slice-2.ensures)
    ∙ ap (λ (t : List ℕ). Some (token_of t (get_or c.as_slice-2.result.now c.args.index 0)))
    (sym c.as_slice.ensures)
    ∙ ap Some (sym c.token_at.ensures)
