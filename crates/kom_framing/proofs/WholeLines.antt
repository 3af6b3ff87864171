-- One line after another.
use Rattle.std.proofs.Common.{◌≡◌, ℕ, ◌+◌, ◌-◌, ◌≤◌, List, [], ◌∷◌, ◌++◌, length, take, drop, map, refl, sym, ap, subst, ◌∙◌}
use Rattle.std.proofs.Common.{arith, append_assoc}
use Rattle.std.proofs.Math.Seq.{take-append_seam}
use Rattle.std.proofs.lemmas.List.{append-nil, drop-drop, length-drop, take_rest}
use Rattle.kom_types.specs.declared.limits.TheConstants.{LONGEST_LINE, LONGEST_STREAM}
use Rattle.kom_types.specs.declared.side.Side.{Side}
use Rattle.kom_types.specs.declared.side.Side.TheVariants as sides
use Rattle.kom_types.specs.Token.{Token}
use Rattle.kom_types.specs.Stream.{Split, with_line, lines_from}
use Rattle.kom_framing.specs.declared.lines.BegunLine.{BegunLine}
use Rattle.kom_framing.specs.declared.units.Unit.{Unit as StreamUnit}
use Rattle.kom_framing.specs.declared.units.Unit.TheVariants as unit
use Rattle.kom_framing.specs.Spans.{tokens_of}
use Rattle.kom_framing.specs.BegunLines.{EndsIn, ScansTo, units_at}
use Rattle.kom_framing.specs.Lexing.{Ended, walk}
use Rattle.kom_framing.specs.WholeLines.{AddsTo, AddsUpTo, Continues}
use Rattle.kom_framing.proofs.BegunLines.{IsWindow, window_prefix, lines_end}

-- the units of a line and of those after it
pub with_line-units : (tokens : List Token) (end : ℕ) (split : Split)
    → map unit.Line (with_line tokens end split).lines ≡ units_at tokens end ++ map unit.Line split.lines
with_line-units [] end split = refl
with_line-units (token ∷ tokens) end split = refl

pub with_line-rest : (tokens : List Token) (end : ℕ) (split : Split) → (with_line tokens end split).rest ≡ split.rest
with_line-rest [] end split = refl
with_line-rest (token ∷ tokens) end split = refl

pub with_line-fault : (tokens : List Token) (end : ℕ) (split : Split) → (with_line tokens end split).fault ≡ split.fault
with_line-fault [] end split = refl
with_line-fault (token ∷ tokens) end split = refl

pub continues_more : (units : List StreamUnit) (tokens : List Token) (end : ℕ) (more all : Split)
    → Continues units (with_line tokens end more) all → Continues (units ++ units_at tokens end) more all
continues_more units tokens end more all so_far = record {
  lines = so_far.lines ∙ ap (λ (us : List StreamUnit). units ++ us) (with_line-units tokens end more)
      ∙ sym (append_assoc units (units_at tokens end) (map unit.Line more.lines));
  rest = so_far.rest ∙ with_line-rest tokens end more;
  fault = so_far.fault ∙ with_line-fault tokens end more;
}

continues_as : (units : List StreamUnit) (more other all : Split) → more ≡ other → Continues units more all
    → Continues units other all
continues_as units more other all e so_far = subst (λ (m : Split). Continues units m all) e so_far

-- what is left of a piece
pub piece_left : (piece : List ℕ) (at : ℕ) → take (length piece - at) (drop at piece) ≡ drop at piece
piece_left piece at = take_rest piece at

-- the unit of a line that is not blank
pub unit_added : (units : List StreamUnit) (text starts : List ℕ) (end : ℕ) → (starts ≡ [] → ⊥)
    → units ++ unit.Line (record { tokens = tokens_of text starts; end = end }) ∷ []
    ≡ units ++ units_at (tokens_of text starts) end
unit_added units text [] end some = absurd (some refl)
unit_added units text (start ∷ starts) end some = refl

-- a blank line is no unit
pub none_added : (units : List StreamUnit) (text starts : List ℕ) (end : ℕ) → starts ≡ []
    → units ≡ units ++ units_at (tokens_of text starts) end
none_added units text [] end blank = sym (append-nil units)
none_added units text (start ∷ starts) end blank = absurd cc

-- the line that a window begins with is that of the piece
pub adds_whole : (place count : ℕ) (window piece starts : List ℕ) (old new : List StreamUnit) → IsWindow window piece
    → place + length window ≤ LONGEST_STREAM → length window ≤ LONGEST_LINE
    → ((side : Side) → EndsIn side [] window starts count)
    → new ≡ old ++ units_at (tokens_of (take count window) starts) (place + count - 1)
    → AddsTo count place piece old new
adds_whole place count window piece starts old new w early short ends added =
    let some = (ends sides.Client).some in
    let within = (ends sides.Client).within in
    let inside : count ≤ length piece = omega (arith, w.within) in
    let tokens : List Token = tokens_of (take count window) starts in
    record {
      tokens = tokens;
      some = some;
      within = inside;
      early = omega arith;
      units = added;
      split = λ side. lines_end side place [] piece count tokens some inside
          (subst (λ (t : List ℕ). walk side t ≡ Ended tokens) (window_prefix window piece count w within)
          (ends side).ended) (omega arith) (omega arith);
    }

-- lines, and one more
continues_added : (side : Side) (place at count : ℕ) (piece : List ℕ) (units old new : List StreamUnit)
    → (adds : AddsTo count (place + at) (drop at piece) old new)
    → Continues units (lines_from side (place + at) [] (drop at piece)) (lines_from side place [] piece)
    → Continues (units ++ units_at adds.tokens (place + at + count - 1))
    (lines_from side (place + (at + count)) [] (drop (at + count) piece)) (lines_from side place [] piece)
continues_added side place at count piece units old new adds so_far =
    let here : place + at + count ≡ place + (at + count) = omega arith in
    let split : lines_from side (place + at) [] (drop at piece)
    ≡ with_line adds.tokens (place + at + count - 1)
    (lines_from side (place + (at + count)) [] (drop (at + count) piece)) =
    adds.split side
    ∙ ap (λ (p : ℕ). with_line adds.tokens (place + at + count - 1)
    (lines_from side p [] (drop count (drop at piece)))) here
    ∙ ap (λ (rest : List ℕ). with_line adds.tokens (place + at + count - 1)
    (lines_from side (place + (at + count)) [] rest)) (drop-drop count at piece) in
    continues_more units adds.tokens (place + at + count - 1)
    (lines_from side (place + (at + count)) [] (drop (at + count) piece)) (lines_from side place [] piece)
    (continues_as units (lines_from side (place + at) [] (drop at piece)) _ (lines_from side place [] piece) split
    so_far)

pub continues_at_once : (side : Side) (place at count : ℕ) (piece : List ℕ) (old new : List StreamUnit)
    → AddsTo count (place + at) (drop at piece) old new
    → Continues old (lines_from side (place + at) [] (drop at piece)) (lines_from side place [] piece)
    → Continues new (lines_from side (place + (at + count)) [] (drop (at + count) piece))
    (lines_from side place [] piece)
continues_at_once side place at count piece old new adds so_far =
    subst (λ (us : List StreamUnit). Continues us
    (lines_from side (place + (at + count)) [] (drop (at + count) piece)) (lines_from side place [] piece))
    (sym adds.units) (continues_added side place at count piece old old new adds so_far)

-- nothing was added yet
pub adds_none : (place : ℕ) (piece : List ℕ) (units : List StreamUnit) → place ≤ LONGEST_STREAM
    → AddsUpTo 0 place piece units units
adds_none place piece units early =
    let here : place ≡ place + 0 = omega arith in
    record {
      added = [];
      within = omega arith;
      early = omega arith;
      units = sym (append-nil units);
      split = λ side. subst
          (λ (p : ℕ). Continues [] (lines_from side p [] piece) (lines_from side place [] piece)) here
          (record { lines = refl; rest = refl; fault = refl });
    }

pub adds_further : (at count place : ℕ) (piece : List ℕ) (old so_far new : List StreamUnit)
    → AddsUpTo at place piece old so_far → AddsTo count (place + at) (drop at piece) so_far new
    → AddsUpTo (at + count) place piece old new
adds_further at count place piece old so_far new before adds =
    let unit_more : List StreamUnit = units_at adds.tokens (place + at + count - 1) in
    record {
      added = before.added ++ unit_more;
      within = omega (arith, before.within, adds.within, length-drop at piece);
      early = omega (arith, adds.early);
      units = adds.units ∙ ap (λ (us : List StreamUnit). us ++ unit_more) before.units
          ∙ append_assoc old before.added unit_more;
      split = λ side.
          continues_added side place at count piece before.added so_far new adds (before.split side);
    }

-- the units of before are the first ones
pub adds_after : (at place : ℕ) (piece : List ℕ) (old new : List StreamUnit) → AddsUpTo at place piece old new
    → take (length old) new ≡ old
adds_after at place piece old new adds =
    ap (λ (us : List StreamUnit). take (length old) us) adds.units ∙ take-append_seam old adds.added

module _ (side : Side) where
  -- a line has ended
  pub continues_line : (place at count : ℕ) (piece : List ℕ) (units ended : List StreamUnit) (old new : BegunLine)
      → old.text.items ≡ [] → ScansTo side count (place + at) old (drop at piece) new
      → ended ≡ units_at (tokens_of new.text.items new.starts.items) (place + (at + count) - 1)
      → Continues units (lines_from side (place + at) [] (drop at piece)) (lines_from side place [] piece)
      → Continues (units ++ ended) (lines_from side (place + (at + count)) [] (drop (at + count) piece))
      (lines_from side place [] piece)
  continues_line place at count piece units ended old new fresh scanned told so_far =
      let tokens : List Token = tokens_of new.text.items new.starts.items in
      let here : place + at + count ≡ place + (at + count) = omega arith in
      let split : lines_from side (place + at) [] (drop at piece)
      ≡ with_line tokens (place + (at + count) - 1)
      (lines_from side (place + (at + count)) [] (drop (at + count) piece)) =
      sym (ap (λ (t : List ℕ). lines_from side (place + at) t (drop at piece)) fresh) ∙ scanned.split
      ∙ ap (λ (p : ℕ). with_line tokens (p - 1) (lines_from side p [] (drop count (drop at piece)))) here
      ∙ ap (λ (rest : List ℕ). with_line tokens (place + (at + count) - 1)
      (lines_from side (place + (at + count)) [] rest))
      (drop-drop count at piece) in
      subst (λ (us : List StreamUnit). Continues (units ++ us)
      (lines_from side (place + (at + count)) [] (drop (at + count) piece)) (lines_from side place [] piece)) (sym told)
      (continues_more units tokens (place + (at + count) - 1)
      (lines_from side (place + (at + count)) [] (drop (at + count) piece)) (lines_from side place [] piece)
      (continues_as units (lines_from side (place + at) [] (drop at piece)) _
      (lines_from side place [] piece) split so_far))
