-- A server's stream that goes on has the lines that it had, and more.
use Rattle.std.proofs.Common.{◌≡◌, ℕ, ◌+◌, List, [], ◌∷◌, ◌++◌, map, Option, Some, None, refl, sym, ap, ◌∙◌}
use Rattle.std.specs.Prelude.{option_to_list}
use Rattle.std.proofs.lemmas.List.{map-append}
use Rattle.kom_types.specs.declared.side.Side.TheVariants as side
use Rattle.kom_types.specs.Token.{Token}
use Rattle.kom_types.specs.Stream.{Line, Split, Fault, Verdict, GoesOn, Ends, Fails, line_verdict, greeting_verdict}
use Rattle.kom_types.specs.Stream.{with_line}
use Rattle.kom_types.specs.Stream.{stopped_in, lines_from, greeting_from, stream_by}
use Rattle.kom_framing.specs.declared.units.Unit.{Unit as StreamUnit}
use Rattle.kom_framing.specs.declared.units.Unit.TheVariants as unit
use Rattle.kom_framing.specs.Splitting.{units_of}

-- ---- one stream begins as the other

pub record Grows (part whole : Split) : Type 0 where
  pub more : List Line
  pub lines : whole.lines ≡ part.lines ++ more

abbrev after_byte : ℕ → List ℕ → ℕ → List ℕ → Verdict (List Token) → Split
after_byte place text byte bytes GoesOn = lines_from side.Server (place + 1) (text ++ byte ∷ []) bytes
after_byte place text byte bytes (Ends tokens) = with_line tokens place (lines_from side.Server (place + 1) [] bytes)
after_byte place text byte bytes (Fails fault) = stopped_in text (Some fault)

more_lines : (tokens : List Token) (end : ℕ) (part whole : Split) → Grows part whole
    → Grows (with_line tokens end part) (with_line tokens end whole)
more_lines [] end part whole g = g
more_lines (token ∷ tokens) end part whole g = record {
  more = g.more;
  lines = ap (λ (lines : List Line). record { tokens = token ∷ tokens; end = end } ∷ lines) g.lines;
}

grows_by : (place : ℕ) (text : List ℕ) (byte : ℕ) (xs ys : List ℕ) →
    ((place : ℕ) (text : List ℕ)
    → Grows (lines_from side.Server place text xs) (lines_from side.Server place text (xs ++ ys))) →
    (judged : Verdict (List Token))
    → Grows (after_byte place text byte xs judged) (after_byte place text byte (xs ++ ys) judged)
grows_by place text byte xs ys ih GoesOn = ih (place + 1) (text ++ byte ∷ [])
grows_by place text byte xs ys ih (Ends tokens) = more_lines tokens place _ _ (ih (place + 1) [])
grows_by place text byte xs ys ih (Fails fault) = record { more = []; lines = refl }

lines_grow : (xs ys : List ℕ) (place : ℕ) (text : List ℕ)
    → Grows (lines_from side.Server place text xs) (lines_from side.Server place text (xs ++ ys))
lines_grow [] ys place text = record { more = (lines_from side.Server place text ys).lines; lines = refl }
lines_grow (byte ∷ xs) ys place text =
    grows_by place text byte xs ys (lines_grow xs ys) (line_verdict side.Server place (text ++ byte ∷ []))

-- the same of units
pub record Continues (part whole : Split) : Type 0 where
  pub more : List StreamUnit
  pub units : units_of whole ≡ units_of part ++ more

abbrev after_letter : ℕ → List ℕ → ℕ → List ℕ → Verdict (List ℕ) → Split
after_letter place text byte bytes GoesOn = greeting_from side.Server (place + 1) (text ++ byte ∷ []) bytes
after_letter place text byte bytes (Ends name) =
    record (lines_from side.Server (place + 1) [] bytes) { greeting = Some name }
after_letter place text byte bytes (Fails fault) = stopped_in text (Some fault)

continues_by : (place : ℕ) (text : List ℕ) (byte : ℕ) (xs ys : List ℕ) →
    Continues (greeting_from side.Server (place + 1) (text ++ byte ∷ []) xs)
    (greeting_from side.Server (place + 1) (text ++ byte ∷ []) (xs ++ ys)) →
    (judged : Verdict (List ℕ))
    → Continues (after_letter place text byte xs judged) (after_letter place text byte (xs ++ ys) judged)
continues_by place text byte xs ys ih GoesOn = ih
continues_by place text byte xs ys ih (Ends name) =
    let g = lines_grow xs ys (place + 1) [] in
    record {
      more = map unit.Line g.more;
      units = ap (λ (lines : List Line). unit.Hello name ∷ map unit.Line lines) g.lines
          ∙ ap (λ (units : List StreamUnit). unit.Hello name ∷ units)
          (map-append unit.Line (lines_from side.Server (place + 1) [] xs).lines g.more);
    }
continues_by place text byte xs ys ih (Fails fault) = record { more = []; units = refl }

continues_from : (xs ys : List ℕ) (place : ℕ) (text : List ℕ)
    → Continues (greeting_from side.Server place text xs) (greeting_from side.Server place text (xs ++ ys))
continues_from [] ys place text = record { more = units_of (greeting_from side.Server place text ys); units = refl }
continues_from (byte ∷ xs) ys place text =
    continues_by place text byte xs ys (continues_from xs ys (place + 1) (text ++ byte ∷ []))
    (greeting_verdict side.Server place (text ++ byte ∷ []))

pub continues : (fed piece : List ℕ) → Continues (stream_by side.Server fed) (stream_by side.Server (fed ++ piece))
continues fed piece = continues_from fed piece 0 []

-- ---- the units of a stream, as its greeting and its lines

-- the greeting has this name, and the lines after these are the units that are held
pub record HasLines (split : Split) (name : List ℕ) (done : List Line) (held : List StreamUnit) : Type 0 where
  pub greeted : split.greeting ≡ Some name
  pub left : List Line
  pub lines : split.lines ≡ done ++ left
  pub units : held ≡ map unit.Line left

record Rest (all done : List Line) (held : List StreamUnit) : Type 0 where
  left : List Line
  lines : all ≡ done ++ left
  units : held ≡ map unit.Line left

rest_of : (lines done : List Line) (held : List StreamUnit) → map unit.Line lines ≡ map unit.Line done ++ held
    → Rest lines done held
rest_of lines [] held e = record { left = lines; lines = refl; units = sym e }
rest_of [] (first ∷ done) held e = absurd cc
rest_of (line ∷ lines) (first ∷ done) held e =
    let same : line ≡ first = cc in
    let tails : map unit.Line lines ≡ map unit.Line done ++ held = cc in
    let r = rest_of lines done held tails in
    record { left = r.left; lines = let t : lines ≡ done ++ r.left = r.lines in cc; units = r.units }

no_hello : (lines : List Line) (name : List ℕ) (units : List StreamUnit)
    → map unit.Line lines ≡ unit.Hello name ∷ units → ⊥
no_hello [] name units e = cc
no_hello (line ∷ lines) name units e = cc

lines_by : (greeting : Option (List ℕ)) (lines : List Line) (rest : List ℕ) (fault : Option Fault) (name : List ℕ)
    (done : List Line) (held : List StreamUnit) →
    units_of (record { greeting = greeting; lines = lines; rest = rest; fault = fault })
    ≡ (unit.Hello name ∷ map unit.Line done) ++ held
    → HasLines (record { greeting = greeting; lines = lines; rest = rest; fault = fault }) name done held
lines_by None lines rest fault name done held e = absurd (no_hello lines name (map unit.Line done ++ held) e)
lines_by (Some other) lines rest fault name done held e =
    let same : other ≡ name = cc in
    let tails : map unit.Line lines ≡ map unit.Line done ++ held = cc in
    let r = rest_of lines done held tails in
    record { greeted = ap Some same; left = r.left; lines = r.lines; units = r.units }

pub has_lines : (split : Split) (name : List ℕ) (done : List Line) (held : List StreamUnit)
    → units_of split ≡ (unit.Hello name ∷ map unit.Line done) ++ held → HasLines split name done held
has_lines split name done held e = lines_by split.greeting split.lines split.rest split.fault name done held e

-- no second greeting stands among the lines
pub no_second : {split : Split} {name : List ℕ} {done : List Line} (other : List ℕ) (held : List StreamUnit)
    → HasLines split name done (unit.Hello other ∷ held) → ⊥
no_second other held h = no_hello h.left other held (sym h.units)

-- a stream without a unit was not greeted
unit_greets : (greeting : Option (List ℕ)) (lines : List Line)
    → map unit.Hello (option_to_list greeting) ++ map unit.Line lines ≡ [] → greeting ≡ None
unit_greets None lines e = refl
unit_greets (Some name) lines e = absurd cc

pub none_greeted : (split : Split) → units_of split ≡ [] → split.greeting ≡ None
none_greeted split e = unit_greets split.greeting split.lines e

-- no line comes before the greeting
abbrev IsLineless : Split → Type 0
IsLineless split = split.greeting ≡ None → split.lines ≡ []

lineless_by : (place : ℕ) (text : List ℕ) (byte : ℕ) (bytes : List ℕ) →
    IsLineless (greeting_from side.Server (place + 1) (text ++ byte ∷ []) bytes) →
    (judged : Verdict (List ℕ)) → IsLineless (after_letter place text byte bytes judged)
lineless_by place text byte bytes ih GoesOn = ih
lineless_by place text byte bytes ih (Ends name) = λ e. absurd cc
lineless_by place text byte bytes ih (Fails fault) = λ e. refl

lineless_from : (bytes : List ℕ) (place : ℕ) (text : List ℕ) → IsLineless (greeting_from side.Server place text bytes)
lineless_from [] place text = λ e. refl
lineless_from (byte ∷ bytes) place text =
    lineless_by place text byte bytes (lineless_from bytes (place + 1) (text ++ byte ∷ []))
    (greeting_verdict side.Server place (text ++ byte ∷ []))

no_first_line : (greeting : Option (List ℕ)) (lines : List Line) (line : Line) (held : List StreamUnit) →
    (greeting ≡ None → lines ≡ []) →
    map unit.Hello (option_to_list greeting) ++ map unit.Line lines ≡ unit.Line line ∷ held → ⊥
no_first_line (Some name) lines line held none e = cc
no_first_line None [] line held none e = cc
no_first_line None (first ∷ lines) line held none e = let empty : first ∷ lines ≡ [] = none refl in cc

pub greeting_first : (bytes : List ℕ) (line : Line) (held : List StreamUnit)
    → units_of (stream_by side.Server bytes) ≡ unit.Line line ∷ held → ⊥
greeting_first bytes line held e =
    no_first_line (stream_by side.Server bytes).greeting (stream_by side.Server bytes).lines line held
    (lineless_from bytes 0 []) e
