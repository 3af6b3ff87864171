-- A greeting that has begun, byte by byte, is what the stream makes of it.
use Rattle.std.proofs.Common.{◌≡◌, ℕ, ◌+◌, ◌*◌, ◌-◌, ◌^◌, ◌<◌, ◌≤◌, Bool, true, false, List, [], ◌∷◌, ◌++◌, length}
use Rattle.std.proofs.Common.{get_or, take, drop, Some, refl, sym, ap, subst, ◌∙◌, arith, append_assoc}
use Rattle.std.proofs.Math.Nat.{pow-le-pow_right, pow-succ'}
use Rattle.std.proofs.lemmas.Bool.{lt-ltb}
use Rattle.std.proofs.lemmas.List.{append-nil, length-take-le, length-drop, take_more}
use Rattle.std.proofs.lemmas.List.Sums.{fold-append}
use Rattle.kom_types.specs.declared.limits.TheConstants.{LONGEST_STREAM}
use Rattle.kom_types.specs.declared.side.Side.{Side}
use Rattle.kom_types.specs.declared.byte_kind.ByteKind.TheVariants as kind
use Rattle.kom_types.specs.ByteKind.{kind_of}
use Rattle.kom_types.specs.Grammar.{Form, Prefix, Whole, Unfit, greeting_form}
use Rattle.kom_types.specs.Stream.{Malformed, stopped_in, lines_from, greeting_from}
use Rattle.kom_framing.specs.declared.fault.Fault.TheVariants as found
use Rattle.kom_framing.specs.declared.greeting.Greeting.{Greeting}
use Rattle.kom_framing.specs.Splitting.{Opening, Length, opening_of}
use Rattle.kom_framing.specs.Hearing.{Greets, Going, Ended, Stuck, hear_in_length, hear, next, onward, hear_all}
use Rattle.kom_framing.specs.BegunGreetings.{IsLength, IsGreeting, Lengthens, IsGoing, HearsTo, IsUnheardAt}
use Rattle.kom_framing.specs.BegunGreetings.{greeting_kept, GreetsOn, GreetsTo, GreetsFail}
use Rattle.kom_framing.proofs.Steps.{digit_bounds}
use Rattle.kom_framing.proofs.Hearing.{heard-told, told, onward-stuck}
use Rattle.kom_framing.proofs.Streams.{greeting_goes_on, greeting_ends, greeting_unfit, greeting_late}
use Rattle.kom_framing.proofs.BegunLines.{IsWindow, split_at, split_window, whole_window, window_prefix}

-- ---- the length of the name

pub length_fits : (digits number : ℕ) → digits ≤ 4 → number < 10 ^ digits → 10 * number + 9 < 2 ^ 64
length_fits digits number few small =
    let bound : 10 ^ digits ≤ 10 ^ 4 = pow-le-pow_right {n = 10} (omega arith) {i = digits} {j = 4} few in
    omega arith

pub length_more : (digits number byte : ℕ) (name : List ℕ) → kind_of byte ≡ kind.Digit → digits < 4
    → IsLength digits number name
    → (hear (Length digits number) byte ≡ Going (Length (digits + 1) (10 * number + (byte - 48))))
    × IsLength (digits + 1) (10 * number + (byte - 48)) name
length_more digits number byte name e fewer kept =
    let bounds = digit_bounds byte e in
    let small = kept.small in
    let power : 10 ^ (digits + 1) ≡ 10 * 10 ^ digits = ap (λ (k : ℕ). 10 ^ k) (omega arith) ∙ pow-succ' 10 digits in (
      ap (hear_in_length digits number byte) e
          ∙ ap (λ (b : Bool). elim b [ true ↦ Going (Length (digits + 1) (10 * number + (byte - 48))) | false ↦ Stuck ])
          (lt-ltb digits 4 fewer),
      record { few = omega arith; small = omega arith; nameless = kept.nameless },
    )

-- ---- the bytes of a greeting

pub onward-append : (state : Greets) (prefix back : List ℕ)
    → onward state (prefix ++ back) ≡ onward (onward state prefix) back
onward-append state prefix back = fold-append next state prefix back

goes_on_before : (state : Greets) (bytes : List ℕ) → IsGoing (onward state bytes) → IsGoing state
goes_on_before (Going opening) bytes going = tt
goes_on_before (Ended name) [] going = going
goes_on_before (Ended name) (byte ∷ bytes) going = subst IsGoing (onward-stuck bytes) going
goes_on_before Stuck bytes going = subst IsGoing (onward-stuck bytes) going

ends_from : (state : Greets) (byte : ℕ) (name : List ℕ) → next state byte ≡ Ended name → IsGoing state
ends_from (Going opening) byte name e = tt
ends_from (Ended other) byte name e = absurd cc
ends_from Stuck byte name e = absurd cc

form_goes : (form : Form (List ℕ)) (opening : Opening) → IsGoing (told form opening) → form ≡ Prefix
form_goes Prefix opening going = refl
form_goes (Whole name) opening going = absurd going
form_goes Unfit opening going = absurd going

form_ends : (form : Form (List ℕ)) (opening : Opening) (name : List ℕ) → told form opening ≡ Ended name
    → form ≡ Whole name
form_ends Prefix opening name e = absurd cc
form_ends (Whole other) opening name e = cc
form_ends Unfit opening name e = absurd cc

form_sticks : (form : Form (List ℕ)) (opening : Opening) → told form opening ≡ Stuck → form ≡ Unfit
form_sticks Prefix opening e = absurd cc
form_sticks (Whole name) opening e = absurd cc
form_sticks Unfit opening e = refl

module _ (side : Side) where
  pub greeting_goes : (bytes : List ℕ) → IsGoing (hear_all side bytes) → greeting_form side bytes ≡ Prefix
  greeting_goes bytes going =
      form_goes (greeting_form side bytes) (opening_of side bytes) (subst IsGoing (heard-told side bytes) going)

  greeting_is : (bytes name : List ℕ) → hear_all side bytes ≡ Ended name → greeting_form side bytes ≡ Whole name
  greeting_is bytes name e =
      form_ends (greeting_form side bytes) (opening_of side bytes) name (sym (heard-told side bytes) ∙ e)

  greeting_sticks : (bytes : List ℕ) → hear_all side bytes ≡ Stuck → greeting_form side bytes ≡ Unfit
  greeting_sticks bytes e =
      form_sticks (greeting_form side bytes) (opening_of side bytes) (sym (heard-told side bytes) ∙ e)

  -- what is kept of a greeting's prefix is all that matters
  pub kept_prefix : (bytes : List ℕ) → greeting_form side bytes ≡ Prefix
      → hear_all side bytes ≡ Going (opening_of side bytes)
  kept_prefix bytes e = heard-told side bytes ∙ ap (λ (f : Form (List ℕ)). told f (opening_of side bytes)) e

  going_first : (text : List ℕ) (byte : ℕ) (bytes : List ℕ) → IsGoing (hear_all side (text ++ byte ∷ bytes))
      → IsGoing (hear_all side (text ++ byte ∷ []))
  going_first text byte bytes going =
      let regrouped : text ++ byte ∷ bytes ≡ (text ++ byte ∷ []) ++ bytes = sym (append_assoc text (byte ∷ []) bytes) in
      goes_on_before (hear_all side (text ++ byte ∷ [])) bytes
      (subst IsGoing
      (ap (hear_all side) regrouped ∙ onward-append (Going (opening_of side [])) (text ++ byte ∷ []) bytes) going)

  pub greeting_goes_through : (place : ℕ) (text prefix bytes : List ℕ) → IsGoing (hear_all side (text ++ prefix))
      → place + length prefix ≤ LONGEST_STREAM
      → greeting_from side place text (prefix ++ bytes)
      ≡ greeting_from side (place + length prefix) (text ++ prefix) bytes
  greeting_goes_through place text [] bytes going early =
      let same : place ≡ place + 0 = omega arith in
      ap (λ (p : ℕ). greeting_from side p text bytes) same
      ∙ ap (λ (t : List ℕ). greeting_from side (place + 0) t bytes) (sym (append-nil text))
  greeting_goes_through place text (byte ∷ prefix) bytes going early =
      let regrouped : text ++ byte ∷ prefix ≡ (text ++ byte ∷ []) ++ prefix =
      sym (append_assoc text (byte ∷ []) prefix) in
      let further : place + 1 + length prefix ≡ place + length (byte ∷ prefix) = omega arith in
      greeting_goes_on side place text byte (prefix ++ bytes) (omega arith)
      (greeting_goes (text ++ byte ∷ []) (going_first text byte prefix going))
      ∙ greeting_goes_through (place + 1) (text ++ byte ∷ []) prefix bytes
      (subst (λ (t : List ℕ). IsGoing (hear_all side t)) regrouped going) (omega arith)
      ∙ ap (λ (p : ℕ). greeting_from side p ((text ++ byte ∷ []) ++ prefix) bytes) further
      ∙ ap (λ (t : List ℕ). greeting_from side (place + length (byte ∷ prefix)) t bytes) (sym regrouped)

  heard_more : (text bytes : List ℕ) (before after : Greets) → hear_all side text ≡ before → onward before bytes ≡ after
      → hear_all side (text ++ bytes) ≡ after
  heard_more text bytes before after e goes =
      onward-append (Going (opening_of side [])) text bytes ∙ ap (λ (s : Greets). onward s bytes) e ∙ goes

  greeting_to : (place count : ℕ) (text bytes name : List ℕ) (before : Greets) → hear_all side text ≡ before
      → HearsTo count before bytes name → place + count ≤ LONGEST_STREAM
      → greeting_from side place text bytes
      ≡ record (lines_from side (place + count) [] (drop count bytes)) { greeting = Some name }
  greeting_to place count text bytes name before so_far hears early =
      let some = hears.some in
      let within = hears.within in
      let at : ℕ = count - 1 in
      let back : count ≡ at + 1 = omega arith in
      let inside : at < length bytes = omega arith in
      let prefix : List ℕ = take at bytes in
      let byte : ℕ = get_or bytes at 0 in
      let prefix_length : length prefix ≡ at = length-take-le at bytes (omega arith) in
      let regrouped : text ++ take count bytes ≡ (text ++ prefix) ++ byte ∷ [] =
      ap (λ (n : ℕ). text ++ take n bytes) back ∙ ap (λ (t : List ℕ). text ++ t) (take_more bytes at 0 inside)
      ∙ sym (append_assoc text prefix (byte ∷ [])) in
      let last : hear_all side ((text ++ prefix) ++ byte ∷ []) ≡ Ended name =
      sym (ap (hear_all side) regrouped) ∙ heard_more text (take count bytes) before (Ended name) so_far hears.ended in
      let going : IsGoing (hear_all side (text ++ prefix)) =
      ends_from (hear_all side (text ++ prefix)) byte name
      (sym (onward-append (Going (opening_of side [])) (text ++ prefix) (byte ∷ [])) ∙ last) in
      ap (greeting_from side place text) (split_at bytes at inside)
      ∙ greeting_goes_through place text prefix (byte ∷ drop (at + 1) bytes) going (omega arith)
      ∙ greeting_ends side (place + length prefix) (text ++ prefix) byte (drop (at + 1) bytes) name (omega arith)
      (greeting_is ((text ++ prefix) ++ byte ∷ []) name last)
      ∙ ap (λ (p : ℕ). record (lines_from side p [] (drop (at + 1) bytes)) { greeting = Some name }) (omega arith)
      ∙ ap (λ (n : ℕ). record (lines_from side (place + count) [] (drop n bytes)) { greeting = Some name }) (sym back)

  greeting_unheard : (place at : ℕ) (text bytes : List ℕ) (before : Greets) → hear_all side text ≡ before
      → IsUnheardAt at before bytes → place + at ≤ LONGEST_STREAM
      → (rest : List ℕ) × (greeting_from side place text bytes ≡ stopped_in rest (Some (Malformed (place + at))))
  greeting_unheard place at text bytes before so_far unfit early =
      let inside = unfit.within in
      let prefix : List ℕ = take at bytes in
      let byte : ℕ = get_or bytes at 0 in
      let prefix_length : length prefix ≡ at = length-take-le at bytes (omega arith) in
      let regrouped : text ++ take (at + 1) bytes ≡ (text ++ prefix) ++ byte ∷ [] =
      ap (λ (t : List ℕ). text ++ t) (take_more bytes at 0 inside) ∙ sym (append_assoc text prefix (byte ∷ [])) in
      let last : hear_all side ((text ++ prefix) ++ byte ∷ []) ≡ Stuck =
      sym (ap (hear_all side) regrouped) ∙ heard_more text (take (at + 1) bytes) before Stuck so_far unfit.stuck in
      let going : IsGoing (hear_all side (text ++ prefix)) =
      subst IsGoing (sym (heard_more text prefix before (onward before prefix) so_far refl)) unfit.going in (
        text ++ prefix,
        ap (greeting_from side place text) (split_at bytes at inside)
            ∙ greeting_goes_through place text prefix (byte ∷ drop (at + 1) bytes) going (omega arith)
            ∙ greeting_unfit side (place + length prefix) (text ++ prefix) byte (drop (at + 1) bytes)
            (greeting_sticks ((text ++ prefix) ++ byte ∷ []) last)
            ∙ ap (λ (p : ℕ). stopped_in (text ++ prefix) (Some (Malformed p))) (omega arith),
      )

  late_at : (place : ℕ) (text bytes : List ℕ) → 0 < length bytes → place ≡ LONGEST_STREAM
      → greeting_from side place text bytes ≡ stopped_in text (Some (Malformed place))
  late_at place text [] some late = absurd (omega arith)
  late_at place text (byte ∷ bytes) some late = greeting_late side place text byte bytes (omega arith)

-- ---- a piece, of which a window was heard

pub greets_on : (place : ℕ) (old new : Greeting) (window piece : List ℕ) → IsWindow window piece
    → length window ≡ length piece → place + length window ≤ LONGEST_STREAM
    → onward (Going (greeting_kept old)) window ≡ Going (greeting_kept new) → IsGreeting new.phase new.name.items
    → GreetsOn place old piece new
greets_on place old new window piece w same early goes kept =
    let all : window ≡ piece = whole_window window piece w same in
    let goes_all : onward (Going (greeting_kept old)) piece ≡ Going (greeting_kept new) =
    subst (λ (t : List ℕ). onward (Going (greeting_kept old)) t ≡ Going (greeting_kept new)) all goes in
    record {
      greeting = kept;
      early = omega arith;
      split = λ side bytes so_far. ap (greeting_from side place bytes) (sym (append-nil piece))
          ∙ greeting_goes_through side place bytes piece []
          (subst IsGoing
          (sym (heard_more side bytes piece (Going (greeting_kept old)) (Going (greeting_kept new)) so_far goes_all))
          tt)
          (omega arith);
      heard_more = λ side bytes so_far. heard_more side bytes piece (Going (greeting_kept old))
          (Going (greeting_kept new)) so_far
          goes_all;
    }

pub greets_late : (place : ℕ) (old : Greeting) (window piece : List ℕ) (after : Opening) → IsWindow window piece
    → length window < length piece → place + length window ≡ LONGEST_STREAM
    → onward (Going (greeting_kept old)) window ≡ Going after
    → GreetsFail place old piece (found.Malformed (place + length window))
greets_late place old window piece after w fewer late goes = record {
  split = λ side bytes so_far. (
    bytes ++ window,
    ap (greeting_from side place bytes) (split_window window piece w)
        ∙ greeting_goes_through side place bytes window (drop (length window) piece)
        (subst IsGoing (sym (heard_more side bytes window (Going (greeting_kept old)) (Going after) so_far goes)) tt)
        (omega arith)
        ∙ late_at side (place + length window) (bytes ++ window) (drop (length window) piece)
        (omega (arith, length-drop (length window) piece)) late,
  );
}

pub greets_to : (count place : ℕ) (old new : Greeting) (window piece : List ℕ) → IsWindow window piece
    → place + length window ≤ LONGEST_STREAM → Lengthens old.name.items new.name.items
    → HearsTo count (Going (greeting_kept old)) window new.name.items → GreetsTo count place old piece new
greets_to count place old new window piece w early lengthens hears =
    let within = hears.within in
    let inside : count ≤ length piece = omega (arith, w.within) in
    let hears_piece : HearsTo count (Going (greeting_kept old)) piece new.name.items = record {
      some = hears.some;
      within = inside;
      ended = ap (onward (Going (greeting_kept old))) (sym (window_prefix window piece count w within)) ∙ hears.ended;
    } in
    record {
      some = hears.some;
      within = inside;
      early = omega arith;
      lengthens = lengthens;
      split = λ side bytes so_far. greeting_to side place count bytes piece new.name.items
          (Going (greeting_kept old)) so_far
          hears_piece (omega arith);
    }

pub greets_unfit : (at place : ℕ) (old : Greeting) (window piece : List ℕ) → IsWindow window piece
    → place + length window ≤ LONGEST_STREAM → IsUnheardAt at (Going (greeting_kept old)) window
    → GreetsFail place old piece (found.Malformed (place + at))
greets_unfit at place old window piece w early unfit =
    let within = unfit.within in
    let unfit_piece : IsUnheardAt at (Going (greeting_kept old)) piece = record {
      within = omega (arith, w.within);
      going = subst (λ (t : List ℕ). IsGoing (onward (Going (greeting_kept old)) t))
          (window_prefix window piece at w (omega arith)) unfit.going;
      stuck = ap (onward (Going (greeting_kept old))) (sym (window_prefix window piece (at + 1) w (omega arith)))
          ∙ unfit.stuck;
    } in
    record {
      split = λ side bytes so_far. greeting_unheard side place at bytes piece
          (Going (greeting_kept old)) so_far unfit_piece
          (omega arith);
    }
