-- What was typed, line by line.
use Rattle.std.proofs.Common.{◌≡◌, ℕ, ◌+◌, ◌-◌, ◌<◌, ◌==◌, Bool, true, false, not, cond, if◌then◌else◌, List, []}
use Rattle.std.proofs.Common.{◌∷◌, ◌++◌, length, take, drop}
use Rattle.std.proofs.Common.{Option, IfSome, refl, sym, ap, subst, ◌∙◌, append_assoc, append-nil, arith}
use Rattle.std.proofs.lemmas.Bool.{eqb-true}
use Rattle.std.proofs.lemmas.List.Sums.{take_while-cons}
use Rattle.std.proofs.lemmas.List.{length-take-le, length-drop}
use Rattle.std.proofs.Math.Seq.{take-length}
use Rattle.kom_links.specs.declared.link.Got.{Got}
use Rattle.kom_links.specs.declared.link.Got.TheVariants as got
use Rattle.kom_links.specs.Outside.{LinkView, Reads, IsFresh, read_bytes, with_bytes}
use Rattle.kom_exchange.specs.Fair.{HasTyped}
use Rattle.kom_exchange.specs.Pages.{goes_on, first_line, behind_line, behind_lines}
use Rattle.kom_exchange.specs.Typing.{IsTyped, Types}
use Rattle.kom_exchange.proofs.Going.{grows_none}
use Rattle.kom_exchange.proofs.Spelling.{if_map, if_more}

true_false : true ≡ false → ⊥
true_false e = cc

pub typed_new : (link : LinkView) (held : List ℕ) (fault : Bool) → IsFresh link → held ≡ []
    → IsTyped link.taken held fault
typed_new link held fault f e = record {
  lines = [];
  begun = if_map (λ bytes. bytes ≡ [])
      (λ bytes. (more : List ℕ) × (bytes ≡ behind_lines [] (held ++ more))) link.taken
      (λ bytes none. ([], none ∙ sym (append-nil held ∙ e))) f.nothing_taken;
  whole = λ _. if_map (λ bytes. bytes ≡ []) (λ bytes. bytes ≡ behind_lines [] held) link.taken
      (λ bytes none. none ∙ sym e) f.nothing_taken;
}

-- bytes more stand behind what is held
pub lines_more : (lines : List (List ℕ)) (held piece : List ℕ)
    → behind_lines lines held ++ piece ≡ behind_lines lines (held ++ piece)
lines_more [] held piece = refl
lines_more (line ∷ lines) held piece =
    append_assoc line (10 ∷ behind_lines lines held) piece
    ∙ ap (λ (xs : List ℕ). line ++ 10 ∷ xs) (lines_more lines held piece)

pub typed_more : (old new : LinkView) (held after buffer some : List ℕ) (count : ℕ) (fault : Bool) → fault ≡ false
    → IsTyped old.taken held fault → Reads old buffer (got.Some count) new → some ≡ take count buffer
    → after ≡ held ++ some → IsTyped new.taken after fault
typed_more old new held after buffer some count fault ok t r es ea =
    let e : after ≡ held ++ take count buffer = ea ∙ ap (λ (xs : List ℕ). held ++ xs) es in
    let piece : List ℕ = take count buffer in record {
      lines = t.lines;
      begun = if_more (λ bytes. bytes ≡ behind_lines t.lines held)
          (λ bytes. (more : List ℕ) × (bytes ≡ behind_lines t.lines (after ++ more))) piece old.taken new.taken r.taken
          (λ bytes p. (
            [],
            ap (λ (xs : List ℕ). xs ++ piece) p ∙ lines_more t.lines held piece
                ∙ ap (behind_lines t.lines) (sym (append-nil after ∙ e)),
          )) (t.whole ok);
      whole = λ _. if_more (λ bytes. bytes ≡ behind_lines t.lines held)
          (λ bytes. bytes ≡ behind_lines t.lines after) piece old.taken new.taken r.taken
          (λ bytes p. ap (λ (xs : List ℕ). xs ++ piece) p ∙ lines_more t.lines held piece
          ∙ ap (behind_lines t.lines) (sym e)) (t.whole ok);
    }

-- what was read is not held
lost : (old new : Option (List ℕ)) (held piece : List ℕ) (was now : Bool) → IsTyped old held was
    → new ≡ with_bytes piece old → now ≡ true → IsTyped new held now
lost old new held piece was now t e f = record {
  lines = t.lines;
  begun = if_more (λ bytes. (more : List ℕ) × (bytes ≡ behind_lines t.lines (held ++ more)))
      (λ bytes. (more : List ℕ) × (bytes ≡ behind_lines t.lines (held ++ more))) piece old new e
      (λ bytes p. (
        p.0 ++ piece,
        ap (λ (xs : List ℕ). xs ++ piece) p.1 ∙ lines_more t.lines (held ++ p.0) piece
            ∙ ap (behind_lines t.lines) (append_assoc held p.0 piece),
      )) t.begun;
  whole = λ g. absurd (true_false (sym f ∙ g));
}

pub typed_lost : (old new : LinkView) (held after buffer : List ℕ) (answer : Got) (was now : Bool)
    → IsTyped old.taken held was → Reads old buffer answer new → now ≡ true → after ≡ held
    → IsTyped new.taken after now
typed_lost old new held after buffer answer was now t r f same =
    subst (λ (xs : List ℕ). IsTyped new.taken xs now) (sym same)
    (lost old.taken new.taken held (read_bytes answer buffer) was now t r.taken f)

still : (old new : Option (List ℕ)) (held : List ℕ) (fault : Bool) → IsTyped old held fault → new ≡ with_bytes [] old
    → IsTyped new held fault
still old new held fault t e = record {
  lines = t.lines;
  begun = if_more (λ bytes. (more : List ℕ) × (bytes ≡ behind_lines t.lines (held ++ more)))
      (λ bytes. (more : List ℕ) × (bytes ≡ behind_lines t.lines (held ++ more))) [] old new e
      (λ bytes p. (p.0, append-nil bytes ∙ p.1)) t.begun;
  whole = λ f. if_more (λ bytes. bytes ≡ behind_lines t.lines held) (λ bytes. bytes ≡ behind_lines t.lines held) []
      old new e (λ bytes p. append-nil bytes ∙ p) (t.whole f);
}

pub typed_same : (old new : LinkView) (held buffer : List ℕ) (answer : Got) (fault : Bool)
    → IsTyped old.taken held fault → Reads old buffer answer new → read_bytes answer buffer ≡ []
    → IsTyped new.taken held fault
typed_same old new held buffer answer fault t r none =
    still old.taken new.taken held fault t (r.taken ∙ ap (λ (xs : List ℕ). with_bytes xs old.taken) none)

pub types_none : (link : LinkView) → Types link link
types_none link = record { typed = grows_none link.taken }

pub types_read : (old new : LinkView) (buffer : List ℕ) (answer : Got) → Reads old buffer answer new → Types old new
types_read old new buffer answer r = record { typed = (read_bytes answer buffer, r.taken) }

pub types_from : (inside old new : LinkView) → inside ≡ old → Types inside new → Types old new
types_from inside old new e t = subst (λ (x : LinkView). Types x new) e t

-- ---- a line is given out

not_false : (b : Bool) → not b ≡ false → b ≡ true
not_false true e = refl
not_false false e = absurd (true_false e)

stops_at : (byte : ℕ) → goes_on byte ≡ false → byte ≡ 10
stops_at byte e = eqb-true byte 10 (not_false (byte == 10) e)

split_by : (v : Bool) (byte : ℕ) (bytes : List ℕ) → (v ≡ false → byte ≡ 10)
    → (length (first_line bytes) < length bytes → bytes ≡ first_line bytes ++ 10 ∷ behind_line bytes)
    → length (cond v (byte ∷ first_line bytes) []) < length (byte ∷ bytes)
    → byte ∷ bytes ≡ cond v (byte ∷ first_line bytes) [] ++ 10 ∷ (if v then behind_line bytes else bytes)
split_by true byte bytes stops rest short = ap (λ (xs : List ℕ). byte ∷ xs) (rest (omega arith))
split_by false byte bytes stops rest short = ap (λ (b : ℕ). b ∷ bytes) (stops refl)

-- bytes that have a line feed are their first line, it, and what stands behind it
parts_of_line : (bytes : List ℕ) → length (first_line bytes) < length bytes
    → bytes ≡ first_line bytes ++ 10 ∷ behind_line bytes
parts_of_line [] short = absurd (omega arith)
parts_of_line (byte ∷ bytes) short =
    split_by (goes_on byte) byte bytes (stops_at byte) (parts_of_line bytes)
    (subst (λ (xs : List ℕ). length xs < length (byte ∷ bytes)) (take_while-cons goes_on byte bytes) short)
    ∙ ap (λ (xs : List ℕ). xs ++ 10 ∷ behind_line (byte ∷ bytes)) (sym (take_while-cons goes_on byte bytes))

whole_held : (held : List ℕ) (end : ℕ) → end < length held → take end held ≡ first_line held
    → held ≡ first_line held ++ 10 ∷ behind_line held
whole_held held end within first =
    let size : length (first_line held) ≡ end =
    ap length (sym first) ∙ length-take-le end held (omega arith) in
    parts_of_line held (omega arith)

-- a line more is given out
lines_snoc : (lines : List (List ℕ)) (line rest : List ℕ)
    → behind_lines lines (line ++ 10 ∷ rest) ≡ behind_lines (lines ++ line ∷ []) rest
lines_snoc [] line rest = refl
lines_snoc (first ∷ lines) line rest = ap (λ (xs : List ℕ). first ++ 10 ∷ xs) (lines_snoc lines line rest)

behind_more : (lines : List (List ℕ)) (held more : List ℕ) → held ≡ first_line held ++ 10 ∷ behind_line held
    → behind_lines lines (held ++ more)
    ≡ behind_lines lines (first_line held ++ 10 ∷ (behind_line held ++ more))
behind_more lines held more whole =
    ap (λ (xs : List ℕ). behind_lines lines (xs ++ more)) whole
    ∙ ap (behind_lines lines) (append_assoc (first_line held) (10 ∷ behind_line held) more)

pub typed_line : (taken : Option (List ℕ)) (held rest : List ℕ) (end : ℕ) (fault : Bool)
    → IsTyped taken held fault → end < length held → take end held ≡ first_line held
    → rest ≡ drop (end + 1) held → drop (end + 1) held ≡ behind_line held → IsTyped taken rest fault
typed_line taken held rest end fault t within first er behind =
    let line : List ℕ = first_line held in
    let whole : held ≡ line ++ 10 ∷ behind_line held = whole_held held end within first in
    let left : behind_line held ≡ rest = sym (er ∙ behind) in
    record {
      lines = t.lines ++ line ∷ [];
      begun = if_map (λ bytes. (more : List ℕ) × (bytes ≡ behind_lines t.lines (held ++ more)))
          (λ bytes. (more : List ℕ) × (bytes ≡ behind_lines (t.lines ++ line ∷ []) (rest ++ more))) taken
          (λ bytes p. (
            p.0,
            p.1 ∙ behind_more t.lines held p.0 whole ∙ lines_snoc t.lines line (behind_line held ++ p.0)
                ∙ ap (λ (xs : List ℕ). behind_lines (t.lines ++ line ∷ []) (xs ++ p.0)) left,
          )) t.begun;
      whole = λ ok. if_map (λ bytes. bytes ≡ behind_lines t.lines held)
          (λ bytes. bytes ≡ behind_lines (t.lines ++ line ∷ []) rest) taken
          (λ bytes p. p ∙ ap (behind_lines t.lines) whole ∙ lines_snoc t.lines line (behind_line held)
          ∙ ap (behind_lines (t.lines ++ line ∷ [])) left) (t.whole ok);
    }

pub has_typed : (taken : Option (List ℕ)) (held line : List ℕ) (end : ℕ) (fault : Bool)
    → IsTyped taken held fault → end < length held → take end held ≡ first_line held → line ≡ take end held
    → IfSome taken (HasTyped line)
has_typed taken held line end fault t within first el =
    let whole : held ≡ first_line held ++ 10 ∷ behind_line held = whole_held held end within first in
    if_map (λ bytes. (more : List ℕ) × (bytes ≡ behind_lines t.lines (held ++ more))) (HasTyped line) taken
    (λ bytes p. record {
      before = t.lines;
      after = behind_line held ++ p.0;
      stands = p.1 ∙ behind_more t.lines held p.0 whole
          ∙ ap (λ (xs : List ℕ). behind_lines t.lines (xs ++ 10 ∷ (behind_line held ++ p.0))) (sym (el ∙ first));
    }) t.begun

-- all that stands behind so many of the first bytes
pub rest_whole : (bytes : List ℕ) (count : ℕ) → take (length bytes - count) (drop count bytes) ≡ drop count bytes
rest_whole bytes count =
    ap (λ (n : ℕ). take n (drop count bytes)) (sym (length-drop count bytes)) ∙ take-length (drop count bytes)
