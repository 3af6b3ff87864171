-- Lines that a screen takes, one after another.
use Rattle.std.proofs.Common.{◌≡◌, ℕ, List, [], ◌∷◌, ◌++◌, length, map, refl, sym, ap, subst, ◌∙◌, append_assoc}
use Rattle.std.proofs.Common.{Option, Some, None, IfSome, ◌==◌, true, false}
use Rattle.std.specs.Str.{chars}
use Rattle.kom_letters.specs.declared.charsets.Charset.{Charset}
use Rattle.kom_links.specs.Outside.{with_bytes}
use Rattle.kom_screen.specs.declared.fronts.Front.{Front}
use Rattle.kom_screen.specs.declared.fronts.Front.TheVariants as front
use Rattle.kom_screen.specs.Screens.{Seen, Puts, line_feed_if, letters_behind}
use Rattle.kom_exchange.specs.declared.told.Told.{Told}
use Rattle.kom_exchange.specs.Pages.{first_line, behind_line, lines_of, HasShown, Shows, onto, HasPage, Adds}
use Rattle.kom_exchange.proofs.FirstLines.{lines_first, some_of}
use Rattle.kom_exchange.proofs.Links.{is_empty}

-- what was taken stays
pub has_more : (lines : List (List ℕ)) (put more : List ℕ) → HasShown lines put → HasShown lines (put ++ more)
has_more [] put more h = tt
has_more (line ∷ earlier) put more h = (
  h.0,
  h.1,
  h.2 ++ more,
  ap (λ (bytes : List ℕ). bytes ++ more) h.3 ∙ append_assoc (h.0 ++ h.1) (10 ∷ h.2) more,
  h.4,
  h.5,
)

-- a line less
has_less : (line : List ℕ) (earlier : List (List ℕ)) (put : List ℕ) → HasShown (line ∷ earlier) put
    → HasShown earlier put
has_less line earlier put h =
    subst (λ (bytes : List ℕ). HasShown earlier bytes) (sym (h.3 ∙ append_assoc h.0 h.1 (10 ∷ h.2)))
    (has_more earlier h.0 (h.1 ++ 10 ∷ h.2) h.5)

-- a line more, behind what ends a prompt
has_line : (text feed : List ℕ) (earlier : List (List ℕ)) (put : List ℕ) → HasShown earlier put
    → HasShown (chars text ∷ earlier) ((put ++ feed) ++ (text ++ 10 ∷ []))
has_line text feed earlier put h =
    (put ++ feed, text, [], sym (append_assoc (put ++ feed) text (10 ∷ [])), refl, has_more earlier put feed h)

-- the same where a sink tells it
told_line : (text feed : List ℕ) (earlier : List (List ℕ)) (old new : Option (List ℕ))
    → new ≡ with_bytes (text ++ 10 ∷ []) (with_bytes feed old) → IfSome old (HasShown earlier)
    → IfSome new (HasShown (chars text ∷ earlier))
told_line text feed earlier None new e h =
    subst (λ (o : Option (List ℕ)). IfSome o (HasShown (chars text ∷ earlier))) (sym e) tt
told_line text feed earlier (Some put) new e h =
    subst (λ (o : Option (List ℕ)). IfSome o (HasShown (chars text ∷ earlier))) (sym e)
    (has_line text feed earlier put h)

told_more : (bytes feed : List ℕ) (earlier : List (List ℕ)) (old new : Option (List ℕ))
    → new ≡ with_bytes bytes (with_bytes feed old) → IfSome old (HasShown earlier) → IfSome new (HasShown earlier)
told_more bytes feed earlier None new e h =
    subst (λ (o : Option (List ℕ)). IfSome o (HasShown earlier)) (sym e) tt
told_more bytes feed earlier (Some put) new e h =
    subst (λ (o : Option (List ℕ)). IfSome o (HasShown earlier)) (sym e)
    (has_more earlier (put ++ feed) bytes (has_more earlier put feed h))

told_less : (line : List ℕ) (earlier : List (List ℕ)) (o : Option (List ℕ)) → IfSome o (HasShown (line ∷ earlier))
    → IfSome o (HasShown earlier)
told_less line earlier None h = tt
told_less line earlier (Some put) h = has_less line earlier put h

told_none : (o : Option (List ℕ)) → IfSome o (HasShown [])
told_none None = tt
told_none (Some put) = tt

-- a line that was made for the screen was put
pub adds_taken : {old new : Seen} {letters taken : List ℕ} → Puts old taken (10 ∷ []) new
    → new.columns ≡ old.columns → taken ≡ letters → Adds (letters ∷ []) old new
adds_taken {old} {new} {letters} {taken} p columns spelled = record {
  columns = columns;
  shown = λ earlier h.
      subst (λ (line : List ℕ). Shows (line ∷ earlier) new) (p.spelled ∙ spelled)
      (told_line p.text (line_feed_if old.is_open) earlier old.sink.put new.sink.put p.put h);
}

-- a prompt was put
pub adds_prompt : (old new : Seen) (letters : List ℕ) → Puts old letters [] new → new.columns ≡ old.columns
    → Adds [] old new
adds_prompt old new letters p columns = record {
  columns = columns;
  shown = λ earlier h.
      told_more (p.text ++ []) (line_feed_if old.is_open) earlier old.sink.put new.sink.put p.put h;
}

-- keys were awaited behind it, and came to an end
pub adds_ended : (old mid new : Seen) → Adds [] old mid → new ≡ mid → Adds [] old new
adds_ended old mid new a same = subst (λ (s : Seen). Adds [] old s) (sym same) a

-- or a line was typed, which ended it
pub adds_typed : (old mid waited new : Seen) → Adds [] old mid → waited ≡ mid
    → new ≡ record waited { is_open = false } → Adds [] old new
adds_typed old mid waited new a same typed =
    let waits : Adds [] old waited = adds_ended old mid waited a same in
    subst (λ (s : Seen). Adds [] old s) (sym typed) (record { columns = waits.columns; shown = waits.shown })

-- a line was put behind such a prompt
pub adds_behind : (old mid new : Seen) (f : Front) (charset : Charset) (bytes : List ℕ) → Adds [] old mid
    → new.columns ≡ mid.columns → Puts mid (letters_behind mid.columns f charset bytes) (10 ∷ []) new
    → Adds (letters_behind old.columns f charset bytes ∷ []) old new
adds_behind old mid new f charset bytes stop columns p = record {
  columns = columns ∙ stop.columns;
  shown = λ earlier h.
      subst (λ (line : List ℕ). Shows (line ∷ earlier) new)
      (p.spelled ∙ ap (λ (n : ℕ). letters_behind n f charset bytes) stop.columns)
      (told_line p.text (line_feed_if mid.is_open) earlier mid.sink.put new.sink.put p.put (stop.shown earlier h));
}

-- ---- the lines of a body

-- what was shown of a body: what is there, with what is to come, is all of it
pub record ShowsBut (charset : Charset) (all rest : List ℕ) (old new : Seen) : Type 0 where
  pub columns : new.columns ≡ old.columns
  pub shown : (earlier : List (List ℕ)) → Shows earlier old → (now : List (List ℕ)) × Shows now new
      × (onto (map (letters_behind old.columns front.Blank charset) (lines_of rest)) now
      ≡ onto (map (letters_behind old.columns front.Blank charset) (lines_of all)) earlier)

pub shows_none : (charset : Charset) (all : List ℕ) (old : Seen) → ShowsBut charset all all old old
shows_none charset all old = record { columns = refl; shown = λ earlier h. (earlier, h, refl) }

pub shows_more : (charset : Charset) (all rest line more : List ℕ) (old mid new : Seen)
    → ShowsBut charset all rest old mid → (length rest == 0) ≡ false → line ≡ first_line rest
    → more ≡ behind_line rest → Adds (letters_behind mid.columns front.Blank charset line ∷ []) mid new
    → ShowsBut charset all more old new
shows_more charset all rest line more old mid new s some el em a = record {
  columns = a.columns ∙ s.columns;
  shown = λ earlier h.
      let f : List ℕ → List ℕ = letters_behind old.columns front.Blank charset in
      let p = s.shown earlier h in (
        f line ∷ p.0,
        subst (λ (n : ℕ). Shows (letters_behind n front.Blank charset line ∷ p.0) new) s.columns (a.shown p.0 p.1),
        ap (λ (ys : List ℕ). onto (map f (lines_of ys)) (f line ∷ p.0)) em
            ∙ ap (λ (y : List ℕ). onto (map f (lines_of (behind_line rest))) (f y ∷ p.0)) el
            ∙ sym (ap (λ (ls : List (List ℕ)). onto (map f ls) p.0) (lines_first rest (some_of rest some))) ∙ p.2,
      );
}

pub shows_all : (charset : Charset) (all rest : List ℕ) (old new : Seen) → ShowsBut charset all rest old new
    → (length rest == 0) ≡ true → Adds (map (letters_behind old.columns front.Blank charset) (lines_of all)) old new
shows_all charset all rest old new s e = record {
  columns = s.columns;
  shown = λ earlier h.
      let p = s.shown earlier h in
      subst (λ (ls : List (List ℕ)). Shows ls new)
      (ap (λ (ys : List ℕ). onto (map (letters_behind old.columns front.Blank charset) (lines_of ys)) p.0)
      (sym (is_empty rest e)) ∙ p.2) p.1;
}

-- the page of what was told
pub page_some : (screen : Seen) (told : Option Told) (one : Told) (body : List ℕ) → told ≡ Some one → body ≡ one.body
    → HasPage screen one.charset body → IfSome told (λ t. HasPage screen t.charset t.body)
page_some screen told one body is same page =
    subst (λ (o : Option Told). IfSome o (λ t. HasPage screen t.charset t.body)) (sym is)
    (subst (λ (bytes : List ℕ). HasPage screen one.charset bytes) same page)

pub page_none : (screen : Seen) (told : Option Told) → told ≡ None
    → IfSome told (λ t. HasPage screen t.charset t.body)
page_none screen told is =
    subst (λ (o : Option Told). IfSome o (λ t. HasPage screen t.charset t.body)) (sym is) tt

-- the subject, the rule and the lines of a body are a page
pub page_shown : (a b c d : Seen) (charset : Charset) (body subject rest rule : List ℕ)
    → subject ≡ first_line body → rest ≡ behind_line body
    → Adds (letters_behind a.columns front.Subject charset subject ∷ []) a b → Adds (rule ∷ []) b c
    → Adds (map (letters_behind c.columns front.Blank charset) (lines_of rest)) c d → HasPage d charset body
page_shown a b c d charset body subject rest rule es er s r l =
    let first : List ℕ = letters_behind a.columns front.Subject charset subject in
    let same : a.columns ≡ d.columns = sym (l.columns ∙ r.columns ∙ s.columns) in
    let shown : Shows (onto (map (letters_behind c.columns front.Blank charset) (lines_of rest)) (first ∷ [])) d =
    l.shown (first ∷ [])
    (told_less rule (first ∷ []) c.sink.put (r.shown (first ∷ []) (s.shown [] (told_none a.sink.put)))) in
    let fitted : Shows (onto (map (letters_behind d.columns front.Blank charset) (lines_of rest)) (first ∷ [])) d =
    subst (λ (n : ℕ).
    Shows (onto (map (letters_behind n front.Blank charset) (lines_of rest)) (first ∷ [])) d) (sym l.columns) shown in
    let begun : Shows (onto (map (letters_behind d.columns front.Blank charset) (lines_of rest))
    (letters_behind d.columns front.Subject charset subject ∷ [])) d =
    subst (λ (n : ℕ). Shows (onto (map (letters_behind d.columns front.Blank charset) (lines_of rest))
    (letters_behind n front.Subject charset subject ∷ [])) d) same fitted in
    let told : Shows (onto (map (letters_behind d.columns front.Blank charset) (lines_of (behind_line body)))
    (letters_behind d.columns front.Subject charset subject ∷ [])) d =
    subst (λ (ys : List ℕ). Shows (onto (map (letters_behind d.columns front.Blank charset) (lines_of ys))
    (letters_behind d.columns front.Subject charset subject ∷ [])) d) er begun in
    subst (λ (ys : List ℕ). Shows (onto (map (letters_behind d.columns front.Blank charset)
    (lines_of (behind_line body))) (letters_behind d.columns front.Subject charset ys ∷ [])) d) es told
