-- A text on a screen is harmless, and shows what it has.
use Rattle.std.proofs.Common.{◌≡◌, ℕ, ◌+◌, ◌≤◌, List, min, encode_utf8_all, refl, sym, subst, arith}
use Rattle.std.specs.Prelude.{String, string_bytes}
use Rattle.std.specs.Str.{chars}
use Rattle.std.proofs.lemmas.Str.{chars_from_encodes, IsUtf8-string_bytes}
use Rattle.std.proofs.lemmas.List.Elements.{All-cons}
use Rattle.kom_letters.specs.declared.showing.Start.{Start}
use Rattle.kom_letters.specs.declared.showing.Start.TheVariants.{Behind, At}
use Rattle.kom_letters.specs.Kinds.{columns_of}
use Rattle.kom_letters.specs.Spacing.{shown_letters}
use Rattle.kom_letters.specs.Lines.{StaysWithin, visible_letters, lay_out}
use Rattle.kom_letters.specs.Showing.{shown_text, IsHarmlessFrom}
use Rattle.kom_letters.proofs.Lays.{Shown, blank_shown, blank_columns, not_blank, laid_within, laid_blanks, laid_seen}
use Rattle.kom_letters.proofs.Lays.{spaced_shown, laid_shown}

pub chars_of_encoded : {Z : Type 0} (text : String Z) (letters : List ℕ) →
    string_bytes text ≡ encode_utf8_all letters → chars (string_bytes text) ≡ letters
chars_of_encoded text letters is =
    sym (chars_from_encodes letters (string_bytes text) (IsUtf8-string_bytes text) (sym is))

pub harmless_text : (columns : ℕ) (start : Start) (letters : List ℕ) → 20 ≤ columns →
    IsHarmlessFrom columns start (shown_text columns start letters)
harmless_text columns Behind letters wide =
    let lines = lay_out columns 1 (shown_letters 0 letters) in
    let one : 0 + columns_of 32 ≡ 1 = omega (arith, blank_columns) in
    let least : 1 ≤ columns = omega arith in (
      record {
        kinds = All-cons Shown 32 lines blank_shown
            (laid_shown columns 1 (shown_letters 0 letters) (spaced_shown 0 letters));
        widths = (
          omega arith,
          subst (λ (at : ℕ). StaysWithin columns at lines) (sym one)
              (laid_within columns 1 (shown_letters 0 letters) wide least),
        );
        blanks = (λ e. absurd (not_blank e), laid_blanks columns 1 (shown_letters 0 letters));
      },
      refl,
    )
harmless_text columns (At column) letters wide =
    let least : min column columns ≤ columns = omega arith in
    record {
      kinds = laid_shown columns (min column columns) (shown_letters 0 letters) (spaced_shown 0 letters);
      widths = laid_within columns (min column columns) (shown_letters 0 letters) wide least;
      blanks = laid_blanks columns (min column columns) (shown_letters 0 letters);
    }

pub seen_text : (columns : ℕ) (start : Start) (letters : List ℕ) →
    visible_letters (shown_text columns start letters) ≡ visible_letters (shown_letters 0 letters)
seen_text columns Behind letters = laid_seen columns 1 (shown_letters 0 letters)
seen_text columns (At column) letters = laid_seen columns (min column columns) (shown_letters 0 letters)
