-- The program's own words, and a text behind them.
use Rattle.std.proofs.Common.{◌≡◌, ℕ, ◌<◌, ◌≤◌, ◌^◌, true, nat_lt, List, [], ◌∷◌, ◌++◌, length, All}
use Rattle.std.proofs.Common.{codes, refl, ap, sym, subst, min}
use Rattle.std.proofs.Common.{◌∙◌, arith, lit≤, lit<}
use Rattle.std.specs.Fmt.{decimal}
use Rattle.std.specs.List.{list_all}
use Rattle.std.specs.Str.{chars, IsAscii}
use Rattle.std.proofs.lemmas.Bool.Decides.{nat_tests}
use Rattle.std.proofs.lemmas.List.Elements.{All-nil, All-cons}
use Rattle.std.proofs.lemmas.Str.{chars-append, chars-IsAscii, IsUtf8-from_ascii}
use Rattle.std.proofs.lemmas.Str.Ascii.{IsAscii-from_all}
use Rattle.std.proofs.lemmas.Fmt.{IsAscii-decimal, length-decimal-le}
use Rattle.kom_letters.specs.declared.showing.Start.TheVariants as start
use Rattle.kom_letters.specs.Lines.{IsHarmless}
use Rattle.kom_letters.specs.Showing.{IsHarmlessFrom, shown_text}
use Rattle.kom_screen.specs.declared.fronts.Front.{Front}
use Rattle.kom_screen.specs.declared.fronts.Front.TheVariants as front
use Rattle.kom_screen.specs.Fronts.{words_of, own_words}
use Rattle.kom_screen.specs.Screens.{Begins, IsPiece, start_of}

all_below : (bs : List ℕ) → list_all (λ b. nat_lt b 128) bs ≡ true → All (λ b. b < 128) bs
all_below [] e = All-nil (λ b. b < 128)
all_below (b ∷ bs) e = All-cons (λ b. b < 128) b bs (grind (arith, nat_tests)) (all_below bs (grind (arith, nat_tests)))

ascii : (bs : List ℕ) → list_all (λ b. nat_lt b 128) bs ≡ true → IsAscii bs
ascii bs e = IsAscii-from_all bs (all_below bs e)

pub words_ascii : (f : Front) → IsAscii (words_of f)
words_ascii front.Blank = ascii [] refl
words_ascii (front.Number number) = ascii [] refl
words_ascii front.Bracket = ascii (codes "(") refl
words_ascii front.Star = ascii (codes "* ") refl
words_ascii front.Welcome = ascii (codes "Welcome, ") refl
words_ascii front.Subject = ascii (codes "Subject: ") refl
words_ascii front.Recipient = ascii (codes "Recipient: ") refl
words_ascii front.Copy = ascii (codes "Copy: ") refl
words_ascii front.BlindCopy = ascii (codes "Blind copy: ") refl
words_ascii front.CommentTo = ascii (codes "Comment to text ") refl
words_ascii front.FootnoteTo = ascii (codes "Footnote to text ") refl
words_ascii front.CommentIn = ascii (codes "Comment in text ") refl
words_ascii front.FootnoteIn = ascii (codes "Footnote in text ") refl
words_ascii front.Rule = ascii (codes "----------") refl
words_ascii front.More = ascii (codes "-- more: ") refl

pub words_short : (f : Front) → length (words_of f) ≤ 20
words_short front.Blank = lit≤ tt
words_short (front.Number number) = lit≤ tt
words_short front.Bracket = lit≤ tt
words_short front.Star = lit≤ tt
words_short front.Welcome = lit≤ tt
words_short front.Subject = lit≤ tt
words_short front.Recipient = lit≤ tt
words_short front.Copy = lit≤ tt
words_short front.BlindCopy = lit≤ tt
words_short front.CommentTo = lit≤ tt
words_short front.FootnoteTo = lit≤ tt
words_short front.CommentIn = lit≤ tt
words_short front.FootnoteIn = lit≤ tt
words_short front.Rule = lit≤ tt
words_short front.More = lit≤ tt

pub number_short : (n : ℕ) → n < 2 ^ 32 → length (decimal n) ≤ 20
number_short n small =
    let below : n < 10 ^ 20 = omega arith in
    let wide : n < 2 ^ 64 = omega arith in
    length-decimal-le 20 n (lit< tt) below wide

pub number_ascii : (n : ℕ) → n < 2 ^ 32 → IsAscii (decimal n)
number_ascii n small = let wide : n < 2 ^ 64 = omega arith in IsAscii-decimal n wide

-- a text behind a blank
pub blank_piece : (columns : ℕ) (cs : List ℕ) → IsHarmlessFrom columns start.Behind cs → IsPiece columns cs
blank_piece columns cs shown = record {
  front = front.Blank;
  rest = cs;
  all = refl;
  begins = shown.1;
  harmless = shown.0;
}

-- a text behind words that are ASCII
pub words_piece : (columns at : ℕ) (f : Front) (bytes rest : List ℕ) → IsAscii (own_words f) →
    at ≡ length (own_words f) → length (own_words f) ≤ 20 → 20 ≤ columns → bytes ≡ own_words f ++ rest →
    Begins f (chars rest) → IsHarmlessFrom columns (start.At at) (chars rest) → IsPiece columns (chars bytes)
words_piece columns at f bytes rest plain same short wide e begins shown = record {
  front = f;
  rest = chars rest;
  all = ap chars e ∙ chars-append (own_words f) rest (IsUtf8-from_ascii (own_words f) plain)
      ∙ ap (λ (cs : List ℕ). cs ++ chars rest) (chars-IsAscii (own_words f) plain);
  begins = begins;
  harmless = let column : min at columns ≡ length (own_words f) = grind arith in
      subst (λ (n : ℕ). IsHarmless columns n (chars rest)) column shown;
}

-- the letters of such a text
pub words_letters : (columns at : ℕ) (f : Front) (bytes rest letters : List ℕ) → IsAscii (own_words f) →
    at ≡ length (own_words f) → start_of f ≡ start.At (length (own_words f)) → bytes ≡ own_words f ++ rest →
    chars rest ≡ shown_text columns (start.At at) letters →
    chars bytes ≡ own_words f ++ shown_text columns (start_of f) letters
words_letters columns at f bytes rest letters plain same starts e shown =
    let first : start.At at ≡ start_of f = ap start.At same ∙ sym starts in
    ap chars e ∙ chars-append (own_words f) rest (IsUtf8-from_ascii (own_words f) plain)
    ∙ ap (λ (cs : List ℕ). cs ++ chars rest) (chars-IsAscii (own_words f) plain)
    ∙ ap (λ (cs : List ℕ). own_words f ++ cs) (shown ∙ ap (λ s. shown_text columns s letters) first)
