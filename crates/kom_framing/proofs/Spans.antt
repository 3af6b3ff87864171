-- The tokens that begin at places of a line's bytes.
use Rattle.std.proofs.Common.{◌≡◌, ℕ, zero, suc, ◌<◌, ◌≤◌, Bool, true, false, ◌&&◌, eqb, leb, List, [], ◌∷◌, ◌++◌}
use Rattle.std.proofs.Common.{length, get_or, take, drop, Some, refl, sym, ap, subst, ◌∙◌, inl, inr, arith}
use Rattle.std.specs.Prelude.{slice_get}
use Rattle.std.proofs.lemmas.Bool.{cases_Bool, cases_lt, le-leb, lt-leb}
use Rattle.std.proofs.lemmas.List.{length-append, length-drop, take-append-le, drop-append-le, map-append}
use Rattle.kom_types.specs.declared.byte_kind.ByteKind.{ByteKind}
use Rattle.kom_types.specs.declared.byte_kind.ByteKind.TheVariants as kind
use Rattle.kom_types.specs.declared.side.Side.TheVariants as side
use Rattle.kom_types.specs.ByteKind.{is_digit, kind_of}
use Rattle.kom_types.specs.Token.{Token, Digits, Text, Signed, number_of, is_integer}
use Rattle.kom_types.specs.Grammar.{Form, Prefix, Whole, Unfit, Cut, string_at, run_at, signed_run_at}
use Rattle.kom_framing.specs.Spans.{cut_of, IsToken, AreTokens, token_cut, token_of, tokens_of}
use Rattle.kom_framing.proofs.Runs.{choice, run_from, run_from-ended, run_from-digit}
use Rattle.kom_framing.proofs.Lexing.{token_of_kind}

pub token_at_index : (bytes starts : List ℕ) (index d : ℕ) → index < length starts
    → slice_get (tokens_of bytes starts) index ≡ Some (token_of bytes (get_or starts index d))
token_at_index bytes [] index d below = absurd (omega arith)
token_at_index bytes (first ∷ starts) zero d below = refl
token_at_index bytes (first ∷ starts) (suc index) d below = token_at_index bytes starts index d (omega arith)

pub is_token_at : (bytes starts : List ℕ) (index d : ℕ) → AreTokens bytes starts → index < length starts
    → IsToken bytes (get_or starts index d)
is_token_at bytes [] index d all below = absurd (omega arith)
is_token_at bytes (first ∷ starts) zero d all below = all.0
is_token_at bytes (first ∷ starts) (suc index) d all below = is_token_at bytes starts index d all.1 (omega arith)

pub are_tokens-append : (bytes starts more : List ℕ) → AreTokens bytes starts → AreTokens bytes more
    → AreTokens bytes (starts ++ more)
are_tokens-append bytes [] more all others = others
are_tokens-append bytes (first ∷ starts) more all others = (all.0, are_tokens-append bytes starts more all.1 others)

pub tokens_of-append : (bytes starts more : List ℕ)
    → tokens_of bytes (starts ++ more) ≡ tokens_of bytes starts ++ tokens_of bytes more
tokens_of-append bytes starts more = map-append (token_of bytes) starts more

-- ---- a whole token stays as it is, whatever comes after it

abbrev cut_more : List ℕ → Cut → Cut
cut_more more cut = record { token = cut.token; tail = cut.tail ++ more }

-- what is whole in the first form is so in the second
abbrev Stays : List ℕ → Form Cut → Form Cut → Type 0
Stays more Prefix other = Unit {0}
Stays more (Whole cut) other = other ≡ Whole (cut_more more cut)
Stays more Unfit other = Unit {0}

stays_whole : (more : List ℕ) (form other : Form Cut) (cut : Cut) → form ≡ Whole cut → Stays more form other
    → other ≡ Whole (cut_more more cut)
stays_whole more form other cut e stays = subst (λ (f : Form Cut). Stays more f other) e stays

string_stays : (count : ℕ) (bytes more : List ℕ) → Stays more (string_at count bytes) (string_at count (bytes ++ more))
string_stays count bytes more = elim (cases_lt (length bytes) count) [
  | inl short ↦ subst (λ (b : Bool). Stays more
      (choice b (Whole (record { token = Text (take count bytes); tail = drop count bytes })) Prefix)
      (string_at count (bytes ++ more))) (sym (lt-leb count (length bytes) short)) tt
  | inr long ↦
      let still : count ≤ length (bytes ++ more) = omega (arith, length-append bytes more) in
      subst (λ (b : Bool). Stays more
      (choice b (Whole (record { token = Text (take count bytes); tail = drop count bytes })) Prefix)
      (string_at count (bytes ++ more))) (sym (le-leb count (length bytes) long))
      (ap (λ (b : Bool). choice b
      (Whole (record { token = Text (take count (bytes ++ more)); tail = drop count (bytes ++ more) })) Prefix)
      (le-leb count (length (bytes ++ more)) still)
      ∙ ap (λ (t : List ℕ). Whole (record { token = Text t; tail = drop count (bytes ++ more) }))
      (take-append-le count bytes more long)
      ∙ ap (λ (t : List ℕ). Whole (record { token = Text (take count bytes); tail = t }))
      (drop-append-le count bytes more long))
]

choice_stays : (more : List ℕ) (b : Bool) (form other : Form Cut) → Stays more form other
    → Stays more (choice b form Unfit) (choice b other Unfit)
choice_stays more true form other stays = stays
choice_stays more false form other stays = tt

-- a rule that reads a run of digits with what is after it
record Rule (rule : List ℕ → List ℕ → Form Cut) : Type 0 where
  alone : (more digits : List ℕ) (other : Form Cut) → Stays more (rule digits []) other
  stays : (more digits : List ℕ) (byte : ℕ) (bytes : List ℕ)
      → Stays more (rule digits (byte ∷ bytes)) (rule digits (byte ∷ (bytes ++ more)))

-- a run alone is not whole
alone_stays : (more digits : List ℕ) (other : Form Cut)
    → Stays more (choice (leb (length digits) 16) Prefix Unfit) other
alone_stays more digits other =
    elim (leb (length digits) 16) as (λ (b : Bool). Stays more (choice b Prefix Unfit) other) [
      | true ↦ tt
      | false ↦ tt
    ]

-- the digits as a token, with the bytes after them
abbrev digits_before : List ℕ → List ℕ → Form Cut
digits_before digits bytes =
    choice (leb (length digits) 16) (Whole (record { token = Digits digits; tail = bytes })) Unfit

-- the string of which they are the length
abbrev string_after : List ℕ → List ℕ → Form Cut
string_after digits bytes = choice (is_integer digits) (string_at (number_of digits) bytes) Unfit

run_rule : Rule run_at
run_rule = record {
  alone = alone_stays;
  stays = λ more digits byte bytes.
      elim (eqb byte 72) as (λ (b : Bool). Stays more
      (choice b (string_after digits bytes) (digits_before digits (byte ∷ bytes)))
      (choice b (string_after digits (bytes ++ more)) (digits_before digits (byte ∷ (bytes ++ more))))) [
        | true ↦ choice_stays more (is_integer digits) (string_at (number_of digits) bytes)
            (string_at (number_of digits) (bytes ++ more)) (string_stays (number_of digits) bytes more)
        | false ↦ choice_stays more (leb (length digits) 16)
            (Whole (record { token = Digits digits; tail = byte ∷ bytes }))
            (Whole (record { token = Digits digits; tail = byte ∷ (bytes ++ more) })) refl
      ];
}

signed_rule : (mark : ℕ) → Rule (signed_run_at mark)
signed_rule mark = record {
  alone = alone_stays;
  stays = λ more digits byte bytes. choice_stays more (leb 1 (length digits) && leb (length digits) 16)
      (Whole (record { token = Signed mark digits; tail = byte ∷ bytes }))
      (Whole (record { token = Signed mark digits; tail = byte ∷ (bytes ++ more) })) refl;
}

run_stays : (rule : List ℕ → List ℕ → Form Cut) → Rule rule → (more digits bytes : List ℕ)
    → Stays more (run_from rule digits bytes) (run_from rule digits (bytes ++ more))
run_stays rule is more digits [] = is.alone more (digits ++ []) (run_from rule digits more)
run_stays rule is more digits (byte ∷ bytes) = elim (cases_Bool (is_digit byte)) [
  | inl e ↦ subst (λ (f : Form Cut). Stays more f (run_from rule digits (byte ∷ (bytes ++ more))))
      (sym (run_from-digit rule digits byte bytes e))
      (subst (Stays more (run_from rule (digits ++ byte ∷ []) bytes))
      (sym (run_from-digit rule digits byte (bytes ++ more) e))
      (run_stays rule is more (digits ++ byte ∷ []) bytes))
  | inr e ↦ subst (λ (f : Form Cut). Stays more f (run_from rule digits (byte ∷ (bytes ++ more))))
      (sym (run_from-ended rule digits byte bytes e))
      (subst (Stays more (rule digits (byte ∷ bytes)))
      (sym (run_from-ended rule digits byte (bytes ++ more) e))
      (is.stays more digits byte bytes))
]

kind_stays : (more : List ℕ) (byte : ℕ) (bytes : List ℕ) (sort : ByteKind)
    → Stays more (token_of_kind side.Server byte bytes sort) (token_of_kind side.Server byte (bytes ++ more) sort)
kind_stays more byte bytes kind.Digit = run_stays run_at run_rule more (byte ∷ []) bytes
kind_stays more byte bytes kind.Open = refl
kind_stays more byte bytes kind.Close = refl
kind_stays more byte bytes kind.Star = refl
kind_stays more byte bytes kind.Sign = run_stays (signed_run_at byte) (signed_rule byte) more [] bytes
kind_stays more byte bytes kind.Blank = tt
kind_stays more byte bytes kind.LineFeed = tt
kind_stays more byte bytes kind.Hollerith = tt
kind_stays more byte bytes kind.Other = tt

cut_stays : (more bytes : List ℕ) → Stays more (cut_of bytes) (cut_of (bytes ++ more))
cut_stays more [] = tt
cut_stays more (byte ∷ bytes) = kind_stays more byte bytes (kind_of byte)

-- a token begins before the end
no_token : (bytes : List ℕ) (cut : Cut) → cut_of bytes ≡ Whole cut → 0 < length bytes
no_token [] cut e = absurd cc
no_token (byte ∷ bytes) cut e = omega arith

pub begins_within : (bytes : List ℕ) (start : ℕ) → IsToken bytes start → start < length bytes
begins_within bytes start token =
    omega (arith, length-drop start bytes, no_token (drop start bytes) token.cut token.whole)

whole_stays : (bytes more : List ℕ) (start : ℕ) (token : IsToken bytes start)
    → cut_of (drop start (bytes ++ more)) ≡ Whole (cut_more more token.cut)
whole_stays bytes more start token =
    let within = begins_within bytes start token in
    ap cut_of (drop-append-le start bytes more (omega arith))
    ∙ stays_whole more (cut_of (drop start bytes)) (cut_of (drop start bytes ++ more)) token.cut token.whole
    (cut_stays more (drop start bytes))

pub are_tokens_more : (bytes more starts : List ℕ) → AreTokens bytes starts → AreTokens (bytes ++ more) starts
are_tokens_more bytes more [] all = tt
are_tokens_more bytes more (first ∷ starts) all = (
  record { cut = cut_more more all.0.cut; whole = whole_stays bytes more first all.0 },
  are_tokens_more bytes more starts all.1,
)

-- tokens that have ended stay as they are
pub tokens_stay : (bytes more starts : List ℕ) → AreTokens bytes starts
    → tokens_of (bytes ++ more) starts ≡ tokens_of bytes starts
tokens_stay bytes more [] all = refl
tokens_stay bytes more (first ∷ starts) all =
    ap (λ (t : Token). t ∷ tokens_of (bytes ++ more) starts)
    (ap token_cut (whole_stays bytes more first all.0) ∙ sym (ap token_cut all.0.whole))
    ∙ ap (λ (ts : List Token). token_of bytes first ∷ ts) (tokens_stay bytes more starts all.1)

-- the token that was cut at a place
pub one_token : (bytes : List ℕ) (start : ℕ) (cut : Cut) → cut_of (drop start bytes) ≡ Whole cut
    → (tokens_of bytes (start ∷ []) ≡ cut.token ∷ []) × AreTokens bytes (start ∷ [])
one_token bytes start cut e =
    (ap (λ (f : Form Cut). token_cut f ∷ []) e, (record { cut = cut; whole = e }, tt))
