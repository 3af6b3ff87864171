-- What was printed is cut into items' prints in one way only.
use Rattle.std.proofs.Common.{◌≡◌, ℕ, ◌^◌, ◌<◌, List, [], ◌∷◌, ◌++◌, length, map, refl, ap, ◌∙◌, sym, subst}
use Rattle.std.proofs.Common.{arith, rules, append_assoc, length-append}
use Rattle.std.specs.Prelude.{codes}
use Rattle.std.specs.List.{flat_map, join_with_byte}
use mathlib.Core.List.{IsPrefix}
use Rattle.kom_types.specs.Printing.{print_of, line_of}
use Rattle.kom_types.specs.declared.items.Item.{Item}
use Rattle.kom_types.specs.declared.items.Item.TheVariants as item
use Rattle.kom_types.specs.spellings.Words.{Words}
use Rattle.kom_replies.proofs.ItemWords.{HasWord, reply_word, message_word}
use Rattle.kom_replies.proofs.LineWords.{is_plain, AllWords, AreWords, line_then_more}
use Rattle.kom_replies.proofs.Spellings.{AreWords-reply, AreWords-message}
use Rattle.kom_replies.proofs.Stops.{IsPlain}
use Rattle.kom_replies.proofs.WrittenWords.{line_length}

-- a line of words, which are one at least
record IsLine (bytes : List ℕ) : Type 0 where
  first : List ℕ
  rest : Words
  are : AllWords (first ∷ rest)
  is : bytes ≡ line_of (first ∷ rest)

IsLine-words : (words : Words) → HasWord words → AreWords words → IsLine (line_of words)
IsLine-words words some are = record {
  first = some.first;
  rest = some.rest;
  are = subst AllWords some.is are.each;
  is = ap line_of some.is;
}

IsLine-print_of : (item : Item) → IsLine (print_of item)
unfolding print_of
IsLine-print_of item.Hello =
    let plain : IsPlain (codes "LysKOM") = search rules in
    record { first = codes "LysKOM"; rest = []; are = (is_plain plain, tt); is = refl }
IsLine-print_of (item.Reply reference body) = IsLine-words _ (reply_word reference body) (AreWords-reply reference body)
IsLine-print_of (item.Message message) = IsLine-words _ (message_word message) (AreWords-message message)
IsLine-print_of item.Fault =
    let plain : IsPlain (codes "%%Protocol") = search rules in
    let plain' : IsPlain (codes "error.") = search rules in
    record {
      first = codes "%%Protocol";
      rest = codes "error." ∷ [];
      are = (is_plain plain, (is_plain plain', tt));
      is = refl;
    }

-- two items whose prints begin the same bytes print alike
pub print_then_more : (one other : Item) (r s : List ℕ) → length (print_of one) < 2 ^ 64 →
    print_of one ++ r ≡ print_of other ++ s → (print_of one ≡ print_of other) × (r ≡ s)
print_then_more one other r s short same =
    let line = IsLine-print_of one in
    let line' = IsLine-print_of other in
    let long = ap length line.is ∙ line_length line.first line.rest in
    let cut = line_then_more line.first line'.first line.rest line'.rest r s line.are line'.are
    (omega (arith, long, short)) (ap (λ print. print ++ r) (sym line.is) ∙ same ∙ ap (λ print. print ++ s) line'.is) in
    (line.is ∙ ap line_of cut.0 ∙ sym line'.is, cut.1)

-- no print is empty
print_not_empty : (one : Item) (r : List ℕ) → [] ≡ print_of one ++ r → ⊥
print_not_empty one r none =
    let line = IsLine-print_of one in
    let long = ap length line.is ∙ length-append (join_with_byte 32 (line.first ∷ line.rest)) (10 ∷ []) in
    omega (arith, long, ap length none ∙ length-append (print_of one) r)

-- where the prints of some items, joined, are a prefix of those of others, so are the prints
pub prints_then_more : (some others : List Item) (r : List ℕ) → length (flat_map print_of some) < 2 ^ 64 →
    flat_map print_of some ++ r ≡ flat_map print_of others → IsPrefix (map print_of some) (map print_of others)
prints_then_more [] others r short same = (map print_of others, refl)
prints_then_more (x ∷ xs) [] r short same =
    absurd (print_not_empty x (flat_map print_of xs ++ r)
    (sym same ∙ append_assoc (print_of x) (flat_map print_of xs) r))
prints_then_more (x ∷ xs) (y ∷ ys) r short same =
    let long = length-append (print_of x) (flat_map print_of xs) in
    let cut = print_then_more x y (flat_map print_of xs ++ r) (flat_map print_of ys) (omega (arith, long, short))
    (sym (append_assoc (print_of x) (flat_map print_of xs) r) ∙ same) in
    let rest = prints_then_more xs ys r (omega (arith, long, short)) cut.1 in
    let one : print_of x ≡ print_of y = cut.0 in
    let others : map print_of xs ++ rest.0 ≡ map print_of ys = rest.1 in
    (rest.0, cc)

-- where they are all of them, the prints are the same
pub prints_alike : (some others : List Item) → length (flat_map print_of some) < 2 ^ 64 →
    flat_map print_of some ≡ flat_map print_of others → map print_of some ≡ map print_of others
prints_alike [] [] short same = refl
prints_alike [] (y ∷ ys) short same = absurd (print_not_empty y (flat_map print_of ys) same)
prints_alike (x ∷ xs) [] short same = absurd (print_not_empty x (flat_map print_of xs) (sym same))
prints_alike (x ∷ xs) (y ∷ ys) short same =
    let long = length-append (print_of x) (flat_map print_of xs) in
    let cut = print_then_more x y (flat_map print_of xs) (flat_map print_of ys) (omega (arith, long, short)) same in
    let rest : map print_of xs ≡ map print_of ys = prints_alike xs ys (omega (arith, long, short)) cut.1 in
    let one : print_of x ≡ print_of y = cut.0 in
    cc
