-- The letters of a front that fit into a line.
use Rattle.std.proofs.Common.{◌≡◌, ℕ, suc, ◌+◌, ◌-◌, ◌<◌, ◌≤◌, true, false, ◌==◌, nat_le, nat_lt, cond, List, [], ◌∷◌}
use Rattle.std.proofs.Common.{◌++◌}
use Rattle.std.proofs.Common.{length, take, drop, get_or, map, sum_by, All, IsTrue, refl, subst, arith}
use Rattle.std.proofs.lemmas.Bool.Decides.{nat_tests}
use Rattle.std.proofs.lemmas.List.{at_drop_more, at_drop_all, take_all}
use Rattle.std.proofs.lemmas.List.Sums.{sum_by-cons, sum_by-append}
use Rattle.std.proofs.lemmas.List.Elements.{All-nil, All-cons, All-append, All-map, All-take}
use Rattle.unicode_width.specs.Width.{char_width}
use Rattle.kom_letters.specs.Kinds.{is_plain, shown_letter, columns_of}
use Rattle.kom_letters.specs.Names.{front_count, shorten, shown_name}
use Rattle.kom_letters.proofs.Lays.{shown_letter_plain}

pub front_step : (room : ℕ) (xs : List ℕ) (i : ℕ) → i < length xs → front_count room (drop i xs)
    ≡ cond (nat_le (columns_of (get_or xs i 0)) room)
    (suc (front_count (room - columns_of (get_or xs i 0)) (drop (i + 1) xs))) 0
front_step room xs i within = at_drop_more (front_count room) xs i 0 within

pub front_end : (room : ℕ) (xs : List ℕ) (i : ℕ) → length xs ≤ i → front_count room (drop i xs) ≡ 0
front_end room xs i past = at_drop_all (front_count room) xs i past

-- the front that fits is no wider than the room
front_width : (room : ℕ) (cs : List ℕ) → sum_by columns_of (take (front_count room cs) cs) ≤ room
front_width room [] = omega arith
front_width room (c ∷ cs) =
    let rest : sum_by columns_of (take (front_count (room - columns_of c) cs) cs) ≤ room - columns_of c =
    front_width (room - columns_of c) cs in
    let whole : sum_by columns_of (c ∷ take (front_count (room - columns_of c) cs) cs)
    ≡ columns_of c + sum_by columns_of (take (front_count (room - columns_of c) cs) cs) =
    sum_by-cons columns_of c (take (front_count (room - columns_of c) cs) cs) in
    elim (nat_le (columns_of c) room) as
    (λ b. nat_le (columns_of c) room ≡ b → sum_by columns_of
    (take (cond b (suc (front_count (room - columns_of c) cs)) 0) (c ∷ cs)) ≤ room) [
      | true ↦ λ e. let narrow : columns_of c ≤ room = grind (arith, nat_tests) in omega arith
      | false ↦ λ e. omega arith
    ] refl

dot_columns : columns_of 46 ≡ 1
unfolding columns_of char_width
dot_columns = refl

dots_columns : sum_by columns_of (46 ∷ 46 ∷ 46 ∷ []) ≡ 3
dots_columns = omega (arith, dot_columns)

dot_plain : is_plain 46 ≡ true
unfolding is_plain
dot_plain = refl

pub short_width : (room : ℕ) (cs : List ℕ) → sum_by columns_of (shorten room cs) ≤ room
short_width room cs =
    let whole : sum_by columns_of (take (front_count room cs) cs) ≤ room = front_width room cs in
    let part : sum_by columns_of (take (front_count (room - 3) cs) cs) ≤ room - 3 = front_width (room - 3) cs in
    elim (front_count room cs == length cs) as
    (λ b. (front_count room cs == length cs) ≡ b → sum_by columns_of
    (cond b cs (cond (nat_lt room 3) [] (take (front_count (room - 3) cs) cs ++ 46 ∷ 46 ∷ 46 ∷ []))) ≤ room) [
      | true ↦ λ e. let all : length cs ≤ front_count room cs = grind (arith, nat_tests) in
          subst (λ (xs : List ℕ). sum_by columns_of xs ≤ room) (take_all (front_count room cs) cs all) whole
      | false ↦ λ e. elim (nat_lt room 3) as
          (λ b. (nat_lt room 3) ≡ b → sum_by columns_of
          (cond b [] (take (front_count (room - 3) cs) cs ++ 46 ∷ 46 ∷ 46 ∷ [])) ≤ room) [
            | true ↦ λ none. omega arith
            | false ↦ λ some. let more : 3 ≤ room = grind (arith, nat_tests) in
                omega (
                  arith,
                  dots_columns,
                  sum_by-append columns_of (take (front_count (room - 3) cs) cs) (46 ∷ 46 ∷ 46 ∷ []),
                )
          ] refl
    ] refl

dots_plain : All (λ c. IsTrue (is_plain c)) (46 ∷ 46 ∷ 46 ∷ [])
dots_plain =
    All-cons (λ c. IsTrue (is_plain c)) 46 (46 ∷ 46 ∷ []) dot_plain (All-cons (λ c. IsTrue (is_plain c)) 46 (46 ∷ [])
    dot_plain (All-cons (λ c. IsTrue (is_plain c)) 46 [] dot_plain (All-nil (λ c. IsTrue (is_plain c)))))

-- a name is of plain letters alone
pub name_plain : (room : ℕ) (letters : List ℕ) → All (λ c. IsTrue (is_plain c)) (shown_name room letters)
name_plain room letters =
    let cs = map shown_letter letters in
    let each : All (λ c. IsTrue (is_plain c)) (map shown_letter letters) =
    All-map (λ c. IsTrue (is_plain c)) shown_letter letters (λ k d within. shown_letter_plain (get_or letters k d)) in
    elim (front_count room cs == length cs) as
    (λ b. All (λ c. IsTrue (is_plain c))
    (cond b cs (cond (nat_lt room 3) [] (take (front_count (room - 3) cs) cs ++ 46 ∷ 46 ∷ 46 ∷ [])))) [
      | true ↦ each
      | false ↦ elim (nat_lt room 3) as
          (λ b. All (λ c. IsTrue (is_plain c)) (cond b [] (take (front_count (room - 3) cs) cs ++ 46 ∷ 46 ∷ 46 ∷ []))) [
            | true ↦ All-nil (λ c. IsTrue (is_plain c))
            | false ↦ All-append (λ c. IsTrue (is_plain c)) (take (front_count (room - 3) cs) cs) (46 ∷ 46 ∷ 46 ∷ [])
                (All-take (λ c. IsTrue (is_plain c)) (front_count (room - 3) cs) cs each)
                dots_plain
          ]
    ]
