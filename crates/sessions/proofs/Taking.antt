-- Items that are taken one by one from what waits.
use Rattle.std.proofs.Common.{◌≡◌, ℕ, ◌+◌, ◌-◌, ◌<◌, ◌≤◌, ◌⊎◌, Bool, nat_lt, true, false, ltb, List, [], ◌∷◌, ◌++◌}
use Rattle.std.proofs.Common.{length, map, take, drop, refl, sym, ap, ◌∙◌, inl, inr, suc, zero, arith, append_assoc}
use Rattle.std.specs.List.{take_while, prefix_len}
use Rattle.std.proofs.lemmas.Bool.{lt-ltb, ltb-true}
use Rattle.std.proofs.lemmas.List.{append-nil, drop-drop, length_push, length-map}
use Rattle.kom_types.specs.declared.items.Item.{Item}
use Rattle.kom_types.specs.Sessions.{Waiting, drained_count}
use Rattle.sessions.specs.Outboxes.{is_below_first, TakesFirstBelow}

abbrev pub items_of : List Waiting → List Item
items_of waiting = map (λ one. one.item) waiting

abbrev is_below : ℕ → Waiting → Bool
is_below bound one = nat_lt one.entry bound

-- so many of the prefix that stands below
abbrev pub first_below : ℕ → ℕ → List Waiting → List Waiting
first_below bound most waiting = take most (take_while (is_below bound) waiting)

-- what was taken so far of those that waited, and what waits still
pub record Taken (bound : ℕ) (start waiting : List Waiting) (given : List Item) : Type 0 where
  pub within : length given ≤ 64
  pub prefix : given ++ items_of (first_below bound (64 - length given) waiting) ≡ items_of (first_below bound 64 start)
  pub rest : waiting ≡ drop (length given) start

first_below-cons : (bound most : ℕ) (one : Waiting) (rest : List Waiting) → one.entry < bound →
    first_below bound (suc most) (one ∷ rest) ≡ one ∷ first_below bound most rest
first_below-cons bound most one rest below =
    let here : ltb one.entry bound ≡ true = lt-ltb _ _ below in
    let counted : 1 + prefix_len (is_below bound) rest ≡ suc (prefix_len (is_below bound) rest) = omega arith in
    rw (here, counted) refl

pub taken_more : (bound : ℕ) (start : List Waiting) (one : Waiting) (rest : List Waiting) (given : List Item) →
    Taken bound start (one ∷ rest) given → length given < 64 → one.entry < bound →
    Taken bound start rest (given ++ one.item ∷ [])
taken_more bound start one rest given taken room below =
    let len : length (given ++ one.item ∷ []) ≡ length given + 1 = length_push given one.item in
    let left : 64 - length given ≡ suc (64 - (length given + 1)) = omega arith in
    let first = first_below-cons bound (64 - (length given + 1)) one rest below in
    record {
      within = omega arith;
      prefix = rw (len, append_assoc given (one.item ∷ []) _) (rw (left, first) at taken.prefix);
      rest = rw len (ap (λ items. drop 1 items) taken.rest ∙ drop-drop 1 (length given) start);
    }

take-nil : (count : ℕ) → take {A = Waiting} count [] ≡ []
take-nil zero = refl
take-nil (suc count) = refl

first_below-past : (bound most : ℕ) (waiting : List Waiting) → is_below_first bound waiting ≡ false →
    first_below bound most waiting ≡ []
first_below-past bound most [] past = take-nil most
first_below-past bound most (one ∷ rest) past =
    let past' : ltb one.entry bound ≡ false = past in rw past' (take-nil most)

first_below-done : (bound : ℕ) (waiting : List Waiting) (given : List Item) →
    (length given ≡ 64) ⊎ (is_below_first bound waiting ≡ false) → first_below bound (64 - length given) waiting ≡ []
first_below-done bound waiting given (inl full) = rw full refl
first_below-done bound waiting given (inr past) = first_below-past bound (64 - length given) waiting past

-- as many of the items as a prefix has are that prefix
prefix_of_prefix : (n m : ℕ) (items : List Waiting) →
    take (length (take n (take m items))) items ≡ take n (take m items)
prefix_of_prefix zero m items = refl
prefix_of_prefix (suc n) zero items = refl
prefix_of_prefix (suc n) (suc m) [] = refl
prefix_of_prefix (suc n) (suc m) (one ∷ items) = ap (λ rest. one ∷ rest) (prefix_of_prefix n m items)

pub taken_all : (bound : ℕ) (start waiting : List Waiting) (given : List Item) → Taken bound start waiting given →
    (length given ≡ 64) ⊎ (is_below_first bound waiting ≡ false) →
    (given ≡ items_of (take (drained_count bound start) start)) × (waiting ≡ drop (drained_count bound start) start)
taken_all bound start waiting given taken done =
    let none : first_below bound (64 - length given) waiting ≡ [] = first_below-done bound waiting given done in
    let whole : given ≡ items_of (first_below bound 64 start) = sym (append-nil given) ∙ (rw none at taken.prefix) in
    let count : length given ≡ length (first_below bound 64 start) =
    ap length whole ∙ length-map (first_below bound 64 start) (λ one. one.item) in
    let prefix = prefix_of_prefix 64 (prefix_len (is_below bound) start) start in
    (whole ∙ ap items_of (sym prefix), taken.rest ∙ ap (λ n. drop n start) count)

-- the first item that waits was taken
pub taken_first : (bound : ℕ) (old new : List Waiting) (one : Waiting) (item : Item) → old ≡ one ∷ new →
    true ≡ is_below_first bound old → item ≡ one.item → TakesFirstBelow bound old new item
taken_first bound old new one item whole below is =
    let below' : true ≡ nat_lt one.entry bound = rw whole at below in
    (one.entry, rw is whole, ltb-true _ _ (sym below'))
