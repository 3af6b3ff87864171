-- The rank of a membership, counted by the positions of those of its person that joined before it.
use Rattle.std.proofs.Common.{◌≡◌, ℕ, zero, suc, ◌+◌, ◌==◌, ◌<◌, ◌≤◌, Bool, true, false, cond, ltb}
use Rattle.std.proofs.Common.{List, [], ◌∷◌, ◌++◌, length, map, filter, take, drop, get_or, refl, sym, ap, subst, ◌∙◌}
use Rattle.std.proofs.Common.{append_assoc, append-nil, inl, inr, arith}
use Rattle.std.specs.List.{insert}
use Rattle.std.specs.List.Sorted.{IsNonDecreasing, IsPartitionPoint}
use Rattle.std.proofs.lemmas.Bool.{cases_Bool, cases_eq, eq-eqb, ne_eqb, ltb-true, ltb-false}
use Rattle.std.proofs.lemmas.List.{at_drop_more, take_more}
use Rattle.std.proofs.lemmas.List.Sorted.{IsNonDecreasingBy-insert}
use Rattle.kom_types.specs.declared.memberships.Placed.{Placed}
use Rattle.kom_telling.specs.Sections.{rank_among, joined_after}
use Rattle.kom_telling.specs.declared.section.Joined.{Joined}

-- how many numbers are below a limit
abbrev pub below : ℕ → List ℕ → ℕ
below limit numbers = length (filter (λ number. ltb number limit) numbers)

-- a count, and a number more
abbrev with_one : ℕ → ℕ → ℕ → ℕ
with_one limit number count = cond (ltb number limit) (suc count) count

below-cons : (limit number : ℕ) (numbers : List ℕ) →
    below limit (number ∷ numbers) ≡ with_one limit number (below limit numbers)
below-cons limit number numbers = elim (cases_Bool (ltb number limit)) [
  | inl is ↦ rw is refl
  | inr is ↦ rw is refl
]

with_both : (limit one other count : ℕ) →
    with_one limit one (with_one limit other count) ≡ with_one limit other (with_one limit one count)
with_both limit one other count = elim (cases_Bool (ltb one limit)) [
  | inl is ↦ elim (cases_Bool (ltb other limit)) [
    | inl also ↦ rw (is, also) refl
    | inr not_also ↦ rw (is, not_also) refl
  ]
  | inr is_not ↦ elim (cases_Bool (ltb other limit)) [
    | inl also ↦ rw (is_not, also) refl
    | inr not_also ↦ rw (is_not, not_also) refl
  ]
]

below-insert : (limit number place : ℕ) (numbers : List ℕ) →
    below limit (insert numbers place number) ≡ with_one limit number (below limit numbers)
below-insert limit number zero numbers = below-cons limit number numbers
below-insert limit number (suc place) [] = below-cons limit number []
below-insert limit number (suc place) (first ∷ others) =
    below-cons limit first (insert others place number)
    ∙ ap (with_one limit first) (below-insert limit number place others)
    ∙ with_both limit first number (below limit others)
    ∙ ap (with_one limit number) (sym (below-cons limit first others))

below-last : (limit number : ℕ) (numbers : List ℕ) →
    below limit (numbers ++ number ∷ []) ≡ with_one limit number (below limit numbers)
below-last limit number [] = below-cons limit number []
below-last limit number (first ∷ others) =
    below-cons limit first (others ++ number ∷ [])
    ∙ ap (with_one limit first) (below-last limit number others)
    ∙ with_both limit first number (below limit others)
    ∙ ap (with_one limit number) (sym (below-cons limit first others))

-- a place that parts numbers at a limit counts those below it
abbrev pub Parts : ℕ → List ℕ → ℕ → Type 0
Parts limit numbers place =
    IsPartitionPoint (λ number. ltb number limit ≡ true) (λ number. ltb number limit ≡ false) numbers place

pub count-parted : (limit : ℕ) (numbers : List ℕ) (place : ℕ) → place ≤ length numbers → Parts limit numbers place →
    place ≡ below limit numbers
count-parted limit [] zero within parts = refl
count-parted limit [] (suc place) within parts = absurd (omega (arith, within))
count-parted limit (first ∷ others) zero within parts =
    let above : ltb first limit ≡ false = parts.1 0 first (omega arith) (omega arith) in
    let rest = count-parted limit others zero (omega arith) (
      (λ k d least most. absurd (omega (arith, most))),
      (λ k d least most. parts.1 (suc k) d (omega arith) (omega (arith, most))),
    ) in
    rest ∙ rw above refl
count-parted limit (first ∷ others) (suc place) within parts =
    let under : ltb first limit ≡ true = parts.0 0 first (omega arith) (omega arith) in
    let rest = count-parted limit others place (omega (arith, within)) (
      (λ k d least most. parts.0 (suc k) d (omega arith) (omega (arith, most))),
      (λ k d least most. parts.1 (suc k) d (omega (arith, least)) (omega (arith, most))),
    ) in
    ap suc rest ∙ rw under refl

pub parted-rises : (limit : ℕ) (numbers : List ℕ) (place : ℕ) → place ≤ length numbers → IsNonDecreasing numbers →
    Parts limit numbers place → IsNonDecreasing (insert numbers place limit)
parted-rises limit numbers place within rising parts =
    IsNonDecreasingBy-insert (λ number. number) numbers place limit rising within
    (λ k d under.
    let less : get_or numbers k d < limit = ltb-true (get_or numbers k d) limit (parts.0 k d (omega arith) under) in
    omega (arith, less))
    (λ k d least under. ltb-false (get_or numbers k d) limit (parts.1 k d least under))

-- the positions of a person's memberships among these
abbrev pub positions_of : ℕ → List Placed → List ℕ
positions_of person placed = map (λ one. one.position) (filter (λ one. one.person == person) placed)

pub count-ranked : (one : Placed) (placed : List Placed) →
    below one.position (positions_of one.person placed) ≡ rank_among placed one
count-ranked one [] = refl
count-ranked one (first ∷ placed) =
    let rest = count-ranked one placed in
    elim (cases_Bool (first.person == one.person)) [
      | inr other ↦ rw other rest
      | inl own ↦ elim (cases_Bool (ltb first.position one.position)) [
        | inl before ↦ rw (own, before, rest) refl
        | inr after ↦ rw (own, after) rest
      ]
    ]

positions-append : (person : ℕ) (one : Placed) (placed : List Placed) →
    positions_of person (placed ++ one ∷ [])
    ≡ positions_of person placed ++ cond (one.person == person) (one.position ∷ []) []
positions-append person one [] = elim (cases_Bool (one.person == person)) [
  | inl own ↦ rw own refl
  | inr other ↦ rw other refl
]
positions-append person one (first ∷ placed) =
    let rest = positions-append person one placed in
    elim (cases_Bool (first.person == person)) [
      | inl own ↦ rw own (ap (λ (l : List ℕ). first.position ∷ l) rest)
      | inr other ↦ rw other rest
    ]

own-appended : (one : Placed) (placed : List Placed) →
    positions_of one.person (placed ++ one ∷ []) ≡ positions_of one.person placed ++ one.position ∷ []
own-appended one placed =
    let own : (one.person == one.person) ≡ true = eq-eqb one.person one.person refl in
    positions-append one.person one placed
    ∙ ap (λ (b : Bool). positions_of one.person placed ++ cond b (one.position ∷ []) []) own

other-appended : (person : ℕ) (one : Placed) (placed : List Placed) → (one.person ≡ person → ⊥) →
    positions_of person (placed ++ one ∷ []) ≡ positions_of person placed
other-appended person one placed unlike =
    let other : (one.person == person) ≡ false = ne_eqb one.person person unlike in
    positions-append person one placed
    ∙ ap (λ (b : Bool). positions_of person placed ++ cond b (one.position ∷ []) []) other
    ∙ append-nil (positions_of person placed)

-- lists of which each counts the positions of a person's memberships, whatever the limit, and rises
pub record Counts (lists : ℕ → List ℕ) (placed : List Placed) : Type 0 where
  pub counted : (person limit : ℕ) → below limit (lists person) ≡ below limit (positions_of person placed)
  pub rising : (person : ℕ) → IsNonDecreasing (lists person)

pub counts-none : (lists : ℕ → List ℕ) → ((person : ℕ) → lists person ≡ []) → Counts lists []
counts-none lists none = record {
  counted = λ person limit. ap (below limit) (none person);
  rising = λ person. subst IsNonDecreasing (sym (none person)) (λ i j d le lt. absurd (omega (arith, lt)));
}

-- the lists after one membership more
pub counts-on : (one : Placed) (placed : List Placed) (place : ℕ) (old new : ℕ → List ℕ) → Counts old placed →
    IsNonDecreasing (insert (old one.person) place one.position) →
    new one.person ≡ insert (old one.person) place one.position →
    ((other : ℕ) → (other ≡ one.person → ⊥) → new other ≡ old other) → Counts new (placed ++ one ∷ [])
counts-on one placed place old new counts rises here others = record {
  counted = λ person limit. elim (cases_eq person one.person) [
    | inl same ↦
        ap (λ (n : ℕ). below limit (new n)) same ∙ ap (below limit) here
        ∙ below-insert limit one.position place (old one.person)
        ∙ ap (with_one limit one.position) (counts.counted one.person limit)
        ∙ sym (below-last limit one.position (positions_of one.person placed))
        ∙ ap (below limit) (sym (own-appended one placed))
        ∙ ap (λ (n : ℕ). below limit (positions_of n (placed ++ one ∷ []))) (sym same)
    | inr unlike ↦
        ap (below limit) (others person unlike) ∙ counts.counted person limit
        ∙ ap (below limit) (sym (other-appended person one placed (λ e. unlike (sym e))))
  ];
  rising = λ person. elim (cases_eq person one.person) [
    | inl same ↦ subst IsNonDecreasing (sym (ap new same ∙ here)) rises
    | inr unlike ↦ subst IsNonDecreasing (sym (others person unlike)) (counts.rising person)
  ];
}

-- what is told up to a place, and what is to come
abbrev pub Ranked : List Placed → ℕ → List Joined → Type 0
Ranked placed place joined =
    joined ++ joined_after (take place placed) (drop place placed) ≡ joined_after [] placed

pub ranked-on : (placed : List Placed) (place : ℕ) (d one : Placed) (joined : List Joined) (rank : ℕ) →
    place < length placed → get_or placed place d ≡ one → rank ≡ rank_among (take place placed) one →
    Ranked placed place joined →
    Ranked placed (place + 1)
    (joined ++ record { person = one.person; conference = one.conference; rank = rank } ∷ [])
ranked-on placed place d one joined rank within is rank_is ranked =
    let as_told : ℕ → Joined = λ n. record { person = one.person; conference = one.conference; rank = n } in
    let rest : drop place placed ≡ one ∷ drop (place + 1) placed =
    at_drop_more (λ (l : List Placed). l) placed place d within
    ∙ ap (λ (p : Placed). p ∷ drop (place + 1) placed) is in
    let before : take (place + 1) placed ≡ take place placed ++ one ∷ [] =
    take_more placed place d within ∙ ap (λ (p : Placed). take place placed ++ p ∷ []) is in
    append_assoc joined (as_told rank ∷ []) (joined_after (take (place + 1) placed) (drop (place + 1) placed))
    ∙ ap (λ (l : List Placed). joined ++ as_told rank ∷ joined_after l (drop (place + 1) placed)) before
    ∙ ap (λ (n : ℕ). joined ++ as_told n
    ∷ joined_after (take place placed ++ one ∷ []) (drop (place + 1) placed)) rank_is
    ∙ ap (λ (l : List Placed). joined ++ joined_after (take place placed) l) (sym rest)
    ∙ ranked

pub counts-more : (lists : ℕ → List ℕ) (placed : List Placed) (place : ℕ) (d one : Placed) → place < length placed →
    get_or placed place d ≡ one → Counts lists (take place placed ++ one ∷ []) →
    Counts lists (take (place + 1) placed)
counts-more lists placed place d one within is counts =
    subst (Counts lists)
    (sym (take_more placed place d within ∙ ap (λ (p : Placed). take place placed ++ p ∷ []) is)) counts
