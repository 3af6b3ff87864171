-- A table after a membership is taken out.
use Rattle.std.proofs.Common.{◌≡◌, ℕ, ◌<◌, Bool, true, false, cond, not, eqb, nat_eq, List, [], ◌∷◌, map, filter, Some}
use Rattle.std.proofs.Common.{None, is_some, option_map, inl, inr, refl, sym, ◌∙◌, ap, subst}
use Rattle.std.specs.List.{AllByRecursion, IsDistinct}
use Rattle.std.specs.Map.{keys_of}
use Rattle.std.specs.Set.{is_member, remove_key}
use Rattle.std.proofs.lemmas.Bool.{cases_Bool, cases_eq, eq-eqb, ne_eqb, eqb-true, and_from, and_left, and_right}
use Rattle.std.proofs.lemmas.Bool.{and_parts, or_left, or_right}
use Rattle.std.proofs.lemmas.Map.Entries.{lookup-filter-keys}
use Rattle.std.proofs.lemmas.Option.{none-some}
use Rattle.memberships.specs.Entries.{Key, Entry, same_key, in_turn, persons_in, kept_at, turn_of}
use Rattle.memberships.specs.Keeping.{IsTable}
use Rattle.memberships.proofs.Pairs.{pairwise_filter}
use Rattle.memberships.proofs.Places.{flip_eqb, IsDistinct-remove_key, is_member-remove_key}
use Rattle.memberships.proofs.Turns.{key_decides, turn, KeysDiffer, AreInTurn, one_turn, in_turn_is, TurnsDiffer, Sets}

-- the entries fs are es without that of a key
pub record Leaves (es fs : List Entry) (person conference : ℕ) : Type 0 where
  pub unique : IsDistinct same_key (keys_of fs)
  pub changed : (key : Key) → kept_at key fs ≡ cond (same_key (person, conference) key) None (kept_at key es)

-- an entry is not of the key
abbrev pub is_other : Key → Entry → Bool
is_other key e = not (same_key key e.0)

-- a filter by the key leaves entries of which none has it as they are
pub filter-others : (key : Key) (es : List Entry) → AllByRecursion (λ e. same_key key e.0 ≡ false) es →
    filter (is_other key) es ≡ es
filter-others key [] others = refl
filter-others key (e ∷ es) others = let other : same_key key e.0 ≡ false = others.0 in
    rw other (ap (λ l. e ∷ l) (filter-others key es others.1))

-- the persons in a conference, of entries in turn
abbrev pub persons_of : ℕ → List Entry → List ℕ
persons_of c es = map (λ e. e.0.0) (filter (λ e. eqb e.0.1 c) es)

-- a person whose membership is kept is among the persons in its conference
pub is_person : (p c : ℕ) (es : List Entry) → is_some (kept_at (p, c) es) ≡ true →
    is_member nat_eq (persons_of c es) p ≡ true
is_person p c [] there = there
is_person p c (e ∷ es) there = elim (cases_Bool (same_key (p, c) e.0)) [
  | inl is ↦
      let parts = and_parts (eqb p e.0.0) (eqb c e.0.1) is in
      let of_c : eqb e.0.1 c ≡ true = flip_eqb e.0.1 c ∙ parts.1 in
      rw of_c (or_left (eqb p e.0.0) (is_member nat_eq (persons_of c es) p) parts.0)
  | inr other ↦
      let rest : is_member nat_eq (persons_of c es) p ≡ true =
      is_person p c es (ap is_some (sym (ap (λ b. cond b (Some e.1) (kept_at (p, c) es)) other)) ∙ there) in
      elim (cases_Bool (eqb e.0.1 c)) [
        | inl of_c ↦ rw of_c (or_right (eqb p e.0.0) (is_member nat_eq (persons_of c es) p) rest)
        | inr not_c ↦ rw not_c rest
      ]
]

persons_of_this : (p c : ℕ) (es : List Entry) → KeysDiffer es →
    persons_of c (filter (is_other (p, c)) es) ≡ remove_key (nat_eq p) (persons_of c es)
persons_of_this p c [] differ = refl
persons_of_this p c (e ∷ es) differ =
    let rest : persons_of c (filter (is_other (p, c)) es) ≡ remove_key (nat_eq p) (persons_of c es) =
    persons_of_this p c es differ.1 in
    elim (cases_Bool (eqb c e.0.1)) [
      | inl is_c ↦
          let of_c : eqb e.0.1 c ≡ true = flip_eqb e.0.1 c ∙ is_c in
          elim (cases_Bool (eqb p e.0.0)) [
            | inl is_p ↦
                let same : e.0 ≡ (p, c) = sym ((key_decides (p, c) e.0).0 (and_from _ _ is_p is_c)) in
                let others : filter (is_other (p, c)) es ≡ es =
                filter-others (p, c) es (subst (λ k. AllByRecursion (λ f. same_key k f.0 ≡ false) es) same differ.0) in
                rw (is_p, is_c, of_c, is_p) (ap (persons_of c) others)
            | inr no_p ↦ rw (no_p, of_c, no_p) (ap (λ l. e.0.0 ∷ l) rest)
          ]
      | inr no_c ↦
          let of_c : eqb e.0.1 c ≡ false = flip_eqb e.0.1 c ∙ no_c in
          let other : same_key (p, c) e.0 ≡ false = and_right _ _ no_c in
          rw (other, of_c) rest
    ]

persons_of_other : (p c d : ℕ) (es : List Entry) → eqb c d ≡ false →
    persons_of d (filter (is_other (p, c)) es) ≡ persons_of d es
persons_of_other p c d [] apart = refl
persons_of_other p c d (e ∷ es) apart =
    let rest : persons_of d (filter (is_other (p, c)) es) ≡ persons_of d es = persons_of_other p c d es apart in
    elim (cases_Bool (eqb e.0.1 d)) [
      | inl of_d ↦
          let other : same_key (p, c) e.0 ≡ false = and_right _ _ (ap (eqb c) (eqb-true e.0.1 d of_d) ∙ apart) in
          rw (other, of_d) (ap (λ l. e.0.0 ∷ l) rest)
      | inr not_d ↦ elim (cases_Bool (same_key (p, c) e.0)) [
        | inl is ↦ rw (is, not_d) rest
        | inr other ↦ rw (other, not_d) rest
      ]
    ]

module _ (es fs : List Entry) (next : ℕ) (conferences persons : ℕ → List ℕ) (person conference : ℕ)
    (table : IsTable es next conferences persons) (leaves : Leaves es fs person conference) where
  abbrev here : Key
  here = (person, conference)

  at_here : (key : Key) → same_key here key ≡ true → kept_at key fs ≡ None
  at_here key is = leaves.changed key ∙ ap (λ b. cond b None (kept_at key es)) is

  elsewhere : (key : Key) → same_key here key ≡ false → kept_at key fs ≡ kept_at key es
  elsewhere key other = leaves.changed key ∙ ap (λ b. cond b None (kept_at key es)) other

  given_before : (key : Key) (n : ℕ) → turn_of key fs ≡ Some n → turn_of key es ≡ Some n
  given_before key n found = by (same_key here key) refl
    where
      by : (b : Bool) → same_key here key ≡ b → turn_of key es ≡ Some n
      by true is = absurd (none-some n (sym (ap (option_map (λ kept. kept.turn)) (at_here key is)) ∙ found))
      by false other = sym (ap (option_map (λ kept. kept.turn)) (elsewhere key other)) ∙ found

  apart : TurnsDiffer fs
  apart one other n first second = table.apart one other n (given_before one n first) (given_before other n second)

  turns : AreInTurn (in_turn es) (λ key. kept_at key es)
  turns = in_turn_is es table.unique table.apart

  found_now : (key : Key) → kept_at key (filter (is_other here) (in_turn es)) ≡ kept_at key fs
  found_now key =
      lookup-filter-keys (same_key key) (λ k. not (same_key here k)) (not (same_key here key))
      (λ k is. ap (λ j. not (same_key here j)) (sym ((key_decides key k).0 is))) (in_turn es)
      ∙ ap (λ o. cond (not (same_key here key)) o None) (turns.found key) ∙ by (same_key here key) refl
    where
      by : (b : Bool) → same_key here key ≡ b → cond (not (same_key here key)) (kept_at key es) None ≡ kept_at key fs
      by true is = ap (λ b. cond (not b) (kept_at key es) None) is ∙ sym (at_here key is)
      by false other = ap (λ b. cond (not b) (kept_at key es) None) other ∙ sym (elsewhere key other)

  now_in_turn : AreInTurn (filter (is_other here) (in_turn es)) (λ key. kept_at key fs)
  now_in_turn = record {
    rises = pairwise_filter (λ (x y : Entry). turn x < turn y) (is_other here) (in_turn es) turns.rises;
    differ = pairwise_filter (λ (x y : Entry). same_key x.0 y.0 ≡ false) (is_other here) (in_turn es) turns.differ;
    found = found_now;
  }

  -- the other entries keep their turns
  pub left : in_turn fs ≡ filter (is_other here) (in_turn es)
  left = one_turn (in_turn fs) (filter (is_other here) (in_turn es)) (λ key. kept_at key fs)
      (in_turn_is fs leaves.unique apart) now_in_turn

  module _ (lists members : ℕ → List ℕ)
      (takes : Sets conferences lists person (remove_key (nat_eq conference) (conferences person)))
      (drops : Sets persons members conference (remove_key (nat_eq person) (persons conference))) where
    once : (other : ℕ) → IsDistinct nat_eq (lists other)
    once other = elim (cases_eq other person) [
      | inl is ↦ subst (λ p. IsDistinct nat_eq (lists p)) (sym is)
          (subst (IsDistinct nat_eq) (sym takes.here)
          (IsDistinct-remove_key (nat_eq conference) (conferences person) (table.once person)))
      | inr unlike ↦ subst (IsDistinct nat_eq) (sym (takes.others other unlike)) (table.once other)
    ]

    members_of_this : (c : ℕ) → is_member nat_eq (lists person) c ≡ is_some (kept_at (person, c) fs)
    members_of_this c =
        ap (λ l. is_member nat_eq l c) takes.here
        ∙ is_member-remove_key (conferences person) conference c (table.once person)
        ∙ by (eqb conference c) refl
      where
        by : (b : Bool) → eqb conference c ≡ b →
            cond (eqb conference c) false (is_member nat_eq (conferences person) c) ≡ is_some (kept_at (person, c) fs)
        by true e =
            let is : same_key here (person, c) ≡ true = and_from _ _ (eq-eqb person person refl) e in
            ap (λ b. cond b false (is_member nat_eq (conferences person) c)) e
            ∙ ap is_some (sym (at_here (person, c) is))
        by false e =
            let other : same_key here (person, c) ≡ false = and_right _ _ e in
            ap (λ b. cond b false (is_member nat_eq (conferences person) c)) e ∙ table.listed person c
            ∙ ap is_some (sym (elsewhere (person, c) other))

    members_now : (p c : ℕ) → is_member nat_eq (lists p) c ≡ is_some (kept_at (p, c) fs)
    members_now p c = elim (cases_eq p person) [
      | inl is ↦ subst (λ q. is_member nat_eq (lists q) c ≡ is_some (kept_at (q, c) fs)) (sym is) (members_of_this c)
      | inr unlike ↦
          let other : same_key here (p, c) ≡ false = and_left _ _ (ne_eqb person p (λ e. unlike (sym e))) in
          ap (λ l. is_member nat_eq l c) (takes.others p unlike) ∙ table.listed p c
          ∙ ap is_some (sym (elsewhere (p, c) other))
    ]

    persons_are : (c : ℕ) → members c ≡ persons_in c fs
    persons_are c = elim (cases_eq c conference) [
      | inl is ↦ subst (λ d. members d ≡ persons_in d fs) (sym is)
          (drops.here ∙ ap (remove_key (nat_eq person)) (table.in_order conference)
          ∙ sym (ap (persons_of conference) left ∙ persons_of_this person conference (in_turn es) turns.differ))
      | inr unlike ↦
          drops.others c unlike ∙ table.in_order c
          ∙ sym (ap (persons_of c) left
          ∙ persons_of_other person conference c (in_turn es) (ne_eqb conference c (λ e. unlike (sym e))))
    ]

    pub IsTable-left : IsTable fs next lists members
    IsTable-left = record {
      unique = leaves.unique;
      given = λ key n found. table.given key n (given_before key n found);
      apart = apart;
      once = once;
      listed = members_now;
      in_order = persons_are;
    }
