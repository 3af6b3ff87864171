-- A table after a new membership.
use Rattle.std.proofs.Common.{◌≡◌, ℕ, ◌+◌, ◌<◌, ◌⊎◌, inl, inr, Bool, true, false, cond, ◌||◌, eqb, nat_eq, List, []}
use Rattle.std.proofs.Common.{◌∷◌, ◌++◌, insert, map, filter, Option, Some, None, is_some, option_map, refl, sym, ◌∙◌}
use Rattle.std.proofs.Common.{ap, subst, arith}
use Rattle.std.specs.List.{IsDistinct}
use Rattle.std.specs.Map.{keys_of}
use Rattle.std.specs.Option.{option_or}
use Rattle.std.specs.Set.{is_member}
use Rattle.std.proofs.lemmas.Bool.{cases_eq, eq-eqb, ne_eqb, false_from_ne_true, and_from, and_left, and_right}
use Rattle.std.proofs.lemmas.List.{map-append, append-nil}
use Rattle.std.proofs.lemmas.List.Elements.{filter-append}
use Rattle.std.proofs.lemmas.Option.{same_Some, none-some}
use Rattle.read_ranges.specs.Numbers.{ranges_of}
use Rattle.memberships.specs.declared.kept.Kept.{Kept}
use Rattle.memberships.specs.Entries.{Key, Entry, same_key, in_turn, persons_in, kept_at, turn_of}
use Rattle.memberships.specs.Keeping.{IsTable}
use Rattle.memberships.proofs.Pairs.{pairwise_push}
use Rattle.memberships.proofs.Places.{flip_eqb, IsDistinct-insert, is_member-insert}
use Rattle.memberships.proofs.Turns.{key_decides, key_laws, turn, AreInTurn, one_turn, in_turn_is, all_in_turn}
use Rattle.memberships.proofs.Turns.{TurnsDiffer, Sets}

-- the entries fs are es with one more, which has the next turn, and nothing is read in it
pub record Joins (es fs : List Entry) (next person conference : ℕ) (new : Kept) : Type 0 where
  pub absent : kept_at (person, conference) es ≡ None
  pub last : new.turn ≡ next
  pub unread : ranges_of new.read.numbers ≡ []
  pub unique : IsDistinct same_key (keys_of fs)
  pub changed : (key : Key) → kept_at key fs ≡ cond (same_key (person, conference) key) (Some new) (kept_at key es)

-- what a look-up finds once an entry is put after the others
lookup-push : (k : Key) (es : List Entry) (e : Entry) →
    kept_at k (es ++ e ∷ []) ≡ option_or (kept_at k es) (cond (same_key k e.0) (Some e.1) None)
lookup-push k [] e = refl
lookup-push k (f ∷ fs) e =
    elim (same_key k f.0) as
    (λ b. cond b (Some f.1) (kept_at k (fs ++ e ∷ []))
    ≡ option_or (cond b (Some f.1) (kept_at k fs)) (cond (same_key k e.0) (Some e.1) None)) [
      | true ↦ refl
      | false ↦ lookup-push k fs e
    ]

or_none : (o : Option Kept) → option_or o None ≡ o
or_none None = refl
or_none (Some x) = refl

module _ (es fs : List Entry) (next : ℕ) (conferences persons : ℕ → List ℕ) (person conference : ℕ) (new : Kept)
    (table : IsTable es next conferences persons) (joins : Joins es fs next person conference new) where
  abbrev here : Key
  here = (person, conference)

  at_here : (key : Key) → same_key here key ≡ true → kept_at key fs ≡ Some new
  at_here key is = joins.changed key ∙ ap (λ b. cond b (Some new) (kept_at key es)) is

  elsewhere : (key : Key) → same_key here key ≡ false → kept_at key fs ≡ kept_at key es
  elsewhere key other = joins.changed key ∙ ap (λ b. cond b (Some new) (kept_at key es)) other

  not_here : (key : Key) (v : Kept) → kept_at key es ≡ Some v → same_key key here ≡ false
  not_here key v there =
      false_from_ne_true _
      (λ is. none-some v (sym joins.absent ∙ ap (λ k. kept_at k es) (sym ((key_decides key here).0 is)) ∙ there))

  -- a turn that is given now is the new one's, or was given before
  given_now : (key : Key) (n : ℕ) → turn_of key fs ≡ Some n → ((here ≡ key) × (n ≡ next)) ⊎ (turn_of key es ≡ Some n)
  given_now key n found = by (same_key here key) refl
    where
      by : (b : Bool) → same_key here key ≡ b → ((here ≡ key) × (n ≡ next)) ⊎ (turn_of key es ≡ Some n)
      by true is = inl (
        (key_decides here key).0 is,
        same_Some n new.turn (sym found ∙ ap (option_map (λ kept. kept.turn)) (at_here key is)) ∙ joins.last,
      )
      by false other = inr (sym (ap (option_map (λ kept. kept.turn)) (elsewhere key other)) ∙ found)

  given : (key : Key) (n : ℕ) → turn_of key fs ≡ Some n → n < next + 1
  given key n found = elim (given_now key n found) [
    | inl new ↦ omega (arith, new.1)
    | inr old ↦ omega (arith, table.given key n old)
  ]

  apart : TurnsDiffer fs
  apart one other n first second = by (given_now one n first) (given_now other n second)
    where
      by : ((here ≡ one) × (n ≡ next)) ⊎ (turn_of one es ≡ Some n) →
          ((here ≡ other) × (n ≡ next)) ⊎ (turn_of other es ≡ Some n) → one ≡ other
      by (inl a) (inl b) = sym a.0 ∙ b.0
      by (inl a) (inr b) = absurd (omega (arith, a.1, table.given other n b))
      by (inr a) (inl b) = absurd (omega (arith, b.1, table.given one n a))
      by (inr a) (inr b) = table.apart one other n a b

  turns : AreInTurn (in_turn es) (λ key. kept_at key es)
  turns = in_turn_is es table.unique table.apart

  found_now : (key : Key) → kept_at key (in_turn es ++ (here, new) ∷ []) ≡ kept_at key fs
  found_now key =
      lookup-push key (in_turn es) (here, new)
      ∙ (λ i. option_or (turns.found key i) (cond (key_laws.symm key here i) (Some new) None))
      ∙ by (same_key here key) refl
    where
      by : (b : Bool) → same_key here key ≡ b →
          option_or (kept_at key es) (cond (same_key here key) (Some new) None) ≡ kept_at key fs
      by true is =
          let none : kept_at key es ≡ None =
          ap (λ k. kept_at k es) (sym ((key_decides here key).0 is)) ∙ joins.absent in
          (λ i. option_or (none i) (cond (is i) (Some new) None)) ∙ sym (at_here key is)
      by false other = ap (λ b. option_or (kept_at key es) (cond b (Some new) None)) other ∙ or_none (kept_at key es)
          ∙ sym (elsewhere key other)

  now_in_turn : AreInTurn (in_turn es ++ (here, new) ∷ []) (λ key. kept_at key fs)
  now_in_turn = record {
    rises =
        pairwise_push (λ (x y : Entry). turn x < turn y) (in_turn es) (here, new) turns.rises
        (all_in_turn (λ e. turn e < new.turn) (in_turn es) (λ key. kept_at key es) turns
        (λ key v there. omega (arith, joins.last, table.given key v.turn (ap (option_map (λ kept. kept.turn)) there))));
    differ =
        pairwise_push (λ (x y : Entry). same_key x.0 y.0 ≡ false) (in_turn es) (here, new) turns.differ
        (all_in_turn (λ e. same_key e.0 here ≡ false) (in_turn es) (λ key. kept_at key es) turns not_here);
    found = found_now;
  }

  -- the new entry is the last to join
  pub joined : in_turn fs ≡ in_turn es ++ (here, new) ∷ []
  joined = one_turn (in_turn fs) (in_turn es ++ (here, new) ∷ []) (λ key. kept_at key fs)
      (in_turn_is fs joins.unique apart) now_in_turn

  -- the conference is not yet in the list of its person
  pub no_member : is_member nat_eq (conferences person) conference ≡ false
  no_member = table.listed person conference ∙ ap is_some joins.absent

  persons_now : (c : ℕ) → persons_in c fs ≡ persons_in c es ++ cond (eqb conference c) (person ∷ []) []
  persons_now c =
      ap (λ l. map (λ (e : Entry). e.0.0) (filter (λ (e : Entry). eqb e.0.1 c) l)) joined
      ∙ ap (map (λ (e : Entry). e.0.0)) (filter-append (λ (e : Entry). eqb e.0.1 c) (in_turn es) ((here, new) ∷ []))
      ∙ map-append (λ (e : Entry). e.0.0) (filter (λ (e : Entry). eqb e.0.1 c) (in_turn es))
      (cond (eqb conference c) ((here, new) ∷ []) [])
      ∙ ap (λ l. persons_in c es ++ l) (one (eqb conference c))
    where
      one : (b : Bool) → map (λ (e : Entry). e.0.0) (cond b ((here, new) ∷ []) []) ≡ cond b (person ∷ []) []
      one true = refl
      one false = refl

  module _ (place : ℕ) (lists members : ℕ → List ℕ)
      (puts : Sets conferences lists person (insert (conferences person) place conference))
      (pushes : Sets persons members conference (persons conference ++ person ∷ [])) where
    once : (other : ℕ) → IsDistinct nat_eq (lists other)
    once other = elim (cases_eq other person) [
      | inl is ↦ subst (λ p. IsDistinct nat_eq (lists p)) (sym is)
          (subst (IsDistinct nat_eq) (sym puts.here)
          (IsDistinct-insert (conferences person) place conference (table.once person) no_member))
      | inr unlike ↦ subst (IsDistinct nat_eq) (sym (puts.others other unlike)) (table.once other)
    ]

    members_of_this : (c : ℕ) → is_member nat_eq (lists person) c ≡ is_some (kept_at (person, c) fs)
    members_of_this c =
        ap (λ l. is_member nat_eq l c) puts.here ∙ is_member-insert (conferences person) place conference c
        ∙ ap (λ b. b || is_member nat_eq (conferences person) c) (flip_eqb c conference) ∙ by (eqb conference c) refl
      where
        by : (b : Bool) → eqb conference c ≡ b →
            (eqb conference c || is_member nat_eq (conferences person) c) ≡ is_some (kept_at (person, c) fs)
        by true e =
            let is : same_key here (person, c) ≡ true = and_from _ _ (eq-eqb person person refl) e in
            ap (λ b. b || is_member nat_eq (conferences person) c) e ∙ ap is_some (sym (at_here (person, c) is))
        by false e =
            let other : same_key here (person, c) ≡ false = and_right _ _ e in
            ap (λ b. b || is_member nat_eq (conferences person) c) e ∙ table.listed person c
            ∙ ap is_some (sym (elsewhere (person, c) other))

    members_now : (p c : ℕ) → is_member nat_eq (lists p) c ≡ is_some (kept_at (p, c) fs)
    members_now p c = elim (cases_eq p person) [
      | inl is ↦ subst (λ q. is_member nat_eq (lists q) c ≡ is_some (kept_at (q, c) fs)) (sym is) (members_of_this c)
      | inr unlike ↦
          let other : same_key here (p, c) ≡ false = and_left _ _ (ne_eqb person p (λ e. unlike (sym e))) in
          ap (λ l. is_member nat_eq l c) (puts.others p unlike) ∙ table.listed p c
          ∙ ap is_some (sym (elsewhere (p, c) other))
    ]

    persons_are : (c : ℕ) → members c ≡ persons_in c fs
    persons_are c = elim (cases_eq c conference) [
      | inl is ↦ subst (λ d. members d ≡ persons_in d fs) (sym is)
          (pushes.here ∙ ap (λ l. l ++ person ∷ []) (table.in_order conference)
          ∙ sym (persons_now conference
          ∙ ap (λ b. persons_in conference es ++ cond b (person ∷ []) []) (eq-eqb conference conference refl)))
      | inr unlike ↦
          pushes.others c unlike ∙ table.in_order c
          ∙ sym (persons_now c
          ∙ ap (λ b. persons_in c es ++ cond b (person ∷ []) []) (ne_eqb conference c (λ e. unlike (sym e)))
          ∙ append-nil (persons_in c es))
    ]

    pub IsTable-joined : IsTable fs (next + 1) lists members
    IsTable-joined = record {
      unique = joins.unique;
      given = given;
      apart = apart;
      once = once;
      listed = members_now;
      in_order = persons_are;
    }
