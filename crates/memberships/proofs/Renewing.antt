-- A table after a membership is set again.
use Rattle.std.proofs.Common.{◌≡◌, ℕ, ◌<◌, Bool, true, false, cond, ◌||◌, eqb, nat_eq, List, [], ◌∷◌, insert, map}
use Rattle.std.proofs.Common.{filter, Option, Some, None, is_some, option_map, inl, inr, refl, sym, ◌∙◌, ap, subst}
use Rattle.std.proofs.Common.{arith}
use Rattle.std.specs.List.{AllByRecursion, IsDistinct}
use Rattle.std.specs.Map.{keys_of}
use Rattle.std.specs.Set.{is_member, remove_key}
use Rattle.std.proofs.lemmas.Bool.{cases_eq, eq-eqb, eqb-true}
use Rattle.std.proofs.lemmas.Option.{same_Some}
use Rattle.memberships.specs.declared.kept.Kept.{Kept}
use Rattle.memberships.specs.Entries.{Key, Entry, same_key, in_turn, persons_in, kept_at, turn_of}
use Rattle.memberships.specs.Keeping.{IsTable}
use Rattle.memberships.proofs.Pairs.{Pairwise, all_map, map-map, map_agree}
use Rattle.memberships.proofs.Places.{flip_eqb, IsDistinct-insert, IsDistinct-remove_key, is_member-insert}
use Rattle.memberships.proofs.Places.{is_member-remove_key}
use Rattle.memberships.proofs.Turns.{key_decides, turn, KeysDiffer, AreInTurn, one_turn, in_turn_is, all_in_turn}
use Rattle.memberships.proofs.Turns.{TurnsDiffer, Sets}

-- the entries fs are es with another one of the same turn at a key
pub record Renews (es fs : List Entry) (person conference : ℕ) (old new : Kept) : Type 0 where
  pub there : kept_at (person, conference) es ≡ Some old
  pub same_turn : new.turn ≡ old.turn
  pub unique : IsDistinct same_key (keys_of fs)
  pub changed : (key : Key) → kept_at key fs ≡ cond (same_key (person, conference) key) (Some new) (kept_at key es)

-- what is kept at a key, in the turn that was given
abbrev pub renewed_kept : Key → Kept → Key → Kept → Kept
renewed_kept here new key kept = cond (same_key here key) (record new { turn = kept.turn }) kept

abbrev pub renewed : Key → Kept → Entry → Entry
renewed here new e = (e.0, renewed_kept here new e.0 e.1)

turn_stays : (here : Key) (new : Kept) (e : Entry) → turn (renewed here new e) ≡ turn e
turn_stays here new e =
    elim (same_key here e.0) as
    (λ b. (let k : Kept = cond b (record new { turn = e.1.turn }) e.1 in k.turn) ≡ e.1.turn) [
      | true ↦ refl
      | false ↦ refl
    ]

lookup-renewed : (here : Key) (new : Kept) (key : Key) (es : List Entry) →
    kept_at key (map (renewed here new) es) ≡ option_map (renewed_kept here new key) (kept_at key es)
lookup-renewed here new key [] = refl
lookup-renewed here new key (e ∷ es) =
    elim (same_key key e.0) as (λ b. same_key key e.0 ≡ b →
    cond b (Some (renewed_kept here new e.0 e.1)) (kept_at key (map (renewed here new) es))
    ≡ option_map (renewed_kept here new key) (cond b (Some e.1) (kept_at key es))) [
      | true ↦ λ is. ap (λ k. Some (renewed_kept here new k e.1)) (sym ((key_decides key e.0).0 is))
      | false ↦ λ other. lookup-renewed here new key es
    ] refl

rises_renewed : (here : Key) (new : Kept) (es : List Entry) → Pairwise (λ (x y : Entry). turn x < turn y) es →
    Pairwise (λ (x y : Entry). turn x < turn y) (map (renewed here new) es)
rises_renewed here new [] rises = tt
rises_renewed here new (e ∷ es) rises = (above es rises.0, rises_renewed here new es rises.1)
  where
    above : (fs : List Entry) → AllByRecursion (λ f. turn e < turn f) fs →
        AllByRecursion (λ f. turn (renewed here new e) < turn f) (map (renewed here new) fs)
    above [] all = tt
    above (f ∷ fs) all = (omega (arith, turn_stays here new e, turn_stays here new f, all.0), above fs all.1)

differ_renewed : (here : Key) (new : Kept) (es : List Entry) → KeysDiffer es → KeysDiffer (map (renewed here new) es)
differ_renewed here new [] differ = tt
differ_renewed here new (e ∷ es) differ = (
  all_map (λ (f : Entry). same_key e.0 f.0 ≡ false) (renewed here new) es differ.0,
  differ_renewed here new es differ.1,
)

-- the persons in a conference are the same, in the same order
persons_renewed : (here : Key) (new : Kept) (c : ℕ) (es : List Entry) →
    map (λ (e : Entry). e.0.0) (filter (λ (e : Entry). eqb e.0.1 c) (map (renewed here new) es))
    ≡ map (λ (e : Entry). e.0.0) (filter (λ (e : Entry). eqb e.0.1 c) es)
persons_renewed here new c [] = refl
persons_renewed here new c (e ∷ es) =
    elim (eqb e.0.1 c) as
    (λ b. map (λ (f : Entry). f.0.0)
    (cond b (renewed here new e ∷ filter (λ (f : Entry). eqb f.0.1 c) (map (renewed here new) es))
    (filter (λ (f : Entry). eqb f.0.1 c) (map (renewed here new) es)))
    ≡ map (λ (f : Entry). f.0.0)
    (cond b (e ∷ filter (λ (f : Entry). eqb f.0.1 c) es) (filter (λ (f : Entry). eqb f.0.1 c) es))) [
      | true ↦ ap (λ l. e.0.0 ∷ l) (persons_renewed here new c es)
      | false ↦ persons_renewed here new c es
    ]

module _ (es fs : List Entry) (next : ℕ) (conferences persons : ℕ → List ℕ) (person conference : ℕ) (old new : Kept)
    (table : IsTable es next conferences persons) (renews : Renews es fs person conference old new) where
  abbrev here : Key
  here = (person, conference)

  at_here : (key : Key) → same_key here key ≡ true → kept_at key fs ≡ Some new
  at_here key is = renews.changed key ∙ ap (λ b. cond b (Some new) (kept_at key es)) is

  elsewhere : (key : Key) → same_key here key ≡ false → kept_at key fs ≡ kept_at key es
  elsewhere key other = renews.changed key ∙ ap (λ b. cond b (Some new) (kept_at key es)) other

  before : (key : Key) → same_key here key ≡ true → kept_at key es ≡ Some old
  before key is = ap (λ k. kept_at k es) (sym ((key_decides here key).0 is)) ∙ renews.there

  turns_stay : (key : Key) → turn_of key fs ≡ turn_of key es
  turns_stay key = by (same_key here key) refl
    where
      by : (b : Bool) → same_key here key ≡ b → turn_of key fs ≡ turn_of key es
      by true is = ap (option_map (λ kept. kept.turn)) (at_here key is) ∙ ap Some renews.same_turn
          ∙ sym (ap (option_map (λ kept. kept.turn)) (before key is))
      by false other = ap (option_map (λ kept. kept.turn)) (elsewhere key other)

  apart : TurnsDiffer fs
  apart one other n first second =
      table.apart one other n (sym (turns_stay one) ∙ first) (sym (turns_stay other) ∙ second)

  pub turns : AreInTurn (in_turn es) (λ key. kept_at key es)
  turns = in_turn_is es table.unique table.apart

  found_now : (key : Key) → kept_at key (map (renewed here new) (in_turn es)) ≡ kept_at key fs
  found_now key = lookup-renewed here new key (in_turn es)
      ∙ ap (option_map (renewed_kept here new key)) (turns.found key) ∙ by (same_key here key) refl
    where
      by : (b : Bool) → same_key here key ≡ b → option_map (renewed_kept here new key) (kept_at key es) ≡ kept_at key fs
      by true is =
          (λ i. option_map (λ (kept : Kept). cond (is i) (record new { turn = kept.turn }) kept) (before key is i))
          ∙ (λ i. Some (record new { turn = sym renews.same_turn i })) ∙ sym (at_here key is)
      by false other =
          ap (λ b. option_map (λ (kept : Kept). cond b (record new { turn = kept.turn }) kept) (kept_at key es)) other
          ∙ itself (kept_at key es) ∙ sym (elsewhere key other)
        where
          itself : (o : Option Kept) → option_map (λ kept. kept) o ≡ o
          itself None = refl
          itself (Some x) = refl

  now_in_turn : AreInTurn (map (renewed here new) (in_turn es)) (λ key. kept_at key fs)
  now_in_turn = record {
    rises = rises_renewed here new (in_turn es) turns.rises;
    differ = differ_renewed here new (in_turn es) turns.differ;
    found = found_now;
  }

  -- all entries keep their turns
  pub kept_turns : in_turn fs ≡ map (renewed here new) (in_turn es)
  kept_turns = one_turn (in_turn fs) (map (renewed here new) (in_turn es)) (λ key. kept_at key fs)
      (in_turn_is fs renews.unique apart) now_in_turn

  there_stays : (key : Key) → is_some (kept_at key fs) ≡ is_some (kept_at key es)
  there_stays key = by (same_key here key) refl
    where
      by : (b : Bool) → same_key here key ≡ b → is_some (kept_at key fs) ≡ is_some (kept_at key es)
      by true is = ap is_some (at_here key is) ∙ sym (ap is_some (before key is))
      by false other = ap is_some (elsewhere key other)

  persons_stay : (c : ℕ) → persons c ≡ persons_in c fs
  persons_stay c =
      table.in_order c
      ∙ sym (ap (λ l. map (λ (e : Entry). e.0.0) (filter (λ (e : Entry). eqb e.0.1 c) l)) kept_turns
      ∙ persons_renewed here new c (in_turn es))

  -- what two functions make of the entries in turn is the same if it is at the key, and elsewhere
  pub each_entry : {X : Type 0} (f g : Entry → X) → f (here, new) ≡ g (here, old) →
      ((e : Entry) → same_key here e.0 ≡ false → f e ≡ g e) → map f (in_turn fs) ≡ map g (in_turn es)
  each_entry f g at_key others =
      ap (map f) kept_turns ∙ map-map f (renewed here new) (in_turn es)
      ∙ map_agree (λ e. f (renewed here new e)) g (in_turn es)
      (all_in_turn (λ e. f (renewed here new e) ≡ g e) (in_turn es) (λ key. kept_at key es) turns
      (λ key v there. by key v there (same_key here key) refl))
    where
      by : (key : Key) (v : Kept) → kept_at key es ≡ Some v → (b : Bool) → same_key here key ≡ b →
          f (renewed here new (key, v)) ≡ g (key, v)
      by key v there true is =
          let same : old ≡ v = same_Some old v (sym (before key is) ∙ there) in
          ap (λ b. f (key, cond b (record new { turn = v.turn }) v)) is
          ∙ ap (λ (w : Kept). f (key, record new { turn = w.turn })) (sym same)
          ∙ ap (λ n. f (key, record new { turn = n })) (sym renews.same_turn)
          ∙ ap (λ k. f (k, new)) (sym ((key_decides here key).0 is)) ∙ at_key
          ∙ (λ i. g ((key_decides here key).0 is i, same i))
      by key v there false other =
          ap (λ b. f (key, cond b (record new { turn = v.turn }) v)) other ∙ others (key, v) other

  -- with the same lists
  pub IsTable-kept : IsTable fs next conferences persons
  IsTable-kept = record {
    unique = renews.unique;
    given = λ key n found. table.given key n (sym (turns_stay key) ∙ found);
    apart = apart;
    once = table.once;
    listed = λ p c. table.listed p c ∙ sym (there_stays (p, c));
    in_order = persons_stay;
  }

  pub is_there : is_member nat_eq (conferences person) conference ≡ true
  is_there = table.listed person conference ∙ ap is_some renews.there

  -- the list of the person without the conference
  abbrev pub others : List ℕ
  others = remove_key (nat_eq conference) (conferences person)

  pub not_among_others : is_member nat_eq others conference ≡ false
  not_among_others =
      is_member-remove_key (conferences person) conference conference (table.once person)
      ∙ ap (λ b. cond b false (is_member nat_eq (conferences person) conference)) (eq-eqb conference conference refl)

  module _ (place : ℕ) (lists : ℕ → List ℕ)
      (moves : Sets conferences lists person (insert others place conference)) where
    once : (other : ℕ) → IsDistinct nat_eq (lists other)
    once other = elim (cases_eq other person) [
      | inl is ↦ subst (λ p. IsDistinct nat_eq (lists p)) (sym is)
          (subst (IsDistinct nat_eq) (sym moves.here)
          (IsDistinct-insert others place conference
          (IsDistinct-remove_key (nat_eq conference) (conferences person) (table.once person)) not_among_others))
      | inr unlike ↦ subst (IsDistinct nat_eq) (sym (moves.others other unlike)) (table.once other)
    ]

    members_stay : (c : ℕ) → is_member nat_eq (lists person) c ≡ is_member nat_eq (conferences person) c
    members_stay c =
        ap (λ l. is_member nat_eq l c) moves.here ∙ is_member-insert others place conference c
        ∙ (λ i. flip_eqb c conference i || is_member-remove_key (conferences person) conference c (table.once person) i)
        ∙ by (eqb conference c) refl
      where
        by : (b : Bool) → eqb conference c ≡ b →
            (eqb conference c || cond (eqb conference c) false (is_member nat_eq (conferences person) c))
            ≡ is_member nat_eq (conferences person) c
        by true e =
            ap (λ b. b || cond b false (is_member nat_eq (conferences person) c)) e
            ∙ sym (ap (is_member nat_eq (conferences person)) (sym (eqb-true conference c e)) ∙ is_there)
        by false e = ap (λ b. b || cond b false (is_member nat_eq (conferences person) c)) e

    members_now : (p c : ℕ) → is_member nat_eq (lists p) c ≡ is_some (kept_at (p, c) fs)
    members_now p c = elim (cases_eq p person) [
      | inl is ↦ subst (λ q. is_member nat_eq (lists q) c ≡ is_some (kept_at (q, c) fs)) (sym is)
          (members_stay c ∙ table.listed person c ∙ sym (there_stays (person, c)))
      | inr unlike ↦ ap (λ l. is_member nat_eq l c) (moves.others p unlike) ∙ table.listed p c
          ∙ sym (there_stays (p, c))
    ]

    pub IsTable-renewed : IsTable fs next lists persons
    IsTable-renewed = record {
      unique = renews.unique;
      given = λ key n found. table.given key n (sym (turns_stay key) ∙ found);
      apart = apart;
      once = once;
      listed = members_now;
      in_order = persons_stay;
    }
