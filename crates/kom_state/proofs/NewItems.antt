-- Aux-items that are added: how they are numbered, and how many there are.
use Rattle.std.proofs.Common.{◌≡◌, ℕ, ◌+◌, ◌<◌, ◌≤◌, Bool, true, false, ◌&&◌, not, List, [], ◌∷◌, ◌++◌}
use Rattle.std.proofs.Common.{length, take, get_or, Option, Some, None, refl, sym, ap, ◌∙◌, arith}
use Rattle.std.specs.Prelude.{nat_lt, min, if◌then◌else◌}
use Rattle.std.proofs.lemmas.Bool.{and_parts, ltb-true}
use Rattle.std.proofs.lemmas.List.{take_more, length-append, length-take-le}
use Rattle.kom_types.specs.declared.limits.TheConstants.{LONGEST_CONTENT, MOST_AUX_ITEMS}
use Rattle.kom_types.specs.AuxItems.{AuxKind, AuxRefusal, item_of, items_from, code_added, kind_of, fits, may_add}
use Rattle.kom_types.specs.AuxItems.{may_stand}
use Rattle.kom_types.specs.AuxItems.{has_wrong_flags, leaves_room}
use Rattle.kom_types.specs.AuxItems.{refused_added, refused_change}
use Rattle.kom_types.specs.declared.aux_items.Adder.{Adder}
use Rattle.kom_types.specs.declared.aux_items.Object.{Object}
use Rattle.kom_model.specs.calls.Guards.{Guard, refusal, new_items_guard}
use Rattle.kom_types.specs.declared.aux_items.AuxInput.{AuxInput}
use Rattle.kom_types.specs.declared.aux_items.AuxRow.{AuxRow}

module _ (creator moment : ℕ) where
  -- one more of them, with the next number
  items-last : (number : ℕ) (xs : List AuxInput) (x : AuxInput) →
      items_from number creator moment (xs ++ x ∷ [])
      ≡ items_from number creator moment xs ++ item_of (number + length xs) creator moment x ∷ []
  items-last number [] x =
      let same : number ≡ number + 0 = omega arith in ap (λ n. item_of n creator moment x ∷ []) same
  items-last number (y ∷ xs) x =
      let same : number + 1 + length xs ≡ number + length (y ∷ xs) = omega arith in
      ap (λ rest. item_of number creator moment y ∷ rest)
      (items-last (number + 1) xs x
      ∙ ap (λ n. items_from (number + 1) creator moment xs ++ item_of n creator moment x ∷ []) same)

  pub items-more : (first : ℕ) (given : List AuxInput) (place : ℕ) (one : AuxInput) (now : List AuxRow)
      (new : List AuxRow) → place < length given → one ≡ get_or given place one →
      now ≡ items_from first creator moment (take place given) →
      new ≡ now ++ item_of (first + place) creator moment one ∷ [] →
      new ≡ items_from first creator moment (take (place + 1) given)
  items-more first given place one now new inside is was push =
      let more : take (place + 1) given ≡ take place given ++ one ∷ [] =
      take_more given place one inside ∙ ap (λ x. take place given ++ x ∷ []) (sym is) in
      let long : length (take place given) ≡ place = length-take-le place given (omega arith) in
      push ∙ ap (λ l. l ++ item_of (first + place) creator moment one ∷ []) was
      ∙ ap (λ n. items_from first creator moment (take place given) ++ item_of (first + n) creator moment one ∷ [])
      (sym long)
      ∙ sym (items-last first (take place given) one) ∙ ap (items_from first creator moment) (sym more)

-- ---- how many an object is made with

module _ (on : Object) (adder : Adder) (items : List AuxRow) (given : AuxInput) where
  -- what is said of one more of a kind
  told : Option AuxKind → Option ℕ
  told found = elim found [
    | None ↦ Some 48
    | Some known ↦
        if not (fits on items adder.person known given) then Some 48
        else if may_add known.adding on adder.owns then None
        else Some 49
  ]

  fit : (known : AuxKind) → fits on items adder.person known given ≡ true → length items < MOST_AUX_ITEMS
  fit known is =
      let before : Bool = known.stands_on on && not (nat_lt LONGEST_CONTENT (length given.content)) && not
      (has_wrong_flags given.flags) in
      let stands : may_stand known items adder.person ≡ true =
      (and_parts before (may_stand known items adder.person) is).1 in
      ltb-true (length items) MOST_AUX_ITEMS
      (and_parts (nat_lt (length items) MOST_AUX_ITEMS) (leaves_room known.count items known.tag adder.person) stands).0

  judged : AuxKind → Bool → Option ℕ
  judged known b =
      if not b then Some 48 else if may_add known.adding on adder.owns then None else Some 49

  fitting : (known : AuxKind) (b : Bool) → fits on items adder.person known given ≡ b → judged known b ≡ None →
      length items < MOST_AUX_ITEMS
  unfolding judged
  fitting known true is passes = fit known is
  fitting known false is passes = cc

  of_kind : (found : Option AuxKind) → told found ≡ None → length items < MOST_AUX_ITEMS
  unfolding told judged
  of_kind None passes = cc
  of_kind (Some known) passes = fitting known (fits on items adder.person known given) refl passes

  -- one more that may stand beside these stands beside less than 100
  one_more : code_added on adder items given ≡ None → length items < MOST_AUX_ITEMS
  unfolding told
  one_more passes = of_kind (kind_of given.tag) passes

  more_items : List AuxRow
  more_items = items ++ item_of 0 adder.person 0 given ∷ []

  one_longer : length more_items ≡ length items + 1
  unfolding more_items
  one_longer = length-append items (item_of 0 adder.person 0 given ∷ [])

  module _ (index : ℕ) (more : List AuxInput)
      (rest : refused_added on adder more_items (index + 1) more ≡ None → length more_items ≤ MOST_AUX_ITEMS →
      length more_items + length more ≤ MOST_AUX_ITEMS) where
    first_of : Option ℕ → Option AuxRefusal
    first_of code = elim code [
      | Some code ↦ Some (record { code = code; index = index })
      | None ↦ refused_added on adder more_items (index + 1) more
    ]

    coded : (code : Option ℕ) → code_added on adder items given ≡ code → first_of code ≡ None →
        length items + length (given ∷ more) ≤ MOST_AUX_ITEMS
    unfolding first_of
    coded (Some code) is passes = cc
    coded None is passes =
        let few : length items < MOST_AUX_ITEMS = one_more is in
        let long = one_longer in
        let all = rest passes (omega (arith, few, long)) in omega (arith, all, long)

-- those that may be added beside some
module _ (on : Object) (adder : Adder) where
  few-beside : (items : List AuxRow) (index : ℕ) (added : List AuxInput) →
      refused_added on adder items index added ≡ None → length items ≤ MOST_AUX_ITEMS →
      length items + length added ≤ MOST_AUX_ITEMS
  unfolding more_items first_of
  few-beside items index [] passes few = omega (arith, few)
  few-beside items index (given ∷ more) passes few =
      coded on adder items given index more
      (few-beside (items ++ item_of 0 adder.person 0 given ∷ []) (index + 1) more)
      (code_added on adder items given) refl passes

guard_of : Option AuxRefusal → Guard
guard_of refused = elim refused [
  | None ↦ None
  | Some refused ↦ refusal refused.code (min refused.index 4294967295)
]

guard_passes : (refused : Option AuxRefusal) → guard_of refused ≡ None → refused ≡ None
unfolding guard_of
guard_passes None is = refl
guard_passes (Some refused) is = cc

-- an object is made with 100 aux-items at most
pub few-new : (on : Object) (maker : ℕ) (added : List AuxInput) → new_items_guard on maker added ≡ None →
    length added ≤ MOST_AUX_ITEMS
unfolding refused_change guard_of
few-new on maker added passes =
    let by : Adder = record { person = maker; owns = true } in
    let refused : refused_change on by [] [] added ≡ None = guard_passes (refused_change on by [] [] added) passes in
    let all = few-beside on by [] 0 added refused (omega arith) in omega (arith, all)
