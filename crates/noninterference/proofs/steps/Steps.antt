-- The same effects leave states that are the same but for what is hidden from a group the same but for that.
use Rattle.std.proofs.Common.{◌≡◌, ℕ, ◌<◌, Bool, true, false, not, ◌&&◌, List, [], ◌∷◌, Option, Some, None, refl, sym}
use Rattle.std.proofs.Common.{ap}
use Rattle.std.proofs.Common.{◌∙◌, subst, inl, inr, nat_lt}
use Rattle.std.specs.Prelude.{is_some, option_map, IsTrue}
use Rattle.std.specs.List.{list_any}
use Rattle.std.proofs.lemmas.Bool.{cases_Bool, and_parts, lt-ltb, ltb-true, not_from_false}
use Rattle.kom_types.specs.declared.effects.Effect.{Effect}
use Rattle.kom_types.specs.declared.texts.TextRow.{TextRow}
use Rattle.kom_types.specs.tables.Conferences.{head_of}
use Rattle.kom_model.specs.Db.{Db, conference_of, conference_head_of, text_of, text_author_of}
use Rattle.kom_model.specs.Effects.{IsProtected, apply_all, all_fit}
use Rattle.kom_model.specs.Kinds.{is_among}
use Rattle.kom_model.specs.Rights.{sees, reads}
use Rattle.kom_model.specs.Whole.{IsWhole}
use Rattle.kom_model.proofs.Protection.{IsProtected-apply_all}
use Rattle.kom_laws.specs.masking.Laws.{HidesMore}
use Rattle.kom_laws.specs.masking.Masks.{Mask, masked_db, blank_conference}
use Rattle.kom_laws.proofs.masking.Rows.{told}
use Rattle.kom_laws.proofs.masking.Stepping.{effects-masked}
use Rattle.kom_laws.specs.Erasing.{erased_db, mask_of}
use Rattle.kom_laws.specs.Groups.{Group, is_unseen, is_unread, weak}
use Rattle.kom_laws.proofs.Rights.{unseen-masked, unread-masked}
use Rattle.noninterference.proofs.outputs.Masked.{public-masked}
use Rattle.noninterference.specs.steps.Steps.{HasNoOpening, IsReadyFor, EffectsStandErased}
use Rattle.noninterference.proofs.steps.Agreeing.{AgreesOn, masked-agrees}
use Rattle.noninterference.proofs.steps.Below.{unseen-erased, unread-erased, erased-below}
use Rattle.noninterference.proofs.steps.Standing.{conferences-stood, texts-stood}

-- ---- what is not there is hidden
none-told : {X Y : Type 0} (tell : Y → Bool) (shown : X → Y) (found : Option X) → is_some found ≡ false →
    told false tell (option_map shown found) ≡ false
none-told tell shown None none = refl
none-told tell shown (Some row) none = cc

none-any : (test : ℕ → Bool) → ((number : ℕ) → test number ≡ false) → (numbers : List ℕ) →
    list_any test numbers ≡ false
none-any test fails [] = refl
none-any test fails (number ∷ numbers) = rw (fails number) (none-any test fails numbers)

gone-unseen : (group : Group) (db : Db) (number : ℕ) → is_some (conference_of db number) ≡ false →
    is_unseen group db number ≡ true
unfolding sees conference_head_of
gone-unseen group db number gone = not_from_false _ (none-any (λ person. sees db (weak person) number)
    (λ person. none-told _ head_of (conference_of db number) gone) (0 ∷ group.persons))

pub gone-unread : (group : Group) (db : Db) (number : ℕ) → is_some (text_of db number) ≡ false →
    is_unread group db number ≡ true
unfolding reads text_author_of
gone-unread group db number gone = not_from_false _ (none-any (λ person. reads db (weak person) number)
    (λ person. none-told _ (λ (row : TextRow). row.author) (text_of db number) gone) group.persons)

-- ---- what is hidden, of the numbers that were drawn, stays hidden without an Opening
module _ (group : Group) (effects : List Effect) (db : Db) (ready : IsReadyFor group effects db) where
  unseen-stays : (number : ℕ) → is_unseen group db number ≡ true → number < db.next_conference →
      is_unseen group (apply_all effects db) number ≡ true
  unseen-stays number unseen drawn = elim (cases_Bool (is_some (conference_of (apply_all effects db) number))) [
    | inl stands ↦ ready.closed.conference number
        (conferences-stood effects db ready.fit number drawn stands) stands unseen
    | inr gone ↦ gone-unseen group (apply_all effects db) number gone
  ]

  unread-stays : (number : ℕ) → is_unread group db number ≡ true → number < db.next_text →
      is_unread group (apply_all effects db) number ≡ true
  unread-stays number unread drawn = elim (cases_Bool (is_some (text_of (apply_all effects db) number))) [
    | inl stands ↦ ready.closed.text number (texts-stood effects db ready.fit number drawn stands) stands unread
    | inr gone ↦ gone-unread group (apply_all effects db) number gone
  ]

-- what is hidden of the numbers that were drawn
abbrev drawn_mask : Group → Db → Mask
drawn_mask group db = record {
  conference = λ number. is_unseen group db number && nat_lt number db.next_conference;
  text = λ number. is_unread group db number && nat_lt number db.next_text;
  person = λ person. not (is_among group.persons person);
}

drawn-hides : (hides : Bool) (number next : ℕ) → number < next → (hides && nat_lt number next) ≡ hides
drawn-hides true number next less = rw (lt-ltb number next less) refl
drawn-hides false number next less = refl

-- ---- which two sets of rows have the same conferences and texts
some-mapped : {X Y : Type 0} (tell : X → Y) (found : Option X) → is_some (option_map tell found) ≡ is_some found
some-mapped tell None = refl
some-mapped tell (Some row) = refl

conference-masked : (mask : Mask) (db : Db) (number : ℕ) →
    is_some (conference_of (masked_db mask db) number) ≡ is_some (conference_of db number)
conference-masked mask db number = sym (some-mapped blank_conference (conference_of (masked_db mask db) number))
    ∙ ap is_some ((public-masked mask db).conference number) ∙ some-mapped blank_conference (conference_of db number)

text-masked : (mask : Mask) (db : Db) (number : ℕ) →
    is_some (text_of (masked_db mask db) number) ≡ is_some (text_of db number)
unfolding text_author_of
text-masked mask db number =
    let author : TextRow → ℕ = λ row. row.author in
    sym (some-mapped author (text_of (masked_db mask db) number)) ∙ ap is_some ((public-masked mask db).author number)
    ∙ some-mapped author (text_of db number)

module _ (mask mask' : Mask) (one other : Db) (same : masked_db mask one ≡ masked_db mask' other) (number : ℕ) where
  conference-stands : is_some (conference_of other number) ≡ is_some (conference_of one number)
  conference-stands = sym (conference-masked mask' other number)
      ∙ ap (λ db. is_some (conference_of db number)) (sym same) ∙ conference-masked mask one number

  text-stands : is_some (text_of other number) ≡ is_some (text_of one number)
  text-stands = sym (text-masked mask' other number)
      ∙ ap (λ db. is_some (text_of db number)) (sym same) ∙ text-masked mask one number

module _ (group : Group) (effects : List Effect) (one other : Db) (ready : IsReadyFor group effects one)
    (whole' : IsWhole other) (protected' : IsProtected other) (fit' : IsTrue (all_fit effects other))
    (same : erased_db group one ≡ erased_db group other) where
  abbrev mask : Mask
  mask = drawn_mask group one

  -- the same is hidden, and the same numbers were drawn, in both
  unseen-same : (number : ℕ) → is_unseen group other number ≡ is_unseen group one number
  unseen-same number = sym (unseen-erased group one other ready.protected protected' same number)

  unread-same : (number : ℕ) → is_unread group other number ≡ is_unread group one number
  unread-same number = sym (unread-erased group one other ready.protected protected' same number)

  next_conference-same : other.next_conference ≡ one.next_conference
  next_conference-same = ap (λ (db : Db). db.next_conference) (sym same)

  next_text-same : other.next_text ≡ one.next_text
  next_text-same = ap (λ (db : Db). db.next_text) (sym same)

  one-agrees : AgreesOn mask (mask_of group one) one
  one-agrees = record {
    conference = λ number less. drawn-hides (is_unseen group one number) number one.next_conference less;
    text = λ number less. drawn-hides (is_unread group one number) number one.next_text less;
    person = λ number. refl;
  }

  other-agrees : AgreesOn mask (mask_of group other) other
  other-agrees = record {
    conference = λ number less. drawn-hides (is_unseen group one number) number one.next_conference
        (subst (λ next. number < next) next_conference-same less) ∙ sym (unseen-same number);
    text = λ number less. drawn-hides (is_unread group one number) number one.next_text
        (subst (λ next. number < next) next_text-same less) ∙ sym (unread-same number);
    person = λ number. refl;
  }

  -- so the effects make the same but for that
  before : masked_db mask one ≡ masked_db mask other
  before = masked-agrees mask (mask_of group one) one ready.whole one-agrees ∙ same
      ∙ sym (masked-agrees mask (mask_of group other) other whole' other-agrees)

  after : masked_db mask (apply_all effects one) ≡ masked_db mask (apply_all effects other)
  after = effects-masked mask effects one other ready.fit fit' before

  -- which is hidden after them too, in the one
  one-hides : HidesMore mask (mask_of group (apply_all effects one))
  one-hides = record {
    conference = λ number hidden. let parts = and_parts (is_unseen group one number) _ hidden in
        unseen-stays group effects one ready number parts.0 (ltb-true number one.next_conference parts.1);
    text = λ number hidden. let parts = and_parts (is_unread group one number) _ hidden in
        unread-stays group effects one ready number parts.0 (ltb-true number one.next_text parts.1);
    person = λ number hidden. hidden;
  }

  -- so the same is hidden in the other: what a mask takes of unseen conferences opens no text
  unseen-after : (number : ℕ) →
      is_unseen group (apply_all effects other) number ≡ is_unseen group (apply_all effects one) number
  unseen-after number = sym (unseen-masked group mask (apply_all effects other) number)
      ∙ ap (λ db. is_unseen group db number) (sym after) ∙ unseen-masked group mask (apply_all effects one) number

  unread-after : (number : ℕ) →
      is_unread group (apply_all effects other) number ≡ is_unread group (apply_all effects one) number
  unread-after number =
      sym (unread-masked group mask (apply_all effects other) (IsProtected-apply_all effects other protected')
      (λ number hidden. unseen-after number ∙ one-hides.conference number hidden) number)
      ∙ ap (λ db. is_unread group db number) (sym after)
      ∙ unread-masked group mask (apply_all effects one) (IsProtected-apply_all effects one ready.protected)
      one-hides.conference number

  other-hides : HidesMore mask (mask_of group (apply_all effects other))
  other-hides = record {
    conference = λ number hidden. unseen-after number ∙ one-hides.conference number hidden;
    text = λ number hidden. unread-after number ∙ one-hides.text number hidden;
    person = λ number hidden. hidden;
  }

  erased-after : erased_db group (apply_all effects one) ≡ erased_db group (apply_all effects other)
  erased-after = erased-below group mask (apply_all effects one) (apply_all effects other)
      (IsProtected-apply_all effects one ready.protected) (IsProtected-apply_all effects other protected')
      one-hides other-hides after

  -- and what is no Opening in the one is none in the other
  pub closed-other : HasNoOpening group other (apply_all effects other)
  closed-other = record {
    conference = λ number stood stands unseen. unseen-after number ∙ ready.closed.conference number
        (sym (conference-stands (mask_of group one) (mask_of group other) one other same number) ∙ stood)
        (sym (conference-stands mask mask (apply_all effects one) (apply_all effects other) after number) ∙ stands)
        (sym (unseen-same number) ∙ unseen);
    text = λ number stood stands unread. unread-after number ∙ ready.closed.text number
        (sym (text-stands (mask_of group one) (mask_of group other) one other same number) ∙ stood)
        (sym (text-stands mask mask (apply_all effects one) (apply_all effects other) after number) ∙ stands)
        (sym (unread-same number) ∙ unread);
  }

pub effects-erased : EffectsStandErased
effects-erased group effects one other ready ready' same =
    erased-after group effects one other ready ready'.whole ready'.protected ready'.fit same
