-- What the table says of effects: each has a row, and what stands in the row's fields makes it again.
use Rattle.std.proofs.Common.{◌≡◌, ℕ, true, false, List, ◌++◌, refl, sym, ap, subst, ◌∙◌, Option, Some}
use Rattle.kom_types.specs.declared.effects.ConfField.{ConfField}
use Rattle.kom_types.specs.declared.effects.ConfField.TheVariants as field
use Rattle.kom_types.specs.declared.effects.Counter.{Counter}
use Rattle.kom_types.specs.declared.effects.Counter.TheVariants as counter
use Rattle.kom_types.specs.declared.effects.Effect.{Effect}
use Rattle.kom_types.specs.declared.effects.Effect.TheVariants as effect
use Rattle.kom_types.specs.declared.effects.PersonField.{PersonField}
use Rattle.kom_types.specs.declared.effects.PersonField.TheVariants as person
use Rattle.effect_codec.specs.Fields.{Whole, Values, AreIn, coded_fields, made_of}
use Rattle.effect_codec.specs.Table.{Row, row_of, tell_row, conf_field, conf_setting, person_field, person_setting}
use Rattle.effect_codec.specs.Table.{counter_of, counter_number}
use Rattle.effect_codec.specs.Coding.{coded_row, effect_at, kind_at, IsInRange}
use Rattle.effect_codec.specs.Laws.{ReadsAgain, BeginsNoOther}
use Rattle.effect_codec.proofs.Again.{made_again}

conf_field_again : (what : ConfField) → conf_field (conf_setting what) ≡ what
conf_field_again (field.Presentation text) = refl
conf_field_again (field.Motd text) = refl
conf_field_again (field.Supervisor conference) = refl
conf_field_again (field.PermittedSubmitters conference) = refl
conf_field_again (field.SuperConference conference) = refl
conf_field_again (field.Kind kind) = refl
conf_field_again (field.Nice days) = refl
conf_field_again (field.KeepCommented days) = refl
conf_field_again (field.Expire days) = refl
conf_field_again (field.LastWritten at) = refl

person_field_again : (what : PersonField) → person_field (person_setting what) ≡ what
person_field_again (person.Privileges privileges) = refl
person_field_again (person.Flags flags) = refl
person_field_again (person.UserArea text) = refl

counter_again : (what : Counter) → counter_of (counter_number what) ≡ what
counter_again counter.TimePresent = refl
counter_again counter.CreatedLines = refl
counter_again counter.CreatedBytes = refl
counter_again counter.ReadTexts = refl
counter_again counter.TextFetches = refl
counter_again counter.CreatedPersons = refl
counter_again counter.CreatedConferences = refl

-- an effect's row, and what stands in its fields
pub record Filled : Type 0 where
  pub row : Row
  pub values : Values row.fields

abbrev pub filled_by : Effect → Filled
filled_by one = tell_row (λ row values. record { row = row; values = values }) one

-- what is told is told of these
pub told_is {ℓ} : {X : Type ℓ} → (tell : (row : Row) → Values row.fields → X) (one : Effect)
    → tell_row tell one ≡ tell (filled_by one).row (filled_by one).values
told_is tell (effect.ConfAdded number name kind at creator supervisor) = refl
told_is tell (effect.ConfGone number) = refl
told_is tell (effect.ConfNamed number name) = refl
told_is tell (effect.ConfField number what) = refl
told_is tell (effect.PersonAdded number privileges flags last_login) = refl
told_is tell (effect.PersonGone number) = refl
told_is tell (effect.PersonField number what) = refl
told_is tell (effect.Password number hash) = refl
told_is tell (effect.LoggedIn number at user) = refl
told_is tell (effect.Counted number what by) = refl
told_is tell (effect.TextAdded number author at body) = refl
told_is tell (effect.TextGone number) = refl
told_is tell (effect.RecipientAdded given) = refl
told_is tell (effect.RecipientGone text conference) = refl
told_is tell (effect.LinkAdded link) = refl
told_is tell (effect.LinkGone child parent footnote) = refl
told_is tell (effect.MemberSet member conference position priority added_by added_at kind) = refl
told_is tell (effect.MemberGone member conference) = refl
told_is tell (effect.ReadSet reader conference at ranges) = refl
told_is tell (effect.MarkSet reader text kind) = refl
told_is tell (effect.MarkGone reader text) = refl
told_is tell (effect.AuxAdded on_text object item) = refl
told_is tell (effect.AuxGone on_text object number) = refl
told_is tell (effect.Created author local text) = refl

-- the row of an effect is found by its kind
row_again : (one : Effect) → row_of (filled_by one).row.kind ≡ Some (filled_by one).row
row_again (effect.ConfAdded number name kind at creator supervisor) = refl
row_again (effect.ConfGone number) = refl
row_again (effect.ConfNamed number name) = refl
row_again (effect.ConfField number what) = refl
row_again (effect.PersonAdded number privileges flags last_login) = refl
row_again (effect.PersonGone number) = refl
row_again (effect.PersonField number what) = refl
row_again (effect.Password number hash) = refl
row_again (effect.LoggedIn number at user) = refl
row_again (effect.Counted number what by) = refl
row_again (effect.TextAdded number author at body) = refl
row_again (effect.TextGone number) = refl
row_again (effect.RecipientAdded given) = refl
row_again (effect.RecipientGone text conference) = refl
row_again (effect.LinkAdded link) = refl
row_again (effect.LinkGone child parent footnote) = refl
row_again (effect.MemberSet member conference position priority added_by added_at kind) = refl
row_again (effect.MemberGone member conference) = refl
row_again (effect.ReadSet reader conference at ranges) = refl
row_again (effect.MarkSet reader text kind) = refl
row_again (effect.MarkGone reader text) = refl
row_again (effect.AuxAdded on_text object item) = refl
row_again (effect.AuxGone on_text object number) = refl
row_again (effect.Created author local text) = refl

-- what stands in the fields of an effect makes it again
effect_made : (one : Effect)
    → made_of (filled_by one).row.fields (filled_by one).row.make (filled_by one).values ≡ one
effect_made (effect.ConfAdded number name kind at creator supervisor) = refl
effect_made (effect.ConfGone number) = refl
effect_made (effect.ConfNamed number name) = refl
effect_made (effect.ConfField number what) = ap (λ (f : ConfField). effect.ConfField number f) (conf_field_again what)
effect_made (effect.PersonAdded number privileges flags last_login) = refl
effect_made (effect.PersonGone number) = refl
effect_made (effect.PersonField number what) =
    ap (λ (f : PersonField). effect.PersonField number f) (person_field_again what)
effect_made (effect.Password number hash) = refl
effect_made (effect.LoggedIn number at user) = refl
effect_made (effect.Counted number what by) = ap (λ (c : Counter). effect.Counted number c by) (counter_again what)
effect_made (effect.TextAdded number author at body) = refl
effect_made (effect.TextGone number) = refl
effect_made (effect.RecipientAdded given) = refl
effect_made (effect.RecipientGone text conference) = refl
effect_made (effect.LinkAdded link) = refl
effect_made (effect.LinkGone child parent footnote) = refl
effect_made (effect.MemberSet member conference position priority added_by added_at kind) = refl
effect_made (effect.MemberGone member conference) = refl
effect_made (effect.ReadSet reader conference at ranges) = refl
effect_made (effect.MarkSet reader text kind) = refl
effect_made (effect.MarkGone reader text) = refl
effect_made (effect.AuxAdded true object item) = refl
effect_made (effect.AuxAdded false object item) = refl
effect_made (effect.AuxGone true object number) = refl
effect_made (effect.AuxGone false object number) = refl
effect_made (effect.Created author local text) = refl

-- what an effect in range has in its fields may stand there
pub values_in : (one : Effect) → IsInRange one → AreIn (filled_by one).row.fields (filled_by one).values
values_in one is =
    subst (λ (T : Type 0). T) (told_is (λ (row : Row) (values : Values row.fields). AreIn row.fields values) one) is

pub effect_again : ReadsAgain
effect_again one rest is =
    let at = filled_by one in
    ap (λ (l : List ℕ). effect_at (l ++ rest)) (told_is coded_row one)
    ∙ ap (λ (o : Option Row). kind_at o (coded_fields at.row.fields at.values ++ rest)) (row_again one)
    ∙ made_again at.row.fields at.row.make at.values rest (values_in one is)
    ∙ ap (λ (e : Effect). Whole e rest) (effect_made one)

pub begins_no_other : BeginsNoOther
begins_no_other one other after_one after_other is is_other same =
    let read : Whole one after_one ≡ Whole other after_other =
    sym (effect_again one after_one is) ∙ ap effect_at same ∙ effect_again other after_other is_other in
    (cc read, cc read)
