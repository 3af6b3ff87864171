-- What is read as an effect begins with the bytes of that effect.
use Rattle.std.proofs.Common.{◌≡◌, ℕ, zero, suc, ◌==◌, Bool, true, false, not, cond, List, [], ◌∷◌, ◌++◌, refl, sym, ap}
use Rattle.std.proofs.Common.{subst, ◌∙◌}
use Rattle.std.proofs.Common.{Option, Some, None}
use Rattle.std.specs.Prelude.{find}
use Rattle.std.specs.List.{AllByRecursion}
use Rattle.std.proofs.lemmas.Bool.{eqb-true}
use Rattle.kom_types.specs.declared.effects.Effect.{Effect}
use Rattle.effect_codec.specs.Fields.{OneOf, Setting, IsIn, IsAtMost, greatest_of, Whole, Values}
use Rattle.effect_codec.specs.Fields.{AreIn, made_of}
use Rattle.effect_codec.specs.Table.{Row, rows, row_of, conf_parts, conf_field, conf_setting, person_parts}
use Rattle.effect_codec.specs.Table.{person_field}
use Rattle.effect_codec.specs.Table.{person_setting, counters, counter_of, counter_number, set_part}
use Rattle.effect_codec.specs.Table as table
use Rattle.effect_codec.specs.Coding.{coded_effect, coded_row, kind_at, IsInRange}
use Rattle.effect_codec.specs.Laws.{AreBytes, IsSpelled}
use Rattle.effect_codec.proofs.Spelled.{MadeOf, made_spelled}

-- what is set of a conference, or of a person, or counted, is one of the parts that are listed
conf_setting_again : (given : Setting) → IsIn (OneOf conf_parts) given → conf_setting (conf_field given) ≡ given
conf_setting_again given is = by_part given.part given.value is where
  by_part : (part value : ℕ) → IsAtMost (greatest_of part conf_parts) value
      → conf_setting (conf_field (set_part part value)) ≡ set_part part value
  by_part zero value is = absurd is
  by_part (suc zero) value is = refl
  by_part (suc (suc zero)) value is = refl
  by_part (suc (suc (suc zero))) value is = refl
  by_part (suc (suc (suc (suc zero)))) value is = refl
  by_part (suc (suc (suc (suc (suc zero))))) value is = refl
  by_part (suc (suc (suc (suc (suc (suc zero)))))) value is = refl
  by_part (suc (suc (suc (suc (suc (suc (suc zero))))))) value is = refl
  by_part (suc (suc (suc (suc (suc (suc (suc (suc zero)))))))) value is = refl
  by_part (suc (suc (suc (suc (suc (suc (suc (suc (suc zero))))))))) value is = refl
  by_part (suc (suc (suc (suc (suc (suc (suc (suc (suc (suc zero)))))))))) value is = refl
  by_part (suc (suc (suc (suc (suc (suc (suc (suc (suc (suc (suc part))))))))))) value is = absurd is

person_setting_again : (given : Setting) → IsIn (OneOf person_parts) given
    → person_setting (person_field given) ≡ given
person_setting_again given is = by_part given.part given.value is where
  by_part : (part value : ℕ) → IsAtMost (greatest_of part person_parts) value
      → person_setting (person_field (set_part part value)) ≡ set_part part value
  by_part zero value is = absurd is
  by_part (suc zero) value is = refl
  by_part (suc (suc zero)) value is = refl
  by_part (suc (suc (suc zero))) value is = refl
  by_part (suc (suc (suc (suc part)))) value is = absurd is

counter_again : (given : Setting) → IsIn (OneOf counters) given
    → set_part (counter_number (counter_of given.part)) given.value ≡ given
counter_again given is = by_part given.part given.value is where
  by_part : (part value : ℕ) → IsAtMost (greatest_of part counters) value
      → set_part (counter_number (counter_of part)) value ≡ set_part part value
  by_part zero value is = absurd is
  by_part (suc zero) value is = refl
  by_part (suc (suc zero)) value is = refl
  by_part (suc (suc (suc zero))) value is = refl
  by_part (suc (suc (suc (suc zero)))) value is = refl
  by_part (suc (suc (suc (suc (suc zero))))) value is = refl
  by_part (suc (suc (suc (suc (suc (suc zero)))))) value is = refl
  by_part (suc (suc (suc (suc (suc (suc (suc zero))))))) value is = refl
  by_part (suc (suc (suc (suc (suc (suc (suc (suc part)))))))) value is = absurd is

not_again : (b : Bool) → not (not b) ≡ b
not_again true = refl
not_again false = refl

-- What may stand in the fields of a row is what stands in those of the effect that it makes.
abbrev pub RowSpells : Row → Type 0
RowSpells row = (values : Values row.fields) → AreIn row.fields values →
    (coded_effect (made_of row.fields row.make values) ≡ coded_row row values)
    × IsInRange (made_of row.fields row.make values)

-- the same of a row whose effect has other values that are the same
row_spells : (row : Row) (values other : Values row.fields) → other ≡ values → AreIn row.fields values
    → (coded_row row other ≡ coded_row row values) × AreIn row.fields other
row_spells row values other same are =
    (ap (coded_row row) same, subst (λ (v : Values row.fields). AreIn row.fields v) (sym same) are)

conf_added_spells : RowSpells table.conf_added
conf_added_spells values are = (refl, are)

conf_gone_spells : RowSpells table.conf_gone
conf_gone_spells values are = (refl, are)

conf_named_spells : RowSpells table.conf_named
conf_named_spells values are = (refl, are)

conf_set_spells : RowSpells table.conf_set
conf_set_spells values are = row_spells table.conf_set values (values.0, (conf_setting (conf_field values.1.0), tt))
    (ap (λ (s : Setting). (values.0, (s, tt))) (conf_setting_again values.1.0 are.1.0)) are

person_added_spells : RowSpells table.person_added
person_added_spells values are = (refl, are)

person_gone_spells : RowSpells table.person_gone
person_gone_spells values are = (refl, are)

person_set_spells : RowSpells table.person_set
person_set_spells values are = row_spells table.person_set values
    (values.0, (person_setting (person_field values.1.0), tt))
    (ap (λ (s : Setting). (values.0, (s, tt))) (person_setting_again values.1.0 are.1.0)) are

password_spells : RowSpells table.password
password_spells values are = (refl, are)

logged_in_spells : RowSpells table.logged_in
logged_in_spells values are = (refl, are)

counted_spells : RowSpells table.counter_raised
counted_spells values are = row_spells table.counter_raised values
    (values.0, (set_part (counter_number (counter_of values.1.0.part)) values.1.0.value, tt))
    (ap (λ (s : Setting). (values.0, (s, tt))) (counter_again values.1.0 are.1.0)) are

text_added_spells : RowSpells table.text_added
text_added_spells values are = (refl, are)

text_gone_spells : RowSpells table.text_gone
text_gone_spells values are = (refl, are)

recipient_added_spells : RowSpells table.recipient_added
recipient_added_spells values are = (refl, are)

recipient_gone_spells : RowSpells table.recipient_gone
recipient_gone_spells values are = (refl, are)

link_added_spells : RowSpells table.link_added
link_added_spells values are = (refl, are)

link_gone_spells : RowSpells table.link_gone
link_gone_spells values are = (refl, are)

member_set_spells : RowSpells table.member_set
member_set_spells values are = (refl, are)

member_gone_spells : RowSpells table.member_gone
member_gone_spells values are = (refl, are)

read_set_spells : RowSpells table.read_set
read_set_spells values are = (refl, are)

mark_set_spells : RowSpells table.mark_set
mark_set_spells values are = (refl, are)

mark_gone_spells : RowSpells table.mark_gone
mark_gone_spells values are = (refl, are)

aux_added_spells : RowSpells table.aux_added
aux_added_spells values are = row_spells table.aux_added values (not (not values.0), values.1)
    (ap (λ (b : Bool). (b, values.1)) (not_again values.0)) are

aux_gone_spells : RowSpells table.aux_gone
aux_gone_spells values are = row_spells table.aux_gone values (not (not values.0), values.1)
    (ap (λ (b : Bool). (b, values.1)) (not_again values.0)) are

created_spells : RowSpells table.text_numbered
created_spells values are = (refl, are)

pub rows_spell : AllByRecursion RowSpells rows
rows_spell = (
  conf_added_spells,
  (
    conf_gone_spells,
    (
      conf_named_spells,
      (
        conf_set_spells,
        (
          person_added_spells,
          (
            person_gone_spells,
            (
              person_set_spells,
              (
                password_spells,
                (
                  logged_in_spells,
                  (
                    counted_spells,
                    (
                      text_added_spells,
                      (
                        text_gone_spells,
                        (
                          recipient_added_spells,
                          (
                            recipient_gone_spells,
                            (
                              link_added_spells,
                              (
                                link_gone_spells,
                                (
                                  member_set_spells,
                                  (
                                    member_gone_spells,
                                    (
                                      read_set_spells,
                                      (
                                        mark_set_spells,
                                        (
                                          mark_gone_spells,
                                          (aux_added_spells, (aux_gone_spells, (created_spells, tt))),
                                        ),
                                      ),
                                    ),
                                  ),
                                ),
                              ),
                            ),
                          ),
                        ),
                      ),
                    ),
                  ),
                ),
              ),
            ),
          ),
        ),
      ),
    ),
  ),
)

same_kind : (a b : ℕ) → (a == b) ≡ true → a ≡ b
same_kind a b is = eqb-true a b is

-- a row that is found has its kind, and what holds of all rows
pub row_found : (P : Row → Type 0) (all : List Row) (kind : ℕ) (row : Row) → AllByRecursion P all
    → find (λ one. one.kind == kind) all ≡ Some row → P row × (row.kind ≡ kind)
row_found P [] kind row holds is = absurd (cc is)
row_found P (one ∷ all) kind row holds is =
    by_test (λ found. row_found P all kind row holds.1 found) (one.kind == kind) refl is where
      by_test : (find (λ one. one.kind == kind) all ≡ Some row → P row × (row.kind ≡ kind))
          → (test : Bool) → (one.kind == kind) ≡ test
          → cond test (Some one) (find (λ one. one.kind == kind) all) ≡ Some row → P row × (row.kind ≡ kind)
      by_test later true same found =
          let row_is : one ≡ row = cc found in
          (subst P row_is holds.0, subst (λ (r : Row). r.kind ≡ kind) row_is (same_kind one.kind kind same))
      by_test later false other found = later found

kind_spelled : (kind : ℕ) (found : Option Row) (bytes : List ℕ) (effect : Effect) (rest : List ℕ) → AreBytes bytes
    → row_of kind ≡ found → kind_at found bytes ≡ Whole effect rest
    → (kind ∷ bytes ≡ coded_effect effect ++ rest) × IsInRange effect
kind_spelled kind None bytes effect rest are found_is is = absurd (cc is)
kind_spelled kind (Some row) bytes effect rest are found_is is =
    let made : MadeOf row.fields row.make bytes effect rest =
    made_spelled row.fields row.make bytes effect rest are is in
    let found = row_found RowSpells rows kind row rows_spell found_is in
    let spells = found.0 made.values made.spells.allowed in
    let coded_is : coded_effect effect ≡ coded_row row made.values =
    ap coded_effect (sym made.made_is) ∙ spells.0 in (
      ap (λ (n : ℕ). n ∷ bytes) (sym found.1) ∙ ap (λ (l : List ℕ). row.kind ∷ l) made.spells.spelled
          ∙ ap (λ (l : List ℕ). l ++ rest) (sym coded_is),
      subst IsInRange made.made_is spells.1,
    )

pub is_spelled : IsSpelled
is_spelled effect [] rest are is = absurd (cc is)
is_spelled effect (kind ∷ bytes) rest are is =
    kind_spelled kind (row_of kind) bytes effect rest (λ i. are (suc i)) refl is
