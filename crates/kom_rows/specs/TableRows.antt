use Rattle.std.specs.Prelude.{◌≡◌, ℕ, Bool, true, false, List, [], ◌∷◌, codes, Option, Some, None}
use Rattle.std.specs.Prelude.{map}
use Rattle.kom_types.specs.declared.aux_items.Adder.{Adder}
use Rattle.kom_types.specs.declared.aux_items.AuxInput.{AuxInput}
use Rattle.kom_types.specs.declared.aux_items.AuxRow.{AuxRow}
use Rattle.kom_types.specs.declared.aux_items.Object.TheVariants as object
use Rattle.kom_types.specs.declared.texts.Block.{Block}
use Rattle.kom_types.specs.declared.texts.Block.TheVariants.{Sparse, Dense}
use Rattle.kom_types.specs.declared.texts.LocalText.{LocalText}
use Rattle.kom_types.specs.declared.texts.Mapping.{Mapping}
use Rattle.kom_types.specs.Names.{fold, clash, words_of, finds, is_name}
use Rattle.kom_types.specs.Mappings.{mapping_up, mapping_down}
use Rattle.kom_types.specs.AuxItems.{AuxRefusal, refused_change, inherit, items_from}

-- a text with the local number that is its own number
abbrev pub same : ℕ → LocalText
same number = record { local = number; text = number }

-- ten texts of which the third was deleted
abbrev pub nine_texts : List LocalText
nine_texts = map same (1 ∷ 2 ∷ 4 ∷ 5 ∷ 6 ∷ 7 ∷ 8 ∷ 9 ∷ 10 ∷ [])

abbrev pub mapping_of : ℕ → ℕ → Bool → Block → Mapping
mapping_of begin end later block =
    record { begin = begin; end = end; later_texts_exist = later; block = block }

-- person 5 owns the object, and person 7 does not
abbrev pub owner : Adder
owner = record { person = 5; owns = true }

abbrev pub reader : Adder
reader = record { person = 7; owns = false }

abbrev pub given_item : ℕ → ℕ → ℕ → List ℕ → AuxInput
given_item tag flags limit content =
    record { tag = tag; flags = flags; inherit_limit = limit; content = content }

abbrev pub refusal : ℕ → ℕ → Option AuxRefusal
refusal code index = Some (record { code = code; index = index })

-- three cross-references that are inherited, as person 5 adds them at moment 0
abbrev pub three_given : List AuxInput
three_given =
    given_item 3 64 0 (codes "p") ∷ given_item 3 64 1 (codes "q") ∷ given_item 3 64 2 (codes "r")
    ∷ []

abbrev pub three_items : List AuxRow
three_items = items_from 1 5 0 three_given

-- what the definitions of names, mappings and aux-items say of cases that were worked out by hand
pub record TableRows : Type 0 where
  pub fold_of_latin_letters : map fold (97 ∷ 122 ∷ 229 ∷ 246 ∷ 247 ∷ 255 ∷ 65 ∷ [])
      ≡ 65 ∷ 90 ∷ 197 ∷ 214 ∷ 247 ∷ 255 ∷ 65 ∷ []
  pub clash_of_letters : clash (codes "Alfa") (codes "aLFA") ≡ true
  pub no_clash_of_a_prefix : clash (codes "Alfa") (codes "Alfab") ≡ false
  pub words_outside_parentheses : words_of (codes "Alfa (the first) beta (x")
      ≡ codes "ALFA" ∷ codes "BETA" ∷ []
  pub empty_pattern : finds [] (codes "Administrator") ≡ true
  pub pattern_with_parentheses : finds (codes "n (x)") (codes "News") ≡ true
  pub two_words : finds (codes "a (x) b") (codes "Alfa beta") ≡ true
  pub second_word_of_another : finds (codes "a c") (codes "Alfa beta") ≡ false
  pub too_many_words : finds (codes "a b c") (codes "Alfa beta") ≡ false
  pub small_letter_finds_capital : finds (229 ∷ []) (197 ∷ codes "re") ≡ true
  pub control_character : is_name (codes "a\nb") ≡ false
  pub no_word : is_name (codes " (only this)") ≡ false
  pub good_name : is_name (197 ∷ codes "re (x)") ≡ true
  pub sparse_upwards : mapping_up nine_texts 11 1 4
      ≡ mapping_of 1 6 true (Sparse (map same (1 ∷ 2 ∷ 4 ∷ 5 ∷ [])))
  pub dense_upwards : mapping_up nine_texts 11 4 3 ≡ mapping_of 4 7 true (Dense 4 (4 ∷ 5 ∷ 6 ∷ []))
  pub first_in_a_gap : mapping_up nine_texts 11 3 2 ≡ mapping_of 3 6 true (Dense 4 (4 ∷ 5 ∷ []))
  pub none_above : mapping_up nine_texts 11 11 5 ≡ mapping_of 11 11 false (Sparse [])
  pub all_upwards : mapping_up nine_texts 11 1 255 ≡ mapping_of 1 11 false (Sparse nine_texts)
  pub none_asked : mapping_up nine_texts 11 1 0 ≡ mapping_of 1 1 true (Sparse [])
  pub two_downwards : mapping_down nine_texts 11 0 2 ≡ mapping_of 9 11 true (Dense 9 (9 ∷ 10 ∷ []))
  pub below_a_ceiling : mapping_down nine_texts 11 3 2 ≡ mapping_of 1 3 false (Dense 1 (1 ∷ 2 ∷ []))
  pub ceiling_too_high : mapping_down nine_texts 11 99 1
      ≡ mapping_of 10 11 true (Dense 10 (10 ∷ []))
  pub none_asked_below : mapping_down nine_texts 11 5 0 ≡ mapping_of 5 5 true (Sparse [])
  pub unknown_tag : refused_change object.Text owner [] [] (given_item 9 0 0 [] ∷ []) ≡ refusal 48 0
  pub letterboxes_alone : refused_change object.Conference owner [] [] (given_item 8 0 0 [] ∷ [])
      ≡ refusal 48 0
  pub one_of_its_tag : refused_change object.Text owner [] []
      (given_item 1 0 0 [] ∷ given_item 1 0 0 [] ∷ [])
      ≡ refusal 48 1
  pub deleted_flag : refused_change object.Text owner [] [] (given_item 2 128 0 [] ∷ [])
      ≡ refusal 48 0
  pub not_the_owner : refused_change object.Text reader [] []
      (given_item 2 0 0 [] ∷ given_item 4 0 0 [] ∷ [])
      ≡ refusal 49 1
  pub reader_of_a_text : refused_change object.Text reader [] [] (given_item 3 0 0 [] ∷ []) ≡ None
  pub reader_of_a_conference : refused_change object.Conference reader [] []
      (given_item 3 0 0 [] ∷ [])
      ≡ refusal 49 0
  pub room_after_deletion :
      refused_change object.Text owner (items_from 1 5 0 (given_item 1 0 0 [] ∷ [])) (1 ∷ [])
      (given_item 1 0 0 [] ∷ []) ≡ None
  pub deleted_twice : refused_change object.Text owner three_items (1 ∷ 2 ∷ 1 ∷ []) []
      ≡ refusal 48 2
  pub no_such_number : refused_change object.Text owner three_items (4 ∷ []) [] ≡ refusal 48 0
  pub of_another : refused_change object.Text reader three_items (1 ∷ []) [] ≡ refusal 49 0
  pub secret_of_another :
      refused_change object.Text reader (items_from 1 5 0 (given_item 2 32 0 [] ∷ [])) (1 ∷ []) []
      ≡ refusal 48 0
  pub read_confirm_stays :
      refused_change object.Text owner (items_from 1 5 0 (given_item 7 0 0 [] ∷ [])) (1 ∷ []) []
      ≡ refusal 49 0
  pub inherited_by_a_comment : inherit [] three_items
      ≡ items_from 1 5 0 (given_item 3 64 0 (codes "p") ∷ given_item 3 64 1 (codes "r") ∷ [])
  pub inherited_once_more : inherit [] (inherit [] three_items)
      ≡ items_from 1 5 0 (given_item 3 64 0 (codes "p") ∷ [])
  pub one_of_a_tag_is_not_inherited :
      inherit (items_from 1 7 0 (given_item 1 0 0 [] ∷ []))
      (items_from 1 5 0 (given_item 1 64 0 [] ∷ []))
      ≡ items_from 1 7 0 (given_item 1 0 0 [] ∷ [])
