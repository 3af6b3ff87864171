-- What becomes of aux-items, what is shown of them, and what the calls that change them come to,
-- worked out by hand.
use Rattle.std.specs.Prelude.{◌≡◌, ℕ, Bool, true, false, List, [], ◌∷◌, ◌++◌, map, codes, zero, suc}
use Rattle.std.specs.Prelude.{replicate, None}
use Rattle.kom_types.specs.declared.aux_items.AuxInput.{AuxInput}
use Rattle.kom_types.specs.declared.aux_items.AuxRow.{AuxRow}
use Rattle.kom_types.specs.declared.aux_items.ItemRow.{ItemRow}
use Rattle.kom_types.specs.declared.effects.Effect.{Effect}
use Rattle.kom_types.specs.declared.effects.Effect.TheVariants as effect
use Rattle.kom_types.specs.declared.replies.Reply.{Reply}
use Rattle.kom_types.specs.declared.replies.Reply.TheVariants as reply
use Rattle.kom_rows.specs.Cast.{Cast, cast_over, one_seat, four_persons, three_conferences, makes}
use Rattle.kom_rows.specs.Cast.{joins, is_invited, under, sends, links, sets_fields, item}
use Rattle.kom_rows.specs.Cast.{new_item, adds, given_item, changes, after, early_of, person}
use Rattle.kom_rows.specs.Cast.{nobody}
use Rattle.kom_rows.specs.Cast.{strong_nobody}
use Rattle.kom_model.specs.Db.{Db, empty_db, items_of, next_item_of}
use Rattle.kom_model.specs.Effects.{fits, apply_all, all_fit}
use Rattle.kom_model.specs.Shown.{text_adder}
use Rattle.kom_model.specs.calls.AuxItems.{modify_text_info, modify_conf_info}
use Rattle.kom_model.specs.calls.Call.{Asked, Definition, answer, done_with, without_guard}
use Rattle.kom_model.specs.calls.Call.{outcome_of}
use Rattle.kom_model.specs.calls.Conferences.{delete_conf, get_conf_stat}
use Rattle.kom_model.specs.calls.Guards.{refusal}
use Rattle.kom_model.specs.calls.Texts.{get_text_stat}

abbrev pub removes : Bool → ℕ → List ℕ → List Effect
removes on_text object numbers = map (λ number. effect.AuxGone on_text object number) numbers

-- Text 1 is Bo's to 9, 2 is without an author to 9, 3 is Anna's to 10, 4 is Anna's to 9, 5 is Bo's
-- to 9, a comment to 1, and 6 is Di's to 9. Anna has a mark on 1.
abbrev pub made_texts : List Effect
made_texts =
    effect.TextAdded 1 6 20 [] ∷ sends 1 9 0 1 ∷ effect.Created 6 1 1
    ∷ effect.TextAdded 2 0 20 [] ∷ sends 2 9 0 2
    ∷ effect.TextAdded 3 5 20 [] ∷ sends 3 10 0 1 ∷ effect.Created 5 1 3
    ∷ effect.TextAdded 4 5 20 [] ∷ sends 4 9 0 3 ∷ effect.Created 5 2 4
    ∷ effect.TextAdded 5 6 20 [] ∷ sends 5 9 0 4 ∷ links 5 1 false 0 20 ∷ effect.Created 6 2 5
    ∷ effect.TextAdded 6 8 20 [] ∷ sends 6 9 0 5 ∷ effect.Created 8 1 6
    ∷ effect.MarkSet 5 1 9 ∷ []

-- The items of text 1: Di's are a fast reply, a secret one, a reference whose creator is hidden and
-- that she read it; Bo's are what he wrote it by and, secretly, its type.
abbrev pub of_first : List AuxRow
of_first =
    item 1 2 8 0 0 (codes "a") ∷ item 2 2 8 32 0 (codes "b") ∷ item 3 3 8 16 0 (codes "c")
    ∷ item 4 7 8 0 0 [] ∷ item 5 15 6 0 0 (codes "d") ∷ item 6 1 6 48 0 (codes "e") ∷ []

-- those that are shown to others
abbrev pub few_of_first : List AuxRow
few_of_first =
    item 1 2 8 0 0 (codes "a") ∷ item 3 3 0 16 0 (codes "c") ∷ item 4 7 8 0 0 []
    ∷ item 5 15 6 0 0 (codes "d") ∷ []

-- those of text 2, which Bo made
abbrev pub of_second : List AuxRow
of_second = item 1 6 6 16 0 [] ∷ item 2 2 6 32 0 (codes "f") ∷ []

-- those of text 4: not inherited are the third and the fourth
abbrev pub of_fourth : List AuxRow
of_fourth =
    item 1 3 8 64 0 (codes "p") ∷ item 2 3 8 64 2 (codes "q") ∷ item 3 3 8 64 1 (codes "r")
    ∷ item 4 3 8 0 0 (codes "s") ∷ item 5 1 5 64 3 (codes "t") ∷ item 6 7 8 64 0 []
    ∷ item 7 2 7 120 4294967295 (codes "u") ∷ []

-- those of text 5, all of which are inherited
abbrev pub of_fifth : List AuxRow
of_fifth =
    item 1 1 6 64 0 (codes "v") ∷ item 2 7 8 64 0 [] ∷ item 3 7 6 64 5 []
    ∷ item 4 3 6 64 7 (codes "w") ∷ []

abbrev pub of_sixth : List AuxRow
of_sixth = item 1 2 5 0 0 (codes "x") ∷ []

-- those of the conference 9: Anna's, and Bo's secret one whose creator is hidden
abbrev pub of_open : List AuxRow
of_open =
    item 1 14 5 0 0 (codes "1") ∷ item 2 10 5 32 0 (codes "2") ∷ item 3 13 5 16 0 (codes "3")
    ∷ item 4 3 6 48 0 (codes "4") ∷ []

-- those of Bo's letterbox: his, and Di's secret one
abbrev pub of_bo : List AuxRow
of_bo = item 1 8 6 0 0 (codes "5") ∷ item 2 13 8 32 0 (codes "6") ∷ []

-- and a seventh item of text 1 that went
abbrev pub made_items : List Effect
made_items =
    adds true 1 of_first ++ adds true 2 of_second ++ adds true 4 of_fourth ++ adds true 5 of_fifth
    ++ adds true 6 of_sixth ++ adds false 9 of_open ++ adds false 6 of_bo
    ++ effect.AuxAdded true 1 (item 7 2 8 0 0 []) ∷ effect.AuxGone true 1 7 ∷ []

-- the four persons and the three conferences, with these texts and items
abbrev pub made_rows : List Effect
made_rows = four_persons ++ three_conferences ++ made_texts ++ made_items

abbrev pub rows : Db
rows = apply_all made_rows empty_db

abbrev pub cast : Cast
cast = cast_over rows one_seat

-- the strong session is Cy's; Anna has not the privilege
open cast use {with_effects, stranger, anna, bo, cy, di}
open cast use {high_cy as strong, high_anna as not_strong}

-- the members of 10 supervise Bo; a person is one of them, or was invited to them
abbrev pub under_members : ℕ → List Effect
under_members person = under 10 6 ++ joins person 10 0 ∷ []

abbrev pub under_invited : ℕ → List Effect
under_invited person = under 10 6 ++ is_invited person 10 ∷ []

-- an item of this tag alone; and as many fast replies
abbrev pub item_of_tag : ℕ → AuxInput
item_of_tag tag = given_item tag 0 0 []

abbrev pub replies : ℕ → List AuxInput
replies many = replicate many (item_of_tag 2)

-- a call of a session that adds to text 1, or to 6, or deletes of 1
abbrev pub adds_to_first : Asked → List AuxInput → Definition
adds_to_first asked added = modify_text_info asked (changes 1 [] added)

abbrev pub adds_to_sixth : Asked → List AuxInput → Definition
adds_to_sixth asked added = modify_text_info asked (changes 6 [] added)

abbrev pub deletes_of_first : Asked → List ℕ → Definition
deletes_of_first asked deleted = modify_text_info asked (changes 1 deleted [])

-- the same of the conference 9 and of Bo's letterbox
abbrev pub adds_to_open : Asked → List AuxInput → Definition
adds_to_open asked added = modify_conf_info asked (changes 9 [] added)

abbrev pub deletes_of_open : Asked → List ℕ → Definition
deletes_of_open asked deleted = modify_conf_info asked (changes 9 deleted [])

abbrev pub adds_to_bo : Asked → List AuxInput → Definition
adds_to_bo asked added = modify_conf_info asked (changes 6 [] added)

abbrev pub deletes_of_bo : Asked → List ℕ → Definition
deletes_of_bo asked deleted = modify_conf_info asked (changes 6 deleted [])

-- an item refuses a call: no guard before it does, and nothing changes
abbrev pub refused_by_item : ℕ → ℕ → Definition
refused_by_item code status = without_guard (answer (reply.Refused code status))

-- what the calls reply, and what they do
abbrev pub replies_in : List Definition → List Reply
replies_in definitions = map (λ definition. (outcome_of definition).reply) definitions

abbrev pub effects_of : Definition → List Effect
effects_of definition = (outcome_of definition).effects

-- the items that a call adds
abbrev pub added_item : Effect → List AuxRow
added_item (effect.AuxAdded on_text object what) = what ∷ []
added_item other = []

abbrev pub items_in : List Effect → List AuxRow
items_in [] = []
items_in (what ∷ effects) = added_item what ++ items_in effects

abbrev pub items_made : Definition → List AuxRow
items_made definition = items_in (effects_of definition)

-- the items that a call tells of
abbrev pub items_told : Definition → List AuxRow
items_told definition = elim (outcome_of definition).reply [
  | reply.TextStat told ↦ told.aux_items
  | reply.Conference told ↦ told.aux_items
  | other ↦ []
]

-- as many items of text 6 from this number on; and the rows where these are all
abbrev pub items_from : ℕ → ℕ → List ItemRow
items_from first zero = []
items_from first (suc many) =
    record { on_text = true; object = 6; item = item first 2 8 0 0 [] }
    ∷ items_from (suc first) many

abbrev pub with_items : ℕ → Asked → Asked
with_items many asked = record asked { db = record rows { items = items_from 1 many } }

-- the same, if all are secret
abbrev pub as_secret : ItemRow → ItemRow
as_secret row = record row { item = record (row.item) { flags = 32 } }

abbrev pub with_hidden : ℕ → Asked → Asked
with_hidden many asked = record asked {
  db = record rows { items = map as_secret (items_from 1 many) };
}

-- the next item of text 6, or of the conference 9, gets this number
abbrev pub sixth_after : ℕ → List Effect
sixth_after number = adds true 6 (item number 2 8 0 0 [] ∷ [])

abbrev pub open_after : ℕ → List Effect
open_after number = adds false 9 (item number 14 5 0 0 [] ∷ [])

-- text 6, or the letterbox 6, gets an item 50
abbrev pub adds_fiftieth : Bool → List Effect
adds_fiftieth on_text = adds on_text 6 (item 50 3 8 0 0 [] ∷ [])

-- whether an item with this number, or of this tag, fits
abbrev pub fits_numbered : Bool → ℕ → ℕ → Bool
fits_numbered on_text object number =
    fits (effect.AuxAdded on_text object (item number 3 8 0 0 [])) rows

abbrev pub fits_tagged : Bool → ℕ → ℕ → Bool
fits_tagged on_text object tag =
    fits (effect.AuxAdded on_text object (item 50 tag 8 0 0 [])) rows

-- what becomes of aux-items, and what the calls that change them come to, in cases that were worked
-- out by hand
pub record ItemRows : Type 0 where
  -- items of a text are not those of the conference with the same number
  pub all_are_made : all_fit made_rows empty_db ≡ true
  pub items_of_texts : map (items_of rows true) (1 ∷ 2 ∷ 3 ∷ 6 ∷ 9 ∷ [])
      ≡ of_first ∷ of_second ∷ [] ∷ of_sixth ∷ [] ∷ []
  pub items_of_conferences : map (items_of rows false) (9 ∷ 6 ∷ 10 ∷ 1 ∷ [])
      ≡ of_open ∷ of_bo ∷ [] ∷ [] ∷ []
  -- numbers are not given again
  pub next_of_texts : map (next_item_of rows true) (1 ∷ 2 ∷ 3 ∷ 6 ∷ 98 ∷ [])
      ≡ 8 ∷ 3 ∷ 1 ∷ 2 ∷ 1 ∷ []
  pub next_of_conferences : map (next_item_of rows false) (9 ∷ 6 ∷ 10 ∷ 99 ∷ [])
      ≡ 5 ∷ 3 ∷ 1 ∷ 1 ∷ []
  pub next_after_some_left_out :
      map (λ on_text. next_item_of (with_effects (adds_fiftieth on_text)) on_text 6)
      (true ∷ false ∷ [])
      ≡ 51 ∷ 51 ∷ []
  pub next_of_the_other :
      map (λ on_text. next_item_of (with_effects (adds_fiftieth on_text)) true 6)
      (true ∷ false ∷ [])
      ≡ 51 ∷ 2 ∷ []
  pub next_after_all_went :
      map (λ on_text. next_item_of (with_effects (removes on_text 6 (1 ∷ []))) on_text 6)
      (true ∷ false ∷ [])
      ≡ 2 ∷ 3 ∷ []
  -- nor after other changes of the object
  pub next_of_a_changed_conference :
      next_item_of (with_effects (sets_fields ++ effect.ConfNamed 9 (codes "Olds") ∷ sends 3 9 0 6
      ∷ effect.RecipientGone 1 9 ∷ [])) false 9
      ≡ 5
  pub next_of_a_changed_text :
      next_item_of (with_effects (effect.TextAdded 7 6 20 [] ∷ adds true 7 (item 1 2 6 0 0 [] ∷ [])
      ++ effect.Created 6 3 7 ∷ sends 7 9 0 6 ∷ effect.MarkSet 5 7 1 ∷ [])) true 7
      ≡ 2
  pub next_without_the_author :
      map (next_item_of (with_effects (effects_of (delete_conf bo 6))) true) (1 ∷ 5 ∷ [])
      ≡ 8 ∷ 5 ∷ []
  pub item_went : items_of (with_effects (removes true 1 (1 ∷ 3 ∷ 4 ∷ 6 ∷ []))) true 1
      ≡ item 2 2 8 32 0 (codes "b") ∷ item 5 15 6 0 0 (codes "d") ∷ []
  pub item_of_the_text_went :
      map (λ on_text. items_of (with_effects (removes true 6 (1 ∷ []))) on_text 6)
      (true ∷ false ∷ [])
      ≡ [] ∷ of_bo ∷ []
  pub item_of_the_conference_went :
      map (λ on_text. items_of (with_effects (removes false 6 (1 ∷ []))) on_text 6)
      (true ∷ false ∷ [])
      ≡ of_sixth ∷ (item 2 13 8 32 0 (codes "6") ∷ []) ∷ []
  -- a number that is given fits once, and as the next one or a later one
  pub number_used : map (fits_numbered true 1) (0 ∷ 6 ∷ 7 ∷ 8 ∷ 50 ∷ 4294967294 ∷ 4294967295 ∷ [])
      ≡ false ∷ false ∷ false ∷ true ∷ true ∷ true ∷ false ∷ []
  pub number_of_a_conference_used :
      map (fits_numbered false 9) (0 ∷ 4 ∷ 5 ∷ 50 ∷ 4294967294 ∷ 4294967295 ∷ [])
      ≡ false ∷ false ∷ true ∷ true ∷ true ∷ false ∷ []
  -- on an object that is there
  pub item_of_nothing :
      map (λ object. fits_numbered true object 50) (0 ∷ 3 ∷ 7 ∷ 9 ∷ [])
      ≡ false ∷ true ∷ false ∷ false ∷ []
  pub item_of_no_conference :
      map (λ object. fits_numbered false object 50) (0 ∷ 1 ∷ 5 ∷ 10 ∷ 12 ∷ [])
      ≡ false ∷ false ∷ true ∷ true ∷ false ∷ []
  -- of a tag that is known
  pub tags_of_texts : map (fits_tagged true 3) (1 ∷ 2 ∷ 3 ∷ 4 ∷ 5 ∷ 6 ∷ 7 ∷ 15 ∷ [])
      ≡ replicate 8 true
  pub tags_of_conferences : map (fits_tagged false 10) (3 ∷ 10 ∷ 13 ∷ 14 ∷ []) ≡ replicate 4 true
  pub tags_of_letterboxes : map (fits_tagged false 5) (3 ∷ 8 ∷ 10 ∷ 13 ∷ 14 ∷ [])
      ≡ replicate 5 true
  pub tags_unknown : map (fits_tagged true 3) (0 ∷ 9 ∷ 11 ∷ 12 ∷ 16 ∷ 99 ∷ []) ≡ replicate 6 false
  pub tags_unknown_of_conferences : map (fits_tagged false 10) (0 ∷ 9 ∷ 11 ∷ 12 ∷ 16 ∷ 99 ∷ [])
      ≡ replicate 6 false
  -- among at most 100, and not too long
  pub items_fit_to_the_limit :
      map (λ many. fits (effect.AuxAdded true 6 (item 500 2 8 0 0 [])) (with_items many di).db)
      (99 ∷ 100 ∷ [])
      ≡ true ∷ false ∷ []
  pub items_of_another_fit :
      map (λ object. fits (effect.AuxAdded true object (item 500 2 8 0 0 []))
      (with_items 100 di).db) (1 ∷ 6 ∷ [])
      ≡ true ∷ false ∷ []
  pub items_of_a_conference_fit :
      fits (effect.AuxAdded false 6 (item 500 10 8 0 0 [])) (with_items 100 di).db ≡ true
  pub content_fits :
      map (λ long. fits (effect.AuxAdded true 3 (item 1 2 8 0 0 (replicate long 65))) rows)
      (16384 ∷ 16385 ∷ [])
      ≡ true ∷ false ∷ []
  -- that it may stand once, on what, and its flags are for the calls to look at
  pub others_of_a_kind_fit :
      map (λ what. fits what rows)
      (effect.AuxAdded true 1 (item 8 1 6 0 0 []) ∷ effect.AuxAdded true 1 (item 8 7 8 0 0 [])
      ∷ effect.AuxAdded true 1 (item 8 8 6 0 0 []) ∷ effect.AuxAdded false 9 (item 5 1 5 135 0 [])
      ∷ [])
      ≡ replicate 4 true
  -- an item that is there goes, once
  pub item_fits_to_go :
      map (λ number. fits (effect.AuxGone true 1 number) rows) (0 ∷ 1 ∷ 6 ∷ 7 ∷ 8 ∷ [])
      ≡ false ∷ true ∷ true ∷ false ∷ false ∷ []
  pub item_of_the_other_fits_to_go :
      map (λ on_text. fits (effect.AuxGone on_text 6 2) rows) (true ∷ false ∷ [])
      ≡ false ∷ true ∷ []
  pub item_of_another_fits_to_go :
      map (λ object. fits (effect.AuxGone false object 4) rows) (6 ∷ 9 ∷ []) ≡ false ∷ true ∷ []
  pub item_fits_to_go_once :
      fits (effect.AuxGone true 1 1) (with_effects (removes true 1 (1 ∷ []))) ≡ false
  -- an object goes after its items
  pub text_fits_to_go :
      map (λ items. fits (effect.TextGone 6) (with_effects (effect.RecipientGone 6 9 ∷ items)))
      ([] ∷ removes false 6 (1 ∷ 2 ∷ []) ∷ removes true 6 (1 ∷ []) ∷ [])
      ≡ false ∷ false ∷ true ∷ []
  pub conference_fits_to_go :
      map (λ items. fits (effect.ConfGone 12) (with_effects (makes 12 (codes "New") 0 ∷ items)))
      ([] ∷ adds false 12 (item 1 14 5 0 0 [] ∷ [])
      ∷ (adds false 12 (item 1 14 5 0 0 [] ∷ []) ++ removes false 12 (1 ∷ [])) ∷ [])
      ≡ true ∷ false ∷ true ∷ []
  -- Its author is told of all items of a text, and so is a strong session.
  pub told_to_the_author : map (λ asked. items_told (get_text_stat asked 1)) (bo ∷ strong ∷ [])
      ≡ replicate 2 of_first
  -- others are told neither of what is secret nor of who is hidden
  pub told_to_others :
      map (λ asked. items_told (get_text_stat asked 1)) (anna ∷ cy ∷ not_strong ∷ [])
      ≡ replicate 3 few_of_first
  -- a creator is told of its own
  pub told_to_the_creator : items_told (get_text_stat di 1)
      ≡ item 1 2 8 0 0 (codes "a") ∷ item 2 2 8 32 0 (codes "b") ∷ item 3 3 8 16 0 (codes "c")
      ∷ item 4 7 8 0 0 [] ∷ item 5 15 6 0 0 (codes "d") ∷ []
  -- who supervises the author, and the author whom another supervises
  pub told_to_the_supervisor :
      map (λ asked. items_told (get_text_stat (after (under 7 6) asked) 1)) (cy ∷ bo ∷ [])
      ≡ replicate 2 of_first
  pub told_to_supervising_members :
      items_told (get_text_stat (after (under_members 7) cy) 1) ≡ of_first
  pub told_to_the_invited :
      items_told (get_text_stat (after (under_invited 7) cy) 1) ≡ few_of_first
  -- of a text without an author: who made it is told as a creator alone
  pub told_without_an_author :
      map (λ asked. items_told (get_text_stat asked 2)) (bo ∷ strong ∷ anna ∷ [])
      ≡ of_second ∷ of_second ∷ (item 1 6 0 16 0 [] ∷ []) ∷ []
  pub owned_without_an_author :
      map (λ viewer. (text_adder rows viewer 2).owns)
      (nobody ∷ person 5 ∷ person 6 ∷ strong_nobody ∷ [])
      ≡ false ∷ false ∷ false ∷ true ∷ []
  -- of a conference: its supervisor, a creator, a stranger, and who is shown all
  pub told_of_a_conference :
      map (λ asked. items_told (get_conf_stat asked 9)) (anna ∷ strong ∷ bo ∷ di ∷ cy ∷ [])
      ≡ of_open ∷ of_open
      ∷ (item 1 14 5 0 0 (codes "1") ∷ item 3 13 0 16 0 (codes "3") ∷ item 4 3 6 48 0 (codes "4")
      ∷ [])
      ∷ (item 1 14 5 0 0 (codes "1") ∷ item 3 13 0 16 0 (codes "3") ∷ [])
      ∷ (item 1 14 5 0 0 (codes "1") ∷ item 3 13 0 16 0 (codes "3") ∷ []) ∷ []
  -- of a letterbox: its person, who supervises itself, a creator and a stranger
  pub told_of_a_letterbox :
      map (λ asked. items_told (get_conf_stat asked 6)) (bo ∷ di ∷ anna ∷ [])
      ≡ of_bo ∷ of_bo ∷ (item 1 8 6 0 0 (codes "5") ∷ []) ∷ []
  -- its person no more, where another supervises it
  pub told_of_a_letterbox_of_another :
      map (λ asked. items_told (get_conf_stat (after (under 5 6) asked) 6)) (bo ∷ anna ∷ [])
      ≡ (item 1 8 6 0 0 (codes "5") ∷ []) ∷ of_bo ∷ []
  pub none_told : map (λ asked. items_told (get_text_stat asked 3)) (anna ∷ strong ∷ [])
      ≡ [] ∷ [] ∷ []
  -- Items of a text are changed after these guards, in this order: nobody is logged in; the text is
  -- 0; it is missing; it is hidden.
  pub text_refused :
      early_of (map (λ asked. modify_text_info asked (changes 0 (99 ∷ []) (item_of_tag 99 ∷ [])))
      (stranger ∷ bo ∷ [])
      ++ map (λ number. modify_text_info bo (changes number (99 ∷ []) (item_of_tag 99 ∷ [])))
      (98 ∷ 3 ∷ 1 ∷ [])
      ++ modify_text_info strong (changes 3 [] []) ∷ [])
      ≡ refusal 6 0 ∷ refusal 15 0 ∷ refusal 14 98 ∷ refusal 14 3 ∷ None ∷ None ∷ []
  -- an item that is to go is not there, or twice in the list
  pub deletion_of_nothing :
      map (deletes_of_first bo)
      ((7 ∷ []) ∷ (0 ∷ []) ∷ (1 ∷ 99 ∷ []) ∷ (1 ∷ 1 ∷ []) ∷ (1 ∷ 2 ∷ 1 ∷ []) ∷ [])
      ≡ refused_by_item 48 0 ∷ refused_by_item 48 0 ∷ refused_by_item 48 1 ∷ refused_by_item 48 1
      ∷ refused_by_item 48 2 ∷ []
  pub deletion_of_another : modify_text_info bo (changes 6 (2 ∷ []) []) ≡ refused_by_item 48 0
  -- it is not shown; whether it is another's is not looked at
  pub deletion_of_the_hidden : map (deletes_of_first anna) ((2 ∷ []) ∷ (6 ∷ []) ∷ [])
      ≡ refused_by_item 48 0 ∷ refused_by_item 48 0 ∷ []
  pub deletion_of_a_hidden_one : map (deletes_of_first di) ((6 ∷ []) ∷ (1 ∷ 6 ∷ []) ∷ [])
      ≡ refused_by_item 48 0 ∷ refused_by_item 48 1 ∷ []
  -- it is of a kind that stays, whoever asks
  pub deletion_of_what_stays :
      deletes_of_first bo (4 ∷ []) ∷ deletes_of_first bo (5 ∷ [])
      ∷ deletes_of_first di (4 ∷ []) ∷ deletes_of_first strong (4 ∷ [])
      ∷ deletes_of_first strong (1 ∷ 5 ∷ []) ∷ []
      ≡ refused_by_item 49 0 ∷ refused_by_item 49 0 ∷ refused_by_item 49 0 ∷ refused_by_item 49 0
      ∷ refused_by_item 49 1 ∷ []
  -- it is another's on another's text
  pub deletion_of_anothers :
      map (λ asked. deletes_of_first asked (1 ∷ [])) (anna ∷ cy ∷ not_strong ∷ [])
      ≡ replicate 3 (refused_by_item 49 0)
  pub deletion_by_its_maker : modify_text_info anna (changes 2 (1 ∷ []) []) ≡ refused_by_item 49 0
  -- the first entry that is refused decides
  pub deletion_in_turn :
      map (deletes_of_first di) ((5 ∷ 99 ∷ []) ∷ (99 ∷ 5 ∷ []) ∷ (4 ∷ 4 ∷ []) ∷ [])
      ≡ refused_by_item 49 0 ∷ refused_by_item 48 0 ∷ refused_by_item 49 0 ∷ []
  -- and deletions come before additions
  pub deletion_first :
      modify_text_info bo (changes 1 (1 ∷ 5 ∷ []) (item_of_tag 99 ∷ []))
      ∷ modify_text_info bo (changes 1 (1 ∷ []) (item_of_tag 99 ∷ [])) ∷ []
      ≡ refused_by_item 49 1 ∷ refused_by_item 48 0 ∷ []
  -- the owner, a creator, a supervisor of the author and a strong session delete
  pub deleted_by_the_owner : deletes_of_first bo (6 ∷ 1 ∷ [])
      ≡ without_guard (done_with (removes true 1 (6 ∷ 1 ∷ [])) [])
  pub deleted_by_the_creator : deletes_of_first di (3 ∷ 2 ∷ 1 ∷ [])
      ≡ without_guard (done_with (removes true 1 (3 ∷ 2 ∷ 1 ∷ [])) [])
  pub deleted_by_strength : deletes_of_first strong (2 ∷ 6 ∷ [])
      ≡ without_guard (done_with (removes true 1 (2 ∷ 6 ∷ [])) [])
  pub deleted_by_supervisors :
      replies_in (deletes_of_first (after (under 7 6) cy) (1 ∷ 6 ∷ [])
      ∷ deletes_of_first (after (under 7 6) bo) (1 ∷ 6 ∷ [])
      ∷ deletes_of_first (after (under_members 7) cy) (1 ∷ 6 ∷ [])
      ∷ deletes_of_first (after (under_invited 7) cy) (1 ∷ 6 ∷ []) ∷ [])
      ≡ reply.Done ∷ reply.Done ∷ reply.Done ∷ reply.Refused 49 0 ∷ []
  pub deleted_without_an_author :
      replies_in
      (map (λ asked. modify_text_info asked (changes 2 (1 ∷ 2 ∷ []) [])) (bo ∷ strong ∷ []))
      ≡ reply.Done ∷ reply.Done ∷ []
  -- An item that is to come is too long, of no known tag, or of one that is not for a text
  pub addition_too_long :
      replies_in (map (λ long. adds_to_first bo (given_item 2 0 0 (replicate long 65) ∷ []))
      (16384 ∷ 16385 ∷ []))
      ≡ reply.Done ∷ reply.Refused 48 0 ∷ []
  pub addition_of_no_tag :
      map (λ tag. adds_to_first bo (item_of_tag tag ∷ []))
      (0 ∷ 8 ∷ 9 ∷ 10 ∷ 11 ∷ 12 ∷ 13 ∷ 14 ∷ 16 ∷ 99 ∷ [])
      ≡ replicate 10 (refused_by_item 48 0)
  pub addition_of_tags :
      replies_in (map (λ tag. modify_text_info anna (changes 3 [] (item_of_tag tag ∷ [])))
      (1 ∷ 2 ∷ 3 ∷ 4 ∷ 5 ∷ 6 ∷ 7 ∷ 15 ∷ []))
      ≡ replicate 8 reply.Done
  -- deleted, or with a bit that means nothing
  pub addition_of_flags :
      replies_in (map (λ flags. adds_to_first bo (given_item 2 flags 0 [] ∷ []))
      (128 ∷ 4 ∷ 2 ∷ 1 ∷ 64 ∷ 32 ∷ 16 ∷ 8 ∷ 120 ∷ []))
      ≡ replicate 4 (reply.Refused 48 0) ++ replicate 5 reply.Done
  -- one too many of its kind: on the text, or of the list
  pub addition_that_stands :
      map (λ tag. adds_to_first bo (item_of_tag 2 ∷ item_of_tag tag ∷ [])) (1 ∷ 15 ∷ [])
      ≡ refused_by_item 48 1 ∷ refused_by_item 48 1 ∷ []
  pub addition_given_twice :
      map (λ tag. adds_to_sixth di (item_of_tag tag ∷ item_of_tag 2 ∷ item_of_tag tag ∷ []))
      (1 ∷ 4 ∷ 5 ∷ 6 ∷ 7 ∷ 15 ∷ [])
      ≡ replicate 6 (refused_by_item 48 2)
  pub addition_of_many :
      replies_in
      (map (λ tag. adds_to_sixth di (item_of_tag tag ∷ item_of_tag tag ∷ item_of_tag tag ∷ []))
      (2 ∷ 3 ∷ []))
      ≡ replicate 2 reply.Done
  -- that it was read is told once by each
  pub addition_read_by_another :
      replies_in
      (map (λ asked. adds_to_first asked (item_of_tag 7 ∷ [])) (di ∷ bo ∷ anna ∷ strong ∷ []))
      ≡ reply.Refused 48 0 ∷ reply.Done ∷ reply.Done ∷ reply.Done ∷ []
  -- past the limit
  pub addition_past_the_limit :
      replies_in (map (adds_to_sixth (with_items 99 di)) (replies 1 ∷ replies 2 ∷ [])
      ++ map (adds_to_sixth (with_items 100 di)) ([] ∷ replies 1 ∷ []))
      ≡ reply.Done ∷ reply.Refused 48 1 ∷ reply.Done ∷ reply.Refused 48 0 ∷ []
  -- of which those count too that are not shown
  pub addition_past_the_hidden :
      replies_in (map (λ many. adds_to_sixth (with_hidden many anna) (replies 1)) (99 ∷ 100 ∷ []))
      ≡ reply.Done ∷ reply.Refused 48 0 ∷ []
  -- a deletion makes room for it
  pub addition_after_a_deletion :
      replies_in (modify_text_info (with_items 100 di) (changes 6 (100 ∷ []) (replies 1))
      ∷ modify_text_info (with_items 100 di) (changes 6 (1 ∷ 2 ∷ []) (replies 3))
      ∷ modify_text_info bo (changes 1 (6 ∷ []) (item_of_tag 1 ∷ item_of_tag 1 ∷ [])) ∷ [])
      ≡ reply.Done ∷ reply.Refused 48 2 ∷ reply.Refused 48 1 ∷ []
  -- it is for the owner of the text
  pub addition_by_a_reader :
      map (λ tag. adds_to_sixth anna (item_of_tag tag ∷ [])) (1 ∷ 4 ∷ 5 ∷ 6 ∷ 15 ∷ [])
      ≡ replicate 5 (refused_by_item 49 0)
  pub addition_for_readers :
      replies_in (map (λ tag. adds_to_sixth anna (item_of_tag tag ∷ [])) (2 ∷ 3 ∷ 7 ∷ []))
      ≡ replicate 3 reply.Done
  pub addition_by_others :
      replies_in (map (λ asked. adds_to_first asked (item_of_tag 4 ∷ []))
      (bo ∷ strong ∷ di ∷ cy ∷ not_strong ∷ after (under 7 6) cy ∷ after (under 7 6) bo
      ∷ after (under_members 7) cy ∷ after (under_invited 7) cy ∷ []))
      ≡ reply.Done ∷ reply.Done ∷ reply.Refused 49 0 ∷ reply.Refused 49 0 ∷ reply.Refused 49 0
      ∷ reply.Done ∷ reply.Done ∷ reply.Done ∷ reply.Refused 49 0 ∷ []
  pub addition_without_an_author :
      replies_in (map (λ asked. modify_text_info asked (changes 2 [] (item_of_tag 4 ∷ [])))
      (bo ∷ strong ∷ []))
      ≡ reply.Refused 49 0 ∷ reply.Done ∷ []
  -- but the item itself is looked at first, in each entry
  pub addition_looked_at_first :
      map (adds_to_first anna)
      ((item_of_tag 1 ∷ []) ∷ (given_item 4 128 0 [] ∷ [])
      ∷ (given_item 4 0 0 (replicate 16385 65) ∷ [])
      ∷ (item_of_tag 8 ∷ []) ∷ (item_of_tag 2 ∷ item_of_tag 15 ∷ []) ∷ [])
      ≡ refused_by_item 48 0 ∷ refused_by_item 48 0 ∷ refused_by_item 48 0 ∷ refused_by_item 48 0
      ∷ refused_by_item 48 1 ∷ []
  pub addition_in_turn :
      map (adds_to_first anna)
      ((item_of_tag 4 ∷ item_of_tag 99 ∷ []) ∷ (item_of_tag 99 ∷ item_of_tag 4 ∷ [])
      ∷ (item_of_tag 2 ∷ item_of_tag 4 ∷ []) ∷ [])
      ≡ refused_by_item 49 0 ∷ refused_by_item 48 0 ∷ refused_by_item 49 1 ∷ []
  -- no number is left for it: that is looked at last
  pub addition_without_a_number :
      map (λ added. adds_to_sixth (after (sixth_after 4294967293) di) added)
      (replies 2 ∷ (item_of_tag 2 ∷ item_of_tag 99 ∷ []) ∷ [])
      ≡ refused_by_item 45 0 ∷ refused_by_item 48 1 ∷ []
  pub addition_with_the_last_number :
      items_made (adds_to_sixth (after (sixth_after 4294967293) di) (replies 1))
      ≡ new_item 4294967294 2 8 0 0 [] ∷ []
  pub addition_after_the_last_number :
      replies_in (adds_to_sixth (after (sixth_after 4294967294) di) (replies 1)
      ∷ adds_to_sixth (after (sixth_after 4294967294) anna) (item_of_tag 4 ∷ [])
      ∷ modify_text_info (after (sixth_after 4294967294) di) (changes 6 (1 ∷ []) (replies 1))
      ∷ modify_text_info (after (sixth_after 4294967294) di) (changes 6 (1 ∷ []) []) ∷ [])
      ≡ reply.Refused 45 0 ∷ reply.Refused 49 0 ∷ reply.Refused 45 0 ∷ reply.Done ∷ []
  -- What goes goes first, in the order of the list; what comes gets the next numbers
  pub text_changed :
      modify_text_info bo
      (changes 1 (6 ∷ 1 ∷ []) (given_item 1 64 3 (codes "g") ∷ given_item 2 32 0 (codes "h") ∷ []))
      ≡ without_guard (done_with
      (removes true 1 (6 ∷ 1 ∷ [])
      ++ adds true 1 (new_item 8 1 6 64 3 (codes "g") ∷ new_item 9 2 6 32 0 (codes "h") ∷ [])) [])
  -- by who asks, whoever wrote it
  pub text_changed_by_others :
      map (λ asked. items_made (adds_to_first asked (item_of_tag 7 ∷ []))) (anna ∷ strong ∷ [])
      ≡ (new_item 8 7 5 0 0 [] ∷ []) ∷ (new_item 8 7 7 0 0 [] ∷ []) ∷ []
  pub text_not_changed : modify_text_info bo (changes 1 [] []) ≡ without_guard (done_with [] [])
  pub changes_fit :
      all_fit (effects_of
      (modify_text_info bo (changes 1 (6 ∷ 1 ∷ []) (item_of_tag 1 ∷ item_of_tag 2 ∷ []))))
      rows
      ≡ true
  -- The same of a conference
  pub conference_refused :
      early_of (map (λ asked. modify_conf_info asked (changes 0 (99 ∷ []) (item_of_tag 99 ∷ [])))
      (stranger ∷ bo ∷ [])
      ++ map (λ number. modify_conf_info bo (changes number (99 ∷ []) (item_of_tag 99 ∷ [])))
      (99 ∷ 11 ∷ 10 ∷ 9 ∷ [])
      ++ modify_conf_info anna (changes 11 [] []) ∷ modify_conf_info strong (changes 11 [] []) ∷ [])
      ≡ refusal 6 0 ∷ refusal 8 0 ∷ refusal 9 99 ∷ refusal 9 11 ∷ None ∷ None ∷ None ∷ None ∷ []
  pub conference_deletion_refused :
      map (deletes_of_open bo)
      ((5 ∷ []) ∷ (2 ∷ []) ∷ (4 ∷ 4 ∷ []) ∷ (1 ∷ []) ∷ (4 ∷ 3 ∷ []) ∷ (1 ∷ 5 ∷ []) ∷ [])
      ≡ refused_by_item 48 0 ∷ refused_by_item 48 0 ∷ refused_by_item 48 1 ∷ refused_by_item 49 0
      ∷ refused_by_item 49 1 ∷ refused_by_item 49 0 ∷ []
  pub conference_deletion_of_the_hidden :
      map (λ asked. deletes_of_open asked (4 ∷ [])) (di ∷ cy ∷ [])
      ≡ replicate 2 (refused_by_item 48 0)
  pub conference_deleted_of :
      deletes_of_open bo (4 ∷ []) ∷ deletes_of_open anna (4 ∷ 1 ∷ 2 ∷ [])
      ∷ deletes_of_open strong (3 ∷ 4 ∷ []) ∷ []
      ≡ without_guard (done_with (removes false 9 (4 ∷ [])) [])
      ∷ without_guard (done_with (removes false 9 (4 ∷ 1 ∷ 2 ∷ [])) [])
      ∷ without_guard (done_with (removes false 9 (3 ∷ 4 ∷ [])) []) ∷ []
  pub conference_tags :
      replies_in (map (λ tag. adds_to_open anna (item_of_tag tag ∷ [])) (3 ∷ 10 ∷ 13 ∷ 14 ∷ []))
      ≡ replicate 4 reply.Done
  pub conference_tags_refused :
      map (λ tag. adds_to_open anna (item_of_tag tag ∷ []))
      (0 ∷ 1 ∷ 2 ∷ 4 ∷ 5 ∷ 6 ∷ 7 ∷ 8 ∷ 9 ∷ 11 ∷ 12 ∷ 15 ∷ 16 ∷ [])
      ≡ replicate 13 (refused_by_item 48 0)
  pub conference_tags_of_many :
      replies_in
      (map (λ tag. adds_to_open anna (replicate 3 (item_of_tag tag))) (3 ∷ 10 ∷ 13 ∷ 14 ∷ []))
      ≡ replicate 4 reply.Done
  -- a reference too is for the owner of it
  pub conference_tags_by_others :
      map (λ tag. adds_to_open bo (item_of_tag tag ∷ [])) (3 ∷ 10 ∷ 13 ∷ 14 ∷ [])
      ≡ replicate 4 (refused_by_item 49 0)
  pub conference_items_by_others :
      replies_in (map (λ asked. adds_to_open asked (item_of_tag 10 ∷ []))
      (anna ∷ strong ∷ cy ∷ not_strong ∷ stranger ∷ []))
      ≡ reply.Done ∷ reply.Done ∷ reply.Refused 49 0 ∷ reply.Done ∷ reply.Refused 6 0 ∷ []
  pub conference_additions_refused :
      map (adds_to_open anna)
      ((item_of_tag 3 ∷ given_item 3 0 0 (replicate 16385 65) ∷ []) ∷ (given_item 3 128 0 [] ∷ [])
      ∷ (item_of_tag 10 ∷ item_of_tag 10 ∷ given_item 3 1 0 [] ∷ []) ∷ [])
      ≡ refused_by_item 48 1 ∷ refused_by_item 48 0 ∷ refused_by_item 48 2 ∷ []
  pub conference_additions_without_a_number :
      replies_in (adds_to_open (after (open_after 4294967293) anna) (item_of_tag 3 ∷ [])
      ∷ adds_to_open (after (open_after 4294967293) anna) (item_of_tag 3 ∷ item_of_tag 3 ∷ [])
      ∷ adds_to_open (after (open_after 4294967294) anna) (item_of_tag 8 ∷ [])
      ∷ adds_to_open (after (open_after 4294967294) anna) (item_of_tag 3 ∷ [])
      ∷ adds_to_open (after (open_after 4294967294) anna) [] ∷ [])
      ≡ reply.Done ∷ reply.Refused 45 0 ∷ reply.Refused 48 0 ∷ reply.Refused 45 0 ∷ reply.Done ∷ []
  pub conference_changed :
      modify_conf_info anna
      (changes 9 (4 ∷ 1 ∷ []) (given_item 14 8 7 (codes "g") ∷ given_item 3 0 0 (codes "h") ∷ []))
      ≡ without_guard (done_with
      (removes false 9 (4 ∷ 1 ∷ [])
      ++ adds false 9 (new_item 5 14 5 8 7 (codes "g") ∷ new_item 6 3 5 0 0 (codes "h") ∷ [])) [])
  pub conference_changed_by_strength : items_made (adds_to_open strong (item_of_tag 3 ∷ []))
      ≡ new_item 5 3 7 0 0 [] ∷ []
  pub conference_changed_after_some_left_out :
      items_made (adds_to_open (after (open_after 50) anna) (item_of_tag 3 ∷ []))
      ≡ new_item 51 3 5 0 0 [] ∷ []
  -- and of a letterbox, which has one redirection
  pub letterbox_tags :
      replies_in (map (λ tag. adds_to_bo bo (item_of_tag tag ∷ [])) (3 ∷ 8 ∷ 10 ∷ 13 ∷ 14 ∷ []))
      ≡ reply.Done ∷ reply.Refused 48 0 ∷ reply.Done ∷ reply.Done ∷ reply.Done ∷ []
  pub letterbox_tags_refused :
      map (λ tag. adds_to_bo bo (item_of_tag tag ∷ []))
      (1 ∷ 2 ∷ 4 ∷ 5 ∷ 6 ∷ 7 ∷ 9 ∷ 15 ∷ [])
      ≡ replicate 8 (refused_by_item 48 0)
  pub letterbox_tags_by_others :
      map (λ tag. modify_conf_info di (changes 5 [] (item_of_tag tag ∷ [])))
      (3 ∷ 8 ∷ 10 ∷ 13 ∷ 14 ∷ [])
      ≡ replicate 5 (refused_by_item 49 0)
  pub letterbox_tags_of_many :
      replies_in (map (λ tag. modify_conf_info anna (changes 5 [] (replicate 2 (item_of_tag tag))))
      (3 ∷ 8 ∷ 10 ∷ 13 ∷ 14 ∷ []))
      ≡ reply.Done ∷ reply.Refused 48 1 ∷ reply.Done ∷ reply.Done ∷ reply.Done ∷ []
  pub letterbox_changed :
      effects_of (modify_conf_info bo (changes 6 (1 ∷ []) (given_item 8 0 0 (codes "g") ∷ [])))
      ≡ removes false 6 (1 ∷ []) ++ adds false 6 (new_item 3 8 6 0 0 (codes "g") ∷ [])
  pub letterbox_changed_by_others :
      replies_in
      (adds_to_bo di (item_of_tag 3 ∷ []) ∷ deletes_of_bo di (1 ∷ []) ∷ deletes_of_bo di (2 ∷ [])
      ∷ deletes_of_bo anna (2 ∷ []) ∷ adds_to_bo strong (item_of_tag 10 ∷ []) ∷ [])
      ≡ reply.Refused 49 0 ∷ reply.Refused 49 0 ∷ reply.Done ∷ reply.Refused 48 0 ∷ reply.Done ∷ []
  -- by its person no more, where another supervises it
  pub letterbox_of_another :
      replies_in (adds_to_bo (after (under 5 6) bo) (item_of_tag 10 ∷ [])
      ∷ adds_to_bo (after (under 5 6) anna) (item_of_tag 10 ∷ [])
      ∷ deletes_of_bo (after (under 5 6) bo) (2 ∷ [])
      ∷ deletes_of_bo (after (under 5 6) bo) (1 ∷ [])
      ∷ deletes_of_bo (after (under 5 6) anna) (2 ∷ []) ∷ [])
      ≡ reply.Refused 49 0 ∷ reply.Done ∷ reply.Refused 48 0 ∷ reply.Done ∷ reply.Done ∷ []
