-- The aux-items of what is made, those that a comment inherits, and those that go with what is
-- deleted, worked out by hand.
use Rattle.std.specs.Prelude.{◌≡◌, ℕ, true, false, List, [], ◌∷◌, ◌++◌, map, codes, zero, suc}
use Rattle.std.specs.Prelude.{replicate}
use Rattle.kom_types.specs.declared.aux_items.AuxInput.{AuxInput}
use Rattle.kom_types.specs.declared.aux_items.AuxRow.{AuxRow}
use Rattle.kom_types.specs.declared.effects.ConfField.TheVariants as field
use Rattle.kom_types.specs.declared.effects.Counter.TheVariants as counter
use Rattle.kom_types.specs.declared.effects.Effect.TheVariants as effect
use Rattle.kom_types.specs.declared.replies.Reply.TheVariants as reply
use Rattle.kom_types.specs.declared.texts.MiscInput.{MiscInput}
use Rattle.kom_types.specs.tables.Persons.{password_hash}
use Rattle.kom_rows.specs.Cast.{cast_over, one_seat, links, item, new_item, adds, given_item}
use Rattle.kom_rows.specs.Cast.{new_misc, text, new_conference, new_person, after, early_of}
use Rattle.kom_model.specs.Effects.{all_fit}
use Rattle.kom_model.specs.Db.{items_of}
use Rattle.kom_model.specs.Initial.{initial}
use Rattle.kom_rows.specs.ItemRows.{cast, rows, of_first, of_sixth, of_bo, item_of_tag, replies}
use Rattle.kom_rows.specs.ItemRows.{refused_by_item}
use Rattle.kom_rows.specs.ItemRows.{removes, effects_of, items_made}
use Rattle.kom_model.specs.calls.Call.{Asked, Definition, done_with, without_guard}
use Rattle.kom_model.specs.calls.Conferences.{create_conf, delete_conf}
use Rattle.kom_model.specs.calls.Guards.{refusal}
use Rattle.kom_model.specs.calls.NewTexts.{create_text, create_anonymous_text}
use Rattle.kom_model.specs.calls.Persons.{create_person}
use Rattle.kom_model.specs.calls.Texts.{add_comment, delete_text}
open cast use {with_effects, stranger, anna, bo, di}

-- the items of a text of Bo's with these
abbrev pub made_with : List MiscInput → List AuxInput → List AuxRow
made_with misc items = items_made (create_text bo (text [] misc items))

abbrev pub to_fourth : MiscInput
to_fourth = new_misc 2 4

abbrev pub to_fifth : MiscInput
to_fifth = new_misc 2 5

-- what a new comment inherits of text 4, and of text 5, from these numbers on
abbrev pub p : ℕ → AuxRow
p number = item number 3 8 64 0 (codes "p")

abbrev pub q : ℕ → AuxRow
q number = item number 3 8 64 1 (codes "q")

abbrev pub t : ℕ → AuxRow
t number = item number 1 5 64 2 (codes "t")

abbrev pub di_read : ℕ → AuxRow
di_read number = item number 7 8 64 0 []

abbrev pub u : ℕ → AuxRow
u number = item number 2 7 120 4294967294 (codes "u")

abbrev pub v : ℕ → AuxRow
v number = item number 1 6 64 0 (codes "v")

abbrev pub bo_read : ℕ → AuxRow
bo_read number = item number 7 6 64 4 []

abbrev pub w : ℕ → AuxRow
w number = item number 3 6 64 6 (codes "w")

-- as many fast replies as they become items of Bo's, from this number on
abbrev pub replies_from : ℕ → ℕ → List AuxRow
replies_from first zero = []
replies_from first (suc many) = new_item first 2 6 0 0 [] ∷ replies_from (suc first) many

-- person 5, who began the server, asks
abbrev pub beginner : Asked
beginner = (cast_over (initial [] 0) one_seat).anna

-- the server after a call of its beginner
abbrev pub then : Definition → Asked → Asked
then definition asked = after (effects_of definition) asked

-- three items of which the last two are inherited less often, on a text; a comment to it; and a
-- comment to that
abbrev pub first_text : Definition
first_text =
    create_text beginner
    (text (codes "a") []
    (given_item 3 64 0 (codes "p") ∷ given_item 3 64 1 (codes "q") ∷ given_item 3 64 2 (codes "r")
    ∷ []))

abbrev pub second_text : Definition
second_text =
    create_text (then first_text beginner) (text (codes "b") (new_misc 2 1 ∷ []) [])

abbrev pub third_text : Definition
third_text =
    create_text (then second_text (then first_text beginner))
    (text (codes "c") (new_misc 2 2 ∷ []) [])

-- what becomes of the items of what is made and of what is deleted, in cases that were worked out
-- by hand
pub record NewItemRows : Type 0 where
  -- Who makes a text owns it, and its items come after what it names
  pub text_made :
      create_text bo (text (codes "Hi") (new_misc 0 9 ∷ [])
      (given_item 1 0 0 (codes "g") ∷ given_item 7 16 9 [] ∷ given_item 15 0 0 [] ∷ []))
      ≡ without_guard (record {
        reply = reply.Number 7;
        effects =
            effect.TextAdded 7 6 30 (codes "Hi")
            ∷ effect.RecipientAdded (record {
              text = 7;
              conference = 9;
              tag = 0;
              local = 6;
              sender = 0;
              at = 30;
            })
            ∷ adds true 7
            (new_item 1 1 6 0 0 (codes "g") ∷ new_item 2 7 6 16 9 [] ∷ new_item 3 15 6 0 0 [] ∷ [])
            ++ effect.ConfField 9 (field.LastWritten 30) ∷ effect.Created 6 3 7
            ∷ effect.Counted 6 counter.CreatedBytes 2 ∷ [];
        changes = [];
      })
  -- also where it has no author
  pub anonymous_text_made :
      create_anonymous_text bo
      (text (codes "Hi") [] (given_item 4 0 0 [] ∷ given_item 2 0 0 (codes "g") ∷ []))
      ≡ without_guard (record {
        reply = reply.Number 7;
        effects =
            effect.TextAdded 7 0 30 (codes "Hi")
            ∷ adds true 7 (new_item 1 4 6 0 0 [] ∷ new_item 2 2 6 0 0 (codes "g") ∷ []);
        changes = [];
      })
  pub items_of_a_text_refused :
      map (λ items. create_text bo (text [] [] items))
      ((item_of_tag 1 ∷ item_of_tag 1 ∷ []) ∷ (item_of_tag 99 ∷ [])
      ∷ (item_of_tag 2 ∷ item_of_tag 8 ∷ [])
      ∷ (given_item 2 128 0 [] ∷ []) ∷ (item_of_tag 7 ∷ item_of_tag 7 ∷ []) ∷ replies 101
      ∷ (given_item 2 0 0 (replicate 16385 65) ∷ []) ∷ [])
      ≡ refused_by_item 48 1 ∷ refused_by_item 48 0 ∷ refused_by_item 48 1 ∷ refused_by_item 48 0
      ∷ refused_by_item 48 1 ∷ refused_by_item 48 100
      ∷ refused_by_item 48 0 ∷ []
  pub items_of_an_anonymous_text_refused :
      map (λ items. create_anonymous_text bo (text [] [] items))
      ((item_of_tag 1 ∷ item_of_tag 1 ∷ []) ∷ (item_of_tag 99 ∷ []) ∷ [])
      ≡ refused_by_item 48 1 ∷ refused_by_item 48 0 ∷ []
  -- after all that is named, and after the numbers
  pub items_of_a_text_last :
      early_of (create_text bo (text [] (new_misc 0 99 ∷ []) (item_of_tag 99 ∷ []))
      ∷ create_text stranger (text [] [] (item_of_tag 99 ∷ []))
      ∷ create_text (record bo { db = record rows { next_text = 4294967295 } })
      (text [] [] (item_of_tag 99 ∷ [])) ∷ [])
      ≡ refusal 9 99 ∷ refusal 6 0 ∷ refusal 45 0 ∷ []
  -- A comment inherits: without a limit for ever, else once less, and not at the last time
  pub inherited_by_a_comment : made_with (to_fourth ∷ []) []
      ≡ p 1 ∷ q 2 ∷ t 3 ∷ di_read 4 ∷ u 5 ∷ []
  -- after what is given
  pub inherited_after_the_given :
      made_with (new_misc 0 9 ∷ to_fourth ∷ []) (given_item 3 64 2 (codes "g") ∷ item_of_tag 7 ∷ [])
      ≡ new_item 1 3 6 64 2 (codes "g") ∷ new_item 2 7 6 0 0 [] ∷ p 3 ∷ q 4 ∷ t 5 ∷ di_read 6 ∷ u 7
      ∷ []
  -- from each text in the order of naming, and once what stands once
  pub inherited_in_turn :
      map (λ misc. made_with misc [])
      ((to_fourth ∷ to_fifth ∷ []) ∷ (to_fifth ∷ new_misc 0 9 ∷ to_fourth ∷ []) ∷ [])
      ≡ (p 1 ∷ q 2 ∷ t 3 ∷ di_read 4 ∷ u 5 ∷ bo_read 6 ∷ w 7 ∷ [])
      ∷ (v 1 ∷ di_read 2 ∷ bo_read 3 ∷ w 4 ∷ p 5 ∷ q 6 ∷ u 7 ∷ []) ∷ []
  pub inherited_beside_the_given :
      made_with (to_fourth ∷ to_fifth ∷ []) (item_of_tag 1 ∷ item_of_tag 7 ∷ [])
      ≡ new_item 1 1 6 0 0 [] ∷ new_item 2 7 6 0 0 [] ∷ p 3 ∷ q 4 ∷ di_read 5 ∷ u 6 ∷ w 7 ∷ []
  -- not past the limit
  pub inherited_to_the_limit :
      map (λ many. made_with (to_fourth ∷ []) (replies many)) (98 ∷ 99 ∷ 100 ∷ [])
      ≡ (replies_from 1 98 ++ p 99 ∷ q 100 ∷ []) ∷ (replies_from 1 99 ++ p 100 ∷ [])
      ∷ replies_from 1 100 ∷ []
  -- from no other text, and by no footnote
  pub none_inherited :
      map (λ misc. made_with misc [])
      ([] ∷ (new_misc 2 1 ∷ []) ∷ (new_misc 4 5 ∷ []) ∷ (new_misc 2 6 ∷ new_misc 4 1 ∷ []) ∷ [])
      ≡ replicate 4 []
  -- by one without an author too
  pub inherited_without_an_author :
      items_made (create_anonymous_text di (text [] (to_fifth ∷ []) (item_of_tag 7 ∷ [])))
      ≡ new_item 1 7 8 0 0 [] ∷ v 2 ∷ bo_read 3 ∷ w 4 ∷ []
  -- a text that becomes a comment later inherits nothing
  pub comment_inherits_nothing :
      add_comment di 6 4 ≡ without_guard (done_with (links 6 4 false 8 30 ∷ []) [])
  pub comment_fits :
      all_fit (effects_of (create_text bo (text [] (to_fourth ∷ to_fifth ∷ []) (replies 98)))) rows
      ≡ true
  -- three texts in a row, as they are told
  pub inherited_of_a_row : map items_made (first_text ∷ second_text ∷ third_text ∷ [])
      ≡ (new_item 1 3 5 64 0 (codes "p") ∷ new_item 2 3 5 64 1 (codes "q")
      ∷ new_item 3 3 5 64 2 (codes "r") ∷ [])
      ∷ (new_item 1 3 5 64 0 (codes "p") ∷ new_item 2 3 5 64 1 (codes "r") ∷ [])
      ∷ (new_item 1 3 5 64 0 (codes "p") ∷ []) ∷ []
  -- Who makes a conference owns it
  pub conference_made :
      create_conf anna
      (new_conference 8 (given_item 10 0 0 (codes "g") ∷ given_item 3 32 5 [] ∷ []))
      ≡ without_guard (record {
        reply = reply.Number 12;
        effects =
            effect.ConfAdded 12 (codes "New") 8 30 5 5
            ∷ adds false 12 (new_item 1 10 5 0 0 (codes "g") ∷ new_item 2 3 5 32 5 [] ∷ [])
            ++ effect.Counted 5 counter.CreatedConferences 1 ∷ [];
        changes = [];
      })
  pub items_of_a_conference_refused :
      map (λ items. create_conf anna (new_conference 8 items))
      ((item_of_tag 8 ∷ []) ∷ (item_of_tag 10 ∷ item_of_tag 1 ∷ []) ∷ (given_item 10 2 0 [] ∷ [])
      ∷ replicate 101 (item_of_tag 10) ∷ [])
      ≡ refused_by_item 48 0 ∷ refused_by_item 48 1 ∷ refused_by_item 48 0 ∷ refused_by_item 48 100
      ∷ []
  pub items_of_a_conference_last :
      early_of (create_conf anna
      (record (new_conference 8 (item_of_tag 8 ∷ [])) { name = codes "open" })
      ∷ create_conf (record anna { db = record rows { next_conference = 65536 } })
      (new_conference 8 (item_of_tag 8 ∷ [])) ∷ [])
      ≡ refusal 20 0 ∷ refusal 45 0 ∷ []
  -- and who makes a person owns its letterbox; if nobody does, the person made the items
  pub person_made :
      create_person stranger
      (new_person (given_item 8 0 0 (codes "g") ∷ given_item 10 0 0 (codes "h") ∷ []))
      ≡ without_guard (record {
        reply = reply.Number 12;
        effects =
            effect.ConfAdded 12 (codes "Eva") 152 30 12 12 ∷ effect.PersonAdded 12 7168 0 30
            ∷ effect.Password 12 (password_hash 12 []) ∷ effect.MemberSet 12 12 0 255 12 30 0
            ∷ adds false 12
            (new_item 1 8 12 0 0 (codes "g") ∷ new_item 2 10 12 0 0 (codes "h") ∷ []);
        changes = [];
      })
  pub person_made_by_another :
      create_person anna (new_person (item_of_tag 8 ∷ []))
      ≡ without_guard (record {
        reply = reply.Number 12;
        effects =
            effect.ConfAdded 12 (codes "Eva") 152 30 5 12 ∷ effect.PersonAdded 12 7168 0 30
            ∷ effect.Password 12 (password_hash 12 []) ∷ effect.MemberSet 12 12 0 255 5 30 0
            ∷ adds false 12 (new_item 1 8 5 0 0 [] ∷ [])
            ++ effect.Counted 5 counter.CreatedPersons 1 ∷ [];
        changes = [];
      })
  pub items_of_a_person_refused :
      map (λ items. create_person stranger (new_person items))
      ((item_of_tag 8 ∷ item_of_tag 8 ∷ []) ∷ (item_of_tag 1 ∷ [])
      ∷ (item_of_tag 10 ∷ given_item 3 128 0 [] ∷ []) ∷ [])
      ≡ refused_by_item 48 1 ∷ refused_by_item 48 0 ∷ refused_by_item 48 1 ∷ []
  pub items_of_a_person_last :
      early_of (create_person stranger
      (record (new_person (item_of_tag 1 ∷ [])) { name = codes "bo" })
      ∷ create_person (record anna { db = record rows { next_conference = 65536 } })
      (new_person (item_of_tag 1 ∷ [])) ∷ [])
      ≡ refusal 21 0 ∷ refusal 45 0 ∷ []
  -- what is made fits
  pub made_fit :
      map (λ definition. all_fit (effects_of definition) rows)
      (create_conf anna (new_conference 8 (item_of_tag 10 ∷ item_of_tag 10 ∷ []))
      ∷ create_person stranger (new_person (item_of_tag 8 ∷ [])) ∷ [])
      ≡ true ∷ true ∷ []
  -- A text goes after its items, which go after links, recipients and marks
  pub text_deleted : delete_text bo 1
      ≡ without_guard (done_with
      (effect.LinkGone 5 1 false ∷ effect.RecipientGone 1 9 ∷ effect.MarkGone 5 1
      ∷ removes true 1 (1 ∷ 2 ∷ 3 ∷ 4 ∷ 5 ∷ 6 ∷ []) ++ effect.TextGone 1 ∷ []) [])
  pub text_with_an_item_deleted : effects_of (delete_text di 6)
      ≡ effect.RecipientGone 6 9 ∷ effect.AuxGone true 6 1 ∷ effect.TextGone 6 ∷ []
  -- a conference likewise
  pub conference_deleted : delete_conf anna 9
      ≡ without_guard (done_with
      (effect.RecipientGone 1 9 ∷ effect.RecipientGone 2 9 ∷ effect.RecipientGone 4 9
      ∷ effect.RecipientGone 5 9 ∷ effect.RecipientGone 6 9
      ∷ removes false 9 (1 ∷ 2 ∷ 3 ∷ 4 ∷ []) ++ effect.ConfGone 9 ∷ []) [])
  -- and a letterbox, before its person
  pub letterbox_deleted : effects_of (delete_conf bo 6)
      ≡ effect.Counted 6 counter.TimePresent 20 ∷ effect.MemberGone 6 6
      ∷ removes false 6 (1 ∷ 2 ∷ []) ++ effect.PersonGone 6 ∷ effect.ConfGone 6 ∷ []
  pub deletions_fit :
      map (λ definition. all_fit (effects_of definition) rows)
      (delete_text bo 1 ∷ delete_text di 6 ∷ delete_conf anna 9 ∷ delete_conf bo 6 ∷ [])
      ≡ replicate 4 true
  pub items_are_gone :
      map (λ on_text. items_of (with_effects (effects_of (delete_conf bo 6))) on_text 6)
      (true ∷ false ∷ [])
      ≡ of_sixth ∷ [] ∷ []
  pub items_of_others_stay :
      map (items_of (with_effects (effects_of (delete_text di 6))) true) (1 ∷ 6 ∷ [])
      ≡ of_first ∷ [] ∷ []
  pub items_of_the_letterbox_stay :
      items_of (with_effects (effects_of (delete_text di 6))) false 6 ≡ of_bo
  -- what a person made stays where it is, as it is
  pub items_of_the_person_stay :
      items_of (with_effects (effects_of (delete_conf di 8))) true 1 ≡ of_first
