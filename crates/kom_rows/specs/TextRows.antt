-- What becomes of texts, and what calls over them come to, worked out by hand.
use Rattle.std.specs.Prelude.{◌≡◌, ℕ, Bool, true, false, List, [], ◌∷◌, ◌++◌, map, codes, ◌+◌, zero}
use Rattle.std.specs.Prelude.{suc, replicate, None}
use Rattle.kom_types.specs.declared.limits.TheConstants.{LAST_DRAWN, LONGEST_BODY, MOST_MARKS}
use Rattle.kom_types.specs.declared.limits.TheConstants.{MOST_RECIPIENTS}
use Rattle.kom_types.specs.declared.effects.ConfField.TheVariants as field
use Rattle.kom_types.specs.declared.effects.Counter.TheVariants as counter
use Rattle.kom_types.specs.declared.effects.Effect.{Effect}
use Rattle.kom_types.specs.declared.effects.Effect.TheVariants as effect
use Rattle.kom_types.specs.declared.replies.Reply.TheVariants as reply
use Rattle.kom_types.specs.declared.texts.Block.TheVariants.{Sparse, Dense}
use Rattle.kom_types.specs.declared.texts.TextLink.{TextLink}
use Rattle.kom_types.specs.declared.texts.LocalText.{LocalText}
use Rattle.kom_types.specs.declared.texts.MarkRow.{MarkRow}
use Rattle.kom_types.specs.declared.texts.MiscInput.{MiscInput}
use Rattle.kom_types.specs.declared.texts.NewText.{NewText}
use Rattle.kom_types.specs.declared.texts.Recipient.{Recipient}
use Rattle.kom_model.specs.declared.viewers.Viewer.{Viewer}
use Rattle.kom_rows.specs.Cast.{Cast, cast_over, one_seat, after, makes, makes_person, joins}
use Rattle.kom_rows.specs.Cast.{person, nobody, strong_nobody, recipient_row, sends, link, new_misc}
use Rattle.kom_model.specs.Db.{Db, next_text_of, next_local_of, next_created_of, locals_of}
use Rattle.kom_model.specs.Db.{created_by}
use Rattle.kom_model.specs.Effects.{fits, apply_all, all_fit}
use Rattle.kom_model.specs.Effects.{most_links}
use Rattle.kom_model.specs.Initial.{initial}
use Rattle.kom_model.specs.Rights.{reads, may_submit}
use Rattle.kom_model.specs.Shown.{shows_recipient}
use Rattle.kom_model.specs.calls.Call.{Asked, answer, done_with}
use Rattle.kom_model.specs.calls.Guards.{Guard, refusal}
use Rattle.kom_model.specs.calls.NewTexts.{create_text, create_anonymous_text}
use Rattle.kom_model.specs.calls.Texts as Texts

-- a comment, or a footnote, that a text was made with
abbrev pub links : ℕ → ℕ → Bool → Effect
links child parent footnote = effect.LinkAdded (link child parent footnote 0 20)

abbrev pub writes : ℕ → ℕ → List ℕ → Effect
writes text author body = effect.TextAdded text author 20 body

-- Persons 7 and 9; an open conference 6, and a protected one 8, which takes texts of 9; 5
-- supervises both, and 9 is a member of 8. Text 1 is by 5 to 6, and to 8 as one that is shown to
-- few; 2 by 5 to 8, a comment and a footnote to 1; 3 without author and recipients, a comment to 1;
-- 4 by 7, and 5 by 9, to 6. The person 7 has marks on 4 and 1.
abbrev pub made_rows : List Effect
made_rows =
    makes 6 (codes "Open") 0 ∷ makes_person 7 (codes "Bo") ++ makes 8 (codes "Closed") 128
    ∷ makes_person 9 (codes "Cy") ++ joins 9 8 1
    ∷ effect.ConfField 8 (field.PermittedSubmitters 9)
    ∷ writes 1 5 (codes "Hello") ∷ sends 1 6 0 1 ∷ sends 1 8 15 1 ∷ effect.Created 5 1 1
    ∷ writes 2 5 (codes "b") ∷ sends 2 8 0 2 ∷ links 2 1 false ∷ effect.Created 5 2 2
    ∷ writes 3 0 [] ∷ links 3 1 false
    ∷ writes 4 7 (codes "d") ∷ sends 4 6 0 2 ∷ effect.Created 7 1 4
    ∷ writes 5 9 (codes "e") ∷ sends 5 6 1 3 ∷ effect.Created 9 1 5
    ∷ effect.LinkAdded (link 2 1 true 5 25) ∷ effect.MarkSet 7 4 9 ∷ effect.MarkSet 7 1 100 ∷ []

abbrev pub rows : Db
rows = apply_all made_rows (initial [] 0)

abbrev pub cast : Cast
cast = cast_over rows one_seat

open cast use {with_effects, asked, anna, high_anna as strong}

-- without text 5, which is the last of all, of its author's and in conference 6; and without text 4
abbrev pub without_last : Db
without_last = with_effects (effect.RecipientGone 5 6 ∷ effect.TextGone 5 ∷ [])

abbrev pub without_fourth : Db
without_fourth =
    with_effects (effect.RecipientGone 4 6 ∷ effect.MarkGone 7 4 ∷ effect.TextGone 4 ∷ [])

abbrev pub bo : Asked
bo = asked 7 0

abbrev pub cy : Asked
cy = asked 9 0

-- what Bo asks after these effects, or where the next text has this number
abbrev pub bo_after : List Effect → Asked
bo_after effects = after effects bo

abbrev pub bo_at : ℕ → Asked
bo_at next = record bo { db = record rows { next_text = next } }

-- what a session asks where these are all recipients, or all links
abbrev pub with_recipients : Asked → List Recipient → Asked
with_recipients asked list = record asked { db = record rows { recipients = list } }

abbrev pub with_links : Asked → List TextLink → Asked
with_links asked list = record asked { db = record rows { links = list } }

-- as many marks of Bo's on texts from 4 on, the greatest first
abbrev pub marks_down : ℕ → List MarkRow
marks_down zero = []
marks_down (suc many) = record { person = 7; text = many + 4; kind = 0 } ∷ marks_down many

abbrev pub with_marks : ℕ → Asked
with_marks many = record bo { db = record rows { marks = marks_down many } }

abbrev pub text : List ℕ → List MiscInput → NewText
text body items = record { body = body; misc_inputs = items; aux_items = [] }

-- two lines and a byte more
abbrev pub lines : List ℕ
lines = 72 ∷ 105 ∷ 10 ∷ 10 ∷ 33 ∷ []

-- what refuses a text, or one without an author, in which a session names these
abbrev pub refuses : Asked → List MiscInput → Guard
refuses asked items = (create_text asked (text [] items)).early

abbrev pub refuses_anonymous : Asked → List MiscInput → Guard
refuses_anonymous asked items = (create_anonymous_text asked (text [] items)).early

abbrev pub at : ℕ → ℕ → LocalText
at local text = record { local = local; text = text }

-- whether text 1 shows that it was sent to 8, if it has this author and this person added that
abbrev pub shows_blind : Viewer → ℕ → ℕ → Bool
shows_blind viewer author sender =
    shows_recipient rows viewer author (record (recipient_row 1 8 15 1) { sender = sender })

-- who may look: the supervisor, a stranger, a member, nobody, and who is shown all
abbrev pub viewers : List Viewer
viewers = person 5 ∷ person 7 ∷ person 9 ∷ nobody ∷ strong_nobody ∷ []

-- what becomes of texts, and what calls over them come to, in cases that were worked out by hand
pub record TextRows : Type 0 where
  -- numbers, and effects that fit
  pub all_are_made : all_fit made_rows (initial [] 0) ≡ true
  pub next_text : next_text_of rows ≡ 6
  pub next_locals : map (next_local_of rows) (6 ∷ 7 ∷ 8 ∷ []) ≡ 4 ∷ 1 ∷ 3 ∷ []
  pub next_created : map (next_created_of rows) (5 ∷ 7 ∷ 9 ∷ []) ≡ 3 ∷ 2 ∷ 2 ∷ []
  pub locals : locals_of rows 6 ≡ at 1 1 ∷ at 2 4 ∷ at 3 5 ∷ []
  pub locals_of_few : locals_of rows 8 ≡ at 1 1 ∷ at 2 2 ∷ []
  pub created : created_by rows 5 ≡ at 1 1 ∷ at 2 2 ∷ []
  pub created_by_nobody : created_by rows 0 ≡ []
  pub numbers_used : next_text_of without_last ≡ 6
  pub locals_used : next_local_of without_last 6 ≡ 4
  pub created_used : next_created_of without_last 9 ≡ 2
  pub created_gone : created_by without_last 9 ≡ []
  pub text_number_used :
      map (λ number. fits (writes number 7 []) without_last) (0 ∷ 4 ∷ 5 ∷ 6 ∷ 9 ∷ [])
      ≡ false ∷ false ∷ false ∷ true ∷ true ∷ []
  pub last_text_number :
      map (λ number. fits (writes number 7 []) rows) (4294967294 ∷ 4294967295 ∷ [])
      ≡ true ∷ false ∷ []
  pub local_used :
      map (λ local. fits (sends 4 8 0 local) rows) (2 ∷ 3 ∷ 7 ∷ 4294967294 ∷ 4294967295 ∷ [])
      ≡ false ∷ true ∷ true ∷ true ∷ false ∷ []
  pub number_left_out : next_text_of (with_effects (writes 9 7 [] ∷ [])) ≡ 10
  pub local_not_given_again :
      map (λ local. fits (sends 5 6 0 local) (with_effects (effect.RecipientGone 5 6 ∷ [])))
      (3 ∷ 4 ∷ [])
      ≡ false ∷ true ∷ []
  pub local_left_out : next_local_of (with_effects (sends 4 8 0 7 ∷ [])) 8 ≡ 8
  pub recipient_twice : fits (sends 1 6 1 4) rows ≡ false
  pub recipient_of_another_tag : fits (sends 4 8 2 3) rows ≡ false
  pub recipient_of_nothing :
      map (λ what. fits what rows) (sends 6 8 0 3 ∷ sends 4 10 0 1 ∷ []) ≡ false ∷ false ∷ []
  pub linked_twice : map (λ footnote. fits (links 2 1 footnote) rows) (false ∷ true ∷ [])
      ≡ false ∷ false ∷ []
  pub linked_otherwise :
      map (λ what. fits what rows) (links 1 2 false ∷ links 3 1 true ∷ []) ≡ true ∷ true ∷ []
  pub linked_to_nothing :
      map (λ what. fits what rows) (links 1 6 false ∷ links 6 1 false ∷ []) ≡ false ∷ false ∷ []
  pub gone_with_a_recipient : fits (effect.TextGone 5) rows ≡ false
  pub gone_with_a_link : fits (effect.TextGone 3) rows ≡ false
  pub gone_with_a_mark :
      fits (effect.TextGone 4) (with_effects (effect.RecipientGone 4 6 ∷ [])) ≡ false
  pub gone_already : fits (effect.TextGone 5) without_last ≡ false
  pub nothing_is_removed :
      map (λ what. fits what rows)
      (effect.RecipientGone 2 6 ∷ effect.LinkGone 1 2 false ∷ effect.LinkGone 3 1 true
      ∷ effect.MarkGone 7 5 ∷ [])
      ≡ false ∷ false ∷ false ∷ false ∷ []
  pub mark_of_nothing :
      map (λ what. fits what rows) (effect.MarkSet 6 1 0 ∷ effect.MarkSet 7 6 0 ∷ [])
      ≡ false ∷ false ∷ []
  pub numbered_twice : fits (effect.Created 9 2 5) rows ≡ false
  pub created_number_used :
      map (λ local. fits (effect.Created 9 local 6) (with_effects (writes 6 9 [] ∷ [])))
      (1 ∷ 2 ∷ 5 ∷ 4294967295 ∷ [])
      ≡ false ∷ true ∷ true ∷ false ∷ []
  pub recipient_past_the_limit :
      map (λ many. fits (sends 4 6 0 4)
      (with_recipients bo (replicate many (recipient_row 4 10 0 1))).db)
      (99 ∷ 100 ∷ [])
      ≡ true ∷ false ∷ []
  pub comment_past_the_limit :
      map (λ many. fits (links 4 1 false) (with_links bo (replicate many (link 9 1 false 0 20))).db)
      (999 ∷ 1000 ∷ [])
      ≡ true ∷ false ∷ []
  pub commented_past_the_limit :
      map (λ many. fits (links 4 1 false) (with_links bo (replicate many (link 4 9 false 0 20))).db)
      (999 ∷ 1000 ∷ [])
      ≡ true ∷ false ∷ []
  pub footnote_past_the_limit :
      map (λ many. fits (links 4 1 true) (with_links bo (replicate many (link 9 1 true 0 20))).db)
      (99 ∷ 100 ∷ [])
      ≡ true ∷ false ∷ []
  pub mark_past_the_limit :
      map (λ many. fits (effect.MarkSet 7 1 0) (with_marks many).db) (1999 ∷ 2000 ∷ [])
      ≡ true ∷ false ∷ []
  pub marked_past_the_limit : fits (effect.MarkSet 7 4 0) (with_marks 2000).db ≡ true
  pub created_left_out :
      next_created_of (with_effects (writes 6 9 [] ∷ effect.Created 9 5 6 ∷ [])) 9 ≡ 6
  -- rights
  pub readers : map (λ viewer. reads rows viewer 2) viewers
      ≡ true ∷ false ∷ true ∷ false ∷ true ∷ []
  pub readers_of_an_open_text : map (λ viewer. reads rows viewer 1) viewers
      ≡ true ∷ true ∷ true ∷ true ∷ true ∷ []
  pub readers_of_no_author : map (λ viewer. reads rows viewer 3) viewers
      ≡ false ∷ false ∷ false ∷ false ∷ true ∷ []
  pub readers_of_nothing : map (λ viewer. reads rows viewer 6) viewers
      ≡ false ∷ false ∷ false ∷ false ∷ false ∷ []
  pub read_by_its_author :
      map (λ viewer. reads (with_effects (effect.RecipientGone 4 6 ∷ [])) viewer 4) viewers
      ≡ false ∷ true ∷ false ∷ false ∷ true ∷ []
  pub submitters : map (λ viewer. may_submit rows viewer 8) viewers
      ≡ true ∷ false ∷ true ∷ false ∷ true ∷ []
  pub shown_to_few : map (λ viewer. shows_blind viewer 5 0) viewers
      ≡ true ∷ false ∷ true ∷ false ∷ true ∷ []
  pub shown_to_its_author : shows_blind (person 7) 7 0 ≡ true
  pub shown_to_its_sender : shows_blind (person 7) 5 7 ≡ true
  pub shown_to_all : shows_recipient rows (person 7) 5 (recipient_row 2 8 0 2) ≡ true
  -- calls that make texts
  pub text_made : create_text bo (text lines (new_misc 0 6 ∷ new_misc 2 1 ∷ []))
      ≡ record {
        early = None;
        rest = record {
          reply = reply.Number 6;
          effects =
              effect.TextAdded 6 7 30 lines
              ∷ effect.RecipientAdded (record (recipient_row 6 6 0 4) { at = 30 })
              ∷ effect.LinkAdded (link 6 1 false 0 30)
              ∷ effect.ConfField 6 (field.LastWritten 30)
              ∷ effect.Created 7 2 6
              ∷ effect.Counted 7 counter.CreatedLines 2
              ∷ effect.Counted 7 counter.CreatedBytes 5
              ∷ [];
          changes = [];
        };
      }
  pub effects_fit :
      all_fit
      (create_text bo (text lines (new_misc 0 6 ∷ new_misc 2 1 ∷ new_misc 4 4 ∷ []))).rest.effects
      rows
      ≡ true
  pub nothing_counted : (create_text bo (text [] [])).rest.effects
      ≡ effect.TextAdded 6 7 30 [] ∷ effect.Created 7 2 6 ∷ []
  pub text_without_author : create_anonymous_text bo (text lines (new_misc 1 9 ∷ []))
      ≡ record {
        early = None;
        rest = record {
          reply = reply.Number 6;
          effects =
              effect.TextAdded 6 0 30 lines
              ∷ effect.RecipientAdded (record (recipient_row 6 9 1 1) { at = 30 })
              ∷ effect.ConfField 9 (field.LastWritten 30)
              ∷ [];
          changes = [];
        };
      }
  pub nobody_writes : refuses (asked 0 0) (new_misc 0 0 ∷ []) ≡ refusal 6 0
  pub no_recipient : refuses bo (new_misc 0 0 ∷ []) ≡ refusal 8 0
  pub missing_recipient : refuses bo (new_misc 15 10 ∷ []) ≡ refusal 9 10
  pub recipient_named_twice : refuses bo (new_misc 0 6 ∷ new_misc 1 6 ∷ []) ≡ refusal 27 6
  pub may_not_submit : refuses bo (new_misc 0 8 ∷ []) ≡ refusal 11 8
  pub takes_no_anonymous : refuses_anonymous bo (new_misc 0 6 ∷ []) ≡ refusal 47 6
  pub named_twice_is_first : refuses_anonymous bo (new_misc 0 9 ∷ new_misc 1 9 ∷ new_misc 0 6 ∷ [])
      ≡ refusal 27 9
  pub submitting_is_first : refuses_anonymous bo (new_misc 0 8 ∷ []) ≡ refusal 11 8
  pub no_parent : refuses bo (new_misc 2 0 ∷ []) ≡ refusal 15 0
  pub hidden_parent : refuses bo (new_misc 2 2 ∷ new_misc 0 0 ∷ []) ≡ refusal 14 2
  pub parent_named_twice : refuses bo (new_misc 2 1 ∷ new_misc 2 1 ∷ []) ≡ refusal 28 1
  pub footnote_to_nothing : refuses bo (new_misc 4 0 ∷ []) ≡ refusal 15 0
  pub footnote_to_another : refuses bo (new_misc 4 1 ∷ []) ≡ refusal 37 1
  pub footnote_by_strength : refuses strong (new_misc 4 4 ∷ []) ≡ refusal 37 4
  pub footnote_without_author : refuses_anonymous bo (new_misc 4 4 ∷ []) ≡ refusal 37 4
  pub footnote_named_twice : refuses bo (new_misc 4 4 ∷ new_misc 4 4 ∷ []) ≡ refusal 29 4
  pub comment_and_footnote : refuses bo (new_misc 2 4 ∷ new_misc 4 4 ∷ []) ≡ None
  pub other_tags :
      map (λ tag. refuses bo (new_misc 0 6 ∷ new_misc tag 0 ∷ [])) (3 ∷ 5 ∷ 6 ∷ 7 ∷ 8 ∷ 9 ∷ [])
      ≡ refusal 25 1 ∷ refusal 25 1 ∷ refusal 25 1 ∷ refusal 25 1 ∷ refusal 25 1 ∷ refusal 25 1 ∷ []
  pub last_number : refuses (bo_at 4294967294) [] ≡ None
  pub past_the_last_number : refuses (bo_at 4294967295) (new_misc 0 6 ∷ []) ≡ refusal 45 0
  pub past_the_last_local : refuses (bo_after (sends 2 6 0 4294967294 ∷ [])) (new_misc 0 6 ∷ [])
      ≡ refusal 45 0
  pub past_the_last_created :
      map (λ guards. guards (bo_after (writes 6 7 [] ∷ effect.Created 7 4294967294 6 ∷ [])) [])
      (refuses ∷ refuses_anonymous ∷ [])
      ≡ refusal 45 0 ∷ None ∷ []
  pub limits :
      LONGEST_BODY ∷ LAST_DRAWN ∷ MOST_RECIPIENTS ∷ most_links false ∷ most_links true ∷ MOST_MARKS
      ∷ []
      ≡ 1048576 ∷ 4294967294 ∷ 100 ∷ 1000 ∷ 100 ∷ 2000 ∷ []
  pub recipients_at_the_limit :
      map (λ many. (Texts.add_recipient
      (with_recipients bo (replicate many (recipient_row 4 10 0 1))) 4 6 0).early) (99 ∷ 100 ∷ [])
      ≡ None ∷ refusal 33 4 ∷ []
  pub comments_at_the_limit :
      map (λ many. (Texts.add_comment
      (with_links bo (replicate many (link 9 1 false 0 20))) 4 1).early) (999 ∷ 1000 ∷ [])
      ≡ None ∷ refusal 34 1 ∷ []
  pub commented_at_the_limit :
      map (λ many. (Texts.add_comment
      (with_links bo (replicate many (link 4 9 false 0 20))) 4 1).early) (999 ∷ 1000 ∷ [])
      ≡ None ∷ refusal 34 4 ∷ []
  pub footnotes_at_the_limit :
      map (λ links. (Texts.add_footnote (with_links anna (replicate 100 links)) 1 2).early)
      (link 9 2 true 0 20 ∷ link 1 9 true 0 20 ∷ link 9 2 false 0 20 ∷ [])
      ≡ refusal 35 2 ∷ refusal 35 1 ∷ None ∷ []
  pub parent_at_the_limit :
      refuses (with_links bo (replicate 1000 (link 9 1 false 0 20))) (new_misc 2 1 ∷ [])
      ≡ refusal 34 1
  pub footnoted_at_the_limit :
      refuses (with_links bo (replicate 100 (link 9 4 true 0 20))) (new_misc 4 4 ∷ [])
      ≡ refusal 35 4
  pub marks_at_the_limit :
      map (λ many. (Texts.mark_text (with_marks many) 1 0).early) (1999 ∷ 2000 ∷ [])
      ≡ None ∷ refusal 36 0 ∷ []
  pub marked_at_the_limit : (Texts.mark_text (with_marks 2000) 4 0).early ≡ None
  -- texts that are told and deleted
  pub shown_stat : Texts.get_text bo 1 0 4294967295
      ≡ record {
        early = None;
        rest = record {
          reply = reply.Text (codes "Hello");
          effects = effect.Counted 7 counter.TextFetches 1 ∷ [];
          changes = [];
        };
      }
  pub text_cut : (Texts.get_text bo 1 1 3).rest.reply ≡ reply.Text (codes "ell")
  pub text_cut_to_one : (Texts.get_text bo 1 3 3).rest.reply ≡ reply.Text (codes "l")
  pub end_before_start : (Texts.get_text bo 1 3 2).rest.reply ≡ reply.Text []
  pub start_at_the_end : Texts.get_text bo 1 5 9
      ≡ record {
        early = None;
        rest = record {
          reply = reply.Text [];
          effects = effect.Counted 7 counter.TextFetches 1 ∷ [];
          changes = [];
        };
      }
  pub start_past_the_end : (Texts.get_text bo 1 6 9).early ≡ refusal 19 6
  pub text_hidden : (Texts.get_text bo 2 9 0).early ≡ refusal 14 2
  pub no_text : (Texts.get_text bo 0 0 0).early ≡ refusal 15 0
  pub told_to_nobody : (Texts.get_text (asked 0 0) 0 0 0).early ≡ refusal 6 0
  pub text_deleted : Texts.delete_text anna 1
      ≡ record {
        early = None;
        rest = done_with
            (effect.LinkGone 2 1 false
            ∷ effect.LinkGone 3 1 false
            ∷ effect.LinkGone 2 1 true
            ∷ effect.RecipientGone 1 6
            ∷ effect.RecipientGone 1 8
            ∷ effect.MarkGone 7 1
            ∷ effect.TextGone 1
            ∷ [])
            [];
      }
  pub deletion_fits : all_fit (Texts.delete_text anna 1).rest.effects rows ≡ true
  pub deleted_by_another :
      map (λ asked. (Texts.delete_text asked 4).early) (anna ∷ bo ∷ cy ∷ strong ∷ [])
      ≡ refusal 12 4 ∷ None ∷ refusal 12 4 ∷ None ∷ []
  -- recipients, links and marks
  pub recipient_added : Texts.add_recipient cy 4 8 15
      ≡ record {
        early = None;
        rest = done_with
            (effect.RecipientAdded (record (recipient_row 4 8 15 3) { sender = 9; at = 30 })
            ∷ effect.ConfField 8 (field.LastWritten 30)
            ∷ [])
            [];
      }
  pub another_kind : (Texts.add_recipient bo 1 6 2).early ≡ refusal 26 2
  pub recipient_there : (Texts.add_recipient bo 1 6 0).early ≡ refusal 27 6
  pub hidden_recipient_there : (Texts.add_recipient bo 1 8 0).early ≡ refusal 27 8
  pub recipient_refused : (Texts.add_recipient bo 4 8 0).early ≡ refusal 11 8
  pub recipient_missing : (Texts.add_recipient bo 4 10 2).early ≡ refusal 9 10
  pub recipient_taken : Texts.sub_recipient bo 4 6
      ≡ record { early = None; rest = done_with (effect.RecipientGone 4 6 ∷ []) [] }
  pub recipient_of_a_supervisor : (Texts.sub_recipient anna 4 6).early ≡ None
  pub recipient_of_a_sender :
      (Texts.sub_recipient
      (bo_after (effect.RecipientAdded (record (recipient_row 5 8 15 3) { sender = 7 }) ∷ [])) 5
      8).early
      ≡ None
  pub recipient_not_taken : (Texts.sub_recipient bo 1 6).early ≡ refusal 12 1
  pub recipient_not_shown : (Texts.sub_recipient bo 1 8).early ≡ refusal 30 8
  pub recipient_not_there : (Texts.sub_recipient bo 1 10).early ≡ refusal 30 10
  pub recipient_zero : (Texts.sub_recipient bo 1 0).early ≡ refusal 8 0
  pub comment_added : Texts.add_comment bo 4 1
      ≡ record { early = None; rest = done_with (effect.LinkAdded (link 4 1 false 7 30) ∷ []) [] }
  pub comment_to_itself : (Texts.add_comment bo 4 4).early ≡ refusal 12 4
  pub hidden_comments_itself : (Texts.add_comment bo 2 2).early ≡ refusal 14 2
  pub commented_already : (Texts.add_comment anna 2 1).early ≡ refusal 28 2
  pub comment_taken : Texts.sub_comment anna 2 1
      ≡ record { early = None; rest = done_with (effect.LinkGone 2 1 false ∷ []) [] }
  pub no_comment : (Texts.sub_comment anna 1 2).early ≡ refusal 31 1
  pub comment_of_another : (Texts.sub_comment cy 2 1).early ≡ refusal 12 2
  pub footnote_added : Texts.add_footnote anna 1 2
      ≡ record { early = None; rest = done_with (effect.LinkAdded (link 1 2 true 5 30) ∷ []) [] }
  pub footnote_of_two_authors :
      map (λ asked. (Texts.add_footnote asked 4 1).early) (anna ∷ bo ∷ strong ∷ [])
      ≡ refusal 37 1 ∷ refusal 37 1 ∷ refusal 37 1 ∷ []
  pub footnote_to_itself : (Texts.add_footnote bo 1 1).early ≡ refusal 12 1
  pub footnote_already : (Texts.add_footnote anna 2 1).early ≡ refusal 29 2
  pub footnote_taken : Texts.sub_footnote anna 2 1
      ≡ record { early = None; rest = done_with (effect.LinkGone 2 1 true ∷ []) [] }
  pub no_footnote : (Texts.sub_footnote anna 1 2).early ≡ refusal 32 1
  pub footnote_of_another : (Texts.sub_footnote cy 2 1).early ≡ refusal 12 2
  pub mark_set : Texts.mark_text bo 5 3
      ≡ record { early = None; rest = done_with (effect.MarkSet 7 5 3 ∷ []) [] }
  pub mark_of_a_hidden_text : (Texts.mark_text bo 2 3).early ≡ refusal 14 2
  pub marks_told : Texts.get_marks bo
      ≡ record {
        early = None;
        rest = answer (reply.Marks
            (record { text = 1; kind = 100 } ∷ record { text = 4; kind = 9 } ∷ []));
      }
  pub marked_again : (Texts.get_marks (bo_after (effect.MarkSet 7 4 0 ∷ []))).rest
      ≡ answer (reply.Marks
      (record { text = 1; kind = 100 } ∷ record { text = 4; kind = 0 } ∷ []))
  pub mark_taken : Texts.unmark_text bo 1
      ≡ record { early = None; rest = done_with (effect.MarkGone 7 1 ∷ []) [] }
  pub no_mark : map (λ text. (Texts.unmark_text bo text).early) (0 ∷ 5 ∷ 6 ∷ [])
      ≡ refusal 15 0 ∷ refusal 44 5 ∷ refusal 44 6 ∷ []
  -- mappings and numbers
  pub mapped : (Texts.local_to_global bo 6 1 255).rest
      ≡ answer (reply.Mapping (record {
        begin = 1;
        end = 4;
        later_texts_exist = false;
        block = Dense 1 (1 ∷ 4 ∷ 5 ∷ []);
      }))
  pub mapped_with_a_gap :
      (Texts.local_to_global (record bo { db = without_fourth }) 6 1 3).rest
      ≡ answer (reply.Mapping (record {
        begin = 1;
        end = 4;
        later_texts_exist = false;
        block = Sparse (at 1 1 ∷ at 3 5 ∷ []);
      }))
  pub mapped_past_a_gap :
      (Texts.local_to_global (record bo { db = without_fourth }) 6 2 3).rest
      ≡ answer (reply.Mapping (record {
        begin = 2;
        end = 4;
        later_texts_exist = false;
        block = Dense 3 (5 ∷ []);
      }))
  pub mapped_in_part : (Texts.local_to_global bo 6 1 2).rest
      ≡ answer (reply.Mapping (record {
        begin = 1;
        end = 3;
        later_texts_exist = true;
        block = Dense 1 (1 ∷ 4 ∷ []);
      }))
  pub mapped_past_the_end : (Texts.local_to_global bo 6 9 2).rest
      ≡ answer (reply.Mapping (record {
        begin = 9;
        end = 9;
        later_texts_exist = false;
        block = Sparse [];
      }))
  pub none_mapped : (Texts.local_to_global bo 6 2 0).rest
      ≡ answer (reply.Mapping (record {
        begin = 2;
        end = 2;
        later_texts_exist = true;
        block = Sparse [];
      }))
  pub mapping_refused :
      (Texts.local_to_global bo 10 0 256).early ∷ (Texts.local_to_global bo 8 0 256).early
      ∷ (Texts.local_to_global bo 6 0 256).early ∷ (Texts.local_to_global bo 6 1 256).early ∷ []
      ≡ refusal 9 10 ∷ refusal 11 8 ∷ refusal 17 0 ∷ refusal 19 256 ∷ []
  pub mapped_downwards : (Texts.local_to_global_reverse bo 6 0 2).rest
      ≡ answer (reply.Mapping (record {
        begin = 2;
        end = 4;
        later_texts_exist = true;
        block = Dense 2 (4 ∷ 5 ∷ []);
      }))
  pub mapped_below : (Texts.local_to_global_reverse bo 6 3 255).rest
      ≡ answer (reply.Mapping (record {
        begin = 1;
        end = 3;
        later_texts_exist = false;
        block = Dense 1 (1 ∷ 4 ∷ []);
      }))
  pub none_mapped_downwards : (Texts.local_to_global_reverse bo 6 99 0).rest
      ≡ answer (reply.Mapping (record {
        begin = 4;
        end = 4;
        later_texts_exist = true;
        block = Sparse [];
      }))
  pub downwards_refused :
      (Texts.local_to_global_reverse bo 8 0 256).early
      ∷ (Texts.local_to_global_reverse bo 6 0 256).early ∷ []
      ≡ refusal 11 8 ∷ refusal 19 256 ∷ []
  pub created_mapped : (Texts.map_created_texts cy 5 1 1).rest
      ≡ answer (reply.Mapping (record {
        begin = 1;
        end = 2;
        later_texts_exist = true;
        block = Dense 1 (1 ∷ []);
      }))
  pub created_that_is_read : (Texts.map_created_texts bo 5 1 1).rest
      ≡ answer (reply.Mapping (record {
        begin = 1;
        end = 3;
        later_texts_exist = false;
        block = Dense 1 (1 ∷ []);
      }))
  pub created_refused :
      (Texts.map_created_texts bo 0 0 256).early ∷ (Texts.map_created_texts bo 6 0 256).early
      ∷ (Texts.map_created_texts bo 5 0 256).early ∷ (Texts.map_created_texts bo 5 1 256).early
      ∷ []
      ≡ refusal 8 0 ∷ refusal 10 6 ∷ refusal 17 0 ∷ refusal 19 256 ∷ []
  pub next_read : Texts.find_next_text_no bo 1
      ≡ record { early = None; rest = answer (reply.Number 4) }
  pub none_read_after : (Texts.find_next_text_no bo 5).early ≡ refusal 14 5
  pub previous_read :
      map (λ text. (Texts.find_previous_text_no bo text).rest) (4 ∷ 4294967295 ∷ [])
      ≡ answer (reply.Number 1) ∷ answer (reply.Number 5) ∷ []
  pub none_read_before : (Texts.find_previous_text_no bo 1).early ≡ refusal 14 1
  pub first_unused : (Texts.first_unused_text_no (asked 0 0)).rest ≡ answer (reply.Number 6)
