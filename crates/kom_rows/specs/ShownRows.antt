-- What persons, conferences and texts are told to be, what becomes of conferences that are set or
-- deleted, and what the calls over them come to, worked out by hand.
use Rattle.std.specs.Prelude.{◌≡◌, ℕ, Bool, true, false, List, [], ◌∷◌, ◌++◌, map, codes, replicate}
use Rattle.std.specs.Prelude.{None, Some, is_some}
use Rattle.kom_types.specs.declared.conferences.Conference.{Conference}
use Rattle.kom_types.specs.declared.conferences.ConferenceRow.{ConferenceRow}
use Rattle.kom_types.specs.declared.effects.ConfField.TheVariants as field
use Rattle.kom_types.specs.declared.effects.Counter.TheVariants as counter
use Rattle.kom_types.specs.declared.effects.Effect.{Effect}
use Rattle.kom_types.specs.declared.effects.Effect.TheVariants as effect
use Rattle.kom_types.specs.declared.effects.PersonField.TheVariants as person_field
use Rattle.kom_types.specs.declared.persons.Person.{Person}
use Rattle.kom_types.specs.declared.replies.Reply.TheVariants as reply
use Rattle.kom_types.specs.declared.seats.Seat.{Seat}
use Rattle.kom_types.specs.declared.session_changes.SessionChange.TheVariants as change
use Rattle.kom_types.specs.declared.texts.MiscInfo.{MiscInfo}
use Rattle.kom_types.specs.declared.texts.MiscInfo.TheVariants as info
use Rattle.kom_types.specs.declared.texts.TextStat.{TextStat}
use Rattle.kom_rows.specs.Cast.{Cast, cast_over, four_persons, three_conferences, makes, member}
use Rattle.kom_rows.specs.Cast.{under, under_di, range, recipient_row, sends, links, lines, fields}
use Rattle.kom_rows.specs.Cast.{sets_fields, seat, after, comes_to, answers, early_of, person}
use Rattle.kom_rows.specs.Cast.{nobody, strong_nobody, conferences_in, persons_in, places_of}
use Rattle.kom_model.specs.Db.{Db, empty_db, conference_of, person_of, text_of, recipients_of}
use Rattle.kom_model.specs.Db.{marks_of, marks_on, read_of, created_by, next_created_of}
use Rattle.kom_model.specs.Effects.{fits, apply_all, all_fit}
use Rattle.kom_model.specs.Shown.{told_count, working_shown}
use Rattle.kom_model.specs.calls.Call.{Asked, Definition, outcome_of}
use Rattle.kom_model.specs.calls.Conferences.{set_presentation, set_etc_motd, set_supervisor}
use Rattle.kom_model.specs.calls.Conferences.{set_permitted_submitters, set_super_conf}
use Rattle.kom_model.specs.calls.Conferences.{set_conf_type, set_garb_nice, set_expire}
use Rattle.kom_model.specs.calls.Conferences.{set_keep_commented, delete_conf, get_conf_stat}
use Rattle.kom_model.specs.calls.Guards.{Guard, refusal}
use Rattle.kom_model.specs.calls.Persons.{get_person_stat, set_user_area}
use Rattle.kom_model.specs.calls.Texts.{get_text_stat}

-- a recipient that somebody added later
abbrev pub sends_later : ℕ → ℕ → ℕ → ℕ → ℕ → ℕ → Effect
sends_later text conference tag local sender at =
    effect.RecipientAdded
    (record (recipient_row text conference tag local) { sender = sender; at = at })

-- The four persons and the three conferences. Bo is in 11, his letterbox and 9; Di is in Bo's
-- letterbox and then in hers; Cy is secretly in 9 and then in her letterbox; Anna was invited to 9
-- by Bo.
abbrev pub made_persons : List Effect
made_persons =
    four_persons ++ three_conferences
    ++ member 6 9 1 6 0 ∷ member 8 6 0 6 0 ∷ member 7 9 0 7 32 ∷ member 6 11 0 6 0
    ∷ member 5 9 9 6 128 ∷ []

-- Text 1 is Anna's to 9, 2 is Bo's to 9, 3 is Anna's to 10. Text 4 is Bo's to 9, as a copy to 11,
-- and to Di as one that is shown to few; a comment to 1 and a footnote to 2. Text 5 is Cy's to 9, a
-- comment to 4; 6 is without an author to 9; 7 is Bo's to himself, a footnote to 4.
abbrev pub made_texts : List Effect
made_texts =
    effect.TextAdded 1 5 20 (codes "Hello") ∷ sends 1 9 0 1 ∷ effect.Created 5 1 1
    ∷ effect.TextAdded 2 6 21 [] ∷ sends 2 9 0 2 ∷ effect.Created 6 1 2
    ∷ effect.TextAdded 3 5 21 [] ∷ sends 3 10 0 1 ∷ effect.Created 5 2 3
    ∷ effect.TextAdded 4 6 22 lines ∷ sends 4 9 0 3 ∷ sends 4 11 1 1 ∷ sends 4 8 15 1
    ∷ links 4 1 false 0 22 ∷ links 4 2 true 0 22 ∷ effect.Created 6 2 4
    ∷ effect.TextAdded 5 7 23 [] ∷ sends 5 9 0 4 ∷ links 5 4 false 0 23 ∷ effect.Created 7 1 5
    ∷ effect.TextAdded 6 0 24 (72 ∷ 10 ∷ []) ∷ sends 6 9 0 5
    ∷ effect.TextAdded 7 6 24 [] ∷ sends 7 6 0 1 ∷ links 7 4 true 0 24 ∷ effect.Created 6 3 7 ∷ []

-- Later Anna sent 4 to 10, to be shown to few, and Di as a copy to Bo; 4 became a footnote and a
-- comment to 3, 1 a footnote to 4, and 6 a comment to 4. Bo marked 1 and 4, Anna 1; and all is
-- counted of Bo, who has read 1 and 2 in 9.
abbrev pub made_later : List Effect
made_later =
    sends_later 4 10 15 2 5 25 ∷ sends_later 4 6 1 2 8 26 ∷ links 4 3 true 6 28
    ∷ links 4 3 false 6 27 ∷ links 1 4 true 5 29 ∷ links 6 4 false 7 28
    ∷ effect.MarkSet 6 4 9 ∷ effect.MarkSet 5 1 9 ∷ effect.MarkSet 6 1 100
    ∷ effect.ReadSet 6 9 25 (range 1 2 ∷ [])
    ∷ effect.LoggedIn 6 12 (codes "bo") ∷ effect.PersonField 6 (person_field.Flags 64)
    ∷ effect.PersonField 6 (person_field.UserArea 3) ∷ effect.Counted 6 counter.TimePresent 105
    ∷ effect.Counted 6 counter.CreatedLines 106 ∷ effect.Counted 6 counter.CreatedBytes 107
    ∷ effect.Counted 6 counter.ReadTexts 108 ∷ effect.Counted 6 counter.TextFetches 109
    ∷ effect.Counted 6 counter.CreatedPersons 110
    ∷ effect.Counted 6 counter.CreatedConferences 111 ∷ []

abbrev pub made_rows : List Effect
made_rows = made_persons ++ made_texts ++ made_later

abbrev pub rows : Db
rows = apply_all made_rows empty_db

-- Session 1 of a person, in 9. Bo has two more, in 9 and, since this moment, in his letterbox; Di
-- has one there, Cy one in 9, and in the last nobody is logged in.
abbrev pub seats : ℕ → ℕ → List Seat
seats person level =
    seat 1 person level 9 10 ∷ seat 2 6 0 9 14 ∷ seat 3 8 0 6 12 ∷ seat 4 6 0 6 30
    ∷ seat 5 7 0 9 11 ∷ seat 6 0 0 0 0 ∷ []

abbrev pub cast : Cast
cast = cast_over rows seats

-- the strong session is Cy's; Di has not the privilege
open cast use {with_effects, made_by, stranger, anna, bo, cy, di}
open cast use {high_cy as strong, high_di as not_strong}

-- the members of 9 supervise 10
abbrev pub under_members : List Effect
under_members = under 9 10

-- no guard refuses a call, and it makes this effect alone
abbrev pub sets : Effect → Definition
sets what = comes_to (what ∷ []) []

-- what refuses a call that gives a text, or a conference, to a conference; and one that gives it a
-- number
abbrev pub refuses_text : (Asked → ℕ → ℕ → Definition) → List Guard
refuses_text call =
    early_of (call stranger 0 98 ∷ call bo 0 98 ∷ call bo 99 98 ∷ call di 11 98 ∷ call bo 9 98
    ∷ call cy 9 98 ∷ call not_strong 9 98 ∷ call anna 9 98 ∷ call bo 6 3 ∷ call strong 9 98
    ∷ call anna 9 0 ∷ call anna 9 3 ∷ call strong 9 7 ∷ call strong 11 0 ∷ [])

abbrev pub refuses_conference : (Asked → ℕ → ℕ → Definition) → List Guard
refuses_conference call =
    early_of (call stranger 0 98 ∷ call bo 0 98 ∷ call bo 99 98 ∷ call di 11 98 ∷ call bo 9 98
    ∷ call cy 9 98 ∷ call not_strong 9 98 ∷ call anna 9 98 ∷ call di 8 11 ∷ call strong 9 98
    ∷ call anna 9 0 ∷ call di 8 10 ∷ call di 8 6 ∷ call strong 8 11 ∷ [])

abbrev pub refuses_number : (Asked → ℕ → ℕ → Definition) → List Guard
refuses_number call =
    early_of (call stranger 0 3 ∷ call bo 0 3 ∷ call bo 99 3 ∷ call di 11 3 ∷ call bo 9 3
    ∷ call cy 9 3 ∷ call not_strong 9 3 ∷ call anna 9 4294967295 ∷ call anna 9 0 ∷ call strong 9 3
    ∷ call strong 11 3 ∷ call (after under_members bo) 10 3 ∷ call (after under_members cy) 10 3
    ∷ call (after under_members anna) 10 3 ∷ [])

-- the conference 9 as it is kept
abbrev pub open_row : ConferenceRow
open_row = record {
  number = 9;
  name = codes "Open";
  kind = 0;
  created = 10;
  last_written = 10;
  creator = 5;
  presentation = 0;
  motd = 0;
  supervisor = 5;
  submitters = 0;
  super_conference = 0;
  nice = 77;
  keep_commented = 77;
  expire = 0;
  next_local = 6;
  next_item = 1;
}

-- the conference 9 as it is told: how many members are shown, the first local number that has a
-- text, and how many numbers follow from it on
abbrev pub open_told : ℕ → ℕ → ℕ → Conference
open_told members first texts = record {
  name = codes "Open";
  kind = 0;
  created = 10;
  last_written = 10;
  creator = 5;
  presentation = 0;
  supervisor = 5;
  submitters = 0;
  super_conference = 0;
  motd = 0;
  nice = 77;
  keep_commented = 77;
  members = members;
  first_local = first;
  texts = texts;
  expire = 0;
  aux_items = [];
}

abbrev pub tells_open : ℕ → ℕ → ℕ → Definition
tells_open members first texts = answers (reply.Conference (open_told members first texts))

-- Bo as he is told: what he has read and fetched, his marks, and how many memberships are shown
abbrev pub bo_told : ℕ → ℕ → ℕ → ℕ → Person
bo_told reads fetches marks conferences = record {
  user = codes "bo";
  privileges = 7168;
  flags = 64;
  last_login = 12;
  user_area = 3;
  time_present = 105;
  sessions = 1;
  created_lines = 106;
  created_bytes = 107;
  read_texts = reads;
  text_fetches = fetches;
  created_persons = 110;
  created_conferences = 111;
  first_created_local = 1;
  created_texts = 3;
  marks = marks;
  conferences = conferences;
}

abbrev pub tells_bo : ℕ → ℕ → ℕ → ℕ → Definition
tells_bo reads fetches marks conferences =
    answers (reply.Person (bo_told reads fetches marks conferences))

-- of a reply: how many members; the first local number and how many follow; how many memberships;
-- how many marks; the first number among the texts that a person made and how many follow
abbrev pub members_told : Definition → ℕ
members_told definition = elim (outcome_of definition).reply [
  | reply.Conference told ↦ told.members
  | other ↦ 0
]

abbrev pub locals_told : Definition → ℕ × ℕ
locals_told definition = elim (outcome_of definition).reply [
  | reply.Conference told ↦ (told.first_local, told.texts)
  | other ↦ (0, 0)
]

abbrev pub conferences_told : Definition → ℕ
conferences_told definition = elim (outcome_of definition).reply [
  | reply.Person told ↦ told.conferences
  | other ↦ 0
]

abbrev pub marks_told : Definition → ℕ
marks_told definition = elim (outcome_of definition).reply [
  | reply.Person told ↦ told.marks
  | reply.TextStat told ↦ told.marks
  | other ↦ 0
]

abbrev pub created_told : Definition → ℕ × ℕ
created_told definition = elim (outcome_of definition).reply [
  | reply.Person told ↦ (told.first_created_local, told.created_texts)
  | other ↦ (0, 0)
]

abbrev pub infos_told : Definition → List MiscInfo
infos_told definition = elim (outcome_of definition).reply [
  | reply.TextStat told ↦ told.misc_infos
  | other ↦ []
]

-- who supervises a conference, as it is told
abbrev pub supervisor_told : Definition → ℕ
supervisor_told definition = elim (outcome_of definition).reply [
  | reply.Conference told ↦ told.supervisor
  | other ↦ 0
]

-- text 4 as it is told, with these links to recipients
abbrev pub fourth_told : List MiscInfo → TextStat
fourth_told recipients = record {
  created = 22;
  author = 6;
  lines = 2;
  chars = 5;
  marks = 1;
  misc_infos =
      recipients
      ++ info.CommentTo 1 ∷ info.CommentTo 3 ∷ info.SentBy 6 ∷ info.SentAt 27 ∷ info.CommentIn 5
      ∷ info.CommentIn 6 ∷ info.FootnoteTo 2 ∷ info.FootnoteTo 3 ∷ info.SentBy 6 ∷ info.SentAt 28
      ∷ info.FootnoteIn 7 ∷ info.FootnoteIn 1 ∷ [];
  aux_items = [];
}

abbrev pub tells_fourth : List MiscInfo → Definition
tells_fourth recipients = answers (reply.TextStat (fourth_told recipients))

-- the recipients of text 4: that in 9, the copy to 11, that to Di, that to 10, and the copy to Bo
abbrev pub in_open : List MiscInfo
in_open = info.Recipient 9 ∷ info.Local 3 ∷ []

abbrev pub in_board : List MiscInfo
in_board = info.CopyRecipient 11 ∷ info.Local 1 ∷ []

abbrev pub to_di : List MiscInfo
to_di = info.BlindRecipient 8 ∷ info.Local 1 ∷ []

abbrev pub in_closed : List MiscInfo
in_closed = info.BlindRecipient 10 ∷ info.Local 2 ∷ info.SentBy 5 ∷ info.SentAt 25 ∷ []

abbrev pub to_bo : List MiscInfo
to_bo = info.CopyRecipient 6 ∷ info.Local 2 ∷ info.SentBy 8 ∷ info.SentAt 26 ∷ []

-- what goes with Bo's letterbox, but for his time and what is told of his sessions
abbrev pub gone_bo : List Effect
gone_bo =
    effect.RecipientGone 7 6 ∷ effect.RecipientGone 4 6 ∷ effect.MarkGone 6 1 ∷ effect.MarkGone 6 4
    ∷ effect.MemberGone 6 6 ∷ effect.MemberGone 6 9 ∷ effect.MemberGone 8 6 ∷ effect.MemberGone 6 11
    ∷ effect.PersonGone 6 ∷ effect.ConfGone 6 ∷ []

-- what goes with the conference 9
abbrev pub gone_open : List Effect
gone_open =
    effect.RecipientGone 1 9 ∷ effect.RecipientGone 2 9 ∷ effect.RecipientGone 4 9
    ∷ effect.RecipientGone 5 9 ∷ effect.RecipientGone 6 9 ∷ effect.MemberGone 6 9
    ∷ effect.MemberGone 7 9 ∷ effect.MemberGone 5 9 ∷ effect.ConfGone 9 ∷ []

-- a conference 12 without anything; a letterbox 12 of nobody's; and one with a person alone
abbrev pub bare : List Effect
bare = makes 12 (codes "New") 0 ∷ []

abbrev pub letterbox : List Effect
letterbox = effect.ConfAdded 12 (codes "Eva") 152 20 5 5 ∷ []

abbrev pub bare_person : List Effect
bare_person = letterbox ++ effect.PersonAdded 12 7168 0 20 ∷ []

-- Bo's membership in 9 is secret
abbrev pub in_secret : List Effect
in_secret = member 6 9 1 6 32 ∷ []

-- whether an effect fits after these
abbrev pub fits_after : Effect → List Effect → Bool
fits_after what effects = fits what (with_effects effects)

-- without texts 2, 5 or 7
abbrev pub without_second : List Effect
without_second = effect.LinkGone 4 2 true ∷ effect.RecipientGone 2 9 ∷ effect.TextGone 2 ∷ []

abbrev pub without_fifth : List Effect
without_fifth = effect.LinkGone 5 4 false ∷ effect.RecipientGone 5 9 ∷ effect.TextGone 5 ∷ []

abbrev pub without_seventh : List Effect
without_seventh = effect.LinkGone 7 4 true ∷ effect.RecipientGone 7 6 ∷ effect.TextGone 7 ∷ []

-- what persons, conferences and texts are told to be, and what the calls over them come to, in
-- cases that were worked out by hand
pub record ShownRows : Type 0 where
  -- each effect of the state fits
  pub all_are_made : all_fit made_rows empty_db ≡ true
  -- calls that set one thing of a conference
  pub presentation_set : set_presentation anna 9 1
      ≡ sets (effect.ConfField 9 (field.Presentation 1))
  pub motd_set : set_etc_motd anna 9 1 ≡ sets (effect.ConfField 9 (field.Motd 1))
  pub supervisor_set : set_supervisor anna 9 10 ≡ sets (effect.ConfField 9 (field.Supervisor 10))
  pub submitters_set : set_permitted_submitters anna 9 10
      ≡ sets (effect.ConfField 9 (field.PermittedSubmitters 10))
  pub super_conference_set : set_super_conf anna 9 10
      ≡ sets (effect.ConfField 9 (field.SuperConference 10))
  pub nice_set : set_garb_nice anna 9 3 ≡ sets (effect.ConfField 9 (field.Nice 3))
  pub expire_set : set_expire anna 9 3 ≡ sets (effect.ConfField 9 (field.Expire 3))
  pub keep_commented_set : set_keep_commented anna 9 3
      ≡ sets (effect.ConfField 9 (field.KeepCommented 3))
  -- 0 is none of what may be there
  pub set_to_none :
      map (λ call. call anna 9 0)
      (set_presentation ∷ set_etc_motd ∷ set_supervisor ∷ set_permitted_submitters ∷ set_super_conf
      ∷ [])
      ≡ map (λ what. sets (effect.ConfField 9 what))
      (field.Presentation 0 ∷ field.Motd 0 ∷ field.Supervisor 0 ∷ field.PermittedSubmitters 0
      ∷ field.SuperConference 0 ∷ [])
  -- what is so already is set again: the effect is made
  pub set_alike : set_supervisor anna 9 5 ∷ set_garb_nice anna 9 77 ∷ set_presentation anna 9 0 ∷ []
      ≡ sets (effect.ConfField 9 (field.Supervisor 5)) ∷ sets (effect.ConfField 9 (field.Nice 77))
      ∷ sets (effect.ConfField 9 (field.Presentation 0)) ∷ []
  -- refused in this order: nobody is logged in; the conference is 0; it is missing; it is hidden;
  -- the caller does not supervise it, three times, for a privilege without the level and the level
  -- without it are no strength; the text is missing; it is hidden; it is missing to a strong
  -- session too. The text may be 0, and what the caller reads.
  pub texts_refused : map refuses_text (set_presentation ∷ set_etc_motd ∷ [])
      ≡ replicate 2 (refusal 6 0 ∷ refusal 8 0 ∷ refusal 9 99 ∷ refusal 9 11 ∷ refusal 12 9
      ∷ refusal 12 9 ∷ refusal 12 9 ∷ refusal 14 98 ∷ refusal 14 3 ∷ refusal 14 98 ∷ None ∷ None
      ∷ None ∷ None ∷ [])
  -- the same with a conference in the place of the text: any that the caller sees
  pub conferences_refused :
      map refuses_conference (set_supervisor ∷ set_permitted_submitters ∷ set_super_conf ∷ [])
      ≡ replicate 3 (refusal 6 0 ∷ refusal 8 0 ∷ refusal 9 99 ∷ refusal 9 11 ∷ refusal 12 9
      ∷ refusal 12 9 ∷ refusal 12 9 ∷ refusal 9 98 ∷ refusal 9 11 ∷ refusal 9 98 ∷ None ∷ None
      ∷ None ∷ None ∷ [])
  -- a number is not looked at. Active members of a conference that supervises another set it, also
  -- one in secret, but not who was only invited
  pub numbers_refused : map refuses_number (set_garb_nice ∷ set_expire ∷ set_keep_commented ∷ [])
      ≡ replicate 3 (refusal 6 0 ∷ refusal 8 0 ∷ refusal 9 99 ∷ refusal 9 11 ∷ refusal 12 9
      ∷ refusal 12 9 ∷ refusal 12 9 ∷ None ∷ None ∷ None ∷ None ∷ None ∷ None ∷ refusal 12 10 ∷ [])
  -- a type: all bits but that of a letterbox, and a letterbox that is open
  pub type_set : set_conf_type anna 9 239 ∷ set_conf_type bo 6 16 ∷ []
      ≡ sets (effect.ConfField 9 (field.Kind 239)) ∷ sets (effect.ConfField 6 (field.Kind 16)) ∷ []
  -- refused in this order: nobody is logged in; the conference is 0; it is missing; it is hidden;
  -- the caller does not supervise it; it would become a letterbox, before the secret bit is looked
  -- at; it would be secret without protection, and so to a strong session
  pub type_refused :
      early_of (set_conf_type stranger 0 48 ∷ set_conf_type bo 0 48 ∷ set_conf_type bo 99 48
      ∷ set_conf_type di 11 48 ∷ set_conf_type bo 9 48 ∷ set_conf_type cy 9 48
      ∷ set_conf_type anna 9 48 ∷ set_conf_type anna 9 16 ∷ set_conf_type anna 9 144
      ∷ set_conf_type strong 9 16 ∷ set_conf_type anna 9 32 ∷ set_conf_type strong 9 44
      ∷ set_conf_type anna 9 160 ∷ set_conf_type anna 11 0 ∷ set_conf_type strong 9 128 ∷ [])
      ≡ refusal 6 0 ∷ refusal 8 0 ∷ refusal 9 99 ∷ refusal 9 11 ∷ refusal 12 9 ∷ refusal 12 9
      ∷ refusal 23 9 ∷ refusal 23 9 ∷ refusal 23 9 ∷ refusal 23 9 ∷ refusal 22 0 ∷ refusal 22 0
      ∷ None ∷ None ∷ None ∷ []
  -- a letterbox stays one, and is never secret, protected or not
  pub letterbox_type_refused :
      early_of (map (set_conf_type bo 6) (0 ∷ 128 ∷ 32 ∷ 160 ∷ 48 ∷ 176 ∷ 144 ∷ 152 ∷ 223 ∷ []))
      ≡ replicate 6 (refusal 23 6) ++ replicate 3 None
  -- the user area of a person
  pub user_area_set :
      set_user_area bo 6 1 ∷ set_user_area bo 6 0 ∷ set_user_area strong 6 7
      ∷ set_user_area (after (under_di 6) di) 6 1 ∷ []
      ≡ sets (effect.PersonField 6 (person_field.UserArea 1))
      ∷ sets (effect.PersonField 6 (person_field.UserArea 0))
      ∷ sets (effect.PersonField 6 (person_field.UserArea 7))
      ∷ sets (effect.PersonField 6 (person_field.UserArea 1)) ∷ []
  -- refused in this order: nobody is logged in; the person is 0; it is none, be it a conference;
  -- the caller does not supervise it, not even itself if another does; the text is missing; it is
  -- hidden
  pub user_area_refused :
      early_of (set_user_area stranger 0 98 ∷ set_user_area bo 0 98 ∷ set_user_area bo 9 98
      ∷ set_user_area strong 99 98 ∷ set_user_area bo 5 98 ∷ set_user_area cy 5 98
      ∷ set_user_area not_strong 5 98 ∷ set_user_area (after (under_di 6) bo) 6 98
      ∷ set_user_area bo 6 98 ∷ set_user_area bo 6 3 ∷ set_user_area strong 6 98 ∷ [])
      ≡ refusal 6 0 ∷ refusal 8 0 ∷ refusal 10 9 ∷ refusal 10 99 ∷ refusal 12 5 ∷ refusal 12 5
      ∷ refusal 12 5 ∷ refusal 12 6 ∷ refusal 14 98 ∷ refusal 14 3 ∷ refusal 14 98 ∷ []
  -- an effect sets one field, and leaves the others
  pub fields_set :
      map (λ what. conference_of (with_effects (effect.ConfField 9 what ∷ [])) 9) fields
      ≡ map Some (record open_row { presentation = 21 } ∷ record open_row { motd = 22 }
      ∷ record open_row { supervisor = 23 } ∷ record open_row { submitters = 24 }
      ∷ record open_row { super_conference = 25 } ∷ record open_row { kind = 140 }
      ∷ record open_row { nice = 26 } ∷ record open_row { keep_commented = 27 }
      ∷ record open_row { expire = 28 } ∷ record open_row { last_written = 29 } ∷ [])
  -- and all of another conference
  pub fields_of_another :
      map (λ what. conference_of (with_effects (effect.ConfField 10 what ∷ [])) 9) fields
      ≡ replicate 10 (Some open_row)
  -- what is named need not be there
  pub fields_fit : map (λ what. fits (effect.ConfField 9 what) rows) fields ≡ replicate 10 true
  pub fields_of_nothing : map (λ what. fits (effect.ConfField 12 what) rows) fields
      ≡ replicate 10 false
  -- a type keeps the letterbox bit, and is protected if it is secret
  pub values_fit :
      map (λ what. fits (effect.ConfField 9 what) rows)
      (field.Kind 0 ∷ field.Kind 239 ∷ field.Kind 160 ∷ field.Kind 32 ∷ field.Kind 16
      ∷ field.Kind 176 ∷ field.LastWritten 253402300799 ∷ field.Nice 4294967295 ∷ [])
      ≡ true ∷ true ∷ true ∷ false ∷ false ∷ false ∷ true ∷ true ∷ []
  pub types_of_a_letterbox :
      map (λ kind. fits (effect.ConfField 6 (field.Kind kind)) rows)
      (16 ∷ 152 ∷ 176 ∷ 48 ∷ 0 ∷ 128 ∷ [])
      ≡ true ∷ true ∷ true ∷ false ∷ false ∷ false ∷ []
  -- a conference goes: it is taken from its texts by rising local number, its memberships end in
  -- the order of joining, and sessions that are in it are in none then, by rising session
  pub conference_deleted : delete_conf anna 9
      ≡ comes_to gone_open (change.Working 1 0 ∷ change.Working 2 0 ∷ change.Working 5 0 ∷ [])
  -- one that nobody is in
  pub conference_without_members_deleted : delete_conf anna 10
      ≡ comes_to
      (effect.RecipientGone 3 10 ∷ effect.RecipientGone 4 10 ∷ effect.ConfGone 10 ∷ []) []
  -- one without anything
  pub bare_conference_deleted : delete_conf (after bare anna) 12 ≡ sets (effect.ConfGone 12)
  -- A person deletes itself. Each of its sessions is logged out, and its seconds are counted first,
  -- unless there are none; its marks go by rising text, before the memberships, which are those in
  -- its letterbox and its own, each once in the order of joining; it goes before its letterbox. Who
  -- else was in the letterbox is in no conference then.
  pub person_deleted_by_itself : delete_conf bo 6
      ≡ comes_to
      (effect.Counted 6 counter.TimePresent 20 ∷ effect.Counted 6 counter.TimePresent 16 ∷ gone_bo)
      (change.Person 1 0 false ∷ change.Person 2 0 false ∷ change.Working 3 0
      ∷ change.Person 4 0 false ∷ [])
  -- a strong session deletes it, and stays where it is
  pub person_deleted_by_strength : delete_conf strong 6
      ≡ comes_to (effect.Counted 6 counter.TimePresent 16 ∷ gone_bo)
      (change.Person 2 0 false ∷ change.Working 3 0 ∷ change.Person 4 0 false ∷ [])
  -- its supervisor does
  pub person_deleted_by_its_supervisor : delete_conf (after (under_di 6) di) 6
      ≡ comes_to (effect.Counted 6 counter.TimePresent 16 ∷ gone_bo)
      (change.Person 2 0 false ∷ change.Working 3 0 ∷ change.Person 4 0 false ∷ [])
  -- a person without marks, whose only other membership is in a letterbox of another
  pub person_without_marks_deleted : delete_conf di 8
      ≡ comes_to
      (effect.Counted 8 counter.TimePresent 20 ∷ effect.Counted 8 counter.TimePresent 18
      ∷ effect.RecipientGone 4 8 ∷ effect.MemberGone 8 8 ∷ effect.MemberGone 8 6
      ∷ effect.PersonGone 8 ∷ effect.ConfGone 8 ∷ [])
      (change.Person 1 0 false ∷ change.Person 3 0 false ∷ [])
  -- refused in this order: nobody is logged in; the conference is 0; it is missing; it is hidden;
  -- the caller does not supervise it, not even its own letterbox if another does
  pub deletion_refused :
      early_of (delete_conf stranger 0 ∷ delete_conf bo 0 ∷ delete_conf bo 99 ∷ delete_conf di 11
      ∷ delete_conf bo 9 ∷ delete_conf cy 6 ∷ delete_conf not_strong 7
      ∷ delete_conf (after (under_di 6) bo) 6 ∷ delete_conf strong 11 ∷ [])
      ≡ refusal 6 0 ∷ refusal 8 0 ∷ refusal 9 99 ∷ refusal 9 11 ∷ refusal 12 9 ∷ refusal 12 6
      ∷ refusal 12 7 ∷ refusal 12 6 ∷ None ∷ []
  -- who joined a letterbox stands for its person, as members do for any conference that supervises
  pub deleted_by_a_member_of_the_letterbox :
      early_of (delete_conf di 6 ∷ delete_conf (after (effect.MemberGone 8 6 ∷ []) di) 6 ∷ [])
      ≡ None ∷ refusal 12 6 ∷ []
  -- either of two privileges makes a session strong, another does not
  pub strong_by_privileges :
      early_of (map (λ privileges. delete_conf
      (after (effect.PersonField 7 (person_field.Privileges privileges) ∷ []) strong) 9)
      (32768 ∷ 16384 ∷ 16383 ∷ []))
      ≡ None ∷ None ∷ refusal 12 9 ∷ []
  -- the effects of deletions fit
  pub deletions_fit :
      map (λ call. all_fit (outcome_of call).effects rows)
      (delete_conf anna 9 ∷ delete_conf anna 10 ∷ delete_conf bo 6 ∷ delete_conf strong 7
      ∷ delete_conf di 8 ∷ [])
      ≡ replicate 5 true
  -- nothing of a deleted conference is left
  pub conference_is_gone : conference_of (made_by (delete_conf anna 9)) 9 ≡ None
  pub members_are_gone : persons_in 9 (made_by (delete_conf anna 9)) ≡ []
  pub reads_are_gone : read_of (made_by (delete_conf anna 9)) 6 9 ≡ []
  pub places_close_up : conferences_in 7 (made_by (delete_conf anna 9)) ≡ 7 ∷ []
  pub places_follow : places_of 7 (made_by (delete_conf anna 9)) ≡ 0 ∷ []
  -- the other conferences stay
  pub others_stay :
      map (λ number. is_some (conference_of (made_by (delete_conf anna 9)) number))
      (5 ∷ 6 ∷ 7 ∷ 8 ∷ 10 ∷ 11 ∷ [])
      ≡ replicate 6 true
  -- its texts stay, without it as a recipient
  pub texts_stay :
      map (λ text. infos_told (get_text_stat (after gone_open anna) text)) (1 ∷ 3 ∷ [])
      ≡ (info.CommentIn 4 ∷ info.FootnoteTo 4 ∷ info.SentBy 5 ∷ info.SentAt 29 ∷ [])
      ∷ (info.Recipient 10 ∷ info.Local 1 ∷ info.CommentIn 4 ∷ info.FootnoteIn 4 ∷ []) ∷ []
  -- and so does its number where it is kept, which is nobody's right any more
  pub supervisor_stays :
      supervisor_told (get_conf_stat (after (under_members ++ gone_open) bo) 10) ≡ 9
  pub supervises_no_more : (set_garb_nice (after (under_members ++ gone_open) bo) 10 3).early
      ≡ refusal 12 10
  -- its number is not given again, but its name may be
  pub number_and_name_after :
      map (λ what. fits_after what gone_open)
      (makes 9 (codes "Eva") 0 ∷ makes 12 (codes "Open") 0 ∷ [])
      ≡ false ∷ true ∷ []
  pub name_before : fits (makes 12 (codes "Open") 0) rows ≡ false
  -- nothing of a deleted person is left
  pub person_is_gone : person_of (with_effects gone_bo) 6 ≡ None
  pub letterbox_is_gone : conference_of (with_effects gone_bo) 6 ≡ None
  pub marks_are_gone : marks_of (with_effects gone_bo) 6 ≡ []
  pub marks_of_others_stay : marks_on (with_effects gone_bo) 1
      ≡ record { person = 5; text = 1; kind = 9 } ∷ []
  pub memberships_are_gone : conferences_in 6 (with_effects gone_bo) ≡ []
  pub left_by_the_person : persons_in 9 (with_effects gone_bo) ≡ 7 ∷ 5 ∷ []
  pub left_the_letterbox : conferences_in 8 (with_effects gone_bo) ≡ 8 ∷ []
  pub recipients_are_gone : recipients_of (with_effects gone_bo) 7 ≡ []
  -- the other persons stay
  pub persons_stay :
      map (λ number. is_some (person_of (with_effects gone_bo) number)) (5 ∷ 7 ∷ 8 ∷ [])
      ≡ true ∷ true ∷ true ∷ []
  -- its texts stay, with the author's number, but without their numbers among those that it made
  pub texts_of_the_person_stay : text_of (with_effects gone_bo) 2
      ≡ Some (record {
        number = 2;
        author = 6;
        created = 21;
        body = [];
        lines = 0;
        created_local = 0;
        next_item = 1;
      })
  pub created_are_gone : created_by (with_effects gone_bo) 6 ≡ []
  pub next_created_is_gone : next_created_of (with_effects gone_bo) 6 ≡ 1
  pub created_of_others_stay : created_by (with_effects gone_bo) 5
      ≡ record { local = 1; text = 1 } ∷ record { local = 2; text = 3 } ∷ []
  pub author_stays : get_text_stat (after gone_bo anna) 4
      ≡ answers (reply.TextStat (record (fourth_told (in_open ++ in_board ++ in_closed))
      { marks = 0 }))
  -- a conference goes alone: not with a recipient, a membership or a person left
  pub conference_fits_to_go :
      map (fits_after (effect.ConfGone 12))
      (bare ∷ (bare ++ sends 1 12 0 1 ∷ []) ∷ (bare ++ member 6 12 0 6 0 ∷ []) ∷ letterbox
      ∷ bare_person ∷ (bare_person ++ effect.PersonGone 12 ∷ [])
      ∷ (bare ++ effect.ConfGone 12 ∷ []) ∷ [] ∷ [])
      ≡ true ∷ false ∷ false ∷ true ∷ false ∷ true ∷ false ∷ false ∷ []
  -- and so it does in the end
  pub conference_fits_at_last :
      map (fits_after (effect.ConfGone 10))
      ([] ∷ (effect.RecipientGone 3 10 ∷ []) ∷ (effect.RecipientGone 4 10 ∷ [])
      ∷ (effect.RecipientGone 3 10 ∷ effect.RecipientGone 4 10 ∷ []) ∷ [])
      ≡ false ∷ false ∷ false ∷ true ∷ []
  -- a person goes alone: not with a membership or a mark left. What it wrote may be there, and what
  -- others wrote to it, and who else is in its letterbox
  pub person_fits_to_go :
      map (fits_after (effect.PersonGone 12))
      (bare_person ∷ (bare_person ++ member 12 9 0 12 0 ∷ [])
      ∷ (bare_person ++ member 12 12 0 12 0 ∷ []) ∷ (bare_person ++ effect.MarkSet 12 1 3 ∷ [])
      ∷ (bare_person ++ effect.TextAdded 8 12 20 [] ∷ effect.Created 12 1 8 ∷ [])
      ∷ (bare_person ++ sends 1 12 0 1 ∷ []) ∷ (bare_person ++ member 6 12 0 6 0 ∷ []) ∷ letterbox
      ∷ (bare_person ++ effect.PersonGone 12 ∷ []) ∷ [])
      ≡ true ∷ false ∷ false ∷ false ∷ true ∷ true ∷ true ∷ false ∷ false ∷ []
  -- a conference as it is told: a member in secret is not counted to others
  pub conference_told : get_conf_stat bo 9 ≡ tells_open 2 1 5
  -- it is to itself, to the conference's supervisor, and to a strong session; not to the level
  -- alone
  pub members_counted :
      map (λ asked. get_conf_stat asked 9) (anna ∷ cy ∷ strong ∷ di ∷ not_strong ∷ [])
      ≡ tells_open 3 1 5 ∷ tells_open 3 1 5 ∷ tells_open 3 1 5 ∷ tells_open 2 1 5
      ∷ tells_open 2 1 5 ∷ []
  -- and to the supervisor of the person
  pub members_counted_to_supervisor : get_conf_stat (after (under_di 7) di) 9 ≡ tells_open 3 1 5
  -- to a strong session also that of another person, and not to the privilege alone
  pub members_counted_to_strength :
      map (λ asked. members_told (get_conf_stat (after in_secret asked) 9)) (strong ∷ cy ∷ [])
      ≡ 3 ∷ 2 ∷ []
  -- all that is set is told as it stands, also what is missing
  pub fields_told : get_conf_stat (after sets_fields bo) 9
      ≡ answers (reply.Conference (record (open_told 2 1 5) {
        kind = 140;
        last_written = 29;
        presentation = 21;
        supervisor = 23;
        submitters = 24;
        super_conference = 25;
        motd = 22;
        nice = 26;
        keep_commented = 27;
        expire = 28;
      }))
  -- and what is hidden
  pub hidden_told : supervisor_told
      (get_conf_stat (after (effect.ConfField 9 (field.Supervisor 11) ∷ []) di) 9)
      ≡ 11
  -- without its first text; without one in the middle, or the last one; without any; and of
  -- conferences that never had one
  pub texts_counted :
      map (λ effects. locals_told (get_conf_stat (after effects bo) 9))
      ((effect.RecipientGone 1 9 ∷ []) ∷ (effect.RecipientGone 2 9 ∷ [])
      ∷ (effect.RecipientGone 6 9 ∷ [])
      ∷ (effect.RecipientGone 1 9 ∷ effect.RecipientGone 2 9 ∷ effect.RecipientGone 5 9 ∷ [])
      ∷ (effect.RecipientGone 1 9 ∷ effect.RecipientGone 2 9 ∷ effect.RecipientGone 4 9
      ∷ effect.RecipientGone 5 9 ∷ effect.RecipientGone 6 9 ∷ []) ∷ [])
      ≡ (2, 4) ∷ (1, 5) ∷ (1, 5) ∷ (3, 3) ∷ (6, 0) ∷ []
  pub texts_counted_of_others :
      map (λ number. locals_told (get_conf_stat bo number)) (7 ∷ 10 ∷ 8 ∷ 6 ∷ [])
      ≡ (1, 0) ∷ (1, 2) ∷ (1, 1) ∷ (1, 2) ∷ []
  -- a letterbox, and a secret conference to its member
  pub members_counted_of_others :
      map (λ number. members_told (get_conf_stat bo number)) (6 ∷ 7 ∷ 10 ∷ 11 ∷ [])
      ≡ 2 ∷ 1 ∷ 0 ∷ 1 ∷ []
  -- refused in this order: nobody is logged in; the conference is 0; it is missing; it is hidden
  pub conference_not_told :
      early_of (get_conf_stat stranger 0 ∷ get_conf_stat stranger 9 ∷ get_conf_stat bo 0
      ∷ get_conf_stat bo 99 ∷ get_conf_stat di 11 ∷ get_conf_stat strong 99
      ∷ get_conf_stat strong 11 ∷ [])
      ≡ refusal 6 0 ∷ refusal 6 0 ∷ refusal 8 0 ∷ refusal 9 99 ∷ refusal 9 11 ∷ refusal 9 99 ∷ None
      ∷ []
  -- a person as it is told to itself, and to a strong session
  pub person_told : map (λ asked. get_person_stat asked 6) (bo ∷ strong ∷ [])
      ≡ replicate 2 (tells_bo 108 109 2 3)
  -- others are not told what it read, fetched and marked, nor of a membership in a conference that
  -- they do not see
  pub person_told_to_others :
      map (λ asked. get_person_stat asked 6) (anna ∷ cy ∷ di ∷ not_strong ∷ [])
      ≡ tells_bo 0 0 0 3 ∷ tells_bo 0 0 0 2 ∷ tells_bo 0 0 0 2 ∷ tells_bo 0 0 0 2 ∷ []
  -- nor is its supervisor, while the person itself is
  pub person_told_to_supervisor :
      map (λ asked. get_person_stat (after (under_di 6) asked) 6) (di ∷ bo ∷ [])
      ≡ tells_bo 0 0 0 2 ∷ tells_bo 108 109 2 3 ∷ []
  -- a secret membership is counted to the person, the conference's supervisor and a strong session
  pub memberships_counted :
      map (λ asked. conferences_told (get_person_stat asked 7))
      (cy ∷ anna ∷ strong ∷ bo ∷ di ∷ not_strong ∷ [])
      ≡ 2 ∷ 2 ∷ 2 ∷ 1 ∷ 1 ∷ 1 ∷ []
  -- and to the person's supervisor
  pub memberships_counted_to_supervisor :
      conferences_told (get_person_stat (after (under_di 7) di) 7) ≡ 2
  -- that of another person to a strong session, and not to the privilege alone
  pub memberships_counted_to_strength :
      map (λ asked. conferences_told (get_person_stat (after in_secret asked) 6)) (strong ∷ cy ∷ [])
      ≡ 3 ∷ 1 ∷ []
  -- one by invitation is counted
  pub memberships_counted_of_others :
      map (λ number. conferences_told (get_person_stat bo number)) (5 ∷ 8 ∷ []) ≡ 2 ∷ 2 ∷ []
  -- the marks of the person alone
  pub marks_counted :
      map (λ asked. marks_told (get_person_stat asked 5)) (anna ∷ bo ∷ strong ∷ []) ≡ 1 ∷ 0 ∷ 1 ∷ []
  -- without the first text that it made, or without the last one
  pub created_counted :
      map (λ effects. created_told (get_person_stat (after effects di) 6))
      (without_second ∷ without_seventh ∷ [])
      ≡ (2, 2) ∷ (1, 3) ∷ []
  -- without any; and of a person that never made one, or two. One without an author is nobody's
  pub none_created : created_told (get_person_stat (after without_fifth di) 7) ≡ (2, 0)
  pub created_counted_of_others :
      map (λ number. created_told (get_person_stat bo number)) (8 ∷ 5 ∷ 7 ∷ [])
      ≡ (1, 0) ∷ (1, 2) ∷ (1, 1) ∷ []
  -- refused in this order: nobody is logged in; the person is 0; it is none
  pub person_not_told :
      early_of (get_person_stat stranger 0 ∷ get_person_stat stranger 6 ∷ get_person_stat bo 0
      ∷ get_person_stat bo 9 ∷ get_person_stat strong 99 ∷ [])
      ≡ refusal 6 0 ∷ refusal 6 0 ∷ refusal 8 0 ∷ refusal 10 9 ∷ refusal 10 99 ∷ []
  -- A text as it is told to its author: the recipients, each with its local number and, if it was
  -- added later, by whom and when; the texts that it comments, by whom and when it became a comment
  -- to them if that was later; the comments to it; and the same of footnotes. Links to texts that
  -- are hidden are told.
  pub text_told : get_text_stat bo 4
      ≡ tells_fourth (in_open ++ in_board ++ to_di ++ in_closed ++ to_bo)
  -- to a strong session
  pub text_told_to_strength : get_text_stat strong 4
      ≡ tells_fourth (in_open ++ in_board ++ to_di ++ in_closed ++ to_bo)
  -- a reader of one recipient is told neither of a secret one nor of one that is shown to few
  pub text_told_to_a_reader : get_text_stat cy 4 ≡ tells_fourth (in_open ++ to_bo)
  -- who reads such a one is told of it, but not of the other
  pub text_told_to_a_recipient : map (λ asked. get_text_stat asked 4) (di ∷ not_strong ∷ [])
      ≡ replicate 2 (tells_fourth (in_open ++ to_di ++ to_bo))
  -- who supervises it, and the secret one
  pub text_told_to_a_supervisor : get_text_stat anna 4
      ≡ tells_fourth (in_open ++ in_board ++ in_closed ++ to_bo)
  -- who sent it there, also if it does not read it
  pub text_told_to_its_sender :
      get_text_stat (after (effect.ConfField 10 (field.Supervisor 7) ∷ []) anna) 4
      ≡ tells_fourth (in_open ++ in_board ++ in_closed ++ to_bo)
  -- who may read it since it is open
  pub text_told_in_the_open :
      get_text_stat (after (effect.ConfField 10 (field.Kind 0) ∷ []) cy) 4
      ≡ tells_fourth (in_open ++ in_closed ++ to_bo)
  -- its author is not told of a secret one that it does not see
  pub author_not_told : get_text_stat (after (effect.MemberGone 6 11 ∷ []) bo) 4
      ≡ tells_fourth (in_open ++ to_di ++ in_closed ++ to_bo)
  -- nor its author or its sender of one that is shown to few and became secret
  pub sender_not_told :
      map (λ asked. get_text_stat (after (effect.ConfField 10 (field.Supervisor 7)
      ∷ effect.ConfField 10 (field.Kind 160) ∷ []) asked) 4)
      (bo ∷ anna ∷ [])
      ≡ tells_fourth (in_open ++ in_board ++ to_di ++ to_bo)
      ∷ tells_fourth (in_open ++ in_board ++ to_bo) ∷ []
  -- one without an author; and it was made a comment later
  pub text_without_author_told : get_text_stat di 6
      ≡ answers (reply.TextStat (record {
        created = 24;
        author = 0;
        lines = 1;
        chars = 2;
        marks = 0;
        misc_infos =
            info.Recipient 9 ∷ info.Local 5 ∷ info.CommentTo 4 ∷ info.SentBy 7 ∷ info.SentAt 28
            ∷ [];
        aux_items = [];
      }))
  -- one that was made a footnote later, with the marks of all
  pub text_with_marks_told : get_text_stat di 1
      ≡ answers (reply.TextStat (record {
        created = 20;
        author = 5;
        lines = 0;
        chars = 5;
        marks = 2;
        misc_infos =
            info.Recipient 9 ∷ info.Local 1 ∷ info.CommentIn 4 ∷ info.FootnoteTo 4 ∷ info.SentBy 5
            ∷ info.SentAt 29 ∷ [];
        aux_items = [];
      }))
  -- one without recipients, to its author
  pub text_without_recipients_told :
      infos_told (get_text_stat (after (effect.TextAdded 8 6 20 [] ∷ []) bo) 8) ≡ []
  -- refused in this order: nobody is logged in; the text is 0; it is missing; it is hidden
  pub text_not_told :
      early_of (get_text_stat stranger 0 ∷ get_text_stat stranger 1 ∷ get_text_stat bo 0
      ∷ get_text_stat bo 98 ∷ get_text_stat bo 3 ∷ get_text_stat cy 7 ∷ get_text_stat strong 98
      ∷ get_text_stat strong 3 ∷ get_text_stat di 7 ∷ [])
      ≡ refusal 6 0 ∷ refusal 6 0 ∷ refusal 15 0 ∷ refusal 14 98 ∷ refusal 14 3 ∷ refusal 14 7
      ∷ refusal 14 98 ∷ None ∷ None ∷ []
  -- what is counted stops at the last count
  pub counts_stop : map told_count (0 ∷ 4294967295 ∷ 4294967296 ∷ [])
      ≡ 0 ∷ 4294967295 ∷ 4294967295 ∷ []
  -- where a session is, is told to who sees that conference: to a stranger, a member, its
  -- supervisor, nobody, and who is shown all
  pub where_it_is :
      map (λ viewer. working_shown rows viewer (seat 2 6 0 11 14))
      (person 8 ∷ person 6 ∷ person 5 ∷ nobody ∷ strong_nobody ∷ [])
      ≡ 0 ∷ 11 ∷ 11 ∷ 0 ∷ 11 ∷ []
  -- in an open one, in none, and in one that is missing
  pub where_others_are :
      map (λ working. working_shown rows (person 8) (seat 2 6 0 working 14)) (9 ∷ 10 ∷ 0 ∷ 99 ∷ [])
      ≡ 9 ∷ 10 ∷ 0 ∷ 0 ∷ []
