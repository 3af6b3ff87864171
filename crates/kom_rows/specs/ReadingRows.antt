-- What becomes of what was read, and what the calls come to that set it or tell what is unread,
-- worked out by hand.
use Rattle.std.specs.Prelude.{◌≡◌, ℕ, true, false, List, [], ◌∷◌, ◌++◌, map, replicate, Some, None}
use Rattle.kom_types.specs.declared.effects.ConfField.TheVariants as field
use Rattle.kom_types.specs.declared.effects.Counter.TheVariants as counter
use Rattle.kom_types.specs.declared.effects.Effect.{Effect}
use Rattle.kom_types.specs.declared.effects.Effect.TheVariants as effect
use Rattle.kom_types.specs.declared.effects.PersonField.TheVariants as person_field
use Rattle.kom_types.specs.declared.memberships.ReadRange.{ReadRange}
use Rattle.kom_types.specs.declared.replies.Reply.TheVariants as reply
use Rattle.kom_rows.specs.Cast.{member, under_di, range, after, comes_to, answers, early_of}
use Rattle.kom_model.specs.Db.{read_of}
use Rattle.kom_model.specs.Effects.{fits}
use Rattle.kom_rows.specs.MemberRows.{cast, rows, secretive, has_read, time_in}
use Rattle.kom_model.specs.calls.Call.{Definition}
use Rattle.kom_model.specs.calls.Guards.{refusal}
use Rattle.kom_model.specs.calls.Memberships.{mark_as_read, set_unread, get_unread_confs}
use Rattle.kom_model.specs.calls.Memberships.{set_last_read, mark_as_unread, set_read_ranges}
-- the strong session is Cy's; Di has not the privilege
open cast use {with_effects, made_by, stranger, anna, bo, cy, di}
open cast use {high_cy as strong, high_di as not_strong}

-- no guard refuses a call, and it tells these conferences
abbrev pub lists : List ℕ → Definition
lists conferences = answers (reply.Numbers conferences)

-- what Bo's reading calls make of these ranges in 9
abbrev pub reads : List ReadRange → Definition
reads ranges = comes_to (effect.ReadSet 6 9 30 ranges ∷ []) []

-- the same, where so many texts were marked that were not read
abbrev pub reads_new : List ReadRange → ℕ → Definition
reads_new ranges many =
    comes_to (effect.ReadSet 6 9 30 ranges ∷ effect.Counted 6 counter.ReadTexts many ∷ []) []

-- the unread conferences of Bo that Bo is told after these effects
abbrev pub unread_after : List Effect → Definition
unread_after effects = get_unread_confs (after effects bo) 6

-- what becomes of what was read, and what the calls over it come to, in cases that were worked out
-- by hand
pub record ReadingRows : Type 0 where
  -- texts in any order, one of them twice: each new one counts once, and the ranges become one
  pub marks : mark_as_read bo 9 (5 ∷ 1 ∷ 4 ∷ 1 ∷ []) ≡ reads_new (range 1 5 ∷ []) 3
  -- only what was not read counts
  pub marks_part : mark_as_read bo 9 (5 ∷ 3 ∷ 2 ∷ []) ≡ reads_new (range 2 3 ∷ range 5 5 ∷ []) 1
  -- a number next to a range lengthens it, at either end
  pub marks_at_an_edge : mark_as_read bo 9 (4 ∷ []) ∷ mark_as_read bo 9 (1 ∷ []) ∷ []
      ≡ reads_new (range 2 4 ∷ []) 1 ∷ reads_new (range 1 3 ∷ []) 1 ∷ []
  -- what was read already counts nothing, but the time is set
  pub marked_before : mark_as_read bo 9 (3 ∷ 2 ∷ []) ≡ reads (range 2 3 ∷ [])
  -- so it is with an empty list
  pub marks_nothing : mark_as_read bo 9 [] ≡ reads (range 2 3 ∷ [])
  -- a number whose text is deleted can be marked
  pub marks_a_deleted_text : mark_as_read (after (effect.RecipientGone 1 9 ∷ []) bo) 9 (1 ∷ [])
      ≡ reads_new (range 1 3 ∷ []) 1
  -- also the last one
  pub marks_the_last_number : mark_as_read (after (effect.RecipientGone 5 9 ∷ []) bo) 9 (5 ∷ [])
      ≡ reads_new (range 2 3 ∷ range 5 5 ∷ []) 1
  -- an invited person may mark, into an empty set
  pub marks_as_invited : mark_as_read anna 9 (2 ∷ [])
      ≡ comes_to (effect.ReadSet 5 9 30 (range 2 2 ∷ []) ∷ effect.Counted 5 counter.ReadTexts 1
      ∷ []) []
  -- refused in this order: nobody is logged in; the conference is 0; it is missing; it is hidden;
  -- no membership, before a number that is 0; none by strength or by supervising
  pub marking_refused :
      early_of (mark_as_read stranger 0 [] ∷ mark_as_read bo 0 [] ∷ mark_as_read bo 99 []
      ∷ mark_as_read di 11 (0 ∷ []) ∷ mark_as_read di 9 (0 ∷ []) ∷ mark_as_read strong 11 (1 ∷ [])
      ∷ mark_as_read anna 11 [] ∷ [])
      ≡ refusal 6 0 ∷ refusal 8 0 ∷ refusal 9 99 ∷ refusal 9 11 ∷ refusal 13 9 ∷ refusal 13 11
      ∷ refusal 13 11 ∷ []
  -- the numbers are tried in turn: 0, then one above the highest; nothing is above 0 in an empty
  -- conference
  pub numbers_refused :
      early_of (mark_as_read bo 9 (1 ∷ 0 ∷ 9 ∷ []) ∷ mark_as_read bo 9 (1 ∷ 9 ∷ 0 ∷ [])
      ∷ mark_as_read bo 9 (6 ∷ []) ∷ mark_as_read bo 6 (1 ∷ []) ∷ [])
      ≡ refusal 17 0 ∷ refusal 16 9 ∷ refusal 16 6 ∷ refusal 16 1 ∷ []
  -- all but the last so many count as read
  pub unread : set_unread bo 9 0 ∷ set_unread bo 9 2 ∷ set_unread bo 9 4 ∷ []
      ≡ reads (range 1 5 ∷ []) ∷ reads (range 1 3 ∷ []) ∷ reads (range 1 1 ∷ []) ∷ []
  -- as many unread as there are, or more: nothing is read
  pub all_unread : set_unread bo 9 5 ∷ set_unread bo 9 6 ∷ set_unread bo 9 4294967295 ∷ []
      ≡ reads [] ∷ reads [] ∷ reads [] ∷ []
  -- a conference without texts leaves an empty set
  pub none_to_read : set_unread bo 6 0 ≡ comes_to (effect.ReadSet 6 6 30 [] ∷ []) []
  -- deleted texts count with the others
  pub unread_of_deleted_texts :
      set_unread (after (effect.RecipientGone 5 9 ∷ effect.RecipientGone 1 9 ∷ []) bo) 9 2
      ≡ reads (range 1 3 ∷ [])
  -- refused in this order: as for marking; also a strong session without a membership
  pub unread_refused :
      early_of (set_unread stranger 0 0 ∷ set_unread bo 0 0 ∷ set_unread bo 99 0
      ∷ set_unread di 11 0 ∷ set_unread di 9 0 ∷ set_unread strong 11 0 ∷ [])
      ≡ refusal 6 0 ∷ refusal 8 0 ∷ refusal 9 99 ∷ refusal 9 11 ∷ refusal 13 9 ∷ refusal 13 11 ∷ []
  -- all up to a number is read; 0 is none, and the highest is all
  pub last_read : set_last_read bo 9 0 ∷ set_last_read bo 9 1 ∷ set_last_read bo 9 5 ∷ []
      ≡ reads [] ∷ reads (range 1 1 ∷ []) ∷ reads (range 1 5 ∷ []) ∷ []
  -- refused in this order: as for marking, then a number above the highest; 0 passes
  pub last_read_refused :
      early_of (set_last_read stranger 0 9 ∷ set_last_read bo 0 9 ∷ set_last_read bo 99 9
      ∷ set_last_read di 11 9 ∷ set_last_read di 9 9 ∷ set_last_read bo 9 6 ∷ set_last_read bo 6 0
      ∷ [])
      ≡ refusal 6 0 ∷ refusal 8 0 ∷ refusal 9 99 ∷ refusal 9 11 ∷ refusal 13 9 ∷ refusal 16 6 ∷ None
      ∷ []
  -- a number at an end of a range goes, and the range stays
  pub unmarks : mark_as_unread bo 9 2 ∷ mark_as_unread bo 9 3 ∷ []
      ≡ reads (range 3 3 ∷ []) ∷ reads (range 2 2 ∷ []) ∷ []
  -- at both ends of a longer range; in its middle, which makes two of it
  pub unmarks_in_the_middle :
      map (mark_as_unread (after (has_read (range 1 5 ∷ [])) bo) 9) (1 ∷ 3 ∷ 5 ∷ [])
      ≡ reads (range 2 5 ∷ []) ∷ reads (range 1 2 ∷ range 4 5 ∷ []) ∷ reads (range 1 4 ∷ []) ∷ []
  -- the last number leaves an empty set
  pub unmarks_the_only_one : mark_as_unread (after (has_read (range 4 4 ∷ [])) bo) 9 4 ≡ reads []
  -- a number that was not read changes the time alone
  pub not_read_before : mark_as_unread bo 9 1 ∷ mark_as_unread bo 9 5 ∷ []
      ≡ reads (range 2 3 ∷ []) ∷ reads (range 2 3 ∷ []) ∷ []
  -- refused in this order: as for marking, then 0, then a number above the highest
  pub unmarking_refused :
      early_of (mark_as_unread stranger 0 0 ∷ mark_as_unread bo 0 0 ∷ mark_as_unread bo 99 0
      ∷ mark_as_unread di 11 0 ∷ mark_as_unread di 9 0 ∷ mark_as_unread bo 9 0
      ∷ mark_as_unread bo 9 6 ∷ [])
      ≡ refusal 6 0 ∷ refusal 8 0 ∷ refusal 9 99 ∷ refusal 9 11 ∷ refusal 13 9 ∷ refusal 17 0
      ∷ refusal 16 6 ∷ []
  -- none, one and two ranges take the place of what was read, and nothing counts
  pub ranges_set :
      map (set_read_ranges bo 9) ([] ∷ (range 4 4 ∷ []) ∷ (range 1 1 ∷ range 3 5 ∷ []) ∷ [])
      ≡ reads [] ∷ reads (range 4 4 ∷ []) ∷ reads (range 1 1 ∷ range 3 5 ∷ []) ∷ []
  -- ranges that touch become one in the stored rows
  pub ranges_merged :
      map (λ ranges. read_of (made_by (set_read_ranges bo 9 ranges)) 6 9)
      ((range 1 2 ∷ range 3 4 ∷ []) ∷ (range 1 1 ∷ range 2 2 ∷ range 4 4 ∷ range 5 5 ∷ []) ∷ [])
      ≡ (range 1 4 ∷ []) ∷ (range 1 2 ∷ range 4 5 ∷ []) ∷ []
  -- a range that begins with 0 or after its end is invalid, with its place
  pub ranges_invalid :
      early_of (map (set_read_ranges bo 9) ((range 0 2 ∷ []) ∷ (range 0 0 ∷ []) ∷ (range 3 2 ∷ [])
      ∷ (range 1 1 ∷ range 5 4 ∷ []) ∷ []))
      ≡ refusal 55 0 ∷ refusal 55 0 ∷ refusal 55 0 ∷ refusal 55 1 ∷ []
  -- a range that begins at or before the end of the one before it is out of order, with its place
  pub ranges_out_of_order :
      early_of (map (set_read_ranges bo 9) ((range 1 2 ∷ range 2 3 ∷ [])
      ∷ (range 4 5 ∷ range 1 2 ∷ []) ∷ (range 1 1 ∷ range 3 3 ∷ range 3 3 ∷ []) ∷ []))
      ≡ refusal 56 1 ∷ refusal 56 1 ∷ refusal 56 2 ∷ []
  -- a range's end is at most the highest number
  pub ranges_past_the_highest :
      early_of (map (set_read_ranges bo 9) ((range 1 6 ∷ []) ∷ (range 1 2 ∷ range 7 9 ∷ []) ∷ []))
      ≡ refusal 16 6 ∷ refusal 16 9 ∷ []
  -- the first faulty range decides, and of its faults invalid, then order, then its end
  pub first_fault :
      early_of (map (set_read_ranges bo 9) ((range 3 4 ∷ range 2 1 ∷ [])
      ∷ (range 4 5 ∷ range 1 6 ∷ []) ∷ (range 1 6 ∷ range 0 0 ∷ []) ∷ (range 9 6 ∷ []) ∷ []))
      ≡ refusal 55 1 ∷ refusal 56 1 ∷ refusal 16 6 ∷ refusal 55 0 ∷ []
  -- refused in this order: as for marking, before the ranges are looked at
  pub ranges_refused :
      early_of (set_read_ranges stranger 0 [] ∷ set_read_ranges bo 0 [] ∷ set_read_ranges bo 99 []
      ∷ set_read_ranges di 11 (range 0 0 ∷ []) ∷ set_read_ranges di 9 (range 0 0 ∷ []) ∷ [])
      ≡ refusal 6 0 ∷ refusal 8 0 ∷ refusal 9 99 ∷ refusal 9 11 ∷ refusal 13 9 ∷ []
  -- in the order of the places, without the passive one; a secret conference to its person, its
  -- supervisor and a strong session
  pub unread_told : map (λ asked. get_unread_confs asked 6) (bo ∷ anna ∷ strong ∷ di ∷ [])
      ≡ lists (11 ∷ 9 ∷ []) ∷ lists (11 ∷ 9 ∷ []) ∷ lists (11 ∷ 9 ∷ []) ∷ lists (9 ∷ []) ∷ []
  -- a secret membership to its person and the conference's supervisor alone
  pub unread_in_secret : map (λ asked. get_unread_confs asked 7) (cy ∷ anna ∷ di ∷ [])
      ≡ lists (9 ∷ []) ∷ lists (9 ∷ []) ∷ lists [] ∷ []
  -- an invitation is listed
  pub unread_as_invited : get_unread_confs di 5 ≡ lists (9 ∷ [])
  -- all numbers are read
  pub all_read : unread_after (has_read (range 1 5 ∷ [])) ≡ lists (11 ∷ [])
  -- and more than there are
  pub read_past_the_highest : unread_after (has_read (range 1 9 ∷ [])) ≡ lists (11 ∷ [])
  -- deleted texts before the first that is left need not be read
  pub first_deleted : unread_after (effect.RecipientGone 1 9 ∷ has_read (range 2 5 ∷ []))
      ≡ lists (11 ∷ [])
  -- but the first that is left
  pub first_left_unread : unread_after (effect.RecipientGone 1 9 ∷ has_read (range 3 5 ∷ []))
      ≡ lists (11 ∷ 9 ∷ [])
  -- a deleted text in the middle counts as unread
  pub middle_deleted :
      unread_after (effect.RecipientGone 3 9 ∷ has_read (range 1 2 ∷ range 4 5 ∷ []))
      ≡ lists (11 ∷ 9 ∷ [])
  -- and a deleted one at the end, whose number is still the highest
  pub last_deleted : unread_after (effect.RecipientGone 5 9 ∷ has_read (range 1 4 ∷ []))
      ≡ lists (11 ∷ 9 ∷ [])
  -- no text is left: nothing is unread
  pub all_deleted : unread_after (effect.RecipientGone 7 11 ∷ []) ≡ lists (9 ∷ [])
  -- a membership that is passive no longer is listed
  pub passive_no_more : unread_after (member 6 10 9 6 0 ∷ []) ≡ lists (11 ∷ 9 ∷ 10 ∷ [])
  -- passive is that bit alone
  pub passive_by_its_bit : map (λ kind. unread_after (member 6 10 9 6 kind ∷ [])) (80 ∷ 191 ∷ [])
      ≡ lists (11 ∷ 9 ∷ []) ∷ lists (11 ∷ 9 ∷ 10 ∷ []) ∷ []
  -- another place changes the order
  pub unread_by_places : unread_after (member 6 9 0 6 0 ∷ []) ≡ lists (9 ∷ 11 ∷ [])
  -- what is read is secret: told to its person and a strong session, and refused to others, also
  -- the supervisor of the conference
  pub secret_unread :
      early_of (map (λ asked. get_unread_confs (after secretive asked) 6)
      (bo ∷ strong ∷ anna ∷ di ∷ not_strong ∷ []))
      ≡ None ∷ None ∷ refusal 12 6 ∷ refusal 12 6 ∷ refusal 12 6 ∷ []
  -- that is one flag alone
  pub secret_by_its_flag :
      early_of (map (λ flags. get_unread_confs
      (after (effect.PersonField 6 (person_field.Flags flags) ∷ []) di) 6) (127 ∷ 255 ∷ []))
      ≡ None ∷ refusal 12 6 ∷ []
  -- its supervisor is told; the person itself is refused then
  pub secret_unread_under_another :
      early_of (map (λ asked. get_unread_confs (after (under_di 6 ++ secretive) asked) 6)
      (di ∷ bo ∷ []))
      ≡ None ∷ refusal 12 6 ∷ []
  -- the supervisor is a conference: its members are told, also the person as one of them, but not
  -- who was only invited
  pub secret_unread_under_members :
      early_of (map (λ asked. get_unread_confs
      (after (effect.ConfField 6 (field.Supervisor 9) ∷ secretive) asked) 6) (cy ∷ bo ∷ anna ∷ []))
      ≡ None ∷ None ∷ refusal 12 6 ∷ []
  -- so it is with the members of the letterbox of a person that supervises itself
  pub secret_unread_in_letterbox :
      early_of (map (λ kind. get_unread_confs (after (member 7 6 9 7 kind ∷ secretive) cy) 6)
      (0 ∷ 128 ∷ []))
      ≡ None ∷ refusal 12 6 ∷ []
  -- the supervisor is told only what it is shown
  pub unread_under_another : get_unread_confs (after (under_di 6 ++ secretive) di) 6
      ≡ lists (9 ∷ [])
  -- refused in this order: nobody is logged in; 0; a conference that is no person; nothing
  pub unread_confs_refused :
      early_of (get_unread_confs stranger 0 ∷ get_unread_confs bo 0 ∷ get_unread_confs bo 9
      ∷ get_unread_confs bo 99 ∷ [])
      ≡ refusal 6 0 ∷ refusal 8 0 ∷ refusal 10 9 ∷ refusal 10 99 ∷ []
  -- ranges may be none, may touch and may pass the highest number
  pub set_fits :
      map (λ ranges. fits (effect.ReadSet 6 9 26 ranges) rows)
      ([] ∷ (range 1 2 ∷ range 3 4 ∷ []) ∷ (range 1 4294967295 ∷ [])
      ∷ (range 7 8 ∷ range 10 10 ∷ []) ∷ [])
      ≡ replicate 4 true
  -- not one from 0 on, one after its end, one that meets the one before, or one before it
  pub set_fits_not :
      map (λ ranges. fits (effect.ReadSet 6 9 26 ranges) rows)
      ((range 0 1 ∷ []) ∷ (range 3 2 ∷ []) ∷ (range 1 2 ∷ range 2 3 ∷ [])
      ∷ (range 4 4 ∷ range 1 1 ∷ []) ∷ [])
      ≡ replicate 4 false
  -- only of a membership that is there, by its person and its conference
  pub set_of_no_membership :
      map (λ what. fits what rows) (effect.ReadSet 6 12 26 [] ∷ effect.ReadSet 9 6 26 []
      ∷ effect.ReadSet 8 9 26 [] ∷ [])
      ≡ replicate 3 false
  -- ranges that touch become one
  pub set_merges : read_of (with_effects (has_read (range 1 2 ∷ range 3 4 ∷ range 7 9 ∷ []))) 6 9
      ≡ range 1 4 ∷ range 7 9 ∷ []
  -- they take the place of those that were there
  pub set_replaces : read_of (with_effects (has_read (range 5 5 ∷ []))) 6 9 ≡ range 5 5 ∷ []
  -- and their moment that of the last reading
  pub set_has_its_time : time_in 6 9 (with_effects (has_read [])) ≡ Some 26
  -- what another has read stays
  pub set_of_one : read_of (with_effects (effect.ReadSet 7 9 26 (range 1 1 ∷ []) ∷ [])) 6 9
      ≡ range 2 3 ∷ []
  -- and so does what the same person has read of another conference
  pub set_of_one_conference :
      read_of (with_effects (effect.ReadSet 6 11 26 (range 1 1 ∷ []) ∷ [])) 6 9
      ≡ range 2 3 ∷ []
  -- with the time
  pub time_of_one :
      map (λ what. time_in 6 9 (with_effects (what ∷ [])))
      (effect.ReadSet 6 11 26 [] ∷ effect.ReadSet 7 9 26 [] ∷ [])
      ≡ Some 25 ∷ Some 25 ∷ []
