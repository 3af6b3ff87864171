-- Which texts are due, worked out by hand.
use Rattle.std.specs.Prelude.{◌≡◌, ℕ, ◌-◌, ◌*◌, Bool, true, false, codes, List, [], ◌∷◌, Option}
use Rattle.std.specs.Prelude.{Some, None}
use Rattle.kom_types.specs.declared.aux_items.AuxRow.{AuxRow}
use Rattle.kom_types.specs.declared.conferences.Conference.{Conference}
use Rattle.kom_types.specs.declared.persons.Person.{Person}
use Rattle.kom_types.specs.declared.texts.MiscInfo.{MiscInfo}
use Rattle.kom_types.specs.declared.texts.MiscInfo.TheVariants as misc
use Rattle.kom_types.specs.declared.texts.TextStat.{TextStat}
use Rattle.kom_types.specs.declared.replies.Reply.{Reply}
use Rattle.kom_types.specs.declared.replies.Reply.TheVariants as reply
use Rattle.kom_sweep.specs.Due.{Step, Walk, Room, Look, is_due}

-- ---- what is told

-- a conference or letterbox that keeps its texts for so many days, and names these texts
abbrev pub conference : ℕ → ℕ → ℕ → ℕ → ℕ → ℕ → List AuxRow → Conference
conference kind nice keep_commented expire presentation motd aux_items = record {
  name = [];
  kind = kind;
  created = 0;
  last_written = 0;
  creator = 5;
  presentation = presentation;
  supervisor = 5;
  submitters = 0;
  super_conference = 0;
  motd = motd;
  nice = nice;
  keep_commented = keep_commented;
  members = 0;
  first_local = 1;
  texts = 0;
  expire = expire;
  aux_items = aux_items;
}

abbrev pub person : ℕ → Person
person user_area = record {
  user = [];
  privileges = 0;
  flags = 0;
  last_login = 0;
  user_area = user_area;
  time_present = 0;
  sessions = 0;
  created_lines = 0;
  created_bytes = 0;
  read_texts = 0;
  text_fetches = 0;
  created_persons = 0;
  created_conferences = 0;
  first_created_local = 1;
  created_texts = 0;
  marks = 0;
  conferences = 0;
}

abbrev pub item : ℕ → ℕ → List ℕ → AuxRow
item tag flags content = record {
  number = 1;
  tag = tag;
  creator = 5;
  at = 0;
  flags = flags;
  limit = 0;
  content = content;
}

abbrev pub room : ℕ → Conference → Option Reply → Step Room
room number told owner = record {
  after = 0;
  number = number;
  told = record { conference = Some (reply.Conference told); owner = owner };
}

-- a walk to the end over these
abbrev pub rooms : List (Step Room) → Walk Room
rooms steps = record { steps = steps; at = 7; last = Some (reply.Refused 9 0) }

-- conference 6 keeps texts for 77 days, and 7 for 100
abbrev pub six : Step Room
six = room 6 (conference 0 77 77 0 0 0 []) None

abbrev pub seven : Step Room
seven = room 7 (conference 0 100 100 0 0 0 []) None

abbrev pub text : ℕ → ℕ → List MiscInfo → List AuxRow → TextStat
text created marks misc_infos aux_items = record {
  created = created;
  author = 5;
  lines = 0;
  chars = 1;
  marks = marks;
  misc_infos = misc_infos;
  aux_items = aux_items;
}

-- text 12, which was made at 0
abbrev pub look : ℕ → List MiscInfo → List AuxRow → List (ℕ × Option Reply) → Step Look
look marks misc_infos aux_items children = record {
  after = 0;
  number = 12;
  told = record {
    stat = Some (reply.TextStat (text 0 marks misc_infos aux_items));
    children = children;
  };
}

-- to conference 6
abbrev pub plain : Step Look
plain = look 0 (misc.Recipient 6 ∷ misc.Local 1 ∷ []) [] []

-- a text that was made at the beginning of a day
abbrev pub child : ℕ → ℕ → ℕ × Option Reply
child number day = (number, Some (reply.TextStat (text (day * 86400) 0 [] [])))

-- whether it is due at the beginning of a day, among these conferences
abbrev pub due_on : ℕ → List (Step Room) → Step Look → Bool
due_on day steps one = is_due (day * 86400) (rooms steps) one

-- text 12, where a conference names it
abbrev pub named_by : Conference → Bool
named_by told = due_on 78 (six ∷ room 7 told None ∷ []) plain

-- ---- the rows

pub record DueRows : Type 0 where
  -- days
  pub nice_77 : is_due (78 * 86400 - 1) (rooms (six ∷ [])) plain ≡ false
  pub nice_78 : due_on 78 (six ∷ []) plain ≡ true
  pub expire_10 : due_on 10 (room 6 (conference 0 77 77 10 0 0 []) None ∷ []) plain ≡ false
  pub expire_11 : due_on 11 (room 6 (conference 0 77 77 10 0 0 []) None ∷ []) plain ≡ true
  -- recipients
  pub one_keeps : due_on 78 (six ∷ seven ∷ [])
      (look 0 (misc.Recipient 6 ∷ misc.CopyRecipient 7 ∷ []) [] []) ≡ false
  pub blind_keeps : due_on 78 (six ∷ seven ∷ [])
      (look 0 (misc.Recipient 6 ∷ misc.BlindRecipient 7 ∷ []) [] []) ≡ false
  pub both_let_go : due_on 101 (six ∷ seven ∷ [])
      (look 0 (misc.Recipient 6 ∷ misc.BlindRecipient 7 ∷ []) [] []) ≡ true
  pub unknown_keeps : due_on 78 (seven ∷ []) plain ≡ false
  pub nobody_77 : due_on 77 [] (look 0 [] [] []) ≡ false
  pub nobody_78 : due_on 78 [] (look 0 [] [] []) ≡ true
  -- comments and footnotes
  pub comment_keeps : due_on 154 (six ∷ [])
      (look 0 (misc.Recipient 6 ∷ misc.CommentIn 13 ∷ []) [] (child 13 77 ∷ [])) ≡ false
  pub comment_lets_go : due_on 155 (six ∷ [])
      (look 0 (misc.Recipient 6 ∷ misc.CommentIn 13 ∷ []) [] (child 13 77 ∷ [])) ≡ true
  pub one_footnote_keeps : due_on 154 (six ∷ [])
      (look 0 (misc.Recipient 6 ∷ misc.CommentIn 13 ∷ misc.FootnoteIn 14 ∷ []) []
      (child 13 1 ∷ child 14 77 ∷ [])) ≡ false
  pub expires_all_the_same : due_on 78 (room 6 (conference 0 77 77 10 0 0 []) None ∷ [])
      (look 0 (misc.Recipient 6 ∷ misc.CommentIn 13 ∷ []) [] (child 13 77 ∷ [])) ≡ true
  pub untold_comment : due_on 155 (six ∷ [])
      (look 0 (misc.Recipient 6 ∷ misc.CommentIn 13 ∷ []) []
      ((13, Some (reply.Refused 14 13)) ∷ [])) ≡ false
  pub comment_to_another : due_on 78 (six ∷ [])
      (look 0 (misc.Recipient 6 ∷ misc.CommentTo 1 ∷ []) [] []) ≡ true
  -- marks and items
  pub mark : due_on 78 (six ∷ []) (look 1 (misc.Recipient 6 ∷ []) [] []) ≡ false
  pub dont_garb : due_on 78 (six ∷ [])
      (look 0 (misc.Recipient 6 ∷ []) (item 2 8 (codes "x") ∷ []) []) ≡ false
  pub secret_item : due_on 78 (six ∷ [])
      (look 0 (misc.Recipient 6 ∷ []) (item 2 32 (codes "x") ∷ []) []) ≡ true
  -- texts that somebody names
  pub presentation : named_by (conference 0 77 77 0 12 0 []) ≡ false
  pub motd : named_by (conference 0 77 77 0 0 12 []) ≡ false
  pub faq : named_by (conference 0 77 77 0 0 0 (item 14 32 (codes "0012") ∷ [])) ≡ false
  pub other_faq : named_by (conference 0 77 77 0 0 0 (item 14 0 (codes "12x") ∷ [])) ≡ true
  pub no_faq : named_by (conference 0 77 77 0 0 0 (item 10 0 (codes "12") ∷ [])) ≡ true
  pub user_area : due_on 78
      (six ∷ room 7 (conference 16 77 77 0 0 0 []) (Some (reply.Person (person 12))) ∷ []) plain
      ≡ false
  pub other_area : due_on 78
      (six ∷ room 7 (conference 16 77 77 0 0 0 []) (Some (reply.Person (person 13))) ∷ []) plain
      ≡ true
  -- what is named is not known
  pub untold_person : due_on 78
      (six ∷ room 7 (conference 16 77 77 0 0 0 []) (Some (reply.Refused 10 7)) ∷ []) plain ≡ false
  pub untold_conference : due_on 78
      (six ∷ record { after = 6; number = 7; told = record { conference = None; owner = None } }
      ∷ []) plain ≡ false
  pub broken_off : is_due (78 * 86400)
      (record { steps = six ∷ []; at = 6; last = Some (reply.Refused 12 0) }) plain ≡ false
  pub untold : due_on 78 (six ∷ [])
      (record { after = 0; number = 12; told = record { stat = None; children = [] } }) ≡ false
