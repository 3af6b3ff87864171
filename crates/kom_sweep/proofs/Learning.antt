-- What is kept of conferences, with one more.
use Rattle.std.proofs.Common.{◌≡◌, ℕ, ◌==◌, ◌<◌, ◌^◌, ◌&&◌, ◌||◌, not, nat_eq, Bool, true, false, is_some, List, []}
use Rattle.std.proofs.Common.{◌∷◌, ◌++◌, Option, Some, None, option_map, refl, sym, ap, ◌∙◌, cond, ◌+◌}
use Rattle.std.proofs.Common.{take, length, get_or}
use Rattle.std.proofs.Common.{if◌then◌else◌}
use Rattle.std.specs.List.{list_all, list_any}
use Rattle.std.specs.Option.{option_or}
use Rattle.std.proofs.lemmas.List.Folds.{list_all-append, list_any-append, list_any_more}
use Rattle.indexmap.specs.IndexMap.{get}
use Rattle.indexmap.specs.IndexSet.{contains}
use Rattle.kom_types.specs.ByteKind.{is_digit}
use Rattle.kom_types.specs.tables.Conferences.{is_letterbox}
use Rattle.kom_types.specs.declared.aux_items.AuxRow.{AuxRow}
use Rattle.kom_types.specs.declared.aux_tags.TheConstants.{FAQ_TEXT}
use Rattle.kom_types.specs.declared.conferences.Conference.{Conference}
use Rattle.kom_types.specs.declared.persons.Person.{Person}
use Rattle.kom_types.specs.declared.replies.Reply.{Reply}
use Rattle.kom_sweep.specs.declared.names.Names.{Names}
use Rattle.kom_sweep.specs.declared.rule.Days.{Days}
use Rattle.kom_sweep.specs.Replies.{conference_in, person_in, is_last_conference}
use Rattle.kom_sweep.specs.Due.{Step, Room, days_in, days_at, days_of, is_named, names, conference_names}
use Rattle.kom_sweep.specs.Due.{person_names, is_told_room, is_whole, is_faq, number_in}
use Rattle.kom_sweep.specs.Names.{Knows, Learns, KnowsMore, LearnsOwner}

-- ---- bools and options

pub cond-or : (b c : Bool) → cond b true c ≡ (c || b)
cond-or true true = refl
cond-or true false = refl
cond-or false true = refl
cond-or false false = refl

pub cond-option_or : {X : Type 0} (b : Bool) (x : X) (o : Option X) →
    cond b (Some x) o ≡ option_or (if b then Some x else None) o
cond-option_or true x o = refl
cond-option_or false x o = refl

or-false : (b : Bool) → (b || false) ≡ b
or-false true = refl
or-false false = refl

or-assoc : (a b c : Bool) → ((a || b) || c) ≡ (a || (b || c))
or-assoc true b c = refl
or-assoc false b c = refl

option_or-none : {X : Type 0} (o : Option X) → option_or o None ≡ o
option_or-none None = refl
option_or-none (Some x) = refl

option_or-assoc : {X : Type 0} (o p q : Option X) → option_or (option_or o p) q ≡ option_or o (option_or p q)
option_or-assoc None p q = refl
option_or-assoc (Some x) p q = refl

-- ---- what is learned

-- nothing, or whether all were told
pub learns_none : (all : Bool) (old new : Names) → new.days ≡ old.days → new.named ≡ old.named → new.whole ≡ all →
    Learns (λ one. None) (λ text. false) all old new
learns_none all old new days named whole = record {
  days = λ conference. ap (λ map. get nat_eq map conference) days;
  named = λ text small. ap (λ set. contains nat_eq set text) named ∙ sym (or-false (contains nat_eq old.named text));
  whole = whole;
}

-- one thing after the other
pub learns_on : {days days' : ℕ → Option Days} {texts texts' : ℕ → Bool} {all all' : Bool} (x y z : Names) →
    Learns days texts all x y → Learns days' texts' all' y z →
    Learns (λ one. option_or (days' one) (days one)) (λ text. texts text || texts' text) all' x z
learns_on {days} {days'} {texts} {texts'} x y z one two = record {
  days = λ conference. two.days conference
      ∙ ap (λ o. option_or (days' conference) o) (one.days conference)
      ∙ sym (option_or-assoc (days' conference) (days conference) (get nat_eq x.days conference));
  named = λ text small. two.named text small ∙ ap (λ b. b || texts' text) (one.named text small)
      ∙ or-assoc (contains nat_eq x.named text) (texts text) (texts' text);
  whole = two.whole;
}

-- the same, said otherwise
pub learns_as : {days days' : ℕ → Option Days} {texts texts' : ℕ → Bool} {all all' : Bool} (x y : Names) →
    ((one : ℕ) → days one ≡ days' one) → ((text : ℕ) → texts text ≡ texts' text) → all ≡ all' →
    Learns days texts all x y → Learns days' texts' all' x y
learns_as x y same_days same_texts same_all one = record {
  days = λ conference. one.days conference ∙ ap (λ o. option_or o (get nat_eq x.days conference))
      (same_days conference);
  named = λ text small. one.named text small ∙ ap (λ b. contains nat_eq x.named text || b) (same_texts text);
  whole = one.whole ∙ same_all;
}

-- ---- steps

days_in-push : (rooms : List (Step Room)) (step : Step Room) (conference : ℕ) →
    days_in (rooms ++ step ∷ []) conference ≡ option_or (days_at step conference) (days_in rooms conference)
days_in-push [] step conference = sym (option_or-none (days_at step conference))
days_in-push (room ∷ rooms) step conference =
    ap (λ o. option_or o (days_at room conference)) (days_in-push rooms step conference)
    ∙ option_or-assoc (days_at step conference) (days_in rooms conference) (days_at room conference)

pub knows_none : (kept : Names) → ((conference : ℕ) → get nat_eq kept.days conference ≡ None) →
    ((text : ℕ) → contains nat_eq kept.named text ≡ false) → kept.whole ≡ true → Knows [] true kept
knows_none kept days named whole = record { days = days; named = λ text small. named text; whole = whole }

knows_more : (rooms : List (Step Room)) (step : Step Room) (old new : Names) →
    Knows rooms (list_all is_told_room rooms) old →
    Learns (days_at step) (λ text. names text step) (old.whole && is_told_room step) old new →
    Knows (rooms ++ step ∷ []) (list_all is_told_room (rooms ++ step ∷ [])) new
knows_more rooms step old new knows learns = record {
  days = λ conference. learns.days conference ∙ ap (λ o. option_or (days_at step conference) o) (knows.days conference)
      ∙ sym (days_in-push rooms step conference);
  named = λ text small. learns.named text small ∙ ap (λ b. b || names text step) (knows.named text small)
      ∙ ap (λ b. is_named rooms text || b) (sym (or-false (names text step)))
      ∙ sym (list_any-append (names text) rooms (step ∷ []));
  whole = learns.whole ∙ ap (λ b. b && is_told_room step) knows.whole
      ∙ ap (λ b. list_all is_told_room rooms && b) (and-true (is_told_room step))
      ∙ sym (list_all-append is_told_room rooms (step ∷ []));
}
  where
    and-true : (b : Bool) → b ≡ (b && true)
    and-true true = refl
    and-true false = refl

pub knows_end : (rooms : List (Step Room)) (at : ℕ) (last : Option Reply) (old new : Names) →
    Knows rooms (list_all is_told_room rooms) old → new.days ≡ old.days → new.named ≡ old.named →
    new.whole ≡ (old.whole && is_last_conference last) →
    Knows rooms (is_whole (record { steps = rooms; at = at; last = last })) new
knows_end rooms at last old new knows days named whole = record {
  days = λ conference. ap (λ map. get nat_eq map conference) days ∙ knows.days conference;
  named = λ text small. ap (λ set. contains nat_eq set text) named ∙ knows.named text small;
  whole = whole ∙ ap (λ b. b && is_last_conference last) knows.whole;
}

-- ---- a conference

-- it was not told
pub knows_untold : (number : ℕ) (reply : Option Reply) (old new : Names) → conference_in reply ≡ None →
    new.days ≡ old.days → new.named ≡ old.named → new.whole ≡ false →
    KnowsMore number (record { conference = reply; owner = None }) old new
knows_untold number reply old new e days named whole rooms after knows =
    knows_more rooms (record { after = after; number = number; told = record { conference = reply; owner = None } })
    old new knows (learns_as old new same_days same_texts (sym same_all) (learns_none false old new days named whole))
  where
    same_days : (one : ℕ) → None ≡ (if number == one then option_map days_of (conference_in reply) else None)
    same_days one = by (number == one) (ap (option_map days_of) e)
      where
        by : (b : Bool) {o : Option Days} → o ≡ None → None ≡ (if b then o else None)
        by true p = sym p
        by false p = refl

    same_texts : (text : ℕ) →
        false ≡ names text (record {
          after = after;
          number = number;
          told = record { conference = reply; owner = None };
        })
    same_texts text = rw (e) refl

    same_all : (old.whole && is_told_room (record {
      after = after;
      number = number;
      told = record { conference = reply; owner = None };
    })) ≡ false
    same_all = rw (e, is_told_room) (by old.whole)
      where
        by : (b : Bool) → (b && false) ≡ false
        by true = refl
        by false = refl

-- it is no letterbox
pub knows_told : (number : ℕ) (reply : Option Reply) (conference : Conference) (old new : Names) →
    conference_in reply ≡ Some conference → is_letterbox conference.kind ≡ false →
    Learns (λ one. if number == one then Some (days_of conference) else None)
    (λ text. conference_names text (Some conference)) old.whole old new →
    KnowsMore number (record { conference = reply; owner = None }) old new
knows_told number reply conference old new e letter learns rooms after knows =
    knows_more rooms (record { after = after; number = number; told = record { conference = reply; owner = None } })
    old new knows (learns_as old new same_days same_texts (sym same_all) learns)
  where
    same_days : (one : ℕ) → (if number == one then Some (days_of conference) else None)
        ≡ (if number == one then option_map days_of (conference_in reply) else None)
    same_days one = ap (λ o. if number == one then o else None) (sym (ap (option_map days_of) e))

    same_texts : (text : ℕ) → conference_names text (Some conference)
        ≡ names text (record { after = after; number = number; told = record { conference = reply; owner = None } })
    same_texts text = rw (e, letter) (sym (or-false (conference_names text (Some conference))))

    same_all : (old.whole && is_told_room (record {
      after = after;
      number = number;
      told = record { conference = reply; owner = None };
    })) ≡ old.whole
    same_all = rw (e, is_told_room, letter) (by old.whole)
      where
        by : (b : Bool) → (b && true) ≡ b
        by true = refl
        by false = refl

-- it is one
pub knows_owned : (number : ℕ) (reply owner : Option Reply) (conference : Conference) (old mid new : Names) →
    conference_in reply ≡ Some conference → is_letterbox conference.kind ≡ true →
    Learns (λ one. if number == one then Some (days_of conference) else None)
    (λ text. conference_names text (Some conference)) old.whole old mid → LearnsOwner owner mid new →
    KnowsMore number (record { conference = reply; owner = owner }) old new
knows_owned number reply owner conference old mid new e letter learns owned rooms after knows =
    knows_more rooms (record { after = after; number = number; told = record { conference = reply; owner = owner } })
    old new knows (learns_as old new same_days same_texts same_all (learns_on old mid new learns owned))
  where
    same_days : (one : ℕ) → (if number == one then Some (days_of conference) else None)
        ≡ (if number == one then option_map days_of (conference_in reply) else None)
    same_days one = ap (λ o. if number == one then o else None) (sym (ap (option_map days_of) e))

    same_texts : (text : ℕ) → (conference_names text (Some conference) || person_names text (person_in owner))
        ≡ names text (record { after = after; number = number; told = record { conference = reply; owner = owner } })
    same_texts text = rw (e, letter) refl

    same_all : (mid.whole && is_some (person_in owner))
        ≡ (old.whole && is_told_room (record {
          after = after;
          number = number;
          told = record { conference = reply; owner = owner };
        }))
    same_all = rw (e, is_told_room, letter) (ap (λ b. b && is_some (person_in owner)) learns.whole)

-- ---- one thing that is learned

pub learns_days : (number : ℕ) (days : Days) (old new : Names) →
    ((one : ℕ) → get nat_eq new.days one ≡ cond (nat_eq number one) (Some days) (get nat_eq old.days one)) →
    new.named ≡ old.named → new.whole ≡ old.whole →
    Learns (λ one. if number == one then Some days else None) (λ text. false) old.whole old new
learns_days number days old new is named whole = record {
  days = λ conference. is conference ∙ cond-option_or (nat_eq number conference) days (get nat_eq old.days conference);
  named = λ text small. ap (λ set. contains nat_eq set text) named ∙ sym (or-false (contains nat_eq old.named text));
  whole = whole;
}

pub learns_text : (number : ℕ) (old new : Names) →
    ((one : ℕ) → contains nat_eq new.named one ≡ cond (nat_eq number one) true (contains nat_eq old.named one)) →
    new.days ≡ old.days → new.whole ≡ old.whole → Learns (λ one. None) (λ one. number == one) old.whole old new
learns_text number old new is days whole = record {
  days = λ conference. ap (λ map. get nat_eq map conference) days;
  named = λ text small. is text ∙ cond-or (nat_eq number text) (contains nat_eq old.named text);
  whole = whole;
}

-- one item more
pub learns_items : (items : List AuxRow) (i : ℕ) (d : AuxRow) (x y z : Names) → i < length items →
    Learns (λ one. None) (λ text. list_any (is_faq text) (take i items)) x.whole x y →
    Learns (λ one. None) (λ text. is_faq text (get_or items i d)) y.whole y z →
    Learns (λ one. None) (λ text. list_any (is_faq text) (take (i + 1) items)) x.whole x z
learns_items items i d x y z less before one =
    learns_as x z (λ one. refl) (λ text. sym (list_any_more (is_faq text) items i d less)) before.whole
    (learns_on x y z before one)

-- an item that is no faq-text, or names no text
pub learns_no_item : (item : AuxRow) (old new : Names) → new.days ≡ old.days → new.named ≡ old.named →
    new.whole ≡ old.whole → ((text : ℕ) → text < 2 ^ 32 → is_faq text item ≡ false) →
    Learns (λ one. None) (λ text. is_faq text item) old.whole old new
learns_no_item item old new days named whole none = record {
  days = λ conference. ap (λ map. get nat_eq map conference) days;
  named = λ text small. ap (λ set. contains nat_eq set text) named ∙ sym (or-false (contains nat_eq old.named text))
      ∙ ap (λ b. contains nat_eq old.named text || b) (sym (none text small));
  whole = whole;
}

-- one that names a text
pub learns_item : (item : AuxRow) (number : ℕ) (old new : Names) →
    Learns (λ one. None) (λ one. number == one) old.whole old new →
    ((text : ℕ) → text < 2 ^ 32 → is_faq text item ≡ (number == text)) →
    Learns (λ one. None) (λ text. is_faq text item) old.whole old new
learns_item item number old new learns same = record {
  days = learns.days;
  named = λ text small. learns.named text small ∙ ap (λ b. contains nat_eq old.named text || b) (sym (same text small));
  whole = learns.whole;
}

pub faq_other : (item : AuxRow) (text : ℕ) → (item.tag == FAQ_TEXT) ≡ false → is_faq text item ≡ false
faq_other item text e = ap (λ b. b && (list_all is_digit item.content && (number_in item.content == text))) e

pub faq_same : (item : AuxRow) (text : ℕ) (b : Bool) → (item.tag == FAQ_TEXT) ≡ true →
    (list_all is_digit item.content && (number_in item.content == text)) ≡ b → is_faq text item ≡ b
faq_same item text b e is = ap (λ b. b && (list_all is_digit item.content && (number_in item.content == text))) e ∙ is

-- all that a conference tells
pub learns_conference : (number : ℕ) (conference : Conference) (days : Days) (items : List AuxRow) (a b c d e : Names) →
    days ≡ days_of conference → items ≡ conference.aux_items →
    Learns (λ one. if number == one then Some days else None) (λ text. false) a.whole a b →
    Learns (λ one. None) (λ one. conference.presentation == one) b.whole b c →
    Learns (λ one. None) (λ one. conference.motd == one) c.whole c d →
    Learns (λ one. None) (λ text. list_any (is_faq text) items) d.whole d e →
    Learns (λ one. if number == one then Some (days_of conference) else None)
    (λ text. conference_names text (Some conference)) a.whole a e
learns_conference number conference days items a b c d e is same one two three four =
    learns_as a e (λ one. ap (λ days. if number == one then Some days else None) is)
    (λ text. or-assoc (conference.presentation == text) (conference.motd == text) (list_any (is_faq text) items)
    ∙ ap (λ items. (conference.presentation == text) || ((conference.motd == text) || list_any (is_faq text) items))
    same) (three.whole ∙ two.whole ∙ one.whole)
    (learns_on a d e (learns_on a c d (learns_on a b c one two) three) four)

-- what a letterbox's person tells
pub learns_no_owner : (answer : Option Reply) (old new : Names) → person_in answer ≡ None → new.days ≡ old.days →
    new.named ≡ old.named → new.whole ≡ false → LearnsOwner answer old new
learns_no_owner answer old new e days named whole =
    learns_as old new (λ one. refl) (λ text. sym (ap (person_names text) e))
    (by old.whole ∙ ap (λ (o : Option Person). old.whole && is_some o) (sym e))
    (learns_none false old new days named whole)
  where
    by : (b : Bool) → false ≡ (b && false)
    by true = refl
    by false = refl

pub learns_owner : (answer : Option Reply) (owner : Person) (old new : Names) → person_in answer ≡ Some owner →
    Learns (λ one. None) (λ text. person_names text (Some owner)) old.whole old new → LearnsOwner answer old new
learns_owner answer owner old new e learns =
    learns_as old new (λ one. refl) (λ text. ap (person_names text) (sym e))
    (by old.whole ∙ ap (λ (o : Option Person). old.whole && is_some o) (sym e)) learns
  where
    by : (b : Bool) → b ≡ (b && true)
    by true = refl
    by false = refl
