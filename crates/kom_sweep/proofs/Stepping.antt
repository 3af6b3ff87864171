-- The loops of a sweep, one step more.
use Rattle.std.proofs.Common.{◌≡◌, ℕ, ◌+◌, ◌<◌, ◌≤◌, ◌==◌, ◌&&◌, not, Bool, true, false, List, [], ◌∷◌, ◌++◌, map}
use Rattle.std.proofs.Common.{filter, flat_map, take, drop, length, get_or, Option, Some, None, inl, inr, refl, sym, ap}
use Rattle.std.proofs.Common.{subst, ◌∙◌, append-nil, length-append, if◌then◌else◌, arith}
use Rattle.std.specs.List.{AllByRecursion, list_all}
use Rattle.std.proofs.lemmas.List.{map-append, take-append-drop, take_all}
use Rattle.std.proofs.lemmas.List.Elements.{filter-append}
use Rattle.kom_types.specs.tables.Conferences.{is_letterbox}
use Rattle.kom_types.specs.declared.conferences.Conference.{Conference}
use Rattle.kom_types.specs.declared.calls.Call.TheVariants as call
use Rattle.kom_types.specs.declared.replies.Reply.{Reply}
use Rattle.kom_types.specs.declared.replies.Reply.TheVariants as reply
use Rattle.kom_types.specs.declared.answers.NotMade.{NotMade}
use Rattle.kom_sweep.specs.declared.names.Names.{Names}
use Rattle.kom_sweep.specs.Told.{Told, tell, only_asks, IsAbout}
use Rattle.kom_sweep.specs.Replies.{number_in, stat_in, conference_in, is_last_conference, is_refused}
use Rattle.kom_sweep.specs.Acting.{Seen, Goes, Stops}
use Rattle.kom_sweep.specs.Due.{Step, Walk, Room, Look, is_whole, is_told_room, is_due_by, days_of}
use Rattle.kom_sweep.specs.Due.{conference_names}
use Rattle.kom_sweep.specs.Walks.{Leads, IsLook, IsRoomWalk, IsTextWalk, told_room, told_at_room, told_rooms, told_look}
use Rattle.kom_sweep.specs.Walks.{told_at_text, told_texts, told_gone, told_deletions, number_above, due_in}
use Rattle.kom_sweep.specs.Names.{Knows, KnowsMore, Learns, LearnsOwner}
use Rattle.kom_sweep.specs.Sweeps.{swept_in}
use Rattle.kom_sweep.proofs.Lists.{names_more, all_on}
use Rattle.kom_sweep.proofs.Going.{goes_on, stops_on, stops_at}
use Rattle.kom_sweep.proofs.Learning.{knows_end, knows_untold, knows_told, knows_owned}
use Rattle.kom_sweep.proofs.Walking.{leads_push, goes_step, number_told, end_told, due_push, none_on, none_texts}
use Rattle.kom_sweep.proofs.Walking.{none_children}

-- ---- conferences

-- the first conferences were asked about, up to a number
abbrev pub Visited : ℕ → Seen → Seen → ℕ → Names → Type 0
Visited session x y at kept = (steps : List (Step Room)) × Leads 0 steps at
    × Goes session x y (flat_map told_at_room steps) × Knows steps (list_all is_told_room steps) kept

pub rooms_step : (session at number : ℕ) (answer : Option Reply) (x m n y : Seen) (old new : Names) →
    Visited session x m at old → Goes session m n (tell (call.FindNextConfNo at) answer ∷ []) →
    number_above at (number_in answer) ≡ Some number →
    ((room : Room) × Goes session n y (told_room number room) × KnowsMore number room old new) →
    Visited session x y number new
rooms_step session at number answer x m n y old new (steps, leads, goes, knows) asked above (room, then_goes, learns) =
    let step : Step Room = record { after = at; number = number; told = room } in
    let number_is = number_told at answer number above in (
      steps ++ step ∷ [],
      leads_push 0 steps at number room leads number_is.1,
      goes_step told_at_room steps step (tell (call.FindNextConfNo at) answer) (told_room number room) x m n y
          (ap (λ answer. tell (call.FindNextConfNo at) answer ∷ told_room number room) (sym number_is.0))
          goes asked then_goes,
      learns steps at knows,
    )

pub rooms_end : (session at : ℕ) (answer : Option Reply) (x m y : Seen) (old new : Names) →
    Visited session x m at old → Goes session m y (tell (call.FindNextConfNo at) answer ∷ []) →
    number_above at (number_in answer) ≡ None → new.days ≡ old.days → new.named ≡ old.named →
    new.whole ≡ (old.whole && is_last_conference answer) →
    ((rooms : Walk Room) × IsRoomWalk rooms × Goes session x y (told_rooms rooms)
    × Knows rooms.steps (is_whole rooms) new)
rooms_end session at answer x m y old new (steps, leads, goes, knows) asked above days named whole = (
  record { steps = steps; at = at; last = answer },
  record { leads = leads; end = end_told at answer above },
  goes_on x m y goes asked,
  knows_end steps at answer old new knows days named whole,
)

-- ---- texts

abbrev pub Looked : ℕ → Seen → Seen → ℕ → ℕ → Names → List ℕ → ℕ → Type 0
Looked session x y moment at kept due count = (steps : List (Step Look)) × Leads 0 steps at
    × AllByRecursion (λ step. IsLook step.told) steps × Goes session x y (flat_map told_at_text steps)
    × (count ≡ length steps)
    × ((rooms : Walk Room) → Knows rooms.steps (is_whole rooms) kept → due ≡ due_in moment rooms steps)

pub texts_step : (session moment at number count later : ℕ) (answer : Option Reply) (x m n y : Seen) (kept : Names)
    (before due : List ℕ) (is_now : Bool) →
    Looked session x m moment at kept before count → Goes session m n (tell (call.FindNextTextNo at) answer ∷ []) →
    number_above at (number_in answer) ≡ Some number →
    ((look : Look) × IsLook look × Goes session n y (told_look number look)
    × ((rooms : Walk Room) → Knows rooms.steps (is_whole rooms) kept →
    is_now ≡ is_due_by moment rooms number (stat_in look.stat) look.children)) →
    due ≡ before ++ (if is_now then number ∷ [] else []) → later ≡ count + 1 →
    Looked session x y moment number kept due later
texts_step session moment at number count later answer x m n y kept before due is_now
    (steps, leads, looks, goes, counted, all_due) asked above (look, is_look, then_goes, judged) is one_more =
    let step : Step Look = record { after = at; number = number; told = look } in
    let number_is = number_told at answer number above in (
      steps ++ step ∷ [],
      leads_push 0 steps at number look leads number_is.1,
      all_on (λ (step : Step Look). IsLook step.told) steps (step ∷ []) looks (is_look, tt),
      goes_step told_at_text steps step (tell (call.FindNextTextNo at) answer) (told_look number look) x m n y
          (ap (λ answer. tell (call.FindNextTextNo at) answer ∷ told_look number look) (sym number_is.0))
          goes asked then_goes,
      one_more ∙ ap (λ count. count + 1) counted ∙ sym (length-append steps (step ∷ [])),
      λ rooms knows. due_push moment rooms steps step before due is_now (all_due rooms knows) (judged rooms knows) is,
    )

pub texts_end : (session moment at count : ℕ) (answer : Option Reply) (x m y : Seen) (kept : Names) (due : List ℕ) →
    Looked session x m moment at kept due count → Goes session m y (tell (call.FindNextTextNo at) answer ∷ []) →
    number_above at (number_in answer) ≡ None →
    ((texts : Walk Look) × IsTextWalk texts × Goes session x y (told_texts texts) × (count ≡ length texts.steps)
    × ((rooms : Walk Room) → Knows rooms.steps (is_whole rooms) kept → due ≡ due_in moment rooms texts.steps))
texts_end session moment at count answer x m y kept due (steps, leads, looks, goes, counted, all_due) asked above = (
  record { steps = steps; at = at; last = answer },
  record { leads = leads; looks = looks; end = end_told at answer above },
  goes_on x m y goes asked,
  counted,
  all_due,
)

-- ---- deletions

swept_push : (gone : List (ℕ × Option Reply)) (text : ℕ) (answer : Option Reply) (refused : Bool) →
    refused ≡ is_refused answer → swept_in (gone ++ (text, answer) ∷ []) ≡ swept_in gone + (if refused then 0 else 1)
swept_push gone text answer refused e =
    ap length (filter-append (λ (one : ℕ × Option Reply). not (is_refused one.1)) gone ((text, answer) ∷ []))
    ∙ length-append (filter (λ (one : ℕ × Option Reply). not (is_refused one.1)) gone)
    (filter (λ (one : ℕ × Option Reply). not (is_refused one.1)) ((text, answer) ∷ []))
    ∙ ap (λ n. swept_in gone + n) (by (is_refused answer) refl)
    ∙ ap (λ (b : Bool). swept_in gone + (if b then 0 else 1)) (sym e)
  where
    by : (b : Bool) → is_refused answer ≡ b →
        length (filter (λ (one : ℕ × Option Reply). not (is_refused one.1)) ((text, answer) ∷ []))
        ≡ (if is_refused answer then 0 else 1)
    by true f = rw (f) refl
    by false f = rw (f) refl

abbrev pub Deleted : ℕ → Seen → Seen → List ℕ → ℕ → Type 0
Deleted session x y due swept = (gone : List (ℕ × Option Reply)) × (map (λ one. one.0) gone ≡ due)
    × (swept ≡ swept_in gone) × Goes session x y (told_deletions gone)

pub deletes_step : (session i d swept later : ℕ) (due : List ℕ) (answer : Option Reply) (refused : Bool)
    (x m y : Seen) → i < length due → Deleted session x m (take i due) swept →
    Goes session m y (tell (call.DeleteText (get_or due i d)) answer ∷ []) → refused ≡ is_refused answer →
    later ≡ swept + (if refused then 0 else 1) → Deleted session x y (take (i + 1) due) later
deletes_step session i d swept later due answer refused x m y less (gone, names, counted, goes) asked is_refusal is = (
  gone ++ (get_or due i d, answer) ∷ [],
  names_more due i d gone answer less names,
  is ∙ ap (λ n. n + (if refused then 0 else 1)) counted
      ∙ sym (swept_push gone (get_or due i d) answer refused is_refusal),
  subst (λ (calls : List Told). Goes session x y calls)
      (sym (map-append told_gone gone ((get_or due i d, answer) ∷ [])))
      (goes_on x m y goes asked),
)

-- the next deletion is not made, or not answered
pub deletes_end : {faults : List NotMade} (session i d : ℕ) (due : List ℕ) (swept : ℕ) (x m y : Seen) →
    i < length due → Deleted session x m (take i due) swept →
    ((calls : List Told) × IsAbout (call.DeleteText (get_or due i d)) calls × Stops session m y calls faults) →
    ((gone : List (ℕ × Option Reply)) × (rest : List ℕ) × (map (λ one. one.0) gone ++ rest ≡ due)
    × Stops session x y (told_deletions gone) faults)
deletes_end {faults} session i d due swept x m y less (gone, names, counted, goes) (calls, inl none, stops) = (
  gone,
  drop i due,
  ap (λ (front : List ℕ). front ++ drop i due) names ∙ take-append-drop i due,
  subst (λ (calls : List Told). Stops session x y calls faults)
      (ap (λ (calls : List Told). told_deletions gone ++ calls) none ∙ append-nil (told_deletions gone))
      (stops_on x m y goes stops),
)
deletes_end {faults} session i d due swept x m y less (gone, names, counted, goes) (calls, inr (answer, is), stops) = (
  gone ++ (get_or due i d, answer) ∷ [],
  drop (i + 1) due,
  ap (λ (front : List ℕ). front ++ drop (i + 1) due) (names_more due i d gone answer less names)
      ∙ take-append-drop (i + 1) due,
  subst (λ (calls : List Told). Stops session x y calls faults)
      (ap (λ (calls : List Told). told_deletions gone ++ calls) is
      ∙ sym (map-append told_gone gone ((get_or due i d, answer) ∷ [])))
      (stops_on x m y goes stops),
)

-- ---- one conference

no_owner : (number : ℕ) (answer : Option Reply) → conference_in answer ≡ None →
    told_room number (record { conference = answer; owner = None }) ≡ tell (call.GetConfStat number) answer ∷ []
no_owner number answer e = rw (e) refl

plain_room : (number : ℕ) (answer : Option Reply) (conference : Conference) → conference_in answer ≡ Some conference →
    is_letterbox conference.kind ≡ false →
    told_room number (record { conference = answer; owner = None }) ≡ tell (call.GetConfStat number) answer ∷ []
plain_room number answer conference e letter = rw (e, letter) refl

owned_room : (number : ℕ) (answer owner : Option Reply) (conference : Conference) →
    conference_in answer ≡ Some conference → is_letterbox conference.kind ≡ true →
    told_room number (record { conference = answer; owner = owner })
    ≡ tell (call.GetConfStat number) answer ∷ tell (call.GetPersonStat number) owner ∷ []
owned_room number answer owner conference e letter = rw (e, letter) refl

abbrev pub AsksRoom : ℕ → Seen → Seen → ℕ → Names → Names → Type 0
AsksRoom session x y number old new =
    (room : Room) × Goes session x y (told_room number room) × KnowsMore number room old new

pub room_untold : (session number : ℕ) (answer : Option Reply) (x y : Seen) (old new : Names) →
    Goes session x y (tell (call.GetConfStat number) answer ∷ []) → conference_in answer ≡ None →
    new.days ≡ old.days → new.named ≡ old.named → new.whole ≡ false → AsksRoom session x y number old new
room_untold session number answer x y old new goes e days named whole = (
  record { conference = answer; owner = None },
  subst (λ (calls : List Told). Goes session x y calls) (sym (no_owner number answer e)) goes,
  knows_untold number answer old new e days named whole,
)

pub room_plain : (session number : ℕ) (answer : Option Reply) (conference : Conference) (x y : Seen) (old new : Names) →
    Goes session x y (tell (call.GetConfStat number) answer ∷ []) → conference_in answer ≡ Some conference →
    is_letterbox conference.kind ≡ false →
    Learns (λ one. if number == one then Some (days_of conference) else None)
    (λ text. conference_names text (Some conference)) old.whole old new → AsksRoom session x y number old new
room_plain session number answer conference x y old new goes e letter learns = (
  record { conference = answer; owner = None },
  subst (λ (calls : List Told). Goes session x y calls) (sym (plain_room number answer conference e letter)) goes,
  knows_told number answer conference old new e letter learns,
)

pub room_owned : (session number : ℕ) (answer : Option Reply) (conference : Conference) (x m y : Seen)
    (old mid new : Names) → Goes session x m (tell (call.GetConfStat number) answer ∷ []) →
    conference_in answer ≡ Some conference → is_letterbox conference.kind ≡ true →
    Learns (λ one. if number == one then Some (days_of conference) else None)
    (λ text. conference_names text (Some conference)) old.whole old mid →
    ((owner : Option Reply) × Goes session m y (tell (call.GetPersonStat number) owner ∷ [])
    × LearnsOwner owner mid new) → AsksRoom session x y number old new
room_owned session number answer conference x m y old mid new goes e letter learns (owner, goes_owner, owned) = (
  record { conference = answer; owner = owner },
  subst (λ (calls : List Told). Goes session x y calls) (sym (owned_room number answer owner conference e letter))
      (goes_on x m y goes goes_owner),
  knows_owned number answer owner conference old mid new e letter learns owned,
)

-- ---- the last deletion

pub deletes_all : (session i : ℕ) (due : List ℕ) (swept : ℕ) (x y : Seen) → length due ≤ i →
    Deleted session x y (take i due) swept → Deleted session x y due swept
deletes_all session i due swept x y past (gone, names, counted, goes) =
    (gone, names ∙ take_all i due past, counted, goes)

pub counts : (swept later i : ℕ) (refused : Bool) → swept ≤ i → later ≡ swept + (if refused then 0 else 1) →
    later ≤ i + 1
counts swept later i true less is = omega (arith, is)
counts swept later i false less is = omega (arith, is)

-- memory ran out after a look
pub looked_stop : (session moment at number count : ℕ) (answer : Option Reply) (x m n y : Seen) (kept : Names)
    (before : List ℕ) (is_now : Bool) →
    Looked session x m moment at kept before count → Goes session m n (tell (call.FindNextTextNo at) answer ∷ []) →
    ((look : Look) × IsLook look × Goes session n y (told_look number look)
    × ((rooms : Walk Room) → Knows rooms.steps (is_whole rooms) kept →
    is_now ≡ is_due_by moment rooms number (stat_in look.stat) look.children)) →
    ((calls : List Told) × (only_asks calls ≡ true) × Stops session x y calls [])
looked_stop session moment at number count answer x m n y kept before is_now
    (steps, leads, looks, goes, counted, all_due) asked (look, is_look, then_goes, judged) = (
      flat_map told_at_text steps ++ tell (call.FindNextTextNo at) answer ∷ [] ++ told_look number look,
      none_on (flat_map told_at_text steps ++ tell (call.FindNextTextNo at) answer ∷ []) (told_look number look)
          (none_on (flat_map told_at_text steps) (tell (call.FindNextTextNo at) answer ∷ []) (none_texts steps) refl)
          (none_children look.children),
      stops_at x y (goes_on x n y (goes_on x m n goes asked) then_goes),
    )
