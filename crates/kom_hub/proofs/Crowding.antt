-- What a turn of one guest leaves of a crowd.
use Rattle.std.proofs.Common.{◌≡◌, ◌≢◌, ◌⊎◌, ℕ, true, false, inl, inr, List, [], ◌∷◌, ◌++◌}
use Rattle.std.proofs.Common.{Option, Some, None, refl, sym, ◌∙◌, ap, subst}
use Rattle.std.specs.List.{AllByRecursion}
use Rattle.std.proofs.lemmas.Bool.{cases_eq}
use Rattle.kom_types.specs.declared.acts.Record.{Record}
use Rattle.kom_links.specs.declared.served.Served.{Served}
use Rattle.kom_links.specs.Answers.{Answer}
use Rattle.kom_links.specs.DeskCalls.{DeskView, StaysForAll}
use Rattle.kom_links.specs.Outside.{LinkView}
use Rattle.kom_links.specs.Records.{has_session}
use Rattle.kom_hub.specs.declared.place.Place.{Place}
use Rattle.kom_hub.specs.declared.guest.Guest.{Guest}
use Rattle.kom_hub.specs.Seats.{seat_of, seat_view, IsFlush, IsOfSeat, IsSeatAnswer, IsHeard, Leaves}
use Rattle.kom_hub.specs.Going.{all_append}
use Rattle.kom_hub.specs.Passing.{Passes, IsTimed}
use Rattle.kom_hub.specs.Crowds.{Changes, IsAmong, AreDistinct, HasOwner, IsOwned, IsKept, IsGuest, IsBack, IsCrowd}
use Rattle.kom_hub.proofs.Seated.{present_more}
use Rattle.kom_hub.proofs.Hearing.{heard_on, seat_answers_on, seat_answers}
use Rattle.kom_hub.proofs.Passing.{passes, passes_quiet}
use Rattle.kom_hub.proofs.Timing.{timed_on}

-- a session that had records before a guest's turn, and is not the guest's, is not the one that it connects
not_new : (old new : Place) (before after : DeskView) (session : ℕ) → Leaves old before new after → session ≢ 0
    → has_session session before.mine ≡ true → (old.session ≢ 0 → session ≢ old.session) → session ≢ new.session
not_new old new before after session leaves some known other e = elim (cases_eq old.session 0) [
  | inl zero ↦
      let fresh : has_session new.session before.mine ≡ false = leaves.fresh zero (λ none. some (e ∙ none)) in
      let here : has_session new.session before.mine ≡ true = ap (λ k. has_session k before.mine) (sym e) ∙ known in cc
  | inr there ↦ other there (e ∙ leaves.stays there)
]

still_known : (before after : DeskView) (more : List Record) (session : ℕ) → after.mine ≡ before.mine ++ more
    → has_session session before.mine ≡ true → has_session session after.mine ≡ true
still_known before after more session grown known =
    ap (has_session session) grown ∙ present_more session before.mine more known

all_push : {X : Type 0} (P : X → Type 0) (xs : List X) (x : X) → AllByRecursion P xs → P x
    → AllByRecursion P (xs ++ x ∷ [])
all_push P [] x all last = (last, tt)
all_push P (first ∷ xs) x all last = (all.0, all_push P xs x all.1 last)

pub all_by : {X : Type 0} (P Q : X → Type 0) (xs : List X) → ((x : X) → P x → Q x) → AllByRecursion P xs
    → AllByRecursion Q xs
all_by P Q [] turn all = tt
all_by P Q (x ∷ xs) turn all = (turn x all.0, all_by P Q xs turn all.1)

-- ---- who owns a record

among_push : {L : Type 0} (number : ℕ) (links : List (L × Served)) (back : L × Served) → IsAmong number links
    → IsAmong number (links ++ back ∷ [])
among_push number [] back among = absurd among
among_push number (first ∷ links) back (inl here) = inl here
among_push number (first ∷ links) back (inr later) = inr (among_push number links back later)

among_last : {L : Type 0} (number : ℕ) (links : List (L × Served)) (back : L × Served) → back.1.session ≡ number
    → IsAmong number (links ++ back ∷ [])
among_last number [] back same = inl same
among_last number (first ∷ links) back same = inr (among_last number links back same)

flushes_owned : {T L : Type 0} (crowd : ℕ → Option (Guest T L)) (links : List (L × Served)) (records : List Record)
    → AllByRecursion IsFlush records → AllByRecursion (IsOwned crowd links) records
flushes_owned {T = T} {L = L} crowd links records all =
    all_by IsFlush (IsOwned {T = T} {L = L} crowd links) records (λ made flush. inr flush) all

-- what the sessions that own records are to another crowd
pub owned_by : {T L : Type 0} (old new : ℕ
    → Option (Guest T L)) (links links' : List (L × Served)) (records : List Record)
    → ((number : ℕ) → number ≢ 0 → HasOwner old links number → HasOwner new links' number)
    → AllByRecursion (IsOwned old links) records → AllByRecursion (IsOwned new links') records
owned_by {T = T} {L = L} old new links links' records to all =
    all_by (IsOwned {T = T} {L = L} old links) (IsOwned {T = T} {L = L} new links') records one all
  where
    one : (made : Record) → IsOwned {T = T} {L = L} old links made → IsOwned {T = T} {L = L} new links' made
    one made (inl own) = inl (own.0, to made.session own.0 own.1)
    one made (inr flush) = inr flush

-- the records of a seat whose session has an owner
seat_owned : {T L : Type 0} (crowd : ℕ → Option (Guest T L)) (links : List (L × Served)) (session : ℕ)
    (records : List Record) → (session ≢ 0 → HasOwner crowd links session) → AllByRecursion (IsOfSeat session) records
    → AllByRecursion (IsOwned crowd links) records
seat_owned {T = T} {L = L} crowd links session records owner all =
    all_by (IsOfSeat session) (IsOwned {T = T} {L = L} crowd links) records one all
  where
    one : (made : Record) → IsOfSeat session made → IsOwned {T = T} {L = L} crowd links made
    one made (inl own) = inl (
      λ zero. own.0 (sym own.1 ∙ zero),
      subst (λ (k : ℕ). HasOwner {T = T} {L = L} crowd links k) (sym own.1) (owner own.0),
    )
    one made (inr flush) = inr flush

-- ---- a crowd

module _ {T L : Type 0} (kept : T → DeskView → LinkView → Type 0) (talks : DeskView → LinkView → Served → Type 0)
    (view : L → LinkView)
    (kept_on : (talk : T) (old new : DeskView) (link : LinkView) → Passes old new → kept talk old link
    → kept talk new link)
    (talks_on : (old new : DeskView) (link : LinkView) (served : Served) → Passes old new → talks old link served
    → talks new link served) where
  taken : (one two : Guest T L) (crowd : ℕ → Option (Guest T L)) (key : ℕ) → crowd key ≡ Some one
      → crowd key ≡ Some two → one ≡ two
  taken one two crowd key first second = let e : Some one ≡ Some two = sym first ∙ second in cc

  abbrev session_of : Guest T L → ℕ
  session_of guest = guest.place.session

  -- A guest acted at a key of a crowd, and its seat is left so.
  pub record Acted (begun : Option (List ℕ)) (before : DeskView) (gave : Option (List ℕ)) (old : ℕ → Option (Guest T L))
      (key : ℕ) (links : List (L × Served)) (one : Guest T L) (place : Place) (after : DeskView)
      (gave' : Option (List ℕ)) : Type 0 where
    pub crowd : IsCrowd kept talks view begun before gave old links
    pub was : old key ≡ Some one
    pub leaves : Leaves one.place before place after
    pub timed : IsTimed before gave after gave'

  module _ (begun : Option (List ℕ)) (before : DeskView) (gave : Option (List ℕ)) (old : ℕ → Option (Guest T L))
      (key : ℕ) (links : List (L × Served)) (one : Guest T L) (place : Place) (after : DeskView)
      (gave' : Option (List ℕ)) (acted : Acted begun before gave old key links one place after gave') where
    -- another guest's session is not that of the one that acted
    others_apart : (k : ℕ) (guest : Guest T L) → k ≢ key → old k ≡ Some guest → guest.place.session ≢ 0
        → guest.place.session ≢ place.session
    others_apart k guest differs at some =
        not_new one.place place before after guest.place.session acted.leaves some
        ((acted.crowd.each k guest at).known some)
        (λ there. acted.crowd.apart key k one guest acted.was at differs there)

    -- and it keeps what holds of it
    other_on : (k : ℕ) (guest : Guest T L) → k ≢ key → old k ≡ Some guest → IsGuest kept talks view after guest
    other_on k guest differs at = record {
      served = kept_on guest.talk (seat_view guest.place before) (seat_view guest.place after) (view guest.link)
          (passes one.place place before after guest.place.session guest.place.answers.items acted.leaves
          (acted.crowd.each k guest at).known (others_apart k guest differs at)) (acted.crowd.each k guest at).served;
      heard = heard_on guest.place before after acted.leaves.hears.more acted.leaves.hears.grown
          (acted.crowd.each k guest at).heard;
      known = λ some. still_known before after acted.leaves.more guest.place.session acted.leaves.mine
          ((acted.crowd.each k guest at).known some);
    }

    -- the session of the one that acted has records
    own_known : place.session ≢ 0 → has_session place.session after.mine ≡ true
    own_known some = acted.leaves.has (acted.crowd.each key one acted.was).known some

    -- what the desk answered was heard by the one that acted
    own_heard : IsHeard after place
    own_heard = acted.leaves.hears.heard (acted.crowd.each key one acted.was).heard

    -- a link that was given back stays in talk
    back_on : (back : L × Served) → IsBack kept talks view before old back → (new : ℕ → Option (Guest T L))
        → ((k : ℕ) (guest : Guest T L) → new k ≡ Some guest
        → ((k ≢ key) × (old k ≡ Some guest)) ⊎ (guest.place.session ≡ place.session))
        → IsBack kept talks view after new back
    back_on back is new from = record {
      answers = is.answers;
      heard = seat_answers_on back.1.session before after acted.leaves.hears.more is.answers acted.leaves.hears.grown
          is.heard;
      talk = talks_on (seat_of back.1.session is.answers before) (seat_of back.1.session is.answers after)
          (view back.0) back.1
          (passes one.place place before after back.1.session is.answers acted.leaves is.known (λ some. apart some))
          is.talk;
      known = λ some. still_known before after acted.leaves.more back.1.session acted.leaves.mine (is.known some);
      gone = λ k guest at some. elim (from k guest at) [
        | inl was ↦ is.gone k guest was.1 some
        | inr same ↦ λ e. apart some (sym e ∙ same)
      ];
    }
      where
        apart : back.1.session ≢ 0 → back.1.session ≢ place.session
        apart some =
            not_new one.place place before after back.1.session acted.leaves some (is.known some)
            (λ there e. is.gone key one acted.was some (sym e))

    backs_on : (some_links : List (L × Served)) → AllByRecursion (IsBack kept talks view before old) some_links
        → (new : ℕ → Option (Guest T L))
        → ((k : ℕ) (guest : Guest T L) → new k ≡ Some guest
        → ((k ≢ key) × (old k ≡ Some guest)) ⊎ (guest.place.session ≡ place.session))
        → AllByRecursion (IsBack kept talks view after new) some_links
    backs_on [] all new from = tt
    backs_on (back ∷ some_links) all new from = (back_on back all.0 new from, backs_on some_links all.1 new from)

    -- the sessions of the others and of the one that acted own all records
    all_owned : (new : ℕ → Option (Guest T L)) (links' : List (L × Served))
        → ((number : ℕ) → number ≢ 0 → HasOwner old links number → HasOwner new links' number)
        → (place.session ≢ 0 → HasOwner new links' place.session)
        → AllByRecursion (IsOwned new links') after.mine
    all_owned new links' to own =
        subst (λ (records : List Record). AllByRecursion (IsOwned {T = T} {L = L} new links') records)
        (sym acted.leaves.mine)
        (all_append (IsOwned {T = T} {L = L} new links') before.mine acted.leaves.more
        (owned_by old new links links' before.mine to acted.crowd.owned)
        (seat_owned new links' place.session acted.leaves.more own acted.leaves.own))

    -- After a turn of one guest the crowd is one still.
    pub crowd_turned : (new : ℕ → Option (Guest T L)) (two : Guest T L) → Changes old new key (Some two)
        → two.place ≡ place → IsKept kept talks view after two
        → IsCrowd kept talks view begun after gave' new links
    crowd_turned new two changes same served = record {
      each = λ k guest at. elim (cases_eq k key) [
        | inl here ↦
            subst (λ (one : Guest T L). IsGuest kept talks view after one)
            (taken two guest new key changes.changed (ap new (sym here) ∙ at))
            (record {
              served = served;
              heard = subst (λ (p : Place). IsHeard after p) (sym same) own_heard;
              known = λ some. subst
                  (λ (p : Place). p.session ≢ 0 → has_session p.session after.mine ≡ true) (sym same) own_known some;
            })
        | inr differs ↦ other_on k guest differs (sym (changes.others k differs) ∙ at)
      ];
      apart = λ k other first second here there differs some. elim (from k first here) [
        | inl was ↦ elim (from other second there) [
          | inl was' ↦ acted.crowd.apart k other first second was.1 was'.1 differs some
          | inr own ↦ λ e. others_apart k first was.0 was.1 some (sym e ∙ own)
        ]
        | inr own ↦ elim (from other second there) [
          | inl was' ↦ λ e. others_apart other second was'.0 was'.1 (λ zero. some (sym e ∙ zero)) (e ∙ own)
          | inr own' ↦ absurd (differs (at_key other second there own' some (own ∙ sym own')
              ∙ sym (at_key k first here own some refl)))
        ]
      ];
      back = backs_on links acted.crowd.back new from;
      distinct = acted.crowd.distinct;
      owned = all_owned new links to (λ some. inl (key, two, changes.changed, ap (λ (p : Place). p.session) same));
      timed = timed_on begun gave gave' before after acted.crowd.timed acted.timed;
    }
      where
        from : (k : ℕ) (guest : Guest T L) → new k ≡ Some guest
            → ((k ≢ key) × (old k ≡ Some guest)) ⊎ (guest.place.session ≡ place.session)
        from k guest at = elim (cases_eq k key) [
          | inl here ↦ inr (ap session_of (sym (taken two guest new key changes.changed (ap new (sym here) ∙ at)))
              ∙ ap (λ (p : Place). p.session) same)
          | inr differs ↦ inl (differs, sym (changes.others k differs) ∙ at)
        ]

        -- the guest of the new session is the one that acted
        at_key : (k : ℕ) (guest : Guest T L) → new k ≡ Some guest → guest.place.session ≡ place.session
            → {number : ℕ} → number ≢ 0 → number ≡ guest.place.session → k ≡ key
        at_key k guest at own some is = elim (cases_eq k key) [
          | inl here ↦ here
          | inr differs ↦ absurd (others_apart k guest differs (sym (changes.others k differs) ∙ at)
              (λ zero. some (is ∙ zero)) own)
        ]

        to : (number : ℕ) → number ≢ 0 → HasOwner old links number → HasOwner new links number
        to number some (inl owner) = elim (cases_eq owner.0 key) [
          | inl here ↦
              let is : one ≡ owner.1 = taken one owner.1 old key acted.was (ap old (sym here) ∙ owner.2) in
              let number_is : one.place.session ≡ number = ap session_of is ∙ owner.3 in
              inl (
                key,
                two,
                changes.changed,
                ap (λ (p : Place). p.session) same
                    ∙ acted.leaves.stays (λ zero. some (sym number_is ∙ zero)) ∙ number_is,
              )
          | inr differs ↦ inl (owner.0, owner.1, changes.others owner.0 differs ∙ owner.2, owner.3)
        ]
        to number some (inr among) = inr among

    distinct_push : (some_links : List (L × Served)) (back : L × Served) → AreDistinct some_links
        → AllByRecursion (λ (other : L × Served). other.1.session ≢ 0 → back.1.session ≢ other.1.session) some_links
        → AreDistinct (some_links ++ back ∷ [])
    distinct_push [] back distinct apart = (tt, tt)
    distinct_push (first ∷ some_links) back distinct apart = (
      all_push (λ (other : L × Served). first.1.session ≢ 0 → other.1.session ≢ first.1.session) some_links back
          distinct.0 apart.0,
      distinct_push some_links back distinct.1 apart.1,
    )

    backs_apart : (some_links : List (L × Served)) (number : ℕ) → number ≡ place.session
        → AllByRecursion (IsBack kept talks view before old) some_links
        → AllByRecursion (λ (other : L × Served). other.1.session ≢ 0 → number ≢ other.1.session) some_links
    backs_apart [] number same all = tt
    backs_apart (back ∷ some_links) number same all = (
      λ some e. not_new one.place place before after back.1.session acted.leaves some (all.0.known some)
          (λ there e. all.0.gone key one acted.was some (sym e)) (sym e ∙ same),
      backs_apart some_links number same all.1,
    )

    -- A guest leaves the crowd, and its link is given back, in talk.
    pub crowd_left : (new : ℕ → Option (Guest T L)) (back : L × Served) → Changes old new key None
        → back.1.session ≡ place.session → talks (seat_view place after) (view back.0) back.1
        → IsCrowd kept talks view begun after gave' new (links ++ back ∷ [])
    crowd_left new back changes same talk = record {
      each = λ k guest at. let was : (k ≢ key) × (old k ≡ Some guest) = left k guest at in other_on k guest was.0 was.1;
      apart = λ k other first second here there differs some.
          acted.crowd.apart k other first second (left k first here).1 (left other second there).1 differs some;
      back = all_push (IsBack kept talks view after new) links back
          (backs_on links acted.crowd.back new (λ k guest at. inl (left k guest at)))
          (record {
            answers = place.answers.items;
            heard = subst (λ (k : ℕ). AllByRecursion (IsSeatAnswer k after) place.answers.items) (sym same)
                (seat_answers place after own_heard);
            talk = subst (λ (k : ℕ). talks (seat_of k place.answers.items after) (view back.0) back.1) (sym same) talk;
            known = λ some. ap (λ k. has_session k after.mine) same ∙ own_known (λ zero. some (same ∙ zero));
            gone = λ k guest at some e.
                let was : (k ≢ key) × (old k ≡ Some guest) = left k guest at in
                others_apart k guest was.0 was.1 (λ zero. some (sym e ∙ zero)) (e ∙ same);
          });
      distinct = distinct_push links back acted.crowd.distinct (backs_apart links back.1.session same acted.crowd.back);
      owned = all_owned new (links ++ back ∷ []) to (λ some. inr (among_last place.session links back same));
      timed = timed_on begun gave gave' before after acted.crowd.timed acted.timed;
    }
      where
        left : (k : ℕ) (guest : Guest T L) → new k ≡ Some guest → (k ≢ key) × (old k ≡ Some guest)
        left k guest at = let away : k ≢ key = λ e. none e in (away, sym (changes.others k away) ∙ at)
          where
            none : k ≡ key → ⊥
            none e = let t : None ≡ Some guest = sym changes.changed ∙ ap new (sym e) ∙ at in cc

        to : (number : ℕ) → number ≢ 0 → HasOwner old links number → HasOwner new (links ++ back ∷ []) number
        to number some (inl owner) = elim (cases_eq owner.0 key) [
          | inl here ↦
              let is : one ≡ owner.1 = taken one owner.1 old key acted.was (ap old (sym here) ∙ owner.2) in
              let number_is : one.place.session ≡ number = ap session_of is ∙ owner.3 in
              inr (among_last number links back (same
              ∙ acted.leaves.stays (λ zero. some (sym number_is ∙ zero)) ∙ number_is))
          | inr differs ↦ inl (owner.0, owner.1, changes.others owner.0 differs ∙ owner.2, owner.3)
        ]
        to number some (inr among) = inr (among_push number links back among)

  -- A guest comes in, from whose seat nothing was connected.
  pub crowd_joined : (begun : Option (List ℕ)) (desk : DeskView) (gave : Option (List ℕ)) (old new : ℕ
      → Option (Guest T L))
      (key : ℕ) (guest : Guest T L) (links : List (L × Served))
      → IsCrowd kept talks view begun desk gave old links → old key ≡ None → Changes old new key (Some guest)
      → guest.place.session ≡ 0 → IsHeard desk guest.place → IsKept kept talks view desk guest
      → IsCrowd kept talks view begun desk gave new links
  crowd_joined begun desk gave old new key guest links crowd vacant changes nobody heard is = record {
    each = λ k one at. elim (from k one at) [
      | inl was ↦ crowd.each k one was.1
      | inr e ↦ subst (λ (one : Guest T L). IsGuest kept talks view desk one) e
          (record { served = is; heard = heard; known = λ some. absurd (some nobody) })
    ];
    apart = λ k other one two here there differs some. elim (from k one here) [
      | inl was ↦ elim (from other two there) [
        | inl was' ↦ crowd.apart k other one two was.1 was'.1 differs some
        | inr e ↦ λ is. some (sym is ∙ ap session_of (sym e) ∙ nobody)
      ]
      | inr e ↦ absurd (some (ap session_of (sym e) ∙ nobody))
    ];
    back = all_by (IsBack kept talks view desk old) (IsBack kept talks view desk new) links joined crowd.back;
    distinct = crowd.distinct;
    owned = owned_by old new links links desk.mine to crowd.owned;
    timed = crowd.timed;
  }
    where
      from : (k : ℕ) (one : Guest T L) → new k ≡ Some one → ((k ≢ key) × (old k ≡ Some one)) ⊎ (guest ≡ one)
      from k one at = elim (cases_eq k key) [
        | inl here ↦ inr (taken guest one new key changes.changed (ap new (sym here) ∙ at))
        | inr differs ↦ inl (differs, sym (changes.others k differs) ∙ at)
      ]

      joined : (back : L × Served) → IsBack kept talks view desk old back → IsBack kept talks view desk new back
      joined back all = record {
        answers = all.answers;
        heard = all.heard;
        talk = all.talk;
        known = all.known;
        gone = λ k one at some. elim (from k one at) [
          | inl was ↦ all.gone k one was.1 some
          | inr e ↦ λ is. some (sym is ∙ ap session_of (sym e) ∙ nobody)
        ];
      }

      to : (number : ℕ) → number ≢ 0 → HasOwner old links number → HasOwner new links number
      to number some (inl owner) = elim (cases_eq owner.0 key) [
        | inl here ↦ let t : None ≡ Some owner.1 = sym vacant ∙ ap old (sym here) ∙ owner.2 in cc
        | inr differs ↦ inl (owner.0, owner.1, changes.others owner.0 differs ∙ owner.2, owner.3)
      ]
      to number some (inr among) = inr among

  -- ---- what is asked for all

  pub guest_on : (before after : DeskView) (guest : Guest T L) (flushes : List Record)
      → after.mine ≡ before.mine ++ flushes → AllByRecursion IsFlush flushes
      → StaysForAll before.gave_to after.gave_to → after.pass ≡ before.pass
      → (after.lock_full ≡ false → before.lock_full ≡ false)
      → (answers : List Answer) → after.answers ≡ before.answers ++ answers
      → IsGuest kept talks view before guest → IsGuest kept talks view after guest
  guest_on before after guest flushes mine all given pass lock answers grown is = record {
    served = kept_on guest.talk (seat_view guest.place before) (seat_view guest.place after) (view guest.link)
        (passes_quiet before after guest.place.session guest.place.answers.items flushes mine all given pass lock
        is.known) is.served;
    heard = heard_on guest.place before after answers grown is.heard;
    known = λ some. still_known before after flushes guest.place.session mine (is.known some);
  }

  -- Some flushes more, and the crowd is one still.
  pub crowd_quiet : (begun : Option (List ℕ)) (before : DeskView) (gave : Option (List ℕ)) (crowd : ℕ
      → Option (Guest T L))
      (links : List (L × Served)) (after : DeskView) (gave' : Option (List ℕ)) (flushes : List Record)
      → after.mine ≡ before.mine ++ flushes → AllByRecursion IsFlush flushes
      → StaysForAll before.gave_to after.gave_to → after.pass ≡ before.pass
      → (after.lock_full ≡ false → before.lock_full ≡ false) → IsTimed before gave after gave'
      → (told : List Answer) → after.answers ≡ before.answers ++ told
      → IsCrowd kept talks view begun before gave crowd links
      → IsCrowd kept talks view begun after gave' crowd links
  crowd_quiet begun before gave crowd links after gave' flushes mine all given pass lock timed told grown is = record {
    each = λ key guest at. guest_on before after guest flushes mine all given pass lock told grown
        (is.each key guest at);
    apart = is.apart;
    back = all_by (IsBack kept talks view before crowd) (IsBack kept talks view after crowd) links on is.back;
    distinct = is.distinct;
    owned = subst (λ (records : List Record). AllByRecursion (IsOwned {T = T} {L = L} crowd links) records) (sym mine)
        (all_append (IsOwned {T = T} {L = L} crowd links) before.mine flushes is.owned
        (flushes_owned crowd links flushes all));
    timed = timed_on begun gave gave' before after is.timed timed;
  }
    where
      on : (back : L × Served) → IsBack kept talks view before crowd back → IsBack kept talks view after crowd back
      on back was = record {
        answers = was.answers;
        heard = seat_answers_on back.1.session before after told was.answers grown was.heard;
        talk = talks_on (seat_of back.1.session was.answers before) (seat_of back.1.session was.answers after)
            (view back.0) back.1
            (passes_quiet before after back.1.session was.answers flushes mine all given pass lock was.known)
            was.talk;
        known = λ some. still_known before after flushes back.1.session mine (was.known some);
        gone = was.gone;
      }

  -- One guest was exchanged for another of the same session, of which the same is known.
  pub crowd_same : (begun : Option (List ℕ)) (desk : DeskView) (gave : Option (List ℕ)) (old new : ℕ
      → Option (Guest T L))
      (key : ℕ) (one two : Guest T L) (links : List (L × Served))
      → IsCrowd kept talks view begun desk gave old links → old key ≡ Some one → Changes old new key (Some two)
      → two.place.session ≡ one.place.session → IsGuest kept talks view desk two
      → IsCrowd kept talks view begun desk gave new links
  crowd_same begun desk gave old new key one two links crowd was changes same is = record {
    each = λ k guest at. elim (cases_eq k key) [
      | inl here ↦ subst (λ (one : Guest T L). IsGuest kept talks view desk one)
          (taken two guest new key changes.changed (ap new (sym here) ∙ at)) is
      | inr differs ↦ crowd.each k guest (sym (changes.others k differs) ∙ at)
    ];
    apart = λ k other first second here there differs some.
        let p : Had k first = had k first here in
        let q : Had other second = had other second there in
        λ e. crowd.apart k other p.0 q.0 p.1 q.1 differs (λ zero. some (sym p.2 ∙ zero)) (q.2 ∙ e ∙ sym p.2);
    back = all_by (IsBack kept talks view desk old) (IsBack kept talks view desk new) links on crowd.back;
    distinct = crowd.distinct;
    owned = owned_by old new links links desk.mine to crowd.owned;
    timed = crowd.timed;
  }
    where
      Had : ℕ → Guest T L → Type 0
      Had k guest = (before : Guest T L) × (old k ≡ Some before) × (before.place.session ≡ guest.place.session)

      had : (k : ℕ) (guest : Guest T L) → new k ≡ Some guest → Had k guest
      had k guest at = elim (cases_eq k key) [
        | inl here ↦ (
          one,
          ap old here ∙ was,
          sym same ∙ ap session_of (taken two guest new key changes.changed (ap new (sym here) ∙ at)),
        )
        | inr differs ↦ (guest, sym (changes.others k differs) ∙ at, refl)
      ]

      on : (back : L × Served) → IsBack kept talks view desk old back → IsBack kept talks view desk new back
      on back all = record {
        answers = all.answers;
        heard = all.heard;
        talk = all.talk;
        known = all.known;
        gone = λ k guest at some e.
            let p : Had k guest = had k guest at in
            all.gone k p.0 p.1 some (p.2 ∙ e);
      }

      to : (number : ℕ) → number ≢ 0 → HasOwner old links number → HasOwner new links number
      to number some (inl owner) = elim (cases_eq owner.0 key) [
        | inl here ↦
            let is : one ≡ owner.1 = taken one owner.1 old key was (ap old (sym here) ∙ owner.2) in
            inl (key, two, changes.changed, same ∙ ap session_of is ∙ owner.3)
        | inr differs ↦ inl (owner.0, owner.1, changes.others owner.0 differs ∙ owner.2, owner.3)
      ]
      to number some (inr among) = inr among
