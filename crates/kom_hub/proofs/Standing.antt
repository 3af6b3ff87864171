-- A crowd in a slab.
use Rattle.std.proofs.Common.{◌≡◌, ◌≢◌, ℕ, List, [], ◌∷◌, ◌++◌, Option, Some, None, refl, sym, ◌∙◌, ap, subst}
use Rattle.std.proofs.Common.{append-nil, Bool, true, false, Ok, Err, Result, inl, inr, zero, suc, ◌+◌, ◌≤◌}
use Rattle.std.proofs.Common.{length, arith, length-append, cond}
use Rattle.std.proofs.lemmas.Bool.{cases_eq}
use Rattle.std.specs.Prelude.{option_map, ⊤, count_by, slice_index_or, slice_set, is_some}
use Rattle.std.specs.List.{AllByRecursion}
use Rattle.std.specs.Option.{IfSome}
use Rattle.std.proofs.lemmas.List.Sums.{sum_by-cons}
use Rattle.slab.specs.Slab.{Slab, get, slab_len, with_value, Updates}
use Rattle.slab.proofs.SlabLemmas.{Updates-with_value}
use Rattle.kom_types.specs.declared.acts.Act.TheVariants as act
use Rattle.kom_types.specs.declared.acts.Record.{Record}
use Rattle.kom_links.specs.declared.served.Served.{Served}
use Rattle.kom_types.specs.declared.answers.NotMade.{NotMade}
use Rattle.kom_links.specs.declared.deeds.Deed.TheVariants as deed
use Rattle.kom_links.specs.Answers.{Answer, said_stopped}
use Rattle.kom_links.specs.DeskCalls.{DeskView, StaysForAll, Flushes, AsksStopped, IsLookedAt, record_of}
use Rattle.kom_links.specs.Outside.{LinkView}
use Rattle.kom_links.specs.Doors.{GateView, Gains, Admits, TakesBack, IsLeft, IsNewGate, links_in}
use Rattle.kom_links.specs.Talk.{AreTimed}
use Rattle.kom_links.specs.declared.gate.Next.{Next}
use Rattle.kom_hub.specs.declared.crowd.TheConstants.{MOST_GUESTS}
use Rattle.kom_hub.specs.declared.place.Place.{Place}
use Rattle.kom_hub.specs.declared.guest.Guest.{Guest}
use Rattle.kom_hub.specs.Seats.{seat_view, seat_records, IsFlush, IsHeard, Leaves}
use Rattle.kom_hub.specs.Passing.{Passes, IsTimed}
use Rattle.kom_hub.specs.Crowds.{Changes, IsOwned, IsKept, IsGuest, Stands, IsClosed, IsTold, HalfStands}
use Rattle.kom_hub.proofs.Leaving.{lock_before, short_or}
use Rattle.kom_hub.proofs.Timing.{timed_none, timed_one, timed_skip, cancel}
use Rattle.kom_hub.proofs.Crowding.{crowd_turned, crowd_left, crowd_joined, crowd_quiet, crowd_same}

-- what the records of a seat's turn are timed by, those of the desk are
pub timed_by : (one two : Place) (before after : DeskView) (gave gave' : Option (List ℕ)) → Leaves one before two after
    → IsTimed (seat_view one before) gave (seat_view two after) gave' → IsTimed before gave after gave'
timed_by one two before after gave gave' leaves timed =
    let same : timed.0 ≡ leaves.more =
    cancel (seat_records one.session before.mine) timed.0 leaves.more (sym timed.1 ∙ leaves.shows) in
    (timed.0, leaves.mine ∙ ap (λ (more : List Record). before.mine ++ more) (sym same), timed.2)

-- ---- an exchange in a slab

-- the values of a slab with one slot more in front
pub count_cons : {X : Type 0} (slot : Option X) (slots : List (Option X))
    → count_by is_some (slot ∷ slots) ≡ cond (is_some slot) 1 0 + count_by is_some slots
count_cons {X = X} slot slots = sum_by-cons (λ (slot : Option X). cond (is_some slot) 1 0) slot slots

pub len_exchanged : {X : Type 0} (slab : Slab X) (key : ℕ) (one two : X) → get slab key ≡ Some one
    → slab_len (with_value slab key two) ≡ slab_len slab
len_exchanged {X = X} slab key one two at = go slab.slots key at
  where
    go : (slots : List (Option X)) (key : ℕ) → slice_index_or slots key None ≡ Some one
        → count_by is_some (slice_set slots key (Some two)) ≡ count_by is_some slots
    go [] key at = absurd (none at)
      where
        none : None ≡ Some one → ⊥
        none e = cc
    go (None ∷ slots) zero at = absurd (none at)
      where
        none : None ≡ Some one → ⊥
        none e = cc
    go (Some was ∷ slots) zero at = refl
    go (None ∷ slots) (suc key) at = go slots key at
    go (Some was ∷ slots) (suc key) at =
        count_cons (Some was) (slice_set slots key (Some two)) ∙ ap (λ n. 1 + n) (go slots key at)
        ∙ sym (count_cons (Some was) slots)

pub updated_at : {X : Type 0} (slab : Slab X) (key : ℕ) (one two : X) → get slab key ≡ Some one
    → Updates slab (with_value slab key two) key (Some two)
updated_at slab key one two at = Updates-with_value slab key two (ap is_some at)

changes_of : {X : Type 0} (old new : Slab X) (key : ℕ) (now : Option X) → Updates old new key now
    → Changes (get old) (get new) key now
changes_of old new key now updates = record { changed = updates.changed; others = updates.others }

-- ---- what a gate gave and took

as_many : (given : Option ℕ) (n m : ℕ) → n ≡ m → IfSome given (λ number. number ≡ n)
    → IfSome given (λ number. number ≡ m)
as_many None n m same told = tt
as_many (Some number) n m same told = told ∙ same

-- a gate that was left alone, or was asked and gave nobody
pub record GaveNone {L : Type 0} (old new : GateView L) : Type 0 where
  pub given : new.given ≡ old.given
  pub returned : new.returned ≡ old.returned

pub left_gave_none : {L : Type 0} (old new : GateView L) → IsLeft old new → GaveNone old new
left_gave_none old new left = record { given = left.given; returned = left.returned }

same_given : (given given' : Option ℕ) (n : ℕ) → n ≡ 0 → given' ≡ option_map (λ m. m + n) given → given' ≡ given
same_given None given' n none is = is
same_given (Some number) given' n none is = is ∙ ap Some (omega (arith, none))

pub asked_gave_none : {L : Type 0} (old new : GateView L) (answer : Next L) → links_in answer ≡ 0
    → Admits old answer new → GaveNone old new
asked_gave_none old new answer none admits = record {
  given = same_given old.given new.given (links_in answer) none admits.given;
  returned = admits.returned;
}

one_given : (given given' : Option ℕ) (n : ℕ) → given' ≡ option_map (λ m. m + 1) given
    → IfSome given (λ number. number ≡ n) → IfSome given' (λ number. number ≡ n + 1)
one_given None given' n is told = subst (λ (given : Option ℕ). IfSome given (λ number. number ≡ n + 1)) (sym is) tt
one_given (Some number) given' n is told =
    subst (λ (given : Option ℕ). IfSome given (λ number. number ≡ n + 1)) (sym is) (ap (λ m. m + 1) told)

told_more : {L : Type 0} (links : List (L × Served)) (back : L × Served) (returned returned' : Option (List
    (L × Served)))
    → Gains returned back returned' → IfSome returned (λ told. told ≡ links)
    → IfSome returned' (λ told. told ≡ links ++ back ∷ [])
told_more links back returned None gains told = tt
told_more {L = L} links back returned (Some after) gains told =
    let was : gains.0 ≡ links = same returned gains.0 gains.1 told in
    gains.2 ∙ ap (λ earlier. earlier ++ back ∷ []) was
  where
    same : (returned : Option (List (L × Served))) (earlier : List (L × Served)) → returned ≡ Some earlier
        → IfSome returned (λ told. told ≡ links) → earlier ≡ links
    same None earlier e told = cc
    same (Some told') earlier e told = let t : told' ≡ earlier = cc in sym t ∙ told

-- a desk is left so by what is asked of it for all: some flushes more, and what is of no session
pub record Quiets (before : DeskView) (gave : Option (List ℕ)) (after : DeskView) (gave' : Option
    (List ℕ)) : Type 0 where
  pub flushes : List Record
  pub mine : after.mine ≡ before.mine ++ flushes
  pub all : AllByRecursion IsFlush flushes
  pub given : StaysForAll before.gave_to after.gave_to
  pub pass : after.pass ≡ before.pass
  pub lock : after.lock_full ≡ false → before.lock_full ≡ false
  pub timed : IsTimed before gave after gave'
  pub answers : List Answer
  pub grown : after.answers ≡ before.answers ++ answers

none_added : (before after : DeskView) → after.mine ≡ before.mine → after.mine ≡ before.mine ++ []
none_added before after same = same ∙ sym (append-nil before.mine)

one_flush : (before after : DeskView) (gave gave' : Option (List ℕ)) (moment : ℕ) (short : Bool)
    → Gains gave moment gave' → after.mine ≡ before.mine ++ record_of before.pass moment act.Flush 0 short ∷ []
    → StaysForAll before.gave_to after.gave_to → after.pass ≡ before.pass
    → (after.lock_full ≡ false → before.lock_full ≡ false) → (answers : List Answer)
    → after.answers ≡ before.answers ++ answers → Quiets before gave after gave'
one_flush before after gave gave' moment short gains mine given pass lock answers grown = record {
  flushes = record_of before.pass moment act.Flush 0 short ∷ [];
  mine = mine;
  all = ((refl, refl), tt);
  given = given;
  pass = pass;
  lock = lock;
  timed = (
    record_of before.pass moment act.Flush 0 short ∷ [],
    mine,
    timed_one gave gave' moment (record_of before.pass moment act.Flush 0 short) gains refl,
  );
  answers = answers;
  grown = grown;
}

pub flush_quiets : (before after : DeskView) (gave gave' : Option (List ℕ)) (moment : ℕ) (answer : Result ⊤ NotMade)
    → Flushes before moment answer after → Gains gave moment gave' → Quiets before gave after gave'
flush_quiets before after gave gave' moment (Ok done) f gains =
    one_flush before after gave gave' moment false gains f.added f.given f.pass
    (lock_before before.lock_full after.lock_full _ f.lock_full) ((deed.Flush, Ok done) ∷ []) f.tells
flush_quiets before after gave gave' moment (Err reason) f gains = elim
    (short_or before moment reason after f.none_added) [
      | inl same ↦ record {
        flushes = [];
        mine = none_added before after same;
        all = tt;
        given = f.given;
        pass = f.pass;
        lock = lock_before before.lock_full after.lock_full _ f.lock_full;
        timed = ([], none_added before after same, timed_skip gave gave' moment gains);
        answers = (deed.Flush, Err reason) ∷ [];
        grown = f.tells;
      }
      | inr short ↦ one_flush before after gave gave' moment true gains short f.given f.pass
          (lock_before before.lock_full after.lock_full _ f.lock_full) ((deed.Flush, Err reason) ∷ []) f.tells
    ]

pub ask_quiets : (before after : DeskView) (gave : Option (List ℕ)) (answer : Result Bool NotMade)
    → AsksStopped before answer after → Quiets before gave after gave
ask_quiets before after gave answer a = record {
  flushes = [];
  mine = none_added before after a.mine;
  all = tt;
  given = a.given;
  pass = a.pass;
  lock = lock_before before.lock_full after.lock_full _ a.lock_full;
  timed = ([], none_added before after a.mine, timed_none gave);
  answers = (deed.Ask, said_stopped answer) ∷ [];
  grown = a.answers;
}

pub look_quiets : (before after : DeskView) (gave : Option (List ℕ)) → IsLookedAt before after
    → Quiets before gave after gave
look_quiets before after gave a = record {
  flushes = [];
  mine = none_added before after a.mine;
  all = tt;
  given = a.given;
  pass = a.pass;
  lock = λ free. lock before.lock_full after.lock_full a.lock_full free;
  timed = ([], none_added before after a.mine, timed_none gave);
  answers = [];
  grown = a.answers ∙ sym (append-nil before.answers);
}
  where
    lock : (x y : Bool) → (x ≡ true → y ≡ true) → y ≡ false → x ≡ false
    lock false y on free = refl
    lock true y on free = let t : y ≡ true = on refl in cc

module _ {T L : Type 0} (kept : T → DeskView → LinkView → Type 0) (talks : DeskView → LinkView → Served → Type 0)
    (view : L → LinkView)
    (kept_on : (talk : T) (old new : DeskView) (link : LinkView) → Passes old new → kept talk old link
    → kept talk new link)
    (talks_on : (old new : DeskView) (link : LinkView) (served : Served) → Passes old new → talks old link served
    → talks new link served) where
  pub stands_turned : (begun : Option (List ℕ)) (before after : DeskView) (gave gave' : Option (List ℕ))
      (old : Slab (Guest T L)) (key : ℕ) (one two : Guest T L) (gate : GateView L)
      → Stands kept talks view begun before gave old gate → get old key ≡ Some one
      → IsKept kept talks view after two → Leaves one.place before two.place after
      → IsTimed (seat_view one.place before) gave (seat_view two.place after) gave'
      → Stands kept talks view begun after gave' (with_value old key two) gate
  stands_turned begun before after gave gave' old key one two gate stands at served leaves timed = record {
    links = stands.links;
    is = crowd_turned kept talks view kept_on talks_on begun before gave (get old) key stands.links one two.place
        after gave'
        (record {
          crowd = stands.is;
          was = at;
          leaves = leaves;
          timed = timed_by one.place two.place before after gave gave' leaves timed;
        })
        (get (with_value old key two)) two
        (changes_of old (with_value old key two) key (Some two) (updated_at old key one two at)) refl served;
    returned = stands.returned;
    given = as_many gate.given _ _
        (ap (λ n. length stands.links + n) (sym (len_exchanged old key one two at))) stands.given;
    seats = stands.seats;
  }

  pub stands_left : (begun : Option (List ℕ)) (before after : DeskView) (gave gave' : Option (List ℕ))
      (old new : Slab (Guest T L)) (key : ℕ) (one : Guest T L) (back : L × Served) (gate gate' : GateView L)
      → Stands kept talks view begun before gave old gate → get old key ≡ Some one → Updates old new key None
      → slab_len new + 1 ≡ slab_len old → new.capacity ≡ old.capacity
      → IsClosed kept talks view before gave one after gave' back → TakesBack gate back.0 back.1 gate'
      → Stands kept talks view begun after gave' new gate'
  stands_left begun before after gave gave' old new key one back gate gate' stands at updates len capacity closed
      takes = record {
        links = stands.links ++ back ∷ [];
        is = crowd_left kept talks view kept_on talks_on begun before gave (get old) key stands.links one closed.place
            after gave'
            (record {
              crowd = stands.is;
              was = at;
              leaves = closed.leaves;
              timed = timed_by one.place closed.place before after gave gave' closed.leaves closed.timed;
            })
            (get new) back (changes_of old new key None updates) closed.session closed.talk;
        returned = told_more stands.links back gate.returned gate'.returned takes.returned stands.returned;
        given = subst (λ (given : Option ℕ). IfSome given (λ number. number
            ≡ length (stands.links ++ back ∷ []) + slab_len new)) (sym takes.given)
            (as_many gate.given _ _ (omega (arith, length-append stands.links (back ∷ []), len)) stands.given);
        seats = subst (λ (n : ℕ). MOST_GUESTS ≤ n) (sym capacity) stands.seats;
      }

  pub stands_joined : (begun : Option (List ℕ)) (desk : DeskView) (gave : Option (List ℕ))
      (old new : Slab (Guest T L)) (key : ℕ) (one : Guest T L) (gate gate' : GateView L)
      → Stands kept talks view begun desk gave old gate → get old key ≡ None → Updates old new key (Some one)
      → slab_len new ≡ slab_len old + 1 → new.capacity ≡ old.capacity
      → gate'.given ≡ option_map (λ n. n + 1) gate.given → gate'.returned ≡ gate.returned
      → one.place.session ≡ 0 → IsHeard desk one.place → IsKept kept talks view desk one
      → Stands kept talks view begun desk gave new gate'
  stands_joined begun desk gave old new key one gate gate' stands vacant updates len capacity given returned nobody
      heard served = record {
        links = stands.links;
        is = crowd_joined kept talks view kept_on talks_on begun desk gave (get old) (get new) key one stands.links
            stands.is vacant (changes_of old new key (Some one) updates) nobody heard served;
        returned = subst (λ (returned : Option (List (L × Served))). IfSome returned (λ told. told ≡ stands.links))
            (sym returned) stands.returned;
        given = as_many gate'.given _ _ (omega (arith, len)) (one_given gate.given gate'.given _ given stands.given);
        seats = subst (λ (n : ℕ). MOST_GUESTS ≤ n) (sym capacity) stands.seats;
      }

  pub stands_quiet : (begun : Option (List ℕ)) (before after : DeskView) (gave gave' : Option (List ℕ))
      (crowd : Slab (Guest T L)) (gate : GateView L) → Quiets before gave after gave'
      → Stands kept talks view begun before gave crowd gate
      → Stands kept talks view begun after gave' crowd gate
  stands_quiet begun before after gave gave' crowd gate quiets stands = record {
    links = stands.links;
    is = crowd_quiet kept talks view kept_on talks_on begun before gave (get crowd) stands.links after gave'
        quiets.flushes quiets.mine quiets.all quiets.given quiets.pass quiets.lock quiets.timed quiets.answers
        quiets.grown
        stands.is;
    returned = stands.returned;
    given = stands.given;
    seats = stands.seats;
  }

  -- a gate that gave nobody
  pub stands_gate : (begun : Option (List ℕ)) (desk : DeskView) (gave : Option (List ℕ))
      (crowd : Slab (Guest T L)) (gate gate' : GateView L) → GaveNone gate gate'
      → Stands kept talks view begun desk gave crowd gate
      → Stands kept talks view begun desk gave crowd gate'
  stands_gate begun desk gave crowd gate gate' none stands = record {
    links = stands.links;
    is = stands.is;
    returned = subst (λ (returned : Option (List (L × Served))). IfSome returned (λ told. told ≡ stands.links))
        (sym none.returned) stands.returned;
    given = subst (λ (given : Option ℕ). IfSome given (λ number. number ≡ length stands.links + slab_len crowd))
        (sym none.given) stands.given;
    seats = stands.seats;
  }

  pub stands_same : (begun : Option (List ℕ)) (desk : DeskView) (gave : Option (List ℕ))
      (old : Slab (Guest T L)) (key : ℕ) (one two : Guest T L) (gate : GateView L)
      → Stands kept talks view begun desk gave old gate → get old key ≡ Some one
      → two.place.session ≡ one.place.session
      → (IsGuest kept talks view desk one → IsGuest kept talks view desk two)
      → Stands kept talks view begun desk gave (with_value old key two) gate
  stands_same begun desk gave old key one two gate stands at same is = record {
    links = stands.links;
    is = crowd_same kept talks view kept_on talks_on begun desk gave (get old) (get (with_value old key two)) key
        one two stands.links stands.is at
        (changes_of old (with_value old key two) key (Some two) (updated_at old key one two at)) same
        (is (stands.is.each key one at));
    returned = stands.returned;
    given = as_many gate.given _ _
        (ap (λ n. length stands.links + n) (sym (len_exchanged old key one two at))) stands.given;
    seats = stands.seats;
  }

  -- before anybody was told
  pub half_begins : (begun : Option (List ℕ)) (number : ℕ) (before after : DeskView) (gave gave' : Option (List ℕ))
      (crowd : Slab (Guest T L)) (gate : GateView L) → Quiets before gave after gave'
      → Stands kept talks view begun before gave crowd gate
      → HalfStands kept talks view begun number before after gave' crowd gate
  half_begins begun number before after gave gave' crowd gate quiets stands = (
    stands_quiet begun before after gave gave' crowd gate quiets stands,
    λ key guest at differs. stands.is.each key guest at,
  )

  -- one more was told
  pub half_told : (begun : Option (List ℕ)) (number : ℕ) (before after : DeskView) (gave : Option (List ℕ))
      (old : Slab (Guest T L)) (key : ℕ) (one two : Guest T L) (gate : GateView L)
      → get old key ≡ Some one → IsTold kept talks view number before after one two
      → HalfStands kept talks view begun number before after gave old gate
      → HalfStands kept talks view begun number before after gave (with_value old key two) gate
  half_told begun number before after gave old key one two gate at told half = (
    stands_same begun after gave old key one two gate half.0 at told.session (told.served (half.1 key one at)),
    λ k guest there differs. elim (cases_eq k key) [
      | inl here ↦
          let e : two ≡ guest = taken two guest (sym (updated_at old key one two at).changed
          ∙ ap (get (with_value old key two)) (sym here) ∙ there) in
          subst (λ (guest : Guest T L). guest.told ≢ number → IsGuest kept talks view before guest) e
          (told.rest (half.1 key one at)) differs
      | inr away ↦ half.1 k guest (sym ((updated_at old key one two at).others k away) ∙ there) differs
    ],
  )
    where
      taken : (a b : Guest T L) → Some a ≡ Some b → a ≡ b
      taken a b e = cc

  -- A new gate, a desk that made no act, and nobody in.
  pub stands_new : (desk : DeskView) (gave : Option (List ℕ)) (crowd : Slab (Guest T L)) (gate : GateView L)
      → crowd.slots ≡ [] → MOST_GUESTS ≤ crowd.capacity → desk.mine ≡ [] → IsNewGate gate
      → Stands kept talks view gave desk gave crowd gate
  stands_new desk gave crowd gate nobody seats none new = record {
    links = [];
    is = record {
      each = λ key guest at. absurd (empty crowd.slots key guest nobody at);
      apart = λ key other one two at there differs some. absurd (empty crowd.slots key one nobody at);
      back = tt;
      distinct = tt;
      owned = subst (λ (records : List Record). AllByRecursion (IsOwned {T = T} {L = L} (get crowd) []) records)
          (sym none) tt;
      timed = subst (λ (records : List Record). AreTimed gave gave records) (sym none) (timed_none gave);
    };
    returned = new.none_back;
    given = as_many gate.given 0 _ (omega (arith, ap (count_by (is_some {T = Guest T L})) nobody)) new.none_given;
    seats = seats;
  }
    where
      empty : (slots : List (Option (Guest T L))) (key : ℕ) (guest : Guest T L) → slots ≡ []
          → slice_index_or slots key None ≡ Some guest → ⊥
      empty slots key guest none at =
          let t : None ≡ Some guest = sym (ap (λ slots. slice_index_or slots key None) none) ∙ at in cc
