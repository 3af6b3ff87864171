-- A crowd of guests over one desk.
use Rattle.std.specs.Prelude.{◌≡◌, ◌≢◌, ◌⊎◌, ◌+◌, ◌≤◌, ℕ, true, List, [], ◌∷◌, length, Option, Some}
use Rattle.std.specs.Prelude.{IfSome}
use Rattle.std.specs.List.{AllByRecursion}
use Rattle.slab.specs.Slab.{Slab, get, slab_len}
use Rattle.kom_types.specs.declared.acts.Record.{Record}
use Rattle.kom_links.specs.declared.served.Served.{Served}
use Rattle.kom_links.specs.Answers.{Answer}
use Rattle.kom_links.specs.DeskCalls.{DeskView, Flushes, AsksStopped}
use Rattle.kom_links.specs.Outside.{LinkView}
use Rattle.kom_links.specs.Doors.{GateView}
use Rattle.kom_links.specs.Records.{has_session}
use Rattle.kom_links.specs.Talk.{AreTimed}
use Rattle.kom_hub.specs.declared.crowd.TheConstants.{MOST_GUESTS}
use Rattle.kom_hub.specs.declared.place.Place.{Place}
use Rattle.kom_hub.specs.declared.guest.Guest.{Guest}
use Rattle.kom_hub.specs.declared.news.News.{News}
use Rattle.kom_hub.specs.declared.news.News.TheVariants as news
use Rattle.kom_hub.specs.Seats.{IsFlush, IsSeatAnswer, IsHeard, Leaves, seat_of, seat_view}
use Rattle.kom_hub.specs.Passing.{IsTimed}

-- what a desk was asked for all guests: a flush, or whether it is stopped
abbrev pub HearsNews : News → DeskView → DeskView → Type 0
HearsNews (news.Flushed answer) before after = (moment : ℕ) × Flushes before moment answer after
HearsNews (news.Asked answer) before after = AsksStopped before answer after

-- the guest at each key of a slab
abbrev pub guests : {T L : Type 0} → Slab (Guest T L) → ℕ → Option (Guest T L)
guests crowd key = get crowd key

-- at this key there is this now, and at each other what was there before
pub record Changes {X : Type 0} (old new : ℕ → Option X) (key : ℕ) (now : Option X) : Type 0 where
  pub changed : new key ≡ now
  pub others : (other : ℕ) → other ≢ key → new other ≡ old other

-- a link of this session was given back
abbrev pub IsAmong : {L : Type 0} → ℕ → List (L × Served) → Type 0
IsAmong number [] = ⊥
IsAmong number (back ∷ links) = (back.1.session ≡ number) ⊎ IsAmong number links

-- no two links that were given back have one session
abbrev pub AreDistinct : {L : Type 0} → List (L × Served) → Type 0
AreDistinct [] = Unit {0}
AreDistinct (back ∷ links) =
    AllByRecursion (λ other. back.1.session ≢ 0 → other.1.session ≢ back.1.session) links
    × AreDistinct links

-- a session is that of a guest, or of a link that was given back
abbrev pub HasOwner : {T L : Type 0} → (ℕ → Option (Guest T L)) → List (L × Served) → ℕ → Type 0
HasOwner {T} {L} crowd links number =
    ((key : ℕ) × (guest : Guest T L) × (crowd key ≡ Some guest) × (guest.place.session ≡ number))
    ⊎ IsAmong number links

-- a record is of such a session, or a flush
abbrev pub IsOwned : {T L : Type 0} → (ℕ → Option (Guest T L)) → List (L × Served) → Record
    → Type 0
IsOwned crowd links made =
    ((made.session ≢ 0) × HasOwner crowd links made.session) ⊎ IsFlush made

module _ {T L : Type 0} (kept : T → DeskView → LinkView → Type 0)
    (talks : DeskView → LinkView → Served → Type 0) (view : L → LinkView) where
  -- a conversation was served so far, by what its seat shows
  abbrev pub IsKept : DeskView → Guest T L → Type 0
  IsKept desk guest = kept guest.talk (seat_view guest.place desk) (view guest.link)

  -- What holds of each guest: it was served so far, by what the desk answered, and its session has
  -- records.
  pub record IsGuest (desk : DeskView) (guest : Guest T L) : Type 0 where
    pub served : IsKept desk guest
    pub heard : IsHeard desk guest.place
    pub known : guest.place.session ≢ 0 → has_session guest.place.session desk.mine ≡ true

  -- A link that was given back is in talk with what its seat shows, by what the desk answered; its
  -- session has records, and no guest has it.
  pub record IsBack (desk : DeskView) (crowd : ℕ → Option (Guest T L))
      (back : L × Served) : Type 0 where
    pub answers : List Answer
    pub heard : AllByRecursion (IsSeatAnswer back.1.session desk) answers
    pub talk : talks (seat_of back.1.session answers desk) (view back.0) back.1
    pub known : back.1.session ≢ 0 → has_session back.1.session desk.mine ≡ true
    pub gone : (key : ℕ) (guest : Guest T L) → crowd key ≡ Some guest → back.1.session ≢ 0
        → guest.place.session ≢ back.1.session

  -- Each guest was served so far, no two have one session, and each link that was given back is in
  -- talk. Each record is of one of these, or a flush, and they have readings of the clock since it
  -- gave these.
  pub record IsCrowd (begun : Option (List ℕ)) (desk : DeskView) (gave : Option (List ℕ))
      (crowd : ℕ → Option (Guest T L)) (links : List (L × Served)) : Type 0 where
    pub each : (key : ℕ) (guest : Guest T L) → crowd key ≡ Some guest → IsGuest desk guest
    pub apart : (key other : ℕ) (one two : Guest T L) → crowd key ≡ Some one
        → crowd other ≡ Some two → other ≢ key → one.place.session ≢ 0
        → two.place.session ≢ one.place.session
    pub back : AllByRecursion (IsBack desk crowd) links
    pub distinct : AreDistinct links
    pub owned : AllByRecursion (IsOwned crowd links) desk.mine
    pub timed : AreTimed begun gave desk.mine

  -- A crowd with room for all, and the links that were given back; where the gate tells how many it
  -- gave, these are they and the guests'.
  pub record Stands (begun : Option (List ℕ)) (desk : DeskView) (gave : Option (List ℕ))
      (crowd : Slab (Guest T L)) (gate : GateView L) : Type 0 where
    pub links : List (L × Served)
    pub is : IsCrowd begun desk gave (guests crowd) links
    pub returned : IfSome gate.returned (λ told. told ≡ links)
    pub given : IfSome gate.given (λ number. number ≡ length links + slab_len crowd)
    pub seats : MOST_GUESTS ≤ crowd.capacity

  -- It is a crowd since some beginning.
  abbrev pub CanGo : DeskView → Option (List ℕ) → Slab (Guest T L) → Type 0
  CanGo desk gave crowd = (begun : Option (List ℕ)) × (gate : GateView L)
      × Stands begun desk gave crowd gate

  -- What was a crowd since some beginning is one still, and the gate was left alone.
  abbrev pub Carries : DeskView → Option (List ℕ) → Slab (Guest T L) → DeskView
      → Option (List ℕ) → Slab (Guest T L) → Type 0
  Carries desk gave crowd desk' gave' crowd' = (begun : Option (List ℕ)) → (gate : GateView L)
      → Stands begun desk gave crowd gate → Stands begun desk' gave' crowd' gate

  -- What was a crowd is one still, with the links that the gate gave and took meanwhile.
  abbrev pub CarriesTo : DeskView → Option (List ℕ) → Slab (Guest T L) → GateView L → DeskView
      → Option (List ℕ) → Slab (Guest T L) → GateView L → Type 0
  CarriesTo desk gave crowd gate desk' gave' crowd' gate' = (begun : Option (List ℕ))
      → Stands begun desk gave crowd gate → Stands begun desk' gave' crowd' gate'

  -- What the close of a guest leaves: its link is in talk with what its seat shows.
  pub record IsClosed (before : DeskView) (gave : Option (List ℕ)) (one : Guest T L)
      (after : DeskView) (gave' : Option (List ℕ)) (back : L × Served) : Type 0 where
    pub place : Place
    pub leaves : Leaves one.place before place after
    pub session : back.1.session ≡ place.session
    pub talk : talks (seat_view place after) (view back.0) back.1
    pub timed : IsTimed (seat_view one.place before) gave (seat_view place after) gave'

  -- What telling a guest of what a desk was asked for all leaves.
  pub record IsTold (number : ℕ) (before after : DeskView) (one two : Guest T L) : Type 0 where
    pub session : two.place.session ≡ one.place.session
    pub served : (one.told ≢ number → IsGuest before one) → IsGuest after one
        → IsGuest after two
    pub rest : (one.told ≢ number → IsGuest before one) → two.told ≢ number → IsGuest before two

  -- Some guests were told what a desk was asked for all, by this number, and to the others it
  -- passed.
  abbrev pub HalfStands : Option (List ℕ) → ℕ → DeskView → DeskView → Option (List ℕ)
      → Slab (Guest T L) → GateView L → Type 0
  HalfStands begun number before after gave crowd gate =
      Stands begun after gave crowd gate
      × ((key : ℕ) (guest : Guest T L) → guests crowd key ≡ Some guest → guest.told ≢ number
      → IsGuest before guest)
