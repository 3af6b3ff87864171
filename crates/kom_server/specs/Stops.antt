-- What a run leaves of a store over which it served.
use Rattle.std.specs.Prelude.{◌≡◌, ◌≢◌, ◌<◌, ◌≤◌, ◌+◌, ◌^◌, ◌⊎◌, ℕ, IsTrue, List, [], length}
use Rattle.std.specs.Prelude.{Option, Some, None}
use Rattle.std.specs.List.{AllByRecursion}
use Rattle.kom_types.specs.declared.acts.Record.{Record}
use Rattle.kom_model.specs.State.{State}
use Rattle.kom_journal.specs.Files.{body_of}
use Rattle.kom_disk.specs.declared.disk.Disk.{Ghosts}
use Rattle.kom_journal.specs.Images.{Image, AreFor, images_at, moment}
use Rattle.kom_book.specs.Stops.{IsLeftBy, TicksNeverFall, tick_of, records_of, pending_along}
use Rattle.kom_book.specs.declared.ticked.Ticked.{Ticked}
use Rattle.kom_serving.specs.Runs.{Service}
use Rattle.kom_server.specs.Statuses.{HasRefused}

-- the entries of what was served; none, where nothing was
abbrev pub seen_of : {E L : Type 0} → Option (Service E L) → List E
seen_of None = []
seen_of (Some service) = service.seen

module _ {D : Type 0} (d : Ghosts D) where
  -- Why a store refused a flush of this history: its disk failed; or its file, which has so many
  -- bytes where the disk tells its content, would have got too long by one batch of what waits.
  abbrev pub IsRefusalCause : State → List Record → D → Type 0
  IsRefusalCause start history disk = (d.faults disk ≢ 0)
      ⊎ ((bytes : ℕ) × (IsTrue d.tells → bytes ≡ d.size disk)
      × (2 ^ 40 < bytes + 9 + length (body_of (pending_along start history))))

  -- At each moment of the disk since the end of opening, a stop leaves what stands for the rows
  -- after some of the records, all of those among them that were stable by then; at the first
  -- moment, for the rows before all of them. Each act ended at one of these moments, in the order
  -- in which they were made.
  pub record IsKeptAlong (start : State) (history : List (Ticked D)) (disk : D) : Type 0 where
    pub opened : ℕ
    pub begins : AreFor (images_at d.images_at disk opened) start.db
    pub within : opened ≤ moment d.moment disk
    pub since : AllByRecursion (λ entry. opened ≤ tick_of (moment d.moment) entry) history
    pub ticked : AllByRecursion (λ entry. tick_of (moment d.moment) entry ≤ moment d.moment disk)
        history
    pub rise : TicksNeverFall (moment d.moment) history
    pub any_moment : (at : ℕ) (image : Image) → opened ≤ at → at ≤ moment d.moment disk
        → images_at d.images_at disk at image
        → IsLeftBy (moment d.moment) start history at image

  -- A disk whose store has served this history: what a stop leaves, where the disk tells its
  -- content; and why a flush was refused, if one was.
  pub record HasServed (start : State) (history : List (Ticked D)) (disk : D) : Type 0 where
    pub kept : IsTrue d.tells → IsKeptAlong start history disk
    pub refused : HasRefused (records_of history)
        → IsRefusalCause start (records_of history) disk
