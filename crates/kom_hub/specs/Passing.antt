-- What others' turns and flushes are to a seat.
use Rattle.std.specs.Prelude.{◌≡◌, ◌≢◌, ℕ, true, false, List, [], ◌++◌, Option}
use Rattle.std.specs.List.{AllByRecursion}
use Rattle.kom_types.specs.declared.acts.Record.{Record}
use Rattle.kom_links.specs.DeskCalls.{DeskView, StaysForAll}
use Rattle.kom_links.specs.Records.{has_session}
use Rattle.kom_links.specs.Talk.{AreTimed}
use Rattle.kom_hub.specs.Seats.{is_shown, IsFlush}

-- A desk shows some flushes more at its end, none where it showed nothing, and nothing else: it
-- gave and answered the same.
pub record Passes (old new : DeskView) : Type 0 where
  pub flushes : List Record
  pub mine : new.mine ≡ old.mine ++ flushes
  pub all : AllByRecursion IsFlush flushes
  pub begun : old.mine ≡ [] → flushes ≡ []
  pub given : StaysForAll old.gave_to new.gave_to
  pub answers : new.answers ≡ old.answers
  pub pass : new.pass ≡ old.pass
  pub lock : new.lock_full ≡ false → old.lock_full ≡ false

-- The records that a desk has more have readings that a clock gave meanwhile.
abbrev pub IsTimed : DeskView → Option (List ℕ) → DeskView → Option (List ℕ) → Type 0
IsTimed old gave new gave' = (added : List Record) × (new.mine ≡ old.mine ++ added)
    × AreTimed gave gave' added

-- What a seat of this session shows: its records and flushes; without a session nothing.
pub record IsSeatOf (session : ℕ) (records : List Record) : Type 0 where
  pub own : AllByRecursion (λ made. is_shown session made ≡ true) records
  pub has : session ≢ 0 → has_session session records ≡ true
  pub none : session ≡ 0 → records ≡ []

-- A desk that shows nothing: no record was made, nothing given and nothing answered.
pub record IsBlank (desk : DeskView) : Type 0 where
  pub mine : desk.mine ≡ []
  pub given : (number : ℕ) → desk.gave_to number ≡ []
  pub answers : desk.answers ≡ []
