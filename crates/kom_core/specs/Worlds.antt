-- What an act of a core does to a group of persons, beside an act of a core whose state is the same
-- for the group.
use Rattle.std.specs.Prelude.{◌≡◌, ℕ, false, List, [], Result, Ok, Err, IfOk, IsTrue}
use Rattle.kom_types.specs.declared.acts.Entry.{Entry}
use Rattle.kom_types.specs.declared.acts.Record.{Record}
use Rattle.kom_types.specs.declared.answers.NotMade.{NotMade}
use Rattle.kom_types.specs.declared.answers.NotMade.TheVariants.{Gone, Full, Memory}
use Rattle.kom_types.specs.declared.items.Item.{Item}
use Rattle.kom_model.specs.Kinds.{is_among}
use Rattle.kom_model.specs.Out.{queued_for, taken_by}
use Rattle.kom_model.specs.State.{State, IsSound}
use Rattle.kom_laws.specs.Groups.{Group}
use Rattle.noninterference.specs.Hiding.{StandAlike}
use Rattle.noninterference.specs.respect.Quiet.{IsQuiet, AreQuietly}
use Rattle.noninterference.specs.steps.Acts.{is_by}
use Rattle.noninterference.specs.steps.Same.{IsSameFor}
use Rattle.kom_core.specs.Acts.{CoreComes}

-- memory did not run out
abbrev pub IsAmple : Result Record NotMade → Type 0
IsAmple (Ok made) = made.short ≡ false
IsAmple (Err (Gone why)) = Unit {0}
IsAmple (Err (Full number)) = Unit {0}
IsAmple (Err Memory) = ⊥

-- what an act queued for a session, if it was made
abbrev pub queued_by : ℕ → State → Result Record NotMade → List Item
queued_by session old (Ok made) = queued_for session old made
queued_by session old (Err why) = []

-- Two acts do the same to a group: the states after them are the same for it, and each of its
-- sessions was queued the same.
pub record DoSame (group : Group) (old new : State) (came : Result Record NotMade)
    (other new' : State) (came' : Result Record NotMade) : Type 0 where
  pub states : IsSameFor group new new'
  pub queued : (session : ℕ) → IsTrue (is_among group.sessions session)
      → queued_by session old came ≡ queued_by session other came'

-- Output and step consistency. An act of a session of a group, or of none, was refused, or was made
-- and is quiet. Whatever a core makes of it in a sound state that is the same for the group, unless
-- memory ran out in one of them: the act comes to the same, takes the same items, and the two do
-- the same to the group.
abbrev pub IsConsistent : State → Entry → State → Result Record NotMade → Type 0
IsConsistent old entry new came = (group : Group) (other new' : State)
    (came' : Result Record NotMade) → IsSound other → IsSameFor group old other
    → IsTrue (is_by group entry.act) → IfOk came (IsQuiet group old) → IsAmple came
    → CoreComes other entry new' came' → IsAmple came'
    → (came ≡ came') × (taken_by old entry.act ≡ taken_by other entry.act)
    × DoSame group old new came other new' came'

-- Two acts were made, and are quiet beside each other.
abbrev pub WereQuiet : Group → State → Result Record NotMade → State → Result Record NotMade
    → Type 0
WereQuiet group old came other came' = (made made' : Record) × (came ≡ Ok made) × (came' ≡ Ok made')
    × AreQuietly group old other made made'

-- Local respect. An act was made in one state, and in a sound one that is the same for a group
-- another that may stand at its place: they differ in what is hidden from the group, or are equal
-- and do the same. The two then do the same to the group.
abbrev pub RespectsGroups : State → Entry → State → Result Record NotMade → Type 0
RespectsGroups old entry new came = (group : Group) (other : State) (entry' : Entry) (new' : State)
    (came' : Result Record NotMade) → IsSound other → IsSameFor group old other
    → StandAlike group entry entry' → CoreComes other entry' new' came'
    → WereQuiet group old came other came' → DoSame group old new came other new' came'
