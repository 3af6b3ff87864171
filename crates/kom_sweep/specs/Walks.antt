-- Walks over the conferences and the texts by calls, and what is deleted after them.
use Rattle.std.specs.Prelude.{◌≡◌, ℕ, ◌<◌, ◌≤◌, List, [], ◌∷◌, ◌++◌, map, filter, flat_map}
use Rattle.std.specs.Prelude.{Option, Some, None, if◌then◌else◌, IfSome, nat_lt}
use Rattle.std.specs.List.{AllByRecursion}
use Rattle.kom_types.specs.declared.calls.Call.TheVariants as call
use Rattle.kom_types.specs.declared.replies.Reply.{Reply}
use Rattle.kom_types.specs.declared.replies.Reply.TheVariants as reply
use Rattle.kom_sweep.specs.Told.{Told, tell}
use Rattle.kom_sweep.specs.Replies.{number_in, stat_in, conference_in}
use Rattle.kom_sweep.specs.Due.{Step, Walk, Room, Look, has_owner, children_of, is_due}

-- These steps go on from a number, each from that of the one before to a greater one, and come to a
-- number.
abbrev pub Leads : {X : Type 0} → ℕ → List (Step X) → ℕ → Type 0
Leads from [] at = at ≡ from
Leads from (step ∷ steps) at =
    (step.after ≡ from) × (step.after < step.number) × Leads step.number steps at

-- no greater number was given
abbrev pub IsEnd : ℕ → Option Reply → Type 0
IsEnd at answer = IfSome (number_in answer) (λ number. number ≤ at)

-- ---- the conferences

abbrev pub told_owner : ℕ → Room → List Told
told_owner number room = if has_owner (conference_in room.conference)
    then tell (call.GetPersonStat number) room.owner ∷ [] else []

abbrev pub told_room : ℕ → Room → List Told
told_room number room =
    tell (call.GetConfStat number) room.conference ∷ told_owner number room

abbrev pub told_at_room : Step Room → List Told
told_at_room step = tell (call.FindNextConfNo step.after) (Some (reply.Number step.number))
    ∷ told_room step.number step.told

-- a walk over all conferences and letterboxes
pub record IsRoomWalk (walk : Walk Room) : Type 0 where
  pub leads : Leads 0 walk.steps walk.at
  pub end : IsEnd walk.at walk.last

abbrev pub told_rooms : Walk Room → List Told
told_rooms walk = flat_map told_at_room walk.steps
    ++ tell (call.FindNextConfNo walk.at) walk.last ∷ []

-- ---- the texts

abbrev pub told_child : ℕ × Option Reply → Told
told_child (child, answer) = tell (call.GetTextStat child) answer

abbrev pub told_look : ℕ → Look → List Told
told_look number look =
    tell (call.GetTextStat number) look.stat ∷ map told_child look.children

abbrev pub told_at_text : Step Look → List Told
told_at_text step = tell (call.FindNextTextNo step.after) (Some (reply.Number step.number))
    ∷ told_look step.number step.told

-- all comments and footnotes to a text were asked about, in order
abbrev pub IsLook : Look → Type 0
IsLook look = map (λ child. child.0) look.children ≡ children_of (stat_in look.stat)

-- a walk over all texts
pub record IsTextWalk (walk : Walk Look) : Type 0 where
  pub leads : Leads 0 walk.steps walk.at
  pub looks : AllByRecursion (λ step. IsLook step.told) walk.steps
  pub end : IsEnd walk.at walk.last

abbrev pub told_texts : Walk Look → List Told
told_texts walk = flat_map told_at_text walk.steps
    ++ tell (call.FindNextTextNo walk.at) walk.last ∷ []

-- the texts that are due at a moment, in the order of the walk
abbrev pub due_in : ℕ → Walk Room → List (Step Look) → List ℕ
due_in moment rooms steps = map (λ step. step.number) (filter (is_due moment rooms) steps)

-- ---- the deletions

abbrev pub told_gone : ℕ × Option Reply → Told
told_gone (text, answer) = tell (call.DeleteText text) answer

abbrev pub told_deletions : List (ℕ × Option Reply) → List Told
told_deletions gone = map told_gone gone

-- a number that was told, if it is greater than another
abbrev pub number_above : ℕ → Option ℕ → Option ℕ
number_above at None = None
number_above at (Some number) = if nat_lt at number then Some number else None
