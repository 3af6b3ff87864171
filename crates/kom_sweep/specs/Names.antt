-- What is kept of what conferences tell.
use Rattle.std.specs.Prelude.{◌≡◌, ℕ, ◌<◌, ◌^◌, ◌==◌, nat_eq, ◌||◌, Bool, false, List, Option}
use Rattle.std.specs.Prelude.{Some, None, [], ◌∷◌, ◌++◌, ◌&&◌, is_some, not, filter_map}
use Rattle.std.specs.Prelude.{if◌then◌else◌}
use Rattle.std.specs.List.{list_all, list_any}
use Rattle.std.specs.Option.{option_or}
use Rattle.kom_types.specs.declared.replies.Reply.{Reply}
use Rattle.kom_types.specs.declared.texts.MiscInfo.{MiscInfo}
use Rattle.kom_types.specs.declared.texts.TextStat.{TextStat}
use Rattle.kom_sweep.specs.Replies.{person_in}
use Rattle.indexmap.specs.IndexMap.{get}
use Rattle.indexmap.specs.IndexSet.{contains}
use Rattle.kom_sweep.specs.declared.names.Names.{Names}
use Rattle.kom_sweep.specs.declared.rule.Days.{Days}
use Rattle.kom_sweep.specs.declared.ages.Ages.{Ages}
use Rattle.kom_sweep.specs.Due.{Step, Room, days_in, is_named, is_told_room, person_names}
use Rattle.kom_sweep.specs.Due.{recipient_in, without_recipients, is_held, age}
use Rattle.kom_sweep.specs.Ages.{lets_go_by}

-- these days and names are kept of the steps of a walk, and whether all was told
pub record Knows (rooms : List (Step Room)) (all_told : Bool) (kept : Names) : Type 0 where
  pub days : (conference : ℕ) → get nat_eq kept.days conference ≡ days_in rooms conference
  pub named : (text : ℕ) → text < 2 ^ 32 → contains nat_eq kept.named text ≡ is_named rooms text
  pub whole : kept.whole ≡ all_told

-- these days were learned, and that these texts are named
pub record Learns (told_days : ℕ → Option Days) (names : ℕ → Bool) (all_told : Bool)
    (old new : Names) : Type 0 where
  pub days : (conference : ℕ) → get nat_eq new.days conference
      ≡ option_or (told_days conference) (get nat_eq old.days conference)
  pub named : (text : ℕ) → text < 2 ^ 32 → contains nat_eq new.named text
      ≡ (contains nat_eq old.named text || names text)
  pub whole : new.whole ≡ all_told

-- a conference lets go, by what is known
abbrev pub lets_go_at : Names → ℕ → Ages → ℕ → Bool
lets_go_at kept age ages conference = elim (get nat_eq kept.days conference) [
  | None ↦ false
  | Some days ↦ lets_go_by age ages days
]

-- whether a number was read that is this one
abbrev pub names_number : Option ℕ → ℕ → Bool
names_number None text = false
names_number (Some number) text = number == text

-- what is kept of some steps becomes that with one more, of a conference of this number
abbrev pub KnowsMore : ℕ → Room → Names → Names → Type 0
KnowsMore number room old new = (rooms : List (Step Room)) (after : ℕ)
    → Knows rooms (list_all is_told_room rooms) old →
    let more = rooms ++ record { after = after; number = number; told = room } ∷ [] in
    Knows more (list_all is_told_room more) new

-- what a letterbox's person tells was learned, if it was told
abbrev pub LearnsOwner : Option Reply → Names → Names → Type 0
LearnsOwner owner old new = Learns (λ conference. None)
    (λ text. person_names text (person_in owner))
    (old.whole && is_some (person_in owner)) old new

-- all recipients let go, by what is known
abbrev pub all_let_go_at : Names → List MiscInfo → ℕ → Ages → Bool
all_let_go_at kept infos age ages =
    if list_any (λ info. is_some (recipient_in info)) infos
    then list_all (lets_go_at kept age ages) (filter_map recipient_in infos)
    else lets_go_by age ages without_recipients

-- a text is due, by what is known
abbrev pub is_due_at : Names → ℕ → ℕ → TextStat → Ages → Bool
is_due_at kept moment text stat ages = kept.whole && ((stat.marks == 0)
    && (not (is_held stat.aux_items) && (ages.are_told
    && (not (contains nat_eq kept.named text)
    && all_let_go_at kept stat.misc_infos (age moment stat) ages))))
