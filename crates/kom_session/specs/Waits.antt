-- Nothing waits unanswered while the server waits for its client.
use Rattle.std.specs.Prelude.{◌≡◌, ◌≢◌, ℕ, Bool, true, false, List, [], ◌∷◌, ◌++◌, length, Option}
use Rattle.std.specs.Prelude.{Some, None}
use Rattle.kom_types.specs.declared.items.Item.{Item}
use Rattle.kom_types.specs.Stream.{stream_of}
use Rattle.kom_links.specs.Outside.{Look}
use Rattle.kom_links.specs.Talk.{Step, Connects, Asks, Breaks, Flushes, Drains, Closes, requests_in}
use Rattle.kom_links.specs.Talk.{print_of_drains, Settles}
use Rattle.kom_session.specs.Course.{IsSettled}

-- what the drains among some steps gave, a list for each
abbrev pub given_in : List Step → List (List Item)
given_in [] = []
given_in (Drains items ∷ steps) = items ∷ given_in steps
given_in (Connects user host ∷ steps) = given_in steps
given_in (Asks request ∷ steps) = given_in steps
given_in (Breaks ∷ steps) = given_in steps
given_in (Flushes ∷ steps) = given_in steps
given_in (Closes ∷ steps) = given_in steps

-- what is answered without a greeting, and after one
abbrev pub IsAnsweredBy : Option (List ℕ) → Look → List Step → Type 0
IsAnsweredBy None look steps = (steps ≡ []) × (look.put ≡ [])
IsAnsweredBy (Some user) look steps =
    (length (requests_in steps) ≡ length (stream_of look.taken).lines)
    × IsSettled steps × (look.put ≡ print_of_drains (given_in steps))

-- As a link was read, no greeting had come, and nothing was done or put; or each complete line was
-- called, the last of these was settled, and what was put is the whole print of what the drains
-- gave.
abbrev pub IsAnswered : Look → List Step → Type 0
IsAnswered look steps = IsAnsweredBy (stream_of look.taken).greeting look steps

-- after a read that found nothing ready for a session, and before the next, there is a flush and a
-- drain that gave nothing
abbrev pub IsChecked : Bool → List Step → List Step → Type 0
IsChecked waited before between = waited ≡ true → before ≢ [] → Settles between

-- The reads of a link, in order, each stand at a place among the steps of its session; the last one
-- at this place.
abbrev pub AreAnswered : Bool → List Step → List Look → Bool → List Step → Type 0
AreAnswered waited before [] last place = (last ≡ waited) × (place ≡ before)
AreAnswered waited before (look ∷ looks) last place =
    (more : List Step) × IsAnswered look (before ++ more)
    × IsChecked waited before more × AreAnswered look.waited (before ++ more) looks last place

-- Each read of a link has its place among the steps of its session.
abbrev pub NoneWaits : List Step → List Look → Type 0
NoneWaits steps looks =
    (last : Bool) × (place after : List Step) × AreAnswered false [] looks last place
    × (steps ≡ place ++ after)
