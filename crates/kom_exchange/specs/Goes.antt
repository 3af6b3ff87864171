-- What may change while something is asked and heard.
use Rattle.std.specs.Prelude.{◌≡◌, ◌≢◌, List, [], ◌∷◌, ◌++◌, Contains}
use Rattle.kom_reader.specs.declared.recipients.Part.{Part}
use Rattle.kom_exchange.specs.declared.request.Argument.TheVariants as argument
use Rattle.kom_exchange.specs.declared.request.Request.{Request}
use Rattle.kom_exchange.specs.Asking.{Query, Asking}
use Rattle.kom_screen.specs.Screens.{Grows}

-- Something may have been heard, and nothing else was done.
pub record Hears (old new : Asking) : Type 0 where
  pub heard : Grows old.link.taken new.link.taken
  pub put : new.link.put ≡ old.link.put
  pub asked : new.asked ≡ old.asked
  pub next : new.next ≡ old.next

-- none of these requests is call 27
abbrev pub ArePlain : List Query → Type 0
ArePlain [] = Unit {0}
ArePlain (one ∷ asked) = (one.1.call ≢ 27) × ArePlain asked

-- Something may have been heard, sent and asked, but no text was to count as read.
pub record Goes (old new : Asking) : Type 0 where
  pub heard : Grows old.link.taken new.link.taken
  pub sent : Grows old.link.put new.link.put
  pub more : List Query
  pub plain : ArePlain more
  pub asked : new.asked ≡ old.asked ++ more

-- call 27: a text of a conference counts as read. (Protocol A, "mark-as-read".)
abbrev pub mark : Part → Request
mark part = record {
  call = 27;
  arguments = argument.Number part.conference ∷ argument.Number 1 ∷ argument.Open
      ∷ argument.Number part.local ∷ argument.Close ∷ [];
}

-- requests that texts count as read which stand in these places
abbrev pub AreMarks : List Part → List Query → Type 0
AreMarks parts [] = Unit {0}
AreMarks parts (one ∷ asked) =
    ((part : Part) × Contains parts part × (one.1 ≡ mark part)) × AreMarks parts asked

-- That was asked, and nothing else was done.
pub record Marks (parts : List Part) (old new : Asking) : Type 0 where
  pub link : new.link ≡ old.link
  pub more : List Query
  pub marks : AreMarks parts more
  pub asked : new.asked ≡ old.asked ++ more

-- The same of one place.
abbrev pub AreMarksOf : Part → List Query → Type 0
AreMarksOf part [] = Unit {0}
AreMarksOf part (one ∷ asked) = (one.1 ≡ mark part) × AreMarksOf part asked

pub record MarksOne (part : Part) (old new : Asking) : Type 0 where
  pub link : new.link ≡ old.link
  pub more : List Query
  pub marks : AreMarksOf part more
  pub asked : new.asked ≡ old.asked ++ more
