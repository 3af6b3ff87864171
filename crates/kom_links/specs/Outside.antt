-- What the calls of the outside's objects say.
use Rattle.std.specs.Prelude.{◌≡◌, ℕ, ◌-◌, ◌^◌, ◌<◌, ◌≤◌, ◌⊎◌, ◌||◌, Bool, true, false, IsTrue}
use Rattle.std.specs.Prelude.{List, [], ◌∷◌, ◌++◌, length, take, Option, Some, option_map, IfSome}
use Rattle.kom_links.specs.declared.link.Got.{Got}
use Rattle.kom_links.specs.declared.link.Got.TheVariants as got
use Rattle.kom_links.specs.declared.link.Took.{Took}
use Rattle.kom_links.specs.declared.link.Took.TheVariants as took

-- One read of a link: what had been taken from it and put to it before, and whether the read found
-- nothing ready.
pub record Look : Type 0 where
  pub taken : List ℕ
  pub put : List ℕ
  pub waited : Bool

-- What contracts see of a link: where its peer is; the bytes that its reads gave so far, those that
-- they have yet to give, and those that its writes took, each where the link tells them; whether a
-- read answered End; how often the link failed; and its reads, where it tells them.
pub record LinkView : Type 0 where
  pub host : List ℕ
  pub taken : Option (List ℕ)
  pub left : Option (List ℕ)
  pub put : Option (List ℕ)
  pub ended : Bool
  pub faults : ℕ
  pub reads : Option (List Look)

-- faults rose between two moments: a count stands still at its type's end
abbrev pub Rose : ℕ → ℕ → Type 0
Rose before after = (before < after) ⊎ (after ≡ 2 ^ 64 - 1)

-- the bytes that a read gave, of those in the buffer
abbrev pub read_bytes : Got → List ℕ → List ℕ
read_bytes (got.Some count) buffer = take count buffer
read_bytes got.NotYet buffer = []
read_bytes got.End buffer = []
read_bytes got.Failed buffer = []

-- the bytes that a write took, of those that it was handed
abbrev pub written_bytes : Took → List ℕ → List ℕ
written_bytes (took.Some count) from = take count from
written_bytes took.NotYet from = []
written_bytes took.Failed from = []

abbrev pub is_end : Got → Bool
is_end (got.Some count) = false
is_end got.NotYet = false
is_end got.End = true
is_end got.Failed = false

-- what a read may answer: at least one byte and at most as many as there is room for, or a fault
-- that was counted
abbrev pub MayRead : ℕ → ℕ → ℕ → Got → Type 0
MayRead room before after (got.Some count) = (0 < count) × (count ≤ room)
MayRead room before after got.NotYet = Unit {0}
MayRead room before after got.End = Unit {0}
MayRead room before after got.Failed = Rose before after

-- the same of a write
abbrev pub MayWrite : ℕ → ℕ → ℕ → Took → Type 0
MayWrite size before after (took.Some count) = (0 < count) × (count ≤ size)
MayWrite size before after took.NotYet = Unit {0}
MayWrite size before after took.Failed = Rose before after

-- where it is told, it has these bytes more at its end
abbrev pub with_bytes : List ℕ → Option (List ℕ) → Option (List ℕ)
with_bytes bytes told = option_map (λ before. before ++ bytes) told

-- where it is told before, it is told after with these bytes fewer at its beginning
abbrev pub Shrinks : Option (List ℕ) → List ℕ → Option (List ℕ) → Type 0
Shrinks before bytes after = before ≡ option_map (λ left. bytes ++ left) after

-- where it is told, nothing has come yet
abbrev pub IsNothing : Option (List ℕ) → Type 0
IsNothing told = IfSome told (λ bytes. bytes ≡ [])

abbrev pub is_not_yet : Got → Bool
is_not_yet (got.Some count) = false
is_not_yet got.NotYet = true
is_not_yet got.End = false
is_not_yet got.Failed = false

-- Where a link tells its reads after one, it told them before, with what was taken and put till
-- then, and this one is the last.
abbrev pub Looks : LinkView → Got → LinkView → Type 0
Looks old answer new = IfSome new.reads (λ after. (before : List Look) × (taken put : List ℕ) ×
    (old.reads ≡ Some before) × (old.taken ≡ Some taken) × (old.put ≡ Some put)
    × (after ≡ before ++ record { taken = taken; put = put; waited = is_not_yet answer } ∷ []))

-- A read gave bytes, of those in the buffer, or none.
pub record Reads (old : LinkView) (buffer : List ℕ) (answer : Got) (new : LinkView) : Type 0 where
  pub may : MayRead (length buffer) old.faults new.faults answer
  pub taken : new.taken ≡ with_bytes (read_bytes answer buffer) old.taken
  pub left : Shrinks old.left (read_bytes answer buffer) new.left
  pub all : IsTrue (is_end answer) → IsNothing new.left
  pub put : new.put ≡ old.put
  pub ended : new.ended ≡ (old.ended || is_end answer)
  pub faults : old.faults ≤ new.faults
  pub host : new.host ≡ old.host
  pub looked : Looks old answer new

-- A write took bytes, of those that it was handed, or none.
pub record Writes (old : LinkView) (from : List ℕ) (answer : Took) (new : LinkView) : Type 0 where
  pub may : MayWrite (length from) old.faults new.faults answer
  pub put : new.put ≡ with_bytes (written_bytes answer from) old.put
  pub taken : new.taken ≡ old.taken
  pub left : new.left ≡ old.left
  pub ended : new.ended ≡ old.ended
  pub faults : old.faults ≤ new.faults
  pub host : new.host ≡ old.host
  pub reads : new.reads ≡ old.reads

-- A link on which nothing was done yet, where it tells that.
pub record IsFresh (link : LinkView) : Type 0 where
  pub no_fault : link.faults ≡ 0
  pub nothing_taken : IsNothing link.taken
  pub nothing_put : IsNothing link.put
  pub not_ended : link.ended ≡ false
  pub no_read : IfSome link.reads (λ looks. looks ≡ [])
