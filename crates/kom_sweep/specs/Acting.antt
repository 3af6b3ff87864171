-- What one session does at a desk, and what it is given.
use Rattle.std.specs.Prelude.{◌≡◌, ℕ, ◌⊎◌, false, List, [], ◌∷◌, ◌++◌, Option, map, flat_map}
use Rattle.std.specs.List.{AllByRecursion}
use Rattle.kom_types.specs.declared.acts.Act.{Act}
use Rattle.kom_types.specs.declared.acts.Act.TheVariants as act
use Rattle.kom_types.specs.declared.acts.Record.{Record}
use Rattle.kom_types.specs.declared.items.Item.{Item}
use Rattle.kom_types.specs.declared.answers.NotMade.{NotMade}
use Rattle.kom_links.specs.Answers.{Answer, fault_in}
use Rattle.kom_links.specs.DeskCalls.{DeskView, ChangesAt}
use Rattle.kom_links.specs.Talk.{AreTimed}
use Rattle.kom_sweep.specs.declared.ends.Cut.{Cut}
use Rattle.kom_sweep.specs.declared.ends.Cut.TheVariants as cut
use Rattle.kom_sweep.specs.Replies.{is_short}
use Rattle.kom_sweep.specs.Told.{Told, Exchange, Last, NoCall, told_of, acts_of, told_last}
use Rattle.kom_sweep.specs.Told.{acts_last, AreNumbered, IsNumbered}

-- what is seen between two calls: the desk, the moments that the clock gave, if it tells them, and
-- the reference of the next call
pub record Seen : Type 0 where
  pub desk : DeskView
  pub gave : Option (List ℕ)
  pub next : ℕ

abbrev pub sight : DeskView → Option (List ℕ) → ℕ → Seen
sight desk gave next = record { desk = desk; gave = gave; next = next }

abbrev pub acts_in : List Record → List Act
acts_in records = map (λ made. made.entry.act) records

-- the faults among answers, in order
abbrev pub faults_in : List Answer → List NotMade
faults_in answers = flat_map (λ one. fault_in one.1) answers

-- a record of a pass: of this session, or a flush
pub record IsOwn (pass session : ℕ) (made : Record) : Type 0 where
  pub by_pass : made.entry.pass ≡ pass
  pub of_session : (made.session ≡ session) ⊎ (made.entry.act ≡ act.Flush)

-- These acts of a session were made, and flushes, each at a moment that the clock gave for it; its
-- drains gave these lists of items, and the desk refused with these faults.
pub record HasActed (session : ℕ) (done : List Act) (lists : List (List Item))
    (refusals : List NotMade) (old new : Seen) : Type 0 where
  pub added : List Record
  pub answers : List Answer
  pub mine : new.desk.mine ≡ old.desk.mine ++ added
  pub acts : acts_in added ≡ done
  pub own : AllByRecursion (IsOwn old.desk.pass session) added
  pub given : ChangesAt session (old.desk.gave_to session ++ lists) old.desk.gave_to
      new.desk.gave_to
  pub tells : new.desk.answers ≡ old.desk.answers ++ answers
  pub faults : faults_in answers ≡ refusals
  pub timed : AreTimed old.gave new.gave added
  pub pass : new.desk.pass ≡ old.desk.pass

-- A session made these calls, each flushed and drained before the next, and was so answered; for
-- none of them memory ran out.
pub record Goes (session : ℕ) (old new : Seen) (calls : List Told) : Type 0 where
  pub exchanges : List Exchange
  pub acted : HasActed session (flat_map (acts_of session) exchanges)
      (map (λ one. one.items) exchanges) [] old new
  pub told : map told_of exchanges ≡ calls
  pub numbered : AreNumbered old.next exchanges new.next
  pub sound : AllByRecursion (λ one. is_short one.reply ≡ false) calls

-- a call that was not drained is left by a fault alone
abbrev pub MayLeave : List NotMade → Last → Type 0
MayLeave [] last = last ≡ NoCall
MayLeave (fault ∷ faults) last = Unit {0}

-- A session made these calls, each flushed and drained before the next but for the last, and does
-- not go on: the desk refused with these faults, one or none.
pub record Stops (session : ℕ) (old new : Seen) (calls : List Told)
    (faults : List NotMade) : Type 0 where
  pub exchanges : List Exchange
  pub last : Last
  pub next : ℕ
  pub acted : HasActed session (flat_map (acts_of session) exchanges ++ acts_last session last)
      (map (λ one. one.items) exchanges) faults old new
  pub told : map told_of exchanges ++ told_last last ≡ calls
  pub numbered : AreNumbered old.next exchanges next
  pub last_numbered : IsNumbered next last
  pub left : MayLeave faults last

-- why it does not go on
abbrev pub faults_of : Cut → List NotMade
faults_of (cut.Desk fault) = fault ∷ []
faults_of cut.Memory = []

abbrev pub Breaks : ℕ → Seen → Seen → List Told → Cut → Type 0
Breaks session old new calls why = Stops session old new calls (faults_of why)
