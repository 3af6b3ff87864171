-- What an act does to a core.
use Rattle.std.specs.Prelude.{◌≡◌, ℕ, false, List, Option, Some, None, Result, Ok, Err, OnOk}
use Rattle.arrayvec.specs.ArrayVec.{ArrayVec}
use Rattle.kom_types.specs.declared.acts.Act.{Act}
use Rattle.kom_types.specs.declared.acts.Act.TheVariants as act
use Rattle.kom_types.specs.declared.acts.Entry.{Entry}
use Rattle.kom_types.specs.declared.acts.Record.{Record}
use Rattle.kom_types.specs.declared.answers.Answer.{Answer}
use Rattle.kom_types.specs.declared.answers.Answer.TheVariants as answer
use Rattle.kom_types.specs.declared.answers.NotMade.{NotMade}
use Rattle.kom_types.specs.declared.answers.NotMade.TheVariants as why
use Rattle.kom_types.specs.declared.items.Item.{Item}
use Rattle.kom_types.specs.declared.replies.Reply.TheVariants as reply
use Rattle.kom_types.specs.declared.shortage.Memory.{Memory}
use Rattle.kom_model.specs.State.{State}
use Rattle.kom_model.specs.After.{reply_in}
use Rattle.kom_model.specs.Making.{IsMadeBy, IsNotMade}
use Rattle.kom_model.specs.Out.{taken_by}

-- what a core holds: the state, and the record of its last act until that is handed out
pub record Held : Type 0 where
  pub state : State
  pub last : Option Record

-- a call that was refused left the stored rows as they were
abbrev pub KeepsRowsIfRefused : State → State → Record → Type 0
KeepsRowsIfRefused old new made = (code status : ℕ)
    → reply_in old made ≡ Some (reply.Refused code status) → new.db ≡ old.db

-- The act of an entry was made on a core, by this record; that of a flush is not short, since a
-- core has no store. Or it was not made, for this, and nothing changed.
abbrev pub CoreComes : State → Entry → State → Result Record NotMade → Type 0
CoreComes old entry new (Ok made) = IsMadeBy old new entry made
    × (made.entry.act ≡ act.Flush → made.short ≡ false) × KeepsRowsIfRefused old new made
CoreComes old entry new (Err why) = IsNotMade old entry.act why × (new ≡ old)

-- the record of an act that was made
abbrev pub record_in : Result Record NotMade → Option Record
record_in (Ok made) = Some made
record_in (Err why) = None

-- the answer to an act that was made, by its session and the items that it took
abbrev pub answer_to : Act → ℕ → ArrayVec Item → Answer
answer_to (act.Connect user host) session items = answer.Connected session
answer_to (act.Call caller reference call) session items = answer.Taken
answer_to (act.Broken caller) session items = answer.Taken
answer_to (act.Drain caller) session items = answer.Items items
answer_to act.Flush session items = answer.Taken
answer_to (act.Close caller) session items = answer.Taken

-- an act that came to this, and took these items, is answered so
abbrev pub IsAnswer : Act → Result Record NotMade → List Item → Result Answer Memory → Type 0
IsAnswer what (Ok made) items given = (held : ArrayVec Item) × (held.items ≡ items)
    × (given ≡ Ok (answer_to what made.session held))
IsAnswer what (Err (why.Gone told)) items given = given ≡ Ok (answer.Gone told)
IsAnswer what (Err (why.Full number)) items given = given ≡ Ok (answer.Full number)
IsAnswer what (Err why.Memory) items given = OnOk given ⊥

-- An act of a core came to this, was answered so, and left its record to be handed out.
pub record IsAnswered (old : State) (entry : Entry) (new : Held) (given : Result Answer Memory)
    (came : Result Record NotMade) : Type 0 where
  pub comes : CoreComes old entry new.state came
  pub answer : IsAnswer entry.act came (taken_by old entry.act) given
  pub last : new.last ≡ record_in came
