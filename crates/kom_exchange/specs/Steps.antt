-- What the steps of an exchange leave.
use Rattle.std.specs.Prelude.{◌≡◌, ℕ, Bool, true, Option, List, Some, IfSome}
use Rattle.kom_types.specs.declared.replies.Reply.{Reply}
use Rattle.kom_types.specs.declared.replies.Reply.TheVariants as reply
use Rattle.kom_types.specs.declared.texts.TextStat.{TextStat}
use Rattle.kom_framing.specs.declared.units.Unit.{Unit as StreamUnit}
use Rattle.kom_reader.specs.declared.commands.Command.TheVariants as command
use Rattle.kom_reader.specs.declared.words.Word.TheVariants as word
use Rattle.kom_reader.specs.Commands.{command_of}
use Rattle.kom_reader.specs.Links.{parts_of}
use Rattle.kom_records.specs.declared.replies.ResultKind.{ResultKind}
use Rattle.kom_records.specs.declared.replies.ResultKind.TheVariants as kind
use Rattle.kom_exchange.specs.declared.told.Told.{Told}
use Rattle.kom_exchange.specs.Asking.{Asking, HasSpelled}
use Rattle.kom_exchange.specs.Fair.{HasAsked, HasLogin, IsTold, stat_request, body_request}
use Rattle.kom_exchange.specs.Goes.{Marks}
use Rattle.kom_exchange.specs.Hearing.{HasReply, HasUnit}

-- a unit of its stream was heard of a server
pub record HasHeard (one : StreamUnit) (server : Asking) : Type 0 where
  pub heard : IfSome server.link.taken (HasUnit one)

-- and a reply
pub record HasReplied (which : ResultKind) (read : ℕ × Reply) (server : Asking) : Type 0 where
  pub tells : IfSome server.link.taken (HasReply which read)

-- a reply that told this of a text
pub record HasStat (server : Asking) (stat : TextStat) : Type 0 where
  pub reference : ℕ
  pub tells : IfSome server.link.taken (HasReply kind.TextStat (reference, reply.TextStat stat))

-- what is told of a text and its body were asked for
pub record HasAskedBoth (text first second : ℕ) (server : Asking) : Type 0 where
  pub asks_stat : HasAsked (first, stat_request text) server.asked
  pub asks_body : HasAsked (second, body_request text) server.asked

-- and told, by replies with these references
pub record HasHeardBoth (server : Asking) (first second : ℕ) (stat body : Reply) : Type 0 where
  pub tells_stat : IfSome server.link.taken (HasReply kind.TextStat (first, stat))
  pub tells_body : IfSome server.link.taken (HasReply kind.Text (second, body))

-- both were asked for and told
pub record HasTold (server : Asking) (stat body : Reply) : Type 0 where
  pub is : IsTold server.link.taken server.asked stat body

-- where a person is in, the login was asked
pub record IsIn (is_in : Bool) (person : ℕ) (server : Asking) : Type 0 where
  pub login : is_in ≡ true → HasLogin person server.asked

-- a line says that texts are skipped
pub record SaysSkip (line : Option (List ℕ)) : Type 0 where
  pub typed : List ℕ
  pub is_typed : line ≡ Some typed
  pub says : command_of typed ≡ command.Word word.Skip

-- For this reason it was asked that a text counts as read; or nothing was done.
pub data MarksFor (reason : Type 0) (stat : TextStat) (old new : Asking) : Type 0 where
  IsMarked : reason → HasSpelled old → Marks (parts_of stat.misc_infos) old new
      → MarksFor reason stat old new
  IsLeft : new ≡ old → MarksFor reason stat old new

-- The same of the text that was told, if its page was shown.
pub data MarksShown (told : Option Told) (is_shown : Bool) (old new : Asking) : Type 0 where
  IsMarkedShown : (one : Told) → told ≡ Some one → is_shown ≡ true → HasSpelled old
      → Marks (parts_of one.stat.misc_infos) old new → MarksShown told is_shown old new
  IsLeftUnshown : new ≡ old → MarksShown told is_shown old new
