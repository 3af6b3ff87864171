-- Messages.
use Rattle.std.specs.Prelude.{◌≡◌, ◌==◌, true, false, List}
use Rattle.kom_types.specs.declared.messages.Message.{Message}
use Rattle.kom_types.specs.declared.messages.Message.TheVariants as message
use Rattle.kom_types.specs.spellings.Messages.{words_of_message}
use Rattle.kom_types.specs.Token.{Token}
use Rattle.kom_types.specs.calls.Arguments.{Taken, Departs, Malformed, then}
use Rattle.kom_records.specs.Fits.{IsNumber, IsText, IsTextStat, IsAuxItem, AreFit}
use Rattle.kom_records.specs.ByNumber.{arguments_of}
use Rattle.kom_records.specs.Rules.{head, number}
use Rattle.kom_records.specs.Replies.{nothing_after}
use Rattle.kom_records.specs.Words.{tokens_of_words}

-- the messages that are read
abbrev pub IsMessage : Message → Type 0
IsMessage (message.NewName of) =
    IsNumber of.conference × (IsText of.old_name × IsText of.new_name)
IsMessage (message.LeaveConference conference) = IsNumber conference
IsMessage (message.Login person session) = IsNumber person × IsNumber session
IsMessage (message.SendMessage of) =
    IsNumber of.recipient × (IsNumber of.sender × IsText of.text)
IsMessage (message.Logout person session) = IsNumber person × IsNumber session
IsMessage (message.DeletedText which stat) = IsNumber which × IsTextStat stat
IsMessage (message.NewText which stat) = IsNumber which × IsTextStat stat
IsMessage (message.NewRecipient which conference kind) =
    IsNumber which × (IsNumber conference × IsNumber kind)
IsMessage (message.SubRecipient which conference kind) =
    IsNumber which × (IsNumber conference × IsNumber kind)
IsMessage (message.NewMembership person conference) = IsNumber person × IsNumber conference
IsMessage (message.TextAuxChanged of) =
    IsNumber of.text × (AreFit IsAuxItem of.deleted × AreFit IsAuxItem of.added)
IsMessage other = ⊥

-- a line's tokens spell such a message
abbrev pub IsMessageLine : List Token → Message → Type 0
IsMessageLine tokens read = IsMessage read × (tokens ≡ tokens_of_words (words_of_message read))

abbrev pub message_line : List Token → Taken Message
message_line tokens =
    then (head tokens) (λ begun t.
    elim (begun.sign == 58) [
      | true ↦ then (then (number t) (arguments_of begun.number)) nothing_after
      | false ↦ Departs Malformed
    ])
