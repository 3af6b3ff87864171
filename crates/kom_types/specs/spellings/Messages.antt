-- How messages are spelled. (Protocol A, "Asynchronous Messages".)
use Rattle.std.specs.Prelude.{ℕ, [], ◌∷◌, ◌++◌}
use Rattle.std.specs.Fmt.{decimal}
use Rattle.kom_types.specs.declared.async_numbers.TheConstants as async
use Rattle.kom_types.specs.declared.messages.Message.{Message}
use Rattle.kom_types.specs.declared.messages.Message.TheVariants as message
use Rattle.kom_types.specs.spellings.AuxItems.{aux_items}
use Rattle.kom_types.specs.spellings.Texts.{text_stat}
use Rattle.kom_types.specs.spellings.Words.{Words, number, text}

-- `:` and how many arguments there are, which are one word, the message's number, and its
-- arguments; one that is itself of many words counts as one
abbrev pub message_words : ℕ → ℕ → Words → Words
message_words count which arguments = (58 ∷ decimal count) ∷ number which ++ arguments

abbrev pub words_of_message : Message → Words
words_of_message (message.NewName of) =
    message_words 3 async.NEW_NAME (number of.conference ++ text of.old_name ++ text of.new_name)
words_of_message message.SyncDatabase = message_words 0 async.SYNC_DB []
words_of_message (message.LeaveConference conference) =
    message_words 1 async.LEAVE_CONF (number conference)
words_of_message (message.Login person session) =
    message_words 2 async.LOGIN (number person ++ number session)
words_of_message (message.SendMessage of) =
    message_words 3 async.SEND_MESSAGE (number of.recipient ++ number of.sender ++ text of.text)
words_of_message (message.Logout person session) =
    message_words 2 async.LOGOUT (number person ++ number session)
words_of_message (message.DeletedText which stat) =
    message_words 2 async.DELETED_TEXT (number which ++ text_stat stat)
words_of_message (message.NewText which stat) =
    message_words 2 async.NEW_TEXT (number which ++ text_stat stat)
words_of_message (message.NewRecipient which conference kind) =
    message_words 3 async.NEW_RECIPIENT (number which ++ number conference ++ number kind)
words_of_message (message.SubRecipient which conference kind) =
    message_words 3 async.SUB_RECIPIENT (number which ++ number conference ++ number kind)
words_of_message (message.NewMembership person conference) =
    message_words 2 async.NEW_MEMBERSHIP (number person ++ number conference)
words_of_message (message.NewUserArea person old_text new_text) =
    message_words 3 async.NEW_USER_AREA (number person ++ number old_text ++ number new_text)
words_of_message (message.NewPresentation conference old_text new_text) =
    message_words 3 async.NEW_PRESENTATION (number conference ++ number old_text ++ number new_text)
words_of_message (message.NewMotd conference old_text new_text) =
    message_words 3 async.NEW_MOTD (number conference ++ number old_text ++ number new_text)
words_of_message (message.TextAuxChanged of) =
    message_words 3 async.TEXT_AUX_CHANGED
    (number of.text ++ aux_items of.deleted ++ aux_items of.added)
