-- What a server writes. (Protocol A, "Server Replies".)
use Rattle.std.specs.Prelude.{ℕ, List, [], ◌∷◌, ◌++◌, codes}
use Rattle.std.specs.List.{join_with_byte}
use Rattle.kom_types.specs.declared.items.Item.{Item}
use Rattle.kom_types.specs.declared.items.Item.TheVariants as item
use Rattle.kom_types.specs.spellings.Messages.{words_of_message}
use Rattle.kom_types.specs.spellings.Replies.{words_of_reply}
use Rattle.kom_types.specs.spellings.Words.{Words}

-- a line of a server: its words with one space between two, and a line feed
abbrev pub line_of : Words → List ℕ
line_of words = join_with_byte 32 words ++ 10 ∷ []

-- The one spelling of an item.
unfoldable pub print_of : Item → List ℕ
print_of item.Hello = line_of (codes "LysKOM" ∷ [])
print_of (item.Reply reference body) = line_of (words_of_reply reference body)
print_of (item.Message message) = line_of (words_of_message message)
print_of item.Fault = line_of (codes "%%Protocol error." ∷ [])
