-- What the printer leaves in a writer.
use Rattle.std.specs.Prelude.{◌≡◌, ℕ, List, [], ◌∷◌, ◌++◌, true, codes}
use Rattle.kom_types.specs.declared.items.Item.{Item}
use Rattle.kom_types.specs.declared.items.Item.TheVariants as item
use Rattle.kom_types.specs.Printing.{print_of}
use Rattle.kom_types.specs.spellings.Messages.{words_of_message}
use Rattle.kom_types.specs.spellings.Replies.{words_of_reply}
use Rattle.kom_types.specs.spellings.Words.{Words}
use Rattle.kom_framing.specs.Writing.{Written}

-- with the item's one spelling at the end, and ready for the next line
abbrev pub with_item : Item → Written → Written
with_item item written = record { bytes = written.bytes ++ print_of item; joined = true }

-- the bytes of a writer begin with these
pub record Begins (prefix : List ℕ) (written : Written) : Type 0 where
  pub more : List ℕ
  pub is : written.bytes ≡ prefix ++ more

-- the words of an item's line
abbrev pub words_of : Item → Words
words_of item.Hello = codes "LysKOM" ∷ []
words_of (item.Reply reference body) = words_of_reply reference body
words_of (item.Message message) = words_of_message message
words_of item.Fault = codes "%%Protocol error." ∷ []
