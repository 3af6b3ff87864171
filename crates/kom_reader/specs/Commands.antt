-- What a typed line asks for.
use Rattle.std.specs.Prelude.{ℕ, Bool, true, false, not, ◌||◌, ◌&&◌, ◌==◌, bytes_eq, List, [], ◌∷◌}
use Rattle.std.specs.Prelude.{Option, Some, None, take_while}
use Rattle.std.specs.Fmt.{decimal}
use Rattle.kom_types.specs.Token.{number_of, is_integer}
use Rattle.kom_types.specs.Grammar.{drop_while}
use Rattle.kom_reader.specs.declared.words.Choice.{Choice}
use Rattle.kom_reader.specs.declared.words.Choice.TheVariants as choice
use Rattle.kom_reader.specs.declared.commands.Command.{Command}
use Rattle.kom_reader.specs.declared.commands.Command.TheVariants as command
use Rattle.kom_reader.specs.Words.{word_of}

-- a space, a tab or a carriage return
abbrev pub is_blank : ℕ → Bool
is_blank byte = (byte == 32) || (byte == 9) || (byte == 13)

abbrev pub is_letter : ℕ → Bool
is_letter byte = not (is_blank byte)

abbrev pub behind_blanks : List ℕ → List ℕ
behind_blanks line = drop_while is_blank line

-- the first word of a line, and what stands behind it and the blanks after it
abbrev pub first_word : List ℕ → List ℕ
first_word line = take_while is_letter (behind_blanks line)

abbrev pub rest_of : List ℕ → List ℕ
rest_of line = behind_blanks (drop_while is_letter (behind_blanks line))

-- the number of a word that spells one as the program would
abbrev pub number_in : List ℕ → Option ℕ
number_in word = elim (is_integer word && bytes_eq (decimal (number_of word)) word) [
  | true ↦ Some (number_of word)
  | false ↦ None
]

abbrev pub command_by : Choice → Command
command_by choice.None = command.Unknown
command_by (choice.One word) = command.Word word
command_by choice.Several = command.Several

-- what a word that is no number asks for
abbrev pub command_or : Option ℕ → List ℕ → Command
command_or (Some number) typed = command.Text number
command_or None typed = command_by (word_of typed)

-- what the first word of a line asks for, if it has one
abbrev pub command_in : List ℕ → Command
command_in [] = command.Enter
command_in (byte ∷ typed) = command_or (number_in (byte ∷ typed)) (byte ∷ typed)

abbrev pub command_of : List ℕ → Command
command_of line = command_in (first_word line)
