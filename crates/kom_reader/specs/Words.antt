-- The words of commands.
use Rattle.std.specs.Prelude.{ℕ, Bool, ◌&&◌, nat_le, List, [], ◌∷◌, length, take, filter, codes}
use Rattle.std.specs.Str.{str_eq_ignore_ascii_case}
use Rattle.kom_reader.specs.declared.words.TheConstants.{WORDS}
use Rattle.kom_reader.specs.declared.words.Word.{Word}
use Rattle.kom_reader.specs.declared.words.Word.TheVariants as word
use Rattle.kom_reader.specs.declared.words.Choice.{Choice}
use Rattle.kom_reader.specs.declared.words.Choice.TheVariants as choice

-- how a word is spelled
unfoldable pub text_of : Word → List ℕ
text_of word.Next = codes "next"
text_of word.Skip = codes "skip"
text_of word.Comment = codes "comment"
text_of word.Footnote = codes "footnote"
text_of word.Write = codes "write"
text_of word.Letter = codes "letter"
text_of word.Reply = codes "reply"
text_of word.Review = codes "review"
text_of word.Go = codes "go"
text_of word.List = codes "list"
text_of word.News = codes "news"
text_of word.Join = codes "join"
text_of word.Leave = codes "leave"
text_of word.Who = codes "who"
text_of word.Send = codes "send"
text_of word.Whereami = codes "whereami"
text_of word.Help = codes "help"
text_of word.Quit = codes "quit"

-- what is typed is the word or a beginning of it, its letters small or capital
abbrev pub fits : List ℕ → Word → Bool
fits typed word =
    nat_le (length typed) (length (text_of word))
    && str_eq_ignore_ascii_case typed (take (length typed) (text_of word))

-- one word more fits
abbrev pub choice_and : Choice → Word → Choice
choice_and choice.None word = choice.One word
choice_and (choice.One other) word = choice.Several
choice_and choice.Several word = choice.Several

-- none, the only one, or several
abbrev pub choice_of : List Word → Choice
choice_of [] = choice.None
choice_of (word ∷ []) = choice.One word
choice_of (word ∷ other ∷ more) = choice.Several

-- the word that is meant: the only one that fits
unfoldable pub word_of : List ℕ → Choice
word_of typed = choice_of (filter (fits typed) WORDS)
