-- What stands at the beginning of a line that does not begin with a blank.
use Rattle.std.specs.Prelude.{ℕ, List, [], codes}
use Rattle.std.specs.Fmt.{decimal}
use Rattle.kom_screen.specs.declared.fronts.Front.{Front}
use Rattle.kom_screen.specs.declared.fronts.Front.TheVariants as front

-- the program's fixed words
abbrev pub words_of : Front → List ℕ
words_of front.Blank = []
words_of (front.Number number) = []
words_of front.Bracket = codes "("
words_of front.Star = codes "* "
words_of front.Welcome = codes "Welcome, "
words_of front.Subject = codes "Subject: "
words_of front.Recipient = codes "Recipient: "
words_of front.Copy = codes "Copy: "
words_of front.BlindCopy = codes "Blind copy: "
words_of front.CommentTo = codes "Comment to text "
words_of front.FootnoteTo = codes "Footnote to text "
words_of front.CommentIn = codes "Comment in text "
words_of front.FootnoteIn = codes "Footnote in text "
words_of front.Rule = codes "----------"
words_of front.More = codes "-- more: "

-- the program's own words at the beginning of a line: fixed ones, or a number
abbrev pub own_words : Front → List ℕ
own_words (front.Number number) = decimal number
own_words other = words_of other
