-- Where a text stands, and what answers it, of what it is linked to.
use Rattle.std.specs.Prelude.{ℕ, nat_lt, List, [], ◌∷◌, ◌++◌, length, fold, insert, take_while}
use Rattle.std.specs.Prelude.{Option, Some, None}
use Rattle.std.specs.List.{filter_map}
use Rattle.kom_types.specs.declared.texts.MiscInfo.{MiscInfo}
use Rattle.kom_types.specs.declared.texts.MiscInfo.TheVariants as misc
use Rattle.kom_reader.specs.declared.recipients.Part.{Part}

-- the recipient of which the links behind one tell
abbrev pub group_after : Option ℕ → MiscInfo → Option ℕ
group_after group (misc.Recipient conference) = Some conference
group_after group (misc.CopyRecipient conference) = Some conference
group_after group (misc.BlindRecipient conference) = Some conference
group_after group _ = group

-- the conference in which a text stands by a link behind a recipient
abbrev pub part_by : Option ℕ → MiscInfo → List Part
part_by (Some group) (misc.Local number) = record { conference = group; local = number } ∷ []
part_by _ _ = []

-- the conferences in which a text stands, each with its local number there
abbrev pub parts_behind : Option ℕ → List MiscInfo → List Part
parts_behind group [] = []
parts_behind group (link ∷ links) =
    part_by group link ++ parts_behind (group_after group link) links

abbrev pub parts_of : List MiscInfo → List Part
parts_of links = parts_behind None links

abbrev pub footnote_in : MiscInfo → Option ℕ
footnote_in (misc.FootnoteIn text) = Some text
footnote_in _ = None

abbrev pub comment_in : MiscInfo → Option ℕ
comment_in (misc.CommentIn text) = Some text
comment_in _ = None

-- texts in rising order, with one more behind those that are lower
abbrev pub with_rising : List ℕ → ℕ → List ℕ
with_rising texts text = insert texts (length (take_while (λ other. nat_lt other text) texts)) text

-- the same with several more
abbrev pub all_rising : List ℕ → List ℕ → List ℕ
all_rising texts more = fold with_rising texts more

-- the footnotes of a text and then its comments, each rising
abbrev pub answers_of : List MiscInfo → List ℕ
answers_of links =
    all_rising [] (filter_map footnote_in links) ++ all_rising [] (filter_map comment_in links)
