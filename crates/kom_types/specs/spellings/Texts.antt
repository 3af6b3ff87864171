-- How texts are spelled. (Protocol A, "Texts".)
use Rattle.std.specs.Prelude.{◌++◌}
use Rattle.kom_types.specs.declared.texts.Block.{Block}
use Rattle.kom_types.specs.declared.texts.Block.TheVariants as block
use Rattle.kom_types.specs.declared.texts.LocalText.{LocalText}
use Rattle.kom_types.specs.declared.texts.Mapping.{Mapping}
use Rattle.kom_types.specs.declared.texts.Mark.{Mark}
use Rattle.kom_types.specs.declared.texts.MiscInfo.{MiscInfo}
use Rattle.kom_types.specs.declared.texts.MiscInfo.TheVariants as misc
use Rattle.kom_types.specs.declared.texts.TextStat.{TextStat}
use Rattle.kom_types.specs.spellings.Words.{Words, number, flag, time, array}
use Rattle.kom_types.specs.spellings.AuxItems.{aux_items}

-- a link of a text: its tag and its value
abbrev pub misc_info : MiscInfo → Words
misc_info (misc.Recipient conference) = number 0 ++ number conference
misc_info (misc.CopyRecipient conference) = number 1 ++ number conference
misc_info (misc.CommentTo text) = number 2 ++ number text
misc_info (misc.CommentIn text) = number 3 ++ number text
misc_info (misc.FootnoteTo text) = number 4 ++ number text
misc_info (misc.FootnoteIn text) = number 5 ++ number text
misc_info (misc.Local number_there) = number 6 ++ number number_there
misc_info (misc.Received moment) = number 7 ++ time moment
misc_info (misc.SentBy person) = number 8 ++ number person
misc_info (misc.SentAt moment) = number 9 ++ time moment
misc_info (misc.BlindRecipient conference) = number 15 ++ number conference

abbrev pub text_stat : TextStat → Words
text_stat of =
    time of.created ++ number of.author ++ number of.lines ++ number of.chars ++ number of.marks
    ++ array misc_info of.misc_infos ++ aux_items of.aux_items

abbrev pub mark : Mark → Words
mark of = number of.text ++ number of.kind

abbrev pub local_text : LocalText → Words
local_text of = number of.local ++ number of.text

-- a block is sparse, 0, or dense, 1
abbrev pub block_words : Block → Words
block_words (block.Sparse pairs) = number 0 ++ array local_text pairs
block_words (block.Dense first texts) = number 1 ++ number first ++ array number texts

abbrev pub mapping : Mapping → Words
mapping of =
    number of.begin ++ number of.end ++ flag of.later_texts_exist ++ block_words of.block
