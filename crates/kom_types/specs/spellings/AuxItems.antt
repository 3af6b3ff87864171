-- How aux-items are spelled. (Protocol A, "Auxiliary Information".)
use Rattle.std.specs.Prelude.{List, ◌++◌}
use Rattle.kom_types.specs.declared.aux_items.AuxRow.{AuxRow}
use Rattle.kom_types.specs.spellings.Words.{Words, number, bits, text, time, array}

abbrev pub aux_item : AuxRow → Words
aux_item row =
    number row.number ++ number row.tag ++ number row.creator ++ time row.at ++ bits 8 row.flags
    ++ number row.limit ++ text row.content

abbrev pub aux_items : List AuxRow → Words
aux_items = array aux_item
