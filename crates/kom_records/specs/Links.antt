-- How a link of a text is read, by its tag. (Protocol A, "Misc-Info".)
use Rattle.std.specs.Prelude.{ℕ, ◌==◌, if◌then◌else◌, List}
use Rattle.kom_types.specs.declared.texts.MiscInfo.{MiscInfo}
use Rattle.kom_types.specs.declared.texts.MiscInfo.TheVariants as misc
use Rattle.kom_types.specs.Token.{Token}
use Rattle.kom_types.specs.calls.Arguments.{Taken, Departs, Malformed}
use Rattle.kom_records.specs.Rules.{number, map_taken}
use Rattle.kom_records.specs.Times.{time}

abbrev pub misc_by : ℕ → List Token → Taken MiscInfo
misc_by tag t =
    if tag == 0 then map_taken misc.Recipient (number t)
    else if tag == 1 then map_taken misc.CopyRecipient (number t)
    else if tag == 2 then map_taken misc.CommentTo (number t)
    else if tag == 3 then map_taken misc.CommentIn (number t)
    else if tag == 4 then map_taken misc.FootnoteTo (number t)
    else if tag == 5 then map_taken misc.FootnoteIn (number t)
    else if tag == 6 then map_taken misc.Local (number t)
    else if tag == 7 then map_taken misc.Received (time t)
    else if tag == 8 then map_taken misc.SentBy (number t)
    else if tag == 9 then map_taken misc.SentAt (time t)
    else if tag == 15 then map_taken misc.BlindRecipient (number t)
    else Departs Malformed
