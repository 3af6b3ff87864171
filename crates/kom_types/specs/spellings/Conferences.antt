-- How conferences are spelled. (Protocol A, "Conferences".)
use Rattle.std.specs.Prelude.{List, ◌++◌, ◌/◌}
use Rattle.kom_types.specs.declared.conferences.Conference.{Conference}
use Rattle.kom_types.specs.declared.conferences.UConference.{UConference}
use Rattle.kom_types.specs.declared.conferences.ConferenceName.{ConferenceName}
use Rattle.kom_types.specs.spellings.Words.{Words, number, bits, text, time, array}
use Rattle.kom_types.specs.spellings.AuxItems.{aux_items}

abbrev pub conference : Conference → Words
conference of =
    text of.name ++ bits 8 of.kind ++ time of.created ++ time of.last_written
    ++ number of.creator ++ number of.presentation ++ number of.supervisor
    ++ number of.submitters ++ number of.super_conference ++ number of.motd ++ number of.nice
    ++ number of.keep_commented ++ number of.members ++ number of.first_local
    ++ number of.texts ++ number of.expire ++ aux_items of.aux_items

abbrev pub uconference : UConference → Words
uconference of = text of.name ++ bits 8 of.kind ++ number of.highest_local ++ number of.nice

-- of the type the first four bits
abbrev pub conference_name : ConferenceName → Words
conference_name of = text of.name ++ bits 4 (of.kind / 16) ++ number of.number

abbrev pub conference_names : List ConferenceName → Words
conference_names = array conference_name
