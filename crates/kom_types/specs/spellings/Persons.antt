-- How persons are spelled. (Protocol A, "Persons".)
use Rattle.std.specs.Prelude.{◌++◌}
use Rattle.kom_types.specs.declared.persons.Person.{Person}
use Rattle.kom_types.specs.spellings.Words.{Words, number, bits, text, time}

abbrev pub person : Person → Words
person of =
    text of.user ++ bits 16 of.privileges ++ bits 8 of.flags ++ time of.last_login
    ++ number of.user_area ++ number of.time_present ++ number of.sessions
    ++ number of.created_lines ++ number of.created_bytes ++ number of.read_texts
    ++ number of.text_fetches ++ number of.created_persons ++ number of.created_conferences
    ++ number of.first_created_local ++ number of.created_texts ++ number of.marks
    ++ number of.conferences
