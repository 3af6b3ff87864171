-- How the server tells of itself. (Protocol A, "Version-Info" and "Info".)
use Rattle.std.specs.Prelude.{◌++◌}
use Rattle.kom_types.specs.declared.server.Info.{Info}
use Rattle.kom_types.specs.declared.server.VersionInfo.{VersionInfo}
use Rattle.kom_types.specs.spellings.Words.{Words, number, text}
use Rattle.kom_types.specs.spellings.AuxItems.{aux_items}

abbrev pub version_info : VersionInfo → Words
version_info of = number of.protocol ++ text of.software ++ text of.version

abbrev pub info : Info → Words
info of =
    number of.version ++ number of.conference_presentations ++ number of.person_presentations
    ++ number of.motds ++ number of.news ++ number of.motd_of_lyskom ++ aux_items of.aux_items
