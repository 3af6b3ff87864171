-- How sessions are spelled. (Protocol A, "Who is Logged On".)
use Rattle.std.specs.Prelude.{◌++◌}
use Rattle.kom_types.specs.declared.sessions.DynamicSession.{DynamicSession}
use Rattle.kom_types.specs.declared.sessions.StaticSession.{StaticSession}
use Rattle.kom_types.specs.spellings.Words.{Words, number, bits, text, time}

abbrev pub dynamic_session : DynamicSession → Words
dynamic_session of =
    number of.session ++ number of.person ++ number of.working ++ number of.idle
    ++ bits 8 of.flags ++ text of.doing

abbrev pub static_session : StaticSession → Words
static_session of = text of.user ++ text of.host ++ text of.ident_user ++ time of.connected
