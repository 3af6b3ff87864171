-- Records of acts, as a desk keeps them.
use Rattle.std.specs.Prelude.{ℕ, ◌==◌, ◌&&◌, Bool, true, false, not, IsTrue, List}
use Rattle.std.specs.List.{list_any}
use Rattle.kom_types.specs.declared.acts.Act.{Act}
use Rattle.kom_types.specs.declared.acts.Act.TheVariants as act
use Rattle.kom_types.specs.declared.acts.Record.{Record}

-- the session of a Connect is the one that it makes
abbrev pub is_connect : Act → Bool
is_connect (act.Connect user host) = true
is_connect (act.Call session reference call) = false
is_connect (act.Broken session) = false
is_connect (act.Drain session) = false
is_connect act.Flush = false
is_connect (act.Close session) = false

abbrev pub is_close : Act → Bool
is_close (act.Connect user host) = false
is_close (act.Call session reference call) = false
is_close (act.Broken session) = false
is_close (act.Drain session) = false
is_close act.Flush = false
is_close (act.Close session) = true

-- these records have the Connect of the session
abbrev pub has_connect : ℕ → List Record → Bool
has_connect session records =
    list_any (λ made. is_connect made.entry.act && made.session == session) records

-- these records have the Close of the session
abbrev pub has_close : ℕ → List Record → Bool
has_close session records =
    list_any (λ made. is_close made.entry.act && made.session == session) records

-- one of these records is of the session
abbrev pub has_session : ℕ → List Record → Bool
has_session session records = list_any (λ made. made.session == session) records

-- the session was connected by these records and not closed
abbrev pub is_open : ℕ → List Record → Bool
is_open session records = has_connect session records && not (has_close session records)

abbrev pub IsOpen : ℕ → List Record → Type 0
IsOpen session records = IsTrue (is_open session records)
