-- The calls about the server. (Protocol A, "Protocol Requests".)
use Rattle.std.specs.Prelude.{[], ◌∷◌, codes}
use Rattle.kom_types.specs.declared.replies.Reply.TheVariants as reply
use Rattle.kom_types.specs.declared.session_changes.SessionChange.TheVariants as change
use Rattle.kom_model.specs.calls.Call.{Asked, Definition, answer, done_with, without_guard}
use Rattle.kom_model.specs.calls.Guards.{with_guards, caller, strong_guard}

-- call 35, get-time: the time of the entry
abbrev pub get_time : Asked → Definition
get_time asked = without_guard (answer (reply.Time asked.moment))

-- call 75, get-version-info
abbrev pub get_version_info : Definition
get_version_info = without_guard (answer (reply.VersionInfo
    (record { protocol = 11; software = codes "komd"; version = codes "1.0" })))

-- call 94, get-info: the four conferences that each server has at first
abbrev pub get_info : Definition
get_info = without_guard (answer (reply.Info (record {
  version = 10000;
  conference_presentations = 1;
  person_presentations = 2;
  motds = 3;
  news = 4;
  motd_of_lyskom = 0;
  aux_items = [];
})))

-- call 43, sync-kom
abbrev pub sync_kom : Asked → Definition
sync_kom asked = with_guards (strong_guard (caller asked) ∷ []) (done_with [] [])

-- call 44, shutdown-kom: its value is not used
abbrev pub shutdown_kom : Asked → Definition
shutdown_kom asked =
    with_guards (strong_guard (caller asked) ∷ []) (done_with [] (change.Stop ∷ []))
