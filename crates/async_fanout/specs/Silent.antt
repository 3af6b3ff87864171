-- The calls that send nothing.
use Rattle.std.specs.Prelude.{Bool, ◌||◌, ◌&&◌, not, ◌==◌, length}
use Rattle.kom_types.specs.calls.Numbers.{number_of_call}
use Rattle.kom_types.specs.declared.calls.Call.{Call}
use Rattle.kom_types.specs.declared.decisions.Decision.{Decision}
use Rattle.kom_model.specs.declared.kinds.TheConstants.{SENDING_NUMBERS}
use Rattle.kom_model.specs.Kinds.{is_among}
use Rattle.kom_model.specs.ToWhom.{is_refused}

-- whether a call may send something beside who logs out and in
abbrev pub may_send : Call → Bool
may_send call = is_among SENDING_NUMBERS (number_of_call call)

-- A call that came to this sends nothing: it changes no session, and is refused or of no kind that
-- sends something.
abbrev pub is_silent : Call → Decision → Bool
is_silent call decision =
    length decision.changes == 0 && (is_refused decision.reply || not (may_send call))
