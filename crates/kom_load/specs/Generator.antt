-- The calls of a run that loads the server, which the server makes up itself. They are this
-- server's own choice.
use Rattle.std.specs.Prelude.{ℕ, ◌%◌, ◌==◌, [], ◌∷◌, if◌then◌else◌}
use Rattle.std.specs.Fmt.{decimal}
use Rattle.kom_types.specs.declared.calls.Call.{Call}
use Rattle.kom_types.specs.declared.calls.Call.TheVariants as call

-- `c1`: a conference that is open to all, without aux-items
abbrev pub made_conference : ℕ → Call
made_conference index =
    call.CreateConf (record { name = 99 ∷ decimal index; kind = 0; aux_items = [] })

-- `t2`: a text to a conference
abbrev pub written_text : ℕ → ℕ → Call
written_text index conference = call.CreateText (record {
  body = 116 ∷ decimal index;
  misc_inputs = record { tag = 0; value = conference } ∷ [];
  aux_items = [];
})

-- person 5 becomes a member, with priority 100, in the first place
abbrev pub join_call : ℕ → Call
join_call conference = call.AddMember conference 5 100 0 0

-- the first text of a conference was read
abbrev pub mark_call : ℕ → Call
mark_call conference = call.MarkAsRead conference (1 ∷ [])

-- the call of an index, from 1 on: four calls for each conference, all but the first of them about
-- the one that was made last
abbrev pub call_of_index : ℕ → ℕ → Call
call_of_index index conference =
    if index % 4 == 1 then made_conference index
    else if index % 4 == 2 then written_text index conference
    else if index % 4 == 3 then join_call conference
    else mark_call conference
