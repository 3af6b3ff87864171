-- Rows that were worked out by hand: the calls of a run, how far it has come, its records, and what
-- it came to.
use Rattle.std.specs.Prelude.{◌≡◌, ℕ, false, List, [], ◌∷◌, ◌++◌, codes, fold}
use Rattle.kom_types.specs.declared.acts.Act.TheVariants as act
use Rattle.kom_types.specs.declared.acts.Record.{Record}
use Rattle.kom_types.specs.declared.calls.Call.TheVariants as call
use Rattle.kom_types.specs.declared.replies.Reply.{Reply}
use Rattle.kom_types.specs.declared.replies.Reply.TheVariants.{Done, Refused, Number}
use Rattle.kom_load.specs.Generator.{call_of_index}
use Rattle.kom_load.specs.Runs.{new_run, after_answer}
use Rattle.kom_load.specs.Loading.{record_of, run_of}
use Rattle.kom_load.specs.Summaries.{lines_of}

-- what the first eight calls of a new server are answered
abbrev pub first_answers : List Reply
first_answers =
    Number 6 ∷ Number 1 ∷ Done ∷ Done ∷ Number 7 ∷ Number 2 ∷ Done ∷ Done ∷ []

-- the records of a run of one call
abbrev pub first_records : List Record
first_records =
    record_of 0 1 (act.Connect (codes "load") (codes "memory"))
    ∷ record_of 0 0 act.Flush
    ∷ record_of 0 1 (act.Drain 1)
    ∷ record_of 0 1 (act.Call 1 0 (call.Login 5 [] false))
    ∷ record_of 0 0 act.Flush
    ∷ record_of 0 1 (act.Drain 1)
    ∷ record_of 1 1 (act.Call 1 1
    (call.CreateConf (record { name = codes "c1"; kind = 0; aux_items = [] })))
    ∷ record_of 1 0 act.Flush
    ∷ record_of 1 1 (act.Drain 1)
    ∷ []

abbrev pub line_end : List ℕ
line_end = 10 ∷ []

pub record LoadRows : Type 0 where
  pub conference : call_of_index 1 0
      ≡ call.CreateConf (record { name = codes "c1"; kind = 0; aux_items = [] })
  pub text : call_of_index 2 6 ≡ call.CreateText (record {
    body = codes "t2";
    misc_inputs = record { tag = 0; value = 6 } ∷ [];
    aux_items = [];
  })
  pub member : call_of_index 3 6 ≡ call.AddMember 6 5 100 0 0
  pub reader : call_of_index 4 6 ≡ call.MarkAsRead 6 (1 ∷ [])
  pub later_text : call_of_index 10 8 ≡ call.CreateText (record {
    body = codes "t10";
    misc_inputs = record { tag = 0; value = 8 } ∷ [];
    aux_items = [];
  })
  pub eight_calls : fold after_answer new_run first_answers
      ≡ record { calls = 8; refused = 0; conference = 7 }
  pub refused_call : after_answer (record { calls = 2; refused = 0; conference = 6 }) (Refused 12 0)
      ≡ record { calls = 3; refused = 1; conference = 6 }
  pub records : (run_of 1).history ≡ first_records
  pub lines : lines_of (record { calls = 8; ok = 8; refused = 0; conferences = 7; texts = 2 })
      ≡ codes "calls 8" ++ line_end ++ codes "ok 8" ++ line_end ++ codes "refused 0" ++ line_end
      ++ codes "conferences 7" ++ line_end ++ codes "texts 2" ++ line_end
