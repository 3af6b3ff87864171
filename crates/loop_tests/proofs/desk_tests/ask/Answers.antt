use Rattle.memory_links.proofs.OpenKept.{kept_acts, kept_calls, kept_drains, kept_flushes}
use Rattle.loop_tests.proofs.desk_tests.ask.Goals as goal

pub returns-in-Call : goal.returns-in-Call
returns-in-Call c = kept_calls c.call-answer.result c.call-answer.ensures.calls tt

pub returns-in-Broken : goal.returns-in-Broken
returns-in-Broken c = kept_acts c.broken-answer.result c.broken-answer.ensures.acts tt

pub returns-in-Flush : goal.returns-in-Flush
returns-in-Flush c = kept_flushes c.flush-answer.result c.flush-answer.ensures.flushes

pub returns-in-Drain : goal.returns-in-Drain
returns-in-Drain c = kept_drains c.drain_into-answer.result c.drain_into-answer.ensures.drains
