-- What contracts see of the objects in memory: what each was made with, how far it has come, and
-- what a link gives and takes by its plan.
use Rattle.std.specs.Prelude.{◌≡◌, ◌≤◌, ◌+◌, ◌-◌, ◌==◌, ◌⊎◌, ◌||◌, ℕ, min, if◌then◌else◌, Bool}
use Rattle.std.specs.Prelude.{true, Err, not, filter}
use Rattle.std.specs.Prelude.{false, List, [], ◌∷◌, ◌++◌, length, take, drop, map, Option, Some}
use Rattle.std.specs.Prelude.{None}
use Rattle.std.specs.Prelude.{option_map, codes}
use Rattle.std.specs.List.{AllByRecursion}
use Rattle.std.specs.VecDeque.{deque_len}
use Rattle.kom_links.specs.declared.deeds.Deed.{Deed}
use Rattle.kom_types.specs.declared.answers.NotMade.{NotMade}
use Rattle.kom_links.specs.declared.gate.Next.{Next}
use Rattle.kom_links.specs.declared.gate.Next.TheVariants as next
use Rattle.kom_links.specs.declared.link.Got.{Got}
use Rattle.kom_links.specs.declared.link.Got.TheVariants as got
use Rattle.kom_links.specs.declared.link.Took.{Took}
use Rattle.kom_links.specs.declared.link.Took.TheVariants as took
use Rattle.kom_links.specs.DeskCalls.{DeskView, StaysForAll}
use Rattle.kom_links.specs.Doors.{GateView}
use Rattle.kom_links.specs.Outside.{Look, LinkView}
use Rattle.memory_links.specs.declared.memory_link.LinkPlan.{LinkPlan}
use Rattle.memory_links.specs.declared.read_log.ReadMark.{ReadMark}
use Rattle.memory_links.specs.declared.memory_link.Script.{Script}
use Rattle.memory_links.specs.declared.memory_link.MemoryLink.{MemoryLink}
use Rattle.memory_links.specs.declared.memory_gate.Client.{Client}
use Rattle.memory_links.specs.declared.memory_gate.MemoryGate.{MemoryGate}
use Rattle.memory_links.specs.declared.memory_sink.MemorySink.{MemorySink}
use Rattle.memory_links.specs.declared.memory_clock.MemoryClock.{MemoryClock}
use Rattle.memory_links.specs.declared.memory_desk.MemoryDesk.{MemoryDesk}
use Rattle.memory_links.specs.declared.file_plan.FilePlan.{FilePlan}
use Rattle.memory_links.specs.declared.memory_world.GatePlan.{GatePlan}
use Rattle.memory_links.specs.declared.memory_world.MemoryWorld.{MemoryWorld}
use Rattle.memory_links.specs.Standing.{says_lock_full}
use Rattle.memory_links.specs.PlannedItems.{given_in}

-- how a link gives and takes its bytes
abbrev pub plan_of : MemoryLink → LinkPlan
plan_of link = link.plan

-- how many reads a link has counted
abbrev pub reads_of : MemoryLink → ℕ
reads_of link = link.reads

-- how many writes a link has counted
abbrev pub writes_of : MemoryLink → ℕ
writes_of link = link.writes

-- the place in its input that a link's reads have reached
abbrev pub place_of : MemoryLink → ℕ
place_of link = link.taken

-- the read that a mark of a link in memory stands for
abbrev pub look_of : List ℕ → List ℕ → ReadMark → Look
look_of input output mark = record {
  taken = take mark.taken input;
  put = take mark.put output;
  waited = mark.waited;
}

-- the reads that a link in memory tells
abbrev pub told_reads : MemoryLink → Option (List Look)
told_reads link = option_map (map (look_of link.input.items link.output.items)) link.log

-- the key by which a link's gate tells of it, if that does
abbrev pub key_of : MemoryLink → Option ℕ
key_of link = link.key

-- how many bytes a link's reads have yet to give
abbrev pub left_of : MemoryLink → ℕ
left_of link = length (drop link.taken link.input.items)

-- a read that gives so many bytes from a place keeps to the plan: to its limit, where it sets one,
-- and with no cut strictly inside
abbrev pub KeepsTo : LinkPlan → ℕ → ℕ → Type 0
KeepsTo plan place count = ((plan.most_read ≡ 0) ⊎ (count ≤ plan.most_read))
    × AllByRecursion (λ cut. (cut ≤ place) ⊎ (place + count ≤ cut)) plan.cuts.items

-- the most bytes from a place that there is room for, that are left and that keep to the plan
abbrev pub IsMost : ℕ → ℕ → LinkPlan → ℕ → ℕ → Type 0
IsMost room left plan place count = (count ≤ room) × (count ≤ left) × KeepsTo plan place count
    × ((more : ℕ) → more ≤ room → more ≤ left → KeepsTo plan place more → more ≤ count)

-- a read that gives bytes gives the most that it may
abbrev pub GivesMost : ℕ → ℕ → LinkPlan → ℕ → Got → Type 0
GivesMost room left plan place (got.Some count) = IsMost room left plan place count
GivesMost room left plan place got.NotYet = Unit {0}
GivesMost room left plan place got.End = Unit {0}
GivesMost room left plan place got.Failed = Unit {0}

-- how many bytes of so many a write takes under a limit; 0 sets none
abbrev pub taken_under : ℕ → ℕ → ℕ
taken_under limit size = if limit == 0 then size else min size limit

-- a write that takes bytes takes all that it may
abbrev pub TakesMost : ℕ → LinkPlan → Took → Type 0
TakesMost size plan (took.Some count) = count ≡ taken_under plan.most_written size
TakesMost size plan took.NotYet = Unit {0}
TakesMost size plan took.Failed = Unit {0}

-- whether a read failed
abbrev pub read_failed : Got → Bool
read_failed (got.Some count) = false
read_failed got.NotYet = false
read_failed got.End = false
read_failed got.Failed = true

-- whether a write failed
abbrev pub write_failed : Took → Bool
write_failed (took.Some count) = false
write_failed took.NotYet = false
write_failed took.Failed = true

-- whether a call for a link failed
abbrev pub next_failed : {L : Type 0} → Next L → Bool
next_failed (next.Link link) = false
next_failed next.NotYet = false
next_failed next.Ended = false
next_failed next.Failed = true

-- what contracts see of a gate in memory
abbrev pub gate_view : MemoryGate → GateView MemoryLink
gate_view gate = record {
  given = Some (gate.total - deque_len gate.clients);
  returned = if gate.lost then None else Some gate.returned.items;
  ended = gate.has_ended;
  faults = gate.faults;
}

-- the clients whose links a gate has yet to give
abbrev pub clients_of : MemoryGate → List Client
clients_of gate = gate.clients.items

-- which calls of a gate are not served
abbrev pub script_of : MemoryGate → Script
script_of gate = gate.plan

-- how many calls for a link a gate has counted
abbrev pub calls_of : MemoryGate → ℕ
calls_of gate = gate.calls

-- the keys of the links of a gate that are open and told of, in the order in which they came
abbrev pub open_keys : MemoryGate → List ℕ
open_keys gate = gate.keys.items

-- how many of these keys a gate has told since its last wait
abbrev pub told_of : MemoryGate → ℕ
told_of gate = gate.told

-- these keys, and after them one more, if there is one
abbrev pub with_key : Option ℕ → List ℕ → List ℕ
with_key None keys = keys
with_key (Some key) keys = keys ++ key ∷ []

-- these keys without one of them, if there is one
abbrev pub without_key : Option ℕ → List ℕ → List ℕ
without_key None keys = keys
without_key (Some key) keys = filter (λ other. not (other == key)) keys

-- the keys that are told once a gate was asked for a link under a key, or under none
abbrev pub keys_after : {L : Type 0} → Next L → Option ℕ → List ℕ → List ℕ
keys_after (next.Link link) key keys = with_key key keys
keys_after next.NotYet key keys = keys
keys_after next.Ended key keys = keys
keys_after next.Failed key keys = keys

-- the numbers of the writes that fail at a sink
abbrev pub fails_of : MemorySink → List ℕ
fails_of sink = sink.fails.items

-- how many writes a sink has counted
abbrev pub sink_writes_of : MemorySink → ℕ
sink_writes_of sink = sink.writes

-- the moments that a clock gives
abbrev pub moments_of : MemoryClock → List ℕ
moments_of clock = clock.script.items

-- how many readings a clock has counted
abbrev pub readings_of : MemoryClock → ℕ
readings_of clock = clock.made

-- the plan of a world's gate, where the gate has yet to be opened
abbrev pub gate_plan_of : MemoryWorld → Option GatePlan
gate_plan_of world = world.gate

-- the plans of a world's gates at a port, where these have yet to be opened
abbrev pub port_plans_of : MemoryWorld → List GatePlan
port_plans_of world = world.port_gates.items

-- the moments that a world's clocks give
abbrev pub world_moments_of : MemoryWorld → List ℕ
world_moments_of world = world.moments.items

-- the files of a world
abbrev pub files_of : MemoryWorld → List FilePlan
files_of world = world.files.items

-- the numbers of the disks that a world refuses
abbrev pub disk_fails_of : MemoryWorld → List ℕ
disk_fails_of world = world.disk_fails.items

-- the numbers of the writes that fail at the next sink of a world
abbrev pub sink_fails_of : MemoryWorld → List ℕ
sink_fails_of world = world.sink_fails.items

-- what contracts see of a desk in memory
abbrev pub desk_view : MemoryDesk → DeskView
desk_view desk = record {
  pass = desk.pass;
  mine = desk.records.items;
  gave_to = given_in desk.drains.items;
  answers = desk.answers.items;
  lock_full = desk.is_lock_full;
}

-- a desk of this pass that was asked for nothing
pub record IsNewDesk (number : ℕ) (desk : DeskView) : Type 0 where
  pub pass : desk.pass ≡ number
  pub none_made : desk.mine ≡ []
  pub none_given : (session : ℕ) → desk.gave_to session ≡ []
  pub no_answer : desk.answers ≡ []
  pub lock : desk.lock_full ≡ false

-- contracts see the same of two desks
pub record IsSameDesk (old new : DeskView) : Type 0 where
  pub pass : new.pass ≡ old.pass
  pub mine : new.mine ≡ old.mine
  pub given : StaysForAll old.gave_to new.gave_to
  pub answers : new.answers ≡ old.answers
  pub lock_full : new.lock_full ≡ old.lock_full

-- a deed was refused, and nothing else changed
pub record Refuses (old : DeskView) (deed : Deed) (fault : NotMade)
    (new : DeskView) : Type 0 where
  pub pass : new.pass ≡ old.pass
  pub mine : new.mine ≡ old.mine
  pub given : StaysForAll old.gave_to new.gave_to
  pub answers : new.answers ≡ old.answers ++ (deed, Err fault) ∷ []
  pub lock_full : new.lock_full ≡ (old.lock_full || says_lock_full fault)

-- what contracts see of a new link in memory whose client sends these bytes
abbrev pub new_link : List ℕ → LinkView
new_link input = record {
  host = codes "memory";
  taken = Some [];
  left = Some input;
  put = Some [];
  ended = false;
  faults = 0;
  reads = Some [];
}

-- A link that is seen so is that of the first of these clients, and nothing was done on it yet; the
-- other clients remain.
abbrev pub IsLinkOfFirst : LinkView → MemoryLink → List Client → List Client → Type 0
IsLinkOfFirst view link clients others = (client : Client) × (clients ≡ client ∷ others)
    × (view ≡ new_link client.input.items) × (plan_of link ≡ client.plan)
    × (place_of link ≡ 0) × (reads_of link ≡ 0) × (writes_of link ≡ 0)

-- if no link is given, the clients stay
abbrev pub StaysWithNoLink : {L : Type 0} → Next L → List Client → List Client → Type 0
StaysWithNoLink (next.Link link) old new = Unit {0}
StaysWithNoLink next.NotYet old new = new ≡ old
StaysWithNoLink next.Ended old new = new ≡ old
StaysWithNoLink next.Failed old new = new ≡ old
