-- What is known of a talk while it goes on, and what its steps do.
use Rattle.std.specs.Prelude.{◌≡◌, ℕ, ◌≤◌, ◌⊎◌, Bool, true, false, List, [], ◌∷◌, ◌++◌, length, map}
use Rattle.std.specs.Prelude.{Option, Some, None, option_map, Result, Ok, Err}
use Rattle.kom_types.specs.declared.side.Side.TheVariants as side
use Rattle.kom_types.specs.Reading.{place_of}
use Rattle.kom_types.specs.Stream.{Line, Fault, stream_by}
use Rattle.kom_framing.specs.declared.units.Unit.{Unit as StreamUnit}
use Rattle.kom_framing.specs.declared.units.Unit.TheVariants as unit
use Rattle.kom_framing.specs.Splitting.{Splitting, IsAtBy, units_of}
use Rattle.kom_links.specs.Doors.{SinkView}
use Rattle.kom_links.specs.Outside.{LinkView, Rose, with_bytes}
use Rattle.kom_links.specs.Talk.{IsPrefix}
use Rattle.kom_client.specs.declared.talk_end.TalkEnd.{TalkEnd}
use Rattle.kom_client.specs.declared.talk_end.TalkEnd.TheVariants as end
use Rattle.kom_client.specs.Keys.{Request, request_line, lines_after, key_lines}
use Rattle.kom_client.specs.Keys.{longest_key_line}
use Rattle.kom_client.specs.Client.{Course, Turn, HasCarried, Shows, Agrees, ends, before, await}
use Rattle.kom_client.specs.Client.{answers}
use Rattle.kom_client.specs.Client.{shown_first, greeting_line, client}

-- These bytes of a server's stream were fed to this splitter and these units taken, and this is the
-- place of the stream's fault, if it was met.
pub record IsHearing (splitting : Splitting) (fault : Option ℕ) (fed : List ℕ)
    (taken : List StreamUnit) : Type 0 where
  pub at : IsAtBy side.Server splitting fed taken
  pub known : fault ≡ option_map place_of splitting.fault

-- what is heard of the server, and what is seen of its link and of the sink, at a moment
pub record World : Type 0 where
  pub splitting : Splitting
  pub fault : Option ℕ
  pub link : LinkView
  pub sink : SinkView

-- these bytes were read, and nothing else was done on the link
pub record Listens (old : LinkView) (piece : List ℕ) (new : LinkView) : Type 0 where
  pub taken : new.taken ≡ with_bytes piece old.taken
  pub put : new.put ≡ old.put
  pub faults : old.faults ≤ new.faults

-- why no unit came, if these more stand in the stream, which has this fault or none
abbrev pub IsUnheard : TalkEnd → List StreamUnit → Option Fault → LinkView → LinkView → Type 0
IsUnheard end.ServerEnd more fault old new = (more ≡ []) × (fault ≡ None) × (new.ended ≡ true)
IsUnheard (end.Broken place) more fault old new =
    (more ≡ []) × (option_map place_of fault ≡ Some place)
IsUnheard end.LinkFault more fault old new = Rose old.faults new.faults
IsUnheard end.Memory more fault old new = Unit {0}
IsUnheard end.End more fault old new = ⊥
IsUnheard end.KeysFault more fault old new = ⊥
IsUnheard end.SinkFault more fault old new = ⊥

-- No unit came after these.
pub record HearsNone (ending : TalkEnd) (fed : List ℕ) (taken : List StreamUnit)
    (old new : LinkView) : Type 0 where
  pub piece : List ℕ
  pub more : List StreamUnit
  pub listens : Listens old piece new
  pub units : units_of (stream_by side.Server (fed ++ piece)) ≡ taken ++ more
  pub why : IsUnheard ending more (stream_by side.Server (fed ++ piece)).fault old new

-- these bytes were fed to a splitter, or memory ran out
abbrev pub Feeds : Result (Unit {0}) TalkEnd → Splitting → Option ℕ → List ℕ → Splitting →
    Option ℕ → Type 0
Feeds (Ok done) old fault piece new fault' = (fed : List ℕ) (taken : List StreamUnit)
    → IsHearing old fault fed taken → IsHearing new fault' (fed ++ piece) taken
Feeds (Err ending) old fault piece new fault' = ending ≡ end.Memory

-- what a server wrote was read once, or no unit will come
abbrev pub HearsMore : Result (Unit {0}) TalkEnd → Splitting → Option ℕ → LinkView → Splitting →
    Option ℕ → LinkView → Type 0
HearsMore (Ok done) splitting fault old splitting' fault' new =
    (fed : List ℕ) (taken : List StreamUnit) → IsHearing splitting fault fed taken
    → (piece : List ℕ) × Listens old piece new
    × IsHearing splitting' fault' (fed ++ piece) taken
HearsMore (Err ending) splitting fault old splitting' fault' new =
    (fed : List ℕ) (taken : List StreamUnit) → IsHearing splitting fault fed taken
    → splitting.held ≡ [] → HearsNone ending fed taken old new

-- the next unit was taken, or none will come
abbrev pub HearsUnit : Result StreamUnit TalkEnd → Splitting → Option ℕ → LinkView → Splitting →
    Option ℕ → LinkView → Type 0
HearsUnit (Ok next) splitting fault old splitting' fault' new =
    (fed : List ℕ) (taken : List StreamUnit) → IsHearing splitting fault fed taken
    → (piece : List ℕ) × Listens old piece new
    × IsHearing splitting' fault' (fed ++ piece) (taken ++ next ∷ [])
HearsUnit (Err ending) splitting fault old splitting' fault' new =
    (fed : List ℕ) (taken : List StreamUnit) → IsHearing splitting fault fed taken
    → HearsNone ending fed taken old new

-- these bytes were put to a link, or some of the first of them before it failed
pub record Puts (old : LinkView) (part : List ℕ) (new : LinkView) : Type 0 where
  pub put : new.put ≡ with_bytes part old.put
  pub taken : new.taken ≡ old.taken
  pub faults : old.faults ≤ new.faults

abbrev pub Sends : Result (Unit {0}) TalkEnd → LinkView → List ℕ → LinkView → Type 0
Sends (Ok done) old bytes new = Puts old bytes new
Sends (Err ending) old bytes new = (ending ≡ end.LinkFault) × Rose old.faults new.faults
    × (part : List ℕ) × IsPrefix part bytes × Puts old part new

-- The counts of faults of the server's link and of the sink as a talk began.
pub record Counts : Type 0 where
  pub link : ℕ
  pub sink : ℕ

-- What came to pass in a talk: what the server wrote, what was sent and shown, and the server's
-- greeting and the lines that were taken.
pub record Past : Type 0 where
  pub fed : List ℕ
  pub sent : List ℕ
  pub shown : List ℕ
  pub name : List ℕ
  pub done : List Line

-- This came to pass till now.
pub record Stands (start : Counts) (past : Past) (at : World) : Type 0 where
  pub link_tells : HasCarried at.link past.fed past.sent
  pub sink_tells : Shows at.sink past.shown
  pub hears : IsHearing at.splitting at.fault past.fed
      (unit.Hello past.name ∷ map unit.Line past.done)
  pub link_faults : start.link ≤ at.link.faults
  pub sink_faults : start.sink ≤ at.sink.faults

-- What is to come, by the server's lines that are left and the fault of its stream.
abbrev pub Rest : Type 0
Rest = List Line → Option Fault → Course

-- What was to come after the one is what came till the other, and then what is to come after it.
pub record Leads (past : Past) (rest : Rest) (later : Past) (next : Rest) : Type 0 where
  pub name : later.name ≡ past.name
  pub more : List Line
  pub done : later.done ≡ past.done ++ more
  pub course : (left : List Line) (fault : Option Fault)
      → before past.sent past.shown (rest (more ++ left) fault)
      ≡ before later.sent later.shown (next left fault)

-- The talk is over: of what was to come after this, as far as the server's bytes were taken, all
-- came to pass, or a part if something failed.
pub record Over (past : Past) (rest : Rest) (ending : TalkEnd) (at : World) : Type 0 where
  pub heard : List ℕ
  pub sent : List ℕ
  pub shown : List ℕ
  pub left : List Line
  pub link_tells : HasCarried at.link heard sent
  pub sink_tells : Shows at.sink shown
  pub name : (stream_by side.Server heard).greeting ≡ Some past.name
  pub lines : (stream_by side.Server heard).lines ≡ past.done ++ left
  pub agrees : Agrees ending
      (before past.sent past.shown (rest left (stream_by side.Server heard).fault)) sent shown

-- the cause of an end that is of the server's side
abbrev pub IsCaused : TalkEnd → Counts → World → Type 0
IsCaused end.End start at = ⊥
IsCaused end.ServerEnd start at = at.link.ended ≡ true
IsCaused (end.Broken place) start at = Unit {0}
IsCaused end.KeysFault start at = ⊥
IsCaused end.LinkFault start at = Rose start.link at.link.faults
IsCaused end.SinkFault start at = Rose start.sink at.sink.faults
IsCaused end.Memory start at = Unit {0}

-- A step after which what was to come is what then is to come; X is what neither depends on.
pub record Passes {X : Type 0} (rest next : X → Rest) (old new : World) : Type 0 where
  pub passes : (start : Counts) (past : Past) → Stands start past old
      → (later : Past) × Stands start later new × ((x : X) → Leads past (rest x) later (next x))

-- A step with which the talk is over.
pub record Stops {X : Type 0} (rest : X → Rest) (ending : TalkEnd) (old new : World)
    : Type 0 where
  pub cause : (start : Counts) (past : Past) → Stands start past old → IsCaused ending start new
  pub over : (start : Counts) (past : Past) → Stands start past old
      → (x : X) → Over past (rest x) ending new

abbrev pub Does : {X Y : Type 0} → Result Y TalkEnd → (X → Rest) → (X → Rest) → World → World →
    Type 0
Does (Ok done) rest next old new = Passes rest next old new
Does (Err ending) rest next old new = Stops rest ending old new

-- these bytes are sent, and these shown, and then comes what is to come
abbrev pub say : List ℕ → List ℕ → Rest → Rest
say sent shown next left fault = before sent shown (next left fault)

-- the reply is awaited that has this reference, and then comes what is to come
abbrev pub await_reply : ℕ → Rest → Rest
await_reply reference next left fault = let awaited = await reference left fault in
    before [] awaited.shown (elim awaited.end [
      | None ↦ next awaited.left fault
      | Some ending ↦ ends ending
    ])

-- a line is taken from those that are left
abbrev pub with_line : Line → Rest → Rest
with_line line rest left fault = rest (line ∷ left) fault

-- a request is sent and its reply awaited, and then comes what is to come
abbrev pub ask_then : Turn → Request → Rest → Rest
ask_then turn request next =
    say (request_line turn.reference turn.person request) [] (await_reply turn.reference next)

-- a line was taken, or none will come while a reply is awaited
abbrev pub HearsLine : Result Line TalkEnd → World → World → Type 0
HearsLine (Ok line) old new = Passes (λ (rest : Rest). rest) (with_line line) old new
HearsLine (Err ending) old new = (reference : ℕ) → Stops (await_reply reference) ending old new

-- what a line is while a reply is awaited, with what is to be shown: the reply, a message, or none
abbrev pub Spells : Result Bool TalkEnd → ℕ → Line → List ℕ → Type 0
Spells (Ok true) reference line shown = (left : List Line) (fault : Option Fault)
    → await reference (line ∷ left) fault ≡ record { shown = shown; left = left; end = None }
Spells (Ok false) reference line shown = (left : List Line) (fault : Option Fault)
    → await reference (line ∷ left) fault ≡ shown_first shown (await reference left fault)
Spells (Err end.Memory) reference line shown = Unit {0}
Spells (Err (end.Broken place)) reference line shown = (left : List Line) (fault : Option Fault)
    → await reference (line ∷ left) fault
    ≡ record { shown = []; left = left; end = Some (end.Broken place) }
Spells (Err end.End) reference line shown = ⊥
Spells (Err end.ServerEnd) reference line shown = ⊥
Spells (Err end.KeysFault) reference line shown = ⊥
Spells (Err end.LinkFault) reference line shown = ⊥
Spells (Err end.SinkFault) reference line shown = ⊥

-- a line was taken while a reply is awaited: it is the reply, or a message, or the talk is over
abbrev pub TakesReply : Result Bool TalkEnd → ℕ → Line → World → World → Type 0
TakesReply (Ok true) reference line old new =
    Passes (λ (next : Rest). with_line line (await_reply reference next))
    (λ (next : Rest). next) old
    new
TakesReply (Ok false) reference line old new =
    Passes (λ (next : Rest). with_line line (await_reply reference next))
    (await_reply reference) old new
TakesReply (Err ending) reference line old new =
    Stops (λ (next : Rest). with_line line (await_reply reference next)) ending old new

-- what is kept of a key line that has begun: its bytes, or too many
abbrev pub Holds : List ℕ → List ℕ → Type 0
Holds held text =
    (held ≡ text) ⊎ ((longest_key_line ≤ length held) × (longest_key_line ≤ length text))

-- a talk with the key line that has begun
pub record Typing : Type 0 where
  pub turn : Turn
  pub held : List ℕ
  pub world : World

-- What more was typed is done with, as far as its lines have ended.
abbrev pub Types : Result (Unit {0}) TalkEnd → List ℕ → Typing → Typing → Type 0
Types (Ok done) bytes old new =
    (text : List ℕ) → Holds old.held text → (text' : List ℕ) × Holds new.held text'
    × Passes (λ (more : List ℕ). answers old.turn (lines_after text (bytes ++ more)))
    (λ (more : List ℕ). answers new.turn (lines_after text' more)) old.world new.world
Types (Err ending) bytes old new =
    (text : List ℕ) → Holds old.held text
    → Stops (λ (more : List ℕ). answers old.turn (lines_after text (bytes ++ more))) ending
    old.world new.world

-- A server was greeted and has answered, and nothing else was done; or the talk is over.
abbrev pub Greets : Result (Unit {0}) TalkEnd → List ℕ → Counts → World → Type 0
Greets (Ok done) user start new = (past : Past) × (past.sent ≡ greeting_line user)
    × (past.shown ≡ []) × (past.done ≡ []) × Stands start past new
Greets (Err ending) user start new = (heard sent : List ℕ) × HasCarried new.link heard sent
    × Shows new.sink [] × IsCaused ending start new
    × ((keys : List ℕ) → Agrees ending (client user keys heard) sent [])

-- the cause of each end of a talk, whose keys had so many faults as it began
abbrev pub IsCausedBy : TalkEnd → ℕ → Counts → LinkView → World → Type 0
IsCausedBy end.End faults start keys at = keys.ended ≡ true
IsCausedBy end.ServerEnd faults start keys at = IsCaused end.ServerEnd start at
IsCausedBy (end.Broken place) faults start keys at = IsCaused (end.Broken place) start at
IsCausedBy end.KeysFault faults start keys at = Rose faults keys.faults
IsCausedBy end.LinkFault faults start keys at = IsCaused end.LinkFault start at
IsCausedBy end.SinkFault faults start keys at = IsCaused end.SinkFault start at
IsCausedBy end.Memory faults start keys at = Unit {0}

-- What was typed is done with, and the talk is over.
abbrev pub Finishes : TalkEnd → LinkView → Typing → LinkView → World → Type 0
Finishes ending keys old keys' new = (start : Counts) (past : Past) → Stands start past old.world
    → (typed : List ℕ) × HasCarried keys' typed [] × IsCausedBy ending keys.faults start keys' new
    × Over past (answers old.turn (key_lines typed)) ending new
