-- What a link is to the records that its bytes led to. (Protocol A, "Client-Server Protocol", and
-- this server's own rule on when replies are sent.)
use Rattle.std.specs.Prelude.{◌≡◌, ◌≢◌, ℕ, ◌+◌, ◌==◌, ◌⊎◌, Bool, true, false, IsTrue, nat_lt, List}
use Rattle.std.specs.Prelude.{[], ◌∷◌, ◌++◌, length, map, filter, flat_map, take, Option, Some}
use Rattle.std.specs.Prelude.{None, IsSome}
use Rattle.std.specs.List.{list_all}
use Rattle.kom_types.specs.declared.acts.Act.TheVariants as act
use Rattle.kom_types.specs.declared.acts.Record.{Record}
use Rattle.kom_types.specs.declared.items.Item.{Item}
use Rattle.kom_types.specs.declared.items.Item.TheVariants as item
use Rattle.kom_types.specs.Stream.{Line, stream_of}
use Rattle.kom_types.specs.Reading.{Request, reading_of, fault_of}
use Rattle.kom_types.specs.Printing.{print_of}
use Rattle.kom_links.specs.declared.served.SessionEnd.{SessionEnd}
use Rattle.kom_links.specs.declared.served.SessionEnd.TheVariants as end

-- What a session does among the records of its pass, each drain with what it gave.
pub data Step : Type 0 where
  Connects : List ℕ → List ℕ → Step
  Asks : Request → Step
  Breaks : Step
  Flushes : Step
  Drains : List Item → Step
  Closes : Step

-- the first of the lists of items, and the others
abbrev pub first_given : List (List Item) → List Item
first_given [] = []
first_given (items ∷ given) = items

abbrev pub other_given : List (List Item) → List (List Item)
other_given [] = []
other_given (items ∷ given) = given

-- a step of this session, and none of another's
abbrev pub own_step : Bool → Step → List Step → List Step
own_step true step steps = step ∷ steps
own_step false step steps = steps

-- The steps of a session in the records of one pass, whose flushes count too; `given` is what its
-- drains gave, a list for each.
abbrev pub steps_of : ℕ → List Record → List (List Item) → List Step
steps_of session [] given = []
steps_of session (made ∷ records) given = elim made.entry.act [
  | act.Connect user host ↦
      own_step (made.session == session) (Connects user host) (steps_of session records given)
  | act.Call caller reference call ↦
      own_step (made.session == session) (Asks (record { reference = reference; call = call }))
      (steps_of session records given)
  | act.Broken caller ↦ own_step (made.session == session) Breaks (steps_of session records given)
  | act.Drain caller ↦ elim (made.session == session) [
    | true ↦ Drains (first_given given) ∷ steps_of session records (other_given given)
    | false ↦ steps_of session records given
  ]
  | act.Flush ↦ Flushes ∷ steps_of session records given
  | act.Close caller ↦ own_step (made.session == session) Closes (steps_of session records given)
]

-- the records of a session; number 0 is no session
abbrev pub records_of : ℕ → List Record → List Record
records_of session records =
    elim (session == 0) [ true ↦ [] | false ↦ filter (λ made. made.session == session) records ]

-- how many drains there are, and which calls
abbrev pub drains_in : List Step → ℕ
drains_in [] = 0
drains_in (Drains items ∷ steps) = 1 + drains_in steps
drains_in (Connects user host ∷ steps) = drains_in steps
drains_in (Asks request ∷ steps) = drains_in steps
drains_in (Breaks ∷ steps) = drains_in steps
drains_in (Flushes ∷ steps) = drains_in steps
drains_in (Closes ∷ steps) = drains_in steps

abbrev pub requests_in : List Step → List Request
requests_in [] = []
requests_in (Asks request ∷ steps) = request ∷ requests_in steps
requests_in (Connects user host ∷ steps) = requests_in steps
requests_in (Breaks ∷ steps) = requests_in steps
requests_in (Flushes ∷ steps) = requests_in steps
requests_in (Drains items ∷ steps) = requests_in steps
requests_in (Closes ∷ steps) = requests_in steps

-- how often a session's stream was said to be at fault
abbrev pub breaks_in : List Step → ℕ
breaks_in [] = 0
breaks_in (Breaks ∷ steps) = 1 + breaks_in steps
breaks_in (Connects user host ∷ steps) = breaks_in steps
breaks_in (Asks request ∷ steps) = breaks_in steps
breaks_in (Flushes ∷ steps) = breaks_in steps
breaks_in (Drains items ∷ steps) = breaks_in steps
breaks_in (Closes ∷ steps) = breaks_in steps

-- it begins with the Connect of the greeting's user at this host
abbrev pub Begins : List ℕ → Option (List ℕ) → List Record → Type 0
Begins host greeting [] = Unit {0}
Begins host greeting (made ∷ records) =
    (user : List ℕ) × (greeting ≡ Some user) × (made.entry.act ≡ act.Connect user host)

-- the session's last record is its Close
abbrev pub EndsClosed : List Record → Type 0
EndsClosed records =
    (before : List Record) × (last : Record) × (closed : ℕ) × (records ≡ before ++ last ∷ [])
    × (last.entry.act ≡ act.Close closed)

-- the ends at which a link may have been served without a Connect though its greeting had come
abbrev pub IsCutShort : SessionEnd → Type 0
IsCutShort end.Stopped = Unit {0}
IsCutShort (end.Full number) = Unit {0}
IsCutShort end.LinkFault = Unit {0}
IsCutShort end.Memory = Unit {0}
IsCutShort end.End = ⊥
IsCutShort (end.Broken place) = ⊥
IsCutShort end.Overrun = ⊥
IsCutShort end.Dropped = ⊥

-- how many lines end before a place
abbrev pub lines_before : ℕ → List Line → ℕ
lines_before place lines = length (filter (λ line. nat_lt line.end place) lines)

-- the items of all drains, printed one after the other
abbrev pub print_of_drains : List (List Item) → List ℕ
print_of_drains given = flat_map (flat_map print_of) given

abbrev pub IsPrefix : List ℕ → List ℕ → Type 0
IsPrefix prefix whole = (more : List ℕ) × (prefix ++ more ≡ whole)

-- a flush, and after it a drain that gave nothing
abbrev pub Settles : List Step → Type 0
Settles steps =
    (before between rest : List Step) × (steps ≡ before ++ Flushes ∷ between ++ Drains [] ∷ rest)

-- neither a Connect nor a call
abbrev pub is_quiet : Step → Bool
is_quiet (Connects user host) = false
is_quiet (Asks request) = false
is_quiet Breaks = true
is_quiet Flushes = true
is_quiet (Drains items) = true
is_quiet Closes = true

-- The last drain gave nothing and comes after a flush that comes after the session's Connect and
-- its last call.
abbrev pub IsDrained : List Step → Type 0
IsDrained steps =
    (before between rest : List Step) × (steps ≡ before ++ Flushes ∷ between ++ Drains [] ∷ rest)
    × IsTrue (list_all is_quiet between) × IsTrue (list_all is_quiet rest) × (drains_in rest ≡ 0)

-- One Broken stands after the last call, and after it a flush and then a drain that gave nothing.
abbrev pub IsBroken : List Step → Type 0
IsBroken steps = (before rest : List Step) × (steps ≡ before ++ Breaks ∷ rest)
    × (breaks_in before ≡ 0) × (breaks_in rest ≡ 0) × (requests_in rest ≡ []) × Settles rest

-- A Broken comes at most once, after all calls, and only if the stream is at fault and all its
-- lines before the fault were called.
abbrev pub MayBreak : List ℕ → List Step → Type 0
MayBreak input steps = (before rest : List Step) → steps ≡ before ++ Breaks ∷ rest →
    (breaks_in before ≡ 0) × (breaks_in rest ≡ 0) × (requests_in rest ≡ [])
    × (place : ℕ) × (fault_of input ≡ Some place)
    × (length (requests_in steps) ≡ lines_before place (stream_of input).lines)

-- Between each call and the fourth call after it there is a flush, and then a drain that gave
-- nothing.
abbrev pub IsSpaced : List Step → Type 0
IsSpaced steps = (before between rest : List Step) (first fourth : Request) →
    steps ≡ before ++ Asks first ∷ between ++ Asks fourth ∷ rest →
    length (requests_in between) ≡ 3 → Settles between

-- What was written: a prefix of what the drains gave, printed; without a Connect nothing, or a
-- prefix of the line that says that the stream is at fault, where it is so within the greeting.
abbrev pub WasWritten : List ℕ → List ℕ → List Record → List (List Item) → Type 0
WasWritten input output (made ∷ records) given = IsPrefix output (print_of_drains given)
WasWritten input output [] given =
    (output ≡ [])
    ⊎ (((stream_of input).greeting ≡ None) × IsSome (fault_of input)
    × IsPrefix output (print_of item.Fault))

-- At End the link has ended, its stream has no fault, all its lines were called, and all that the
-- drains gave was written.
pub record AtEnd (input output : List ℕ) (ended : Bool) (records : List Record) (steps : List Step)
    (given : List (List Item)) : Type 0 where
  pub has_ended : ended ≡ true
  pub no_fault : fault_of input ≡ None
  pub all_lines : length (requests_in steps) ≡ length (stream_of input).lines
  pub all_written : output ≡ print_of_drains given
  pub drained : records ≢ [] → IsDrained steps

-- At Broken the stream is at fault at that place, all lines before it were called, and all was
-- written.
pub record AtBroken (place : ℕ) (input output : List ℕ) (records : List Record) (steps : List Step)
    (given : List (List Item)) : Type 0 where
  pub fault : fault_of input ≡ Some place
  pub all_lines : length (requests_in steps) ≡ lines_before place (stream_of input).lines
  pub greeting_line : records ≡ [] → output ≡ print_of item.Fault
  pub all_written : records ≢ [] → output ≡ print_of_drains given
  pub broken : records ≢ [] → IsBroken steps

-- what each end says beside
abbrev pub AtItsEnd : SessionEnd → List ℕ → List ℕ → Bool → List Record → List Step →
    List (List Item) → Type 0
AtItsEnd end.End input output ended records steps given =
    AtEnd input output ended records steps given
AtItsEnd (end.Broken place) input output ended records steps given =
    AtBroken place input output records steps given
AtItsEnd end.Dropped input output ended records steps given = output ≡ print_of_drains given
AtItsEnd end.Overrun input output ended records steps given = output ≡ print_of_drains given
AtItsEnd end.Stopped input output ended records steps given = output ≡ print_of_drains given
AtItsEnd (end.Full number) input output ended records steps given = output ≡ print_of_drains given
AtItsEnd end.LinkFault input output ended records steps given = Unit {0}
AtItsEnd end.Memory input output ended records steps given = Unit {0}

-- A link at this host, of which `input` was taken and to which `output` was put, is served by the
-- records of one pass as this session, whose drains gave `given`, a list for each, and so ends.
pub record IsTalk (host input output : List ℕ) (ended : Bool) (pass : List Record) (session : ℕ)
    (given : List (List Item)) (end : SessionEnd) (full : Bool) : Type 0 where
  pub begins : Begins host (stream_of input).greeting (records_of session pass)
  pub silent : records_of session pass ≡ [] → ((stream_of input).greeting ≡ None) ⊎ IsCutShort end
  pub drains : drains_in (steps_of session pass given) ≡ length given
  pub calls : let requests = requests_in (steps_of session pass given) in
      map Some requests
      ≡ map (λ line. reading_of line.tokens) (take (length requests) (stream_of input).lines)
  pub breaks : MayBreak input (steps_of session pass given)
  pub written : WasWritten input output (records_of session pass) given
  pub at_end : AtItsEnd end input output ended (records_of session pass)
      (steps_of session pass given) given
  pub closed : full ≡ false → (records_of session pass ≡ []) ⊎ EndsClosed (records_of session pass)
  pub spaced : IsSpaced (steps_of session pass given)

-- the first list is chosen from the second, in its order, no place twice
abbrev pub IsChosen : List ℕ → List ℕ → Type 0
IsChosen [] readings = Unit {0}
IsChosen (moment ∷ moments) [] = ⊥
IsChosen (moment ∷ moments) (reading ∷ readings) =
    ((moment ≡ reading) × IsChosen moments readings) ⊎ IsChosen (moment ∷ moments) readings

-- Where it is told which moments a clock gave, those of these records are, in order, readings that
-- it gave between the two, no reading used twice.
abbrev pub AreTimed : Option (List ℕ) → Option (List ℕ) → List Record → Type 0
AreTimed before None records = Unit {0}
AreTimed before (Some after) records =
    (earlier readings : List ℕ) × (before ≡ Some earlier) × (after ≡ earlier ++ readings)
    × IsChosen (map (λ made. made.entry.moment) records) readings
