-- What a client sends and shows, and how its talk ends.
use Rattle.std.specs.Prelude.{◌≡◌, ℕ, ◌+◌, ◌==◌, Bool, true, false, if◌then◌else◌, List, [], ◌∷◌}
use Rattle.std.specs.Prelude.{◌++◌, Option, Some, None, IfSome, codes}
use Rattle.kom_types.specs.declared.side.Side.TheVariants as side
use Rattle.kom_types.specs.Reading.{place_of}
use Rattle.kom_types.specs.Stream.{Line, Fault, stream_by}
use Rattle.kom_types.specs.spellings.Words.{hollerith}
use Rattle.kom_links.specs.Doors.{SinkView}
use Rattle.kom_links.specs.Outside.{LinkView, Rose, IsNothing}
use Rattle.kom_links.specs.Talk.{IsPrefix}
use Rattle.kom_client.specs.declared.talk_end.TalkEnd.{TalkEnd}
use Rattle.kom_client.specs.declared.talk_end.TalkEnd.TheVariants as end
use Rattle.kom_client.specs.Keys.{Request, key_lines, request_of, request_line, person_after}
use Rattle.kom_client.specs.Replies.{Good, Refusal, Message, Departs, reply_of, shown_good}
use Rattle.kom_client.specs.Replies.{shown_refusal, shown_message}

-- What a client sends, what it shows, and how its talk ends.
pub record Course : Type 0 where
  pub sent : List ℕ
  pub shown : List ℕ
  pub end : TalkEnd

abbrev pub ends : TalkEnd → Course
ends ending = record { sent = []; shown = []; end = ending }

-- these bytes are sent, and these shown, before the others
abbrev pub before : List ℕ → List ℕ → Course → Course
before sent shown course = record {
  sent = sent ++ course.sent;
  shown = shown ++ course.shown;
  end = course.end;
}

-- what a client is to remember between two requests: the reference of the next one, and the person
-- of the last login line
pub record Turn : Type 0 where
  pub reference : ℕ
  pub person : List ℕ

abbrev pub first_turn : Turn
first_turn = record { reference = 1; person = codes "0" }

-- references begin at 1 again after the last one
abbrev pub reference_after : ℕ → ℕ
reference_after reference = if reference == 4294967295 then 1 else reference + 1

abbrev pub turn_after : Request → Turn → Turn
turn_after request turn = record {
  reference = reference_after turn.reference;
  person = person_after request turn.person;
}

-- a line is awaited, and none comes: the server's stream has ended, or is at fault
abbrev pub end_without_line : Option Fault → TalkEnd
end_without_line None = end.ServerEnd
end_without_line (Some fault) = end.Broken (place_of fault)

-- What comes of awaiting a reply: what is shown till then, the lines after it, and the talk's end
-- if no reply comes.
pub record Awaited : Type 0 where
  pub shown : List ℕ
  pub left : List Line
  pub end : Option TalkEnd

-- the reply has the reference that is awaited, or the line departs
abbrev pub reply_or_break : Bool → List ℕ → Line → List Line → Awaited
reply_or_break true shown line lines = record { shown = shown; left = lines; end = None }
reply_or_break false shown line lines =
    record { shown = []; left = lines; end = Some (end.Broken line.end) }

abbrev pub shown_first : List ℕ → Awaited → Awaited
shown_first shown awaited = record awaited { shown = shown ++ awaited.shown }

-- the reply with this reference among a server's lines, after which its stream has this fault or
-- none
abbrev pub await : ℕ → List Line → Option Fault → Awaited
await reference [] fault =
    record { shown = []; left = []; end = Some (end_without_line fault) }
await reference (line ∷ lines) fault = elim (reply_of line.tokens) [
  | Good number tokens ↦ reply_or_break (number == reference) (shown_good tokens) line lines
  | Refusal number code status ↦
      reply_or_break (number == reference) (shown_refusal code status) line lines
  | Message digits tokens ↦
      shown_first (shown_message digits tokens) (await reference lines fault)
  | Departs ↦ reply_or_break false [] line lines
]

-- What the key lines come to, by the server's lines: each asks for something, and its reply is
-- awaited, or it shows a question mark.
abbrev pub answers : Turn → List (List ℕ) → List Line → Option Fault → Course
answers turn [] lines fault = ends end.End
answers turn (text ∷ texts) lines fault = elim (request_of text) [
  | None ↦ before [] (codes "?\n") (answers turn texts lines fault)
  | Some request ↦
      let awaited = await turn.reference lines fault in
      before (request_line turn.reference turn.person request) awaited.shown (elim awaited.end [
        | None ↦ answers (turn_after request turn) texts awaited.left fault
        | Some ending ↦ ends ending
      ])
]

-- the greeting of a user. (Protocol A, "Connecting to the LysKOM server".)
abbrev pub greeting_line : List ℕ → List ℕ
greeting_line user = 65 ∷ hollerith user ++ 10 ∷ []

-- what a client does once it was greeted, if it was
abbrev pub after_greeting : Option (List ℕ) → List ℕ → List Line → Option Fault → Course
after_greeting None keys lines fault = ends (end_without_line fault)
after_greeting (Some name) keys lines fault = answers first_turn (key_lines keys) lines fault

-- What a client of this user sends and shows, and how its talk ends, if these are all the bytes
-- that are typed, and these all that the server writes.
abbrev pub client : List ℕ → List ℕ → List ℕ → Course
client user keys bytes = let heard = stream_by side.Server bytes in
    before (greeting_line user) [] (after_greeting heard.greeting keys heard.lines heard.fault)

-- all of a course, with this end
pub record IsWhole (ending : TalkEnd) (course : Course) (sent shown : List ℕ) : Type 0 where
  pub all_sent : sent ≡ course.sent
  pub all_shown : shown ≡ course.shown
  pub ends_so : course.end ≡ ending

-- some of it
pub record IsPart (course : Course) (sent shown : List ℕ) : Type 0 where
  pub part_sent : IsPrefix sent course.sent
  pub part_shown : IsPrefix shown course.shown

-- A talk that so ended sent and showed the whole course if nothing failed, and else a part of it.
abbrev pub Agrees : TalkEnd → Course → List ℕ → List ℕ → Type 0
Agrees end.End course sent shown = IsWhole end.End course sent shown
Agrees end.ServerEnd course sent shown = IsWhole end.ServerEnd course sent shown
Agrees (end.Broken place) course sent shown = IsWhole (end.Broken place) course sent shown
Agrees end.KeysFault course sent shown = IsPart course sent shown
Agrees end.LinkFault course sent shown = IsPart course sent shown
Agrees end.SinkFault course sent shown = IsPart course sent shown
Agrees end.Memory course sent shown = IsPart course sent shown

-- these bytes were taken from a link, and these put to it, where it tells that
abbrev pub HasCarried : LinkView → List ℕ → List ℕ → Type 0
HasCarried link input output =
    IfSome link.taken (λ bytes. bytes ≡ input) × IfSome link.put (λ bytes. bytes ≡ output)

-- these bytes were put to a sink, where it tells that
abbrev pub Shows : SinkView → List ℕ → Type 0
Shows sink shown = IfSome sink.put (λ bytes. bytes ≡ shown)

-- the cause of each end, by what is seen of the keys, the server's link and the sink
abbrev pub HasCause : TalkEnd → LinkView → LinkView → LinkView → LinkView → SinkView → SinkView →
    Type 0
HasCause end.End keys keys' link link' sink sink' = keys'.ended ≡ true
HasCause end.ServerEnd keys keys' link link' sink sink' = link'.ended ≡ true
HasCause (end.Broken place) keys keys' link link' sink sink' = Unit {0}
HasCause end.KeysFault keys keys' link link' sink sink' = Rose keys.faults keys'.faults
HasCause end.LinkFault keys keys' link link' sink sink' = Rose link.faults link'.faults
HasCause end.SinkFault keys keys' link link' sink sink' = Rose sink.faults sink'.faults
HasCause end.Memory keys keys' link link' sink sink' = Unit {0}

-- a link of which nothing was taken and to which nothing was put, where it tells that
pub record IsUntouched (link : LinkView) : Type 0 where
  pub nothing_taken : IsNothing link.taken
  pub nothing_put : IsNothing link.put
  pub not_ended : link.ended ≡ false

-- Of a talk, what was sent and shown, and its end, are those of the course of what was typed and of
-- what the server wrote, as far as these bytes were taken.
pub record IsTalk (user : List ℕ) (ending : TalkEnd) (keys link : LinkView)
    (sink : SinkView) : Type 0 where
  pub typed : List ℕ
  pub heard : List ℕ
  pub sent : List ℕ
  pub shown : List ℕ
  pub keys_tell : HasCarried keys typed []
  pub link_tells : HasCarried link heard sent
  pub sink_tells : Shows sink shown
  pub agrees : Agrees ending (client user typed heard) sent shown
