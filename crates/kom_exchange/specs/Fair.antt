-- Why a text may count as read.
use Rattle.std.specs.Prelude.{◌≡◌, ℕ, List, [], ◌∷◌, ◌++◌, Contains, Option, IfSome}
use Rattle.kom_types.specs.declared.replies.Reply.{Reply}
use Rattle.kom_types.specs.declared.replies.Reply.TheVariants as reply
use Rattle.kom_types.specs.declared.texts.TextStat.{TextStat}
use Rattle.kom_letters.specs.declared.charsets.Charset.{Charset}
use Rattle.kom_links.specs.Doors.{SinkView}
use Rattle.kom_links.specs.Outside.{LinkView}
use Rattle.kom_links.specs.Talk.{IsPrefix}
use Rattle.kom_reader.specs.declared.commands.Command.TheVariants as command
use Rattle.kom_reader.specs.declared.recipients.Part.{Part}
use Rattle.kom_reader.specs.declared.words.Word.TheVariants as word
use Rattle.kom_reader.specs.Commands.{command_of}
use Rattle.kom_reader.specs.Links.{parts_of}
use Rattle.kom_records.specs.declared.replies.ResultKind.TheVariants as kind
use Rattle.kom_exchange.specs.declared.request.Argument.TheVariants as argument
use Rattle.kom_exchange.specs.declared.request.Request.{Request}
use Rattle.kom_screen.specs.Screens.{Seen, Grows}
use Rattle.kom_exchange.specs.Asking.{Query, Asking, spelling, greeting, login}
use Rattle.kom_exchange.specs.Goes.{Goes, mark}
use Rattle.kom_exchange.specs.Hearing.{HasReply}
use Rattle.kom_exchange.specs.Pages.{HasShown, onto, page_of, behind_lines}

-- What had been typed, heard, sent and shown at a moment, each where it is told.
pub record Moment : Type 0 where
  pub typed : Option (List ℕ)
  pub heard : Option (List ℕ)
  pub sent : Option (List ℕ)
  pub shown : Option (List ℕ)

-- a moment, and a later one
pub record Passes (old new : Moment) : Type 0 where
  pub typed : Grows old.typed new.typed
  pub heard : Grows old.heard new.heard
  pub sent : Grows old.sent new.sent
  pub shown : Grows old.shown new.shown

abbrev pub moment_of : LinkView → LinkView → SinkView → Moment
moment_of keys link sink = record {
  typed = keys.taken;
  heard = link.taken;
  sent = link.put;
  shown = sink.put;
}

-- Keys, a server and a screen go on: what was typed, heard, sent and shown may be more, and no text
-- was to count as read. The screen is as wide as it was.
pub record Proceeds (keys : LinkView) (server : Asking) (screen : Seen) (keys' : LinkView)
    (server' : Asking) (screen' : Seen) : Type 0 where
  pub typed : Grows keys.taken keys'.taken
  pub goes : Goes server server'
  pub shown : Grows screen.sink.put screen'.sink.put
  pub columns : screen'.columns ≡ screen.columns

-- this was asked, among others
abbrev pub HasAsked : Query → List Query → Type 0
HasAsked one asked = (before after : List Query) × (asked ≡ before ++ one ∷ after)

-- call 90: what is told of a text. (Protocol A, "get-text-stat".)
abbrev pub stat_request : ℕ → Request
stat_request text = record { call = 90; arguments = argument.Number text ∷ [] }

-- call 25: a text's body, whole. (Protocol A, "get-text".)
abbrev pub body_request : ℕ → Request
body_request text = record {
  call = 25;
  arguments = argument.Number text ∷ argument.Number 0 ∷ argument.Number 4294967295 ∷ [];
}

-- The server was asked for what is told of a text and for its body, and these are its replies.
pub record IsTold (heard : Option (List ℕ)) (asked : List Query) (stat body : Reply)
    : Type 0 where
  pub text : ℕ
  pub first : ℕ
  pub second : ℕ
  pub asks_stat : HasAsked (first, stat_request text) asked
  pub asks_body : HasAsked (second, body_request text) asked
  pub tells_stat : IfSome heard (HasReply kind.TextStat (first, stat))
  pub tells_body : IfSome heard (HasReply kind.Text (second, body))

-- a screen of so many columns took its page
abbrev pub IsShown : Option (List ℕ) → Charset → List ℕ → Type 0
IsShown shown charset body = (columns : ℕ)
    × IfSome shown (HasShown (onto (page_of columns charset body) []))

-- A line that was typed: it stands behind others, and a line feed behind it.
pub record HasTyped (line typed : List ℕ) : Type 0 where
  pub before : List (List ℕ)
  pub after : List ℕ
  pub stands : typed ≡ behind_lines before (line ++ 10 ∷ after)

-- a line was typed that says that texts are skipped
abbrev pub HasSkipped : Option (List ℕ) → Type 0
HasSkipped typed = (line : List ℕ) × (command_of line ≡ command.Word word.Skip)
    × IfSome typed (HasTyped line)

-- this person logged in
abbrev pub HasLogin : ℕ → List Query → Type 0
HasLogin person asked = (reference : ℕ) × (password : List ℕ)
    × HasAsked (reference, login person password) asked

-- A text counts as read that the server told: its page was shown; or it is skipped; or it is of the
-- person that logged in.
pub data Reason (moment : Moment) (asked : List Query) (stat : TextStat) : Type 0 where
  WasShown : (charset : Charset) (body : List ℕ)
      → IsTold moment.heard asked (reply.TextStat stat) (reply.Text body)
      → IsShown moment.shown charset body → Reason moment asked stat
  WasSkipped : (reference : ℕ)
      → IfSome moment.heard (HasReply kind.TextStat (reference, reply.TextStat stat))
      → HasSkipped moment.typed → Reason moment asked stat
  IsOwn : (reference : ℕ)
      → IfSome moment.heard (HasReply kind.TextStat (reference, reply.TextStat stat))
      → HasLogin stat.author asked → Reason moment asked stat

-- Behind what was asked before, the text in this place may be marked: at a moment at which this was
-- not sent yet there was a reason.
pub record MayMark (now : Moment) (before : List Query) (part : Part) : Type 0 where
  pub moment : Moment
  pub passes : Passes moment now
  pub user : List ℕ
  pub unsent : IfSome moment.sent (λ sent. IsPrefix sent (greeting user ++ spelling before))
  pub stat : TextStat
  pub stands : Contains (parts_of stat.misc_infos) part
  pub reason : Reason moment before stat

-- the same of a request, if it is call 27
abbrev pub IsFair : Moment → List Query → Request → Type 0
IsFair now before request = request.call ≡ 27
    → ((part : Part) × (request ≡ mark part) × MayMark now before part)

-- the same of all requests behind others
abbrev pub AreFairBehind : Moment → List Query → List Query → Type 0
AreFairBehind now before [] = Unit {0}
AreFairBehind now before (one ∷ asked) =
    IsFair now before one.1 × AreFairBehind now (before ++ one ∷ []) asked

-- Of what was typed, heard, sent and shown: the server's link took a beginning of a greeting and of
-- requests, of which each call 27 was fair.
pub record MarkedWasShown (keys link : LinkView) (sink : SinkView) : Type 0 where
  pub user : List ℕ
  pub asked : List Query
  pub sent : IfSome link.put (λ sent. IsPrefix sent (greeting user ++ spelling asked))
  pub fair : AreFairBehind (moment_of keys link sink) [] asked
