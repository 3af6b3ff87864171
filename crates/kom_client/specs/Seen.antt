-- What a caller sees of requests, numbers and replies, and what a writer has written.
use Rattle.std.specs.Prelude.{List, [], ◌∷◌}
use Rattle.kom_types.specs.Token.{Token}
use Rattle.kom_types.specs.spellings.Words.{Words}
use Rattle.kom_framing.specs.Writing.{Written, put_word}
use Rattle.kom_client.specs.declared.keys.Numbered.{Numbered as SeenNumbered}
use Rattle.kom_client.specs.declared.keys.Request.{Request as SeenRequest}
use Rattle.kom_client.specs.declared.keys.Request.TheVariants as seen
use Rattle.kom_client.specs.declared.replies.Reply.{Reply as SeenReply}
use Rattle.kom_client.specs.declared.replies.Reply.TheVariants as reply_as
use Rattle.kom_client.specs.Keys.{Request, Login, Unread, Read, Write, Comment, Mark, Numbered}
use Rattle.kom_client.specs.Replies.{Reply, Good, Refusal, Message, Departs}

-- the request that a caller sees
abbrev pub request_seen : SeenRequest → Request
request_seen (seen.Login person password) = Login person.now password.now
request_seen seen.Unread = Unread
request_seen (seen.Read text) = Read text.now
request_seen (seen.Write conference body) = Write conference.now body.now
request_seen (seen.Comment conference text body) = Comment conference.now text.now body.now
request_seen (seen.Mark conference local) = Mark conference.now local.now

-- the same of a number
abbrev pub numbered_seen : SeenNumbered → Numbered
numbered_seen numbered = record { digits = numbered.digits.now; tail = numbered.tail.now }

-- what a caller sees of a line whose tokens after the first are these
abbrev pub reply_seen : SeenReply → List Token → Reply
reply_seen (reply_as.Good reference) tokens = Good reference tokens
reply_seen (reply_as.Refusal reference code status) tokens = Refusal reference code.now status.now
reply_seen (reply_as.Message digits) tokens = Message digits.now tokens
reply_seen reply_as.Departs tokens = Departs

-- what a writer has written with these words more
abbrev pub with_words : Words → Written → Written
with_words [] written = written
with_words (word ∷ words) written = with_words words (put_word word written)
