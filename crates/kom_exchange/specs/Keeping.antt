-- What is kept of what went to and fro.
use Rattle.std.specs.Prelude.{◌≡◌, ℕ, Bool, true, List, [], Option, IfSome}
use Rattle.kom_types.specs.declared.replies.Reply.TheVariants as reply
use Rattle.kom_links.specs.Outside.{LinkView}
use Rattle.kom_screen.specs.Screens.{Seen}
use Rattle.kom_exchange.specs.declared.told.Told.{Told}
use Rattle.kom_exchange.specs.Asking.{Asking}
use Rattle.kom_exchange.specs.Fair.{moment_of, AreFairBehind, IsTold, IsShown, HasTyped, HasLogin}

-- All that was asked so far was fair; and the line that was typed last, who logged in, and the text
-- that the server told last are what they are said to be.
pub record IsKept (keys : LinkView) (server : Asking) (screen : Seen) (line : Option (List ℕ))
    (person : Option ℕ) (told : Option Told) (is_shown : Bool) : Type 0 where
  pub fair : AreFairBehind (moment_of keys server.link screen.sink) [] server.asked
  pub typed : IfSome line (λ line. IfSome keys.taken (HasTyped line))
  pub login : IfSome person (λ person. HasLogin person server.asked)
  pub text : IfSome told (λ told.
      IsTold server.link.taken server.asked (reply.TextStat told.stat) (reply.Text told.body))
  pub shown : is_shown ≡ true
      → IfSome told (λ told. IsShown screen.sink.put told.charset told.body)
