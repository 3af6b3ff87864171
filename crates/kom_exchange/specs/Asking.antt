-- What is asked of a server, and what its link took of that.
use Rattle.std.specs.Prelude.{◌≡◌, ℕ, ◌+◌, ◌==◌, Bool, true, false, if◌then◌else◌, List, []}
use Rattle.std.specs.Prelude.{◌∷◌, ◌++◌, Result, Ok, Err, codes, map, IfSome}
use Rattle.std.specs.Fmt.{decimal}
use Rattle.kom_types.specs.Printing.{line_of}
use Rattle.kom_types.specs.spellings.Words.{Words, hollerith}
use Rattle.kom_framing.specs.Writing.{Written}
use Rattle.kom_links.specs.Outside.{LinkView, with_bytes}
use Rattle.kom_links.specs.Talk.{IsPrefix}
use Rattle.kom_exchange.specs.declared.request.Argument.{Argument}
use Rattle.kom_exchange.specs.declared.request.Argument.TheVariants as argument
use Rattle.kom_exchange.specs.declared.request.Request.{Request}
use Rattle.kom_exchange.specs.declared.visit_end.VisitEnd.{VisitEnd}

-- a query: a request behind its reference
abbrev pub Query : Type 0
Query = ℕ × Request

abbrev pub word_of : Argument → List ℕ
word_of (argument.Number value) = decimal value
word_of (argument.Text bytes) = hollerith bytes
word_of argument.Open = 123 ∷ []
word_of argument.Close = 125 ∷ []
word_of argument.Flags = codes "00000000"

abbrev pub words_of : Query → Words
words_of asked = decimal asked.0 ∷ decimal asked.1.call ∷ map word_of asked.1.arguments

-- requests as a client writes them, a line for each
abbrev pub spelling : List Query → List ℕ
spelling [] = []
spelling (one ∷ asked) = line_of (words_of one) ++ spelling asked

-- the greeting of a user. (Protocol A, "Connecting to the LysKOM server".)
abbrev pub greeting : List ℕ → List ℕ
greeting user = 65 ∷ hollerith user ++ 10 ∷ []

-- references begin at 1 again after the last one
abbrev pub reference_after : ℕ → ℕ
reference_after reference = if reference == 4294967295 then 1 else reference + 1

-- What contracts see of requests: the link; what was asked, in order; the bytes of it that wait to
-- be sent; the reference of the next request; and whether a request could not be asked or sent.
pub record Asking : Type 0 where
  pub link : LinkView
  pub asked : List Query
  pub waiting : List ℕ
  pub next : ℕ
  pub has_failed : Bool

-- a request more waits to be sent
abbrev pub with_request : Request → Asking → Asking
with_request request asking = record {
  link = asking.link;
  asked = asking.asked ++ (asking.next, request) ∷ [];
  waiting = asking.waiting ++ line_of (words_of (asking.next, request));
  next = reference_after asking.next;
  has_failed = asking.has_failed;
}

-- What a link took, where it tells that, is a beginning of a greeting and of what was asked. What
-- waits is the rest of it, as long as nothing failed.
pub record IsSpelled (link : LinkView) (asked : List Query) (written : Written)
    (has_failed : Bool) : Type 0 where
  pub user : List ℕ
  pub begun : IfSome link.put (λ put. IsPrefix put (greeting user ++ spelling asked))
  pub joined : has_failed ≡ false → written.joined ≡ true
  pub whole : has_failed ≡ false
      → IfSome link.put (λ put. put ++ written.bytes ≡ greeting user ++ spelling asked)

-- what the link took, where it tells that
pub record HasSpelled (asking : Asking) : Type 0 where
  pub user : List ℕ
  pub sent : IfSome asking.link.put (λ put. IsPrefix put (greeting user ++ spelling asking.asked))

-- Bytes were put to a link, and nothing was taken from it.
pub record Puts (old : LinkView) (part : List ℕ) (new : LinkView) : Type 0 where
  pub put : new.put ≡ with_bytes part old.put
  pub taken : new.taken ≡ old.taken

-- the first of some bytes were put to a link
abbrev pub PutsPart : LinkView → List ℕ → LinkView → Type 0
PutsPart old bytes new = (part : List ℕ) × IsPrefix part bytes × Puts old part new

-- these bytes were put to a link, or some of the first of them before it failed
abbrev pub Sends : Result (Unit {0}) VisitEnd → LinkView → List ℕ → LinkView → Type 0
Sends (Ok done) old bytes new = Puts old bytes new
Sends (Err end) old bytes new = PutsPart old bytes new

-- call 62: a person logs in with a password, visibly. (Protocol A, "login".)
abbrev pub login : ℕ → List ℕ → Request
login person password = record {
  call = 62;
  arguments = argument.Number person ∷ argument.Text password ∷ argument.Number 0 ∷ [];
}

-- Behind what waited, a login was sent.
pub record HasLoggedIn (person : ℕ) (password : List ℕ) (old new : Asking) : Type 0 where
  pub sent : Puts old.link
      (old.waiting ++ line_of (words_of (old.next, login person password))) new.link
  pub asked : new.asked ≡ old.asked ++ (old.next, login person password) ∷ []
  pub waiting : new.waiting ≡ []
  pub next : new.next ≡ reference_after old.next

-- A login with a password was asked for; or it cannot be a password, and nothing was done; or
-- something failed, and the link took some of the first of these bytes.
abbrev pub LogsIn : Result Bool VisitEnd → ℕ → List ℕ → Asking → Asking → Type 0
LogsIn (Ok true) person password old new = HasLoggedIn person password old new
LogsIn (Ok false) person password old new = new ≡ old
LogsIn (Err end) person password old new = PutsPart old.link
    (old.waiting ++ line_of (words_of (old.next, login person password))) new.link
