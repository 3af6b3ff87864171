-- What a turn leaves of a conversation.
use Rattle.std.proofs.Common.{ℕ, List, Option, None, refl}
use Rattle.kom_links.specs.DeskCalls.{DeskView}
use Rattle.kom_links.specs.Outside.{LinkView, IsFresh}
use Rattle.kom_hub.specs.Passing.{IsTimed}
use Rattle.kom_session.specs.Ends.{IsUntouched}
use Rattle.kom_session.specs.Kept.{IsKept, Goes, CanGo}
use Rattle.kom_session.specs.Known.{Known, Seen, known_by, sight}
use Rattle.kom_session.proofs.Passing.{kept_alike}
use Rattle.kom_talk.specs.declared.conversation.Conversation.{Conversation}
use Rattle.kom_talk.specs.Conversations.{IsKeptUp, at}

-- what is kept asks for no reading of a clock
pub any_time : (start : Seen) (known : Known) (desk : DeskView) (link : LinkView) (gave gave' : Option (List ℕ))
    → IsKept start known (sight desk link gave) → IsKept start known (sight desk link gave')
any_time start known desk link gave gave' kept =
    kept_alike start known (sight desk link gave) desk gave' refl (λ number. refl) refl refl kept

-- a conversation that is kept up may take a turn
pub may_turn : (talk : Conversation) (desk : DeskView) (link : LinkView) (gave : Option (List ℕ))
    → IsKeptUp talk desk link → (start : Seen) × IsKept start (known_by talk.machine) (sight desk link gave)
may_turn talk desk link gave kept =
    (kept.start, any_time kept.start (known_by talk.machine) desk link None gave kept.kept)

pub can_go : (talk : Conversation) (desk : DeskView) (link : LinkView) (gave : Option (List ℕ))
    → IsKeptUp talk desk link → CanGo (known_by talk.machine) desk gave
can_go talk desk link gave kept =
    (kept.start, link, any_time kept.start (known_by talk.machine) desk link None gave kept.kept)

-- it is kept up by what a turn leaves
pub kept_further : (old new : Conversation) (desk desk' : DeskView) (link link' : LinkView)
    (gave gave' : Option (List ℕ)) → Goes (at old desk link gave) (at new desk' link' gave')
    → IsKeptUp old desk link → IsKeptUp new desk' link'
kept_further old new desk desk' link link' gave gave' goes kept = record {
  start = kept.start;
  blank = kept.blank;
  fresh = kept.fresh;
  kept = any_time kept.start (known_by new.machine) desk' link' gave' None
      (goes.kept kept.start (any_time kept.start (known_by old.machine) desk link None gave kept.kept));
}

-- and the records that were added have readings of the clock
pub timed_by : (old new : Conversation) (desk desk' : DeskView) (link link' : LinkView)
    (gave gave' : Option (List ℕ)) → Goes (at old desk link gave) (at new desk' link' gave')
    → IsTimed desk gave desk' gave'
timed_by old new desk desk' link link' gave gave' goes = (goes.added, goes.mine, goes.timed)

pub untouched : (link : LinkView) → IsFresh link → IsUntouched link
untouched link fresh = record {
  nothing_taken = fresh.nothing_taken;
  nothing_put = fresh.nothing_put;
  not_ended = fresh.not_ended;
  no_read = fresh.no_read;
}
