-- What a server was heard to tell.
use Rattle.std.proofs.Common.{◌≡◌, ◌≢◌, ℕ, List, [], ◌∷◌, ◌++◌, Option, Some, None, IfSome, sym, ap, subst, ◌∙◌}
use Rattle.std.proofs.Common.{append_assoc, arith}
use Rattle.kom_types.specs.declared.replies.Reply.{Reply}
use Rattle.kom_types.specs.declared.replies.Reply.TheVariants as reply
use Rattle.kom_types.specs.declared.texts.TextStat.{TextStat}
use Rattle.kom_types.specs.Stream.{Line}
use Rattle.kom_framing.specs.declared.units.Unit.{Unit as StreamUnit}
use Rattle.kom_framing.specs.declared.units.Unit.TheVariants as unit
use Rattle.kom_records.specs.declared.replies.ResultKind.{ResultKind}
use Rattle.kom_records.specs.declared.replies.ResultKind.TheVariants as kind
use Rattle.kom_records.specs.Replies.{IsReplyLine}
use Rattle.kom_exchange.specs.declared.request.Request.{Request}
use Rattle.kom_exchange.specs.Asking.{Query, Asking, with_request}
use Rattle.kom_exchange.specs.Fair.{HasAsked, stat_request, body_request}
use Rattle.kom_exchange.specs.declared.told.Told.{Told}
use Rattle.kom_exchange.specs.Goes.{Hears}
use Rattle.kom_exchange.specs.Steps.{HasHeard, HasReplied, HasStat, HasAskedBoth, HasHeardBoth, HasTold}
use Rattle.kom_screen.specs.Screens.{Grows}
use Rattle.kom_exchange.specs.Hearing.{HasUnit, HasReply}
use Rattle.kom_exchange.proofs.Spelling.{if_map, if_more}

unit_more : (one : StreamUnit) (bytes piece : List ℕ) → HasUnit one bytes → HasUnit one (bytes ++ piece)
unit_more one bytes piece h = record {
  fed = h.fed;
  before = h.before;
  after = h.after;
  first = (
    h.first.0 ++ piece,
    sym (append_assoc h.fed h.first.0 piece) ∙ ap (λ (xs : List ℕ). xs ++ piece) h.first.1,
  );
  stands = h.stands;
}

reply_more : (which : ResultKind) (read : ℕ × Reply) (bytes piece : List ℕ) → HasReply which read bytes
    → HasReply which read (bytes ++ piece)
reply_more which read bytes piece h = record {
  line = h.line;
  spelled = h.spelled;
  heard = unit_more (unit.Line h.line) bytes piece h.heard;
}

-- what was told stays
pub reply_grows : (which : ResultKind) (read : ℕ × Reply) (old new : Option (List ℕ)) → Grows old new
    → IfSome old (HasReply which read) → IfSome new (HasReply which read)
reply_grows which read old new g h =
    if_more (HasReply which read) (HasReply which read) g.0 old new g.1 (λ bytes h. reply_more which read bytes g.0 h) h

-- a line was heard, and it is such a reply
pub has_reply : (which : ResultKind) (read : ℕ × Reply) (line : Line) (server : Asking)
    → HasHeard (unit.Line line) server → IsReplyLine which line.tokens read → HasReplied which read server
has_reply which read line server h spelled = record {
  tells = if_map (HasUnit (unit.Line line)) (HasReply which read) server.link.taken
      (λ bytes u. record { line = line; spelled = spelled; heard = u }) h.heard;
}

-- nothing was done after a unit was heard
pub heard_same : (one : StreamUnit) (a b : Asking) → HasHeard one a → b ≡ a → HasHeard one b
heard_same one a b h e = subst (λ (x : Asking). HasHeard one x) (sym e) h

-- a request, and a reply, behind its reference
abbrev asked_at : ℕ → Request → Query
asked_at reference request = (reference, request)

abbrev read_at : ℕ → Reply → ℕ × Reply
read_at reference body = (reference, body)

told_as : (which : ResultKind) (read other : ℕ × Reply) (taken : Option (List ℕ)) → read ≡ other
    → IfSome taken (HasReply which read) → IfSome taken (HasReply which other)
told_as which read other taken e h = subst (λ (r : ℕ × Reply). IfSome taken (HasReply which r)) e h

-- what is told of a text and its body were asked for
pub stat_plain : (request : Request) (text : ℕ) → request ≡ stat_request text → request.call ≢ 27
stat_plain request text e called =
    let same : ◌≡◌ {A = ℕ} 90 27 = sym (ap (λ (r : Request). r.call) e) ∙ called in omega arith

pub body_plain : (request : Request) (text : ℕ) → request ≡ body_request text → request.call ≢ 27
body_plain request text e called =
    let same : ◌≡◌ {A = ℕ} 25 27 = sym (ap (λ (r : Request). r.call) e) ∙ called in omega arith

pub asked_both : (text first second : ℕ) (stat body : Request) (old a b : Asking) → stat ≡ stat_request text
    → body ≡ body_request text → a ≡ with_request stat old → first ≡ old.next → b ≡ with_request body a
    → second ≡ a.next → HasAskedBoth text first second b
asked_both text first second stat body old a b es eb ea ef ebb eo =
    let asked : b.asked ≡ (old.asked ++ asked_at old.next stat ∷ []) ++ asked_at a.next body ∷ [] =
    ap (λ (x : Asking). x.asked) ebb
    ∙ ap (λ (xs : List Query). xs ++ asked_at a.next body ∷ []) (ap (λ (x : Asking). x.asked) ea) in
    let one : asked_at old.next stat ≡ asked_at first (stat_request text) =
    ap (asked_at old.next) es ∙ ap (λ (n : ℕ). asked_at n (stat_request text)) (sym ef) in
    let two : asked_at a.next body ≡ asked_at second (body_request text) =
    ap (asked_at a.next) eb ∙ ap (λ (n : ℕ). asked_at n (body_request text)) (sym eo) in
    record {
      asks_stat = subst (λ (x : Query). HasAsked x b.asked) one (
        old.asked,
        asked_at a.next body ∷ [],
        asked ∙ append_assoc old.asked (asked_at old.next stat ∷ []) (asked_at a.next body ∷ []),
      );
      asks_body = subst (λ (x : Query). HasAsked x b.asked) two (
        old.asked ++ asked_at old.next stat ∷ [],
        [],
        asked,
      );
    }

-- and told
pub heard_both : (first second : ℕ) (stat body : Reply) (a b : Asking)
    → HasReplied kind.TextStat (first, stat) a → Hears a b → HasReplied kind.Text (second, body) b
    → HasHeardBoth b first second stat body
heard_both first second stat body a b told h other = record {
  tells_stat = reply_grows kind.TextStat (first, stat) a.link.taken b.link.taken h.heard told.tells;
  tells_body = other.tells;
}

pub told_here : (text first second found other : ℕ) (stat body : Reply) (b c d : Asking)
    → HasAskedBoth text first second b → c.asked ≡ b.asked → Hears c d → HasHeardBoth d found other stat body
    → found ≡ first → other ≡ second → HasTold d stat body
told_here text first second found other stat body b c d asks sent h tells same also =
    let asked : d.asked ≡ b.asked = h.asked ∙ sent in
    record {
      is = record {
        text = text;
        first = first;
        second = second;
        asks_stat = subst (λ (xs : List Query). HasAsked (first, stat_request text) xs) (sym asked) asks.asks_stat;
        asks_body = subst (λ (xs : List Query). HasAsked (second, body_request text) xs) (sym asked) asks.asks_body;
        tells_stat = told_as kind.TextStat (found, stat) (first, stat) d.link.taken
            (ap (λ (n : ℕ). read_at n stat) same) tells.tells_stat;
        tells_body = told_as kind.Text (other, body) (second, body) d.link.taken
            (ap (λ (n : ℕ). read_at n body) also) tells.tells_body;
      };
    }

-- what was told of a text, by the replies
pub told_both : (server : Asking) (stat body : Reply) (found : Option Told) → HasTold server stat body
    → IfSome found (λ t. stat ≡ reply.TextStat t.stat) → IfSome found (λ t. body ≡ reply.Text t.body)
    → IfSome found (λ t. HasTold server (reply.TextStat t.stat) (reply.Text t.body))
told_both server stat body None told e f = tt
told_both server stat body (Some t) told e f =
    subst (λ (r : Reply). HasTold server (reply.TextStat t.stat) r) f
    (subst (λ (r : Reply). HasTold server r body) e told)

pub told_stat : (found : Option Told) (whole : Reply) (stat inner : TextStat) → IfSome found (λ t. t.stat ≡ inner)
    → inner ≡ stat → whole ≡ reply.TextStat stat → IfSome found (λ t. whole ≡ reply.TextStat t.stat)
told_stat None whole stat inner e same is = tt
told_stat (Some t) whole stat inner e same is = is ∙ ap reply.TextStat (sym (e ∙ same))

pub has_stat : (server : Asking) (read : ℕ × Reply) (found : Option TextStat) → HasReplied kind.TextStat read server
    → IfSome found (λ stat. read.1 ≡ reply.TextStat stat) → IfSome found (HasStat server)
has_stat server read None told e = tt
has_stat server read (Some stat) told e = record {
  reference = read.0;
  tells = subst (λ (r : Reply). IfSome server.link.taken (HasReply kind.TextStat (read.0, r))) e told.tells;
}
