-- What is kept while more is typed, asked, heard and shown.
use Rattle.std.proofs.Common.{◌≡◌, ℕ, Bool, true, false, List, [], ◌∷◌, ◌++◌, Option, Some, None, IfSome, refl}
use Rattle.std.proofs.Common.{sym, ap, subst, ◌∙◌, append_assoc, append-nil}
use Rattle.kom_types.specs.declared.replies.Reply.TheVariants as reply
use Rattle.kom_letters.specs.declared.charsets.Charset.{Charset}
use Rattle.kom_links.specs.Doors.{SinkView}
use Rattle.kom_links.specs.Outside.{LinkView}
use Rattle.kom_reader.specs.declared.recipients.Part.{Part}
use Rattle.kom_records.specs.declared.replies.ResultKind.TheVariants as kind
use Rattle.kom_screen.specs.Screens.{Seen, Grows}
use Rattle.kom_exchange.specs.declared.told.Told.{Told}
use Rattle.kom_exchange.specs.Asking.{Query, Asking, HasSpelled, login}
use Rattle.kom_exchange.specs.Fair.{Moment, Passes, moment_of, Proceeds, HasAsked, IsTold, IsShown, HasTyped, HasLogin}
use Rattle.kom_exchange.specs.Fair.{stat_request, body_request}
use Rattle.kom_exchange.specs.Fair.{MayMark, AreFairBehind, MarkedWasShown}
use Rattle.kom_exchange.specs.Goes.{Goes, Hears, ArePlain}
use Rattle.kom_exchange.specs.Keeping.{IsKept}
use Rattle.kom_exchange.specs.Steps.{IsIn, HasTold}
use Rattle.kom_exchange.specs.Pages.{HasShown, HasPage, onto, page_of, behind_lines}
use Rattle.kom_exchange.proofs.Going.{grows_none, grows_same, grows_trans, goes_hears}
use Rattle.kom_exchange.proofs.Showing.{has_more}
use Rattle.kom_exchange.proofs.Spelling.{if_more}
use Rattle.kom_exchange.proofs.Telling.{reply_grows}
use Rattle.kom_exchange.proofs.Typed.{lines_more}

true_false : true ≡ false → ⊥
true_false e = cc

-- ---- moments

pub passes_trans : (a b c : Moment) → Passes a b → Passes b c → Passes a c
passes_trans a b c p q = record {
  typed = grows_trans a.typed b.typed c.typed p.typed q.typed;
  heard = grows_trans a.heard b.heard c.heard p.heard q.heard;
  sent = grows_trans a.sent b.sent c.sent p.sent q.sent;
  shown = grows_trans a.shown b.shown c.shown p.shown q.shown;
}

pub passes_none : (a : Moment) → Passes a a
passes_none a = record {
  typed = grows_none a.typed;
  heard = grows_none a.heard;
  sent = grows_none a.sent;
  shown = grows_none a.shown;
}

-- ---- what was fair stays so

may_later : (old new : Moment) (before : List Query) (part : Part) → Passes old new → MayMark old before part
    → MayMark new before part
may_later old new before part p m = record {
  moment = m.moment;
  passes = passes_trans m.moment old new m.passes p;
  user = m.user;
  unsent = m.unsent;
  stat = m.stat;
  stands = m.stands;
  reason = m.reason;
}

pub fair_later : (old new : Moment) (before asked : List Query) → Passes old new → AreFairBehind old before asked
    → AreFairBehind new before asked
fair_later old new before [] p f = tt
fair_later old new before (one ∷ asked) p f = (
  λ called. let m = f.0 called in (m.0, m.1, may_later old new before m.0 p m.2),
  fair_later old new (before ++ one ∷ []) asked p f.1,
)

plain_fair : (now : Moment) (before more : List Query) → ArePlain more → AreFairBehind now before more
plain_fair now before [] p = tt
plain_fair now before (one ∷ more) p =
    (λ called. absurd (p.0 called), plain_fair now (before ++ one ∷ []) more p.1)

pub fair_more : (now : Moment) (before asked more : List Query) → AreFairBehind now before asked → ArePlain more
    → AreFairBehind now before (asked ++ more)
fair_more now before [] more f p = plain_fair now before more p
fair_more now before (one ∷ asked) more f p = (f.0, fair_more now (before ++ one ∷ []) asked more f.1 p)

-- ---- what is held stays true

pub asked_more : (one : Query) (asked more : List Query) → HasAsked one asked → HasAsked one (asked ++ more)
asked_more one asked more h = (
  h.0,
  h.1 ++ more,
  ap (λ (xs : List Query). xs ++ more) h.2 ∙ append_assoc h.0 (one ∷ h.1) more,
)

asked_as : (one : Query) (asked more new : List Query) → HasAsked one asked → new ≡ asked ++ more → HasAsked one new
asked_as one asked more new h e = subst (λ (xs : List Query). HasAsked one xs) (sym e) (asked_more one asked more h)

pub login_more : (person : ℕ) (asked more new : List Query) → HasLogin person asked → new ≡ asked ++ more
    → HasLogin person new
login_more person asked more new h e = (h.0, h.1, asked_as (h.0, login person h.1) asked more new h.2 e)

pub told_more : (old new : Option (List ℕ)) (asked more after : List Query) (told : Told)
    → IsTold old asked (reply.TextStat told.stat) (reply.Text told.body) → Grows old new → after ≡ asked ++ more
    → IsTold new after (reply.TextStat told.stat) (reply.Text told.body)
told_more old new asked more after told t g e = record {
  text = t.text;
  first = t.first;
  second = t.second;
  asks_stat = asked_as (t.first, stat_request t.text) asked more after t.asks_stat e;
  asks_body = asked_as (t.second, body_request t.text) asked more after t.asks_body e;
  tells_stat = reply_grows kind.TextStat (t.first, reply.TextStat told.stat) old new g t.tells_stat;
  tells_body = reply_grows kind.Text (t.second, reply.Text told.body) old new g t.tells_body;
}

pub shown_more : (old new : Option (List ℕ)) (charset : Charset) (body : List ℕ) → IsShown old charset body
    → Grows old new → IsShown new charset body
shown_more old new charset body s g =
    let lines : List (List ℕ) = onto (page_of s.0 charset body) [] in
    (s.0, if_more (HasShown lines) (HasShown lines) g.0 old new g.1 (λ put h. has_more lines put g.0 h) s.1)

pub typed_more : (old new : Option (List ℕ)) (line : List ℕ) → IfSome old (HasTyped line) → Grows old new
    → IfSome new (HasTyped line)
typed_more old new line t g =
    if_more (HasTyped line) (HasTyped line) g.0 old new g.1 (λ put h. record {
      before = h.before;
      after = h.after ++ g.0;
      stands = ap (λ (xs : List ℕ). xs ++ g.0) h.stands
          ∙ lines_more h.before (line ++ 10 ∷ h.after) g.0
          ∙ ap (behind_lines h.before) (append_assoc line (10 ∷ h.after) g.0);
    }) t

-- a fact of what there may be
pub fact_map : {X : Type 0} (P Q : X → Type 0) (o : Option X) → ((x : X) → P x → Q x) → IfSome o P → IfSome o Q
fact_map {X} P Q None f h = tt
fact_map {X} P Q (Some x) f h = f x h

-- ---- all of it

pub kept_later : (k1 k2 : LinkView) (s1 s2 : Asking) (t1 t2 : Seen) (more : List Query) (line : Option (List ℕ))
    (person : Option ℕ) (told : Option Told) (shown : Bool) → IsKept k1 s1 t1 line person told shown
    → Passes (moment_of k1 s1.link t1.sink) (moment_of k2 s2.link t2.sink) → ArePlain more
    → s2.asked ≡ s1.asked ++ more → IsKept k2 s2 t2 line person told shown
kept_later k1 k2 s1 s2 t1 t2 more line person told shown k p plain e =
    let old : Moment = moment_of k1 s1.link t1.sink in
    let new : Moment = moment_of k2 s2.link t2.sink in
    record {
      fair = subst (λ (xs : List Query). AreFairBehind new [] xs) (sym e)
          (fair_more new [] s1.asked more (fair_later old new [] s1.asked p k.fair) plain);
      typed = fact_map (λ l. IfSome k1.taken (HasTyped l)) (λ l. IfSome k2.taken (HasTyped l)) line
          (λ l t. typed_more k1.taken k2.taken l t p.typed) k.typed;
      login = fact_map (λ n. HasLogin n s1.asked) (λ n. HasLogin n s2.asked) person
          (λ n h. login_more n s1.asked more s2.asked h e) k.login;
      text = fact_map (λ (t : Told). IsTold s1.link.taken s1.asked (reply.TextStat t.stat) (reply.Text t.body))
          (λ (t : Told). IsTold s2.link.taken s2.asked (reply.TextStat t.stat) (reply.Text t.body)) told
          (λ t h. told_more s1.link.taken s2.link.taken s1.asked more s2.asked t h p.heard e) k.text;
      shown = λ s. fact_map (λ (t : Told). IsShown t1.sink.put t.charset t.body)
          (λ (t : Told). IsShown t2.sink.put t.charset t.body) told
          (λ t h. shown_more t1.sink.put t2.sink.put t.charset t.body h p.shown) (k.shown s);
    }

pub kept_proceeded : {k1 k2 : LinkView} {s1 s2 : Asking} {t1 t2 : Seen} {line : Option (List ℕ)} {person : Option ℕ}
    {told : Option Told} {shown : Bool} → IsKept k1 s1 t1 line person told shown → Proceeds k1 s1 t1 k2 s2 t2
    → IsKept k2 s2 t2 line person told shown
kept_proceeded {k1} {k2} {s1} {s2} {t1} {t2} {line} {person} {told} {shown} k p =
    kept_later k1 k2 s1 s2 t1 t2 p.goes.more line person told shown k
    (record { typed = p.typed; heard = p.goes.heard; sent = p.goes.sent; shown = p.shown }) p.goes.plain p.goes.asked

pub kept_served : {keys : LinkView} {s1 s2 : Asking} {screen : Seen} {line : Option (List ℕ)} {person : Option ℕ}
    {told : Option Told} {shown : Bool} → IsKept keys s1 screen line person told shown → Goes s1 s2
    → IsKept keys s2 screen line person told shown
kept_served {keys} {s1} {s2} {screen} {line} {person} {told} {shown} k g =
    kept_later keys keys s1 s2 screen screen g.more line person told shown k
    (record { typed = grows_none keys.taken; heard = g.heard; sent = g.sent; shown = grows_none screen.sink.put })
    g.plain g.asked

pub kept_heard : {keys : LinkView} {s1 s2 : Asking} {screen : Seen} {line : Option (List ℕ)} {person : Option ℕ}
    {told : Option Told} {shown : Bool} → IsKept keys s1 screen line person told shown → Hears s1 s2
    → IsKept keys s2 screen line person told shown
kept_heard {keys} {s1} {s2} {screen} {line} {person} {told} {shown} k h =
    kept_served k (goes_hears s1 s2 h)

-- nothing of it was changed
pub kept_same : (k1 k2 : LinkView) (s1 s2 : Asking) (t1 t2 : Seen) (line : Option (List ℕ)) (person : Option ℕ)
    (told : Option Told) (shown : Bool) → IsKept k1 s1 t1 line person told shown → k2 ≡ k1 → s2 ≡ s1
    → t2.sink ≡ t1.sink → IsKept k2 s2 t2 line person told shown
kept_same k1 k2 s1 s2 t1 t2 line person told shown k ek es et =
    kept_later k1 k2 s1 s2 t1 t2 [] line person told shown k
    (record {
      typed = grows_same k1.taken k2.taken (ap (λ (l : LinkView). l.taken) ek);
      heard = grows_same s1.link.taken s2.link.taken (ap (λ (s : Asking). s.link.taken) es);
      sent = grows_same s1.link.put s2.link.put (ap (λ (s : Asking). s.link.put) es);
      shown = grows_same t1.sink.put t2.sink.put (ap (λ (s : SinkView). s.put) et);
    })
    tt (ap (λ (s : Asking). s.asked) es ∙ sym (append-nil s1.asked))

-- nothing was done yet
pub kept_new : (keys : LinkView) (server : Asking) (screen : Seen) (line : Option (List ℕ)) (person : Option ℕ)
    (told : Option Told) (shown : Bool) → server.asked ≡ [] → line ≡ None → person ≡ None → told ≡ None
    → IsKept keys server screen line person told shown
kept_new keys server screen line person told shown ea el ep et = record {
  fair = subst (λ (xs : List Query). AreFairBehind (moment_of keys server.link screen.sink) [] xs) (sym ea) tt;
  typed = subst (λ (o : Option (List ℕ)). IfSome o (λ l. IfSome keys.taken (HasTyped l))) (sym el) tt;
  login = subst (λ (o : Option ℕ). IfSome o (λ n. HasLogin n server.asked)) (sym ep) tt;
  text = subst (λ (o : Option Told). IfSome o
      (λ t. IsTold server.link.taken server.asked (reply.TextStat t.stat) (reply.Text t.body))) (sym et) tt;
  shown = λ _. subst (λ (o : Option Told). IfSome o (λ t. IsShown screen.sink.put t.charset t.body)) (sym et) tt;
}

pub kept_keys : {k1 k2 : LinkView} {server : Asking} {screen : Seen} {line : Option (List ℕ)} {person : Option ℕ}
    {told : Option Told} {shown : Bool} → IsKept k1 server screen line person told shown → k2 ≡ k1
    → IsKept k2 server screen line person told shown
kept_keys {k1} {k2} {server} {screen} {line} {person} {told} {shown} k e =
    subst (λ (x : LinkView). IsKept x server screen line person told shown) (sym e) k

pub kept_server : {keys : LinkView} {s1 s2 : Asking} {screen : Seen} {line : Option (List ℕ)} {person : Option ℕ}
    {told : Option Told} {shown : Bool} → IsKept keys s1 screen line person told shown → s2 ≡ s1
    → IsKept keys s2 screen line person told shown
kept_server {keys} {s1} {s2} {screen} {line} {person} {told} {shown} k e =
    subst (λ (x : Asking). IsKept keys x screen line person told shown) (sym e) k

-- a prompt was ended
kept_ended : {keys : LinkView} {server : Asking} {t1 t2 : Seen} {line : Option (List ℕ)} {person : Option ℕ}
    {told : Option Told} {shown : Bool} → IsKept keys server t1 line person told shown
    → t2 ≡ record t1 { is_open = false } → IsKept keys server t2 line person told shown
kept_ended {keys} {server} {t1} {t2} {line} {person} {told} {shown} k e =
    kept_same keys keys server server t1 t2 line person told shown k refl refl (ap (λ (s : Seen). s.sink) e)

-- a line was typed
pub kept_typed : {k1 k2 : LinkView} {server : Asking} {t1 t2 : Seen} {old : Option (List ℕ)} {line item : List ℕ}
    {person : Option ℕ} {told : Option Told} {shown : Bool} → IsKept k1 server t1 old person told shown → k2 ≡ k1
    → t2 ≡ record t1 { is_open = false } → line ≡ item → IfSome k2.taken (HasTyped item)
    → IsKept k2 server t2 (Some line) person told shown
kept_typed {k1} {k2} {server} {t1} {t2} {old} {line} {item} {person} {told} {shown} k ek et el typed =
    let kept : IsKept k2 server t2 old person told shown = kept_ended (kept_keys k ek) et in
    record {
      fair = kept.fair;
      typed = subst (λ (l : List ℕ). IfSome k2.taken (HasTyped l)) (sym el) typed;
      login = kept.login;
      text = kept.text;
      shown = kept.shown;
    }

-- it was asked that somebody logs in, or not, and the prompt was ended
pub kept_refused : {keys : LinkView} {s1 s2 : Asking} {t1 t2 : Seen} {line : Option (List ℕ)} {person : Option ℕ}
    {told : Option Told} {shown : Bool} → IsKept keys s1 t1 line person told shown
    → t2 ≡ record t1 { is_open = false } → Goes s1 s2 → IsKept keys s2 t2 line person told shown
kept_refused {keys} {s1} {s2} {t1} {t2} {line} {person} {told} {shown} k e g =
    kept_ended (kept_served k g) e

pub kept_entered : {keys : LinkView} {s1 s2 : Asking} {t1 t2 : Seen} {line : Option (List ℕ)} {old : Option ℕ}
    {person : ℕ} {entered : Bool} {told : Option Told} {shown : Bool} → IsKept keys s1 t1 line old told shown
    → t2 ≡ record t1 { is_open = false } → Goes s1 s2 → IsIn entered person s2 → entered ≡ true
    → IsKept keys s2 t2 line (Some person) told shown
kept_entered {keys} {s1} {s2} {t1} {t2} {line} {old} {person} {entered} {told} {shown} k e g h entry =
    let kept : IsKept keys s2 t2 line old told shown = kept_refused k e g in
    record {
      fair = kept.fair;
      typed = kept.typed;
      login = h.login entry;
      text = kept.text;
      shown = kept.shown;
    }

-- a text was asked for
pub kept_told : {keys : LinkView} {s1 s2 : Asking} {screen : Seen} {line : Option (List ℕ)} {person : Option ℕ}
    {old new : Option Told} {was now : Bool} → IsKept keys s1 screen line person old was → Goes s1 s2 → now ≡ false
    → IfSome new (λ t. HasTold s2 (reply.TextStat t.stat) (reply.Text t.body))
    → IsKept keys s2 screen line person new now
kept_told {keys} {s1} {s2} {screen} {line} {person} {old} {new} {was} {now} k g f t =
    let kept : IsKept keys s2 screen line person old was = kept_served k g in
    record {
      fair = kept.fair;
      typed = kept.typed;
      login = kept.login;
      text = fact_map (λ (x : Told). HasTold s2 (reply.TextStat x.stat) (reply.Text x.body))
          (λ (x : Told). IsTold s2.link.taken s2.asked (reply.TextStat x.stat) (reply.Text x.body)) new
          (λ x h. h.is) t;
      shown = λ s. absurd (true_false (sym s ∙ f));
    }

-- or none
pub kept_untold : {keys : LinkView} {s1 s2 : Asking} {screen : Seen} {line : Option (List ℕ)} {person : Option ℕ}
    {old : Option Told} {was now : Bool} → IsKept keys s1 screen line person old was → Goes s1 s2
    → IsKept keys s2 screen line person None now
kept_untold {keys} {s1} {s2} {screen} {line} {person} {old} {was} {now} k g =
    let kept : IsKept keys s2 screen line person old was = kept_served k g in
    record {
      fair = kept.fair;
      typed = kept.typed;
      login = kept.login;
      text = tt;
      shown = λ _. tt;
    }

page_is : (screen : Seen) (told : Option Told) → IfSome told (λ t. HasPage screen t.charset t.body)
    → IfSome told (λ t. IsShown screen.sink.put t.charset t.body)
page_is screen None page = tt
page_is screen (Some told) page = (screen.columns, page)

-- its page was shown
pub kept_shown : {k1 k2 : LinkView} {s1 s2 : Asking} {t1 t2 : Seen} {line : Option (List ℕ)} {person : Option ℕ}
    {told : Option Told} {was now : Bool} → IsKept k1 s1 t1 line person told was → Proceeds k1 s1 t1 k2 s2 t2
    → IfSome told (λ t. HasPage t2 t.charset t.body) → IsKept k2 s2 t2 line person told now
kept_shown {k1} {k2} {s1} {s2} {t1} {t2} {line} {person} {told} {was} {now} k p page =
    let kept : IsKept k2 s2 t2 line person told was = kept_proceeded k p in
    record {
      fair = kept.fair;
      typed = kept.typed;
      login = kept.login;
      text = kept.text;
      shown = λ _. page_is t2 told page;
    }

-- ---- what is left at the end

pub marked_was_shown : {keys other : LinkView} {server : Asking} {link : LinkView} {screen : Seen} {sink : SinkView}
    {line : Option (List ℕ)} {person : Option ℕ} {told : Option Told} {shown : Bool} → IsKept keys server screen
    line person told shown → HasSpelled server → other ≡ keys → link ≡ server.link
    → sink ≡ screen.sink → MarkedWasShown other link sink
marked_was_shown {keys} {other} {server} {link} {screen} {sink} {line} {person} {told} {shown} k s ek el et =
    subst (λ (x : LinkView). MarkedWasShown x link sink) (sym ek)
    (subst (λ (x : LinkView). MarkedWasShown keys x sink) (sym el)
    (subst (λ (x : SinkView). MarkedWasShown keys server.link x) (sym et)
    (record { user = s.user; asked = server.asked; sent = s.sent; fair = k.fair })))
