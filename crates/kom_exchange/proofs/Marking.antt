-- What is kept while it is asked that texts count as read.
use Rattle.std.proofs.Common.{◌≡◌, ℕ, Bool, true, List, [], ◌∷◌, ◌++◌, Option, Some, IfSome, refl, sym, ap, subst, ◌∙◌}
use Rattle.std.proofs.Common.{append_assoc, append-nil}
use Rattle.std.specs.Prelude.{Contains}
use Rattle.kom_types.specs.declared.replies.Reply.TheVariants as reply
use Rattle.kom_types.specs.declared.texts.TextStat.{TextStat}
use Rattle.kom_links.specs.Outside.{LinkView}
use Rattle.kom_links.specs.Talk.{IsPrefix}
use Rattle.kom_reader.specs.declared.commands.Command.TheVariants as command
use Rattle.kom_reader.specs.declared.recipients.Part.{Part}
use Rattle.kom_reader.specs.declared.words.Word.TheVariants as word
use Rattle.kom_reader.specs.Commands.{command_of}
use Rattle.kom_reader.specs.Links.{parts_of}
use Rattle.kom_screen.specs.Screens.{Seen, Grows}
use Rattle.kom_exchange.specs.declared.told.Told.{Told}
use Rattle.kom_exchange.specs.Asking.{Query, Asking, HasSpelled, spelling, greeting}
use Rattle.kom_exchange.specs.Fair.{Moment, moment_of, Reason, WasShown, WasSkipped, IsOwn, MayMark}
use Rattle.kom_exchange.specs.Fair.{AreFairBehind, IsTold, IsShown, HasTyped, stat_request, body_request}
use Rattle.kom_exchange.specs.Fair.{HasLogin}
use Rattle.kom_exchange.specs.Goes.{Hears, Marks, AreMarks}
use Rattle.kom_exchange.specs.Keeping.{IsKept}
use Rattle.kom_exchange.specs.Steps.{HasStat, SaysSkip, MarksFor, IsMarked, IsLeft, MarksShown, IsMarkedShown}
use Rattle.kom_exchange.specs.Steps.{IsLeftUnshown}
use Rattle.kom_exchange.proofs.Keeping.{passes_none, login_more, asked_more, kept_heard, kept_server, fact_map}
use Rattle.kom_exchange.proofs.Keeping.{told_more}
use Rattle.kom_exchange.proofs.Going.{grows_same}
use Rattle.kom_exchange.proofs.Spelling.{if_map, spelling-append}

-- a reason stays one while more is asked
told_behind : (heard : Option (List ℕ)) (asked more : List Query) (stat : TextStat) (body : List ℕ)
    → IsTold heard asked (reply.TextStat stat) (reply.Text body)
    → IsTold heard (asked ++ more) (reply.TextStat stat) (reply.Text body)
told_behind heard asked more stat body t = record {
  text = t.text;
  first = t.first;
  second = t.second;
  asks_stat = asked_more (t.first, stat_request t.text) asked more t.asks_stat;
  asks_body = asked_more (t.second, body_request t.text) asked more t.asks_body;
  tells_stat = t.tells_stat;
  tells_body = t.tells_body;
}

reason_more : (moment : Moment) (asked more : List Query) (stat : TextStat) → Reason moment asked stat
    → Reason moment (asked ++ more) stat
reason_more moment asked more stat (WasShown charset body told shown) =
    WasShown charset body (told_behind moment.heard asked more stat body told) shown
reason_more moment asked more stat (WasSkipped reference told skipped) = WasSkipped reference told skipped
reason_more moment asked more stat (IsOwn reference told own) =
    IsOwn reference told (login_more stat.author asked more (asked ++ more) own refl)

prefix_more : (sent : List ℕ) (user : List ℕ) (asked more : List Query)
    → IsPrefix sent (greeting user ++ spelling asked) → IsPrefix sent (greeting user ++ spelling (asked ++ more))
prefix_more sent user asked more p = (
  p.0 ++ spelling more,
  sym (append_assoc sent p.0 (spelling more)) ∙ ap (λ (xs : List ℕ). xs ++ spelling more) p.1
      ∙ append_assoc (greeting user) (spelling asked) (spelling more)
      ∙ ap (λ (xs : List ℕ). greeting user ++ xs) (sym (spelling-append asked more)),
)

may_more : (now : Moment) (asked more : List Query) (part : Part) → MayMark now asked part
    → MayMark now (asked ++ more) part
may_more now asked more part m = record {
  moment = m.moment;
  passes = m.passes;
  user = m.user;
  unsent = if_map (λ sent. IsPrefix sent (greeting m.user ++ spelling asked))
      (λ sent. IsPrefix sent (greeting m.user ++ spelling (asked ++ more))) m.moment.sent
      (λ sent p. prefix_more sent m.user asked more p) m.unsent;
  stat = m.stat;
  stands = m.stands;
  reason = reason_more m.moment asked more m.stat m.reason;
}

-- marks are fair where each of the places may be marked
marks_fair : (now : Moment) (parts : List Part) (before more : List Query)
    → ((part : Part) → Contains parts part → MayMark now before part) → AreMarks parts more
    → AreFairBehind now before more
marks_fair now parts before [] may m = tt
marks_fair now parts before (one ∷ more) may m = (
  λ _. (m.0.0, m.0.2, may m.0.0 m.0.1),
  marks_fair now parts (before ++ one ∷ []) more
      (λ part among. may_more now before (one ∷ []) part (may part among)) m.1,
)

fair_marks : (now : Moment) (parts : List Part) (before asked more : List Query) → AreFairBehind now before asked
    → ((part : Part) → Contains parts part → MayMark now (before ++ asked) part) → AreMarks parts more
    → AreFairBehind now before (asked ++ more)
fair_marks now parts before [] more f may m =
    marks_fair now parts before more
    (λ part among. subst (λ (xs : List Query). MayMark now xs part) (append-nil before) (may part among)) m
fair_marks now parts before (one ∷ asked) more f may m = (
  f.0,
  fair_marks now parts (before ++ one ∷ []) asked more f.1
      (λ part among. subst (λ (xs : List Query). MayMark now xs part) (sym (append_assoc before (one ∷ []) asked))
      (may part among)) m,
)

-- places in which a text stands may be marked for a reason of this moment
may_now : (now : Moment) (server : Asking) (stat : TextStat) (parts : List Part) → parts ≡ parts_of stat.misc_infos
    → now.sent ≡ server.link.put → HasSpelled server → Reason now server.asked stat → (part : Part)
    → Contains parts part → MayMark now server.asked part
may_now now server stat parts e es s reason part among = record {
  moment = now;
  passes = passes_none now;
  user = s.user;
  unsent = subst (λ (o : Option (List ℕ)). IfSome o
      (λ sent. IsPrefix sent (greeting s.user ++ spelling server.asked))) (sym es) s.sent;
  stat = stat;
  stands = subst (λ (xs : List Part). Contains xs part) e among;
  reason = reason;
}

kept_by : (keys : LinkView) (s1 s2 : Asking) (screen : Seen) (line : Option (List ℕ)) (person : Option ℕ)
    (told : Option Told) (shown : Bool) (stat : TextStat) (parts : List Part)
    → IsKept keys s1 screen line person told shown → parts ≡ parts_of stat.misc_infos → HasSpelled s1
    → Reason (moment_of keys s1.link screen.sink) s1.asked stat → Marks parts s1 s2
    → IsKept keys s2 screen line person told shown
kept_by keys s1 s2 screen line person told shown stat parts k e s reason m =
    let now : Moment = moment_of keys s1.link screen.sink in
    let fair : AreFairBehind now [] (s1.asked ++ m.more) =
    fair_marks now parts [] s1.asked m.more k.fair (may_now now s1 stat parts e refl s reason) m.marks in
    let heard : Grows s1.link.taken s2.link.taken =
    grows_same s1.link.taken s2.link.taken (ap (λ (l : LinkView). l.taken) m.link) in
    record {
      fair = subst (λ (l : LinkView). AreFairBehind (moment_of keys l screen.sink) [] s2.asked) (sym m.link)
          (subst (λ (xs : List Query). AreFairBehind now [] xs) (sym m.asked) fair);
      typed = k.typed;
      login = fact_map (λ n. HasLogin n s1.asked) (λ n. HasLogin n s2.asked) person
          (λ n h. login_more n s1.asked m.more s2.asked h m.asked) k.login;
      text = fact_map (λ (t : Told). IsTold s1.link.taken s1.asked (reply.TextStat t.stat) (reply.Text t.body))
          (λ (t : Told). IsTold s2.link.taken s2.asked (reply.TextStat t.stat) (reply.Text t.body)) told
          (λ t h. told_more s1.link.taken s2.link.taken s1.asked m.more s2.asked t h heard m.asked) k.text;
      shown = k.shown;
    }

-- of a text that was shown
pub kept_marked : {keys : LinkView} {s1 s2 : Asking} {screen : Seen} {line : Option (List ℕ)} {person : Option ℕ}
    {told : Option Told} {shown : Bool} → IsKept keys s1 screen line person told shown
    → MarksShown told shown s1 s2 → IsKept keys s2 screen line person told shown
kept_marked {keys} {s1} {s2} {screen} {line} {person} {told} {shown} k (IsMarkedShown one is whole s m) =
    kept_by keys s1 s2 screen line person told shown one.stat (parts_of one.stat.misc_infos) k refl s
    (WasShown one.charset one.body
    (subst (λ (o : Option Told). IfSome o
    (λ (t : Told). IsTold s1.link.taken s1.asked (reply.TextStat t.stat) (reply.Text t.body))) is k.text)
    (subst (λ (o : Option Told). IfSome o (λ (t : Told). IsShown screen.sink.put t.charset t.body)) is
    (k.shown whole))) m
kept_marked {keys} {s1} {s2} {screen} {line} {person} {told} {shown} k (IsLeftUnshown e) =
    kept_server k e

-- of one that is skipped
pub kept_skipped : {keys : LinkView} {s1 s2 s3 : Asking} {screen : Seen} {line : Option (List ℕ)}
    {person : Option ℕ} {told : Option Told} {shown : Bool} {stat : TextStat} → IsKept keys s1 screen line person
    told shown
    → Hears s1 s2 → HasStat s2 stat → MarksFor (SaysSkip line) stat s2 s3
    → IsKept keys s3 screen line person told shown
kept_skipped {keys} {s1} {s2} {s3} {screen} {line} {person} {told} {shown} {stat} k h t (IsMarked r s m) =
    let here : IsKept keys s2 screen line person told shown = kept_heard k h in
    kept_by keys s2 s3 screen line person told shown stat (parts_of stat.misc_infos) here refl s
    (WasSkipped t.reference t.tells (
      r.typed,
      r.says,
      subst (λ (o : Option (List ℕ)). IfSome o (λ l. IfSome keys.taken (HasTyped l))) r.is_typed here.typed,
    )) m
kept_skipped {keys} {s1} {s2} {s3} {screen} {line} {person} {told} {shown} {stat} k h t (IsLeft e) =
    kept_server (kept_heard k h) e

-- of the person's own
pub kept_own : {keys : LinkView} {s1 s2 s3 : Asking} {screen : Seen} {line : Option (List ℕ)} {person : Option ℕ}
    {told : Option Told} {shown : Bool} {stat : TextStat} → IsKept keys s1 screen line person told shown
    → Hears s1 s2 → HasStat s2 stat → MarksFor (person ≡ Some stat.author) stat s2 s3
    → IsKept keys s3 screen line person told shown
kept_own {keys} {s1} {s2} {s3} {screen} {line} {person} {told} {shown} {stat} k h t (IsMarked wrote s m) =
    let here : IsKept keys s2 screen line person told shown = kept_heard k h in
    kept_by keys s2 s3 screen line person told shown stat (parts_of stat.misc_infos) here refl s
    (IsOwn t.reference t.tells
    (subst (λ (o : Option ℕ). IfSome o (λ n. HasLogin n s2.asked)) wrote here.login)) m
kept_own {keys} {s1} {s2} {s3} {screen} {line} {person} {told} {shown} {stat} k h t (IsLeft e) =
    kept_server (kept_heard k h) e

-- ---- why it is asked

pub marks_not : (reason : Type 0) (stat : TextStat) (a : Asking) → MarksFor reason stat a a
marks_not reason stat a = IsLeft refl

pub marks_skipped : (line : Option (List ℕ)) (typed : List ℕ) (stat : TextStat) (old new : Asking)
    → line ≡ Some typed → command_of typed ≡ command.Word word.Skip → HasSpelled old
    → Marks (parts_of stat.misc_infos) old new → MarksFor (SaysSkip line) stat old new
marks_skipped line typed stat old new is says s m = IsMarked (record { typed = typed; is_typed = is; says = says }) s m

pub marks_own : (person : Option ℕ) (n : ℕ) (stat : TextStat) (old new : Asking) → person ≡ Some n
    → stat.author ≡ n → HasSpelled old → Marks (parts_of stat.misc_infos) old new
    → MarksFor (person ≡ Some stat.author) stat old new
marks_own person n stat old new is wrote s m = IsMarked (is ∙ ap Some (sym wrote)) s m

pub marks_unshown : (told : Option Told) (shown : Bool) (a : Asking) → MarksShown told shown a a
marks_unshown told shown a = IsLeftUnshown refl

pub marks_shown : (told : Option Told) (shown : Bool) (one : Told) (old new : Asking) → told ≡ Some one
    → shown ≡ true → HasSpelled old → Marks (parts_of one.stat.misc_infos) old new → MarksShown told shown old new
marks_shown told shown one old new is whole s m = IsMarkedShown one is whole s m
