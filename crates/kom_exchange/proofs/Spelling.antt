-- What a link took of requests, and what waits.
use Rattle.std.proofs.Common.{◌≡◌, ℕ, Bool, true, false, List, [], ◌∷◌, ◌++◌, Option, Some, None, IfSome, Err}
use Rattle.std.proofs.Common.{refl, sym, ap, subst, ◌∙◌, append_assoc, append-nil}
use Rattle.kom_types.specs.Printing.{line_of}
use Rattle.kom_framing.specs.Writing.{Written}
use Rattle.kom_links.specs.declared.link.Got.{Got}
use Rattle.kom_links.specs.Outside.{LinkView, Reads, IsNothing, with_bytes}
use Rattle.kom_links.specs.Talk.{IsPrefix}
use Rattle.kom_exchange.specs.declared.visit_end.VisitEnd.{VisitEnd}
use Rattle.kom_exchange.specs.Asking.{Query, IsSpelled, Puts, PutsPart, Sends, spelling, words_of, greeting}
use Rattle.kom_exchange.proofs.Links.{puts_none}

true_false : true ≡ false → ⊥
true_false e = cc

-- what holds of what is told, with more of it, or otherwise
pub if_more : (P Q : List ℕ → Type 0) (bytes : List ℕ) (o n : Option (List ℕ)) → n ≡ with_bytes bytes o
    → ((put : List ℕ) → P put → Q (put ++ bytes)) → IfSome o P → IfSome n Q
if_more P Q bytes None n e f h = subst (λ (o : Option (List ℕ)). IfSome o Q) (sym e) tt
if_more P Q bytes (Some put) n e f h = subst (λ (o : Option (List ℕ)). IfSome o Q) (sym e) (f put h)

pub if_map : (P Q : List ℕ → Type 0) (o : Option (List ℕ)) → ((put : List ℕ) → P put → Q put) → IfSome o P
    → IfSome o Q
if_map P Q None f h = tt
if_map P Q (Some put) f h = f put h

-- a request more
spelled_snoc : (asked : List Query) (one : Query)
    → spelling (asked ++ one ∷ []) ≡ spelling asked ++ line_of (words_of one)
spelled_snoc [] one = append-nil (line_of (words_of one))
spelled_snoc (first ∷ asked) one =
    ap (λ (bytes : List ℕ). line_of (words_of first) ++ bytes) (spelled_snoc asked one)
    ∙ sym (append_assoc (line_of (words_of first)) (spelling asked) (line_of (words_of one)))

pub spelling-append : (first second : List Query) → spelling (first ++ second) ≡ spelling first ++ spelling second
spelling-append [] second = refl
spelling-append (one ∷ first) second =
    ap (λ (bytes : List ℕ). line_of (words_of one) ++ bytes) (spelling-append first second)
    ∙ sym (append_assoc (line_of (words_of one)) (spelling first) (spelling second))

grown_whole : (user : List ℕ) (asked : List Query) (one : Query)
    → greeting user ++ spelling (asked ++ one ∷ []) ≡ (greeting user ++ spelling asked) ++ line_of (words_of one)
grown_whole user asked one =
    ap (λ (bytes : List ℕ). greeting user ++ bytes) (spelled_snoc asked one)
    ∙ sym (append_assoc (greeting user) (spelling asked) (line_of (words_of one)))

pub spelled_new : (link : LinkView) (asked : List Query) (writer : Written) (failed : Bool) (user : List ℕ)
    → IsNothing link.put → asked ≡ [] → writer ≡ record { bytes = greeting user; joined = true }
    → IsSpelled link asked writer failed
spelled_new link asked writer failed user none ea ew =
    let whole : List ℕ = greeting user ++ spelling asked in
    record {
      user = user;
      begun = if_map (λ put. put ≡ []) (λ put. IsPrefix put whole) link.put
          (λ put e. (whole, ap (λ (bytes : List ℕ). bytes ++ whole) e)) none;
      joined = λ _. ap (λ (w : Written). w.joined) ew;
      whole = λ _. if_map (λ put. put ≡ []) (λ put. put ++ writer.bytes ≡ whole) link.put
          (λ put e. ap (λ (bytes : List ℕ). bytes ++ writer.bytes) e ∙ ap (λ (w : Written). w.bytes) ew
          ∙ sym (append-nil (greeting user)) ∙ ap (λ (xs : List Query). greeting user ++ spelling xs) (sym ea)) none;
    }

pub spelled_more : (link : LinkView) (asked after : List Query) (a b : Written) (failed : Bool) (one : Query)
    → IsSpelled link asked a failed → b ≡ record { bytes = a.bytes ++ line_of (words_of one); joined = true }
    → after ≡ asked ++ one ∷ [] → IsSpelled link after b failed
spelled_more link asked after a b failed one s eb ea =
    let line : List ℕ = line_of (words_of one) in
    let before : List ℕ = greeting s.user ++ spelling asked in
    let behind : List ℕ = greeting s.user ++ spelling after in
    let same : before ++ line ≡ behind =
    sym (ap (λ (xs : List Query). greeting s.user ++ spelling xs) ea ∙ grown_whole s.user asked one) in
    record {
      user = s.user;
      begun = if_map (λ put. IsPrefix put before) (λ put. IsPrefix put behind) link.put
          (λ put p. (
            p.0 ++ line,
            sym (append_assoc put p.0 line) ∙ ap (λ (bytes : List ℕ). bytes ++ line) p.1 ∙ same,
          )) s.begun;
      joined = λ _. ap (λ (w : Written). w.joined) eb;
      whole = λ e. if_map (λ put. put ++ a.bytes ≡ before) (λ put. put ++ b.bytes ≡ behind) link.put
          (λ put p. ap (λ (w : Written). put ++ w.bytes) eb ∙ sym (append_assoc put a.bytes line)
          ∙ ap (λ (bytes : List ℕ). bytes ++ line) p ∙ same) (s.whole e);
    }

pub spelled_failed : (link : LinkView) (asked : List Query) (a b : Written) (was now : Bool)
    → IsSpelled link asked a was → now ≡ true → IsSpelled link asked b now
spelled_failed link asked a b was now s e = record {
  user = s.user;
  begun = s.begun;
  joined = λ f. absurd (true_false (sym e ∙ f));
  whole = λ f. absurd (true_false (sym e ∙ f));
}

pub spelled_read : (old new : LinkView) (asked : List Query) (w : Written) (failed : Bool) (buffer : List ℕ)
    (answer : Got) → IsSpelled old asked w failed → Reads old buffer answer new → IsSpelled new asked w failed
spelled_read old new asked w failed buffer answer s r =
    let whole : List ℕ = greeting s.user ++ spelling asked in
    record {
      user = s.user;
      begun = subst (λ (o : Option (List ℕ)). IfSome o (λ put. IsPrefix put whole)) (sym r.put) s.begun;
      joined = s.joined;
      whole = λ e. subst (λ (o : Option (List ℕ)). IfSome o (λ put. put ++ w.bytes ≡ whole)) (sym r.put) (s.whole e);
    }

pub spelled_sent : (old new : LinkView) (asked : List Query) (a b : Written) (bytes : List ℕ) (failed : Bool)
    → IsSpelled old asked a failed → failed ≡ false → Puts old bytes new → bytes ≡ a.bytes
    → b ≡ record { bytes = []; joined = true } → IsSpelled new asked b failed
spelled_sent old new asked a b bytes failed s ok q same eb =
    let p : Puts old a.bytes new = subst (λ (xs : List ℕ). Puts old xs new) same q in
    let whole : List ℕ = greeting s.user ++ spelling asked in
    record {
      user = s.user;
      begun = if_more (λ put. put ++ a.bytes ≡ whole) (λ put. IsPrefix put whole) a.bytes old.put new.put p.put
          (λ put e. ([], append-nil (put ++ a.bytes) ∙ e)) (s.whole ok);
      joined = λ _. ap (λ (w : Written). w.joined) eb;
      whole = λ _. if_more (λ put. put ++ a.bytes ≡ whole) (λ put. put ++ b.bytes ≡ whole) a.bytes old.put new.put
          p.put (λ put e. ap (λ (w : Written). (put ++ a.bytes) ++ w.bytes) eb ∙ append-nil (put ++ a.bytes) ∙ e)
          (s.whole ok);
    }

pub spelled_part : (old new : LinkView) (asked : List Query) (a b : Written) (bytes : List ℕ) (was now : Bool)
    → IsSpelled old asked a was → was ≡ false → PutsPart old bytes new → bytes ≡ a.bytes → now ≡ true
    → IsSpelled new asked b now
spelled_part old new asked a b bytes was now s ok q same failed =
    let p : PutsPart old a.bytes new = subst (λ (xs : List ℕ). PutsPart old xs new) same q in
    let whole : List ℕ = greeting s.user ++ spelling asked in
    record {
      user = s.user;
      begun = if_more (λ put. put ++ a.bytes ≡ whole) (λ put. IsPrefix put whole) p.0 old.put new.put p.2.put
          (λ put e. (
            p.1.0,
            append_assoc put p.0 p.1.0 ∙ ap (λ (bytes : List ℕ). put ++ bytes) p.1.1 ∙ e,
          )) (s.whole ok);
      joined = λ f. absurd (true_false (sym failed ∙ f));
      whole = λ f. absurd (true_false (sym failed ∙ f));
    }

pub sends_none : (end : VisitEnd) (link : LinkView) (bytes : List ℕ) → Sends (Err end) link bytes link
sends_none end link bytes = ([], (bytes, refl), puts_none link)
