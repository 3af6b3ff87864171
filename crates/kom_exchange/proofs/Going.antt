-- What may change, step by step.
use Rattle.std.proofs.Common.{◌≡◌, ◌≢◌, ℕ, ◌<◌, List, [], ◌∷◌, ◌++◌, length, get_or, Option, refl, sym, ap, ◌∙◌, subst}
use Rattle.std.proofs.Common.{arith, append_assoc, append-nil}
use Rattle.std.specs.Prelude.{Contains}
use Rattle.std.proofs.lemmas.List.Elements.{Contains-get_or}
use Rattle.kom_links.specs.declared.link.Got.{Got}
use Rattle.kom_links.specs.Outside.{LinkView, Reads, read_bytes, with_bytes}
use Rattle.kom_types.specs.declared.texts.MiscInfo.{MiscInfo}
use Rattle.kom_reader.specs.declared.recipients.Part.{Part}
use Rattle.kom_reader.specs.Links.{parts_of}
use Rattle.kom_exchange.specs.declared.request.Argument.{Argument}
use Rattle.kom_exchange.specs.declared.request.Request.{Request}
use Rattle.kom_exchange.specs.Asking.{Query, Asking, Puts, PutsPart, with_request, login}
use Rattle.kom_exchange.specs.Goes.{Hears, Goes, Marks, MarksOne, ArePlain, AreMarks, AreMarksOf, mark}
use Rattle.kom_screen.specs.Screens.{Grows}
use Rattle.kom_exchange.proofs.Links.{grown_nil, grown-append}

-- ---- what is told grows

pub grows_none : (o : Option (List ℕ)) → Grows o o
grows_none o = ([], sym (grown_nil o))

pub grows_same : (old new : Option (List ℕ)) → new ≡ old → Grows old new
grows_same old new e = ([], e ∙ sym (grown_nil old))

pub grows_trans : (a b c : Option (List ℕ)) → Grows a b → Grows b c → Grows a c
grows_trans a b c p q = (p.0 ++ q.0, q.1 ∙ ap (with_bytes q.0) p.1 ∙ grown-append p.0 q.0 a)

-- ---- something is heard

pub hears_none : (a : Asking) → Hears a a
hears_none a = record { heard = grows_none a.link.taken; put = refl; asked = refl; next = refl }

pub hears_trans : (a b c : Asking) → Hears a b → Hears b c → Hears a c
hears_trans a b c p q = record {
  heard = grows_trans a.link.taken b.link.taken c.link.taken p.heard q.heard;
  put = q.put ∙ p.put;
  asked = q.asked ∙ p.asked;
  next = q.next ∙ p.next;
}

pub hears_read : (old new : Asking) (buffer : List ℕ) (answer : Got) → Reads old.link buffer answer new.link
    → new ≡ record old { link = new.link } → Hears old new
hears_read old new buffer answer r e = record {
  heard = (read_bytes answer buffer, r.taken);
  put = r.put;
  asked = ap (λ (a : Asking). a.asked) e;
  next = ap (λ (a : Asking). a.next) e;
}

-- what contracts see, by what it equals
pub hears_from : (inside old new : Asking) → inside ≡ old → Hears inside new → Hears old new
hears_from inside old new e h = subst (λ (x : Asking). Hears x new) e h

pub goes_from : (inside old new : Asking) → inside ≡ old → Goes inside new → Goes old new
goes_from inside old new e g = subst (λ (x : Asking). Goes x new) e g

-- and nothing more after it
pub hears_same : (a b c : Asking) → Hears a b → c ≡ b → Hears a c
hears_same a b c p e = subst (λ (x : Asking). Hears a x) (sym e) p

-- ---- something is asked and sent

plain-append : (xs ys : List Query) → ArePlain xs → ArePlain ys → ArePlain (xs ++ ys)
plain-append [] ys p q = q
plain-append (x ∷ xs) ys p q = (p.0, plain-append xs ys p.1 q)

pub goes_same : (old new : Asking) → new.link ≡ old.link → new.asked ≡ old.asked → Goes old new
goes_same old new link asked = record {
  heard = grows_same old.link.taken new.link.taken (ap (λ (l : LinkView). l.taken) link);
  sent = grows_same old.link.put new.link.put (ap (λ (l : LinkView). l.put) link);
  more = [];
  plain = tt;
  asked = asked ∙ sym (append-nil old.asked);
}

pub goes_none : (a : Asking) → Goes a a
goes_none a = goes_same a a refl refl

pub goes_trans : (a b c : Asking) → Goes a b → Goes b c → Goes a c
goes_trans a b c p q = record {
  heard = grows_trans a.link.taken b.link.taken c.link.taken p.heard q.heard;
  sent = grows_trans a.link.put b.link.put c.link.put p.sent q.sent;
  more = p.more ++ q.more;
  plain = plain-append p.more q.more p.plain q.plain;
  asked = q.asked ∙ ap (λ (xs : List Query). xs ++ q.more) p.asked ∙ append_assoc a.asked p.more q.more;
}

pub goes_hears : (a b : Asking) → Hears a b → Goes a b
goes_hears a b h = record {
  heard = h.heard;
  sent = grows_same a.link.put b.link.put h.put;
  more = [];
  plain = tt;
  asked = h.asked ∙ sym (append-nil a.asked);
}

pub goes_asked : (old new : Asking) (request : Request) → request.call ≢ 27 → new ≡ with_request request old
    → Goes old new
goes_asked old new request plain e = record {
  heard = grows_same old.link.taken new.link.taken (ap (λ (a : Asking). a.link.taken) e);
  sent = grows_same old.link.put new.link.put (ap (λ (a : Asking). a.link.put) e);
  more = (old.next, request) ∷ [];
  plain = (plain, tt);
  asked = ap (λ (a : Asking). a.asked) e;
}

pub goes_sent : (old new : Asking) (bytes : List ℕ) → Puts old.link bytes new.link → new.asked ≡ old.asked
    → Goes old new
goes_sent old new bytes p asked = record {
  heard = grows_same old.link.taken new.link.taken p.taken;
  sent = (bytes, p.put);
  more = [];
  plain = tt;
  asked = asked ∙ sym (append-nil old.asked);
}

pub goes_part : (old new : Asking) (bytes : List ℕ) → PutsPart old.link bytes new.link → new.asked ≡ old.asked
    → Goes old new
goes_part old new bytes p asked = goes_sent old new p.0 p.2 asked

not_mark : (request : Request) (person : ℕ) (password : List ℕ) → request ≡ login person password
    → request.call ≢ 27
not_mark request person password e called =
    let same : ◌≡◌ {A = ℕ} 62 27 = sym (ap (λ (r : Request). r.call) e) ∙ called in omega arith

pub goes_login : (old new : Asking) (request : Request) (person : ℕ) (password : List ℕ)
    → request ≡ login person password → new ≡ with_request request old → Goes old new
goes_login old new request person password er en = goes_asked old new request (not_mark request person password er) en

pub call_as : (request : Request) (call : ℕ) (arguments : List Argument)
    → request ≡ record { call = call; arguments = arguments } → call ≢ 27 → request.call ≢ 27
call_as request call arguments e plain called = plain (sym (ap (λ (r : Request). r.call) e) ∙ called)

-- ---- texts are to count as read

marks-append : (parts : List Part) (xs ys : List Query) → AreMarks parts xs → AreMarks parts ys
    → AreMarks parts (xs ++ ys)
marks-append parts [] ys p q = q
marks-append parts (x ∷ xs) ys p q = (p.0, marks-append parts xs ys p.1 q)

pub marks_failed : (parts : List Part) (old new : Asking) → new.link ≡ old.link → new.asked ≡ old.asked
    → Marks parts old new
marks_failed parts old new link asked = record {
  link = link;
  more = [];
  marks = tt;
  asked = asked ∙ sym (append-nil old.asked);
}

pub marks_none : (parts : List Part) (a : Asking) → Marks parts a a
marks_none parts a = marks_failed parts a a refl refl

pub one_failed : (part : Part) (old new : Asking) → new.link ≡ old.link → new.asked ≡ old.asked
    → MarksOne part old new
one_failed part old new link asked = record {
  link = link;
  more = [];
  marks = tt;
  asked = asked ∙ sym (append-nil old.asked);
}

pub one_none : (part : Part) (a : Asking) → MarksOne part a a
one_none part a = one_failed part a a refl refl

pub one_asked : (part : Part) (old new : Asking) (request : Request) → request ≡ mark part
    → new ≡ with_request request old → MarksOne part old new
one_asked part old new request e done = record {
  link = ap (λ (a : Asking). a.link) done;
  more = (old.next, request) ∷ [];
  marks = (e, tt);
  asked = ap (λ (a : Asking). a.asked) done;
}

pub one_from : (part : Part) (inside old new : Asking) → inside ≡ old → MarksOne part inside new
    → MarksOne part old new
one_from part inside old new e m = subst (λ (x : Asking). MarksOne part x new) e m

of_one : (parts : List Part) (part : Part) (more : List Query) → Contains parts part → AreMarksOf part more
    → AreMarks parts more
of_one parts part [] among m = tt
of_one parts part (one ∷ more) among m = ((part, among, m.0), of_one parts part more among m.1)

pub marks_more : (parts : List Part) (i : ℕ) (d : Part) (a b c : Asking) → Marks parts a b → i < length parts
    → MarksOne (get_or parts i d) b c → Marks parts a c
marks_more parts i d a b c p within q = record {
  link = q.link ∙ p.link;
  more = p.more ++ q.more;
  marks = marks-append parts p.more q.more p.marks
      (of_one parts (get_or parts i d) q.more (Contains-get_or parts i d within) q.marks);
  asked = q.asked ∙ ap (λ (xs : List Query). xs ++ q.more) p.asked ∙ append_assoc a.asked p.more q.more;
}

-- the places, by what they equal
pub marks_as : (links all : List MiscInfo) (items parts : List Part) (old new : Asking)
    → links ≡ all → items ≡ parts_of links → parts ≡ items → Marks parts old new → Marks (parts_of all) old new
marks_as links all items parts old new el ei ep m =
    subst (λ (xs : List Part). Marks xs old new) (ep ∙ ei ∙ ap parts_of el) m
