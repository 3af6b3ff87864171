-- What is told of a link and of a sink after bytes were taken or put.
use Rattle.std.proofs.Common.{◌≡◌, ℕ, ◌-◌, ◌≤◌, ◌==◌, inl, inr, true, List, [], ◌∷◌, ◌++◌, length, take}
use Rattle.std.proofs.Common.{drop}
use Rattle.std.proofs.Common.{Option, Some, None, Err, refl, sym, ap, subst, ◌∙◌, arith, append_assoc, append-nil}
use Rattle.std.proofs.Common.{length-drop}
use Rattle.std.specs.Prelude.{IfSome}
use Rattle.std.proofs.lemmas.List.{take-append-drop, take_all}
use Rattle.std.proofs.lemmas.Bool.{eqb-true}
use Rattle.kom_links.specs.declared.link.Took.TheVariants as took
use Rattle.kom_links.specs.Outside.{LinkView, Rose, IsNothing, Writes, with_bytes}
use Rattle.kom_client.specs.declared.talk_end.TalkEnd.TheVariants as end
use Rattle.kom_client.specs.Client.{HasCarried}
use Rattle.kom_client.specs.Talking.{Listens, Puts, Sends}

pub grown_nil : (told : Option (List ℕ)) → with_bytes [] told ≡ told
grown_nil None = refl
grown_nil (Some bytes) = ap Some (append-nil bytes)

pub grown-append : (first second : List ℕ) (told : Option (List ℕ))
    → with_bytes second (with_bytes first told) ≡ with_bytes (first ++ second) told
grown-append first second None = refl
grown-append first second (Some before) = ap Some (append_assoc before first second)

told_more : (bytes more : List ℕ) (told : Option (List ℕ)) → IfSome told (λ one. one ≡ bytes)
    → IfSome (with_bytes more told) (λ one. one ≡ bytes ++ more)
told_more bytes more None is = tt
told_more bytes more (Some one) is = ap (λ one. one ++ more) is

-- where it is told, it is told with these bytes more
pub told_grown : (bytes more : List ℕ) (before after : Option (List ℕ))
    → IfSome before (λ one. one ≡ bytes) → after ≡ with_bytes more before
    → IfSome after (λ one. one ≡ bytes ++ more)
told_grown bytes more before after is e =
    subst (λ (told : Option (List ℕ)). IfSome told (λ one. one ≡ bytes ++ more)) (sym e)
    (told_more bytes more before is)

pub told_same : (bytes : List ℕ) (before after : Option (List ℕ)) → IfSome before (λ one. one ≡ bytes)
    → after ≡ before → IfSome after (λ one. one ≡ bytes)
told_same bytes before after is e =
    subst (λ (told : Option (List ℕ)). IfSome told (λ one. one ≡ bytes)) (sym e) is

nothing_told : (told : Option (List ℕ)) → IsNothing told → IfSome told (λ one. one ≡ [])
nothing_told None is = tt
nothing_told (Some bytes) is = is

pub tells_nothing : (link : LinkView) → IsNothing link.taken → IsNothing link.put → HasCarried link [] []
tells_nothing link taken put = (nothing_told link.taken taken, nothing_told link.put put)

pub rose_after : (a b c : ℕ) → a ≤ b → Rose b c → Rose a c
rose_after a b c small (inl more) = inl (omega arith)
rose_after a b c small (inr full) = inr full

-- ---- reads

pub listens_none : (link : LinkView) → Listens link [] link
listens_none link = record { taken = sym (grown_nil link.taken); put = refl; faults = omega arith }

pub listens_trans : {a b c : LinkView} {first second : List ℕ} → Listens a first b → Listens b second c
    → Listens a (first ++ second) c
listens_trans {a} {b} {c} {first} {second} p q = record {
  taken = q.taken ∙ ap (with_bytes second) p.taken ∙ grown-append first second a.taken;
  put = q.put ∙ p.put;
  faults = omega (arith, p.faults, q.faults);
}

pub listens_tells : {old new : LinkView} {piece : List ℕ} (fed sent : List ℕ) → Listens old piece new
    → HasCarried old fed sent → HasCarried new (fed ++ piece) sent
listens_tells {old} {new} {piece} fed sent l t =
    (told_grown fed piece old.taken new.taken t.0 l.taken, told_same sent old.put new.put t.1 l.put)

-- ---- writes

pub puts_none : (link : LinkView) → Puts link [] link
puts_none link = record { put = sym (grown_nil link.put); taken = refl; faults = omega arith }

pub puts_trans : {a b c : LinkView} {first second : List ℕ} → Puts a first b → Puts b second c
    → Puts a (first ++ second) c
puts_trans {a} {b} {c} {first} {second} p q = record {
  put = q.put ∙ ap (with_bytes second) p.put ∙ grown-append first second a.put;
  taken = q.taken ∙ p.taken;
  faults = omega (arith, p.faults, q.faults);
}

pub puts_tells : {old new : LinkView} {part : List ℕ} (fed sent : List ℕ) → Puts old part new → HasCarried old fed sent
    → HasCarried new fed (sent ++ part)
puts_tells {old} {new} {part} fed sent p t =
    (told_same fed old.taken new.taken t.0 p.taken, told_grown sent part old.put new.put t.1 p.put)

-- ---- bytes that are put part by part

-- what was put of some bytes, and what is left of them
pub record PutsBut (old : LinkView) (rest bytes : List ℕ) (new : LinkView) : Type 0 where
  pub part : List ℕ
  pub whole : part ++ rest ≡ bytes
  pub puts : Puts old part new

pub puts_nothing : (bytes : List ℕ) (link : LinkView) → PutsBut link bytes bytes link
puts_nothing bytes link = record { part = []; whole = refl; puts = puts_none link }

is_empty : (bytes : List ℕ) → (length bytes == 0) ≡ true → bytes ≡ []
is_empty [] e = refl
is_empty (byte ∷ bytes) e =
    let none : length (byte ∷ bytes) ≡ 0 = eqb-true (length (byte ∷ bytes)) 0 e in absurd (omega arith)

pub puts_whole : {a b : LinkView} (rest bytes : List ℕ) → PutsBut a rest bytes b → (length rest == 0) ≡ true
    → Puts a bytes b
puts_whole {a} {b} rest bytes p e =
    subst (λ (bytes : List ℕ). Puts a bytes b)
    (sym (append-nil p.part) ∙ ap (λ (rest : List ℕ). p.part ++ rest) (sym (is_empty rest e)) ∙ p.whole) p.puts

pub puts_more : {a b c : LinkView} (rest bytes : List ℕ) (count : ℕ) → PutsBut a rest bytes b
    → Writes b rest (took.Some count) c → PutsBut a (take (length rest - count) (drop count rest)) bytes c
puts_more {a} {b} {c} rest bytes count p w = record {
  part = p.part ++ take count rest;
  whole = ap (λ (left : List ℕ). (p.part ++ take count rest) ++ left)
      (take_all (length rest - count) (drop count rest) (omega (arith, length-drop count rest)))
      ∙ append_assoc p.part (take count rest) (drop count rest)
      ∙ ap (λ (rest : List ℕ). p.part ++ rest) (take-append-drop count rest) ∙ p.whole;
  puts = puts_trans p.puts (record { put = w.put; taken = w.taken; faults = w.faults });
}

-- a write that took nothing
puts_same : {a b c : LinkView} (part : List ℕ) → Puts a part b → Puts b [] c → Puts a part c
puts_same {a} {b} {c} part p q = subst (λ (part : List ℕ). Puts a part c) (append-nil part) (puts_trans p q)

pub puts_waits : {a b c : LinkView} (rest bytes : List ℕ) → PutsBut a rest bytes b → Writes b rest took.NotYet c
    → PutsBut a rest bytes c
puts_waits {a} {b} {c} rest bytes p w = record {
  part = p.part;
  whole = p.whole;
  puts = puts_same p.part p.puts (record { put = w.put; taken = w.taken; faults = w.faults });
}

pub puts_failed : {a b c : LinkView} (rest bytes : List ℕ) → PutsBut a rest bytes b → Writes b rest took.Failed c
    → Sends (Err end.LinkFault) a bytes c
puts_failed {a} {b} {c} rest bytes p w = (
  refl,
  rose_after a.faults b.faults c.faults p.puts.faults w.may,
  p.part,
  (rest, p.whole),
  puts_same p.part p.puts (record { put = w.put; taken = w.taken; faults = w.faults }),
)
