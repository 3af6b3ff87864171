-- Bytes that are put to a link part by part.
use Rattle.std.proofs.Common.{◌≡◌, ℕ, ◌-◌, ◌==◌, true, List, [], ◌++◌, ◌∷◌, length, take, drop, Option, Some, None}
use Rattle.std.proofs.Common.{Err, refl, sym, ap, subst, ◌∙◌, arith, append_assoc, append-nil, length-drop}
use Rattle.std.proofs.lemmas.List.{take-append-drop, take_all}
use Rattle.std.proofs.lemmas.Bool.{eqb-true}
use Rattle.kom_links.specs.declared.link.Took.TheVariants as took
use Rattle.kom_links.specs.Outside.{LinkView, Writes, with_bytes}
use Rattle.kom_exchange.specs.declared.visit_end.VisitEnd.{VisitEnd}
use Rattle.kom_exchange.specs.Asking.{Puts, Sends}

pub grown_nil : (told : Option (List ℕ)) → with_bytes [] told ≡ told
grown_nil None = refl
grown_nil (Some bytes) = ap Some (append-nil bytes)

pub grown-append : (first second : List ℕ) (told : Option (List ℕ))
    → with_bytes second (with_bytes first told) ≡ with_bytes (first ++ second) told
grown-append first second None = refl
grown-append first second (Some before) = ap Some (append_assoc before first second)

puts_trans : {a b c : LinkView} {first second : List ℕ} → Puts a first b → Puts b second c
    → Puts a (first ++ second) c
puts_trans {a} {b} {c} {first} {second} p q = record {
  put = q.put ∙ ap (with_bytes second) p.put ∙ grown-append first second a.put;
  taken = q.taken ∙ p.taken;
}

-- what was put of some bytes, and what is left of them
pub record PutsBut (old : LinkView) (rest bytes : List ℕ) (new : LinkView) : Type 0 where
  pub part : List ℕ
  pub whole : part ++ rest ≡ bytes
  pub puts : Puts old part new

pub puts_none : (link : LinkView) → Puts link [] link
puts_none link = record { put = sym (grown_nil link.put); taken = refl }

pub puts_nothing : (bytes : List ℕ) (link : LinkView) → PutsBut link bytes bytes link
puts_nothing bytes link = record {
  part = [];
  whole = refl;
  puts = puts_none link;
}

pub is_empty : (bytes : List ℕ) → (length bytes == 0) ≡ true → bytes ≡ []
is_empty [] e = refl
is_empty (byte ∷ bytes) e =
    let none : length (byte ∷ bytes) ≡ 0 = eqb-true (length (byte ∷ bytes)) 0 e in absurd (omega arith)

pub puts_whole : {a b : LinkView} (rest bytes : List ℕ) → PutsBut a rest bytes b → (length rest == 0) ≡ true
    → Puts a bytes b
puts_whole {a} {b} rest bytes p e =
    subst (λ (bytes : List ℕ). Puts a bytes b)
    (sym (append-nil p.part) ∙ ap (λ (rest : List ℕ). p.part ++ rest) (sym (is_empty rest e)) ∙ p.whole) p.puts

pub puts_more : {a b c : LinkView} (rest bytes : List ℕ) (count : ℕ) → PutsBut a rest bytes b
    → Writes b rest (took.Some count) c → PutsBut a (take (length rest - count) (drop count rest)) bytes c
puts_more {a} {b} {c} rest bytes count p w = record {
  part = p.part ++ take count rest;
  whole = ap (λ (left : List ℕ). (p.part ++ take count rest) ++ left)
      (take_all (length rest - count) (drop count rest) (omega (arith, length-drop count rest)))
      ∙ append_assoc p.part (take count rest) (drop count rest)
      ∙ ap (λ (rest : List ℕ). p.part ++ rest) (take-append-drop count rest) ∙ p.whole;
  puts = puts_trans p.puts (record { put = w.put; taken = w.taken });
}

-- a write that took nothing
puts_same : {a b c : LinkView} (part : List ℕ) → Puts a part b → Puts b [] c → Puts a part c
puts_same {a} {b} {c} part p q = subst (λ (part : List ℕ). Puts a part c) (append-nil part) (puts_trans p q)

pub puts_waits : {a b c : LinkView} (rest bytes : List ℕ) → PutsBut a rest bytes b → Writes b rest took.NotYet c
    → PutsBut a rest bytes c
puts_waits {a} {b} {c} rest bytes p w = record {
  part = p.part;
  whole = p.whole;
  puts = puts_same p.part p.puts (record { put = w.put; taken = w.taken });
}

pub puts_failed : {a b c : LinkView} (end : VisitEnd) (rest bytes : List ℕ) → PutsBut a rest bytes b
    → Writes b rest took.Failed c → Sends (Err end) a bytes c
puts_failed {a} {b} {c} end rest bytes p w = (
  p.part,
  (rest, p.whole),
  puts_same p.part p.puts (record { put = w.put; taken = w.taken }),
)
