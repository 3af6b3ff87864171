-- One piece more on a screen.
use Rattle.std.proofs.Common.{◌≡◌, ℕ, inl, List, [], ◌∷◌, ◌++◌, take, drop, Bool}
use Rattle.std.proofs.Common.{true, false, refl, sym, ap, ◌∙◌, subst, append_assoc, Option, Some, None, IfSome}
use Rattle.std.specs.List.{concat}
use Rattle.std.specs.Str.{chars}
use Rattle.std.proofs.lemmas.List.{append-nil, take-append-drop}
use Rattle.std.proofs.lemmas.List.Elements.{All-nil, All-cons, All-append}
use Rattle.std.proofs.lemmas.List.Folds.{concat-append}
use Rattle.std.proofs.Math.Logic.{∥∥₁_map}
use Rattle.kom_links.specs.Outside.{with_bytes, IsNothing}
use Rattle.kom_screen.specs.Screens.{Grows, IsPut, IsScreen, Seen, Puts, put_on, line_feed_if}

true_false : true ≡ false → ⊥
true_false e = cc

-- nothing was shown yet
pub screen_new : (columns : ℕ) → IsScreen columns false []
screen_new columns = record {
  pieces = [];
  begun = [];
  last = 10 ∷ [];
  all = refl;
  are = All-nil (IsPut columns);
  is_last = inl refl;
  part = (10 ∷ [], refl);
  whole = λ _. refl;
}

-- what was shown before a failure ends with a whole piece
whole_pieces : (columns : ℕ) (put : List ℕ) (s : IsScreen columns false put) → put ≡ concat s.pieces
whole_pieces columns put s =
    s.all ∙ ap (λ (b : List ℕ). concat s.pieces ++ b) (s.whole refl) ∙ append-nil (concat s.pieces)

pub screen_more : (columns : ℕ) (put bytes : List ℕ) → IsScreen columns false put → IsPut columns bytes →
    IsScreen columns false (put ++ bytes)
screen_more columns put bytes s p = record {
  pieces = s.pieces ++ bytes ∷ [];
  begun = [];
  last = bytes;
  all = ap (λ (xs : List ℕ). xs ++ bytes) (whole_pieces columns put s)
      ∙ sym (concat-append s.pieces (bytes ∷ [])
      ∙ ap (λ (b : List ℕ). concat s.pieces ++ b) (append-nil bytes))
      ∙ sym (append-nil (concat (s.pieces ++ bytes ∷ [])));
  are = All-append (IsPut columns) s.pieces (bytes ∷ []) s.are
      (All-cons (IsPut columns) bytes [] p (All-nil (IsPut columns)));
  is_last = p;
  part = (bytes, refl);
  whole = λ _. refl;
}

pub screen_part : (columns n : ℕ) (put bytes : List ℕ) → IsScreen columns false put → IsPut columns bytes →
    IsScreen columns true (put ++ take n bytes)
screen_part columns n put bytes s p = record {
  pieces = s.pieces;
  begun = take n bytes;
  last = bytes;
  all = ap (λ (xs : List ℕ). xs ++ take n bytes) (whole_pieces columns put s);
  are = s.are;
  is_last = p;
  part = (drop n bytes, take-append-drop n bytes);
  whole = λ e. absurd (true_false e);
}

-- the same, where a sink tells it
pub seen_more : (columns : ℕ) (old new : Option (List ℕ)) (bytes : List ℕ) → IfSome old (IsScreen columns false) →
    new ≡ with_bytes bytes old → IsPut columns bytes → IfSome new (IsScreen columns false)
seen_more columns None new bytes s e p =
    subst (λ (o : Option (List ℕ)). IfSome o (IsScreen columns false)) (sym e) tt
seen_more columns (Some put) new bytes s e p =
    subst (λ (o : Option (List ℕ)). IfSome o (IsScreen columns false)) (sym e) (screen_more columns put bytes s p)

pub seen_part : (columns n : ℕ) (old new : Option (List ℕ)) (bytes : List ℕ) → IfSome old (IsScreen columns false) →
    new ≡ with_bytes (take n bytes) old → IsPut columns bytes → IfSome new (IsScreen columns true)
seen_part columns n None new bytes s e p =
    subst (λ (o : Option (List ℕ)). IfSome o (IsScreen columns true)) (sym e) tt
seen_part columns n (Some put) new bytes s e p =
    subst (λ (o : Option (List ℕ)). IfSome o (IsScreen columns true)) (sym e) (screen_part columns n put bytes s p)

-- the same, of a screen that is known only to be harmless
pub kept_new : (columns : ℕ) (put : Option (List ℕ)) → IsNothing put → ∥ IfSome put (IsScreen columns false) ∥₁
kept_new columns None e = ∣ tt ∣₁
kept_new columns (Some put) e =
    ∣ subst (λ (xs : List ℕ). IsScreen columns false xs) (sym e) (screen_new columns) ∣₁

pub kept_more : (columns : ℕ) (failed : Bool) (old new : Option (List ℕ)) (bytes : List ℕ) → failed ≡ false →
    ∥ IfSome old (IsScreen columns failed) ∥₁ → new ≡ with_bytes bytes old → IsPut columns bytes →
    ∥ IfSome new (IsScreen columns failed) ∥₁
kept_more columns failed old new bytes e shown grew put =
    ∥∥₁_map shown (λ s. subst (λ (b : Bool). IfSome new (IsScreen columns b)) (sym e)
    (seen_more columns old new bytes (subst (λ (b : Bool). IfSome old (IsScreen columns b)) e s) grew put))

pub kept_part : (columns n : ℕ) (failed : Bool) (old new : Option (List ℕ)) (bytes : List ℕ) → failed ≡ false →
    ∥ IfSome old (IsScreen columns failed) ∥₁ → new ≡ with_bytes (take n bytes) old → IsPut columns bytes →
    ∥ IfSome new (IsScreen columns true) ∥₁
kept_part columns n failed old new bytes e shown grew put =
    ∥∥₁_map shown (λ s.
    seen_part columns n old new bytes (subst (λ (b : Bool). IfSome old (IsScreen columns b)) e s) grew put)

-- nothing more is told, and what is told twice
pub grown_none : (o : Option (List ℕ)) → with_bytes [] o ≡ o
grown_none None = refl
grown_none (Some put) = ap Some (append-nil put)

grown_twice : (first second : List ℕ) (o : Option (List ℕ)) →
    with_bytes second (with_bytes first o) ≡ with_bytes (first ++ second) o
grown_twice first second None = refl
grown_twice first second (Some put) = ap Some (append_assoc put first second)

-- a line is put: its text behind the line feed that ends a prompt, and a line feed
pub puts_line : (old new : Seen) (text : List ℕ) (begun written : Option (List ℕ)) →
    begun ≡ with_bytes (line_feed_if old.is_open) old.sink.put → written ≡ with_bytes text begun →
    new.sink.put ≡ with_bytes (10 ∷ []) written → Puts old (chars text) (10 ∷ []) new
puts_line old new text begun written b w e = record {
  text = text;
  spelled = refl;
  put = e ∙ ap (with_bytes (10 ∷ [])) w ∙ grown_twice text (10 ∷ []) begun ∙ ap (with_bytes (text ++ 10 ∷ [])) b;
}

pub puts_prompt : (old new : Seen) (text letters : List ℕ) (begun : Option (List ℕ)) →
    begun ≡ with_bytes (line_feed_if old.is_open) old.sink.put → new.sink.put ≡ with_bytes text begun →
    chars text ≡ letters →
    Puts old letters [] new
puts_prompt old new text letters begun b e spelled = record {
  text = text;
  spelled = spelled;
  put = e ∙ ap (with_bytes text) b
      ∙ ap (λ (bytes : List ℕ). put_on old bytes) (sym (append-nil text));
}

-- the letters of a line, by what they equal
pub puts_as : (old new : Seen) (letters other behind : List ℕ) → Puts old letters behind new → letters ≡ other →
    Puts old other behind new
puts_as old new letters other behind puts same =
    subst (λ (cs : List ℕ). Puts old cs behind new) same puts

-- what is told grows
pub grows_none : (o : Option (List ℕ)) → Grows o o
grows_none o = ([], sym (grown_none o))

pub grows_by : (bytes : List ℕ) (old new : Option (List ℕ)) → new ≡ with_bytes bytes old → Grows old new
grows_by bytes old new e = (bytes, e)

pub grows_trans : (a b c : Option (List ℕ)) → Grows a b → Grows b c → Grows a c
grows_trans a b c p q = (p.0 ++ q.0, q.1 ∙ ap (with_bytes q.0) p.1 ∙ grown_twice p.0 q.0 a)
