-- What a sink has taken while parts are told one after the other.
use Rattle.std.proofs.Common.{◌≡◌, ℕ, ◌+◌, ◌<◌, ◌≤◌, List, [], ◌++◌, length, drop, get_or, Option, Some, None, refl}
use Rattle.std.proofs.Common.{Result, Ok, Err, sym, ap, subst, ◌∙◌, append_assoc, append-nil}
use Rattle.std.specs.Prelude.{OnOk}
use Rattle.std.specs.List.{flat_map}
use Rattle.std.proofs.lemmas.List.{at_drop_all, at_drop_more}
use Rattle.kom_types.specs.Parts.{Part}
use Rattle.kom_telling.specs.Takes.{Takes}

-- parts were told, of which these are left
pub record Going {S : Type 0} (took : S → List Part → Type 0) (first now : S) (all rest : List Part) : Type 0 where
  pub told : List Part
  pub whole : told ++ rest ≡ all
  pub takes : Takes took first now told

-- the parts of items are told, up to a place
abbrev pub Along : {S X : Type 0} → (S → List Part → Type 0) → (X → List Part) → List X → ℕ → S → S → Type 0
Along took parts items place first now =
    Going took first now (flat_map parts items) (flat_map parts (drop place items))

module _ {S : Type 0} (took : S → List Part → Type 0) where
  pub takes-none : (sink : S) → Takes took sink sink []
  takes-none sink = record { takes = λ before has. subst (took sink) (sym (append-nil before)) has }

  pub takes-both : (one other : List Part) (first second third : S) → Takes took first second one →
      Takes took second third other → Takes took first third (one ++ other)
  takes-both one other first second third before after = record {
    takes = λ told has.
        subst (took third) (append_assoc told one other) (after.takes (told ++ one) (before.takes told has));
  }

  -- parts, and then what a last call tells
  pub takes-then : {T E : Type 0} (one other : List Part) (first second third : S) (result : Result T E) →
      Takes took first second one → OnOk result (Takes took second third other) →
      OnOk result (Takes took first third (one ++ other))
  takes-then one other first second third (Ok done) before after = takes-both one other first second third before after
  takes-then one other first second third (Err why) before after = tt

  -- the parts of a row that may be there
  pub found-none : {R : Type 0} (parts : R → List Part) (found : Option R) (sink : S) → None ≡ found →
      Takes took sink sink (elim found [ None ↦ [] | Some row ↦ parts row ])
  found-none {R} parts found sink is =
      subst (λ (o : Option R). Takes took sink sink (elim o [ None ↦ [] | Some row ↦ parts row ])) is (takes-none sink)

  pub found-some : {R T E : Type 0} (parts : R → List Part) (found : Option R) (row : R) (old new : S)
      (result : Result T E) → Some row ≡ found → OnOk result (Takes took old new (parts row)) →
      OnOk result (Takes took old new (elim found [ None ↦ [] | Some row ↦ parts row ]))
  found-some {R} parts found row old new result is tells =
      subst (λ (o : Option R). OnOk result (Takes took old new (elim o [ None ↦ [] | Some row ↦ parts row ]))) is tells

  pub going-first : (first : S) (all : List Part) → Going took first first all all
  going-first first all = record { told = []; whole = refl; takes = takes-none first }

  pub going-on : (first now next : S) (all one rest : List Part) → Going took first now all (one ++ rest) →
      Takes took now next one → Going took first next all rest
  going-on first now next all one rest going put = record {
    told = going.told ++ one;
    whole = append_assoc going.told one rest ∙ going.whole;
    takes = takes-both going.told one first now next going.takes put;
  }

  pub going-end : (first now : S) (all rest : List Part) → Going took first now all rest → rest ≡ [] →
      Takes took first now all
  going-end first now all rest going none =
      let told : going.told ≡ all =
      sym (append-nil going.told) ∙ ap (λ (l : List Part). going.told ++ l) (sym none) ∙ going.whole in
      subst (λ (l : List Part). Takes took first now l) told going.takes

  module _ {X : Type 0} (parts : X → List Part) (items : List X) where
    pub along-first : (first : S) → Along took parts items 0 first first
    along-first first = going-first first (flat_map parts items)

    pub along-on : (place : ℕ) (d item : X) (first now next : S) → place < length items → get_or items place d ≡ item →
        Along took parts items place first now → Takes took now next (parts item) →
        Along took parts items (place + 1) first next
    along-on place d item first now next within is along put =
        let rest : flat_map parts (drop place items) ≡ parts item ++ flat_map parts (drop (place + 1) items) =
        at_drop_more (flat_map parts) items place d within
        ∙ ap (λ (one : X). parts one ++ flat_map parts (drop (place + 1) items)) is in
        going-on first now next (flat_map parts items) (parts item) (flat_map parts (drop (place + 1) items))
        (subst (λ (l : List Part). Going took first now (flat_map parts items) l) rest along) put

    pub along-end : (place : ℕ) (first now : S) → length items ≤ place → Along took parts items place first now →
        Takes took first now (flat_map parts items)
    along-end place first now all along =
        going-end first now (flat_map parts items) (flat_map parts (drop place items)) along
        (at_drop_all (flat_map parts) items place all)
