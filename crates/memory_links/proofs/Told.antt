-- The reads that a link in memory tells, as marks are added and as its output grows.
use Rattle.std.proofs.Common.{◌≡◌, ◌≤◌, ◌∙◌, ℕ, Bool, List, [], ◌∷◌, ◌++◌, map, take, length, Option, Some, None}
use Rattle.std.proofs.Common.{option_map, IfSome, refl, sym, ap, subst, arith}
use Rattle.std.proofs.lemmas.List.{map-append, take-append-le, take_all}
use Rattle.std.proofs.lemmas.List.Elements.{All-tail, All-push}
use Rattle.std.specs.List.{All}
use Rattle.std.specs.Option.{ForSome}
use Rattle.kom_links.specs.Doors.{Gains}
use Rattle.kom_links.specs.Outside.{Look}
use Rattle.memory_links.specs.declared.read_log.ReadMark.{ReadMark}
use Rattle.memory_links.specs.Memories.{look_of}

-- a mark is of a prefix of so many bytes that were put
abbrev pub IsWithin : ℕ → ReadMark → Type 0
IsWithin size mark = mark.put ≤ size

same_looks : (input output more : List ℕ) (marks : List ReadMark) → All (IsWithin (length output)) marks →
    map (look_of input (output ++ more)) marks ≡ map (look_of input output) marks
same_looks input output more [] all = refl
same_looks input output more (mark ∷ marks) all =
    let put : take mark.put (output ++ more) ≡ take mark.put output =
    take-append-le mark.put output more (all 0 mark (omega arith)) in
    let others : All (IsWithin (length output)) marks = All-tail (IsWithin (length output)) mark marks all in
    ap (λ p. record { taken = take mark.taken input; put = p; waited = mark.waited }
    ∷ map (look_of input (output ++ more)) marks) put
    ∙ ap (λ looks. look_of input output mark ∷ looks) (same_looks input output more marks others)

-- what is told of the reads stays, as more is put
pub same_told : (input output more : List ℕ) (log : Option (List ReadMark)) →
    ForSome log (All (IsWithin (length output))) →
    option_map (map (look_of input (output ++ more))) log ≡ option_map (map (look_of input output)) log
same_told input output more None told = refl
same_told input output more (Some marks) told = ap Some (same_looks input output more marks (told marks refl))

pub some_same : (xs ys : List ℕ) → Some xs ≡ Some ys → xs ≡ ys
some_same xs ys same = cc

-- with a mark more, one read more is told
pub looked : (input output written : List ℕ) (taken : ℕ) (waited seen : Bool) (old new : Option (List ReadMark)) →
    Some output ≡ Some written → waited ≡ seen →
    Gains old (record { taken = taken; put = length written; waited = waited }) new →
    IfSome (option_map (map (look_of input output)) new) (λ after. (before : List Look) × (came put : List ℕ) ×
    (option_map (map (look_of input output)) old ≡ Some before) × (Some (take taken input) ≡ Some came)
    × (Some output ≡ Some put)
    × (after ≡ before ++ record { taken = came; put = put; waited = seen } ∷ []))
looked input output written taken waited seen old None all same gains = tt
looked input output written taken waited seen old (Some after) all same gains =
    let mark : ReadMark = record { taken = taken; put = length written; waited = waited } in
    let before : List Look = map (look_of input output) gains.0 in
    let whole : take (length written) output ≡ output =
    take_all (length written) output (omega (arith, ap length (some_same output written all))) in (
      before,
      take taken input,
      output,
      ap (option_map (map (look_of input output))) gains.1,
      refl,
      refl,
      ap (map (look_of input output)) gains.2 ∙ map-append (look_of input output) gains.0 (mark ∷ [])
          ∙ ap (λ p. before ++ record { taken = take taken input; put = p; waited = waited } ∷ []) whole
          ∙ ap (λ w. before ++ record { taken = take taken input; put = output; waited = w } ∷ []) same,
    )

-- with a mark more, each mark is still of a prefix of what was put
pub marks_more : (size : ℕ) (old new : Option (List ReadMark)) (mark : ReadMark) →
    ForSome old (All (IsWithin size)) → mark.put ≤ size → Gains old mark new → ForSome new (All (IsWithin size))
marks_more size old None mark told fits gains marks is = cc
marks_more size old (Some after) mark told fits gains marks is =
    let same : after ≡ marks = cc in
    subst (All (IsWithin size)) (sym gains.2 ∙ same)
    (All-push (IsWithin size) gains.0 mark (told gains.0 gains.1) fits)
