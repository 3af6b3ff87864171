-- Comments and footnotes that are asked about.
use Rattle.std.proofs.Common.{◌≡◌, ℕ, ◌+◌, ◌<◌, ◌≤◌, List, [], ◌∷◌, ◌++◌, map, take, length, get_or, Option, Some, None}
use Rattle.std.proofs.Common.{option_map, refl, sym, ap, subst, ◌∙◌, append-nil}
use Rattle.std.specs.Prelude.{filter_map}
use Rattle.std.proofs.lemmas.List.{map-append, take_all}
use Rattle.kom_types.specs.declared.calls.Call.TheVariants as call
use Rattle.kom_types.specs.declared.replies.Reply.{Reply}
use Rattle.kom_types.specs.declared.texts.MiscInfo.{MiscInfo}
use Rattle.kom_sweep.specs.declared.ages.Ages.{Ages}
use Rattle.kom_sweep.specs.Told.{Told, tell}
use Rattle.kom_sweep.specs.Replies.{stat_in}
use Rattle.kom_sweep.specs.Acting.{Seen, Goes}
use Rattle.kom_sweep.specs.Due.{child_in, age}
use Rattle.kom_sweep.specs.Walks.{told_child}
use Rattle.kom_sweep.specs.Ages.{TellsOf, with_age}
use Rattle.kom_sweep.proofs.Lists.{named_more}
use Rattle.kom_sweep.proofs.Going.{goes_on, goes_none}
use Rattle.kom_sweep.proofs.Judging.{tells-more}

none_named : (info : MiscInfo) → child_in info ≡ None → filter_map child_in (info ∷ []) ≡ []
none_named info e = rw (e) refl

one_named : (info : MiscInfo) (text : ℕ) → child_in info ≡ Some text → filter_map child_in (info ∷ []) ≡ text ∷ []
one_named info text e = rw (e) refl

-- what is asked about one link of a text
abbrev pub AsksOne : ℕ → ℕ → Seen → Seen → MiscInfo → Ages → Ages → Type 0
AsksOne session moment x y info ages new =
    (children : List (ℕ × Option Reply)) × (map (λ child. child.0) children ≡ filter_map child_in (info ∷ []))
    × Goes session x y (map told_child children)
    × ((before : List (ℕ × Option Reply)) → TellsOf moment before ages → TellsOf moment (before ++ children) new)

pub no_child : (session moment : ℕ) (info : MiscInfo) (ages : Ages) (x : Seen) → child_in info ≡ None →
    ((children : List (ℕ × Option Reply)) × (map (λ child. child.0) children ≡ filter_map child_in (info ∷ []))
    × Goes session x x (map told_child children)
    × ((before : List (ℕ × Option Reply)) → TellsOf moment before ages → TellsOf moment (before ++ children) ages))
no_child session moment info ages x e = (
  [],
  sym (none_named info e),
  goes_none session x,
  λ before tells. subst (λ (all : List (ℕ × Option Reply)). TellsOf moment all ages) (sym (append-nil before)) tells,
)

pub one_child : (session moment text : ℕ) (info : MiscInfo) (ages new : Ages) (answer : Option Reply) (x y : Seen) →
    child_in info ≡ Some text → Goes session x y (tell (call.GetTextStat text) answer ∷ []) →
    new ≡ with_age ages (option_map (λ stat. age moment stat) (stat_in answer)) →
    ((children : List (ℕ × Option Reply)) × (map (λ child. child.0) children ≡ filter_map child_in (info ∷ []))
    × Goes session x y (map told_child children)
    × ((before : List (ℕ × Option Reply)) → TellsOf moment before ages → TellsOf moment (before ++ children) new))
one_child session moment text info ages new answer x y e goes is = (
  (text, answer) ∷ [],
  sym (one_named info text e),
  goes,
  λ before tells. subst (TellsOf moment (before ++ (text, answer) ∷ [])) (sym is)
      (tells-more moment before ages text answer tells),
)

pub ages_step : (session moment : ℕ) (infos : List MiscInfo) (i : ℕ) (d : MiscInfo) (ages new : Ages) (x m y : Seen) →
    i < length infos →
    ((children : List (ℕ × Option Reply)) × (map (λ child. child.0) children ≡ filter_map child_in (take i infos))
    × Goes session x m (map told_child children) × TellsOf moment children ages) →
    ((children : List (ℕ × Option Reply))
    × (map (λ child. child.0) children ≡ filter_map child_in (get_or infos i d ∷ []))
    × Goes session m y (map told_child children)
    × ((before : List (ℕ × Option Reply)) → TellsOf moment before ages → TellsOf moment (before ++ children) new)) →
    ((children : List (ℕ × Option Reply)) × (map (λ child. child.0) children ≡ filter_map child_in (take (i + 1) infos))
    × Goes session x y (map told_child children) × TellsOf moment children new)
ages_step session moment infos i d ages new x m y less (before, names, goes, tells)
    (more, one, then_goes, then_tells) = (
      before ++ more,
      named_more child_in infos i d before more less names one,
      subst (λ (calls : List Told). Goes session x y calls) (sym (map-append told_child before more))
          (goes_on x m y goes then_goes),
      then_tells before tells,
    )

-- all were asked about
pub ages_end : (session moment : ℕ) (infos : List MiscInfo) (i : ℕ) (ages : Ages) (x y : Seen) → length infos ≤ i →
    ((children : List (ℕ × Option Reply)) × (map (λ child. child.0) children ≡ filter_map child_in (take i infos))
    × Goes session x y (map told_child children) × TellsOf moment children ages) →
    ((children : List (ℕ × Option Reply)) × (map (λ child. child.0) children ≡ filter_map child_in infos)
    × Goes session x y (map told_child children) × TellsOf moment children ages)
ages_end session moment infos i ages x y past (children, names, goes, tells) =
    (children, names ∙ ap (filter_map child_in) (take_all i infos past), goes, tells)
