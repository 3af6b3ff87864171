-- A look at a text.
use Rattle.std.proofs.Common.{◌≡◌, ℕ, ◌<◌, ◌^◌, Bool, false, List, [], ◌∷◌, map, Option, Some, None, sym}
use Rattle.std.proofs.Common.{ap, ◌∙◌}
use Rattle.std.specs.Prelude.{filter_map}
use Rattle.kom_types.specs.declared.calls.Call.TheVariants as call
use Rattle.kom_types.specs.declared.replies.Reply.{Reply}
use Rattle.kom_types.specs.declared.texts.MiscInfo.{MiscInfo}
use Rattle.kom_types.specs.declared.texts.TextStat.{TextStat}
use Rattle.kom_sweep.specs.declared.ages.Ages.{Ages}
use Rattle.kom_sweep.specs.declared.names.Names.{Names}
use Rattle.kom_sweep.specs.Told.{tell}
use Rattle.kom_sweep.specs.Replies.{stat_in}
use Rattle.kom_sweep.specs.Acting.{Seen, Goes}
use Rattle.kom_sweep.specs.Due.{Walk, Room, Look, child_in, children_of, is_whole, is_due_by}
use Rattle.kom_sweep.specs.Ages.{TellsOf}
use Rattle.kom_sweep.specs.Names.{Knows, is_due_at}
use Rattle.kom_sweep.specs.Walks.{IsLook, told_look, told_child}
use Rattle.kom_sweep.proofs.Going.{goes_on}
use Rattle.kom_sweep.proofs.Judging.{judged}

abbrev pub LooksAt : ℕ → ℕ → ℕ → Seen → Seen → Names → Bool → Type 0
LooksAt session text moment x y kept is_now = (look : Look) × IsLook look × Goes session x y (told_look text look)
    × ((rooms : Walk Room) → Knows rooms.steps (is_whole rooms) kept →
    is_now ≡ is_due_by moment rooms text (stat_in look.stat) look.children)

pub look_untold : (session text moment : ℕ) (answer : Option Reply) (x y : Seen) (kept : Names) →
    Goes session x y (tell (call.GetTextStat text) answer ∷ []) → stat_in answer ≡ None →
    LooksAt session text moment x y kept false
look_untold session text moment answer x y kept goes e = (
  record { stat = answer; children = [] },
  ap children_of (sym e),
  goes,
  λ rooms knows. ap (λ stat. is_due_by moment rooms text stat []) (sym e),
)

pub look_told : (session text moment : ℕ) (answer : Option Reply) (stat : TextStat) (infos : List MiscInfo)
    (ages : Ages) (is_now : Bool) (x m y : Seen) (kept : Names) → text < 2 ^ 32 →
    Goes session x m (tell (call.GetTextStat text) answer ∷ []) → stat_in answer ≡ Some stat → infos ≡ stat.misc_infos →
    ((children : List (ℕ × Option Reply)) × (map (λ child. child.0) children ≡ filter_map child_in infos)
    × Goes session m y (map told_child children) × TellsOf moment children ages) →
    is_now ≡ is_due_at kept moment text stat ages → LooksAt session text moment x y kept is_now
look_told session text moment answer stat infos ages is_now x m y kept small goes e same
    (children, names, then_goes, tells) is = (
      record { stat = answer; children = children },
      names ∙ ap (filter_map child_in) same ∙ ap children_of (sym e),
      goes_on x m y goes then_goes,
      λ rooms knows. is ∙ judged rooms kept moment text stat children ages small knows tells
          ∙ ap (λ stat. is_due_by moment rooms text stat children) (sym e),
    )
