use Rattle.std.proofs.Common.{◌≡◌, ℕ, List, [], ◌++◌, refl, sym, ap, subst, ◌∙◌, take, append-nil, get_or}
use Rattle.std.specs.List.{insert}
use Rattle.std.proofs.lemmas.List.{at_drop_all}
use Rattle.kom_types.specs.declared.memberships.Placed.{Placed}
use Rattle.row_slots.specs.Lists.{list_of}
use Rattle.kom_telling.specs.Sections.{joined_after}
use Rattle.kom_telling.specs.declared.section.Joined.{Joined}
use Rattle.kom_telling.proofs.Ranks.{below, Ranked, ranked-on, counts-on, counts-more, counts-none, count-ranked}
use Rattle.kom_telling.proofs.keys.ranked.Goals as goal

-- what stands beyond the end of a list
abbrev nobody : Placed
nobody = record { person = 0; conference = 0; position = 0 }

pub loop-one-init : goal.loop-one-init
loop-one-init c = record {
  ranked = ap (λ (l : List Joined). l ++ joined_after [] c.args.placed.now) c.in_ok-joined.ensures.items;
  before = counts-none (list_of c.new-before.result) c.new-before.ensures;
}

pub loop-one-preserved : goal.loop-one-preserved
loop-one-preserved c =
    let placed = c.args.placed.now in
    let at = c.loop-one.one-index in
    let one = get_or placed at nobody in
    let is : get_or placed at nobody ≡ one = refl in
    let within = c.loop-one-test.true in
    let rank_is =
    c.in-Ok.ensures.1 ∙ c.place_among-place.ensures.count ∙ ap (below one.position) c.list.ensures
    ∙ c.loop-one.invariant.before.counted one.person one.position ∙ count-ranked one (take at placed) in
    let kept = c.in_ok-reserve.ensures.lists in
    let here =
    c.insert.ensures.list
    ∙ ap (λ (l : List ℕ). insert l c.place_among-place.result one.position) (kept one.person) in
    let others = λ (other : ℕ) (unlike : other ≡ one.person → ⊥).
    c.insert.ensures.others.lists other unlike ∙ kept other in
    let rises = rw c.list.ensures at c.place_among-place.ensures.rising in
    record {
      ranked = subst (Ranked placed _) (sym c.in_ok-push.ensures.items)
          (ranked-on placed at nobody one c.loop-one.joined.items _ within is rank_is c.loop-one.invariant.ranked);
      before = counts-more (list_of c.insert.new.self) placed at nobody one within is
          (counts-on one (take at placed) c.place_among-place.result (list_of c.loop-one.before)
          (list_of c.insert.new.self) c.loop-one.invariant.before rises here others);
    }

pub place_among-place-requires : goal.place_among-place-requires
place_among-place-requires c =
    let one = get_or c.args.placed.now c.loop-one.one-index nobody in
    rw c.list.ensures (c.loop-one.invariant.before.rising one.person)

pub returns : goal.returns
returns c =
    let placed = c.args.placed.now in
    sym (append-nil c.loop-one.joined.items)
    ∙ sym (at_drop_all (λ (l : _). c.loop-one.joined.items
    ++ joined_after (take c.loop-one.one-index placed) l) placed c.loop-one.one-index
    c.loop-one-test.false)
    ∙ c.loop-one.invariant.ranked
