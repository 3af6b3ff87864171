use Rattle.std.proofs.Common.{◌≡◌, ℕ, ◌<◌, ◌^◌, Bool, false, ltb, List, [], filter, length, take, subst, sym, ◌∙◌}
use Rattle.std.proofs.Common.{arith}
use Rattle.std.proofs.lemmas.Bool.{le-ltb}
use Rattle.std.proofs.lemmas.List.{take_all}
use Rattle.std.proofs.lemmas.Result.{IfOk-weaker}
use Rattle.kom_types.specs.declared.texts.LocalText.{LocalText}
use Rattle.kom_model.specs.declared.viewers.Viewer.{Viewer}
use Rattle.kom_model.specs.Db.{Db, created_by}
use Rattle.kom_model.specs.Rights.{reads}
use Rattle.local_maps.specs.Pairs.{AllBelow, IsRising, from_on}
use Rattle.local_maps.specs.Parts.{AreTaken}
use Rattle.local_maps.proofs.Shown.{IsWalked, walk-hidden, walk-taken, walk-stopped, walk-ended, are_taken-filter}
use Rattle.query_calls.proofs.created.created_up.Goals as goal

abbrev is_read : Db → Viewer → LocalText → Bool
is_read db viewer pair = reads db viewer pair.text

-- of no pairs none are taken
none_taken : (test : LocalText → Bool) (pairs : List LocalText) (first count : ℕ) → IsRising pairs →
    AllBelow (2 ^ 32) pairs → from_on first pairs ≡ [] → AreTaken (filter test pairs) first count [] false
none_taken test pairs first count rising fits none =
    are_taken-filter test pairs first count [] false rising fits
    (subst (λ (l : List LocalText). [] ≡ take count (filter test l)) (sym none) (sym (take_all count [] (omega arith))))
    (subst (λ (l : List LocalText). false ≡ ltb count (length (filter test l))) (sym none)
    (sym (le-ltb count 0 (omega arith))))

pub returns-in_default : goal.returns-in_default
returns-in_default c =
    let db = c.rows-rows.result.now.db in let viewer = c.caller-caller.result in
    let made = created_by db c.args.person in
    rw (← c.caller-caller.ensures, ← c.rows-rows.ensures)
    (IfOk-weaker c.upward.result _ _
    (λ mapping is. rw c.next_created-next.ensures at (is (filter (is_read db viewer) made) c.args.count
    (subst (λ (items : List LocalText). AreTaken (filter (is_read db viewer) made) c.args.first c.args.count items
    false)
    (sym c.new-taken.ensures.items)
    (none_taken (is_read db viewer) made c.args.first c.args.count c.created_from.ensures.rising
    c.created_from.ensures.fits c.in_default.ensures.pairs))))
    c.upward.ensures)

pub returns-then-len-count : goal.returns-then-len-count
returns-then-len-count c =
    let db = c.rows-rows.result.now.db in let viewer = c.caller-caller.result in
    let made = created_by db c.args.person in
    let len : c.len.result ≡ length c.loop-pair.taken.items = c.len.ensures ∙ c.loop-pair.taken.ok.0 in
    rw (← c.caller-caller.ensures, ← c.rows-rows.ensures)
    (IfOk-weaker c.upward-then-len-count.result _ _
    (λ mapping is. rw c.next_created-next.ensures at (is (filter (is_read db viewer) made) c.args.count
    (walk-stopped (is_read db viewer) made c.args.first c.args.count c.loop-pair.taken.items c.loop-pair.pair-iterator
    c.loop-pair.invariant c.in-Some-pair.pair c.next.new.self c.in-Some-pair.ensures.steps
    c.created_from.ensures.rising c.created_from.ensures.fits (sym c.reads.ensures ∙ c.if-reads.true)
    (sym len ∙ c.if-len-count.true))))
    c.upward-then-len-count.ensures)

pub loop-pair-preserved-in-Continue-1 : goal.loop-pair-preserved-in-Continue-1
loop-pair-preserved-in-Continue-1 c =
    let db = c.rows-rows.result.now.db in let viewer = c.caller-caller.result in
    let made = created_by db c.args.person in
    let len : c.len.result ≡ length c.loop-pair.taken.items = c.len.ensures ∙ c.loop-pair.taken.ok.0 in
    let few = c.loop-pair.invariant.few in
    let other = c.if-len-count.false in
    let room : length c.loop-pair.taken.items < c.args.count = omega (arith, len, few, other) in
    subst (λ items. IsWalked (is_read db viewer) made c.args.first c.args.count items c.next.new.self)
    (sym c.in_ok-push.ensures.items)
    (walk-taken (is_read db viewer) made c.args.first c.args.count c.loop-pair.taken.items c.loop-pair.pair-iterator
    c.loop-pair.invariant c.in-Some-pair.pair c.next.new.self c.in-Some-pair.ensures.steps
    (sym c.reads.ensures ∙ c.if-reads.true) room)

pub loop-pair-preserved : goal.loop-pair-preserved
loop-pair-preserved c =
    let db = c.rows-rows.result.now.db in let viewer = c.caller-caller.result in
    walk-hidden (is_read db viewer) (created_by db c.args.person) c.args.first c.args.count c.loop-pair.taken.items
    c.loop-pair.pair-iterator c.loop-pair.invariant c.in-Some-pair.pair c.next.new.self c.in-Some-pair.ensures.steps
    (sym c.reads.ensures ∙ c.if-reads.false)

pub returns : goal.returns
returns c =
    let db = c.rows-rows.result.now.db in let viewer = c.caller-caller.result in
    let made = created_by db c.args.person in
    rw (← c.caller-caller.ensures, ← c.rows-rows.ensures)
    (IfOk-weaker c.upward-2.result _ _
    (λ mapping is. rw c.next_created-next.ensures at (is (filter (is_read db viewer) made) c.args.count
    (walk-ended (is_read db viewer) made c.args.first c.args.count c.loop-pair.taken.items c.loop-pair.pair-iterator
    c.loop-pair.invariant c.in-None.ensures.steps.0
    c.created_from.ensures.rising c.created_from.ensures.fits)))
    c.upward-2.ensures)
