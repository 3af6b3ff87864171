-- What a drain is to a machine.
use Rattle.std.proofs.Common.{◌≡◌, ◌≢◌, ℕ, false, List, [], ◌++◌, Option, Ok, Err, refl, sym, ◌∙◌, ap, append-nil}
use Rattle.std.specs.Prelude.{⊤, flat_map}
use Rattle.kom_types.specs.declared.acts.Act.TheVariants as act
use Rattle.kom_types.specs.declared.items.Item.{Item}
use Rattle.kom_types.specs.Printing.{print_of}
use Rattle.kom_links.specs.declared.deeds.Deed.TheVariants as deed
use Rattle.kom_types.specs.declared.answers.NotMade.{NotMade}
use Rattle.kom_links.specs.Answers.{is_nothing}
use Rattle.kom_links.specs.DeskCalls.{DeskView, record_of}
use Rattle.kom_links.specs.DeskCalls.{Drains as DrainsOf}
use Rattle.kom_links.specs.Doors.{Gains}
use Rattle.kom_session.specs.declared.phase.Phase.TheVariants as phase
use Rattle.kom_session.specs.Kept.{Goes, IsOn}
use Rattle.kom_session.specs.Known.{Known, Seen, state, sight, note_fault, after_fault}
use Rattle.kom_session.specs.Serving.{Past, IsServed}
use Rattle.kom_session.proofs.Going.{goes_record, goes_refused}
use Rattle.kom_session.proofs.Served.{served_calm, served_known, drained_some, drained_none, drain_refused}
use Rattle.kom_session.proofs.Stages.{fault_stage, on_later}

-- who is drained has a session
drains_some : {start : Seen} {past : Past} {known : Known} {now : Seen}
    → IsServed start past known now → known.phase ≡ phase.Draining → known.session ≢ 0
drains_some s draining = λ none. let calm = served_calm s none in cc

pub drain_gave : (known : Known) → IsOn known.stage → known.phase ≡ phase.Draining →
    (now : Seen) (moment : ℕ) (items : List Item) (desk : DeskView) (gave : Option (List ℕ))
    → DrainsOf {X = ⊤} now.desk moment known.session items (Ok tt) desk → Gains now.gave moment gave →
    Goes (state known now)
    (state (record known { pending = known.pending ++ flat_map print_of items })
    (sight desk now.link gave))
drain_gave known on draining now moment items desk gave drains gains =
    goes_record (deed.Drain known.session (is_nothing items)) (Ok tt)
    (record_of now.desk.pass moment (act.Drain known.session) known.session false) gains
    (λ some. refl) drains.added drains.rest.tells
    (λ start kept. record {
      past = kept.past;
      served =
          drained_some kept.served (drains_some kept.served draining) draining moment tt items desk
          gave drains;
      stage =
          on_later start kept.past known now
          (record known { pending = known.pending ++ flat_map print_of items })
          (sight desk now.link gave) refl refl refl refl (λ early. early) (λ denied. denied)
          known.stage on kept.stage;
    })

pub drain_nothing : (known : Known) → IsOn known.stage → known.phase ≡ phase.Draining →
    (now : Seen) (moment : ℕ) (desk : DeskView) (gave : Option (List ℕ))
    → DrainsOf {X = ⊤} now.desk moment known.session [] (Ok tt) desk → Gains now.gave moment gave →
    Goes (state known now) (state (record known { phase = phase.Calm }) (sight desk now.link gave))
drain_nothing known on draining now moment desk gave drains gains =
    goes_record (deed.Drain known.session (is_nothing [])) (Ok tt)
    (record_of now.desk.pass moment (act.Drain known.session) known.session false) gains
    (λ some. refl) drains.added drains.rest.tells
    (λ start kept. record {
      past = kept.past;
      served =
          drained_none kept.served (drains_some kept.served draining) draining moment tt desk gave
          drains;
      stage =
          on_later start kept.past known now (record known { phase = phase.Calm })
          (sight desk now.link gave) refl refl refl refl (λ early. tt) (λ denied. absurd (cc denied))
          known.stage on kept.stage;
    })

pub drain_denied : (known : Known) → IsOn known.stage → known.phase ≡ phase.Draining →
    (now : Seen) (moment : ℕ) (reason : NotMade) (items : List Item) (desk : DeskView)
    (gave : Option (List ℕ))
    → DrainsOf {X = ⊤} now.desk moment known.session items (Err reason) desk
    → Gains now.gave moment gave →
    Goes (state known now)
    (state
    (record known {
      cause = note_fault known.cause reason;
      phase = phase.Denied;
      stage = after_fault known.stage;
    }) (sight desk now.link gave))
drain_denied known on draining now moment reason items desk gave drains gains =
    goes_refused (deed.Drain known.session (is_nothing items)) (Err reason) moment gains
    (λ some. refl) drains.rest.none_added drains.rest.tells
    (λ start kept.
    let some = drains_some kept.served draining in
    record {
      past = kept.past;
      served =
          served_known (drain_refused kept.served some moment reason items desk gave drains)
          known.splitting (after_fault known.stage) known.bad;
      stage =
          fault_stage kept.served some on kept.stage reason phase.Denied (sight desk now.link gave);
    })

-- ---- what is pending

-- what was drained is printed after what is unwritten
pub drained_pending : (unwritten : List ℕ) (before items : List Item) → before ≡ [] →
    unwritten ++ flat_map print_of items
    ≡ (unwritten ++ flat_map print_of before) ++ flat_map print_of items
drained_pending unwritten before items none =
    ap (λ first. first ++ flat_map print_of items)
    (sym (ap (λ (before : List Item). unwritten ++ flat_map print_of before) none
    ∙ append-nil unwritten))

-- nothing was
pub same_pending : (unwritten : List ℕ) (before items : List Item) → before ≡ [] → items ≡ [] →
    unwritten ++ flat_map print_of items ≡ unwritten ++ flat_map print_of before
same_pending unwritten before items none nothing =
    ap (λ (items : List Item). unwritten ++ flat_map print_of items) (nothing ∙ sym none)
