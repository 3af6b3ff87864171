use Rattle.std.proofs.Common.{◌+◌, ◌++◌, Some, Err, length, refl, sym, ap, subst, ◌∙◌}
use Rattle.std.specs.Prelude.{option_map}
use Rattle.kom_framing.specs.declared.splitter.FeedRefusal.{FeedRefusal}
use Rattle.kom_framing.specs.Splitting.{Splitting, IsAtBy, Answers}
use Rattle.kom_framing.specs.BegunLines.{fault_seen}
use Rattle.kom_framing.specs.Advancing.{begun_seen}
use Rattle.kom_framing.proofs.Feeds.{fault_answer, stands_at, ok_answer, err_answer}
use Rattle.kom_framing.proofs.splitter.Splitter.feed.Goals as goal

pub returns-in-Some-clause-fed : goal.returns-in-Some-clause-fed
returns-in-Some-clause-fed c = λ side fed taken at.
    let has = ap (λ (s : Splitting). s.fault) (sym c.self.view_is) ∙ ap (option_map fault_seen) c.in-Some.is in
    subst (λ (r : FeedRefusal). Answers side (Err r) (fed ++ c.args.piece.now) c.args.self.now taken)
    (sym c.refusal_of.ensures) (fault_answer side c.args.self.now c.in-Some.found c.args.piece.now fed taken has at)

pub returns-in-Ok-None-clause-fed : goal.returns-in-Ok-None-clause-fed
returns-in-Ok-None-clause-fed c = λ side fed taken at.
    let here = subst (λ (s : Splitting). IsAtBy side s fed taken) (sym c.self.view_is) at in
    let none = ap (option_map fault_seen) c.in-None.is in
    let follows = rw c.in-Ok-None.field-0-is at c.in-Ok-None.ensures.follows in
    let new : Splitting = record {
      side = c.self.inside.side;
      held = c.follow.new.units.items;
      begun = begun_seen c.follow.new.begun;
      place = c.self.inside.place + length c.args.piece.now;
      fault = option_map fault_seen c.self.inside.fault;
    } in
    ok_answer side new (fed ++ c.args.piece.now) taken here.side_is none
    (follows.1 fed taken (stands_at side _ fed taken none here))

pub returns-in-Ok-Some-clause-fed : goal.returns-in-Ok-Some-clause-fed
returns-in-Ok-Some-clause-fed c = λ side fed taken at.
    let here = subst (λ (s : Splitting). IsAtBy side s fed taken) (sym c.self.view_is) at in
    let none = ap (option_map fault_seen) c.in-None.is in
    let follows = rw c.in-Ok-Some.field-0-is at c.in-Ok-Some.ensures.follows in
    let new : Splitting = record {
      side = c.self.inside.side;
      held = c.follow.new.units.items;
      begun = begun_seen c.follow.new.begun;
      place = c.self.inside.place;
      fault = Some (fault_seen c.in-Ok-Some.found);
    } in
    err_answer side new c.in-Ok-Some.found c.refusal_of-in-Ok-Some.result (fed ++ c.args.piece.now) taken
    c.refusal_of-in-Ok-Some.ensures here.side_is refl
    (follows.1 fed taken (stands_at side _ fed taken none here))
