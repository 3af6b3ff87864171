-- What a feed answers.
use Rattle.std.proofs.Common.{◌≡◌, ℕ, List, ◌++◌, Some, None, Err, sym, ap, subst, ◌∙◌}
use Rattle.kom_types.specs.declared.side.Side.{Side}
use Rattle.kom_types.specs.Stream as stream
use Rattle.kom_framing.specs.declared.fault.Fault.{Fault as CodeFault}
use Rattle.kom_framing.specs.declared.fault.Fault.TheVariants as found
use Rattle.kom_framing.specs.declared.splitter.FeedRefusal.{FeedRefusal}
use Rattle.kom_framing.specs.declared.units.Unit.{Unit as StreamUnit}
use Rattle.kom_framing.specs.Splitting.{Splitting, units_of, IsAtBy, Answers}
use Rattle.kom_framing.specs.BegunLines.{fault_seen}
use Rattle.kom_framing.specs.Advancing.{Stands, Falls}
use Rattle.kom_framing.specs.Refusing.{refused_by}
use Rattle.kom_framing.proofs.Fed.{fault_stays}

module _ (side : Side) where
  -- a fault and the splitter at it are the answer
  answer_by : (f : CodeFault) (fed : List ℕ) (s : Splitting) (taken : List StreamUnit)
      → (stream.stream_by side fed).fault ≡ Some (fault_seen f) → IsAtBy side s fed taken
      → Answers side (Err (refused_by f)) fed s taken
  answer_by (found.Malformed place) fed s taken e at = (e, at)
  answer_by (found.LineTooLong place) fed s taken e at = (e, at)

  at_fault : (s : Splitting) (f : CodeFault) (fed : List ℕ) (taken : List StreamUnit) → s.side ≡ side
      → s.fault ≡ Some (fault_seen f)
      → units_of (stream.stream_by side fed) ≡ taken ++ s.held → (stream.stream_by side fed).fault ≡ Some (fault_seen f)
      → IsAtBy side s fed taken
  at_fault s f fed taken own has all fault = record {
    side_is = own;
    units = all;
    fault = has ∙ sym fault;
    begun = λ none. let clash = sym has ∙ none in absurd cc;
    place = λ none. let clash = sym has ∙ none in absurd cc;
  }

  -- a fault is answered again
  pub fault_answer : (s : Splitting) (f : CodeFault) (piece fed : List ℕ) (taken : List StreamUnit)
      → s.fault ≡ Some (fault_seen f) → IsAtBy side s fed taken
      → Answers side (Err (refused_by f)) (fed ++ piece) s taken
  fault_answer s f piece fed taken has at =
      let fault : (stream.stream_by side fed).fault ≡ Some (fault_seen f) = sym at.fault ∙ has in
      let stays = fault_stays side fed piece (fault_seen f) fault in
      let still : (stream.stream_by side (fed ++ piece)).fault ≡ Some (fault_seen f) =
      ap (λ (split : stream.Split). split.fault) stays ∙ fault in
      answer_by f (fed ++ piece) s taken still
      (at_fault s f (fed ++ piece) taken at.side_is has (ap units_of stays ∙ at.units) still)

  pub stands_at : (s : Splitting) (fed : List ℕ) (taken : List StreamUnit) → s.fault ≡ None → IsAtBy side s fed taken
      → Stands s.side s.held s.begun s.place fed taken
  stands_at s fed taken sound at = subst (λ (own : Side). Stands own s.held s.begun s.place fed taken)
      (sym at.side_is)
      (record {
        all = at.units;
        sound = sym at.fault ∙ sound;
        unit = at.begun sound;
        count = at.place sound;
      })

  -- a piece without a fault
  pub ok_answer : (s : Splitting) (fed : List ℕ) (taken : List StreamUnit) → s.side ≡ side → s.fault ≡ None
      → Stands s.side s.held s.begun s.place fed taken
      → ((stream.stream_by side fed).fault ≡ None) × IsAtBy side s fed taken
  ok_answer s fed taken own none stood =
      let stands : Stands side s.held s.begun s.place fed taken =
      subst (λ (whose : Side). Stands whose s.held s.begun s.place fed taken) own stood in (
        stands.sound,
        record {
          side_is = own;
          units = stands.all;
          fault = none ∙ sym stands.sound;
          begun = λ e. stands.unit;
          place = λ e. stands.count;
        },
      )

  -- a piece with a fault
  pub err_answer : (s : Splitting) (f : CodeFault) (refused : FeedRefusal) (fed : List ℕ) (taken : List StreamUnit)
      → refused ≡ refused_by f → s.side ≡ side → s.fault ≡ Some (fault_seen f) → Falls s.side s.held f fed taken
      → Answers side (Err refused) fed s taken
  err_answer s f refused fed taken e own has fell =
      let falls : Falls side s.held f fed taken = subst (λ (whose : Side). Falls whose s.held f fed taken) own fell in
      subst (λ (r : FeedRefusal). Answers side (Err r) fed s taken) (sym e)
      (answer_by f fed s taken falls.fault (at_fault s f fed taken own has falls.all falls.fault))
