-- What a client hears of its server, read by read.
use Rattle.std.proofs.Common.{◌≡◌, ℕ, ◌≤◌, ◌||◌, Bool, true, false, List, [], ◌∷◌, ◌++◌, take, Option, Some}
use Rattle.std.proofs.Common.{None, Result, Ok, Err}
use Rattle.std.proofs.Common.{refl, sym, ap, subst, ◌∙◌, append_assoc, append-nil}
use Rattle.std.specs.Prelude.{option_map}
use Rattle.kom_types.specs.declared.side.Side.TheVariants as side
use Rattle.kom_types.specs.Reading.{place_of}
use Rattle.kom_types.specs.Stream.{Fault, stream_by}
use Rattle.kom_framing.specs.declared.units.Unit.{Unit as StreamUnit}
use Rattle.kom_framing.specs.Splitting.{Splitting, IsAtBy, units_of}
use Rattle.kom_links.specs.declared.link.Got.TheVariants as got
use Rattle.kom_links.specs.Outside.{LinkView, Reads}
use Rattle.kom_client.specs.declared.talk_end.TalkEnd.{TalkEnd}
use Rattle.kom_client.specs.declared.talk_end.TalkEnd.TheVariants as end
use Rattle.kom_client.specs.Talking.{IsHearing, Listens, IsUnheard, HearsNone, Feeds, HearsMore, HearsUnit}
use Rattle.kom_client.proofs.Links.{listens_none, listens_trans, rose_after}
use Rattle.kom_client.proofs.Streams.{continues}

-- ---- a piece is fed

no_fault : (fault : Option Fault) → ((found : Fault) → fault ≡ Some found → ⊥) → fault ≡ None
no_fault None never = refl
no_fault (Some found) never = absurd (never found refl)

pub fed_on : (old new : Splitting) (fault : Option ℕ) (piece : List ℕ) →
    ((found : Fault) → old.fault ≡ Some found → ⊥) →
    ((fed : List ℕ) (taken : List StreamUnit) → IsAtBy side.Server old fed taken
    → ((stream_by side.Server (fed ++ piece)).fault ≡ None) × IsAtBy side.Server new (fed ++ piece) taken) →
    (fed : List ℕ) (taken : List StreamUnit) → IsHearing old fault fed taken → IsHearing new fault (fed ++ piece) taken
fed_on old new fault piece never feeds fed taken h =
    let facts = feeds fed taken h.at in
    record {
      at = facts.1;
      known = h.known ∙ ap (option_map place_of) (no_fault old.fault never)
          ∙ ap (option_map place_of) (sym (facts.1.fault ∙ facts.0));
    }

pub fed_faulty : (old new : Splitting) (found : Fault) (piece : List ℕ) →
    ((fed : List ℕ) (taken : List StreamUnit) → IsAtBy side.Server old fed taken
    → ((stream_by side.Server (fed ++ piece)).fault ≡ Some found) × IsAtBy side.Server new (fed ++ piece) taken) →
    (fault : Option ℕ) (fed : List ℕ) (taken : List StreamUnit) → IsHearing old fault fed taken
    → IsHearing new (Some (place_of found)) (fed ++ piece) taken
fed_faulty old new found piece feeds fault fed taken h =
    let facts = feeds fed taken h.at in
    record { at = facts.1; known = sym (ap (option_map place_of) (facts.1.fault ∙ facts.0)) }

-- ---- a read

or_true : (b : Bool) → (b || true) ≡ true
or_true true = refl
or_true false = refl

no_place : (fault : Option Fault) → option_map place_of fault ≡ None → fault ≡ None
no_place None e = refl
no_place (Some fault) e = absurd cc

-- nothing more was fed
units_here : {splitting : Splitting} {fault : Option ℕ} {fed : List ℕ} {taken : List StreamUnit}
    → IsHearing splitting fault fed taken → splitting.held ≡ []
    → units_of (stream_by side.Server (fed ++ [])) ≡ taken ++ []
units_here {splitting} {fault} {fed} {taken} h none =
    ap (λ (bytes : List ℕ). units_of (stream_by side.Server bytes)) (append-nil fed) ∙ h.at.units
    ∙ ap (λ (held : List StreamUnit). taken ++ held) none

pub heard_fault : {splitting : Splitting} {fault : Option ℕ} {fed : List ℕ} {taken : List StreamUnit} (link : LinkView)
    (place : ℕ) → fault ≡ Some place → IsHearing splitting fault fed taken → splitting.held ≡ []
    → HearsNone (end.Broken place) fed taken link link
heard_fault {splitting} {fault} {fed} {taken} link place e h none = record {
  piece = [];
  more = [];
  listens = listens_none link;
  units = units_here h none;
  why = (
    refl,
    ap (λ (bytes : List ℕ). option_map place_of (stream_by side.Server bytes).fault) (append-nil fed)
        ∙ ap (option_map place_of) (sym h.at.fault) ∙ sym h.known ∙ e,
  );
}

pub heard_end : {splitting : Splitting} {fault : Option ℕ} {fed : List ℕ} {taken : List StreamUnit} {old new : LinkView}
    {buffer : List ℕ} → fault ≡ None → Reads old buffer got.End new → IsHearing splitting fault fed taken
    → splitting.held ≡ [] → HearsNone end.ServerEnd fed taken old new
heard_end {splitting} {fault} {fed} {taken} {old} {new} {buffer} e r h none = record {
  piece = [];
  more = [];
  listens = record { taken = r.taken; put = r.put; faults = r.faults };
  units = units_here h none;
  why = (
    refl,
    ap (λ (bytes : List ℕ). (stream_by side.Server bytes).fault) (append-nil fed) ∙ sym h.at.fault
        ∙ no_place splitting.fault (sym h.known ∙ e),
    r.ended ∙ or_true old.ended,
  );
}

pub heard_failed : {splitting : Splitting} {fault : Option ℕ} {fed : List ℕ} {taken : List StreamUnit}
    {old new : LinkView} {buffer : List ℕ} → Reads old buffer got.Failed new → IsHearing splitting fault fed taken
    → splitting.held ≡ [] → HearsNone end.LinkFault fed taken old new
heard_failed {splitting} {fault} {fed} {taken} {old} {new} {buffer} r h none = record {
  piece = [];
  more = [];
  listens = record { taken = r.taken; put = r.put; faults = r.faults };
  units = units_here h none;
  why = r.may;
}

hearing_here : {splitting : Splitting} {fault : Option ℕ} {fed : List ℕ} {taken : List StreamUnit}
    → IsHearing splitting fault fed taken → IsHearing splitting fault (fed ++ []) taken
hearing_here {splitting} {fault} {fed} {taken} h =
    subst (λ (bytes : List ℕ). IsHearing splitting fault bytes taken) (sym (append-nil fed)) h

pub heard_not_yet : (splitting : Splitting) (fault : Option ℕ) (old new : LinkView) (buffer : List ℕ)
    → Reads old buffer got.NotYet new → (fed : List ℕ) (taken : List StreamUnit) → IsHearing splitting fault fed taken
    → (piece : List ℕ) × Listens old piece new × IsHearing splitting fault (fed ++ piece) taken
heard_not_yet splitting fault old new buffer r fed taken h =
    ([], record { taken = r.taken; put = r.put; faults = r.faults }, hearing_here h)

unfed : {splitting : Splitting} {fault : Option ℕ} {fed : List ℕ} {taken : List StreamUnit} {old new : LinkView}
    (piece : List ℕ) → Listens old piece new → IsHearing splitting fault fed taken → splitting.held ≡ []
    → HearsNone end.Memory fed taken old new
unfed {splitting} {fault} {fed} {taken} piece l h none =
    let more = continues fed piece in
    record {
      piece = piece;
      more = more.more;
      listens = l;
      units = more.units
          ∙ ap (λ (units : List StreamUnit). units ++ more.more)
          (h.at.units ∙ ap (λ (held : List StreamUnit). taken ++ held) none ∙ append-nil taken);
      why = tt;
    }

-- a piece was read, and fed or not
pub heard_piece : (done : Result (Unit {0}) TalkEnd) (splitting splitting' : Splitting) (fault fault' : Option ℕ)
    (old new : LinkView) (piece : List ℕ) → Listens old piece new → Feeds done splitting fault piece splitting' fault'
    → HearsMore done splitting fault old splitting' fault' new
heard_piece (Ok done) splitting splitting' fault fault' old new piece l feeds =
    λ fed taken h. (piece, l, feeds fed taken h)
heard_piece (Err ending) splitting splitting' fault fault' old new piece l e = λ fed taken h none.
    subst (λ (ending : TalkEnd). HearsNone ending fed taken old new) (sym e) (unfed piece l h none)

pub read_listens : (old new : LinkView) (buffer : List ℕ) (count : ℕ) → Reads old buffer (got.Some count) new
    → Listens old (take count buffer) new
read_listens old new buffer count r = record { taken = r.taken; put = r.put; faults = r.faults }

-- ---- reads, one after the other

pub hears_none : (splitting : Splitting) (fault : Option ℕ) (link : LinkView) (fed : List ℕ) (taken : List StreamUnit)
    → IsHearing splitting fault fed taken
    → (piece : List ℕ) × Listens link piece link × IsHearing splitting fault (fed ++ piece) taken
hears_none splitting fault link fed taken h = ([], listens_none link, hearing_here h)

abbrev pub Hears : Splitting → Option ℕ → LinkView → Splitting → Option ℕ → LinkView → Type 0
Hears splitting fault old splitting' fault' new = (fed : List ℕ) (taken : List StreamUnit)
    → IsHearing splitting fault fed taken
    → (piece : List ℕ) × Listens old piece new × IsHearing splitting' fault' (fed ++ piece) taken

pub hears_on : {a b c : Splitting} {fa fb fc : Option ℕ} {la lb lc : LinkView} → Hears a fa la b fb lb
    → Hears b fb lb c fc lc → Hears a fa la c fc lc
hears_on {a} {b} {c} {fa} {fb} {fc} p q = λ fed taken h.
    let one = p fed taken h in
    let two = q (fed ++ one.0) taken one.2 in (
      one.0 ++ two.0,
      listens_trans one.1 two.1,
      subst (λ (bytes : List ℕ). IsHearing c fc bytes taken) (append_assoc fed one.0 two.0) two.2,
    )

unheard_since : (ending : TalkEnd) (more : List StreamUnit) (fault : Option Fault) (old mid new : LinkView)
    → old.faults ≤ mid.faults → IsUnheard ending more fault mid new → IsUnheard ending more fault old new
unheard_since end.ServerEnd more fault old mid new small why = why
unheard_since (end.Broken place) more fault old mid new small why = why
unheard_since end.LinkFault more fault old mid new small why = rose_after old.faults mid.faults new.faults small why
unheard_since end.Memory more fault old mid new small why = why
unheard_since end.End more fault old mid new small why = why
unheard_since end.KeysFault more fault old mid new small why = why
unheard_since end.SinkFault more fault old mid new small why = why

pub hears_not : {a b : Splitting} {fa fb : Option ℕ} {la lb lc : LinkView} (ending : TalkEnd) → Hears a fa la b fb lb
    → ((fed : List ℕ) (taken : List StreamUnit) → IsHearing b fb fed taken → HearsNone ending fed taken lb lc)
    → (fed : List ℕ) (taken : List StreamUnit) → IsHearing a fa fed taken → HearsNone ending fed taken la lc
hears_not {a} {b} {fa} {fb} {la} {lb} {lc} ending p q = λ fed taken h.
    let one = p fed taken h in
    let n = q (fed ++ one.0) taken one.2 in
    let same = append_assoc fed one.0 n.piece in
    record {
      piece = one.0 ++ n.piece;
      more = n.more;
      listens = listens_trans one.1 n.listens;
      units = ap (λ (bytes : List ℕ). units_of (stream_by side.Server bytes)) (sym same) ∙ n.units;
      why =
          subst (λ (bytes : List ℕ). IsUnheard ending n.more (stream_by side.Server bytes).fault la lc) same
          (unheard_since ending n.more _ la lb lc one.1.faults n.why);
    }

-- a unit is taken
pub hears_unit : {a b c : Splitting} {fa fb : Option ℕ} {la lb : LinkView} (next : StreamUnit) → Hears a fa la b fb lb
    → c.fault ≡ b.fault
    → ((fed : List ℕ) (taken : List StreamUnit) → IsAtBy side.Server b fed taken
    → IsAtBy side.Server c fed (taken ++ next ∷ []))
    → HearsUnit (Ok next) a fa la c fb lb
hears_unit {a} {b} {c} {fa} {fb} next p same at = λ fed taken h.
    let one = p fed taken h in (
      one.0,
      one.1,
      record { at = at (fed ++ one.0) taken one.2.at; known = one.2.known ∙ ap (option_map place_of) (sym same) },
    )
