-- What a splitter owes after a piece, by how the unit that had begun goes on.
use Rattle.std.proofs.Common.{◌≡◌, ℕ, ◌+◌, ◌-◌, ◌≤◌, List, [], ◌∷◌, ◌++◌, length, drop, map, Option, Some, None, refl}
use Rattle.std.proofs.Common.{sym, ap, subst, ◌∙◌, arith, append_assoc}
use Rattle.std.specs.Prelude.{option_to_list, option_map}
use Rattle.std.proofs.lemmas.List.{append-nil, drop_all, length-append, length-drop, map-append}
use Rattle.kom_types.specs.declared.limits.TheConstants.{LONGEST_STREAM}
use Rattle.kom_types.specs.declared.side.Side.{Side}
use Rattle.kom_types.specs.declared.side.Side.TheVariants as sides
use Rattle.kom_types.specs.Token.{Token}
use Rattle.kom_types.specs.Grammar.{Form, Prefix, Whole, Unfit, greeting_form}
use Rattle.kom_types.specs.Stream.{Line, Fault, Split, Verdict, GoesOn, Ends, Fails, greeting_verdict, stopped_in}
use Rattle.kom_types.specs.Stream.{lines_from, greeting_from, stream_by}
use Rattle.kom_framing.specs.declared.fault.Fault.{Fault as CodeFault}
use Rattle.kom_framing.specs.declared.greeting.Greeting.{Greeting as CodeGreeting}
use Rattle.kom_framing.specs.declared.lines.BegunLine.{BegunLine}
use Rattle.kom_framing.specs.declared.lines.Lines.{Lines}
use Rattle.kom_framing.specs.declared.begun.BegunUnit.TheVariants as begun_unit
use Rattle.kom_framing.specs.declared.units.Unit.{Unit as StreamUnit}
use Rattle.kom_framing.specs.declared.units.Unit.TheVariants as unit
use Rattle.kom_framing.specs.Splitting.{Opening, Begun, Greeting, InLine, units_of, begun_by, begun_of, opening_of}
use Rattle.kom_framing.specs.Spans.{tokens_of}
use Rattle.kom_framing.specs.Hearing.{Going, hear_all}
use Rattle.kom_framing.specs.BegunLines.{fault_seen, FailsAt, IsLine, ScansOn, ScansTo, units_at}
use Rattle.kom_framing.specs.BegunGreetings.{greeting_kept, IsBegunGreeting, GreetsOn, GreetsTo, GreetsFail}
use Rattle.kom_framing.specs.WholeLines.{AddsAll, AreLines}
use Rattle.kom_framing.specs.Advancing as advancing
use Rattle.kom_framing.proofs.Hearing.{heard-told, told}
use Rattle.kom_framing.proofs.Streams.{greeted, greeting-append, leaves_prefix, after_letter}
use Rattle.kom_framing.proofs.BegunGreetings.{kept_prefix}
use Rattle.kom_framing.proofs.WholeLines.{with_line-units, with_line-rest, with_line-fault}

-- a stream, and what came after it
abbrev with_more : Split → Split → Split
with_more split more = record {
  greeting = split.greeting;
  lines = split.lines ++ more.lines;
  rest = more.rest;
  fault = more.fault;
}

units_with_more : (split more : Split) → units_of (with_more split more) ≡ units_of split ++ map unit.Line more.lines
units_with_more split more =
    ap (λ (us : List StreamUnit). map unit.Hello (option_to_list split.greeting) ++ us)
    (map-append unit.Line split.lines more.lines)
    ∙ sym (append_assoc (map unit.Hello (option_to_list split.greeting)) (map unit.Line split.lines)
    (map unit.Line more.lines))

regroup : (taken units ended whole : List StreamUnit)
    → taken ++ (units ++ (ended ++ whole)) ≡ taken ++ (units ++ ended ++ whole)
regroup taken units ended whole = ap (λ (us : List StreamUnit). taken ++ us) (sym (append_assoc units ended whole))

lines_early : (place count : ℕ) (piece : List ℕ) → count ≤ length piece
    → place + count + length (drop count piece) ≤ LONGEST_STREAM → place + length piece ≤ LONGEST_STREAM
lines_early place count piece within early = omega (arith, early, length-drop count piece)

nameless_units : (split : Split) → split.greeting ≡ None → split.lines ≡ [] → units_of split ≡ []
nameless_units split none empty =
    ap (λ (g : Option (List ℕ)). map unit.Hello (option_to_list g) ++ map unit.Line split.lines) none
    ∙ ap (λ (ls : List Line). map unit.Line ls) empty

opening_is : (form : Form (List ℕ)) (opening kept : Opening) → told form opening ≡ Going kept → opening ≡ kept
opening_is Prefix opening kept e = cc
opening_is (Whole name) opening kept e = absurd cc
opening_is Unfit opening kept e = absurd cc

module _ (side : Side) where
  -- ---- the unit that has begun

  in_line_by : (greeting : Option (List ℕ)) (rest text : List ℕ) → InLine text ≡ begun_by side greeting rest
      → (name : List ℕ) × ((greeting ≡ Some name) × (rest ≡ text))
  in_line_by None rest text e = absurd cc
  in_line_by (Some name) rest text e = (name, (refl, cc))

  in_greeting_by : (greeting : Option (List ℕ)) (rest : List ℕ) (opening : Opening)
      → Greeting opening ≡ begun_by side greeting rest → (greeting ≡ None) × (opening_of side rest ≡ opening)
  in_greeting_by None rest opening e = (refl, cc)
  in_greeting_by (Some name) rest opening e = absurd cc

  greeted_line : (split : Split) (name : List ℕ) (place : ℕ) (piece : List ℕ) → split.fault ≡ None
      → split.greeting ≡ Some name
      → greeted side split place piece ≡ with_more split (lines_from side place split.rest piece)
  greeted_line split name place piece sound has = rw (sound, has) refl

  greeted_greeting : (split : Split) (place : ℕ) (piece : List ℕ) → split.fault ≡ None → split.greeting ≡ None
      → greeted side split place piece ≡ greeting_from side place split.rest piece
  greeted_greeting split place piece sound has = rw (sound, has) refl

  greeted_fault : (split : Split) (fault : Fault) (place : ℕ) (piece : List ℕ) → split.fault ≡ Some fault
      → greeted side split place piece ≡ split
  greeted_fault split fault place piece at_fault = rw at_fault refl

  stream-append : (fed piece : List ℕ) (place : ℕ) → place ≡ length fed
      → stream_by side (fed ++ piece) ≡ greeted side (stream_by side fed) place piece
  stream-append fed piece place at =
      greeting-append side 0 [] fed piece ∙ ap (λ (p : ℕ). greeted side (stream_by side fed) p piece) (omega arith)

  -- a stream at fault stays as it is
  pub fault_stays : (fed piece : List ℕ) (fault : Fault) → (stream_by side fed).fault ≡ Some fault
      → stream_by side (fed ++ piece) ≡ stream_by side fed
  fault_stays fed piece fault at_fault =
      stream-append fed piece (length fed) refl ∙ greeted_fault (stream_by side fed) fault (length fed) piece at_fault

  begun_with_name : (split : Split) (name : List ℕ) → split.greeting ≡ Some name
      → begun_of side split ≡ InLine split.rest
  begun_with_name split name has = ap (λ (g : Option (List ℕ)). begun_by side g split.rest) has

  -- ---- after a line that has begun

  record FedLine (units : List StreamUnit) (more split : Split) (taken : List StreamUnit) : Type 0 where
    all : units_of split ≡ taken ++ (units ++ map unit.Line more.lines)
    fault : split.fault ≡ more.fault
    begun : begun_of side split ≡ InLine more.rest

  fed_line : (units : List StreamUnit) (text : List ℕ) (place : ℕ) (piece fed : List ℕ) (taken : List StreamUnit)
      → advancing.Stands side units (InLine text) place fed taken
      → FedLine units (lines_from side place text piece) (stream_by side (fed ++ piece)) taken
  fed_line units text place piece fed taken stands =
      let split : Split = stream_by side fed in
      let more : Split = lines_from side place text piece in
      let named = in_line_by split.greeting split.rest text stands.unit in
      let whole : stream_by side (fed ++ piece) ≡ with_more split more =
      stream-append fed piece place stands.count ∙ greeted_line split named.0 place piece stands.sound named.1.0
      ∙ ap (λ (rest : List ℕ). with_more split (lines_from side place rest piece)) named.1.1 in
      record {
        all = ap units_of whole ∙ units_with_more split more
            ∙ ap (λ (us : List StreamUnit). us ++ map unit.Line more.lines) stands.all
            ∙ append_assoc taken units (map unit.Line more.lines);
        fault = ap (λ (s : Split). s.fault) whole;
        begun = ap (begun_of side) whole ∙ begun_with_name (with_more split more) named.0 named.1.0;
      }

  pub line_goes_on : (units : List StreamUnit) (place : ℕ) (old new : BegunLine) (piece : List ℕ)
      → ScansOn side place old piece new
      → advancing.GoesOn side units (begun_unit.Line old) (begun_unit.Line new) place piece
  line_goes_on units place old new piece scanned = record {
    kept = scanned.line;
    early = scanned.early;
    stands = λ fed taken stands.
        let fed_so = fed_line units old.text.items place piece fed taken stands in
        record {
          all = fed_so.all ∙ ap (λ (s : Split). taken ++ (units ++ map unit.Line s.lines)) scanned.split
              ∙ ap (λ (us : List StreamUnit). taken ++ us) (append-nil units);
          sound = fed_so.fault ∙ ap (λ (s : Split). s.fault) scanned.split;
          unit = sym (fed_so.begun ∙ ap (λ (s : Split). InLine s.rest) scanned.split);
          count = omega (arith, stands.count, length-append fed piece);
        };
  }

  -- whole lines came where none had begun
  pub lines_pass : (units after : List StreamUnit) (begun : Begun) (place : ℕ) (piece fed : List ℕ)
      (taken : List StreamUnit)
      → begun ≡ InLine [] → AddsAll place piece units after → advancing.Stands side units begun place fed taken
      → advancing.Stands side after begun (place + length piece) (fed ++ piece) taken
  lines_pass units after begun place piece fed taken fresh adds stands =
      let fed_so =
      fed_line units [] place piece fed taken
      (subst (λ (b : Begun). advancing.Stands side units b place fed taken) fresh stands) in
      let left : lines_from side (place + length piece) [] (drop (length piece) piece) ≡ stopped_in [] None =
      ap (lines_from side (place + length piece) []) (drop_all (length piece) piece (omega arith)) in
      let split = adds.split side in
      record {
        all = fed_so.all
            ∙ ap (λ (us : List StreamUnit). taken ++ (units ++ us))
            (split.lines ∙ ap (λ (s : Split). adds.added ++ map unit.Line s.lines) left ∙ append-nil adds.added)
            ∙ ap (λ (us : List StreamUnit). taken ++ us) (sym adds.units);
        sound = fed_so.fault ∙ split.fault ∙ ap (λ (s : Split). s.fault) left;
        unit = fresh ∙ sym (fed_so.begun ∙ ap InLine (split.rest ∙ ap (λ (s : Split). s.rest) left));
        count = omega (arith, stands.count, length-append fed piece);
      }

  pub line_goes_wrong : (units : List StreamUnit) (place : ℕ) (old new : BegunLine) (piece : List ℕ) (found : CodeFault)
      → FailsAt side place old.text.items piece found × IsLine side new
      → advancing.GoesWrong side units (begun_unit.Line old) (begun_unit.Line new) place piece found
  line_goes_wrong units place old new piece found fails = record {
    kept = fails.1;
    falls = λ fed taken stands.
        let fed_so = fed_line units old.text.items place piece fed taken stands in
        record {
          all = fed_so.all ∙ ap (λ (s : Split). taken ++ (units ++ map unit.Line s.lines)) fails.0.split
              ∙ ap (λ (us : List StreamUnit). taken ++ us) (append-nil units);
          fault = fed_so.fault ∙ ap (λ (s : Split). s.fault) fails.0.split;
        };
  }

  -- what is owed after the end of a unit, by whether there is a fault
  ends_by : (found : Option CodeFault) (units : List StreamUnit) (begun : Begun) (place : ℕ) (fed : List ℕ)
      (taken : List StreamUnit)
      → units_of (stream_by side fed) ≡ taken ++ units → (stream_by side fed).fault ≡ option_map fault_seen found
      → (found ≡ None → begun ≡ begun_of side (stream_by side fed)) → place ≡ length fed
      → advancing.Ends side found units begun place fed taken
  ends_by None units begun place fed taken all fault unit count = record {
    all = all;
    sound = fault;
    unit = unit refl;
    count = count;
  }
  ends_by (Some found) units begun place fed taken all fault unit count = record { all = all; fault = fault }

  pub line_goes_past : (units : List StreamUnit) (place count : ℕ) (old new : BegunLine) (piece : List ℕ)
      (lines : Lines)
      → ScansTo side count place old piece new → AreLines side lines (place + count) (drop count piece)
      → advancing.GoesPast side units (begun_unit.Line old) (begun_unit.Line new) place piece count lines
  line_goes_past units place count old new piece lines scanned tail =
      let tokens : List Token = tokens_of new.text.items new.starts.items in
      let rest : Split = lines_from side (place + count) [] (drop count piece) in
      record {
        can_end = scanned.whole;
        line = tail.line;
        some = scanned.some;
        within = scanned.early;
        early = λ sound. lines_early place count piece scanned.within (tail.early sound);
        ends = λ fed taken stands.
            let fed_so = fed_line units old.text.items place piece fed taken stands in
            let added : map unit.Line (lines_from side place old.text.items piece).lines
            ≡ units_at tokens (place + count - 1) ++ lines.whole.items =
            ap (λ (s : Split). map unit.Line s.lines) scanned.split ∙ with_line-units tokens (place + count - 1) rest
            ∙ ap (λ (us : List StreamUnit). units_at tokens (place + count - 1) ++ us) (sym tail.whole) in
            ends_by lines.fault (units ++ units_at tokens (place + count - 1) ++ lines.whole.items)
            (InLine lines.begun.text.items) (place + length piece) (fed ++ piece) taken
            (fed_so.all ∙ ap (λ (us : List StreamUnit). taken ++ (units ++ us)) added
            ∙ regroup taken units (units_at tokens (place + count - 1)) lines.whole.items)
            (fed_so.fault ∙ ap (λ (s : Split). s.fault) scanned.split ∙ with_line-fault tokens (place + count - 1) rest
            ∙ sym tail.fault)
            (λ sound. ap InLine (tail.rest sound)
            ∙ sym (ap InLine
            (ap (λ (s : Split). s.rest) scanned.split ∙ with_line-rest tokens (place + count - 1) rest))
            ∙ sym fed_so.begun)
            (omega (arith, stands.count, length-append fed piece));
      }

  -- ---- after a greeting that has begun

  nameless_at : (place : ℕ) (text : List ℕ) (byte : ℕ) (bytes : List ℕ) (judged : Verdict (List ℕ))
      → ((greeting_from side (place + 1) (text ++ byte ∷ []) bytes).greeting ≡ None
      → (greeting_from side (place + 1) (text ++ byte ∷ []) bytes).lines ≡ [])
      → (after_letter side place text byte bytes judged).greeting ≡ None
      → (after_letter side place text byte bytes judged).lines ≡ []
  nameless_at place text byte bytes GoesOn later none = later none
  nameless_at place text byte bytes (Ends name) later none = absurd cc
  nameless_at place text byte bytes (Fails fault) later none = refl

  -- a stream without a greeting has no lines
  nameless : (place : ℕ) (text bytes : List ℕ) → (greeting_from side place text bytes).greeting ≡ None
      → (greeting_from side place text bytes).lines ≡ []
  nameless place text [] none = refl
  nameless place text (byte ∷ bytes) none =
      nameless_at place text byte bytes (greeting_verdict side place (text ++ byte ∷ []))
      (λ e. nameless (place + 1) (text ++ byte ∷ []) bytes e) none

  -- no byte of a greeting
  starts : greeting_form side [] ≡ Prefix
  starts =
      elim side as (λ (s : Side). greeting_form s [] ≡ Prefix) [ sides.Client ↦ refl | sides.Server ↦ refl ]

  record FedGreeting (units : List StreamUnit) (opening : Opening) (place : ℕ) (piece fed : List ℕ)
      (taken : List StreamUnit) : Type 0 where
    heard_is : hear_all side (stream_by side fed).rest ≡ Going opening
    split : stream_by side (fed ++ piece) ≡ greeting_from side place (stream_by side fed).rest piece
    all : (more : List StreamUnit) → more ≡ taken ++ (units ++ more)

  fed_greeting : (units : List StreamUnit) (opening : Opening) (place : ℕ) (piece fed : List ℕ)
      (taken : List StreamUnit)
      → advancing.Stands side units (Greeting opening) place fed taken → FedGreeting units opening place piece fed taken
  fed_greeting units opening place piece fed taken stands =
      let split : Split = stream_by side fed in
      let nothing = in_greeting_by split.greeting split.rest opening stands.unit in
      let none : [] ≡ taken ++ units =
      sym (nameless_units split nothing.0 (nameless 0 [] fed nothing.0)) ∙ stands.all in
      record {
        heard_is = kept_prefix side split.rest (leaves_prefix side 0 [] fed starts nothing.0 stands.sound)
            ∙ ap Going nothing.1;
        split = stream-append fed piece place stands.count ∙ greeted_greeting split place piece stands.sound nothing.0;
        all = λ more. ap (λ (us : List StreamUnit). us ++ more) none ∙ append_assoc taken units more;
      }

  pub greeting_goes_on : (units : List StreamUnit) (place : ℕ) (old new : CodeGreeting) (piece : List ℕ)
      → GreetsOn place old piece new
      → advancing.GoesOn side units (begun_unit.Greeting old) (begun_unit.Greeting new) place piece
  greeting_goes_on units place old new piece greets = record {
    kept = greets.greeting;
    early = greets.early;
    stands = λ fed taken stands.
        let fed_so = fed_greeting units (greeting_kept old) place piece fed taken stands in
        let rest : List ℕ = (stream_by side fed).rest in
        let split : stream_by side (fed ++ piece) ≡ stopped_in (rest ++ piece) None =
        fed_so.split ∙ greets.split side rest fed_so.heard_is in
        let kept : opening_of side (rest ++ piece) ≡ greeting_kept new =
        opening_is (greeting_form side (rest ++ piece)) (opening_of side (rest ++ piece)) (greeting_kept new)
        (sym (heard-told side (rest ++ piece)) ∙ greets.heard_more side rest fed_so.heard_is) in
        record {
          all = ap units_of split ∙ fed_so.all [] ∙ ap (λ (us : List StreamUnit). taken ++ us) (append-nil units);
          sound = ap (λ (s : Split). s.fault) split;
          unit = sym (ap (begun_of side) split ∙ ap Greeting kept);
          count = omega (arith, stands.count, length-append fed piece);
        };
  }

  pub greeting_goes_wrong : (units : List StreamUnit) (place : ℕ) (old new : CodeGreeting) (piece : List ℕ)
      (found : CodeFault)
      → GreetsFail place old piece found × IsBegunGreeting new
      → advancing.GoesWrong side units (begun_unit.Greeting old) (begun_unit.Greeting new) place piece found
  greeting_goes_wrong units place old new piece found fails = record {
    kept = fails.1;
    falls = λ fed taken stands.
        let fed_so = fed_greeting units (greeting_kept old) place piece fed taken stands in
        let failed = fails.0.split side (stream_by side fed).rest fed_so.heard_is in
        let split : stream_by side (fed ++ piece) ≡ stopped_in failed.0 (Some (fault_seen found)) =
        fed_so.split ∙ failed.1 in
        record {
          all = ap units_of split ∙ fed_so.all [] ∙ ap (λ (us : List StreamUnit). taken ++ us) (append-nil units);
          fault = ap (λ (s : Split). s.fault) split;
        };
  }

  pub greeting_goes_past : (units : List StreamUnit) (place count : ℕ) (old new : CodeGreeting) (piece : List ℕ)
      (lines : Lines)
      → GreetsTo count place old piece new → AreLines side lines (place + count) (drop count piece)
      → advancing.GoesPast side units (begun_unit.Greeting old) (begun_unit.Greeting new) place piece count lines
  greeting_goes_past units place count old new piece lines greets tail =
      let more : Split = lines_from side (place + count) [] (drop count piece) in
      record {
        can_end = tt;
        line = tail.line;
        some = greets.some;
        within = greets.early;
        early = λ sound. lines_early place count piece greets.within (tail.early sound);
        ends = λ fed taken stands.
            let fed_so = fed_greeting units (greeting_kept old) place piece fed taken stands in
            let split : stream_by side (fed ++ piece) ≡ record more { greeting = Some new.name.items } =
            fed_so.split ∙ greets.split side (stream_by side fed).rest fed_so.heard_is in
            ends_by lines.fault (units ++ (unit.Hello new.name.items ∷ []) ++ lines.whole.items)
            (InLine lines.begun.text.items) (place + length piece) (fed ++ piece) taken
            (ap units_of split ∙ ap (λ (us : List StreamUnit). unit.Hello new.name.items ∷ us) (sym tail.whole)
            ∙ fed_so.all (unit.Hello new.name.items ∷ lines.whole.items)
            ∙ regroup taken units (unit.Hello new.name.items ∷ []) lines.whole.items)
            (ap (λ (s : Split). s.fault) split ∙ sym tail.fault)
            (λ sound. ap InLine (tail.rest sound) ∙ sym (ap (begun_of side) split))
            (omega (arith, stands.count, length-append fed piece));
      }
