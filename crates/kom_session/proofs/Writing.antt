-- What a write to the link is to a machine.
use Rattle.std.proofs.Common.{◌≡◌, ℕ, zero, suc, ◌+◌, ◌-◌, ◌≤◌, ◌<◌, List, [], ◌∷◌, ◌++◌, length, take, drop, refl, sym}
use Rattle.std.proofs.Common.{◌∙◌, ap}
use Rattle.std.proofs.Common.{append_assoc, arith, length-drop}
use Rattle.std.proofs.lemmas.List.{take-append-drop, drop-append-le}
use Rattle.std.proofs.Math.Seq.{drop-nil}
use Rattle.std.proofs.Math.ListN.{drop_of_length-le}
use Rattle.std.specs.Prelude.{flat_map}
use Rattle.kom_types.specs.Printing.{print_of}
use Rattle.kom_framing.specs.Writing.{Written}
use Rattle.kom_links.specs.declared.link.Took.{Took}
use Rattle.kom_links.specs.declared.link.Took.TheVariants as took
use Rattle.kom_links.specs.declared.served.SessionEnd.TheVariants as end
use Rattle.kom_links.specs.Outside.{LinkView, Writes, written_bytes, with_bytes}
use Rattle.kom_session.specs.declared.machine.Machine.{Machine}
use Rattle.kom_session.specs.declared.phase.Stage.TheVariants as stage
use Rattle.kom_session.specs.Known.{Known, Puts, known_by, to_write, to_print}
use Rattle.kom_session.specs.Kept.{IsOn, IfWritten}
use Rattle.kom_session.proofs.Going.{goes_link}
use Rattle.kom_session.proofs.Served.{served_sent, served_known}
use Rattle.kom_session.proofs.Stages.{on_later}
use Rattle.kom_session.proofs.Reading.{rose_since}

puts : (before : LinkView) (from bytes : List ℕ) (answer : Took) (after : LinkView)
    → Writes before from answer after → written_bytes answer from ≡ bytes → Puts before bytes after
puts before from bytes answer after writes e = record {
  put = writes.put ∙ ap (λ bytes. with_bytes bytes before.put) e;
  taken = writes.taken;
  ended = writes.ended;
  host = writes.host;
  reads = writes.reads;
  faults = writes.faults;
}

-- these bytes of what was pending were put
pub sent_on : (known : Known) → IsOn known.stage → (from bytes pending : List ℕ) (answer : Took)
    → written_bytes answer from ≡ bytes → known.pending ≡ bytes ++ pending →
    IfWritten known from answer (record known { pending = pending })
sent_on known on from bytes pending answer written e now link writes =
    goes_link (λ some. refl) (λ start kept. record {
      past = kept.past;
      served = served_sent kept.served bytes pending link e
          (puts now.link from bytes answer link writes written);
      stage = on_later start kept.past known now (record known { pending = pending })
          (record now { link = link }) refl refl refl refl (λ early. early) (λ e. e) known.stage on
          kept.stage;
    })

-- the link failed
pub unwritten_over : (known : Known) (from : List ℕ)
    → IfWritten known from took.Failed (record known { stage = stage.Over end.LinkFault })
unwritten_over known from now link writes =
    goes_link (λ some. refl) (λ start kept. record {
      past = kept.past;
      served =
          served_known
          (served_sent kept.served [] known.pending link refl
          (puts now.link from [] took.Failed link writes refl))
          known.splitting (stage.Over end.LinkFault) known.bad;
      stage = record {
        plan = tt;
        heard = rose_since start.link.faults now.link.faults link.faults
            kept.served.others.faults writes.may;
        sent = tt;
      };
    })

-- ---- the bytes of a buffer

pub dropped : (place count : ℕ) (bytes : List ℕ)
    → drop (place + count) bytes ≡ drop count (drop place bytes)
dropped zero count bytes =
    let e : 0 + count ≡ count = omega arith in ap (λ (n : ℕ). drop n bytes) e
dropped (suc place) count [] = drop-nil (suc place + count) ∙ sym (drop-nil count)
dropped (suc place) count (byte ∷ bytes) =
    let e : suc place + count ≡ suc (place + count) = omega arith in
    ap (λ (n : ℕ). drop n (byte ∷ bytes)) e ∙ dropped place count bytes

-- where some are left behind a place, those fit behind it
pub place_fits : (place count : ℕ) (bytes : List ℕ) → count ≤ length (drop place bytes)
    → place < length bytes → place + count ≤ length bytes
place_fits place count bytes less inside =
    let left : count ≤ length bytes - place = rw (sym (length-drop place bytes)) less in
    omega (arith, left, inside)

-- where none is left behind it
pub none_left : (place count : ℕ) (bytes : List ℕ) → length bytes ≤ place
    → drop place bytes ≡ drop count (drop place bytes)
none_left place count bytes over =
    let none : drop place bytes ≡ [] = drop_of_length-le bytes over in
    none ∙ sym (ap (drop count) none ∙ drop-nil count)

pub written_more : (written count place : ℕ) (bytes rest : List ℕ)
    → drop place bytes ≡ drop count (drop written bytes) →
    drop written bytes ++ rest ≡ take count (drop written bytes) ++ (drop place bytes ++ rest)
written_more written count place bytes rest e =
    ap (λ all. all ++ rest) (sym (take-append-drop count (drop written bytes)))
    ∙ append_assoc (take count (drop written bytes)) (drop count (drop written bytes)) rest
    ∙ ap (λ tail. take count (drop written bytes) ++ (tail ++ rest)) (sym e)

-- what is printed after these bytes
pub printed_more : (written : ℕ) (before after rest rest' : List ℕ) → before ++ rest' ≡ after ++ rest
    → written ≤ length before → written ≤ length after →
    drop written before ++ rest' ≡ drop written after ++ rest
printed_more written before after rest rest' e less more =
    sym (drop-append-le written before rest' less) ∙ ap (drop written) e
    ∙ drop-append-le written after rest more

-- Items were printed after what is unwritten.
pub printed_known : (old mid : Machine) (writer : Written) (printed : ℕ)
    → mid ≡ record old { writer = mid.writer; written = mid.written }
    → to_write mid ≡ to_write old → mid.written ≤ length mid.writer.bytes →
    writer.bytes ++ flat_map print_of (drop printed mid.items.items)
    ≡ mid.writer.bytes ++ flat_map print_of (to_print mid)
    → length mid.writer.bytes ≤ length writer.bytes →
    known_by (record mid { writer = writer; printed = printed }) ≡ known_by old
printed_known old mid writer printed same kept inside e grows =
    ap (λ pending. record (known_by mid) { pending = pending })
    (printed_more mid.written writer.bytes mid.writer.bytes
    (flat_map print_of (to_print mid)) (flat_map print_of (drop printed mid.items.items)) e
    (omega (arith, inside, grows)) inside)
    ∙ ap known_by same
    ∙ ap (λ bytes. record (known_by old) { pending = bytes ++ flat_map print_of (to_print old) }) kept
