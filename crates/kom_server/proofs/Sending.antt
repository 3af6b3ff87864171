-- A book's entries may cross threads, where its disk may.
use Rattle.std.proofs.Crossing.{crosses}
use denote.RattleType.{RattleType}
use denote.Struct.Struct.{Struct}
use denote.Struct.Declared.{shape}
use denote.Param.Send.{IsSend, SendAt, recorded_send_of, struct_send_at, sendable}
use Rattle.std.specs.contracts.snapshot.Snapshot.{the_row as snapshot_row}
use Rattle.std.specs.contracts.option.Option.{the_row as option_row}
use Rattle.kom_disk.specs.declared.disk.Disk.{Ghosts}
use Rattle.kom_types.specs.contracts.acts.Made.{the_row as made_row}
use Rattle.kom_journal.specs.contracts.journal.Journal.{the_row as journal_row}
use Rattle.kom_book.specs.contracts.ticked.Ticked.{the_row, the_type}

at_value : (R : RattleType) → IsSend R → (x : R.Denot) → SendAt R x
at_value R sends x = (sends.owned x, λ k. sends.leaving k x)

pub ticked_send : (T : RattleType) (d : Ghosts T.Denot) → IsSend T → IsSend (the_row T d)
ticked_send T d sends =
    let stored : RattleType = snapshot_row (option_row (journal_row T d)) in
    let stored_sends : IsSend stored = search (crosses, sendable) depth 60 fits 20000 in
    let made_sends : IsSend made_row = search (crosses, sendable) depth 60 fits 20000 in
    recorded_send_of (Struct (shape (the_type T d))) (the_type T d).D (the_type T d).to (the_type T d).to_one
    (λ x. struct_send_at (shape (the_type T d)) ((the_type T d).to x) (
      at_value made_row made_sends x.made,
      (at_value stored stored_sends x.store, tt),
    ))
