-- Threads may share a pass, since what its seat owns says the same to every thread.
use denote.RattleType.{RattleType}
use denote.Param.Send.{IsSend, IsSync, part_keyless, recorded_sync, struct_sync, sendable}
use denote.Struct.Declared.{shape}
use Rattle.std.specs.contracts.option.Option.{the_row as OptionOf}
use Rattle.atomic_table.specs.contracts.shared.Seat.{the_row as SeatOf}
use Rattle.atomic_table.proofs.Sent.{seat_keyless}
use Rattle.kom_state_lock.specs.declared.booked.Booked.{Ghosts}
use Rattle.kom_state_lock.specs.contracts.views.View.{the_row as ViewOf}
use Rattle.kom_state_lock.specs.contracts.pass.Pass.TheInside as inside

seat_send : (S V : RattleType) → IsSend S → IsSend (SeatOf S V)
seat_send S V s = record {
  owned = λ d vs. (
    (λ vss. (tt, ((λ uss. (tt, tt)), tt))),
    seat_keyless S s V.coded.code d.table_id d.id d.me,
  );
  leaving = λ k f vs. tt;
}

seat_sync : (S V : RattleType) → IsSend S → IsSync (SeatOf S V)
seat_sync S V s = record { shared = λ d b o κ q. part_keyless (SeatOf S V) (seat_send S V s) q d b o }

pub pass_sync : (B E : RattleType) (g : Ghosts B.Denot E.Denot) → IsSend B → IsSync (inside.the_row B E g)
pass_sync B E g s =
    let value : IsSend (OptionOf B) = search sendable depth 12 in
    recorded_sync (inside.the_field B E g).row _ _ (inside.the_type B E g).to_one
    (struct_sync (shape (inside.the_type B E g))
    (search sendable depth 12, (search sendable depth 12, (seat_sync (OptionOf B) (ViewOf B E) value, tt))))
