-- The bytes that are counted of what waits.
use Rattle.std.proofs.Common.{◌≡◌, ℕ, ◌+◌, ◌-◌, ◌≤◌, List, [], ◌∷◌, ◌++◌, length, arith}
use Rattle.kom_types.specs.declared.limits.TheConstants.{MOST_WAITING_BYTES}
use Rattle.kom_types.specs.Printing.{print_of}
use Rattle.kom_types.specs.Sessions.{Waiting, printed_bytes}
use Rattle.sessions.specs.Outboxes.{IsOutbox}

printed_bytes-push : (waiting : List Waiting) (one : Waiting) →
    printed_bytes (waiting ++ one ∷ []) ≡ printed_bytes waiting + length (print_of one.item)
printed_bytes-push [] one = omega arith
printed_bytes-push (first ∷ waiting) one = omega (arith, printed_bytes-push waiting one)

-- an item that fits was added
pub IsOutbox-push : (waiting : List Waiting) (capacity printed len : ℕ) (one : Waiting) →
    IsOutbox waiting capacity printed → len ≡ length (print_of one.item) → len ≤ MOST_WAITING_BYTES - printed →
    IsOutbox (waiting ++ one ∷ []) capacity (printed + len)
IsOutbox-push waiting capacity printed len one is printed_to fit =
    let bytes = printed_bytes-push waiting one in
    record {
      places = is.places;
      counted = omega (arith, is.counted, printed_to, bytes);
      bounded = omega (arith, is.bounded);
    }
