use Rattle.std.proofs.Common.{◌≡◌, ◌+◌, ◌<◌, ◌^◌, None, SomeIff, ap, subst, ⊎_elim, arith}
use Rattle.std.proofs.lemmas.Bool.{cases_lt}
use Rattle.std.proofs.lemmas.Result.{err_from_is_err_and}
use Rattle.conferences.proofs.secret.SecretNumbers.reserve.Goals as goal

-- the numbers cannot be counted, and so are more than there is room for
pub returns-in_err-room-clause-err : goal.returns-in_err-room-clause-err
returns-in_err-room-clause-err c =
    let failed = err_from_is_err_and c.from_residual.result c.from_residual.ensures.1 in
    let total = c.args.conferences + c.args.additional in
    let none : c.checked_add.result ≡ None = c.in_err-room.ensures.ok_part in
    let past : total < 2 ^ 64 → ⊥ = subst (λ sum. SomeIff sum (total < 2 ^ 64) total) none c.checked_add.ensures in
    let room = ap (λ list. list.room) c.self.view_is in
    rw failed.1 (⊎_elim (λ low. absurd (past low)) (λ high. omega (arith, c.self.inside.numbers.small))
    (cases_lt total (2 ^ 64)))
