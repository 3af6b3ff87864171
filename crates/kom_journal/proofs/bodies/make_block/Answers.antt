use Rattle.std.proofs.Common.{◌≡◌, ◌≤◌, ◌+◌, length, take, drop, arith, length-drop}
use Rattle.std.proofs.lemmas.List.{length-take-le}
use Rattle.std.proofs.lemmas.Result.{err_from_is_err_and}
use Rattle.kom_journal.proofs.Parts.{block_made, block_refused, last_refused}
use Rattle.kom_journal.proofs.Reading.{block_read}
use Rattle.kom_journal.proofs.bodies.make_block.Goals as goal

pub returns-in_err-used-clause-unfit : goal.returns-in_err-used-clause-unfit
returns-in_err-used-clause-unfit g c told =
    let bytes = g.D.Disk.bytes c.args.disk.now in
    let held = c.in-Ok.held in
    let given = c.deref.result.now in
    let into = c.read_block.new.into in
    let counts : c.args.end ≤ length bytes =
    omega (arith, g.met.D.Disk.counts_bytes c.args.disk.now told, c.requires.within.1) in
    let within : c.args.at + held ≤ c.args.end = omega (arith, c.in-Ok.ensures.count, c.requires.within.0) in
    let long_into : length into ≡ c.args.buffer.now.len =
    omega (arith, c.read_block.auto.into, c.as_mut_slice.ensures.len) in
    let fits : held ≤ c.args.buffer.now.len = omega (arith, c.in-Ok.ensures.count, c.as_mut_slice.ensures.len) in
    let is : take held given ≡ take held (drop c.args.at bytes) =
    block_read given into c.args.buffer.now.items c.as_mut_slice.result.now bytes c.args.buffer.now.len held c.args.at
    c.deref.ensures.value long_into fits (c.in-Ok.ensures.given told)
    (omega (arith, within, counts, length-drop c.args.at bytes)) in
    let long : length (take held given) ≡ held =
    length-take-le held given (omega (arith, fits, c.deref.ensures.len)) in
    let p = err_from_is_err_and c.from_residual.result c.from_residual.ensures.1 in
    rw (p.1, p.2) (λ same.
    block_refused g.M.BodyMaker.makes g.M.BodyMaker.refuses g.met.M.BodyMaker.in_turn g.met.M.BodyMaker.later
    c.args.at held c.args.end bytes (take held given) within is long c.args.maker.now
    (c.in_err-used.ensures.unfit same))

pub returns-then-held-left-clause-unfit : goal.returns-then-held-left-clause-unfit
returns-then-held-left-clause-unfit g c told same =
    let bytes = g.D.Disk.bytes c.args.disk.now in
    let held = c.in-Ok.held in
    let given = c.deref.result.now in
    let into = c.read_block.new.into in
    let counts : c.args.end ≤ length bytes =
    omega (arith, g.met.D.Disk.counts_bytes c.args.disk.now told, c.requires.within.1) in
    let within : c.args.at + held ≤ c.args.end = omega (arith, c.in-Ok.ensures.count, c.requires.within.0) in
    let long_into : length into ≡ c.args.buffer.now.len =
    omega (arith, c.read_block.auto.into, c.as_mut_slice.ensures.len) in
    let fits : held ≤ c.args.buffer.now.len = omega (arith, c.in-Ok.ensures.count, c.as_mut_slice.ensures.len) in
    let is : take held given ≡ take held (drop c.args.at bytes) =
    block_read given into c.args.buffer.now.items c.as_mut_slice.result.now bytes c.args.buffer.now.len held c.args.at
    c.deref.ensures.value long_into fits (c.in-Ok.ensures.given told)
    (omega (arith, within, counts, length-drop c.args.at bytes)) in
    let long : length (take held given) ≡ held =
    length-take-le held given (omega (arith, fits, c.deref.ensures.len)) in
    last_refused g.M.BodyMaker.makes g.M.BodyMaker.refuses g.met.M.BodyMaker.in_turn g.met.M.BodyMaker.later
    c.args.at held c.args.end bytes (take held given) within is long c.args.maker.now c.make_parts.new.maker
    c.in_ok-used.used c.in_ok-used.ensures.made c.if-used-held.true
    (omega (arith, c.if-held-left.true, c.requires.within.0))

pub returns-in_ok-grow-clause-made : goal.returns-in_ok-grow-clause-made
returns-in_ok-grow-clause-made g c told =
    let bytes = g.D.Disk.bytes c.args.disk.now in
    let held = c.in-Ok.held in
    let given = c.deref.result.now in
    let into = c.read_block.new.into in
    let counts : c.args.end ≤ length bytes =
    omega (arith, g.met.D.Disk.counts_bytes c.args.disk.now told, c.requires.within.1) in
    let within : c.args.at + held ≤ c.args.end = omega (arith, c.in-Ok.ensures.count, c.requires.within.0) in
    let long_into : length into ≡ c.args.buffer.now.len =
    omega (arith, c.read_block.auto.into, c.as_mut_slice.ensures.len) in
    let fits : held ≤ c.args.buffer.now.len = omega (arith, c.in-Ok.ensures.count, c.as_mut_slice.ensures.len) in
    let is : take held given ≡ take held (drop c.args.at bytes) =
    block_read given into c.args.buffer.now.items c.as_mut_slice.result.now bytes c.args.buffer.now.len held c.args.at
    c.deref.ensures.value long_into fits (c.in-Ok.ensures.given told)
    (omega (arith, within, counts, length-drop c.args.at bytes)) in
    let long : length (take held given) ≡ held =
    length-take-le held given (omega (arith, fits, c.deref.ensures.len)) in
    block_made g.M.BodyMaker.makes g.M.BodyMaker.refuses g.met.M.BodyMaker.in_turn g.met.M.BodyMaker.later
    c.args.at held c.args.end bytes (take held given) within is long c.args.maker.now c.make_parts.new.maker
    c.in_ok-used.used c.in_ok-used.ensures.made

pub returns-else-used-eq0-clause-made : goal.returns-else-used-eq0-clause-made
returns-else-used-eq0-clause-made g c told =
    let bytes = g.D.Disk.bytes c.args.disk.now in
    let held = c.in-Ok.held in
    let given = c.deref.result.now in
    let into = c.read_block.new.into in
    let counts : c.args.end ≤ length bytes =
    omega (arith, g.met.D.Disk.counts_bytes c.args.disk.now told, c.requires.within.1) in
    let within : c.args.at + held ≤ c.args.end = omega (arith, c.in-Ok.ensures.count, c.requires.within.0) in
    let long_into : length into ≡ c.args.buffer.now.len =
    omega (arith, c.read_block.auto.into, c.as_mut_slice.ensures.len) in
    let fits : held ≤ c.args.buffer.now.len = omega (arith, c.in-Ok.ensures.count, c.as_mut_slice.ensures.len) in
    let is : take held given ≡ take held (drop c.args.at bytes) =
    block_read given into c.args.buffer.now.items c.as_mut_slice.result.now bytes c.args.buffer.now.len held c.args.at
    c.deref.ensures.value long_into fits (c.in-Ok.ensures.given told)
    (omega (arith, within, counts, length-drop c.args.at bytes)) in
    let long : length (take held given) ≡ held =
    length-take-le held given (omega (arith, fits, c.deref.ensures.len)) in
    block_made g.M.BodyMaker.makes g.M.BodyMaker.refuses g.met.M.BodyMaker.in_turn g.met.M.BodyMaker.later
    c.args.at held c.args.end bytes (take held given) within is long c.args.maker.now c.make_parts.new.maker
    c.in_ok-used.used c.in_ok-used.ensures.made
