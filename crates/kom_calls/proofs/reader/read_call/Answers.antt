use Rattle.std.proofs.Common.{ap, ◌∙◌}
use Rattle.kom_types.specs.Reading.{patterns}
use Rattle.kom_calls.specs.Reads.{pattern_of}
use Rattle.kom_calls.proofs.Readings.{no_reference, no_number, reads_call, takes_room_of, with_reference, told_call}
use Rattle.kom_calls.proofs.Readings.{told_unknown, told_malformed, told_bad_bool, told_long_array, told_memory}
use Rattle.kom_calls.proofs.reader.read_call.Goals as goal

pub returns-in_default-clause-reading : goal.returns-in_default-clause-reading
returns-in_default-clause-reading c =
    no_reference c.args.line.now.tokens c.in_default.field-0 (rw c.of-arguments.ensures at c.in_default.ensures)

pub returns-in_default-integer-clause-reading : goal.returns-in_default-integer-clause-reading
returns-in_default-integer-clause-reading c =
    no_number c.args.line.now.tokens c.integer.new.self c.in-Ok.reference c.in_default-integer.field-0
    (rw c.of-arguments.ensures at c.in-Ok.ensures) c.in_default-integer.ensures

pub returns-in-Ok-Some-clause-reading : goal.returns-in-Ok-Some-clause-reading
returns-in-Ok-Some-clause-reading c =
    reads_call c.args.line.now.tokens c.integer.new.self c.integer-2.new.self c.in-Ok.reference c.in-Ok-integer.number
    (rw c.of-arguments.ensures at c.in-Ok.ensures) c.in-Ok-integer.ensures
    ∙ ap (with_reference c.in-Ok.reference)
    (told_call (pattern_of c.in-Ok-integer.number patterns) c.integer-2.new.self c.call_by_number.new.arguments
    c.in-Ok-Some.call
    (rw c.in-Ok-Some.field-0-is at c.in-Ok-Some.ensures))

pub returns-in-Ok-None-clause-reading : goal.returns-in-Ok-None-clause-reading
returns-in-Ok-None-clause-reading c =
    reads_call c.args.line.now.tokens c.integer.new.self c.integer-2.new.self c.in-Ok.reference c.in-Ok-integer.number
    (rw c.of-arguments.ensures at c.in-Ok.ensures) c.in-Ok-integer.ensures
    ∙ ap (with_reference c.in-Ok.reference)
    (told_unknown (pattern_of c.in-Ok-integer.number patterns) c.integer-2.new.self c.call_by_number.new.arguments
    (rw c.in-Ok-None.field-0-is at c.in-Ok-None.ensures))

pub returns-in-Err-Malformed-clause-reading : goal.returns-in-Err-Malformed-clause-reading
returns-in-Err-Malformed-clause-reading c =
    reads_call c.args.line.now.tokens c.integer.new.self c.integer-2.new.self c.in-Ok.reference c.in-Ok-integer.number
    (rw c.of-arguments.ensures at c.in-Ok.ensures) c.in-Ok-integer.ensures
    ∙ ap (with_reference c.in-Ok.reference)
    (told_malformed (pattern_of c.in-Ok-integer.number patterns) c.integer-2.new.self c.call_by_number.new.arguments
    (rw c.in-Err-Malformed.field-0-is at c.in-Err-Malformed.ensures))

pub returns-in-Err-BadBool-clause-reading : goal.returns-in-Err-BadBool-clause-reading
returns-in-Err-BadBool-clause-reading c =
    reads_call c.args.line.now.tokens c.integer.new.self c.integer-2.new.self c.in-Ok.reference c.in-Ok-integer.number
    (rw c.of-arguments.ensures at c.in-Ok.ensures) c.in-Ok-integer.ensures
    ∙ ap (with_reference c.in-Ok.reference)
    (told_bad_bool (pattern_of c.in-Ok-integer.number patterns) c.integer-2.new.self c.call_by_number.new.arguments
    (rw c.in-Err-BadBool.field-0-is at c.in-Err-BadBool.ensures))

pub returns-in-Err-LongArray-clause-reading : goal.returns-in-Err-LongArray-clause-reading
returns-in-Err-LongArray-clause-reading c =
    reads_call c.args.line.now.tokens c.integer.new.self c.integer-2.new.self c.in-Ok.reference c.in-Ok-integer.number
    (rw c.of-arguments.ensures at c.in-Ok.ensures) c.in-Ok-integer.ensures
    ∙ ap (with_reference c.in-Ok.reference)
    (told_long_array (pattern_of c.in-Ok-integer.number patterns) c.integer-2.new.self c.call_by_number.new.arguments
    (rw c.in-Err-LongArray.field-0-is at c.in-Err-LongArray.ensures))

pub returns-in-Err-Memory-clause-room : goal.returns-in-Err-Memory-clause-room
returns-in-Err-Memory-clause-room c =
    takes_room_of c.args.line.now.tokens c.integer.new.self c.integer-2.new.self c.in-Ok.reference
    c.in-Ok-integer.number
    (rw c.of-arguments.ensures at c.in-Ok.ensures) c.in-Ok-integer.ensures
    ∙ told_memory c.in-Ok-integer.number c.integer-2.new.self c.call_by_number.new.arguments
    (rw c.in-Err-Memory.field-0-is at c.in-Err-Memory.ensures)
