use Rattle.std.proofs.Common.{◌≡◌, drop}
use Rattle.kom_letters.specs.Charsets.{charset_told}
use Rattle.kom_letters.proofs.charsets.charset_told.Given as goal

abbrev pub invariant-loop-i : goal.invariant-loop-i
invariant-loop-i l = charset_told (drop l.i l.content_type) ≡ charset_told l.content_type
