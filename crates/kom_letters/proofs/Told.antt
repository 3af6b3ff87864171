-- What a content type tells, from one of its bytes on.
use Rattle.std.proofs.Common.{◌≡◌, ℕ, ◌+◌, ◌<◌, List, length, get_or, drop}
use Rattle.std.proofs.lemmas.List.{at_drop_more}
use Rattle.kom_letters.specs.Charsets.{charset_behind, first_of, charset_told}

pub told_step : (xs : List ℕ) (i : ℕ) → i < length xs → charset_told (drop i xs)
    ≡ first_of (charset_behind (get_or xs i 0) (drop (i + 1) xs)) (charset_told (drop (i + 1) xs))
told_step xs i within = at_drop_more charset_told xs i 0 within
