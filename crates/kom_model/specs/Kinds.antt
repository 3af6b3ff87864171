-- What is said of calls by their numbers; the lists of these are constants of the code.
use Rattle.std.specs.Prelude.{ℕ, ◌==◌, Bool, List}
use Rattle.std.specs.List.{list_any}

-- accept-async, which makes a change though it is refused
abbrev pub accept_async : ℕ
accept_async = 80

-- whether a number stands in a list
abbrev pub is_among : List ℕ → ℕ → Bool
is_among numbers number = list_any (λ one. one == number) numbers
