-- Parts of the texts of a conference or an author, by local numbers. The rules for the range that a
-- part tells of are this server's choice. (Protocol A, "local-to-global", "map-created-texts" and
-- "local-to-global-reverse".)
use Rattle.std.specs.Prelude.{ℕ, ◌+◌, ◌-◌, Bool, true, ◌==◌, ◌||◌, ◌&&◌, nat_le, nat_lt, max}
use Rattle.std.specs.Prelude.{List, [], ◌∷◌, length, map, take, drop, if◌then◌else◌}
use Rattle.std.specs.List.{filter}
use Rattle.kom_types.specs.declared.texts.Block.{Block}
use Rattle.kom_types.specs.declared.texts.Block.TheVariants.{Sparse, Dense}
use Rattle.kom_types.specs.declared.texts.LocalText.{LocalText}
use Rattle.kom_types.specs.declared.texts.Mapping.{Mapping}

-- no local number is missing between these, nor after this one
abbrev pub goes_on_from : ℕ → List LocalText → Bool
goes_on_from local [] = true
goes_on_from local (one ∷ more) = one.local == local + 1 && goes_on_from one.local more

-- pairs by rising local numbers: dense where there are some and no number is missing between them
abbrev pub block_of : List LocalText → Block
block_of [] = Sparse []
block_of (one ∷ more) =
    if goes_on_from one.local more then Dense one.local (map (λ pair. pair.text) (one ∷ more))
    else Sparse (one ∷ more)

-- the number after the last pair, or this one if there is none
abbrev pub after_last : ℕ → List LocalText → ℕ
after_last least [] = least
after_last least (one ∷ more) = after_last (one.local + 1) more

-- the number of the first pair, or this one if there is none
abbrev pub first_of : ℕ → List LocalText → ℕ
first_of end [] = end
first_of end (one ∷ more) = one.local

-- A mapping upwards: the first `count` of the pairs that are shown with a number of at least
-- `first`. `next` is the next local number that will be drawn.
unfoldable pub mapping_up : List LocalText → ℕ → ℕ → ℕ → Mapping
mapping_up shown next first count =
    let above = filter (λ pair. nat_le first pair.local) shown in
    let taken = take count above in
    let later = nat_lt count (length above) in
    record {
      begin = first;
      end = if later then after_last first taken else max first next;
      later_texts_exist = later;
      block = block_of taken;
    }

-- where a mapping downwards ends: at the ceiling, or at the next number where that is lower or no
-- ceiling is named
abbrev pub end_below : ℕ → ℕ → ℕ
end_below next ceiling = if ceiling == 0 || nat_lt next ceiling then next else ceiling

-- A mapping downwards: the `count` greatest of the pairs that are shown below the ceiling.
unfoldable pub mapping_down : List LocalText → ℕ → ℕ → ℕ → Mapping
mapping_down shown next ceiling count =
    let end = end_below next ceiling in
    let below = filter (λ pair. nat_lt pair.local end) shown in
    let taken = drop (length below - count) below in
    let later = nat_lt count (length below) in
    record {
      begin = if later then first_of end taken else 1;
      end = end;
      later_texts_exist = later;
      block = block_of taken;
    }
