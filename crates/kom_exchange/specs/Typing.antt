-- What was typed, line by line.
use Rattle.std.specs.Prelude.{◌≡◌, ℕ, Bool, false, List, ◌++◌, Option, IfSome}
use Rattle.kom_links.specs.Outside.{LinkView}
use Rattle.kom_screen.specs.Screens.{Grows}
use Rattle.kom_exchange.specs.Pages.{behind_lines}

-- something may have been typed
pub record Types (old new : LinkView) : Type 0 where
  pub typed : Grows old.taken new.taken

-- Behind lines that were given out, these bytes are held of what a link gave: all of it, unless
-- memory ran out.
pub record IsTyped (taken : Option (List ℕ)) (held : List ℕ) (has_fault : Bool) : Type 0 where
  pub lines : List (List ℕ)
  pub begun : IfSome taken
      (λ bytes. (more : List ℕ) × (bytes ≡ behind_lines lines (held ++ more)))
  pub whole : has_fault ≡ false → IfSome taken (λ bytes. bytes ≡ behind_lines lines held)
