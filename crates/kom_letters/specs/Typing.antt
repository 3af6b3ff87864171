-- As which bytes typed letters are sent.
use Rattle.std.specs.Prelude.{◌≡◌, ℕ, Bool, not, ◌&&◌, nat_lt, List, Option, Some, None, codes}
use Rattle.std.specs.Prelude.{if◌then◌else◌}
use Rattle.std.specs.List.{list_all}
use Rattle.kom_letters.specs.Charsets.{reads_as_utf8, charset_of, letters_of}

-- each letter is one of ISO 8859-1
unfoldable pub fits_latin1 : List ℕ → Bool
fits_latin1 letters = list_all (λ c. nat_lt c 256) letters

-- Letters go as ISO 8859-1 where they fit, and where nobody would read those bytes as UTF-8.
abbrev pub goes_as_latin1 : List ℕ → Bool
goes_as_latin1 letters = fits_latin1 letters && not (reads_as_utf8 letters)

-- the content type that is sent along with a text that is UTF-8, or not
abbrev pub type_of : Bool → Option (List ℕ)
type_of is_utf8 = if is_utf8 then Some (codes "text/plain;charset=utf-8") else None

-- the bytes read as these letters, with the content type that is sent along and without any
pub record IsAsTyped (letters bytes : List ℕ) (is_utf8 : Bool) : Type 0 where
  pub told : letters_of (charset_of (type_of is_utf8) bytes) bytes ≡ letters
  pub untold : letters_of (charset_of None bytes) bytes ≡ letters
  pub latin1 : is_utf8 ≡ not (goes_as_latin1 letters)
