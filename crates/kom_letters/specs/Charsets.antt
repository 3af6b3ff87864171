-- The charset of a text, and the letters that its bytes are.
use Rattle.std.specs.Prelude.{ℕ, Bool, true, ◌&&◌, ◌||◌, ◌==◌, nat_lt, List, [], ◌∷◌, length, take}
use Rattle.std.specs.Prelude.{drop, codes}
use Rattle.std.specs.Prelude.{Option, Some, None, unwrap_or, option_and_then, if◌then◌else◌}
use Rattle.std.specs.List.{list_any}
use Rattle.std.specs.Str.{is_utf8, str_eq_ignore_ascii_case}
use Rattle.bstr.specs.Utf8.{lossy_chars}
use Rattle.kom_letters.specs.declared.charsets.Charset.{Charset}
use Rattle.kom_letters.specs.declared.charsets.Charset.TheVariants.{Utf8, Latin1}

-- a parameter of a content type may begin behind this byte, and end before it: a semicolon, a blank
abbrev pub is_between : ℕ → Bool
is_between b = (b == 59) || (b == 32)

abbrev pub ends : List ℕ → Bool
ends [] = true
ends (b ∷ bytes) = is_between b

-- the bytes begin with a parameter, its letters small or capital, and it ends there
abbrev pub begins_with : List ℕ → List ℕ → Bool
begins_with parameter bytes =
    str_eq_ignore_ascii_case (take (length parameter) bytes) parameter
    && ends (drop (length parameter) bytes)

-- the charset of the parameter that the bytes begin with
unfoldable pub charset_at : List ℕ → Option Charset
charset_at bytes =
    if begins_with (codes "charset=utf-8") bytes
    || begins_with (codes "charset=\"utf-8\"") bytes then Some Utf8
    else if begins_with (codes "charset=iso-8859-1") bytes
    || begins_with (codes "charset=\"iso-8859-1\"") bytes then Some Latin1
    else None

-- the charset of the parameter behind a byte, if one may begin there
abbrev pub charset_behind : ℕ → List ℕ → Option Charset
charset_behind b bytes = if is_between b then charset_at bytes else None

abbrev pub first_of : Option Charset → Option Charset → Option Charset
first_of None other = other
first_of (Some charset) other = Some charset

-- the charset that a content type tells, by the first such parameter
abbrev pub charset_told : List ℕ → Option Charset
charset_told [] = None
charset_told (b ∷ bytes) = first_of (charset_behind b bytes) (charset_told bytes)

-- bytes that nobody told a charset of are UTF-8 if they can be, and have a byte above ASCII
unfoldable pub reads_as_utf8 : List ℕ → Bool
reads_as_utf8 bytes = list_any (nat_lt 127) bytes && is_utf8 bytes

-- the charset of a text with this content type, or with none
abbrev pub charset_of : Option (List ℕ) → List ℕ → Charset
charset_of content_type bytes =
    unwrap_or (option_and_then charset_told content_type)
    (if reads_as_utf8 bytes then Utf8 else Latin1)

-- the letters that bytes are: U+FFFD stands for each piece of UTF-8 that is no letter
abbrev pub letters_of : Charset → List ℕ → List ℕ
letters_of Utf8 bytes = lossy_chars bytes
letters_of Latin1 bytes = bytes
