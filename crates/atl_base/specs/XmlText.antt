-- Text: the bytes are UTF-8, and each character is one that a document may hold.
-- (XML 1.0, section 2.2, production 2; UTF-8 as RFC 3629.)
use Rattle.std.specs.Prelude.{◌≡◌, ℕ, ◌<◌, ◌||◌, ◌&&◌, ◌==◌, nat_lt, Bool, true, List, take, encode_utf8_all}
use Rattle.std.specs.Int.{is_in_range}
use Rattle.std.specs.List.{list_all}

-- tab, line feed, carriage return, and all characters but the other controls, U+FFFE and U+FFFF
abbrev pub is_xml_character : ℕ → Bool
is_xml_character c = c == 9 || c == 10 || c == 13 || is_in_range 0x20 0xD7FF c || is_in_range 0xE000 0xFFFD c || is_in_range 0x10000 0x10FFFF c

-- one of them that is a byte of its own
abbrev pub is_ascii_text : ℕ → Bool
is_ascii_text c = nat_lt c 128 && is_xml_character c

abbrev pub IsXmlText : List ℕ → Type 0
IsXmlText bytes = (characters : List ℕ) × (list_all is_xml_character characters ≡ true) × (encode_utf8_all characters ≡ bytes)

-- The first n bytes are the longest front that is a text, and it is not all of them: so n is where the
-- first sequence begins that is no UTF-8, or is a character outside XML text.
pub record IsFirstOffence (bytes : List ℕ) (n : ℕ) : Type 0 where
  pub front : IsXmlText (take n bytes)
  pub longest : (m : ℕ) → n < m → ¬ (IsXmlText (take m bytes))
