-- From bytes to characters with their places (XML 1.0, sections 2.11 and 4.3.3): the byte order mark is skipped, the
-- encoding is the declared one, and each end of a line is one line feed.
use Rattle.std.specs.Prelude.{ℕ, ◌+◌, ◌==◌, ◌||◌, ◌&&◌, List, [], ◌∷◌, ◌++◌, length, take, Bool, true, false, if◌then◌else◌, nat_lt}
use Rattle.std.specs.Str.{chars}
use Rattle.std.specs.Str.Lossy.{utf8_valid_len}
use Rattle.atl_base.specs.declared.place.Place.{Place}
use Rattle.doc_text.specs.Symbols.{Blank, kind_of, Symbol, mark}
use Rattle.doc_text.specs.Encodings.{Encoding, Utf8, Ascii, Latin, encoding_of}

-- the mark of UTF-8, and those of UTF-16
abbrev pub without_mark : List ℕ → List ℕ
without_mark (a ∷ b ∷ c ∷ rest) = if a == 239 && b == 187 && c == 191 then rest else a ∷ b ∷ c ∷ rest
without_mark bytes = bytes

abbrev pub is_wide : List ℕ → Bool
is_wide (a ∷ b ∷ rest) = (a == 254 && b == 255) || (a == 255 && b == 254)
is_wide bytes = false

-- what stands for a byte that no character has
abbrev pub no_character : ℕ
no_character = 1114112

abbrev pub ascii : List ℕ → List ℕ
ascii [] = []
ascii (b ∷ bytes) = if nat_lt b 128 then b ∷ ascii bytes else no_character ∷ []

-- The characters, up to the first byte that no character has. Up to its closing quote the declaration that names an
-- encoding is ASCII, which all three read alike.
abbrev pub decoded : Encoding → List ℕ → List ℕ
decoded Utf8 bytes = chars (take (utf8_valid_len bytes) bytes) ++ (if utf8_valid_len bytes == length bytes then [] else no_character ∷ [])
decoded Ascii bytes = ascii bytes
decoded Latin bytes = bytes

abbrev pub characters : List ℕ → List ℕ
characters bytes = decoded (encoding_of (without_mark bytes)) (without_mark bytes)

abbrev pub place : ℕ → ℕ → Place
place line column = record { line = line; column = column }

-- Each character's place. A carriage return is a line feed, and one with it where one follows; a line ends with its
-- line feed alone.
abbrev pub placed : Bool → ℕ → ℕ → List ℕ → List Symbol
placed returned line column [] = []
placed returned line column (c ∷ rest) =
    if c == 10 then (if returned then placed false (line + 1) 1 rest else mark (place line column) (Blank 10) ∷ placed false (line + 1) 1 rest)
    else if c == 13 then mark (place line column) (Blank 10) ∷ placed true line (column + 1) rest
    else mark (place line column) (kind_of c) ∷ placed false line (column + 1) rest

-- the place after the last character
abbrev pub end_place : ℕ → ℕ → List ℕ → Place
end_place line column [] = place line column
end_place line column (c ∷ rest) = if c == 10 then end_place (line + 1) 1 rest else end_place line (column + 1) rest

abbrev pub symbols : List ℕ → List Symbol
symbols bytes = placed false 1 1 (characters bytes)

abbrev pub end_of : List ℕ → Place
end_of bytes = end_place 1 1 (characters bytes)

-- what is still to come, after these characters: one for the byte that none has
abbrev pub tail : Bool → List ℕ
tail whole = if whole then [] else no_character ∷ []
