-- The characters of a document as its grammar sees them: what each may be, and where it stands.
-- (XML 1.0, sections 2.2 and 2.3; names are those of the profile: a letter of ASCII, `_` or a character above
-- U+007F first, then also digits, `-` and `.`.)
use Rattle.std.specs.Prelude.{ℕ, ◌-◌, ◌||◌, ◌==◌, IsTrue, List, [], ◌∷◌, Bool, true, false, nat_le, nat_lt, if◌then◌else◌, encode_utf8}
use Rattle.std.specs.Int.{is_in_range}
use Rattle.atl_base.specs.XmlText.{is_xml_character}
pub use Rattle.doc_text.specs.declared.symbol.Kind.{Kind}
pub use Rattle.doc_text.specs.declared.symbol.Kind.TheVariants.{Less, Greater, Slash, And, Semicolon, Quote, Apostrophe, Equals, Bang, Question, Bracket, Hash, Colon, Dash, Blank, Letter, Joint, Other, Bad}
pub use Rattle.doc_text.specs.declared.symbol.Symbol.{Symbol}
use Rattle.atl_base.specs.declared.place.Place.{Place}

abbrev pub code_of : Kind → ℕ
code_of Less = 60
code_of Greater = 62
code_of Slash = 47
code_of And = 38
code_of Semicolon = 59
code_of Quote = 34
code_of Apostrophe = 39
code_of Equals = 61
code_of Bang = 33
code_of Question = 63
code_of Bracket = 93
code_of Hash = 35
code_of Colon = 58
code_of Dash = 45
code_of (Blank c) = c
code_of (Letter c) = c
code_of (Joint c) = c
code_of (Other c) = c
code_of Bad = 0

abbrev pub is_letter : ℕ → Bool
is_letter c = is_in_range 65 90 c || is_in_range 97 122 c || c == 95 || nat_lt 127 c

abbrev pub mark_of : ℕ → Kind
mark_of c = if c == 60 then Less else if c == 62 then Greater else if c == 47 then Slash else if c == 38 then And else if c == 59 then Semicolon else if c == 34 then Quote else if c == 39 then Apostrophe else if c == 61 then Equals else if c == 33 then Bang else if c == 63 then Question else if c == 93 then Bracket else if c == 35 then Hash else if c == 58 then Colon else if c == 45 then Dash else Other c

abbrev pub kind_of : ℕ → Kind
kind_of c = if is_xml_character c then (if is_letter c then Letter c else if is_in_range 48 57 c || c == 46 then Joint c else if c == 9 || c == 10 || c == 13 || c == 32 then Blank c else mark_of c) else Bad

abbrev pub mark : Place → Kind → Symbol
mark p k = record { kind = k; at = p }

-- the bytes of a character
abbrev pub utf8 : Kind → List ℕ
utf8 k = encode_utf8 (code_of k)

abbrev pub is_good : Kind → Bool
is_good Bad = false
is_good k = true

abbrev pub is_blank : Kind → Bool
is_blank (Blank c) = true
is_blank k = false

abbrev pub is_start : Kind → Bool
is_start (Letter c) = true
is_start k = false

abbrev pub is_name : Kind → Bool
is_name (Letter c) = true
is_name (Joint c) = true
is_name Dash = true
is_name k = false

abbrev pub is_greater : Kind → Bool
is_greater Greater = true
is_greater k = false

abbrev pub is_colon : Kind → Bool
is_colon Colon = true
is_colon k = false

abbrev pub is_semicolon : Kind → Bool
is_semicolon Semicolon = true
is_semicolon k = false

abbrev pub is_and : Kind → Bool
is_and And = true
is_and k = false

abbrev pub is_question : Kind → Bool
is_question Question = true
is_question k = false

-- what a comment may hold alone
abbrev pub is_undashed : Kind → Bool
is_undashed Dash = false
is_undashed Bad = false
is_undashed k = true

-- what a text may hold as it stands
abbrev pub is_text : Kind → Bool
is_text Less = false
is_text And = false
is_text Bad = false
is_text k = true

-- what a value between double or single quotes may hold as it stands
abbrev pub is_value : Bool → Kind → Bool
is_value double Quote = if double then false else true
is_value double Apostrophe = double
is_value double k = is_text k

abbrev pub quote : Bool → Kind
quote true = Quote
quote false = Apostrophe

abbrev pub is_decimal : Kind → Bool
is_decimal (Joint c) = is_in_range 48 57 c
is_decimal k = false

abbrev pub is_ex : Kind → Bool
is_ex (Letter c) = c == 120
is_ex k = false

abbrev pub is_hexadecimal : Kind → Bool
is_hexadecimal (Joint c) = is_in_range 48 57 c
is_hexadecimal (Letter c) = is_in_range 65 70 c || is_in_range 97 102 c
is_hexadecimal k = false

-- what a digit counts
abbrev pub digit : Kind → ℕ
digit k = if nat_le (code_of k) 57 then code_of k - 48 else if nat_le (code_of k) 70 then code_of k - 55 else code_of k - 87

-- what words of a declaration are made of
abbrev pub is_word : Kind → Bool
is_word (Letter c) = true
is_word (Joint c) = true
is_word k = false

-- a letter, digit or point with this code
abbrev pub is_code : ℕ → Kind → Bool
is_code c (Letter x) = x == c
is_code c (Joint x) = x == c
is_code c k = false

abbrev pub is_quote : Bool → Kind → Bool
is_quote true Quote = true
is_quote false Apostrophe = true
is_quote double k = false

-- what may stand in these quotes beside nothing else being asked
abbrev pub is_quoted : Bool → Kind → Bool
is_quoted double k = if is_quote double k then false else is_good k

-- what stands for a character stands for one of XML text
abbrev pub IsSound : Kind → Type 0
IsSound Bad = Unit {0}
IsSound k = IsTrue (is_xml_character (code_of k))

abbrev pub AreSound : List Symbol → Type 0
AreSound [] = Unit {0}
AreSound (s ∷ ss) = IsSound s.kind × AreSound ss
