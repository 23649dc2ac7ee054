-- Pieces: what a module's text is cut into. A piece is a token, or stands between tokens: a blank, a carriage return,
-- the end of a line, or a comment. Each form is said of its characters alone.
use Rattle.std.specs.Prelude.{◌≡◌, ℕ, ◌||◌, ◌&&◌, ◌==◌, ◌⊎◌, Bool, true, not, List, [], ◌∷◌, ◌++◌, Option, None, Some}
use Rattle.std.specs.Int.{is_in_range}
use Rattle.std.specs.List.{list_all, flat_map}
use Rattle.atl_tree.specs.declared.token.TokenSort.{TokenSort}
use Rattle.atl_tree.specs.declared.token.TokenSort.TheVariants as T

-- a letter of ASCII, or _
unfoldable pub is_letter : ℕ → Bool
is_letter c = is_in_range 97 122 c || is_in_range 65 90 c || c == 95

unfoldable pub is_digit : ℕ → Bool
is_digit c = is_in_range 48 57 c

-- space, tab, line feed, carriage return
unfoldable pub is_gap : ℕ → Bool
is_gap c = c == 32 || c == 9 || c == 10 || c == 13

-- the marks of one character that begin no other piece:  ; : , ( ) { } ! = + * . | # /
unfoldable pub is_single : ℕ → Bool
is_single c = c == 59 || c == 58 || c == 44 || c == 40 || c == 41 || c == 123 || c == 125 || c == 33 || c == 61 || c == 43 || c == 42 || c == 46 || c == 124 || c == 35 || c == 47

-- what a backslash can stand before:  n t r \ '
unfoldable pub is_escape : ℕ → Bool
is_escape c = c == 110 || c == 116 || c == 114 || c == 92 || c == 39

-- what a comment goes on with: all but a line feed
unfoldable pub is_in_line : ℕ → Bool
is_in_line c = not (c == 10)

-- what a quoted name holds: all but " and a line feed
unfoldable pub is_in_quotes : ℕ → Bool
is_in_quotes c = not (c == 34 || c == 10)

-- what a text holds as it is: all but ' and \ and a line feed
unfoldable pub is_in_words : ℕ → Bool
is_in_words c = not (c == 39 || c == 92 || c == 10)

-- a name of letters, digits and _ that begins with no digit
abbrev pub IsPlain : List ℕ → Type 0
IsPlain [] = ⊥
IsPlain (c ∷ cs) = (is_letter c ≡ true) × (list_all (λ d. is_letter d || is_digit d) cs ≡ true)

abbrev pub IsDigits : List ℕ → Type 0
IsDigits [] = ⊥
IsDigits (c ∷ cs) = (is_digit c ≡ true) × (list_all is_digit cs ≡ true)

-- digits, or digits with a fraction: the form has it, so that it can be refused
abbrev pub IsNumber : List ℕ → Type 0
IsNumber w = IsDigits w ⊎ ((a : List ℕ) × (b : List ℕ) × IsDigits a × IsDigits b × (w ≡ a ++ (46 ∷ b)))

abbrev pub IsQuoted : List ℕ → Type 0
IsQuoted w = (name : List ℕ) × (list_all is_in_quotes name ≡ true) × (w ≡ 34 ∷ (name ++ (34 ∷ [])))

-- a character of a text as it is written
pub data Sign : Type 0 where
  Itself : ℕ → Sign
  Escaped : ℕ → Sign

abbrev pub is_sign : Sign → Bool
is_sign (Itself c) = is_in_words c
is_sign (Escaped c) = is_escape c

abbrev pub spelling : Sign → List ℕ
spelling (Itself c) = c ∷ []
spelling (Escaped c) = 92 ∷ (c ∷ [])

abbrev pub IsWords : List ℕ → Type 0
IsWords w = (signs : List Sign) × (list_all is_sign signs ≡ true) × (w ≡ 39 ∷ (flat_map spelling signs ++ (39 ∷ [])))

-- one of the single marks or of  - < >, or one of  -> <- <= <> >=
abbrev pub IsMark : List ℕ → Type 0
IsMark [] = ⊥
IsMark (c ∷ []) = (is_single c || c == 45 || c == 60 || c == 62) ≡ true
IsMark (c ∷ d ∷ []) = ((c == 45 && d == 62) || (c == 60 && (d == 45 || d == 61 || d == 62)) || (c == 62 && d == 61)) ≡ true
IsMark (c ∷ d ∷ e ∷ more) = ⊥

abbrev pub IsToken : TokenSort → List ℕ → Type 0
IsToken T.Plain w = IsPlain w
IsToken T.Quoted w = IsQuoted w
IsToken T.Words w = IsWords w
IsToken T.Number w = IsNumber w
IsToken T.Mark w = IsMark w

-- one blank, carriage return or line feed; or -- and what the line has after it
abbrev pub IsGap : List ℕ → Type 0
IsGap w = ((c : ℕ) × (is_gap c ≡ true) × (w ≡ c ∷ [])) ⊎ ((line : List ℕ) × (list_all is_in_line line ≡ true) × (w ≡ 45 ∷ (45 ∷ line)))

-- a piece: its sort where it is a token, and its characters
pub record Piece : Type 0 where
  pub sort : Option TokenSort
  pub chars : List ℕ

abbrev pub IsPieceOf : Option TokenSort → List ℕ → Type 0
IsPieceOf None w = IsGap w
IsPieceOf (Some s) w = IsToken s w

abbrev pub IsPiece : Piece → Type 0
IsPiece p = IsPieceOf p.sort p.chars
