-- How a text is cut into pieces: one after another, and each the longest that begins where it does.
use Rattle.std.specs.Prelude.{◌≡◌, ℕ, ◌≤◌, List, [], ◌∷◌, ◌++◌, length}
use Rattle.std.specs.List.{flat_map}
use Rattle.atl_tree.specs.Pieces.{Piece, IsPiece}

abbrev pub chars_of : List Piece → List ℕ
chars_of ps = flat_map (λ p. p.chars) ps

-- no piece that begins where w does, before this rest, is longer
abbrev pub IsLongest : List ℕ → List ℕ → Type 0
IsLongest w rest = (q : Piece) (more : List ℕ) → IsPiece q → q.chars ++ more ≡ w ++ rest → length q.chars ≤ length w

-- the text begins with these pieces, and the rest follows them
abbrev pub Begins : List ℕ → List Piece → List ℕ → Type 0
Begins text [] rest = text ≡ rest
Begins text (p ∷ ps) rest = (more : List ℕ) × (text ≡ p.chars ++ more) × IsPiece p × IsLongest p.chars more × Begins more ps rest

abbrev pub IsCut : List ℕ → List Piece → Type 0
IsCut text ps = Begins text ps []

-- no piece begins here
abbrev pub IsStuck : List ℕ → Type 0
IsStuck rest = (q : Piece) (more : List ℕ) → IsPiece q → q.chars ++ more ≡ rest → ⊥
