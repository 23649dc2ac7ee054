-- Where a text is cut: at the first of a character.
use Rattle.std.specs.Prelude.{ℕ, suc, ◌==◌, List, [], ◌∷◌, if◌then◌else◌}

-- how many characters stand before the first of this one
abbrev pub place_of : ℕ → List ℕ → ℕ
place_of mark [] = 0
place_of mark (c ∷ cs) = if c == mark then 0 else suc (place_of mark cs)
