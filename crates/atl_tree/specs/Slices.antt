-- Tokens as slices of their text, which stand in it one after another.
use Rattle.std.specs.Prelude.{◌≡◌, ℕ, ◌≤◌, List, [], ◌∷◌, length, slice_range}
use Rattle.atl_tree.specs.declared.token.Token.{Token}

-- each token is the slice from its begin to its end, and begins no earlier than the one before it ends
abbrev pub AreSlices : List ℕ → ℕ → List Token → Type 0
AreSlices text low [] = Unit {0}
AreSlices text low (t ∷ ts) = (low ≤ t.begin) × (t.begin ≤ t.end) × (t.end ≤ length text) × (t.text ≡ slice_range text t.begin t.end) × AreSlices text t.end ts
