-- Where characters stand, and where nothing is left of them.
use Rattle.std.proofs.Common.{◌≡◌, ◌+◌, ℕ, suc, List, [], ◌∷◌, length, refl, ap, arith}
use Rattle.std.specs.Prelude.{Bool, true, false, if◌then◌else◌, ◌==◌}
use Rattle.doc_text.specs.Symbols.{Symbol, Blank, kind_of, mark}
use Rattle.doc_text.specs.Characters.{end_place, place, placed}

some : (s t u : Symbol) (ss ts us : List Symbol) (b d : Bool) → (if b then s ∷ ss else if d then t ∷ ts else u ∷ us) ≡ [] → ⊥
some s t u ss ts us true d h = let n : suc (length ss) ≡ 0 = ap length h in omega arith
some s t u ss ts us false true h = let n : suc (length ts) ≡ 0 = ap length h in omega arith
some s t u ss ts us false false h = let n : suc (length us) ≡ 0 = ap length h in omega arith

-- where no character is left, the next would be the end
pub at_end : (line column : ℕ) (cs : List ℕ) → placed false line column cs ≡ [] → place line column ≡ end_place line column cs
at_end line column [] h = refl
at_end line column (c ∷ rest) h =
    absurd (some (mark (place line column) (Blank 10)) (mark (place line column) (Blank 10)) (mark (place line column) (kind_of c))
    (placed false (line + 1) 1 rest) (placed true line (column + 1) rest) (placed false line (column + 1) rest) (c == 10) (c == 13) h)
