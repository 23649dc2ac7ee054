-- What is said of reading: it gives the longest expression that a text begins with, and each refusal is the right one.
use Rattle.std.specs.Prelude.{◌≡◌, ◌≤◌, ℕ, length, List, [], ◌∷◌, ◌++◌, Bool, true, false, Some}
use Rattle.atl_tree.specs.declared.expr.Expr.{Expr}
use Rattle.ocl_parse.specs.Symbols.{Lexeme}
use Rattle.ocl_parse.specs.Grammar.{Written, Fits, spelt, IsExpr}
use Rattle.ocl_parse.specs.TooDeep.{deep_after}
use Rattle.ocl_parse.specs.Machine.{End, Read, Expected, Deep, read}

-- some expression of the grammar, whatever its depth, begins so
abbrev pub GoesOn : List Lexeme → Type 0
GoesOn front = (more : List Lexeme) × (e : Expr) × IsExpr false (front ++ more) e

-- no expression agrees up to and with the first of the rest
abbrev pub StopsAt : Bool → List Lexeme → List Lexeme → Type 0
StopsAt b front [] = Unit {0}
StopsAt b front (t ∷ rest) = (more : List Lexeme) (e : Expr) → IsExpr b (front ++ (t ∷ more)) e → ⊥

-- no expression ends there
abbrev pub NoneEnds : Bool → List Lexeme → Type 0
NoneEnds b front = (e : Expr) → IsExpr b front e → ⊥

-- in each expression of the grammar, whatever its depth, that begins so, the first that stands too deep begins behind the front
abbrev pub IsShallow : List Lexeme → Type 0
IsShallow front = (more : List Lexeme) (w : Written) (k : ℕ) → Fits false 0 0 w → spelt w ≡ front ++ more → deep_after 0 w ≡ Some k → length front ≤ k

-- no symbols, or some of which the first is the first of the rest
abbrev pub Matches : List Lexeme → List Lexeme → Type 0
Matches [] rest = Unit {0}
Matches (t ∷ more) [] = ⊥
Matches (t ∷ more) (u ∷ rest) = t ≡ u

-- the first expression that stands too deep begins just behind the front
abbrev pub IsDeepBehind : List Lexeme → Written → Type 0
IsDeepBehind front w = deep_after 0 w ≡ Some (length front)

-- some expression of the grammar, whatever its depth, begins with the front and the symbol, and with that symbol begins the
-- first in it that stands too deep
abbrev pub HasDeep : List Lexeme → Lexeme → Type 0
HasDeep front t = (more : List Lexeme) × (w : Written) × Fits false 0 0 w × (spelt w ≡ front ++ (t ∷ more)) × IsDeepBehind front w

-- and so it is in each that begins with both, and then ends or goes on with the first of the rest
abbrev pub AllDeep : List Lexeme → Lexeme → List Lexeme → Type 0
AllDeep front t rest = (more : List Lexeme) (w : Written) → Fits false 0 0 w → spelt w ≡ front ++ (t ∷ more) → Matches more rest → IsDeepBehind front w

-- within the depth there is no such expression
abbrev pub NoneShallow : List Lexeme → Lexeme → List Lexeme → Type 0
NoneShallow front t rest = (more : List Lexeme) (e : Expr) → Matches more rest → IsExpr true (front ++ (t ∷ more)) e → ⊥

abbrev pub Tells : List Lexeme → End → Type 0
Tells ts (Read e rest) = (front : List Lexeme) × (ts ≡ front ++ rest) × IsExpr true front e × StopsAt false front rest
Tells ts (Expected rest) = (front : List Lexeme) × (ts ≡ front ++ rest) × GoesOn front × StopsAt false front rest × NoneEnds false front × IsShallow front
Tells ts (Deep p) =
    (front : List Lexeme) × (t : Lexeme) × (rest : List Lexeme) × (ts ≡ front ++ (t ∷ rest)) × (t.place ≡ p) × HasDeep front t × AllDeep front t rest
    × NoneShallow front t rest × NoneEnds true front

pub record Exact (ts : List Lexeme) : Type 0 where
  pub tells : Tells ts (read true ts)
  -- and of no other answer is it told
  pub only : (end : End) → Tells ts end → read true ts ≡ end
  pub reads : (front rest : List Lexeme) (e : Expr) → ts ≡ front ++ rest → IsExpr true front e → StopsAt false front rest → read true ts ≡ Read e rest
