-- What is said of reading: what it reads is of the grammar, all of the grammar is read, and each refusal is the right one.
use Rattle.std.specs.Prelude.{◌≡◌, ◌≤◌, ℕ, length, List, [], ◌∷◌, ◌++◌, Bool, true, false, Some, map}
use Rattle.atl_tree.specs.declared.module.Module.{Module}
use Rattle.atl_tree.specs.declared.token.Token.{Token}
use Rattle.ocl_parse.specs.Symbols.{Lexeme, lexeme, lexemes}
use Rattle.module_grammar.specs.Marks.{Mark, symbol, marks}
use Rattle.module_grammar.specs.Grammar.{WrittenModule, module_marks, module_tree, ModuleFits, IsModule}
use Rattle.module_print.specs.Writing.{module_written}
use Rattle.module_laws.specs.Places.{placed_module}
use Rattle.module_laws.specs.TooDeep.{deep_in}
use Rattle.module_states.specs.Machine.{End, Read, Expected, Deep, read}

-- some module of the grammar, whatever its depth, begins so
abbrev pub GoesOn : List Mark → Type 0
GoesOn front = (more : List Mark) × (m : Module) × IsModule false (front ++ more) m

-- no module agrees up to and with the first of the rest, or none ends there
abbrev pub StopsAt : Bool → List Mark → List Mark → Type 0
StopsAt b front [] = (m : Module) → IsModule b front m → ⊥
StopsAt b front (t ∷ rest) = (more : List Mark) (m : Module) → IsModule b (front ++ (t ∷ more)) m → ⊥

-- no module ends there
abbrev pub NoneEnds : Bool → List Mark → Type 0
NoneEnds b front = (m : Module) → IsModule b front m → ⊥

-- in each module of the grammar, whatever its depth, that begins so, the first expression that stands too deep begins behind
-- the front
abbrev pub IsShallow : List Mark → Type 0
IsShallow front = (more : List Mark) (w : WrittenModule) (k : ℕ) → ModuleFits false w → module_marks w ≡ front ++ more → deep_in w ≡ Some k → length front ≤ k

-- no marks, or some of which the first is the first of the rest
abbrev pub Matches : List Mark → List Mark → Type 0
Matches [] rest = Unit {0}
Matches (t ∷ more) [] = ⊥
Matches (t ∷ more) (u ∷ rest) = t ≡ u

-- the first expression that stands too deep begins just behind the front
abbrev pub IsDeepBehind : List Mark → WrittenModule → Type 0
IsDeepBehind front w = deep_in w ≡ Some (length front)

-- some module of the grammar, whatever its depth, begins with the front and the mark, and with that mark begins the first
-- expression in it that stands too deep
abbrev pub HasDeep : List Mark → Mark → Type 0
HasDeep front t = (more : List Mark) × (w : WrittenModule) × ModuleFits false w × (module_marks w ≡ front ++ (t ∷ more)) × IsDeepBehind front w

-- and so it is in each that begins with both, and then ends or goes on with the first of the rest
abbrev pub AllDeep : List Mark → Mark → List Mark → Type 0
AllDeep front t rest = (more : List Mark) (w : WrittenModule) → ModuleFits false w → module_marks w ≡ front ++ (t ∷ more) → Matches more rest → IsDeepBehind front w

-- within the depth there is no such module
abbrev pub NoneShallow : List Mark → Mark → List Mark → Type 0
NoneShallow front t rest = (more : List Mark) (m : Module) → Matches more rest → IsModule true (front ++ (t ∷ more)) m → ⊥

abbrev pub Tells : List Mark → End → Type 0
Tells ts (Read m) = IsModule true ts m
Tells ts (Expected rest) = (front : List Mark) × (ts ≡ front ++ rest) × GoesOn front × StopsAt false front rest × IsShallow front
Tells ts (Deep p) =
    (front : List Mark) × (t : Mark) × (rest : List Mark) × (ts ≡ front ++ (t ∷ rest)) × (t.place ≡ p) × HasDeep front t × AllDeep front t rest
    × NoneShallow front t rest × NoneEnds true front

pub record Exact (ts : List Mark) : Type 0 where
  pub tells : Tells ts (read true ts)
  -- and of no other answer is it told
  pub only : (end : End) → Tells ts end → read true ts ≡ end
  pub reads : (m : Module) → IsModule true ts m → read true ts ≡ Read m

-- what is canonically written for a module's tree is of the grammar, whatever its depth, and has that tree up to places
abbrev pub IsCanonical : WrittenModule → Type 0
IsCanonical w = ModuleFits false w → IsModule false (module_marks (module_written (module_tree w))) (module_tree (placed_module w))

-- and where it nests no deeper than the limit, its marks are read back to that tree
abbrev pub ReadsBack : WrittenModule → Type 0
ReadsBack w = ModuleFits false w → ModuleFits true (module_written (module_tree w)) → read true (module_marks (module_written (module_tree w))) ≡ Read (module_tree (placed_module w))

-- marks have one tree
abbrev pub HasOne : List Mark → Type 0
HasOne ts = (m n : Module) → IsModule true ts m → IsModule true ts n → m ≡ n

-- what a mark is to an expression
abbrev pub inner : Mark → Lexeme
inner t = lexeme t.place (symbol t.content)

-- an expression is read from the marks of tokens as from the tokens
abbrev pub SharesSymbols : List Token → Type 0
SharesSymbols ts = (led : Bool) → map inner (marks led ts) ≡ lexemes led ts
