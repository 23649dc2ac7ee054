-- Worked rows of what is read.
use Rattle.std.proofs.Common.{◌≡◌, ℕ, List, [], ◌∷◌, refl}
use Rattle.std.specs.Prelude.{false, None, Some, Ok, codes}
use Rattle.atl_tree.specs.declared.token.Token.{Token}
use Rattle.atl_tree.specs.declared.token.TokenSort.TheVariants as T
use Rattle.atl_tree.specs.Tokens.{token, place}
use Rattle.atl_tree.specs.declared.name.Name.{Name}
use Rattle.atl_tree.specs.declared.expr.Expr.{Expr}
use Rattle.atl_tree.specs.declared.expr.ExprKind.TheVariants as E
use Rattle.atl_tree.specs.declared.expr.BinaryOp.TheVariants as O
use Rattle.atl_tree.specs.declared.module.Module.{Module}
use Rattle.atl_tree.specs.declared.module.Item.TheVariants as I
use Rattle.atl_tree.specs.declared.module.RuleSort.TheVariants as R
use Rattle.atl_tree.specs.declared.module.Stat.{Stat}
use Rattle.atl_tree.specs.declared.module.Stat.TheVariants as A
use Rattle.ocl_parse.specs.Signs as G
use Rattle.ocl_parse.specs.Trees.{name, expr}
use Rattle.module_grammar.specs.Keywords as K
use Rattle.module_grammar.specs.Parts.{model, module_of, rule}
use Rattle.module_parse.specs.Reading.{module_in}

-- a token of the first line, at a column
abbrev a_word : List ℕ → ℕ → Token
a_word s c = token T.Plain s 0 0 (place 1 c)

abbrev a_mark : List ℕ → ℕ → Token
a_mark s c = token T.Mark s 0 0 (place 1 c)

-- module M; create O : B from I : A; and what follows
abbrev behind_header : List Token → List Token
behind_header more =
    a_word (codes "module") 1 ∷ a_word (codes "M") 8 ∷ a_mark (codes ";") 9 ∷ a_word (codes "create") 11 ∷ a_word (codes "O") 18 ∷ a_mark (codes ":") 20 ∷ a_word (codes "B") 22
    ∷ a_word (codes "from") 24 ∷ a_word (codes "I") 29 ∷ a_mark (codes ":") 31 ∷ a_word (codes "A") 33 ∷ a_mark (codes ";") 34 ∷ more

-- rule R ( ) { do { and then statements
abbrev in_do : List Token → List Token
in_do more =
    behind_header
    (a_word (codes "rule") 36 ∷ a_word (codes "R") 41 ∷ a_mark (codes "(") 43 ∷ a_mark (codes ")") 44 ∷ a_mark (codes "{") 46 ∷ a_word (codes "do") 48 ∷ a_mark (codes "{") 51 ∷ more)

abbrev at : ℕ → List ℕ → Name
at c s = name (place 1 c) s

-- the module with these statements
abbrev with_stats : List Stat → Module
with_stats ss =
    module_of (at 8 (codes "M")) (model (at 18 (codes "O")) (at 22 (codes "B")) ∷ []) (model (at 29 (codes "I")) (at 33 (codes "A")) ∷ [])
    (I.Make (rule R.Called false (at 41 (codes "R")) None [] [] None [] [] (Some ss)) ∷ [])

abbrev variable : ℕ → List ℕ → Expr
variable c s = expr (place 1 c) (E.Var s)

-- x + a . b <- y ;  assigns to the feature b of x + a
an_assignment : module_in
    (in_do
    (a_word (codes "x") 53 ∷ a_mark (codes "+") 55 ∷ a_word (codes "a") 57 ∷ a_mark (codes ".") 58 ∷ a_word (codes "b") 59 ∷ a_mark (codes "<-") 61 ∷ a_word (codes "y") 64
    ∷ a_mark (codes ";") 65 ∷ a_mark (codes "}") 67 ∷ a_mark (codes "}") 69 ∷ []))
    (place 1 70)
    ≡ Ok (with_stats (A.Assign (expr (place 1 55) (E.Binary O.Plus (variable 53 (codes "x")) (variable 57 (codes "a")))) (at 59 (codes "b")) (variable 64 (codes "y")) ∷ []))
unfolding K.words G.operator_words G.structure_words G.constant_words G.type_words G.other_words G.marks
an_assignment = refl

-- if ( x ) { } else { y ; }
a_choice : module_in
    (in_do
    (a_word (codes "if") 53 ∷ a_mark (codes "(") 56 ∷ a_word (codes "x") 58 ∷ a_mark (codes ")") 60 ∷ a_mark (codes "{") 62 ∷ a_mark (codes "}") 64 ∷ a_word (codes "else") 66 ∷ a_mark (codes "{") 71
    ∷ a_word (codes "y") 73 ∷ a_mark (codes ";") 74 ∷ a_mark (codes "}") 76 ∷ a_mark (codes "}") 78 ∷ a_mark (codes "}") 80 ∷ []))
    (place 1 81)
    ≡ Ok (with_stats (A.If (variable 58 (codes "x")) [] (Some (A.Eval (variable 73 (codes "y")) ∷ [])) ∷ []))
unfolding K.words G.operator_words G.structure_words G.constant_words G.type_words G.other_words G.marks
a_choice = refl

-- if x then y else z endif ;
an_expression : module_in
    (in_do
    (a_word (codes "if") 53 ∷ a_word (codes "x") 56 ∷ a_word (codes "then") 58 ∷ a_word (codes "y") 63 ∷ a_word (codes "else") 65 ∷ a_word (codes "z") 70 ∷ a_word (codes "endif") 72
    ∷ a_mark (codes ";") 77 ∷ a_mark (codes "}") 79 ∷ a_mark (codes "}") 81 ∷ []))
    (place 1 82)
    ≡ Ok (with_stats (A.Eval (expr (place 1 53) (E.If (variable 56 (codes "x")) (variable 63 (codes "y")) (variable 70 (codes "z")))) ∷ []))
unfolding K.words G.operator_words G.structure_words G.constant_words G.type_words G.other_words G.marks
an_expression = refl

-- do . if <- y ;  a keyword before <- and behind . is a name
keywords_as_names : module_in
    (in_do (a_word (codes "x") 53 ∷ a_mark (codes ".") 54 ∷ a_word (codes "if") 55 ∷ a_mark (codes "<-") 58 ∷ a_word (codes "y") 61 ∷ a_mark (codes ";") 62 ∷ a_mark (codes "}") 64 ∷ a_mark (codes "}") 66 ∷ [])) (place 1 67)
    ≡ Ok (with_stats (A.Assign (variable 53 (codes "x")) (at 55 (codes "if")) (variable 61 (codes "y")) ∷ []))
unfolding K.words G.operator_words G.structure_words G.constant_words G.type_words G.other_words G.marks
keywords_as_names = refl
