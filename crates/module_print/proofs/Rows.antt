-- Worked rows of canonical text.
use Rattle.std.proofs.Common.{◌≡◌, ℕ, List, [], ◌∷◌, refl, ap, ◌∙◌}
use Rattle.std.specs.Prelude.{false, None, codes}
use Rattle.atl_tree.specs.Pieces as P
use Rattle.atl_tree.specs.declared.name.Name.{Name}
use Rattle.atl_tree.specs.declared.expr.Expr.{Expr}
use Rattle.atl_tree.specs.declared.expr.ExprKind.{ExprKind}
use Rattle.atl_tree.specs.declared.expr.ExprKind.TheVariants as K
use Rattle.atl_tree.specs.declared.expr.BinaryOp.TheVariants as O
use Rattle.atl_tree.specs.declared.module.Rule.{Rule}
use Rattle.atl_tree.specs.declared.module.RuleSort.TheVariants as R
use Rattle.atl_tree.specs.declared.module.Item.TheVariants as I
use Rattle.atl_tree.specs.declared.module.Module.{Module}
use Rattle.ocl_parse.specs.Signs as G
use Rattle.ocl_parse.specs.Trees.{name, expr}
use Rattle.module_grammar.specs.Parts.{model, module_of, class, pattern, target, bind, rule}
use Rattle.ocl_parse.specs.Grammar.{Read, Variable}
use Rattle.module_print.specs.Writing.{here, expr_written, whole_written}
use Rattle.module_grammar.specs.Marks.{expression}
use Rattle.module_print.specs.Printed.{name_text, words_text, line_text, printed}
use Rattle.module_print.proofs.Writings.{variable_is, read_is, binary_is}

abbrev called : List ℕ → Name
called s = name here s

abbrev node : ExprKind → Expr
node k = expr here k

abbrev variable : List ℕ → Expr
variable s = node (K.Var s)

-- label <- s.name, link <- s.next, parts <- s.kids
abbrev first_rule : Rule
first_rule =
    rule R.Matched false (called (codes "R")) None [] (pattern (called (codes "s")) (class (called (codes "A")) (called (codes "Node"))) ∷ []) None []
    (target (called (codes "t")) (class (called (codes "B")) (called (codes "Item")))
    (bind (called (codes "label")) (node (K.Read (variable (codes "s")) (codes "name")))
    ∷ bind (called (codes "link")) (node (K.Read (variable (codes "s")) (codes "next")))
    ∷ bind (called (codes "parts")) (node (K.Read (variable (codes "s")) (codes "kids"))) ∷ []) ∷ [])
    None

abbrev first_module : Module
first_module =
    module_of (called (codes "N2I")) (model (called (codes "OUT")) (called (codes "B")) ∷ []) (model (called (codes "IN")) (called (codes "A")) ∷ []) (I.Make first_rule ∷ [])

a_read : (s g : List ℕ) (l : ℕ) → expr_written (node (K.Read (variable s) g)) l ≡ Read (Variable (called s)) here (called g)
a_read s g l = read_is here (variable s) g l ∙ ap (λ w. Read w here (called g)) (variable_is here s 6)

a_module : printed first_module
    ≡ codes "module N2I ;\ncreate OUT : B from IN : A ;\nrule R { from s : A ! Node to t : B ! Item ( label <- s . name , link <- s . next , parts <- s . kids ) }\n"
unfolding P.is_letter P.is_digit G.operator_words G.structure_words G.constant_words G.type_words G.other_words
a_module =
    rw (a_read (codes "s") (codes "name") 0)
    (rw (a_read (codes "s") (codes "next") 0)
    (rw (a_read (codes "s") (codes "kids") 0) refl))

abbrev minus : Expr → Expr → Expr
minus a b = node (K.Binary O.Minus a b)

-- the right operand of - is in parentheses, and the left one is not
a_difference : line_text (expression (whole_written (minus (minus (variable (codes "a")) (variable (codes "b"))) (minus (variable (codes "c")) (variable (codes "d")))))) ≡ codes "a - b - ( c - d )\n"
unfolding P.is_letter P.is_digit G.operator_words G.structure_words G.constant_words G.type_words G.other_words
a_difference =
    rw (binary_is here O.Minus (minus (variable (codes "a")) (variable (codes "b"))) (minus (variable (codes "c")) (variable (codes "d"))) 0)
    (rw (binary_is here O.Minus (variable (codes "a")) (variable (codes "b")) 3)
    (rw (binary_is here O.Minus (variable (codes "c")) (variable (codes "d")) 4)
    (rw (variable_is here (codes "a") 3)
    (rw (variable_is here (codes "b") 4)
    (rw (variable_is here (codes "c") 3)
    (rw (variable_is here (codes "d") 4) refl))))))

a_keyword : name_text (codes "rule") ≡ codes "\"rule\""
unfolding P.is_letter P.is_digit G.operator_words G.structure_words G.constant_words G.type_words G.other_words
a_keyword = refl

a_tab : words_text (codes "it's\t") ≡ codes "'it\\'s\\t'"
a_tab = refl
