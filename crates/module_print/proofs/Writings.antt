-- How each expression is written canonically, by its parts.
use Rattle.std.proofs.Common.{◌≡◌, ℕ, suc, List, sym, ap, ◌∙◌}
use Rattle.std.specs.Prelude.{nat_lt}
use Rattle.atl_base.specs.declared.place.Place.{Place}
use Rattle.atl_tree.specs.declared.expr.Expr.{Expr, fold_out-Expr}
use Rattle.atl_tree.specs.declared.expr.ExprKind.{ExprKind, roll-ExprKind, map-ExprKind, fold-roll-ExprKind}
use Rattle.atl_tree.specs.declared.expr.ExprKind.TheOpen as E
use Rattle.atl_tree.specs.declared.expr.ExprKind.TheVariants as K
use Rattle.atl_tree.specs.declared.expr.BinaryOp.{BinaryOp}
use Rattle.ocl_parse.specs.Trees.{name, expr, level}
use Rattle.ocl_parse.specs.Grammar.{Variable, Binary, Read}
use Rattle.module_print.specs.Writing.{here, round_where, layer, expr_written, what_written}

pub expr_is : (e : Expr) → expr_written e ≡ what_written e.what
unfolding what_written expr_written
expr_is e = fold_out-Expr _ _ layer (λ x. x.what) e

pub what_is : (y : E.ExprKind-F ExprKind Expr) → what_written (roll-ExprKind y) ≡ layer (map-ExprKind _ _ _ _ what_written expr_written y)
unfolding what_written expr_written
what_is y = fold-roll-ExprKind _ _ layer (λ x. x.what) y

pub variable_is : (p : Place) (s : List ℕ) (l : ℕ) → expr_written (expr p (K.Var s)) l ≡ Variable (name here s)
variable_is p s l = ap (λ f. f l) (expr_is (expr p (K.Var s)) ∙ ap what_written (sym (K.rolls-Var s)) ∙ what_is (E.Var s))

pub read_is : (p : Place) (a : Expr) (s : List ℕ) (l : ℕ) → expr_written (expr p (K.Read a s)) l ≡ Read (expr_written a 6) here (name here s)
read_is p a s l = ap (λ f. f l) (expr_is (expr p (K.Read a s)) ∙ ap what_written (sym (K.rolls-Read a s)) ∙ what_is (E.Read a s))

pub binary_is : (p : Place) (o : BinaryOp) (a c : Expr) (l : ℕ) → expr_written (expr p (K.Binary o a c)) l ≡ round_where (nat_lt (level o) l) (Binary (expr_written a (level o)) here o (expr_written c (suc (level o))))
binary_is p o a c l = ap (λ f. f l) (expr_is (expr p (K.Binary o a c)) ∙ ap what_written (sym (K.rolls-Binary o a c)) ∙ what_is (E.Binary o a c))
