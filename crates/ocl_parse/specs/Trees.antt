-- The nodes of trees, by their parts, and how strongly operators bind.
use Rattle.std.specs.Prelude.{ℕ, Bool, true, false, List}
use Rattle.atl_base.specs.declared.place.Place.{Place}
use Rattle.atl_tree.specs.declared.name.Name.{Name}
use Rattle.atl_tree.specs.declared.name.ClassRef.{ClassRef}
use Rattle.atl_tree.specs.declared.kind.CollWord.{CollWord}
use Rattle.atl_tree.specs.declared.kind.KindNode.{KindNode}
use Rattle.atl_tree.specs.declared.kind.KindSort.{KindSort}
use Rattle.atl_tree.specs.declared.expr.Expr.{Expr}
use Rattle.atl_tree.specs.declared.expr.ExprKind.{ExprKind}
use Rattle.atl_tree.specs.declared.expr.ExprKind.TheVariants as K
use Rattle.atl_tree.specs.declared.expr.UnaryOp.{UnaryOp}
use Rattle.atl_tree.specs.declared.expr.BinaryOp.{BinaryOp}
use Rattle.atl_tree.specs.declared.expr.BinaryOp.TheVariants as O
use Rattle.ocl_parse.specs.declared.sign.Constant.{Constant}
use Rattle.ocl_parse.specs.declared.sign.Constant.TheVariants as N
use Rattle.ocl_parse.specs.declared.frame.Callee.{Callee}

abbrev pub expr : Place → ExprKind → Expr
expr p k = record { what = k; place = p }

abbrev pub kind : Place → KindSort → KindNode
kind p k = record { what = k; place = p }

abbrev pub name : Place → List ℕ → Name
name p s = record { text = s; place = p }

-- the class of a metamodel's name and its own
abbrev pub class : Name → List ℕ → ClassRef
class m s = record { meta = m.text; class = s; place = m.place }

-- the level of an operator: one of a greater level binds more strongly. 5 is that of an operator before its operand,
-- 6 is what a dot may follow, and 0 is a whole expression.
abbrev pub level : BinaryOp → ℕ
level O.And = 1
level O.Or = 1
level O.Xor = 1
level O.Implies = 1
level O.Eq = 2
level O.Ne = 2
level O.Lt = 2
level O.Gt = 2
level O.Le = 2
level O.Ge = 2
level O.Plus = 3
level O.Minus = 3
level O.Times = 4
level O.Div = 4
level O.Mod = 4

abbrev pub constant : Constant → ExprKind
constant N.True = K.Truth true
constant N.False = K.Truth false
constant N.Undefined = K.Undefined
constant N.Own = K.Own
constant N.Module = K.Module

abbrev pub binary : Expr → Place → BinaryOp → Expr → Expr
binary a p o b = expr p (K.Binary o a b)

abbrev pub unary : Place → UnaryOp → Expr → Expr
unary p o e = expr p (K.Unary o e)

abbrev pub variable : Name → Expr
variable n = expr n.place (K.Var n.text)

abbrev pub feature : Expr → Name → Expr
feature e n = expr n.place (K.Read e n.text)

abbrev pub callee : Expr → Bool → Name → Callee
callee e arrow n = record { source = e; arrow = arrow; name = n }

abbrev pub call : Callee → List Expr → Expr
call c es = expr c.name.place (K.Call c.source c.arrow c.name.text es)

abbrev pub iterator : Callee → Name → Expr → Expr
iterator c x e = expr c.name.place (K.Loop c.source c.name.text x e)

abbrev pub iterate : Callee → Name → Name → KindNode → Expr → Expr → Expr
iterate c x y t s e = expr c.name.place (K.Iterate c.source x y t s e)

abbrev pub collection : CollWord → Place → List Expr → Expr
collection w p es = expr p (K.Coll w es)

abbrev pub choice : Place → Expr → Expr → Expr → Expr
choice p c a b = expr p (K.If c a b)

abbrev pub within : Place → Name → KindNode → Expr → Expr → Expr
within p n t e b = expr p (K.Let n t e b)
