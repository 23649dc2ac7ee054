-- Reading, symbol by symbol: a machine that takes one symbol a step, over the stack of what is open, the innermost first.
-- The switch b says whether the depth counts.
use Rattle.std.specs.Prelude.{ℕ, List, [], ◌∷◌, ◌++◌, Bool, true, false, nat_le, if◌then◌else◌}
use Rattle.atl_base.specs.declared.place.Place.{Place}
use Rattle.atl_tree.specs.declared.name.Name.{Name}
use Rattle.atl_tree.specs.declared.kind.KindNode.{KindNode}
use Rattle.atl_tree.specs.declared.kind.KindSort.TheVariants as Q
use Rattle.atl_tree.specs.declared.expr.Expr.{Expr}
use Rattle.atl_tree.specs.declared.expr.ExprKind.TheVariants as K
use Rattle.atl_tree.specs.declared.expr.UnaryOp.TheVariants as U
use Rattle.atl_tree.specs.declared.expr.BinaryOp.TheVariants as O
use Rattle.ocl_parse.specs.declared.sign.Ender.{Ender}
use Rattle.ocl_parse.specs.declared.sign.Ender.TheVariants as E
use Rattle.ocl_parse.specs.declared.sign.Sign.{Sign}
use Rattle.ocl_parse.specs.declared.sign.Sign.TheVariants as S
use Rattle.ocl_parse.specs.declared.symbol.Symbol.{Symbol}
use Rattle.ocl_parse.specs.declared.symbol.Symbol.TheVariants.{Number, Words, Name as Named, Fixed}
use Rattle.ocl_parse.specs.declared.frame.Callee.{Callee}
use Rattle.ocl_parse.specs.declared.frame.Frame.{Frame}
use Rattle.ocl_parse.specs.declared.frame.Frame.TheVariants as F
use Rattle.ocl_parse.specs.declared.frame.Next.{Next}
use Rattle.ocl_parse.specs.declared.frame.Next.TheVariants as N
use Rattle.ocl_parse.specs.declared.frame.Move.{Move}
use Rattle.ocl_parse.specs.declared.frame.Move.TheVariants as M
use Rattle.ocl_parse.specs.Signs.{is_iterator, is_iterate}
use Rattle.ocl_parse.specs.Symbols.{Lexeme}
use Rattle.ocl_parse.specs.Depth.{deep, is_shallow}
use Rattle.ocl_parse.specs.Trees.{expr, kind, name, class, level, constant, binary, unary, variable, feature, callee, call, iterator, iterate, collection, choice, within}

-- what a symbol leads to
pub data Step : Type 0 where
  Goes : List Frame → Next → Step
  -- it follows an operand, and goes on with none of what is open
  Stops : List Frame → Expr → Step
  Refuses : Step
  TooDeep : Place → Step

-- an operator of level l takes what binds as strongly
abbrev pub before : ℕ → List Frame → Expr → (List Frame → Expr → Step) → Step
before l (F.Left a p o ∷ fs) e k = if nat_le l (level o) then before l fs (binary a p o e) k else k (F.Left a p o ∷ fs) e
before l (F.Unary o p ∷ fs) e k = before l fs (unary p o e) k
before l fs e k = k fs e

-- the operators and each let whose body ends here
abbrev pub closed : List Frame → Expr → (List Frame → Expr → Step) → Step
closed (F.Left a p o ∷ fs) e k = closed fs (binary a p o e) k
closed (F.Unary o p ∷ fs) e k = closed fs (unary p o e) k
closed (F.Within p n t a ∷ fs) e k = closed fs (within p n t a e) k
closed fs e k = k fs e

abbrev pub at_close : List Frame → Expr → Step
at_close (F.Round ∷ fs) e = Goes fs (N.Have e)
at_close (F.Arguments c es ∷ fs) e = Goes fs (N.Have (call c (es ++ (e ∷ []))))
at_close (F.Body c x ∷ fs) e = Goes fs (N.Have (iterator c x e))
at_close (F.Fold c x y t s ∷ fs) e = Goes fs (N.Have (iterate c x y t s e))
at_close fs e = Stops fs e

abbrev pub at_close_brace : List Frame → Expr → Step
at_close_brace (F.Elements w p es ∷ fs) e = Goes fs (N.Have (collection w p (es ++ (e ∷ []))))
at_close_brace fs e = Stops fs e

abbrev pub at_comma : List Frame → Expr → Step
at_comma (F.Arguments c es ∷ fs) e = Goes (F.Arguments c (es ++ (e ∷ [])) ∷ fs) N.Operand
at_comma (F.Elements w p es ∷ fs) e = Goes (F.Elements w p (es ++ (e ∷ [])) ∷ fs) N.Operand
at_comma fs e = Stops fs e

abbrev pub at_bar : List Frame → Expr → Step
at_bar (F.Start c x y t ∷ fs) e = Goes (F.Fold c x y t e ∷ fs) N.Operand
at_bar fs e = Stops fs e

abbrev pub at_then : List Frame → Expr → Step
at_then (F.Condition p ∷ fs) e = Goes (F.Then p e ∷ fs) N.Operand
at_then fs e = Stops fs e

abbrev pub at_else : List Frame → Expr → Step
at_else (F.Then p c ∷ fs) e = Goes (F.Else p c e ∷ fs) N.Operand
at_else fs e = Stops fs e

abbrev pub at_endif : List Frame → Expr → Step
at_endif (F.Else p c a ∷ fs) e = Goes fs (N.Have (choice p c a e))
at_endif fs e = Stops fs e

abbrev pub at_in : List Frame → Expr → Step
at_in (F.Value p n t ∷ fs) e = Goes (F.Within p n t e ∷ fs) N.Operand
at_in fs e = Stops fs e

abbrev pub at : Ender → List Frame → Expr → Step
at E.Close = at_close
at E.CloseBrace = at_close_brace
at E.Comma = at_comma
at E.Bar = at_bar
at E.Then = at_then
at E.Else = at_else
at E.Endif = at_endif
at E.In = at_in

-- a sign behind an operand
abbrev pub have_sign : List Frame → Expr → Sign → Place → Step
have_sign fs e (S.Operator o) p = before (level o) fs e (λ gs a. Goes (F.Left a p o ∷ gs) N.Operand)
have_sign fs e S.Dot p = Goes fs (N.Feature e)
have_sign fs e S.Arrow p = Goes fs (N.ArrowName e)
have_sign fs e (S.End c) p = closed fs e (at c)
have_sign fs e s p = Stops fs e

-- a symbol behind an operand
abbrev pub have : List Frame → Expr → Symbol → Place → Step
have fs e (Fixed s) p = have_sign fs e s p
have fs e s p = Stops fs e

-- behind a name that stands for an operand
abbrev pub word : List Frame → Name → Symbol → Place → Step
word fs n (Fixed S.Bang) p = Goes fs (N.ClassName n)
word fs n s p = have fs (variable n) s p

-- a type ends at its parenthesis
abbrev pub kind_closed : List Frame → KindNode → Step
kind_closed (F.CollKind w p ∷ fs) t = Goes fs (N.HaveKind (kind p (Q.Coll w t)))
kind_closed fs t = Refuses

-- a type ends at the = behind it
abbrev pub kind_given : List Frame → KindNode → Step
kind_given (F.LetKind p n ∷ fs) t = Goes (F.Value p n t ∷ fs) N.Operand
kind_given (F.OutcomeKind c x y ∷ fs) t = Goes (F.Start c x y t ∷ fs) N.Operand
kind_given fs t = Refuses

abbrev pub kind_sign : List Frame → Sign → Place → Step
kind_sign fs (S.Basic w) p = Goes fs (N.HaveKind (kind p (Q.Basic w)))
kind_sign fs (S.Coll w) p = Goes fs (N.KindOpen w p)
kind_sign fs s p = Refuses

-- a type begins
abbrev pub a_kind : List Frame → Symbol → Place → Step
a_kind fs (Named s) p = Goes fs (N.KindBang (name p s))
a_kind fs (Fixed s) p = kind_sign fs s p
a_kind fs s p = Refuses

abbrev pub have_kind : List Frame → KindNode → Symbol → Step
have_kind fs t (Fixed (S.End E.Close)) = kind_closed fs t
have_kind fs t (Fixed (S.Operator O.Eq)) = kind_given fs t
have_kind fs t s = Refuses

module _ (b : Bool) where
  -- an expression begins
  abbrev pub begins : List Frame → Place → Step → Step
  begins fs p next = if is_shallow b (deep fs) then next else TooDeep p

  -- a let is no operand
  abbrev pub at_let : List Frame → Place → Step
  at_let (F.Left a q o ∷ fs) p = Refuses
  at_let (F.Unary o q ∷ fs) p = Refuses
  at_let fs p = begins fs p (Goes fs (N.LetName p))

  -- a keyword or a mark begins an operand
  abbrev pub operand_sign : List Frame → Sign → Place → Step
  operand_sign fs (S.Constant c) p = begins fs p (Goes fs (N.Have (expr p (constant c))))
  operand_sign fs (S.Basic w) p = begins fs p (Goes fs (N.Have (expr p (K.Basic w))))
  operand_sign fs (S.Coll w) p = begins fs p (Goes fs (N.Brace w p))
  operand_sign fs (S.Operator O.Minus) p = begins fs p (Goes (F.Unary U.Neg p ∷ fs) N.Operand)
  operand_sign fs S.Not p = begins fs p (Goes (F.Unary U.Not p ∷ fs) N.Operand)
  operand_sign fs S.Open p = begins fs p (Goes (F.Round ∷ fs) N.Operand)
  operand_sign fs S.If p = begins fs p (Goes (F.Condition p ∷ fs) N.Operand)
  operand_sign fs S.Hash p = begins fs p (Goes fs (N.Literal p))
  operand_sign fs S.Let p = at_let fs p
  operand_sign fs s p = Refuses

  -- an operand begins
  abbrev pub operand : List Frame → Symbol → Place → Step
  operand fs (Number n) p = begins fs p (Goes fs (N.Have (expr p (K.Number n))))
  operand fs (Words s) p = begins fs p (Goes fs (N.Have (expr p (K.Words s))))
  operand fs (Named s) p = begins fs p (Goes fs (N.Word (name p s)))
  operand fs (Fixed s) p = operand_sign fs s p

  -- an argument begins with this name
  abbrev pub argued : List Frame → Callee → Name → Symbol → Place → Step
  argued fs c n s p = begins (F.Arguments c [] ∷ fs) n.place (word (F.Arguments c [] ∷ fs) n s p)

  -- no argument can go on so
  abbrev pub unargued : List Frame → Callee → Name → Step
  unargued fs c n = begins (F.Arguments c [] ∷ fs) n.place Refuses

  abbrev pub first_bar : List Frame → Callee → Name → Step
  first_bar fs c n = if is_iterator c.name.text then Goes (F.Body c n ∷ fs) N.Operand else unargued fs c n

  abbrev pub first_semicolon : List Frame → Callee → Name → Step
  first_semicolon fs c n = if is_iterate c.name.text then Goes fs (N.OutcomeName c n) else unargued fs c n

  -- behind the first name in the parentheses of an arrow's call
  abbrev pub first : List Frame → Callee → Name → Symbol → Place → Step
  first fs c n (Fixed (S.End E.Bar)) p = first_bar fs c n
  first fs c n (Fixed S.Semicolon) p = first_semicolon fs c n
  first fs c n s p = argued fs c n s p

  -- in the parentheses of a call
  abbrev pub argument : List Frame → Callee → Symbol → Place → Step
  argument fs c (Fixed (S.End E.Close)) p = Goes fs (N.Have (call c []))
  argument fs c (Named s) p = if c.arrow then Goes fs (N.First c (name p s)) else operand (F.Arguments c [] ∷ fs) (Named s) p
  argument fs c s p = operand (F.Arguments c [] ∷ fs) s p

  abbrev pub step : List Frame → Next → Symbol → Place → Step
  step fs N.Operand s p = operand fs s p
  step fs (N.Argument c) s p = argument fs c s p
  step fs (N.First c n) s p = first fs c n s p
  step fs (N.Word n) s p = word fs n s p
  step fs (N.ClassName n) (Named s) p = Goes fs (N.Have (expr n.place (K.Class (class n s))))
  step fs (N.ClassName n) s p = Refuses
  step fs (N.Literal q) (Named s) p = Goes fs (N.Have (expr q (K.Literal s)))
  step fs (N.Literal q) s p = Refuses
  step fs (N.Brace w q) (Fixed S.OpenBrace) p = Goes fs (N.Element w q)
  step fs (N.Brace w q) s p = Refuses
  step fs (N.Element w q) (Fixed (S.End E.CloseBrace)) p = Goes fs (N.Have (collection w q []))
  step fs (N.Element w q) s p = operand (F.Elements w q [] ∷ fs) s p
  step fs (N.LetName q) (Named s) p = Goes fs (N.LetColon q (name p s))
  step fs (N.LetName q) s p = Refuses
  step fs (N.LetColon q n) (Fixed S.Colon) p = Goes (F.LetKind q n ∷ fs) N.Kind
  step fs (N.LetColon q n) s p = Refuses
  step fs (N.OutcomeName c x) (Named s) p = Goes fs (N.OutcomeColon c x (name p s))
  step fs (N.OutcomeName c x) s p = Refuses
  step fs (N.OutcomeColon c x y) (Fixed S.Colon) p = Goes (F.OutcomeKind c x y ∷ fs) N.Kind
  step fs (N.OutcomeColon c x y) s p = Refuses
  step fs N.Kind s p = a_kind fs s p
  step fs (N.KindOpen w q) (Fixed S.Open) p = Goes (F.CollKind w q ∷ fs) N.Kind
  step fs (N.KindOpen w q) s p = Refuses
  step fs (N.KindBang n) (Fixed S.Bang) p = Goes fs (N.KindClass n)
  step fs (N.KindBang n) s p = Refuses
  step fs (N.KindClass n) (Named s) p = Goes fs (N.HaveKind (kind n.place (Q.Class (class n s))))
  step fs (N.KindClass n) s p = Refuses
  step fs (N.HaveKind t) s p = have_kind fs t s
  step fs (N.Feature e) (Named s) p = Goes fs (N.Named e (name p s))
  step fs (N.Feature e) s p = Refuses
  step fs (N.Named e n) (Fixed S.Open) p = Goes fs (N.Argument (callee e false n))
  step fs (N.Named e n) s p = have fs (feature e n) s p
  step fs (N.ArrowName e) (Named s) p = Goes fs (N.ArrowOpen e (name p s))
  step fs (N.ArrowName e) s p = Refuses
  step fs (N.ArrowOpen e n) (Fixed S.Open) p = Goes fs (N.Argument (callee e true n))
  step fs (N.ArrowOpen e n) s p = Refuses
  step fs (N.Have e) s p = have fs e s p

  -- what the end of the text leads to
  abbrev pub last : List Frame → Next → Step
  last fs (N.Have e) = Stops fs e
  last fs (N.Word n) = Stops fs (variable n)
  last fs (N.Named e n) = Stops fs (feature e n)
  last fs (N.First c n) = unargued fs c n
  last fs n = Refuses

-- how a text begins: with an expression, before the rest; or with none, and then the first of the rest is the first that no
-- expression has there; or with one that begins too deep at a place
pub data End : Type 0 where
  Read : Expr → List Lexeme → End
  Expected : List Lexeme → End
  Deep : Place → End

-- the expression that ends before the rest
abbrev pub over : List Frame → Expr → List Lexeme → End
over [] e rest = Read e rest
over (F.Left a p o ∷ fs) e rest = over fs (binary a p o e) rest
over (F.Unary o p ∷ fs) e rest = over fs (unary p o e) rest
over (F.Within p n t a ∷ fs) e rest = over fs (within p n t a e) rest
over (f ∷ fs) e rest = Expected rest

-- the operand alone: all that is open is in its way
abbrev pub alone : List Frame → Expr → List Lexeme → End
alone [] e rest = Read e rest
alone (f ∷ fs) e rest = Expected rest

abbrev pub after : Step → List Lexeme → (List Frame → Next → End) → End
after (Goes fs n) rest k = k fs n
after (Stops fs e) rest k = over fs e rest
after Refuses rest k = Expected rest
after (TooDeep p) rest k = Deep p

-- nothing follows the end of a text
abbrev pub ended : List Frame → Next → End
ended fs n = Expected []

abbrev pub run : Bool → List Frame → Next → List Lexeme → End
run b fs n [] = after (last b fs n) [] ended
run b fs n (t ∷ ts) = after (step b fs n t.symbol t.place) (t ∷ ts) (λ gs m. run b gs m ts)

abbrev pub read : Bool → List Lexeme → End
read b ts = run b [] N.Operand ts

-- the step that the code's answer is
abbrev pub step_of : List Frame → Move → Step
step_of fs (M.Goes n) = Goes fs n
step_of fs (M.Stops e) = Stops fs e
step_of fs M.Refuses = Refuses
step_of fs (M.TooDeep p) = TooDeep p
