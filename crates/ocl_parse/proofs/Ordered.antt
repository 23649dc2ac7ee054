-- Types are open only within types: below them, and while expressions are read, no type is.
use Rattle.std.proofs.Common.{ℕ, List, [], ◌∷◌}
use Rattle.std.specs.Prelude.{Bool, true, false, nat_le, if◌then◌else◌}
use Rattle.atl_base.specs.declared.place.Place.{Place}
use Rattle.atl_tree.specs.declared.name.Name.{Name}
use Rattle.atl_tree.specs.declared.kind.KindNode.{KindNode}
use Rattle.atl_tree.specs.declared.expr.Expr.{Expr}
use Rattle.atl_tree.specs.declared.expr.ExprKind.TheVariants as K
use Rattle.atl_tree.specs.declared.expr.UnaryOp.TheVariants as U
use Rattle.atl_tree.specs.declared.expr.BinaryOp.TheVariants as O
use Rattle.ocl_parse.specs.declared.sign.Ender.{Ender}
use Rattle.ocl_parse.specs.declared.sign.Ender.TheVariants as E
use Rattle.ocl_parse.specs.declared.sign.Sign.TheVariants as S
use Rattle.ocl_parse.specs.declared.symbol.Symbol.{Symbol}
use Rattle.ocl_parse.specs.declared.symbol.Symbol.TheVariants as T
use Rattle.ocl_parse.specs.declared.frame.Callee.{Callee}
use Rattle.ocl_parse.specs.declared.frame.Frame.{Frame}
use Rattle.ocl_parse.specs.declared.frame.Frame.TheVariants as F
use Rattle.ocl_parse.specs.declared.frame.Next.{Next}
use Rattle.ocl_parse.specs.declared.frame.Next.TheVariants as N
use Rattle.ocl_parse.specs.Signs.{is_iterator, is_iterate}
use Rattle.ocl_parse.specs.Depth.{deep, is_shallow}
use Rattle.ocl_parse.specs.Trees.{expr, name, level, constant, binary, unary, variable, feature, within}
use Rattle.ocl_parse.specs.Machine.{Step, Goes, Refuses, TooDeep, before, closed, at_close, at, have, word, kind_closed, kind_given, begins, at_let, operand, unargued, first, argument, step}

-- no type is open
abbrev pub Plain : List Frame → Type 0
Plain [] = Unit {0}
Plain (F.LetKind p n ∷ fs) = ⊥
Plain (F.OutcomeKind c x y ∷ fs) = ⊥
Plain (F.CollKind w p ∷ fs) = ⊥
Plain (f ∷ fs) = Plain fs

-- a type is open
abbrev pub Typed : List Frame → Type 0
Typed (F.LetKind p n ∷ fs) = Plain fs
Typed (F.OutcomeKind c x y ∷ fs) = Plain fs
Typed (F.CollKind w p ∷ fs) = Typed fs
Typed fs = ⊥

abbrev pub InOrder : List Frame → Next → Type 0
InOrder fs N.Kind = Typed fs
InOrder fs (N.KindOpen w p) = Typed fs
InOrder fs (N.KindBang n) = Typed fs
InOrder fs (N.KindClass n) = Typed fs
InOrder fs (N.HaveKind k) = Typed fs
InOrder fs m = Plain fs

abbrev pub StepInOrder : Step → Type 0
StepInOrder (Goes gs m) = InOrder gs m
StepInOrder u = Unit {0}

closed_ordered : (fs : List Frame) (e : Expr) (k : List Frame → Expr → Step) → Plain fs → ((gs : List Frame) (a : Expr) → Plain gs → StepInOrder (k gs a)) → StepInOrder (closed fs e k)
closed_ordered [] e k h g = g [] e h
closed_ordered (F.Left a p o ∷ fs) e k h g = closed_ordered fs (binary a p o e) k h g
closed_ordered (F.Unary o p ∷ fs) e k h g = closed_ordered fs (unary p o e) k h g
closed_ordered (F.Within p n t a ∷ fs) e k h g = closed_ordered fs (within p n t a e) k h g
closed_ordered (f ∷ fs) e k h g = g (f ∷ fs) e h

before_ordered : (l : ℕ) (fs : List Frame) (e : Expr) (k : List Frame → Expr → Step) → Plain fs → ((gs : List Frame) (a : Expr) → Plain gs → StepInOrder (k gs a)) → StepInOrder (before l fs e k)
before_ordered l [] e k h g = g [] e h
before_ordered l (F.Left a p o ∷ fs) e k h g = pick (nat_le l (level o)) (before_ordered l fs (binary a p o e) k h g)
  where
    pick : (t : Bool) → StepInOrder (before l fs (binary a p o e) k) → StepInOrder (if t then before l fs (binary a p o e) k else k (F.Left a p o ∷ fs) e)
    pick true x = x
    pick false x = g (F.Left a p o ∷ fs) e h
before_ordered l (F.Unary o p ∷ fs) e k h g = before_ordered l fs (unary p o e) k h g
before_ordered l (f ∷ fs) e k h g = g (f ∷ fs) e h

close_ordered : (gs : List Frame) (a : Expr) → Plain gs → StepInOrder (at_close gs a)
close_ordered (F.Round ∷ gs) a h = h
close_ordered (F.Arguments c es ∷ gs) a h = h
close_ordered (F.Body c x ∷ gs) a h = h
close_ordered (F.Fold c x y t s ∷ gs) a h = h
close_ordered gs a h = tt

at_ordered : (c : Ender) (gs : List Frame) (a : Expr) → Plain gs → StepInOrder (at c gs a)
at_ordered E.Close gs a h = close_ordered gs a h
at_ordered E.CloseBrace (F.Elements w p es ∷ gs) a h = h
at_ordered E.CloseBrace gs a h = tt
at_ordered E.Comma (F.Arguments c es ∷ gs) a h = h
at_ordered E.Comma (F.Elements w p es ∷ gs) a h = h
at_ordered E.Comma gs a h = tt
at_ordered E.Bar (F.Start c x y t ∷ gs) a h = h
at_ordered E.Bar gs a h = tt
at_ordered E.Then (F.Condition p ∷ gs) a h = h
at_ordered E.Then gs a h = tt
at_ordered E.Else (F.Then p c ∷ gs) a h = h
at_ordered E.Else gs a h = tt
at_ordered E.Endif (F.Else p c x ∷ gs) a h = h
at_ordered E.Endif gs a h = tt
at_ordered E.In (F.Value p n t ∷ gs) a h = h
at_ordered E.In gs a h = tt

have_ordered : (fs : List Frame) (e : Expr) (s : Symbol) (p : Place) → Plain fs → StepInOrder (have fs e s p)
have_ordered fs e (T.Fixed (S.Operator o)) p h = before_ordered (level o) fs e (λ gs a. Goes (F.Left a p o ∷ gs) N.Operand) h (λ gs a x. x)
have_ordered fs e (T.Fixed S.Dot) p h = h
have_ordered fs e (T.Fixed S.Arrow) p h = h
have_ordered fs e (T.Fixed (S.End c)) p h = closed_ordered fs e (at c) h (at_ordered c)
have_ordered fs e s p h = tt

word_ordered : (fs : List Frame) (n : Name) (s : Symbol) (p : Place) → Plain fs → StepInOrder (word fs n s p)
word_ordered fs n (T.Fixed S.Bang) p h = h
word_ordered fs n s p h = have_ordered fs (variable n) s p h

module _ (b : Bool) where
  begins_ordered : (fs : List Frame) (p : Place) (next : Step) → StepInOrder next → StepInOrder (begins b fs p next)
  begins_ordered fs p next h = on (is_shallow b (deep fs))
    where
      on : (t : Bool) → StepInOrder (if t then next else TooDeep p)
      on true = h
      on false = tt

  let_ordered : (fs : List Frame) (p : Place) → Plain fs → StepInOrder (at_let b fs p)
  let_ordered [] p h = begins_ordered [] p (Goes [] (N.LetName p)) h
  let_ordered (F.Left a q o ∷ fs) p h = tt
  let_ordered (F.Unary o q ∷ fs) p h = tt
  let_ordered (f ∷ fs) p h = begins_ordered (f ∷ fs) p (Goes (f ∷ fs) (N.LetName p)) h

  operand_ordered : (fs : List Frame) (s : Symbol) (p : Place) → Plain fs → StepInOrder (operand b fs s p)
  operand_ordered fs (T.Number n) p h = begins_ordered fs p (Goes fs (N.Have (expr p (K.Number n)))) h
  operand_ordered fs (T.Words s) p h = begins_ordered fs p (Goes fs (N.Have (expr p (K.Words s)))) h
  operand_ordered fs (T.Name s) p h = begins_ordered fs p (Goes fs (N.Word (name p s))) h
  operand_ordered fs (T.Fixed (S.Constant c)) p h = begins_ordered fs p (Goes fs (N.Have (expr p (constant c)))) h
  operand_ordered fs (T.Fixed (S.Basic w)) p h = begins_ordered fs p (Goes fs (N.Have (expr p (K.Basic w)))) h
  operand_ordered fs (T.Fixed (S.Coll w)) p h = begins_ordered fs p (Goes fs (N.Brace w p)) h
  operand_ordered fs (T.Fixed (S.Operator O.Minus)) p h = begins_ordered fs p (Goes (F.Unary U.Neg p ∷ fs) N.Operand) h
  operand_ordered fs (T.Fixed S.Not) p h = begins_ordered fs p (Goes (F.Unary U.Not p ∷ fs) N.Operand) h
  operand_ordered fs (T.Fixed S.Open) p h = begins_ordered fs p (Goes (F.Round ∷ fs) N.Operand) h
  operand_ordered fs (T.Fixed S.If) p h = begins_ordered fs p (Goes (F.Condition p ∷ fs) N.Operand) h
  operand_ordered fs (T.Fixed S.Hash) p h = begins_ordered fs p (Goes fs (N.Literal p)) h
  operand_ordered fs (T.Fixed S.Let) p h = let_ordered fs p h
  operand_ordered fs s p h = tt

  unargued_ordered : (fs : List Frame) (c : Callee) (n : Name) → StepInOrder (unargued b fs c n)
  unargued_ordered fs c n = begins_ordered (F.Arguments c [] ∷ fs) n.place Refuses tt

  bar_ordered : (t : Bool) (fs : List Frame) (c : Callee) (n : Name) → Plain fs → StepInOrder (if t then Goes (F.Body c n ∷ fs) N.Operand else unargued b fs c n)
  bar_ordered true fs c n h = h
  bar_ordered false fs c n h = unargued_ordered fs c n

  semicolon_ordered : (t : Bool) (fs : List Frame) (c : Callee) (n : Name) → Plain fs → StepInOrder (if t then Goes fs (N.OutcomeName c n) else unargued b fs c n)
  semicolon_ordered true fs c n h = h
  semicolon_ordered false fs c n h = unargued_ordered fs c n

  first_ordered : (fs : List Frame) (c : Callee) (n : Name) (s : Symbol) (p : Place) → Plain fs → StepInOrder (first b fs c n s p)
  first_ordered fs c n (T.Fixed (S.End E.Bar)) p h = bar_ordered (is_iterator c.name.text) fs c n h
  first_ordered fs c n (T.Fixed S.Semicolon) p h = semicolon_ordered (is_iterate c.name.text) fs c n h
  first_ordered fs c n s p h = begins_ordered (F.Arguments c [] ∷ fs) n.place (word (F.Arguments c [] ∷ fs) n s p) (word_ordered (F.Arguments c [] ∷ fs) n s p h)

  name_ordered : (t : Bool) (fs : List Frame) (c : Callee) (s : List ℕ) (p : Place) → Plain fs → StepInOrder (if t then Goes fs (N.First c (name p s)) else operand b (F.Arguments c [] ∷ fs) (T.Name s) p)
  name_ordered true fs c s p h = h
  name_ordered false fs c s p h = operand_ordered (F.Arguments c [] ∷ fs) (T.Name s) p h

  argument_ordered : (fs : List Frame) (c : Callee) (s : Symbol) (p : Place) → Plain fs → StepInOrder (argument b fs c s p)
  argument_ordered fs c (T.Fixed (S.End E.Close)) p h = h
  argument_ordered fs c (T.Name s) p h = name_ordered c.arrow fs c s p h
  argument_ordered fs c s p h = operand_ordered (F.Arguments c [] ∷ fs) s p h

  closed_kind : (fs : List Frame) (k : KindNode) → Typed fs → StepInOrder (kind_closed fs k)
  closed_kind (F.CollKind w q ∷ fs) k h = h
  closed_kind fs k h = tt

  given_kind : (fs : List Frame) (k : KindNode) → Typed fs → StepInOrder (kind_given fs k)
  given_kind (F.LetKind q n ∷ fs) k h = h
  given_kind (F.OutcomeKind c x y ∷ fs) k h = h
  given_kind fs k h = tt

  pub step_ordered : (fs : List Frame) (m : Next) (s : Symbol) (p : Place) → InOrder fs m → StepInOrder (step b fs m s p)
  step_ordered fs N.Operand s p h = operand_ordered fs s p h
  step_ordered fs (N.Argument c) s p h = argument_ordered fs c s p h
  step_ordered fs (N.First c n) s p h = first_ordered fs c n s p h
  step_ordered fs (N.Word n) s p h = word_ordered fs n s p h
  step_ordered fs (N.ClassName n) (T.Name s) p h = h
  step_ordered fs (N.ClassName n) s p h = tt
  step_ordered fs (N.Literal q) (T.Name s) p h = h
  step_ordered fs (N.Literal q) s p h = tt
  step_ordered fs (N.Brace w q) (T.Fixed S.OpenBrace) p h = h
  step_ordered fs (N.Brace w q) s p h = tt
  step_ordered fs (N.Element w q) (T.Fixed (S.End E.CloseBrace)) p h = h
  step_ordered fs (N.Element w q) s p h = operand_ordered (F.Elements w q [] ∷ fs) s p h
  step_ordered fs (N.LetName q) (T.Name s) p h = h
  step_ordered fs (N.LetName q) s p h = tt
  step_ordered fs (N.LetColon q n) (T.Fixed S.Colon) p h = h
  step_ordered fs (N.LetColon q n) s p h = tt
  step_ordered fs (N.OutcomeName c x) (T.Name s) p h = h
  step_ordered fs (N.OutcomeName c x) s p h = tt
  step_ordered fs (N.OutcomeColon c x y) (T.Fixed S.Colon) p h = h
  step_ordered fs (N.OutcomeColon c x y) s p h = tt
  step_ordered fs N.Kind (T.Name s) p h = h
  step_ordered fs N.Kind (T.Fixed (S.Basic w)) p h = h
  step_ordered fs N.Kind (T.Fixed (S.Coll w)) p h = h
  step_ordered fs N.Kind s p h = tt
  step_ordered fs (N.KindOpen w q) (T.Fixed S.Open) p h = h
  step_ordered fs (N.KindOpen w q) s p h = tt
  step_ordered fs (N.KindBang n) (T.Fixed S.Bang) p h = h
  step_ordered fs (N.KindBang n) s p h = tt
  step_ordered fs (N.KindClass n) (T.Name s) p h = h
  step_ordered fs (N.KindClass n) s p h = tt
  step_ordered fs (N.HaveKind k) (T.Fixed (S.End E.Close)) p h = closed_kind fs k h
  step_ordered fs (N.HaveKind k) (T.Fixed (S.Operator O.Eq)) p h = given_kind fs k h
  step_ordered fs (N.HaveKind k) s p h = tt
  step_ordered fs (N.Feature a) (T.Name s) p h = h
  step_ordered fs (N.Feature a) s p h = tt
  step_ordered fs (N.Named a n) (T.Fixed S.Open) p h = h
  step_ordered fs (N.Named a n) s p h = have_ordered fs (feature a n) s p h
  step_ordered fs (N.ArrowName a) (T.Name s) p h = h
  step_ordered fs (N.ArrowName a) s p h = tt
  step_ordered fs (N.ArrowOpen a n) (T.Fixed S.Open) p h = h
  step_ordered fs (N.ArrowOpen a n) s p h = tt
  step_ordered fs (N.Have e) s p h = have_ordered fs e s p h
