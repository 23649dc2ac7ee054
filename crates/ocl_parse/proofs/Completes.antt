-- Whatever has been read can be completed, where the depth does not count.
use Rattle.std.proofs.Common.{◌≡◌, List, [], ◌∷◌, ◌++◌, refl, ◌∙◌}
use Rattle.std.specs.Prelude.{true, false}
use Rattle.atl_base.specs.declared.place.Place.{Place}
use Rattle.atl_tree.specs.declared.name.Name.{Name}
use Rattle.atl_tree.specs.declared.kind.KindNode.{KindNode}
use Rattle.atl_tree.specs.declared.kind.KindSort.TheVariants as Q
use Rattle.atl_tree.specs.declared.expr.Expr.{Expr}
use Rattle.atl_tree.specs.declared.expr.ExprKind.TheVariants as K
use Rattle.atl_tree.specs.declared.expr.UnaryOp.{UnaryOp}
use Rattle.atl_tree.specs.declared.expr.BinaryOp.{BinaryOp}
use Rattle.atl_tree.specs.declared.expr.BinaryOp.TheVariants as O
use Rattle.atl_tree.specs.declared.kind.BasicWord.TheVariants as B
use Rattle.ocl_parse.specs.declared.sign.Constant.TheVariants as W
use Rattle.ocl_parse.specs.declared.sign.Ender.TheVariants as E
use Rattle.ocl_parse.specs.declared.sign.Sign.{Sign}
use Rattle.ocl_parse.specs.declared.sign.Sign.TheVariants as S
use Rattle.ocl_parse.specs.declared.frame.Callee.{Callee}
use Rattle.ocl_parse.specs.declared.frame.Frame.{Frame}
use Rattle.ocl_parse.specs.declared.frame.Frame.TheVariants as F
use Rattle.ocl_parse.specs.declared.frame.Next.{Next}
use Rattle.ocl_parse.specs.declared.frame.Next.TheVariants as N
use Rattle.ocl_parse.specs.Symbols.{Lexeme}
use Rattle.ocl_parse.specs.Trees.{expr, kind, name, class, binary, unary, variable, feature, callee, call, iterator, iterate, collection, choice, within}
use Rattle.ocl_parse.specs.Machine.{Read, run}
use Rattle.ocl_parse.specs.Grammar.{fixed, named}
use Rattle.ocl_parse.proofs.Ordered.{Plain, Typed, InOrder}

abbrev nowhere : Place
nowhere = record { line = 1; column = 1 }

abbrev pub put : Sign → Lexeme
put s = fixed nowhere s

abbrev self_ : Lexeme
self_ = put (S.Constant W.Own)

abbrev own : Expr
own = expr nowhere K.Own

abbrev noname : Name
noname = name nowhere []

-- symbols that end what is open
abbrev pub closing : List Frame → List Lexeme
closing [] = []
closing (F.Round ∷ fs) = put (S.End E.Close) ∷ closing fs
closing (F.Arguments c es ∷ fs) = put (S.End E.Close) ∷ closing fs
closing (F.Body c x ∷ fs) = put (S.End E.Close) ∷ closing fs
closing (F.Start c x y t ∷ fs) = put (S.End E.Bar) ∷ self_ ∷ put (S.End E.Close) ∷ closing fs
closing (F.Fold c x y t s ∷ fs) = put (S.End E.Close) ∷ closing fs
closing (F.Elements w p es ∷ fs) = put (S.End E.CloseBrace) ∷ closing fs
closing (F.Condition p ∷ fs) = put (S.End E.Then) ∷ self_ ∷ put (S.End E.Else) ∷ self_ ∷ put (S.End E.Endif) ∷ closing fs
closing (F.Then p c ∷ fs) = put (S.End E.Else) ∷ self_ ∷ put (S.End E.Endif) ∷ closing fs
closing (F.Else p c a ∷ fs) = put (S.End E.Endif) ∷ closing fs
closing (F.Value p n t ∷ fs) = put (S.End E.In) ∷ self_ ∷ closing fs
closing (F.Within p n t a ∷ fs) = closing fs
closing (F.Unary o p ∷ fs) = closing fs
closing (F.Left a p o ∷ fs) = closing fs
closing (F.LetKind p n ∷ fs) = put (S.Operator O.Eq) ∷ self_ ∷ put (S.End E.In) ∷ self_ ∷ closing fs
closing (F.OutcomeKind c x y ∷ fs) = put (S.Operator O.Eq) ∷ self_ ∷ put (S.End E.Bar) ∷ self_ ∷ put (S.End E.Close) ∷ closing fs
closing (F.CollKind w p ∷ fs) = put (S.End E.Close) ∷ closing fs

abbrev pub Ends : List Frame → Next → List Lexeme → Type 0
Ends fs m ts = (e : Expr) × (run false fs m ts ≡ Read e [])

-- an operator and a let end with whatever ends them
left_ends : (a : Expr) (p : Place) (o : BinaryOp) (fs gs : List Frame) (e : Expr) → Plain gs → run false (F.Left a p o ∷ fs) (N.Have e) (closing gs) ≡ run false fs (N.Have (binary a p o e)) (closing gs)
left_ends a p o fs (F.Within q n t c ∷ gs) e h = left_ends a p o fs gs e h
left_ends a p o fs (F.Unary u q ∷ gs) e h = left_ends a p o fs gs e h
left_ends a p o fs (F.Left c q u ∷ gs) e h = left_ends a p o fs gs e h
left_ends a p o fs (F.LetKind q n ∷ gs) e h = absurd h
left_ends a p o fs (F.OutcomeKind c x y ∷ gs) e h = absurd h
left_ends a p o fs (F.CollKind w q ∷ gs) e h = absurd h
left_ends a p o fs gs e h = refl

unary_ends : (o : UnaryOp) (p : Place) (fs gs : List Frame) (e : Expr) → Plain gs → run false (F.Unary o p ∷ fs) (N.Have e) (closing gs) ≡ run false fs (N.Have (unary p o e)) (closing gs)
unary_ends o p fs (F.Within q n t c ∷ gs) e h = unary_ends o p fs gs e h
unary_ends o p fs (F.Unary u q ∷ gs) e h = unary_ends o p fs gs e h
unary_ends o p fs (F.Left c q u ∷ gs) e h = unary_ends o p fs gs e h
unary_ends o p fs (F.LetKind q n ∷ gs) e h = absurd h
unary_ends o p fs (F.OutcomeKind c x y ∷ gs) e h = absurd h
unary_ends o p fs (F.CollKind w q ∷ gs) e h = absurd h
unary_ends o p fs gs e h = refl

let_ends : (p : Place) (n : Name) (t : KindNode) (a : Expr) (fs gs : List Frame) (e : Expr) → Plain gs → run false (F.Within p n t a ∷ fs) (N.Have e) (closing gs) ≡ run false fs (N.Have (within p n t a e)) (closing gs)
let_ends p n t a fs (F.Within q m u c ∷ gs) e h = let_ends p n t a fs gs e h
let_ends p n t a fs (F.Unary u q ∷ gs) e h = let_ends p n t a fs gs e h
let_ends p n t a fs (F.Left c q u ∷ gs) e h = let_ends p n t a fs gs e h
let_ends p n t a fs (F.LetKind q m ∷ gs) e h = absurd h
let_ends p n t a fs (F.OutcomeKind c x y ∷ gs) e h = absurd h
let_ends p n t a fs (F.CollKind w q ∷ gs) e h = absurd h
let_ends p n t a fs gs e h = refl

word_ends : (fs gs : List Frame) (n : Name) → Plain gs → run false fs (N.Word n) (closing gs) ≡ run false fs (N.Have (variable n)) (closing gs)
word_ends fs (F.Within q m u c ∷ gs) n h = word_ends fs gs n h
word_ends fs (F.Unary u q ∷ gs) n h = word_ends fs gs n h
word_ends fs (F.Left c q u ∷ gs) n h = word_ends fs gs n h
word_ends fs (F.LetKind q m ∷ gs) n h = absurd h
word_ends fs (F.OutcomeKind c x y ∷ gs) n h = absurd h
word_ends fs (F.CollKind w q ∷ gs) n h = absurd h
word_ends fs gs n h = refl

named_ends : (fs gs : List Frame) (a : Expr) (n : Name) → Plain gs → run false fs (N.Named a n) (closing gs) ≡ run false fs (N.Have (feature a n)) (closing gs)
named_ends fs (F.Within q m u c ∷ gs) a n h = named_ends fs gs a n h
named_ends fs (F.Unary u q ∷ gs) a n h = named_ends fs gs a n h
named_ends fs (F.Left c q u ∷ gs) a n h = named_ends fs gs a n h
named_ends fs (F.LetKind q m ∷ gs) a n h = absurd h
named_ends fs (F.OutcomeKind c x y ∷ gs) a n h = absurd h
named_ends fs (F.CollKind w q ∷ gs) a n h = absurd h
named_ends fs gs a n h = refl

have_ends : (fs : List Frame) (e : Expr) → Plain fs → Ends fs (N.Have e) (closing fs)
have_ends [] e h = (e, refl)
have_ends (F.Round ∷ fs) e h = have_ends fs e h
have_ends (F.Arguments c es ∷ fs) e h = have_ends fs (call c (es ++ (e ∷ []))) h
have_ends (F.Body c x ∷ fs) e h = have_ends fs (iterator c x e) h
have_ends (F.Start c x y t ∷ fs) e h = have_ends fs (iterate c x y t e own) h
have_ends (F.Fold c x y t s ∷ fs) e h = have_ends fs (iterate c x y t s e) h
have_ends (F.Elements w p es ∷ fs) e h = have_ends fs (collection w p (es ++ (e ∷ []))) h
have_ends (F.Condition p ∷ fs) e h = have_ends fs (choice p e own own) h
have_ends (F.Then p c ∷ fs) e h = have_ends fs (choice p c e own) h
have_ends (F.Else p c a ∷ fs) e h = have_ends fs (choice p c a e) h
have_ends (F.Value p n t ∷ fs) e h = let x = have_ends fs (within p n t e own) h in (x.0, let_ends p n t e fs fs own h ∙ x.1)
have_ends (F.Within p n t a ∷ fs) e h = let x = have_ends fs (within p n t a e) h in (x.0, let_ends p n t a fs fs e h ∙ x.1)
have_ends (F.Unary o p ∷ fs) e h = let x = have_ends fs (unary p o e) h in (x.0, unary_ends o p fs fs e h ∙ x.1)
have_ends (F.Left a p o ∷ fs) e h = let x = have_ends fs (binary a p o e) h in (x.0, left_ends a p o fs fs e h ∙ x.1)
have_ends (F.LetKind p n ∷ fs) e h = absurd h
have_ends (F.OutcomeKind c x y ∷ fs) e h = absurd h
have_ends (F.CollKind w p ∷ fs) e h = absurd h

kind_ends : (fs : List Frame) (k : KindNode) → Typed fs → Ends fs (N.HaveKind k) (closing fs)
kind_ends (F.LetKind p n ∷ fs) k h = let x = have_ends fs (within p n k own own) h in (x.0, let_ends p n k own fs fs own h ∙ x.1)
kind_ends (F.OutcomeKind c x y ∷ fs) k h = have_ends fs (iterate c x y k own own) h
kind_ends (F.CollKind w p ∷ fs) k h = kind_ends fs (kind p (Q.Coll w k)) h
kind_ends fs k h = absurd h

abbrev string : Lexeme
string = put (S.Basic B.Words)

abbrev string_kind : KindNode
string_kind = kind nowhere (Q.Basic B.Words)

pub record Completion (fs : List Frame) (m : Next) : Type 0 where
  pub more : List Lexeme
  pub ends : Ends fs m more

completed : (fs : List Frame) (m : Next) (ts : List Lexeme) → Ends fs m ts → Completion fs m
completed fs m ts h = record { more = ts; ends = h }

pub first_ends : (fs : List Frame) (c : Callee) (n : Name) → Plain fs → Ends fs (N.First c n) (put (S.End E.Close) ∷ closing fs)
first_ends fs c n h = have_ends fs (call c (variable n ∷ [])) h

pub completes : (fs : List Frame) (m : Next) → InOrder fs m → Completion fs m
completes fs N.Operand h = completed fs N.Operand (self_ ∷ closing fs) (have_ends fs own h)
completes fs (N.Argument c) h = completed fs (N.Argument c) (put (S.End E.Close) ∷ closing fs) (have_ends fs (call c []) h)
completes fs (N.First c n) h = completed fs (N.First c n) (put (S.End E.Close) ∷ closing fs) (first_ends fs c n h)
completes fs (N.Word n) h = let x = have_ends fs (variable n) h in completed fs (N.Word n) (closing fs) (x.0, word_ends fs fs n h ∙ x.1)
completes fs (N.ClassName n) h = completed fs (N.ClassName n) (named noname ∷ closing fs) (have_ends fs (expr n.place (K.Class (class n []))) h)
completes fs (N.Literal p) h = completed fs (N.Literal p) (named noname ∷ closing fs) (have_ends fs (expr p (K.Literal [])) h)
completes fs (N.Brace w p) h = completed fs (N.Brace w p) (put S.OpenBrace ∷ put (S.End E.CloseBrace) ∷ closing fs) (have_ends fs (collection w p []) h)
completes fs (N.Element w p) h = completed fs (N.Element w p) (put (S.End E.CloseBrace) ∷ closing fs) (have_ends fs (collection w p []) h)
completes fs (N.LetName p) h = completed fs (N.LetName p) (named noname ∷ put S.Colon ∷ string ∷ closing (F.LetKind p noname ∷ fs)) (kind_ends (F.LetKind p noname ∷ fs) string_kind h)
completes fs (N.LetColon p n) h = completed fs (N.LetColon p n) (put S.Colon ∷ string ∷ closing (F.LetKind p n ∷ fs)) (kind_ends (F.LetKind p n ∷ fs) string_kind h)
completes fs (N.OutcomeName c x) h = completed fs (N.OutcomeName c x) (named noname ∷ put S.Colon ∷ string ∷ closing (F.OutcomeKind c x noname ∷ fs)) (kind_ends (F.OutcomeKind c x noname ∷ fs) string_kind h)
completes fs (N.OutcomeColon c x y) h = completed fs (N.OutcomeColon c x y) (put S.Colon ∷ string ∷ closing (F.OutcomeKind c x y ∷ fs)) (kind_ends (F.OutcomeKind c x y ∷ fs) string_kind h)
completes fs N.Kind h = completed fs N.Kind (string ∷ closing fs) (kind_ends fs string_kind h)
completes fs (N.KindOpen w p) h = completed fs (N.KindOpen w p) (put S.Open ∷ string ∷ closing (F.CollKind w p ∷ fs)) (kind_ends (F.CollKind w p ∷ fs) string_kind h)
completes fs (N.KindBang n) h = completed fs (N.KindBang n) (put S.Bang ∷ named noname ∷ closing fs) (kind_ends fs (kind n.place (Q.Class (class n []))) h)
completes fs (N.KindClass n) h = completed fs (N.KindClass n) (named noname ∷ closing fs) (kind_ends fs (kind n.place (Q.Class (class n []))) h)
completes fs (N.HaveKind k) h = completed fs (N.HaveKind k) (closing fs) (kind_ends fs k h)
completes fs (N.Feature a) h = let x = have_ends fs (feature a noname) h in completed fs (N.Feature a) (named noname ∷ closing fs) (x.0, named_ends fs fs a noname h ∙ x.1)
completes fs (N.Named a n) h = let x = have_ends fs (feature a n) h in completed fs (N.Named a n) (closing fs) (x.0, named_ends fs fs a n h ∙ x.1)
completes fs (N.ArrowName a) h = completed fs (N.ArrowName a) (named noname ∷ put S.Open ∷ put (S.End E.Close) ∷ closing fs) (have_ends fs (call (callee a true noname) []) h)
completes fs (N.ArrowOpen a n) h = completed fs (N.ArrowOpen a n) (put S.Open ∷ put (S.End E.Close) ∷ closing fs) (have_ends fs (call (callee a true n) []) h)
completes fs (N.Have e) h = completed fs (N.Have e) (closing fs) (have_ends fs e h)
