-- The step without depth is the step with it, unless that finds an expression too deep.
use Rattle.std.proofs.Common.{◌≡◌, ℕ, List, [], ◌∷◌, refl}
use Rattle.std.specs.Prelude.{Bool, true, false, if◌then◌else◌}
use Rattle.atl_base.specs.declared.place.Place.{Place}
use Rattle.atl_tree.specs.declared.name.Name.{Name}
use Rattle.atl_tree.specs.declared.kind.CollWord.{CollWord}
use Rattle.atl_tree.specs.declared.expr.ExprKind.TheVariants as K
use Rattle.atl_tree.specs.declared.expr.UnaryOp.TheVariants as U
use Rattle.atl_tree.specs.declared.expr.BinaryOp.TheVariants as O
use Rattle.ocl_parse.specs.declared.sign.Ender.TheVariants as E
use Rattle.ocl_parse.specs.declared.sign.Sign.{Sign}
use Rattle.ocl_parse.specs.declared.sign.Sign.TheVariants as S
use Rattle.ocl_parse.specs.declared.symbol.Symbol.{Symbol}
use Rattle.ocl_parse.specs.declared.symbol.Symbol.TheVariants as T
use Rattle.ocl_parse.specs.declared.frame.Callee.{Callee}
use Rattle.ocl_parse.specs.declared.frame.Frame.{Frame}
use Rattle.ocl_parse.specs.declared.frame.Frame.TheVariants as F
use Rattle.ocl_parse.specs.declared.frame.Next.{Next}
use Rattle.ocl_parse.specs.declared.frame.Next.TheVariants as N
use Rattle.ocl_parse.specs.Signs.{is_iterator, is_iterate}
use Rattle.ocl_parse.specs.Depth.{deep, is_shallow}
use Rattle.ocl_parse.specs.Trees.{expr, name, constant, feature}
use Rattle.ocl_parse.specs.Machine.{Step, Goes, Stops, Refuses, TooDeep, have, word, a_kind, have_kind, begins, at_let, operand_sign, operand, unargued, first, argument, step, last}

abbrev pub Agrees : Step → Step → Type 0
Agrees (TooDeep p) u = Unit {0}
Agrees v u = u ≡ v

same : (u : Step) → Agrees u u
same (Goes gs m) = refl
same (Stops gs e) = refl
same Refuses = refl
same (TooDeep p) = tt

begins_agrees : (fs : List Frame) (p : Place) (next : Step) → Agrees (begins true fs p next) next
begins_agrees fs p next = on (is_shallow true (deep fs))
  where
    on : (t : Bool) → Agrees (if t then next else TooDeep p) next
    on true = same next
    on false = tt

let_agrees : (fs : List Frame) (p : Place) → Agrees (at_let true fs p) (at_let false fs p)
let_agrees [] p = begins_agrees [] p (Goes [] (N.LetName p))
let_agrees (F.Left a q o ∷ fs) p = refl
let_agrees (F.Unary o q ∷ fs) p = refl
let_agrees (f ∷ fs) p = begins_agrees (f ∷ fs) p (Goes (f ∷ fs) (N.LetName p))

sign_agrees : (fs : List Frame) (s : Sign) (p : Place) → Agrees (operand_sign true fs s p) (operand_sign false fs s p)
sign_agrees fs (S.Constant c) p = begins_agrees fs p (Goes fs (N.Have (expr p (constant c))))
sign_agrees fs (S.Basic w) p = begins_agrees fs p (Goes fs (N.Have (expr p (K.Basic w))))
sign_agrees fs (S.Coll w) p = begins_agrees fs p (Goes fs (N.Brace w p))
sign_agrees fs (S.Operator O.Minus) p = begins_agrees fs p (Goes (F.Unary U.Neg p ∷ fs) N.Operand)
sign_agrees fs S.Not p = begins_agrees fs p (Goes (F.Unary U.Not p ∷ fs) N.Operand)
sign_agrees fs S.Open p = begins_agrees fs p (Goes (F.Round ∷ fs) N.Operand)
sign_agrees fs S.If p = begins_agrees fs p (Goes (F.Condition p ∷ fs) N.Operand)
sign_agrees fs S.Hash p = begins_agrees fs p (Goes fs (N.Literal p))
sign_agrees fs S.Let p = let_agrees fs p
sign_agrees fs s p = refl

operand_agrees : (fs : List Frame) (s : Symbol) (p : Place) → Agrees (operand true fs s p) (operand false fs s p)
operand_agrees fs (T.Number n) p = begins_agrees fs p (Goes fs (N.Have (expr p (K.Number n))))
operand_agrees fs (T.Words s) p = begins_agrees fs p (Goes fs (N.Have (expr p (K.Words s))))
operand_agrees fs (T.Name s) p = begins_agrees fs p (Goes fs (N.Word (name p s)))
operand_agrees fs (T.Fixed s) p = sign_agrees fs s p

unargued_agrees : (fs : List Frame) (c : Callee) (n : Name) → Agrees (unargued true fs c n) (unargued false fs c n)
unargued_agrees fs c n = begins_agrees (F.Arguments c [] ∷ fs) n.place Refuses

bar_agrees : (t : Bool) (fs : List Frame) (c : Callee) (n : Name) → Agrees (if t then Goes (F.Body c n ∷ fs) N.Operand else unargued true fs c n) (if t then Goes (F.Body c n ∷ fs) N.Operand else unargued false fs c n)
bar_agrees true fs c n = refl
bar_agrees false fs c n = unargued_agrees fs c n

semicolon_agrees : (t : Bool) (fs : List Frame) (c : Callee) (n : Name) → Agrees (if t then Goes fs (N.OutcomeName c n) else unargued true fs c n) (if t then Goes fs (N.OutcomeName c n) else unargued false fs c n)
semicolon_agrees true fs c n = refl
semicolon_agrees false fs c n = unargued_agrees fs c n

first_agrees : (fs : List Frame) (c : Callee) (n : Name) (s : Symbol) (p : Place) → Agrees (first true fs c n s p) (first false fs c n s p)
first_agrees fs c n (T.Fixed (S.End E.Bar)) p = bar_agrees (is_iterator c.name.text) fs c n
first_agrees fs c n (T.Fixed S.Semicolon) p = semicolon_agrees (is_iterate c.name.text) fs c n
first_agrees fs c n s p = begins_agrees (F.Arguments c [] ∷ fs) n.place (word (F.Arguments c [] ∷ fs) n s p)

name_agrees : (t : Bool) (fs : List Frame) (c : Callee) (s : List ℕ) (p : Place) → Agrees (if t then Goes fs (N.First c (name p s)) else operand true (F.Arguments c [] ∷ fs) (T.Name s) p) (if t then Goes fs (N.First c (name p s)) else operand false (F.Arguments c [] ∷ fs) (T.Name s) p)
name_agrees true fs c s p = refl
name_agrees false fs c s p = operand_agrees (F.Arguments c [] ∷ fs) (T.Name s) p

argument_agrees : (fs : List Frame) (c : Callee) (s : Symbol) (p : Place) → Agrees (argument true fs c s p) (argument false fs c s p)
argument_agrees fs c (T.Fixed (S.End E.Close)) p = refl
argument_agrees fs c (T.Name s) p = name_agrees c.arrow fs c s p
argument_agrees fs c s p = operand_agrees (F.Arguments c [] ∷ fs) s p

element_agrees : (fs : List Frame) (w : CollWord) (q : Place) (s : Symbol) (p : Place) → Agrees (step true fs (N.Element w q) s p) (step false fs (N.Element w q) s p)
element_agrees fs w q (T.Fixed (S.End E.CloseBrace)) p = refl
element_agrees fs w q s p = operand_agrees (F.Elements w q [] ∷ fs) s p

pub agrees : (fs : List Frame) (m : Next) (s : Symbol) (p : Place) → Agrees (step true fs m s p) (step false fs m s p)
agrees fs N.Operand s p = operand_agrees fs s p
agrees fs (N.Argument c) s p = argument_agrees fs c s p
agrees fs (N.First c n) s p = first_agrees fs c n s p
agrees fs (N.Word n) s p = same (word fs n s p)
agrees fs (N.ClassName n) (T.Name s) p = refl
agrees fs (N.ClassName n) s p = refl
agrees fs (N.Literal q) (T.Name s) p = refl
agrees fs (N.Literal q) s p = refl
agrees fs (N.Brace w q) (T.Fixed S.OpenBrace) p = refl
agrees fs (N.Brace w q) s p = refl
agrees fs (N.Element w q) s p = element_agrees fs w q s p
agrees fs (N.LetName q) (T.Name s) p = refl
agrees fs (N.LetName q) s p = refl
agrees fs (N.LetColon q n) (T.Fixed S.Colon) p = refl
agrees fs (N.LetColon q n) s p = refl
agrees fs (N.OutcomeName c x) (T.Name s) p = refl
agrees fs (N.OutcomeName c x) s p = refl
agrees fs (N.OutcomeColon c x y) (T.Fixed S.Colon) p = refl
agrees fs (N.OutcomeColon c x y) s p = refl
agrees fs N.Kind s p = same (a_kind fs s p)
agrees fs (N.KindOpen w q) (T.Fixed S.Open) p = refl
agrees fs (N.KindOpen w q) s p = refl
agrees fs (N.KindBang n) (T.Fixed S.Bang) p = refl
agrees fs (N.KindBang n) s p = refl
agrees fs (N.KindClass n) (T.Name s) p = refl
agrees fs (N.KindClass n) s p = refl
agrees fs (N.HaveKind k) s p = same (have_kind fs k s)
agrees fs (N.Feature a) (T.Name s) p = refl
agrees fs (N.Feature a) s p = refl
agrees fs (N.Named a n) (T.Fixed S.Open) p = refl
agrees fs (N.Named a n) s p = same (have fs (feature a n) s p)
agrees fs (N.ArrowName a) (T.Name s) p = refl
agrees fs (N.ArrowName a) s p = refl
agrees fs (N.ArrowOpen a n) (T.Fixed S.Open) p = refl
agrees fs (N.ArrowOpen a n) s p = refl
agrees fs (N.Have e) s p = same (have fs e s p)

pub last_agrees : (fs : List Frame) (m : Next) → Agrees (last true fs m) (last false fs m)
last_agrees fs (N.Have e) = refl
last_agrees fs (N.Word n) = refl
last_agrees fs (N.Named a n) = refl
last_agrees fs (N.First c n) = unargued_agrees fs c n
last_agrees fs m = refl
