-- Where an expression ends at the end of the text, there it ends before whatever does not go on with it.
use Rattle.std.proofs.Common.{◌≡◌, ℕ, suc, List, [], ◌∷◌, refl, sym, ap, subst}
use Rattle.std.specs.Prelude.{Bool, true, false, nat_le, if◌then◌else◌}
use Rattle.atl_base.specs.declared.place.Place.{Place}
use Rattle.atl_tree.specs.declared.name.Name.{Name}
use Rattle.atl_tree.specs.declared.expr.Expr.{Expr}
use Rattle.ocl_parse.specs.declared.sign.Ender.{Ender}
use Rattle.ocl_parse.specs.declared.sign.Ender.TheVariants as E
use Rattle.ocl_parse.specs.declared.sign.Sign.TheVariants as S
use Rattle.ocl_parse.specs.declared.symbol.Symbol.{Symbol}
use Rattle.ocl_parse.specs.declared.symbol.Symbol.TheVariants as T
use Rattle.ocl_parse.specs.declared.frame.Frame.{Frame}
use Rattle.ocl_parse.specs.declared.frame.Frame.TheVariants as F
use Rattle.ocl_parse.specs.declared.frame.Next.{Next}
use Rattle.ocl_parse.specs.declared.frame.Next.TheVariants as N
use Rattle.ocl_parse.specs.Symbols.{Lexeme}
use Rattle.ocl_parse.specs.Depth.{deep, is_shallow}
use Rattle.ocl_parse.specs.Trees.{level, binary, unary, variable, feature, within}
use Rattle.ocl_parse.specs.Machine.{Step, Goes, Stops, Refuses, TooDeep, before, closed, at, have, word, step, last, End, Read, Expected, Deep, over, after, ended}

-- it has read all of an expression, and nothing stands behind it
abbrev pub IsWhole : End → Type 0
IsWhole (Read e []) = Unit {0}
IsWhole (Read e (t ∷ r)) = ⊥
IsWhole r = ⊥

-- the answer at a symbol is that at the end of the text, where the symbol goes on with nothing
abbrev pub Fine : Expr → Step → Type 0
Fine e (Goes gs m) = Unit {0}
Fine e (Stops gs a) = (rest : List Lexeme) → over gs a rest ≡ Read e rest
Fine e Refuses = ⊥
Fine e (TooDeep p) = ⊥

-- the expression that was read, or the other one
abbrev expr_of : Expr → End → Expr
expr_of d (Read e r) = e
expr_of d r = d

abbrev Got : End → Type 0
Got (Read e r) = Unit {0}
Got r = ⊥

got : (x : End) (e : Expr) → x ≡ Read e [] → Got x
got x e h = subst Got (sym h) tt

pub over_any : (fs : List Frame) (a e : Expr) → over fs a [] ≡ Read e [] → (rest : List Lexeme) → over fs a rest ≡ Read e rest
over_any [] a e h rest = ap (λ x. Read (expr_of a x) rest) h
over_any (F.Left x p o ∷ fs) a e h rest = over_any fs (binary x p o a) e h rest
over_any (F.Unary o p ∷ fs) a e h rest = over_any fs (unary p o a) e h rest
over_any (F.Within p n t x ∷ fs) a e h rest = over_any fs (within p n t x a) e h rest
over_any (f ∷ fs) a e h rest = absurd (got (Expected []) e h)

before_fine : (l : ℕ) (fs : List Frame) (a e : Expr) (k : List Frame → Expr → Step) → ((gs : List Frame) (x : Expr) → Fine e (k gs x)) → Fine e (before l fs a k)
before_fine l [] a e k g = g [] a
before_fine l (F.Left x p o ∷ fs) a e k g = pick (nat_le l (level o)) (before_fine l fs (binary x p o a) e k g)
  where
    pick : (t : Bool) → Fine e (before l fs (binary x p o a) k) → Fine e (if t then before l fs (binary x p o a) k else k (F.Left x p o ∷ fs) a)
    pick true h = h
    pick false h = g (F.Left x p o ∷ fs) a
before_fine l (F.Unary o p ∷ fs) a e k g = before_fine l fs (unary p o a) e k g
before_fine l (f ∷ fs) a e k g = g (f ∷ fs) a

at_end : (c : Ender) (a : Expr) → at c [] a ≡ Stops [] a
at_end E.Close a = refl
at_end E.CloseBrace a = refl
at_end E.Comma a = refl
at_end E.Bar a = refl
at_end E.Then a = refl
at_end E.Else a = refl
at_end E.Endif a = refl
at_end E.In a = refl

closed_fine : (fs : List Frame) (a e : Expr) (c : Ender) → over fs a [] ≡ Read e [] → Fine e (closed fs a (at c))
closed_fine [] a e c h = subst (Fine e) (sym (at_end c a)) (over_any [] a e h)
closed_fine (F.Left x p o ∷ fs) a e c h = closed_fine fs (binary x p o a) e c h
closed_fine (F.Unary o p ∷ fs) a e c h = closed_fine fs (unary p o a) e c h
closed_fine (F.Within p n t x ∷ fs) a e c h = closed_fine fs (within p n t x a) e c h
closed_fine (f ∷ fs) a e c h = absurd (got (Expected []) e h)

have_fine : (fs : List Frame) (a e : Expr) (s : Symbol) (p : Place) → over fs a [] ≡ Read e [] → Fine e (have fs a s p)
have_fine fs a e (T.Fixed (S.Operator o)) p h = before_fine (level o) fs a e (λ gs x. Goes (F.Left x p o ∷ gs) N.Operand) (λ gs x. tt)
have_fine fs a e (T.Fixed S.Dot) p h = tt
have_fine fs a e (T.Fixed S.Arrow) p h = tt
have_fine fs a e (T.Fixed (S.End c)) p h = closed_fine fs a e c h
have_fine fs a e s p h = over_any fs a e h

word_fine : (fs : List Frame) (n : Name) (e : Expr) (s : Symbol) (p : Place) → over fs (variable n) [] ≡ Read e [] → Fine e (word fs n s p)
word_fine fs n e (T.Fixed S.Bang) p h = tt
word_fine fs n e s p h = have_fine fs (variable n) e s p h

module _ (b : Bool) where
  unread : (t : Bool) (p : Place) (e : Expr) → after (if t then Refuses else TooDeep p) [] ended ≡ Read e [] → ⊥
  unread true p e h = got (Expected []) e h
  unread false p e h = got (Deep p) e h

  named_fine : (fs : List Frame) (a : Expr) (n : Name) (e : Expr) (s : Symbol) (p : Place) → over fs (feature a n) [] ≡ Read e [] → Fine e (step b fs (N.Named a n) s p)
  named_fine fs a n e (T.Fixed S.Open) p h = tt
  named_fine fs a n e s p h = have_fine fs (feature a n) e s p h

  pub fine : (fs : List Frame) (m : Next) (e : Expr) (s : Symbol) (p : Place) → after (last b fs m) [] ended ≡ Read e [] → Fine e (step b fs m s p)
  fine fs (N.Have a) e s p h = have_fine fs a e s p h
  fine fs (N.Word n) e s p h = word_fine fs n e s p h
  fine fs (N.Named a n) e s p h = named_fine fs a n e s p h
  fine fs (N.First c n) e s p h = absurd (unread (is_shallow b (suc (deep fs))) n.place e h)
  fine fs m e s p h = absurd (got (Expected []) e h)
