-- How a statement begins.
use Rattle.std.proofs.Common.{◌≡◌, List, [], ◌∷◌, ◌++◌, refl, sym, ◌∙◌, subst}
use Rattle.std.specs.Prelude.{Bool, true, false, map, None}
use Rattle.atl_base.specs.declared.place.Place.{Place}
use Rattle.atl_tree.specs.declared.expr.Expr.{Expr}
use Rattle.atl_tree.specs.declared.module.Stat.{Stat}
use Rattle.atl_tree.specs.declared.module.Stat.TheVariants as A
use Rattle.ocl_parse.specs.declared.sign.Ender.TheVariants as E
use Rattle.ocl_parse.specs.declared.sign.Sign.TheVariants as S
use Rattle.ocl_parse.specs.declared.symbol.Symbol.{Symbol}
use Rattle.ocl_parse.specs.declared.symbol.Symbol.TheVariants as T
use Rattle.ocl_parse.specs.declared.frame.Frame.TheVariants as F
use Rattle.ocl_parse.specs.declared.frame.Next.TheVariants as N
use Rattle.ocl_parse.specs.Symbols.{Lexeme, lexeme}
use Rattle.ocl_parse.specs.Depth.{passes, is_shallow}
use Rattle.ocl_parse.specs.Grammar.{fixed, Written, spelt, tree_of}
use Rattle.ocl_parse.specs.Machine.{run as run_inside, Goes as GoesInside, Read as ReadInside, Expected as ExpectedInside}
use Rattle.ocl_parse.proofs.Accepts.{starts}
use Rattle.module_grammar.specs.Marks.{Content, Shared, Mark, sign, shared, expression}
use Rattle.module_grammar.specs.Grammar.{begins_if, Whole}
use Rattle.module_states.specs.Machine.{Blocks, ForStat, InExpr, AtStat, AtIf, AtElse, run}
use Rattle.module_laws.proofs.Inside.{got, read_alone}

abbrev pub NoElse : Content → Type 0
NoElse (Shared (T.Fixed (S.End E.Else))) = ⊥
NoElse c = Unit {0}

-- no statement begins with else
abbrev pub NotElse : List Mark → Type 0
NotElse [] = Unit {0}
NotElse (t ∷ ts) = NoElse t.content

abbrev IsFalse : Bool → Type 0
IsFalse false = Unit {0}
IsFalse true = ⊥

module _ (b : Bool) where
  -- an expression that stands in no other is not too deep
  pub shallow : is_shallow b 0 ≡ true
  shallow = on b
    where
      on : (t : Bool) → passes t true ≡ true
      on true = refl
      on false = refl

  opens_if : (p : Place) (us : List Lexeme) → run_inside b [] N.Operand (fixed p S.If ∷ us) ≡ run_inside b (F.Condition p ∷ []) N.Operand us
  opens_if p us = starts b [] p (GoesInside (F.Condition p ∷ []) N.Operand) (fixed p S.If) us shallow

  condition : (k : Blocks) (ss : List Stat) (p : Place) (r : List Mark) → run b (InExpr (ForStat k ss) [] N.Operand) (sign p S.If ∷ r) ≡ run b (InExpr (ForStat k ss) (F.Condition p ∷ []) N.Operand) r
  condition k ss p r = rw shallow refl

  within_if : (us : List Lexeme) (e : Expr) (p : Place) (k : Blocks) (ss : List Stat) (r : List Mark) → run_inside b (F.Condition p ∷ []) N.Operand us ≡ ReadInside e [] → begins_if (fixed p S.If ∷ us) ≡ false
      → run b (AtIf k ss p) (map shared us ++ r) ≡ run b (InExpr (ForStat k ss) (F.Condition p ∷ []) N.Operand) (map shared us ++ r)
  within_if [] e p k ss r h g = absurd (got (ExpectedInside []) e [] h)
  within_if (u ∷ us) e p k ss r h g = on u.symbol u.place g
    where
      on : (s : Symbol) (q : Place) → begins_if (fixed p S.If ∷ lexeme q s ∷ us) ≡ false → run b (AtIf k ss p) (map shared (lexeme q s ∷ us) ++ r) ≡ run b (InExpr (ForStat k ss) (F.Condition p ∷ []) N.Operand) (map shared (lexeme q s ∷ us) ++ r)
      on (T.Fixed S.Open) q g = absurd (subst IsFalse (sym g) tt)
      on s q g = refl

  begun : (ts : List Lexeme) (e : Expr) (k : Blocks) (ss : List Stat) (r : List Mark) → run_inside b [] N.Operand ts ≡ ReadInside e [] → begins_if ts ≡ false
      → run b (AtStat k ss) (map shared ts ++ r) ≡ run b (InExpr (ForStat k ss) [] N.Operand) (map shared ts ++ r)
  begun [] e k ss r h g = absurd (got (ExpectedInside []) e [] h)
  begun (t ∷ ts) e k ss r h g = on t.symbol t.place h g
    where
      on : (s : Symbol) (p : Place) → run_inside b [] N.Operand (lexeme p s ∷ ts) ≡ ReadInside e [] → begins_if (lexeme p s ∷ ts) ≡ false → run b (AtStat k ss) (map shared (lexeme p s ∷ ts) ++ r) ≡ run b (InExpr (ForStat k ss) [] N.Operand) (map shared (lexeme p s ∷ ts) ++ r)
      on (T.Fixed (S.End E.CloseBrace)) p h g = absurd (got (ExpectedInside (lexeme p (T.Fixed (S.End E.CloseBrace)) ∷ ts)) e [] h)
      on (T.Fixed S.If) p h g = within_if ts e p k ss r (sym (opens_if p ts) ∙ h) g ∙ sym (condition k ss p (map shared ts ++ r))
      on s p h g = refl

  -- an expression that is no form of `if` begins the statement
  pub begins_stat : (w : Written) (k : Blocks) (ss : List Stat) (r : List Mark) → Whole b w → begins_if (spelt w) ≡ false
      → run b (AtStat k ss) (expression w ++ r) ≡ run b (InExpr (ForStat k ss) [] N.Operand) (expression w ++ r)
  begins_stat w k ss r f g = begun (spelt w) (tree_of w) k ss r (read_alone b w f) g

  unlike : (ts : List Lexeme) (e : Expr) (r : List Mark) → run_inside b [] N.Operand ts ≡ ReadInside e [] → NotElse (map shared ts ++ r)
  unlike [] e r h = absurd (got (ExpectedInside []) e [] h)
  unlike (t ∷ ts) e r h = on t.symbol t.place h
    where
      on : (s : Symbol) (p : Place) → run_inside b [] N.Operand (lexeme p s ∷ ts) ≡ ReadInside e [] → NoElse (Shared s)
      on (T.Fixed (S.End E.Else)) p h = absurd (got (ExpectedInside (lexeme p (T.Fixed (S.End E.Else)) ∷ ts)) e [] h)
      on s p h = tt

  pub expr_not_else : (w : Written) (r : List Mark) → Whole b w → NotElse (expression w ++ r)
  expr_not_else w r f = unlike (spelt w) (tree_of w) r (read_alone b w f)

  -- without else the statement is over
  pub without_else : (k : Blocks) (ss : List Stat) (e : Expr) (zs : List Stat) (r : List Mark) → NotElse r → run b (AtElse k ss e zs) r ≡ run b (AtStat k (ss ++ (A.If e zs None ∷ []))) r
  without_else k ss e zs [] h = refl
  without_else k ss e zs (t ∷ r) h = on t.content t.place h
    where
      on : (c : Content) (p : Place) → NoElse c → run b (AtElse k ss e zs) (record { content = c; place = p } ∷ r) ≡ run b (AtStat k (ss ++ (A.If e zs None ∷ []))) (record { content = c; place = p } ∷ r)
      on (Shared (T.Fixed (S.End E.Else))) p h = absurd h
      on c p h = refl
