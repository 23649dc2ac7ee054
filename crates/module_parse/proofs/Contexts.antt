-- What follows where one mark is told from all others.
use Rattle.std.proofs.Common.{◌≡◌, List, [], ◌∷◌, refl, true, false}
use Rattle.std.specs.Prelude.{None, ◌++◌}
use Rattle.atl_base.specs.declared.place.Place.{Place}
use Rattle.atl_tree.specs.declared.expr.Expr.{Expr}
use Rattle.atl_tree.specs.declared.module.Stat.{Stat}
use Rattle.atl_tree.specs.declared.module.Stat.TheVariants as A
use Rattle.ocl_parse.specs.declared.frame.Frame.TheVariants as F
use Rattle.ocl_parse.specs.declared.frame.Next.TheVariants as N
use Rattle.ocl_parse.specs.declared.sign.Ender.TheVariants as E
use Rattle.ocl_parse.specs.declared.sign.Sign.TheVariants as S
use Rattle.ocl_parse.specs.declared.symbol.Symbol.TheVariants.{Fixed}
use Rattle.module_grammar.specs.declared.keyword.Keyword.TheVariants as W
use Rattle.module_grammar.specs.Marks.{Content, Word, Shared}
use Rattle.module_states.specs.Machine.{Blocks, Goes, AtElseBrace, AtFor, AtIf, ForCondition, ForStat, InExpr, at_else, at_if, at_stat, block_end, in_expr}
use Rattle.module_states.specs.Nexts.{is_else, is_open, opening_of}
use Rattle.module_states.specs.declared.next.Opening.TheVariants as Q

pub if_open : (k : Blocks) (ss : List Stat) (q : Place) (t : Content) (p : Place) → is_open t ≡ true → at_if true k ss q t p ≡ Goes (InExpr (ForCondition k ss) [] N.Operand)
if_open k ss q (Shared (Fixed S.Open)) p h = refl
if_open k ss q t p h = cc

pub if_else : (k : Blocks) (ss : List Stat) (q : Place) (t : Content) (p : Place) → is_open t ≡ false → at_if true k ss q t p ≡ in_expr true (ForStat k ss) (F.Condition q ∷ []) N.Operand t p
if_else k ss q (Shared (Fixed S.Open)) p h = cc
if_else k ss q t p h = refl

pub else_brace : (k : Blocks) (ss : List Stat) (e : Expr) (zs : List Stat) (t : Content) (p : Place) → is_else t ≡ true → at_else true k ss e zs t p ≡ Goes (AtElseBrace k ss e zs)
else_brace k ss e zs (Shared (Fixed (S.End E.Else))) p h = refl
else_brace k ss e zs t p h = cc

pub no_else : (k : Blocks) (ss : List Stat) (e : Expr) (zs : List Stat) (t : Content) (p : Place) → is_else t ≡ false → at_else true k ss e zs t p ≡ at_stat true k (ss ++ (A.If e zs None ∷ [])) t p
no_else k ss e zs (Shared (Fixed (S.End E.Else))) p h = cc
no_else k ss e zs t p h = refl

pub stat_closes : (k : Blocks) (ss : List Stat) (t : Content) (p : Place) → opening_of t ≡ Q.Closes → at_stat true k ss t p ≡ Goes (block_end k ss)
stat_closes k ss (Shared (Fixed (S.End E.CloseBrace))) p h = refl
stat_closes k ss (Word W.For) p h = absurd (cc)
stat_closes k ss (Shared (Fixed S.If)) p h = absurd (cc)
stat_closes k ss t p h = absurd (cc)

pub stat_for : (k : Blocks) (ss : List Stat) (t : Content) (p : Place) → opening_of t ≡ Q.ForWord → at_stat true k ss t p ≡ Goes (AtFor k ss)
stat_for k ss (Shared (Fixed (S.End E.CloseBrace))) p h = absurd (cc)
stat_for k ss (Word W.For) p h = refl
stat_for k ss (Shared (Fixed S.If)) p h = absurd (cc)
stat_for k ss t p h = absurd (cc)

pub stat_if : (k : Blocks) (ss : List Stat) (t : Content) (p : Place) → opening_of t ≡ Q.IfWord → at_stat true k ss t p ≡ Goes (AtIf k ss p)
stat_if k ss (Shared (Fixed (S.End E.CloseBrace))) p h = absurd (cc)
stat_if k ss (Word W.For) p h = absurd (cc)
stat_if k ss (Shared (Fixed S.If)) p h = refl
stat_if k ss t p h = absurd (cc)

pub stat_expr : (k : Blocks) (ss : List Stat) (t : Content) (p : Place) → opening_of t ≡ Q.Expression → at_stat true k ss t p ≡ in_expr true (ForStat k ss) [] N.Operand t p
stat_expr k ss (Shared (Fixed (S.End E.CloseBrace))) p h = absurd (cc)
stat_expr k ss (Word W.For) p h = absurd (cc)
stat_expr k ss (Shared (Fixed S.If)) p h = absurd (cc)
stat_expr k ss t p h = refl
