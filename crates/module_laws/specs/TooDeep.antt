-- How many marks stand, in reading order, before the first expression of a module that stands more than 200 deep.
use Rattle.std.specs.Prelude.{ℕ, ◌+◌, length, Option, None}
use Rattle.ocl_parse.specs.TooDeep.{or_else, behind, size, deep_after}
use Rattle.module_grammar.specs.Marks.{kind_marks}
use Rattle.module_grammar.specs.Grammar.{WrittenHelper, Define, Guard, NoGuard, SomeGuard, Locals, NoLocals, MoreLocals, Using, NoUsing, SomeUsing, Binds, OneBind, MoreBinds, BindList, SomeBinds, Targets, OneTarget, MoreTargets, To, NoTo, SomeTo, WrittenStat, Eval, Assign, If, IfElse, For, Stats, NoStats, MoreStats, Block, NoBlock, SomeBlock, WrittenRule, Matched, Called, WrittenItem, Help, Make, Items, NoItems, MoreItems, WrittenModule, Composed}
use Rattle.module_grammar.specs.Grammar.{models_marks, bracketed_marks, context_marks, signature_marks, words_marks, parent_marks, sources_marks, guard_marks, locals_marks, using_marks, binds_marks, targets_marks, to_marks, stats_marks, start_marks, items_marks}
use Rattle.ocl_parse.specs.Grammar.{Written}

-- of an expression that stands in no other
abbrev pub whole : Written → Option ℕ
whole e = deep_after 0 e

abbrev pub helper_deep : WrittenHelper → Option ℕ
helper_deep (Define p c q r n s t k u e v) = behind (6 + length (context_marks c) + length (signature_marks s) + length (kind_marks k)) (whole e)

abbrev pub guard_deep : Guard → Option ℕ
guard_deep NoGuard = None
guard_deep (SomeGuard p e q) = behind 1 (whole e)

abbrev pub locals_deep : Locals → Option ℕ
locals_deep NoLocals = None
locals_deep (MoreLocals ls n p k q e r) = or_else (locals_deep ls) (behind (3 + length (locals_marks ls) + length (kind_marks k)) (whole e))

abbrev pub using_deep : Using → Option ℕ
using_deep NoUsing = None
using_deep (SomeUsing p q ls r) = behind 2 (locals_deep ls)

abbrev pub binds_deep : Binds → Option ℕ
binds_deep (OneBind n p e) = behind 2 (whole e)
binds_deep (MoreBinds bs c n p e) = or_else (binds_deep bs) (behind (3 + length (binds_marks bs)) (whole e))

abbrev pub list_deep : BindList → Option ℕ
list_deep (SomeBinds p bs q) = behind 1 (binds_deep bs)
list_deep bs = None

abbrev pub targets_deep : Targets → Option ℕ
targets_deep (OneTarget n p m q c bs) = behind 5 (list_deep bs)
targets_deep (MoreTargets ts r n p m q c bs) = or_else (targets_deep ts) (behind (6 + length (targets_marks ts)) (list_deep bs))

abbrev pub to_deep : To → Option ℕ
to_deep NoTo = None
to_deep (SomeTo p ts) = behind 1 (targets_deep ts)

abbrev mutual
  pub stat_deep : WrittenStat → Option ℕ
  stat_deep (Eval e p) = whole e
  stat_deep (Assign e p n q v r) = or_else (whole e) (behind (3 + size e) (whole v))
  stat_deep (If p q e r s ss t) = or_else (behind 2 (whole e)) (behind (4 + size e) (stats_deep ss))
  stat_deep (IfElse p q e r s ss t u v zs w) =
      or_else (behind 2 (whole e)) (or_else (behind (4 + size e) (stats_deep ss)) (behind (7 + size e + length (stats_marks ss)) (stats_deep zs)))
  stat_deep (For p q n r e s t ss u) = or_else (behind 4 (whole e)) (behind (6 + size e) (stats_deep ss))

  pub stats_deep : Stats → Option ℕ
  stats_deep NoStats = None
  stats_deep (MoreStats ss s) = or_else (stats_deep ss) (behind (length (stats_marks ss)) (stat_deep s))

abbrev pub block_deep : Block → Option ℕ
block_deep NoBlock = None
block_deep (SomeBlock p q ss r) = behind 2 (stats_deep ss)

abbrev pub rest_deep : Using → To → Block → Option ℕ
rest_deep u t y = or_else (using_deep u) (behind (length (using_marks u)) (or_else (to_deep t) (behind (length (to_marks t)) (block_deep y))))

abbrev pub rule_deep : WrittenRule → Option ℕ
rule_deep (Matched ws p n x q r ss g u t y s) =
    behind (4 + length (words_marks ws) + length (parent_marks x) + length (sources_marks ss)) (or_else (guard_deep g) (behind (length (guard_marks g)) (rest_deep u t y)))
rule_deep (Called x p n ps q u t y s) = behind (3 + length (start_marks x) + length (bracketed_marks ps)) (rest_deep u t y)

abbrev pub item_deep : WrittenItem → Option ℕ
item_deep (Help h) = helper_deep h
item_deep (Make r) = rule_deep r

abbrev pub items_deep : Items → Option ℕ
items_deep NoItems = None
items_deep (MoreItems is i) = or_else (items_deep is) (behind (length (items_marks is)) (item_deep i))

abbrev pub deep_in : WrittenModule → Option ℕ
deep_in (Composed p n q r ts s ss t is) = behind (6 + length (models_marks ts) + length (models_marks ss)) (items_deep is)
