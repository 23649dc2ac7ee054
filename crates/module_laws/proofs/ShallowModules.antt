-- What is canonically written for a module nests no deeper than the module.
use Rattle.std.proofs.Common.{◌≡◌, List, [], ◌∷◌, ◌++◌, refl, sym, subst}
use Rattle.std.specs.Prelude.{Bool, true, false, None, Some, if◌then◌else◌}
use Rattle.atl_tree.specs.declared.module.LocalVar.{LocalVar}
use Rattle.atl_tree.specs.declared.module.Target.{Target}
use Rattle.atl_tree.specs.declared.module.Bind.{Bind}
use Rattle.atl_tree.specs.declared.module.Stat.TheOpen as Y
use Rattle.atl_tree.specs.declared.module.Stat.TheVariants as A
use Rattle.ocl_parse.specs.Grammar.{Written, kind_of, spelt, tree_of}
use Rattle.module_grammar.specs.Parts.{class, local, target, bind}
use Rattle.module_grammar.specs.Grammar.{WrittenHelper, Define, Guard, NoGuard, SomeGuard, Locals, NoLocals, MoreLocals, Using, NoUsing, SomeUsing, Binds, OneBind, MoreBinds, BindList, NoList, EmptyList, SomeBinds, Targets, OneTarget, MoreTargets, To, NoTo, SomeTo, WrittenStat, Eval, Assign, If, IfElse, For, Stats, NoStats, MoreStats, Block, NoBlock, SomeBlock, WrittenRule, Matched, Called, WrittenItem, Help, Make, Items, NoItems, MoreItems, WrittenModule, Composed}
use Rattle.module_grammar.specs.Grammar.{helper_of, modifiers, guard, locals, using, binds, bind_list, targets, to, stat, stats, block, rule_of, item, items, module_tree}
use Rattle.module_grammar.specs.Grammar.{begins_if, Whole, HelperFits, GuardFits, LocalsFit, UsingFits, BindsFit, ListFits, TargetsFit, ToFits, StatFits, StatsFit, BlockFits, RuleFits, ItemFits, ItemsFit, ModuleFits}
use Rattle.module_print.specs.Writing.{here, name_here, whole_written, round_leftmost, beginning, helper_written, guard_written, more_locals, using_written, list_written, to_written, stat_written, block_written, by_sort, item_written, more_items, module_written}
use Rattle.module_laws.proofs.SaysParts.{IsSome, more_locals_last, context_says}
use Rattle.module_laws.proofs.SaysModules.{class_name, first_begins, leftmost_first, all_written, more_binds_last, some_binds, more_targets_last, some_targets, stat_is, stats_last, start_fits, by_start, by_words, words_say, more_items_last}
use Rattle.module_laws.proofs.Shallower.{whole_shallow, beginning_shallow}

helper_shallow : (h : WrittenHelper) → HelperFits true h → HelperFits true (helper_written (helper_of h))
helper_shallow (Define p c q r n s t k u e v) f = ((context_says c f.0).0, whole_shallow e f.1)

guard_shallow : (g : Guard) (lazy : Bool) → GuardFits true lazy g → GuardFits true lazy (guard_written (guard g))
guard_shallow NoGuard lazy f = tt
guard_shallow (SomeGuard p e q) false f = whole_shallow e f
guard_shallow (SomeGuard p e q) true f = absurd f

locals_shallow : (ls : Locals) → LocalsFit true ls → LocalsFit true (more_locals NoLocals (locals ls))
locals_shallow NoLocals f = tt
locals_shallow (MoreLocals ls n p k q e r) f = rw (more_locals_last NoLocals (locals ls) (local n (kind_of k) (tree_of e))) (locals_shallow ls f.0, whole_shallow e f.1)

using_as_locals : (vs : List LocalVar) → LocalsFit true (more_locals NoLocals vs) → UsingFits true (using_written vs)
using_as_locals [] f = tt
using_as_locals (v ∷ vs) f = f

using_shallow : (u : Using) → UsingFits true u → UsingFits true (using_written (using u))
using_shallow NoUsing f = tt
using_shallow (SomeUsing p q ls r) f = using_as_locals (locals ls) (locals_shallow ls f)

list_last : (cs : List Bind) (c : Bind) → IsSome cs → ListFits true (list_written cs) → Whole true (whole_written c.value) → ListFits true (list_written (cs ++ (c ∷ [])))
list_last [] c h s g = absurd h
list_last (x ∷ cs) c h s g = rw (more_binds_last (OneBind (name_here x.feature) here (whole_written x.value)) cs c) (s, g)

binds_shallow : (bs : Binds) → BindsFit true bs → ListFits true (list_written (binds bs))
binds_shallow (OneBind n p e) f = whole_shallow e f
binds_shallow (MoreBinds bs c n p e) f = list_last (binds bs) (bind n (tree_of e)) (some_binds bs) (binds_shallow bs f.0) (whole_shallow e f.1)

list_shallow : (bs : BindList) → ListFits true bs → ListFits true (list_written (bind_list bs))
list_shallow NoList f = tt
list_shallow (EmptyList p q) f = tt
list_shallow (SomeBinds p bs q) f = binds_shallow bs f

to_last : (xs : List Target) (x : Target) → IsSome xs → ToFits true (to_written xs) → ListFits true (list_written x.binds) → ToFits true (to_written (xs ++ (x ∷ [])))
to_last [] x h s g = absurd h
to_last (z ∷ xs) x h s g = rw (more_targets_last (OneTarget (name_here z.name) here (class_name z.class.meta) here (class_name z.class.class) (list_written z.binds)) xs x) (s, g)

targets_shallow : (ts : Targets) → TargetsFit true ts → ToFits true (to_written (targets ts))
targets_shallow (OneTarget n p m q c bs) f = list_shallow bs f
targets_shallow (MoreTargets ts r n p m q c bs) f = to_last (targets ts) (target n (class m c) (bind_list bs)) (some_targets ts) (targets_shallow ts f.0) (list_shallow bs f.1)

to_shallow : (t : To) → ToFits true t → ToFits true (to_written (to t))
to_shallow NoTo f = tt
to_shallow (SomeTo p ts) f = targets_shallow ts f

begins_not : (w : Written) → begins_if (spelt (beginning w)) ≡ false
begins_not w = on (begins_if (spelt w)) refl
  where
    on : (t : Bool) → begins_if (spelt w) ≡ t → begins_if (spelt (if t then round_leftmost w else w)) ≡ false
    on true h = first_begins (spelt (round_leftmost w)) (leftmost_first w)
    on false h = h

mutual
  stat_shallow : (s : WrittenStat) → StatFits true s → StatFits true (stat_written (stat s))
  stat_shallow (Eval e p) f = rw (stat_is (Y.Eval (tree_of e)) (A.Eval (tree_of e)) (A.rolls-Eval (tree_of e))) (begins_not (whole_written (tree_of e)), beginning_shallow e f.0 f.1)
  stat_shallow (Assign e p n q v r) f =
      rw (stat_is (Y.Assign (tree_of e) n (tree_of v)) (A.Assign (tree_of e) n (tree_of v)) (A.rolls-Assign (tree_of e) n (tree_of v)))
      (begins_not (whole_written (tree_of e)), beginning_shallow e f.0 f.1, whole_shallow v f.2)
  stat_shallow (If p q e r s ss t) f =
      rw (stat_is (Y.If (tree_of e) (stats ss) None) (A.If (tree_of e) (stats ss) None) (A.rolls-If (tree_of e) (stats ss) None)) (whole_shallow e f.0, stats_shallow ss f.1)
  stat_shallow (IfElse p q e r s ss t u v zs w) f =
      rw (stat_is (Y.If (tree_of e) (stats ss) (Some (stats zs))) (A.If (tree_of e) (stats ss) (Some (stats zs))) (A.rolls-If (tree_of e) (stats ss) (Some (stats zs))))
      (whole_shallow e f.0, stats_shallow ss f.1, stats_shallow zs f.2)
  stat_shallow (For p q n r e s t ss u) f =
      rw (stat_is (Y.For n (tree_of e) (stats ss)) (A.For n (tree_of e) (stats ss)) (A.rolls-For n (tree_of e) (stats ss))) (whole_shallow e f.0, stats_shallow ss f.1)

  stats_shallow : (ss : Stats) → StatsFit true ss → StatsFit true (all_written (stats ss))
  stats_shallow NoStats f = tt
  stats_shallow (MoreStats ss s) f = rw (stats_last (stats ss) (stat s)) (stats_shallow ss f.0, stat_shallow s f.1)

block_shallow : (y : Block) → BlockFits true y → BlockFits true (block_written (block y))
block_shallow NoBlock f = tt
block_shallow (SomeBlock p q ss r) f = stats_shallow ss f

rule_shallow : (w : WrittenRule) → RuleFits true w → RuleFits true (by_sort (rule_of w).sort (rule_of w))
rule_shallow (Called x p n ps q u t y z) f =
    rw (by_start x (rule_of (Called x p n ps q u t y z))) (start_fits x ps f.0, (using_shallow u f.1.0, to_shallow t f.1.1, block_shallow y f.1.2))
rule_shallow (Matched ws p n x q s ss g u t y z) f =
    let m = modifiers ws in
    let v = words_say m.is_abstract m.is_unique m.is_lazy f.1 in
    rw (by_words m.is_unique m.is_lazy (rule_of (Matched ws p n x q s ss g u t y z)))
    (v.fit, v.stand, subst (λ l. GuardFits true l (guard_written (guard g))) (sym v.lazy) (guard_shallow g m.is_lazy f.2), (using_shallow u f.3.0, to_shallow t f.3.1, block_shallow y f.3.2))

item_shallow : (i : WrittenItem) → ItemFits true i → ItemFits true (item_written (item i))
item_shallow (Help h) f = helper_shallow h f
item_shallow (Make r) f = rule_shallow r f

items_shallow : (xs : Items) → ItemsFit true xs → ItemsFit true (more_items NoItems (items xs))
items_shallow NoItems f = tt
items_shallow (MoreItems xs i) f = rw (more_items_last NoItems (items xs) (item i)) (items_shallow xs f.0, item_shallow i f.1)

-- within the limit of depth, so is what is canonically written
pub module_shallow : (w : WrittenModule) → ModuleFits true w → ModuleFits true (module_written (module_tree w))
module_shallow (Composed p n q r ts s ss t xs) f = items_shallow xs f
