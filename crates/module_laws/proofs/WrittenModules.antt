-- What is canonically written for a module has names, texts and numbers that tokens can have where the module has such, and
-- each of its places is the same.
use Rattle.std.proofs.Common.{◌≡◌, List, [], ◌∷◌, ◌++◌, refl, sym, ap, ◌∙◌, subst}
use Rattle.std.specs.Prelude.{Bool, true, false, None, Some, map, if◌then◌else◌}
use Rattle.atl_tree.specs.declared.name.Name.{Name}
use Rattle.atl_tree.specs.declared.expr.Expr.{Expr}
use Rattle.atl_tree.specs.declared.expr.BinaryOp.TheVariants as O
use Rattle.atl_tree.specs.declared.module.Param.{Param}
use Rattle.atl_tree.specs.declared.module.RuleSort.{RuleSort}
use Rattle.atl_tree.specs.declared.module.RuleSort.TheVariants as R
use Rattle.atl_tree.specs.declared.module.LocalVar.{LocalVar}
use Rattle.atl_tree.specs.declared.module.Target.{Target}
use Rattle.atl_tree.specs.declared.module.Bind.{Bind}
use Rattle.atl_tree.specs.declared.module.Stat.TheOpen as Y
use Rattle.atl_tree.specs.declared.module.Stat.TheVariants as A
use Rattle.ocl_parse.specs.declared.sign.Ender.TheVariants as Z
use Rattle.ocl_parse.specs.declared.sign.Sign.TheVariants as S
use Rattle.ocl_parse.specs.Symbols.{Lexeme}
use Rattle.ocl_parse.specs.Trees.{name}
use Rattle.ocl_parse.specs.Grammar.{Written, If as Choice, Binary, Read, Call, Loop, Iterate, Kind, kind_of, kind_spelt, spelt, listed, tree_of, fixed, named, dot_or_arrow}
use Rattle.module_grammar.specs.declared.keyword.Keyword.TheVariants as W
use Rattle.module_grammar.specs.Marks.{Mark, word, sign, called, shared, expression, kind_marks}
use Rattle.module_grammar.specs.Parts.{model, param, class, pattern, local, target, bind, sort_of}
use Rattle.module_grammar.specs.Grammar.{Models, OneModel, MoreModels, Params, OneParam, MoreParams, Bracketed, NoParams, SomeParams, Context, NoContext, InContext, Signature, Attribute, Operation, WrittenHelper, Define, Words, Parent, NoParent, Extends, Sources, OneSource, MoreSources, Guard, NoGuard, SomeGuard, Locals, NoLocals, MoreLocals, Using, NoUsing, SomeUsing, Binds, OneBind, MoreBinds, BindList, NoList, EmptyList, SomeBinds, Targets, OneTarget, MoreTargets, To, NoTo, SomeTo, WrittenStat, Eval, Assign, If, IfElse, For, Stats, NoStats, MoreStats, Block, NoBlock, SomeBlock, Start, NoStart, Entry, End, WrittenRule, Matched, Called, WrittenItem, Help, Make, Items, NoItems, MoreItems, WrittenModule, Composed}
use Rattle.module_grammar.specs.Grammar.{models_marks, params_marks, bracketed_marks, context_marks, signature_marks, helper_marks, words_marks, parent_marks, sources_marks, guard_marks, locals_marks, using_marks, binds_marks, list_marks, targets_marks, to_marks, stat_marks, stats_marks, block_marks, start_marks, rule_marks, item_marks, items_marks, module_marks}
use Rattle.module_grammar.specs.Grammar.{models, params, bracketed, context, signature, helper_of, modifiers, parent, sources, guard, locals, using, binds, bind_list, targets, to, stat, stats, block, rule_of, item, items, module_tree}
use Rattle.module_grammar.specs.Grammar.{begins_if, Whole, HelperFits, GuardFits, LocalsFit, UsingFits, BindsFit, ListFits, TargetsFit, ToFits, StatFits, StatsFit, BlockFits, RuleFits, ItemFits, ItemsFit, ModuleFits}
use Rattle.module_print.specs.Writing.{here, kind_written, whole_written, round_leftmost, beginning, models_written, more_params, bracketed_written, context_written, signature_written, helper_written, abstract_words, sort_words, parent_written, sources_written, guard_written, more_locals, using_written, more_binds, list_written, more_targets, to_written, stat_written, block_written, by_sort, item_written, more_items, module_written}
use Rattle.module_laws.specs.Places.{placed_kind, placed, all_placed, placed_models, placed_params, placed_bracketed, placed_context, placed_signature, placed_helper, placed_words, placed_parent, placed_sources, placed_guard, placed_locals, placed_using, placed_binds, placed_list, placed_targets, placed_to, placed_stat, placed_stats, placed_block, placed_start, placed_rule, placed_item, placed_items, placed_module}
use Rattle.module_laws.specs.Held.{IsNameText, AreHeld}
use Rattle.module_laws.proofs.Spacing.{AreGood}
use Rattle.module_laws.proofs.SaysParts.{models_last, some_models, more_params_last, sources_last, some_sources, more_locals_last}
use Rattle.module_laws.proofs.SaysModules.{class_name, all_written, words_of, more_binds_last, more_targets_last, stat_is, stats_last, by_start, by_words, more_items_last}
use Rattle.module_laws.proofs.WrittenHeld.{AreHeldIn, AreGoodIn, IsFine, good, written_kind, join as join_in}

held_parts : (xs ys : List Mark) → AreHeld (xs ++ ys) → AreHeld xs × AreHeld ys
held_parts [] ys h = (tt, h)
held_parts (x ∷ xs) ys h = let r = held_parts xs ys h.1 in ((h.0, r.0), r.1)

join : (xs ys : List Mark) → AreGood xs → AreGood ys → AreGood (xs ++ ys)
join [] ys g h = h
join (x ∷ xs) ys g h = (g.0, join xs ys g.1 h)

held_lexemes : (ls : List Lexeme) → AreHeld (map shared ls) → AreHeldIn ls
held_lexemes [] h = tt
held_lexemes (l ∷ ls) h = (h.0, held_lexemes ls h.1)

good_marks : (ls : List Lexeme) → AreGoodIn ls → AreGood (map shared ls)
good_marks [] h = tt
good_marks (l ∷ ls) h = (h.0, good_marks ls h.1)

-- The marks of each are good, and each of its places is the same.

abbrev FineKind : Kind → Type 0
FineKind x = AreGood (kind_marks x) × (placed_kind x ≡ x)

abbrev FineExpression : Written → Type 0
FineExpression x = AreGood (expression x) × (placed x ≡ x)

abbrev FineModels : Models → Type 0
FineModels x = AreGood (models_marks x) × (placed_models x ≡ x)

abbrev FineParams : Params → Type 0
FineParams x = AreGood (params_marks x) × (placed_params x ≡ x)

abbrev FineBracketed : Bracketed → Type 0
FineBracketed x = AreGood (bracketed_marks x) × (placed_bracketed x ≡ x)

abbrev FineContext : Context → Type 0
FineContext x = AreGood (context_marks x) × (placed_context x ≡ x)

abbrev FineSignature : Signature → Type 0
FineSignature x = AreGood (signature_marks x) × (placed_signature x ≡ x)

abbrev FineHelper : WrittenHelper → Type 0
FineHelper x = AreGood (helper_marks x) × (placed_helper x ≡ x)

abbrev FineWords : Words → Type 0
FineWords x = AreGood (words_marks x) × (placed_words x ≡ x)

abbrev FineParent : Parent → Type 0
FineParent x = AreGood (parent_marks x) × (placed_parent x ≡ x)

abbrev FineSources : Sources → Type 0
FineSources x = AreGood (sources_marks x) × (placed_sources x ≡ x)

abbrev FineGuard : Guard → Type 0
FineGuard x = AreGood (guard_marks x) × (placed_guard x ≡ x)

abbrev FineLocals : Locals → Type 0
FineLocals x = AreGood (locals_marks x) × (placed_locals x ≡ x)

abbrev FineUsing : Using → Type 0
FineUsing x = AreGood (using_marks x) × (placed_using x ≡ x)

abbrev FineBinds : Binds → Type 0
FineBinds x = AreGood (binds_marks x) × (placed_binds x ≡ x)

abbrev FineList : BindList → Type 0
FineList x = AreGood (list_marks x) × (placed_list x ≡ x)

abbrev FineTargets : Targets → Type 0
FineTargets x = AreGood (targets_marks x) × (placed_targets x ≡ x)

abbrev FineTo : To → Type 0
FineTo x = AreGood (to_marks x) × (placed_to x ≡ x)

abbrev FineStat : WrittenStat → Type 0
FineStat x = AreGood (stat_marks x) × (placed_stat x ≡ x)

abbrev FineStats : Stats → Type 0
FineStats x = AreGood (stats_marks x) × (placed_stats x ≡ x)

abbrev FineBlock : Block → Type 0
FineBlock x = AreGood (block_marks x) × (placed_block x ≡ x)

abbrev FineStart : Start → Type 0
FineStart x = AreGood (start_marks x) × (placed_start x ≡ x)

abbrev FineRule : WrittenRule → Type 0
FineRule x = AreGood (rule_marks x) × (placed_rule x ≡ x)

abbrev FineItem : WrittenItem → Type 0
FineItem x = AreGood (item_marks x) × (placed_item x ≡ x)

abbrev FineItems : Items → Type 0
FineItems x = AreGood (items_marks x) × (placed_items x ≡ x)

abbrev pub FineModule : WrittenModule → Type 0
FineModule x = AreGood (module_marks x) × (placed_module x ≡ x)

kind_good : (k : Kind) → AreHeld (kind_marks k) → FineKind (kind_written (kind_of k))
kind_good k h = let x = written_kind k (held_lexemes (kind_spelt k) h) in (good_marks (kind_spelt (kind_written (kind_of k))) x.0, x.1)

whole_good : (e : Written) → Whole false e → AreHeld (expression e) → FineExpression (whole_written (tree_of e))
whole_good e f h = let x = good e 0 0 f (held_lexemes (spelt e) h) 0 in (good_marks (spelt (whole_written (tree_of e))) x.0, x.1)

models_good : (ms : Models) → AreHeld (models_marks ms) → FineModels (models_written (models ms))
models_good (OneModel m p n) h =
    ((h.0, (tt, (h.1.1.0, tt))), refl)
models_good (MoreModels ms c m p n) h =
    let g0 = held_parts (models_marks ms) (sign c (S.End Z.Comma) ∷ (called m ∷ (sign p S.Colon ∷ (called n ∷ [])))) h in
    let x0 = models_good ms g0.0 in
    rw (models_last (models ms) (model m n) (some_models ms))
    ((join (models_marks (models_written (models ms))) (sign here (S.End Z.Comma) ∷ (called (name here m.text) ∷ (sign here S.Colon ∷ (called (name here n.text) ∷ [])))) x0.0 (tt, (g0.1.1.0, (tt, (g0.1.1.1.1.0, tt))))), ap (λ it. MoreModels it here (name here m.text) here (name here n.text)) x0.1)

-- some parameters, of which the first stands apart
abbrev SomeFine : List Param → Type 0
SomeFine qs = (q : Param) × (more : List Param) × (qs ≡ q ∷ more) × FineParams (more_params (OneParam (name here q.name.text) here (kind_written q.kind)) more)

params_more : (qs : List Param) (n : Name) (k : Kind) → SomeFine qs → IsNameText n.text → FineKind (kind_written (kind_of k)) → SomeFine (qs ++ (param n (kind_of k) ∷ []))
params_more qs n k r h x =
    let first : Params = OneParam (name here r.0.name.text) here (kind_written r.0.kind) in (
      r.0,
      r.1 ++ (param n (kind_of k) ∷ []),
      ap (λ l. l ++ (param n (kind_of k) ∷ [])) r.2,
      rw (more_params_last first r.1 (param n (kind_of k))) (
        join (params_marks (more_params first r.1)) (sign here (S.End Z.Comma) ∷ called (name here n.text) ∷ sign here S.Colon ∷ kind_marks (kind_written (kind_of k))) r.3.0 (tt, (h, (tt, x.0))),
        ap (λ it. MoreParams it here (name here n.text) here (placed_kind (kind_written (kind_of k)))) r.3.1 ∙ ap (λ it. MoreParams (more_params first r.1) here (name here n.text) here it) x.1,
      ),
    )

params_good : (ps : Params) → AreHeld (params_marks ps) → SomeFine (params ps)
params_good (OneParam n p k) h = let x = kind_good k h.1.1 in (param n (kind_of k), [], refl, ((h.0, (tt, x.0)), ap (λ it. OneParam (name here n.text) here it) x.1))
params_good (MoreParams ps c n p k) h =
    let g = held_parts (params_marks ps) (sign c (S.End Z.Comma) ∷ called n ∷ sign p S.Colon ∷ kind_marks k) h in
    params_more (params ps) n k (params_good ps g.0) g.1.1.0 (kind_good k g.1.1.1.1)

bracketed_good : (x : Bracketed) → AreHeld (bracketed_marks x) → FineBracketed (bracketed_written (bracketed x))
bracketed_good (NoParams p q) h = ((tt, (tt, tt)), refl)
bracketed_good (SomeParams p ps q) h =
    let g = held_parts (params_marks ps) (sign q (S.End Z.Close) ∷ []) h.1 in
    let r = params_good ps g.0 in
    let all : Params = more_params (OneParam (name here r.0.name.text) here (kind_written r.0.kind)) r.1 in
    subst (λ l. FineBracketed (bracketed_written l)) (sym r.2) ((tt, join (params_marks all) (sign here (S.End Z.Close) ∷ []) r.3.0 (tt, tt)), ap (λ it. SomeParams here it here) r.3.1)

context_good : (x : Context) → AreHeld (context_marks x) → FineContext (context_written (context x))
context_good NoContext h = (tt, refl)
context_good (InContext p k) h =
    let x1 = kind_good k h.1 in
    ((tt, x1.0), ap (λ it. InContext here it) x1.1)

signature_good : (x : Signature) → AreHeld (signature_marks x) → FineSignature (signature_written (signature x))
signature_good Attribute h = (tt, refl)
signature_good (Operation ps) h = let x = bracketed_good ps h in (x.0, ap (λ it. Operation it) x.1)

helper_good : (x : WrittenHelper) → HelperFits false x → AreHeld (helper_marks x) → FineHelper (helper_written (helper_of x))
helper_good (Define p c q r n s t k u e v) f h =
    let g1 = held_parts (context_marks c) (word q W.Def ∷ (sign r S.Colon ∷ (called n ∷ (signature_marks s ++ (sign t S.Colon ∷ (kind_marks k ++ (sign u (S.Operator O.Eq) ∷ (expression e ++ (sign v S.Semicolon ∷ []))))))))) h.1 in
    let x1 = context_good c g1.0 in
    let g5 = held_parts (signature_marks s) (sign t S.Colon ∷ (kind_marks k ++ (sign u (S.Operator O.Eq) ∷ (expression e ++ (sign v S.Semicolon ∷ []))))) g1.1.1.1.1 in
    let x5 = signature_good s g5.0 in
    let g7 = held_parts (kind_marks k) (sign u (S.Operator O.Eq) ∷ (expression e ++ (sign v S.Semicolon ∷ []))) g5.1.1 in
    let x7 = kind_good k g7.0 in
    let g9 = held_parts (expression e) (sign v S.Semicolon ∷ []) g7.1.1 in
    let x9 = whole_good e f.1 g9.0 in
    ((tt, (join (context_marks (context_written (context c))) (word here W.Def ∷ (sign here S.Colon ∷ (called (name here n.text) ∷ (signature_marks (signature_written (signature s)) ++ (sign here S.Colon ∷ (kind_marks (kind_written (kind_of k)) ++ (sign here (S.Operator O.Eq) ∷ (expression (whole_written (tree_of e)) ++ (sign here S.Semicolon ∷ []))))))))) x1.0 (tt, (tt, (g1.1.1.1.0, (join (signature_marks (signature_written (signature s))) (sign here S.Colon ∷ (kind_marks (kind_written (kind_of k)) ++ (sign here (S.Operator O.Eq) ∷ (expression (whole_written (tree_of e)) ++ (sign here S.Semicolon ∷ []))))) x5.0 (tt, (join (kind_marks (kind_written (kind_of k))) (sign here (S.Operator O.Eq) ∷ (expression (whole_written (tree_of e)) ++ (sign here S.Semicolon ∷ []))) x7.0 (tt, (join (expression (whole_written (tree_of e))) (sign here S.Semicolon ∷ []) x9.0 (tt, tt))))))))))), ap (λ it. Define here it here here (name here n.text) (placed_signature (signature_written (signature s))) here (placed_kind (kind_written (kind_of k))) here (placed (whole_written (tree_of e))) here) x1.1 ∙ ap (λ it. Define here (context_written (context c)) here here (name here n.text) it here (placed_kind (kind_written (kind_of k))) here (placed (whole_written (tree_of e))) here) x5.1 ∙ ap (λ it. Define here (context_written (context c)) here here (name here n.text) (signature_written (signature s)) here it here (placed (whole_written (tree_of e))) here) x7.1 ∙ ap (λ it. Define here (context_written (context c)) here here (name here n.text) (signature_written (signature s)) here (kind_written (kind_of k)) here it here) x9.1)

words_good : (s : RuleSort) (a : Bool) → FineWords (sort_words s (abstract_words a))
words_good R.Unique true = ((tt, (tt, (tt, tt))), refl)
words_good R.Unique false = ((tt, (tt, tt)), refl)
words_good R.Lazy true = ((tt, (tt, tt)), refl)
words_good R.Lazy false = ((tt, tt), refl)
words_good s true = ((tt, tt), refl)
words_good s false = (tt, refl)

parent_good : (x : Parent) → AreHeld (parent_marks x) → FineParent (parent_written (parent x))
parent_good NoParent h = (tt, refl)
parent_good (Extends p n) h = ((tt, (h.1.0, tt)), refl)

sources_good : (ss : Sources) → AreHeld (sources_marks ss) → FineSources (sources_written (sources ss))
sources_good (OneSource n p m q c) h =
    ((h.0, (tt, (h.1.1.0, (tt, (h.1.1.1.1.0, tt))))), refl)
sources_good (MoreSources ss r n p m q c) h =
    let g0 = held_parts (sources_marks ss) (sign r (S.End Z.Comma) ∷ (called n ∷ (sign p S.Colon ∷ (called m ∷ (sign q S.Bang ∷ (called c ∷ [])))))) h in
    let x0 = sources_good ss g0.0 in
    rw (sources_last (sources ss) (pattern n (class m c)) (some_sources ss))
    ((join (sources_marks (sources_written (sources ss))) (sign here (S.End Z.Comma) ∷ (called (name here n.text) ∷ (sign here S.Colon ∷ (called (name here m.text) ∷ (sign here S.Bang ∷ (called (name here c.text) ∷ [])))))) x0.0 (tt, (g0.1.1.0, (tt, (g0.1.1.1.1.0, (tt, (g0.1.1.1.1.1.1.0, tt))))))), ap (λ it. MoreSources it here (name here n.text) here (name here m.text) here (name here c.text)) x0.1)

guard_good : (x : Guard) (lazy : Bool) → GuardFits false lazy x → AreHeld (guard_marks x) → FineGuard (guard_written (guard x))
guard_good NoGuard lazy f h = (tt, refl)
guard_good (SomeGuard p e q) true f h = absurd f
guard_good (SomeGuard p e q) false f h =
    let g1 = held_parts (expression e) (sign q (S.End Z.Close) ∷ []) h.1 in
    let x1 = whole_good e f g1.0 in
    ((tt, (join (expression (whole_written (tree_of e))) (sign here (S.End Z.Close) ∷ []) x1.0 (tt, tt))), ap (λ it. SomeGuard here it here) x1.1)

locals_good : (ls : Locals) → LocalsFit false ls → AreHeld (locals_marks ls) → FineLocals (more_locals NoLocals (locals ls))
locals_good NoLocals f h = (tt, refl)
locals_good (MoreLocals ls n p k q e r) f h =
    let g0 = held_parts (locals_marks ls) (called n ∷ (sign p S.Colon ∷ (kind_marks k ++ (sign q (S.Operator O.Eq) ∷ (expression e ++ (sign r S.Semicolon ∷ [])))))) h in
    let x0 = locals_good ls f.0 g0.0 in
    let g3 = held_parts (kind_marks k) (sign q (S.Operator O.Eq) ∷ (expression e ++ (sign r S.Semicolon ∷ []))) g0.1.1.1 in
    let x3 = kind_good k g3.0 in
    let g5 = held_parts (expression e) (sign r S.Semicolon ∷ []) g3.1.1 in
    let x5 = whole_good e f.1 g5.0 in
    rw (more_locals_last NoLocals (locals ls) (local n (kind_of k) (tree_of e)))
    ((join (locals_marks (more_locals NoLocals (locals ls))) (called (name here n.text) ∷ (sign here S.Colon ∷ (kind_marks (kind_written (kind_of k)) ++ (sign here (S.Operator O.Eq) ∷ (expression (whole_written (tree_of e)) ++ (sign here S.Semicolon ∷ [])))))) x0.0 (g0.1.0, (tt, (join (kind_marks (kind_written (kind_of k))) (sign here (S.Operator O.Eq) ∷ (expression (whole_written (tree_of e)) ++ (sign here S.Semicolon ∷ []))) x3.0 (tt, (join (expression (whole_written (tree_of e))) (sign here S.Semicolon ∷ []) x5.0 (tt, tt))))))), ap (λ it. MoreLocals it (name here n.text) here (placed_kind (kind_written (kind_of k))) here (placed (whole_written (tree_of e))) here) x0.1 ∙ ap (λ it. MoreLocals (more_locals NoLocals (locals ls)) (name here n.text) here it here (placed (whole_written (tree_of e))) here) x3.1 ∙ ap (λ it. MoreLocals (more_locals NoLocals (locals ls)) (name here n.text) here (kind_written (kind_of k)) here it here) x5.1)

using_from : (vs : List LocalVar) → FineLocals (more_locals NoLocals vs) → FineUsing (using_written vs)
using_from [] g = (tt, refl)
using_from (v ∷ vs) g = ((tt, (tt, join (locals_marks (more_locals NoLocals (v ∷ vs))) (sign here (S.End Z.CloseBrace) ∷ []) g.0 (tt, tt))), ap (λ it. SomeUsing here here it here) g.1)

using_good : (u : Using) → UsingFits false u → AreHeld (using_marks u) → FineUsing (using_written (using u))
using_good NoUsing f h = (tt, refl)
using_good (SomeUsing p q ls r) f h = using_from (locals ls) (locals_good ls f (held_parts (locals_marks ls) (sign r (S.End Z.CloseBrace) ∷ []) h.1.1).0)

abbrev first_bind : Bind → Binds
first_bind c = OneBind (name here c.feature.text) here (whole_written c.value)

-- some bindings, of which the first stands apart
abbrev BindsFine : List Bind → Type 0
BindsFine cs = (c : Bind) × (more : List Bind) × (cs ≡ c ∷ more) × FineBinds (more_binds (first_bind c) more)

binds_more : (cs : List Bind) (n : Name) (e : Expr) → BindsFine cs → IsNameText n.text → FineExpression (whole_written e) → BindsFine (cs ++ (bind n e ∷ []))
binds_more cs n e r h x = (
  r.0,
  r.1 ++ (bind n e ∷ []),
  ap (λ l. l ++ (bind n e ∷ [])) r.2,
  rw (more_binds_last (first_bind r.0) r.1 (bind n e)) (
    join (binds_marks (more_binds (first_bind r.0) r.1)) (sign here (S.End Z.Comma) ∷ called (name here n.text) ∷ word here W.Gives ∷ expression (whole_written e)) r.3.0 (tt, (h, (tt, x.0))),
    ap (λ it. MoreBinds it here (name here n.text) here (placed (whole_written e))) r.3.1 ∙ ap (λ it. MoreBinds (more_binds (first_bind r.0) r.1) here (name here n.text) here it) x.1,
  ),
)

binds_good : (bs : Binds) → BindsFit false bs → AreHeld (binds_marks bs) → BindsFine (binds bs)
binds_good (OneBind n p e) f h = let x = whole_good e f h.1.1 in (bind n (tree_of e), [], refl, ((h.0, (tt, x.0)), ap (λ it. OneBind (name here n.text) here it) x.1))
binds_good (MoreBinds bs c n p e) f h =
    let g = held_parts (binds_marks bs) (sign c (S.End Z.Comma) ∷ called n ∷ word p W.Gives ∷ expression e) h in
    binds_more (binds bs) n (tree_of e) (binds_good bs f.0 g.0) g.1.1.0 (whole_good e f.1 g.1.1.1.1)

list_good : (bs : BindList) → ListFits false bs → AreHeld (list_marks bs) → FineList (list_written (bind_list bs))
list_good NoList f h = (tt, refl)
list_good (EmptyList p q) f h = (tt, refl)
list_good (SomeBinds p bs q) f h =
    let r = binds_good bs f (held_parts (binds_marks bs) (sign q (S.End Z.Close) ∷ []) h.1).0 in
    subst (λ l. FineList (list_written l)) (sym r.2) ((tt, join (binds_marks (more_binds (first_bind r.0) r.1)) (sign here (S.End Z.Close) ∷ []) r.3.0 (tt, tt)), ap (λ it. SomeBinds here it here) r.3.1)

abbrev first_target : Target → Targets
first_target x = OneTarget (name here x.name.text) here (class_name x.class.meta) here (class_name x.class.class) (list_written x.binds)

-- some targets, of which the first stands apart
abbrev TargetsFine : List Target → Type 0
TargetsFine xs = (x : Target) × (more : List Target) × (xs ≡ x ∷ more) × FineTargets (more_targets (first_target x) more)

targets_more : (xs : List Target) (n m c : Name) (bs : List Bind) → TargetsFine xs → IsNameText n.text → IsNameText m.text → IsNameText c.text → FineList (list_written bs) → TargetsFine (xs ++ (target n (class m c) bs ∷ []))
targets_more xs n m c bs r h i j x =
    let all : Targets = more_targets (first_target r.0) r.1 in (
      r.0,
      r.1 ++ (target n (class m c) bs ∷ []),
      ap (λ l. l ++ (target n (class m c) bs ∷ [])) r.2,
      rw (more_targets_last (first_target r.0) r.1 (target n (class m c) bs)) (
        join (targets_marks all) (sign here (S.End Z.Comma) ∷ called (name here n.text) ∷ sign here S.Colon ∷ called (class_name m.text) ∷ sign here S.Bang ∷ called (class_name c.text) ∷ list_marks (list_written bs)) r.3.0 (tt, (h, (tt, (i, (tt, (j, x.0)))))),
        ap (λ it. MoreTargets it here (name here n.text) here (class_name m.text) here (class_name c.text) (placed_list (list_written bs))) r.3.1
            ∙ ap (λ it. MoreTargets all here (name here n.text) here (class_name m.text) here (class_name c.text) it) x.1,
      ),
    )

targets_good : (ts : Targets) → TargetsFit false ts → AreHeld (targets_marks ts) → TargetsFine (targets ts)
targets_good (OneTarget n p m q c bs) f h =
    let x = list_good bs f h.1.1.1.1.1 in
    (target n (class m c) (bind_list bs), [], refl, ((h.0, (tt, (h.1.1.0, (tt, (h.1.1.1.1.0, x.0))))), ap (λ it. OneTarget (name here n.text) here (class_name m.text) here (class_name c.text) it) x.1))
targets_good (MoreTargets ts r n p m q c bs) f h =
    let g = held_parts (targets_marks ts) (sign r (S.End Z.Comma) ∷ called n ∷ sign p S.Colon ∷ called m ∷ sign q S.Bang ∷ called c ∷ list_marks bs) h in
    targets_more (targets ts) n m c (bind_list bs) (targets_good ts f.0 g.0) g.1.1.0 g.1.1.1.1.0 g.1.1.1.1.1.1.0 (list_good bs f.1 g.1.1.1.1.1.1.1)

to_good : (t : To) → ToFits false t → AreHeld (to_marks t) → FineTo (to_written (to t))
to_good NoTo f h = (tt, refl)
to_good (SomeTo p ts) f h =
    let r = targets_good ts f h.1 in
    subst (λ l. FineTo (to_written l)) (sym r.2) ((tt, r.3.0), ap (λ it. SomeTo here it) r.3.1)

-- how a statement's expression is written

leftmost_placed : (w : Written) → placed (round_leftmost w) ≡ round_leftmost (placed w)
leftmost_placed (Binary a p o w) = ap (λ it. Binary it here o (placed w)) (leftmost_placed a)
leftmost_placed (Read a p n) = ap (λ it. Read it here (name here n.text)) (leftmost_placed a)
leftmost_placed (Call a arrow p n q es r) = ap (λ it. Call it arrow here (name here n.text) here (all_placed es) here) (leftmost_placed a)
leftmost_placed (Loop a p n q x r e s) = ap (λ it. Loop it here (name here n.text) here (name here x.text) here (placed e) here) (leftmost_placed a)
leftmost_placed (Iterate a p n q x r y s k t i u e v) =
    ap (λ it. Iterate it here (name here n.text) here (name here x.text) here (name here y.text) here (placed_kind k) here (placed i) here (placed e) here) (leftmost_placed a)
leftmost_placed w = refl

good_parts : (xs ys : List Lexeme) → AreGoodIn (xs ++ ys) → AreGoodIn xs × AreGoodIn ys
good_parts [] ys h = (tt, h)
good_parts (x ∷ xs) ys h = let r = good_parts xs ys h.1 in ((h.0, r.0), r.1)

joined : (xs zs ys : List Lexeme) → (AreGoodIn xs → AreGoodIn zs) → AreGoodIn (xs ++ ys) → AreGoodIn (zs ++ ys)
joined xs zs ys f g = let r = good_parts xs ys g in join_in zs ys (f r.0) r.1

leftmost_good : (w : Written) → AreGoodIn (spelt w) → AreGoodIn (spelt (round_leftmost w))
leftmost_good (Choice p c q a r e s) g = (tt, join_in (spelt (Choice p c q a r e s)) (fixed here (S.End Z.Close) ∷ []) g (tt, tt))
leftmost_good (Binary a p o w) g = joined (spelt a) (spelt (round_leftmost a)) (fixed p (S.Operator o) ∷ spelt w) (leftmost_good a) g
leftmost_good (Read a p n) g = joined (spelt a) (spelt (round_leftmost a)) (fixed p S.Dot ∷ named n ∷ []) (leftmost_good a) g
leftmost_good (Call a arrow p n q es r) g =
    joined (spelt a) (spelt (round_leftmost a)) (fixed p (dot_or_arrow arrow) ∷ named n ∷ fixed q S.Open ∷ (listed es ++ (fixed r (S.End Z.Close) ∷ []))) (leftmost_good a) g
leftmost_good (Loop a p n q x r e s) g =
    joined (spelt a) (spelt (round_leftmost a)) (fixed p S.Arrow ∷ named n ∷ fixed q S.Open ∷ named x ∷ fixed r (S.End Z.Bar) ∷ (spelt e ++ (fixed s (S.End Z.Close) ∷ []))) (leftmost_good a) g
leftmost_good (Iterate a p n q x r y s k t i u e v) g =
    joined (spelt a) (spelt (round_leftmost a)) (fixed p S.Arrow ∷ named n ∷ fixed q S.Open ∷ named x ∷ fixed r S.Semicolon ∷ named y ∷ fixed s S.Colon
    ∷ (kind_spelt k ++ (fixed t (S.Operator O.Eq) ∷ (spelt i ++ (fixed u (S.End Z.Bar) ∷ (spelt e ++ (fixed v (S.End Z.Close) ∷ []))))))) (leftmost_good a) g
leftmost_good w g = g

beginning_good : (e : Written) → Whole false e → AreHeld (expression e) → FineExpression (beginning (whole_written (tree_of e)))
beginning_good e f h = on (begins_if (spelt w))
  where
    w : Written
    w = whole_written (tree_of e)

    x : IsFine w
    x = good e 0 0 f (held_lexemes (spelt e) h) 0

    on : (t : Bool) → FineExpression (if t then round_leftmost w else w)
    on true = (good_marks (spelt (round_leftmost w)) (leftmost_good w x.0), leftmost_placed w ∙ ap round_leftmost x.1)
    on false = (good_marks (spelt w) x.0, x.1)

mutual
  stat_good : (s : WrittenStat) → StatFits false s → AreHeld (stat_marks s) → FineStat (stat_written (stat s))
  stat_good (Eval e p) f h =
      let g0 = held_parts (expression e) (sign p S.Semicolon ∷ []) h in
      let x0 = beginning_good e f.1 g0.0 in
      rw (stat_is (Y.Eval (tree_of e)) (A.Eval (tree_of e)) (A.rolls-Eval (tree_of e)))
      ((join (expression (beginning (whole_written (tree_of e)))) (sign here S.Semicolon ∷ []) x0.0 (tt, tt)), ap (λ it. Eval it here) x0.1)
  stat_good (Assign e p n q v r) f h =
      let g0 = held_parts (expression e) (sign p S.Dot ∷ (called n ∷ (word q W.Gives ∷ (expression v ++ (sign r S.Semicolon ∷ []))))) h in
      let x0 = beginning_good e f.1 g0.0 in
      let g4 = held_parts (expression v) (sign r S.Semicolon ∷ []) g0.1.1.1.1 in
      let x4 = whole_good v f.2 g4.0 in
      rw (stat_is (Y.Assign (tree_of e) n (tree_of v)) (A.Assign (tree_of e) n (tree_of v)) (A.rolls-Assign (tree_of e) n (tree_of v)))
      ((join (expression (beginning (whole_written (tree_of e)))) (sign here S.Dot ∷ (called (name here n.text) ∷ (word here W.Gives ∷ (expression (whole_written (tree_of v)) ++ (sign here S.Semicolon ∷ []))))) x0.0 (tt, (g0.1.1.0, (tt, (join (expression (whole_written (tree_of v))) (sign here S.Semicolon ∷ []) x4.0 (tt, tt)))))), ap (λ it. Assign it here (name here n.text) here (placed (whole_written (tree_of v))) here) x0.1 ∙ ap (λ it. Assign (beginning (whole_written (tree_of e))) here (name here n.text) here it here) x4.1)
  stat_good (If p q e r s ss t) f h =
      let g2 = held_parts (expression e) (sign r (S.End Z.Close) ∷ (sign s S.OpenBrace ∷ (stats_marks ss ++ (sign t (S.End Z.CloseBrace) ∷ [])))) h.1.1 in
      let x2 = whole_good e f.0 g2.0 in
      let g5 = held_parts (stats_marks ss) (sign t (S.End Z.CloseBrace) ∷ []) g2.1.1.1 in
      let x5 = stats_good ss f.1 g5.0 in
      rw (stat_is (Y.If (tree_of e) (stats ss) None) (A.If (tree_of e) (stats ss) None) (A.rolls-If (tree_of e) (stats ss) None))
      ((tt, (tt, (join (expression (whole_written (tree_of e))) (sign here (S.End Z.Close) ∷ (sign here S.OpenBrace ∷ (stats_marks (all_written (stats ss)) ++ (sign here (S.End Z.CloseBrace) ∷ [])))) x2.0 (tt, (tt, (join (stats_marks (all_written (stats ss))) (sign here (S.End Z.CloseBrace) ∷ []) x5.0 (tt, tt))))))), ap (λ it. If here here it here here (placed_stats (all_written (stats ss))) here) x2.1 ∙ ap (λ it. If here here (whole_written (tree_of e)) here here it here) x5.1)
  stat_good (IfElse p q e r s ss t u v zs w) f h =
      let g2 = held_parts (expression e) (sign r (S.End Z.Close) ∷ (sign s S.OpenBrace ∷ (stats_marks ss ++ (sign t (S.End Z.CloseBrace) ∷ (sign u (S.End Z.Else) ∷ (sign v S.OpenBrace ∷ (stats_marks zs ++ (sign w (S.End Z.CloseBrace) ∷ [])))))))) h.1.1 in
      let x2 = whole_good e f.0 g2.0 in
      let g5 = held_parts (stats_marks ss) (sign t (S.End Z.CloseBrace) ∷ (sign u (S.End Z.Else) ∷ (sign v S.OpenBrace ∷ (stats_marks zs ++ (sign w (S.End Z.CloseBrace) ∷ []))))) g2.1.1.1 in
      let x5 = stats_good ss f.1 g5.0 in
      let g9 = held_parts (stats_marks zs) (sign w (S.End Z.CloseBrace) ∷ []) g5.1.1.1.1 in
      let x9 = stats_good zs f.2 g9.0 in
      rw (stat_is (Y.If (tree_of e) (stats ss) (Some (stats zs))) (A.If (tree_of e) (stats ss) (Some (stats zs))) (A.rolls-If (tree_of e) (stats ss) (Some (stats zs))))
      ((tt, (tt, (join (expression (whole_written (tree_of e))) (sign here (S.End Z.Close) ∷ (sign here S.OpenBrace ∷ (stats_marks (all_written (stats ss)) ++ (sign here (S.End Z.CloseBrace) ∷ (sign here (S.End Z.Else) ∷ (sign here S.OpenBrace ∷ (stats_marks (all_written (stats zs)) ++ (sign here (S.End Z.CloseBrace) ∷ [])))))))) x2.0 (tt, (tt, (join (stats_marks (all_written (stats ss))) (sign here (S.End Z.CloseBrace) ∷ (sign here (S.End Z.Else) ∷ (sign here S.OpenBrace ∷ (stats_marks (all_written (stats zs)) ++ (sign here (S.End Z.CloseBrace) ∷ []))))) x5.0 (tt, (tt, (tt, (join (stats_marks (all_written (stats zs))) (sign here (S.End Z.CloseBrace) ∷ []) x9.0 (tt, tt))))))))))), ap (λ it. IfElse here here it here here (placed_stats (all_written (stats ss))) here here here (placed_stats (all_written (stats zs))) here) x2.1 ∙ ap (λ it. IfElse here here (whole_written (tree_of e)) here here it here here here (placed_stats (all_written (stats zs))) here) x5.1 ∙ ap (λ it. IfElse here here (whole_written (tree_of e)) here here (all_written (stats ss)) here here here it here) x9.1)
  stat_good (For p q n r e s t ss u) f h =
      let g4 = held_parts (expression e) (sign s (S.End Z.Close) ∷ (sign t S.OpenBrace ∷ (stats_marks ss ++ (sign u (S.End Z.CloseBrace) ∷ [])))) h.1.1.1.1 in
      let x4 = whole_good e f.0 g4.0 in
      let g7 = held_parts (stats_marks ss) (sign u (S.End Z.CloseBrace) ∷ []) g4.1.1.1 in
      let x7 = stats_good ss f.1 g7.0 in
      rw (stat_is (Y.For n (tree_of e) (stats ss)) (A.For n (tree_of e) (stats ss)) (A.rolls-For n (tree_of e) (stats ss)))
      ((tt, (tt, (h.1.1.0, (tt, (join (expression (whole_written (tree_of e))) (sign here (S.End Z.Close) ∷ (sign here S.OpenBrace ∷ (stats_marks (all_written (stats ss)) ++ (sign here (S.End Z.CloseBrace) ∷ [])))) x4.0 (tt, (tt, (join (stats_marks (all_written (stats ss))) (sign here (S.End Z.CloseBrace) ∷ []) x7.0 (tt, tt))))))))), ap (λ it. For here here (name here n.text) here it here here (placed_stats (all_written (stats ss))) here) x4.1 ∙ ap (λ it. For here here (name here n.text) here (whole_written (tree_of e)) here here it here) x7.1)

  stats_good : (ss : Stats) → StatsFit false ss → AreHeld (stats_marks ss) → FineStats (all_written (stats ss))
  stats_good NoStats f h = (tt, refl)
  stats_good (MoreStats ss s) f h =
      let g0 = held_parts (stats_marks ss) (stat_marks s) h in
      let x0 = stats_good ss f.0 g0.0 in
      let x1 = stat_good s f.1 g0.1 in
      rw (stats_last (stats ss) (stat s))
      ((join (stats_marks (all_written (stats ss))) (stat_marks (stat_written (stat s))) x0.0 x1.0), ap (λ it. MoreStats it (placed_stat (stat_written (stat s)))) x0.1 ∙ ap (λ it. MoreStats (all_written (stats ss)) it) x1.1)

block_good : (x : Block) → BlockFits false x → AreHeld (block_marks x) → FineBlock (block_written (block x))
block_good NoBlock f h = (tt, refl)
block_good (SomeBlock p q ss r) f h =
    let g2 = held_parts (stats_marks ss) (sign r (S.End Z.CloseBrace) ∷ []) h.1.1 in
    let x2 = stats_good ss f g2.0 in
    ((tt, (tt, (join (stats_marks (all_written (stats ss))) (sign here (S.End Z.CloseBrace) ∷ []) x2.0 (tt, tt)))), ap (λ it. SomeBlock here here it here) x2.1)

start_good : (x : Start) → FineStart (placed_start x)
start_good NoStart = (tt, refl)
start_good (Entry p) = ((tt, tt), refl)
start_good (End p) = ((tt, tt), refl)

rule_good : (w : WrittenRule) → RuleFits false w → AreHeld (rule_marks w) → FineRule (by_sort (rule_of w).sort (rule_of w))
rule_good (Matched ws p n x q r ss g u t y s) f h =
    let g0 = held_parts (words_marks ws) (word p W.Rule ∷ (called n ∷ (parent_marks x ++ (sign q S.OpenBrace ∷ (word r W.From ∷ (sources_marks ss ++ (guard_marks g ++ (using_marks u ++ (to_marks t ++ (block_marks y ++ (sign s (S.End Z.CloseBrace) ∷ []))))))))))) h in
    let x0 = words_good (sort_of (modifiers ws)) (modifiers ws).is_abstract in
    let g3 = held_parts (parent_marks x) (sign q S.OpenBrace ∷ (word r W.From ∷ (sources_marks ss ++ (guard_marks g ++ (using_marks u ++ (to_marks t ++ (block_marks y ++ (sign s (S.End Z.CloseBrace) ∷ [])))))))) g0.1.1.1 in
    let x3 = parent_good x g3.0 in
    let g6 = held_parts (sources_marks ss) (guard_marks g ++ (using_marks u ++ (to_marks t ++ (block_marks y ++ (sign s (S.End Z.CloseBrace) ∷ []))))) g3.1.1.1 in
    let x6 = sources_good ss g6.0 in
    let g7 = held_parts (guard_marks g) (using_marks u ++ (to_marks t ++ (block_marks y ++ (sign s (S.End Z.CloseBrace) ∷ [])))) g6.1 in
    let x7 = guard_good g (modifiers ws).is_lazy f.2 g7.0 in
    let g8 = held_parts (using_marks u) (to_marks t ++ (block_marks y ++ (sign s (S.End Z.CloseBrace) ∷ []))) g7.1 in
    let x8 = using_good u f.3.0 g8.0 in
    let g9 = held_parts (to_marks t) (block_marks y ++ (sign s (S.End Z.CloseBrace) ∷ [])) g8.1 in
    let x9 = to_good t f.3.1 g9.0 in
    let g10 = held_parts (block_marks y) (sign s (S.End Z.CloseBrace) ∷ []) g9.1 in
    let x10 = block_good y f.3.2 g10.0 in
    rw (by_words (modifiers ws).is_unique (modifiers ws).is_lazy (rule_of (Matched ws p n x q r ss g u t y s)))
    ((join (words_marks (words_of (modifiers ws))) (word here W.Rule ∷ (called (name here n.text) ∷ (parent_marks (parent_written (parent x)) ++ (sign here S.OpenBrace ∷ (word here W.From ∷ (sources_marks (sources_written (sources ss)) ++ (guard_marks (guard_written (guard g)) ++ (using_marks (using_written (using u)) ++ (to_marks (to_written (to t)) ++ (block_marks (block_written (block y)) ++ (sign here (S.End Z.CloseBrace) ∷ []))))))))))) x0.0 (tt, (g0.1.1.0, (join (parent_marks (parent_written (parent x))) (sign here S.OpenBrace ∷ (word here W.From ∷ (sources_marks (sources_written (sources ss)) ++ (guard_marks (guard_written (guard g)) ++ (using_marks (using_written (using u)) ++ (to_marks (to_written (to t)) ++ (block_marks (block_written (block y)) ++ (sign here (S.End Z.CloseBrace) ∷ [])))))))) x3.0 (tt, (tt, (join (sources_marks (sources_written (sources ss))) (guard_marks (guard_written (guard g)) ++ (using_marks (using_written (using u)) ++ (to_marks (to_written (to t)) ++ (block_marks (block_written (block y)) ++ (sign here (S.End Z.CloseBrace) ∷ []))))) x6.0 (join (guard_marks (guard_written (guard g))) (using_marks (using_written (using u)) ++ (to_marks (to_written (to t)) ++ (block_marks (block_written (block y)) ++ (sign here (S.End Z.CloseBrace) ∷ [])))) x7.0 (join (using_marks (using_written (using u))) (to_marks (to_written (to t)) ++ (block_marks (block_written (block y)) ++ (sign here (S.End Z.CloseBrace) ∷ []))) x8.0 (join (to_marks (to_written (to t))) (block_marks (block_written (block y)) ++ (sign here (S.End Z.CloseBrace) ∷ [])) x9.0 (join (block_marks (block_written (block y))) (sign here (S.End Z.CloseBrace) ∷ []) x10.0 (tt, tt)))))))))))), ap (λ it. Matched it here (name here n.text) (placed_parent (parent_written (parent x))) here here (placed_sources (sources_written (sources ss))) (placed_guard (guard_written (guard g))) (placed_using (using_written (using u))) (placed_to (to_written (to t))) (placed_block (block_written (block y))) here) x0.1 ∙ ap (λ it. Matched (words_of (modifiers ws)) here (name here n.text) it here here (placed_sources (sources_written (sources ss))) (placed_guard (guard_written (guard g))) (placed_using (using_written (using u))) (placed_to (to_written (to t))) (placed_block (block_written (block y))) here) x3.1 ∙ ap (λ it. Matched (words_of (modifiers ws)) here (name here n.text) (parent_written (parent x)) here here it (placed_guard (guard_written (guard g))) (placed_using (using_written (using u))) (placed_to (to_written (to t))) (placed_block (block_written (block y))) here) x6.1 ∙ ap (λ it. Matched (words_of (modifiers ws)) here (name here n.text) (parent_written (parent x)) here here (sources_written (sources ss)) it (placed_using (using_written (using u))) (placed_to (to_written (to t))) (placed_block (block_written (block y))) here) x7.1 ∙ ap (λ it. Matched (words_of (modifiers ws)) here (name here n.text) (parent_written (parent x)) here here (sources_written (sources ss)) (guard_written (guard g)) it (placed_to (to_written (to t))) (placed_block (block_written (block y))) here) x8.1 ∙ ap (λ it. Matched (words_of (modifiers ws)) here (name here n.text) (parent_written (parent x)) here here (sources_written (sources ss)) (guard_written (guard g)) (using_written (using u)) it (placed_block (block_written (block y))) here) x9.1 ∙ ap (λ it. Matched (words_of (modifiers ws)) here (name here n.text) (parent_written (parent x)) here here (sources_written (sources ss)) (guard_written (guard g)) (using_written (using u)) (to_written (to t)) it here) x10.1)
rule_good (Called x p n ps q u t y s) f h =
    let g0 = held_parts (start_marks x) (word p W.Rule ∷ (called n ∷ (bracketed_marks ps ++ (sign q S.OpenBrace ∷ (using_marks u ++ (to_marks t ++ (block_marks y ++ (sign s (S.End Z.CloseBrace) ∷ [])))))))) h in
    let x0 = start_good x in
    let g3 = held_parts (bracketed_marks ps) (sign q S.OpenBrace ∷ (using_marks u ++ (to_marks t ++ (block_marks y ++ (sign s (S.End Z.CloseBrace) ∷ []))))) g0.1.1.1 in
    let x3 = bracketed_good ps g3.0 in
    let g5 = held_parts (using_marks u) (to_marks t ++ (block_marks y ++ (sign s (S.End Z.CloseBrace) ∷ []))) g3.1.1 in
    let x5 = using_good u f.1.0 g5.0 in
    let g6 = held_parts (to_marks t) (block_marks y ++ (sign s (S.End Z.CloseBrace) ∷ [])) g5.1 in
    let x6 = to_good t f.1.1 g6.0 in
    let g7 = held_parts (block_marks y) (sign s (S.End Z.CloseBrace) ∷ []) g6.1 in
    let x7 = block_good y f.1.2 g7.0 in
    rw (by_start x (rule_of (Called x p n ps q u t y s)))
    ((join (start_marks (placed_start x)) (word here W.Rule ∷ (called (name here n.text) ∷ (bracketed_marks (bracketed_written (bracketed ps)) ++ (sign here S.OpenBrace ∷ (using_marks (using_written (using u)) ++ (to_marks (to_written (to t)) ++ (block_marks (block_written (block y)) ++ (sign here (S.End Z.CloseBrace) ∷ [])))))))) x0.0 (tt, (g0.1.1.0, (join (bracketed_marks (bracketed_written (bracketed ps))) (sign here S.OpenBrace ∷ (using_marks (using_written (using u)) ++ (to_marks (to_written (to t)) ++ (block_marks (block_written (block y)) ++ (sign here (S.End Z.CloseBrace) ∷ []))))) x3.0 (tt, (join (using_marks (using_written (using u))) (to_marks (to_written (to t)) ++ (block_marks (block_written (block y)) ++ (sign here (S.End Z.CloseBrace) ∷ []))) x5.0 (join (to_marks (to_written (to t))) (block_marks (block_written (block y)) ++ (sign here (S.End Z.CloseBrace) ∷ [])) x6.0 (join (block_marks (block_written (block y))) (sign here (S.End Z.CloseBrace) ∷ []) x7.0 (tt, tt))))))))), ap (λ it. Called it here (name here n.text) (placed_bracketed (bracketed_written (bracketed ps))) here (placed_using (using_written (using u))) (placed_to (to_written (to t))) (placed_block (block_written (block y))) here) x0.1 ∙ ap (λ it. Called (placed_start x) here (name here n.text) it here (placed_using (using_written (using u))) (placed_to (to_written (to t))) (placed_block (block_written (block y))) here) x3.1 ∙ ap (λ it. Called (placed_start x) here (name here n.text) (bracketed_written (bracketed ps)) here it (placed_to (to_written (to t))) (placed_block (block_written (block y))) here) x5.1 ∙ ap (λ it. Called (placed_start x) here (name here n.text) (bracketed_written (bracketed ps)) here (using_written (using u)) it (placed_block (block_written (block y))) here) x6.1 ∙ ap (λ it. Called (placed_start x) here (name here n.text) (bracketed_written (bracketed ps)) here (using_written (using u)) (to_written (to t)) it here) x7.1)

item_good : (i : WrittenItem) → ItemFits false i → AreHeld (item_marks i) → FineItem (item_written (item i))
item_good (Help d) f h = let x = helper_good d f h in (x.0, ap (λ it. Help it) x.1)
item_good (Make r) f h = let x = rule_good r f h in (x.0, ap (λ it. Make it) x.1)

items_good : (xs : Items) → ItemsFit false xs → AreHeld (items_marks xs) → FineItems (more_items NoItems (items xs))
items_good NoItems f h = (tt, refl)
items_good (MoreItems xs i) f h =
    let g0 = held_parts (items_marks xs) (item_marks i) h in
    let x0 = items_good xs f.0 g0.0 in
    let x1 = item_good i f.1 g0.1 in
    rw (more_items_last NoItems (items xs) (item i))
    ((join (items_marks (more_items NoItems (items xs))) (item_marks (item_written (item i))) x0.0 x1.0), ap (λ it. MoreItems it (placed_item (item_written (item i)))) x0.1 ∙ ap (λ it. MoreItems (more_items NoItems (items xs)) it) x1.1)

-- the canonical marks of a module are such as tokens can have where its own are, and each of their places is the same
pub module_good : (w : WrittenModule) → ModuleFits false w → AreHeld (module_marks w) → FineModule (module_written (module_tree w))
module_good (Composed p n q r ts s ss t xs) f h =
    let g4 = held_parts (models_marks ts) (word s W.From ∷ (models_marks ss ++ (sign t S.Semicolon ∷ (items_marks xs)))) h.1.1.1.1 in
    let x4 = models_good ts g4.0 in
    let g6 = held_parts (models_marks ss) (sign t S.Semicolon ∷ (items_marks xs)) g4.1.1 in
    let x6 = models_good ss g6.0 in
    let x8 = items_good xs f g6.1.1 in
    ((tt, (h.1.0, (tt, (tt, (join (models_marks (models_written (models ts))) (word here W.From ∷ (models_marks (models_written (models ss)) ++ (sign here S.Semicolon ∷ (items_marks (more_items NoItems (items xs)))))) x4.0 (tt, (join (models_marks (models_written (models ss))) (sign here S.Semicolon ∷ (items_marks (more_items NoItems (items xs)))) x6.0 (tt, x8.0)))))))), ap (λ it. Composed here (name here n.text) here here it here (placed_models (models_written (models ss))) here (placed_items (more_items NoItems (items xs)))) x4.1 ∙ ap (λ it. Composed here (name here n.text) here here (models_written (models ts)) here it here (placed_items (more_items NoItems (items xs)))) x6.1 ∙ ap (λ it. Composed here (name here n.text) here here (models_written (models ts)) here (models_written (models ss)) here it) x8.1)
