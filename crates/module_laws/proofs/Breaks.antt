-- Where the first expression of a module that stands too deep begins, there reading finds it too deep, and not before.
use Rattle.std.proofs.Common.{◌≡◌, ⊎_elim, ℕ, ◌+◌, List, [], ◌∷◌, ◌++◌, length, refl, sym, ap, ◌∙◌, subst, arith, append_assoc, length-append}
use Rattle.std.specs.Prelude.{Bool, true, false, map, Option, Some}
use Rattle.std.specs.Prelude.{None as Nowhere}
use Rattle.std.proofs.lemmas.List.{append-nil, length-map}
use Rattle.atl_base.specs.declared.place.Place.{Place}
use Rattle.atl_tree.specs.declared.name.Name.{Name}
use Rattle.atl_tree.specs.declared.name.ClassRef.{ClassRef}
use Rattle.atl_tree.specs.declared.expr.Expr.{Expr}
use Rattle.atl_tree.specs.declared.expr.BinaryOp.TheVariants as O
use Rattle.atl_tree.specs.declared.module.Module.{Module}
use Rattle.atl_tree.specs.declared.module.ModelDecl.{ModelDecl}
use Rattle.atl_tree.specs.declared.module.Param.{Param}
use Rattle.atl_tree.specs.declared.module.Rule.{Rule}
use Rattle.atl_tree.specs.declared.module.RuleSort.{RuleSort}
use Rattle.atl_tree.specs.declared.module.RuleSort.TheVariants as R
use Rattle.atl_tree.specs.declared.module.Pattern.{Pattern}
use Rattle.atl_tree.specs.declared.module.LocalVar.{LocalVar}
use Rattle.atl_tree.specs.declared.module.Stat.{Stat}
use Rattle.ocl_parse.specs.declared.sign.Ender.TheVariants as E
use Rattle.ocl_parse.specs.declared.sign.Sign.TheVariants as S
use Rattle.ocl_parse.specs.declared.symbol.Symbol.{Symbol}
use Rattle.ocl_parse.specs.declared.symbol.Symbol.TheVariants as T
use Rattle.ocl_parse.specs.declared.frame.Frame.TheVariants as F
use Rattle.ocl_parse.specs.declared.frame.Next.TheVariants as N
use Rattle.ocl_parse.specs.Symbols.{Lexeme, lexeme}
use Rattle.ocl_parse.specs.Grammar.{fixed, Written, spelt, tree_of, kind_of}
use Rattle.ocl_parse.specs.TooDeep.{or_else, behind, size}
use Rattle.ocl_parse.proofs.Breaks.{IsThere, split, neither, counted, uncounted, Opening, Opens, opens_with, fits}
use Rattle.module_grammar.specs.declared.keyword.Keyword.TheVariants as W
use Rattle.module_grammar.specs.Marks.{Content, Word, Shared, Mark, word, sign, called, shared, expression, kind_marks}
use Rattle.module_grammar.specs.Parts.{module_of, class, target, rule, bare, sort_of}
use Rattle.module_grammar.specs.Grammar.{WrittenHelper, Define, Guard, NoGuard, SomeGuard, Locals, NoLocals, MoreLocals, Using, NoUsing, SomeUsing, Binds, OneBind, MoreBinds, BindList, NoList, EmptyList, SomeBinds, Targets, OneTarget, MoreTargets, To, NoTo, SomeTo, WrittenStat, Eval, Assign, If, IfElse, For, Stats, NoStats, MoreStats, Block, NoBlock, SomeBlock, WrittenRule, Matched, Called, WrittenItem, Help, Make, Items, NoItems, MoreItems, WrittenModule, Composed}
use Rattle.module_grammar.specs.Grammar.{models_marks, bracketed_marks, context_marks, signature_marks, helper_marks, words_marks, parent_marks, sources_marks, guard_marks, locals_marks, using_marks, binds_marks, list_marks, targets_marks, to_marks, stat_marks, stats_marks, block_marks, start_marks, rest_marks, rule_marks, item_marks, items_marks, module_marks}
use Rattle.module_grammar.specs.Grammar.{models, bracketed, context, signature, modifiers, parent, sources, locals, binds, targets, stats, start, items}
use Rattle.module_grammar.specs.Grammar.{begins_if, Whole, HelperFits, GuardFits, LocalsFit, UsingFits, BindsFit, ListFits, TargetsFit, ToFits, StatFits, StatsFit, BlockFits, RestFits, RuleFits, ItemFits, ItemsFit, ModuleFits}
use Rattle.module_states.specs.Machine.{ForSources, ForResult, ForLocalKind, Blocks, InDo, InIf, InElse, InFor, ForBody, ForGuard, ForLocal, ForBind, ForStat, ForAssigned, ForCondition, ForValues}
use Rattle.module_states.specs.Machine.{State, AtStart, AtModel, AtItem, AtSignature, InKind, InExpr, AtSource, AtSourceEnd, AtRest, AtLocal, AtTo, AtTarget, AtBinds, AtFirstBind, AtBind, AtRuleOpen, AtStat, AtIf, run}
use Rattle.module_laws.specs.TooDeep.{whole, helper_deep, guard_deep, locals_deep, using_deep, binds_deep, list_deep, targets_deep, to_deep, stat_deep, stats_deep, block_deep, rest_deep, rule_deep, item_deep, items_deep, deep_in}
use Rattle.module_laws.specs.Laws.{Matches}
use Rattle.module_laws.proofs.Inside.{reads_expr, reads_assigned, reads_kind}
use Rattle.module_laws.proofs.Statements.{NoElse, NotElse, begins_stat}
use Rattle.module_laws.proofs.Accepts.{comma, close, brace, closing_brace, form_of, matched_sort, reads_targets_models, reads_sources_models, reads_signature, reads_context, reads_rule_word, reads_parent, reads_sources, reads_locals, reads_binds, reads_targets, reads_stats, stat_not_else, reads_started, reads_items}
use Rattle.module_laws.proofs.Within.{Broken, tries_expr}

-- Where no expression stands too deep, what is written fits with the depth.

fit : (e : Written) → Whole false e → whole e ≡ Nowhere → Whole true e
fit e f h = fits e 0 0 f h

fit_locals : (ls : Locals) → LocalsFit false ls → locals_deep ls ≡ Nowhere → LocalsFit true ls
fit_locals NoLocals f h = tt
fit_locals (MoreLocals ls n p k q e r) f h =
    let c = 3 + length (locals_marks ls) + length (kind_marks k) in
    let x = neither (locals_deep ls) (behind c (whole e)) h in (fit_locals ls f.0 x.0, fit e f.1 (uncounted c (whole e) x.1))

fit_using : (u : Using) → UsingFits false u → using_deep u ≡ Nowhere → UsingFits true u
fit_using NoUsing f h = tt
fit_using (SomeUsing p q ls r) f h = fit_locals ls f (uncounted 2 (locals_deep ls) h)

fit_binds : (bs : Binds) → BindsFit false bs → binds_deep bs ≡ Nowhere → BindsFit true bs
fit_binds (OneBind n p e) f h = fit e f (uncounted 2 (whole e) h)
fit_binds (MoreBinds bs c n p e) f h =
    let i = 3 + length (binds_marks bs) in
    let x = neither (binds_deep bs) (behind i (whole e)) h in (fit_binds bs f.0 x.0, fit e f.1 (uncounted i (whole e) x.1))

fit_list : (bs : BindList) → ListFits false bs → list_deep bs ≡ Nowhere → ListFits true bs
fit_list NoList f h = tt
fit_list (EmptyList p q) f h = tt
fit_list (SomeBinds p bs q) f h = fit_binds bs f (uncounted 1 (binds_deep bs) h)

fit_targets : (ts : Targets) → TargetsFit false ts → targets_deep ts ≡ Nowhere → TargetsFit true ts
fit_targets (OneTarget n p m q c bs) f h = fit_list bs f (uncounted 5 (list_deep bs) h)
fit_targets (MoreTargets ts r n p m q c bs) f h =
    let i = 6 + length (targets_marks ts) in
    let x = neither (targets_deep ts) (behind i (list_deep bs)) h in (fit_targets ts f.0 x.0, fit_list bs f.1 (uncounted i (list_deep bs) x.1))

fit_to : (t : To) → ToFits false t → to_deep t ≡ Nowhere → ToFits true t
fit_to NoTo f h = tt
fit_to (SomeTo p ts) f h = fit_targets ts f (uncounted 1 (targets_deep ts) h)

mutual
  fit_stat : (s : WrittenStat) → StatFits false s → stat_deep s ≡ Nowhere → StatFits true s
  fit_stat (Eval e p) f h = (f.0, fit e f.1 h)
  fit_stat (Assign e p n q v r) f h =
      let x = neither (whole e) (behind (3 + size e) (whole v)) h in (f.0, fit e f.1 x.0, fit v f.2 (uncounted (3 + size e) (whole v) x.1))
  fit_stat (If p q e r s ss t) f h =
      let x = neither (behind 2 (whole e)) (behind (4 + size e) (stats_deep ss)) h in
      (fit e f.0 (uncounted 2 (whole e) x.0), fit_stats ss f.1 (uncounted (4 + size e) (stats_deep ss) x.1))
  fit_stat (IfElse p q e r s ss t u v zs w) f h =
      let i = 4 + size e in
      let j = 7 + size e + length (stats_marks ss) in
      let x = neither (behind 2 (whole e)) (or_else (behind i (stats_deep ss)) (behind j (stats_deep zs))) h in
      let y = neither (behind i (stats_deep ss)) (behind j (stats_deep zs)) x.1 in
      (fit e f.0 (uncounted 2 (whole e) x.0), fit_stats ss f.1 (uncounted i (stats_deep ss) y.0), fit_stats zs f.2 (uncounted j (stats_deep zs) y.1))
  fit_stat (For p q n r e s t ss u) f h =
      let x = neither (behind 4 (whole e)) (behind (6 + size e) (stats_deep ss)) h in
      (fit e f.0 (uncounted 4 (whole e) x.0), fit_stats ss f.1 (uncounted (6 + size e) (stats_deep ss) x.1))

  fit_stats : (ss : Stats) → StatsFit false ss → stats_deep ss ≡ Nowhere → StatsFit true ss
  fit_stats NoStats f h = tt
  fit_stats (MoreStats ss s) f h =
      let i = length (stats_marks ss) in
      let x = neither (stats_deep ss) (behind i (stat_deep s)) h in (fit_stats ss f.0 x.0, fit_stat s f.1 (uncounted i (stat_deep s) x.1))

fit_block : (y : Block) → BlockFits false y → block_deep y ≡ Nowhere → BlockFits true y
fit_block NoBlock f h = tt
fit_block (SomeBlock p q ss r) f h = fit_stats ss f (uncounted 2 (stats_deep ss) h)

fit_rest : (u : Using) (t : To) (y : Block) → RestFits false u t y → rest_deep u t y ≡ Nowhere → RestFits true u t y
fit_rest u t y f h =
    let i = length (using_marks u) in
    let j = length (to_marks t) in
    let later = or_else (to_deep t) (behind j (block_deep y)) in
    let x = neither (using_deep u) (behind i later) h in
    let z = neither (to_deep t) (behind j (block_deep y)) (uncounted i later x.1) in
    (fit_using u f.0 x.0, fit_to t f.1 z.0, fit_block y f.2 (uncounted j (block_deep y) z.1))

fit_guard : (lazy : Bool) (g : Guard) → GuardFits false lazy g → guard_deep g ≡ Nowhere → GuardFits true lazy g
fit_guard lazy NoGuard f h = tt
fit_guard false (SomeGuard p e q) f h = fit e f (uncounted 1 (whole e) h)
fit_guard true (SomeGuard p e q) f h = f

fit_rule : (w : WrittenRule) → RuleFits false w → rule_deep w ≡ Nowhere → RuleFits true w
fit_rule (Matched ws p n x q r ss g u t y s) f h =
    let i = 4 + length (words_marks ws) + length (parent_marks x) + length (sources_marks ss) in
    let j = length (guard_marks g) in
    let z = neither (guard_deep g) (behind j (rest_deep u t y)) (uncounted i (or_else (guard_deep g) (behind j (rest_deep u t y))) h) in
    (f.0, f.1, fit_guard (modifiers ws).is_lazy g f.2 z.0, fit_rest u t y f.3 (uncounted j (rest_deep u t y) z.1))
fit_rule (Called x p n ps q u t y s) f h = (f.0, fit_rest u t y f.1 (uncounted (3 + length (start_marks x) + length (bracketed_marks ps)) (rest_deep u t y) h))

fit_item : (i : WrittenItem) → ItemFits false i → item_deep i ≡ Nowhere → ItemFits true i
fit_item (Help (Define p c q r n s t k u e v)) f h = (f.0, fit e f.1 (uncounted (6 + length (context_marks c) + length (signature_marks s) + length (kind_marks k)) (whole e) h))
fit_item (Make w) f h = fit_rule w f h

fit_items : (is : Items) → ItemsFit false is → items_deep is ≡ Nowhere → ItemsFit true is
fit_items NoItems f h = tt
fit_items (MoreItems is i) f h =
    let n = length (items_marks is) in
    let x = neither (items_deep is) (behind n (item_deep i)) h in (fit_items is f.0 x.0, fit_item i f.1 (uncounted n (item_deep i) x.1))

pub fit_module : (w : WrittenModule) → ModuleFits false w → deep_in w ≡ Nowhere → ModuleFits true w
fit_module (Composed p n q r ts s ss t is) f h = fit_items is f (uncounted (6 + length (models_marks ts) + length (models_marks ss)) (items_deep is) h)

-- What is read before it.

assoc : (pre mid front l : List Mark) → (pre ++ (mid ++ front)) ++ l ≡ pre ++ (mid ++ (front ++ l))
assoc pre mid front l = append_assoc pre (mid ++ front) l ∙ ap (λ x. pre ++ x) (append_assoc mid front l)

ahead : (pre mid : List Mark) (s u : State) (ts : List Mark) {j : ℕ} → ((l : List Mark) → run true s (pre ++ (mid ++ l)) ≡ run true u l) → Broken u ts j → Broken s (pre ++ (mid ++ ts)) (length pre + (length mid + j))
ahead pre mid s u ts h x = record {
  front = pre ++ (mid ++ x.front);
  t = x.t;
  tail = x.tail;
  whole = ap (λ l. pre ++ (mid ++ l)) x.whole ∙ sym (assoc pre mid x.front (x.t ∷ x.tail));
  count = length-append pre (mid ++ x.front) ∙ ap (λ i. length pre + i) (length-append mid x.front ∙ ap (λ i. length mid + i) x.count);
  breaks = λ r a. ap (run true s) (assoc pre mid x.front (x.t ∷ r)) ∙ h (x.front ++ (x.t ∷ r)) ∙ x.breaks r a;
  waits = h x.front ∙ x.waits;
}

recount : {s : State} {ts : List Mark} {j k : ℕ} → Broken s ts j → j ≡ k → Broken s ts k
recount {s = s} {ts = ts} x e = subst (Broken s ts) e x

-- what holds of marks as far as the one behind a mark, and of those before it
record Steady (P : List Mark → Type 0) : Type 1 where
  pub more : (front : List Mark) (t : Mark) (tail r : List Mark) → Matches r tail → P (front ++ (t ∷ tail)) → P (front ++ (t ∷ r))
  pub before : (front : List Mark) (t : Mark) (tail : List Mark) → P (front ++ (t ∷ tail)) → P front

carry : (P : List Mark → Type 0) → Steady P → (pre : List Mark) (s u : State) (ts : List Mark) {j : ℕ} → ((l : List Mark) → P l → run true s (pre ++ l) ≡ run true u l) → P ts → Broken u ts j → Broken s (pre ++ ts) (length pre + j)
carry P st pre s u ts h p x =
    let whole : P (x.front ++ (x.t ∷ x.tail)) = subst P x.whole p in
    record {
      front = pre ++ x.front;
      t = x.t;
      tail = x.tail;
      whole = ap (λ l. pre ++ l) x.whole ∙ sym (append_assoc pre x.front (x.t ∷ x.tail));
      count = length-append pre x.front ∙ ap (λ i. length pre + i) x.count;
      breaks = λ r a. ap (run true s) (append_assoc pre x.front (x.t ∷ r)) ∙ h (x.front ++ (x.t ∷ r)) (st.more x.front x.t x.tail r a whole) ∙ x.breaks r a;
      waits = h x.front (st.before x.front x.t x.tail whole) ∙ x.waits;
    }

-- what holds of the first mark
abbrev First : (Content → Type 0) → List Mark → Type 0
First Q [] = Unit {0}
First Q (t ∷ l) = Q t.content

first_steady : (Q : Content → Type 0) → Steady (First Q)
first_steady Q = record { more = more; before = before }
  where
    more : (front : List Mark) (t : Mark) (tail r : List Mark) → Matches r tail → First Q (front ++ (t ∷ tail)) → First Q (front ++ (t ∷ r))
    more [] t tail r a h = h
    more (u ∷ front) t tail r a h = h

    before : (front : List Mark) (t : Mark) (tail : List Mark) → First Q (front ++ (t ∷ tail)) → First Q front
    before [] t tail h = tt
    before (u ∷ front) t tail h = h

-- The parts that hold expressions.

tries_helper : (h : WrittenHelper) (m : Module) (z : List Mark) (k : ℕ) → HelperFits false h → helper_deep h ≡ Some k → Broken (AtItem m) (helper_marks h ++ z) k
tries_helper (Define p c q r n s t b u e v) m z k f h =
    let last = sign v S.Semicolon ∷ [] in
    let body = sign u (S.Operator O.Eq) ∷ (expression e ++ last) in
    let result = sign t S.Colon ∷ (kind_marks b ++ body) in
    let head = word q W.Def ∷ sign r S.Colon ∷ called n ∷ (signature_marks s ++ result) in
    let o = ForResult m (context c) n (signature s) in
    let x = ForBody m (context c) n (signature s) (kind_of b) in
    let value = expression e ++ (sign v S.Semicolon ∷ z) in
    let given = kind_marks b ++ (sign u (S.Operator O.Eq) ∷ value) in
    let j = counted (6 + length (context_marks c) + length (signature_marks s) + length (kind_marks b)) (whole e) k h in
    rw (append_assoc (context_marks c) head z)
    (rw (append_assoc (signature_marks s) result z)
    (rw (append_assoc (kind_marks b) body z)
    (rw (append_assoc (expression e) last z)
    (recount
    (ahead (word p W.Helper ∷ context_marks c) (word q W.Def ∷ sign r S.Colon ∷ called n ∷ []) (AtItem m) (AtSignature m (context c) n) (signature_marks s ++ (sign t S.Colon ∷ given)) (λ l. reads_context true c m q (sign r S.Colon ∷ called n ∷ l) f.0)
    (ahead (signature_marks s) (sign t S.Colon ∷ []) (AtSignature m (context c) n) (InKind o [] N.Kind) given (λ l. reads_signature true s m (context c) n t l)
    (ahead (kind_marks b) (sign u (S.Operator O.Eq) ∷ []) (InKind o [] N.Kind) (InExpr x [] N.Operand) value (λ l. reads_kind true b o [] (sign u (S.Operator O.Eq) ∷ l))
    (tries_expr e x (fixed v S.Semicolon) z j.0 f.1 j.1))))
    (omega (arith, j.2))))))

tries_locals : (ls : Locals) (m : Module) (s : RuleSort) (a : Bool) (n : Name) (x : Option Name) (ps : List Param) (ss : List Pattern) (g : Option Expr) (r : List Mark) (k : ℕ) → LocalsFit false ls → locals_deep ls ≡ Some k
    → Broken (AtLocal m (rule s a n x ps ss g [] [] Nowhere)) (locals_marks ls ++ r) k
tries_locals NoLocals m s a n x ps ss g r k f h = absurd (subst IsThere (sym h) tt)
tries_locals (MoreLocals ls y p b q e z) m s a n x ps ss g r k f h =
    let last = sign z S.Semicolon ∷ [] in
    let value = sign q (S.Operator O.Eq) ∷ (expression e ++ last) in
    let after = expression e ++ (sign z S.Semicolon ∷ r) in
    let given = kind_marks b ++ (sign q (S.Operator O.Eq) ∷ after) in
    let i = 3 + length (locals_marks ls) + length (kind_marks b) in
    let w = rule s a n x ps ss g (locals ls) [] Nowhere in
    rw (append_assoc (locals_marks ls) (called y ∷ sign p S.Colon ∷ (kind_marks b ++ value)) r)
    (rw (append_assoc (kind_marks b) value r)
    (rw (append_assoc (expression e) last r)
    (⊎_elim
    (λ c. tries_locals ls m s a n x ps ss g (called y ∷ sign p S.Colon ∷ given) k f.0 c)
    (λ c. let j = counted i (whole e) k c.1 in
    recount
    (ahead (locals_marks ls) (called y ∷ sign p S.Colon ∷ []) (AtLocal m (rule s a n x ps ss g [] [] Nowhere)) (InKind (ForLocalKind m w y) [] N.Kind) given (λ l. reads_locals true ls m s a n x ps ss g (called y ∷ sign p S.Colon ∷ l) (fit_locals ls f.0 c.0))
    (ahead (kind_marks b) (sign q (S.Operator O.Eq) ∷ []) (InKind (ForLocalKind m w y) [] N.Kind) (InExpr (ForLocal m w y (kind_of b)) [] N.Operand) after (λ l. reads_kind true b (ForLocalKind m w y) [] (sign q (S.Operator O.Eq) ∷ l))
    (tries_expr e (ForLocal m w y (kind_of b)) (fixed z S.Semicolon) r j.0 f.1 j.1)))
    (omega (arith, j.2)))
    (split (locals_deep ls) (behind i (whole e)) k h))))

-- bindings, before a closing parenthesis or a comma
tries_binds : (bs : Binds) (m : Module) (x : Rule) (n : Name) (c : ClassRef) (t : Lexeme) (r : List Mark) (k : ℕ) → BindsFit false bs → binds_deep bs ≡ Some k → Broken (AtBind m x (target n c [])) (binds_marks bs ++ (shared t ∷ r)) k
tries_binds (OneBind y p e) m x n c t r k f h =
    let j = counted 2 (whole e) k h in
    recount
    (ahead [] (called y ∷ word p W.Gives ∷ []) (AtBind m x (target n c [])) (InExpr (ForBind m x (target n c []) y) [] N.Operand) (expression e ++ (shared t ∷ r)) (λ l. refl)
    (tries_expr e (ForBind m x (target n c []) y) t r j.0 f j.1))
    (omega (arith, j.2))
tries_binds (MoreBinds bs q y p e) m x n c t r k f h =
    let i = 3 + length (binds_marks bs) in
    rw (append_assoc (binds_marks bs) (comma q ∷ called y ∷ word p W.Gives ∷ expression e) (shared t ∷ r))
    (⊎_elim
    (λ d. tries_binds bs m x n c (fixed q (S.End E.Comma)) (called y ∷ word p W.Gives ∷ (expression e ++ (shared t ∷ r))) k f.0 d)
    (λ d. let j = counted i (whole e) k d.1 in
    recount
    (ahead (binds_marks bs) (comma q ∷ called y ∷ word p W.Gives ∷ []) (AtBind m x (target n c [])) (InExpr (ForBind m x (target n c (binds bs)) y) [] N.Operand) (expression e ++ (shared t ∷ r))
    (λ l. reads_binds true bs m x n c (comma q) (called y ∷ word p W.Gives ∷ l) (fit_binds bs f.0 d.0) tt)
    (tries_expr e (ForBind m x (target n c (binds bs)) y) t r j.0 f.1 j.1))
    (omega (arith, j.2)))
    (split (binds_deep bs) (behind i (whole e)) k h))

-- the first binding is no closing parenthesis
abbrev NotClose : Content → Type 0
NotClose (Shared (T.Fixed (S.End E.Close))) = ⊥
NotClose t = Unit {0}

into_binds : (m : Module) (x : Rule) (n : Name) (c : ClassRef) (l : List Mark) → First NotClose l → run true (AtFirstBind m x (target n c [])) l ≡ run true (AtBind m x (target n c [])) l
into_binds m x n c [] h = refl
into_binds m x n c (t ∷ l) h = on t.content t.place h
  where
    on : (z : Content) (p : Place) → NotClose z → run true (AtFirstBind m x (target n c [])) (record { content = z; place = p } ∷ l) ≡ run true (AtBind m x (target n c [])) (record { content = z; place = p } ∷ l)
    on (Shared (T.Fixed (S.End E.Close))) p h = absurd h
    on z p h = refl

binds_open : (bs : Binds) (r : List Mark) → First NotClose (binds_marks bs ++ r)
binds_open (OneBind y p e) r = tt
binds_open (MoreBinds bs q y p e) r = rw (append_assoc (binds_marks bs) (comma q ∷ called y ∷ word p W.Gives ∷ expression e) r) (binds_open bs (comma q ∷ called y ∷ word p W.Gives ∷ (expression e ++ r)))

tries_list : (bs : BindList) (m : Module) (x : Rule) (n : Name) (c : ClassRef) (r : List Mark) (k : ℕ) → ListFits false bs → list_deep bs ≡ Some k → Broken (AtBinds m x (target n c [])) (list_marks bs ++ r) k
tries_list NoList m x n c r k f h = absurd (subst IsThere (sym h) tt)
tries_list (EmptyList p q) m x n c r k f h = absurd (subst IsThere (sym h) tt)
tries_list (SomeBinds p bs q) m x n c r k f h =
    let j = counted 1 (binds_deep bs) k h in
    let ts = binds_marks bs ++ (close q ∷ r) in
    rw (append_assoc (binds_marks bs) (close q ∷ []) r)
    (recount
    (ahead [] (sign p S.Open ∷ []) (AtBinds m x (target n c [])) (AtFirstBind m x (target n c [])) ts (λ l. refl)
    (carry (First NotClose) (first_steady NotClose) [] (AtFirstBind m x (target n c [])) (AtBind m x (target n c [])) ts (into_binds m x n c) (binds_open bs (close q ∷ r))
    (tries_binds bs m x n c (fixed q (S.End E.Close)) r j.0 f j.1)))
    (omega (arith, j.2)))

tries_targets : (ts : Targets) (m : Module) (s : RuleSort) (a : Bool) (n : Name) (x : Option Name) (ps : List Param) (ss : List Pattern) (g : Option Expr) (ls : List LocalVar) (r : List Mark) (k : ℕ) → TargetsFit false ts → targets_deep ts ≡ Some k
    → Broken (AtTarget m (rule s a n x ps ss g ls [] Nowhere)) (targets_marks ts ++ r) k
tries_targets (OneTarget y p z q c bs) m s a n x ps ss g ls r k f h =
    let j = counted 5 (list_deep bs) k h in
    let w = rule s a n x ps ss g ls [] Nowhere in
    recount
    (ahead [] (called y ∷ sign p S.Colon ∷ called z ∷ sign q S.Bang ∷ called c ∷ []) (AtTarget m w) (AtBinds m w (target y (class z c) [])) (list_marks bs ++ r) (λ l. refl)
    (tries_list bs m w y (class z c) r j.0 f j.1))
    (omega (arith, j.2))
tries_targets (MoreTargets ts v y p z q c bs) m s a n x ps ss g ls r k f h =
    let i = 6 + length (targets_marks ts) in
    let tail = called y ∷ sign p S.Colon ∷ called z ∷ sign q S.Bang ∷ called c ∷ list_marks bs in
    let w = rule s a n x ps ss g ls (targets ts) Nowhere in
    rw (append_assoc (targets_marks ts) (comma v ∷ tail) r)
    (⊎_elim
    (λ d. tries_targets ts m s a n x ps ss g ls (comma v ∷ (tail ++ r)) k f.0 d)
    (λ d. let j = counted i (list_deep bs) k d.1 in
    recount
    (ahead (targets_marks ts) (comma v ∷ called y ∷ sign p S.Colon ∷ called z ∷ sign q S.Bang ∷ called c ∷ []) (AtTarget m (rule s a n x ps ss g ls [] Nowhere)) (AtBinds m w (target y (class z c) [])) (list_marks bs ++ r)
    (λ l. reads_targets true ts m s a n x ps ss g ls (comma v) (called y ∷ sign p S.Colon ∷ called z ∷ sign q S.Bang ∷ called c ∷ l) (fit_targets ts f.0 d.0) tt)
    (tries_list bs m w y (class z c) r j.0 f.1 j.1))
    (omega (arith, j.2)))
    (split (targets_deep ts) (behind i (list_deep bs)) k h))

-- Statements.

abbrev NotOpen : Content → Type 0
NotOpen (Shared (T.Fixed S.Open)) = ⊥
NotOpen t = Unit {0}

-- an expression's statement begins so
abbrev Begin : Content → List Mark → Type 0
Begin (Word w) l = ⊥
Begin (Shared (T.Fixed (S.End E.CloseBrace))) l = ⊥
Begin (Shared (T.Fixed S.If)) l = First NotOpen l
Begin t l = Unit {0}

abbrev Begins : List Mark → Type 0
Begins [] = Unit {0}
Begins (t ∷ l) = Begin t.content l

begin_more : (t : Content) (l m : List Mark) → (First NotOpen l → First NotOpen m) → Begin t l → Begin t m
begin_more (Word w) l m g h = absurd h
begin_more (Shared (T.Fixed (S.End E.CloseBrace))) l m g h = absurd h
begin_more (Shared (T.Fixed S.If)) l m g h = g h
begin_more t l m g h = tt

matches_open : (r tail : List Mark) → Matches r tail → First NotOpen tail → First NotOpen r
matches_open [] tail a h = tt
matches_open (t ∷ r) [] a h = absurd a
matches_open (t ∷ r) (u ∷ tail) a h = subst (λ x. NotOpen x.content) (sym a) h

begins_steady : Steady Begins
begins_steady = record { more = more; before = before }
  where
    more : (front : List Mark) (t : Mark) (tail r : List Mark) → Matches r tail → Begins (front ++ (t ∷ tail)) → Begins (front ++ (t ∷ r))
    more [] t tail r a h = begin_more t.content tail r (matches_open r tail a) h
    more (u ∷ []) t tail r a h = begin_more u.content (t ∷ tail) (t ∷ r) (λ x. x) h
    more (u ∷ v ∷ front) t tail r a h = begin_more u.content (v ∷ (front ++ (t ∷ tail))) (v ∷ (front ++ (t ∷ r))) (λ x. x) h

    before : (front : List Mark) (t : Mark) (tail : List Mark) → Begins (front ++ (t ∷ tail)) → Begins front
    before [] t tail h = tt
    before (u ∷ []) t tail h = begin_more u.content (t ∷ tail) [] (λ x. tt) h
    before (u ∷ v ∷ front) t tail h = begin_more u.content (v ∷ (front ++ (t ∷ tail))) (v ∷ front) (λ x. x) h

into_if : (k : Blocks) (zs : List Stat) (q : Place) (l : List Mark) → First NotOpen l → run true (AtIf k zs q) l ≡ run true (InExpr (ForStat k zs) (F.Condition q ∷ []) N.Operand) l
into_if k zs q [] h = refl
into_if k zs q (t ∷ l) h = on t.content t.place h
  where
    on : (z : Content) (p : Place) → NotOpen z → run true (AtIf k zs q) (record { content = z; place = p } ∷ l) ≡ run true (InExpr (ForStat k zs) (F.Condition q ∷ []) N.Operand) (record { content = z; place = p } ∷ l)
    on (Shared (T.Fixed S.Open)) p h = absurd h
    on z p h = refl

into_stat : (k : Blocks) (zs : List Stat) (l : List Mark) → Begins l → run true (AtStat k zs) l ≡ run true (InExpr (ForStat k zs) [] N.Operand) l
into_stat k zs [] h = refl
into_stat k zs (t ∷ l) h = on t.content t.place h
  where
    on : (z : Content) (p : Place) → Begin z l → run true (AtStat k zs) (record { content = z; place = p } ∷ l) ≡ run true (InExpr (ForStat k zs) [] N.Operand) (record { content = z; place = p } ∷ l)
    on (Word w) p h = absurd h
    on (Shared (T.Fixed (S.End E.CloseBrace))) p h = absurd h
    on (Shared (T.Fixed S.If)) p h = into_if k zs p l h
    on z p h = refl

abbrev IsFalse : Bool → Type 0
IsFalse false = Unit {0}
IsFalse true = ⊥

-- what stands behind a statement's first expression
abbrev Ends : Symbol → Type 0
Ends (T.Fixed S.Semicolon) = Unit {0}
Ends (T.Fixed S.Dot) = Unit {0}
Ends s = ⊥

ends_open : (s : Symbol) → Ends s → NotOpen (Shared s)
ends_open (T.Fixed S.Semicolon) h = tt
ends_open (T.Fixed S.Dot) h = tt
ends_open s h = absurd h

ends_begin : (s : Symbol) (z : List Mark) → Ends s → Begin (Shared s) z
ends_begin (T.Fixed S.Semicolon) z h = tt
ends_begin (T.Fixed S.Dot) z h = tt
ends_begin s z h = absurd h

begins : (ts : List Lexeme) (v : Lexeme) (z : List Mark) → Opens (ts ++ []) → begins_if ts ≡ false → Ends v.symbol → Begins (map shared ts ++ (shared v ∷ z))
begins [] v z o g n = ends_begin v.symbol z n
begins (t ∷ []) v z o g n = on t.symbol o
  where
    on : (s : Symbol) → Opening s [] → Begin (Shared s) (shared v ∷ z)
    on (T.Fixed (S.End E.CloseBrace)) o = o
    on (T.Fixed S.If) o = ends_open v.symbol n
    on s o = tt
begins (t ∷ u ∷ ts) v z o g n = on t.symbol t.place u.symbol u.place o g
  where
    on : (s : Symbol) (p : Place) (x : Symbol) (q : Place) → Opening s (u ∷ (ts ++ [])) → begins_if (lexeme p s ∷ lexeme q x ∷ ts) ≡ false → Begin (Shared s) (shared (lexeme q x) ∷ (map shared ts ++ (shared v ∷ z)))
    on (T.Fixed (S.End E.CloseBrace)) p x q o g = o
    on (T.Fixed S.If) p (T.Fixed S.Open) q o g = subst IsFalse (sym g) tt
    on (T.Fixed S.If) p x q o g = tt
    on s p x q o g = tt

-- an expression that begins a statement
tries_begun : (e : Written) (k : Blocks) (zs : List Stat) (v : Lexeme) (z : List Mark) (j : ℕ) → Whole false e → begins_if (spelt e) ≡ false → Ends v.symbol → whole e ≡ Some j → Broken (AtStat k zs) (expression e ++ (shared v ∷ z)) j
tries_begun e k zs v z j f g n h =
    recount
    (carry Begins begins_steady [] (AtStat k zs) (InExpr (ForStat k zs) [] N.Operand) (expression e ++ (shared v ∷ z)) (into_stat k zs) (begins (spelt e) v z (opens_with e [] tt) g n)
    (tries_expr e (ForStat k zs) v z j f h))
    (omega arith)

size_marks : (e : Written) → length (expression e) ≡ size e
size_marks e = length-map (spelt e) shared

not_else : (l : List Mark) → NotElse l → First NoElse l
not_else [] h = tt
not_else (t ∷ l) h = h

is_not_else : (l : List Mark) → First NoElse l → NotElse l
is_not_else [] h = tt
is_not_else (t ∷ l) h = h

mutual
  tries_stat : (s : WrittenStat) (b : Blocks) (zs : List Stat) (r : List Mark) (k : ℕ) → StatFits false s → stat_deep s ≡ Some k → Broken (AtStat b zs) (stat_marks s ++ r) k
  tries_stat (Eval e p) b zs r k f h =
      rw (append_assoc (expression e) (sign p S.Semicolon ∷ []) r) (tries_begun e b zs (fixed p S.Semicolon) r k f.1 f.0 tt h)
  tries_stat (Assign e p n q v t) b zs r k f h =
      let last = sign t S.Semicolon ∷ [] in
      let ts = expression v ++ (sign t S.Semicolon ∷ r) in
      let mid = sign p S.Dot ∷ called n ∷ word q W.Gives ∷ [] in
      rw (append_assoc (expression e) (mid ++ (expression v ++ last)) r)
      (rw (append_assoc (expression v) last r)
      (⊎_elim
      (λ d. tries_begun e b zs (fixed p S.Dot) (called n ∷ word q W.Gives ∷ ts) k f.1 f.0 tt d)
      (λ d. let j = counted (3 + size e) (whole v) k d.1 in
      recount
      (ahead (expression e) mid (AtStat b zs) (InExpr (ForAssigned b zs (tree_of e) n) [] N.Operand) ts
      (λ l. begins_stat true e b zs (sign p S.Dot ∷ called n ∷ word q W.Gives ∷ l) (fit e f.1 d.0) f.0 ∙ reads_assigned true e b zs p n q l (fit e f.1 d.0))
      (tries_expr v (ForAssigned b zs (tree_of e) n) (fixed t S.Semicolon) r j.0 f.2 j.1))
      (let c = size_marks e in omega (arith, j.2, c)))
      (split (whole e) (behind (3 + size e) (whole v)) k h)))
  tries_stat (If p q e s t ss u) b zs r k f h =
      let last = closing_brace u ∷ [] in
      let block = stats_marks ss ++ (closing_brace u ∷ r) in
      rw (append_assoc (expression e) (close s ∷ brace t ∷ (stats_marks ss ++ last)) r)
      (rw (append_assoc (stats_marks ss) last r)
      (⊎_elim
      (λ d. let j = counted 2 (whole e) k d in
      recount
      (ahead [] (sign p S.If ∷ sign q S.Open ∷ []) (AtStat b zs) (InExpr (ForCondition b zs) [] N.Operand) (expression e ++ (close s ∷ brace t ∷ block)) (λ l. refl)
      (tries_expr e (ForCondition b zs) (fixed s (S.End E.Close)) (brace t ∷ block) j.0 f.0 j.1))
      (omega (arith, j.2)))
      (λ d. let j = counted (4 + size e) (stats_deep ss) k d.1 in
      recount
      (ahead (sign p S.If ∷ sign q S.Open ∷ expression e) (close s ∷ brace t ∷ []) (AtStat b zs) (AtStat (InIf b zs (tree_of e)) []) block
      (λ l. reads_expr true e (ForCondition b zs) (close s) (brace t ∷ l) (fit e f.0 (uncounted 2 (whole e) d.0)) tt)
      (tries_stats ss (InIf b zs (tree_of e)) (closing_brace u ∷ r) j.0 f.1 j.1))
      (let c = size_marks e in omega (arith, j.2, c)))
      (split (behind 2 (whole e)) (behind (4 + size e) (stats_deep ss)) k h)))
  tries_stat (IfElse p q e s t ss u v w ys x) b zs r k f h =
      let last = closing_brace x ∷ [] in
      let other = closing_brace u ∷ sign v (S.End E.Else) ∷ brace w ∷ (stats_marks ys ++ last) in
      let second = stats_marks ys ++ (closing_brace x ∷ r) in
      let first = stats_marks ss ++ (closing_brace u ∷ sign v (S.End E.Else) ∷ brace w ∷ second) in
      let i = 4 + size e in
      let n = 7 + size e + length (stats_marks ss) in
      rw (append_assoc (expression e) (close s ∷ brace t ∷ (stats_marks ss ++ other)) r)
      (rw (append_assoc (stats_marks ss) other r)
      (rw (append_assoc (stats_marks ys) last r)
      (⊎_elim
      (λ d. let j = counted 2 (whole e) k d in
      recount
      (ahead [] (sign p S.If ∷ sign q S.Open ∷ []) (AtStat b zs) (InExpr (ForCondition b zs) [] N.Operand) (expression e ++ (close s ∷ brace t ∷ first)) (λ l. refl)
      (tries_expr e (ForCondition b zs) (fixed s (S.End E.Close)) (brace t ∷ first) j.0 f.0 j.1))
      (omega (arith, j.2)))
      (λ d. ⊎_elim
      (λ g. let j = counted i (stats_deep ss) k g in
      recount
      (ahead (sign p S.If ∷ sign q S.Open ∷ expression e) (close s ∷ brace t ∷ []) (AtStat b zs) (AtStat (InIf b zs (tree_of e)) []) first
      (λ l. reads_expr true e (ForCondition b zs) (close s) (brace t ∷ l) (fit e f.0 (uncounted 2 (whole e) d.0)) tt)
      (tries_stats ss (InIf b zs (tree_of e)) (closing_brace u ∷ sign v (S.End E.Else) ∷ brace w ∷ second) j.0 f.1 j.1))
      (let c = size_marks e in omega (arith, j.2, c)))
      (λ g. let j = counted n (stats_deep ys) k g.1 in
      recount
      (ahead (sign p S.If ∷ sign q S.Open ∷ expression e) (close s ∷ brace t ∷ []) (AtStat b zs) (AtStat (InIf b zs (tree_of e)) []) first
      (λ l. reads_expr true e (ForCondition b zs) (close s) (brace t ∷ l) (fit e f.0 (uncounted 2 (whole e) d.0)) tt)
      (ahead (stats_marks ss) (closing_brace u ∷ sign v (S.End E.Else) ∷ brace w ∷ []) (AtStat (InIf b zs (tree_of e)) []) (AtStat (InElse b zs (tree_of e) (stats ss)) []) second
      (λ l. reads_stats true ss (InIf b zs (tree_of e)) (closing_brace u ∷ sign v (S.End E.Else) ∷ brace w ∷ l) (fit_stats ss f.1 (uncounted i (stats_deep ss) g.0)) tt)
      (tries_stats ys (InElse b zs (tree_of e) (stats ss)) (closing_brace x ∷ r) j.0 f.2 j.1)))
      (let c = size_marks e in omega (arith, j.2, c)))
      (split (behind i (stats_deep ss)) (behind n (stats_deep ys)) k d.1))
      (split (behind 2 (whole e)) (or_else (behind i (stats_deep ss)) (behind n (stats_deep ys))) k h))))
  tries_stat (For p q n s e t u ss v) b zs r k f h =
      let last = closing_brace v ∷ [] in
      let block = stats_marks ss ++ (closing_brace v ∷ r) in
      let mid = word p W.For ∷ sign q S.Open ∷ called n ∷ sign s (S.End E.In) ∷ [] in
      rw (append_assoc (expression e) (close t ∷ brace u ∷ (stats_marks ss ++ last)) r)
      (rw (append_assoc (stats_marks ss) last r)
      (⊎_elim
      (λ d. let j = counted 4 (whole e) k d in
      recount
      (ahead [] mid (AtStat b zs) (InExpr (ForValues b zs n) [] N.Operand) (expression e ++ (close t ∷ brace u ∷ block)) (λ l. refl)
      (tries_expr e (ForValues b zs n) (fixed t (S.End E.Close)) (brace u ∷ block) j.0 f.0 j.1))
      (omega (arith, j.2)))
      (λ d. let j = counted (6 + size e) (stats_deep ss) k d.1 in
      recount
      (ahead (mid ++ expression e) (close t ∷ brace u ∷ []) (AtStat b zs) (AtStat (InFor b zs n (tree_of e)) []) block
      (λ l. reads_expr true e (ForValues b zs n) (close t) (brace u ∷ l) (fit e f.0 (uncounted 4 (whole e) d.0)) tt)
      (tries_stats ss (InFor b zs n (tree_of e)) (closing_brace v ∷ r) j.0 f.1 j.1))
      (let c = size_marks e in omega (arith, j.2, c)))
      (split (behind 4 (whole e)) (behind (6 + size e) (stats_deep ss)) k h)))

  tries_stats : (ss : Stats) (b : Blocks) (r : List Mark) (k : ℕ) → StatsFit false ss → stats_deep ss ≡ Some k → Broken (AtStat b []) (stats_marks ss ++ r) k
  tries_stats NoStats b r k f h = absurd (subst IsThere (sym h) tt)
  tries_stats (MoreStats ss s) b r k f h =
      let i = length (stats_marks ss) in
      rw (append_assoc (stats_marks ss) (stat_marks s) r)
      (⊎_elim
      (λ d. tries_stats ss b (stat_marks s ++ r) k f.0 d)
      (λ d. let j = counted i (stat_deep s) k d.1 in
      recount
      (carry (First NoElse) (first_steady NoElse) (stats_marks ss) (AtStat b []) (AtStat b (stats ss)) (stat_marks s ++ r)
      (λ l n. reads_stats true ss b l (fit_stats ss f.0 d.0) (is_not_else l n)) (not_else (stat_marks s ++ r) (stat_not_else false s r f.1))
      (tries_stat s b (stats ss) r j.0 f.1 j.1))
      (omega (arith, j.2)))
      (split (stats_deep ss) (behind i (stat_deep s)) k h))

tries_block : (y : Block) (m : Module) (x : Rule) (r : List Mark) (k : ℕ) → BlockFits false y → block_deep y ≡ Some k → Broken (AtTo m x) (block_marks y ++ r) k
tries_block NoBlock m x r k f h = absurd (subst IsThere (sym h) tt)
tries_block (SomeBlock p q ss t) m x r k f h =
    let j = counted 2 (stats_deep ss) k h in
    rw (append_assoc (stats_marks ss) (closing_brace t ∷ []) r)
    (recount
    (ahead [] (word p W.Do ∷ brace q ∷ []) (AtTo m x) (AtStat (InDo m x) []) (stats_marks ss ++ (closing_brace t ∷ r)) (λ l. refl)
    (tries_stats ss (InDo m x) (closing_brace t ∷ r) j.0 f j.1))
    (omega (arith, j.2)))

-- to, and do
tries_later : (t : To) (y : Block) (m : Module) (s : RuleSort) (a : Bool) (n : Name) (x : Option Name) (ps : List Param) (ss : List Pattern) (g : Option Expr) (ls : List LocalVar) (r : List Mark) (k : ℕ) → ToFits false t → BlockFits false y
    → or_else (to_deep t) (behind (length (to_marks t)) (block_deep y)) ≡ Some k → Broken (AtTo m (rule s a n x ps ss g ls [] Nowhere)) (to_marks t ++ (block_marks y ++ r)) k
tries_later NoTo y m s a n x ps ss g ls r k f c h =
    let j = counted 0 (block_deep y) k h in recount (tries_block y m (rule s a n x ps ss g ls [] Nowhere) r j.0 c j.1) (omega (arith, j.2))
tries_later (SomeTo q ts) y m s a n x ps ss g ls r k f c h = ⊎_elim
    (λ d. let j = counted 1 (targets_deep ts) k d in
    recount
    (ahead [] (word q W.To ∷ []) (AtTo m w) (AtTarget m w) (targets_marks ts ++ (block_marks y ++ r)) (λ l. refl)
    (tries_targets ts m s a n x ps ss g ls (block_marks y ++ r) j.0 f j.1))
    (omega (arith, j.2)))
    (λ d. let j = counted (length (to_marks (SomeTo q ts))) (block_deep y) k d.1 in
    recount
    (ahead [] (word q W.To ∷ []) (AtTo m w) (AtTarget m w) (targets_marks ts ++ (block_marks y ++ r)) (λ l. refl)
    (on y c j.0 j.1 (fit_targets ts f (uncounted 1 (targets_deep ts) d.0))))
    (omega (arith, j.2)))
    (split (to_deep (SomeTo q ts)) (behind (length (to_marks (SomeTo q ts))) (block_deep y)) k h)
  where
    w : Rule
    w = rule s a n x ps ss g ls [] Nowhere

    on : (y : Block) → BlockFits false y → (j : ℕ) → block_deep y ≡ Some j → TargetsFit true ts → Broken (AtTarget m w) (targets_marks ts ++ (block_marks y ++ r)) (length (targets_marks ts) + j)
    on NoBlock c j d u = absurd (subst IsThere (sym d) tt)
    on (SomeBlock p z zs t) c j d u =
        let i = counted 2 (stats_deep zs) j d in
        let v = rule s a n x ps ss g ls (targets ts) Nowhere in
        rw (append_assoc (stats_marks zs) (closing_brace t ∷ []) r)
        (recount
        (ahead (targets_marks ts) (word p W.Do ∷ brace z ∷ []) (AtTarget m w) (AtStat (InDo m v) []) (stats_marks zs ++ (closing_brace t ∷ r)) (λ l. reads_targets true ts m s a n x ps ss g ls (word p W.Do) (brace z ∷ l) u tt)
        (tries_stats zs (InDo m v) (closing_brace t ∷ r) i.0 c i.1))
        (omega (arith, i.2)))

-- behind what may be left out stands a word
abbrev Later : Content → Type 0
Later (Word W.To) = Unit {0}
Later (Word W.Do) = Unit {0}
Later t = ⊥

abbrev Rest : Content → Type 0
Rest (Word W.Using) = Unit {0}
Rest (Word W.To) = Unit {0}
Rest (Word W.Do) = Unit {0}
Rest t = ⊥

into_to : (m : Module) (x : Rule) (l : List Mark) → First Later l → run true (AtRest m x) l ≡ run true (AtTo m x) l
into_to m x [] h = refl
into_to m x (t ∷ l) h = on t.content t.place h
  where
    on : (z : Content) (p : Place) → Later z → run true (AtRest m x) (record { content = z; place = p } ∷ l) ≡ run true (AtTo m x) (record { content = z; place = p } ∷ l)
    on (Word W.To) p h = refl
    on (Word W.Do) p h = refl
    on z p h = absurd h

into_rest : (m : Module) (x : Rule) (l : List Mark) → First Rest l → run true (AtSourceEnd m x) l ≡ run true (AtRest m x) l
into_rest m x [] h = refl
into_rest m x (t ∷ l) h = on t.content t.place h
  where
    on : (z : Content) (p : Place) → Rest z → run true (AtSourceEnd m x) (record { content = z; place = p } ∷ l) ≡ run true (AtRest m x) (record { content = z; place = p } ∷ l)
    on (Word W.Using) p h = refl
    on (Word W.To) p h = refl
    on (Word W.Do) p h = refl
    on z p h = absurd h

later_first : (t : To) (y : Block) (r : List Mark) (k : ℕ) → or_else (to_deep t) (behind (length (to_marks t)) (block_deep y)) ≡ Some k → First Later (to_marks t ++ (block_marks y ++ r))
later_first (SomeTo q ts) y r k h = tt
later_first NoTo (SomeBlock p q ss t) r k h = tt
later_first NoTo NoBlock r k h = absurd (subst IsThere (sym h) tt)

rest_first : (u : Using) (t : To) (y : Block) (r : List Mark) (k : ℕ) → rest_deep u t y ≡ Some k → First Rest (using_marks u ++ (to_marks t ++ (block_marks y ++ r)))
rest_first (SomeUsing p q ls z) t y r k h = tt
rest_first NoUsing (SomeTo q ts) y r k h = tt
rest_first NoUsing NoTo (SomeBlock p q ss t) r k h = tt
rest_first NoUsing NoTo NoBlock r k h = absurd (subst IsThere (sym h) tt)

tries_rest : (u : Using) (t : To) (y : Block) (m : Module) (s : RuleSort) (a : Bool) (n : Name) (x : Option Name) (ps : List Param) (ss : List Pattern) (g : Option Expr) (r : List Mark) (k : ℕ) → RestFits false u t y → rest_deep u t y ≡ Some k
    → Broken (AtRest m (rule s a n x ps ss g [] [] Nowhere)) (using_marks u ++ (to_marks t ++ (block_marks y ++ r))) k
tries_rest NoUsing t y m s a n x ps ss g r k f h =
    let later = or_else (to_deep t) (behind (length (to_marks t)) (block_deep y)) in
    let w = rule s a n x ps ss g [] [] Nowhere in
    let j = counted 0 later k h in
    recount
    (carry (First Later) (first_steady Later) [] (AtRest m w) (AtTo m w) (to_marks t ++ (block_marks y ++ r)) (into_to m w) (later_first t y r j.0 j.1)
    (tries_later t y m s a n x ps ss g [] r j.0 f.1 f.2 j.1))
    (omega (arith, j.2))
tries_rest (SomeUsing p q ls z) t y m s a n x ps ss g r k f h =
    let later = or_else (to_deep t) (behind (length (to_marks t)) (block_deep y)) in
    let ts = to_marks t ++ (block_marks y ++ r) in
    let w = rule s a n x ps ss g [] [] Nowhere in
    let v = rule s a n x ps ss g (locals ls) [] Nowhere in
    let i = length (using_marks (SomeUsing p q ls z)) in
    rw (append_assoc (locals_marks ls) (closing_brace z ∷ []) ts)
    (⊎_elim
    (λ d. let j = counted 2 (locals_deep ls) k d in
    recount
    (ahead [] (word p W.Using ∷ brace q ∷ []) (AtRest m w) (AtLocal m w) (locals_marks ls ++ (closing_brace z ∷ ts)) (λ l. refl)
    (tries_locals ls m s a n x ps ss g (closing_brace z ∷ ts) j.0 f.0 j.1))
    (omega (arith, j.2)))
    (λ d. let j = counted i later k d.1 in
    recount
    (ahead [] (word p W.Using ∷ brace q ∷ []) (AtRest m w) (AtLocal m w) (locals_marks ls ++ (closing_brace z ∷ ts)) (λ l. refl)
    (ahead (locals_marks ls) (closing_brace z ∷ []) (AtLocal m w) (AtTo m v) ts (λ l. reads_locals true ls m s a n x ps ss g (closing_brace z ∷ l) (fit_locals ls f.0 (uncounted 2 (locals_deep ls) d.0)))
    (tries_later t y m s a n x ps ss g (locals ls) r j.0 f.1 f.2 j.1)))
    (let c = length-append (locals_marks ls) (closing_brace z ∷ []) in omega (arith, j.2, c)))
    (split (behind 2 (locals_deep ls)) (behind i later) k h))

-- the guard, and what stands behind it
tries_guarded : (g : Guard) (lazy : Bool) (u : Using) (t : To) (y : Block) (m : Module) (s : RuleSort) (a : Bool) (n : Name) (x : Option Name) (ss : List Pattern) (r : List Mark) (k : ℕ) → (lazy ≡ false → s ≡ R.Matched) → GuardFits false lazy g → RestFits false u t y
    → or_else (guard_deep g) (behind (length (guard_marks g)) (rest_deep u t y)) ≡ Some k
    → Broken (AtSourceEnd m (rule s a n x [] ss Nowhere [] [] Nowhere)) (guard_marks g ++ (using_marks u ++ (to_marks t ++ (block_marks y ++ r)))) k
tries_guarded NoGuard lazy u t y m s a n x ss r k c f d h =
    let w = rule s a n x [] ss Nowhere [] [] Nowhere in
    let j = counted 0 (rest_deep u t y) k h in
    recount
    (carry (First Rest) (first_steady Rest) [] (AtSourceEnd m w) (AtRest m w) (using_marks u ++ (to_marks t ++ (block_marks y ++ r))) (into_rest m w) (rest_first u t y r j.0 j.1)
    (tries_rest u t y m s a n x [] ss Nowhere r j.0 d j.1))
    (omega (arith, j.2))
tries_guarded (SomeGuard q e z) false u t y m s a n x ss r k c f d h =
    let ts = using_marks u ++ (to_marks t ++ (block_marks y ++ r)) in
    let i = length (guard_marks (SomeGuard q e z)) in
    rw (append_assoc (expression e) (close z ∷ []) ts)
    (subst (λ v. Broken (AtSourceEnd m (rule v a n x [] ss Nowhere [] [] Nowhere)) (sign q S.Open ∷ (expression e ++ (close z ∷ ts))) k) (sym (c refl))
    (⊎_elim
    (λ o. let j = counted 1 (whole e) k o in
    recount
    (ahead [] (sign q S.Open ∷ []) (AtSourceEnd m w) (InExpr (ForGuard m w) [] N.Operand) (expression e ++ (close z ∷ ts)) (λ l. refl)
    (tries_expr e (ForGuard m w) (fixed z (S.End E.Close)) ts j.0 f j.1))
    (omega (arith, j.2)))
    (λ o. let j = counted i (rest_deep u t y) k o.1 in
    recount
    (ahead (sign q S.Open ∷ expression e) (close z ∷ []) (AtSourceEnd m w) (AtRest m (rule R.Matched a n x [] ss (Some (tree_of e)) [] [] Nowhere)) ts
    (λ l. reads_expr true e (ForGuard m w) (close z) l (fit e f (uncounted 1 (whole e) o.0)) tt)
    (tries_rest u t y m R.Matched a n x [] ss (Some (tree_of e)) r j.0 d j.1))
    (let b = length-append (expression e) (close z ∷ []) in omega (arith, j.2, b)))
    (split (behind 1 (whole e)) (behind i (rest_deep u t y)) k h)))
  where
    w : Rule
    w = rule R.Matched a n x [] ss Nowhere [] [] Nowhere
tries_guarded (SomeGuard q e z) true u t y m s a n x ss r k c f d h = absurd f

rest_parts : (u : Using) (t : To) (y : Block) (p : Place) (r : List Mark) → rest_marks u t y p ++ r ≡ using_marks u ++ (to_marks t ++ (block_marks y ++ (closing_brace p ∷ r)))
rest_parts u t y p r =
    append_assoc (using_marks u) (to_marks t ++ (block_marks y ++ (closing_brace p ∷ []))) r
    ∙ ap (λ l. using_marks u ++ l) (append_assoc (to_marks t) (block_marks y ++ (closing_brace p ∷ [])) r ∙ ap (λ l. to_marks t ++ l) (append_assoc (block_marks y) (closing_brace p ∷ []) r))

tries_rule : (w : WrittenRule) (m : Module) (r : List Mark) (k : ℕ) → RuleFits false w → rule_deep w ≡ Some k → Broken (AtItem m) (rule_marks w ++ r) k
tries_rule (Matched ws p n x q t ss g u v y z) m r k f h =
    let s = sort_of (modifiers ws) in
    let a = (modifiers ws).is_abstract in
    let rest = rest_marks u v y z in
    let parts = using_marks u ++ (to_marks v ++ (block_marks y ++ (closing_brace z ∷ r))) in
    let body = brace q ∷ word t W.From ∷ (sources_marks ss ++ (guard_marks g ++ rest)) in
    let o = or_else (guard_deep g) (behind (length (guard_marks g)) (rest_deep u v y)) in
    let j = counted (4 + length (words_marks ws) + length (parent_marks x) + length (sources_marks ss)) o k h in
    rw (append_assoc (words_marks ws) (word p W.Rule ∷ called n ∷ (parent_marks x ++ body)) r)
    (rw (append_assoc (parent_marks x) body r)
    (rw (append_assoc (sources_marks ss) (guard_marks g ++ rest) r)
    (rw (append_assoc (guard_marks g) rest r)
    (rw (rest_parts u v y z r)
    (recount
    (ahead (words_marks ws) (word p W.Rule ∷ called n ∷ []) (AtItem m) (AtRuleOpen m (form_of ws) (bare s a n)) (parent_marks x ++ (brace q ∷ word t W.From ∷ (sources_marks ss ++ (guard_marks g ++ parts)))) (λ l. reads_rule_word true ws p m (called n ∷ l) f.0 f.1)
    (ahead (parent_marks x) (brace q ∷ word t W.From ∷ []) (AtRuleOpen m (form_of ws) (bare s a n)) (AtSource m (rule s a n (parent x) [] [] Nowhere [] [] Nowhere)) (sources_marks ss ++ (guard_marks g ++ parts)) (λ l. reads_parent true ws x q m s a n (word t W.From ∷ l))
    (ahead (sources_marks ss) [] (AtSource m (rule s a n (parent x) [] [] Nowhere [] [] Nowhere)) (AtSourceEnd m (rule s a n (parent x) [] (sources ss) Nowhere [] [] Nowhere)) (guard_marks g ++ parts) (λ l. reads_sources true ss m s a n (parent x) l)
    (tries_guarded g (modifiers ws).is_lazy u v y m s a n (parent x) (sources ss) (closing_brace z ∷ r) j.0 (matched_sort (modifiers ws).is_unique (modifiers ws).is_lazy f.1) f.2 f.3 j.1))))
    (omega (arith, j.2)))))))
tries_rule (Called x p n ps q u t y z) m r k f h =
    let rest = rest_marks u t y z in
    let parts = using_marks u ++ (to_marks t ++ (block_marks y ++ (closing_brace z ∷ r))) in
    let w = rule (start x) false n Nowhere (bracketed ps) [] Nowhere [] [] Nowhere in
    let j = counted (3 + length (start_marks x) + length (bracketed_marks ps)) (rest_deep u t y) k h in
    rw (append_assoc (start_marks x) (word p W.Rule ∷ called n ∷ (bracketed_marks ps ++ (brace q ∷ rest))) r)
    (rw (append_assoc (bracketed_marks ps) (brace q ∷ rest) r)
    (rw (rest_parts u t y z r)
    (recount
    (begun
    (tries_rest u t y m (start x) false n Nowhere (bracketed ps) [] Nowhere (closing_brace z ∷ r) j.0 f.1 j.1))
    (omega (arith, j.2)))))
  where
    w : Rule
    w = rule (start x) false n Nowhere (bracketed ps) [] Nowhere [] [] Nowhere

    begun : {ts : List Mark} {j : ℕ} → Broken (AtRest m w) ts j → Broken (AtItem m) (start_marks x ++ (word p W.Rule ∷ called n ∷ (bracketed_marks ps ++ (brace q ∷ ts)))) (length (start_marks x) + (2 + (length (bracketed_marks ps) + (1 + j))))
    begun {ts = ts} {j = j} b =
        let pre = start_marks x ++ (word p W.Rule ∷ called n ∷ bracketed_marks ps) in
        let whole : (l : List Mark) → pre ++ (brace q ∷ l) ≡ start_marks x ++ (word p W.Rule ∷ called n ∷ (bracketed_marks ps ++ (brace q ∷ l))) = λ l. append_assoc (start_marks x) (word p W.Rule ∷ called n ∷ bracketed_marks ps) (brace q ∷ l) in
        subst (λ l. Broken (AtItem m) l (length (start_marks x) + (2 + (length (bracketed_marks ps) + (1 + j))))) (whole ts)
        (recount (ahead pre (brace q ∷ []) (AtItem m) (AtRest m w) ts (λ l. ap (run true (AtItem m)) (whole l) ∙ reads_started true x ps p n m (brace q ∷ l) f.0) b)
        (let c = length-append (start_marks x) (word p W.Rule ∷ called n ∷ bracketed_marks ps) in omega (arith, c)))

tries_item : (i : WrittenItem) (m : Module) (r : List Mark) (k : ℕ) → ItemFits false i → item_deep i ≡ Some k → Broken (AtItem m) (item_marks i ++ r) k
tries_item (Help h) m r k f e = tries_helper h m r k f e
tries_item (Make w) m r k f e = tries_rule w m r k f e

tries_items : (is : Items) (n : Name) (ts ss : List ModelDecl) (r : List Mark) (k : ℕ) → ItemsFit false is → items_deep is ≡ Some k → Broken (AtItem (module_of n ts ss [])) (items_marks is ++ r) k
tries_items NoItems n ts ss r k f h = absurd (subst IsThere (sym h) tt)
tries_items (MoreItems is i) n ts ss r k f h =
    let c = length (items_marks is) in
    rw (append_assoc (items_marks is) (item_marks i) r)
    (⊎_elim
    (λ d. tries_items is n ts ss (item_marks i ++ r) k f.0 d)
    (λ d. let j = counted c (item_deep i) k d.1 in
    recount
    (ahead (items_marks is) [] (AtItem (module_of n ts ss [])) (AtItem (module_of n ts ss (items is))) (item_marks i ++ r) (λ l. reads_items true is n ts ss l (fit_items is f.0 d.0))
    (tries_item i (module_of n ts ss (items is)) r j.0 f.1 j.1))
    (omega (arith, j.2)))
    (split (items_deep is) (behind c (item_deep i)) k h))

pub tries_module : (w : WrittenModule) (k : ℕ) → ModuleFits false w → deep_in w ≡ Some k → Broken AtStart (module_marks w) k
tries_module (Composed p n q r ts s ss t is) k f h =
    let j = counted (6 + length (models_marks ts) + length (models_marks ss)) (items_deep is) k h in
    let head = word p W.Module ∷ called n ∷ sign q S.Semicolon ∷ word r W.Create ∷ models_marks ts in
    recount
    (ahead head (word s W.From ∷ []) AtStart (AtModel (ForSources n (models ts) [])) (models_marks ss ++ (sign t S.Semicolon ∷ items_marks is)) (λ l. reads_targets_models true ts n (word s W.From ∷ l))
    (ahead (models_marks ss) (sign t S.Semicolon ∷ []) (AtModel (ForSources n (models ts) [])) (AtItem (module_of n (models ts) (models ss) [])) (items_marks is) (λ l. reads_sources_models true ss n (models ts) (sign t S.Semicolon ∷ l))
    (subst (λ l. Broken (AtItem (module_of n (models ts) (models ss) [])) l j.0) (append-nil (items_marks is)) (tries_items is n (models ts) (models ss) [] j.0 f j.1))))
    (omega (arith, j.2))
