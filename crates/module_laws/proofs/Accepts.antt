-- What is written is read.
use Rattle.std.proofs.Common.{◌≡◌, List, [], ◌∷◌, ◌++◌, refl, sym, ap, ◌∙◌, subst, append_assoc}
use Rattle.std.specs.Prelude.{Bool, true, false, Option, None, Some, if◌then◌else◌}
use Rattle.std.proofs.lemmas.List.{append-nil}
use Rattle.atl_base.specs.declared.place.Place.{Place}
use Rattle.atl_tree.specs.declared.name.Name.{Name}
use Rattle.atl_tree.specs.declared.kind.KindNode.{KindNode}
use Rattle.atl_tree.specs.declared.expr.Expr.{Expr}
use Rattle.atl_tree.specs.declared.expr.BinaryOp.TheVariants as O
use Rattle.atl_tree.specs.declared.name.ClassRef.{ClassRef}
use Rattle.atl_tree.specs.declared.module.Module.{Module}
use Rattle.atl_tree.specs.declared.module.ModelDecl.{ModelDecl}
use Rattle.atl_tree.specs.declared.module.Item.TheVariants as I
use Rattle.atl_tree.specs.declared.module.Param.{Param}
use Rattle.atl_tree.specs.declared.module.Rule.{Rule}
use Rattle.atl_tree.specs.declared.module.RuleSort.{RuleSort}
use Rattle.atl_tree.specs.declared.module.RuleSort.TheVariants as R
use Rattle.atl_tree.specs.declared.module.Pattern.{Pattern}
use Rattle.atl_tree.specs.declared.module.LocalVar.{LocalVar}
use Rattle.atl_tree.specs.declared.module.Target.{Target}
use Rattle.atl_tree.specs.declared.module.Stat.{Stat}
use Rattle.ocl_parse.specs.declared.sign.Ender.TheVariants as E
use Rattle.ocl_parse.specs.declared.sign.Sign.TheVariants as S
use Rattle.ocl_parse.specs.declared.symbol.Symbol.TheVariants as T
use Rattle.ocl_parse.specs.declared.frame.Next.TheVariants as N
use Rattle.ocl_parse.specs.Grammar.{tree_of, Basic, Class, Coll, kind_of}
use Rattle.module_grammar.specs.declared.keyword.Keyword.TheVariants as W
use Rattle.module_grammar.specs.Marks.{Content, Word, Shared, Mark, word, sign, called, expression, kind_marks}
use Rattle.module_grammar.specs.Parts.{module_of, with_item, class, target, rule, bare, with_target, Modifier, Abstract, Unique, Lazy, Modifiers, has, with_modifier, may_stand, sort_of}
use Rattle.module_grammar.specs.Grammar.{Models, OneModel, MoreModels, Params, OneParam, MoreParams, Bracketed, NoParams, SomeParams, Context, NoContext, InContext, Signature, Attribute, Operation, WrittenHelper, Define, Words, NoWords, MoreWords, Parent, NoParent, Extends, Sources, OneSource, MoreSources, Guard, NoGuard, SomeGuard, Locals, NoLocals, MoreLocals, Using, NoUsing, SomeUsing, Binds, OneBind, MoreBinds, BindList, NoList, EmptyList, SomeBinds, Targets, OneTarget, MoreTargets, To, NoTo, SomeTo, WrittenStat, Eval, Assign, If, IfElse, For, Stats, NoStats, MoreStats, Block, NoBlock, SomeBlock, Start, NoStart, Entry, End, WrittenRule, Matched, Called, WrittenItem, Help, Make, Items, NoItems, MoreItems, WrittenModule, Composed}
use Rattle.module_grammar.specs.Grammar.{models_marks, params_marks, bracketed_marks, context_marks, signature_marks, helper_marks, modifier, words_marks, parent_marks, sources_marks, guard_marks, locals_marks, binds_marks, list_marks, targets_marks, to_marks, stat_marks, stats_marks, block_marks, start_marks, rest_marks, rule_marks, item_marks, items_marks, module_marks}
use Rattle.module_grammar.specs.Grammar.{models, params, bracketed, context, signature, helper_of, modifiers, parent, sources, guard, locals, using, binds, bind_list, targets, to, stat, stats, block, start, rule_of, item, items, module_tree}
use Rattle.module_grammar.specs.Grammar.{ContextFits, WordsFit, StartFits, HelperFits, GuardFits, LocalsFit, UsingFits, BindsFit, ListFits, TargetsFit, ToFits, StatFits, StatsFit, BlockFits, RestFits, RuleFits, ItemFits, ItemsFit, ModuleFits, IsModule}
use Rattle.module_states.specs.Machine.{ForTargets, ForSources, Owner, OfHelper, OfRule, ForParam, ForResult, ForLocalKind, Blocks, InDo, InIf, InElse, InFor, ForBody, ForGuard, ForLocal, ForBind, ForStat, ForAssigned, ForCondition, ForValues, Form, Plain, Modified}
use Rattle.module_states.specs.Machine.{AtModel, AtModelEnd, AtItem, AtHelper, AtDefColon, AtSignature, AtFirstParam, AtParam, InKind, AtWord, AtRuleName, AtRuleOpen, AtCalledBrace, AtFrom, AtSource, AtSourceEnd, AtRest, AtLocal, AtTo, AtTarget, AtBinds, AtFirstBind, AtBind, AtTargetEnd, AtStat}
use Rattle.module_states.specs.Machine.{Goes, Refuses, comma_or_close, with_all, target_end, at_binds, Read, after, run, read}
use Rattle.module_laws.proofs.Inside.{Closing, reads_expr, reads_assigned, reads_kind}
use Rattle.module_laws.proofs.Statements.{NotElse, begins_stat, expr_not_else, without_else}

abbrev pub comma : Place → Mark
comma p = sign p (S.End E.Comma)

abbrev pub close : Place → Mark
close p = sign p (S.End E.Close)

abbrev pub brace : Place → Mark
brace p = sign p S.OpenBrace

abbrev pub closing_brace : Place → Mark
closing_brace p = sign p (S.End E.CloseBrace)

-- a comma, or a closing parenthesis
abbrev pub Between : Content → Type 0
Between (Shared (T.Fixed (S.End E.Comma))) = Unit {0}
Between (Shared (T.Fixed (S.End E.Close))) = Unit {0}
Between t = ⊥

between_closes : (t : Content) → Between t → Closing t
between_closes (Shared (T.Fixed (S.End E.Comma))) h = tt
between_closes (Shared (T.Fixed (S.End E.Close))) h = tt
between_closes t h = absurd h

-- what follows a target
abbrev pub Behind : Content → Type 0
Behind (Shared (T.Fixed (S.End E.Comma))) = Unit {0}
Behind (Shared (T.Fixed (S.End E.CloseBrace))) = Unit {0}
Behind (Word W.Do) = Unit {0}
Behind t = ⊥

no_list : (m : Module) (r : Rule) (x : Target) (t : Content) → Behind t → at_binds m r x t ≡ target_end m (with_target r x) t
no_list m r x (Shared (T.Fixed (S.End E.Comma))) h = refl
no_list m r x (Shared (T.Fixed (S.End E.CloseBrace))) h = refl
no_list m r x (Word W.Do) h = refl
no_list m r x t h = absurd h

abbrev pub form_of : Words → Form
form_of NoWords = Plain
form_of (MoreWords ws p w) = Modified

abbrev IsTrue : Bool → Type 0
IsTrue true = Unit {0}
IsTrue false = ⊥

abbrev IsFalse : Bool → Type 0
IsFalse false = Unit {0}
IsFalse true = ⊥

-- where a guard may stand, the rule is matched
pub matched_sort : (unique lazy : Bool) → (if unique then lazy else true) ≡ true → lazy ≡ false → (if unique then R.Unique else if lazy then R.Lazy else R.Matched) ≡ R.Matched
matched_sort false false h k = refl
matched_sort true false h k = absurd (subst IsTrue (sym h) tt)
matched_sort u true h k = absurd (subst IsFalse (sym k) tt)

module _ (b : Bool) where
  pub reads_targets_models : (ms : Models) (n : Name) (r : List Mark) → run b (AtModel (ForTargets n [])) (models_marks ms ++ r) ≡ run b (AtModelEnd (ForTargets n (models ms))) r
  reads_targets_models (OneModel m p x) n r = refl
  reads_targets_models (MoreModels ms c m p x) n r =
      rw (append_assoc (models_marks ms) (comma c ∷ called m ∷ sign p S.Colon ∷ called x ∷ []) r) (reads_targets_models ms n (comma c ∷ called m ∷ sign p S.Colon ∷ called x ∷ r))

  pub reads_sources_models : (ms : Models) (n : Name) (ts : List ModelDecl) (r : List Mark) → run b (AtModel (ForSources n ts [])) (models_marks ms ++ r) ≡ run b (AtModelEnd (ForSources n ts (models ms))) r
  reads_sources_models (OneModel m p x) n ts r = refl
  reads_sources_models (MoreModels ms c m p x) n ts r =
      rw (append_assoc (models_marks ms) (comma c ∷ called m ∷ sign p S.Colon ∷ called x ∷ []) r) (reads_sources_models ms n ts (comma c ∷ called m ∷ sign p S.Colon ∷ called x ∷ r))

  pub first_params : (ps : Params) (o : Owner) (r : List Mark) → run b (AtFirstParam o) (params_marks ps ++ r) ≡ run b (AtParam o []) (params_marks ps ++ r)
  first_params (OneParam n p k) o r = refl
  first_params (MoreParams ps c n p k) o r =
      rw (append_assoc (params_marks ps) (comma c ∷ called n ∷ sign p S.Colon ∷ kind_marks k) r) (first_params ps o (comma c ∷ called n ∷ sign p S.Colon ∷ (kind_marks k ++ r)))

  reads_params : (ps : Params) (o : Owner) (t : Mark) (r : List Mark) → run b (AtParam o []) (params_marks ps ++ (t ∷ r)) ≡ after (comma_or_close t.content (AtParam o (params ps)) (with_all o (params ps))) (t ∷ r) (λ u. run b u r)
  reads_params (OneParam n p k) o t r = reads_kind b k (ForParam o [] n) [] (t ∷ r)
  reads_params (MoreParams ps c n p k) o t r =
      rw (append_assoc (params_marks ps) (comma c ∷ called n ∷ sign p S.Colon ∷ kind_marks k) (t ∷ r))
      (reads_params ps o (comma c) (called n ∷ sign p S.Colon ∷ (kind_marks k ++ (t ∷ r))) ∙ reads_kind b k (ForParam o (params ps) n) [] (t ∷ r))

  reads_inside : (ps : Params) (o : Owner) (q : Place) (r : List Mark) → run b (AtFirstParam o) (params_marks ps ++ (close q ∷ r)) ≡ run b (with_all o (params ps)) r
  reads_inside ps o q r = first_params ps o (close q ∷ r) ∙ reads_params ps o (close q) r

  pub reads_signature : (s : Signature) (m : Module) (c : Option KindNode) (n : Name) (p : Place) (r : List Mark) → run b (AtSignature m c n) (signature_marks s ++ (sign p S.Colon ∷ r)) ≡ run b (InKind (ForResult m c n (signature s)) [] N.Kind) r
  reads_signature Attribute m c n p r = refl
  reads_signature (Operation (NoParams q s)) m c n p r = refl
  reads_signature (Operation (SomeParams q ps s)) m c n p r =
      rw (append_assoc (params_marks ps) (close s ∷ []) (sign p S.Colon ∷ r)) (reads_inside ps (OfHelper m c n) s (sign p S.Colon ∷ r))

  pub reads_context : (c : Context) (m : Module) (q : Place) (r : List Mark) → ContextFits c → run b (AtHelper m) (context_marks c ++ (word q W.Def ∷ r)) ≡ run b (AtDefColon m (context c)) r
  reads_context NoContext m q r f = refl
  reads_context (InContext p (Basic s w)) m q r f = refl
  reads_context (InContext p (Class x s y)) m q r f = refl
  reads_context (InContext p (Coll x w s k z)) m q r f = absurd f

  reads_helper : (h : WrittenHelper) (m : Module) (z : List Mark) → HelperFits b h → run b (AtItem m) (helper_marks h ++ z) ≡ run b (AtItem (with_item m (I.Help (helper_of h)))) z
  reads_helper (Define p c q r n s t k u e v) m z f =
      let last = sign v S.Semicolon ∷ [] in
      let body = sign u (S.Operator O.Eq) ∷ (expression e ++ last) in
      let result = sign t S.Colon ∷ (kind_marks k ++ body) in
      let head = word q W.Def ∷ sign r S.Colon ∷ called n ∷ (signature_marks s ++ result) in
      rw (append_assoc (context_marks c) head z)
      (rw (append_assoc (signature_marks s) result z)
      (rw (append_assoc (kind_marks k) body z)
      (rw (append_assoc (expression e) last z)
      (reads_context c m q (sign r S.Colon ∷ called n ∷ (signature_marks s ++ (sign t S.Colon ∷ (kind_marks k ++ (sign u (S.Operator O.Eq) ∷ (expression e ++ (sign v S.Semicolon ∷ z))))))) f.0
      ∙ reads_signature s m (context c) n t (kind_marks k ++ (sign u (S.Operator O.Eq) ∷ (expression e ++ (sign v S.Semicolon ∷ z))))
      ∙ reads_kind b k (ForResult m (context c) n (signature s)) [] (sign u (S.Operator O.Eq) ∷ (expression e ++ (sign v S.Semicolon ∷ z)))
      ∙ reads_expr b e (ForBody m (context c) n (signature s) (kind_of k)) (sign v S.Semicolon) z f.1 tt))))

  reads_modifier : (m : Module) (ws : Modifiers) (p : Place) (w : Modifier) (r : List Mark) → has ws w ≡ false → run b (AtWord m ws) (modifier p w ∷ r) ≡ run b (AtWord m (with_modifier ws w)) r
  reads_modifier m ws p Abstract r h = rw h refl
  reads_modifier m ws p Unique r h = rw h refl
  reads_modifier m ws p Lazy r h = rw h refl

  reads_words : (ws : Words) (p : Place) (w : Modifier) (m : Module) (r : List Mark) → WordsFit (MoreWords ws p w) → run b (AtItem m) (words_marks (MoreWords ws p w) ++ r) ≡ run b (AtWord m (modifiers (MoreWords ws p w))) r
  reads_words NoWords p Abstract m r f = refl
  reads_words NoWords p Unique m r f = refl
  reads_words NoWords p Lazy m r f = refl
  reads_words (MoreWords ws q v) p w m r f =
      rw (append_assoc (words_marks (MoreWords ws q v)) (modifier p w ∷ []) r)
      (reads_words ws q v m (modifier p w ∷ r) f.0 ∙ reads_modifier m (modifiers (MoreWords ws q v)) p w r f.1)

  pub reads_rule_word : (ws : Words) (p : Place) (m : Module) (r : List Mark) → WordsFit ws → may_stand (modifiers ws) ≡ true
      → run b (AtItem m) (words_marks ws ++ (word p W.Rule ∷ r)) ≡ run b (AtRuleName m (form_of ws) (sort_of (modifiers ws)) (modifiers ws).is_abstract) r
  reads_rule_word NoWords p m r f h = refl
  reads_rule_word (MoreWords ws q w) p m r f h = reads_words ws q w m (word p W.Rule ∷ r) f ∙ stood (modifiers (MoreWords ws q w)) h
    where
      stood : (x : Modifiers) → may_stand x ≡ true → run b (AtWord m x) (word p W.Rule ∷ r) ≡ run b (AtRuleName m Modified (sort_of x) x.is_abstract) r
      stood x h = ap (λ t. after (if t then Goes (AtRuleName m Modified (sort_of x) x.is_abstract) else Refuses) (word p W.Rule ∷ r) (λ u. run b u r)) h

  pub reads_parent : (ws : Words) (x : Parent) (q : Place) (m : Module) (s : RuleSort) (a : Bool) (n : Name) (r : List Mark)
      → run b (AtRuleOpen m (form_of ws) (bare s a n)) (parent_marks x ++ (brace q ∷ r)) ≡ run b (AtFrom m (rule s a n (parent x) [] [] None [] [] None)) r
  reads_parent NoWords NoParent q m s a n r = refl
  reads_parent NoWords (Extends p y) q m s a n r = refl
  reads_parent (MoreWords ws p w) NoParent q m s a n r = refl
  reads_parent (MoreWords ws p w) (Extends t y) q m s a n r = refl

  pub reads_sources : (ss : Sources) (m : Module) (s : RuleSort) (a : Bool) (n : Name) (x : Option Name) (r : List Mark)
      → run b (AtSource m (rule s a n x [] [] None [] [] None)) (sources_marks ss ++ r) ≡ run b (AtSourceEnd m (rule s a n x [] (sources ss) None [] [] None)) r
  reads_sources (OneSource y p z q c) m s a n x r = refl
  reads_sources (MoreSources ss t y p z q c) m s a n x r =
      let tail = comma t ∷ called y ∷ sign p S.Colon ∷ called z ∷ sign q S.Bang ∷ called c ∷ [] in
      rw (append_assoc (sources_marks ss) tail r) (reads_sources ss m s a n x (tail ++ r))

  -- behind the sources may stand what may stand behind a guard
  reads_no_guard : (u : Using) (t : To) (y : Block) (p : Place) (m : Module) (x : Rule) (r : List Mark) → run b (AtSourceEnd m x) (rest_marks u t y p ++ r) ≡ run b (AtRest m x) (rest_marks u t y p ++ r)
  reads_no_guard (SomeUsing s q ls z) t y p m x r = refl
  reads_no_guard NoUsing (SomeTo s ts) y p m x r = refl
  reads_no_guard NoUsing NoTo (SomeBlock s q ss z) p m x r = refl
  reads_no_guard NoUsing NoTo NoBlock p m x r = refl

  pub reads_locals : (ls : Locals) (m : Module) (s : RuleSort) (a : Bool) (n : Name) (x : Option Name) (ps : List Param) (ss : List Pattern) (g : Option Expr) (r : List Mark) → LocalsFit b ls
      → run b (AtLocal m (rule s a n x ps ss g [] [] None)) (locals_marks ls ++ r) ≡ run b (AtLocal m (rule s a n x ps ss g (locals ls) [] None)) r
  reads_locals NoLocals m s a n x ps ss g r f = refl
  reads_locals (MoreLocals ls y p k q e z) m s a n x ps ss g r f =
      let last = sign z S.Semicolon ∷ [] in
      let value = sign q (S.Operator O.Eq) ∷ (expression e ++ last) in
      rw (append_assoc (locals_marks ls) (called y ∷ sign p S.Colon ∷ (kind_marks k ++ value)) r)
      (rw (append_assoc (kind_marks k) value r)
      (rw (append_assoc (expression e) last r)
      (reads_locals ls m s a n x ps ss g (called y ∷ sign p S.Colon ∷ (kind_marks k ++ (sign q (S.Operator O.Eq) ∷ (expression e ++ (sign z S.Semicolon ∷ r))))) f.0
      ∙ reads_kind b k (ForLocalKind m (rule s a n x ps ss g (locals ls) [] None) y) [] (sign q (S.Operator O.Eq) ∷ (expression e ++ (sign z S.Semicolon ∷ r)))
      ∙ reads_expr b e (ForLocal m (rule s a n x ps ss g (locals ls) [] None) y (kind_of k)) (sign z S.Semicolon) r f.1 tt)))

  -- to, do, and the end of a rule
  abbrev later_marks : To → Block → Place → List Mark
  later_marks t y p = to_marks t ++ (block_marks y ++ (closing_brace p ∷ []))

  reads_no_using : (t : To) (y : Block) (p : Place) (m : Module) (x : Rule) (r : List Mark) → run b (AtRest m x) (later_marks t y p ++ r) ≡ run b (AtTo m x) (later_marks t y p ++ r)
  reads_no_using (SomeTo s ts) y p m x r = refl
  reads_no_using NoTo (SomeBlock s q ss z) p m x r = refl
  reads_no_using NoTo NoBlock p m x r = refl

  reads_using : (u : Using) (t : To) (y : Block) (p : Place) (m : Module) (s : RuleSort) (a : Bool) (n : Name) (x : Option Name) (ps : List Param) (ss : List Pattern) (g : Option Expr) (r : List Mark) → UsingFits b u
      → run b (AtRest m (rule s a n x ps ss g [] [] None)) (rest_marks u t y p ++ r) ≡ run b (AtTo m (rule s a n x ps ss g (using u) [] None)) (later_marks t y p ++ r)
  reads_using NoUsing t y p m s a n x ps ss g r f = reads_no_using t y p m (rule s a n x ps ss g [] [] None) r
  reads_using (SomeUsing v q ls z) t y p m s a n x ps ss g r f =
      rw (append_assoc (locals_marks ls) (closing_brace z ∷ []) (later_marks t y p))
      (rw (append_assoc (locals_marks ls) (closing_brace z ∷ later_marks t y p) r)
      (reads_locals ls m s a n x ps ss g (closing_brace z ∷ (later_marks t y p ++ r)) f))

  pub reads_binds : (bs : Binds) (m : Module) (x : Rule) (n : Name) (c : ClassRef) (t : Mark) (r : List Mark) → BindsFit b bs → Between t.content
      → run b (AtBind m x (target n c [])) (binds_marks bs ++ (t ∷ r)) ≡ after (comma_or_close t.content (AtBind m x (target n c (binds bs))) (AtTargetEnd m (with_target x (target n c (binds bs))))) (t ∷ r) (λ u. run b u r)
  reads_binds (OneBind y p e) m x n c t r f h = reads_expr b e (ForBind m x (target n c []) y) t r f (between_closes t.content h)
  reads_binds (MoreBinds bs q y p e) m x n c t r f h =
      rw (append_assoc (binds_marks bs) (comma q ∷ called y ∷ word p W.Gives ∷ expression e) (t ∷ r))
      (reads_binds bs m x n c (comma q) (called y ∷ word p W.Gives ∷ (expression e ++ (t ∷ r))) f.0 tt
      ∙ reads_expr b e (ForBind m x (target n c (binds bs)) y) t r f.1 (between_closes t.content h))

  pub first_binds : (bs : Binds) (m : Module) (x : Rule) (y : Target) (r : List Mark) → run b (AtFirstBind m x y) (binds_marks bs ++ r) ≡ run b (AtBind m x y) (binds_marks bs ++ r)
  first_binds (OneBind n p e) m x y r = refl
  first_binds (MoreBinds bs q n p e) m x y r =
      rw (append_assoc (binds_marks bs) (comma q ∷ called n ∷ word p W.Gives ∷ expression e) r) (first_binds bs m x y (comma q ∷ called n ∷ word p W.Gives ∷ (expression e ++ r)))

  pub reads_list : (bs : BindList) (m : Module) (x : Rule) (n : Name) (c : ClassRef) (t : Mark) (r : List Mark) → ListFits b bs → Behind t.content
      → run b (AtBinds m x (target n c [])) (list_marks bs ++ (t ∷ r)) ≡ after (target_end m (with_target x (target n c (bind_list bs))) t.content) (t ∷ r) (λ u. run b u r)
  reads_list NoList m x n c t r f h = ap (λ u. after u (t ∷ r) (λ v. run b v r)) (no_list m x (target n c []) t.content h)
  reads_list (EmptyList p q) m x n c t r f h = refl
  reads_list (SomeBinds p bs q) m x n c t r f h =
      rw (append_assoc (binds_marks bs) (close q ∷ []) (t ∷ r))
      (first_binds bs m x (target n c []) (close q ∷ t ∷ r) ∙ reads_binds bs m x n c (close q) (t ∷ r) f tt)

  pub reads_targets : (ts : Targets) (m : Module) (s : RuleSort) (a : Bool) (n : Name) (x : Option Name) (ps : List Param) (ss : List Pattern) (g : Option Expr) (ls : List LocalVar) (t : Mark) (r : List Mark) → TargetsFit b ts → Behind t.content
      → run b (AtTarget m (rule s a n x ps ss g ls [] None)) (targets_marks ts ++ (t ∷ r)) ≡ after (target_end m (rule s a n x ps ss g ls (targets ts) None) t.content) (t ∷ r) (λ u. run b u r)
  reads_targets (OneTarget y p z q c bs) m s a n x ps ss g ls t r f h = reads_list bs m (rule s a n x ps ss g ls [] None) y (class z c) t r f h
  reads_targets (MoreTargets ts v y p z q c bs) m s a n x ps ss g ls t r f h =
      let tail = called y ∷ sign p S.Colon ∷ called z ∷ sign q S.Bang ∷ called c ∷ list_marks bs in
      rw (append_assoc (targets_marks ts) (comma v ∷ tail) (t ∷ r))
      (reads_targets ts m s a n x ps ss g ls (comma v) (tail ++ (t ∷ r)) f.0 tt
      ∙ reads_list bs m (rule s a n x ps ss g ls (targets ts) None) y (class z c) t r f.1 h)

  mutual
    pub reads_stat : (s : WrittenStat) (k : Blocks) (zs : List Stat) (r : List Mark) → StatFits b s → NotElse r → run b (AtStat k zs) (stat_marks s ++ r) ≡ run b (AtStat k (zs ++ (stat s ∷ []))) r
    reads_stat (Eval e p) k zs r f h =
        rw (append_assoc (expression e) (sign p S.Semicolon ∷ []) r)
        (begins_stat b e k zs (sign p S.Semicolon ∷ r) f.1 f.0 ∙ reads_expr b e (ForStat k zs) (sign p S.Semicolon) r f.1 tt)
    reads_stat (Assign e p n q v t) k zs r f h =
        let last = sign t S.Semicolon ∷ [] in
        rw (append_assoc (expression e) (sign p S.Dot ∷ called n ∷ word q W.Gives ∷ (expression v ++ last)) r)
        (rw (append_assoc (expression v) last r)
        (begins_stat b e k zs (sign p S.Dot ∷ called n ∷ word q W.Gives ∷ (expression v ++ (sign t S.Semicolon ∷ r))) f.1 f.0
        ∙ reads_assigned b e k zs p n q (expression v ++ (sign t S.Semicolon ∷ r)) f.1
        ∙ reads_expr b v (ForAssigned k zs (tree_of e) n) (sign t S.Semicolon) r f.2 tt))
    reads_stat (If p q e s t ss u) k zs r f h =
        let last = closing_brace u ∷ [] in
        rw (append_assoc (expression e) (close s ∷ brace t ∷ (stats_marks ss ++ last)) r)
        (rw (append_assoc (stats_marks ss) last r)
        (reads_expr b e (ForCondition k zs) (close s) (brace t ∷ (stats_marks ss ++ (closing_brace u ∷ r))) f.0 tt
        ∙ reads_stats ss (InIf k zs (tree_of e)) (closing_brace u ∷ r) f.1 tt
        ∙ without_else b k zs (tree_of e) (stats ss) r h))
    reads_stat (IfElse p q e s t ss u v w ys x) k zs r f h =
        let last = closing_brace x ∷ [] in
        let other = closing_brace u ∷ sign v (S.End E.Else) ∷ brace w ∷ (stats_marks ys ++ last) in
        rw (append_assoc (expression e) (close s ∷ brace t ∷ (stats_marks ss ++ other)) r)
        (rw (append_assoc (stats_marks ss) other r)
        (rw (append_assoc (stats_marks ys) last r)
        (reads_expr b e (ForCondition k zs) (close s) (brace t ∷ (stats_marks ss ++ (closing_brace u ∷ sign v (S.End E.Else) ∷ brace w ∷ (stats_marks ys ++ (closing_brace x ∷ r))))) f.0 tt
        ∙ reads_stats ss (InIf k zs (tree_of e)) (closing_brace u ∷ sign v (S.End E.Else) ∷ brace w ∷ (stats_marks ys ++ (closing_brace x ∷ r))) f.1 tt
        ∙ reads_stats ys (InElse k zs (tree_of e) (stats ss)) (closing_brace x ∷ r) f.2 tt)))
    reads_stat (For p q n s e t u ss v) k zs r f h =
        let last = closing_brace v ∷ [] in
        rw (append_assoc (expression e) (close t ∷ brace u ∷ (stats_marks ss ++ last)) r)
        (rw (append_assoc (stats_marks ss) last r)
        (reads_expr b e (ForValues k zs n) (close t) (brace u ∷ (stats_marks ss ++ (closing_brace v ∷ r))) f.0 tt
        ∙ reads_stats ss (InFor k zs n (tree_of e)) (closing_brace v ∷ r) f.1 tt))

    pub reads_stats : (ss : Stats) (k : Blocks) (r : List Mark) → StatsFit b ss → NotElse r → run b (AtStat k []) (stats_marks ss ++ r) ≡ run b (AtStat k (stats ss)) r
    reads_stats NoStats k r f h = refl
    reads_stats (MoreStats ss s) k r f h =
        rw (append_assoc (stats_marks ss) (stat_marks s) r)
        (reads_stats ss k (stat_marks s ++ r) f.0 (stat_not_else s r f.1) ∙ reads_stat s k (stats ss) r f.1 h)

    pub stat_not_else : (s : WrittenStat) (r : List Mark) → StatFits b s → NotElse (stat_marks s ++ r)
    stat_not_else (Eval e p) r f = rw (append_assoc (expression e) (sign p S.Semicolon ∷ []) r) (expr_not_else b e (sign p S.Semicolon ∷ r) f.1)
    stat_not_else (Assign e p n q v t) r f =
        let tail = sign p S.Dot ∷ called n ∷ word q W.Gives ∷ (expression v ++ (sign t S.Semicolon ∷ [])) in
        rw (append_assoc (expression e) tail r) (expr_not_else b e (tail ++ r) f.1)
    stat_not_else (If p q e s t ss u) r f = tt
    stat_not_else (IfElse p q e s t ss u v w ys x) r f = tt
    stat_not_else (For p q n s e t u ss v) r f = tt

  -- do, and the end of a rule
  reads_block : (y : Block) (p : Place) (m : Module) (s : RuleSort) (a : Bool) (n : Name) (x : Option Name) (ps : List Param) (ss : List Pattern) (g : Option Expr) (ls : List LocalVar) (ts : List Target) (r : List Mark) → BlockFits b y
      → run b (AtTo m (rule s a n x ps ss g ls ts None)) (block_marks y ++ (closing_brace p ∷ r)) ≡ run b (AtItem (with_item m (I.Make (rule s a n x ps ss g ls ts (block y))))) r
  reads_block NoBlock p m s a n x ps ss g ls ts r f = refl
  reads_block (SomeBlock q t zs u) p m s a n x ps ss g ls ts r f =
      rw (append_assoc (stats_marks zs) (closing_brace u ∷ []) (closing_brace p ∷ r))
      (reads_stats zs (InDo m (rule s a n x ps ss g ls ts None)) (closing_brace u ∷ closing_brace p ∷ r) f tt)

  -- behind targets, as behind none
  behind_targets : (ts : Targets) (y : Block) (p : Place) (m : Module) (s : RuleSort) (a : Bool) (n : Name) (x : Option Name) (ps : List Param) (ss : List Pattern) (g : Option Expr) (ls : List LocalVar) (r : List Mark) → TargetsFit b ts
      → run b (AtTarget m (rule s a n x ps ss g ls [] None)) (targets_marks ts ++ (block_marks y ++ (closing_brace p ∷ r))) ≡ run b (AtTo m (rule s a n x ps ss g ls (targets ts) None)) (block_marks y ++ (closing_brace p ∷ r))
  behind_targets ts NoBlock p m s a n x ps ss g ls r f = reads_targets ts m s a n x ps ss g ls (closing_brace p) r f tt
  behind_targets ts (SomeBlock q t zs u) p m s a n x ps ss g ls r f = reads_targets ts m s a n x ps ss g ls (word q W.Do) (brace t ∷ ((stats_marks zs ++ (closing_brace u ∷ [])) ++ (closing_brace p ∷ r))) f tt

  reads_later : (t : To) (y : Block) (p : Place) (m : Module) (s : RuleSort) (a : Bool) (n : Name) (x : Option Name) (ps : List Param) (ss : List Pattern) (g : Option Expr) (ls : List LocalVar) (r : List Mark) → ToFits b t → BlockFits b y
      → run b (AtTo m (rule s a n x ps ss g ls [] None)) (later_marks t y p ++ r) ≡ run b (AtItem (with_item m (I.Make (rule s a n x ps ss g ls (to t) (block y))))) r
  reads_later NoTo y p m s a n x ps ss g ls r f h =
      rw (append_assoc (block_marks y) (closing_brace p ∷ []) r) (reads_block y p m s a n x ps ss g ls [] r h)
  reads_later (SomeTo q ts) y p m s a n x ps ss g ls r f h =
      rw (append_assoc (targets_marks ts) (block_marks y ++ (closing_brace p ∷ [])) r)
      (rw (append_assoc (block_marks y) (closing_brace p ∷ []) r)
      (behind_targets ts y p m s a n x ps ss g ls r f ∙ reads_block y p m s a n x ps ss g ls (targets ts) r h))

  reads_rest : (u : Using) (t : To) (y : Block) (p : Place) (m : Module) (s : RuleSort) (a : Bool) (n : Name) (x : Option Name) (ps : List Param) (ss : List Pattern) (g : Option Expr) (r : List Mark) → RestFits b u t y
      → run b (AtRest m (rule s a n x ps ss g [] [] None)) (rest_marks u t y p ++ r) ≡ run b (AtItem (with_item m (I.Make (rule s a n x ps ss g (using u) (to t) (block y))))) r
  reads_rest u t y p m s a n x ps ss g r f = reads_using u t y p m s a n x ps ss g r f.0 ∙ reads_later t y p m s a n x ps ss g (using u) r f.1 f.2

  reads_guard : (g : Guard) (lazy : Bool) (u : Using) (t : To) (y : Block) (p : Place) (m : Module) (s : RuleSort) (a : Bool) (n : Name) (x : Option Name) (ss : List Pattern) (r : List Mark) → (lazy ≡ false → s ≡ R.Matched) → GuardFits b lazy g
      → run b (AtSourceEnd m (rule s a n x [] ss None [] [] None)) (guard_marks g ++ (rest_marks u t y p ++ r)) ≡ run b (AtRest m (rule s a n x [] ss (guard g) [] [] None)) (rest_marks u t y p ++ r)
  reads_guard NoGuard lazy u t y p m s a n x ss r h f = reads_no_guard u t y p m (rule s a n x [] ss None [] [] None) r
  reads_guard (SomeGuard q e z) false u t y p m s a n x ss r h f =
      rw (append_assoc (expression e) (close z ∷ []) (rest_marks u t y p ++ r))
      (subst (λ v. run b (AtSourceEnd m (rule v a n x [] ss None [] [] None)) (sign q S.Open ∷ (expression e ++ (close z ∷ (rest_marks u t y p ++ r)))) ≡ run b (AtRest m (rule v a n x [] ss (Some (tree_of e)) [] [] None)) (rest_marks u t y p ++ r)) (sym (h refl))
      (reads_expr b e (ForGuard m (rule R.Matched a n x [] ss None [] [] None)) (close z) (rest_marks u t y p ++ r) f tt))
  reads_guard (SomeGuard q e z) true u t y p m s a n x ss r h f = absurd f

  pub reads_started : (x : Start) (ps : Bracketed) (p : Place) (n : Name) (m : Module) (r : List Mark) → StartFits x ps
      → run b (AtItem m) (start_marks x ++ (word p W.Rule ∷ called n ∷ (bracketed_marks ps ++ r))) ≡ run b (AtCalledBrace m (rule (start x) false n None (bracketed ps) [] None [] [] None)) r
  reads_started NoStart (NoParams q s) p n m r f = refl
  reads_started NoStart (SomeParams q ps s) p n m r f = rw (append_assoc (params_marks ps) (close s ∷ []) r) (reads_inside ps (OfRule m (bare R.Matched false n)) s r)
  reads_started (Entry e) (NoParams q s) p n m r f = refl
  reads_started (Entry e) (SomeParams q ps s) p n m r f = absurd f
  reads_started (End e) (NoParams q s) p n m r f = refl
  reads_started (End e) (SomeParams q ps s) p n m r f = absurd f

  reads_rule : (w : WrittenRule) (m : Module) (r : List Mark) → RuleFits b w → run b (AtItem m) (rule_marks w ++ r) ≡ run b (AtItem (with_item m (I.Make (rule_of w)))) r
  reads_rule (Matched ws p n x q t ss g u v y z) m r f =
      let s = sort_of (modifiers ws) in
      let a = (modifiers ws).is_abstract in
      let rest = rest_marks u v y z in
      let body = brace q ∷ word t W.From ∷ (sources_marks ss ++ (guard_marks g ++ rest)) in
      rw (append_assoc (words_marks ws) (word p W.Rule ∷ called n ∷ (parent_marks x ++ body)) r)
      (rw (append_assoc (parent_marks x) body r)
      (rw (append_assoc (sources_marks ss) (guard_marks g ++ rest) r)
      (rw (append_assoc (guard_marks g) rest r)
      (reads_rule_word ws p m (called n ∷ (parent_marks x ++ (brace q ∷ word t W.From ∷ (sources_marks ss ++ (guard_marks g ++ (rest ++ r)))))) f.0 f.1
      ∙ reads_parent ws x q m s a n (word t W.From ∷ (sources_marks ss ++ (guard_marks g ++ (rest ++ r))))
      ∙ reads_sources ss m s a n (parent x) (guard_marks g ++ (rest ++ r))
      ∙ reads_guard g (modifiers ws).is_lazy u v y z m s a n (parent x) (sources ss) r (matched_sort (modifiers ws).is_unique (modifiers ws).is_lazy f.1) f.2
      ∙ reads_rest u v y z m s a n (parent x) [] (sources ss) (guard g) r f.3))))
  reads_rule (Called x p n ps q u t y z) m r f =
      let rest = rest_marks u t y z in
      rw (append_assoc (start_marks x) (word p W.Rule ∷ called n ∷ (bracketed_marks ps ++ (brace q ∷ rest))) r)
      (rw (append_assoc (bracketed_marks ps) (brace q ∷ rest) r)
      (reads_started x ps p n m (brace q ∷ (rest ++ r)) f.0
      ∙ reads_rest u t y z m (start x) false n None (bracketed ps) [] None r f.1))

  pub reads_item : (i : WrittenItem) (m : Module) (r : List Mark) → ItemFits b i → run b (AtItem m) (item_marks i ++ r) ≡ run b (AtItem (with_item m (item i))) r
  reads_item (Help h) m r f = reads_helper h m r f
  reads_item (Make w) m r f = reads_rule w m r f

  pub reads_items : (is : Items) (n : Name) (ts ss : List ModelDecl) (r : List Mark) → ItemsFit b is → run b (AtItem (module_of n ts ss [])) (items_marks is ++ r) ≡ run b (AtItem (module_of n ts ss (items is))) r
  reads_items NoItems n ts ss r f = refl
  reads_items (MoreItems is i) n ts ss r f =
      rw (append_assoc (items_marks is) (item_marks i) r) (reads_items is n ts ss (item_marks i ++ r) f.0 ∙ reads_item i (module_of n ts ss (items is)) r f.1)

  reads_module : (w : WrittenModule) → ModuleFits b w → read b (module_marks w) ≡ Read (module_tree w)
  reads_module (Composed p n q r ts s ss t is) f =
      reads_targets_models ts n (word s W.From ∷ (models_marks ss ++ (sign t S.Semicolon ∷ items_marks is)))
      ∙ reads_sources_models ss n (models ts) (sign t S.Semicolon ∷ items_marks is)
      ∙ ap (run b (AtItem (module_of n (models ts) (models ss) []))) (sym (append-nil (items_marks is))) ∙ reads_items is n (models ts) (models ss) [] f

  -- a module's marks are read to its tree
  pub accepts : (ts : List Mark) (m : Module) → IsModule b ts m → read b ts ≡ Read m
  accepts ts m h = subst (λ l. read b l ≡ Read m) h.2 (reads_module h.0 h.1 ∙ ap (λ x. Read x) h.3)
