-- What is read as a rule was written.
use Rattle.std.proofs.Common.{◌≡◌, List, [], ◌∷◌, ◌++◌, refl, sym, ap, ◌∙◌, subst, append_assoc}
use Rattle.std.specs.Prelude.{Bool, true, false, Option, None, Some, if◌then◌else◌}
use Rattle.atl_base.specs.declared.place.Place.{Place}
use Rattle.atl_tree.specs.declared.name.Name.{Name}
use Rattle.atl_tree.specs.declared.name.ClassRef.{ClassRef}
use Rattle.atl_tree.specs.declared.kind.KindNode.{KindNode}
use Rattle.atl_tree.specs.declared.expr.Expr.{Expr}
use Rattle.atl_tree.specs.declared.expr.BinaryOp.TheVariants as O
use Rattle.atl_tree.specs.declared.module.Module.{Module}
use Rattle.atl_tree.specs.declared.module.Item.TheVariants as I
use Rattle.atl_tree.specs.declared.module.Rule.{Rule}
use Rattle.atl_tree.specs.declared.module.RuleSort.{RuleSort}
use Rattle.atl_tree.specs.declared.module.RuleSort.TheVariants as R
use Rattle.atl_tree.specs.declared.module.Target.{Target}
use Rattle.ocl_parse.specs.declared.sign.Ender.TheVariants as E
use Rattle.ocl_parse.specs.declared.sign.Sign.TheVariants as S
use Rattle.ocl_parse.specs.declared.symbol.Symbol.TheVariants as T
use Rattle.ocl_parse.specs.Grammar.{Written, tree_of, Kind, kind_of}
use Rattle.module_grammar.specs.declared.keyword.Keyword.TheVariants as W
use Rattle.module_grammar.specs.Marks.{Content, Word, Shared, Mark, mark, word, sign, called, expression, kind_marks}
use Rattle.module_grammar.specs.Parts.{with_item, class, pattern, local, target, bind, with_bind, rule, bare, with_parent, with_source, with_guard, with_local, with_target, Modifier, Abstract, Unique, Lazy, Modifiers, no_modifiers, has, with_modifier, may_stand, sort_of}
use Rattle.module_grammar.specs.Grammar.{NoParams, Words, NoWords, MoreWords, NoParent, Extends, Guard, NoGuard, SomeGuard, NoLocals, MoreLocals, Using, NoUsing, SomeUsing, Binds, BindList, NoList, EmptyList, SomeBinds, Targets, To, NoTo, SomeTo, Block, NoBlock, Entry, End, Make}
use Rattle.module_grammar.specs.Grammar.{bracketed_marks, words_marks, parent_marks, sources_marks, guard_marks, locals_marks, binds_marks, list_marks, to_marks, block_marks, start_marks, modifier}
use Rattle.module_grammar.specs.Grammar.{modifiers, parent, sources, guard, locals, using, binds, bind_list, targets, to, block}
use Rattle.module_grammar.specs.Grammar.{WordsFit, Whole, GuardFits, BindsFit, ListFits, TargetsFit, ToFits, BlockFits}
use Rattle.module_states.specs.Machine.{ForClass, ForSource, ForTarget, Form, Plain, Modified, Started, AtWord, AtRuleName, AtRuleOpen, AtParent, AtBrace, AtNoParams, AtCalledBrace, AtFrom, AtClassName, AtUsing, AtLocal, AtBinds, AtFirstBind, Goes, Refuses, modified, worded, at_word, at_item, rule_open, at_from, classed, at_do, at_to, at_rest, at_guard, source_end, at_local, target_end, at_binds, first_bind}
use Rattle.module_laws.proofs.Stands.{got, AllFit, Front, FromSources, FromParams, front_rule, finished, completed, finished_rule, finished_marks, finished_fits, Told, ModuleHead, RuleNameHead, MatchedHead, SourcesHead, CalledHead, RestHead, BeforeLocal, UsedHead, BeforeTo, TargetHead, BeforeBind, ToHead, TargetsRead, BlockHead, Stands, StepStands}
use Rattle.module_laws.proofs.Sound.{add_source, source_marks, source_trees, add_bind, bind_marks, bind_trees, add_target, target_marks, target_trees, front_plain, starts_alone, unlazy, guard_on, item_stands}

module _ (b : Bool) where
  matched_of : (m : Module) (s : RuleSort) (a : Bool) (n : Name) (rest all : List Mark) → RuleNameHead b m Plain s a (called n ∷ rest) all → MatchedHead b m s a n rest all
  matched_of m s a n rest all st = (NoWords, tt, refl, st.0, st.1, st.2, st.3)

  bare_of : (s : RuleSort) (a : Bool) (n : Name) (r : Rule) → R.Matched ≡ s → false ≡ a → bare s a n ≡ r → bare R.Matched false n ≡ r
  bare_of s a n r h k e = ap (λ u. bare u false n) h ∙ ap (λ u. bare s u n) k ∙ e

  pub rule_open_stands : (m : Module) (f : Form) (r : Rule) (t : Content) (p : Place) (rest all : List Mark) → Stands b (AtRuleOpen m f r) (mark p t ∷ rest) all → StepStands b rest all (rule_open m f r t)
  rule_open_stands m Plain r (Shared (T.Fixed S.Open)) p rest all st = let h = st.4 in (p, (st.2, bare_of st.0 st.1 st.2 r h.0 h.1 st.3, h.2, h.3))
  rule_open_stands m Plain r (Shared (T.Fixed S.OpenBrace)) p rest all st = (p, (st.0, st.1, st.2, NoParent, st.3, matched_of m st.0 st.1 st.2 (sign p S.OpenBrace ∷ rest) all st.4))
  rule_open_stands m Plain r (Word W.Extends) p rest all st = (st.0, st.1, st.2, st.3, p, matched_of m st.0 st.1 st.2 (word p W.Extends ∷ rest) all st.4)
  rule_open_stands m Modified r (Shared (T.Fixed S.OpenBrace)) p rest all st = (p, (st.0, st.1, st.2, NoParent, st.3, st.4))
  rule_open_stands m Modified r (Word W.Extends) p rest all st = (st.0, st.1, st.2, st.3, p, st.4)
  rule_open_stands m Started r (Shared (T.Fixed S.Open)) p rest all st = (p, st.0, st.1, st.2, st.3, st.4)
  rule_open_stands m f r t p rest all st = tt

  pub parent_stands : (m : Module) (r : Rule) (n : Name) (rest all : List Mark) → Stands b (AtParent m r) (called n ∷ rest) all → Stands b (AtBrace m (with_parent r n)) rest all
  parent_stands m r n rest all st = (st.0, st.1, st.2, Extends st.4 n, ap (λ x. with_parent x n) st.3, st.5)

  pub no_params_stands : (m : Module) (r : Rule) (p : Place) (rest all : List Mark) → Stands b (AtNoParams m r) (sign p (S.End E.Close) ∷ rest) all → Stands b (AtCalledBrace m r) rest all
  no_params_stands m r p rest all st =
      let h = st.5 in (h.0, st.3, h.4, NoParams st.0 p, starts_alone h.0 st.0 p, ap (λ u. bare u false st.3) h.2 ∙ ap (λ u. bare st.1 u st.3) h.3 ∙ st.4, h.5)

  pub called_stands : (m : Module) (r : Rule) (p : Place) (rest all : List Mark) → CalledHead b m r (sign p S.OpenBrace ∷ rest) all → RestHead b m r rest all
  called_stands m r p rest all st = (
    FromParams st.0 st.2 st.1 st.3 p,
    st.4,
    st.5,
    rw (append_assoc (start_marks st.0) (word st.2 W.Rule ∷ called st.1 ∷ (bracketed_marks st.3 ++ (sign p S.OpenBrace ∷ []))) rest) (rw (append_assoc (bracketed_marks st.3) (sign p S.OpenBrace ∷ []) rest) st.6),
  )

  pub from_stands : (m : Module) (r : Rule) (t : Content) (p : Place) (rest all : List Mark) → Stands b (AtFrom m r) (mark p t ∷ rest) all → StepStands b rest all (at_from m r t)
  from_stands m r (Word W.From) p rest all st = let h = st.1 in (h.0, h.1, h.2, parent h.3, None, h.4, (h.3, refl, st.0, p, h.5))
  from_stands m r t p rest all st = tt

  pub class_stands : (o : ForClass) (n c : Name) (rest all : List Mark) → Stands b (AtClassName o n) (called c ∷ rest) all → Stands b (classed o (class n c)) rest all
  class_stands (ForSource m r x) n c rest all st =
      let h = st.1 in
      let i = h.1 in (
        i.0,
        i.1,
        i.2,
        i.3,
        add_source i.4 x h.0 n st.0 c,
        ap (λ l. rule i.0 i.1 i.2 i.3 [] l None [] [] None) (source_trees i.4 x h.0 n st.0 c) ∙ ap (λ y. with_source y (pattern x (class n c))) i.5,
        rw (source_marks i.4 x h.0 n st.0 c rest) i.6,
      )
  class_stands (ForTarget m r x) n c rest all st = let h = st.1 in (x, class n c, refl, (h.0, n, st.0, c, refl, h.1))

  -- the rule up to its guard, or without one
  front_stands : (m : Module) (r : Rule) (g : Guard) (rest all : List Mark) → (st : SourcesHead b m r (guard_marks g ++ rest) all) → ((lazy : Bool) → (r.sort ≡ R.Matched → lazy ≡ false) → GuardFits b lazy g) → RestHead b m (guard_on r (guard g)) rest all
  front_stands m r g rest all st f =
      let h = st.6 in
      let i = h.4 in (
        FromSources i.0 i.5 st.2 h.0 h.2 h.3 st.4 g,
        (i.1, i.2, f (modifiers i.0).is_lazy (λ k. unlazy (modifiers i.0).is_unique (modifiers i.0).is_lazy (i.3 ∙ ap (λ x. x.sort) st.5 ∙ k))),
        ap (λ u. rule u (modifiers i.0).is_abstract st.2 (parent h.0) [] (sources st.4) (guard g) [] [] None) i.3
            ∙ ap (λ u. rule st.0 u st.2 (parent h.0) [] (sources st.4) (guard g) [] [] None) i.4
            ∙ ap (λ u. rule st.0 st.1 st.2 u [] (sources st.4) (guard g) [] [] None) h.1 ∙ ap (λ x. guard_on x (guard g)) st.5,
        rw (append_assoc (words_marks i.0) (word i.5 W.Rule ∷ called st.2 ∷ (parent_marks h.0 ++ (sign h.2 S.OpenBrace ∷ word h.3 W.From ∷ (sources_marks st.4 ++ guard_marks g)))) rest)
            (rw (append_assoc (parent_marks h.0) (sign h.2 S.OpenBrace ∷ word h.3 W.From ∷ (sources_marks st.4 ++ guard_marks g)) rest)
            (rw (append_assoc (sources_marks st.4) (guard_marks g) rest) i.6)),
      )

  unguarded : (m : Module) (r : Rule) (rest all : List Mark) → SourcesHead b m r rest all → RestHead b m r rest all
  unguarded m r rest all st =
      subst (λ x. RestHead b m x rest all) (sym (ap (λ x. guard_on x None) st.5) ∙ st.5) (front_stands m r NoGuard rest all st (λ lazy h. tt))

  pub guarded_stands : (m : Module) (r : Rule) (e : Expr) (x : Told b e) (q z : Place) (rest all : List Mark) → r.sort ≡ R.Matched → SourcesHead b m r (sign q S.Open ∷ (expression x.w ++ (sign z (S.End E.Close) ∷ rest))) all
      → RestHead b m (with_guard r e) rest all
  guarded_stands m r e x q z rest all h st =
      subst (λ u. RestHead b m (guard_on r (Some u)) rest all) x.tree (front_stands m r (SomeGuard q x.w z) rest all (rw (append_assoc (expression x.w) (sign z (S.End E.Close) ∷ []) rest) st) fits)
    where
      fits : (lazy : Bool) → (r.sort ≡ R.Matched → lazy ≡ false) → GuardFits b lazy (SomeGuard q x.w z)
      fits lazy k = subst (λ l. GuardFits b l (SomeGuard q x.w z)) (sym (k h)) x.fits

  rule_stands : (m : Module) (r : Rule) (f : Front) (u : Using) (t : To) (y : Block) (z : Place) (rest all : List Mark) → ToFits b t → BlockFits b y → completed (front_rule f) (using u) (to t) (block y) ≡ r
      → UsedHead b m f u (to_marks t ++ (block_marks y ++ (sign z (S.End E.CloseBrace) ∷ rest))) all → ModuleHead b (with_item m (I.Make r)) rest all
  rule_stands m r f u t y z rest all tf yf e st =
      item_stands b m (I.Make r) (Make (finished f u t y z)) rest all (finished_fits b f u t y z st.0 st.1 tf yf) (ap (λ x. I.Make x) (finished_rule f u t y z ∙ e)) (rw (finished_marks f u t y z rest) st.2)

  do_stands : (m : Module) (r : Rule) (t : Content) (p : Place) (rest all : List Mark) → ToHead b m r (mark p t ∷ rest) all → StepStands b rest all (at_do m r t)
  do_stands m r (Word W.Do) p rest all st = (p, st)
  do_stands m r (Shared (T.Fixed (S.End E.CloseBrace))) p rest all st = rule_stands m r st.0 st.1 st.2 NoBlock p rest all st.3 tt st.4 st.5
  do_stands m r t p rest all st = tt

  pub to_stands : (m : Module) (r : Rule) (t : Content) (p : Place) (rest all : List Mark) → BeforeTo b m r (mark p t ∷ rest) all → StepStands b rest all (at_to m r t)
  to_stands m r (Word W.To) p rest all st = (st.0, st.1, p, None, tt, st.2, st.3)
  to_stands m r t p rest all st = do_stands m r t p rest all (st.0, st.1, NoTo, tt, st.2, st.3)

  pub rest_stands : (m : Module) (r : Rule) (t : Content) (p : Place) (rest all : List Mark) → RestHead b m r (mark p t ∷ rest) all → StepStands b rest all (at_rest m r t)
  rest_stands m r (Word W.Using) p rest all st = (p, st)
  rest_stands m r t p rest all st = to_stands m r t p rest all (st.0, NoUsing, front_plain st.0 ∙ st.2, (st.1, tt, st.3))

  guard_opens : (m : Module) (r : Rule) (s : RuleSort) (p : Place) (rest all : List Mark) → r.sort ≡ s → SourcesHead b m r (sign p S.Open ∷ rest) all → StepStands b rest all (at_guard m r s)
  guard_opens m r R.Matched p rest all h st = ([], (λ l. refl), tt, tt, (p, h, st))
  guard_opens m r s p rest all h st = tt

  pub source_end_stands : (m : Module) (r : Rule) (t : Content) (p : Place) (rest all : List Mark) → SourcesHead b m r (mark p t ∷ rest) all → StepStands b rest all (source_end m r t)
  source_end_stands m r (Shared (T.Fixed (S.End E.Comma))) p rest all st = (st.0, st.1, st.2, st.3, Some (st.4, p), st.5, st.6)
  source_end_stands m r (Shared (T.Fixed S.Open)) p rest all st = guard_opens m r r.sort p rest all refl st
  source_end_stands m r t p rest all st = rest_stands m r t p rest all (unguarded m r (mark p t ∷ rest) all st)

  pub using_stands : (m : Module) (r : Rule) (p : Place) (rest all : List Mark) → Stands b (AtUsing m r) (sign p S.OpenBrace ∷ rest) all → Stands b (AtLocal m r) rest all
  using_stands m r p rest all st = let h = st.1 in (h.0, h.1, st.0, p, NoLocals, tt, front_plain h.0 ∙ h.2, h.3)

  pub local_stands : (m : Module) (r : Rule) (t : Content) (p : Place) (rest all : List Mark) → BeforeLocal b m r (mark p t ∷ rest) all → StepStands b rest all (at_local m r t p)
  local_stands m r (Shared (T.Fixed (S.End E.CloseBrace))) p rest all st =
      (st.0, SomeUsing st.2 st.3 st.4 p, st.6, (st.1, st.5, rw (append_assoc (locals_marks st.4) (sign p (S.End E.CloseBrace) ∷ []) rest) st.7))
  local_stands m r (Shared (T.Name s)) p rest all st = st
  local_stands m r t p rest all st = tt

  pub local_added : (m : Module) (r : Rule) (n : Name) (k : KindNode) (e : Expr) (x : Told b e) (p : Place) (h : Kind) (u z : Place) (rest all : List Mark) → kind_of h ≡ k
      → BeforeLocal b m r (called n ∷ sign p S.Colon ∷ (kind_marks h ++ (sign u (S.Operator O.Eq) ∷ (expression x.w ++ (sign z S.Semicolon ∷ rest))))) all → BeforeLocal b m (with_local r (local n k e)) rest all
  local_added m r n k e x p h u z rest all g st =
      let end = sign z S.Semicolon ∷ [] in
      let value = sign u (S.Operator O.Eq) ∷ (expression x.w ++ end) in (
        st.0,
        st.1,
        st.2,
        st.3,
        MoreLocals st.4 n p h u x.w z,
        (st.5, x.fits),
        ap (λ v. completed (front_rule st.0) (locals st.4 ++ (local n v (tree_of x.w) ∷ [])) [] None) g ∙ ap (λ v. completed (front_rule st.0) (locals st.4 ++ (local n k v ∷ [])) [] None) x.tree
            ∙ ap (λ y. with_local y (local n k e)) st.6,
        rw (append_assoc (locals_marks st.4) (called n ∷ sign p S.Colon ∷ (kind_marks h ++ value)) rest) (rw (append_assoc (kind_marks h) value rest) (rw (append_assoc (expression x.w) end rest) st.7)),
      )

  target_added : (m : Module) (r : Rule) (x : Target) (bs : BindList) (n : Name) (c : ClassRef) (rest all : List Mark) → ListFits b bs → target n c (bind_list bs) ≡ x → TargetHead b m r n c (list_marks bs ++ rest) all
      → TargetsRead b m (with_target r x) rest all
  target_added m r x bs n c rest all f e st =
      let h = st.5 in (
        h.0,
        h.1,
        h.2,
        add_target h.3 n st.0 st.1 st.2 st.3 bs,
        fits h.3 h.4,
        ap (λ l. completed (front_rule h.0) (using h.1) l None) (target_trees h.3 n st.0 st.1 st.2 st.3 bs)
            ∙ ap (λ v. completed (front_rule h.0) (using h.1) (got targets h.3 ++ (target n v (bind_list bs) ∷ [])) None) st.4
            ∙ ap (λ v. completed (front_rule h.0) (using h.1) (got targets h.3 ++ (v ∷ [])) None) e ∙ ap (λ y. with_target y x) h.5,
        rw (target_marks h.3 n st.0 st.1 st.2 st.3 bs rest) h.6,
      )
    where
      fits : (o : Option (Targets × Place)) → AllFit (TargetsFit b) o → TargetsFit b (add_target o n st.0 st.1 st.2 st.3 bs)
      fits None g = f
      fits (Some y) g = (g, f)

  pub target_end_stands : (m : Module) (r : Rule) (t : Content) (p : Place) (rest all : List Mark) → TargetsRead b m r (mark p t ∷ rest) all → StepStands b rest all (target_end m r t)
  target_end_stands m r (Shared (T.Fixed (S.End E.Comma))) p rest all st = (st.0, st.1, st.2, Some (st.3, p), st.4, st.5, st.6)
  target_end_stands m r t p rest all st = do_stands m r t p rest all (st.0, st.1, SomeTo st.2 st.3, st.4, st.5, st.6)

  pub binds_stands : (m : Module) (r : Rule) (x : Target) (t : Content) (p : Place) (rest all : List Mark) → Stands b (AtBinds m r x) (mark p t ∷ rest) all → StepStands b rest all (at_binds m r x t)
  binds_stands m r x (Shared (T.Fixed S.Open)) p rest all st = (st.0, st.1, p, st.2, st.3)
  binds_stands m r x t p rest all st = target_end_stands m (with_target r x) t p rest all (target_added m r x NoList st.0 st.1 (mark p t ∷ rest) all tt st.2 st.3)

  pub first_bind_stands : (m : Module) (r : Rule) (x : Target) (t : Content) (p : Place) (rest all : List Mark) → Stands b (AtFirstBind m r x) (mark p t ∷ rest) all → StepStands b rest all (first_bind m r x t p)
  first_bind_stands m r x (Shared (T.Fixed (S.End E.Close))) p rest all st = target_added m r x (EmptyList st.2 p) st.0 st.1 rest all tt st.3 st.4
  first_bind_stands m r x (Shared (T.Name s)) p rest all st = (st.0, st.1, st.2, None, tt, st.3, st.4)
  first_bind_stands m r x t p rest all st = tt

  bind_fits : (o : Option (Binds × Place)) (n : Name) (p : Place) (w : Written) → AllFit (BindsFit b) o → Whole b w → BindsFit b (add_bind o n p w)
  bind_fits None n p w g f = f
  bind_fits (Some y) n p w g f = (g, f)

  bind_tree : (x : Target) (n : Name) (e : Expr) (k : Told b e) (p : Place) (z : Name) (c : ClassRef) (o : Option (Binds × Place)) → target z c (got binds o) ≡ x → target z c (binds (add_bind o n p k.w)) ≡ with_bind x (bind n e)
  bind_tree x n e k p z c o h = ap (λ l. target z c l) (bind_trees o n p k.w) ∙ ap (λ u. target z c (got binds o ++ (bind n u ∷ []))) k.tree ∙ ap (λ y. with_bind y (bind n e)) h

  pub bind_next : (m : Module) (r : Rule) (x : Target) (n : Name) (e : Expr) (k : Told b e) (p z : Place) (rest all : List Mark) → BeforeBind b m r x (called n ∷ word p W.Gives ∷ (expression k.w ++ (sign z (S.End E.Comma) ∷ rest))) all
      → BeforeBind b m r (with_bind x (bind n e)) rest all
  bind_next m r x n e k p z rest all st =
      (st.0, st.1, st.2, Some (add_bind st.3 n p k.w, z), bind_fits st.3 n p k.w st.4 k.fits, bind_tree x n e k p st.0 st.1 st.3 st.5, rw (bind_marks st.3 n p k.w (sign z (S.End E.Comma) ∷ rest)) st.6)

  pub bind_last : (m : Module) (r : Rule) (x : Target) (n : Name) (e : Expr) (k : Told b e) (p z : Place) (rest all : List Mark) → BeforeBind b m r x (called n ∷ word p W.Gives ∷ (expression k.w ++ (sign z (S.End E.Close) ∷ rest))) all
      → TargetsRead b m (with_target r (with_bind x (bind n e))) rest all
  bind_last m r x n e k p z rest all st =
      let bs = add_bind st.3 n p k.w in
      target_added m r (with_bind x (bind n e)) (SomeBinds st.2 bs z) st.0 st.1 rest all (bind_fits st.3 n p k.w st.4 k.fits) (bind_tree x n e k p st.0 st.1 st.3 st.5)
      (rw (append_assoc (binds_marks bs) (sign z (S.End E.Close) ∷ []) rest) (rw (bind_marks st.3 n p k.w (sign z (S.End E.Close) ∷ rest)) st.6))

  pub rule_end_stands : (m : Module) (r : Rule) (z : Place) (rest all : List Mark) → BlockHead b m r (sign z (S.End E.CloseBrace) ∷ rest) all → ModuleHead b (with_item m (I.Make r)) rest all
  rule_end_stands m r z rest all st = rule_stands m r st.0 st.1 st.2 st.4 z rest all st.3 st.5 st.6 st.7

  modified_stands : (m : Module) (ws : Modifiers) (w : Modifier) (x : Words) (p : Place) (rest all : List Mark) → WordsFit x → modifiers x ≡ ws → ModuleHead b m (words_marks x ++ (modifier p w ∷ rest)) all → StepStands b rest all (modified m ws w)
  modified_stands m ws w x p rest all f e st = on (has ws w) refl
    where
      on : (t : Bool) → has ws w ≡ t → StepStands b rest all (if t then Refuses else Goes (AtWord m (with_modifier ws w)))
      on true h = tt
      on false h = (MoreWords x p w, (f, ap (λ y. has y w) e ∙ h), ap (λ y. with_modifier y w) e, rw (append_assoc (words_marks x) (modifier p w ∷ []) rest) st)

  worded_stands : (m : Module) (ws : Modifiers) (x : Words) (p : Place) (rest all : List Mark) → WordsFit x → modifiers x ≡ ws → ModuleHead b m (words_marks x ++ (word p W.Rule ∷ rest)) all → StepStands b rest all (worded m ws)
  worded_stands m ws x p rest all f e st = on (may_stand ws) refl
    where
      on : (t : Bool) → may_stand ws ≡ t → StepStands b rest all (if t then Goes (AtRuleName m Modified (sort_of ws) ws.is_abstract) else Refuses)
      on true h = (x, f, ap may_stand e ∙ h, ap sort_of e, ap (λ y. y.is_abstract) e, p, st)
      on false h = tt

  pub word_stands : (m : Module) (ws : Modifiers) (t : Content) (p : Place) (rest all : List Mark) → Stands b (AtWord m ws) (mark p t ∷ rest) all → StepStands b rest all (at_word m ws t)
  word_stands m ws (Word W.Abstract) p rest all st = modified_stands m ws Abstract st.0 p rest all st.1 st.2 st.3
  word_stands m ws (Word W.Unique) p rest all st = modified_stands m ws Unique st.0 p rest all st.1 st.2 st.3
  word_stands m ws (Word W.Lazy) p rest all st = modified_stands m ws Lazy st.0 p rest all st.1 st.2 st.3
  word_stands m ws (Word W.Rule) p rest all st = worded_stands m ws st.0 p rest all st.1 st.2 st.3
  word_stands m ws t p rest all st = tt

  pub item_begins : (m : Module) (t : Content) (p : Place) (rest all : List Mark) → ModuleHead b m (mark p t ∷ rest) all → StepStands b rest all (at_item m t)
  item_begins m (Word W.Helper) p rest all st = (p, st)
  item_begins m (Word W.Abstract) p rest all st = modified_stands m no_modifiers Abstract NoWords p rest all tt refl st
  item_begins m (Word W.Unique) p rest all st = modified_stands m no_modifiers Unique NoWords p rest all tt refl st
  item_begins m (Word W.Lazy) p rest all st = modified_stands m no_modifiers Lazy NoWords p rest all tt refl st
  item_begins m (Word W.Rule) p rest all st = (refl, refl, p, st)
  item_begins m (Word W.Entrypoint) p rest all st = (Entry p, tt, refl, st)
  item_begins m (Word W.Endpoint) p rest all st = (End p, tt, refl, st)
  item_begins m t p rest all st = tt

  pub named_stands : (m : Module) (f : Form) (s : RuleSort) (a : Bool) (n : Name) (rest all : List Mark) → RuleNameHead b m f s a (called n ∷ rest) all → Stands b (AtRuleOpen m f (bare s a n)) rest all
  named_stands m f s a n rest all st = (s, a, n, refl, st)
