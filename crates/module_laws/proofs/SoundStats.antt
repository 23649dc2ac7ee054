-- What is read as a statement was written, and so is a whole module.
use Rattle.std.proofs.Common.{◌≡◌, List, [], ◌∷◌, ◌++◌, refl, sym, ap, ◌∙◌, subst, append_assoc}
use Rattle.std.proofs.lemmas.List.{append-nil, append_cancel_right, map-append}
use Rattle.std.specs.Prelude.{Bool, true, false, Option, None, Some, map, if◌then◌else◌}
use Rattle.atl_base.specs.declared.place.Place.{Place}
use Rattle.atl_tree.specs.declared.name.Name.{Name}
use Rattle.atl_tree.specs.declared.kind.KindNode.{KindNode}
use Rattle.atl_tree.specs.declared.expr.Expr.{Expr}
use Rattle.atl_tree.specs.declared.expr.BinaryOp.TheVariants as O
use Rattle.atl_tree.specs.declared.module.Module.{Module}
use Rattle.atl_tree.specs.declared.module.Item.TheVariants as I
use Rattle.atl_tree.specs.declared.module.Param.{Param}
use Rattle.atl_tree.specs.declared.module.Stat.{Stat}
use Rattle.ocl_parse.specs.declared.sign.Ender.TheVariants as E
use Rattle.ocl_parse.specs.declared.sign.Sign.TheVariants as S
use Rattle.ocl_parse.specs.declared.frame.Frame.{Frame}
use Rattle.ocl_parse.specs.declared.frame.Frame.TheVariants as F
use Rattle.ocl_parse.specs.declared.frame.Next.{Next}
use Rattle.ocl_parse.specs.declared.frame.Next.TheVariants as N
use Rattle.ocl_parse.specs.Symbols.{Lexeme}
use Rattle.ocl_parse.specs.declared.symbol.Symbol.TheVariants as T
use Rattle.ocl_parse.specs.declared.symbol.Symbol.{Symbol}
use Rattle.ocl_parse.specs.Symbols.{lexeme}
use Rattle.ocl_parse.specs.Trees.{name, variable}
use Rattle.ocl_parse.specs.Grammar.{fixed, named, Written, spelt, tree_of, kind_of}
use Rattle.ocl_parse.proofs.Sound.{Stands as StandsInside}
use Rattle.module_grammar.specs.declared.keyword.Keyword.{Keyword}
use Rattle.module_grammar.specs.declared.keyword.Keyword.TheVariants as W
use Rattle.atl_tree.specs.declared.module.Stat.TheVariants as A
use Rattle.module_grammar.specs.Marks.{Content, Word, Shared, Mark, mark, word, sign, called, shared, expression, kind_marks}
use Rattle.module_grammar.specs.Parts.{with_item, helper, with_block}
use Rattle.module_grammar.specs.Grammar.{NoParams, NoContext, Attribute, Define, WrittenStat, Eval, Assign, If, IfElse, For, NoStats, MoreStats, SomeBlock, Help}
use Rattle.module_grammar.specs.Grammar.{context_marks, signature_marks, stat_marks, stats_marks, module_marks}
use Rattle.module_grammar.specs.Grammar.{signature, using, to, stat, stats}
use Rattle.module_grammar.specs.Grammar.{begins_if, Whole, StatFits, IsModule}
use Rattle.module_states.specs.Machine.{Blocks, InDo, InIf, InElse, InFor, ForExpr, ForBody, ForGuard, ForLocal, ForBind, ForStat, ForAssigned, ForCondition, ForValues, State, AtStart, AtModuleName, AtModuleEnd, AtCreate, AtModel, AtModelColon, AtMeta, AtModelEnd, AtItem, AtHelper, AtContext, AtDefColon, AtHelperName, AtSignature, AtResultColon, AtFirstParam, AtParam, AtParamColon, InKind, InExpr, AtWord, AtRule, AtRuleName, AtRuleOpen, AtParent, AtBrace, AtNoParams, AtCalledBrace, AtFrom, AtSource, AtSourceColon, AtClass, AtBang, AtClassName, AtSourceEnd, AtRest, AtUsing, AtLocal, AtLocalColon, AtTo, AtTarget, AtTargetColon, AtBinds, AtFirstBind, AtBind, AtGives, AtTargetEnd, AtDo, AtRuleEnd, AtStat, AtIf, AtIfBrace, AtElse, AtElseBrace, AtFor, AtForName, AtForIn, AtForBrace, Step, Goes, Refuses, TooDeep, block_end, expr_end, whole, expr_goes, in_expr, at_stat, at_if, at_else, step, End as EndRead, Read, too_deep, finish, after, run}
use Rattle.module_laws.proofs.Stands.{front_rule, completed, Told, ModuleHead, InBlock, ElseHead, ExprHead, Begun, Stands, StepStands}
use Rattle.ocl_parse.specs.Depth.{deep, is_shallow}
use Rattle.ocl_parse.specs.Machine.{step as step_inside, last as last_inside, over, after as after_inside, run as run_inside, Step as StepInside, Goes as GoesInside, Stops as StopsInside, Refuses as RefusesInside, TooDeep as TooDeepInside, End as EndInside, Read as ReadInside, Expected as ExpectedInside, Deep as DeepInside}
use Rattle.ocl_parse.proofs.Accepts.{admits_dot}
use Rattle.ocl_parse.proofs.Ordered.{InOrder, StepInOrder, step_ordered}
use Rattle.ocl_parse.proofs.Sound.{ReadOf as ReadOfInside, step_stands as step_stands_inside, StepStands as StepStandsInside, over_stands, sound as sound_inside}
use Rattle.ocl_parse.proofs.Fine.{over_any}
use Rattle.module_laws.proofs.Inside.{over_rest, rest_of}
use Rattle.module_laws.proofs.Statements.{shallow}
use Rattle.module_laws.proofs.Sound.{item_stands, with_all_stands, declared_stands, model_end_stands, in_kind_stands, context_stands}
use Rattle.module_laws.proofs.SoundRules.{rule_open_stands, parent_stands, no_params_stands, called_stands, from_stands, class_stands, guarded_stands, to_stands, rest_stands, source_end_stands, using_stands, local_stands, local_added, target_end_stands, binds_stands, first_bind_stands, bind_next, bind_last, rule_end_stands, word_stands, item_begins, named_stands}

-- a keyword of modules goes on with no expression
abbrev NotGoes : StepInside → Type 0
NotGoes (GoesInside gs m) = ⊥
NotGoes u = Unit {0}

-- what the statement form of `if` does not begin with
abbrev NotIf : Symbol → Type 0
NotIf (T.Fixed S.If) = ⊥
NotIf s = Unit {0}

abbrev NotOpen : Symbol → Type 0
NotOpen (T.Fixed S.Open) = ⊥
NotOpen s = Unit {0}

not_if : (s : Symbol) (p : Place) (more : List Lexeme) → NotIf s → begins_if (lexeme p s ∷ more) ≡ false
not_if s p [] h = refl
not_if s p (u ∷ more) h = on s h
  where
    on : (s : Symbol) → NotIf s → begins_if (lexeme p s ∷ u ∷ more) ≡ false
    on (T.Fixed S.If) h = absurd h
    on s h = refl

not_open : (q : Place) (s : Symbol) (p : Place) (more : List Lexeme) → NotOpen s → begins_if (fixed q S.If ∷ lexeme p s ∷ more) ≡ false
not_open q (T.Fixed S.Open) p more h = absurd h
not_open q s p more h = refl

begins_front : (xs ys : List Lexeme) → begins_if (xs ++ ys) ≡ false → begins_if xs ≡ false
begins_front [] ys h = refl
begins_front (x ∷ []) ys h = refl
begins_front (x ∷ y ∷ xs) ys h = h

-- what is asked of an expression that is over
abbrev Settled : ForExpr → List Lexeme → Type 0
Settled (ForStat k ss) l = begins_if l ≡ false
Settled o l = Unit {0}

marks_more : (front : List Lexeme) (x : Lexeme) (rest : List Mark) → map shared (front ++ (x ∷ [])) ++ rest ≡ map shared front ++ (shared x ∷ rest)
marks_more front x rest = ap (λ l. l ++ rest) (map-append shared front (x ∷ [])) ∙ append_assoc (map shared front) (shared x ∷ []) rest

module _ (b : Bool) where
  abbrev NextBegun : ForExpr → List Lexeme → Content → Place → Type 0
  NextBegun o front (Word k) p = Unit {0}
  NextBegun o front (Shared s) p = Begun b o (front ++ (lexeme p s ∷ []))

  settled : (o : ForExpr) (front : List Lexeme) → Begun b o front → Settled o front
  settled (ForStat k ss) [] h = absurd h
  settled (ForStat k ss) (x ∷ xs) h = begins_front (x ∷ xs) [] (h [])
  settled (ForBody m c n ps k) front h = tt
  settled (ForGuard m r) front h = tt
  settled (ForLocal m r n k) front h = tt
  settled (ForBind m r x n) front h = tt
  settled (ForAssigned k ss e n) front h = tt
  settled (ForCondition k ss) front h = tt
  settled (ForValues k ss n) front h = tt

  -- once begun, it stays so
  begun_more : (o : ForExpr) (x : Lexeme) (xs : List Lexeme) (t : Content) (p : Place) → Begun b o (x ∷ xs) → NextBegun o (x ∷ xs) t p
  begun_more o x xs (Word k) p h = tt
  begun_more (ForStat k ss) x xs (Shared s) p h = λ more. ap begins_if (append_assoc (x ∷ xs) (lexeme p s ∷ []) more) ∙ h (lexeme p s ∷ more)
  begun_more (ForBody m c n ps k) x xs (Shared s) p h = tt
  begun_more (ForGuard m r) x xs (Shared s) p h = tt
  begun_more (ForLocal m r n k) x xs (Shared s) p h = tt
  begun_more (ForBind m r y n) x xs (Shared s) p h = tt
  begun_more (ForAssigned k ss e n) x xs (Shared s) p h = tt
  begun_more (ForCondition k ss) x xs (Shared s) p h = tt
  begun_more (ForValues k ss n) x xs (Shared s) p h = tt

  other_stays : (fs : List Frame) (n : Next) (p : Place) → NotGoes (step_inside b fs n (T.Fixed S.Other) p)
  other_stays fs (N.First c n) p = on (is_shallow b (deep (F.Arguments c [] ∷ fs)))
    where
      on : (t : Bool) → NotGoes (if t then StopsInside (F.Arguments c [] ∷ fs) (variable n) else TooDeepInside n.place)
      on true = tt
      on false = tt
  other_stays fs n p = tt

  -- statements

  stat_added : (k : Blocks) (ss : List Stat) (s : WrittenStat) (a : Stat) (rest all : List Mark) → StatFits b s → stat s ≡ a → InBlock b k ss (stat_marks s ++ rest) all → InBlock b k (ss ++ (a ∷ [])) rest all
  stat_added k ss s a rest all f e st =
      (MoreStats st.0 s, (st.1, f), ap (λ l. l ++ (stat s ∷ [])) st.2 ∙ ap (λ u. ss ++ (u ∷ [])) e, rw (append_assoc (stats_marks st.0) (stat_marks s) rest) st.3)

  block_end_stands : (k : Blocks) (ss : List Stat) (z : Place) (rest all : List Mark) → InBlock b k ss (sign z (S.End E.CloseBrace) ∷ rest) all → Stands b (block_end k ss) rest all
  block_end_stands (InDo m r) ss z rest all st =
      let h = st.3 in
      let i = h.2 in (
        i.0,
        i.1,
        i.2,
        i.3,
        SomeBlock h.0 h.1 st.0 z,
        st.1,
        ap (λ l. completed (front_rule i.0) (using i.1) (to i.2) (Some l)) st.2 ∙ ap (λ x. with_block x ss) i.4,
        (i.5.0, i.5.1, rw (append_assoc (stats_marks st.0) (sign z (S.End E.CloseBrace) ∷ []) rest) i.5.2),
      )
  block_end_stands (InIf k zs e) ss z rest all st = let h = st.3 in (h.0, h.1, h.2, h.3, h.4, st.0, st.1, st.2, z, h.5)
  block_end_stands (InElse k zs e ts) ss z rest all st =
      let h = st.3 in
      let x = h.0 in
      let last = sign z (S.End E.CloseBrace) ∷ [] in
      let other = sign h.8 (S.End E.CloseBrace) ∷ sign h.9 (S.End E.Else) ∷ sign h.10 S.OpenBrace ∷ (stats_marks st.0 ++ last) in
      stat_added k zs (IfElse h.1 h.2 x.w h.3 h.4 h.5 h.8 h.9 h.10 st.0 z) (A.If e ts (Some ss)) rest all (x.fits, h.6, st.1)
      (ap (λ u. A.If u (stats h.5) (Some (stats st.0))) x.tree ∙ ap (λ u. A.If e u (Some (stats st.0))) h.7 ∙ ap (λ u. A.If e ts (Some u)) st.2)
      (rw (append_assoc (expression x.w) (sign h.3 (S.End E.Close) ∷ sign h.4 S.OpenBrace ∷ (stats_marks h.5 ++ other)) rest)
      (rw (append_assoc (stats_marks h.5) other rest)
      (rw (append_assoc (stats_marks st.0) last rest) h.11)))
  block_end_stands (InFor k zs n e) ss z rest all st =
      let h = st.3 in
      let x = h.0 in
      let last = sign z (S.End E.CloseBrace) ∷ [] in
      stat_added k zs (For h.1 h.2 n h.3 x.w h.4 h.5 st.0 z) (A.For n e ss) rest all (x.fits, st.1)
      (ap (λ u. A.For n u (stats st.0)) x.tree ∙ ap (λ u. A.For n e u) st.2)
      (rw (append_assoc (expression x.w) (sign h.4 (S.End E.Close) ∷ sign h.5 S.OpenBrace ∷ (stats_marks st.0 ++ last)) rest) (rw (append_assoc (stats_marks st.0) last rest) h.6))

  without_else_stands : (k : Blocks) (zs : List Stat) (e : Expr) (ts : List Stat) (rest all : List Mark) → ElseHead b k zs e ts rest all → InBlock b k (zs ++ (A.If e ts None ∷ [])) rest all
  without_else_stands k zs e ts rest all st =
      let x = st.0 in
      let last = sign st.8 (S.End E.CloseBrace) ∷ [] in
      stat_added k zs (If st.1 st.2 x.w st.3 st.4 st.5 st.8) (A.If e ts None) rest all (x.fits, st.6)
      (ap (λ u. A.If u (stats st.5) None) x.tree ∙ ap (λ u. A.If e u None) st.7)
      (rw (append_assoc (expression x.w) (sign st.3 (S.End E.Close) ∷ sign st.4 S.OpenBrace ∷ (stats_marks st.5 ++ last)) rest) (rw (append_assoc (stats_marks st.5) last rest) st.9))

  -- the mark behind an expression

  body_stands : (m : Module) (c : Option KindNode) (n : Name) (ps : Option (List Param)) (k : KindNode) (e : Expr) (x : Told b e) (z : Place) (rest all : List Mark) → ExprHead b (ForBody m c n ps k) (expression x.w ++ (sign z S.Semicolon ∷ rest)) all
      → ModuleHead b (with_item m (I.Help (helper c n ps k e))) rest all
  body_stands m c n ps k e x z rest all st =
      let sg = st.4 in
      let nm = sg.2 in
      let hd = nm.2 in
      let last = sign z S.Semicolon ∷ [] in
      let body = sign st.3 (S.Operator O.Eq) ∷ (expression x.w ++ last) in
      let result = sign st.0 S.Colon ∷ (kind_marks st.1 ++ body) in
      item_stands b m (I.Help (helper c n ps k e)) (Help (Define hd.0 hd.1 nm.0 nm.1 n sg.0 st.0 st.1 st.3 x.w z)) rest all (hd.2, x.fits)
      (ap (λ u. I.Help (helper u n (signature sg.0) (kind_of st.1) (tree_of x.w))) hd.3 ∙ ap (λ u. I.Help (helper c n u (kind_of st.1) (tree_of x.w))) sg.1
      ∙ ap (λ u. I.Help (helper c n ps u (tree_of x.w))) st.2 ∙ ap (λ u. I.Help (helper c n ps k u)) x.tree)
      (rw (append_assoc (context_marks hd.1) (word nm.0 W.Def ∷ sign nm.1 S.Colon ∷ called n ∷ (signature_marks sg.0 ++ result)) rest)
      (rw (append_assoc (signature_marks sg.0) result rest)
      (rw (append_assoc (kind_marks st.1) body rest)
      (rw (append_assoc (expression x.w) last rest) hd.4))))

  expr_end_stands : (o : ForExpr) (e : Expr) (x : Told b e) (t : Content) (p : Place) (rest all : List Mark) → Settled o (spelt x.w) → ExprHead b o (expression x.w ++ (mark p t ∷ rest)) all → StepStands b rest all (expr_end o e t)
  expr_end_stands (ForBody m c n ps k) e x (Shared (T.Fixed S.Semicolon)) p rest all g st = body_stands m c n ps k e x p rest all st
  expr_end_stands (ForBody m c n ps k) e x t p rest all g st = tt
  expr_end_stands (ForGuard m r) e x (Shared (T.Fixed (S.End E.Close))) p rest all g st = guarded_stands b m r e x st.0 p rest all st.1 st.2
  expr_end_stands (ForGuard m r) e x t p rest all g st = tt
  expr_end_stands (ForLocal m r n k) e x (Shared (T.Fixed S.Semicolon)) p rest all g st = local_added b m r n k e x st.0 st.1 st.3 p rest all st.2 st.4
  expr_end_stands (ForLocal m r n k) e x t p rest all g st = tt
  expr_end_stands (ForBind m r y n) e x (Shared (T.Fixed (S.End E.Comma))) p rest all g st = bind_next b m r y n e x st.0 p rest all st.1
  expr_end_stands (ForBind m r y n) e x (Shared (T.Fixed (S.End E.Close))) p rest all g st = bind_last b m r y n e x st.0 p rest all st.1
  expr_end_stands (ForBind m r y n) e x t p rest all g st = tt
  expr_end_stands (ForStat k ss) e x (Shared (T.Fixed S.Semicolon)) p rest all g st =
      stat_added k ss (Eval x.w p) (A.Eval e) rest all (g, x.fits) (ap (λ u. A.Eval u) x.tree) (rw (append_assoc (expression x.w) (sign p S.Semicolon ∷ []) rest) st)
  expr_end_stands (ForStat k ss) e x t p rest all g st = tt
  expr_end_stands (ForAssigned k ss a n) e x (Shared (T.Fixed S.Semicolon)) p rest all g st =
      let y = st.0 in
      stat_added k ss (Assign y.w st.2 n st.3 x.w p) (A.Assign a n e) rest all (st.1, y.fits, x.fits) (ap (λ u. A.Assign u n (tree_of x.w)) y.tree ∙ ap (λ u. A.Assign a n u) x.tree)
      (rw (append_assoc (expression y.w) (sign st.2 S.Dot ∷ called n ∷ word st.3 W.Gives ∷ (expression x.w ++ (sign p S.Semicolon ∷ []))) rest) (rw (append_assoc (expression x.w) (sign p S.Semicolon ∷ []) rest) st.4))
  expr_end_stands (ForAssigned k ss a n) e x t p rest all g st = tt
  expr_end_stands (ForCondition k ss) e x (Shared (T.Fixed (S.End E.Close))) p rest all g st = (x, st.0, st.1, p, st.2)
  expr_end_stands (ForCondition k ss) e x t p rest all g st = tt
  expr_end_stands (ForValues k ss n) e x (Shared (T.Fixed (S.End E.Close))) p rest all g st = let h = st.1 in (x, h.0, h.1, st.0, p, h.2)
  expr_end_stands (ForValues k ss n) e x t p rest all g st = tt

  no_word_ends : (o : ForExpr) (e : Expr) (k : Keyword) (rest all : List Mark) → StepStands b rest all (expr_end o e (Word k))
  no_word_ends (ForBody m c n ps h) e k rest all = tt
  no_word_ends (ForGuard m r) e k rest all = tt
  no_word_ends (ForLocal m r n h) e k rest all = tt
  no_word_ends (ForBind m r x n) e k rest all = tt
  no_word_ends (ForStat h ss) e k rest all = tt
  no_word_ends (ForAssigned h ss x n) e k rest all = tt
  no_word_ends (ForCondition h ss) e k rest all = tt
  no_word_ends (ForValues h ss n) e k rest all = tt

  -- what was read up to a mark is an expression
  told_of : (front : List Lexeme) (fs : List Frame) (n : Next) (t : Lexeme) (e : Expr) → StandsInside b fs n (t ∷ []) (front ++ (t ∷ [])) → run_inside b fs n (t ∷ []) ≡ ReadInside e (t ∷ []) → (w : Written) × Whole b w × (spelt w ≡ front) × (tree_of w ≡ e)
  told_of front fs n t e st h =
      let x = subst (ReadOfInside b (front ++ (t ∷ []))) h (sound_inside b (t ∷ []) fs n (front ++ (t ∷ [])) st) in
      let y = x.2 in (y.0, y.1, y.2 ∙ sym (append_cancel_right front x.0 (t ∷ []) x.1), y.3)

  over_whole : (gs : List Frame) (a e : Expr) (r : List Lexeme) → over gs a [] ≡ ReadInside e r → over gs a [] ≡ ReadInside e []
  over_whole gs a e r h = h ∙ ap (λ l. ReadInside e l) (sym (ap rest_of h) ∙ over_rest gs a [])

  shared_stands : (o : ForExpr) (fs : List Frame) (n : Next) (s : Symbol) (p : Place) (front : List Lexeme) (rest all : List Mark) → ((r : List Lexeme) → StandsInside b fs n r (front ++ r)) → InOrder fs n → Settled o front → Begun b o (front ++ (lexeme p s ∷ []))
      → ExprHead b o (map shared front ++ (mark p (Shared s) ∷ rest)) all → StepStands b rest all (expr_goes o (Shared s) (step_inside b fs n s p))
  shared_stands o fs n s p front rest all st d g h k = on (step_inside b fs n s p) refl
    where
      stopped : (gs : List Frame) (a : Expr) → step_inside b fs n s p ≡ StopsInside gs a → (u : EndInside) → over gs a [] ≡ u → StepStands b rest all (whole u (λ x. expr_end o x (Shared s)))
      stopped gs a i (ReadInside e r) j =
          let x = told_of front fs n (lexeme p s) e (st (lexeme p s ∷ [])) (ap (λ v. after_inside v (lexeme p s ∷ []) (λ hs m. run_inside b hs m [])) i ∙ over_any gs a e (over_whole gs a e r j) (lexeme p s ∷ [])) in
          expr_end_stands o e (record { w = x.0; fits = x.1; tree = x.3 }) (Shared s) p rest all (subst (Settled o) (sym x.2) g) (subst (λ l. ExprHead b o (map shared l ++ (mark p (Shared s) ∷ rest)) all) (sym x.2) k)
      stopped gs a i (ExpectedInside r) j = tt
      stopped gs a i (DeepInside q) j = tt

      on : (u : StepInside) → step_inside b fs n s p ≡ u → StepStands b rest all (expr_goes o (Shared s) u)
      on (GoesInside gs m) i = (
        front ++ (lexeme p s ∷ []),
        (λ r. subst (StandsInside b gs m r) (sym (append_assoc front (lexeme p s ∷ []) r)) (subst (StepStandsInside b (lexeme p s) r (front ++ (lexeme p s ∷ r))) i (step_stands_inside b fs n s p r (front ++ (lexeme p s ∷ r)) (st (lexeme p s ∷ r))))),
        h,
        subst StepInOrder i (step_ordered b fs n s p d),
        subst (λ l. ExprHead b o l all) (sym (marks_more front (lexeme p s) rest)) k,
      )
      on (StopsInside gs a) i = stopped gs a i (over gs a []) refl
      on RefusesInside i = tt
      on (TooDeepInside q) i = tt

  word_in_expr : (o : ForExpr) (k : Keyword) (fs : List Frame) (n : Next) (p : Place) (rest all : List Mark) → StepStands b rest all (expr_goes o (Word k) (step_inside b fs n (T.Fixed S.Other) p))
  word_in_expr o k fs n p rest all = on (step_inside b fs n (T.Fixed S.Other) p) (other_stays fs n p)
    where
      over_it : (u : EndInside) → StepStands b rest all (whole u (λ x. expr_end o x (Word k)))
      over_it (ReadInside e r) = no_word_ends o e k rest all
      over_it (ExpectedInside r) = tt
      over_it (DeepInside q) = tt

      on : (u : StepInside) → NotGoes u → StepStands b rest all (expr_goes o (Word k) u)
      on (GoesInside gs m) h = absurd h
      on (StopsInside gs a) h = over_it (over gs a [])
      on RefusesInside h = tt
      on (TooDeepInside q) h = tt

  -- behind the last `. name` of a statement's expression
  assigned_stands : (k : Blocks) (ss : List Stat) (fs : List Frame) (a : Expr) (n : Name) (p : Place) (front : List Lexeme) (rest all : List Mark) → ((r : List Lexeme) → StandsInside b fs (N.Named a n) r (front ++ r)) → Settled (ForStat k ss) front
      → InBlock b k ss (map shared front ++ (word p W.Gives ∷ rest)) all → StepStands b rest all (whole (over fs a []) (λ x. Goes (InExpr (ForAssigned k ss x n) [] N.Operand)))
  assigned_stands k ss fs a n p front rest all st g h = on (over fs a []) refl
    where
      on : (u : EndInside) → over fs a [] ≡ u → StepStands b rest all (whole u (λ x. Goes (InExpr (ForAssigned k ss x n) [] N.Operand)))
      on (ReadInside e r) j =
          let y = st [] in
          let behind = fixed y.1 S.Dot ∷ named n ∷ [] in
          let x = subst (ReadOfInside b (front ++ [])) (over_any fs a e (over_whole fs a e r j) behind) (over_stands b 6 fs a behind (front ++ []) y.0 (admits_dot fs) y.2) in
          let z = x.2 in
          let parts : front ≡ spelt z.0 ++ behind = sym (append-nil front) ∙ x.1 ∙ ap (λ l. l ++ behind) (sym z.2) in (
            [],
            (λ l. refl),
            tt,
            tt,
            (
              record { w = z.0; fits = z.1; tree = z.3 },
              begins_front (spelt z.0) behind (subst (λ l. begins_if l ≡ false) parts g),
              y.1,
              p,
              subst (λ l. InBlock b k ss l all) (ap (λ l. map shared l ++ (word p W.Gives ∷ rest)) parts ∙ ap (λ l. l ++ (word p W.Gives ∷ rest)) (map-append shared (spelt z.0) behind) ∙ append_assoc (expression z.0) (map shared behind) (word p W.Gives ∷ rest)) h,
            ),
          )
      on (ExpectedInside r) j = tt
      on (DeepInside q) j = tt

  in_expr_stands : (t : Content) (o : ForExpr) (n : Next) (fs : List Frame) (p : Place) (front : List Lexeme) (rest all : List Mark) → ((r : List Lexeme) → StandsInside b fs n r (front ++ r)) → InOrder fs n → Settled o front → NextBegun o front t p
      → ExprHead b o (map shared front ++ (mark p t ∷ rest)) all → StepStands b rest all (in_expr b o fs n t p)
  in_expr_stands (Word W.Gives) (ForStat k ss) (N.Named a n) fs p front rest all st d g h i = assigned_stands k ss fs a n p front rest all st g i
  in_expr_stands (Word k) o n fs p front rest all st d g h i = word_in_expr o k fs n p rest all
  in_expr_stands (Shared s) o n fs p front rest all st d g h i = shared_stands o fs n s p front rest all st d g h i

  begun_next : (o : ForExpr) (front : List Lexeme) (t : Content) (p : Place) → Begun b o front → NextBegun o front t p
  begun_next o (x ∷ xs) t p h = begun_more o x xs t p h
  begun_next o [] (Word k) p h = tt
  begun_next (ForStat k ss) [] (Shared s) p h = absurd h
  begun_next (ForBody m c n ps k) [] (Shared s) p h = tt
  begun_next (ForGuard m r) [] (Shared s) p h = tt
  begun_next (ForLocal m r n k) [] (Shared s) p h = tt
  begun_next (ForBind m r y n) [] (Shared s) p h = tt
  begun_next (ForAssigned k ss e n) [] (Shared s) p h = tt
  begun_next (ForCondition k ss) [] (Shared s) p h = tt
  begun_next (ForValues k ss n) [] (Shared s) p h = tt

  -- a mark that is not `if`
  abbrev NoIf : Content → Type 0
  NoIf (Word k) = Unit {0}
  NoIf (Shared s) = NotIf s

  abbrev NoOpen : Content → Type 0
  NoOpen (Word k) = Unit {0}
  NoOpen (Shared s) = NotOpen s

  first_begun : (k : Blocks) (ss : List Stat) (t : Content) (p : Place) → NoIf t → NextBegun (ForStat k ss) [] t p
  first_begun k ss (Word w) p h = tt
  first_begun k ss (Shared s) p h = λ more. not_if s p more h

  second_begun : (k : Blocks) (ss : List Stat) (q : Place) (t : Content) (p : Place) → NoOpen t → NextBegun (ForStat k ss) (fixed q S.If ∷ []) t p
  second_begun k ss q (Word w) p h = tt
  second_begun k ss q (Shared s) p h = λ more. not_open q s p more h

  expr_begins : (k : Blocks) (ss : List Stat) (t : Content) (p : Place) (rest all : List Mark) → NoIf t → InBlock b k ss (mark p t ∷ rest) all → StepStands b rest all (in_expr b (ForStat k ss) [] N.Operand t p)
  expr_begins k ss t p rest all h st = in_expr_stands t (ForStat k ss) N.Operand [] p [] rest all (λ r. refl) tt refl (first_begun k ss t p h) st

  stat_stands : (k : Blocks) (ss : List Stat) (t : Content) (p : Place) (rest all : List Mark) → InBlock b k ss (mark p t ∷ rest) all → StepStands b rest all (at_stat b k ss t p)
  stat_stands k ss (Shared (T.Fixed (S.End E.CloseBrace))) p rest all st = block_end_stands k ss p rest all st
  stat_stands k ss (Word W.For) p rest all st = (p, st)
  stat_stands k ss (Shared (T.Fixed S.If)) p rest all st = st
  stat_stands k ss t p rest all st = expr_begins k ss t p rest all tt st

  condition_begins : (k : Blocks) (ss : List Stat) (q : Place) (t : Content) (p : Place) (rest all : List Mark) → NoOpen t → InBlock b k ss (sign q S.If ∷ mark p t ∷ rest) all
      → StepStands b rest all (in_expr b (ForStat k ss) (F.Condition q ∷ []) N.Operand t p)
  condition_begins k ss q t p rest all h st = in_expr_stands t (ForStat k ss) N.Operand (F.Condition q ∷ []) p (fixed q S.If ∷ []) rest all (λ r. (shallow b, refl)) tt refl (second_begun k ss q t p h) st

  if_stands : (k : Blocks) (ss : List Stat) (q : Place) (t : Content) (p : Place) (rest all : List Mark) → InBlock b k ss (sign q S.If ∷ mark p t ∷ rest) all → StepStands b rest all (at_if b k ss q t p)
  if_stands k ss q (Shared (T.Fixed S.Open)) p rest all st = ([], (λ r. refl), tt, tt, (q, p, st))
  if_stands k ss q t p rest all st = condition_begins k ss q t p rest all tt st

  else_stands : (k : Blocks) (ss : List Stat) (e : Expr) (zs : List Stat) (t : Content) (p : Place) (rest all : List Mark) → ElseHead b k ss e zs (mark p t ∷ rest) all → StepStands b rest all (at_else b k ss e zs t p)
  else_stands k ss e zs (Shared (T.Fixed (S.End E.Else))) p rest all st = (p, st)
  else_stands k ss e zs t p rest all st = stat_stands k (ss ++ (A.If e zs None ∷ [])) t p rest all (without_else_stands k ss e zs (mark p t ∷ rest) all st)

  -- each step keeps what stands
  pub step_stands : (s : State) (t : Content) (p : Place) (rest all : List Mark) → Stands b s (mark p t ∷ rest) all → StepStands b rest all (step b s t p)
  step_stands AtStart (Word W.Module) p rest all st = (p, st)
  step_stands AtStart t p rest all st = tt
  step_stands AtModuleName (Shared (T.Name s)) p rest all st = st
  step_stands AtModuleName t p rest all st = tt
  step_stands (AtModuleEnd n) (Shared (T.Fixed S.Semicolon)) p rest all st = (st.0, p, st.1)
  step_stands (AtModuleEnd n) t p rest all st = tt
  step_stands (AtCreate n) (Word W.Create) p rest all st = (None, refl, (st.0, st.1, p, st.2))
  step_stands (AtCreate n) t p rest all st = tt
  step_stands (AtModel ms) (Shared (T.Name s)) p rest all st = st
  step_stands (AtModel ms) t p rest all st = tt
  step_stands (AtModelColon ms m) (Shared (T.Fixed S.Colon)) p rest all st = (p, st)
  step_stands (AtModelColon ms m) t p rest all st = tt
  step_stands (AtMeta ms m) (Shared (T.Name s)) p rest all st = declared_stands b ms m st.0 (name p s) rest all st.1
  step_stands (AtMeta ms m) t p rest all st = tt
  step_stands (AtModelEnd ms) t p rest all st = model_end_stands b ms t p rest all st
  step_stands (AtItem m) t p rest all st = item_begins b m t p rest all st
  step_stands (AtHelper m) (Word W.Context) p rest all st = (st.0, p, st.1)
  step_stands (AtHelper m) (Word W.Def) p rest all st = (p, (st.0, NoContext, tt, refl, st.1))
  step_stands (AtHelper m) t p rest all st = tt
  step_stands (AtContext m) t p rest all st = context_stands b m t p rest all st
  step_stands (AtDefColon m c) (Shared (T.Fixed S.Colon)) p rest all st = (st.0, p, st.1)
  step_stands (AtDefColon m c) t p rest all st = tt
  step_stands (AtHelperName m c) (Shared (T.Name s)) p rest all st = st
  step_stands (AtHelperName m c) t p rest all st = tt
  step_stands (AtSignature m c n) (Shared (T.Fixed S.Open)) p rest all st = (p, st)
  step_stands (AtSignature m c n) (Shared (T.Fixed S.Colon)) p rest all st = (tt, (p, (Attribute, refl, st)))
  step_stands (AtSignature m c n) t p rest all st = tt
  step_stands (AtResultColon m c n ps) (Shared (T.Fixed S.Colon)) p rest all st = (tt, (p, st))
  step_stands (AtResultColon m c n ps) t p rest all st = tt
  step_stands (AtFirstParam o) (Shared (T.Fixed (S.End E.Close))) p rest all st = with_all_stands b o [] (NoParams st.0 p) rest all refl st.1
  step_stands (AtFirstParam o) (Shared (T.Name s)) p rest all st = (st.0, None, refl, st.1)
  step_stands (AtFirstParam o) t p rest all st = tt
  step_stands (AtParam o ps) (Shared (T.Name s)) p rest all st = st
  step_stands (AtParam o ps) t p rest all st = tt
  step_stands (AtParamColon o ps n) (Shared (T.Fixed S.Colon)) p rest all st = (tt, (p, st))
  step_stands (AtParamColon o ps n) t p rest all st = tt
  step_stands (InKind o fs n) t p rest all st = in_kind_stands b n fs o t p rest all st
  step_stands (InExpr o fs n) t p rest all st = in_expr_stands t o n fs p st.0 rest all st.1 st.3 (settled o st.0 st.2) (begun_next o st.0 t p st.2) st.4
  step_stands (AtWord m ws) t p rest all st = word_stands b m ws t p rest all st
  step_stands (AtRule m s) (Word W.Rule) p rest all st = (st.0, st.1, st.2, refl, p, st.3)
  step_stands (AtRule m s) t p rest all st = tt
  step_stands (AtRuleName m f s a) (Shared (T.Name x)) p rest all st = named_stands b m f s a (name p x) rest all st
  step_stands (AtRuleName m f s a) t p rest all st = tt
  step_stands (AtRuleOpen m f r) t p rest all st = rule_open_stands b m f r t p rest all st
  step_stands (AtParent m r) (Shared (T.Name s)) p rest all st = parent_stands b m r (name p s) rest all st
  step_stands (AtParent m r) t p rest all st = tt
  step_stands (AtBrace m r) (Shared (T.Fixed S.OpenBrace)) p rest all st = (p, st)
  step_stands (AtBrace m r) t p rest all st = tt
  step_stands (AtNoParams m r) (Shared (T.Fixed (S.End E.Close))) p rest all st = no_params_stands b m r p rest all st
  step_stands (AtNoParams m r) t p rest all st = tt
  step_stands (AtCalledBrace m r) (Shared (T.Fixed S.OpenBrace)) p rest all st = called_stands b m r p rest all st
  step_stands (AtCalledBrace m r) t p rest all st = tt
  step_stands (AtFrom m r) t p rest all st = from_stands b m r t p rest all st
  step_stands (AtSource m r) (Shared (T.Name s)) p rest all st = st
  step_stands (AtSource m r) t p rest all st = tt
  step_stands (AtSourceColon m r n) (Shared (T.Fixed S.Colon)) p rest all st = (p, st)
  step_stands (AtSourceColon m r n) t p rest all st = tt
  step_stands (AtClass o) (Shared (T.Name s)) p rest all st = st
  step_stands (AtClass o) t p rest all st = tt
  step_stands (AtBang o n) (Shared (T.Fixed S.Bang)) p rest all st = (p, st)
  step_stands (AtBang o n) t p rest all st = tt
  step_stands (AtClassName o n) (Shared (T.Name s)) p rest all st = class_stands b o n (name p s) rest all st
  step_stands (AtClassName o n) t p rest all st = tt
  step_stands (AtSourceEnd m r) t p rest all st = source_end_stands b m r t p rest all st
  step_stands (AtRest m r) t p rest all st = rest_stands b m r t p rest all st
  step_stands (AtUsing m r) (Shared (T.Fixed S.OpenBrace)) p rest all st = using_stands b m r p rest all st
  step_stands (AtUsing m r) t p rest all st = tt
  step_stands (AtLocal m r) t p rest all st = local_stands b m r t p rest all st
  step_stands (AtLocalColon m r n) (Shared (T.Fixed S.Colon)) p rest all st = (tt, (p, st))
  step_stands (AtLocalColon m r n) t p rest all st = tt
  step_stands (AtTo m r) t p rest all st = to_stands b m r t p rest all st
  step_stands (AtTarget m r) (Shared (T.Name s)) p rest all st = st
  step_stands (AtTarget m r) t p rest all st = tt
  step_stands (AtTargetColon m r n) (Shared (T.Fixed S.Colon)) p rest all st = (p, st)
  step_stands (AtTargetColon m r n) t p rest all st = tt
  step_stands (AtBinds m r x) t p rest all st = binds_stands b m r x t p rest all st
  step_stands (AtFirstBind m r x) t p rest all st = first_bind_stands b m r x t p rest all st
  step_stands (AtBind m r x) (Shared (T.Name s)) p rest all st = st
  step_stands (AtBind m r x) t p rest all st = tt
  step_stands (AtGives m r x n) (Word W.Gives) p rest all st = ([], (λ l. refl), tt, tt, (p, st))
  step_stands (AtGives m r x n) t p rest all st = tt
  step_stands (AtTargetEnd m r) t p rest all st = target_end_stands b m r t p rest all st
  step_stands (AtDo m r) (Shared (T.Fixed S.OpenBrace)) p rest all st = (NoStats, tt, refl, (st.0, p, st.1))
  step_stands (AtDo m r) t p rest all st = tt
  step_stands (AtRuleEnd m r) (Shared (T.Fixed (S.End E.CloseBrace))) p rest all st = rule_end_stands b m r p rest all st
  step_stands (AtRuleEnd m r) t p rest all st = tt
  step_stands (AtStat k ss) t p rest all st = stat_stands k ss t p rest all st
  step_stands (AtIf k ss q) t p rest all st = if_stands k ss q t p rest all st
  step_stands (AtIfBrace k ss e) (Shared (T.Fixed S.OpenBrace)) p rest all st = (NoStats, tt, refl, (st.0, st.1, st.2, st.3, p, st.4))
  step_stands (AtIfBrace k ss e) t p rest all st = tt
  step_stands (AtElse k ss e zs) t p rest all st = else_stands k ss e zs t p rest all st
  step_stands (AtElseBrace k ss e zs) (Shared (T.Fixed S.OpenBrace)) p rest all st = let h = st.1 in (NoStats, tt, refl, (h.0, h.1, h.2, h.3, h.4, h.5, h.6, h.7, h.8, st.0, p, h.9))
  step_stands (AtElseBrace k ss e zs) t p rest all st = tt
  step_stands (AtFor k ss) (Shared (T.Fixed S.Open)) p rest all st = (st.0, p, st.1)
  step_stands (AtFor k ss) t p rest all st = tt
  step_stands (AtForName k ss) (Shared (T.Name s)) p rest all st = st
  step_stands (AtForName k ss) t p rest all st = tt
  step_stands (AtForIn k ss n) (Shared (T.Fixed (S.End E.In))) p rest all st = ([], (λ l. refl), tt, tt, (p, st))
  step_stands (AtForIn k ss n) t p rest all st = tt
  step_stands (AtForBrace k ss n e) (Shared (T.Fixed S.OpenBrace)) p rest all st = (NoStats, tt, refl, (st.0, st.1, st.2, st.3, st.4, p, st.5))
  step_stands (AtForBrace k ss n e) t p rest all st = tt

  -- what was read is of the grammar
  abbrev pub ReadOf : List Mark → EndRead → Type 0
  ReadOf all (Read m) = IsModule b all m
  ReadOf all u = Unit {0}

  finish_stands : (s : State) (all : List Mark) → Stands b s [] all → ReadOf all (finish b s)
  finish_stands (AtItem m) all st = (st.0, st.1, sym (append-nil (module_marks st.0)) ∙ st.3, st.2)
  finish_stands (InExpr o fs n) all st = on (last_inside b fs n)
    where
      on : (u : StepInside) → ReadOf all (too_deep u)
      on (TooDeepInside p) = tt
      on (GoesInside gs m) = tt
      on (StopsInside gs a) = tt
      on RefusesInside = tt
  finish_stands s all st = tt

  pub sound : (ts : List Mark) (s : State) (all : List Mark) → Stands b s ts all → ReadOf all (run b s ts)
  sound [] s all st = finish_stands s all st
  sound (t ∷ ts) s all st = on (λ u h. sound ts u all h) (step b s t.content t.place) (step_stands s t.content t.place ts all st)
    where
      on : ((u : State) → Stands b u ts all → ReadOf all (run b u ts)) → (v : Step) → StepStands b ts all v → ReadOf all (after v (t ∷ ts) (λ u. run b u ts))
      on again (Goes u) h = again u h
      on again Refuses h = tt
      on again (TooDeep p) h = tt
