-- An expression and a type within a module: they are read as they are alone.
use Rattle.std.proofs.Common.{◌≡◌, List, [], ◌∷◌, ◌++◌, refl, sym, ap, ◌∙◌, subst, append_assoc}
use Rattle.std.specs.Prelude.{Bool, true, false, map, if◌then◌else◌}
use Rattle.std.proofs.lemmas.List.{append-nil, map-append}
use Rattle.atl_base.specs.declared.place.Place.{Place}
use Rattle.atl_tree.specs.declared.name.Name.{Name}
use Rattle.atl_tree.specs.declared.expr.Expr.{Expr}
use Rattle.ocl_parse.specs.declared.sign.Ender.{Ender}
use Rattle.ocl_parse.specs.declared.sign.Ender.TheVariants as E
use Rattle.ocl_parse.specs.declared.sign.Sign.TheVariants as S
use Rattle.ocl_parse.specs.declared.symbol.Symbol.{Symbol}
use Rattle.ocl_parse.specs.declared.symbol.Symbol.TheVariants as T
use Rattle.ocl_parse.specs.declared.frame.Frame.{Frame}
use Rattle.ocl_parse.specs.declared.frame.Frame.TheVariants as F
use Rattle.ocl_parse.specs.declared.frame.Next.{Next}
use Rattle.ocl_parse.specs.declared.frame.Next.TheVariants as N
use Rattle.ocl_parse.specs.Symbols.{Lexeme}
use Rattle.ocl_parse.specs.Depth.{deep, is_shallow}
use Rattle.ocl_parse.specs.Trees.{binary, unary, variable, feature, within}
use Rattle.ocl_parse.specs.Grammar.{fixed, Kind, Basic, Class, Coll, kind_spelt, kind_of, Written, spelt, tree_of}
use Rattle.ocl_parse.specs.Machine.{closed, at, step as step_inside, last as last_inside, over, ended, after as after_inside, run as run_inside, Step as StepInside, Goes as GoesInside, Stops as StopsInside, Refuses as RefusesInside, TooDeep as TooDeepInside, End as EndInside, Read as ReadInside, Expected as ExpectedInside, Deep as DeepInside}
use Rattle.ocl_parse.proofs.Accepts.{reads}
use Rattle.module_grammar.specs.declared.keyword.Keyword.TheVariants as W
use Rattle.module_grammar.specs.Marks.{Content, Shared, Mark, word, sign, called, shared, expression, kind_marks}
use Rattle.module_grammar.specs.Grammar.{Whole}
use Rattle.module_states.specs.Machine.{Blocks, ForKind, ForExpr, ForStat, ForAssigned, InKind, InExpr, Goes, expr_end, whole, expr_goes, in_expr, after, run}
use Rattle.atl_tree.specs.declared.module.Stat.{Stat}

abbrev pub Got : EndInside → Type 0
Got (ReadInside e r) = Unit {0}
Got x = ⊥

pub got : (x : EndInside) (e : Expr) (r : List Lexeme) → x ≡ ReadInside e r → Got x
got x e r h = subst Got (sym h) tt

abbrev pub rest_of : EndInside → List Lexeme
rest_of (ReadInside e r) = r
rest_of (ExpectedInside r) = r
rest_of (DeepInside p) = []

abbrev Some : List Lexeme → Type 0
Some [] = ⊥
Some (t ∷ ts) = Unit {0}

pub over_rest : (fs : List Frame) (e : Expr) (rest : List Lexeme) → rest_of (over fs e rest) ≡ rest
over_rest [] e rest = refl
over_rest (F.Left a p o ∷ fs) e rest = over_rest fs (binary a p o e) rest
over_rest (F.Unary o p ∷ fs) e rest = over_rest fs (unary p o e) rest
over_rest (F.Within p n t a ∷ fs) e rest = over_rest fs (within p n t a e) rest
over_rest (f ∷ fs) e rest = refl

not_over : (fs : List Frame) (a e : Expr) (t : Lexeme) (ts : List Lexeme) → over fs a (t ∷ ts) ≡ ReadInside e [] → ⊥
not_over fs a e t ts h = subst Some (sym (over_rest fs a (t ∷ ts)) ∙ ap rest_of h) tt

-- all of an expression has been read
abbrev pub Done : Bool → List Frame → Next → Expr → Type 0
Done b fs n e = after_inside (last_inside b fs n) [] ended ≡ ReadInside e []

-- what stands behind an expression in a module, a statement's <- aside
abbrev pub Closing : Content → Type 0
Closing (Shared (T.Fixed S.Semicolon)) = Unit {0}
Closing (Shared (T.Fixed (S.End E.Close))) = Unit {0}
Closing (Shared (T.Fixed (S.End E.Comma))) = Unit {0}
Closing t = ⊥

at_end : (c : Ender) (a : Expr) → at c [] a ≡ StopsInside [] a
at_end E.Close a = refl
at_end E.CloseBrace a = refl
at_end E.Comma a = refl
at_end E.Bar a = refl
at_end E.Then a = refl
at_end E.Else a = refl
at_end E.Endif a = refl
at_end E.In a = refl

-- a step that ends the expression
abbrev Stopping : Expr → StepInside → Type 0
Stopping e u = (gs : List Frame) × (a : Expr) × (u ≡ StopsInside gs a) × (over gs a [] ≡ ReadInside e [])

closed_stops : (c : Ender) (fs : List Frame) (a e : Expr) → over fs a [] ≡ ReadInside e [] → Stopping e (closed fs a (at c))
closed_stops c [] a e h = ([], a, at_end c a, h)
closed_stops c (F.Left x p o ∷ fs) a e h = closed_stops c fs (binary x p o a) e h
closed_stops c (F.Unary o p ∷ fs) a e h = closed_stops c fs (unary p o a) e h
closed_stops c (F.Within p n t x ∷ fs) a e h = closed_stops c fs (within p n t x a) e h
closed_stops c (f ∷ fs) a e h = absurd (got (ExpectedInside []) e [] h)

module _ (b : Bool) where
  unread : (t : Bool) (p : Place) (e : Expr) → after_inside (if t then RefusesInside else TooDeepInside p) [] ended ≡ ReadInside e [] → ⊥
  unread true p e h = got (ExpectedInside []) e [] h
  unread false p e h = got (DeepInside p) e [] h

  semicolon_stops : (fs : List Frame) (n : Next) (e : Expr) (p : Place) → Done b fs n e → Stopping e (step_inside b fs n (T.Fixed S.Semicolon) p)
  semicolon_stops fs (N.Have a) e p h = (fs, a, refl, h)
  semicolon_stops fs (N.Word n) e p h = (fs, variable n, refl, h)
  semicolon_stops fs (N.Named a n) e p h = (fs, feature a n, refl, h)
  semicolon_stops fs (N.First c n) e p h = absurd (unread (is_shallow b (deep (F.Arguments c [] ∷ fs))) n.place e h)
  semicolon_stops fs m e p h = absurd (got (ExpectedInside []) e [] h)

  ender_stops : (c : Ender) (fs : List Frame) (n : Next) (e : Expr) (p : Place) → Done b fs n e → Stopping e (step_inside b fs n (T.Fixed (S.End c)) p)
  ender_stops c fs (N.Have a) e p h = closed_stops c fs a e h
  ender_stops c fs (N.Word n) e p h = closed_stops c fs (variable n) e h
  ender_stops c fs (N.Named a n) e p h = closed_stops c fs (feature a n) e h
  ender_stops c fs (N.First f n) e p h = absurd (unread (is_shallow b (deep (F.Arguments f [] ∷ fs))) n.place e h)
  ender_stops c fs m e p h = absurd (got (ExpectedInside []) e [] h)

  stopped : (o : ForExpr) (s : Symbol) (u : StepInside) (e : Expr) → Stopping e u → expr_goes o (Shared s) u ≡ expr_end o e (Shared s)
  stopped o s u e h = ap (expr_goes o (Shared s)) h.2 ∙ ap (λ x. whole x (λ y. expr_end o y (Shared s))) h.3

  closing : (o : ForExpr) (fs : List Frame) (n : Next) (e : Expr) (t : Content) (p : Place) → Done b fs n e → Closing t → in_expr b o fs n t p ≡ expr_end o e t
  closing o fs n e (Shared (T.Fixed S.Semicolon)) p h c = stopped o (T.Fixed S.Semicolon) (step_inside b fs n (T.Fixed S.Semicolon) p) e (semicolon_stops fs n e p h)
  closing o fs n e (Shared (T.Fixed (S.End E.Close))) p h c = stopped o (T.Fixed (S.End E.Close)) (step_inside b fs n (T.Fixed (S.End E.Close)) p) e (ender_stops E.Close fs n e p h)
  closing o fs n e (Shared (T.Fixed (S.End E.Comma))) p h c = stopped o (T.Fixed (S.End E.Comma)) (step_inside b fs n (T.Fixed (S.End E.Comma)) p) e (ender_stops E.Comma fs n e p h)
  closing o fs n e t p h c = absurd c

  -- where all of an expression's symbols lead
  record Reached (fs : List Frame) (n : Next) (ts : List Lexeme) (e : Expr) : Type 0 where
    pub gs : List Frame
    pub m : Next
    pub leads : (o : ForExpr) (more : List Mark) → run b (InExpr o fs n) (map shared ts ++ more) ≡ run b (InExpr o gs m) more
    pub done : Done b gs m e

  reached : (ts : List Lexeme) (fs : List Frame) (n : Next) (e : Expr) → run_inside b fs n ts ≡ ReadInside e [] → Reached fs n ts e
  reached [] fs n e h = record { gs = fs; m = n; leads = λ o more. refl; done = h }
  reached (t ∷ ts) fs n e h = on (λ gs m k. reached ts gs m e k) (step_inside b fs n t.symbol t.place) refl h
    where
      on : ((gs : List Frame) (m : Next) → run_inside b gs m ts ≡ ReadInside e [] → Reached gs m ts e) → (u : StepInside) → step_inside b fs n t.symbol t.place ≡ u → after_inside u (t ∷ ts) (λ gs m. run_inside b gs m ts) ≡ ReadInside e [] → Reached fs n (t ∷ ts) e
      on again (GoesInside gs m) k h =
          let x = again gs m h in
          record {
            gs = x.gs;
            m = x.m;
            leads = λ o more. ap (λ u. after (expr_goes o (Shared t.symbol) u) (shared t ∷ (map shared ts ++ more)) (λ v. run b v (map shared ts ++ more))) k ∙ x.leads o more;
            done = x.done;
          }
      on again (StopsInside gs a) k h = absurd (not_over gs a e t ts h)
      on again RefusesInside k h = absurd (got (ExpectedInside (t ∷ ts)) e [] h)
      on again (TooDeepInside p) k h = absurd (got (DeepInside p) e [] h)

  pub read_alone : (w : Written) → Whole b w → run_inside b [] N.Operand (spelt w) ≡ ReadInside (tree_of w) []
  read_alone w f = ap (run_inside b [] N.Operand) (sym (append-nil (spelt w))) ∙ reads b w 0 [] [] f tt tt

  -- the rest of an expression is read, and the mark behind it is met
  pub ends_expr : (ts : List Lexeme) (fs : List Frame) (n : Next) (e : Expr) (o : ForExpr) (t : Mark) (r : List Mark) → run_inside b fs n ts ≡ ReadInside e [] → Closing t.content
      → run b (InExpr o fs n) (map shared ts ++ (t ∷ r)) ≡ after (expr_end o e t.content) (t ∷ r) (λ u. run b u r)
  ends_expr ts fs n e o t r h c =
      let x = reached ts fs n e h in
      x.leads o (t ∷ r) ∙ ap (λ u. after u (t ∷ r) (λ v. run b v r)) (closing o x.gs x.m e t.content t.place x.done c)

  -- an expression is read, and the mark behind it is met
  pub reads_expr : (w : Written) (o : ForExpr) (t : Mark) (r : List Mark) → Whole b w → Closing t.content → run b (InExpr o [] N.Operand) (expression w ++ (t ∷ r)) ≡ after (expr_end o (tree_of w) t.content) (t ∷ r) (λ u. run b u r)
  reads_expr w o t r f c =
      let x = reached (spelt w) [] N.Operand (tree_of w) (read_alone w f) in
      x.leads o (t ∷ r) ∙ ap (λ u. after u (t ∷ r) (λ v. run b v r)) (closing o x.gs x.m (tree_of w) t.content t.place x.done c)

  -- behind `. name`, <- assigns
  assigned : (k : Blocks) (ss : List Stat) (fs : List Frame) (m : Next) (e : Expr) (p : Place) (n : Name) (q : Place) (r : List Mark) → Done b fs m e
      → run b (InExpr (ForStat k ss) fs m) (sign p S.Dot ∷ called n ∷ word q W.Gives ∷ r) ≡ run b (InExpr (ForAssigned k ss e n) [] N.Operand) r
  assigned k ss fs (N.Have a) e p n q r h = ap (λ x. after (whole x (λ y. Goes (InExpr (ForAssigned k ss y n) [] N.Operand))) (word q W.Gives ∷ r) (λ v. run b v r)) h
  assigned k ss fs (N.Word z) e p n q r h = ap (λ x. after (whole x (λ y. Goes (InExpr (ForAssigned k ss y n) [] N.Operand))) (word q W.Gives ∷ r) (λ v. run b v r)) h
  assigned k ss fs (N.Named a z) e p n q r h = ap (λ x. after (whole x (λ y. Goes (InExpr (ForAssigned k ss y n) [] N.Operand))) (word q W.Gives ∷ r) (λ v. run b v r)) h
  assigned k ss fs (N.First c z) e p n q r h = absurd (unread (is_shallow b (deep (F.Arguments c [] ∷ fs))) z.place e h)
  assigned k ss fs m e p n q r h = absurd (got (ExpectedInside []) e [] h)

  pub reads_assigned : (w : Written) (k : Blocks) (ss : List Stat) (p : Place) (n : Name) (q : Place) (r : List Mark) → Whole b w
      → run b (InExpr (ForStat k ss) [] N.Operand) (expression w ++ (sign p S.Dot ∷ called n ∷ word q W.Gives ∷ r)) ≡ run b (InExpr (ForAssigned k ss (tree_of w) n) [] N.Operand) r
  reads_assigned w k ss p n q r f =
      let x = reached (spelt w) [] N.Operand (tree_of w) (read_alone w f) in
      x.leads (ForStat k ss) (sign p S.Dot ∷ called n ∷ word q W.Gives ∷ r) ∙ assigned k ss x.gs x.m (tree_of w) p n q r x.done

  -- a type is read
  pub reads_kind : (k : Kind) (o : ForKind) (fs : List Frame) (r : List Mark) → run b (InKind o fs N.Kind) (kind_marks k ++ r) ≡ run b (InKind o fs (N.HaveKind (kind_of k))) r
  reads_kind (Basic p w) o fs r = refl
  reads_kind (Class m p c) o fs r = refl
  reads_kind (Coll p w q k s) o fs r =
      rw (map-append shared (kind_spelt k) (fixed s (S.End E.Close) ∷ []))
      (rw (append_assoc (kind_marks k) (sign s (S.End E.Close) ∷ []) r)
      (reads_kind k o (F.CollKind w p ∷ fs) (sign s (S.End E.Close) ∷ r)))
