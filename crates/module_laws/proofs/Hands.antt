-- Where an expression is not a statement's, it is read as it is alone, and then the mark behind it is met.
use Rattle.std.proofs.Common.{◌≡◌, List, [], ◌∷◌, ◌++◌, refl, sym, ap, ◌∙◌, subst}
use Rattle.std.specs.Prelude.{Bool, map}
use Rattle.atl_tree.specs.declared.expr.Expr.{Expr}
use Rattle.ocl_parse.specs.declared.frame.Frame.{Frame}
use Rattle.ocl_parse.specs.declared.frame.Next.{Next}
use Rattle.ocl_parse.specs.Symbols.{Lexeme}
use Rattle.ocl_parse.specs.Machine.{step as step_inside, last as last_inside, over, ended, after as after_inside, run as run_inside, Step as StepInside, Goes as GoesInside, Stops as StopsInside, Refuses as RefusesInside, TooDeep as TooDeepInside, End as EndInside, Read as ReadInside, Expected as ExpectedInside, Deep as DeepInside}
use Rattle.ocl_parse.proofs.Fine.{over_any}
use Rattle.ocl_parse.specs.declared.frame.Frame.TheVariants as F
use Rattle.ocl_parse.specs.Trees.{binary, unary, within}
use Rattle.module_grammar.specs.declared.keyword.Keyword.TheVariants as W
use Rattle.module_grammar.specs.Marks.{Content, Word, Mark, symbol}
use Rattle.module_states.specs.Machine.{ForExpr, ForStat, InExpr, Step, expr_end, whole, expr_goes, assigns, End, Expected, Deep, too_deep, after, run}
use Rattle.module_laws.specs.Laws.{inner}
use Rattle.module_laws.proofs.Inside.{over_rest, rest_of}

abbrev pub NoStat : ForExpr → Type 0
NoStat (ForStat k ss) = ⊥
NoStat o = Unit {0}

unassigned : (t : Content) (o : ForExpr) (fs : List Frame) (n : Next) (u : Step) → NoStat o → assigns t o fs n u ≡ u
unassigned (Word W.Gives) (ForStat k ss) fs n u h = absurd h
unassigned t o fs n u h = refl

abbrev IsDeep : EndInside → Type 0
IsDeep (DeepInside p) = Unit {0}
IsDeep u = ⊥

abbrev IsRead : EndInside → Type 0
IsRead (ReadInside e r) = Unit {0}
IsRead u = ⊥

over_shallow : (fs : List Frame) (e : Expr) (rest : List Lexeme) → IsDeep (over fs e rest) → ⊥
over_shallow [] e rest h = h
over_shallow (F.Left a p o ∷ fs) e rest h = over_shallow fs (binary a p o e) rest h
over_shallow (F.Unary o p ∷ fs) e rest h = over_shallow fs (unary p o e) rest h
over_shallow (F.Within p n t a ∷ fs) e rest h = over_shallow fs (within p n t a e) rest h
over_shallow (f ∷ fs) e rest h = h

over_blocked : (fs : List Frame) (e : Expr) (r s : List Lexeme) → over fs e [] ≡ ExpectedInside r → over fs e s ≡ ExpectedInside s
over_blocked [] e r s h = absurd (subst IsRead h tt)
over_blocked (F.Left a p o ∷ fs) e r s h = over_blocked fs (binary a p o e) r s h
over_blocked (F.Unary o p ∷ fs) e r s h = over_blocked fs (unary p o e) r s h
over_blocked (F.Within p n t a ∷ fs) e r s h = over_blocked fs (within p n t a e) r s h
over_blocked (f ∷ fs) e r s h = refl

module _ (b : Bool) where
  -- behind an expression
  abbrev pub meets : ForExpr → Expr → List Mark → End
  meets o e [] = Expected []
  meets o e (t ∷ r) = after (expr_end o e t.content) (t ∷ r) (λ u. run b u r)

  -- how the reading of a module goes on, by how that of the expression ends
  abbrev pub Hands : ForExpr → List Mark → EndInside → End → Type 0
  Hands o ts (ReadInside e rest) v = (front : List Mark) × (more : List Mark) × (ts ≡ front ++ more) × (map inner more ≡ rest) × (v ≡ meets o e more)
  Hands o ts (ExpectedInside rest) v = (front : List Mark) × (more : List Mark) × (ts ≡ front ++ more) × (map inner more ≡ rest) × (v ≡ Expected more)
  Hands o ts (DeepInside p) v = v ≡ Deep p

  hands_more : (o : ForExpr) (t : Mark) (ts : List Mark) (u : EndInside) (v : End) → Hands o ts u v → Hands o (t ∷ ts) u v
  hands_more o t ts (ReadInside e rest) v h = (t ∷ h.0, h.1, ap (λ l. t ∷ l) h.2, h.3, h.4)
  hands_more o t ts (ExpectedInside rest) v h = (t ∷ h.0, h.1, ap (λ l. t ∷ l) h.2, h.3, h.4)
  hands_more o t ts (DeepInside p) v h = h

  hands_end : (o : ForExpr) (u : StepInside) → Hands o [] (after_inside u [] ended) (too_deep u)
  hands_end o (GoesInside gs m) = ([], [], refl, refl, refl)
  hands_end o (StopsInside gs a) = on (over gs a []) (over_rest gs a []) (over_shallow gs a [])
    where
      on : (x : EndInside) → rest_of x ≡ [] → (IsDeep x → ⊥) → Hands o [] x (Expected [])
      on (ReadInside e r) h d = ([], [], refl, sym h, refl)
      on (ExpectedInside r) h d = ([], [], refl, sym h, refl)
      on (DeepInside p) h d = absurd (d tt)
  hands_end o RefusesInside = ([], [], refl, refl, refl)
  hands_end o (TooDeepInside p) = refl

  pub hands : (ts : List Mark) (o : ForExpr) (fs : List Frame) (n : Next) → NoStat o → Hands o ts (run_inside b fs n (map inner ts)) (run b (InExpr o fs n) ts)
  hands [] o fs n h = hands_end o (last_inside b fs n)
  hands (t ∷ ts) o fs n h =
      rw (unassigned t.content o fs n (expr_goes o t.content (step_inside b fs n (symbol t.content) t.place)) h) (on (λ gs m. hands ts o gs m h) (step_inside b fs n (symbol t.content) t.place))
    where
      stopped : (gs : List Frame) (a : Expr) (x : EndInside) → over gs a [] ≡ x → Hands o (t ∷ ts) (over gs a (inner t ∷ map inner ts)) (after (whole x (λ e. expr_end o e t.content)) (t ∷ ts) (λ u. run b u ts))
      stopped gs a (ReadInside e r) k =
          let k1 = k ∙ ap (λ l. ReadInside e l) (sym (ap rest_of k) ∙ over_rest gs a []) in
          rw (over_any gs a e k1 (inner t ∷ map inner ts)) ([], t ∷ ts, refl, refl, refl)
      stopped gs a (ExpectedInside r) k = rw (over_blocked gs a r (inner t ∷ map inner ts) k) ([], t ∷ ts, refl, refl, refl)
      stopped gs a (DeepInside p) k = absurd (over_shallow gs a [] (subst IsDeep (sym k) tt))

      on : ((gs : List Frame) (m : Next) → Hands o ts (run_inside b gs m (map inner ts)) (run b (InExpr o gs m) ts)) → (u : StepInside)
          → Hands o (t ∷ ts) (after_inside u (inner t ∷ map inner ts) (λ gs m. run_inside b gs m (map inner ts))) (after (expr_goes o t.content u) (t ∷ ts) (λ v. run b v ts))
      on again (GoesInside gs m) = hands_more o t ts (run_inside b gs m (map inner ts)) (run b (InExpr o gs m) ts) (again gs m)
      on again (StopsInside gs a) = stopped gs a (over gs a []) refl
      on again RefusesInside = ([], t ∷ ts, refl, refl, refl)
      on again (TooDeepInside p) = refl
