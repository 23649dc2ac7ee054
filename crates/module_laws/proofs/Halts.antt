-- Reading comes to a state, and ends there.
use Rattle.std.proofs.Common.{◌≡◌, List, [], ◌∷◌, ◌++◌, refl, sym, ap, ◌∙◌, subst}
use Rattle.std.specs.Prelude.{Bool, true, false}
use Rattle.atl_base.specs.declared.place.Place.{Place}
use Rattle.atl_tree.specs.declared.expr.Expr.{Expr}
use Rattle.atl_tree.specs.declared.module.Module.{Module}
use Rattle.atl_tree.specs.declared.module.Stat.{Stat}
use Rattle.atl_tree.specs.declared.module.Stat.TheVariants as A
use Rattle.ocl_parse.specs.declared.sign.Ender.TheVariants as E
use Rattle.ocl_parse.specs.declared.sign.Sign.TheVariants as S
use Rattle.ocl_parse.specs.declared.symbol.Symbol.TheVariants as T
use Rattle.ocl_parse.specs.declared.frame.Frame.{Frame}
use Rattle.ocl_parse.specs.declared.frame.Frame.TheVariants as F
use Rattle.ocl_parse.specs.declared.frame.Next.{Next}
use Rattle.ocl_parse.specs.declared.frame.Next.TheVariants as N
use Rattle.ocl_parse.specs.Machine.{step as step_inside, last as last_inside, Step as StepInside, Goes as GoesInside, Stops as StopsInside, Refuses as RefusesInside, TooDeep as TooDeepInside}
use Rattle.ocl_parse.proofs.Agrees.{Agrees as AgreesInside, agrees as agrees_inside}
use Rattle.std.specs.Prelude.{None}
use Rattle.module_grammar.specs.declared.keyword.Keyword.TheVariants as W
use Rattle.module_grammar.specs.Marks.{Content, Word, Shared, Mark, symbol}
use Rattle.module_states.specs.Machine.{Blocks, ForExpr, ForStat, State, AtStart, AtCreate, AtItem, InExpr, AtStat, AtIf, AtElse, Step, Goes, Refuses, TooDeep, expr_goes, assigns, in_expr, at_stat, at_if, at_else, step, End, Read, Expected, Deep, too_deep, finish, after, run}
use Rattle.module_laws.proofs.Stands.{Stands, StepStands}
use Rattle.module_laws.proofs.SoundStats.{step_stands}

-- the step without depth is the one with it, unless that is too deep
abbrev pub Agrees : Step → Step → Type 0
Agrees (TooDeep p) v = Unit {0}
Agrees u v = v ≡ u

same : (u : Step) → Agrees u u
same (Goes s) = refl
same Refuses = refl
same (TooDeep p) = tt

goes_agree : (o : ForExpr) (t : Content) (u v : StepInside) → AgreesInside u v → Agrees (expr_goes o t u) (expr_goes o t v)
goes_agree o t (GoesInside gs m) v h = subst (λ w. Agrees (expr_goes o t (GoesInside gs m)) (expr_goes o t w)) (sym h) (same (expr_goes o t (GoesInside gs m)))
goes_agree o t (StopsInside gs a) v h = subst (λ w. Agrees (expr_goes o t (StopsInside gs a)) (expr_goes o t w)) (sym h) (same (expr_goes o t (StopsInside gs a)))
goes_agree o t RefusesInside v h = subst (λ w. Agrees (expr_goes o t RefusesInside) (expr_goes o t w)) (sym h) (same (expr_goes o t RefusesInside))
goes_agree o t (TooDeepInside p) v h = tt

assigns_agree : (t : Content) (o : ForExpr) (fs : List Frame) (n : Next) (u v : Step) → Agrees u v → Agrees (assigns t o fs n u) (assigns t o fs n v)
assigns_agree (Word W.Gives) (ForStat k ss) fs (N.Named a x) u v h = same (assigns (Word W.Gives) (ForStat k ss) fs (N.Named a x) u)
assigns_agree t o fs n u v h = h

expr_agrees : (o : ForExpr) (fs : List Frame) (n : Next) (t : Content) (p : Place) → Agrees (in_expr true o fs n t p) (in_expr false o fs n t p)
expr_agrees o fs n t p =
    assigns_agree t o fs n (expr_goes o t (step_inside true fs n (symbol t) p)) (expr_goes o t (step_inside false fs n (symbol t) p))
    (goes_agree o t (step_inside true fs n (symbol t) p) (step_inside false fs n (symbol t) p) (agrees_inside fs n (symbol t) p))

stat_agrees : (k : Blocks) (ss : List Stat) (t : Content) (p : Place) → Agrees (at_stat true k ss t p) (at_stat false k ss t p)
stat_agrees k ss (Shared (T.Fixed (S.End E.CloseBrace))) p = refl
stat_agrees k ss (Word W.For) p = refl
stat_agrees k ss (Shared (T.Fixed S.If)) p = refl
stat_agrees k ss t p = expr_agrees (ForStat k ss) [] N.Operand t p

if_agrees : (k : Blocks) (ss : List Stat) (q : Place) (t : Content) (p : Place) → Agrees (at_if true k ss q t p) (at_if false k ss q t p)
if_agrees k ss q (Shared (T.Fixed S.Open)) p = refl
if_agrees k ss q t p = expr_agrees (ForStat k ss) (F.Condition q ∷ []) N.Operand t p

else_agrees : (k : Blocks) (ss : List Stat) (e : Expr) (zs : List Stat) (t : Content) (p : Place) → Agrees (at_else true k ss e zs t p) (at_else false k ss e zs t p)
else_agrees k ss e zs (Shared (T.Fixed (S.End E.Else))) p = refl
else_agrees k ss e zs t p = stat_agrees k (ss ++ (A.If e zs None ∷ [])) t p

pub agrees : (s : State) (t : Content) (p : Place) → Agrees (step true s t p) (step false s t p)
agrees AtStart (Word W.Module) p = refl
agrees AtStart t p = refl
agrees (AtCreate n) (Word W.Create) p = refl
agrees (AtCreate n) t p = refl
agrees (InExpr o fs n) t p = expr_agrees o fs n t p
agrees (AtStat k ss) t p = stat_agrees k ss t p
agrees (AtIf k ss q) t p = if_agrees k ss q t p
agrees (AtElse k ss e zs) t p = else_agrees k ss e zs t p
agrees s t p = same (step true s t p)

abbrev pub IsRead : End → Type 0
IsRead (Read m) = Unit {0}
IsRead u = ⊥

abbrev pub rest_of : End → List Mark
rest_of (Expected r) = r
rest_of u = []

pub not_expected : (u : End) (m : Module) (r : List Mark) → u ≡ Read m → u ≡ Expected r → ⊥
not_expected u m r h k = subst IsRead (sym h ∙ k) tt

pub not_deep : (u : End) (m : Module) (p : Place) → u ≡ Read m → u ≡ Deep p → ⊥
not_deep u m p h k = subst IsRead (sym h ∙ k) tt

unread : (u : StepInside) (m : Module) → too_deep u ≡ Read m → ⊥
unread (TooDeepInside p) m h = not_deep (Deep p) m p h refl
unread (GoesInside gs n) m h = not_expected (Expected []) m [] h refl
unread (StopsInside gs a) m h = not_expected (Expected []) m [] h refl
unread RefusesInside m h = not_expected (Expected []) m [] h refl

-- the end of a module is so for every depth
pub finish_alike : (s : State) (m : Module) → finish false s ≡ Read m → finish true s ≡ Read m
finish_alike (AtItem n) m h = h
finish_alike (InExpr o fs n) m h = absurd (unread (last_inside false fs n) m h)
finish_alike s m h = absurd (not_expected (Expected []) m [] h refl)

pub finish_loose : (s : State) (m : Module) → finish true s ≡ Read m → finish false s ≡ Read m
finish_loose (AtItem n) m h = h
finish_loose (InExpr o fs n) m h = absurd (unread (last_inside true fs n) m h)
finish_loose s m h = absurd (not_expected (Expected []) m [] h refl)

pub finish_rest : (s : State) (r : List Mark) → finish true s ≡ Expected r → r ≡ []
finish_rest (AtItem n) r h = absurd (not_expected (Read n) n r refl h)
finish_rest (InExpr o fs n) r h = sym (ap rest_of h) ∙ on (last_inside true fs n)
  where
    on : (u : StepInside) → rest_of (too_deep u) ≡ []
    on (TooDeepInside p) = refl
    on (GoesInside gs k) = refl
    on (StopsInside gs a) = refl
    on RefusesInside = refl
finish_rest s r h = sym (ap rest_of h)

-- a step that ends the reading
abbrev pub Stopped : Step → Type 0
Stopped (Goes s) = ⊥
Stopped u = Unit {0}

abbrev pub nothing : State → End
nothing s = Expected []

abbrev pub HaltsAt : State → List Mark → End → Type 0
HaltsAt u [] end = finish true u ≡ end
HaltsAt u (t ∷ r) end = Stopped (step true u t.content t.place) × (after (step true u t.content t.place) (t ∷ r) nothing ≡ end)

-- reading the marks leads from one state to the other
abbrev pub Along : State → List Mark → State → Type 0
Along s [] u = s ≡ u
Along s (t ∷ ts) u = (v : State) × (step true s t.content t.place ≡ Goes v) × Along v ts u

-- the reading comes to a state and ends there
pub record Halt (s : State) (ts all : List Mark) (end : End) : Type 0 where
  pub front : List Mark
  pub rest : List Mark
  pub whole : ts ≡ front ++ rest
  pub state : State
  pub stands : Stands true state rest all
  pub leads : (b : Bool) (more : List Mark) → run b s (front ++ more) ≡ run b state more
  pub along : Along s front state
  pub here : HaltsAt state rest end

pub halts : (ts : List Mark) (s : State) (all : List Mark) → Stands true s ts all → Halt s ts all (run true s ts)
halts [] s all st = record { front = []; rest = []; whole = refl; state = s; stands = st; leads = λ b more. refl; along = refl; here = refl }
halts (t ∷ ts) s all st = on (λ u h. halts ts u all h) (step true s t.content t.place) refl (step_stands true s t.content t.place ts all st)
  where
    at_once : (v : Step) → step true s t.content t.place ≡ v → Stopped v → after v (t ∷ ts) nothing ≡ after v (t ∷ ts) (λ u. run true u ts) → Halt s (t ∷ ts) all (after v (t ∷ ts) (λ u. run true u ts))
    at_once v h e k = record {
      front = [];
      rest = t ∷ ts;
      whole = refl;
      state = s;
      stands = st;
      leads = λ b more. refl;
      along = refl;
      here = (subst Stopped (sym h) e, ap (λ w. after w (t ∷ ts) nothing) h ∙ k);
    }

    both : (u : State) → step true s t.content t.place ≡ Goes u → (b : Bool) → step b s t.content t.place ≡ Goes u
    both u h true = h
    both u h false = subst (λ w. Agrees w (step false s t.content t.place)) h (agrees s t.content t.place)

    on : ((u : State) → Stands true u ts all → Halt u ts all (run true u ts)) → (v : Step) → step true s t.content t.place ≡ v → StepStands true ts all v → Halt s (t ∷ ts) all (after v (t ∷ ts) (λ u. run true u ts))
    on again (Goes u) h i =
        let x = again u i in
        record {
          front = t ∷ x.front;
          rest = x.rest;
          whole = ap (λ l. t ∷ l) x.whole;
          state = x.state;
          stands = x.stands;
          leads = λ b more. ap (λ w. after w (t ∷ (x.front ++ more)) (λ v. run b v (x.front ++ more))) (both u h b) ∙ x.leads b more;
          along = (u, h, x.along);
          here = x.here;
        }
    on again Refuses h i = at_once Refuses h tt refl
    on again (TooDeep p) h i = at_once (TooDeep p) h tt refl

-- a step that refuses does so whatever follows, and without depth
pub refuses_all : (v w : Step) (t : Mark) (r s more : List Mark) (k : State → End) → Stopped v → after v (t ∷ r) nothing ≡ Expected s → Agrees v w → after w (t ∷ more) k ≡ Expected (t ∷ more)
refuses_all (Goes u) w t r s more k e h g = absurd e
refuses_all Refuses w t r s more k e h g = ap (λ x. after x (t ∷ more) k) g
refuses_all (TooDeep p) w t r s more k e h g = absurd (subst IsDeep h tt)
  where
    IsDeep : End → Type 0
    IsDeep (Deep p) = Unit {0}
    IsDeep u = ⊥

pub too_deep_all : (v : Step) (t : Mark) (r more : List Mark) (p : Place) (k : State → End) → Stopped v → after v (t ∷ r) nothing ≡ Deep p → after v (t ∷ more) k ≡ Deep p
too_deep_all (Goes u) t r more p k e h = absurd e
too_deep_all Refuses t r more p k e h = absurd (subst IsExpected h tt)
  where
    IsExpected : End → Type 0
    IsExpected (Expected r) = Unit {0}
    IsExpected u = ⊥
too_deep_all (TooDeep q) t r more p k e h = h
