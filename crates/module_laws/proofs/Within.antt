-- An expression within a module breaks where it does alone.
use Rattle.std.proofs.Common.{◌≡◌, ℕ, ◌+◌, List, [], ◌∷◌, ◌++◌, length, refl, sym, ap, ◌∙◌, subst, arith, append_assoc, length-append}
use Rattle.std.specs.Prelude.{true, false, map, Some}
use Rattle.std.proofs.lemmas.List.{map-append, length-map}
use Rattle.atl_base.specs.declared.place.Place.{Place}
use Rattle.atl_tree.specs.declared.expr.Expr.{Expr}
use Rattle.ocl_parse.specs.declared.frame.Frame.{Frame}
use Rattle.ocl_parse.specs.declared.frame.Next.{Next}
use Rattle.ocl_parse.specs.declared.frame.Next.TheVariants as N
use Rattle.ocl_parse.specs.Symbols.{Lexeme}
use Rattle.ocl_parse.specs.Grammar.{Written, spelt}
use Rattle.ocl_parse.specs.TooDeep.{deep_after}
use Rattle.ocl_parse.specs.Laws.{Matches as MatchesInside}
use Rattle.ocl_parse.specs.Machine.{step as step_inside, last as last_inside, over, ended, after as after_inside, run as run_inside, Step as StepInside, Goes as GoesInside, Stops as StopsInside, Refuses as RefusesInside, TooDeep as TooDeepInside, End as EndInside, Expected as ExpectedInside, Deep as DeepInside}
use Rattle.ocl_parse.proofs.Halts.{place_at, IsSome, IsDeep as IsDeepInside, rest_of as rest_inside, over_rest, over_shallow}
use Rattle.ocl_parse.proofs.Deeper.{OnlyDeep, stuck, stuck_only}
use Rattle.ocl_parse.proofs.Breaks.{Broken as BrokenInside, tries}
use Rattle.module_grammar.specs.Marks.{Shared, Mark, shared, expression}
use Rattle.module_grammar.specs.Grammar.{Whole}
use Rattle.module_states.specs.Machine.{ForExpr, State, InExpr, expr_goes, too_deep, Expected, Deep, after, run}
use Rattle.module_laws.specs.Laws.{Matches}

-- the reading waits for an expression behind so many marks, and the one that begins there is too deep, whatever stands
-- behind the mark after it
pub record Broken (s : State) (ts : List Mark) (k : ℕ) : Type 0 where
  pub front : List Mark
  pub t : Mark
  pub tail : List Mark
  pub whole : ts ≡ front ++ (t ∷ tail)
  pub count : length front ≡ k
  pub breaks : (r : List Mark) → Matches r tail → run true s (front ++ (t ∷ r)) ≡ Deep t.place
  pub waits : run true s front ≡ Expected []

not_both : (x : EndInside) (r : List Lexeme) (p : Place) → x ≡ ExpectedInside r → x ≡ DeepInside p → ⊥
not_both x r p h k = subst IsDeepInside (sym k ∙ h) tt

over_not : (gs : List Frame) (e : Expr) (r : List Lexeme) (p : Place) → over gs e r ≡ DeepInside p → ⊥
over_not gs e r p h = over_shallow gs e r (subst IsDeepInside (sym h) tt)

pub deep_within : (ts : List Lexeme) (fs : List Frame) (n : Next) (o : ForExpr) (p : Place) → run_inside true fs n ts ≡ DeepInside p → run true (InExpr o fs n) (map shared ts) ≡ Deep p
deep_within [] fs n o p h = on (last_inside true fs n) h
  where
    on : (u : StepInside) → after_inside u [] ended ≡ DeepInside p → too_deep u ≡ Deep p
    on (TooDeepInside q) h = ap (λ x. Deep (place_at q x)) h
    on (GoesInside gs m) h = absurd (not_both (ExpectedInside []) [] p refl h)
    on (StopsInside gs a) h = absurd (over_not gs a [] p h)
    on RefusesInside h = absurd (not_both (ExpectedInside []) [] p refl h)
deep_within (t ∷ ts) fs n o p h = on (λ gs m. deep_within ts gs m o p) (step_inside true fs n t.symbol t.place) refl h
  where
    on : ((gs : List Frame) (m : Next) → run_inside true gs m ts ≡ DeepInside p → run true (InExpr o gs m) (map shared ts) ≡ Deep p) → (u : StepInside) → step_inside true fs n t.symbol t.place ≡ u → after_inside u (t ∷ ts) (λ gs m. run_inside true gs m ts) ≡ DeepInside p → run true (InExpr o fs n) (shared t ∷ map shared ts) ≡ Deep p
    on again (GoesInside gs m) e h = ap (λ v. after (expr_goes o (Shared t.symbol) v) (shared t ∷ map shared ts) (λ u. run true u (map shared ts))) e ∙ again gs m h
    on again (TooDeepInside q) e h = ap (λ v. after (expr_goes o (Shared t.symbol) v) (shared t ∷ map shared ts) (λ u. run true u (map shared ts))) e ∙ ap (λ x. Deep (place_at q x)) h
    on again (StopsInside gs a) e h = absurd (over_not gs a (t ∷ ts) p h)
    on again RefusesInside e h = absurd (not_both (ExpectedInside (t ∷ ts)) (t ∷ ts) p refl h)

-- the symbol behind decides, whatever follows
deep_before : (ts : List Lexeme) (fs : List Frame) (n : Next) (o : ForExpr) (y : Lexeme) (p q : Place) (more : List Mark) → run_inside true fs n ts ≡ DeepInside p → run_inside true fs n (ts ++ (y ∷ [])) ≡ DeepInside q
    → run true (InExpr o fs n) (map shared ts ++ (shared y ∷ more)) ≡ Deep q
deep_before [] fs n o y p q more h k = on (step_inside true fs n y.symbol y.place) refl k
  where
    on : (u : StepInside) → step_inside true fs n y.symbol y.place ≡ u → after_inside u (y ∷ []) (λ gs m. run_inside true gs m []) ≡ DeepInside q → run true (InExpr o fs n) (shared y ∷ more) ≡ Deep q
    on (GoesInside gs m) e k = absurd ((subst OnlyDeep e (stuck_only fs n y.symbol y.place (stuck fs n p h))) (stuck gs m q k))
    on (TooDeepInside z) e k = ap (λ v. after (expr_goes o (Shared y.symbol) v) (shared y ∷ more) (λ u. run true u more)) e ∙ ap (λ x. Deep (place_at z x)) k
    on (StopsInside gs a) e k = absurd (over_not gs a (y ∷ []) q k)
    on RefusesInside e k = absurd (not_both (ExpectedInside (y ∷ [])) (y ∷ []) q refl k)
deep_before (t ∷ ts) fs n o y p q more h k = on (λ gs m. deep_before ts gs m o y p q more) (step_inside true fs n t.symbol t.place) refl h k
  where
    on : ((gs : List Frame) (m : Next) → run_inside true gs m ts ≡ DeepInside p → run_inside true gs m (ts ++ (y ∷ [])) ≡ DeepInside q → run true (InExpr o gs m) (map shared ts ++ (shared y ∷ more)) ≡ Deep q)
        → (u : StepInside) → step_inside true fs n t.symbol t.place ≡ u → after_inside u (t ∷ ts) (λ gs m. run_inside true gs m ts) ≡ DeepInside p → after_inside (step_inside true fs n t.symbol t.place) (t ∷ (ts ++ (y ∷ []))) (λ gs m. run_inside true gs m (ts ++ (y ∷ []))) ≡ DeepInside q
        → run true (InExpr o fs n) (shared t ∷ (map shared ts ++ (shared y ∷ more))) ≡ Deep q
    on again (GoesInside gs m) e h k =
        ap (λ v. after (expr_goes o (Shared t.symbol) v) (shared t ∷ (map shared ts ++ (shared y ∷ more))) (λ u. run true u (map shared ts ++ (shared y ∷ more)))) e
        ∙ again gs m h (sym (ap (λ v. after_inside v (t ∷ (ts ++ (y ∷ []))) (λ hs j. run_inside true hs j (ts ++ (y ∷ [])))) e) ∙ k)
    on again (TooDeepInside z) e h k =
        ap (λ v. after (expr_goes o (Shared t.symbol) v) (shared t ∷ (map shared ts ++ (shared y ∷ more))) (λ u. run true u (map shared ts ++ (shared y ∷ more)))) e
        ∙ ap (λ x. Deep (place_at z x)) (sym (ap (λ v. after_inside v (t ∷ (ts ++ (y ∷ []))) (λ hs j. run_inside true hs j (ts ++ (y ∷ [])))) e) ∙ k)
    on again (StopsInside gs a) e h k = absurd (over_not gs a (t ∷ ts) p h)
    on again RefusesInside e h k = absurd (not_both (ExpectedInside (t ∷ ts)) (t ∷ ts) p refl h)

some_rest : (x : EndInside) (t : Lexeme) (ts : List Lexeme) → rest_inside x ≡ t ∷ ts → x ≡ ExpectedInside [] → ⊥
some_rest x t ts h k = subst IsSome (sym h ∙ ap rest_inside k) tt

waits_within : (ts : List Lexeme) (fs : List Frame) (n : Next) (o : ForExpr) → run_inside true fs n ts ≡ ExpectedInside [] → run true (InExpr o fs n) (map shared ts) ≡ Expected []
waits_within [] fs n o h = on (last_inside true fs n) h
  where
    on : (u : StepInside) → after_inside u [] ended ≡ ExpectedInside [] → too_deep u ≡ Expected []
    on (TooDeepInside q) h = absurd (not_both (DeepInside q) [] q h refl)
    on (GoesInside gs m) h = refl
    on (StopsInside gs a) h = refl
    on RefusesInside h = refl
waits_within (t ∷ ts) fs n o h = on (λ gs m. waits_within ts gs m o) (step_inside true fs n t.symbol t.place) refl h
  where
    on : ((gs : List Frame) (m : Next) → run_inside true gs m ts ≡ ExpectedInside [] → run true (InExpr o gs m) (map shared ts) ≡ Expected []) → (u : StepInside) → step_inside true fs n t.symbol t.place ≡ u
        → after_inside u (t ∷ ts) (λ gs m. run_inside true gs m ts) ≡ ExpectedInside [] → run true (InExpr o fs n) (shared t ∷ map shared ts) ≡ Expected []
    on again (GoesInside gs m) e h = ap (λ v. after (expr_goes o (Shared t.symbol) v) (shared t ∷ map shared ts) (λ u. run true u (map shared ts))) e ∙ again gs m h
    on again (TooDeepInside q) e h = absurd (not_both (DeepInside q) [] q h refl)
    on again (StopsInside gs a) e h = absurd (some_rest (over gs a (t ∷ ts)) t ts (over_rest gs a (t ∷ ts)) h)
    on again RefusesInside e h = absurd (some_rest (ExpectedInside (t ∷ ts)) t ts refl h)

-- an expression before a symbol
pub tries_expr : (e : Written) (o : ForExpr) (v : Lexeme) (z : List Mark) (j : ℕ) → Whole false e → deep_after 0 e ≡ Some j → Broken (InExpr o [] N.Operand) (expression e ++ (shared v ∷ z)) j
tries_expr e o v z j f h = make (tries e 0 [] (v ∷ []) j f tt h) (tries e 0 [] [] j f tt h)
  where
    make : BrokenInside [] N.Operand (spelt e ++ (v ∷ [])) j → BrokenInside [] N.Operand (spelt e ++ []) j → Broken (InExpr o [] N.Operand) (expression e ++ (shared v ∷ z)) j
    make x y = on x.tail refl
      where
        more : length x.tail ≡ length y.tail + 1
        more =
            let one = sym (length-append (spelt e) (v ∷ [])) ∙ ap length x.whole ∙ length-append x.front (x.t ∷ x.tail) in
            let two = sym (length-append (spelt e) []) ∙ ap length y.whole ∙ length-append y.front (y.t ∷ y.tail) in
            omega (arith, one, two, x.count, y.count)

        on : (tail : List Lexeme) → x.tail ≡ tail → Broken (InExpr o [] N.Operand) (expression e ++ (shared v ∷ z)) j
        on [] i = absurd (let n : length x.tail ≡ 0 = ap length i in omega (arith, more, n))
        on (u ∷ tail) i = record {
          front = map shared x.front;
          t = shared x.t;
          tail = shared u ∷ (map shared tail ++ z);
          whole =
              sym (append_assoc (expression e) (shared v ∷ []) z) ∙ ap (λ l. l ++ z) (sym (map-append shared (spelt e) (v ∷ [])) ∙ ap (map shared) (x.whole ∙ ap (λ l. x.front ++ (x.t ∷ l)) i) ∙ map-append shared x.front (x.t ∷ u ∷ tail))
              ∙ append_assoc (map shared x.front) (shared x.t ∷ shared u ∷ map shared tail) z;
          count = length-map x.front shared ∙ x.count;
          breaks = λ r a. breaks r a;
          waits = waits_within x.front [] N.Operand o x.waits;
        }
          where
            matched : x.tail ≡ u ∷ tail → MatchesInside (u ∷ []) x.tail
            matched i = subst (MatchesInside (u ∷ [])) (sym i) refl

            breaks : (r : List Mark) → Matches r (shared u ∷ (map shared tail ++ z)) → run true (InExpr o [] N.Operand) (map shared x.front ++ (shared x.t ∷ r)) ≡ Deep x.t.place
            breaks [] a = ap (run true (InExpr o [] N.Operand)) (sym (map-append shared x.front (x.t ∷ []))) ∙ deep_within (x.front ++ (x.t ∷ [])) [] N.Operand o x.t.place (x.breaks [] tt)
            breaks (w ∷ r) a =
                ap (λ l. run true (InExpr o [] N.Operand) (map shared x.front ++ (shared x.t ∷ l ∷ r))) a
                ∙ ap (run true (InExpr o [] N.Operand)) (sym (append_assoc (map shared x.front) (shared x.t ∷ []) (shared u ∷ r)) ∙ ap (λ l. l ++ (shared u ∷ r)) (sym (map-append shared x.front (x.t ∷ []))))
                ∙ deep_before (x.front ++ (x.t ∷ [])) [] N.Operand o u x.t.place x.t.place r (x.breaks [] tt)
                (ap (run_inside true [] N.Operand) (append_assoc x.front (x.t ∷ []) (u ∷ [])) ∙ x.breaks (u ∷ []) (matched i))
