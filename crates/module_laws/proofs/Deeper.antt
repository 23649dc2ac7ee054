-- Where reading finds an expression too deep, a module can be written that goes on so.
use Rattle.std.proofs.Common.{◌≡◌, suc, List, [], ◌∷◌, ◌++◌, refl, sym, ap, ◌∙◌, subst}
use Rattle.std.specs.Prelude.{Bool, true, false, if◌then◌else◌}
use Rattle.atl_base.specs.declared.place.Place.{Place}
use Rattle.atl_tree.specs.declared.name.Name.{Name}
use Rattle.atl_tree.specs.declared.module.Module.{Module}
use Rattle.ocl_parse.specs.declared.sign.Ender.TheVariants as E
use Rattle.ocl_parse.specs.declared.sign.Sign.TheVariants as S
use Rattle.ocl_parse.specs.declared.frame.Callee.{Callee}
use Rattle.ocl_parse.specs.declared.frame.Frame.{Frame}
use Rattle.ocl_parse.specs.declared.frame.Next.TheVariants as N
use Rattle.ocl_parse.specs.Depth.{deep, is_shallow}
use Rattle.ocl_parse.specs.Machine.{argued, first as first_inside, step as step_inside, last as last_inside, ended, after as after_inside, Step as StepInside, Goes as GoesInside, Stops as StopsInside, Refuses as RefusesInside, TooDeep as TooDeepInside}
use Rattle.ocl_parse.proofs.Completes.{put}
use Rattle.ocl_parse.proofs.Halts.{Ends}
use Rattle.ocl_parse.proofs.Deeper.{IsStuck as IsStuckInside, OnlyDeep as OnlyDeepInside, first_at, stuck as stuck_inside, stuck_only as stuck_only_inside, stuck_last as stuck_last_inside}
use Rattle.module_grammar.specs.declared.keyword.Keyword.TheVariants as W
use Rattle.module_grammar.specs.Marks.{Content, Word, Mark, symbol, shared}
use Rattle.module_states.specs.Machine.{ForExpr, ForStat, State, AtStart, AtItem, InExpr, Step, Goes, Refuses, TooDeep, expr_goes, assigns, step, End, Read, Expected, Deep, too_deep, finish, after, run}
use Rattle.module_laws.proofs.Stands.{Stands, StepStands}
use Rattle.module_laws.proofs.SoundStats.{step_stands}
use Rattle.module_laws.proofs.Ends.{completes}
use Rattle.module_laws.proofs.Halts.{Agrees, agrees, not_deep, Stopped, nothing, HaltsAt, Along}
use Rattle.module_laws.proofs.Within.{deep_within}
use Rattle.module_laws.proofs.Loosely.{IsTooDeep, GoesOn, IsStuck, loosely}

abbrev pub IsDeep : End → Type 0
IsDeep (Deep p) = Unit {0}
IsDeep u = ⊥

abbrev pub place_at : Place → End → Place
place_at d (Deep p) = p
place_at d u = d

pub not_both : (x : End) (r : List Mark) (p : Place) → x ≡ Expected r → x ≡ Deep p → ⊥
not_both x r p h k = subst IsDeep (sym k ∙ h) tt

-- where the end of a text is too deep
pub stuck : (s : State) (p : Place) → finish true s ≡ Deep p → IsStuck s
stuck (AtItem m) p h = absurd (not_deep (Read m) m p refl h)
stuck (InExpr o fs n) p h = on (last_inside true fs n) refl h
  where
    on : (u : StepInside) → last_inside true fs n ≡ u → too_deep u ≡ Deep p → IsStuckInside fs n
    on (TooDeepInside q) e h = stuck_inside fs n q (ap (λ v. after_inside v [] ended) e)
    on (GoesInside gs m) e h = absurd (not_both (Expected []) [] p refl h)
    on (StopsInside gs a) e h = absurd (not_both (Expected []) [] p refl h)
    on RefusesInside e h = absurd (not_both (Expected []) [] p refl h)
stuck s p h = absurd (not_both (Expected []) [] p refl h)

-- from there, reading goes on with a variable alone
abbrev pub OnlyDeep : Step → Type 0
OnlyDeep (Goes u) = IsStuck u → ⊥
OnlyDeep (TooDeep p) = Unit {0}
OnlyDeep Refuses = ⊥

assigns_first : (t : Content) (o : ForExpr) (fs : List Frame) (c : Callee) (x : Name) (u : Step) → assigns t o fs (N.First c x) u ≡ u
assigns_first (Word W.Gives) (ForStat k ss) fs c x u = refl
assigns_first (Word W.Gives) o fs c x u = refl
assigns_first t o fs c x u = refl

only_goes : (o : ForExpr) (t : Content) (u : StepInside) → OnlyDeepInside u → OnlyDeep (expr_goes o t u)
only_goes o t (GoesInside gs m) h = h
only_goes o t (TooDeepInside p) h = tt
only_goes o t (StopsInside gs a) h = absurd h
only_goes o t RefusesInside h = absurd h

pub stuck_only : (s : State) (t : Content) (p : Place) → IsStuck s → OnlyDeep (step true s t p)
stuck_only (InExpr o fs (N.First c x)) t p d =
    let u = step_inside true fs (N.First c x) (symbol t) p in
    subst OnlyDeep (sym (assigns_first t o fs c x (expr_goes o t u))) (only_goes o t u (stuck_only_inside fs (N.First c x) (symbol t) p d))
stuck_only (InExpr o fs n) t p d = absurd d
stuck_only s t p d = absurd d

pub stuck_last : (s : State) → IsStuck s → (p : Place) × (finish true s ≡ Deep p)
stuck_last (InExpr o fs n) d = let x = stuck_last_inside fs n d in (x.0, deep_within [] fs n o x.0 x.1)
stuck_last s d = absurd d

only_deep : (u : Step) (rest r : List Mark) → Stopped u → OnlyDeep u → after u rest nothing ≡ Expected r → ⊥
only_deep (Goes v) rest r e o h = e
only_deep Refuses rest r e o h = o
only_deep (TooDeep p) rest r e o h = not_both (Deep p) r p h refl

-- it refuses nothing
pub stuck_halts : (s : State) (rest r : List Mark) → IsStuck s → HaltsAt s rest (Expected r) → ⊥
stuck_halts s [] r d k = let x = stuck_last s d in not_both (finish true s) r x.0 k x.1
stuck_halts s (t ∷ rest) r d k = only_deep (step true s t.content t.place) (t ∷ rest) r k.0 (stuck_only s t.content t.place d) k.1

-- and what is too deep is the name
stuck_place : (o : ForExpr) (fs : List Frame) (c : Callee) (x : Name) (rest : List Mark) (p : Place) → IsStuckInside fs (N.First c x) → HaltsAt (InExpr o fs (N.First c x)) rest (Deep p) → x.place ≡ p
stuck_place o fs c x [] p d k = (subst (λ b. too_deep (if b then RefusesInside else TooDeepInside x.place) ≡ Deep p → x.place ≡ p) (sym d) (λ h. ap (place_at x.place) h)) k
stuck_place o fs c x (t ∷ rest) p d k =
    let u = first_inside true fs c x (symbol t.content) t.place in
    let e = assigns_first t.content o fs c x (expr_goes o t.content u) in
    on u refl (stuck_only_inside fs (N.First c x) (symbol t.content) t.place d) (subst Stopped e k.0) (sym (ap (λ v. after v (t ∷ rest) nothing) e) ∙ k.1)
  where
    on : (u : StepInside) → first_inside true fs c x (symbol t.content) t.place ≡ u → OnlyDeepInside u → Stopped (expr_goes o t.content u) → after (expr_goes o t.content u) (t ∷ rest) nothing ≡ Deep p → x.place ≡ p
    on (GoesInside gs m) e i n h = absurd n
    on (TooDeepInside q) e i n h =
        (first_at fs c x (symbol t.content) t.place [] q (subst Ends (sym e) tt) (ap (λ v. after_inside v [] ended) e)).1 ∙ ap (place_at q) h
    on (StopsInside gs a) e i n h = absurd i
    on RefusesInside e i n h = absurd i

stopped : (v : Step) (t : Mark) (rest : List Mark) (p : Place) → Stopped v → after v (t ∷ rest) nothing ≡ Deep p → v ≡ TooDeep p
stopped (Goes u) t rest p n h = absurd n
stopped Refuses t rest p n h = absurd (not_both (Expected (t ∷ rest)) (t ∷ rest) p refl h)
stopped (TooDeep q) t rest p n h = ap (λ x. TooDeep (place_at q x)) h

-- both begin with the same mark
abbrev pub Meets : List Mark → List Mark → Type 0
Meets (t ∷ rest) (u ∷ more) = t ≡ u
Meets rest more = ⊥

-- marks that end what is open, and with the depth break at the place, as the rest does
pub record Deeper (s : State) (rest : List Mark) (p : Place) : Type 0 where
  pub more : List Mark
  pub tree : Module
  pub loose : run false s more ≡ Read tree
  pub meets : (IsStuck s → ⊥) → Meets rest more
  pub here : HaltsAt s more (Deep p)

stands_on : (front : List Mark) (s u : State) (l all : List Mark) → Along s front u → Stands false s (front ++ l) all → Stands false u l all
stands_on [] s u l all a st = subst (λ v. Stands false v l all) a st
stands_on (t ∷ front) s u l all a st =
    let loose : step false s t.content t.place ≡ Goes a.0 = subst (λ w. Agrees w (step false s t.content t.place)) a.1 (agrees s t.content t.place) in
    stands_on front a.0 u l all a.2 (subst (StepStands false (front ++ l) all) loose (step_stands false s t.content t.place (front ++ l) all st))

-- a mark that is too deep, and what ends all behind it
record Ended (s : State) (t : Mark) : Type 0 where
  pub more : List Mark
  pub tree : Module
  pub loose : run false s (t ∷ more) ≡ Read tree

end_behind : (front : List Mark) (s : State) (t : Mark) → Along AtStart front s → GoesOn (step false s t.content t.place) → Ended s t
end_behind front s t a g = on (step false s t.content t.place) refl g
  where
    all : List Mark
    all = front ++ (t ∷ [])

    on : (v : Step) → step false s t.content t.place ≡ v → GoesOn v → Ended s t
    on (Goes u) e g =
        let c = completes false u [] all (subst (StepStands false [] all) e (step_stands false s t.content t.place [] all (stands_on front AtStart s (t ∷ []) all a refl))) in
        record { more = c.more; tree = c.ends.0; loose = ap (λ v. after v (t ∷ c.more) (λ w. run false w c.more)) e ∙ c.ends.1 }
    on Refuses e g = absurd g
    on (TooDeep p) e g = absurd g

elsewhere : (front : List Mark) (s : State) (rest : List Mark) (p : Place) → Along AtStart front s → (IsStuck s → ⊥) → HaltsAt s rest (Deep p) → Deeper s rest p
elsewhere front s [] p a n k = absurd (n (stuck s p k))
elsewhere front s (t ∷ rest) p a n k =
    let h = stopped (step true s t.content t.place) t rest p k.0 k.1 in
    let x = end_behind front s t a (loosely s t.content t.place n (subst IsTooDeep (sym h) tt)) in
    record { more = t ∷ x.more; tree = x.tree; loose = x.loose; meets = λ z. refl; here = (k.0, ap (λ v. after v (t ∷ x.more) nothing) h) }

abbrev IsFalse : Bool → Type 0
IsFalse false = Unit {0}
IsFalse true = ⊥

at_name : (front : List Mark) (o : ForExpr) (fs : List Frame) (c : Callee) (x : Name) (rest : List Mark) (p : Place) → Along AtStart front (InExpr o fs (N.First c x)) → IsStuckInside fs (N.First c x) → HaltsAt (InExpr o fs (N.First c x)) rest (Deep p)
    → Deeper (InExpr o fs (N.First c x)) rest p
at_name front o fs c x rest p a d k =
    let s = InExpr o fs (N.First c x) in
    let close = put (S.End E.Close) in
    let t = shared close in
    let breaks : argued true fs c x close.symbol close.place ≡ TooDeepInside x.place = rw d refl in
    let h : step true s t.content t.place ≡ TooDeep x.place = ap (expr_goes o t.content) breaks in
    let y = end_behind front s t a tt in
    record {
      more = t ∷ y.more;
      tree = y.tree;
      loose = y.loose;
      meets = λ z. absurd (z d);
      here = (subst Stopped (sym h) tt, ap (λ v. after v (t ∷ y.more) nothing) h ∙ ap Deep (stuck_place o fs c x rest p d k));
    }

pub deeper : (front : List Mark) (s : State) (rest : List Mark) (p : Place) → Along AtStart front s → HaltsAt s rest (Deep p) → Deeper s rest p
deeper front (InExpr o fs (N.First c x)) rest p a k = on (is_shallow true (suc (deep fs))) refl
  where
    on : (b : Bool) → is_shallow true (suc (deep fs)) ≡ b → Deeper (InExpr o fs (N.First c x)) rest p
    on true e = elsewhere front (InExpr o fs (N.First c x)) rest p a (λ z. subst IsFalse (sym z ∙ e) tt) k
    on false e = at_name front o fs c x rest p a e k
deeper front (InExpr o fs n) rest p a k = elsewhere front (InExpr o fs n) rest p a (λ z. z) k
deeper front s rest p a k = elsewhere front s rest p a (λ z. z) k
