-- Reading is exact: what is read is of the grammar, all of the grammar is read, and each refusal is where no module goes on.
use Rattle.std.proofs.Common.{◌≡◌, ⊎_elim, ℕ, ◌+◌, List, [], ◌∷◌, ◌++◌, length, refl, sym, ap, ◌∙◌, subst, arith, append_assoc, length-append}
use Rattle.std.specs.Prelude.{true, false, Option, Some}
use Rattle.std.specs.Prelude.{None as Nowhere}
use Rattle.std.proofs.lemmas.List.{append-nil}
use Rattle.atl_base.specs.declared.place.Place.{Place}
use Rattle.atl_tree.specs.declared.module.Module.{Module}
use Rattle.module_grammar.specs.Marks.{Mark}
use Rattle.module_grammar.specs.Grammar.{WrittenModule, ModuleFits, module_marks, module_tree, IsModule}
use Rattle.module_laws.specs.TooDeep.{deep_in}
use Rattle.module_states.specs.Machine.{State, AtStart, Step, Goes, Refuses, TooDeep, step, End, Read, Expected, Deep, finish, after, run, read}
use Rattle.module_laws.specs.Laws.{GoesOn, StopsAt, NoneEnds, IsShallow, Matches, AllDeep, Tells, Exact, HasOne}
use Rattle.module_laws.proofs.Accepts.{accepts}
use Rattle.module_laws.proofs.Stands.{Stands}
use Rattle.module_laws.proofs.SoundStats.{ReadOf, sound}
use Rattle.module_laws.proofs.Ends.{completes}
use Rattle.module_laws.proofs.Halts.{agrees, rest_of, not_expected, not_deep, finish_alike, finish_rest, finish_loose, Stopped, nothing, HaltsAt, Halt, halts, refuses_all, too_deep_all}
use Rattle.module_laws.proofs.Breaks.{fit_module}
use Rattle.module_laws.proofs.Loosely.{IsStuck}
use Rattle.module_laws.proofs.Deeper.{stuck_last, Meets, Deeper, deeper}
use Rattle.module_laws.proofs.Only.{expected_deep, read_deep, deep_same, expected_same, expected_read}
use Rattle.module_laws.proofs.Found.{Waits, FirstAt, Found, found, unfound}

-- where a text can go on
goes_on : (front rest all : List Mark) (s : State) → Stands true s rest all → ((more : List Mark) → read false (front ++ more) ≡ run false s more) → GoesOn front
goes_on front rest all s st h =
    let c = completes true s rest all st in
    (c.more, c.ends.0, subst (ReadOf false (front ++ c.more)) (h c.more ∙ c.ends.1) (sound false (front ++ c.more) AtStart (front ++ c.more) refl))

stops : (front rest : List Mark) (s : State) (r : List Mark) → ((more : List Mark) → read false (front ++ more) ≡ run false s more) → HaltsAt s rest (Expected r) → StopsAt false front rest
stops front [] s r h k = λ m x.
    not_expected (finish true s) m r (finish_alike s m (sym (h []) ∙ ap (read false) (append-nil front) ∙ accepts false front m x)) k
stops front (t ∷ rest) s r h k = λ more m x.
    not_expected (run false s (t ∷ more)) m (t ∷ more) (sym (h (t ∷ more)) ∙ accepts false (front ++ (t ∷ more)) m x)
    (refuses_all (step true s t.content t.place) (step false s t.content t.place) t rest r more (λ u. run false u more) k.0 k.1 (agrees s t.content t.place))

-- where reading halts the rest is the answer's
halt_rest : (s : State) (rest r : List Mark) → HaltsAt s rest (Expected r) → r ≡ rest
halt_rest s [] r k = finish_rest s r k
halt_rest s (t ∷ rest) r k = on (step true s t.content t.place) k.0 k.1
  where
    on : (v : Step) → Stopped v → after v (t ∷ rest) nothing ≡ Expected r → r ≡ t ∷ rest
    on (Goes u) e h = absurd e
    on Refuses e h = sym (ap rest_of h)
    on (TooDeep p) e h = absurd (subst IsDeep h tt)
      where
        IsDeep : End → Type 0
        IsDeep (Deep p) = Unit {0}
        IsDeep u = ⊥

-- what is read without depth is of the grammar
spoken : (ts : List Mark) (m : Module) → read false ts ≡ Read m → IsModule false ts m
spoken ts m h = subst (ReadOf false ts) h (sound false ts AtStart ts refl)

-- a module in which reading finds an expression too deep has one
deepest : (w : WrittenModule) (p : Place) → ModuleFits false w → read true (module_marks w) ≡ Deep p → (k : ℕ) × (deep_in w ≡ Some k)
deepest w p f h = on (deep_in w) refl
  where
    on : (o : Option ℕ) → deep_in w ≡ o → (k : ℕ) × (deep_in w ≡ Some k)
    on Nowhere e = absurd (not_deep (read true (module_marks w)) (module_tree w) p (accepts true (module_marks w) (module_tree w) (w, fit_module w f e, refl, refl)) h)
    on (Some k) e = (k, e)

runs_deep : (s : State) (more : List Mark) (p : Place) → HaltsAt s more (Deep p) → run true s more ≡ Deep p
runs_deep s [] p k = k
runs_deep s (t ∷ r) p k = too_deep_all (step true s t.content t.place) t r r p (λ v. run true v r) k.0 k.1

-- no module ends where more is waited for
none_waits : (front : List Mark) → Waits front → NoneEnds true front
none_waits front h = λ m x. not_expected (read true front) m [] (accepts true front m x) h

shallow : (ts : List Mark) (r : List Mark) (x : Halt AtStart ts ts (Expected r)) → read true ts ≡ Expected r → IsShallow x.front
shallow ts r x q = λ more w k f e h. unfound w k x.front more x.state f h e (x.leads true) x.rest r x.here (ap (read true) (sym x.whole) ∙ q)

-- where reading halts because of the depth, each module that goes on so has its first expression that is too deep there
module _ (ts : List Mark) (p : Place) (x : Halt AtStart ts ts (Deep p)) where
  abbrev Here : ℕ → List Mark → Place → Type 0
  Here k more q = Found k x.front more x.state q

  here : (w : WrittenModule) (more : List Mark) (q : Place) → ModuleFits false w → module_marks w ≡ x.front ++ more → HaltsAt x.state more (Deep q) → (k : ℕ) × (deep_in w ≡ Some k) × Here k more q
  here w more q f e a =
      let d = deepest w q f (ap (read true) e ∙ x.leads true more ∙ runs_deep x.state more q a) in
      (d.0, d.1, found w d.0 x.front more x.state f d.1 e (x.leads true) q x.along a)

  not_within : (e : Module) (more : List Mark) (q : Place) → IsModule true (x.front ++ more) e → HaltsAt x.state more (Deep q) → ⊥
  not_within e more q f a = not_deep (read true (x.front ++ more)) e q (accepts true (x.front ++ more) e f) (x.leads true more ∙ runs_deep x.state more q a)

  abbrev Result : Type 0
  Result = Tells ts (Deep p)

  -- it begins with the first of the rest
  ahead : (rest : List Mark) → x.rest ≡ rest → (d : Deeper x.state rest p) → (w : WrittenModule) → ModuleFits false w → module_marks w ≡ x.front ++ d.more → (k : ℕ) → deep_in w ≡ Some k
      → (IsStuck x.state → ⊥) → length x.front ≡ k → Waits x.front → FirstAt d.more p → Result
  ahead rest i d w f e k h s c v at = on rest d.more i (d.meets s) e at
    where
      on : (rest more : List Mark) → x.rest ≡ rest → Meets rest more → module_marks w ≡ x.front ++ more → FirstAt more p → Result
      on [] more i m e at = absurd m
      on (t ∷ rest) [] i m e at = absurd m
      on (t ∷ rest) (u ∷ more) i m e at = (
        x.front,
        t,
        rest,
        x.whole ∙ ap (λ l. x.front ++ l) i,
        ap (λ y. y.place) m ∙ at,
        (more, w, f, e ∙ ap (λ y. x.front ++ (y ∷ more)) (sym m), h ∙ ap (λ y. Some y) (sym c)),
        all,
        λ l e z y. not_within e (t ∷ l) p y (halt l),
        none_waits x.front v,
      )
        where
          halt : (l : List Mark) → HaltsAt x.state (t ∷ l) (Deep p)
          halt l =
              let a : HaltsAt x.state (t ∷ rest) (Deep p) = subst (λ y. HaltsAt x.state y (Deep p)) i x.here in
              (a.0, too_deep_all (step true x.state t.content t.place) t rest l p nothing a.0 a.1)

          all : AllDeep x.front t rest
          all = λ l w f e z.
              let g = here w (t ∷ l) p f e (halt l) in
              g.1 ∙ ⊎_elim (λ y. ap (λ j. Some j) (sym y.1)) (λ y. absurd (s y.0)) g.2

  -- it began with the name before the rest
  behind : (more : List Mark) (w : WrittenModule) → ModuleFits false w → module_marks w ≡ x.front ++ more → (k : ℕ) → deep_in w ≡ Some k
      → IsStuck x.state → (front : List Mark) (t : Mark) → x.front ≡ front ++ (t ∷ []) → length front ≡ k → Waits front → t.place ≡ p → Result
  behind more w f e k h s front t i c v at = (
    front,
    t,
    x.rest,
    x.whole ∙ on x.rest,
    at,
    (more, w, f, e ∙ on more, h ∙ ap (λ y. Some y) (sym c)),
    all,
    λ l e z y. let a = halt l x.rest x.here z in not_within e l a.0 (subst (λ j. IsModule true j e) (sym (on l)) y) a.1,
    none_waits front v,
  )
    where
      on : (l : List Mark) → x.front ++ l ≡ front ++ (t ∷ l)
      on l = ap (λ y. y ++ l) i ∙ append_assoc front (t ∷ []) l

      halt : (l rest : List Mark) → HaltsAt x.state rest (Deep p) → Matches l rest → (q : Place) × HaltsAt x.state l (Deep q)
      halt [] rest a z = stuck_last x.state s
      halt (u ∷ l) [] a z = absurd z
      halt (u ∷ l) (y ∷ rest) a z =
          let b : HaltsAt x.state (u ∷ rest) (Deep p) = subst (λ j. HaltsAt x.state (j ∷ rest) (Deep p)) (sym z) a in
          (p, (b.0, too_deep_all (step true x.state u.content u.place) u rest l p nothing b.0 b.1))

      all : AllDeep front t x.rest
      all = λ l w f e z.
          let a = halt l x.rest x.here z in
          let g = here w l a.0 f (e ∙ sym (on l)) a.1 in
          g.1 ∙ ⊎_elim
          (λ y. absurd (y.0 s))
          (λ y. ap (λ j. Some j) (let n : length front + 1 ≡ length y.1 + 1 = sym (length-append front (t ∷ [])) ∙ ap length (sym i ∙ y.3) ∙ length-append y.1 (y.2 ∷ []) in omega (arith, n, y.4)))
          g.2

  tells_deep : Result
  tells_deep =
      let d = deeper x.front x.state x.rest p x.along x.here in
      let w = spoken (x.front ++ d.more) d.tree (x.leads false d.more ∙ d.loose) in
      let g = here w.0 d.more p w.1 w.2 d.here in
      ⊎_elim (λ y. ahead x.rest refl d w.0 w.1 w.2 g.0 g.1 y.0 y.1 y.2 y.3) (λ y. behind d.more w.0 w.1 w.2 g.0 g.1 y.0 y.1 y.2 y.3 y.4 y.5 y.6) g.2

tells : (ts : List Mark) (end : End) → Halt AtStart ts ts end → ReadOf true ts end → read true ts ≡ end → Tells ts end
tells ts (Read m) x y z = y
tells ts (Expected r) x y z =
    let i = halt_rest x.state x.rest r x.here in (
      x.front,
      x.whole ∙ ap (λ l. x.front ++ l) (sym i),
      goes_on x.front x.rest ts x.state x.stands (x.leads false),
      subst (λ l. StopsAt false x.front l) (sym i) (stops x.front x.rest x.state r (x.leads false) x.here),
      shallow ts r x z,
    )
tells ts (Deep p) x y z = tells_deep ts p x

-- a module that fits with the depth fits without it
pub loosened : (ts : List Mark) (m : Module) → IsModule true ts m → IsModule false ts m
loosened ts m h = on (subst (Halt AtStart ts ts) (accepts true ts m h) (halts ts AtStart ts refl))
  where
    on : Halt AtStart ts ts (Read m) → IsModule false ts m
    on x = spoken ts m (ap (read false) x.whole ∙ x.leads false x.rest ∙ last x.rest x.here)
      where
        never : (v : Step) (t : Mark) (r : List Mark) → Stopped v → after v (t ∷ r) nothing ≡ Read m → ⊥
        never (Goes u) t r n k = n
        never Refuses t r n k = not_expected (Expected (t ∷ r)) m (t ∷ r) k refl
        never (TooDeep q) t r n k = not_deep (Deep q) m q k refl

        last : (r : List Mark) → HaltsAt x.state r (Read m) → run false x.state r ≡ Read m
        last [] k = finish_loose x.state m k
        last (t ∷ r) k = absurd (never (step true x.state t.content t.place) t r k.0 k.1)

telling : (ts : List Mark) → Tells ts (read true ts)
telling ts = tells ts (read true ts) (halts ts AtStart ts refl) (sound true ts AtStart ts refl) refl

only : (ts : List Mark) (end : End) → Tells ts end → read true ts ≡ end
only ts (Read m) x = accepts true ts m x
only ts (Expected r) x = on (read true ts) refl (telling ts)
  where
    on : (v : End) → read true ts ≡ v → Tells ts v → read true ts ≡ Expected r
    on (Read m) i y = absurd (expected_read loosened ts r m x y)
    on (Expected s) i y = i ∙ ap Expected (expected_same ts s r y x)
    on (Deep p) i y = absurd (expected_deep ts r p x y)
only ts (Deep p) x = on (read true ts) refl (telling ts)
  where
    on : (v : End) → read true ts ≡ v → Tells ts v → read true ts ≡ Deep p
    on (Read m) i y = absurd (read_deep ts m p y x)
    on (Expected s) i y = absurd (expected_deep ts s p y x)
    on (Deep q) i y = i ∙ ap Deep (deep_same ts q p y x)

pub exact : (ts : List Mark) → Exact ts
exact ts = record { tells = telling ts; only = only ts; reads = accepts true ts }

abbrev module_or : Module → End → Module
module_or d (Read m) = m
module_or d u = d

pub one : (ts : List Mark) → HasOne ts
one ts m n h k = ap (module_or m) (sym (accepts true ts m h) ∙ accepts true ts n k)
