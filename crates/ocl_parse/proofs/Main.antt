-- Reading is exact: what is read is the longest expression, and each refusal is where no expression goes on.
use Rattle.std.proofs.Common.{◌≡◌, ⊎_elim, ℕ, ◌+◌, List, [], ◌∷◌, ◌++◌, length, refl, sym, ap, ◌∙◌, subst, arith, append_assoc, length-append}
use Rattle.std.specs.Prelude.{Bool, true, false, Option, Some}
use Rattle.std.specs.Prelude.{None as Nowhere}
use Rattle.std.proofs.lemmas.List.{append-nil}
use Rattle.atl_base.specs.declared.place.Place.{Place}
use Rattle.atl_tree.specs.declared.expr.Expr.{Expr}
use Rattle.ocl_parse.specs.declared.frame.Frame.{Frame}
use Rattle.ocl_parse.specs.declared.frame.Next.{Next}
use Rattle.ocl_parse.specs.declared.frame.Next.TheVariants as N
use Rattle.ocl_parse.specs.Symbols.{Lexeme}
use Rattle.ocl_parse.specs.Grammar.{Written, Fits, spelt, tree_of, IsExpr}
use Rattle.ocl_parse.specs.TooDeep.{deep_after}
use Rattle.ocl_parse.specs.Machine.{Step, Goes, Stops, Refuses, TooDeep, step, last, End, Read, Expected, Deep, over, after, ended, run, read}
use Rattle.ocl_parse.specs.Laws.{GoesOn, StopsAt, NoneEnds, IsShallow, Matches, AllDeep, Tells, Exact}
use Rattle.ocl_parse.proofs.Accepts.{reads}
use Rattle.ocl_parse.proofs.Ordered.{InOrder, StepInOrder, step_ordered}
use Rattle.ocl_parse.proofs.Sound.{ReadOf, sound}
use Rattle.ocl_parse.proofs.Completes.{completes}
use Rattle.ocl_parse.proofs.Agrees.{Agrees, agrees, last_agrees}
use Rattle.ocl_parse.proofs.Fine.{Fine, fine}
use Rattle.ocl_parse.proofs.Breaks.{fits}
use Rattle.ocl_parse.proofs.Halts.{rest_of, IsSome, IsRead, IsDeep, over_rest, Ends, HaltsAt, Halt, halts, deep_not, too_deep}
use Rattle.ocl_parse.proofs.Deeper.{IsStuck, Meets, Deeper, deeper, stuck_last}
use Rattle.ocl_parse.proofs.Only.{expected_deep, read_deep, deep_same, expected_same, expected_read}
use Rattle.ocl_parse.proofs.Found.{Waits, FirstAt, Found, found, unfound}

accepts : (b : Bool) (ts : List Lexeme) (e : Expr) → IsExpr b ts e → read b ts ≡ Read e []
accepts b ts e h =
    subst (λ l. read b l ≡ Read e []) h.2 (ap (read b) (sym (append-nil (spelt h.0))) ∙ reads b h.0 0 [] [] h.1 tt tt ∙ ap (λ x. Read x []) h.3)

-- an ending step that is not too deep leaves all of the rest
leaves : (u : Step) (rest : List Lexeme) (k : List Frame → Next → End) → Ends u → (IsDeep (after u rest ended) → ⊥) → rest_of (after u rest k) ≡ rest
leaves (Goes gs m) rest k e d = absurd e
leaves (Stops gs a) rest k e d = over_rest gs a rest
leaves Refuses rest k e d = refl
leaves (TooDeep p) rest k e d = absurd (d tt)

-- without depth the step is the same
alike : (u v : Step) (rest : List Lexeme) → Ends u → (IsDeep (after u rest ended) → ⊥) → Agrees u v → v ≡ u
alike (Goes gs m) v rest e d h = absurd e
alike (Stops gs a) v rest e d h = h
alike Refuses v rest e d h = h
alike (TooDeep p) v rest e d h = absurd (d tt)

last_alike : (u v : Step) → (IsDeep (after u [] ended) → ⊥) → Agrees u v → after v [] ended ≡ after u [] ended
last_alike (Goes gs m) v d h = ap (λ x. after x [] ended) h
last_alike (Stops gs a) v d h = ap (λ x. after x [] ended) h
last_alike Refuses v d h = ap (λ x. after x [] ended) h
last_alike (TooDeep p) v d h = absurd (d tt)

-- what was read without depth is of the grammar
spoken : (ts : List Lexeme) (e : Expr) → read false ts ≡ Read e [] → IsExpr false ts e
spoken ts e h =
    let x = subst (ReadOf false ts) h (sound false ts [] N.Operand ts refl) in
    subst (λ l. IsExpr false l e) (sym (x.1 ∙ append-nil x.0)) x.2

goes_on : (front : List Lexeme) (gs : List Frame) (n : Next) → InOrder gs n → ((more : List Lexeme) → read false (front ++ more) ≡ run false gs n more) → GoesOn front
goes_on front gs n o h = let c = completes gs n o in (c.more, c.ends.0, spoken (front ++ c.more) c.ends.0 (h c.more ∙ c.ends.1))

no_rest : (x : End) (e : Expr) (r : List Lexeme) → x ≡ Read e [] → rest_of x ≡ r → IsSome r → ⊥
no_rest x e r h k s = subst IsSome (sym k ∙ ap rest_of h) s

-- nothing goes on where reading halts
stops_loose : (front rest : List Lexeme) (gs : List Frame) (n : Next) (end : End) → ((more : List Lexeme) → read false (front ++ more) ≡ run false gs n more) → (IsDeep end → ⊥) → HaltsAt gs n rest end → StopsAt false front rest
stops_loose front [] gs n end h d k = tt
stops_loose front (t ∷ r) gs n end h d k = λ more e x.
    let shallow : IsDeep (after (step true gs n t.symbol t.place) (t ∷ r) ended) → ⊥ = λ y. d (subst IsDeep k.1 y) in
    let same : step false gs n t.symbol t.place ≡ step true gs n t.symbol t.place = alike (step true gs n t.symbol t.place) (step false gs n t.symbol t.place) (t ∷ r) k.0 shallow (agrees gs n t.symbol t.place) in
    no_rest (run false gs n (t ∷ more)) e (t ∷ more) (sym (h (t ∷ more)) ∙ accepts false (front ++ (t ∷ more)) e x)
    (ap (λ v. rest_of (after v (t ∷ more) (λ hs m. run false hs m more))) same ∙ leaves_all (step true gs n t.symbol t.place) k.0 shallow more) tt
  where
    leaves_all : (u : Step) → Ends u → (IsDeep (after u (t ∷ r) ended) → ⊥) → (more : List Lexeme) → rest_of (after u (t ∷ more) (λ hs m. run false hs m more)) ≡ t ∷ more
    leaves_all (Goes gs m) e d more = absurd e
    leaves_all (Stops gs a) e d more = over_rest gs a (t ∷ more)
    leaves_all Refuses e d more = refl
    leaves_all (TooDeep p) e d more = absurd (d tt)

read_not : (x : End) (e : Expr) (r s : List Lexeme) → x ≡ Read e r → x ≡ Expected s → ⊥
read_not x e r s h k = subst IsRead (sym h ∙ k) tt

none_ends : (front rest : List Lexeme) (gs : List Frame) (n : Next) (s : List Lexeme) → ((more : List Lexeme) → read false (front ++ more) ≡ run false gs n more) → HaltsAt gs n rest (Expected s) → NoneEnds false front
none_ends front rest gs n s h k = λ e x. on rest k e (sym (h []) ∙ ap (read false) (append-nil front) ∙ accepts false front e x)
  where
    shallow : (u : Step) (r : List Lexeme) → after u r ended ≡ Expected s → IsDeep (after u r ended) → ⊥
    shallow u r k y = subst IsDeep k y

    unfine : (e : Expr) (u : Step) (r : List Lexeme) → Fine e u → Ends u → after u r ended ≡ Expected s → ⊥
    unfine e (Goes gs m) r f y k = y
    unfine e (Stops gs a) r f y k = read_not (over gs a r) e r s (f r) k
    unfine e Refuses r f y k = f
    unfine e (TooDeep p) r f y k = f

    on : (r : List Lexeme) → HaltsAt gs n r (Expected s) → (e : Expr) → after (last false gs n) [] ended ≡ Read e [] → ⊥
    on [] k e x = read_not (after (last false gs n) [] ended) e [] s x (last_alike (last true gs n) (last false gs n) (shallow (last true gs n) [] k) (last_agrees gs n) ∙ k)
    on (t ∷ r) k e x =
        let same : step false gs n t.symbol t.place ≡ step true gs n t.symbol t.place = alike (step true gs n t.symbol t.place) (step false gs n t.symbol t.place) (t ∷ r) k.0 (shallow (step true gs n t.symbol t.place) (t ∷ r) k.1) (agrees gs n t.symbol t.place) in
        unfine e (step true gs n t.symbol t.place) (t ∷ r) (subst (Fine e) same (fine false gs n e t.symbol t.place x)) k.0 k.1

abbrev tail_of : List Lexeme → List Lexeme
tail_of [] = []
tail_of (t ∷ ts) = ts

abbrev head_or : Lexeme → List Lexeme → Lexeme
head_or d [] = d
head_or d (t ∷ ts) = t

cancel : (xs ys zs : List Lexeme) → xs ++ zs ≡ ys ++ zs → xs ≡ ys
cancel [] [] zs h = refl
cancel [] (y ∷ ys) zs h = absurd (omega (arith, ap length h, length-append (y ∷ ys) zs))
cancel (x ∷ xs) [] zs h = absurd (omega (arith, ap length h, length-append (x ∷ xs) zs))
cancel (x ∷ xs) (y ∷ ys) zs h = ap (λ u. u ∷ xs) (ap (head_or x) h) ∙ ap (λ l. y ∷ l) (cancel xs ys zs (ap tail_of h))

-- where reading halts the rest is the answer's
halt_rest : (gs : List Frame) (n : Next) (rest : List Lexeme) (end : End) → (IsDeep end → ⊥) → HaltsAt gs n rest end → rest_of end ≡ rest
halt_rest gs n [] end d k = sym (ap rest_of k) ∙ on (last true gs n) (λ y. d (subst IsDeep k y))
  where
    on : (u : Step) → (IsDeep (after u [] ended) → ⊥) → rest_of (after u [] ended) ≡ []
    on (Goes hs m) d = refl
    on (Stops hs a) d = over_rest hs a []
    on Refuses d = refl
    on (TooDeep p) d = absurd (d tt)
halt_rest gs n (t ∷ r) end d k = sym (ap rest_of k.1) ∙ leaves (step true gs n t.symbol t.place) (t ∷ r) ended k.0 (λ y. d (subst IsDeep k.1 y))

-- a text in which reading finds an expression too deep has one
deepest : (w : Written) (p : Place) → Fits false 0 0 w → read true (spelt w) ≡ Deep p → (k : ℕ) × (deep_after 0 w ≡ Some k)
deepest w p f h = on (deep_after 0 w) refl
  where
    on : (o : Option ℕ) → deep_after 0 w ≡ o → (k : ℕ) × (deep_after 0 w ≡ Some k)
    on Nowhere e = absurd (deep_not (read true (spelt w)) (tree_of w) [] p (accepts true (spelt w) (tree_of w) (w, fits w 0 0 f e, refl, refl)) h)
    on (Some k) e = (k, e)

runs_deep : (gs : List Frame) (n : Next) (more : List Lexeme) (p : Place) → HaltsAt gs n more (Deep p) → run true gs n more ≡ Deep p
runs_deep gs n [] p k = k
runs_deep gs n (t ∷ r) p k = too_deep (step true gs n t.symbol t.place) (t ∷ r) (t ∷ r) (λ hs m. run true hs m r) p k.0 k.1

-- no expression ends where one is waited for
none_waits : (front : List Lexeme) → Waits front → NoneEnds true front
none_waits front h = λ e x. read_not (read true front) e [] [] (accepts true front e x) h

shallow : (ts : List Lexeme) (r : List Lexeme) (x : Halt [] N.Operand ts (Expected r)) → read true ts ≡ Expected r → IsShallow x.front
shallow ts r x q = λ more w k f e h. unfound w k x.front more x.gs x.n f h e (x.leads true) x.rest r x.here (ap (read true) (sym x.whole) ∙ q)

-- where reading halts because of the depth, each expression that goes on so has its first that is too deep there
module _ (ts : List Lexeme) (p : Place) (x : Halt [] N.Operand ts (Deep p)) where
  abbrev Here : ℕ → List Lexeme → Place → Type 0
  Here k more q = Found k x.front more x.gs x.n q

  here : (w : Written) (more : List Lexeme) (q : Place) → Fits false 0 0 w → spelt w ≡ x.front ++ more → HaltsAt x.gs x.n more (Deep q) → (k : ℕ) × (deep_after 0 w ≡ Some k) × Here k more q
  here w more q f e a =
      let d = deepest w q f (ap (read true) e ∙ x.leads true more ∙ runs_deep x.gs x.n more q a) in
      (d.0, d.1, found w d.0 x.front more x.gs x.n f d.1 e (x.leads true) q x.along a)

  not_within : (e : Expr) (more : List Lexeme) (q : Place) → IsExpr true (x.front ++ more) e → HaltsAt x.gs x.n more (Deep q) → ⊥
  not_within e more q f a = deep_not (read true (x.front ++ more)) e [] q (accepts true (x.front ++ more) e f) (x.leads true more ∙ runs_deep x.gs x.n more q a)

  abbrev Result : Type 0
  Result = Tells ts (Deep p)

  -- it begins with the first of the rest
  ahead : (rest : List Lexeme) → x.rest ≡ rest → (d : Deeper x.gs x.n rest p) → (w : Written) → Fits false 0 0 w → spelt w ≡ x.front ++ d.more → (k : ℕ) → deep_after 0 w ≡ Some k
      → (IsStuck x.gs x.n → ⊥) → length x.front ≡ k → Waits x.front → FirstAt d.more p → Result
  ahead rest i d w f e k h s c v at = on rest d.more i (d.meets s) e at
    where
      on : (rest more : List Lexeme) → x.rest ≡ rest → Meets rest more → spelt w ≡ x.front ++ more → FirstAt more p → Result
      on [] more i m e at = absurd m
      on (t ∷ rest) [] i m e at = absurd m
      on (t ∷ rest) (u ∷ more) i m e at = (
        x.front,
        t,
        rest,
        x.whole ∙ ap (λ l. x.front ++ l) i,
        ap (λ y. y.place) m ∙ at,
        (more, w, f, e ∙ ap (λ y. x.front ++ (y ∷ more)) (sym m), h ∙ ap (λ y. Some y) (sym c)),
        all,
        λ l e z y. not_within e (t ∷ l) p y (halt l),
        none_waits x.front v,
      )
        where
          halt : (l : List Lexeme) → HaltsAt x.gs x.n (t ∷ l) (Deep p)
          halt l =
              let a : HaltsAt x.gs x.n (t ∷ rest) (Deep p) = subst (λ y. HaltsAt x.gs x.n y (Deep p)) i x.here in
              (a.0, too_deep (step true x.gs x.n t.symbol t.place) (t ∷ rest) (t ∷ l) ended p a.0 a.1)

          all : AllDeep x.front t rest
          all = λ l w f e z.
              let g = here w (t ∷ l) p f e (halt l) in
              g.1 ∙ ⊎_elim (λ y. ap (λ j. Some j) (sym y.1)) (λ y. absurd (s y.0)) g.2

  -- it began with the name before the rest
  behind : (more : List Lexeme) (w : Written) → Fits false 0 0 w → spelt w ≡ x.front ++ more → (k : ℕ) → deep_after 0 w ≡ Some k
      → IsStuck x.gs x.n → (front : List Lexeme) (t : Lexeme) → x.front ≡ front ++ (t ∷ []) → length front ≡ k → Waits front → t.place ≡ p → Result
  behind more w f e k h s front t i c v at = (
    front,
    t,
    x.rest,
    x.whole ∙ on x.rest,
    at,
    (more, w, f, e ∙ on more, h ∙ ap (λ y. Some y) (sym c)),
    all,
    λ l e z y. let a = halt l x.rest x.here z in not_within e l a.0 (subst (λ j. IsExpr true j e) (sym (on l)) y) a.1,
    none_waits front v,
  )
    where
      on : (l : List Lexeme) → x.front ++ l ≡ front ++ (t ∷ l)
      on l = ap (λ y. y ++ l) i ∙ append_assoc front (t ∷ []) l

      halt : (l rest : List Lexeme) → HaltsAt x.gs x.n rest (Deep p) → Matches l rest → (q : Place) × HaltsAt x.gs x.n l (Deep q)
      halt [] rest a z = stuck_last x.gs x.n s
      halt (u ∷ l) [] a z = absurd z
      halt (u ∷ l) (y ∷ rest) a z =
          let b : HaltsAt x.gs x.n (u ∷ rest) (Deep p) = subst (λ j. HaltsAt x.gs x.n (j ∷ rest) (Deep p)) (sym z) a in
          (p, (b.0, too_deep (step true x.gs x.n u.symbol u.place) (u ∷ rest) (u ∷ l) ended p b.0 b.1))

      all : AllDeep front t x.rest
      all = λ l w f e z.
          let a = halt l x.rest x.here z in
          let g = here w l a.0 f (e ∙ sym (on l)) a.1 in
          g.1 ∙ ⊎_elim
          (λ y. absurd (y.0 s))
          (λ y. ap (λ j. Some j) (let n : length front + 1 ≡ length y.1 + 1 = sym (length-append front (t ∷ [])) ∙ ap length (sym i ∙ y.3) ∙ length-append y.1 (y.2 ∷ []) in omega (arith, n, y.4)))
          g.2

  tells_deep : Result
  tells_deep =
      let d = deeper x.gs x.n x.rest p x.ordered x.here in
      let w = spoken (x.front ++ d.more) d.tree (x.leads false d.more ∙ d.loose) in
      let g = here w.0 d.more p w.1 w.2 d.here in
      ⊎_elim (λ y. ahead x.rest refl d w.0 w.1 w.2 g.0 g.1 y.0 y.1 y.2 y.3) (λ y. behind d.more w.0 w.1 w.2 g.0 g.1 y.0 y.1 y.2 y.3 y.4 y.5 y.6) g.2

tells : (ts : List Lexeme) (end : End) → Halt [] N.Operand ts end → ReadOf true ts end → read true ts ≡ end → Tells ts end
tells ts (Read e r) x y z =
    let d : IsDeep (Read e r) → ⊥ = λ z. z in
    let same : r ≡ x.rest = halt_rest x.gs x.n x.rest (Read e r) d x.here in
    let fronts : y.0 ≡ x.front = cancel y.0 x.front r (sym y.1 ∙ x.whole ∙ ap (λ l. x.front ++ l) (sym same)) in
    (y.0, y.1, y.2, subst (λ l. StopsAt false l r) (sym fronts) (subst (λ l. StopsAt false x.front l) (sym same) (stops_loose x.front x.rest x.gs x.n (Read e r) (x.leads false) d x.here)))
tells ts (Expected r) x y z =
    let d : IsDeep (Expected r) → ⊥ = λ z. z in
    let same : r ≡ x.rest = halt_rest x.gs x.n x.rest (Expected r) d x.here in (
      x.front,
      x.whole ∙ ap (λ l. x.front ++ l) (sym same),
      goes_on x.front x.gs x.n x.ordered (x.leads false),
      subst (λ l. StopsAt false x.front l) (sym same) (stops_loose x.front x.rest x.gs x.n (Expected r) (x.leads false) d x.here),
      none_ends x.front x.rest x.gs x.n r (x.leads false) x.here,
      shallow ts r x z,
    )
tells ts (Deep p) x y z = tells_deep ts p x

-- all of an expression is read, and the reading halts behind it
reads_on : (front : List Lexeme) (e : Expr) (x : Halt [] N.Operand front (Read e [])) (rest : List Lexeme) → StopsAt false front rest → read true (front ++ rest) ≡ Read e rest
reads_on front e x rest s = on rest s
  where
    none : [] ≡ x.rest
    none = halt_rest x.gs x.n x.rest (Read e []) (λ z. z) x.here

    all : front ≡ x.front
    all = x.whole ∙ ap (λ l. x.front ++ l) (sym none) ∙ append-nil x.front

    ends : after (last true x.gs x.n) [] ended ≡ Read e []
    ends = subst (λ l. HaltsAt x.gs x.n l (Read e [])) (sym none) x.here

    lead : (b : Bool) (more : List Lexeme) → read b (front ++ more) ≡ run b x.gs x.n more
    lead b more = ap (λ l. read b (l ++ more)) all ∙ x.leads b more

    further : (t : Lexeme) (r : List Lexeme) (gs : List Frame) (n : Next) → step true x.gs x.n t.symbol t.place ≡ Goes gs n → StopsAt false front (t ∷ r) → ⊥
    further t r gs n h s =
        let loose : step false x.gs x.n t.symbol t.place ≡ Goes gs n = subst (λ v. Agrees v (step false x.gs x.n t.symbol t.place)) h (agrees x.gs x.n t.symbol t.place) in
        let c = completes gs n (subst StepInOrder h (step_ordered true x.gs x.n t.symbol t.place x.ordered)) in
        s c.more c.ends.0 (spoken (front ++ (t ∷ c.more)) c.ends.0 (lead false (t ∷ c.more) ∙ ap (λ v. after v (t ∷ c.more) (λ hs m. run false hs m c.more)) loose ∙ c.ends.1))

    one : (t : Lexeme) (r : List Lexeme) → StopsAt false front (t ∷ r) → (u : Step) → step true x.gs x.n t.symbol t.place ≡ u → Fine e u → after u (t ∷ r) (λ hs m. run true hs m r) ≡ Read e (t ∷ r)
    one t r s (Goes gs n) h f = absurd (further t r gs n h s)
    one t r s (Stops gs a) h f = f (t ∷ r)
    one t r s Refuses h f = absurd f
    one t r s (TooDeep p) h f = absurd f

    on : (rest : List Lexeme) → StopsAt false front rest → read true (front ++ rest) ≡ Read e rest
    on [] s = lead true [] ∙ ends
    on (t ∷ r) s = lead true (t ∷ r) ∙ one t r s (step true x.gs x.n t.symbol t.place) refl (fine true x.gs x.n e t.symbol t.place ends)

-- an expression that fits with the depth fits without it
loosened : (ts : List Lexeme) (e : Expr) → IsExpr true ts e → IsExpr false ts e
loosened ts e h =
    let x = subst (Halt [] N.Operand ts) (accepts true ts e h) (halts ts [] N.Operand tt) in
    let none : [] ≡ x.rest = halt_rest x.gs x.n x.rest (Read e []) (λ z. z) x.here in
    let ends : after (last true x.gs x.n) [] ended ≡ Read e [] = subst (λ l. HaltsAt x.gs x.n l (Read e [])) (sym none) x.here in
    spoken ts e
    (ap (read false) (x.whole ∙ ap (λ l. x.front ++ l) (sym none)) ∙ x.leads false []
    ∙ last_alike (last true x.gs x.n) (last false x.gs x.n) (λ y. subst IsDeep ends y) (last_agrees x.gs x.n) ∙ ends)

reads_whole : (ts front rest : List Lexeme) (e : Expr) → ts ≡ front ++ rest → IsExpr true front e → StopsAt false front rest → read true ts ≡ Read e rest
reads_whole ts front rest e h x s = ap (read true) h ∙ reads_on front e (subst (Halt [] N.Operand front) (accepts true front e x) (halts front [] N.Operand tt)) rest s

telling : (ts : List Lexeme) → Tells ts (read true ts)
telling ts = tells ts (read true ts) (halts ts [] N.Operand tt) (sound true ts [] N.Operand ts refl) refl

only : (ts : List Lexeme) (end : End) → Tells ts end → read true ts ≡ end
only ts (Read e r) x = reads_whole ts x.0 r e x.1 x.2 x.3
only ts (Expected r) x = on (read true ts) refl (telling ts)
  where
    on : (v : End) → read true ts ≡ v → Tells ts v → read true ts ≡ Expected r
    on (Read e s) i y = absurd (expected_read loosened ts r e s x y)
    on (Expected s) i y = i ∙ ap Expected (expected_same ts s r y x)
    on (Deep p) i y = absurd (expected_deep ts r p x y)
only ts (Deep p) x = on (read true ts) refl (telling ts)
  where
    on : (v : End) → read true ts ≡ v → Tells ts v → read true ts ≡ Deep p
    on (Read e s) i y = absurd (read_deep ts e s p y x)
    on (Expected s) i y = absurd (expected_deep ts s p y x)
    on (Deep q) i y = i ∙ ap Deep (deep_same ts q p y x)

pub exact : (ts : List Lexeme) → Exact ts
exact ts = record { tells = telling ts; only = only ts; reads = reads_whole ts }
