-- Where reading of a module finds an expression too deep, that is the first one, and where it refuses, none stood there before.
use Rattle.std.proofs.Common.{◌≡◌, ◌⊎◌, inl, inr, ⊎_elim, ℕ, ◌+◌, ◌≤◌, List, [], ◌∷◌, ◌++◌, length, refl, sym, ap, ◌∙◌, subst, arith, append_assoc, length-append}
use Rattle.std.specs.Prelude.{true, false, Some}
use Rattle.std.proofs.lemmas.List.{append-nil}
use Rattle.atl_base.specs.declared.place.Place.{Place}
use Rattle.ocl_parse.proofs.Found.{Cuts, cuts, head_or, tail_of}
use Rattle.module_grammar.specs.Marks.{Mark}
use Rattle.module_grammar.specs.Grammar.{WrittenModule, ModuleFits, module_marks}
use Rattle.module_laws.specs.TooDeep.{deep_in}
use Rattle.module_states.specs.Machine.{State, AtStart, step, Expected, Deep, after, run, read}
use Rattle.module_laws.specs.Laws.{Matches}
use Rattle.module_laws.proofs.Halts.{HaltsAt, Along, too_deep_all}
use Rattle.module_laws.proofs.Loosely.{IsStuck}
use Rattle.module_laws.proofs.Deeper.{place_at, not_both, OnlyDeep, stuck, stuck_only, stuck_last, stuck_halts}
use Rattle.module_laws.proofs.Within.{Broken}
use Rattle.module_laws.proofs.Breaks.{tries_module}

-- two marks cannot both be read behind where the reading is to break
along_deep : (front : List Mark) (t u : Mark) (d : List Mark) (s v : State) (p q : Place) → Along s (front ++ (t ∷ u ∷ d)) v → run true s (front ++ (t ∷ [])) ≡ Deep p → run true s (front ++ (t ∷ u ∷ [])) ≡ Deep q → ⊥
along_deep [] t u d s v p q a h k =
    let one = stuck a.0 p (sym (ap (λ w. after w (t ∷ []) (λ x. run true x [])) a.1) ∙ h) in
    let two = stuck a.2.0 q (sym (ap (λ w. after w (t ∷ u ∷ []) (λ x. run true x (u ∷ []))) a.1 ∙ ap (λ w. after w (u ∷ []) (λ x. run true x [])) a.2.1) ∙ k) in
    (subst OnlyDeep a.2.1 (stuck_only a.0 u.content u.place one)) two
along_deep (w ∷ front) t u d s v p q a h k =
    along_deep front t u d a.0 v p q a.2
    (sym (ap (λ x. after x (w ∷ (front ++ (t ∷ []))) (λ y. run true y (front ++ (t ∷ [])))) a.1) ∙ h)
    (sym (ap (λ x. after x (w ∷ (front ++ (t ∷ u ∷ []))) (λ y. run true y (front ++ (t ∷ u ∷ [])))) a.1) ∙ k)

matches_self : (l : List Mark) → Matches l l
matches_self [] = tt
matches_self (t ∷ l) = refl

-- more is waited for
abbrev pub Waits : List Mark → Type 0
Waits front = read true front ≡ Expected []

abbrev pub FirstAt : List Mark → Place → Type 0
FirstAt [] p = ⊥
FirstAt (t ∷ r) p = t.place ≡ p

-- the first that is too deep begins where reading halts, or with the name before it
abbrev pub Found : ℕ → List Mark → List Mark → State → Place → Type 0
Found k ahead more s p =
    ((IsStuck s → ⊥) × (length ahead ≡ k) × Waits ahead × FirstAt more p)
    ⊎ (IsStuck s × (front : List Mark) × (t : Mark) × (ahead ≡ front ++ (t ∷ [])) × (length front ≡ k) × Waits front × (t.place ≡ p))

module _ (w : WrittenModule) (k : ℕ) (ahead more : List Mark) (s : State) (f : ModuleFits false w) (h : deep_in w ≡ Some k) (e : module_marks w ≡ ahead ++ more) (leads : (l : List Mark) → read true (ahead ++ l) ≡ run true s l) where
  broken : Broken AtStart (module_marks w) k
  broken = tries_module w k f h

  cut : (x : Broken AtStart (module_marks w) k) → Cuts x.front (x.t ∷ x.tail) ahead more
  cut x = cuts x.front (x.t ∷ x.tail) ahead more (sym x.whole ∙ e)

  here : (p : Place) → HaltsAt s more (Deep p) → run true s more ≡ Deep p
  here p a = on more a
    where
      on : (l : List Mark) → HaltsAt s l (Deep p) → run true s l ≡ Deep p
      on [] a = a
      on (t ∷ r) a = too_deep_all (step true s t.content t.place) t r r p (λ v. run true v r) a.0 a.1

  place_of : (x : Broken AtStart (module_marks w) k) (p : Place) → HaltsAt s more (Deep p) → x.t.place ≡ p
  place_of x p a = ap (place_at p) (sym (x.breaks x.tail (matches_self x.tail)) ∙ ap (read true) (sym x.whole ∙ e) ∙ leads more ∙ here p a)

  same : (x : Broken AtStart (module_marks w) k) (p : Place) → HaltsAt s more (Deep p) → ahead ≡ x.front → more ≡ x.t ∷ x.tail → Found k ahead more s p
  same x p a i j =
      let waits : Waits ahead = subst Waits (sym i) x.waits in
      inl (λ z. let y = stuck_last s z in not_both (run true s []) [] y.0 (sym (leads []) ∙ ap (read true) (append-nil ahead) ∙ waits) y.1, ap length i ∙ x.count, waits, subst (λ l. FirstAt l p) (sym j) (place_of x p a))

  later : (x : Broken AtStart (module_marks w) k) (p : Place) (d : List Mark) → HaltsAt s more (Deep p) → x.front ≡ ahead ++ d → more ≡ d ++ (x.t ∷ x.tail) → Found k ahead more s p
  later x p [] a i j = same x p a (sym (append-nil ahead) ∙ sym i) j
  later x p (u ∷ d) a i j =
      let b : HaltsAt s (u ∷ (d ++ (x.t ∷ x.tail))) (Deep p) = subst (λ l. HaltsAt s l (Deep p)) j a in
      let deep : run true s (u ∷ d) ≡ Deep p = too_deep_all (step true s u.content u.place) u (d ++ (x.t ∷ x.tail)) d p (λ v. run true v d) b.0 b.1 in
      absurd (not_both (read true x.front) [] p x.waits (ap (read true) i ∙ leads (u ∷ d) ∙ deep))

  earlier : (x : Broken AtStart (module_marks w) k) (p : Place) (d : List Mark) → Along AtStart ahead s → HaltsAt s more (Deep p) → ahead ≡ x.front ++ d → x.t ∷ x.tail ≡ d ++ more → Found k ahead more s p
  earlier x p [] c a i j = same x p a (i ∙ append-nil x.front) (sym j)
  earlier x p (v ∷ []) c a i j =
      let first : x.t ≡ v = ap (head_or v) j in
      let whole : ahead ≡ x.front ++ (x.t ∷ []) = i ∙ ap (λ u. x.front ++ (u ∷ [])) (sym first) in
      inr (stuck s x.t.place (sym (leads []) ∙ ap (read true) (append-nil ahead ∙ whole) ∙ x.breaks [] tt), x.front, x.t, whole, x.count, x.waits, place_of x p a)
  earlier x p (v ∷ u ∷ d) c a i j =
      let first : x.t ≡ v = ap (head_or v) j in
      let whole : ahead ≡ x.front ++ (x.t ∷ u ∷ d) = i ∙ ap (λ z. x.front ++ (z ∷ u ∷ d)) (sym first) in
      let second : u ∷ (d ++ more) ≡ x.tail = sym (ap tail_of j) in
      absurd (along_deep x.front x.t u d AtStart s x.t.place x.t.place (subst (λ l. Along AtStart l s) whole c) (x.breaks [] tt) (x.breaks (u ∷ []) (subst (Matches (u ∷ [])) second refl)))

  pub found : (p : Place) → Along AtStart ahead s → HaltsAt s more (Deep p) → Found k ahead more s p
  found p c a = ⊎_elim (λ z. later broken p z.0 a z.1 z.2) (λ z. earlier broken p z.0 c a z.1 z.2) (cut broken)

  -- where a mark is refused, none stood too deep before
  pub unfound : (rest r : List Mark) → HaltsAt s rest (Expected r) → read true (ahead ++ rest) ≡ Expected r → length ahead ≤ k
  unfound rest r a q = ⊎_elim
      (λ z. let e : length broken.front ≡ length ahead + length z.0 = ap length z.1 ∙ length-append ahead z.0 in omega (arith, e, broken.count))
      (λ z. behind broken z.0 z.1 z.2) (cut broken)
    where
      behind : (x : Broken AtStart (module_marks w) k) (d : List Mark) → ahead ≡ x.front ++ d → x.t ∷ x.tail ≡ d ++ more → length ahead ≤ k
      behind x [] i j = let e : length ahead ≡ length x.front = ap length (i ∙ append-nil x.front) in omega (arith, e, x.count)
      behind x (v ∷ []) i j =
          let first : x.t ≡ v = ap (head_or v) j in
          let whole : ahead ≡ x.front ++ (x.t ∷ []) = i ∙ ap (λ u. x.front ++ (u ∷ [])) (sym first) in
          absurd (stuck_halts s rest r (stuck s x.t.place (sym (leads []) ∙ ap (read true) (append-nil ahead ∙ whole) ∙ x.breaks [] tt)) a)
      behind x (v ∷ u ∷ d) i j =
          let first : x.t ≡ v = ap (head_or v) j in
          let whole : ahead ≡ x.front ++ (x.t ∷ u ∷ d) = i ∙ ap (λ z. x.front ++ (z ∷ u ∷ d)) (sym first) in
          let second : u ∷ (d ++ more) ≡ x.tail = sym (ap tail_of j) in
          absurd (not_both (read true (ahead ++ rest)) r x.t.place q
          (ap (λ l. read true (l ++ rest)) whole ∙ ap (read true) (append_assoc x.front (x.t ∷ u ∷ d) rest)
          ∙ x.breaks (u ∷ (d ++ rest)) (subst (Matches (u ∷ (d ++ rest))) second refl)))
