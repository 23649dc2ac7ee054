-- Where reading finds an expression too deep, that is the first one, and where it refuses, none stood there before.
use Rattle.std.proofs.Common.{◌≡◌, ◌⊎◌, inl, inr, ⊎_elim, ℕ, ◌+◌, ◌≤◌, List, [], ◌∷◌, ◌++◌, length, refl, sym, ap, ◌∙◌, subst, arith, append_assoc, length-append}
use Rattle.std.specs.Prelude.{true, false, Some}
use Rattle.std.proofs.lemmas.List.{append-nil}
use Rattle.atl_base.specs.declared.place.Place.{Place}
use Rattle.ocl_parse.specs.declared.frame.Frame.{Frame}
use Rattle.ocl_parse.specs.declared.frame.Next.{Next}
use Rattle.ocl_parse.specs.declared.frame.Next.TheVariants as N
use Rattle.ocl_parse.specs.Symbols.{Lexeme}
use Rattle.ocl_parse.specs.Grammar.{Written, Fits, spelt}
use Rattle.ocl_parse.specs.TooDeep.{deep_after}
use Rattle.ocl_parse.specs.Machine.{step, End, Expected, Deep, after, run, read}
use Rattle.ocl_parse.specs.Laws.{Matches}
use Rattle.ocl_parse.proofs.Halts.{IsDeep, Along, HaltsAt, place_at, too_deep}
use Rattle.ocl_parse.proofs.Deeper.{IsStuck, OnlyDeep, stuck, stuck_only, stuck_last, stuck_halts}
use Rattle.ocl_parse.proofs.Breaks.{Broken, tries}

-- of two ways to cut a list, one cuts what the other leaves
abbrev pub Cuts : {A : Type 0} → List A → List A → List A → List A → Type 0
Cuts {A = A} xs l ys m = ((d : List A) × (xs ≡ ys ++ d) × (m ≡ d ++ l)) ⊎ ((d : List A) × (ys ≡ xs ++ d) × (l ≡ d ++ m))

abbrev pub tail_of : {A : Type 0} → List A → List A
tail_of [] = []
tail_of (t ∷ ts) = ts

abbrev pub head_or : {A : Type 0} → A → List A → A
head_or d [] = d
head_or d (t ∷ ts) = t

pub cuts : {A : Type 0} → (xs l ys m : List A) → xs ++ l ≡ ys ++ m → Cuts xs l ys m
cuts [] l ys m h = inr (ys, refl, h)
cuts (x ∷ xs) l [] m h = inl (x ∷ xs, refl, sym h)
cuts (x ∷ xs) l (y ∷ ys) m h =
    let e : x ≡ y = ap (head_or x) h in
    ⊎_elim
    (λ s. inl (s.0, ap (λ u. u ∷ xs) e ∙ ap (λ r. y ∷ r) s.1, s.2))
    (λ s. inr (s.0, ap (λ u. u ∷ ys) (sym e) ∙ ap (λ r. x ∷ r) s.1, s.2))
    (cuts xs l ys m (ap tail_of h))

-- two symbols cannot both be read behind where the reading is to break
along_deep : (front : List Lexeme) (t u : Lexeme) (d : List Lexeme) (fs gs : List Frame) (m n : Next) (p q : Place) → Along fs m (front ++ (t ∷ u ∷ d)) gs n
    → run true fs m (front ++ (t ∷ [])) ≡ Deep p → run true fs m (front ++ (t ∷ u ∷ [])) ≡ Deep q → ⊥
along_deep [] t u d fs gs m n p q a h k =
    let one = stuck a.0 a.1 p (sym (ap (λ s. after s (t ∷ []) (λ hs j. run true hs j [])) a.2) ∙ h) in
    let two = stuck a.3.0 a.3.1 q (sym (ap (λ s. after s (t ∷ u ∷ []) (λ hs j. run true hs j (u ∷ []))) a.2 ∙ ap (λ s. after s (u ∷ []) (λ hs j. run true hs j [])) a.3.2) ∙ k) in
    (subst OnlyDeep a.3.2 (stuck_only a.0 a.1 u.symbol u.place one)) two
along_deep (v ∷ front) t u d fs gs m n p q a h k =
    along_deep front t u d a.0 gs a.1 n p q a.3
    (sym (ap (λ s. after s (v ∷ (front ++ (t ∷ []))) (λ hs j. run true hs j (front ++ (t ∷ [])))) a.2) ∙ h)
    (sym (ap (λ s. after s (v ∷ (front ++ (t ∷ u ∷ []))) (λ hs j. run true hs j (front ++ (t ∷ u ∷ [])))) a.2) ∙ k)

not_both : (x : End) (r : List Lexeme) (p : Place) → x ≡ Expected r → x ≡ Deep p → ⊥
not_both x r p h k = subst IsDeep (sym k ∙ h) tt

matches_self : (l : List Lexeme) → Matches l l
matches_self [] = tt
matches_self (t ∷ l) = refl

-- an expression is waited for
abbrev pub Waits : List Lexeme → Type 0
Waits front = read true front ≡ Expected []

abbrev pub FirstAt : List Lexeme → Place → Type 0
FirstAt [] p = ⊥
FirstAt (t ∷ r) p = t.place ≡ p

-- the first that is too deep begins where reading halts, or with the name before it
abbrev pub Found : ℕ → List Lexeme → List Lexeme → List Frame → Next → Place → Type 0
Found k ahead more gs n p =
    ((IsStuck gs n → ⊥) × (length ahead ≡ k) × Waits ahead × FirstAt more p)
    ⊎ (IsStuck gs n × (front : List Lexeme) × (t : Lexeme) × (ahead ≡ front ++ (t ∷ [])) × (length front ≡ k) × Waits front × (t.place ≡ p))

module _ (w : Written) (k : ℕ) (ahead more : List Lexeme) (gs : List Frame) (n : Next) (f : Fits false 0 0 w) (h : deep_after 0 w ≡ Some k) (e : spelt w ≡ ahead ++ more) (leads : (l : List Lexeme) → read true (ahead ++ l) ≡ run true gs n l) where
  broken : Broken [] N.Operand (spelt w ++ []) k
  broken = tries w 0 [] [] k f tt h

  cut : (x : Broken [] N.Operand (spelt w ++ []) k) → Cuts x.front (x.t ∷ x.tail) ahead more
  cut x = cuts x.front (x.t ∷ x.tail) ahead more (sym x.whole ∙ append-nil (spelt w) ∙ e)

  here : (p : Place) → HaltsAt gs n more (Deep p) → run true gs n more ≡ Deep p
  here p a = on more a
    where
      on : (l : List Lexeme) → HaltsAt gs n l (Deep p) → run true gs n l ≡ Deep p
      on [] a = a
      on (t ∷ r) a = too_deep (step true gs n t.symbol t.place) (t ∷ r) (t ∷ r) (λ hs m. run true hs m r) p a.0 a.1

  place_of : (x : Broken [] N.Operand (spelt w ++ []) k) (p : Place) → HaltsAt gs n more (Deep p) → x.t.place ≡ p
  place_of x p a = ap (place_at p) (sym (x.breaks x.tail (matches_self x.tail)) ∙ ap (read true) (sym x.whole ∙ append-nil (spelt w) ∙ e) ∙ leads more ∙ here p a)

  same : (x : Broken [] N.Operand (spelt w ++ []) k) (p : Place) → HaltsAt gs n more (Deep p) → ahead ≡ x.front → more ≡ x.t ∷ x.tail → Found k ahead more gs n p
  same x p a i j =
      let waits : Waits ahead = subst Waits (sym i) x.waits in
      inl (λ s. let y = stuck_last gs n s in not_both (run true gs n []) [] y.0 (sym (leads []) ∙ ap (read true) (append-nil ahead) ∙ waits) y.1, ap length i ∙ x.count, waits, subst (λ l. FirstAt l p) (sym j) (place_of x p a))

  later : (x : Broken [] N.Operand (spelt w ++ []) k) (p : Place) (d : List Lexeme) → HaltsAt gs n more (Deep p) → x.front ≡ ahead ++ d → more ≡ d ++ (x.t ∷ x.tail) → Found k ahead more gs n p
  later x p [] a i j = same x p a (sym (append-nil ahead) ∙ sym i) j
  later x p (u ∷ d) a i j =
      let b : HaltsAt gs n (u ∷ (d ++ (x.t ∷ x.tail))) (Deep p) = subst (λ l. HaltsAt gs n l (Deep p)) j a in
      let deep : run true gs n (u ∷ d) ≡ Deep p = too_deep (step true gs n u.symbol u.place) (u ∷ (d ++ (x.t ∷ x.tail))) (u ∷ d) (λ hs m. run true hs m d) p b.0 b.1 in
      absurd (not_both (read true x.front) [] p x.waits (ap (read true) i ∙ leads (u ∷ d) ∙ deep))

  earlier : (x : Broken [] N.Operand (spelt w ++ []) k) (p : Place) (d : List Lexeme) → Along [] N.Operand ahead gs n → HaltsAt gs n more (Deep p) → ahead ≡ x.front ++ d → x.t ∷ x.tail ≡ d ++ more → Found k ahead more gs n p
  earlier x p [] c a i j = same x p a (i ∙ append-nil x.front) (sym j)
  earlier x p (v ∷ []) c a i j =
      let first : x.t ≡ v = ap (head_or v) j in
      let whole : ahead ≡ x.front ++ (x.t ∷ []) = i ∙ ap (λ u. x.front ++ (u ∷ [])) (sym first) in
      inr (stuck gs n x.t.place (sym (leads []) ∙ ap (read true) (append-nil ahead ∙ whole) ∙ x.breaks [] tt), x.front, x.t, whole, x.count, x.waits, place_of x p a)
  earlier x p (v ∷ u ∷ d) c a i j =
      let first : x.t ≡ v = ap (head_or v) j in
      let whole : ahead ≡ x.front ++ (x.t ∷ u ∷ d) = i ∙ ap (λ z. x.front ++ (z ∷ u ∷ d)) (sym first) in
      let second : u ∷ (d ++ more) ≡ x.tail = sym (ap tail_of j) in
      absurd (along_deep x.front x.t u d [] gs N.Operand n x.t.place x.t.place (subst (λ l. Along [] N.Operand l gs n) whole c) (x.breaks [] tt) (x.breaks (u ∷ []) (subst (Matches (u ∷ [])) second refl)))

  pub found : (p : Place) → Along [] N.Operand ahead gs n → HaltsAt gs n more (Deep p) → Found k ahead more gs n p
  found p c a = ⊎_elim (λ s. later broken p s.0 a s.1 s.2) (λ s. earlier broken p s.0 c a s.1 s.2) (cut broken)

  -- where a symbol is refused, none stood too deep before
  pub unfound : (rest r : List Lexeme) → HaltsAt gs n rest (Expected r) → read true (ahead ++ rest) ≡ Expected r → length ahead ≤ k
  unfound rest r a q = ⊎_elim
      (λ s. let e : length broken.front ≡ length ahead + length s.0 = ap length s.1 ∙ length-append ahead s.0 in omega (arith, e, broken.count))
      (λ s. behind broken s.0 s.1 s.2) (cut broken)
    where
      behind : (x : Broken [] N.Operand (spelt w ++ []) k) (d : List Lexeme) → ahead ≡ x.front ++ d → x.t ∷ x.tail ≡ d ++ more → length ahead ≤ k
      behind x [] i j = let e : length ahead ≡ length x.front = ap length (i ∙ append-nil x.front) in omega (arith, e, x.count)
      behind x (v ∷ []) i j =
          let first : x.t ≡ v = ap (head_or v) j in
          let whole : ahead ≡ x.front ++ (x.t ∷ []) = i ∙ ap (λ u. x.front ++ (u ∷ [])) (sym first) in
          absurd (stuck_halts gs n rest r (stuck gs n x.t.place (sym (leads []) ∙ ap (read true) (append-nil ahead ∙ whole) ∙ x.breaks [] tt)) a)
      behind x (v ∷ u ∷ d) i j =
          let first : x.t ≡ v = ap (head_or v) j in
          let whole : ahead ≡ x.front ++ (x.t ∷ u ∷ d) = i ∙ ap (λ z. x.front ++ (z ∷ u ∷ d)) (sym first) in
          let second : u ∷ (d ++ more) ≡ x.tail = sym (ap tail_of j) in
          absurd (not_both (read true (ahead ++ rest)) r x.t.place q
          (ap (λ l. read true (l ++ rest)) whole ∙ ap (read true) (append_assoc x.front (x.t ∷ u ∷ d) rest)
          ∙ x.breaks (u ∷ (d ++ rest)) (subst (Matches (u ∷ (d ++ rest))) second refl)))
