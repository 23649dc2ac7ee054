-- Of a text no two answers are told.
use Rattle.std.proofs.Common.{◌≡◌, ⊎_elim, ℕ, ◌+◌, List, [], ◌∷◌, ◌++◌, length, refl, sym, ap, ◌∙◌, subst, arith, append_assoc, length-append}
use Rattle.std.specs.Prelude.{true, false, Option, None, Some}
use Rattle.std.proofs.lemmas.List.{append-nil}
use Rattle.atl_base.specs.declared.place.Place.{Place}
use Rattle.atl_tree.specs.declared.module.Module.{Module}
use Rattle.ocl_parse.proofs.Found.{cuts, head_or, tail_of}
use Rattle.module_grammar.specs.Marks.{Mark}
use Rattle.module_grammar.specs.Grammar.{module_tree, IsModule}
use Rattle.module_states.specs.Machine.{Read, Expected, Deep}
use Rattle.module_laws.specs.Laws.{StopsAt, Matches, Tells}

abbrev number_or : ℕ → Option ℕ → ℕ
number_or d (Some k) = k
number_or d None = d

matches_self : (l : List Mark) → Matches l l
matches_self [] = tt
matches_self (t ∷ l) = refl

matches_before : (d : List Mark) (t : Mark) (more rest : List Mark) → Matches (d ++ (t ∷ more)) (d ++ (t ∷ rest))
matches_before [] t more rest = refl
matches_before (u ∷ d) t more rest = refl

goes_not : (front rest : List Mark) (t : Mark) (r more : List Mark) (m : Module) → StopsAt false front rest → rest ≡ t ∷ r → IsModule false (front ++ (t ∷ more)) m → ⊥
goes_not front rest t r more m s i h = (subst (StopsAt false front) i s) more m h

-- the module of a text that is too deep goes on from before it
deep_goes : (ts : List Mark) (p : Place) (x : Tells ts (Deep p)) (front rest : List Mark) → StopsAt false front rest → (d : List Mark) → x.0 ≡ front ++ d → rest ≡ d ++ (x.1 ∷ x.2) → ⊥
deep_goes ts p x front rest s [] i j =
    goes_not front rest x.1 x.2 x.5.0 (module_tree x.5.1) s j (x.5.1, x.5.2, x.5.3 ∙ ap (λ l. l ++ (x.1 ∷ x.5.0)) (i ∙ append-nil front), refl)
deep_goes ts p x front rest s (v ∷ d) i j =
    goes_not front rest v (d ++ (x.1 ∷ x.2)) (d ++ (x.1 ∷ x.5.0)) (module_tree x.5.1) s j (x.5.1, x.5.2, x.5.3 ∙ ap (λ l. l ++ (x.1 ∷ x.5.0)) i ∙ append_assoc front (v ∷ d) (x.1 ∷ x.5.0), refl)

longer : (front : List Mark) (v : Mark) (d xs : List Mark) → xs ≡ front ++ (v ∷ d) → length xs ≡ length front + (1 + length d)
longer front v d xs i = ap length i ∙ length-append front (v ∷ d) ∙ (let n : length (v ∷ d) ≡ 1 + length d = omega arith in ap (λ k. length front + k) n)

pub expected_deep : (ts : List Mark) (r : List Mark) (p : Place) → Tells ts (Expected r) → Tells ts (Deep p) → ⊥
expected_deep ts r p x y = ⊎_elim (λ c. one c.0 c.1 c.2) (λ c. deep_goes ts p y x.0 r x.3 c.0 c.1 c.2) (cuts x.0 r y.0 (y.1 ∷ y.2) (sym x.1 ∙ y.3))
  where
    one : (d : List Mark) → x.0 ≡ y.0 ++ d → y.1 ∷ y.2 ≡ d ++ r → ⊥
    one [] i j = deep_goes ts p y x.0 r x.3 [] (sym (append-nil y.0) ∙ sym i ∙ sym (append-nil x.0)) (sym j)
    one (v ∷ []) i j =
        let same : x.0 ≡ y.0 ++ (y.1 ∷ []) = i ∙ ap (λ u. y.0 ++ (u ∷ [])) (sym (ap (head_or v) j)) in
        let le = x.4 y.5.0 y.5.1 (length y.0) y.5.2 (y.5.3 ∙ sym (ap (λ l. l ++ y.5.0) same ∙ append_assoc y.0 (y.1 ∷ []) y.5.0)) y.5.4 in
        let n = longer y.0 v [] x.0 i in
        omega (arith, le, n)
    one (v ∷ u ∷ d) i j =
        let same : x.0 ≡ y.0 ++ (y.1 ∷ u ∷ d) = i ∙ ap (λ z. y.0 ++ (z ∷ u ∷ d)) (sym (ap (head_or v) j)) in
        let w = x.2.2 in
        let deep = y.6 (u ∷ (d ++ x.2.0)) w.0 w.1 (w.2 ∙ ap (λ l. l ++ x.2.0) same ∙ append_assoc y.0 (y.1 ∷ u ∷ d) x.2.0) (subst (Matches (u ∷ (d ++ x.2.0))) (sym (ap tail_of j)) refl) in
        let le = x.4 x.2.0 w.0 (length y.0) w.1 w.2 deep in
        let n = longer y.0 v (u ∷ d) x.0 i in
        omega (arith, le, n)

pub read_deep : (ts : List Mark) (m : Module) (p : Place) → Tells ts (Read m) → Tells ts (Deep p) → ⊥
read_deep ts m p x y = y.7 y.2 m (matches_self y.2) (subst (λ l. IsModule true l m) y.3 x)

-- the one cannot begin behind the other
apart : (ts : List Mark) (p q : Place) (x : Tells ts (Deep p)) (y : Tells ts (Deep q)) (v : Mark) (d : List Mark) → x.0 ≡ y.0 ++ (v ∷ d) → y.1 ∷ y.2 ≡ v ∷ (d ++ (x.1 ∷ x.2)) → ⊥
apart ts p q x y v d i j =
    let same : x.0 ≡ y.0 ++ (y.1 ∷ d) = i ∙ ap (λ z. y.0 ++ (z ∷ d)) (sym (ap (head_or v) j)) in
    let deep = y.6 (d ++ (x.1 ∷ x.5.0)) x.5.1 x.5.2 (x.5.3 ∙ ap (λ l. l ++ (x.1 ∷ x.5.0)) same ∙ append_assoc y.0 (y.1 ∷ d) (x.1 ∷ x.5.0)) (subst (Matches (d ++ (x.1 ∷ x.5.0))) (sym (ap tail_of j)) (matches_before d x.1 x.5.0 x.2)) in
    let e : length y.0 ≡ length x.0 = ap (number_or 0) (sym deep ∙ x.5.4) in
    let n = longer y.0 v d x.0 i in
    omega (arith, e, n)

pub deep_same : (ts : List Mark) (p q : Place) → Tells ts (Deep p) → Tells ts (Deep q) → p ≡ q
deep_same ts p q x y = ⊎_elim (λ c. one c.0 c.1 c.2) (λ c. two c.0 c.1 c.2) (cuts x.0 (x.1 ∷ x.2) y.0 (y.1 ∷ y.2) (sym x.3 ∙ y.3))
  where
    one : (d : List Mark) → x.0 ≡ y.0 ++ d → y.1 ∷ y.2 ≡ d ++ (x.1 ∷ x.2) → p ≡ q
    one [] i j = sym x.4 ∙ ap (λ t. t.place) (ap (head_or x.1) (sym j)) ∙ y.4
    one (v ∷ d) i j = absurd (apart ts p q x y v d i j)

    two : (d : List Mark) → y.0 ≡ x.0 ++ d → x.1 ∷ x.2 ≡ d ++ (y.1 ∷ y.2) → p ≡ q
    two [] i j = sym x.4 ∙ ap (λ t. t.place) (ap (head_or x.1) j) ∙ y.4
    two (v ∷ d) i j = absurd (apart ts q p y x v d i j)

-- what goes on from further back
goes_further : (ts : List Mark) (r : List Mark) (x : Tells ts (Expected r)) (front rest : List Mark) → StopsAt false front rest → (t : Mark) (d : List Mark) → x.0 ≡ front ++ (t ∷ d) → rest ≡ t ∷ (d ++ r) → ⊥
goes_further ts r x front rest s t d i j =
    goes_not front rest t (d ++ r) (d ++ x.2.0) x.2.1 s j (subst (λ l. IsModule false l x.2.1) (ap (λ l. l ++ x.2.0) i ∙ append_assoc front (t ∷ d) x.2.0) x.2.2)

pub expected_same : (ts : List Mark) (r s : List Mark) → Tells ts (Expected r) → Tells ts (Expected s) → r ≡ s
expected_same ts r s x y = ⊎_elim (λ c. one c.0 c.1 c.2) (λ c. two c.0 c.1 c.2) (cuts x.0 r y.0 s (sym x.1 ∙ y.1))
  where
    one : (d : List Mark) → x.0 ≡ y.0 ++ d → s ≡ d ++ r → r ≡ s
    one [] i j = sym j
    one (t ∷ d) i j = absurd (goes_further ts r x y.0 s y.3 t d i j)

    two : (d : List Mark) → y.0 ≡ x.0 ++ d → r ≡ d ++ s → r ≡ s
    two [] i j = j
    two (t ∷ d) i j = absurd (goes_further ts s y x.0 r x.3 t d i j)

-- a module that fits with the depth fits without it
pub expected_read : ((l : List Mark) (m : Module) → IsModule true l m → IsModule false l m) → (ts : List Mark) (r : List Mark) (m : Module) → Tells ts (Expected r) → Tells ts (Read m) → ⊥
expected_read loosened ts r m x y = on r x.3 (subst (λ l. IsModule false l m) x.1 (loosened ts m y))
  where
    on : (r : List Mark) → StopsAt false x.0 r → IsModule false (x.0 ++ r) m → ⊥
    on [] s h = s m (subst (λ l. IsModule false l m) (append-nil x.0) h)
    on (t ∷ r) s h = s r m h
