-- Of a text no two answers are told.
use Rattle.std.proofs.Common.{◌≡◌, ⊎_elim, ℕ, ◌+◌, List, [], ◌∷◌, ◌++◌, length, refl, sym, ap, ◌∙◌, subst, arith, append_assoc, length-append}
use Rattle.std.specs.Prelude.{true, false, Option, None, Some}
use Rattle.std.proofs.lemmas.List.{append-nil}
use Rattle.atl_base.specs.declared.place.Place.{Place}
use Rattle.atl_tree.specs.declared.expr.Expr.{Expr}
use Rattle.ocl_parse.specs.Symbols.{Lexeme}
use Rattle.ocl_parse.specs.Grammar.{tree_of, IsExpr}
use Rattle.ocl_parse.specs.Machine.{Read, Expected, Deep}
use Rattle.ocl_parse.specs.Laws.{StopsAt, Matches, Tells}
use Rattle.ocl_parse.proofs.Found.{cuts, head_or, tail_of}

abbrev number_or : ℕ → Option ℕ → ℕ
number_or d (Some k) = k
number_or d None = d

matches_prefix : (d r : List Lexeme) → Matches d (d ++ r)
matches_prefix [] r = tt
matches_prefix (t ∷ d) r = refl

matches_before : (d : List Lexeme) (t : Lexeme) (more rest : List Lexeme) → Matches (d ++ (t ∷ more)) (d ++ (t ∷ rest))
matches_before [] t more rest = refl
matches_before (u ∷ d) t more rest = refl

goes_not : (front rest : List Lexeme) (t : Lexeme) (r more : List Lexeme) (e : Expr) → StopsAt false front rest → rest ≡ t ∷ r → IsExpr false (front ++ (t ∷ more)) e → ⊥
goes_not front rest t r more e s i h = (subst (StopsAt false front) i s) more e h

-- the expression of a text that is too deep goes on from before it
deep_goes : (ts : List Lexeme) (p : Place) (x : Tells ts (Deep p)) (front rest : List Lexeme) → StopsAt false front rest → (d : List Lexeme) → x.0 ≡ front ++ d → rest ≡ d ++ (x.1 ∷ x.2) → ⊥
deep_goes ts p x front rest s [] i j =
    goes_not front rest x.1 x.2 x.5.0 (tree_of x.5.1) s j (x.5.1, x.5.2, x.5.3 ∙ ap (λ l. l ++ (x.1 ∷ x.5.0)) (i ∙ append-nil front), refl)
deep_goes ts p x front rest s (v ∷ d) i j =
    goes_not front rest v (d ++ (x.1 ∷ x.2)) (d ++ (x.1 ∷ x.5.0)) (tree_of x.5.1) s j (x.5.1, x.5.2, x.5.3 ∙ ap (λ l. l ++ (x.1 ∷ x.5.0)) i ∙ append_assoc front (v ∷ d) (x.1 ∷ x.5.0), refl)

longer : (front : List Lexeme) (v : Lexeme) (d xs : List Lexeme) → xs ≡ front ++ (v ∷ d) → length xs ≡ length front + (1 + length d)
longer front v d xs i = ap length i ∙ length-append front (v ∷ d) ∙ (let n : length (v ∷ d) ≡ 1 + length d = omega arith in ap (λ k. length front + k) n)

pub expected_deep : (ts : List Lexeme) (r : List Lexeme) (p : Place) → Tells ts (Expected r) → Tells ts (Deep p) → ⊥
expected_deep ts r p x y = ⊎_elim (λ c. one c.0 c.1 c.2) (λ c. deep_goes ts p y x.0 r x.3 c.0 c.1 c.2) (cuts x.0 r y.0 (y.1 ∷ y.2) (sym x.1 ∙ y.3))
  where
    one : (d : List Lexeme) → x.0 ≡ y.0 ++ d → y.1 ∷ y.2 ≡ d ++ r → ⊥
    one [] i j = deep_goes ts p y x.0 r x.3 [] (sym (append-nil y.0) ∙ sym i ∙ sym (append-nil x.0)) (sym j)
    one (v ∷ []) i j =
        let same : x.0 ≡ y.0 ++ (y.1 ∷ []) = i ∙ ap (λ u. y.0 ++ (u ∷ [])) (sym (ap (head_or v) j)) in
        let le = x.5 y.5.0 y.5.1 (length y.0) y.5.2 (y.5.3 ∙ sym (ap (λ l. l ++ y.5.0) same ∙ append_assoc y.0 (y.1 ∷ []) y.5.0)) y.5.4 in
        let n = longer y.0 v [] x.0 i in
        omega (arith, le, n)
    one (v ∷ u ∷ d) i j =
        let same : x.0 ≡ y.0 ++ (y.1 ∷ u ∷ d) = i ∙ ap (λ z. y.0 ++ (z ∷ u ∷ d)) (sym (ap (head_or v) j)) in
        let w = x.2.2 in
        let deep = y.6 (u ∷ (d ++ x.2.0)) w.0 w.1 (w.2 ∙ ap (λ l. l ++ x.2.0) same ∙ append_assoc y.0 (y.1 ∷ u ∷ d) x.2.0) (subst (Matches (u ∷ (d ++ x.2.0))) (sym (ap tail_of j)) refl) in
        let le = x.5 x.2.0 w.0 (length y.0) w.1 w.2 deep in
        let n = longer y.0 v (u ∷ d) x.0 i in
        omega (arith, le, n)

pub read_deep : (ts : List Lexeme) (e : Expr) (r : List Lexeme) (p : Place) → Tells ts (Read e r) → Tells ts (Deep p) → ⊥
read_deep ts e r p x y = ⊎_elim (λ c. one c.0 c.1 c.2) (λ c. deep_goes ts p y x.0 r x.3 c.0 c.1 c.2) (cuts x.0 r y.0 (y.1 ∷ y.2) (sym x.1 ∙ y.3))
  where
    one : (d : List Lexeme) → x.0 ≡ y.0 ++ d → y.1 ∷ y.2 ≡ d ++ r → ⊥
    one [] i j = deep_goes ts p y x.0 r x.3 [] (sym (append-nil y.0) ∙ sym i ∙ sym (append-nil x.0)) (sym j)
    one (v ∷ d) i j =
        let same : x.0 ≡ y.0 ++ (y.1 ∷ d) = i ∙ ap (λ z. y.0 ++ (z ∷ d)) (sym (ap (head_or v) j)) in
        y.7 d e (subst (Matches d) (sym (ap tail_of j)) (matches_prefix d r)) (subst (λ l. IsExpr true l e) same x.2)

-- the one cannot begin behind the other
apart : (ts : List Lexeme) (p q : Place) (x : Tells ts (Deep p)) (y : Tells ts (Deep q)) (v : Lexeme) (d : List Lexeme) → x.0 ≡ y.0 ++ (v ∷ d) → y.1 ∷ y.2 ≡ v ∷ (d ++ (x.1 ∷ x.2)) → ⊥
apart ts p q x y v d i j =
    let same : x.0 ≡ y.0 ++ (y.1 ∷ d) = i ∙ ap (λ z. y.0 ++ (z ∷ d)) (sym (ap (head_or v) j)) in
    let deep = y.6 (d ++ (x.1 ∷ x.5.0)) x.5.1 x.5.2 (x.5.3 ∙ ap (λ l. l ++ (x.1 ∷ x.5.0)) same ∙ append_assoc y.0 (y.1 ∷ d) (x.1 ∷ x.5.0)) (subst (Matches (d ++ (x.1 ∷ x.5.0))) (sym (ap tail_of j)) (matches_before d x.1 x.5.0 x.2)) in
    let e : length y.0 ≡ length x.0 = ap (number_or 0) (sym deep ∙ x.5.4) in
    let n = longer y.0 v d x.0 i in
    omega (arith, e, n)

pub deep_same : (ts : List Lexeme) (p q : Place) → Tells ts (Deep p) → Tells ts (Deep q) → p ≡ q
deep_same ts p q x y = ⊎_elim (λ c. one c.0 c.1 c.2) (λ c. two c.0 c.1 c.2) (cuts x.0 (x.1 ∷ x.2) y.0 (y.1 ∷ y.2) (sym x.3 ∙ y.3))
  where
    one : (d : List Lexeme) → x.0 ≡ y.0 ++ d → y.1 ∷ y.2 ≡ d ++ (x.1 ∷ x.2) → p ≡ q
    one [] i j = sym x.4 ∙ ap (λ t. t.place) (ap (head_or x.1) (sym j)) ∙ y.4
    one (v ∷ d) i j = absurd (apart ts p q x y v d i j)

    two : (d : List Lexeme) → y.0 ≡ x.0 ++ d → x.1 ∷ x.2 ≡ d ++ (y.1 ∷ y.2) → p ≡ q
    two [] i j = sym x.4 ∙ ap (λ t. t.place) (ap (head_or x.1) j) ∙ y.4
    two (v ∷ d) i j = absurd (apart ts q p y x v d i j)

-- what goes on from further back
goes_further : (ts : List Lexeme) (r : List Lexeme) (x : Tells ts (Expected r)) (front rest : List Lexeme) → StopsAt false front rest → (t : Lexeme) (d : List Lexeme) → x.0 ≡ front ++ (t ∷ d) → rest ≡ t ∷ (d ++ r) → ⊥
goes_further ts r x front rest s t d i j =
    goes_not front rest t (d ++ r) (d ++ x.2.0) x.2.1 s j (subst (λ l. IsExpr false l x.2.1) (ap (λ l. l ++ x.2.0) i ∙ append_assoc front (t ∷ d) x.2.0) x.2.2)

pub expected_same : (ts : List Lexeme) (r s : List Lexeme) → Tells ts (Expected r) → Tells ts (Expected s) → r ≡ s
expected_same ts r s x y = ⊎_elim (λ c. one c.0 c.1 c.2) (λ c. two c.0 c.1 c.2) (cuts x.0 r y.0 s (sym x.1 ∙ y.1))
  where
    one : (d : List Lexeme) → x.0 ≡ y.0 ++ d → s ≡ d ++ r → r ≡ s
    one [] i j = sym j
    one (t ∷ d) i j = absurd (goes_further ts r x y.0 s y.3 t d i j)

    two : (d : List Lexeme) → y.0 ≡ x.0 ++ d → r ≡ d ++ s → r ≡ s
    two [] i j = j
    two (t ∷ d) i j = absurd (goes_further ts s y x.0 r x.3 t d i j)

-- an expression that fits with the depth fits without it
pub expected_read : ((l : List Lexeme) (e : Expr) → IsExpr true l e → IsExpr false l e) → (ts : List Lexeme) (r : List Lexeme) (e : Expr) (s : List Lexeme) → Tells ts (Expected r) → Tells ts (Read e s) → ⊥
expected_read loosened ts r e s x y = ⊎_elim (λ c. one c.0 c.1 c.2) (λ c. two c.0 c.1 c.2) (cuts x.0 r y.0 s (sym x.1 ∙ y.1))
  where
    one : (d : List Lexeme) → x.0 ≡ y.0 ++ d → s ≡ d ++ r → ⊥
    one [] i j = x.4 e (subst (λ l. IsExpr false l e) (sym (i ∙ append-nil y.0)) (loosened y.0 e y.2))
    one (t ∷ d) i j = goes_further ts r x y.0 s y.3 t d i j

    two : (d : List Lexeme) → y.0 ≡ x.0 ++ d → r ≡ d ++ s → ⊥
    two [] i j = x.4 e (subst (λ l. IsExpr false l e) (i ∙ append-nil x.0) (loosened y.0 e y.2))
    two (t ∷ d) i j = goes_not x.0 r t (d ++ s) d e x.3 j (subst (λ l. IsExpr false l e) i (loosened y.0 e y.2))
