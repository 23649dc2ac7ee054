-- The features of a file stand by their classes: those of a class follow one another.
use Rattle.std.proofs.Common.{◌≡◌, ℕ, suc, ◌+◌, ◌<◌, List, [], ◌∷◌, length, drop, refl, sym, ap, ◌∙◌, arith, subst}
use Rattle.std.specs.Prelude.{Bool, true, false, ◌==◌, if◌then◌else◌}
use Rattle.std.proofs.lemmas.Bool.{eqb-true, eqb-false, ne_eqb}
use Rattle.ecore_outline.specs.Outline.{Entry}
use Rattle.ecore_rows.specs.Rows.{FeatureRow}
use Rattle.xmi_read.specs.Parts.{feature_no, own_of}
use Rattle.ecore_rows.specs.Runs.{IsRising}
use Rattle.xmi_read.specs.Groups.{own_run}
use Rattle.xmi_text.proofs.Tests.{true-false}

module _ (file : List Entry) where
  -- behind its features a class has none
  none_past : (class k n : ℕ) (rows : List FeatureRow) → class < k → IsRising k rows → own_of file class n rows ≡ []
  none_past class k n [] l h = refl
  none_past class k n (row ∷ rows) l h =
      by (row.owner == class) (ne_eqb row.owner class (λ s. omega (arith, s, h.0))) (none_past class row.owner (suc n) rows (omega (arith, h.0)) h.1)
    where
      by : (t : Bool) → t ≡ false → own_of file class (suc n) rows ≡ [] → (if t then feature_no n ∷ own_of file class (suc n) rows else own_of file class (suc n) rows) ≡ []
      by true e r = absurd (true-false e)
      by false e r = r

  -- its features are those that stand first
  pub run_is : (class n : ℕ) (rows : List FeatureRow) → IsRising class rows → own_of file class n rows ≡ own_run class n rows
  run_is class n [] h = refl
  run_is class n (row ∷ rows) h =
      by (row.owner == class) refl
      (λ e. run_is class (suc n) rows (subst (λ k. IsRising k rows) (eqb-true row.owner class e) h.1))
      (λ e. none_past class row.owner (suc n) rows (above e) h.1)
    where
      above : (row.owner == class) ≡ false → class < row.owner
      above e = omega (arith, h.0, λ (s : row.owner ≡ class). eqb-false row.owner class e s)

      by : (t : Bool) → (row.owner == class) ≡ t → ((row.owner == class) ≡ true → own_of file class (suc n) rows ≡ own_run class (suc n) rows) → ((row.owner == class) ≡ false → own_of file class (suc n) rows ≡ [])
          → (if t then feature_no n ∷ own_of file class (suc n) rows else own_of file class (suc n) rows) ≡ (if t then feature_no n ∷ own_run class (suc n) rows else [])
      by true e f g = ap (λ l. feature_no n ∷ l) (f e)
      by false e f g = g e

  -- behind them stand those of later classes
  pub rise_past : (class n : ℕ) (rows : List FeatureRow) → IsRising class rows → IsRising (suc class) (drop (length (own_run class n rows)) rows)
  rise_past class n [] h = tt
  rise_past class n (row ∷ rows) h =
      by (row.owner == class) refl (λ e. rise_past class (suc n) rows (subst (λ k. IsRising k rows) (eqb-true row.owner class e) h.1))
    where
      by : (t : Bool) → (row.owner == class) ≡ t → ((row.owner == class) ≡ true → IsRising (suc class) (drop (length (own_run class (suc n) rows)) rows))
          → IsRising (suc class) (drop (length (if t then feature_no n ∷ own_run class (suc n) rows else [])) (row ∷ rows))
      by true e f = f e
      by false e f = (omega (arith, h.0, λ (s : row.owner ≡ class). eqb-false row.owner class e s), h.1)

  pub own_past : (class later n : ℕ) (rows : List FeatureRow) → class < later
      → own_of file later (n + length (own_run class n rows)) (drop (length (own_run class n rows)) rows) ≡ own_of file later n rows
  own_past class later n [] l = refl
  own_past class later n (row ∷ rows) l =
      by (row.owner == class) refl (own_past class later (suc n) rows l)
    where
      by : (t : Bool) → (row.owner == class) ≡ t → own_of file later (suc n + length (own_run class (suc n) rows)) (drop (length (own_run class (suc n) rows)) rows) ≡ own_of file later (suc n) rows
          → own_of file later (n + length (if t then feature_no n ∷ own_run class (suc n) rows else [])) (drop (length (if t then feature_no n ∷ own_run class (suc n) rows else [])) (row ∷ rows)) ≡ own_of file later n (row ∷ rows)
      by false e r =
          let same : n + 0 ≡ n = omega arith in
          ap (λ m. own_of file later m (row ∷ rows)) same
      by true e r =
          let same : n + suc (length (own_run class (suc n) rows)) ≡ suc n + length (own_run class (suc n) rows) = omega arith in
          ap (λ m. own_of file later m (drop (length (own_run class (suc n) rows)) rows)) same
          ∙ r
          ∙ sym (ap (λ t. if t then feature_no n ∷ own_of file later (suc n) rows else own_of file later (suc n) rows) (ne_eqb row.owner later (λ s. omega (arith, s, eqb-true row.owner class e))))
