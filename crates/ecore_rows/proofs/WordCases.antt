-- Texts of one word, and of neither one nor two.
use Rattle.std.proofs.Common.{◌≡◌, ◌≢◌, ℕ, ◌<◌, ◌≤◌, List, [], ◌∷◌, length, get_or, map, refl, arith, Bor}
use Rattle.doc_text.specs.declared.tree.Prefix.{Prefix}
use Rattle.ecore_outline.specs.Outline.{Entry}
use Rattle.ecore_rows.specs.Rows.{attribute_typed, reference_typed, or_foreign}

pub one : (ws : List (Bor (List ℕ))) (d : Bor (List ℕ)) → 1 ≤ length ws → length ws < 2 → ws ≡ get_or ws 0 d ∷ []
one [] d h k = absurd (omega (arith, h))
one (w ∷ []) d h k = refl
one (w ∷ (v ∷ ws)) d h k = absurd (omega (arith, k))

pub attribute_other : (file : List Entry) (scope : List Prefix) (text : List ℕ) (ws : List (Bor (List ℕ))) → length ws ≢ 1 → length ws ≢ 2
    → attribute_typed file scope text (map (λ w. w.now) ws) ≡ or_foreign (map (λ w. w.now) ws) text
attribute_other file scope text [] h k = refl
attribute_other file scope text (w ∷ []) h k = absurd (h refl)
attribute_other file scope text (w ∷ (v ∷ [])) h k = absurd (k refl)
attribute_other file scope text (w ∷ (v ∷ (u ∷ ws))) h k = refl

pub reference_other : (file : List Entry) (scope : List Prefix) (text : List ℕ) (ws : List (Bor (List ℕ))) → length ws ≢ 1 → length ws ≢ 2
    → reference_typed file scope text (map (λ w. w.now) ws) ≡ or_foreign (map (λ w. w.now) ws) text
reference_other file scope text [] h k = refl
reference_other file scope text (w ∷ []) h k = absurd (h refl)
reference_other file scope text (w ∷ (v ∷ [])) h k = absurd (k refl)
reference_other file scope text (w ∷ (v ∷ (u ∷ ws))) h k = refl
