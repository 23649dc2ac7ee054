-- The objects among elements, and how many there are.
use Rattle.std.proofs.Common.{◌≡◌, ℕ, suc, ◌+◌, List, ◌∷◌, sym, ap, ◌∙◌, arith}
use Rattle.std.specs.Prelude.{true, false, if◌then◌else◌}
use Rattle.xmi_models.specs.Outline.{Entry, is_object, objects_in}
use Rattle.xmi_models.specs.Faults.{objects}

module _ (e : Entry) (rest : List Entry) where
  pub one_more : true ≡ is_object e.part → objects (e ∷ rest) ≡ e ∷ objects rest
  one_more h = ap (λ b. if b then e ∷ objects rest else objects rest) (sym h)

  pub none_more : false ≡ is_object e.part → objects (e ∷ rest) ≡ objects rest
  none_more h = ap (λ b. if b then e ∷ objects rest else objects rest) (sym h)

  pub counted_more : (n : ℕ) → true ≡ is_object e.part → n + 1 + objects_in rest ≡ n + objects_in (e ∷ rest)
  counted_more n h =
      let more : n + 1 + objects_in rest ≡ n + suc (objects_in rest) = omega arith in
      more ∙ ap (λ b. n + (if b then suc (objects_in rest) else objects_in rest)) h

  pub counted_same : (n : ℕ) → false ≡ is_object e.part → n + objects_in rest ≡ n + objects_in (e ∷ rest)
  counted_same n h = ap (λ b. n + (if b then suc (objects_in rest) else objects_in rest)) h
