-- Slots compared value by value, and texts that follow one another.
use Rattle.std.proofs.Common.{◌≡◌, ℕ, suc, ◌+◌, ◌<◌, List, [], ◌∷◌, ◌++◌, length, drop, map, refl, sym, ap, ◌∙◌, arith}
use Rattle.std.specs.Prelude.{Bool, true, false, ◌&&◌, slice_index_or}
use Rattle.std.proofs.lemmas.List.{drop_more}
use Rattle.model_store.specs.declared.parts.Cellv.{Cellv}
use Rattle.model_store.specs.Writes.{same_value}
use Rattle.xmi_write.specs.Values.{are_same, behind, joined_from}

-- slots of different sizes differ
pub sizes_differ : (a b : List Cellv) → (length a ≡ length b → ⊥) → are_same a b ≡ false
sizes_differ [] [] h = absurd (h refl)
sizes_differ [] (w ∷ b) h = refl
sizes_differ (v ∷ a) [] h = refl
sizes_differ (v ∷ a) (w ∷ b) h = on (same_value v w) (sizes_differ a b (λ e. h (ap suc e)))
  where
    on : (x : Bool) → are_same a b ≡ false → (x && are_same a b) ≡ false
    on true e = e
    on false e = refl

-- by the value at a place
pub same_more : (a b : List Cellv) (at : ℕ) (d e : Cellv) → at < length a → at < length b
    → are_same (drop at a) (drop at b) ≡ (same_value (slice_index_or a at d) (slice_index_or b at e) && are_same (drop (at + 1) a) (drop (at + 1) b))
same_more a b at d e h k = ap (λ xs. are_same xs (drop at b)) (drop_more a at d h) ∙ ap (are_same (slice_index_or a at d ∷ drop (at + 1) a)) (drop_more b at e k)

-- one text more
pub joined_more : {X : Type 0} (text : X → List ℕ) (is_first : Bool) (xs : List X) (at : ℕ) (d : X) → at < length xs
    → joined_from is_first (map text (drop at xs)) ≡ behind is_first (text (slice_index_or xs at d)) ++ joined_from false (map text (drop (at + 1) xs))
joined_more text is_first xs at d h = ap (λ l. joined_from is_first (map text l)) (drop_more xs at d h)
