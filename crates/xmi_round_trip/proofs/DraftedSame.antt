-- Slots whose values are told to be the same hold the same: so what is left out of a file is what is read there.
use Rattle.std.proofs.Common.{◌≡◌, List, [], ◌∷◌, refl, sym, ap, ◌∙◌}
use Rattle.std.specs.Prelude.{◌&&◌, not, Bool, true, false, if◌then◌else◌}
use Rattle.std.proofs.lemmas.Bool.{eqb-true, true≢false}
use Rattle.std.proofs.lemmas.Bool.Decides.{Decides-int_eq}
use Rattle.std.proofs.lemmas.Slice.Eq.{bytes_eq-Decides}
use Rattle.model_store.specs.declared.parts.Cellv.{Cellv}
use Rattle.model_store.specs.declared.parts.Cellv.TheVariants.{Words, Int, Truth, Literal, Obj}
use Rattle.model_store.specs.Writes.{same_value}
use Rattle.model_store.proofs.Slots.{same_object}
use Rattle.xmi_write.specs.Values.{are_same}

-- ## Values that are the same

-- truths
one_truth : (a b : Bool) → (if a then b else not b) ≡ true → a ≡ b
one_truth true true h = refl
one_truth false false h = refl
one_truth true false h = absurd (true≢false (sym h))
one_truth false true h = absurd (true≢false (sym h))

-- values
one_value : (v w : Cellv) → same_value v w ≡ true → v ≡ w
one_value (Words a) (Words b) h = ap Words ((bytes_eq-Decides a b).0 h)
one_value (Int a) (Int b) h = ap Int ((Decides-int_eq a b).0 h)
one_value (Truth a) (Truth b) h = ap Truth (one_truth a b h)
one_value (Literal a) (Literal b) h = ap Literal (eqb-true a b h)
one_value (Obj a) (Obj b) h = ap Obj (same_object a b (eqb-true a.0 b.0 h))
one_value v w h = absurd (true≢false (sym h))

-- slots
pub same_values : (vs ws : List Cellv) → are_same vs ws ≡ true → vs ≡ ws
same_values [] [] h = refl
same_values (v ∷ vs) (w ∷ ws) h = on (same_value v w) refl h (same_values vs ws)
  where
    on : (b : Bool) → same_value v w ≡ b → (b && are_same vs ws) ≡ true → (are_same vs ws ≡ true → vs ≡ ws) → v ∷ vs ≡ w ∷ ws
    on true e h again = ap (λ x. x ∷ vs) (one_value v w e) ∙ ap (λ xs. w ∷ xs) (again h)
    on false e h again = absurd (true≢false (sym h))
same_values [] (w ∷ ws) h = absurd (true≢false (sym h))
same_values (v ∷ vs) [] h = absurd (true≢false (sym h))
