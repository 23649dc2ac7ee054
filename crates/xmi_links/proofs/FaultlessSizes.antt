-- A file without faults has no more objects than a model may have.
use Rattle.std.proofs.Common.{◌≡◌, suc, ◌+◌, ◌≤◌, List, [], ◌∷◌, ◌++◌, length, refl, sym, ap, ◌∙◌, subst, append-nil, append_assoc, arith, None}
use Rattle.std.specs.Prelude.{Bool, true, false, ◌&&◌, nat_le, if◌then◌else◌}
use Rattle.std.proofs.lemmas.Bool.{leb-false}
use Rattle.ecore_meta.specs.declared.parts.Parts.{Parts}
use Rattle.xmi_models.specs.Outline.{Entry, is_object, objects_in}
use Rattle.xmi_models.specs.Faults.{fault_from, is_too_many, objects}
use Rattle.xmi_models.proofs.Walking.{counted_together}
use Rattle.xmi_links.proofs.FaultlessEntries.{good_first}

pub counted_objects : (es : List Entry) → length (objects es) ≡ objects_in es
counted_objects [] = refl
counted_objects (x ∷ es) = by (is_object x.part) (counted_objects es)
  where
    by : (b : Bool) → length (objects es) ≡ objects_in es → length (if b then x ∷ objects es else objects es) ≡ (if b then suc (objects_in es) else objects_in es)
    by true h = ap suc h
    by false h = h

module _ (meta : Parts) where
  few_more : (before : List Entry) (e : Entry) → is_too_many meta before e.part ≡ false → objects_in before ≤ 1000000 → objects_in (before ++ (e ∷ [])) ≤ 1000000
  few_more before e h l = on (is_object e.part) refl
    where
      sum : (b : Bool) → is_object e.part ≡ b → objects_in (before ++ (e ∷ [])) ≡ objects_in before + (if b then suc 0 else 0)
      sum b i = counted_together before (e ∷ []) ∙ ap (λ c. objects_in before + (if c then suc 0 else 0)) i

      on : (b : Bool) → is_object e.part ≡ b → objects_in (before ++ (e ∷ [])) ≤ 1000000
      on true i = omega (arith, sum true i, leb-false 1000000 (objects_in before) (ap (λ b. b && nat_le 1000000 (objects_in before)) (sym i) ∙ h))
      on false i = omega (arith, sum false i, l)

  few_from : (before es : List Entry) → fault_from meta before es ≡ None → objects_in before ≤ 1000000 → objects_in (before ++ es) ≤ 1000000
  few_from before [] h l = subst (λ es. objects_in es ≤ 1000000) (sym (append-nil before)) l
  few_from before (e ∷ es) h l =
      let g = good_first meta before e es h in
      subst (λ all. objects_in all ≤ 1000000) (append_assoc before (e ∷ []) es) (few_from (before ++ (e ∷ [])) es g.1 (few_more before e g.0.few l))

  pub few_objects : (file : List Entry) → fault_from meta [] file ≡ None → length (objects file) ≤ 1000000
  few_objects file h = subst (λ n. n ≤ 1000000) (sym (counted_objects file)) (few_from [] file h (omega arith))
