-- What references say, what is wrong with them, and the model of a file do not depend on the places of its elements.
use Rattle.std.proofs.Common.{◌≡◌, ℕ, suc, List, [], ◌∷◌, ◌++◌, map, refl, ap, ◌∙◌}
use Rattle.std.specs.Prelude.{flat_map, ◌&&◌, not, if◌then◌else◌}
use Rattle.atl_base.specs.declared.numbers.FeatId.{FeatId}
use Rattle.atl_base.specs.declared.numbers.ObjId.{ObjId}
use Rattle.doc_text.specs.Characters.{place}
use Rattle.ecore_meta.specs.declared.parts.Parts.{Parts}
use Rattle.model_store.specs.declared.parts.Cellv.TheVariants.{Obj}
use Rattle.model_store.specs.Contents.{Contents, contains, is_contained_by, refers}
use Rattle.xmi_models.specs.Outline.{Entry}
use Rattle.xmi_models.specs.Faults.{objects}
use Rattle.xmi_links.specs.References.{Link, bearers, draft, ends_of, links_at, links_from, reference_fault, reference_fault_from, references_at, references_fault}
use Rattle.xmi_links.specs.ModelOf.{container_by, joined, joined_slot, links, model_of, referred}
use Rattle.xmi_round_trip.proofs.PlacelessEntries.{bare, first_told, objects_bare, what}
use Rattle.xmi_round_trip.proofs.PlacelessDrafts.{all_objects_bare, bearers_bare, draft_bare, slot_bare}

-- ## References

module _ (m : Contents) (who : List ℕ → List ObjId) where
  -- the links of objects from a number on
  links_from_bare : (n : ℕ) (es : List Entry) → links_from m who n (map bare es) ≡ links_from m who n es
  links_from_bare n [] = refl
  links_from_bare n (e ∷ es) = ap (λ l. links_at m who (record { 0 = n }) e ++ l) (links_from_bare (suc n) es)

  -- the first thing wrong in their references, but for its place
  fault_from_bare : (n : ℕ) (before : List Link) (es : List Entry) → what (reference_fault_from m who n before (map bare es)) ≡ what (reference_fault_from m who n before es)
  fault_from_bare n before [] = refl
  fault_from_bare n before (e ∷ es) =
      first_told (references_fault m before e.part (references_at m who (record { 0 = n }) e)) (references_fault m before e.part (references_at m who (record { 0 = n }) e)) (place 1 1) e.tag.place
      (reference_fault_from m who (suc n) (before ++ flat_map (ends_of m.meta) (references_at m who (record { 0 = n }) e)) (map bare es))
      (reference_fault_from m who (suc n) (before ++ flat_map (ends_of m.meta) (references_at m who (record { 0 = n }) e)) es)
      refl (fault_from_bare (suc n) (before ++ flat_map (ends_of m.meta) (references_at m who (record { 0 = n }) e)) es)

module _ (meta : Parts) (file : List Entry) where
  -- the first thing wrong in the references of a file, but for its place
  pub reference_fault_bare : what (reference_fault meta (map bare file)) ≡ what (reference_fault meta file)
  reference_fault_bare =
      ap (λ m. what (reference_fault_from m (bearers m (map bare file)) 0 [] (objects (map bare file)))) (draft_bare meta file)
      ∙ ap (λ who. what (reference_fault_from (draft meta file) who 0 [] (objects (map bare file)))) (bearers_bare (draft meta file) file)
      ∙ ap (λ es. what (reference_fault_from (draft meta file) (bearers (draft meta file) file) 0 [] es)) (objects_bare file)
      ∙ fault_from_bare (draft meta file) (bearers (draft meta file) file) 0 [] (objects file)

  -- all links of a file
  links_bare : links meta (map bare file) ≡ links meta file
  links_bare =
      ap (λ m. links_from m (bearers m (map bare file)) 0 (objects (map bare file))) (draft_bare meta file)
      ∙ ap (λ who. links_from (draft meta file) who 0 (objects (map bare file))) (bearers_bare (draft meta file) file)
      ∙ ap (λ es. links_from (draft meta file) (bearers (draft meta file) file) 0 es) (objects_bare file)
      ∙ links_from_bare (draft meta file) (bearers (draft meta file) file) 0 (objects file)

  -- ## The model

  -- what stands in a slot of the model
  joined_slot_bare : (ls : List Link) (o : ObjId) (e : Entry) (f : FeatId) → joined_slot meta (map bare file) ls o (bare e) f ≡ joined_slot meta file ls o e f
  joined_slot_bare ls o e f =
      ap (λ l. if is_contained_by meta f then map Obj (container_by meta f e.part) else if refers meta f && not (contains meta f) then map Obj (referred meta ls o f) else l) (slot_bare meta file o e f)

  -- the model that a file stands for
  pub model_bare : model_of meta (map bare file) ≡ model_of meta file
  model_bare =
      ap (λ ls. joined meta (map bare file) ls) links_bare
      ∙ all_objects_bare meta (joined_slot meta (map bare file) (links meta file)) (joined_slot meta file (links meta file)) (joined_slot_bare (links meta file)) file
