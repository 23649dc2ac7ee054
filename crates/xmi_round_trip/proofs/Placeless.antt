-- Documents that are the same but for places are read to the same model.
use Rattle.std.proofs.Common.{◌≡◌, List, map, refl, sym, ap, ◌∙◌}
use Rattle.std.specs.Prelude.{Option, Some, None, Ok}
use Rattle.std.specs.Option.{option_map_or}
use Rattle.atl_base.specs.declared.place.Place.{Place}
use Rattle.doc_text.specs.ReadBack.{unplaced}
use Rattle.doc_text.specs.declared.tree.Doc.{Doc}
use Rattle.doc_text.specs.declared.tree.Element.{Element}
use Rattle.ecore_meta.specs.declared.parts.Parts.{Parts}
use Rattle.model_store.specs.Contents.{Contents}
use Rattle.xmi_models.specs.Outline.{Entry, outline}
use Rattle.xmi_models.specs.Faults.{Fault, element_fault}
use Rattle.xmi_links.specs.Answers.{IsModelAnswer, file_fault}
use Rattle.xmi_links.specs.ModelOf.{model_of}
use Rattle.xmi_links.specs.References.{reference_fault}
use Rattle.xmi_round_trip.proofs.PlacelessEntries.{bare, nothing_found, what}
use Rattle.xmi_round_trip.proofs.PlacelessElements.{element_fault_bare}
use Rattle.xmi_round_trip.proofs.PlacelessLinks.{model_bare, reference_fault_bare}
use Rattle.xmi_round_trip.proofs.PlacelessWalks.{same_outline}

-- ## Files

-- the first of two by what is told of both
either_told : (a b c d : Option (Fault × Place)) → what a ≡ what c → what b ≡ what d → what (option_map_or Some a b) ≡ what (option_map_or Some c d)
either_told a b c d h k = told_of a b ∙ ap (λ x. option_map_or Some x (what b)) h ∙ ap (λ x. option_map_or Some (what c) x) k ∙ sym (told_of c d)
  where
    told_of : (a b : Option (Fault × Place)) → what (option_map_or Some a b) ≡ option_map_or Some (what a) (what b)
    told_of None b = refl
    told_of (Some x) b = refl

module _ (meta : Parts) where
  -- the first thing wrong in a file, but for its place
  pub file_fault_bare : (file : List Entry) → what (file_fault meta (map bare file)) ≡ what (file_fault meta file)
  file_fault_bare file = either_told (element_fault meta (map bare file)) (reference_fault meta (map bare file)) (element_fault meta file) (reference_fault meta file) (element_fault_bare meta file) (reference_fault_bare meta file)

  -- in files that are the same but for places the same is wrong first
  pub same_file_fault : (xs ys : List Entry) → map bare xs ≡ map bare ys → what (file_fault meta xs) ≡ what (file_fault meta ys)
  same_file_fault xs ys h = sym (file_fault_bare xs) ∙ ap (λ es. what (file_fault meta es)) h ∙ file_fault_bare ys

  -- and they stand for the same model
  pub same_model : (xs ys : List Entry) → map bare xs ≡ map bare ys → model_of meta xs ≡ model_of meta ys
  same_model xs ys h = sym (model_bare meta xs) ∙ ap (λ es. model_of meta es) h ∙ model_bare meta ys

-- ## Documents

-- a document of this root
abbrev document : Element → Doc
document root = record { root = root }

-- documents that are the same but for places are read to the same model
pub same_answer : (meta : Parts) (a b : Element) → unplaced a ≡ unplaced b → (n : Contents) → IsModelAnswer (record { root = a }) meta (Ok n) → IsModelAnswer (record { root = b }) meta (Ok n)
same_answer meta a b h n answer = (
  nothing_found (file_fault meta (outline meta (document b))) (sym (same_file_fault meta (outline meta (document a)) (outline meta (document b)) (same_outline meta a b h)) ∙ ap what answer.0),
  answer.1 ∙ same_model meta (outline meta (document a)) (outline meta (document b)) (same_outline meta a b h),
)
