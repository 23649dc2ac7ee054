-- What is answered where nothing is wrong in the elements of a document.
use Rattle.std.proofs.Common.{◌≡◌, sym, ap, subst, ◌∙◌}
use Rattle.std.specs.Prelude.{IfOk, Option, Some, None, Result, Ok, Err}
use Rattle.std.specs.Option.{option_map_or}
use Rattle.atl_base.specs.declared.place.Place.{Place}
use Rattle.doc_text.specs.declared.tree.Doc.{Doc}
use Rattle.ecore_meta.specs.declared.parts.Parts.{Parts}
use Rattle.model_store.specs.Contents.{Contents}
use Rattle.model_store.specs.Order.{HasNoCycle}
use Rattle.xmi_models.specs.Outline.{outline}
use Rattle.xmi_models.specs.Faults.{Fault, element_fault}
use Rattle.xmi_links.specs.declared.refusal.ModelRefusal.{ModelRefusal}
use Rattle.xmi_links.specs.References.{reference_fault}
use Rattle.xmi_links.specs.ModelOf.{model_of}
use Rattle.xmi_links.specs.Answers.{IsLinkedAnswer, IsModelAnswer, IsTold, file_fault}

module _ (meta : Parts) (doc : Doc) where
  -- nothing is wrong in the elements, so the first fault is that of references
  late : element_fault meta (outline meta doc) ≡ None → file_fault meta (outline meta doc) ≡ reference_fault meta (outline meta doc)
  late none = ap (λ (x : Option (Fault × Place)). option_map_or Some x (reference_fault meta (outline meta doc))) none

  pub late_answer : element_fault meta (outline meta doc) ≡ None → (r : Result Contents ModelRefusal) → IsLinkedAnswer meta (outline meta doc) r → IsModelAnswer doc meta r
  late_answer none (Ok model) h = (late none ∙ h.0, h.1)
  late_answer none (Err refusal) h = subst (λ (f : Option (Fault × Place)). IsTold f refusal) (sym (late none)) h

  pub early_answer : (f : Fault × Place) → Some f ≡ element_fault meta (outline meta doc) → (refusal : ModelRefusal) → IsTold (Some f) refusal → IsModelAnswer doc meta (Err refusal)
  early_answer f is refusal h =
      subst (λ (g : Option (Fault × Place)). IsTold g refusal) (ap (λ (x : Option (Fault × Place)). option_map_or Some x (reference_fault meta (outline meta doc))) is) h

  pub no_cycle_answer : HasNoCycle (model_of meta (outline meta doc)) → (r : Result Contents ModelRefusal) → IsLinkedAnswer meta (outline meta doc) r → IfOk r (λ model. HasNoCycle model)
  no_cycle_answer h (Ok model) k = subst HasNoCycle (sym k.1) h
  no_cycle_answer h (Err refusal) k = tt
