-- All that the code needs of a document in whose elements nothing is wrong.
use Rattle.std.proofs.Common.{◌≡◌, ◌≤◌, List, refl, sym, ap, subst, ◌∙◌}
use Rattle.std.specs.Prelude.{All, None, Result, Ok}
use Rattle.doc_text.specs.declared.tree.Doc.{Doc}
use Rattle.ecore_meta.specs.declared.parts.Parts.{Parts}
use Rattle.ecore_meta.specs.Valid.{IsMetamodel}
use Rattle.model_store.specs.Order.{HasNoCycle}
use Rattle.model_store.specs.Valid.{IsModel}
use Rattle.xmi_models.specs.declared.fault.FoundFault.{FoundFault}
use Rattle.xmi_models.specs.declared.outline.File.{File}
use Rattle.xmi_models.specs.declared.part.Entry.{Entry as CodeEntry}
use Rattle.xmi_models.specs.Outline.{Entry, objects_in, outline}
use Rattle.xmi_models.specs.Faults.{element_fault}
use Rattle.xmi_models.specs.Entries.{entries_of}
use Rattle.xmi_links.specs.References.{reference_fault}
use Rattle.xmi_links.specs.ModelOf.{links, model_of}
use Rattle.xmi_links.specs.Stages.{AreHeld, AreOrdered, AreReferences, IsSound}
use Rattle.xmi_links.specs.Answers.{IsFaultlessFile}
use Rattle.xmi_links.proofs.Faultless.{faultless_is_model, faultless_has_no_cycle}
use Rattle.xmi_links.proofs.FaultlessOutline.{outline_regular}
use Rattle.xmi_links.proofs.Sounding.{all_held, few, ordered, references, sound}

pub record IsReadable (meta : Parts) (doc : Doc) (es : List Entry) : Type 0 where
  pub is : es ≡ outline meta doc
  pub none : element_fault meta (outline meta doc) ≡ None
  pub few : objects_in es ≤ 1000000
  pub sound : All (IsSound meta) es
  pub held : AreHeld meta es
  pub ordered : AreOrdered es
  pub references : reference_fault meta es ≡ None → AreReferences meta (links meta es)
  pub model : reference_fault meta es ≡ None → IsModel (model_of meta es)
  pub acyclic : HasNoCycle (model_of meta (outline meta doc))

its_outline : (meta : Parts) → IsMetamodel meta → (doc : Doc) → element_fault meta (outline meta doc) ≡ None → IsReadable meta doc (outline meta doc)
its_outline meta valid doc none =
    let file = outline meta doc in
    let regular = outline_regular meta valid doc in
    record {
      is = refl;
      none = none;
      few = few meta valid file none regular;
      sound = sound meta valid file none regular;
      held = all_held meta valid file none regular;
      ordered = ordered meta valid file none regular;
      references = references meta valid file none regular;
      model = faultless_is_model meta valid doc none;
      acyclic = faultless_has_no_cycle meta valid doc none;
    }

-- what the code has found of it
pub readable : (found meta : Parts) → found ≡ meta → IsMetamodel meta → (doc : Doc) (answer : Result File FoundFault) (file : File) → answer ≡ Ok file → IsFaultlessFile found doc answer
    → (es : List CodeEntry) → es ≡ file.entries.items → IsReadable meta doc (entries_of es)
readable found meta same valid doc answer file is fine es these =
    let told = subst (λ (m : Parts). IsFaultlessFile m doc (Ok file)) same (subst (IsFaultlessFile found doc) is fine) in
    subst (IsReadable meta doc) (sym (ap entries_of these ∙ told.0)) (its_outline meta valid doc told.1)
