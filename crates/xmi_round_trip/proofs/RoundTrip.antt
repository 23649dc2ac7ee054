-- What is written of a model is read back to the same model, its objects numbered in preorder: the law from its parts.
use Rattle.std.proofs.Common.{◌≡◌, ◌≤◌, sym, ap, ◌∙◌, Option, Some, None}
use Rattle.std.specs.Prelude.{IsSome, Ok}
use Rattle.std.specs.Option.{option_map_or}
use Rattle.atl_base.specs.declared.numbers.ObjId.{ObjId}
use Rattle.atl_base.specs.declared.place.Place.{Place}
use Rattle.doc_text.proofs.Again.{reads_back}
use Rattle.model_store.specs.Contents.{Contents, object_at}
use Rattle.model_store.specs.Order.{HasNoCycle}
use Rattle.model_store.specs.Paths.{object_of_path, path}
use Rattle.model_store.specs.Valid.{IsValid}
use Rattle.model_store.proofs.PathsBack.{path_back}
use Rattle.xmi_links.specs.Answers.{IsModelAnswer, file_fault}
use Rattle.xmi_links.specs.ModelOf.{model_of}
use Rattle.xmi_links.specs.References.{draft, reference_fault}
use Rattle.xmi_models.specs.Faults.{Fault}
use Rattle.xmi_models.specs.Outline.{outline}
use Rattle.xmi_write.specs.Xmi.{document}
use Rattle.xmi_round_trip.specs.Renumbered.{number, renumbered}
use Rattle.xmi_round_trip.specs.RoundTrip.{IsInBounds, IsReadTo, opened}
use Rattle.xmi_round_trip.proofs.Drafted.{drafted}
use Rattle.xmi_round_trip.proofs.DraftedSameContents.{same_contents}
use Rattle.xmi_round_trip.proofs.Drafts.{IsDrafted}
use Rattle.xmi_round_trip.proofs.ElementFaults.{no_element_fault}
use Rattle.xmi_round_trip.proofs.Filed.{IsFiled, IsOrdered, file}
use Rattle.xmi_round_trip.proofs.Linked.{is_renumbered, no_reference_fault}
use Rattle.xmi_round_trip.proofs.Outlined.{outlined}
use Rattle.xmi_round_trip.proofs.OutlinedEntries.{filed}
use Rattle.xmi_round_trip.proofs.PathsKept.{path_kept}
use Rattle.xmi_round_trip.proofs.Placeless.{same_answer}
use Rattle.xmi_round_trip.proofs.Preorder.{ordered}
use Rattle.xmi_round_trip.proofs.Writable.{document_is_writable}

module _ (m : Contents) (valid : IsValid m) (acyclic : HasNoCycle m) (bounds : IsInBounds m) where
  -- what is known of its order
  known : IsOrdered m
  known = ordered m valid acyclic

  -- what is known of its file
  in_file : IsFiled m
  in_file = filed m acyclic known

  -- what is known of its draft
  drafts : IsDrafted m
  drafts = drafted m valid acyclic bounds known in_file

  -- an object's path names its number in the draft
  paths : (o : ObjId) → IsSome (object_at m.objects o) → object_of_path (draft m.meta (file m)) (path m o) ≡ Some (number m o)
  paths o there =
      path_kept (number m) m (draft m.meta (file m)) (same_contents m valid known in_file drafts) valid.model (path m o) o
      (path_back m valid.metamodel valid.model bounds.numbers acyclic o there)

  -- nothing is wrong in the file
  no_fault : file_fault m.meta (file m) ≡ None
  no_fault =
      ap (λ (x : Option (Fault × Place)). option_map_or Some x (reference_fault m.meta (file m))) (no_element_fault m valid acyclic bounds known in_file)
      ∙ no_reference_fault m valid acyclic bounds known in_file drafts paths

  -- so its document is read to the model
  pub answered : IsModelAnswer (document m) m.meta (Ok (renumbered m))
  answered =
      let same : outline m.meta (document m) ≡ file m = outlined m valid acyclic bounds known in_file in
      (ap (file_fault m.meta) same ∙ no_fault, sym (is_renumbered m valid acyclic bounds known in_file drafts paths) ∙ sym (ap (model_of m.meta) same))

-- so the file is read back to the model, its objects numbered in preorder
pub read_back : (m : Contents) → IsValid m → HasNoCycle m → IsInBounds m → opened (document m).root ≤ 200 → IsReadTo m (renumbered m)
read_back m valid acyclic bounds shallow =
    let back = reads_back (document m) (document_is_writable m valid acyclic bounds shallow) in
    (back.0, back.1, same_answer m.meta (document m).root back.0 (sym back.2) (renumbered m) (answered m valid acyclic bounds))
