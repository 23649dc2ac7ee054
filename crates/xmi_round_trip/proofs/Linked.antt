-- In the references of a written file nothing is wrong, and the model that it stands for is the one that was written, its objects
-- numbered in preorder.
use Rattle.std.proofs.Common.{◌≡◌, ℕ, List, [], ap, ◌∙◌, Option, Some, None}
use Rattle.std.specs.Prelude.{IsSome}
use Rattle.atl_base.specs.declared.numbers.ObjId.{ObjId}
use Rattle.model_store.specs.declared.parts.Object.{Object}
use Rattle.model_store.specs.Contents.{Contents, object_at}
use Rattle.model_store.specs.Order.{HasNoCycle}
use Rattle.model_store.specs.Paths.{object_of_path, path}
use Rattle.model_store.specs.Valid.{IsValid}
use Rattle.xmi_models.specs.Faults.{objects}
use Rattle.xmi_links.specs.References.{bearers, draft, drafted_slot, links_from, objects_by, reference_fault, reference_fault_from, roots_from}
use Rattle.xmi_links.specs.ModelOf.{joined, links, model_of}
use Rattle.xmi_round_trip.specs.Renumbered.{number, renumbered}
use Rattle.xmi_round_trip.specs.RoundTrip.{IsInBounds}
use Rattle.xmi_round_trip.proofs.Drafts.{IsDrafted}
use Rattle.xmi_round_trip.proofs.Filed.{IsFiled, IsOrdered, file}
use Rattle.xmi_round_trip.proofs.LinkedFile.{file_links, file_right}
use Rattle.xmi_round_trip.proofs.LinkedLinks.{IsFollowed}
use Rattle.xmi_round_trip.proofs.Rejoined.{joined_is}
use Rattle.xmi_round_trip.proofs.RejoinedLinks.{all_links}
use Rattle.xmi_round_trip.proofs.DraftedSameContents.{same_contents}

module _ (m : Contents) (valid : IsValid m) (acyclic : HasNoCycle m) (bounds : IsInBounds m) (known : IsOrdered m) (filed : IsFiled m) (drafts : IsDrafted m)
    (paths : (o : ObjId) → IsSome (object_at m.objects o) → object_of_path (draft m.meta (file m)) (path m o) ≡ Some (number m o)) where
  -- ## The objects of the draft

  -- its objects, without their references
  abbrev there : List (Option Object)
  there = objects_by m.meta (drafted_slot m.meta (file m)) 0 (objects (file m))

  -- its roots
  abbrev tops : List ObjId
  tops = roots_from 0 (objects (file m))

  -- among them each object's path leads to its number
  followed : IsFollowed m there tops
  followed = record {
    valid = valid;
    acyclic = acyclic;
    few = bounds.numbers;
    known = known;
    paths = paths;
    classes = (same_contents m valid known filed drafts).classes;
  }

  -- the objects of the file that bear an id
  abbrev who : List ℕ → List ObjId
  who = bearers (draft m.meta (file m)) (file m)

  -- ## The laws

  -- nothing is wrong in the references of a written file
  pub no_reference_fault : reference_fault m.meta (file m) ≡ None
  no_reference_fault = ap (reference_fault_from (draft m.meta (file m)) who 0 []) filed.objects_are ∙ file_right m there tops who followed

  -- its links are those of the model's slots
  links_are : links m.meta (file m) ≡ all_links m valid known
  links_are = ap (links_from (draft m.meta (file m)) who 0) filed.objects_are ∙ file_links m there tops who followed

  -- it stands for the same model, its objects numbered in preorder
  pub is_renumbered : model_of m.meta (file m) ≡ renumbered m
  is_renumbered = ap (joined m.meta (file m)) links_are ∙ joined_is m valid known drafts
