use Rattle.std.proofs.Common.{◌≡◌, ℕ, List, take}
use Rattle.std.specs.Prelude.{All, filter_map}
use Rattle.atl_base.specs.declared.numbers.ObjId.{ObjId}
use Rattle.xmi_models.specs.Entries.{entry_of}
use Rattle.xmi_links.specs.References.{reference_of}
use Rattle.xmi_links.specs.Found.{AreBearers, AreTexts, references_in}
use Rattle.xmi_links.proofs.references.references_at.Given as goal

-- the references so far
abbrev pub invariant-loop-i : goal.invariant-loop-i
invariant-loop-i l = record {
  told : (who : List ℕ → List ObjId) → AreBearers who l.ids → references_in l.references.items ≡ filter_map (reference_of l.sketch who l.source (entry_of l.entry)) (take l.i l.attributes);
  texts : All AreTexts (references_in l.references.items);
}
