use Rattle.std.proofs.Common.{refl, []}
use Rattle.std.specs.Prelude.{filter_map}
use Rattle.std.proofs.lemmas.List.Elements.{filter_map-append}
use Rattle.xmi_models.specs.Entries.{entry_of}
use Rattle.xmi_links.specs.References.{reference_of}
use Rattle.xmi_links.specs.Found.{references_in}
use Rattle.xmi_links.proofs.Steps.{grown}
use Rattle.xmi_links.proofs.references.references_at.Goals as goal

pub loop-i-preserved : goal.loop-i-preserved
loop-i-preserved c = record {
  told = λ who h.
      let says = reference_of c.args.sketch.now who c.args.source (entry_of c.args.entry.now) in
      grown (filter_map says) (filter_map-append says) c.as_slice-attributes.result.now c.loop-i.i c.index-attributes-i.result c.loop-i-test.true c.index-attributes-i.is
      [] (references_in c.loop-i.references.items) (references_in c.push_reference.new.references.items)
      (c.loop-i.invariant.told who h) (c.in_ok-push_reference.ensures.references who (entry_of c.args.entry.now) h refl);
  texts = c.in_ok-push_reference.ensures.texts c.loop-i.invariant.texts;
}
