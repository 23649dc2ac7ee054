use Rattle.std.proofs.Common.{◌≡◌, List, None, Some, Option, sym, subst, ap, ◌∙◌}
use Rattle.std.specs.Prelude.{All}
use Rattle.std.specs.Option.{option_map_or}
use Rattle.ecore_meta.specs.declared.parts.Parts.{Parts}
use Rattle.xmi_models.specs.Entries.{entry_of}
use Rattle.xmi_models.specs.Faults.{Fault}
use Rattle.xmi_models.specs.FoundFaults.{fault_in}
use Rattle.xmi_links.specs.declared.references.Reference.{Reference as CodeReference}
use Rattle.xmi_links.specs.References.{Reference, ends_fault, references_at, tokens_fault}
use Rattle.xmi_links.specs.Found.{AreEnds, AreTexts, references_in}
use Rattle.xmi_links.specs.Linking.{IsLinked}
use Rattle.xmi_links.proofs.Steps.{if_ok}
use Rattle.xmi_links.proofs.links.push_element.Goals as goal

pub tokens_fault-requires : goal.tokens_fault-requires
tokens_fault-requires c = subst (λ (rs : List CodeReference). All AreTexts (references_in rs)) (sym c.deref.ensures.value) c.in_ok-references.ensures.texts

pub returns : goal.returns
returns c = if_ok c.push_all.result
    (λ f h who before are ends.
    let m = c.args.sketch.now in
    let e = entry_of c.args.entry.now in
    let rs : List Reference = references_at m who c.args.o e in
    let old = c.args.found.now in
    let new = c.push_all.new.found in
    let meta : c.deref-2.result.now ≡ m.meta = c.deref-2.ensures ∙ c.meta.ensures in
    let said : references_in c.in_ok-references.references.items ≡ rs = c.in_ok-references.ensures.references who are in
    let linked : IsLinked m.meta before rs old (fault_in f) new =
    subst (λ (k : List Reference). IsLinked m.meta before k old (fault_in f) new) (ap references_in c.deref-3.ensures.value ∙ said)
    (subst (λ (p : Parts). IsLinked p before (references_in c.deref-3.result.now) old (fault_in f) new) meta
    (h before (subst (λ (p : Parts). AreEnds p before old.ends) (sym meta) ends))) in
    let none : ◌≡◌ {A = Option Fault} None (tokens_fault m e.part rs) =
    sym (ap fault_in c.in_default.is) ∙ c.in_ok-fault.ensures ∙ ap (tokens_fault m e.part) (ap references_in c.deref.ensures.value ∙ said) in
    (linked.0 ∙ ap (λ (t : Option Fault). option_map_or Some t (ends_fault m.meta before rs)) none, linked.1))
    c.push_all.ensures
