use Rattle.std.proofs.Common.{◌≡◌, sym, ap, ◌∙◌, subst}
use Rattle.ecore_meta.specs.Valid.{IsMetamodel}
use Rattle.ecore_outline.specs.Outline.{outline}
use Rattle.ecore_faults.specs.Faults.{first_fault}
use Rattle.xmi_read.specs.Parts.{parts_of}
use Rattle.ecore_outline.specs.Entries.{entries_of}
use Rattle.ecore_faults.specs.FoundFaults.{fault_of, told}
use Rattle.xmi_read.proofs.FaultTexts.{value_is_xml}
use Rattle.xmi_read.proofs.Valid.{outline_valid}
use Rattle.xmi_read.proofs.read_metamodel.read_with.Goals as goal

pub refusal_of-requires : goal.refusal_of-requires
refusal_of-requires c =
    value_is_xml (entries_of c.in_ok-file.file) c.in_ok-file.ensures.texts (fault_of c.in-Some.found.fault, c.in-Some.found.place) (sym c.in_ok-found.ensures ∙ ap told c.in-Some.is)

pub metamodel_of-requires-clause-valid : goal.metamodel_of-requires-clause-valid
metamodel_of-requires-clause-valid c =
    let same : entries_of c.in_ok-file.file ≡ outline c.args.doc.now = c.in_ok-file.ensures.outline in
    subst (λ l. IsMetamodel (parts_of l)) (sym same)
    (outline_valid c.args.doc.now (ap first_fault (sym same) ∙ sym c.in_ok-found.ensures ∙ ap told c.in-None.is))
