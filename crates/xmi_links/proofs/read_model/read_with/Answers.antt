use Rattle.std.proofs.Common.{List, subst}
use Rattle.ecore_meta.specs.Valid.{IsMetamodel}
use Rattle.xmi_models.specs.Outline.{Entry}
use Rattle.xmi_links.specs.Answers.{IsLinkedAnswer}
use Rattle.xmi_links.proofs.Answering.{late_answer, no_cycle_answer}
use Rattle.xmi_links.proofs.Readable.{readable}
use Rattle.xmi_links.proofs.read_model.read_with.Goals as goal

pub linked-requires-clause-few : goal.linked-requires-clause-few
linked-requires-clause-few c =
    (readable c.args.names.now c.args.meta.now.value c.requires (subst IsMetamodel c.deref.ensures c.parts.ensures.valid) c.args.doc.now c.in_ok-file.field-0 c.in-Ok.file c.in-Ok.is c.in_ok-file.ensures c.deref-2.result.now c.deref-2.ensures.value).few

pub linked-requires-clause-sound : goal.linked-requires-clause-sound
linked-requires-clause-sound c =
    (readable c.args.names.now c.args.meta.now.value c.requires (subst IsMetamodel c.deref.ensures c.parts.ensures.valid) c.args.doc.now c.in_ok-file.field-0 c.in-Ok.file c.in-Ok.is c.in_ok-file.ensures c.deref-2.result.now c.deref-2.ensures.value).sound

pub linked-requires-clause-held : goal.linked-requires-clause-held
linked-requires-clause-held c =
    (readable c.args.names.now c.args.meta.now.value c.requires (subst IsMetamodel c.deref.ensures c.parts.ensures.valid) c.args.doc.now c.in_ok-file.field-0 c.in-Ok.file c.in-Ok.is c.in_ok-file.ensures c.deref-2.result.now c.deref-2.ensures.value).held

pub linked-requires-clause-ordered : goal.linked-requires-clause-ordered
linked-requires-clause-ordered c =
    (readable c.args.names.now c.args.meta.now.value c.requires (subst IsMetamodel c.deref.ensures c.parts.ensures.valid) c.args.doc.now c.in_ok-file.field-0 c.in-Ok.file c.in-Ok.is c.in_ok-file.ensures c.deref-2.result.now c.deref-2.ensures.value).ordered

pub linked-requires-clause-references : goal.linked-requires-clause-references
linked-requires-clause-references c =
    (readable c.args.names.now c.args.meta.now.value c.requires (subst IsMetamodel c.deref.ensures c.parts.ensures.valid) c.args.doc.now c.in_ok-file.field-0 c.in-Ok.file c.in-Ok.is c.in_ok-file.ensures c.deref-2.result.now c.deref-2.ensures.value).references

pub linked-requires-clause-model : goal.linked-requires-clause-model
linked-requires-clause-model c =
    (readable c.args.names.now c.args.meta.now.value c.requires (subst IsMetamodel c.deref.ensures c.parts.ensures.valid) c.args.doc.now c.in_ok-file.field-0 c.in-Ok.file c.in-Ok.is c.in_ok-file.ensures c.deref-2.result.now c.deref-2.ensures.value).model

pub returns-clause-answer : goal.returns-clause-answer
returns-clause-answer c =
    let r = readable c.args.names.now c.args.meta.now.value c.requires (subst IsMetamodel c.deref.ensures c.parts.ensures.valid) c.args.doc.now c.in_ok-file.field-0 c.in-Ok.file c.in-Ok.is c.in_ok-file.ensures c.deref-2.result.now c.deref-2.ensures.value in
    late_answer c.args.meta.now.value c.args.doc.now r.none c.linked.result (subst (λ (es : List Entry). IsLinkedAnswer c.args.meta.now.value es c.linked.result) r.is c.linked.ensures)

pub returns-clause-acyclic : goal.returns-clause-acyclic
returns-clause-acyclic c =
    let r = readable c.args.names.now c.args.meta.now.value c.requires (subst IsMetamodel c.deref.ensures c.parts.ensures.valid) c.args.doc.now c.in_ok-file.field-0 c.in-Ok.file c.in-Ok.is c.in_ok-file.ensures c.deref-2.result.now c.deref-2.ensures.value in
    no_cycle_answer c.args.meta.now.value c.args.doc.now r.acyclic c.linked.result (subst (λ (es : List Entry). IsLinkedAnswer c.args.meta.now.value es c.linked.result) r.is c.linked.ensures)
