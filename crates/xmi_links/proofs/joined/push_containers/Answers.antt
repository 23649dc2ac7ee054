use Rattle.std.proofs.Common.{ℕ, refl, sym, ap, ◌∙◌, arith}
use Rattle.std.specs.Prelude.{slice_get}
use Rattle.ecore_meta.specs.declared.parts.Parts.{Parts}
use Rattle.xmi_models.specs.Outline.{Entry, objects_in}
use Rattle.xmi_models.specs.Faults.{objects}
use Rattle.xmi_models.specs.Entries.{entries_of, entry_of}
use Rattle.xmi_models.proofs.FirstFault.{next_number}
use Rattle.xmi_links.specs.References.{roots_from}
use Rattle.std.proofs.lemmas.List.{take_all}
use Rattle.xmi_links.specs.Stages.{IsHeld, built, contained_to}
use Rattle.xmi_links.proofs.Containing.{contained_none, entry_step, few_before, object_number}
use Rattle.xmi_links.proofs.Finding.{holds_at}
use Rattle.xmi_links.proofs.joined.push_containers.Goals as goal

pub push_entry_container-requires-clause-number : goal.push_entry_container-requires-clause-number
push_entry_container-requires-clause-number c = omega (arith, c.loop-i.invariant.number, few_before c.args.file.now c.loop-i.i, c.requires.few)

pub push_entry_container-requires-clause-held : goal.push_entry_container-requires-clause-held
push_entry_container-requires-clause-held c = holds_at entry_of (λ (e : Entry). IsHeld c.args.meta.now e.part) c.args.file.now c.loop-i.i c.index-file-i.result c.requires.held c.loop-i-test.true c.index-file-i.is

pub past-number-requires : goal.past-number-requires
past-number-requires c = omega (arith, c.loop-i.invariant.number, few_before c.args.file.now c.loop-i.i, c.requires.few)

pub loop-i-init : goal.loop-i-init
loop-i-init c = record {
  number = refl;
  told = λ valid is. is ∙ contained_none c.args.meta.now valid (entries_of c.args.file.now);
}

pub loop-i-preserved : goal.loop-i-preserved
loop-i-preserved c =
    let meta : Parts = c.args.meta.now in
    let file = entries_of c.args.file.now in
    let n : ℕ = c.loop-i.number in
    let e : Entry = entry_of c.index-file-i.result in
    let held : IsHeld meta e.part = holds_at entry_of (λ (e : Entry). IsHeld meta e.part) c.args.file.now c.loop-i.i c.index-file-i.result c.requires.held c.loop-i-test.true c.index-file-i.is in
    record {
      number = next_number c.args.file.now c.loop-i.i c.index-file-i.result n c.past-number.result c.loop-i-test.true c.index-file-i.is c.loop-i.invariant.number c.past-number.ensures;
      told = λ valid drafted.
          c.in_ok-push_entry_container.ensures
          ∙ entry_step meta valid file n e c.loop-i.sketch held
          (λ object. ap (slice_get (objects file)) c.loop-i.invariant.number ∙ object_number c.args.file.now c.loop-i.i c.index-file-i.result c.loop-i-test.true c.index-file-i.is object)
          (c.loop-i.invariant.told valid drafted)
          ∙ ap (λ k. built meta (contained_to meta file k) (objects file) (roots_from 0 (objects file))) (sym c.past-number.ensures);
    }

pub returns : goal.returns
returns c = λ valid drafted.
    let meta : Parts = c.args.meta.now in
    let file = entries_of c.args.file.now in
    c.loop-i.invariant.told valid drafted
    ∙ ap (λ k. built meta (contained_to meta file k) (objects file) (roots_from 0 (objects file)))
    (c.loop-i.invariant.number ∙ ap (λ es. objects_in (entries_of es)) (take_all c.loop-i.i c.args.file.now c.loop-i-test.false))
