use Rattle.std.proofs.Common.{◌≡◌, ◌+◌, ◌++◌, ◌∷◌, length, take, drop, sym, ap, subst, ◌∙◌, arith}
use Rattle.std.proofs.lemmas.List.{take-append-drop, map-append}
use Rattle.ecore_meta.specs.declared.parts.Parts.{Parts}
use Rattle.ecore_meta.specs.Valid.{IsMetamodel}
use Rattle.model_store.specs.Contents.{Contents}
use Rattle.xmi_models.specs.Outline.{Entry, objects_in}
use Rattle.xmi_models.specs.Faults.{objects}
use Rattle.xmi_models.specs.Entries.{entries_of, entry_of}
use Rattle.xmi_models.proofs.FirstFault.{next_part}
use Rattle.xmi_links.specs.Stages.{HolderBelow, IsSound, raw, raw_slot, with_part}
use Rattle.xmi_links.proofs.Building.{length_by}
use Rattle.xmi_links.proofs.Containing.{few_before, objects_count}
use Rattle.xmi_links.proofs.Entering.{HoldersBelow, entry_step}
use Rattle.xmi_links.proofs.Finding.{holds_at}
use Rattle.xmi_links.proofs.Ordering.{ordered_below}
use Rattle.xmi_links.proofs.Steps.{left}
use Rattle.xmi_links.proofs.objects.entered_objects.Goals as goal

pub push_entry-requires-clause-few : goal.push_entry-requires-clause-few
push_entry-requires-clause-few c =
    let before = entries_of (take c.loop-i.i c.args.file.now) in
    let many : length c.loop-i.sketch.objects ≡ objects_in before =
    ap (λ (m : Contents). length m.objects) c.loop-i.invariant ∙ length_by c.args.meta.now.value (raw_slot c.args.meta.now.value before) 0 (objects before) ∙ objects_count before in
    omega (arith, many, few_before c.args.file.now c.loop-i.i, c.requires.few)

pub push_entry-requires-clause-sound : goal.push_entry-requires-clause-sound
push_entry-requires-clause-sound c =
    subst (λ (meta : Parts). IsSound meta (entry_of c.index-file-i.result)) (sym c.deref-in-loop-i.ensures)
    (holds_at entry_of (IsSound c.args.meta.now.value) c.args.file.now c.loop-i.i c.index-file-i.result c.requires.sound c.loop-i-test.true c.index-file-i.is)

pub loop-i-preserved : goal.loop-i-preserved
loop-i-preserved c =
    let meta : Parts = c.args.meta.now.value in
    let file = entries_of c.args.file.now in
    let before = entries_of (take c.loop-i.i c.args.file.now) in
    let rest = entries_of (drop (c.loop-i.i + 1) c.args.file.now) in
    let e : Entry = entry_of c.index-file-i.result in
    let valid : IsMetamodel meta = subst IsMetamodel c.deref.ensures c.parts.ensures.valid in
    let sound : IsSound meta e = holds_at entry_of (IsSound meta) c.args.file.now c.loop-i.i c.index-file-i.result c.requires.sound c.loop-i-test.true c.index-file-i.is in
    let cut : before ++ e ∷ rest ≡ file =
    sym (ap entries_of (sym (take-append-drop c.loop-i.i c.args.file.now)) ∙ map-append entry_of (take c.loop-i.i c.args.file.now) (drop c.loop-i.i c.args.file.now)
    ∙ ap (λ l. before ++ l) (left entry_of c.args.file.now c.loop-i.i c.index-file-i.result c.loop-i-test.true c.index-file-i.is)) in
    let below : HoldersBelow (length (objects before)) before = subst (λ k. HoldersBelow k before) (sym (objects_count before)) (ordered_below file c.requires.ordered before (e ∷ rest) cut) in
    let held : HolderBelow (length (objects before)) e.part = subst (λ k. HolderBelow k e.part) (sym (objects_count before)) (c.requires.ordered before rest e cut) in
    c.in_ok-push_entry.ensures
    ∙ ap (λ (m : Parts). with_part m e e.part c.loop-i.sketch) c.deref-in-loop-i.ensures
    ∙ ap (with_part meta e e.part) c.loop-i.invariant
    ∙ entry_step meta valid before e sound below held
    ∙ ap (raw meta) (sym (next_part c.args.file.now c.loop-i.i c.index-file-i.result c.loop-i-test.true c.index-file-i.is))
