use Rattle.std.proofs.Common.{◌+◌, ◌++◌, drop, sym, ap, ◌∙◌}
use Rattle.xmi_models.specs.Outline.{objects_in}
use Rattle.xmi_models.specs.Faults.{objects}
use Rattle.xmi_models.specs.Entries.{entries_of, entry_of}
use Rattle.xmi_links.specs.Found.{ids_from, ids_in}
use Rattle.xmi_links.proofs.Steps.{left}
use Rattle.xmi_links.proofs.ids.ids_of.Goals as goal

pub loop-i-preserved : goal.loop-i-preserved
loop-i-preserved c =
    let here = left entry_of c.args.file.now c.loop-i.i c.index-file-i.result c.loop-i-test.true c.index-file-i.is in
    let rest = entries_of (drop (c.loop-i.i + 1) c.args.file.now) in
    record {
      told = c.in_ok-number.ensures.ids rest
          ∙ ap (λ es. ids_in c.loop-i.ids.items ++ ids_from c.args.sketch.now c.loop-i.number (objects es)) (sym here)
          ∙ c.loop-i.invariant.told;
      number = c.in_ok-number.ensures.number rest
          ∙ ap (λ es. c.loop-i.number + objects_in es) (sym here)
          ∙ c.loop-i.invariant.number;
    }
