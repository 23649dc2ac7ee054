use Rattle.std.proofs.Common.{◌≡◌, ap, ◌∙◌}
use Rattle.ecore_outline.specs.Entries.{entries_of}
use Rattle.ecore_rows.specs.Rows.{class_rows}
use Rattle.xmi_read.specs.Parts.{classes_from, skipped_from}
use Rattle.xmi_read.specs.Groups.{packages_in, enums_in}
use Rattle.xmi_read.proofs.PartsMade.{made_is}
use Rattle.xmi_read.proofs.read_metamodel.parts_of.Goals as goal

pub returns : goal.returns
returns c =
    let same : entries_of c.entries-entries.result.now ≡ entries_of c.args.file.now = ap entries_of c.entries-entries.ensures in
    made_is (entries_of c.args.file.now) c.in_ok-packages.field-0 c.in_ok-classes.field-0 c.in_ok-features.field-0 c.in_ok-enums.field-0 c.in_ok-skipped.field-0
    (c.in_ok-packages.ensures ∙ ap packages_in same)
    (c.in_ok-classes.ensures ∙ ap (λ F. classes_from F 0 (class_rows F)) same)
    c.in_ok-features.ensures
    (c.in_ok-enums.ensures ∙ ap enums_in same)
    (c.in_ok-skipped.ensures ∙ ap (λ F. skipped_from F 0 F) same)
