use Rattle.std.proofs.Common.{◌≤◌, length, ap, ◌∙◌, arith}
use Rattle.std.specs.Prelude.{Some}
use Rattle.std.proofs.lemmas.List.{length-map}
use Rattle.ecore_outline.specs.Entries.{entry_of, entries_of}
use Rattle.ecore_names.specs.Targets.{own_of}
use Rattle.xmi_read.proofs.RowsFit.{named_small}
use Rattle.xmi_read.proofs.features.number_of.Goals as goal

pub overflow_cast-result : goal.overflow_cast-result
overflow_cast-result c =
    let small : length (entries_of c.args.file.now) ≤ 4294967294 = omega (arith, c.requires, length-map c.args.file.now entry_of) in
    let within = named_small (entries_of c.args.file.now) small c.args.word.now c.in-Some-Kept.feature (entry_of c.in-Some-Kept.field-0-1) (c.in-Some-Kept.ensures ∙ ap (λ o. Some (own_of o)) c.in-Some-Kept.field-0-is) in
    omega (arith, within)
