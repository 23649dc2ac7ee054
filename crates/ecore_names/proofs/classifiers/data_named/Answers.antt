use Rattle.std.proofs.Common.{sym, ap, ◌∙◌}
use Rattle.std.specs.Prelude.{option_map, slice_get}
use Rattle.ecore_outline.specs.Entries.{entries_of}
use Rattle.xmi_text.specs.Options.{then_}
use Rattle.ecore_names.specs.Targets.{path_of}
use Rattle.ecore_names.specs.Classifiers.{row_data}
use Rattle.ecore_names.specs.FileTables.{rows_of}
use Rattle.ecore_names.proofs.Classified.{data_is}
use Rattle.ecore_names.proofs.classifiers.data_named.Goals as goal

pub returns : goal.returns
returns c =
    c.data_at.ensures
    ∙ ap (λ l. then_ c.first_named-place.result (λ k. option_map row_data (slice_get (rows_of l) k))) c.deref.ensures.value
    ∙ ap (λ o. then_ o (λ k. option_map row_data (slice_get (rows_of c.args.table.now.rows.items) k))) c.first_named-place.ensures
    ∙ sym (data_is (path_of c.args.path.now) (entries_of c.args.entries.now) c.args.table.now c.requires)
