use Rattle.ecore_outline.specs.Entries.{entries_of}
use Rattle.ecore_rows.specs.CodeRows.{feature_row_of}
use Rattle.xmi_read.proofs.FeatureParts.{made_is}
use Rattle.xmi_read.proofs.features.feature_of.Goals as goal

pub returns : goal.returns
returns c = made_is (entries_of c.args.file.now) (feature_row_of c.args.row.now) c.in_ok-name_text.field-0 c.kind_of.result c.is_many.result c.is_unique.result c.is_id.result c.in_ok-default_of.field-0
    c.in_ok-name_text.ensures c.kind_of.ensures c.is_many.ensures (c.is_unique.ensures (entries_of c.args.file.now)) c.is_id.ensures (c.in_ok-default_of.ensures (entries_of c.args.file.now))
