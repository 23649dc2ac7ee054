-- What the code's types and rows stand for: the type of a feature, and the rows of classes and of features.
use Rattle.std.specs.Prelude.{List, map}
use Rattle.ecore_outline.specs.Entries.{entry_of}
use Rattle.ecore_names.specs.DataTypes.{data_type_of}
use Rattle.ecore_rows.specs.declared.typed.Typed.{Typed as CodeTyped}
use Rattle.ecore_rows.specs.declared.typed.Typed.TheVariants.{Data as IsData, Class as IsClass, Foreign as IsForeign, Untyped as IsUntyped}
use Rattle.ecore_rows.specs.declared.rows.ClassRow.{ClassRow as CodeClassRow}
use Rattle.ecore_rows.specs.declared.rows.FeatureRow.{FeatureRow as CodeFeatureRow}
use Rattle.ecore_rows.specs.Rows.{Typed, ByData, ByClass, Foreign, Untyped, ClassRow, FeatureRow}

abbrev pub typed_of : CodeTyped → Typed
typed_of (IsData t) = ByData (data_type_of t)
typed_of (IsClass c) = ByClass c
typed_of (IsForeign word) = Foreign word.now
typed_of (IsUntyped text) = Untyped text.now

abbrev pub class_row_of : CodeClassRow → ClassRow
class_row_of r = record { entry = entry_of r.entry; holder = r.holder; supers = map (λ w. w.now) r.supers.items }

abbrev pub class_rows_of : List CodeClassRow → List ClassRow
class_rows_of = map class_row_of

abbrev pub feature_row_of : CodeFeatureRow → FeatureRow
feature_row_of r = record { entry = entry_of r.entry; owner = r.owner; type = typed_of r.typed }

abbrev pub feature_rows_of : List CodeFeatureRow → List FeatureRow
feature_rows_of = map feature_row_of
