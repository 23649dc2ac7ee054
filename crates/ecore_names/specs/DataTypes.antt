-- What the code's data types stand for.
use Rattle.std.specs.Option.{option_copied}
use Rattle.ecore_meta.specs.declared.parts.FeatKind.{FeatKind}
use Rattle.ecore_meta.specs.declared.parts.FeatKind.TheVariants.{Str, Int, Truth, Enum, Opaque}
use Rattle.ecore_names.specs.declared.data_type.DataKind.{DataKind}
use Rattle.ecore_names.specs.declared.data_type.DataKind.TheVariants.{Str as IsStr, Int as IsInt, Truth as IsTruth, Enum as IsEnum, Opaque as IsOpaque}
use Rattle.ecore_names.specs.declared.data_type.DataType.{DataType as CodeDataType}
use Rattle.ecore_names.specs.Types.{DataType}

abbrev pub kind_of : DataKind → FeatKind
kind_of IsStr = Str
kind_of IsInt = Int
kind_of IsTruth = Truth
kind_of (IsEnum e) = Enum e
kind_of IsOpaque = Opaque

abbrev pub data_type_of : CodeDataType → DataType
data_type_of d = record { kind = kind_of d.kind; default = option_copied d.default }
