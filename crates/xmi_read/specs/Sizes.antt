-- The numbers in types that are small enough for a document.
use Rattle.std.specs.Prelude.{◌≤◌}
use Rattle.ecore_meta.specs.declared.parts.FeatKind.{FeatKind}
use Rattle.ecore_meta.specs.declared.parts.FeatKind.TheVariants.{Enum}
use Rattle.ecore_rows.specs.Rows.{Typed, ByData, ByClass}

-- ## Numbers in types

abbrev pub IsSmallKind : FeatKind → Type 0
IsSmallKind (Enum e) = e ≤ 4294967294
IsSmallKind k = Unit {0}

abbrev pub IsSmallType : Typed → Type 0
IsSmallType (ByData t) = IsSmallKind t.kind
IsSmallType (ByClass c) = c ≤ 4294967294
IsSmallType t = Unit {0}
