-- The metamodel that a file without faults stands for.
use Rattle.std.specs.Prelude.{ℕ, suc, ◌-◌, ◌==◌, ◌&&◌, ◌||◌, Bool, true, false, List, [], ◌∷◌, map, filter, filter_map, codes, bytes_eq, Option, Some, None, if◌then◌else◌}
use Rattle.std.specs.Option.{option_map_or}
use Rattle.atl_base.specs.declared.numbers.ClassId.{ClassId}
use Rattle.atl_base.specs.declared.numbers.FeatId.{FeatId}
use Rattle.ecore_meta.specs.declared.parts.Class.{Class}
use Rattle.ecore_meta.specs.declared.parts.EnumDef.{EnumDef}
use Rattle.ecore_meta.specs.declared.parts.Literal.{Literal}
use Rattle.ecore_meta.specs.declared.parts.Package.{Package}
use Rattle.ecore_meta.specs.declared.parts.Skipped.{Skipped}
use Rattle.ecore_meta.specs.declared.parts.Parts.{Parts}
use Rattle.ecore_meta.specs.declared.parts.Feature.{Feature}
use Rattle.ecore_meta.specs.declared.parts.FeatKind.{FeatKind}
use Rattle.ecore_meta.specs.declared.parts.FeatKind.TheVariants.{Opaque, Refer}
use Rattle.xmi_text.specs.Markup.{given, flag}
use Rattle.ecore_outline.specs.Outline.{Entry, is_package_role, is_class_role, is_enum_role, is_skipped_role, name_of}
use Rattle.ecore_names.specs.References.{class_named, feature_named, Own, Kept}
use Rattle.ecore_outline.specs.Enumerations.{literals_of, literal_text}
use Rattle.ecore_rows.specs.Rows.{ClassRow, class_rows, FeatureRow, feature_rows, Typed, ByData, ByClass}
use Rattle.xmi_text.specs.Numbers.{is_many_upper}
use Rattle.ecore_outline.specs.Forms.{uri_of, prefix_of}
use Rattle.ecore_faults.specs.Faults.{is_attribute_role}

abbrev pub class_no : ℕ → ClassId
class_no n = record { 0 = n }

abbrev pub feature_no : ℕ → FeatId
feature_no n = record { 0 = n }

module _ (file : List Entry) where
  abbrev pub package_of : Entry → Package
  package_of e = record { name = name_of e; uri = uri_of e; prefix = prefix_of e }

  -- the numbers of the features that a class declares, where so many stand before
  abbrev pub own_of : ℕ → ℕ → List FeatureRow → List FeatId
  own_of class n [] = []
  own_of class n (row ∷ rows) = if row.owner == class then feature_no n ∷ own_of class (suc n) rows else own_of class (suc n) rows

  abbrev pub class_of : ℕ → ClassRow → Class
  class_of number row = record {
    name = name_of row.entry;
    «package» = row.holder;
    is_abstract = flag (codes "abstract") row.entry.site.element || flag (codes "interface") row.entry.site.element;
    supers = map class_no (filter_map (class_named file) row.supers);
    own = own_of number 0 (feature_rows file);
  }

  abbrev pub classes_from : ℕ → List ClassRow → List Class
  classes_from n [] = []
  classes_from n (row ∷ rows) = class_of n row ∷ classes_from (suc n) rows

  abbrev pub kept : Option Own → Option FeatId
  kept (Some (Kept g e)) = Some (feature_no g)
  kept o = None

  abbrev pub opposite_of : Entry → Option FeatId
  opposite_of e = option_map_or (λ text. kept (feature_named file text)) (given (codes "eOpposite") e.site.element) None

  abbrev pub kind_of : FeatureRow → Typed → FeatKind
  kind_of row (ByData t) = t.kind
  kind_of row (ByClass c) = Refer (class_no c) (flag (codes "containment") row.entry.site.element) (opposite_of row.entry)
  kind_of row t = Opaque

  -- an attribute's own default, else its type's
  abbrev pub default_of : FeatureRow → Typed → Option (List ℕ)
  default_of row (ByData t) = option_map_or Some (given (codes "defaultValueLiteral") row.entry.site.element) t.default
  default_of row t = None

  -- references are unique, and attributes are where they don't say otherwise
  abbrev pub is_unique : Entry → Bool
  is_unique e = if is_attribute_role e.role then option_map_or (bytes_eq (codes "true")) (given (codes "unique") e.site.element) true else true

  abbrev pub feature_of : FeatureRow → Feature
  feature_of row = record {
    name = name_of row.entry;
    owner = class_no row.owner;
    kind = kind_of row row.type;
    many = option_map_or is_many_upper (given (codes "upperBound") row.entry.site.element) false;
    unique = is_unique row.entry;
    is_id = is_attribute_role row.entry.role && flag (codes "iD") row.entry.site.element;
    default = default_of row row.type;
  }

  abbrev pub literal_of : Entry → Literal
  literal_of e = record { name = name_of e; text = literal_text e }

  abbrev pub enums_from : ℕ → List Entry → List EnumDef
  enums_from n [] = []
  enums_from n (e ∷ es) = if is_enum_role e.role then record { name = name_of e; literals = map literal_of (literals_of file n) } ∷ enums_from (suc n) es else enums_from n es

  abbrev pub skipped_from : ℕ → List Entry → List Skipped
  skipped_from classes [] = []
  skipped_from classes (e ∷ es) =
      if is_skipped_role e.role then record { owner = class_no (classes - 1); name = name_of e } ∷ skipped_from classes es
      else skipped_from (if is_class_role e.role then suc classes else classes) es

  abbrev pub parts_of : Parts
  parts_of = record {
    packages = map package_of (filter (λ e. is_package_role e.role) file);
    classes = classes_from 0 (class_rows file);
    features = map feature_of (feature_rows file);
    enums = enums_from 0 file;
    skipped = skipped_from 0 file;
  }
