-- A feature, by what is read of its row.
use Rattle.std.proofs.Common.{◌≡◌, ℕ, List, ap, ◌∙◌}
use Rattle.std.specs.Prelude.{Bool, false, ◌&&◌, Option, codes}
use Rattle.std.specs.Option.{option_map_or}
use Rattle.ecore_meta.specs.declared.parts.FeatKind.{FeatKind}
use Rattle.ecore_meta.specs.declared.parts.Feature.{Feature}
use Rattle.xmi_text.specs.Markup.{given, flag}
use Rattle.ecore_outline.specs.Outline.{Entry, name_of}
use Rattle.ecore_rows.specs.Rows.{FeatureRow}
use Rattle.xmi_read.specs.Parts.{class_no, kind_of, is_unique, default_of, feature_of}
use Rattle.xmi_text.specs.Numbers.{is_many_upper}
use Rattle.ecore_faults.specs.Faults.{is_attribute_role}

abbrev pub made : ℕ → List ℕ → FeatKind → Bool → Bool → Bool → Option (List ℕ) → Feature
made owner name kind many unique is_id default = record { name = name; owner = class_no owner; kind = kind; many = many; unique = unique; is_id = is_id; default = default }

pub made_is : (file : List Entry) (row : FeatureRow) (name : List ℕ) (kind : FeatKind) (many unique is_id : Bool) (default : Option (List ℕ))
    → name ≡ name_of row.entry → kind ≡ kind_of file row row.type → many ≡ option_map_or is_many_upper (given (codes "upperBound") row.entry.site.element) false
    → unique ≡ is_unique file row.entry → is_id ≡ (is_attribute_role row.entry.role && flag (codes "iD") row.entry.site.element) → default ≡ default_of file row row.type
    → made row.owner name kind many unique is_id default ≡ feature_of file row
made_is file row name kind many unique is_id default a b c d e f =
    let r = feature_of file row in
    ap (λ x. made row.owner x kind many unique is_id default) a
    ∙ ap (λ x. made row.owner r.name x many unique is_id default) b
    ∙ ap (λ x. made row.owner r.name r.kind x unique is_id default) c
    ∙ ap (λ x. made row.owner r.name r.kind r.many x is_id default) d
    ∙ ap (λ x. made row.owner r.name r.kind r.many r.unique x default) e
    ∙ ap (λ x. made row.owner r.name r.kind r.many r.unique r.is_id x) f
