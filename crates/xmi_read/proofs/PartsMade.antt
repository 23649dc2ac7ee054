-- The five lists, each as it is made.
use Rattle.std.proofs.Common.{◌≡◌, List, map, ap, ◌∙◌}
use Rattle.ecore_meta.specs.declared.parts.Class.{Class}
use Rattle.ecore_meta.specs.declared.parts.EnumDef.{EnumDef}
use Rattle.ecore_meta.specs.declared.parts.Feature.{Feature}
use Rattle.ecore_meta.specs.declared.parts.Package.{Package}
use Rattle.ecore_meta.specs.declared.parts.Parts.{Parts}
use Rattle.ecore_meta.specs.declared.parts.Skipped.{Skipped}
use Rattle.ecore_outline.specs.Outline.{Entry}
use Rattle.ecore_rows.specs.Rows.{class_rows, feature_rows}
use Rattle.xmi_read.specs.Parts.{classes_from, feature_of, skipped_from, parts_of}
use Rattle.xmi_read.specs.Groups.{packages_in, enums_in}
use Rattle.xmi_read.proofs.Groups.{packages_are, enums_grouped}

abbrev pub made : List Package → List Class → List Feature → List EnumDef → List Skipped → Parts
made ps cs fs es ss = record { packages = ps; classes = cs; features = fs; enums = es; skipped = ss }

pub made_is : (file : List Entry) (ps : List Package) (cs : List Class) (fs : List Feature) (es : List EnumDef) (ss : List Skipped)
    → ps ≡ packages_in file → cs ≡ classes_from file 0 (class_rows file) → fs ≡ map (feature_of file) (feature_rows file) → es ≡ enums_in file → ss ≡ skipped_from file 0 file
    → made ps cs fs es ss ≡ parts_of file
made_is file ps cs fs es ss p c f e s =
    let r = parts_of file in
    ap (λ x. made x cs fs es ss) (p ∙ packages_are file)
    ∙ ap (λ x. made r.packages x fs es ss) c
    ∙ ap (λ x. made r.packages r.classes x es ss) f
    ∙ ap (λ x. made r.packages r.classes r.features x ss) (e ∙ enums_grouped file)
    ∙ ap (λ x. made r.packages r.classes r.features r.enums x) s
