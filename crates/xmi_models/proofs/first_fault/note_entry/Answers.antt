use Rattle.std.proofs.Common.{refl, sym, ap, ◌∙◌}
use Rattle.std.specs.Prelude.{false, ◌==◌, ◌&&◌, ◌||◌, if◌then◌else◌}
use Rattle.std.specs.Option.{option_map_or}
use Rattle.std.specs.List.{list_any}
use Rattle.xmi_models.specs.Outline.{objects_in}
use Rattle.xmi_models.specs.Faults.{attribute_feature, gives}
use Rattle.xmi_models.specs.Entries.{entry_of, object_no}
use Rattle.xmi_models.specs.SeenFeatures.{feature_no, has_value, is_given}
use Rattle.xmi_models.proofs.SeenLaws.{given_by, or_false, value_more}
use Rattle.xmi_models.proofs.Walking.{on_ok}
use Rattle.xmi_models.proofs.first_fault.note_entry.Goals as goal

pub returns-then-is_object : goal.returns-then-is_object
returns-then-is_object c =
    let m = c.args.meta.now in
    let e = entry_of c.args.entry.now in
    on_ok c.note_attributes.result
    (λ h before seen number o f.
    let known = has_value m before o f || gives (object_no o) (feature_no f) e in
    h o f
    ∙ ap (λ list. is_given c.note_child.new.seen o f || (c.args.number == o && list_any (λ a. option_map_or (λ g. g.0 == f) (attribute_feature m e.part a) false) list)) c.as_slice-attributes.ensures
    ∙ ap (λ x. x || (c.args.number == o && given_by m f e)) (c.in_ok-note_child.ensures e refl o f ∙ ap (λ x. x || gives (object_no o) (feature_no f) e) (seen o f))
    ∙ ap (λ n. known || (n == o && given_by m f e)) number
    ∙ ap (λ b. known || (if b then objects_in before == o && given_by m f e else false)) (sym c.if-is_object.true ∙ c.is_object.ensures)
    ∙ sym (value_more m before e o f))
    c.note_attributes.ensures

pub returns : goal.returns
returns c = λ before seen number o f.
    let m = c.args.meta.now in
    let e = entry_of c.args.entry.now in
    let known = has_value m before o f || gives (object_no o) (feature_no f) e in
    c.in_ok-note_child.ensures e refl o f
    ∙ ap (λ x. x || gives (object_no o) (feature_no f) e) (seen o f)
    ∙ or_false known
    ∙ ap (λ b. known || (if b then objects_in before == o && given_by m f e else false)) (sym c.if-is_object.false ∙ c.is_object.ensures)
    ∙ sym (value_more m before e o f)
