use Rattle.std.proofs.Common.{sym, ap, ◌∙◌}
use Rattle.std.specs.Prelude.{◌==◌, ◌&&◌, ◌||◌, false}
use Rattle.std.specs.Option.{option_map_or}
use Rattle.ecore_meta.specs.declared.parts.Parts.{Parts}
use Rattle.xmi_models.specs.Entries.{part_in}
use Rattle.xmi_models.specs.Faults.{attribute_feature}
use Rattle.xmi_models.specs.SeenFeatures.{is_given}
use Rattle.xmi_models.proofs.SeenLaws.{or_and_false}
use Rattle.xmi_models.proofs.Walking.{on_ok}
use Rattle.xmi_models.proofs.seen.note_attribute.Goals as goal

pub returns-in-Some : goal.returns-in-Some
returns-in-Some c =
    on_ok c.note.result
    (λ h o f. h o f ∙ ap (λ x. is_given c.args.seen.now o f || (c.args.object == o && option_map_or (λ g. g.0 == f) x false)) (sym c.in-Some.is ∙ c.attribute_feature.ensures ∙ ap (λ (m : Parts). attribute_feature m (part_in c.args.part) c.args.attribute.now) c.metamodel.ensures))
    c.note.ensures

pub returns-in-None : goal.returns-in-None
returns-in-None c = λ o f.
    or_and_false (is_given c.args.seen.now o f) (c.args.object == o)
    ∙ ap (λ x. is_given c.args.seen.now o f || (c.args.object == o && option_map_or (λ g. g.0 == f) x false)) (sym c.in-None.is ∙ c.attribute_feature.ensures ∙ ap (λ (m : Parts). attribute_feature m (part_in c.args.part) c.args.attribute.now) c.metamodel.ensures)
