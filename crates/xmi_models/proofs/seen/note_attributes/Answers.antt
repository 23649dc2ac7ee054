use Rattle.std.proofs.Common.{take, sym, ap, ◌∙◌}
use Rattle.std.specs.Prelude.{◌==◌, ◌&&◌, ◌||◌, false}
use Rattle.std.specs.Option.{option_map_or}
use Rattle.std.specs.List.{list_any}
use Rattle.std.proofs.lemmas.List.Folds.{list_any_more}
use Rattle.doc_text.specs.declared.tree.Attribute.{Attribute}
use Rattle.xmi_models.specs.Faults.{attribute_feature}
use Rattle.xmi_models.specs.Entries.{part_in}
use Rattle.xmi_models.specs.SeenFeatures.{is_given}
use Rattle.xmi_models.proofs.SeenLaws.{or_and_false, or_more}
use Rattle.xmi_models.proofs.seen.note_attributes.Goals as goal

pub loop-i-init : goal.loop-i-init
loop-i-init c = λ o f. or_and_false (is_given c.args.seen.now o f) (c.args.object == o)

pub loop-i-preserved : goal.loop-i-preserved
loop-i-preserved c = λ o f.
    let test = λ (a : Attribute). option_map_or (λ g. g.0 == f) (attribute_feature c.args.meta.now (part_in c.args.part) a) false in
    let here = c.index-attributes-i.result in
    let so_far = list_any test (take c.loop-i.i c.args.attributes.now) in
    c.in_ok-note_attribute.ensures o f
    ∙ ap (λ x. x || (c.args.object == o && test here)) (c.loop-i.invariant o f)
    ∙ or_more (is_given c.args.seen.now o f) (c.args.object == o) so_far (test here)
    ∙ ap (λ x. is_given c.args.seen.now o f || (c.args.object == o && x))
    (ap (λ a. so_far || test a) c.index-attributes-i.is ∙ sym (list_any_more test c.args.attributes.now c.loop-i.i here c.loop-i-test.true))
