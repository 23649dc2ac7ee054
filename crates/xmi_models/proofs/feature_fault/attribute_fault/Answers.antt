use Rattle.std.proofs.Common.{sym, ap, ◌∙◌}
use Rattle.std.specs.Prelude.{option_map}
use Rattle.std.specs.Option.{option_copied}
use Rattle.doc_text.specs.declared.tree.Attribute.{Attribute}
use Rattle.xmi_models.specs.Faults.{NoFeature, is_no_feature}
use Rattle.xmi_models.specs.Entries.{part_in}
use Rattle.xmi_models.proofs.FirstValues.{named_kind}
use Rattle.xmi_models.proofs.Walking.{if_ok}
use Rattle.xmi_models.proofs.feature_fault.attribute_fault.Goals as goal

pub returns-in-Some : goal.returns-in-Some
returns-in-Some c =
    if_ok c.told.result
    (λ f h. h ∙ ap (option_map (λ (a : Attribute). (NoFeature, a.name))) (sym (ap option_copied c.in-Some.is) ∙ c.first_no_feature.ensures)
    ∙ named_kind NoFeature (is_no_feature c.args.meta.now (part_in c.args.part)) c.args.attributes.now)
    c.told.ensures

pub returns-in-None : goal.returns-in-None
returns-in-None c =
    ap (option_map (λ (a : Attribute). (NoFeature, a.name))) (sym (ap option_copied c.in-None.is) ∙ c.first_no_feature.ensures)
    ∙ named_kind NoFeature (is_no_feature c.args.meta.now (part_in c.args.part)) c.args.attributes.now
