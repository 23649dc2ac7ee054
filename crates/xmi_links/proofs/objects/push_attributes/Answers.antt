use Rattle.xmi_models.specs.Faults.{attribute_value}
use Rattle.xmi_models.specs.Entries.{part_in}
use Rattle.xmi_links.proofs.Typing.{none_at}
use Rattle.xmi_links.proofs.objects.push_attributes.Goals as goal

pub push_attribute-requires : goal.push_attribute-requires
push_attribute-requires c = none_at (attribute_value c.args.meta.now (part_in c.args.part)) c.args.attributes.now c.requires c.loop-i.i c.index-attributes-i.result c.loop-i-test.true c.index-attributes-i.is
