use Rattle.std.proofs.Common.{ℕ, List}
use Rattle.std.specs.Prelude.{codes}
use Rattle.doc_text.specs.Names.{xmi_space}
use Rattle.doc_text.specs.declared.tree.Attribute.{Attribute}
use Rattle.atl_base.specs.declared.numbers.ObjId.{ObjId}
use Rattle.xmi_text.specs.Markup.{is_called}
use Rattle.xmi_links.proofs.Steps.{told_more}
use Rattle.xmi_links.proofs.ids.push_xmi_ids.Goals as goal

pub loop-i-preserved : goal.loop-i-preserved
loop-i-preserved c =
    told_more (is_called xmi_space (codes "id")) (λ (a : Attribute). let r : List ℕ × ObjId = (a.value, c.args.bearer) in r) c.args.attributes.now c.loop-i.i c.index-attributes-i.result c.loop-i-test.true c.index-attributes-i.is _ _ _ c.loop-i.invariant c.in_ok-push_xmi_id.ensures
