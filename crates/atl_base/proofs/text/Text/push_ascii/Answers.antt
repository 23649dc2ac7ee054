use Rattle.std.proofs.Common.{is_ok}
use Rattle.atl_base.proofs.XmlTexts.{IsXmlText-pushed, IsXmlText-ascii}
use Rattle.atl_base.proofs.text.Text.push_ascii.Goals as goal

pub invariant_of-self : goal.invariant_of-self
invariant_of-self c = IsXmlText-pushed (is_ok c.push_str.result) c.self.inside.inner.bytes.items c.args.more.now _ c.self.invariant (IsXmlText-ascii c.args.more.now c.requires) c.push_str.ensures.bytes
