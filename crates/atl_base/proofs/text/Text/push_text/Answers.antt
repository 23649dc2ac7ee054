use Rattle.std.proofs.Common.{is_ok, sym, subst}
use Rattle.atl_base.specs.XmlText.{IsXmlText}
use Rattle.atl_base.proofs.XmlTexts.{IsXmlText-pushed}
use Rattle.atl_base.proofs.text.Text.push_text.Goals as goal

pub invariant_of-self : goal.invariant_of-self
invariant_of-self c = IsXmlText-pushed (is_ok c.push_str.result) c.self.inside.inner.bytes.items c.as_str-more.result.now _ c.self.invariant (subst IsXmlText (sym c.as_str-more.ensures.text) c.as_str-more.ensures.xml) c.push_str.ensures.bytes
