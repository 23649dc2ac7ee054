use Rattle.std.proofs.Common.{is_ok, encode_utf8}
use Rattle.atl_base.proofs.XmlTexts.{IsXmlText-pushed, IsXmlText-encode}
use Rattle.atl_base.proofs.text.Text.push_char.Goals as goal

pub invariant_of-self : goal.invariant_of-self
invariant_of-self c = IsXmlText-pushed (is_ok c.push.result) c.self.inside.inner.bytes.items (encode_utf8 c.args.c) _ c.self.invariant (IsXmlText-encode c.args.c c.requires) c.push.ensures.bytes
