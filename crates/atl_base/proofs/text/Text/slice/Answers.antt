use Rattle.std.proofs.Common.{◌∙◌, sym, ap, subst, slice_range}
use Rattle.std.specs.Str.{IsCharBoundary}
use Rattle.atl_base.specs.XmlText.{IsXmlText}
use Rattle.atl_base.proofs.XmlTexts.{IsXmlText-between}
use Rattle.atl_base.proofs.text.Text.slice.Goals as goal

pub invariant_of-result : goal.invariant_of-result
invariant_of-result c =
    let bytes = c.self.inside.inner.bytes.items in
    subst IsXmlText (sym (c.in_ok-from_str.ensures.ok ∙ c.range.ensures.value ∙ ap (λ l. slice_range l c.args.begin c.args.end) c.as_str.ensures.value))
    (IsXmlText-between bytes c.args.begin c.args.end c.requires.order c.self.invariant
    (subst (λ t. IsCharBoundary t c.args.begin) (sym c.self.view_is) c.requires.begins)
    (subst (λ t. IsCharBoundary t c.args.end) (sym c.self.view_is) c.requires.ends))
