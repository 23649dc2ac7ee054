use Rattle.std.proofs.Common.{◌∙◌, List, ℕ, ◌++◌, sym, ap, subst}
use Rattle.std.specs.Str.Iter.{chars_rest}
use Rattle.atl_base.specs.XmlText.{IsXmlText}
use Rattle.atl_base.proofs.XmlTexts.{IsXmlText-parts}
use Rattle.ocl_parse.specs.Symbols.{resolved_from}
use Rattle.ocl_parse.proofs.symbol.resolved.Goals as goal

pub push_resolved-requires : goal.push_resolved-requires
push_resolved-requires c =
    (IsXmlText-parts c.in-Some.c (chars_rest c.next.new.self) (subst IsXmlText c.in-Some.ensures.steps.0 c.loop-c.invariant.1)).0

pub loop-c-preserved : goal.loop-c-preserved
loop-c-preserved c =
    let i = c.loop-c.invariant in
    let rest : List ℕ = chars_rest c.next.new.self in (
      sym (c.in_ok-behind.ensures rest) ∙ ap (λ l. c.loop-c.words ++ resolved_from c.loop-c.behind l) (sym c.in-Some.ensures.steps.0) ∙ i.0,
      (IsXmlText-parts c.in-Some.c rest (subst IsXmlText c.in-Some.ensures.steps.0 i.1)).1,
    )
