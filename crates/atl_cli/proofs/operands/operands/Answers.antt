use Rattle.std.proofs.Common.{◌≡◌, ◌∙◌, false, map, sym, ap, subst}
use Rattle.std.specs.List.{AllByRecursion}
use Rattle.std.proofs.lemmas.List.Elements.{recursion_from_All}
use Rattle.atl_base.specs.XmlText.{IsXmlText}
use Rattle.atl_cli.specs.OperandCommand.{IsWord}
use Rattle.atl_cli.proofs.Taking.{empty_refused, words_fit}
use Rattle.atl_cli.proofs.operands.operands.Goals as goal

pub returns-then-has_empty : goal.returns-then-has_empty
returns-then-has_empty c = sym (empty_refused c.args.words.now false (sym c.if-has_empty.ensures))

pub read-requires-clause-words : goal.read-requires-clause-words
read-requires-clause-words c =
    let same : c.args.words.now ≡ map (λ s. s.now) c.as_slice.result.now = sym c.in_ok-words.ensures.0 ∙ ap (map (λ s. s.now)) (sym c.as_slice.ensures.value) in
    subst (λ l. AllByRecursion IsWord l) same (words_fit c.args.words.now (sym c.if-has_empty.ensures) (recursion_from_All IsXmlText c.args.words.now c.in_ok-words.ensures.1))
