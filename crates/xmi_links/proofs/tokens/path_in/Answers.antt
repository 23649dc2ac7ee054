use Rattle.std.proofs.Common.{sym, subst, arith}
use Rattle.std.proofs.lemmas.List.{take_rest}
use Rattle.std.proofs.lemmas.Str.{IsCharBoundary-before_ascii}
use Rattle.atl_base.specs.XmlText.{IsXmlText}
use Rattle.atl_base.proofs.XmlTexts.{IsXmlText-drop}
use Rattle.xmi_links.proofs.tokens.path_in.Goals as goal

-- a text is cut in front of a slash
pub returns-then-token-eq47-clause-text : goal.returns-then-token-eq47-clause-text
returns-then-token-eq47-clause-text c =
    let token = c.args.token.now in
    subst IsXmlText (sym (take_rest token 1))
    (IsXmlText-drop token 1 c.requires (IsCharBoundary-before_ascii token 1 c.if-token-gt1.true (omega (arith, c.if-token-eq47.true))))
