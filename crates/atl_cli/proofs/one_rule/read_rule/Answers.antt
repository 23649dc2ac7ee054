use Rattle.std.proofs.Common.{sym, ap, ◌∙◌, refl}
use Rattle.std.proofs.lemmas.List.{length-map}
use Rattle.atl_cli.specs.OneRule.{names_fit_in}
use Rattle.atl_cli.proofs.Modules.{fits, fits-so, other-length, one-way}
use Rattle.atl_cli.proofs.one_rule.read_rule.Goals as goal

pub returns-then-tokens-ne35 : goal.returns-then-tokens-ne35
returns-then-tokens-ne35 c m same names = c.if-tokens-ne35.true (sym (length-map c.args.tokens.now (λ t. t.text)) ∙ other-length _ m same)

pub returns-then-not-names_fit : goal.returns-then-not-names_fit
returns-then-not-names_fit c m same names =
    let is = one-way _ c.in_ok-rule.rule m c.in_ok-rule.ensures same in
    let fit = ap names_fit_in is ∙ fits-so m names in
    let unfit = c.if-not-names_fit.ensures in
    cc

pub returns : goal.returns
returns c = (c.if-not-is_spelled.ensures.0 refl, fits c.in_ok-rule.rule (sym c.if-not-names_fit.ensures))
