use Rattle.atl_cli.proofs.Modules.{from-tokens}
use Rattle.atl_cli.proofs.one_rule.read_one_rule.Goals as goal

pub returns-in_default : goal.returns-in_default
returns-in_default c m is = (rw c.in_default.is at c.in_ok-tokens.ensures) is.tokens.0 is.tokens.1

pub returns : goal.returns
returns c =
    from-tokens c.args.text.now c.in-Some.tokens c.as_slice.result.now c.read_rule.result (rw c.in-Some.is at c.in_ok-tokens.ensures) c.as_slice.ensures c.read_rule.ensures
