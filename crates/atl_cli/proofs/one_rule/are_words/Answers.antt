use Rattle.std.proofs.Common.{[]}
use Rattle.atl_cli.proofs.Modules.{other-word, one-more-word}
use Rattle.atl_cli.proofs.one_rule.are_words.Goals as goal

pub returns-then-ne : goal.returns-then-ne
returns-then-ne c =
    (λ no. cc, λ same. absurd (other-word c.args.tokens.now c.args.words.now c.loop-at.at c.index-tokens-at.result (record { ref_ptr = (0, 0); now = [] }) c.as_str.result.now c.loop-at-test.true c.if-tokens-words.false c.index-tokens-at.is c.as_str.ensures.text c.if-ne.ensures same))

pub loop-at-preserved : goal.loop-at-preserved
loop-at-preserved c =
    one-more-word c.args.tokens.now c.args.words.now c.loop-at.at c.index-tokens-at.result (record { ref_ptr = (0, 0); now = [] }) c.as_str.result.now c.loop-at-test.true c.if-tokens-words.false c.index-tokens-at.is c.as_str.ensures.text c.if-ne.ensures c.loop-at.invariant
