use Rattle.std.proofs.Common.{◌∙◌, sym}
use Rattle.atl_cli.proofs.Documents.{ends_at}
use Rattle.atl_cli.proofs.format.opens_element.Goals as goal

pub returns-then-not-is_passed : goal.returns-then-not-is_passed
returns-then-not-is_passed c =
    sym (c.loop-byte.invariant ∙ ends_at c.args.bytes.now c.loop-byte.byte-index c.loop-byte-test.true (sym c.if-not-is_passed.ensures))
