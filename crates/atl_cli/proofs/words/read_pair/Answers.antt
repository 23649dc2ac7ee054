use Rattle.std.proofs.Common.{◌∙◌, subst}
use Rattle.atl_cli.specs.Words.{SplitsAt}
use Rattle.atl_cli.proofs.Pairs.{cut_after, cut_start, no_path}
use Rattle.atl_cli.proofs.words.read_pair.Goals as goal

pub returns-then-at-bytes : goal.returns-then-at-bytes
returns-then-at-bytes c p ok e =
    let word = c.bytes-bytes.result.now in
    let same = c.bytes-bytes.ensures.bytes in
    no_path word c.in-Some.at p c.in-Some.ensures c.if-at-bytes.true ok (same ∙ e)

pub slice-requires-clause-begins : goal.slice-requires-clause-begins
slice-requires-clause-begins c = cut_start c.args.word.now c.bytes-bytes.ensures.xml

pub slice-requires-2-clause-begins : goal.slice-requires-2-clause-begins
slice-requires-2-clause-begins c = cut_after c.args.word.now c.in-Some.at c.bytes-bytes.ensures.xml (subst (λ l. SplitsAt l c.in-Some.at) c.bytes-bytes.ensures.bytes c.in-Some.ensures)
