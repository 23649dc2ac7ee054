use Rattle.std.proofs.Common.{sym, ap, subst, ◌∙◌}
use Rattle.std.proofs.lemmas.List.Elements.{All-push}
use Rattle.std.specs.Prelude.{All, map}
use Rattle.atl_cli.specs.Words.{IsPair, pair_word}
use Rattle.atl_cli.proofs.Requests.{not_all_pairs, one_more_pair}
use Rattle.atl_cli.proofs.words.read_pairs.Goals as goal

pub returns-in_default : goal.returns-in_default
returns-in_default c ps all same =
    not_all_pairs c.args.words.now c.loop-word.word-index c.word-item.result ps c.loop-word-test.true c.word-item.is (rw c.in_default.is at c.in_ok-pair.ensures) all same

pub loop-word-preserved : goal.loop-word-preserved
loop-word-preserved c =
    let read = rw c.in-Some.is at c.in_ok-pair.ensures in
    let pushed = c.in_ok-push.ensures.ok in
    record {
      pairs = subst (All IsPair) (sym pushed) (All-push IsPair c.loop-word.pairs c.in-Some.pair c.loop-word.invariant.pairs read.0);
      spelled = one_more_pair c.args.words.now c.loop-word.word-index c.word-item.result c.loop-word.pairs c.in-Some.pair c.loop-word-test.true c.word-item.is c.loop-word.invariant.spelled read.1 ∙ ap (map pair_word) (sym pushed);
    }
