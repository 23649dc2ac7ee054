use Rattle.std.proofs.Common.{subst, refl}
use Rattle.std.proofs.lemmas.List.{take_all}
use Rattle.std.specs.Prelude.{AllPairs}
use Rattle.atl_cli.proofs.Requests.{Differ, names_clash, one_more_name}
use Rattle.atl_cli.proofs.words.names_differ.Goals as goal

pub returns-then-has_name : goal.returns-then-has_name
returns-then-has_name c =
    (λ f. cc, λ all. absurd (names_clash c.args.pairs.now c.loop-at.at c.index-pairs-at.result c.loop-at-test.true c.index-pairs-at.is (c.if-has_name.ensures.0 refl) all))

pub loop-at-preserved : goal.loop-at-preserved
loop-at-preserved c =
    one_more_name c.args.pairs.now c.loop-at.at c.index-pairs-at.result c.loop-at-test.true c.index-pairs-at.is (λ any. let no = c.if-has_name.ensures.1 any in cc) c.loop-at.invariant

pub returns : goal.returns
returns c =
    (λ t. subst (λ l. AllPairs Differ l) (take_all c.loop-at.at c.args.pairs.now c.loop-at-test.false) c.loop-at.invariant, λ all. refl)
