use Rattle.std.proofs.Common.{ap, ◌∙◌}
use Rattle.std.proofs.lemmas.List.Sorted.{searched}
use Rattle.model_store.proofs.RisingRoots.{found_among}
use Rattle.model_store.proofs.roots.is_among.Goals as goal

pub returns : goal.returns
returns c = c.is_ok.ensures.value ∙ found_among c.args.numbers.now c.args.r c.binary_search.result
    (searched c.args.numbers.now c.args.r.0 c.binary_search.result c.binary_search.ensures.position (λ i j b l. c.requires i j 0 b l))
