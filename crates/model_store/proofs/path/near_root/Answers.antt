use Rattle.model_store.proofs.Places.{root_at}
use Rattle.model_store.proofs.path.near_root.Goals as goal

pub returns-then-is_root_at : goal.returns-then-is_root_at
returns-then-is_root_at c =
    let there = c.is_root_at.ensures c.if-is_root_at.true in
    root_at c.args.o c.args.roots.now c.requires c.partition_point-guess.result c.args.o there.0 (there.1 c.args.o)
