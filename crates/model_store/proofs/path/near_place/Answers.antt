use Rattle.model_store.specs.declared.parts.Cellv.TheVariants.{Obj}
use Rattle.model_store.proofs.Places.{content_at}
use Rattle.model_store.proofs.path.near_place.Goals as goal

pub returns-then-stands_at : goal.returns-then-stands_at
returns-then-stands_at c =
    let there = c.stands_at.ensures c.if-stands_at.true in
    content_at c.args.o c.args.cells.now c.requires c.args.guess (Obj c.args.o) there.0 (there.1 (Obj c.args.o))
