use Rattle.std.proofs.Common.{leb, arith, rules}
use Rattle.std.proofs.lemmas.List.Sorted.{IsPartitionPoint-from_clause, IsPartitionedBy-leb}
use Rattle.atl_base.specs.declared.numbers.ObjId.{ObjId}
use Rattle.model_store.proofs.RisingRoots.{not_falling, place_by_halves}
use Rattle.model_store.proofs.roots.place_by_halves.Goals as goal

pub returns-clause-place : goal.returns-clause-place
returns-clause-place c =
    let parted = IsPartitionedBy-leb (λ (r : ObjId). r.0) c.args.roots.now c.args.o.0 (not_falling c.args.roots.now c.requires) in
    let point = IsPartitionPoint-from_clause (λ (r : ObjId). leb r.0 c.args.o.0) c.args.roots.now c.partition_point.result c.partition_point.ensures.partitioned parted (λ a r q k. search rules) in
    place_by_halves c.args.o c.args.roots.now c.partition_point.result c.partition_point.ensures.bound (λ k d l. point.0 k d (omega arith) l) (λ k d b l. point.1 k d b l)
