use Rattle.std.proofs.Common.{arith, rules}
use Rattle.std.specs.Prelude.{nat_lt}
use Rattle.std.proofs.lemmas.Bool.{ltb-true, ltb-false}
use Rattle.std.proofs.lemmas.List.Sorted.{IsPartitionPoint-from_clause, IsPartitionedBy-ltb}
use Rattle.atl_base.specs.declared.numbers.ObjId.{ObjId}
use Rattle.model_store.proofs.RisingRoots.{not_falling}
use Rattle.model_store.proofs.roots.lower.Goals as goal

pub returns-clause-below : goal.returns-clause-below
returns-clause-below c =
    let parted = IsPartitionedBy-ltb (λ (r : ObjId). r.0) c.args.roots.now c.args.o.0 (not_falling c.args.roots.now c.requires) in
    let point = IsPartitionPoint-from_clause (λ (r : ObjId). nat_lt r.0 c.args.o.0) c.args.roots.now c.partition_point.result c.partition_point.ensures.partitioned parted (λ a r q k. search rules) in
    λ k d l. ltb-true _ _ (point.0 k d (omega arith) l)

pub returns-clause-rest : goal.returns-clause-rest
returns-clause-rest c =
    let parted = IsPartitionedBy-ltb (λ (r : ObjId). r.0) c.args.roots.now c.args.o.0 (not_falling c.args.roots.now c.requires) in
    let point = IsPartitionPoint-from_clause (λ (r : ObjId). nat_lt r.0 c.args.o.0) c.args.roots.now c.partition_point.result c.partition_point.ensures.partitioned parted (λ a r q k. search rules) in
    λ k d b l. ltb-false _ _ (point.1 k d b l)
