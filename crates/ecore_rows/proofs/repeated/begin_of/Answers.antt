use Rattle.std.proofs.Common.{rules, arith}
use Rattle.std.specs.Prelude.{nat_lt}
use Rattle.std.proofs.lemmas.Bool.{ltb-true, ltb-false}
use Rattle.std.proofs.lemmas.List.Sorted.{IsNonDecreasingBy-from_all_adjacent, IsPartitionedBy-ltb, IsPartitionPoint-from_clause}
use Rattle.ecore_rows.proofs.SeenRows.{owners_rise, cut_is}
use Rattle.ecore_rows.proofs.repeated.begin_of.Goals as goal

pub returns-clause-begin : goal.returns-clause-begin
returns-clause-begin c =
    let rows = c.args.features.now in
    let rises = IsNonDecreasingBy-from_all_adjacent (λ r. r.owner) rows (λ i d l. owners_rise 0 rows c.requires i d l) in
    let found = IsPartitionPoint-from_clause (λ r. nat_lt r.owner c.args.class) rows c.partition_point.result c.partition_point.ensures.partitioned
    (IsPartitionedBy-ltb (λ r. r.owner) rows c.args.class rises) (λ a r f' k. search rules) in
    cut_is c.args.class rows c.partition_point.result c.partition_point.ensures.bound
    (λ j d l. ltb-true _ _ (found.0 j d (omega arith) l))
    (λ j d l m. ltb-false _ _ (found.1 j d l m))
