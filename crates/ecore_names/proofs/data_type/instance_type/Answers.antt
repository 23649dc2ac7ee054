use Rattle.std.proofs.Common.{[], drop}
use Rattle.ecore_names.specs.Types.{instance_types}
use Rattle.ecore_names.proofs.data_type.instance_type.Goals as goal

pub returns : goal.returns
unfolding instance_types
returns c = c.by_row.ensures (drop 1 instance_types) (c.by_row-found-10.ensures (drop 2 instance_types) (c.by_row-found-9.ensures (drop 3 instance_types) (c.by_row-found-8.ensures (drop 4 instance_types) (c.by_row-found-7.ensures (drop 5 instance_types) (c.by_row-found-6.ensures (drop 6 instance_types) (c.by_row-found-5.ensures (drop 7 instance_types) (c.by_row-found-4.ensures (drop 8 instance_types) (c.by_row-found-3.ensures (drop 9 instance_types) (c.by_row-found-2.ensures (drop 10 instance_types) (c.by_row-found.ensures [] c.plain-found.ensures))))))))))
