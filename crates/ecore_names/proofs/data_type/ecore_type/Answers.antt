use Rattle.std.proofs.Common.{[], drop}
use Rattle.ecore_names.specs.Types.{ecore_types}
use Rattle.ecore_names.proofs.data_type.ecore_type.Goals as goal

pub returns : goal.returns
unfolding ecore_types
returns c = c.by_row.ensures (drop 1 ecore_types) (c.by_row-found-11.ensures (drop 2 ecore_types) (c.by_row-found-10.ensures (drop 3 ecore_types) (c.by_row-found-9.ensures (drop 4 ecore_types) (c.by_row-found-8.ensures (drop 5 ecore_types) (c.by_row-found-7.ensures (drop 6 ecore_types) (c.by_row-found-6.ensures (drop 7 ecore_types) (c.by_row-found-5.ensures (drop 8 ecore_types) (c.by_row-found-4.ensures (drop 9 ecore_types) (c.by_row-found-3.ensures (drop 10 ecore_types) (c.by_row-found-2.ensures (drop 11 ecore_types) (c.by_row-found.ensures [] c.plain-found.ensures)))))))))))
