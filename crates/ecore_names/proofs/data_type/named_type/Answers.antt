use Rattle.std.proofs.Common.{[], drop}
use Rattle.ecore_names.specs.Types.{named_types}
use Rattle.ecore_names.proofs.data_type.named_type.Goals as goal

pub returns : goal.returns
unfolding named_types
returns c = c.by_row.ensures (drop 1 named_types) (c.by_row-found-2.ensures (drop 2 named_types) (c.by_row-found.ensures [] c.plain-found.ensures))
