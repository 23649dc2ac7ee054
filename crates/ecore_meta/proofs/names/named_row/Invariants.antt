use Rattle.std.proofs.Common.{take}
use Rattle.ecore_meta.specs.Tables.{IsRow}
use Rattle.ecore_meta.proofs.names.named_row.Given as goal

-- the features so far stand under their places
abbrev pub invariant-loop-feature : goal.invariant-loop-feature
invariant-loop-feature l = IsRow l.places (take l.feature-index l.seen) l.row
