use Rattle.std.proofs.Common.{◌≡◌, ◌++◌, length}
use Rattle.std.specs.List.{AllByRecursion}
use Rattle.atl_cli.specs.Source.{IsAttribute, attributes_text}
use Rattle.atl_cli.proofs.source.attributes.attributes_at.Given as goal

-- the attributes so far stand before the rest
abbrev pub invariant-loop-read : goal.invariant-loop-read
invariant-loop-read l = AllByRecursion IsAttribute l.read × (l.bytes ≡ attributes_text l.read ++ l.rest)

abbrev pub decreases-loop-read : goal.decreases-loop-read
decreases-loop-read l = length l.rest
