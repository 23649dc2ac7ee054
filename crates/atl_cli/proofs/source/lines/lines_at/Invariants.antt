use Rattle.std.proofs.Common.{◌≡◌, ◌++◌, ◌+◌, ◌≤◌, List, length}
use Rattle.std.specs.List.{AllByRecursion, flat_map}
use Rattle.atl_cli.specs.declared.source.SourceElement.{SourceElement}
use Rattle.atl_cli.specs.Source.{IsElement, kept_values, line_text}
use Rattle.atl_cli.proofs.source.lines.lines_at.Given as goal

-- some elements' lines stand before the rest, and what is wanted of them is kept
abbrev pub invariant-loop-kept : goal.invariant-loop-kept
invariant-loop-kept l = (es : List SourceElement) × AllByRecursion IsElement es × (l.bytes ≡ flat_map (line_text l.space) es ++ l.rest)
    × (l.kept.values ≡ kept_values l.class l.read es) × (l.kept.count ≡ length es) × (length es + length l.rest ≤ length l.bytes)

abbrev pub decreases-loop-kept : goal.decreases-loop-kept
decreases-loop-kept l = length l.rest
