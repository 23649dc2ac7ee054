use Rattle.std.proofs.Common.{◌≤◌, ◌-◌, length}
use Rattle.std.specs.Io.KnownBytes.{Consumes}
use Rattle.atl_outside.proofs.host.read_to_end.Given as goal

-- the bytes so far are within the limit, and are those that the reader has given
abbrev pub invariant-loop-count : goal.invariant-loop-count
invariant-loop-count g l = record {
  within : length l.bytes.items ≤ l.limit;
  given : Consumes (g.F.Read.remaining l.initial.from) (g.F.Read.remaining l.from) l.bytes.items;
}

-- what the limit leaves
abbrev pub decreases-loop-count : goal.decreases-loop-count
decreases-loop-count g l = l.limit - length l.bytes.items
