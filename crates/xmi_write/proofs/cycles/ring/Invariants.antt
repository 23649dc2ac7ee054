use Rattle.std.proofs.Common.{◌≡◌, length}
use Rattle.xmi_write.proofs.Rings.{IsApart, IsRise}
use Rattle.xmi_write.proofs.cycles.ring.Given as goal

-- the way up so far
abbrev pub invariant-loop-level : goal.invariant-loop-level
invariant-loop-level l = record {
  size : length l.up.items ≡ l._level;
  rise : IsRise l.model l.o l.up.items l.top;
  apart : IsApart l.o l.up.items;
}
