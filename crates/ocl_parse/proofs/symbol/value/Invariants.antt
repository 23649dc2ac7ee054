use Rattle.std.proofs.Common.{◌≡◌, ◌≤◌, drop}
use Rattle.atl_tree.specs.Tokens.{value_from}
use Rattle.ocl_parse.proofs.symbol.value.Given as goal

-- the value of the digits that are left, after those that were read, is that of all
abbrev pub invariant-loop-byte : goal.invariant-loop-byte
invariant-loop-byte l = (value_from l.value (drop l.byte-index l.text) ≡ value_from 0 l.text) × (l.value ≤ 9223372036854775807)
