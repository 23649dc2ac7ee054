use Rattle.std.proofs.Common.{◌≡◌, drop}
use Rattle.atl_cli.specs.Format.{opens_element}
use Rattle.atl_cli.proofs.format.opens_element.Given as goal

-- the bytes so far are passed over
abbrev pub invariant-loop-byte : goal.invariant-loop-byte
invariant-loop-byte l = opens_element l.bytes ≡ opens_element (drop l.byte-index l.bytes)
