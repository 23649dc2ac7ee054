-- The value of digits, cut at the greatest number.
use Rattle.std.proofs.Common.{◌≡◌, ℕ, ◌<◌, ◌≤◌, arith}
use Rattle.std.proofs.lemmas.Bool.Decides.{nat_tests}
use Rattle.ocl_parse.specs.Symbols.{at_most}

pub at_most-small : (n : ℕ) → n ≤ 9223372036854775807 → at_most n ≡ n
at_most-small n h = grind (arith, nat_tests)

pub at_most-large : (n : ℕ) → 9223372036854775807 < n → at_most n ≡ 9223372036854775807
at_most-large n h = grind (arith, nat_tests)
