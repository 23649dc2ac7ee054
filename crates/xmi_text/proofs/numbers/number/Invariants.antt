use Rattle.std.proofs.Common.{◌≡◌, ◌+◌, ◌*◌, ◌-◌, ◌≤◌, min, drop}
use Rattle.std.specs.Prelude.{fold}
use Rattle.xmi_text.proofs.numbers.number.Given as goal

abbrev pub invariant-loop-i : goal.invariant-loop-i
invariant-loop-i l = record {
  told : min (fold (λ n digit. 10 * n + (digit - 48)) l.n (drop l.i l.text)) 36893488147419103232 ≡ min (fold (λ n digit. 10 * n + (digit - 48)) 0 l.text) 36893488147419103232;
  within : l.n ≤ 36893488147419103232;
}
