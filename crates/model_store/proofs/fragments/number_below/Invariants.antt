use Rattle.std.proofs.Common.{◌≡◌, drop}
use Rattle.model_store.proofs.Readings.{read}
use Rattle.model_store.proofs.fragments.number_below.Given as goal

-- the digits that are left give the same number
abbrev pub invariant-loop-b : goal.invariant-loop-b
invariant-loop-b l = read l.bound l.number (drop l.b-index l.digits) ≡ read l.bound 0 l.digits
