use Rattle.std.proofs.Common.{◌≡◌, ℕ, length, subst, arith, None}
use Rattle.xmi_write.proofs.Climbing.{above_twice, again}
use Rattle.xmi_write.proofs.Tables.{IsTable}
use Rattle.xmi_write.proofs.cycles.doubled.Goals as goal

pub returns : goal.returns
returns c = λ m n valid model is.
    let all : c.loop-o.o ≡ length c.args.above.now = omega arith in
    above_twice m valid model n c.args.above.now is c.loop-o.list.items (subst (λ (count : ℕ). IsTable None count (again c.args.above.now) c.loop-o.list.items) all c.loop-o.invariant)
