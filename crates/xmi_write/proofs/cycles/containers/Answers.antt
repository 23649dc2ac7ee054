use Rattle.std.proofs.Common.{◌≡◌, ℕ, length, subst, arith, None}
use Rattle.model_store.specs.Contents.{container}
use Rattle.xmi_write.proofs.Climbing.{above_one, object_no}
use Rattle.xmi_write.proofs.Tables.{IsTable}
use Rattle.xmi_write.proofs.cycles.containers.Goals as goal

pub returns : goal.returns
returns c =
    let m = c.args.model.now in
    let all : c.loop-o.o ≡ length m.objects = omega (arith, c.given-o-end.ensures) in
    above_one m c.loop-o.list.items (subst (λ (n : ℕ). IsTable None n (λ k. container m (object_no k)) c.loop-o.list.items) all c.loop-o.invariant)
