use Rattle.std.proofs.Common.{◌≡◌, ◌+◌, ◌*◌, ◌≤◌, ℕ, List, Option, None, length, subst, sym, arith}
use Rattle.std.specs.Prelude.{All}
use Rattle.std.proofs.lemmas.List.Elements.{All-same}
use Rattle.atl_base.specs.declared.numbers.ObjId.{ObjId}
use Rattle.xmi_write.specs.Climbs.{AreAbove}
use Rattle.xmi_write.proofs.Climbing.{cyclic_free, cyclic_high}
use Rattle.xmi_write.proofs.cycles.cyclic.Goals as goal
use Rattle.xmi_write.proofs.cycles.cyclic.Goals.{then-loop-steps-test+else-not-is_free, else-loop-steps-test}

pub loop-steps-preserved : goal.loop-steps-preserved
loop-steps-preserved c =
    let m = c.args.model.now in
    let before : AreAbove m c.loop-steps.steps c.deref-in-loop-steps.result.now = subst (λ (l : List (Option ObjId)). AreAbove m c.loop-steps.steps l) (sym c.deref-in-loop-steps.ensures.value) c.loop-steps.invariant.above in
    let more : c.loop-steps.steps + c.loop-steps.steps ≡ c.loop-steps.steps * 2 = omega arith in
    record {
      some = omega (arith, c.loop-steps.invariant.some);
      above = subst (λ (n : ℕ). AreAbove m n c.in_ok-above-2.above.items) more
          (c.in_ok-above-2.ensures m c.loop-steps.steps c.valid.ensures.metamodel c.valid.ensures.model before);
    }

pub returns : goal.returns
returns c =
    let m = c.args.model.now in
    let is = c.loop-steps.invariant.above in
    elim c.loop-steps-test.branch [
      | then-loop-steps-test+else-not-is_free w ↦ (
          let none : All (λ (o : Option ObjId). o ≡ None) c.loop-steps.above.items =
          All-same (λ (o : Option ObjId). o ≡ None) c.loop-steps.above.items w.deref.result.now (sym w.deref.ensures.value) (w.is_free.ensures w.if-not-is_free.false) in
          cyclic_free m c.valid.ensures.metamodel c.valid.ensures.model c.loop-steps.steps c.loop-steps.above.items is none)
      | else-loop-steps-test w ↦ (
          let high : length m.objects ≤ c.loop-steps.steps = omega (arith, is.size, c.len.ensures, w.loop-steps-test.false) in
          cyclic_high m c.valid.ensures.metamodel c.valid.ensures.model c.loop-steps.steps c.loop-steps.above.items is high)
    ]
