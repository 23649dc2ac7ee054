use Rattle.std.proofs.Common.{◌≡◌, ◌<◌, ◌≤◌, ℕ, suc, length, sym, ◌∙◌, arith, Some, None}
use Rattle.atl_base.specs.declared.numbers.FeatId.{FeatId}
use Rattle.atl_base.specs.declared.numbers.ObjId.{ObjId}
use Rattle.model_store.specs.Contents.{holder}
use Rattle.model_store.proofs.Climbing.{top_more, top_stops, top_ends, steps_more, steps_stop, steps_end}
use Rattle.model_store.proofs.path.climbed.Goals as goal

pub loop-level-preserved : goal.loop-level-preserved
loop-level-preserved c =
    let m = c.args.model.now in
    let n : ℕ = suc (length m.objects) in
    let at : ObjId × FeatId = (c.in-Some.from, c.in-Some.feature) in
    let within : c.loop-level.level < n = omega (arith, c.loop-level-test.true, c.given.ensures) in
    let held : holder m c.loop-level.top ≡ Some at = sym c.holder.ensures ∙ c.in-Some.is in
    record {
      top = sym (top_more m n c.loop-level.level c.loop-level.top at within held) ∙ c.loop-level.invariant.top;
      steps = steps_more m n c.loop-level.level c.loop-level.top at c.loop-level.steps.items c.push.new.self.items within held c.in_ok-push.ensures.items ∙ c.loop-level.invariant.steps;
    }

pub returns-in_default : goal.returns-in_default
returns-in_default c =
    let m = c.args.model.now in
    let n : ℕ = suc (length m.objects) in
    let within : c.loop-level.level < n = omega (arith, c.loop-level-test.true, c.given.ensures) in
    let free : holder m c.loop-level.top ≡ None = sym c.holder.ensures ∙ c.in_default.is in
    record {
      top = sym (top_stops m n c.loop-level.level c.loop-level.top within free) ∙ c.loop-level.invariant.top;
      steps = sym (steps_stop m n c.loop-level.level c.loop-level.top c.loop-level.steps.items within free) ∙ c.loop-level.invariant.steps;
    }

pub returns : goal.returns
returns c =
    let m = c.args.model.now in
    let n : ℕ = suc (length m.objects) in
    let past : n ≤ c.loop-level.level = omega (arith, c.loop-level-test.false, c.given.ensures) in
    record {
      top = sym (top_ends m n c.loop-level.level c.loop-level.top past) ∙ c.loop-level.invariant.top;
      steps = sym (steps_end m n c.loop-level.level c.loop-level.top c.loop-level.steps.items past) ∙ c.loop-level.invariant.steps;
    }
