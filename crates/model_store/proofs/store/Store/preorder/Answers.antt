use Rattle.std.proofs.Common.{◌∙◌}
use Rattle.model_store.proofs.Trees.{walk_on, walk_falls}
use Rattle.model_store.proofs.store.Store.preorder.Goals as goal

pub walk-preserved : goal.walk-preserved
walk-preserved c =
    walk_on c.args.self.now c.requires c.walk.order.items c.step.new.order.items c.walk.stack.items c.step.new.stack.items c.pop.new.self.items c.in-Some.o
    c.in-Some.ensures.items c.in_ok-step.ensures.order c.in_ok-step.ensures.stack
    ∙ c.walk.invariant

pub walk-smaller : goal.walk-smaller
walk-smaller c =
    walk_falls c.args.self.now c.requires c.walk.stack.items c.step.new.stack.items c.pop.new.self.items c.in-Some.o
    c.in-Some.ensures.items c.in_ok-step.ensures.stack
