use Rattle.std.proofs.Common.{sym, subst, arith}
use Rattle.model_store.specs.Roots.{Rise}
use Rattle.model_store.proofs.RisingRoots.{fewer}
use Rattle.model_store.proofs.roots.Roots.leave_out.Goals as goal

pub invariant_of-self : goal.invariant_of-self
invariant_of-self c = record {
  within = omega arith;
  rises = λ e. subst Rise (sym c.remove_all.ensures) (fewer _ _ (c.self.invariant.rises e));
}
