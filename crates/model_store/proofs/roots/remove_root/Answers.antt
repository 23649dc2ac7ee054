use Rattle.std.proofs.Common.{sym, subst}
use Rattle.model_store.specs.Roots.{Rise}
use Rattle.model_store.proofs.RisingRoots.{fewer}
use Rattle.model_store.proofs.roots.remove_root.Goals as goal

pub returns-then-rise-clause-known : goal.returns-then-rise-clause-known
returns-then-rise-clause-known c = record {
  within = c.remove_by_halves-from.ensures.within;
  rises = λ e. subst Rise (sym c.remove_by_halves-from.ensures.items) (fewer _ _ (c.requires.rises e));
}
