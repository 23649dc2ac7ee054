use Rattle.std.proofs.Common.{sym, subst}
use Rattle.model_store.specs.Order.{HasNoCycle}
use Rattle.model_store.proofs.model.Model.extent.Goals as goal

pub extent-requires-clause-acyclic : goal.extent-requires-clause-acyclic
extent-requires-clause-acyclic c = subst HasNoCycle (sym c.self.view_is) c.requires.acyclic
