use Rattle.std.proofs.Common.{sym, subst}
use Rattle.model_store.specs.Order.{HasNoCycle}
use Rattle.model_store.proofs.model.Model.preorder.Goals as goal

pub preorder-requires : goal.preorder-requires
preorder-requires c = subst HasNoCycle (sym c.self.view_is) c.requires
