use Rattle.std.proofs.Common.{sym, subst}
use Rattle.ecore_rows.specs.Walks.{AreWithin}
use Rattle.ecore_rows.proofs.reach.is_own_super.Goals as goal

pub reach-requires-clause-starts : goal.reach-requires-clause-starts
reach-requires-clause-starts c = subst (AreWithin c.args.supers.now) (sym c.above.ensures) (c.requires.leads c.args.class)
