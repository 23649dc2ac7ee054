use Rattle.ecore_meta.proofs.FeatureLaws.{seen-is}
use Rattle.ecore_meta.proofs.metamodel.seen_law.Goals as goal

pub returns : goal.returns
returns c = λ m v. seen-is m.classes v.acyclic v.places.supers
