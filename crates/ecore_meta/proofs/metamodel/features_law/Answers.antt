use Rattle.ecore_meta.proofs.FeatureLaws.{features-is}
use Rattle.ecore_meta.proofs.metamodel.features_law.Goals as goal

pub returns : goal.returns
returns c = λ m v. features-is m.classes v.acyclic v.places.supers
