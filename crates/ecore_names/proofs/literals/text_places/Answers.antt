use Rattle.std.proofs.Common.{ap, ◌∙◌, subst}
use Rattle.xmi_text.specs.Keys.{keys_of, AreFirsts}
use Rattle.ecore_names.proofs.literals.text_places.Goals as goal

pub returns : goal.returns
returns c = subst (AreFirsts c.in_ok-places.places) (ap keys_of c.deref.ensures.value ∙ c.in_ok-keys.ensures) c.in_ok-places.ensures
