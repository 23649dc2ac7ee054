use Rattle.std.proofs.Common.{map, ap, ◌∙◌, subst}
use Rattle.xmi_text.specs.Keys.{keys_of, AreFirsts}
use Rattle.ecore_names.specs.Literals.{enum_key}
use Rattle.ecore_names.proofs.literals.enum_places.Goals as goal

pub returns : goal.returns
returns c = subst (AreFirsts c.in_ok-places.places)
    (ap keys_of c.deref-2.ensures.value ∙ c.in_ok-keys.ensures ∙ ap (map enum_key) (ap keys_of c.deref.ensures.value ∙ c.in_ok-literals.ensures))
    c.in_ok-places.ensures
