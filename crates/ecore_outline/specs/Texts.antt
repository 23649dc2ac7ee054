-- What can be read of a file is text: names, and the names and values of attributes.
use Rattle.std.specs.Prelude.{List, [], ◌∷◌}
use Rattle.atl_base.specs.XmlText.{IsXmlText}
use Rattle.doc_text.specs.declared.tree.Attribute.{Attribute}
use Rattle.doc_text.specs.declared.tree.Element.{Element}
use Rattle.xmi_text.specs.Markup.{sub_elements}
use Rattle.ecore_outline.specs.Outline.{Entry}

abbrev pub AreAttributeTexts : List Attribute → Type 0
AreAttributeTexts [] = Unit {0}
AreAttributeTexts (a ∷ more) = (IsXmlText a.name × IsXmlText a.value) × AreAttributeTexts more

abbrev pub AreNameTexts : List Element → Type 0
AreNameTexts [] = Unit {0}
AreNameTexts (e ∷ es) = IsXmlText e.name × AreNameTexts es

-- an element's name, its attributes, and the names of its children
pub record IsElementText (e : Element) : Type 0 where
  pub name : IsXmlText e.name
  pub attributes : AreAttributeTexts e.attributes
  pub children : AreNameTexts (sub_elements e.children)

abbrev pub AreTexts : List Entry → Type 0
AreTexts [] = Unit {0}
AreTexts (e ∷ es) = IsElementText e.site.element × AreTexts es
