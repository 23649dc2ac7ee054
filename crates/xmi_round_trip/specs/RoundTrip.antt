-- What it is that a model's file is read back, and the bounds within which it is: texts, numbers and size as the types and limits of
-- models allow them.
use Rattle.std.specs.Prelude.{◌≡◌, ℕ, suc, ◌<◌, ◌≤◌, ◌^◌, List, [], ◌∷◌, All, Contains, length, nat_le, Some, Ok, FitsSigned, if◌then◌else◌}
use Rattle.std.specs.Int.{w64}
use Rattle.atl_base.specs.declared.numbers.ClassId.{ClassId}
use Rattle.atl_base.specs.declared.numbers.FeatId.{FeatId}
use Rattle.atl_base.specs.declared.numbers.ObjId.{ObjId}
use Rattle.atl_base.specs.XmlText.{IsXmlText}
use Rattle.doc_text.specs.declared.tree.Child.TheOpen as layer
use Rattle.doc_text.specs.declared.tree.Element.{Element, fold-Element}
use Rattle.doc_text.specs.Reading.{Gives, read_bytes}
use Rattle.ecore_meta.specs.declared.parts.Parts.{Parts}
use Rattle.model_store.specs.declared.parts.Cellv.{Cellv}
use Rattle.model_store.specs.declared.parts.Cellv.TheVariants.{Words, Int, Literal}
use Rattle.model_store.specs.Contents.{Contents, class_of, object_count, slot}
use Rattle.xmi_links.specs.Answers.{IsModelAnswer}
use Rattle.xmi_write.specs.Xmi.{xmi}

-- ## What models keep

-- the names and texts of a metamodel that stand in files
pub record AreTexts (meta : Parts) : Type 0 where
  pub packages : All (λ p. IsXmlText p.prefix × IsXmlText p.uri) meta.packages
  pub classes : All (λ c. IsXmlText c.name) meta.classes
  pub features : All (λ f. IsXmlText f.name) meta.features
  pub literals : All (λ e. All (λ l. IsXmlText l.text) e.literals) meta.enums

-- a text of XML's characters, a whole number of 64 bits, a literal's number of 32
abbrev pub IsInRange : Cellv → Type 0
IsInRange (Words text) = IsXmlText text
IsInRange (Int n) = FitsSigned w64 n
IsInRange (Literal l) = l < 2 ^ 32
IsInRange value = Unit {0}

-- texts and numbers that the types of the code hold, and no more objects than a model may have
pub record IsInBounds (m : Contents) : Type 0 where
  pub texts : AreTexts m.meta
  pub values : (o : ObjId) (f : FeatId) (v : Cellv) → Contains (slot m o f) v → IsInRange v
  pub classes : (o : ObjId) (c : ClassId) → class_of m o ≡ Some c → c.0 < 2 ^ 32
  pub numbers : length m.objects < 2 ^ 32
  pub few : object_count m.objects ≤ 1000000

-- ## How deep a file nests

abbrev pub greater : ℕ → ℕ → ℕ
greater a b = if nat_le a b then b else a

abbrev pub greatest : List ℕ → ℕ
greatest [] = 0
greatest (n ∷ ns) = greater n (greatest ns)

abbrev pub opened_child : layer.Child-F ℕ ℕ → ℕ
opened_child (layer.Sub n) = n
opened_child (layer.Words text) = 0

-- how many elements are open at once in an element, itself included
unfoldable pub opened : Element → ℕ
opened = fold-Element ℕ ℕ opened_child (λ e. suc (greatest e.children))

-- ## Reading back

-- the file of a model is a document, and reading it gives this model
abbrev pub IsReadTo : Contents → Contents → Type 0
IsReadTo m n = (root : Element) × Gives (read_bytes (xmi m)) root × IsModelAnswer (record { root = root }) m.meta (Ok n)
