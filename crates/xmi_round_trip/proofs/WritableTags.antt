-- Start tags: what XMI's own names are, and that a tag keeps its attributes in their order, with XMI's version first or without it.
use Rattle.std.proofs.Common.{◌≡◌, ℕ, true, false, List, [], ◌∷◌, ◌++◌, refl, sym, ap, ◌∙◌, arith}
use Rattle.std.specs.Prelude.{◌&&◌, not, codes, filter, bytes_eq, All, AllPairs, Contains}
use Rattle.std.specs.List.{list_all}
use Rattle.std.proofs.lemmas.Bool.{true≢false}
use Rattle.std.proofs.lemmas.List.Elements.{All-cons, All-nil, All-weaker, All-contains}
use Rattle.std.proofs.lemmas.List.Kept.{AllPairs-cons}
use Rattle.std.proofs.lemmas.Slice.Eq.{bytes_eq-Decides}
use Rattle.atl_base.specs.XmlText.{is_ascii_text}
use Rattle.atl_base.proofs.XmlTexts.{IsXmlText-ascii}
use Rattle.doc_text.specs.Names.{xmi_space, xsi_space}
use Rattle.doc_text.specs.ReadBack.{Differ, IsAttribute, IsDeclared, IsPlainName, IsTag}
use Rattle.doc_text.specs.Written.{is_version}
use Rattle.doc_text.specs.declared.tree.Attribute.{Attribute}
use Rattle.doc_text.specs.declared.tree.Element.{Element}
use Rattle.doc_text.specs.declared.tree.Prefix.{Prefix}
use Rattle.ecore_meta.specs.declared.parts.Parts.{Parts}
use Rattle.ecore_meta.specs.Names.{is_plain_name}
use Rattle.xmi_write.specs.Xmi.{declared, outermost, version}
use Rattle.xmi_round_trip.proofs.WritableNames.{name_is_plain}
use Rattle.xmi_round_trip.proofs.Lists.{none_pass, all_pass}

-- ## Names that are spelt out

-- one that a metamodel might choose
chosen : (name : List ℕ) → is_plain_name name ≡ true → bytes_eq name (codes "xmlns") ≡ false → list_all is_ascii_text name ≡ true → IsPlainName name
chosen name p d t = name_is_plain name (record { plain = p; no_declaration = λ e. true≢false (sym ((bytes_eq-Decides name (codes "xmlns")).1 e) ∙ d) }) (IsXmlText-ascii name t)

-- those that XMI has are plain: the two prefixes, `XMI`, `type` and `version`
pub xmi_is_plain : IsPlainName (codes "xmi")
xmi_is_plain = chosen (codes "xmi") refl refl refl

pub xsi_is_plain : IsPlainName (codes "xsi")
xsi_is_plain = chosen (codes "xsi") refl refl refl

pub around_is_plain : IsPlainName (codes "XMI")
around_is_plain = chosen (codes "XMI") refl refl refl

pub type_is_plain : IsPlainName (codes "type")
type_is_plain = chosen (codes "type") refl refl refl

version_is_plain : IsPlainName (codes "version")
version_is_plain = chosen (codes "version") refl refl refl

-- a file declares the namespaces of XMI and of XML Schema's instances
pub xmi_is_declared : (meta : Parts) → IsDeclared (declared meta) xmi_space
xmi_is_declared meta = refl

pub xsi_is_declared : (meta : Parts) → IsDeclared (declared meta) xsi_space
xsi_is_declared meta = refl

-- XMI's version is an attribute that may stand in a file
version_is_good : (meta : Parts) → IsAttribute (declared meta) version
version_is_good meta = record { name = version_is_plain; space = xmi_is_declared meta; value = IsXmlText-ascii (codes "2.0") refl }

-- ## Attributes none of which is XMI's

-- they are good, differ, and are none of XMI's
pub record AreOwn (ds : List Prefix) (attributes : List Attribute) : Type 0 where
  pub good : All (IsAttribute ds) attributes
  pub differ : AllPairs Differ attributes
  pub others : All (λ a. bytes_eq a.space xmi_space ≡ false) attributes

-- no attributes
pub own_none : (ds : List Prefix) → AreOwn ds []
own_none ds = record { good = All-nil (IsAttribute ds); differ = λ i j d lt low. absurd (omega (arith, low)); others = All-nil (λ a. bytes_eq a.space xmi_space ≡ false) }

-- with the version put first they are in the order that they had
kept_in_order : (attributes : List Attribute) → All (λ a. bytes_eq a.space xmi_space ≡ false) attributes
    → filter is_version attributes ++ filter (λ a. not (is_version a)) attributes ≡ attributes
kept_in_order attributes h =
    let other : (a : Attribute) → Contains attributes a → is_version a ≡ false =
    λ a k. ap (λ b. b && bytes_eq a.name (codes "version")) (All-contains (λ (x : Attribute). bytes_eq x.space xmi_space ≡ false) attributes a h k) in
    ap (λ l. l ++ filter (λ a. not (is_version a)) attributes) (none_pass is_version attributes other)
    ∙ all_pass (λ a. not (is_version a)) attributes (λ a k. ap not (other a k))

-- ## Tags

-- what has a plain name, a declared space and such attributes is a tag
pub own_tag : (ds : List Prefix) (e : Element) → IsPlainName e.name → IsDeclared ds e.space → AreOwn ds e.attributes → IsTag ds e
own_tag ds e name space own = record { name = name; space = space; attributes = own.good; differ = own.differ; version_first = kept_in_order e.attributes own.others }

-- what is not XMI's differs from the version
apart_from_version : (a : Attribute) → bytes_eq a.space xmi_space ≡ false → Differ version a
apart_from_version a h = λ same. absurd (true≢false (sym ((bytes_eq-Decides a.space xmi_space).1 (sym same)) ∙ h))

-- the first tag bears XMI's version besides
pub first_tag : (meta : Parts) (e : Element) → IsPlainName e.name → IsDeclared (declared meta) e.space → AreOwn (declared meta) e.attributes → IsTag (declared meta) (outermost meta e)
first_tag meta e name space own = record {
  name = name;
  space = space;
  attributes = All-cons (IsAttribute (declared meta)) version e.attributes (version_is_good meta) own.good;
  differ = AllPairs-cons Differ version e.attributes (All-weaker (λ a. bytes_eq a.space xmi_space ≡ false) (Differ version) apart_from_version e.attributes own.others) own.differ;
  version_first = ap (λ l. version ∷ l) (kept_in_order e.attributes own.others);
}
