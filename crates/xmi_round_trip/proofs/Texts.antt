-- The text of a value of an attribute, by the kind of its feature.
use Rattle.std.specs.Prelude.{◌≡◌, ℕ, List, [], false, slice_get, Some}
use Rattle.std.proofs.Common.{ap, refl}
use Rattle.std.specs.Fmt.{signed_decimal}
use Rattle.std.specs.Option.{option_map_or}
use Rattle.std.proofs.lemmas.Bool.{true≢false}
use Rattle.atl_base.specs.declared.numbers.FeatId.{FeatId}
use Rattle.atl_base.specs.declared.numbers.ObjId.{ObjId}
use Rattle.ecore_meta.specs.declared.parts.Feature.{Feature}
use Rattle.ecore_meta.specs.declared.parts.FeatKind.{FeatKind}
use Rattle.ecore_meta.specs.declared.parts.FeatKind.TheVariants as holds
use Rattle.ecore_meta.specs.Valid.{is_reference}
use Rattle.model_store.specs.declared.parts.Cellv.{Cellv}
use Rattle.model_store.specs.declared.parts.Cellv.TheVariants.{Words, Int, Truth, Literal, Obj}
use Rattle.model_store.specs.Contents.{Contents}
use Rattle.model_store.specs.Texts.{literal_text, truth_text, value_text}
use Rattle.model_store.specs.Valid.{IsOfKind}

module _ (m : Contents) where
  -- the text of a value of a kind
  abbrev pub kind_text : FeatKind → Cellv → List ℕ
  kind_text kind (Words text) = text
  kind_text kind (Int n) = signed_decimal n
  kind_text kind (Truth b) = truth_text b
  kind_text kind (Literal l) = literal_text m.meta kind l
  kind_text kind (Obj o) = []

  -- no value of an attribute is an object
  pub no_object : (kind : FeatKind) (q : ObjId) → is_reference kind ≡ false → IsOfKind m kind (Obj q) → ⊥
  no_object (holds.Refer class contains opposite) q r h = absurd (true≢false r)
  no_object kind q r h = h

  -- the text of a value is that of its feature's kind
  pub text_is : (f : FeatId) (feature : Feature) → slice_get m.meta.features f.0 ≡ Some feature → is_reference feature.kind ≡ false → (v : Cellv) → IsOfKind m feature.kind v → value_text m f v ≡ kind_text feature.kind v
  text_is f feature e r (Words t) h = refl
  text_is f feature e r (Int n) h = refl
  text_is f feature e r (Truth b) h = refl
  text_is f feature e r (Literal l) h = ap (λ x. option_map_or (λ (y : Feature). literal_text m.meta y.kind l) x []) e
  text_is f feature e r (Obj q) h = absurd (no_object feature.kind q r h)
