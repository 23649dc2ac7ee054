-- The slots of a model's objects: each is a feature's, whose name is plain, and its values may stand in a file.
use Rattle.std.proofs.Common.{◌≡◌, ℕ, suc, ◌<◌, List, [], ◌∷◌, length, refl, sym, ap, subst, ◌∙◌, arith, Some}
use Rattle.std.specs.Prelude.{slice_index_or, All, Contains}
use Rattle.std.specs.Option.{option_map_or}
use Rattle.std.proofs.lemmas.List.{get_or_default}
use Rattle.std.proofs.lemmas.List.Elements.{Contains-get_or}
use Rattle.atl_base.specs.declared.numbers.ClassId.{ClassId}
use Rattle.atl_base.specs.declared.numbers.FeatId.{FeatId}
use Rattle.atl_base.specs.declared.numbers.ObjId.{ObjId}
use Rattle.doc_text.specs.ReadBack.{IsPlainName}
use Rattle.ecore_meta.specs.declared.parts.Feature.{Feature}
use Rattle.ecore_meta.specs.declared.parts.Parts.{Parts}
use Rattle.ecore_meta.specs.Inheritance.{features, name_of}
use Rattle.ecore_meta.specs.Names.{HasNoDot, IsName}
use Rattle.ecore_meta.specs.Valid.{IsMetamodel}
use Rattle.ecore_meta.proofs.FeatureLaws.{seen-is}
use Rattle.model_store.specs.declared.parts.Cellv.{Cellv}
use Rattle.model_store.specs.declared.parts.Object.{Object}
use Rattle.model_store.specs.Contents.{Contents, object_at, slot}
use Rattle.model_store.specs.Valid.{IsValid}
use Rattle.xmi_round_trip.specs.RoundTrip.{AreTexts, IsInBounds, IsInRange}
use Rattle.xmi_round_trip.proofs.WritableNames.{name_is_plain}
use Rattle.xmi_round_trip.proofs.WritableTexts.{name_is_text}
use Rattle.xmi_round_trip.proofs.Lists.{some_at, at_place}
use Rattle.xmi_round_trip.proofs.Parts.{slot_there, class_within}

-- ## Names

module _ (meta : Parts) (valid : IsMetamodel meta) (texts : AreTexts meta) where
  -- a feature's name is plain
  pub feature_is_plain : (f : FeatId) → f.0 < length meta.features → IsPlainName (name_of meta.features f)
  feature_is_plain f low =
      let at = some_at meta.features f.0 low in
      let good : IsName at.0.name × HasNoDot at.0.name = at_place (λ (x : Feature). IsName x.name × HasNoDot x.name) meta.features f.0 at.0 valid.names.features at.1 in
      name_is_plain (name_of meta.features f) (subst IsName (sym (ap (λ x. option_map_or (λ feature. feature.name) x []) at.1)) good.0) (name_is_text meta texts f)

  -- what is seen in a class is a feature
  pub seen_is_plain : (c : ClassId) (f : FeatId) → c.0 < length meta.classes → Contains (features meta.classes c) f → IsPlainName (name_of meta.features f)
  seen_is_plain c f within seen =
      let from = (seen-is meta.classes valid.acyclic valid.places.supers c f within).0 seen in
      feature_is_plain f (valid.places.own from.0 f from.2)

-- ## Slots

-- what is true of each feature with the values of its slot
abbrev pub AllSlots : (FeatId → List Cellv → Type 0) → List FeatId → List (List Cellv) → Type 0
AllSlots P [] slots = Unit {0}
AllSlots P (f ∷ fs) [] = Unit {0}
AllSlots P (f ∷ fs) (cells ∷ slots) = P f cells × AllSlots P fs slots

-- it is true of all, where it is at each place
slots_from : (P : FeatId → List Cellv → Type 0) (fs : List FeatId) (slots : List (List Cellv))
    → ((k : ℕ) (f : FeatId) (cells : List Cellv) → k < length fs → k < length slots → slice_index_or fs k f ≡ f → slice_index_or slots k cells ≡ cells → P f cells) → AllSlots P fs slots
slots_from P [] slots h = tt
slots_from P (f ∷ fs) [] h = tt
slots_from P (f ∷ fs) (cells ∷ slots) h =
    (h 0 f cells (omega arith) (omega arith) refl refl, slots_from P fs slots (λ k g ds l n e i. h (suc k) g ds (omega (arith, l)) (omega (arith, n)) e i))

-- what a file asks of a slot
pub record IsGoodSlot (meta : Parts) (f : FeatId) (cells : List Cellv) : Type 0 where
  pub name : IsPlainName (name_of meta.features f)
  pub values : All IsInRange cells

module _ (m : Contents) (valid : IsValid m) (bounds : IsInBounds m) (o : ObjId) (object : Object) (there : object_at m.objects o ≡ Some object) where
  -- what stands at a feature's place is its slot
  slot_is : (k : ℕ) (f : FeatId) (cells : List Cellv) → k < length (features m.meta.classes object.class) → k < length object.slots → slice_index_or (features m.meta.classes object.class) k f ≡ f
      → slice_index_or object.slots k cells ≡ cells → slot m o f ≡ cells
  slot_is k f cells l n e i = slot_there m valid.metamodel valid.model o object k f there l e ∙ get_or_default object.slots k [] cells n ∙ i

  -- each slot of an object is such a one
  pub slots_are_good : AllSlots (IsGoodSlot m.meta) (features m.meta.classes object.class) object.slots
  slots_are_good = slots_from (IsGoodSlot m.meta) (features m.meta.classes object.class) object.slots (λ k f cells l n e i. record {
    name = seen_is_plain m.meta valid.metamodel bounds.texts object.class f (class_within m valid o object there) (k, l, e);
    values = λ j d low.
        bounds.values o f (slice_index_or cells j d) (subst (λ (c : List Cellv). Contains c (slice_index_or cells j d)) (sym (slot_is k f cells l n e i)) (Contains-get_or cells j d low));
  })
