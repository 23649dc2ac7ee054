-- The objects of a reference's slot: they are all that it holds, they are there, of classes that the reference may hold, and no two are
-- the same.
use Rattle.std.proofs.Common.{◌≡◌, List, [], ◌∷◌, map, refl, sym, ap, ◌∙◌, subst, Option, Some, None}
use Rattle.std.specs.Prelude.{true, false, slice_get, is_some, Contains, IsSome, ◌==◌, not, option_map}
use Rattle.std.specs.Option.{option_map_or, IsSomeAnd}
use Rattle.std.proofs.lemmas.Bool.{true≢false, eqb-true}
use Rattle.atl_base.specs.declared.numbers.FeatId.{FeatId}
use Rattle.atl_base.specs.declared.numbers.ObjId.{ObjId}
use Rattle.ecore_meta.specs.declared.parts.Feature.{Feature}
use Rattle.ecore_meta.specs.declared.parts.FeatKind.{FeatKind}
use Rattle.ecore_meta.specs.declared.parts.FeatKind.TheVariants as holds
use Rattle.ecore_meta.specs.Valid.{AllDiffer, is_reference, class_of as kind_class}
use Rattle.model_store.specs.declared.parts.Cellv.{Cellv}
use Rattle.model_store.specs.declared.parts.Cellv.TheVariants.{Words, Int, Truth, Literal, Obj}
use Rattle.model_store.specs.Contents.{Contents, is_many, object_at, objects_of, refers, slot}
use Rattle.model_store.specs.Valid.{IsModel, IsOfKind, IsOfType, Refers, IsValid}
use Rattle.model_store.proofs.Added.{object_of_type}
use Rattle.model_store.proofs.Created.{referred_to, slot_of}
use Rattle.model_store.proofs.Thinned.{Contains_first, Contains_later}
use Rattle.xmi_text.proofs.Lists.{in_map, map-map, to_map}
use Rattle.xmi_round_trip.specs.Renumbered.{renumbered_value}
use Rattle.xmi_round_trip.proofs.Differing.{differ_before, map_differ}
use Rattle.xmi_round_trip.proofs.Lists.{one_only, map_same}
use Rattle.xmi_round_trip.proofs.Parts.{slot_typed, class_within}
use Rattle.std.proofs.lemmas.Option.{same_Some}
use Rattle.atl_base.specs.declared.numbers.ClassId.{ClassId}
use Rattle.ecore_meta.specs.Inheritance.{Conforms}
use Rattle.model_store.specs.declared.parts.Object.{Object}
use Rattle.model_store.proofs.Slots.{same_feature}
use Rattle.xmi_names.proofs.Inheriting.{sub_inside}
use Rattle.xmi_models.specs.Outline.{class_said, is_sub}

-- ## Lists

-- where all values are objects, they are all that stands there
objects_all : (cells : List Cellv) → ((v : Cellv) → Contains cells v → (q : ObjId) × (Obj q ≡ v)) → map Obj (objects_of cells) ≡ cells
objects_all [] h = refl
objects_all (c ∷ cells) h =
    let x = h c (Contains_first c cells) in
    subst (λ d. map Obj (objects_of (d ∷ cells)) ≡ d ∷ cells) x.1 (ap (λ l. Obj x.0 ∷ l) (objects_all cells (λ v m. h v (Contains_later c v cells m))))

-- objects that are the same as values are the same
same_target : (o p : ObjId) → Obj o ≡ Obj p → o ≡ p
same_target o p e = cc

-- ## Attributes

-- a value of an attribute is no object
plain_value : (m : Contents) (new : ObjId → ObjId) (f : FeatId) (v : Cellv) → refers m.meta f ≡ false → IsOfType m f v → renumbered_value new v ≡ v
plain_value m new f v r t = on (slice_get m.meta.features f.0) r t
  where
    kind : (k : FeatKind) (v : Cellv) → is_reference k ≡ false → IsOfKind m k v → renumbered_value new v ≡ v
    kind k (Words text) r t = refl
    kind k (Int n) r t = refl
    kind k (Truth b) r t = refl
    kind k (Literal l) r t = refl
    kind (holds.Refer class inside back) (Obj q) r t = absurd (true≢false r)
    kind holds.Str (Obj q) r t = absurd t
    kind holds.Int (Obj q) r t = absurd t
    kind holds.Truth (Obj q) r t = absurd t
    kind (holds.Enum n) (Obj q) r t = absurd t
    kind holds.Opaque (Obj q) r t = absurd t

    on : (x : Option Feature) → option_map_or (λ feature. is_reference feature.kind) x false ≡ false → IsSomeAnd x (λ feature. IsOfKind m feature.kind v) → renumbered_value new v ≡ v
    on None r t = absurd t
    on (Some feature) r t = kind feature.kind v r t

-- so other numbers change nothing there
pub plain_slot : (m : Contents) → IsModel m → (new : ObjId → ObjId) (o : ObjId) (f : FeatId) → refers m.meta f ≡ false → map (renumbered_value new) (slot m o f) ≡ slot m o f
plain_slot m model new o f r = map_same (renumbered_value new) (slot m o f) (λ v h. plain_value m new f v r (slot_typed m model o f v h))

-- what a feature that is the opposite says
pub said_feature : (x : Option FeatId) (f : FeatId) → option_map_or (λ g. g.0 == f.0) x false ≡ true → x ≡ Some f
said_feature None f h = absurd (true≢false (sym h))
said_feature (Some g) f h = ap Some (same_feature g f (eqb-true g.0 f.0 h))

-- ## Classes of objects

module _ (m : Contents) where
  -- it conforms to the class of the kind
  fits_kind : (kind : FeatKind) (o : ObjId) (object : Object) → object_at m.objects o ≡ Some object → IsOfKind m kind (Obj o) → (d : ClassId) → kind_class kind ≡ Some d → Conforms m.meta.classes object.class d
  fits_kind (holds.Refer class inside back) o object there t d e =
      subst (Conforms m.meta.classes object.class) (same_Some class d e)
      (subst (λ x. IsSomeAnd (option_map (λ (y : Object). y.class) x) (λ own. Conforms m.meta.classes own class)) there t)
  fits_kind holds.Str o object there t d e = absurd t
  fits_kind holds.Int o object there t d e = absurd t
  fits_kind holds.Truth o object there t d e = absurd t
  fits_kind (holds.Enum n) o object there t d e = absurd t
  fits_kind holds.Opaque o object there t d e = absurd t

  -- and to the class of the feature
  fits_type : (f : FeatId) (o : ObjId) (object : Object) → object_at m.objects o ≡ Some object → IsOfType m f (Obj o) → (d : ClassId) → class_said m.meta f ≡ Some d → Conforms m.meta.classes object.class d
  fits_type f o object there t d e = on (slice_get m.meta.features f.0) t e
    where
      on : (x : Option Feature) → IsSomeAnd x (λ feature. IsOfKind m feature.kind (Obj o)) → option_map_or (λ feature. kind_class feature.kind) x None ≡ Some d → Conforms m.meta.classes object.class d
      on None t e = absurd t
      on (Some feature) t e = fits_kind feature.kind o object there t d e

-- so its class is one that the feature may hold
pub fits_class : (m : Contents) → IsValid m → (o : ObjId) (object : Object) → object_at m.objects o ≡ Some object → (f : FeatId) → IsOfType m f (Obj o) → option_map_or (λ d. not (is_sub m.meta object.class d)) (class_said m.meta f) false ≡ false
fits_class m valid o object there f typed = on (class_said m.meta f) refl
  where
    on : (x : Option ClassId) → class_said m.meta f ≡ x → option_map_or (λ d. not (is_sub m.meta object.class d)) x false ≡ false
    on None e = refl
    on (Some d) e =
        let conforms = fits_type m f o object there typed d e in
        let is : true ≡ is_sub m.meta object.class d = sub_inside m.meta.classes valid.metamodel.places.supers object.class d true (class_within m valid o object there) ((λ t. conforms), (λ t. refl)) in
        ap not (sym is)

-- ## References

module _ (m : Contents) (model : IsModel m) (o : ObjId) (f : FeatId) (r : refers m.meta f ≡ true) where
  -- the objects that it refers to
  abbrev pub targets : List ObjId
  targets = objects_of (slot m o f)

  -- they are all that its slot holds
  pub all_targets : map Obj targets ≡ slot m o f
  all_targets = objects_all (slot m o f) (λ v h. object_of_type m f v r (slot_typed m model o f v h))

  -- it refers to each
  pub target_refers : (q : ObjId) → Contains targets q → Refers m o f q
  target_refers q h = subst (λ cells. Contains cells (Obj q)) all_targets (to_map Obj targets q h)

  -- and to no other
  pub refers_target : (q : ObjId) → Refers m o f q → Contains targets q
  refers_target q h =
      let x = in_map Obj targets (Obj q) (subst (λ cells. Contains cells (Obj q)) (sym all_targets) h) in
      subst (Contains targets) (same_target x.0 q x.2) x.1

  -- each is there
  pub target_there : (q : ObjId) → Contains targets q → IsSome (object_at m.objects q)
  target_there q h = let x = referred_to m model o f q (target_refers q h) in ap is_some x.1

  -- no two are the same
  pub targets_differ : AllDiffer targets
  targets_differ = differ_before Obj targets (subst AllDiffer (sym all_targets) (model.differ o f r))

  -- and of a single-valued reference there is one at most
  pub one_target : is_many m.meta f ≡ false → (p q : ObjId) → Refers m o f p → Refers m o f q → p ≡ q
  one_target single p q h k = same_target p q (one_only (slot m o f) (Obj p) (Obj q) ((model.fits o f (slot_of m o f (Obj p) h)).single single) h k)

  -- the slot with other numbers
  pub renumbered_slot : (new : ObjId → ObjId) → map (renumbered_value new) (slot m o f) ≡ map Obj (map new targets)
  renumbered_slot new = ap (map (renumbered_value new)) (sym all_targets) ∙ map-map (renumbered_value new) Obj targets ∙ sym (map-map Obj new targets)

  -- other numbers that tell objects apart differ as well
  pub numbers_differ : (new : ObjId → ObjId) → ((p q : ObjId) → IsSome (object_at m.objects p) → IsSome (object_at m.objects q) → new p ≡ new q → p ≡ q) → AllDiffer (map new targets)
  numbers_differ new apart = map_differ new targets targets_differ (λ p q h k. apart p q (target_there p h) (target_there q k))
