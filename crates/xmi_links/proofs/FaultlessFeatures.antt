-- What a metamodel says of opposites, and of classes that see a feature.
use Rattle.std.proofs.Common.{◌≡◌, ◌<◌, length, refl, sym, ap, ◌∙◌, subst, Option, Some, None}
use Rattle.std.specs.Prelude.{◌&&◌, Bool, true, false, slice_get, Contains, option_map}
use Rattle.std.specs.Option.{option_map_or}
use Rattle.std.proofs.lemmas.Bool.{true≢false}
use Rattle.std.proofs.lemmas.Option.{none-some, same_Some, get_or_from_slice_get, slice_get_within, slice_get-get_or}
use Rattle.atl_base.specs.declared.numbers.ClassId.{ClassId}
use Rattle.atl_base.specs.declared.numbers.FeatId.{FeatId}
use Rattle.ecore_meta.specs.declared.parts.Feature.{Feature}
use Rattle.ecore_meta.specs.declared.parts.FeatKind.{FeatKind}
use Rattle.ecore_meta.specs.declared.parts.FeatKind.TheVariants as holds
use Rattle.ecore_meta.specs.declared.parts.Parts.{Parts}
use Rattle.ecore_meta.specs.Inheritance.{Conforms, features}
use Rattle.ecore_meta.specs.Valid.{IsMetamodel, AreOpposite, IsKindWithin, class_of, is_reference, is_containment, opposite_of}
use Rattle.ecore_meta.proofs.FeatureLaws.{seen-is}
use Rattle.model_store.specs.Contents.{contains, is_contained_by, opposite, refers}
use Rattle.xmi_models.specs.Outline.{class_said, is_sub}
use Rattle.xmi_names.proofs.Inheriting.{numbers, related}

module _ (meta : Parts) (valid : IsMetamodel meta) where
  -- ## Opposites

  -- two features that are each the other's opposite
  pub record ArePair (f g : FeatId) : Type 0 where
    pub feature : Feature
    pub other : Feature
    pub there : slice_get meta.features f.0 ≡ Some feature
    pub back : slice_get meta.features g.0 ≡ Some other
    pub fits : AreOpposite f feature other

  pub pair : (f g : FeatId) → opposite meta f ≡ Some g → ArePair f g
  pair f g h = on (slice_get meta.features f.0) refl h
    where
      kind_there : (k : FeatKind) → IsKindWithin meta k → opposite_of k ≡ Some g → g.0 < length meta.features
      kind_there (holds.Refer class contains (Some x)) w e = subst (λ (y : FeatId). y.0 < length meta.features) (same_Some x g e) w.1
      kind_there (holds.Refer class contains None) w e = absurd (none-some g e)
      kind_there holds.Str w e = absurd (none-some g e)
      kind_there holds.Int w e = absurd (none-some g e)
      kind_there holds.Truth w e = absurd (none-some g e)
      kind_there (holds.Enum n) w e = absurd (none-some g e)
      kind_there holds.Opaque w e = absurd (none-some g e)

      on : (x : Option Feature) → slice_get meta.features f.0 ≡ x → option_map_or (λ feature. opposite_of feature.kind) x None ≡ Some g → ArePair f g
      on None e h = absurd (none-some g h)
      on (Some feature) e h =
          let w = subst (λ (y : Feature). IsKindWithin meta y.kind) (get_or_from_slice_get meta.features f.0 feature feature e) (valid.places.kinds f.0 feature (slice_get_within meta.features f.0 feature e)) in
          let b = slice_get-get_or meta.features g.0 feature (kind_there feature.kind w h) in
          record { feature = feature; other = _; there = e; back = b; fits = valid.opposites f g feature _ e h b }

  pub returned : (f g : FeatId) → opposite meta f ≡ Some g → opposite meta g ≡ Some f
  returned f g h = let p = pair f g h in ap (λ x. option_map_or (λ feature. opposite_of feature.kind) x None) p.back ∙ p.fits.returned

  pub refers_with : (f g : FeatId) → opposite meta f ≡ Some g → refers meta f ≡ true
  refers_with f g h = on (slice_get meta.features f.0) h
    where
      kind : (k : FeatKind) → opposite_of k ≡ Some g → is_reference k ≡ true
      kind (holds.Refer class contains x) e = refl
      kind holds.Str e = absurd (none-some g e)
      kind holds.Int e = absurd (none-some g e)
      kind holds.Truth e = absurd (none-some g e)
      kind (holds.Enum n) e = absurd (none-some g e)
      kind holds.Opaque e = absurd (none-some g e)

      on : (x : Option Feature) → option_map_or (λ feature. opposite_of feature.kind) x None ≡ Some g → option_map_or (λ feature. is_reference feature.kind) x false ≡ true
      on None e = absurd (none-some g e)
      on (Some feature) e = kind feature.kind e

  pub refers_as_content : (f : FeatId) → contains meta f ≡ true → refers meta f ≡ true
  refers_as_content f h = on (slice_get meta.features f.0) h
    where
      kind : (k : FeatKind) → is_containment k ≡ true → is_reference k ≡ true
      kind (holds.Refer class contains x) e = refl
      kind holds.Str e = absurd (true≢false (sym e))
      kind holds.Int e = absurd (true≢false (sym e))
      kind holds.Truth e = absurd (true≢false (sym e))
      kind (holds.Enum n) e = absurd (true≢false (sym e))
      kind holds.Opaque e = absurd (true≢false (sym e))

      on : (x : Option Feature) → option_map_or (λ feature. is_containment feature.kind) x false ≡ true → option_map_or (λ feature. is_reference feature.kind) x false ≡ true
      on None e = absurd (true≢false (sym e))
      on (Some feature) e = kind feature.kind e

  -- both ends do not contain
  pub not_both : (f g : FeatId) → opposite meta f ≡ Some g → contains meta f ≡ true → contains meta g ≡ false
  not_both f g h c =
      let p = pair f g h in
      let a : is_containment p.feature.kind ≡ true = ap (λ x. option_map_or (λ feature. is_containment feature.kind) x false) (sym p.there) ∙ c in
      ap (λ x. option_map_or (λ feature. is_containment feature.kind) x false) p.back ∙ second (is_containment p.feature.kind) (is_containment p.other.kind) a p.fits.one_contains
    where
      second : (a b : Bool) → a ≡ true → (a && b) ≡ false → b ≡ false
      second true b e h = h
      second false b e h = absurd (true≢false (sym e))

  pub content_is_not : (f : FeatId) → contains meta f ≡ true → is_contained_by meta f ≡ false
  content_is_not f c = on (opposite meta f) refl
    where
      on : (x : Option FeatId) → opposite meta f ≡ x → option_map_or (contains meta) x false ≡ false
      on None e = refl
      on (Some g) e = not_both f g e c

  -- the opposite of a container reference
  pub container_end : (f : FeatId) → is_contained_by meta f ≡ true → (g : FeatId) × (opposite meta f ≡ Some g) × (contains meta g ≡ true)
  container_end f h = on (opposite meta f) refl h
    where
      on : (x : Option FeatId) → opposite meta f ≡ x → option_map_or (contains meta) x false ≡ true → (g : FeatId) × (opposite meta f ≡ Some g) × (contains meta g ≡ true)
      on None e h = absurd (true≢false (sym h))
      on (Some g) e h = (g, e, h)

  -- ## Classes that see a feature

  pub sees_from : (c : ClassId) (f : FeatId) (feature : Feature) → c.0 < length meta.classes → slice_get meta.features f.0 ≡ Some feature → Conforms meta.classes c feature.owner → Contains (features meta.classes c) f
  sees_from c f feature l e h =
      (seen-is meta.classes valid.acyclic valid.places.supers c f l).1 (feature.owner, h, (valid.owners feature.owner f).1 (ap (option_map (λ (y : Feature). y.owner)) e))

  pub conforms_to : (c : ClassId) (f : FeatId) (feature : Feature) → c.0 < length meta.classes → slice_get meta.features f.0 ≡ Some feature → Contains (features meta.classes c) f → Conforms meta.classes c feature.owner
  conforms_to c f feature l e h =
      let x = (seen-is meta.classes valid.acyclic valid.places.supers c f l).0 h in
      subst (Conforms meta.classes c) (same_Some x.0 feature.owner (sym ((valid.owners x.0 f).0 x.2) ∙ ap (option_map (λ (y : Feature). y.owner)) e)) x.1

  -- an object of a class that fits an end sees the other end
  pub other_seen : (c : ClassId) (f g : FeatId) (d : ClassId) → c.0 < length meta.classes → opposite meta f ≡ Some g → class_said meta f ≡ Some d → Conforms meta.classes c d → Contains (features meta.classes c) g
  other_seen c f g d l h s k =
      let p = pair f g h in
      let owner : d ≡ p.other.owner = same_Some d p.other.owner (sym s ∙ ap (λ x. option_map_or (λ feature. class_of feature.kind) x None) p.there ∙ p.fits.there) in
      sees_from c g p.other l p.back (subst (Conforms meta.classes c) owner k)

  -- an object that sees an end is of the class of the other
  pub other_fits : (c : ClassId) (f g : FeatId) → c.0 < length meta.classes → opposite meta f ≡ Some g → Contains (features meta.classes c) g → (d : ClassId) × (class_said meta f ≡ Some d) × Conforms meta.classes c d
  other_fits c f g l h s =
      let p = pair f g h in
      (p.other.owner, ap (λ x. option_map_or (λ feature. class_of feature.kind) x None) p.there ∙ p.fits.there, conforms_to c g p.other l p.back s)

  pub conforms_by : (c d : ClassId) → is_sub meta c d ≡ true → Conforms meta.classes c d
  conforms_by c d h = related meta.classes (length (numbers meta.classes)) c d h
