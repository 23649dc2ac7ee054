-- A write to an attribute leaves a model.
use Rattle.std.proofs.Common.{◌≡◌, ◌≢◌, zero, suc, List, [], ◌∷◌, ◌++◌, refl, sym, ap, ◌∙◌, subst, ⊎_elim, arith, Option, Some, None}
use Rattle.std.specs.Prelude.{Bool, true, false, slice_index_or, slice_get, option_map, is_some, if◌then◌else◌, Contains, All, IsSome, IfSome}
use Rattle.std.specs.Option.{option_map_or, IsSomeAnd}
use Rattle.std.specs.List.{list_any}
use Rattle.std.proofs.lemmas.Bool.{cases_eq, true≢false}
use Rattle.std.proofs.lemmas.List.Elements.{All-append}
use Rattle.atl_base.specs.declared.numbers.FeatId.{FeatId}
use Rattle.atl_base.specs.declared.numbers.ObjId.{ObjId}
use Rattle.ecore_meta.specs.declared.parts.Feature.{Feature}
use Rattle.ecore_meta.specs.declared.parts.FeatKind.{FeatKind}
use Rattle.ecore_meta.specs.declared.parts.FeatKind.TheVariants as Kind
use Rattle.ecore_meta.specs.Inheritance.{Conforms}
use Rattle.ecore_meta.specs.Valid.{AllDiffer, IsMetamodel, is_reference}
use Rattle.model_store.specs.declared.parts.Cellv.{Cellv}
use Rattle.model_store.specs.declared.parts.Cellv.TheVariants.{Words, Int, Truth, Literal, Obj}
use Rattle.model_store.specs.Contents.{Contents, object_at, class_of, slot, refers, is_many, is_unique, set_slot, AreShaped}
use Rattle.model_store.specs.Valid.{IsModel, IsConcrete, IsOfKind, IsOfType, Fits, HasSlot, Refers}
use Rattle.model_store.specs.Writes.{initial, written, appended, with_value, replaced, rewired, write, same_value}
use Rattle.model_store.proofs.Created.{some_and, all_contained}
use Rattle.model_store.proofs.CreatedModel.{seen_once, initial_fits, has_default}
use Rattle.model_store.proofs.Holding.{contained_not, uncontained}
use Rattle.model_store.proofs.Slots.{IsAt, at_of, after, after_is, elsewhere, here, refusal_kept, shaped_kept, slot_same, slot_other, same_object, same_feature}

-- the value of an attribute is no object
attribute_value : (m : Contents) (kind : FeatKind) (q : ObjId) → is_reference kind ≡ false → IsOfKind m kind (Obj q) → ⊥
attribute_value m (Kind.Refer class inside back) q r h = true≢false r
attribute_value m Kind.Str q r h = h
attribute_value m Kind.Int q r h = h
attribute_value m Kind.Truth q r h = h
attribute_value m (Kind.Enum e) q r h = h
attribute_value m Kind.Opaque q r h = h

no_reference_in : (m : Contents) (f : FeatId) (cells : List Cellv) (q : ObjId) → refers m.meta f ≡ false → Fits m f cells → Contains cells (Obj q) → ⊥
no_reference_in m f cells q r x h = on (slice_get m.meta.features f.0) r (all_contained (IsOfType m f) cells (Obj q) x.typed h)
  where
    on : (x : Option Feature) → option_map_or (λ feature. is_reference feature.kind) x false ≡ false → IsSomeAnd x (λ feature. IsOfKind m feature.kind (Obj q)) → ⊥
    on None r h = h
    on (Some feature) r h = attribute_value m feature.kind q r h

module _ (m : Contents) (valid : IsMetamodel m.meta) (model : IsModel m) (o : ObjId) (f : FeatId) (has : HasSlot m o f) (attribute : refers m.meta f ≡ false)
    (cells : List Cellv) (fit : Fits m f cells)
    (filled : is_many m.meta f ≡ false → IsSomeAnd (slice_get m.meta.features f.0) (λ feature. IsSome feature.default) → cells ≢ []) where
  a : IsAt m o f
  a = at_of m o f has

  abbrev now : Contents
  now = after m model.shaped o f cells a

  -- at this slot, or at another
  by : (P : ObjId → FeatId → Type 0) → P o f → ((p : ObjId) (g : FeatId) → (p ≡ o → g ≡ f → ⊥) → P p g) → (p : ObjId) (g : FeatId) → P p g
  by P h k p g = ⊎_elim
      (λ e. let x = same_object p o e in ⊎_elim
      (λ i. let y = same_feature g f i in subst (λ q. P q g) (sym x) (subst (P o) (sym y) h))
      (λ d. k p g (λ _ y. d (ap (λ z. z.0) y)))
      (cases_eq g.0 f.0))
      (λ d. k p g (λ x _. d (ap (λ z. z.0) x)))
      (cases_eq p.0 o.0)

  same_class : (p : ObjId) → class_of now p ≡ class_of m p
  same_class p = ⊎_elim
      (λ e. let x = same_object p o e in ap (class_of now) x ∙ ap (option_map (λ object. object.class)) (here m model.shaped o f cells a) ∙ sym (ap (option_map (λ object. object.class)) a.there) ∙ ap (class_of m) (sym x))
      (λ d. ap (option_map (λ object. object.class)) (elsewhere m model.shaped o f cells a p d))
      (cases_eq p.0 o.0)

  still_of_kind : (kind : FeatKind) (v : Cellv) → IsOfKind m kind v → IsOfKind now kind v
  still_of_kind Kind.Str (Words t) h = tt
  still_of_kind Kind.Opaque (Words t) h = tt
  still_of_kind Kind.Int (Int i) h = tt
  still_of_kind Kind.Truth (Truth b) h = tt
  still_of_kind (Kind.Enum e) (Literal l) h = h
  still_of_kind (Kind.Refer k inside back) (Obj q) h = subst (λ c. IsSomeAnd c (λ own. Conforms m.meta.classes own k)) (sym (same_class q)) h
  still_of_kind kind v h = absurd h

  still_fits : (g : FeatId) (values : List Cellv) → Fits m g values → Fits now g values
  still_fits g values h = record {
    typed = λ k d l. some_and (slice_get m.meta.features g.0) (λ feature. IsOfKind m feature.kind (slice_index_or values k d)) (λ feature. IsOfKind now feature.kind (slice_index_or values k d)) (λ feature. still_of_kind feature.kind (slice_index_or values k d)) (h.typed k d l);
    single = h.single;
  }

  -- references are as before
  kept_reference : (p : ObjId) (g : FeatId) (q : ObjId) → Refers m p g q → Refers now p g q
  kept_reference p g q = by (λ p g. Refers m p g q → Refers now p g q)
      (λ h. absurd (no_reference_in m f (slot m o f) q attribute (model.fits o f has) h))
      (λ p g d h. subst (λ l. Contains l (Obj q)) (sym (slot_other m model.shaped o f cells a p g d)) h) p g

  old_reference : (p : ObjId) (g : FeatId) (q : ObjId) → Refers now p g q → Refers m p g q
  old_reference p g q = by (λ p g. Refers now p g q → Refers m p g q)
      (λ h. absurd (no_reference_in m f cells q attribute fit (subst (λ l. Contains l (Obj q)) (slot_same m model.shaped o f cells a) h)))
      (λ p g d h. subst (λ l. Contains l (Obj q)) (slot_other m model.shaped o f cells a p g d) h) p g

  same_object_there : (p : ObjId) → is_some (object_at now.objects p) ≡ is_some (object_at m.objects p)
  same_object_there p = ⊎_elim
      (λ e. let x = same_object p o e in ap (λ p. is_some (object_at now.objects p)) x ∙ ap is_some (here m model.shaped o f cells a) ∙ sym (ap is_some a.there) ∙ ap (λ p. is_some (object_at m.objects p)) (sym x))
      (λ d. ap is_some (elsewhere m model.shaped o f cells a p d))
      (cases_eq p.0 o.0)

  old_slot : (p : ObjId) (g : FeatId) → HasSlot now p g → HasSlot m p g
  old_slot p g h = sym (refusal_kept m model.shaped o f cells a p g) ∙ h

  shaped : AreShaped m.meta now.objects
  shaped = shaped_kept m model.shaped o f cells a

  set_is_model : IsModel now
  set_is_model = record {
    shaped = shaped;
    concrete = λ p. subst (λ x. IfSome x (IsConcrete m.meta)) (sym (same_class p)) (model.concrete p);
    fits = by (λ p g. HasSlot now p g → Fits now g (slot now p g))
        (λ h. subst (Fits now f) (sym (slot_same m model.shaped o f cells a)) (still_fits f cells fit))
        (λ p g d h. subst (Fits now g) (sym (slot_other m model.shaped o f cells a p g d)) (still_fits g (slot m p g) (model.fits p g (old_slot p g h))));
    defaults = by (λ p g. HasSlot now p g → refers m.meta g ≡ false → is_many m.meta g ≡ false → IsSomeAnd (slice_get m.meta.features g.0) (λ feature. IsSome feature.default) → slot now p g ≢ [])
        (λ h r s x e. filled s x (sym (slot_same m model.shaped o f cells a) ∙ e))
        (λ p g d h r s x e. model.defaults p g (old_slot p g h) r s x (sym (slot_other m model.shaped o f cells a p g d) ∙ e));
    differ = by (λ p g. refers m.meta g ≡ true → AllDiffer (slot now p g))
        (λ r. absurd (true≢false (sym r ∙ attribute)))
        (λ p g d r. subst AllDiffer (sym (slot_other m model.shaped o f cells a p g d)) (model.differ p g r));
    opposites = λ p q g h e x. kept_reference q h p (model.opposites p q g h e (old_reference p g q x));
    contained_once = λ p r q g h c d x y. model.contained_once p r q g h c d (old_reference p g q x) (old_reference r h q y);
    roots = λ p. (
      λ h. let x = (model.roots p).0 h in (same_object_there p ∙ x.0, contained_not now (seen_once m.meta valid) shaped p (λ r g c y. uncontained m p x.1 r g c (old_reference r g p y))),
      λ h. (model.roots p).1 (sym (same_object_there p) ∙ h.0, contained_not m (seen_once m.meta valid) model.shaped p (λ r g c y. uncontained now p h.1 r g c (kept_reference r g p y))),
    );
    roots_differ = model.roots_differ;
  }

  pub set_slot_is_model : IsModel (set_slot m o f cells)
  set_slot_is_model = subst IsModel (sym (after_is m model.shaped o f cells a)) set_is_model

-- ## What is written

module _ (m : Contents) (f : FeatId) where
  abbrev Typed : List Cellv → Type 0
  Typed cells = All (IsOfType m f) cells

  one_typed : (v : Cellv) → IsOfType m f v → Typed (v ∷ [])
  one_typed v h zero d l = h
  one_typed v h (suc k) d l = absurd (omega (arith, l))

  with_typed : (unique : Bool) (cells : List Cellv) (v : Cellv) → Typed cells → IsOfType m f v → Typed (with_value unique cells v)
  with_typed unique cells v h t = on (if unique then list_any (same_value v) cells else false)
    where
      on : (b : Bool) → Typed (if b then cells else cells ++ v ∷ [])
      on true = h
      on false = All-append (IsOfType m f) cells (v ∷ []) h (one_typed v t)

  appended_typed : (unique : Bool) (values cells : List Cellv) → Typed cells → Typed values → Typed (appended unique cells values)
  appended_typed unique [] cells h t = h
  appended_typed unique (v ∷ values) cells h t = appended_typed unique values (with_value unique cells v) (with_typed unique cells v h (t 0 v (omega arith))) (λ k d l. t (suc k) d (omega (arith, l)))

  replaced_fits : (initially values : List Cellv) → Fits m f initially → Fits m f values → Fits m f (replaced initially values)
  replaced_fits initially [] h t = h
  replaced_fits initially (v ∷ values) h t = record { typed = one_typed v (t.typed 0 v (omega arith)); single = λ s. omega arith }

  written_fits : (cells values : List Cellv) → Fits m f (initial m.meta f) → Fits m f cells → Fits m f values → Fits m f (written m.meta f cells values)
  written_fits cells values i h t = on (is_many m.meta f) refl
    where
      on : (b : Bool) → is_many m.meta f ≡ b → Fits m f (if b then appended (is_unique m.meta f) cells values else replaced (initial m.meta f) values)
      on true e = record { typed = appended_typed (is_unique m.meta f) values cells h.typed t.typed; single = λ s. absurd (true≢false (sym e ∙ s)) }
      on false e = replaced_fits (initial m.meta f) values i t

  IsFull : List Cellv → Type 0
  IsFull [] = ⊥
  IsFull (c ∷ cells) = Unit {0}

  written_filled : (cells values : List Cellv) → refers m.meta f ≡ false → is_many m.meta f ≡ false → IsSomeAnd (slice_get m.meta.features f.0) (λ feature. IsSome feature.default) → written m.meta f cells values ≢ []
  unfolding IsFull
  written_filled cells [] r s d e = has_default m.meta f r s d (sym (ap (λ b. if b then appended (is_unique m.meta f) cells [] else initial m.meta f) s) ∙ e)
  written_filled cells (v ∷ values) r s d e = subst IsFull (sym (ap (λ b. if b then appended (is_unique m.meta f) cells (v ∷ values) else v ∷ []) s) ∙ e) tt

pub attribute_write_is_model : (m : Contents) → IsMetamodel m.meta → IsModel m → (o : ObjId) (f : FeatId) (values : List Cellv) → HasSlot m o f → Fits m f values → refers m.meta f ≡ false → IsModel (write m o f values)
attribute_write_is_model m valid model o f values has fit r =
    subst IsModel (sym (ap (λ b. if b then rewired o f values m else set_slot m o f (written m.meta f (slot m o f) values)) r))
    (set_slot_is_model m valid model o f has r (written m.meta f (slot m o f) values) (written_fits m f (slot m o f) values (initial_fits m valid f) (model.fits o f has) fit) (written_filled m f (slot m o f) values r))
