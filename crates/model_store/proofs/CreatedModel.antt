-- A model with a new object is a model.
use Rattle.std.proofs.Common.{◌≡◌, ◌≢◌, ℕ, zero, suc, ◌<◌, ◌≤◌, ◌⊎◌, inl, inr, List, [], ◌∷◌, length, map, refl, sym, ap, ◌∙◌, subst, ⊎_elim, arith, Option, Some, None}
use Rattle.std.specs.Prelude.{◌==◌, ◌↔◌, nat_lt, Bool, true, false, slice_index_or, slice_get, position, option_map, is_some, if◌then◌else◌, Contains, All, IsSome, IfSome, bytes_eq}
use Rattle.std.specs.Option.{option_map_or, IsSomeAnd}
use Rattle.std.proofs.lemmas.Bool.{cases_eq, cases_lt, eqb-true, true≢false}
use Rattle.std.proofs.lemmas.List.{get_or-map, get_or_default, length-map}
use Rattle.std.proofs.lemmas.List.Elements.{Contains-append_left, Contains-append_right, Contains-append_cases}
use Rattle.std.proofs.lemmas.List.Quantifiers.{position-Some, all_pairs_push}
use Rattle.std.proofs.lemmas.Option.{same_Some, get_or_from_slice_get, slice_get_within}
use Rattle.atl_base.specs.declared.numbers.ClassId.{ClassId}
use Rattle.atl_base.specs.declared.numbers.FeatId.{FeatId}
use Rattle.atl_base.specs.declared.numbers.ObjId.{ObjId}
use Rattle.ecore_meta.specs.declared.parts.EnumDef.{EnumDef}
use Rattle.ecore_meta.specs.declared.parts.Feature.{Feature}
use Rattle.ecore_meta.specs.declared.parts.FeatKind.{FeatKind}
use Rattle.ecore_meta.specs.declared.parts.FeatKind.TheVariants as Kind
use Rattle.ecore_meta.specs.declared.parts.Parts.{Parts}
use Rattle.ecore_meta.specs.Inheritance.{features, name_of}
use Rattle.ecore_meta.specs.Valid.{AllDiffer, is_reference, IsMetamodel, IsTextOf}
use Rattle.model_store.specs.declared.parts.Cellv.{Cellv}
use Rattle.model_store.specs.declared.parts.Cellv.TheVariants.{Obj}
use Rattle.model_store.specs.declared.parts.Object.{Object}
use Rattle.model_store.specs.Contents.{Contents, object_at, class_of, slot, slot_in, place_in, refers, is_many, contains, opposite, container, refusal, AreShaped}
use Rattle.model_store.specs.Valid.{IsModel, IsConcrete, IsOfKind, Fits, HasSlot, Refers}
use Rattle.model_store.specs.Writes.{created, fresh, initial, initial_of, value_of_text, literal_number}
use Rattle.model_store.proofs.Slots.{same_object, same_feature, at_of, slot_at}
use Rattle.model_store.proofs.Thinned.{Contains_cases}
use Rattle.model_store.specs.declared.refusal.StoreRefusal.TheVariants.{NoObject, NoFeature}
use Rattle.model_store.proofs.Holding.{SeenOnce, contained_not, uncontained}
use Rattle.model_store.proofs.Created.{new, there, elsewhere, same_class, same_slot, old_object, referred_before, was_object, still_fits, slot_of}
use Rattle.model_store.proofs.Updates.{shaped_push, fresh_shaped}

-- each feature is seen in a class of a metamodel once
pub seen_once : (meta : Parts) → IsMetamodel meta → (class : ClassId) → class.0 < length meta.classes → SeenOnce meta class
seen_once meta v class l i j f a b e g = ⊎_elim
    (λ (lt : i < j). absurd (apart i j lt b e g))
    (λ (ge : j ≤ i). ⊎_elim (λ (lt : j < i). absurd (apart j i lt a g e)) (λ (le : i ≤ j). omega (arith, ge, le)) (cases_lt j i))
    (cases_lt i j)
  where
    seen : List FeatId
    seen = features meta.classes class

    apart : (i j : ℕ) → i < j → j < length seen → slice_index_or seen i f ≡ f → slice_index_or seen j f ≡ f → ⊥
    apart i j lt b e g =
        v.seen_differ class l i j [] lt (omega (arith, b, length-map seen (name_of meta.features)))
        (get_or-map (name_of meta.features) seen i f [] (omega (arith, lt, b)) ∙ ap (name_of meta.features) (e ∙ sym g) ∙ sym (get_or-map (name_of meta.features) seen j f [] b))

-- ## Defaults are values of their types

literal_within : (x : Option ℕ) (size : ℕ) → 0 < size → ((i : ℕ) → x ≡ Some i → i < size) → literal_number x < size
literal_within None size h f = h
literal_within (Some i) size h f = on (nat_lt i 4294967296)
  where
    on : (b : Bool) → (if b then i else 0) < size
    on true = f i refl
    on false = h

module _ (m : Contents) where
  enum_value : (e : ℕ) (text : List ℕ) (x : Option EnumDef) → Contains (map (λ l. l.text) (option_map_or (λ d. d.literals) x [])) text →
      literal_number (position (λ l. bytes_eq l.text text) (option_map_or (λ d. d.literals) x [])) < option_map_or (λ d. length d.literals) x 0
  enum_value e text None h = absurd (omega (arith, h.1))
  enum_value e text (Some d) h = literal_within (position (λ l. bytes_eq l.text text) d.literals) (length d.literals) (omega (arith, h.1, length-map d.literals (λ l. l.text)))
      (λ i g. (position-Some (λ l. bytes_eq l.text text) d.literals i (record { name = []; text = [] }) g).0)

  default_typed : (kind : FeatKind) (text : List ℕ) → IsTextOf m.meta kind text → IsOfKind m kind (value_of_text m.meta kind text)
  default_typed Kind.Str text h = tt
  default_typed Kind.Int text h = tt
  default_typed Kind.Truth text h = tt
  default_typed (Kind.Enum e) text h = enum_value e text (slice_get m.meta.enums e) h
  default_typed Kind.Opaque text h = tt
  default_typed (Kind.Refer class inside back) text h = absurd h

module _ (m : Contents) (valid : IsMetamodel m.meta) (f : FeatId) where
  -- what stands for a feature: none, or one value of its type
  abbrev Good : Option Feature → List Cellv → Type 0
  Good x cells = All (λ v. IsSomeAnd x (λ feature. IsOfKind m feature.kind v)) cells × (length cells ≤ 1)

  no_value : (x : Option Feature) → Good x []
  no_value x = (λ k d l. absurd (omega (arith, l)), omega arith)

  by_default : (feature : Feature) (d : Option (List ℕ)) → IfSome d (IsTextOf m.meta feature.kind) → Good (Some feature) (option_map_or (λ text. value_of_text m.meta feature.kind text ∷ []) d [])
  by_default feature None h = no_value (Some feature)
  by_default feature (Some text) h = (only, omega arith)
    where
      only : All (λ v. IsOfKind m feature.kind v) (value_of_text m.meta feature.kind text ∷ [])
      only zero d l = default_typed m feature.kind text h
      only (suc k) d l = absurd (omega (arith, l))

  by_sort : (feature : Feature) (many : Bool) (b : Bool) → is_reference feature.kind ≡ b → (b ≡ false → IfSome feature.default (IsTextOf m.meta feature.kind)) → Good (Some feature) (if (if many then true else b) then [] else option_map_or (λ text. value_of_text m.meta feature.kind text ∷ []) feature.default [])
  by_sort feature true b e h = no_value (Some feature)
  by_sort feature false true e h = no_value (Some feature)
  by_sort feature false false e h = by_default feature feature.default (h refl)

  by_feature : (x : Option Feature) → slice_get m.meta.features f.0 ≡ x → Good x (option_map_or (initial_of m.meta) x [])
  by_feature None e = no_value None
  by_feature (Some feature) e = by_sort feature feature.many (is_reference feature.kind) refl
      (λ r. subst (λ g. is_reference g.kind ≡ false → IfSome g.default (IsTextOf m.meta g.kind)) (get_or_from_slice_get m.meta.features f.0 feature feature e) (valid.defaults f.0 feature (slice_get_within m.meta.features f.0 feature e)) r)

  pub initial_fits : Fits m f (initial m.meta f)
  initial_fits = let g = by_feature (slice_get m.meta.features f.0) refl in record { typed = g.0; single = λ s. g.1 }

-- ## The whole

no_reference : (meta : Parts) (f : FeatId) → refers meta f ≡ true → initial meta f ≡ []
no_reference meta f h = on (slice_get meta.features f.0) h
  where
    on : (x : Option Feature) → option_map_or (λ feature. is_reference feature.kind) x false ≡ true → option_map_or (initial_of meta) x [] ≡ []
    on None h = refl
    on (Some feature) h = many feature.many
      where
        many : (b : Bool) → (if (if b then true else is_reference feature.kind) then [] else option_map_or (λ text. value_of_text meta feature.kind text ∷ []) feature.default []) ≡ []
        many true = refl
        many false = ap (λ r. if r then [] else option_map_or (λ text. value_of_text meta feature.kind text ∷ []) feature.default []) h

-- a single-valued attribute with a default begins with it
pub has_default : (meta : Parts) (f : FeatId) → refers meta f ≡ false → is_many meta f ≡ false → IsSomeAnd (slice_get meta.features f.0) (λ feature. IsSome feature.default) → initial meta f ≢ []
has_default meta f r m d = on (slice_get meta.features f.0) r m d
  where
    IsFull : List Cellv → Type 0
    IsFull [] = ⊥
    IsFull (c ∷ cells) = Unit {0}

    full : (feature : Feature) (x : Option (List ℕ)) → IsSome x → option_map_or (λ text. value_of_text meta feature.kind text ∷ []) x [] ≢ []
    full feature None i e = true≢false (sym i)
    full feature (Some text) i e = subst IsFull e tt

    on : (x : Option Feature) → option_map_or (λ feature. is_reference feature.kind) x false ≡ false → option_map_or (λ feature. feature.many) x false ≡ false → IsSomeAnd x (λ feature. IsSome feature.default) → option_map_or (initial_of meta) x [] ≢ []
    on None r m d e = absurd d
    on (Some feature) r m d e = full feature feature.default d (sym (ap (λ b. if (if b then true else is_reference feature.kind) then [] else option_map_or (λ text. value_of_text meta feature.kind text ∷ []) feature.default []) m ∙ ap (λ b. if b then [] else option_map_or (λ text. value_of_text meta feature.kind text ∷ []) feature.default []) r) ∙ e)

module _ (m : Contents) (valid : IsMetamodel m.meta) (model : IsModel m) (class : ClassId) (within : class.0 < length m.meta.classes) (concrete : IsConcrete m.meta class) where
  abbrev after : Contents
  after = created m class

  abbrev o' : ObjId
  o' = new m model class within

  -- at the new object or at one of before
  by : (P : ObjId → Type 0) → P o' → ((p : ObjId) → p.0 ≢ length m.objects → P p) → (p : ObjId) → P p
  by P h k p = ⊎_elim (λ e. subst P (sym (same_object p o' e)) h) (λ d. k p d) (cases_eq p.0 (length m.objects))

  new_slot_is : (f : FeatId) → (slot after o' f ≡ []) ⊎ (slot after o' f ≡ initial m.meta f)
  new_slot_is f = on (place_in m.meta class f) refl
    where
      value : (k : Option ℕ) → place_in m.meta class f ≡ k → slot after o' f ≡ option_map_or (λ k. slice_index_or (map (initial m.meta) (features m.meta.classes class)) k []) k []
      value k e = ap (λ x. option_map_or (slot_in m.meta f) x []) (there m model class within) ∙ ap (λ k. option_map_or (λ k. slice_index_or (map (initial m.meta) (features m.meta.classes class)) k []) k []) e

      on : (k : Option ℕ) → place_in m.meta class f ≡ k → (slot after o' f ≡ []) ⊎ (slot after o' f ≡ initial m.meta f)
      on None e = inl (value None e)
      on (Some k) e =
          let x = position-Some (λ g. g.0 == f.0) (features m.meta.classes class) k f e in
          inr (value (Some k) e ∙ get_or-map (initial m.meta) (features m.meta.classes class) k f [] x.0 ∙ ap (initial m.meta) (same_feature (slice_index_or (features m.meta.classes class) k f) f (eqb-true (slice_index_or (features m.meta.classes class) k f).0 f.0 x.1)))

  -- where there is a slot it holds what it begins with
  new_slot_full : (f : FeatId) → HasSlot after o' f → slot after o' f ≡ initial m.meta f
  new_slot_full f h =
      let a = at_of after o' f h in
      let same = same_Some a.object (fresh m.meta class) (sym a.there ∙ there m model class within) in
      let found : place_in m.meta class f ≡ Some a.place = ap (λ o. place_in m.meta o.class f) (sym same) ∙ a.found in
      let x = position-Some (λ g. g.0 == f.0) (features m.meta.classes class) a.place f found in
      slot_at after o' f a ∙ ap (λ o. slice_index_or o.slots a.place []) same ∙ get_or-map (initial m.meta) (features m.meta.classes class) a.place f [] x.0
      ∙ ap (initial m.meta) (same_feature (slice_index_or (features m.meta.classes class) a.place f) f (eqb-true (slice_index_or (features m.meta.classes class) a.place f).0 f.0 x.1))

  same_refusal : (p : ObjId) (f : FeatId) → p.0 ≢ length m.objects → refusal after p f ≡ refusal m p f
  same_refusal p f d = ap (λ x. option_map_or (λ object. if is_some (place_in m.meta object.class f) then None else Some NoFeature) x (Some NoObject)) (elsewhere m model class within p d)

  empty_fits : (f : FeatId) → Fits after f []
  empty_fits f = record { typed = λ k d l. absurd (omega (arith, l)); single = λ s. omega arith }

  fits : (p : ObjId) (f : FeatId) → HasSlot after p f → Fits after f (slot after p f)
  fits p f = by (λ p. HasSlot after p f → Fits after f (slot after p f))
      (λ h. subst (Fits after f) (sym (new_slot_full f h)) (still_fits m model class within f (initial m.meta f) (initial_fits m valid f)))
      (λ p d h. subst (Fits after f) (sym (same_slot m model class within p f d)) (still_fits m model class within f (slot m p f) (model.fits p f (sym (same_refusal p f d) ∙ h)))) p

  defaults : (p : ObjId) (f : FeatId) → HasSlot after p f → refers m.meta f ≡ false → is_many m.meta f ≡ false → IsSomeAnd (slice_get m.meta.features f.0) (λ feature. IsSome feature.default) → slot after p f ≢ []
  defaults p f = by (λ p. HasSlot after p f → refers m.meta f ≡ false → is_many m.meta f ≡ false → IsSomeAnd (slice_get m.meta.features f.0) (λ feature. IsSome feature.default) → slot after p f ≢ [])
      (λ h r s d e. has_default m.meta f r s d (sym (new_slot_full f h) ∙ e))
      (λ p d h r s x e. model.defaults p f (sym (same_refusal p f d) ∙ h) r s x (sym (same_slot m model class within p f d) ∙ e)) p

  none_differ : AllDiffer {X = Cellv} []
  none_differ i j d lt l = absurd (omega (arith, l))

  differ : (p : ObjId) (f : FeatId) → refers m.meta f ≡ true → AllDiffer (slot after p f)
  differ p f r = by (λ p. AllDiffer (slot after p f))
      (⊎_elim (λ e. subst AllDiffer (sym e) none_differ) (λ e. subst AllDiffer (sym (e ∙ no_reference m.meta f r)) none_differ) (new_slot_is f))
      (λ p d. subst AllDiffer (sym (same_slot m model class within p f d)) (model.differ p f r)) p

  still : (p : ObjId) (f : FeatId) (q : ObjId) → p.0 ≢ length m.objects → Refers m p f q → Refers after p f q
  still p f q d h = subst (λ cells. Contains cells (Obj q)) (sym (same_slot m model class within p f d)) h

  opposites : (o p : ObjId) (f g : FeatId) → opposite m.meta f ≡ Some g → Refers after o f p → Refers after p g o
  opposites o p f g e h =
      let b = referred_before m model class within o f p h in
      still p g o (was_object m model class within o f p b.1) (model.opposites o p f g e b.1)

  contained_once : (o r p : ObjId) (f h : FeatId) → contains m.meta f ≡ true → contains m.meta h ≡ true → Refers after o f p → Refers after r h p → (o ≡ r) × (f ≡ h)
  contained_once o r p f h c d x y = model.contained_once o r p f h c d (referred_before m model class within o f p x).1 (referred_before m model class within r h p y).1

  abbrev shaped : AreShaped m.meta after.objects
  shaped = shaped_push m.meta m.objects (fresh m.meta class) model.shaped (fresh_shaped m.meta class within)

  once : (c : ClassId) → c.0 < length m.meta.classes → SeenOnce m.meta c
  once = seen_once m.meta valid

  -- an object is contained as before, and the new one is not
  abbrev IsFree : Contents → ObjId → Type 0
  IsFree c p = IsSome (object_at c.objects p) × (container c p ≡ None)

  old_exists : (p : ObjId) → IsSome (object_at m.objects p) → p.0 ≢ length m.objects
  old_exists p s = on (object_at m.objects p) refl s
    where
      on : (x : Option Object) → object_at m.objects p ≡ x → IsSome x → p.0 ≢ length m.objects
      on None e s = absurd (true≢false (sym s))
      on (Some object) e s = old_object m model class within p object e

  free_before : (p : ObjId) → IsFree m p → IsFree after p
  free_before p h = (
    ap is_some (elsewhere m model class within p (old_exists p h.0)) ∙ h.0,
    contained_not after once shaped p (λ r f c x. uncontained m p h.1 r f c (referred_before m model class within r f p x).1),
  )

  free_new : IsFree after o'
  free_new = (ap is_some (there m model class within), contained_not after once shaped o' (λ r f c x. let b = referred_before m model class within r f o' x in was_object m model class within r f o' b.1 refl))

  free_after : (p : ObjId) → p.0 ≢ length m.objects → IsFree after p → IsFree m p
  free_after p d h = (
    sym (ap is_some (elsewhere m model class within p d)) ∙ h.0,
    contained_not m once model.shaped p (λ r f c x. uncontained after p h.1 r f c (still r f p (refers_from r f p x) x)),
  )
    where
      refers_from : (r : ObjId) (f : FeatId) (q : ObjId) → Refers m r f q → r.0 ≢ length m.objects
      refers_from r f q x = let a = at_of m r f (slot_of m r f (Obj q) x) in old_object m model class within r a.object a.there

  roots : (p : ObjId) → Contains after.roots p ↔ IsFree after p
  roots p = (
    λ h. ⊎_elim (λ g. free_before p ((model.roots p).0 g)) (λ g. ⊎_elim (λ e. subst (IsFree after) e free_new) (λ z. absurd (no_root z)) (Contains_cases o' p [] g)) (Contains-append_cases m.roots (o' ∷ []) p h),
    λ h. by (λ p. IsFree after p → Contains after.roots p)
        (λ h. Contains-append_right m.roots (o' ∷ []) o' (0, omega arith, refl))
        (λ p d h. Contains-append_left m.roots (o' ∷ []) p ((model.roots p).1 (free_after p d h))) p h,
  )
    where
      no_root : Contains {X = ObjId} [] p → ⊥
      no_root z = omega (arith, z.1)

  roots_differ : AllDiffer after.roots
  roots_differ = all_pairs_push (λ x y. x ≢ y) m.roots o' model.roots_differ (λ k d l e. old_exists (slice_index_or m.roots k d) ((model.roots (slice_index_or m.roots k d)).0 (k, l, get_or_default m.roots k (slice_index_or m.roots k d) d l)).0 (ap (λ x. x.0) e))

  pub created_is_model : IsModel after
  created_is_model = record {
    shaped = shaped;
    concrete = by (λ p. IfSome (class_of after p) (IsConcrete m.meta)) (subst (λ x. IfSome (option_map (λ object. object.class) x) (IsConcrete m.meta)) (sym (there m model class within)) concrete) (λ p d. subst (λ x. IfSome x (IsConcrete m.meta)) (sym (same_class m model class within p d)) (model.concrete p));
    fits = fits;
    defaults = defaults;
    differ = differ;
    opposites = opposites;
    contained_once = contained_once;
    roots = roots;
    roots_differ = roots_differ;
  }
