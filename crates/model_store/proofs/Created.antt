-- A new object leaves a model.
use Rattle.std.proofs.Common.{◌≡◌, ◌≢◌, ℕ, ◌+◌, ◌<◌, ◌≤◌, List, [], ◌∷◌, ◌++◌, length, map, refl, sym, ap, ◌∙◌, subst, ⊎_elim, arith, Option, Some, None}
use Rattle.std.specs.Prelude.{◌==◌, Bool, true, false, slice_index_or, slice_get, option_map, if◌then◌else◌, Contains, All}
use Rattle.std.specs.Option.{option_map_or, IsSomeAnd}
use Rattle.std.proofs.lemmas.Bool.{cases_eq, cases_lt}
use Rattle.std.proofs.lemmas.List.{get_or_append_left, get_or_push, get_or_past, get_or-map, length_push}
use Rattle.std.proofs.lemmas.List.Quantifiers.{position-Some}
use Rattle.std.proofs.lemmas.Option.{none-some}
use Rattle.atl_base.specs.declared.numbers.ClassId.{ClassId}
use Rattle.atl_base.specs.declared.numbers.FeatId.{FeatId}
use Rattle.atl_base.specs.declared.numbers.ObjId.{ObjId}
use Rattle.ecore_meta.specs.declared.parts.Feature.{Feature}
use Rattle.ecore_meta.specs.declared.parts.FeatKind.{FeatKind}
use Rattle.ecore_meta.specs.declared.parts.FeatKind.TheVariants as Kind
use Rattle.ecore_meta.specs.declared.parts.Parts.{Parts}
use Rattle.ecore_meta.specs.Inheritance.{Conforms, features}
use Rattle.ecore_meta.specs.Valid.{is_reference}
use Rattle.model_store.specs.declared.parts.Cellv.{Cellv}
use Rattle.model_store.specs.declared.parts.Cellv.TheVariants.{Words, Int, Truth, Literal, Obj}
use Rattle.model_store.specs.declared.parts.Object.{Object}
use Rattle.model_store.specs.Contents.{Contents, object_at, class_of, slot, slot_in, place_in}
use Rattle.model_store.specs.Order.{IsOf}
use Rattle.model_store.specs.Valid.{IsModel, IsOfKind, IsOfType, Fits, HasSlot, Refers}
use Rattle.model_store.specs.Writes.{created, fresh, initial, initial_of, value_of_text}
use Rattle.model_store.proofs.Slots.{has_slot, same_object}
use Rattle.model_store.proofs.Thinned.{Contains_none, Contains_cases}

-- ## What nothing was written to

IsObject : Cellv → Type 0
IsObject (Obj q) = Unit {0}
IsObject c = ⊥

-- no text stands for an object
not_object : (meta : Parts) (kind : FeatKind) (text : List ℕ) → IsObject (value_of_text meta kind text) → ⊥
unfolding IsObject
not_object meta Kind.Str text h = h
not_object meta Kind.Int text h = h
not_object meta Kind.Truth text h = h
not_object meta (Kind.Enum e) text h = h
not_object meta Kind.Opaque text h = h
not_object meta (Kind.Refer class inside back) text h = h

no_object : (meta : Parts) (kind : FeatKind) (text : List ℕ) (p : ObjId) → value_of_text meta kind text ≡ Obj p → ⊥
unfolding IsObject
no_object meta kind text p e = not_object meta kind text (subst IsObject (sym e) tt)

no_object_in : (meta : Parts) (f : FeatId) (p : ObjId) → Contains (initial meta f) (Obj p) → ⊥
no_object_in meta f p h = by_feature (slice_get meta.features f.0) h
  where
    by_default : (feature : Feature) (d : Option (List ℕ)) → Contains (option_map_or (λ text. value_of_text meta feature.kind text ∷ []) d []) (Obj p) → ⊥
    by_default feature None h = Contains_none (Obj p) h
    by_default feature (Some text) h = ⊎_elim (λ e. no_object meta feature.kind text p e) (λ g. Contains_none (Obj p) g) (Contains_cases (value_of_text meta feature.kind text) (Obj p) [] h)

    by_sort : (feature : Feature) (b : Bool) → Contains (if b then [] else option_map_or (λ text. value_of_text meta feature.kind text ∷ []) feature.default []) (Obj p) → ⊥
    by_sort feature true h = Contains_none (Obj p) h
    by_sort feature false h = by_default feature feature.default h

    by_feature : (x : Option Feature) → Contains (option_map_or (initial_of meta) x []) (Obj p) → ⊥
    by_feature None h = Contains_none (Obj p) h
    by_feature (Some feature) h = by_sort feature (if feature.many then true else is_reference feature.kind) h

-- ## Values of a type

-- what holds something is a slot
pub slot_of : (m : Contents) (o : ObjId) (f : FeatId) (c : Cellv) → Contains (slot m o f) c → HasSlot m o f
slot_of m o f c h = by_object (object_at m.objects o) refl h
  where
    by_place : (object : Object) → object_at m.objects o ≡ Some object → (k : Option ℕ) → place_in m.meta object.class f ≡ k → Contains (option_map_or (λ k. slice_index_or object.slots k []) k []) c → HasSlot m o f
    by_place object e None i h = absurd (Contains_none c h)
    by_place object e (Some k) i h = has_slot m o f (record { object = object; there = e; place = k; found = i })

    by_object : (x : Option Object) → object_at m.objects o ≡ x → Contains (option_map_or (slot_in m.meta f) x []) c → HasSlot m o f
    by_object None e h = absurd (Contains_none c h)
    by_object (Some object) e h = by_place object e (place_in m.meta object.class f) refl h

pub all_contained : {X : Type 0} (P : X → Type 0) (xs : List X) (x : X) → All P xs → Contains xs x → P x
all_contained P xs x a h = subst P h.2 (a h.0 x h.1)

pub some_and : {X : Type 0} (o : Option X) (P Q : X → Type 0) → ((x : X) → P x → Q x) → IsSomeAnd o P → IsSomeAnd o Q
some_and None P Q f h = absurd h
some_and (Some x) P Q f h = f x h

-- an object of a class is there
is_there : (m : Contents) (class : ClassId) (q : ObjId) → IsOf m class q → (object : Object) × (object_at m.objects q ≡ Some object)
is_there m class q h = on (object_at m.objects q) refl h
  where
    on : (x : Option Object) → object_at m.objects q ≡ x → IsSomeAnd (option_map (λ object. object.class) x) (λ own. Conforms m.meta.classes own class) → (object : Object) × (object_at m.objects q ≡ Some object)
    on None e h = absurd h
    on (Some object) e h = (object, e)

there_by_kind : (m : Contents) (kind : FeatKind) (q : ObjId) → IsOfKind m kind (Obj q) → (object : Object) × (object_at m.objects q ≡ Some object)
there_by_kind m (Kind.Refer class inside back) q h = is_there m class q h
there_by_kind m Kind.Str q h = absurd h
there_by_kind m Kind.Int q h = absurd h
there_by_kind m Kind.Truth q h = absurd h
there_by_kind m (Kind.Enum e) q h = absurd h
there_by_kind m Kind.Opaque q h = absurd h

pub there_by_type : (m : Contents) (f : FeatId) (q : ObjId) → IsOfType m f (Obj q) → (object : Object) × (object_at m.objects q ≡ Some object)
there_by_type m f q h = on (slice_get m.meta.features f.0) h
  where
    on : (x : Option Feature) → IsSomeAnd x (λ feature. IsOfKind m feature.kind (Obj q)) → (object : Object) × (object_at m.objects q ≡ Some object)
    on None h = absurd h
    on (Some feature) h = there_by_kind m feature.kind q h

-- what is referred to is an object
pub referred_to : (m : Contents) → IsModel m → (o : ObjId) (f : FeatId) (q : ObjId) → Refers m o f q → (object : Object) × (object_at m.objects q ≡ Some object)
referred_to m model o f q h = there_by_type m f q (all_contained (IsOfType m f) (slot m o f) (Obj q) (model.fits o f (slot_of m o f (Obj q) h)).typed h)

-- ## The new object among the others

module _ (m : Contents) (model : IsModel m) (class : ClassId) (within : class.0 < length m.meta.classes) where
  abbrev pub n : ℕ
  n = length m.objects

  abbrev pub now : Contents
  now = created m class

  abbrev pub new : ObjId
  new = record { 0 = n }

  pub there : object_at now.objects new ≡ Some (fresh m.meta class)
  there = get_or_push m.objects (Some (fresh m.meta class)) None n refl

  pub elsewhere : (p : ObjId) → p.0 ≢ n → object_at now.objects p ≡ object_at m.objects p
  elsewhere p d = ⊎_elim
      (λ (l : p.0 < n). get_or_append_left m.objects (Some (fresh m.meta class) ∷ []) None p.0 l)
      (λ (l : n ≤ p.0). get_or_past (m.objects ++ Some (fresh m.meta class) ∷ []) p.0 None (omega (arith, l, length_push m.objects (Some (fresh m.meta class)), gap p l d)) ∙ sym (get_or_past m.objects p.0 None l))
      (cases_lt p.0 n)
    where
      gap : (p : ObjId) → n ≤ p.0 → p.0 ≢ n → n + 1 ≤ p.0
      gap p l d = ⊎_elim (λ (k : n < p.0). omega (arith, k)) (λ (k : p.0 ≤ n). absurd (d (omega (arith, k, l)))) (cases_lt n p.0)

  -- it was none before
  none_before : object_at m.objects new ≡ None
  none_before = get_or_past m.objects n None (omega arith)

  pub same_class : (p : ObjId) → p.0 ≢ n → class_of now p ≡ class_of m p
  same_class p d = ap (option_map (λ object. object.class)) (elsewhere p d)

  pub same_slot : (p : ObjId) (f : FeatId) → p.0 ≢ n → slot now p f ≡ slot m p f
  same_slot p f d = ap (λ x. option_map_or (slot_in m.meta f) x []) (elsewhere p d)

  -- an object of before
  pub old_object : (p : ObjId) (x : Object) → object_at m.objects p ≡ Some x → p.0 ≢ n
  old_object p x e i = none-some x (sym none_before ∙ ap (λ k. slice_index_or m.objects k None) (sym i) ∙ e)

  -- the new one refers to none
  pub new_slot : (f : FeatId) (q : ObjId) → Refers now new f q → ⊥
  new_slot f q h = by_place (place_in m.meta class f) refl (subst (λ x. Contains (option_map_or (slot_in m.meta f) x []) (Obj q)) there h)
    where
      by_place : (k : Option ℕ) → place_in m.meta class f ≡ k → Contains (option_map_or (λ k. slice_index_or (map (initial m.meta) (features m.meta.classes class)) k []) k []) (Obj q) → ⊥
      by_place None e h = Contains_none (Obj q) h
      by_place (Some k) e h =
          let x = position-Some (λ g. g.0 == f.0) (features m.meta.classes class) k f e in
          no_object_in m.meta (slice_index_or (features m.meta.classes class) k f) q
          (subst (λ cells. Contains cells (Obj q)) (get_or-map (initial m.meta) (features m.meta.classes class) k f [] x.0) h)

  pub referred_before : (o : ObjId) (f : FeatId) (q : ObjId) → Refers now o f q → (o.0 ≢ n) × Refers m o f q
  referred_before o f q h = ⊎_elim
      (λ (e : o.0 ≡ n). absurd (new_slot f q (subst (λ p. Refers now p f q) (same_object o new e) h)))
      (λ (d : o.0 ≢ n). (d, subst (λ cells. Contains cells (Obj q)) (same_slot o f d) h))
      (cases_eq o.0 n)

  -- what was referred to was an object
  pub was_object : (o : ObjId) (f : FeatId) (q : ObjId) → Refers m o f q → q.0 ≢ n
  was_object o f q h = let x = referred_to m model o f q h in old_object q x.0 x.1

  -- types are as before
  still_of : (k : ClassId) (q : ObjId) → IsOf m k q → IsOf now k q
  still_of k q h = let x = is_there m k q h in subst (λ c. IsSomeAnd c (λ own. Conforms m.meta.classes own k)) (sym (same_class q (old_object q x.0 x.1))) h

  still_of_kind : (kind : FeatKind) (v : Cellv) → IsOfKind m kind v → IsOfKind now kind v
  still_of_kind Kind.Str (Words t) h = tt
  still_of_kind Kind.Opaque (Words t) h = tt
  still_of_kind Kind.Int (Int i) h = tt
  still_of_kind Kind.Truth (Truth b) h = tt
  still_of_kind (Kind.Enum e) (Literal l) h = h
  still_of_kind (Kind.Refer k inside back) (Obj q) h = still_of k q h
  still_of_kind kind v h = absurd h

  pub still_fits : (f : FeatId) (cells : List Cellv) → Fits m f cells → Fits now f cells
  still_fits f cells h = record {
    typed = λ k d l. some_and (slice_get m.meta.features f.0) (λ feature. IsOfKind m feature.kind (slice_index_or cells k d)) (λ feature. IsOfKind now feature.kind (slice_index_or cells k d)) (λ feature. still_of_kind feature.kind (slice_index_or cells k d)) (h.typed k d l);
    single = h.single;
  }
