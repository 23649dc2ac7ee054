-- An object has no container exactly where no containment slot holds it.
use Rattle.std.proofs.Common.{◌≡◌, ℕ, zero, suc, ◌+◌, ◌<◌, List, [], ◌∷◌, length, refl, sym, ap, ◌∙◌, subst, arith, cond, Option, Some, None}
use Rattle.std.specs.Prelude.{◌==◌, nat_lt, Bool, true, false, slice_index_or, option_map, if◌then◌else◌, Contains}
use Rattle.std.specs.Option.{option_map_or}
use Rattle.std.proofs.lemmas.Bool.{eqb-true, eq-eqb, lt-ltb, true≢false, false_from_ne_true}
use Rattle.std.proofs.lemmas.List.Quantifiers.{position-Some}
use Rattle.std.proofs.lemmas.List.Sums.{position_or_len_is}
use Rattle.std.proofs.lemmas.Option.{none-some, same_Some}
use Rattle.atl_base.specs.declared.numbers.ClassId.{ClassId}
use Rattle.atl_base.specs.declared.numbers.FeatId.{FeatId}
use Rattle.atl_base.specs.declared.numbers.ObjId.{ObjId}
use Rattle.ecore_meta.specs.declared.parts.Parts.{Parts}
use Rattle.ecore_meta.specs.Inheritance.{features}
use Rattle.model_store.specs.declared.parts.Cellv.{Cellv}
use Rattle.model_store.specs.declared.parts.Cellv.TheVariants.{Obj}
use Rattle.model_store.specs.declared.parts.Object.{Object}
use Rattle.model_store.specs.Contents.{Contents, AreShaped, object_at, slot_in, place_in, contains, holds, holding_feature, holding_in, holding_place, holder_from, holder, container}
use Rattle.model_store.specs.Valid.{Refers}
use Rattle.model_store.proofs.Slots.{same_feature}
use Rattle.model_store.proofs.Thinned.{held, holding, Contains_none}

abbrev no_list : List (List Cellv)
no_list = []

pub no_slots : (k : ℕ) → slice_index_or no_list k [] ≡ []
no_slots zero = refl
no_slots (suc k) = refl

module _ (meta : Parts) (p : ObjId) where
  -- the slot of this place is a containment's and holds it
  abbrev Holds : List FeatId → List (List Cellv) → ℕ → FeatId → Type 0
  Holds fs slots k f = (k < length fs) × (slice_index_or fs k f ≡ f) × (contains meta f ≡ true) × (holds p (slice_index_or slots k []) ≡ true)

  abbrev answer : Bool → Bool → FeatId → Option FeatId → Option FeatId
  answer a b g rest = if (if a then b else false) then Some g else rest

  none_held : (fs : List FeatId) (slots : List (List Cellv)) → holding_feature meta p fs slots ≡ None → (k : ℕ) (f : FeatId) → Holds fs slots k f → ⊥
  none_held [] slots h k f x = absurd (omega (arith, x.0))
  none_held (g ∷ fs) [] h k f x = true≢false (sym x.3 ∙ ap (holds p) (no_slots k))
  none_held (g ∷ fs) (cells ∷ slots) h k f x = at k x (contains meta g) refl (holds p cells) refl h (λ j n y. none_held fs slots n j f y)
    where
      at : (k : ℕ) → Holds (g ∷ fs) (cells ∷ slots) k f → (a : Bool) → contains meta g ≡ a → (b : Bool) → holds p cells ≡ b → answer a b g (holding_feature meta p fs slots) ≡ None
          → ((j : ℕ) → holding_feature meta p fs slots ≡ None → Holds fs slots j f → ⊥) → ⊥
      at k x true i true j n again = none-some g (sym n)
      at zero x true i false j n again = true≢false (sym x.3 ∙ j)
      at zero x false i b j n again = true≢false (sym x.2 ∙ ap (contains meta) (sym x.1) ∙ i)
      at (suc k) x true i false j n again = again k n (omega (arith, x.0), x.1, x.2, x.3)
      at (suc k) x false i b j n again = again k n (omega (arith, x.0), x.1, x.2, x.3)

  -- a feature that is answered holds it
  some_held : (fs : List FeatId) (slots : List (List Cellv)) (f : FeatId) → holding_feature meta p fs slots ≡ Some f → (k : ℕ) × Holds fs slots k f
  some_held [] slots f h = absurd (none-some f h)
  some_held (g ∷ fs) [] f h = absurd (none-some f h)
  some_held (g ∷ fs) (cells ∷ slots) f h = at (contains meta g) refl (holds p cells) refl h (λ n. some_held fs slots f n)
    where
      later : (k : ℕ) × Holds fs slots k f → (k : ℕ) × Holds (g ∷ fs) (cells ∷ slots) k f
      later x = (suc x.0, (omega (arith, x.1.0), x.1.1, x.1.2, x.1.3))

      at : (a : Bool) → contains meta g ≡ a → (b : Bool) → holds p cells ≡ b → answer a b g (holding_feature meta p fs slots) ≡ Some f → (holding_feature meta p fs slots ≡ Some f → (k : ℕ) × Holds fs slots k f) → (k : ℕ) × Holds (g ∷ fs) (cells ∷ slots) k f
      at true i true j n again = let e = same_Some g f n in (0, (omega arith, e, ap (contains meta) (sym e) ∙ i, j))
      at true i false j n again = later (again n)
      at false i b j n again = later (again n)

-- an object that contains it
module _ (meta : Parts) (p : ObjId) where
  none_from : (places : List (Option Object)) (n : ℕ) → holder_from meta p n places ≡ None → (k : ℕ) (object : Object) → slice_index_or places k None ≡ Some object → holding_in meta p object ≡ None
  none_from [] n h k object e = absurd (none-some object e)
  none_from (place ∷ places) n h k object e = at k e (holding_place meta p place) refl h (λ j g m. none_from places (n + 1) m j object g)
    where
      at : (k : ℕ) → slice_index_or (place ∷ places) k None ≡ Some object → (x : Option FeatId) → holding_place meta p place ≡ x → option_map_or (λ f. Some (record { 0 = n }, f)) x (holder_from meta p (n + 1) places) ≡ None
          → ((j : ℕ) → slice_index_or places j None ≡ Some object → holder_from meta p (n + 1) places ≡ None → holding_in meta p object ≡ None) → holding_in meta p object ≡ None
      at k e (Some f) i m again = absurd (none-some (record { 0 = n }, f) (sym m))
      at zero e None i m again = ap (holding_place meta p) (sym e) ∙ i
      at (suc k) e None i m again = again k e m

  some_from : (places : List (Option Object)) (n : ℕ) (o : ObjId) (f : FeatId) → holder_from meta p n places ≡ Some (o, f) → (k : ℕ) × (object : Object) × (o.0 ≡ n + k) × (slice_index_or places k None ≡ Some object) × (holding_in meta p object ≡ Some f)
  some_from [] n o f h = absurd (none-some (o, f) h)
  some_from (place ∷ places) n o f h = at (holding_place meta p place) refl h (λ m. some_from places (n + 1) o f m)
    where
      here : (x : Option Object) (g : FeatId) → holding_place meta p x ≡ Some g → (object : Object) × (x ≡ Some object) × (holding_in meta p object ≡ Some g)
      here None g e = absurd (none-some g e)
      here (Some object) g e = (object, refl, e)

      at : (x : Option FeatId) → holding_place meta p place ≡ x → option_map_or (λ f. Some (record { 0 = n }, f)) x (holder_from meta p (n + 1) places) ≡ Some (o, f)
          → (holder_from meta p (n + 1) places ≡ Some (o, f) → (k : ℕ) × (object : Object) × (o.0 ≡ (n + 1) + k) × (slice_index_or places k None ≡ Some object) × (holding_in meta p object ≡ Some f))
          → (k : ℕ) × (object : Object) × (o.0 ≡ n + k) × (slice_index_or (place ∷ places) k None ≡ Some object) × (holding_in meta p object ≡ Some f)
      at (Some g) i m again =
          let e = same_Some (record { 0 = n }, g) (o, f) m in
          let x = here place g i in
          (0, x.0, (let z : n + 0 ≡ n = omega arith in sym (ap (λ y. y.0.0) e) ∙ sym z), x.1, x.2 ∙ ap Some (ap (λ y. y.1) e))
      at None i m again = let x = again m in (suc x.0, x.1, omega (arith, x.2), x.3, x.4)

-- ## By references

-- what an object refers to stands in the slot of a place of it
module _ (m : Contents) (o p : ObjId) (f : FeatId) where
  pub record IsReferredIn : Type 0 where
    pub object : Object
    pub there : object_at m.objects o ≡ Some object
    pub place : ℕ
    pub within : place < length (features m.meta.classes object.class)
    pub feature : slice_index_or (features m.meta.classes object.class) place f ≡ f
    pub it : Contains (slice_index_or object.slots place []) (Obj p)

  pub referred : Refers m o f p → IsReferredIn
  referred h = by_object (object_at m.objects o) refl h
    where
      by_place : (object : Object) → object_at m.objects o ≡ Some object → (k : Option ℕ) → place_in m.meta object.class f ≡ k → Contains (option_map_or (λ k. slice_index_or object.slots k []) k []) (Obj p) → IsReferredIn
      by_place object e None i h = absurd (Contains_none (Obj p) h)
      by_place object e (Some k) i h =
          let x = position-Some (λ g. g.0 == f.0) (features m.meta.classes object.class) k f i in
          record { object = object; there = e; place = k; within = x.0; feature = same_feature (slice_index_or (features m.meta.classes object.class) k f) f (eqb-true (slice_index_or (features m.meta.classes object.class) k f).0 f.0 x.1); it = h }

      by_object : (x : Option Object) → object_at m.objects o ≡ x → Contains (option_map_or (slot_in m.meta f) x []) (Obj p) → IsReferredIn
      by_object None e h = absurd (Contains_none (Obj p) h)
      by_object (Some object) e h = by_place object e (place_in m.meta object.class f) refl h

pub uncontained : (m : Contents) (p : ObjId) → container m p ≡ None → (o : ObjId) (f : FeatId) → contains m.meta f ≡ true → Refers m o f p → ⊥
uncontained m p h o f c r =
    let x = referred m o p f r in
    let none = none_from m.meta p m.objects 0 (no_holder (holder m p) h) o.0 x.object x.there in
    none_held m.meta p (features m.meta.classes x.object.class) x.object.slots none x.place f (x.within, x.feature, c, holding p (slice_index_or x.object.slots x.place []) x.it)
  where
    no_holder : (x : Option (ObjId × FeatId)) → option_map (λ at. at.0) x ≡ None → x ≡ None
    no_holder None e = refl
    no_holder (Some y) e = absurd (none-some y.0 (sym e))

-- each feature is seen in a class once
abbrev pub SeenOnce : Parts → ClassId → Type 0
SeenOnce meta class = (i j : ℕ) (f : FeatId) → i < length (features meta.classes class) → j < length (features meta.classes class) → slice_index_or (features meta.classes class) i f ≡ f → slice_index_or (features meta.classes class) j f ≡ f → i ≡ j

-- a feature that is seen has its place
pub place_is : (meta : Parts) (class : ClassId) → SeenOnce meta class → (k : ℕ) (f : FeatId) → k < length (features meta.classes class) → slice_index_or (features meta.classes class) k f ≡ f → place_in meta class f ≡ Some k
place_is meta class once k f l e =
    let n = position_or_len_is test seen k f (omega arith) before (λ w. ap test e ∙ eq-eqb f.0 f.0 refl) in
    ap (λ i. cond (nat_lt i (length seen)) (Some i) None) n ∙ ap (λ b. cond b (Some k) None) (lt-ltb k (length seen) l)
  where
    seen : List FeatId
    seen = features meta.classes class

    test : FeatId → Bool
    test g = g.0 == f.0

    before : (i : ℕ) → i < k → test (slice_index_or seen i f) ≡ false
    before i lt = false_from_ne_true (test (slice_index_or seen i f)) (λ t. absurd (omega (arith, lt, once i k f (omega (arith, lt, l)) l (same_feature (slice_index_or seen i f) f (eqb-true (slice_index_or seen i f).0 f.0 t)) e)))

pub refers_by : (m : Contents) (o p : ObjId) (f : FeatId) (object : Object) (k : ℕ) → SeenOnce m.meta object.class → object_at m.objects o ≡ Some object → k < length (features m.meta.classes object.class) → slice_index_or (features m.meta.classes object.class) k f ≡ f → Contains (slice_index_or object.slots k []) (Obj p) → Refers m o f p
refers_by m o p f object k once there l e h =
    subst (λ cells. Contains cells (Obj p)) (sym (ap (λ x. option_map_or (slot_in m.meta f) x []) there ∙ ap (λ x. option_map_or (λ k. slice_index_or object.slots k []) x []) (place_is m.meta object.class once k f l e))) h

-- the holder refers to it by a containment
pub holder_refers : (m : Contents) → ((class : ClassId) → class.0 < length m.meta.classes → SeenOnce m.meta class) → AreShaped m.meta m.objects → (p o : ObjId) (f : FeatId) → holder m p ≡ Some (o, f) → (contains m.meta f ≡ true) × Refers m o f p
holder_refers m once shaped p o f e =
    let x = some_from m.meta p m.objects 0 o f e in
    let y = some_held m.meta p (features m.meta.classes x.1.class) x.1.slots f x.4 in
    let z : 0 + x.0 ≡ x.0 = omega arith in
    let there : object_at m.objects o ≡ Some x.1 = ap (λ n. slice_index_or m.objects n None) (x.2 ∙ z) ∙ x.3 in
    (y.1.2, refers_by m o p f x.1 y.0 (once x.1.class (shaped o.0 x.1 there).class_within) there y.1.0 y.1.1 (held p (slice_index_or x.1.slots y.0 []) y.1.3))

-- and the other way round
pub contained_not : (m : Contents) → ((class : ClassId) → class.0 < length m.meta.classes → SeenOnce m.meta class) → AreShaped m.meta m.objects → (p : ObjId) → ((o : ObjId) (f : FeatId) → contains m.meta f ≡ true → Refers m o f p → ⊥) → container m p ≡ None
contained_not m once shaped p none = on (holder m p) refl
  where
    on : (x : Option (ObjId × FeatId)) → holder m p ≡ x → option_map (λ at. at.0) x ≡ None
    on None e = refl
    on (Some y) e = let r = holder_refers m once shaped p y.0 y.1 e in absurd (none y.0 y.1 r.0 r.1)
