-- Two objects of a class without features, both roots, make a model.
use Rattle.std.proofs.Common.{◌≡◌, ◌≢◌, ℕ, zero, suc, ◌<◌, false, List, [], ◌∷◌, length, refl, sym, ap, ◌∙◌, subst, ⊎_elim, arith, Option, Some, None}
use Rattle.std.specs.Prelude.{◌==◌, slice_index_or, position, option_map, slice_get, codes, Contains, IfSome, IsSome}
use Rattle.std.proofs.lemmas.Bool.{false≢true}
use Rattle.std.proofs.lemmas.List.{get_or_default}
use Rattle.std.proofs.lemmas.Option.{none-some, same_Some}
use Rattle.atl_base.specs.declared.numbers.FeatId.{FeatId}
use Rattle.atl_base.specs.declared.numbers.ObjId.{ObjId}
use Rattle.ecore_meta.specs.declared.parts.Class.{Class}
use Rattle.ecore_meta.specs.declared.parts.Parts.{Parts}
use Rattle.ecore_meta.specs.Inheritance.{features, features_within}
use Rattle.ecore_meta.specs.Valid.{IsMetamodel}
use Rattle.model_store.specs.declared.parts.Cellv.{Cellv}
use Rattle.model_store.specs.declared.parts.Cellv.TheVariants.{Obj}
use Rattle.model_store.specs.declared.parts.Object.{Object}
use Rattle.model_store.specs.Contents.{Contents, object_at, slot, place_in, container, IsShaped}
use Rattle.model_store.specs.Valid.{IsModel, IsConcrete, HasSlot}
use Rattle.model_store.proofs.Created.{slot_of}
use Rattle.model_store.proofs.CreatedModel.{seen_once}
use Rattle.model_store.proofs.Holding.{contained_not}
use Rattle.model_store.proofs.Slots.{at_of}
use Rattle.model_store.proofs.Thinned.{Contains_first, Contains_later, Contains_none, Contains_cases}

abbrev pub thing : Class
thing = record { name = codes "Thing"; «package» = 0; is_abstract = false; supers = []; own = [] }

abbrev pub object : Object
object = record { class = record { 0 = 0 }; slots = [] }

abbrev no : ℕ → ObjId
no n = record { 0 = n }

module _ (meta : Parts) (valid : IsMetamodel meta) (classes : meta.classes ≡ thing ∷ []) where
  abbrev pub two : Contents
  two = record { meta = meta; objects = Some object ∷ Some object ∷ []; roots = no 1 ∷ no 0 ∷ [] }

  no_features : features meta.classes (record { 0 = 0 }) ≡ []
  unfolding features features_within
  no_features = ap (λ (cs : List Class). features cs (record { 0 = 0 })) classes

  one_class : 0 < length meta.classes
  one_class = subst (λ (cs : List Class). 0 < length cs) (sym classes) (omega arith)

  same_object : (n : ℕ) (x : Object) → slice_index_or two.objects n None ≡ Some x → object ≡ x
  same_object zero x e = same_Some object x e
  same_object (suc zero) x e = same_Some object x e
  same_object (suc (suc n)) x e = absurd (none-some x e)

  no_place : (f : FeatId) (k : ℕ) → place_in meta (record { 0 = 0 }) f ≡ Some k → ⊥
  no_place f k e = none-some k (sym (ap (position (λ g. g.0 == f.0)) no_features) ∙ e)

  no_slot : (o : ObjId) (f : FeatId) → HasSlot two o f → ⊥
  no_slot o f h =
      let a = at_of two o f h in
      no_place f a.place (subst (λ (x : Object). place_in meta x.class f ≡ Some a.place) (sym (same_object o.0 a.object a.there)) a.found)

  no_value : (o : ObjId) (f : FeatId) (c : Cellv) → Contains (slot two o f) c → ⊥
  no_value o f c h = no_slot o f (slot_of two o f c h)

  shaped : (n : ℕ) (x : Object) → slice_index_or two.objects n None ≡ Some x → IsShaped meta x
  shaped n x e = subst (IsShaped meta) (same_object n x e) (record { class_within = one_class; slots = sym (ap length no_features) })

  concrete : IsConcrete meta (record { 0 = 0 })
  concrete = subst (λ (cs : List Class). IfSome (slice_get cs 0) (λ class. class.is_abstract ≡ false)) (sym classes) refl

  concrete_at : (x : Option Object) → ((y : Object) → x ≡ Some y → object ≡ y) → IfSome (option_map (λ (y : Object). y.class) x) (IsConcrete meta)
  concrete_at None h = tt
  concrete_at (Some y) h = subst (λ (z : Object). IsConcrete meta z.class) (h y refl) concrete

  free : (o : ObjId) → container two o ≡ None
  free o = contained_not two (seen_once meta valid) shaped o (λ r f c x. no_value r f (Obj o) x)

  is_root : (n : ℕ) → IsSome (slice_index_or two.objects n None) → Contains two.roots (no n)
  is_root zero s = Contains_later (no 1) (no 0) (no 0 ∷ []) (Contains_first (no 0) [])
  is_root (suc zero) s = Contains_first (no 1) (no 0 ∷ [])
  is_root (suc (suc n)) s = absurd (false≢true s)

  root_there : (o : ObjId) → Contains two.roots o → IsSome (object_at two.objects o)
  root_there o h = ⊎_elim
      (λ (e : no 1 ≡ o). subst (λ p. IsSome (object_at two.objects p)) e refl)
      (λ (k : Contains (no 0 ∷ []) o). ⊎_elim
      (λ (e : no 0 ≡ o). subst (λ p. IsSome (object_at two.objects p)) e refl)
      (λ (none : Contains [] o). absurd (Contains_none o none))
      (Contains_cases (no 0) o [] k))
      (Contains_cases (no 1) o (no 0 ∷ []) h)

  differ : (i j : ℕ) (d : ObjId) → i < j → j < 2 → slice_index_or two.roots i d ≢ slice_index_or two.roots j d
  differ zero zero d lt low e = absurd (omega (arith, lt))
  differ zero (suc zero) d lt low e = let x : 1 ≡ 0 = ap (λ o. o.0) e in absurd (omega (arith, x))
  differ (suc i) (suc zero) d lt low e = absurd (omega (arith, lt))
  differ i (suc (suc j)) d lt low e = absurd (omega (arith, low))
  differ (suc i) zero d lt low e = absurd (omega (arith, lt))

  pub two_are_a_model : IsModel two
  two_are_a_model = record {
    shaped = shaped;
    concrete = λ o. concrete_at (object_at two.objects o) (same_object o.0);
    fits = λ o f h. absurd (no_slot o f h);
    defaults = λ o f h. absurd (no_slot o f h);
    differ = λ o f r i j d lt low. absurd (no_value o f (slice_index_or (slot two o f) j d) (j, low, sym (get_or_default (slot two o f) j d (slice_index_or (slot two o f) j d) low)));
    opposites = λ o p f g e h. absurd (no_value o f (Obj p) h);
    contained_once = λ o r p f h c d x y. absurd (no_value o f (Obj p) x);
    roots = λ o. (λ h. (root_there o h, free o), λ h. is_root o.0 h.0);
    roots_differ = differ;
  }
