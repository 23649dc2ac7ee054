-- A fold of writes is a model.
use Rattle.std.proofs.Common.{◌≡◌, ℕ, zero, suc, ◌+◌, ◌<◌, ◌≤◌, List, [], ◌∷◌, ◌++◌, length, map, refl, sym, ap, ◌∙◌, subst, ⊎_elim, arith, append_assoc, Option, Some, None}
use Rattle.std.specs.Prelude.{slice_get, slice_index_or, option_map, is_some, Contains, All, IfSome, if◌then◌else◌}
use Rattle.std.specs.Option.{option_map_or}
use Rattle.std.proofs.lemmas.Bool.{cases_lt, false≢true}
use Rattle.std.proofs.lemmas.List.{append-nil, length_push, get_or_push, get_or_append_left, get_or_default, length-map}
use Rattle.std.proofs.lemmas.Option.{none-some, slice_get-get_or, get_or_from_slice_get}
use Rattle.atl_base.specs.declared.numbers.ClassId.{ClassId}
use Rattle.atl_base.specs.declared.numbers.FeatId.{FeatId}
use Rattle.atl_base.specs.declared.numbers.ObjId.{ObjId}
use Rattle.ecore_meta.specs.declared.parts.Parts.{Parts}
use Rattle.ecore_meta.specs.Valid.{IsMetamodel}
use Rattle.model_store.specs.declared.parts.Cellv.{Cellv}
use Rattle.model_store.specs.declared.parts.Cellv.TheVariants.{Obj}
use Rattle.model_store.specs.declared.parts.Object.{Object}
use Rattle.model_store.specs.declared.refusal.StoreRefusal.{StoreRefusal}
use Rattle.model_store.specs.declared.refusal.StoreRefusal.TheVariants.{NoObject, NoFeature}
use Rattle.model_store.specs.Contents.{Contents, object_at, class_of, place_in, slot, is_many, refusal}
use Rattle.model_store.specs.Folds.{Writing, empty, all_created, all_written, MayCreate, MayWrite, IsStart, IsFoldLaw}
use Rattle.model_store.specs.Laws.{KeepsObjects}
use Rattle.model_store.specs.Valid.{IsModel, IsConcrete, HasSlot}
use Rattle.model_store.specs.Writes.{fresh, created, write}
use Rattle.model_store.proofs.Created.{slot_of}
use Rattle.model_store.proofs.CreatedModel.{created_is_model}
use Rattle.model_store.proofs.Keeping.{write_keeps, same, after}
use Rattle.model_store.proofs.ReferenceWrites.{write_is_model, kept_type}
use Rattle.model_store.proofs.Slots.{at_of}
use Rattle.model_store.proofs.Thinned.{Contains_none}

-- ## No objects

abbrev no_objects : List (Option Object)
no_objects = []

no_place : (n : ℕ) (object : Object) → slice_index_or no_objects n None ≡ Some object → ⊥
no_place zero object e = none-some object e
no_place (suc n) object e = none-some object e

no_object : (n : ℕ) → slice_index_or no_objects n None ≡ None
no_object zero = refl
no_object (suc n) = refl

module _ (meta : Parts) where
  abbrev none : Contents
  none = empty meta

  no_slot : (o : ObjId) (f : FeatId) → HasSlot none o f → ⊥
  no_slot o f h = let a = at_of none o f h in no_place o.0 a.object a.there

  no_value : (o : ObjId) (f : FeatId) (c : Cellv) → Contains (slot none o f) c → ⊥
  no_value o f c h = no_slot o f (slot_of none o f c h)

  pub empty_is_model : IsModel none
  empty_is_model = record {
    shaped = λ n object e. absurd (no_place n object e);
    concrete = λ o. subst (λ x. IfSome (option_map (λ (object : Object). object.class) x) (IsConcrete meta)) (sym (no_object o.0)) tt;
    fits = λ o f h. absurd (no_slot o f h);
    defaults = λ o f h. absurd (no_slot o f h);
    differ = λ o f r i j d lt low. absurd (no_value o f (slice_index_or (slot none o f) j d) (j, low, sym (get_or_default (slot none o f) j d (slice_index_or (slot none o f) j d) low)));
    opposites = λ o p f g e h. absurd (no_value o f (Obj p) h);
    contained_once = λ o r p f h c d x y. absurd (no_value o f (Obj p) x);
    roots = λ o. (λ h. absurd (Contains_none o h), λ h. absurd (false≢true (sym (ap is_some (no_object o.0)) ∙ h.0)));
    roots_differ = λ i j d lt low. absurd (omega (arith, low));
  }

-- ## Creating

module _ (meta : Parts) (valid : IsMetamodel meta) where
  all_created_is_model : (classes : List ClassId) (m : Contents) → m.meta ≡ meta → IsModel m → All (MayCreate meta) classes → IsModel (all_created m classes)
  all_created_is_model [] m e model may = model
  all_created_is_model (class ∷ classes) m e model may =
      let first = subst (λ (n : Parts). MayCreate n class) (sym e) (may 0 class (omega arith)) in
      all_created_is_model classes (created m class) e (created_is_model m (subst IsMetamodel (sym e) valid) model class first.0 first.1) (λ k d l. may (suc k) d (omega (arith, l)))

  created_meta : (classes : List ClassId) (m : Contents) → (all_created m classes).meta ≡ m.meta
  created_meta [] m = refl
  created_meta (class ∷ classes) m = created_meta classes (created m class)

  abbrev new : ClassId → Option Object
  new class = Some (fresh meta class)

  created_objects : (classes : List ClassId) (m : Contents) → m.meta ≡ meta → (all_created m classes).objects ≡ m.objects ++ map new classes
  created_objects [] m e = sym (append-nil m.objects)
  created_objects (class ∷ classes) m e =
      created_objects classes (created m class) e
      ∙ ap (λ (n : Parts). (m.objects ++ Some (fresh n class) ∷ []) ++ map new classes) e
      ∙ append_assoc m.objects (new class ∷ []) (map new classes)

  -- as many roots as objects, each at its number
  record AreFirst (m : Contents) : Type 0 where
    pub size : length m.roots ≡ length m.objects
    pub each : (k : ℕ) → k < length m.roots → slice_get m.roots k ≡ Some (record { 0 = k })

  one_more : (m : Contents) (class : ClassId) → AreFirst m → AreFirst (created m class)
  one_more m class h = record {
    size = length_push m.roots last ∙ ap (λ n. n + 1) h.size ∙ sym (length_push m.objects (Some (fresh m.meta class)));
    each = λ k l. ⊎_elim
        (λ (old : k < length m.roots).
        slice_get-get_or (m.roots ++ last ∷ []) k last l
        ∙ ap Some (get_or_append_left m.roots (last ∷ []) last k old ∙ get_or_from_slice_get m.roots k (record { 0 = k }) last (h.each k old)))
        (λ (new : length m.roots ≤ k).
        let is : k ≡ length m.roots = omega (arith, length_push m.roots last, l, new) in
        slice_get-get_or (m.roots ++ last ∷ []) k last l
        ∙ ap Some (get_or_push m.roots last last k (sym is) ∙ ap (λ n. record { 0 = n }) (sym h.size ∙ sym is)))
        (cases_lt k (length m.roots));
  }
    where
      last : ObjId
      last = record { 0 = length m.objects }

  created_first : (classes : List ClassId) (m : Contents) → AreFirst m → AreFirst (all_created m classes)
  created_first [] m h = h
  created_first (class ∷ classes) m h = created_first classes (created m class) (one_more m class h)

  none_first : AreFirst (empty meta)
  none_first = record { size = refl; each = λ k l. absurd (omega (arith, l)) }

  start : (classes : List ClassId) → IsStart meta classes (all_created (empty meta) classes)
  start classes =
      let objects : (all_created (empty meta) classes).objects ≡ map new classes = created_objects classes (empty meta) refl in
      let first : AreFirst (all_created (empty meta) classes) = created_first classes (empty meta) none_first in
      let size : length (all_created (empty meta) classes).roots ≡ length classes = first.size ∙ ap length objects ∙ length-map classes new in
      record {
        meta_kept = created_meta classes (empty meta);
        objects = objects;
        roots_length = size;
        roots = λ k l. first.each k (omega (arith, size, l));
      }

-- ## Writing

-- whether an object has a feature goes by its class
abbrev by_class : Parts → FeatId → ClassId → Option StoreRefusal
by_class meta f class = if is_some (place_in meta class f) then None else Some NoFeature

refusal_is : (m : Contents) (o : ObjId) (f : FeatId) → refusal m o f ≡ option_map_or (by_class m.meta f) (class_of m o) (Some NoObject)
refusal_is m o f = on (object_at m.objects o)
  where
    on : (x : Option Object) → option_map_or (λ object. by_class m.meta f object.class) x (Some NoObject) ≡ option_map_or (by_class m.meta f) (option_map (λ object. object.class) x) (Some NoObject)
    on None = refl
    on (Some object) = refl

module _ (m n : Contents) (keeps : KeepsObjects m n) where
  still_has : (o : ObjId) (f : FeatId) → refusal n o f ≡ refusal m o f
  still_has o f =
      refusal_is n o f
      ∙ ap (λ (meta : Parts). option_map_or (by_class meta f) (class_of n o) (Some NoObject)) keeps.meta
      ∙ ap (λ x. option_map_or (by_class m.meta f) x (Some NoObject)) (keeps.classes o)
      ∙ sym (refusal_is m o f)

  still_may : (w : Writing) → MayWrite m w → MayWrite n w
  still_may w h = (
    still_has w.object w.feature ∙ h.0,
    record {
      typed = λ k d l. kept_type m n keeps.meta keeps.classes w.feature (slice_index_or w.values k d) (h.1.typed k d l);
      single = λ e. h.1.single (sym (ap (λ (meta : Parts). is_many meta w.feature) keeps.meta) ∙ e);
    },
  )

all_written_keeps : (writes : List Writing) (m : Contents) → KeepsObjects m (all_written m writes)
all_written_keeps [] m = same m
all_written_keeps (w ∷ writes) m =
    let next : Contents = write m w.object w.feature w.values in
    after m next (all_written next writes) (write_keeps m w.object w.feature w.values) (all_written_keeps writes next)

all_written_is_model : (writes : List Writing) (m : Contents) → IsMetamodel m.meta → IsModel m → All (MayWrite m) writes → IsModel (all_written m writes)
all_written_is_model [] m valid model may = model
all_written_is_model (w ∷ writes) m valid model may =
    let next : Contents = write m w.object w.feature w.values in
    let keeps : KeepsObjects m next = write_keeps m w.object w.feature w.values in
    let first : MayWrite m w = may 0 w (omega arith) in
    all_written_is_model writes next (subst IsMetamodel (sym keeps.meta) valid)
    (write_is_model m valid model w.object w.feature w.values first.0 first.1)
    (λ k d l. still_may m next keeps (slice_index_or writes k d) (may (suc k) d (omega (arith, l))))

pub fold_is_model : IsFoldLaw
fold_is_model meta valid classes writes classes_may writes_may =
    let begun : Contents = all_created (empty meta) classes in (
      start meta valid classes,
      all_written_is_model writes begun (subst IsMetamodel (sym (created_meta meta valid classes (empty meta))) valid) (all_created_is_model meta valid classes (empty meta) refl (empty_is_model meta) classes_may) writes_may,
      all_written_keeps writes begun,
    )
