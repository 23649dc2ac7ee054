-- The model of a file has no containment cycle: contents stand inside their containers, so their numbers are greater.
use Rattle.std.proofs.Common.{◌≡◌, ℕ, suc, ◌<◌, ◌≤◌, List, [], ◌∷◌, ◌++◌, length, refl, subst, ⊎_elim, arith, Option, Some, None}
use Rattle.std.specs.Prelude.{Bool, true, false, slice_index_or, Contains, if◌then◌else◌}
use Rattle.std.specs.Option.{option_map_or}
use Rattle.std.proofs.lemmas.List.Elements.{Contains-append_cases}
use Rattle.std.proofs.lemmas.Option.{slice_get_within}
use Rattle.atl_base.specs.declared.numbers.FeatId.{FeatId}
use Rattle.atl_base.specs.declared.numbers.ObjId.{ObjId}
use Rattle.ecore_meta.specs.declared.parts.Parts.{Parts}
use Rattle.ecore_meta.specs.Inheritance.{features}
use Rattle.ecore_meta.specs.Valid.{IsMetamodel}
use Rattle.model_store.specs.declared.parts.Cellv.{Cellv}
use Rattle.model_store.specs.declared.parts.Cellv.TheVariants.{Words, Int, Truth, Literal, Obj}
use Rattle.model_store.specs.declared.parts.Object.{Object}
use Rattle.model_store.specs.Contents.{contains, object_at, objects_of}
use Rattle.model_store.specs.Order.{Encloses, HasNoCycle, by_content, contents, contents_in, contents_of, itself}
use Rattle.model_store.proofs.CreatedModel.{seen_once}
use Rattle.model_store.proofs.Holding.{refers_by}
use Rattle.model_store.proofs.Thinned.{Contains_cases, Contains_first, Contains_later, Contains_none}
use Rattle.xmi_models.specs.Outline.{Entry}
use Rattle.xmi_models.specs.Faults.{fault_from, objects}
use Rattle.xmi_links.specs.ModelOf.{model_of}
use Rattle.xmi_links.proofs.FaultlessContainers.{IsContentAt, classes_within, finished, model_content_at}
use Rattle.xmi_links.proofs.FaultlessObjects.{known}
use Rattle.xmi_links.proofs.FaultlessOutline.{AreRegular, IsRegular}
use Rattle.xmi_links.proofs.FaultlessSlots.{there_of}

object_held : (cells : List Cellv) (q : ObjId) → Contains (objects_of cells) q → Contains cells (Obj q)
object_held [] q m = absurd (Contains_none q m)
object_held (Obj p ∷ cells) q m = ⊎_elim
    (λ (s : p ≡ q). subst (λ x. Contains (Obj p ∷ cells) (Obj x)) s (Contains_first (Obj p) cells))
    (λ (n : Contains (objects_of cells) q). Contains_later (Obj p) (Obj q) cells (object_held cells q n))
    (Contains_cases p q (objects_of cells) m)
object_held (Words t ∷ cells) q m = Contains_later (Words t) (Obj q) cells (object_held cells q m)
object_held (Int n ∷ cells) q m = Contains_later (Int n) (Obj q) cells (object_held cells q m)
object_held (Truth b ∷ cells) q m = Contains_later (Truth b) (Obj q) cells (object_held cells q m)
object_held (Literal l ∷ cells) q m = Contains_later (Literal l) (Obj q) cells (object_held cells q m)

-- the slot of a containment in which an object stands
record IsContained (meta : Parts) (fs : List FeatId) (slots : List (List Cellv)) (q : ObjId) : Type 0 where
  place : ℕ
  feature : FeatId
  within : place < length fs
  is : slice_index_or fs place feature ≡ feature
  contains_it : contains meta feature ≡ true
  it : Contains (slice_index_or slots place []) (Obj q)

contained_in : (meta : Parts) (fs : List FeatId) (slots : List (List Cellv)) (q : ObjId) → Contains (contents_in meta fs slots) q → IsContained meta fs slots q
contained_in meta [] slots q m = absurd (Contains_none q m)
contained_in meta (f ∷ fs) [] q m = absurd (Contains_none q m)
contained_in meta (f ∷ fs) (cells ∷ slots) q m = on (contains meta f) refl m (λ n. later (contained_in meta fs slots q n))
  where
    later : IsContained meta fs slots q → IsContained meta (f ∷ fs) (cells ∷ slots) q
    later x = record { place = suc x.place; feature = x.feature; within = omega (arith, x.within); is = x.is; contains_it = x.contains_it; it = x.it }

    on : (b : Bool) → contains meta f ≡ b → Contains ((if b then objects_of cells else []) ++ contents_in meta fs slots) q → (Contains (contents_in meta fs slots) q → IsContained meta (f ∷ fs) (cells ∷ slots) q) → IsContained meta (f ∷ fs) (cells ∷ slots) q
    on true i m again = ⊎_elim
        (λ (n : Contains (objects_of cells) q). record { place = 0; feature = f; within = omega arith; is = refl; contains_it = i; it = object_held cells q n })
        again
        (Contains-append_cases (objects_of cells) (contents_in meta fs slots) q m)
    on false i m again = again m

module _ (meta : Parts) (file : List Entry) (none : fault_from meta [] file ≡ None) (regular : AreRegular meta [] file) (valid : IsMetamodel meta) where
  content_rises : (o p : ObjId) (f : FeatId) → IsContentAt meta file none regular valid p o f → o.0 < p.0
  content_rises o p f x =
      let k = known meta file none regular p.0 x.entry x.there in
      let r = subst (IsRegular meta k.object.before) x.content.is k.stands in
      let s = r.0 in
      omega (arith, slice_get_within (objects k.object.before) o.0 s.entry s.there, k.object.number)

  contents_rise : (o q : ObjId) → Contains (contents (model_of meta file) o) q → o.0 < q.0
  contents_rise o q m = on (object_at (model_of meta file).objects o) refl m
    where
      on : (x : Option Object) → object_at (model_of meta file).objects o ≡ x → Contains (option_map_or (contents_of meta) x []) q → o.0 < q.0
      on None e m = absurd (Contains_none q m)
      on (Some object) e m =
          let x = contained_in meta (features meta.classes object.class) object.slots q m in
          let l = classes_within meta file none regular valid o object.class (there_of meta file (finished meta file none regular valid) o object e) in
          let r = refers_by (model_of meta file) o q x.feature object x.place (seen_once meta valid object.class l) e x.within x.is x.it in
          content_rises o q x.feature (model_content_at meta file none regular valid o q x.feature x.contains_it r)

  encloses_rises : {o p : ObjId} → Encloses (model_of meta file) o p → o.0 ≤ p.0
  encloses_rises itself = omega arith
  encloses_rises {o} (by_content {q = q} m rest) = omega (arith, contents_rise o q m, encloses_rises rest)

  pub no_cycle : HasNoCycle (model_of meta file)
  no_cycle o c = omega (arith, contents_rise o c.0 c.1, encloses_rises c.2)
