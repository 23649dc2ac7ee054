-- Other values in one slot of one object.
use Rattle.std.proofs.Common.{refl, ◌≡◌, ◌≢◌, ℕ, ◌+◌, ◌++◌, ◌<◌, ◌≤◌, List, [], ◌∷◌, length, sym, ap, subst, ◌∙◌, ⊎_elim, arith, length-append, Option, Some, None, cond}
use Rattle.std.specs.Prelude.{slice_index_or, slice_set, option_map, is_some, map, filter}
use Rattle.std.specs.Option.{option_map_or}
use Rattle.std.specs.List.{count_by}
use Rattle.std.proofs.lemmas.Bool.{cases_lt, cases_eq}
use Rattle.std.proofs.lemmas.List.{get_or_default, get_or_past, get_or-set_same, get_or-set_other, get_or_append_left, get_or_push, length-set, length-map}
use Rattle.std.proofs.lemmas.List.Sums.{sum_by-set, sum_by_push, length-filter}
use Rattle.std.proofs.lemmas.Option.{none-some, same_Some}
use Rattle.atl_base.specs.declared.numbers.FeatId.{FeatId}
use Rattle.atl_base.specs.declared.numbers.ObjId.{ObjId}
use Rattle.ecore_meta.specs.declared.parts.Parts.{Parts}
use Rattle.model_store.specs.declared.parts.Cellv.{Cellv}
use Rattle.model_store.specs.declared.parts.Object.{Object}
use Rattle.atl_base.specs.declared.numbers.ClassId.{ClassId}
use Rattle.ecore_meta.specs.Inheritance.{features}
use Rattle.model_store.specs.Sketches.{blank}
use Rattle.model_store.specs.Writes.{fresh, initial}
use Rattle.model_store.specs.Contents.{Contents, IsShaped, AreShaped, HasPlace, object_at, object_count, place_in, with_slot, set_slot}

-- what is found is within
pub found_within : {X : Type 0} (xs : List (Option X)) (n : ℕ) (x : X) → slice_index_or xs n None ≡ Some x → n < length xs
found_within xs n x e = ⊎_elim (λ (h : n < length xs). h)
    (λ (h : length xs ≤ n). absurd (none-some x (sym (get_or_past xs n None h) ∙ e)))
    (cases_lt n (length xs))

-- one for another leaves the count
pub count_set : (xs : List (Option Object)) (n : ℕ) (x y : Object) → slice_index_or xs n None ≡ Some x → count_by is_some (slice_set xs n (Some y)) ≡ count_by is_some xs
count_set xs n x y e =
    let weight : Option Object → ℕ = λ place. cond (is_some place) 1 0 in
    let h : n < length xs = found_within xs n x e in
    let there : weight (slice_index_or xs n None) ≡ 1 = ap weight e in
    omega (arith, sum_by-set weight xs n (Some y) None h, there)

pub shaped_set : (meta : Parts) (xs : List (Option Object)) (n : ℕ) (y : Object) → AreShaped meta xs → n < length xs → IsShaped meta y → AreShaped meta (slice_set xs n (Some y))
shaped_set meta xs n y shaped h new = λ k object e. ⊎_elim
    (λ (same : k ≡ n). subst (IsShaped meta) (same_Some y object (sym (get_or-set_same xs n (Some y) None h) ∙ ap (λ i. slice_index_or (slice_set xs n (Some y)) i None) (sym same) ∙ e)) new)
    (λ (other : k ≢ n). shaped k object (sym (get_or-set_other xs n k (Some y) None other) ∙ e))
    (cases_eq k n)

module _ (m : Contents) (o : ObjId) (f : FeatId) (at : ℕ) (cells : List Cellv) (place : HasPlace m.meta m.objects o at)
    (found : Some at ≡ option_map_or (λ object. place_in m.meta object.class f) (object_at m.objects o) None) where
  abbrev pub changed : List (Option Object)
  changed = slice_set m.objects o.0 (Some (with_slot place.object at cells))

  pub set_slot_is : set_slot m o f cells ≡ record m { objects = changed }
  set_slot_is =
      let there : Some at ≡ place_in m.meta place.object.class f = found ∙ ap (λ x. option_map_or (λ object. place_in m.meta object.class f) x None) place.there in
      ap (λ x. option_map_or (λ object. option_map_or (λ k. record m { objects = slice_set m.objects o.0 (Some (with_slot object k cells)) }) (place_in m.meta object.class f) m) x m) place.there
      ∙ ap (λ x. option_map_or (λ k. record m { objects = slice_set m.objects o.0 (Some (with_slot place.object k cells)) }) x m) (sym there)

  -- what stands at the object's number is changed alike
  pub change_is : (x y : Option Object) → x ≡ slice_index_or m.objects o.0 x → y ≡ option_map (λ object. with_slot object at cells) x → slice_set m.objects o.0 y ≡ changed
  change_is x y e is =
      let h : o.0 < length m.objects = found_within m.objects o.0 place.object place.there in
      let old : x ≡ Some place.object = e ∙ get_or_default m.objects o.0 x None h ∙ place.there in
      ap (slice_set m.objects o.0) (is ∙ ap (option_map (λ object. with_slot object at cells)) old)

  pub shaped_change : AreShaped m.meta m.objects → AreShaped m.meta changed
  shaped_change shaped =
      let h : o.0 < length m.objects = found_within m.objects o.0 place.object place.there in
      let old = shaped o.0 place.object place.there in
      shaped_set m.meta m.objects o.0 (with_slot place.object at cells) shaped h (record { class_within = old.class_within; slots = length-set place.object.slots at cells ∙ old.slots })

  pub length_change : length changed ≡ length m.objects
  length_change = length-set m.objects o.0 (Some (with_slot place.object at cells))

  pub counted_change : object_count changed ≡ object_count m.objects
  counted_change = count_set m.objects o.0 place.object (with_slot place.object at cells) place.there

-- ## An object more

pub counted_push : (xs : List (Option Object)) (x : Object) → object_count (xs ++ Some x ∷ []) ≡ object_count xs + 1
counted_push xs x = sum_by_push (λ place. cond (is_some place) 1 0) xs (Some x)

pub shaped_push : (meta : Parts) (xs : List (Option Object)) (x : Object) → AreShaped meta xs → IsShaped meta x → AreShaped meta (xs ++ Some x ∷ [])
shaped_push meta xs x shaped new = λ n object e. ⊎_elim
    (λ (h : n < length xs). shaped n object (sym (get_or_append_left xs (Some x ∷ []) None n h) ∙ e))
    (λ (h : length xs ≤ n).
    let within : n < length (xs ++ Some x ∷ []) = found_within (xs ++ Some x ∷ []) n object e in
    let last : length xs ≡ n = omega (arith, length-append xs (Some x ∷ [])) in
    subst (IsShaped meta) (same_Some x object (sym (get_or_push xs (Some x) None n last) ∙ e)) new)
    (cases_lt n (length xs))

pub fresh_shaped : (meta : Parts) (class : ClassId) → class.0 < length meta.classes → IsShaped meta (fresh meta class)
fresh_shaped meta class h = record { class_within = h; slots = length-map (features meta.classes class) (initial meta) }

-- ## All at once

all_kept : (xs : List Object) → filter is_some (map Some xs) ≡ map Some xs
all_kept [] = refl
all_kept (x ∷ xs) = ap (λ l. let r : List (Option Object) = Some x ∷ l in r) (all_kept xs)

pub counted_all : (xs : List Object) → object_count (map Some xs) ≡ length xs
counted_all xs =
    let places : List (Option Object) = map Some xs in
    sym (length-filter is_some places) ∙ ap length (all_kept xs) ∙ length-map xs Some

-- ## Empty slots

pub blank_shaped : (meta : Parts) (class : ClassId) → class.0 < length meta.classes → IsShaped meta (blank meta class)
blank_shaped meta class h = record { class_within = h; slots = length-map (features meta.classes class) (λ f. no_cells) }
  where
    no_cells : List Cellv
    no_cells = []
