-- Objects whose slots are said by a function, and what putting a value more into a slot makes of the function.
use Rattle.std.proofs.Common.{◌≡◌, ℕ, suc, ◌+◌, List, [], ◌∷◌, ◌++◌, map, refl, sym, ap, subst, ◌∙◌, arith, inl, inr, ◌⊎◌}
use Rattle.std.specs.Prelude.{Bool, true, false, ◌==◌, ◌||◌, slice_set, slice_index_or, Option, Some, None, option_map, if◌then◌else◌}
use Rattle.std.specs.List.{list_any, position_from}
use Rattle.std.specs.Option.{option_map_or}
use Rattle.std.proofs.lemmas.Bool.{eqb-true, false≢true}
use Rattle.std.proofs.lemmas.List.{set-get_or}
use Rattle.std.proofs.lemmas.Iterator.Adapters.{position_from-zero}
use Rattle.std.proofs.lemmas.Option.{none-some, same_Some}
use Rattle.atl_base.specs.declared.numbers.ClassId.{ClassId}
use Rattle.atl_base.specs.declared.numbers.FeatId.{FeatId}
use Rattle.atl_base.specs.declared.numbers.ObjId.{ObjId}
use Rattle.ecore_meta.specs.declared.parts.Parts.{Parts}
use Rattle.ecore_meta.specs.Inheritance.{features}
use Rattle.model_store.specs.declared.parts.Cellv.{Cellv}
use Rattle.model_store.specs.declared.parts.Object.{Object}
use Rattle.model_store.specs.Contents.{Contents, object_at, place_in, slot, slot_in, with_slot}
use Rattle.model_store.specs.Sketches.{with_value}
use Rattle.xmi_models.specs.Outline.{Entry}
use Rattle.xmi_models.specs.Faults.{own_class}
use Rattle.xmi_links.specs.References.{object_by}

-- ## Features that differ

abbrev pub is_feature : FeatId → FeatId → Bool
is_feature f g = g.0 == f.0

abbrev pub AreApart : List FeatId → Type 0
AreApart [] = Unit {0}
AreApart (g ∷ gs) = (list_any (is_feature g) gs ≡ false) × AreApart gs

pub same_feature : (f g : FeatId) → f.0 ≡ g.0 → f ≡ g
same_feature f g e = ap (λ n. record { 0 = n }) e

or_parts : (a b : Bool) → (a || b) ≡ false → (a ≡ false) × (b ≡ false)
or_parts true b h = absurd (false≢true (sym h))
or_parts false b h = (refl, h)

module _ (f : FeatId) (new : List Cellv) (s : FeatId → List Cellv) where
  abbrev pub put : FeatId → List Cellv
  put g = if is_feature f g then new else s g

  none_put : (gs : List FeatId) → list_any (is_feature f) gs ≡ false → map put gs ≡ map s gs
  none_put [] h = refl
  none_put (g ∷ gs) h =
      let parts = or_parts (is_feature f g) (list_any (is_feature f) gs) h in
      ap (λ b. (if b then new else s g) ∷ map put gs) parts.0 ∙ ap (λ l. s g ∷ l) (none_put gs parts.1)

  not_placed : (n : ℕ) (gs : List FeatId) → position_from (is_feature f) n gs ≡ None → map put gs ≡ map s gs
  not_placed n [] h = refl
  not_placed n (g ∷ gs) h = by (is_feature f g) h (not_placed (n + 1) gs)
    where
      by : (b : Bool) → (if b then Some n else position_from (is_feature f) (n + 1) gs) ≡ None → (position_from (is_feature f) (n + 1) gs ≡ None → map put gs ≡ map s gs)
          → (if b then new else s g) ∷ map put gs ≡ s g ∷ map s gs
      by true h k = absurd (none-some n (sym h))
      by false h k = ap (λ l. s g ∷ l) (k h)

  abbrev IsPlaced : List FeatId → ℕ → ℕ → Type 0
  IsPlaced gs n k = (j : ℕ) × (k ≡ n + j) × (slice_set (map s gs) j new ≡ map put gs) × (slice_index_or (map s gs) j [] ≡ s f)

  placed : (gs : List FeatId) → AreApart gs → (n k : ℕ) → position_from (is_feature f) n gs ≡ Some k → IsPlaced gs n k
  placed [] apart n k h = absurd (none-some k h)
  placed (g ∷ gs) apart n k h = by (is_feature f g) refl h (placed gs apart.1 (n + 1) k)
    where
      by : (b : Bool) → is_feature f g ≡ b → (if b then Some n else position_from (is_feature f) (n + 1) gs) ≡ Some k → (position_from (is_feature f) (n + 1) gs ≡ Some k → IsPlaced gs (n + 1) k)
          → IsPlaced (g ∷ gs) n k
      by true e h r =
          let same : g ≡ f = same_feature g f (eqb-true g.0 f.0 e) in
          let is : n ≡ k = same_Some n k h in (
            0,
            omega (arith, is),
            ap (λ l. new ∷ l) (sym (none_put gs (subst (λ x. list_any (is_feature x) gs ≡ false) same apart.0))) ∙ ap (λ b. (if b then new else s g) ∷ map put gs) (sym e),
            ap s same,
          )
      by false e h r =
          let p = r h in (
            suc p.0,
            omega (arith, p.1),
            ap (λ l. s g ∷ l) p.2 ∙ ap (λ b. (if b then new else s g) ∷ map put gs) (sym e),
            p.3,
          )

-- ## One slot of one object

module _ (meta : Parts) (class : ClassId) (apart : AreApart (features meta.classes class)) where
  abbrev pub made : (FeatId → List Cellv) → Object
  made s = record { class = class; slots = map s (features meta.classes class) }

  abbrev place : FeatId → Option ℕ
  place f = place_in meta class f

  placed_at : (f : FeatId) (new : List Cellv) (s : FeatId → List Cellv) (k : ℕ) → place f ≡ Some k
      → (slice_set (map s (features meta.classes class)) k new ≡ map (put f new s) (features meta.classes class)) × (slice_index_or (map s (features meta.classes class)) k [] ≡ s f)
  placed_at f new s k h =
      let p = placed f new s (features meta.classes class) apart 0 k (sym (position_from-zero (is_feature f) (features meta.classes class)) ∙ h) in
      let same : p.0 ≡ k = omega (arith, p.1) in (
        ap (λ j. slice_set (map s (features meta.classes class)) j new) (sym same) ∙ p.2,
        ap (λ j. slice_index_or (map s (features meta.classes class)) j []) (sym same) ∙ p.3,
      )

  not_seen : (f : FeatId) (n : ℕ) (gs : List FeatId) → position_from (is_feature f) n gs ≡ None → list_any (is_feature f) gs ≡ false
  not_seen f n [] h = refl
  not_seen f n (g ∷ gs) h = by (is_feature f g) h (not_seen f (n + 1) gs)
    where
      by : (b : Bool) → (if b then Some n else position_from (is_feature f) (n + 1) gs) ≡ None → (position_from (is_feature f) (n + 1) gs ≡ None → list_any (is_feature f) gs ≡ false) → (b || list_any (is_feature f) gs) ≡ false
      by true h k = absurd (none-some n (sym h))
      by false h k = k h

  -- what a slot holds
  pub held : (f : FeatId) (s : FeatId → List Cellv) → (slot_in meta f (made s) ≡ s f) ⊎ ((slot_in meta f (made s) ≡ []) × (list_any (is_feature f) (features meta.classes class) ≡ false))
  held f s = by (place f) refl
    where
      by : (k : Option ℕ) → place f ≡ k → (slot_in meta f (made s) ≡ s f) ⊎ ((slot_in meta f (made s) ≡ []) × (list_any (is_feature f) (features meta.classes class) ≡ false))
      by None e = inr (
        ap (λ k. option_map_or (λ k. slice_index_or (map s (features meta.classes class)) k []) k []) e,
        not_seen f 0 (features meta.classes class) (sym (position_from-zero (is_feature f) (features meta.classes class)) ∙ e),
      )
      by (Some k) e = inl (ap (λ k. option_map_or (λ k. slice_index_or (map s (features meta.classes class)) k []) k []) e ∙ (placed_at f [] s k e).1)

-- ## A value more

abbrev pub more : FeatId → Cellv → Parts → Object → Object
more f v meta x = option_map_or (λ k. with_slot x k (slice_index_or x.slots k [] ++ v ∷ [])) (place_in meta x.class f) x

module _ (f : FeatId) (v : Cellv) where
  pub more_is : (m : Contents) (o : ObjId) → with_value o f v m ≡ record m { objects = slice_set m.objects o.0 (option_map (more f v m.meta) (object_at m.objects o)) }
  more_is m o = by (object_at m.objects o) refl
    where
      unchanged : (x : Option Object) → object_at m.objects o ≡ x → m ≡ record m { objects = slice_set m.objects o.0 x }
      unchanged x e = ap (λ l. record m { objects = l }) (sym (ap (slice_set m.objects o.0) (sym e) ∙ set-get_or m.objects o.0 None))

      by : (x : Option Object) → object_at m.objects o ≡ x → with_value o f v m ≡ record m { objects = slice_set m.objects o.0 (option_map (more f v m.meta) x) }
      by None e = ap (λ x. option_map_or (λ object. option_map_or (λ k. record m { objects = slice_set m.objects o.0 (Some (with_slot object k (slot m o f ++ v ∷ []))) }) (place_in m.meta object.class f) m) x m) e ∙ unchanged None e
      by (Some x) e =
          ap (λ y. option_map_or (λ object. option_map_or (λ k. record m { objects = slice_set m.objects o.0 (Some (with_slot object k (slot m o f ++ v ∷ []))) }) (place_in m.meta object.class f) m) y m) e
          ∙ on (place_in m.meta x.class f) refl
        where
          on : (k : Option ℕ) → place_in m.meta x.class f ≡ k → option_map_or (λ k. record m { objects = slice_set m.objects o.0 (Some (with_slot x k (slot m o f ++ v ∷ []))) }) (place_in m.meta x.class f) m
              ≡ record m { objects = slice_set m.objects o.0 (Some (more f v m.meta x)) }
          on None i =
              ap (λ k. option_map_or (λ k. record m { objects = slice_set m.objects o.0 (Some (with_slot x k (slot m o f ++ v ∷ []))) }) k m) i
              ∙ unchanged (Some x) e
              ∙ ap (λ k. record m { objects = slice_set m.objects o.0 (Some (option_map_or (λ k. with_slot x k (slice_index_or x.slots k [] ++ v ∷ [])) k x)) }) (sym i)
          on (Some k) i =
              let cells : slot m o f ≡ slice_index_or x.slots k [] =
              ap (λ y. option_map_or (slot_in m.meta f) y []) e ∙ ap (λ k. option_map_or (λ k. slice_index_or x.slots k []) k []) i in
              ap (λ k. option_map_or (λ k. record m { objects = slice_set m.objects o.0 (Some (with_slot x k (slot m o f ++ v ∷ []))) }) k m) i
              ∙ ap (λ l. record m { objects = slice_set m.objects o.0 (Some (with_slot x k (l ++ v ∷ []))) }) cells
              ∙ ap (λ k. record m { objects = slice_set m.objects o.0 (Some (option_map_or (λ k. with_slot x k (slice_index_or x.slots k [] ++ v ∷ [])) k x)) }) (sym i)

  module _ (meta : Parts) (apart : (c : ClassId) → AreApart (features meta.classes c)) where
    -- the function after it
    abbrev pub and_value : (FeatId → List Cellv) → FeatId → List Cellv
    and_value s g = if is_feature f g then s g ++ v ∷ [] else s g

    same_put : (s : FeatId → List Cellv) (gs : List FeatId) → map (put f (s f ++ v ∷ []) s) gs ≡ map (and_value s) gs
    same_put s [] = refl
    same_put s (g ∷ gs) = by (is_feature f g) refl (same_put s gs)
      where
        by : (b : Bool) → is_feature f g ≡ b → map (put f (s f ++ v ∷ []) s) gs ≡ map (and_value s) gs
            → (if b then s f ++ v ∷ [] else s g) ∷ map (put f (s f ++ v ∷ []) s) gs ≡ (if b then s g ++ v ∷ [] else s g) ∷ map (and_value s) gs
        by true e r = ap (λ h. (s h ++ v ∷ []) ∷ map (put f (s f ++ v ∷ []) s) gs) (same_feature f g (sym (eqb-true g.0 f.0 e))) ∙ ap (λ l. (s g ++ v ∷ []) ∷ l) r
        by false e r = ap (λ l. s g ∷ l) r

    more_made : (c : ClassId) (s : FeatId → List Cellv) → more f v meta (made meta c (apart c) s) ≡ made meta c (apart c) (and_value s)
    more_made c s = by (place_in meta c f) refl
      where
        fs : List FeatId
        fs = features meta.classes c

        x : Object
        x = record { class = c; slots = map s fs }

        by : (k : Option ℕ) → place_in meta c f ≡ k → more f v meta x ≡ record { class = c; slots = map (and_value s) fs }
        by None e =
            ap (λ k. option_map_or (λ k. with_slot x k (slice_index_or x.slots k [] ++ v ∷ [])) k x) e
            ∙ ap (λ l. record { class = c; slots = l })
            (sym (not_placed f (s f ++ v ∷ []) s 0 fs (sym (position_from-zero (is_feature f) fs) ∙ e)) ∙ same_put s fs)
        by (Some k) e =
            let p = placed_at meta c (apart c) f (s f ++ v ∷ []) s k e in
            ap (λ k. option_map_or (λ k. with_slot x k (slice_index_or x.slots k [] ++ v ∷ [])) k x) e
            ∙ ap (λ cells. with_slot x k (cells ++ v ∷ [])) p.1
            ∙ ap (λ l. record { class = c; slots = l }) (p.0 ∙ same_put s fs)

    pub more_by : (e : Entry) (s : FeatId → List Cellv) → option_map (more f v meta) (object_by meta s e) ≡ object_by meta (and_value s) e
    more_by e s = by (own_class e.part)
      where
        by : (c : Option ClassId) → option_map (more f v meta) (option_map (λ c. let x : Object = record { class = c; slots = map s (features meta.classes c) } in x) c)
            ≡ option_map (λ c. record { class = c; slots = map (and_value s) (features meta.classes c) }) c
        by None = refl
        by (Some c) = ap Some (more_made c s)
