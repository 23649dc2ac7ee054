-- References taken away: what else stays, and that what is left is wired as before.
use Rattle.std.proofs.Common.{◌≡◌, ◌≢◌, ℕ, suc, ◌≤◌, List, [], ◌∷◌, ◌++◌, length, refl, sym, ap, ◌∙◌, subst, ⊎_elim, arith, Option, Some, None}
use Rattle.std.specs.Prelude.{Bool, true, false, slice_index_or, slice_set, option_map, is_some, if◌then◌else◌, Contains, All}
use Rattle.std.specs.Option.{option_map_or}
use Rattle.std.proofs.lemmas.Bool.{cases_eq, true≢false}
use Rattle.std.proofs.lemmas.List.{get_or_default}
use Rattle.std.proofs.lemmas.List.Kept.{AllPairs-cons}
use Rattle.std.proofs.lemmas.Option.{none-some}
use Rattle.atl_base.specs.declared.numbers.FeatId.{FeatId}
use Rattle.atl_base.specs.declared.numbers.ObjId.{ObjId}
use Rattle.ecore_meta.specs.Valid.{AllDiffer}
use Rattle.model_store.specs.declared.parts.Cellv.{Cellv}
use Rattle.model_store.specs.declared.parts.Cellv.TheVariants.{Obj}
use Rattle.model_store.specs.declared.parts.Object.{Object}
use Rattle.model_store.specs.declared.refusal.StoreRefusal.{StoreRefusal}
use Rattle.model_store.specs.Contents.{Contents, object_at, class_of, place_in, slot, slot_in, refers, refers_to, refusal, set_slot, with_slot, without, holds, AreShaped}
use Rattle.model_store.specs.Writes.{cut, join}
use Rattle.model_store.specs.declared.refusal.StoreRefusal.TheVariants.{NoObject, NoFeature}
use Rattle.model_store.specs.Valid.{HasSlot, Refers}
use Rattle.model_store.proofs.Slots.{IsAt, at_of, after, after_is, elsewhere, here, refusal_kept, shaped_kept, slot_same, slot_other, same_object, same_feature}
use Rattle.model_store.proofs.Thinned.{without_subset, without_not, without_kept, without_length}

-- The same objects and roots, with other values in one slot.
pub record IsChanged (m n : Contents) (x : ObjId) (h : FeatId) (cells : List Cellv) : Type 0 where
  pub meta : n.meta ≡ m.meta
  pub roots : n.roots ≡ m.roots
  pub shaped : AreShaped m.meta n.objects
  pub class : (p : ObjId) → class_of n p ≡ class_of m p
  pub exists : (p : ObjId) → is_some (object_at n.objects p) ≡ is_some (object_at m.objects p)
  pub has : (p : ObjId) (g : FeatId) → refusal n p g ≡ refusal m p g
  pub changed : slot n x h ≡ cells
  pub others : (p : ObjId) (g : FeatId) → (p ≡ x → g ≡ h → ⊥) → slot n p g ≡ slot m p g

module _ (m : Contents) (shaped : AreShaped m.meta m.objects) (x : ObjId) (h : FeatId) (cells : List Cellv) where
  changed_slot : HasSlot m x h → IsChanged m (set_slot m x h cells) x h cells
  changed_slot has = subst (λ n. IsChanged m n x h cells) (sym (after_is m shaped x h cells a)) (record {
    meta = refl;
    roots = refl;
    shaped = shaped_kept m shaped x h cells a;
    class = class;
    exists = exists;
    has = refusal_kept m shaped x h cells a;
    changed = slot_same m shaped x h cells a;
    others = slot_other m shaped x h cells a;
  })
    where
      a : IsAt m x h
      a = at_of m x h has

      class : (p : ObjId) → class_of (after m shaped x h cells a) p ≡ class_of m p
      class p = ⊎_elim
          (λ e. let s = same_object p x e in ap (class_of (after m shaped x h cells a)) s ∙ ap (option_map (λ object. object.class)) (here m shaped x h cells a) ∙ sym (ap (option_map (λ object. object.class)) a.there) ∙ ap (class_of m) (sym s))
          (λ d. ap (option_map (λ object. object.class)) (elsewhere m shaped x h cells a p d))
          (cases_eq p.0 x.0)

      exists : (p : ObjId) → is_some (object_at (after m shaped x h cells a).objects p) ≡ is_some (object_at m.objects p)
      exists p = ⊎_elim
          (λ e. let s = same_object p x e in ap (λ p. is_some (object_at (after m shaped x h cells a).objects p)) s ∙ ap is_some (here m shaped x h cells a) ∙ sym (ap is_some a.there) ∙ ap (λ p. is_some (object_at m.objects p)) (sym s))
          (λ d. ap is_some (elsewhere m shaped x h cells a p d))
          (cases_eq p.0 x.0)

  -- where there is no slot, nothing changes
  no_slot : (r : StoreRefusal) → refusal m x h ≡ Some r → (set_slot m x h cells ≡ m) × (slot m x h ≡ [])
  no_slot r e = by_object (object_at m.objects x) refl e
    where
      by_place : (object : Object) → object_at m.objects x ≡ Some object → (k : Option ℕ) → place_in m.meta object.class h ≡ k → (if is_some k then None else Some NoFeature) ≡ Some r → (set_slot m x h cells ≡ m) × (slot m x h ≡ [])
      by_place object there None i e = (
        ap (λ y. option_map_or (λ object. option_map_or (λ k. record m { objects = slice_set m.objects x.0 (Some (with_slot object k cells)) }) (place_in m.meta object.class h) m) y m) there ∙ ap (λ k. option_map_or (λ k. record m { objects = slice_set m.objects x.0 (Some (with_slot object k cells)) }) k m) i,
        ap (λ y. option_map_or (slot_in m.meta h) y []) there ∙ ap (λ k. option_map_or (λ k. slice_index_or object.slots k []) k []) i,
      )
      by_place object there (Some k) i e = absurd (none-some r e)

      by_object : (y : Option Object) → object_at m.objects x ≡ y → option_map_or (λ object. if is_some (place_in m.meta object.class h) then None else Some NoFeature) y (Some NoObject) ≡ Some r → (set_slot m x h cells ≡ m) × (slot m x h ≡ [])
      by_object None there e = (
        ap (λ y. option_map_or (λ object. option_map_or (λ k. record m { objects = slice_set m.objects x.0 (Some (with_slot object k cells)) }) (place_in m.meta object.class h) m) y m) there,
        ap (λ y. option_map_or (slot_in m.meta h) y []) there,
      )
      by_object (Some object) there e = by_place object there (place_in m.meta object.class h) refl e

  same_all : slot m x h ≡ cells → IsChanged m m x h cells
  same_all e = record { meta = refl; roots = refl; shaped = shaped; class = λ p. refl; exists = λ p. refl; has = λ p g. refl; changed = e; others = λ p g d. refl }

-- an object taken out of a slot, where there is one
pub cut_changes : (m : Contents) → AreShaped m.meta m.objects → (x : ObjId) (h : FeatId) (y : ObjId) → IsChanged m (cut x h y m) x h (without y (slot m x h))
unfolding cut
cut_changes m shaped x h y = on (refusal m x h) refl
  where
    cells : List Cellv
    cells = without y (slot m x h)

    on : (r : Option StoreRefusal) → refusal m x h ≡ r → IsChanged m (set_slot m x h (without y (slot m x h))) x h (without y (slot m x h))
    on None e = changed_slot m shaped x h (without y (slot m x h)) e
    on (Some r) e =
        let k = no_slot m shaped x h (without y (slot m x h)) r e in
        subst (λ n. IsChanged m n x h (without y (slot m x h))) (sym k.0) (same_all m shaped x h (without y (slot m x h)) (k.1 ∙ sym (ap (without y) k.1)))

-- and one appended that is not there
pub join_changes : (m : Contents) → AreShaped m.meta m.objects → (x : ObjId) (h : FeatId) (y : ObjId) → HasSlot m x h → holds y (slot m x h) ≡ false → IsChanged m (join x h y m) x h (slot m x h ++ Obj y ∷ [])
unfolding join
join_changes m shaped x h y has n =
    subst (λ b. IsChanged m (if b then m else set_slot m x h (slot m x h ++ Obj y ∷ [])) x h (slot m x h ++ Obj y ∷ [])) (sym n) (changed_slot m shaped x h (slot m x h ++ Obj y ∷ []) has)

-- ## What is gone

-- References are gone, and nothing else is changed.
pub record IsWithout (m n : Contents) (Gone : ObjId → FeatId → ObjId → Type 0) : Type 0 where
  pub meta : n.meta ≡ m.meta
  pub shaped : AreShaped m.meta n.objects
  pub class : (p : ObjId) → class_of n p ≡ class_of m p
  pub exists : (p : ObjId) → is_some (object_at n.objects p) ≡ is_some (object_at m.objects p)
  pub has : (p : ObjId) (g : FeatId) → refusal n p g ≡ refusal m p g
  pub fewer : (p : ObjId) (g : FeatId) (v : Cellv) → Contains (slot n p g) v → Contains (slot m p g) v
  pub gone : (p : ObjId) (g : FeatId) (q : ObjId) → Refers n p g q → Gone p g q → ⊥
  pub kept : (p : ObjId) (g : FeatId) (q : ObjId) → Refers m p g q → (Gone p g q → ⊥) → Refers n p g q
  pub shorter : (p : ObjId) (g : FeatId) → length (slot n p g) ≤ length (slot m p g)
  pub differ : (p : ObjId) (g : FeatId) → AllDiffer (slot m p g) → AllDiffer (slot n p g)
  pub attributes : (p : ObjId) (g : FeatId) → refers m.meta g ≡ false → slot n p g ≡ slot m p g

abbrev pub IsThis : ObjId → FeatId → ObjId → ObjId → FeatId → ObjId → Type 0
IsThis x h y p g q = (p ≡ x) × (g ≡ h) × (q ≡ y)

without_differ : (p : ObjId) (cells : List Cellv) → AllDiffer cells → AllDiffer (without p cells)
without_differ p [] h = h
without_differ p (c ∷ cells) h = on (refers_to p c) (without_differ p cells (λ i j d lt l. h (suc i) (suc j) d (omega (arith, lt)) (omega (arith, l))))
  where
    head : All (λ y. c ≢ y) (without p cells)
    head k d l =
        let x = without_subset p cells (slice_index_or (without p cells) k d) (k, l, sym (get_or_default (without p cells) k d (slice_index_or (without p cells) k d) l)) in
        λ e. h 0 (suc x.0) (slice_index_or (without p cells) k d) (omega arith) (omega (arith, x.1)) (e ∙ sym x.2)

    on : (b : Bool) → AllDiffer (without p cells) → AllDiffer (if b then without p cells else c ∷ without p cells)
    on true rest = rest
    on false rest = AllPairs-cons (λ x y. x ≢ y) c (without p cells) head rest

pub cut_without : (m : Contents) → AreShaped m.meta m.objects → (x : ObjId) (h : FeatId) (y : ObjId) → refers m.meta h ≡ true → IsWithout m (cut x h y m) (IsThis x h y)
cut_without m shaped x h y r = made (cut_changes m shaped x h y)
  where
    n : Contents
    n = cut x h y m

    made : IsChanged m (cut x h y m) x h (without y (slot m x h)) → IsWithout m (cut x h y m) (IsThis x h y)
    made c = record {
      meta = c.meta;
      shaped = c.shaped;
      class = c.class;
      exists = c.exists;
      has = c.has;
      fewer = λ p g v. by (λ p g. Contains (slot (cut x h y m) p g) v → Contains (slot m p g) v) (λ k. without_subset y (slot m x h) v (subst (λ l. Contains l v) c.changed k)) (λ p g d k. subst (λ l. Contains l v) (c.others p g d) k) p g;
      gone = λ p g q k t. without_not y (slot m x h) (subst (λ l. Contains l (Obj y)) c.changed (subst (λ z. Refers (cut x h y m) x h z) t.2 (subst (λ z. Refers (cut x h y m) x z q) t.1 (subst (λ z. Refers (cut x h y m) z g q) t.0 k))));
      kept = λ p g q. by (λ p g. Refers m p g q → (IsThis x h y p g q → ⊥) → Refers (cut x h y m) p g q) (λ k t. subst (λ l. Contains l (Obj q)) (sym c.changed) (without_kept y q (slot m x h) (λ e. t (refl, refl, sym e)) k)) (λ p g d k t. subst (λ l. Contains l (Obj q)) (sym (c.others p g d)) k) p g;
      shorter = by (λ p g. length (slot (cut x h y m) p g) ≤ length (slot m p g)) (subst (λ l. length l ≤ length (slot m x h)) (sym c.changed) (without_length y (slot m x h))) (λ p g d. let e = ap length (c.others p g d) in omega (arith, e));
      differ = by (λ p g. AllDiffer (slot m p g) → AllDiffer (slot (cut x h y m) p g)) (λ k. subst AllDiffer (sym c.changed) (without_differ y (slot m x h) k)) (λ p g d k. subst AllDiffer (sym (c.others p g d)) k);
      attributes = λ p g a. c.others p g (λ s t. true≢false (sym r ∙ ap (refers m.meta) (sym t) ∙ a));
    }
      where
        by : (P : ObjId → FeatId → Type 0) → P x h → ((p : ObjId) (g : FeatId) → (p ≡ x → g ≡ h → ⊥) → P p g) → (p : ObjId) (g : FeatId) → P p g
        by P k o p g = ⊎_elim
            (λ e. ⊎_elim
            (λ i. subst (λ q. P q g) (sym (same_object p x e)) (subst (P x) (sym (same_feature g h i)) k))
            (λ d. o p g (λ _ z. d (ap (λ z. z.0) z)))
            (cases_eq g.0 h.0))
            (λ d. o p g (λ z _. d (ap (λ z. z.0) z)))
            (cases_eq p.0 x.0)
