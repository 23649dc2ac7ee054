-- A pair taken away leaves a model.
use Rattle.std.proofs.Common.{◌≡◌, ◌≢◌, ℕ, inl, inr, List, refl, sym, ap, ◌∙◌, subst, ⊎_elim, Option, Some, None}
use Rattle.std.specs.Prelude.{◌&&◌, Bool, true, false, nat_lt, slice_get, is_some, if◌then◌else◌, Contains, IsSome}
use Rattle.std.specs.Option.{option_map_or}
use Rattle.std.specs.List.{position_or_len}
use Rattle.std.proofs.lemmas.Bool.{cases_eq, true≢false}
use Rattle.std.proofs.lemmas.Option.{none-some}
use Rattle.atl_base.specs.declared.numbers.FeatId.{FeatId}
use Rattle.atl_base.specs.declared.numbers.ObjId.{ObjId}
use Rattle.ecore_meta.specs.declared.parts.Feature.{Feature}
use Rattle.ecore_meta.specs.declared.parts.Parts.{Parts}
use Rattle.ecore_meta.specs.Valid.{AllDiffer, IsMetamodel, opposite_of, is_containment}
use Rattle.model_store.specs.declared.parts.Cellv.TheVariants.{Obj}
use Rattle.model_store.specs.declared.parts.Object.{Object}
use Rattle.model_store.specs.Contents.{Contents, object_at, refers, contains, opposite, is_contained_by, AreShaped}
use Rattle.model_store.specs.Valid.{IsModel, Refers}
use Rattle.model_store.specs.Writes.{cut, cut_back, free_ends, unlink, freed, with_root}
use Rattle.model_store.proofs.Created.{referred_to}
use Rattle.model_store.proofs.CreatedModel.{seen_once}
use Rattle.model_store.proofs.Holding.{contained_not, uncontained}
use Rattle.model_store.proofs.ListedRoots.{inserted, inserted_new, inserted_old, inserted_differ}
use Rattle.model_store.proofs.Removing.{IsWithout, cut_changes, cut_without}
use Rattle.model_store.proofs.Slots.{same_object}
use Rattle.model_store.proofs.Wired.{IsWired, wired, wired_without, still_of_type, IsEnd, ends_go_in_pairs, ends_without}

-- an object that no containment holds
pub record IsFree (m : Contents) (p : ObjId) : Type 0 where
  pub exists : IsSome (object_at m.objects p)
  pub none : (o : ObjId) (f : FeatId) → contains m.meta f ≡ true → Refers m o f p → ⊥

-- the roots are the free objects, each once
pub record AreRoots (m : Contents) : Type 0 where
  pub free : (p : ObjId) → Contains m.roots p → IsFree m p
  pub root : (p : ObjId) → IsFree m p → Contains m.roots p
  pub differ : AllDiffer m.roots

pub are_roots : (m : Contents) → IsMetamodel m.meta → IsModel m → AreRoots m
are_roots m valid h = record {
  free = λ p k. let x = (h.roots p).0 k in record { exists = x.0; none = uncontained m p x.1 };
  root = λ p k. (h.roots p).1 (k.exists, contained_not m (seen_once m.meta valid) h.shaped p k.none);
  differ = h.roots_differ;
}

pub model_of : (m : Contents) → IsMetamodel m.meta → IsWired m → AreRoots m → IsModel m
model_of m valid w r = record {
  shaped = w.shaped;
  concrete = w.concrete;
  fits = w.fits;
  defaults = w.defaults;
  differ = w.differ;
  opposites = w.opposites;
  contained_once = w.contained_once;
  roots = λ p. (λ k. let x = r.free p k in (x.exists, contained_not m (seen_once m.meta valid) w.shaped p x.none), λ k. r.root p (record { exists = k.0; none = uncontained m p k.1 }));
  roots_differ = r.differ;
}

-- both ends of a pair don't contain
pub one_contains : (meta : Parts) → IsMetamodel meta → (f g : FeatId) → opposite meta f ≡ Some g → contains meta f ≡ true → contains meta g ≡ true → ⊥
one_contains meta valid f g e a b = by (slice_get meta.features f.0) refl (slice_get meta.features g.0) refl e a b
  where
    by : (x : Option Feature) → slice_get meta.features f.0 ≡ x → (y : Option Feature) → slice_get meta.features g.0 ≡ y → option_map_or (λ feature. opposite_of feature.kind) x None ≡ Some g
        → option_map_or (λ feature. is_containment feature.kind) x false ≡ true → option_map_or (λ feature. is_containment feature.kind) y false ≡ true → ⊥
    by None i y j e a b = none-some g e
    by (Some x) i None j e a b = true≢false (sym b)
    by (Some x) i (Some y) j e a b = true≢false (sym (ap (λ c. c && is_containment y.kind) a ∙ b) ∙ (valid.opposites f g x y i e j).one_contains)

-- where an opposite contains
pub contained_end : (meta : Parts) (f : FeatId) → is_contained_by meta f ≡ true → (g : FeatId) × (opposite meta f ≡ Some g) × (contains meta g ≡ true)
contained_end meta f h = on (opposite meta f) refl h
  where
    on : (x : Option FeatId) → opposite meta f ≡ x → option_map_or (contains meta) x false ≡ true → (g : FeatId) × (opposite meta f ≡ Some g) × (contains meta g ≡ true)
    on None e h = absurd (true≢false (sym h))
    on (Some g) e h = (g, e, h)

-- what is wired is so whatever the roots are
pub other_roots : (n : Contents) (roots : List ObjId) → IsWired n → IsWired (record n { roots = roots })
other_roots n roots w = record {
  shaped = w.shaped;
  concrete = w.concrete;
  fits = λ o f h. let x = w.fits o f h in record { typed = λ k d l. still_of_type n n.objects roots (λ p. refl) f _ (x.typed k d l); single = x.single };
  defaults = w.defaults;
  differ = w.differ;
  opposites = w.opposites;
  contained_once = w.contained_once;
}

-- a model whose roots are all but one that is free, and then that one
pub freed_model : (n : Contents) (x : ObjId) → IsMetamodel n.meta → IsWired n → IsFree n x → ((p : ObjId) → Contains n.roots p → IsFree n p) → ((p : ObjId) → p ≢ x → IsFree n p → Contains n.roots p) → AllDiffer n.roots → (Contains n.roots x → ⊥) → IsModel (freed x n)
freed_model n x valid w free all most differ new = model_of (freed x n) valid (other_roots n (with_root x n.roots) w) (record {
  free = λ p k. ⊎_elim
      (λ (e : x ≡ p). subst (IsFree (freed x n)) e (record { exists = free.exists; none = free.none }))
      (λ (c : Contains n.roots p). let y = all p c in record { exists = y.exists; none = y.none })
      (inserted n.roots place x p k);
  root = λ p k. ⊎_elim
      (λ (e : p.0 ≡ x.0). subst (Contains (with_root x n.roots)) (sym (same_object p x e)) (inserted_new n.roots place x))
      (λ (d : p.0 ≢ x.0). inserted_old n.roots place x p (most p (λ e. d (ap (λ z. z.0) e)) (record { exists = k.exists; none = k.none })))
      (cases_eq p.0 x.0);
  differ = inserted_differ n.roots place x differ new;
})
  where
    place : ℕ
    place = position_or_len (λ r. nat_lt x.0 r.0) n.roots

module _ (m : Contents) (valid : IsMetamodel m.meta) (model : IsModel m) (o : ObjId) (f : FeatId) (q : ObjId) (r : refers m.meta f ≡ true) (there : Refers m o f q) where
  abbrev cut_both : Contents
  cut_both = cut_back o f q (cut o f q m)

  abbrev Gone : ObjId → FeatId → ObjId → Type 0
  Gone = IsEnd m.meta o f q

  left : IsWithout m cut_both Gone
  left = ends_without m valid model.shaped o f q r

  still_wired : IsWired cut_both
  still_wired = wired_without m cut_both valid (wired m model) Gone (ends_go_in_pairs m.meta valid o q f) left

  -- the roots are not touched by the cuts
  same_roots : cut_both.roots ≡ m.roots
  unfolding cut_back
  same_roots = on (opposite (cut o f q m).meta f)
    where
      first : (cut o f q m).roots ≡ m.roots
      first = (cut_changes m model.shaped o f q).roots

      on : (x : Option FeatId) → (option_map_or (λ g. cut q g o (cut o f q m)) x (cut o f q m)).roots ≡ m.roots
      on None = first
      on (Some g) = (cut_changes (cut o f q m) (subst (λ z. AreShaped z (cut o f q m).objects) (sym (cut_without m model.shaped o f q r).meta) (cut_without m model.shaped o f q r).shaped) q g o).roots ∙ first

  -- what is free
  abbrev now : Contents
  now = cut_both

  now_contains : (h : FeatId) → contains now.meta h ≡ true → contains m.meta h ≡ true
  now_contains h c = sym (ap (λ z. contains z h) left.meta) ∙ c

  then_contains : (h : FeatId) → contains m.meta h ≡ true → contains now.meta h ≡ true
  then_contains h c = ap (λ z. contains z h) left.meta ∙ c

  still_free : (p : ObjId) → IsFree m p → IsFree now p
  still_free p k = record { exists = left.exists p ∙ k.exists; none = λ r h c y. k.none r h (now_contains h c) (left.fewer r h (Obj p) y) }

  -- free before, where what is gone did not contain it
  was_free : (p : ObjId) → ((r : ObjId) (h : FeatId) → contains m.meta h ≡ true → Gone r h p → ⊥) → IsFree now p → IsFree m p
  was_free p n k = record { exists = sym (left.exists p) ∙ k.exists; none = λ r h c y. k.none r h (then_contains h c) (left.kept r h p y (n r h c)) }

  before : AreRoots m
  before = are_roots m valid model

  exists_of : (p : ObjId) → (object : Object) × (object_at m.objects p ≡ Some object) → IsSome (object_at m.objects p)
  exists_of p x = ap is_some x.1

  now_valid : IsMetamodel now.meta
  now_valid = subst IsMetamodel (sym left.meta) valid

  all_free : (p : ObjId) → Contains now.roots p → IsFree now p
  all_free p k = still_free p (before.free p (subst (λ l. Contains l p) same_roots k))

  none_twice : AllDiffer now.roots
  none_twice = subst AllDiffer (sym same_roots) before.differ

  -- one that was contained by the pair becomes a root
  with_freed : (x r : ObjId) (h : FeatId) → contains m.meta h ≡ true → Refers m r h x → Gone r h x → ((p : ObjId) → p ≢ x → (s : ObjId) (k : FeatId) → contains m.meta k ≡ true → Gone s k p → ⊥) → IsModel (freed x now)
  with_freed x r h c y g n = freed_model now x now_valid still_wired
      (record {
        exists = left.exists x ∙ exists_of x (referred_to m model r h x y);
        none = λ s k d z.
            let same = model.contained_once r s x h k c (now_contains k d) y (left.fewer s k (Obj x) z) in
            left.gone s k x z (subst (λ a. Gone a k x) same.0 (subst (λ b. Gone r b x) same.1 g));
      })
      all_free
      (λ p d k. subst (λ l. Contains l p) (sym same_roots) (before.root p (was_free p (n p d) k)))
      none_twice
      (λ k. (before.free x (subst (λ l. Contains l x) same_roots k)).none r h c y)

  unlinked : (a b : Bool) → contains m.meta f ≡ a → is_contained_by m.meta f ≡ b → IsModel (if a then freed q now else (if b then freed o now else now))
  unlinked true b i j = with_freed q o f i there (inl (refl, refl, refl)) apart
    where
      apart : (p : ObjId) → p ≢ q → (s : ObjId) (k : FeatId) → contains m.meta k ≡ true → Gone s k p → ⊥
      apart p d s k c (inl t) = d t.2
      apart p d s k c (inr t) = one_contains m.meta valid f t.0 t.1 i (ap (contains m.meta) (sym t.2.1) ∙ c)
  unlinked false true i j = with_freed o q e.0 e.2 (model.opposites o q f e.0 e.1 there) (inr (e.0, e.1, (refl, refl, refl))) apart
    where
      e : (g : FeatId) × (opposite m.meta f ≡ Some g) × (contains m.meta g ≡ true)
      e = contained_end m.meta f j

      apart : (p : ObjId) → p ≢ o → (s : ObjId) (k : FeatId) → contains m.meta k ≡ true → Gone s k p → ⊥
      apart p d s k c (inl t) = true≢false (sym c ∙ ap (contains m.meta) t.1 ∙ i)
      apart p d s k c (inr t) = d t.2.2
  unlinked false false i j = model_of now now_valid still_wired (record {
    free = all_free;
    root = λ p k. subst (λ l. Contains l p) (sym same_roots) (before.root p (was_free p (apart p) k));
    differ = none_twice;
  })
    where
      apart : (p : ObjId) (s : ObjId) (k : FeatId) → contains m.meta k ≡ true → Gone s k p → ⊥
      apart p s k c (inl t) = true≢false (sym c ∙ ap (contains m.meta) t.1 ∙ i)
      apart p s k c (inr t) = true≢false (sym (ap (λ x. option_map_or (contains m.meta) x false) t.1 ∙ ap (contains m.meta) (sym t.2.1) ∙ c) ∙ j)

  freed_by_meta : unlink o f q m ≡ (if contains m.meta f then freed q now else (if is_contained_by m.meta f then freed o now else now))
  unfolding unlink free_ends
  freed_by_meta = ap (λ b. if b then freed q now else (if is_contained_by now.meta f then freed o now else now)) (ap (λ z. contains z f) left.meta)
      ∙ ap (λ b. if contains m.meta f then freed q now else (if b then freed o now else now)) (ap (λ z. is_contained_by z f) left.meta)

  pub unlink_is_model : IsModel (unlink o f q m)
  unlink_is_model = subst IsModel (sym freed_by_meta) (unlinked (contains m.meta f) (is_contained_by m.meta f) refl refl)

  -- and takes the pair alone
  same_but_roots : (roots : List ObjId) → IsWithout m (record { meta = now.meta; objects = now.objects; roots = roots }) Gone
  same_but_roots roots = record { meta = left.meta; shaped = left.shaped; class = left.class; exists = left.exists; has = left.has; fewer = left.fewer; gone = left.gone; kept = left.kept; shorter = left.shorter; differ = left.differ; attributes = left.attributes }

  pub unlink_without : IsWithout m (unlink o f q m) Gone
  unlink_without = subst (λ n. IsWithout m n Gone) (sym freed_by_meta) (on (contains m.meta f) (is_contained_by m.meta f))
    where
      on : (a b : Bool) → IsWithout m (if a then freed q now else (if b then freed o now else now)) Gone
      on true b = same_but_roots (with_root q now.roots)
      on false true = same_but_roots (with_root o now.roots)
      on false false = left
