-- A pair appended leaves a model, where there is room for it.
use Rattle.std.proofs.Common.{◌≡◌, ◌≢◌, ◌≤◌, ◌⊎◌, inl, inr, List, [], ◌∷◌, ◌++◌, length, refl, sym, ap, ◌∙◌, subst, ⊎_elim, arith, Option, Some, None}
use Rattle.std.specs.Prelude.{Bool, true, false, slice_index_or, slice_get, is_some, if◌then◌else◌, Contains, All, IsSome, IfSome}
use Rattle.std.specs.Option.{option_map_or, IsSomeAnd}
use Rattle.std.proofs.lemmas.Bool.{cases_eq, true≢false}
use Rattle.std.proofs.lemmas.List.{get_or_default, length-append}
use Rattle.std.proofs.lemmas.List.Elements.{Contains-append_left, Contains-append_right, Contains-append_cases}
use Rattle.std.proofs.lemmas.List.Quantifiers.{all_pairs_push}
use Rattle.std.proofs.lemmas.Option.{none-some, same_Some}
use Rattle.atl_base.specs.declared.numbers.FeatId.{FeatId}
use Rattle.atl_base.specs.declared.numbers.ObjId.{ObjId}
use Rattle.ecore_meta.specs.Valid.{AllDiffer, IsMetamodel}
use Rattle.model_store.specs.declared.parts.Cellv.{Cellv}
use Rattle.model_store.specs.declared.parts.Cellv.TheVariants.{Obj}
use Rattle.model_store.specs.Contents.{Contents, object_at, class_of, slot, refers, is_many, contains, opposite, is_contained_by, refusal, holds, set_slot, AreShaped}
use Rattle.model_store.specs.Valid.{IsModel, IsConcrete, IsOfType, Fits, HasSlot, Refers}
use Rattle.model_store.specs.Writes.{join, join_back, take_ends_in, link, taken_in, without_root}
use Rattle.model_store.proofs.Created.{all_contained}
use Rattle.model_store.proofs.ListedRoots.{left_root, root_left, left_differ}
use Rattle.model_store.proofs.Removing.{IsChanged, IsThis, join_changes}
use Rattle.model_store.proofs.Slots.{same_object, same_feature}
use Rattle.model_store.proofs.Thinned.{Contains_none, Contains_cases, Contains_first, held, not_held}
use Rattle.model_store.proofs.Wired.{IsWired, IsEnd, ends_go_in_pairs, opposite_refers, still_of_type}
use Rattle.model_store.proofs.Unlinked.{IsFree, AreRoots, are_roots, model_of, one_contains, contained_end, other_roots}

-- References are new, and nothing else is changed.
pub record IsWith (m n : Contents) (New : ObjId → FeatId → ObjId → Type 0) : Type 0 where
  pub meta : n.meta ≡ m.meta
  pub shaped : AreShaped m.meta n.objects
  pub class : (p : ObjId) → class_of n p ≡ class_of m p
  pub exists : (p : ObjId) → is_some (object_at n.objects p) ≡ is_some (object_at m.objects p)
  pub has : (p : ObjId) (g : FeatId) → refusal n p g ≡ refusal m p g
  pub more : (p : ObjId) (g : FeatId) (v : Cellv) → Contains (slot m p g) v → Contains (slot n p g) v
  pub new : (p : ObjId) (g : FeatId) (q : ObjId) → New p g q → Refers n p g q
  pub known : (p : ObjId) (g : FeatId) (v : Cellv) → Contains (slot n p g) v → Contains (slot m p g) v ⊎ ((q : ObjId) × (Obj q ≡ v) × New p g q)
  pub single : (p : ObjId) (g : FeatId) → is_many m.meta g ≡ false → length (slot m p g) ≤ 1 → length (slot n p g) ≤ 1
  pub differ : (p : ObjId) (g : FeatId) → AllDiffer (slot m p g) → AllDiffer (slot n p g)
  pub attributes : (p : ObjId) (g : FeatId) → refers m.meta g ≡ false → slot n p g ≡ slot m p g

-- there is room for one more
abbrev pub HasRoom : Contents → ObjId → FeatId → Type 0
HasRoom m x h = (is_many m.meta h ≡ true) ⊎ (slot m x h ≡ [])

join_with : (m : Contents) → AreShaped m.meta m.objects → (x : ObjId) (h : FeatId) (y : ObjId) → HasSlot m x h → refers m.meta h ≡ true → holds y (slot m x h) ≡ false → HasRoom m x h → IsWith m (join x h y m) (IsThis x h y)
join_with m shaped x h y has r n room = made (join_changes m shaped x h y has n)
  where
    longer : List Cellv
    longer = slot m x h ++ Obj y ∷ []

    made : IsChanged m (join x h y m) x h (slot m x h ++ Obj y ∷ []) → IsWith m (join x h y m) (IsThis x h y)
    made c = record {
      meta = c.meta;
      shaped = c.shaped;
      class = c.class;
      exists = c.exists;
      has = c.has;
      more = λ p g v. by (λ p g. Contains (slot m p g) v → Contains (slot (join x h y m) p g) v) (λ k. subst (λ l. Contains l v) (sym c.changed) (Contains-append_left (slot m x h) (Obj y ∷ []) v k)) (λ p g d k. subst (λ l. Contains l v) (sym (c.others p g d)) k) p g;
      new = λ p g q t. subst (λ z. Refers (join x h y m) z g q) (sym t.0) (subst (λ z. Refers (join x h y m) x z q) (sym t.1) (subst (λ z. Refers (join x h y m) x h z) (sym t.2) (subst (λ l. Contains l (Obj y)) (sym c.changed) (Contains-append_right (slot m x h) (Obj y ∷ []) (Obj y) (Contains_first (Obj y) [])))));
      known = λ p g v. by (λ p g. Contains (slot (join x h y m) p g) v → Contains (slot m p g) v ⊎ ((q : ObjId) × (Obj q ≡ v) × IsThis x h y p g q))
          (λ k. ⊎_elim (λ a. inl a) (λ b. ⊎_elim (λ e. inr (y, e, (refl, refl, refl))) (λ z. absurd (Contains_none v z)) (Contains_cases (Obj y) v [] b)) (Contains-append_cases (slot m x h) (Obj y ∷ []) v (subst (λ l. Contains l v) c.changed k)))
          (λ p g d k. inl (subst (λ l. Contains l v) (c.others p g d) k)) p g;
      single = by (λ p g. is_many m.meta g ≡ false → length (slot m p g) ≤ 1 → length (slot (join x h y m) p g) ≤ 1)
          (λ s k. ⊎_elim (λ t. absurd (true≢false (sym t ∙ s))) (λ e. let z = ap length c.changed in let w = ap length e in omega (arith, z, w, length-append (slot m x h) (Obj y ∷ []))) room)
          (λ p g d s k. let z = ap length (c.others p g d) in omega (arith, z, k));
      differ = by (λ p g. AllDiffer (slot m p g) → AllDiffer (slot (join x h y m) p g))
          (λ k. subst AllDiffer (sym c.changed) (all_pairs_push (λ a b. a ≢ b) (slot m x h) (Obj y) k (λ i d l e. not_held y (slot m x h) n (i, l, sym (get_or_default (slot m x h) i d (Obj y) l) ∙ e))))
          (λ p g d k. subst AllDiffer (sym (c.others p g d)) k);
      attributes = λ p g a. c.others p g (λ s t. true≢false (sym r ∙ ap (refers m.meta) (sym t) ∙ a));
    }
      where
        by : (P : ObjId → FeatId → Type 0) → P x h → ((p : ObjId) (g : FeatId) → (p ≡ x → g ≡ h → ⊥) → P p g) → (p : ObjId) (g : FeatId) → P p g
        by P k o p g = ⊎_elim
            (λ e. ⊎_elim
            (λ i. subst (λ q. P q g) (sym (same_object p x e)) (subst (P x) (sym (same_feature g h i)) k))
            (λ d. o p g (λ _ z. d (ap (λ z. z.0) z)))
            (cases_eq g.0 h.0))
            (λ d. o p g (λ z _. d (ap (λ z. z.0) z)))
            (cases_eq p.0 x.0)

-- one that is there already
already_with : (m : Contents) → AreShaped m.meta m.objects → (x : ObjId) (h : FeatId) (y : ObjId) → Refers m x h y → IsWith m m (IsThis x h y)
already_with m shaped x h y r = record {
  meta = refl;
  shaped = shaped;
  class = λ p. refl;
  exists = λ p. refl;
  has = λ p g. refl;
  more = λ p g v k. k;
  new = λ p g q t. subst (λ z. Refers m z g q) (sym t.0) (subst (λ z. Refers m x z q) (sym t.1) (subst (λ z. Refers m x h z) (sym t.2) r));
  known = λ p g v k. inl k;
  single = λ p g s k. k;
  differ = λ p g k. k;
  attributes = λ p g a. refl;
}

with_both : (m n k : Contents) (G H : ObjId → FeatId → ObjId → Type 0) → IsWith m n G → IsWith n k H → IsWith m k (λ p g q. G p g q ⊎ H p g q)
with_both m n k G H a b = record {
  meta = b.meta ∙ a.meta;
  shaped = subst (λ z. AreShaped z k.objects) a.meta b.shaped;
  class = λ p. b.class p ∙ a.class p;
  exists = λ p. b.exists p ∙ a.exists p;
  has = λ p g. b.has p g ∙ a.has p g;
  more = λ p g v h. b.more p g v (a.more p g v h);
  new = λ p g q t. ⊎_elim (λ x. b.more p g (Obj q) (a.new p g q x)) (λ y. b.new p g q y) t;
  known = λ p g v h. ⊎_elim (λ x. ⊎_elim (λ y. inl y) (λ y. inr (y.0, y.1, inl y.2)) (a.known p g v x)) (λ x. inr (x.0, x.1, inr x.2)) (b.known p g v h);
  single = λ p g s h. b.single p g (ap (λ z. is_many z g) a.meta ∙ s) (a.single p g s h);
  differ = λ p g h. b.differ p g (a.differ p g h);
  attributes = λ p g h. b.attributes p g (ap (λ z. refers z g) a.meta ∙ h) ∙ a.attributes p g h;
}

new_as : (m n : Contents) (G H : ObjId → FeatId → ObjId → Type 0) → ((p : ObjId) (g : FeatId) (q : ObjId) → G p g q → H p g q) → ((p : ObjId) (g : FeatId) (q : ObjId) → H p g q → G p g q) → IsWith m n G → IsWith m n H
new_as m n G H to from x = record {
  meta = x.meta;
  shaped = x.shaped;
  class = x.class;
  exists = x.exists;
  has = x.has;
  more = x.more;
  new = λ p g q t. x.new p g q (from p g q t);
  known = λ p g v k. ⊎_elim (λ a. inl a) (λ b. inr (b.0, b.1, to p g b.0 b.2)) (x.known p g v k);
  single = x.single;
  differ = x.differ;
  attributes = x.attributes;
}

-- joining what is held changes nothing
held_joins : (m : Contents) (x : ObjId) (h : FeatId) (y : ObjId) → holds y (slot m x h) ≡ true → join x h y m ≡ m
unfolding join
held_joins m x h y e = ap (λ b. if b then m else set_slot m x h (slot m x h ++ Obj y ∷ [])) e

-- a model whose roots are all but one that is contained, and that one taken out
taken_model : (n : Contents) (x : ObjId) → IsMetamodel n.meta → IsWired n → ((p : ObjId) → Contains n.roots p → p ≢ x → IsFree n p) → ((p : ObjId) → IsFree n p → Contains n.roots p × (p ≢ x)) → AllDiffer n.roots → IsModel (taken_in x n)
taken_model n x valid w free root differ = model_of (taken_in x n) valid (other_roots n (without_root x n.roots) w) (record {
  free = λ p k. let y = left_root x p n.roots k in let z = free p y.0 y.1 in record { exists = z.exists; none = z.none };
  root = λ p k. let y = root p (record { exists = k.exists; none = k.none }) in root_left x p n.roots y.0 y.1;
  differ = left_differ x n.roots differ;
})

-- ## What may be appended

-- The pair fits: the slots are there, are of its types, don't hold it and have room, and what it contains is free.
pub record MayLink (m : Contents) (o : ObjId) (f : FeatId) (q : ObjId) : Type 0 where
  pub has : HasSlot m o f
  pub reference : refers m.meta f ≡ true
  pub typed : IsOfType m f (Obj q)
  pub apart : holds q (slot m o f) ≡ false
  pub room : HasRoom m o f
  pub back : (g : FeatId) → opposite m.meta f ≡ Some g → HasSlot m q g × IsOfType m g (Obj o) × HasRoom m q g
  pub content : contains m.meta f ≡ true → IsFree m q
  pub container : (g : FeatId) → opposite m.meta f ≡ Some g → contains m.meta g ≡ true → IsFree m o

module _ (m : Contents) (valid : IsMetamodel m.meta) (model : IsModel m) (o : ObjId) (f : FeatId) (q : ObjId) (may : MayLink m o f q) where
  abbrev New : ObjId → FeatId → ObjId → Type 0
  New = IsEnd m.meta o f q

  abbrev joined : Contents
  joined = join o f q m

  first : IsWith m joined (IsThis o f q)
  first = join_with m model.shaped o f q may.has may.reference may.apart may.room

  joined_shaped : AreShaped joined.meta joined.objects
  joined_shaped = subst (λ z. AreShaped z joined.objects) (sym first.meta) first.shaped

  -- the other end
  back_with : (g : FeatId) → opposite m.meta f ≡ Some g → IsWith joined (join q g o joined) (IsThis q g o)
  back_with g e = on (holds o (slot joined q g)) refl
    where
      -- without the other end, it is not that of the pair itself
      old_slot : holds o (slot joined q g) ≡ false → slot joined q g ≡ slot m q g
      old_slot n = (join_changes m model.shaped o f q may.has may.apart).others q g (λ s t. not_held o (slot joined q g) n
          (subst (λ z. Refers joined q z o) (sym t) (subst (λ z. Refers joined z f o) (sym s) (subst (λ z. Refers joined o f z) s (first.new o f q (refl, refl, refl))))))

      room : holds o (slot joined q g) ≡ false → HasRoom joined q g
      room n = ⊎_elim (λ t. inl (ap (λ z. is_many z g) first.meta ∙ t)) (λ s. inr (old_slot n ∙ s)) (may.back g e).2

      on : (b : Bool) → holds o (slot joined q g) ≡ b → IsWith joined (join q g o joined) (IsThis q g o)
      on true h = subst (λ k. IsWith joined k (IsThis q g o)) (sym (held_joins joined q g o h)) (already_with joined joined_shaped q g o (held o (slot joined q g) h))
      on false h = join_with joined joined_shaped q g o (first.has q g ∙ (may.back g e).0) (ap (λ z. refers z g) first.meta ∙ opposite_refers m.meta valid f g e) h (room h)

  abbrev now : Contents
  now = join_back o f q joined

  both : IsWith m now New
  unfolding join_back
  both = on (opposite m.meta f) refl
    where
      back : (x : Option FeatId) → opposite m.meta f ≡ x → option_map_or (λ g. join q g o joined) (opposite joined.meta f) joined ≡ option_map_or (λ g. join q g o joined) x joined
      back x e = ap (λ y. option_map_or (λ g. join q g o joined) y joined) (ap (λ z. opposite z f) first.meta ∙ e)

      on : (x : Option FeatId) → opposite m.meta f ≡ x → IsWith m (option_map_or (λ g. join q g o joined) (opposite joined.meta f) joined) New
      on None e = subst (λ k. IsWith m k New) (sym (back None e)) (new_as m joined (IsThis o f q) New (λ p g y t. inl t) (λ p g y t. ⊎_elim (λ a. a) (λ b. absurd (none-some b.0 (sym e ∙ b.1))) t) first)
      on (Some g) e = subst (λ k. IsWith m k New) (sym (back (Some g) e))
          (new_as m (join q g o joined) (λ p h y. IsThis o f q p h y ⊎ IsThis q g o p h y) New
          (λ p h y t. ⊎_elim (λ a. inl a) (λ b. inr (g, e, b)) t)
          (λ p h y t. ⊎_elim (λ a. inl a) (λ b. inr (b.2.0, b.2.1 ∙ same_Some b.0 g (sym b.1 ∙ e), b.2.2)) t)
          (with_both m joined (join q g o joined) (IsThis o f q) (IsThis q g o) first (back_with g e)))

  -- ## What is wired

  new_typed : (p : ObjId) (g : FeatId) (y : ObjId) → New p g y → IsOfType m g (Obj y)
  new_typed p g y (inl t) = subst (λ z. IsOfType m z (Obj y)) (sym t.1) (subst (λ z. IsOfType m f (Obj z)) (sym t.2) may.typed)
  new_typed p g y (inr t) = subst (λ z. IsOfType m z (Obj y)) (sym t.2.1) (subst (λ z. IsOfType m t.0 (Obj z)) (sym t.2.2) (may.back t.0 t.1).1)

  -- what the pair contains is free
  new_free : (p : ObjId) (g : FeatId) (y : ObjId) → New p g y → contains m.meta g ≡ true → IsFree m y
  new_free p g y (inl t) c = subst (IsFree m) (sym t.2) (may.content (ap (contains m.meta) (sym t.1) ∙ c))
  new_free p g y (inr t) c = subst (IsFree m) (sym t.2.2) (may.container t.0 t.1 (ap (contains m.meta) (sym t.2.1) ∙ c))

  -- and is contained by it once
  new_once : (p r y : ObjId) (g h : FeatId) → contains m.meta g ≡ true → contains m.meta h ≡ true → New p g y → New r h y → (p ≡ r) × (g ≡ h)
  new_once p r y g h c d (inl s) (inl t) = (s.0 ∙ sym t.0, s.1 ∙ sym t.1)
  new_once p r y g h c d (inl s) (inr t) = absurd (one_contains m.meta valid f t.0 t.1 (ap (contains m.meta) (sym s.1) ∙ c) (ap (contains m.meta) (sym t.2.1) ∙ d))
  new_once p r y g h c d (inr s) (inl t) = absurd (one_contains m.meta valid f s.0 s.1 (ap (contains m.meta) (sym t.1) ∙ d) (ap (contains m.meta) (sym s.2.1) ∙ c))
  new_once p r y g h c d (inr s) (inr t) = (s.2.0 ∙ sym t.2.0, s.2.1 ∙ same_Some s.0 t.0 (sym s.1 ∙ t.1) ∙ sym t.2.1)

  object_of : (a b : ObjId) → Obj a ≡ Obj b → a ≡ b
  object_of a b e = ap number e
    where
      number : Cellv → ObjId
      number (Obj q) = q
      number c = a

  -- a reference is one of before, or of the pair
  refers_now : (p : ObjId) (g : FeatId) (y : ObjId) → Refers now p g y → Refers m p g y ⊎ New p g y
  refers_now p g y k = ⊎_elim (λ a. inl a) (λ b. inr (subst (New p g) (object_of b.0 y b.1) b.2)) (both.known p g (Obj y) k)

  still_typed : (g : FeatId) (v : Cellv) → IsOfType m g v → IsOfType (record { meta = m.meta; objects = now.objects; roots = now.roots }) g v
  still_typed g v t = still_of_type m now.objects now.roots same g v t
    where
      same : (p : ObjId) → class_of now p ≡ class_of m p
      same p = both.class p

  same_now : now ≡ record { meta = m.meta; objects = now.objects; roots = now.roots }
  same_now = ap (λ z. record { meta = z; objects = now.objects; roots = now.roots }) both.meta

  all_typed : (p : ObjId) (g : FeatId) → Fits m g (slot m p g) → All (IsOfType now g) (slot now p g)
  all_typed p g h k d l =
      let v = slice_index_or (slot now p g) k d in
      subst (λ z. IsOfType z g v) (sym same_now) (still_typed g v (⊎_elim
      (λ a. all_contained (IsOfType m g) (slot m p g) v h.typed a)
      (λ b. subst (IsOfType m g) b.1 (new_typed p g b.0 b.2))
      (both.known p g v (k, l, sym (get_or_default (slot now p g) k d v l)))))

  still_wired : IsWired now
  still_wired = record {
    shaped = subst (λ z. AreShaped z now.objects) (sym both.meta) both.shaped;
    concrete = λ p. subst (λ z. IfSome (class_of now p) (IsConcrete z)) (sym both.meta) (subst (λ c. IfSome c (IsConcrete m.meta)) (sym (both.class p)) (model.concrete p));
    fits = λ p g h. let old = model.fits p g (sym (both.has p g) ∙ h) in record { typed = all_typed p g old; single = λ s. both.single p g (sym (ap (λ z. is_many z g) both.meta) ∙ s) (old.single (sym (ap (λ z. is_many z g) both.meta) ∙ s)) };
    defaults = λ p g h r s d e. let r = sym (ap (λ z. refers z g) both.meta) ∙ r in model.defaults p g (sym (both.has p g) ∙ h) r (sym (ap (λ z. is_many z g) both.meta) ∙ s) (subst (λ z. IsSomeAnd (slice_get z.features g.0) (λ feature. IsSome feature.default)) both.meta d) (sym (both.attributes p g r) ∙ e);
    differ = λ p g r. both.differ p g (model.differ p g (sym (ap (λ z. refers z g) both.meta) ∙ r));
    opposites = λ p y g h e k. let e = sym (ap (λ z. opposite z g) both.meta) ∙ e in ⊎_elim
        (λ a. both.more y h (Obj p) (model.opposites p y g h e a))
        (λ b. both.new y h p (ends_go_in_pairs m.meta valid o q f p y g h e b))
        (refers_now p g y k);
    contained_once = λ p r y g h c d j k.
        let c = sym (ap (λ z. contains z g) both.meta) ∙ c in
        let d = sym (ap (λ z. contains z h) both.meta) ∙ d in
        ⊎_elim
        (λ a. ⊎_elim (λ b. model.contained_once p r y g h c d a b) (λ t. absurd ((new_free r h y t d).none p g c a)) (refers_now r h y k))
        (λ s. ⊎_elim (λ b. absurd ((new_free p g y s c).none r h d b)) (λ t. new_once p r y g h c d s t) (refers_now r h y k))
        (refers_now p g y j);
  }

  -- ## The roots

  joined_roots : joined.roots ≡ m.roots
  joined_roots = (join_changes m model.shaped o f q may.has may.apart).roots

  back_roots : (g : FeatId) → opposite m.meta f ≡ Some g → (join q g o joined).roots ≡ joined.roots
  back_roots g e = on (holds o (slot joined q g)) refl
    where
      on : (b : Bool) → holds o (slot joined q g) ≡ b → (join q g o joined).roots ≡ joined.roots
      on true h = ap (λ z. z.roots) (held_joins joined q g o h)
      on false h = (join_changes joined joined_shaped q g o (first.has q g ∙ (may.back g e).0) h).roots

  same_roots : now.roots ≡ m.roots
  unfolding join_back
  same_roots = on (opposite m.meta f) refl
    where
      on : (x : Option FeatId) → opposite m.meta f ≡ x → (option_map_or (λ g. join q g o joined) (opposite joined.meta f) joined).roots ≡ m.roots
      on None e = ap (λ y. (option_map_or (λ g. join q g o joined) y joined).roots) (ap (λ z. opposite z f) first.meta ∙ e) ∙ joined_roots
      on (Some g) e = ap (λ y. (option_map_or (λ g. join q g o joined) y joined).roots) (ap (λ z. opposite z f) first.meta ∙ e) ∙ back_roots g e ∙ joined_roots

  before : AreRoots m
  before = are_roots m valid model

  now_valid : IsMetamodel now.meta
  now_valid = subst IsMetamodel (sym both.meta) valid

  none_twice : AllDiffer now.roots
  none_twice = subst AllDiffer (sym same_roots) before.differ

  then_contains : (h : FeatId) → contains m.meta h ≡ true → contains now.meta h ≡ true
  then_contains h c = ap (λ z. contains z h) both.meta ∙ c

  now_contains : (h : FeatId) → contains now.meta h ≡ true → contains m.meta h ≡ true
  now_contains h c = sym (ap (λ z. contains z h) both.meta) ∙ c

  was_free : (p : ObjId) → IsFree now p → IsFree m p
  was_free p k = record { exists = sym (both.exists p) ∙ k.exists; none = λ r h c y. k.none r h (then_contains h c) (both.more r h (Obj p) y) }

  still_free : (p : ObjId) → ((r : ObjId) (h : FeatId) → contains m.meta h ≡ true → New r h p → ⊥) → IsFree m p → IsFree now p
  still_free p n k = record { exists = both.exists p ∙ k.exists; none = λ r h c y. ⊎_elim (λ a. k.none r h (now_contains h c) a) (λ b. n r h (now_contains h c) b) (refers_now r h p y) }

  with_taken : (x r : ObjId) (h : FeatId) → contains m.meta h ≡ true → New r h x → ((p : ObjId) → p ≢ x → (s : ObjId) (k : FeatId) → contains m.meta k ≡ true → New s k p → ⊥) → IsModel (taken_in x now)
  with_taken x r h c y n = taken_model now x now_valid still_wired
      (λ p k d. still_free p (n p d) (before.free p (subst (λ l. Contains l p) same_roots k)))
      (λ p k. (subst (λ l. Contains l p) (sym same_roots) (before.root p (was_free p k)), λ e. k.none r h (then_contains h c) (subst (Refers now r h) (sym e) (both.new r h x y))))
      none_twice

  linked : (a b : Bool) → contains m.meta f ≡ a → is_contained_by m.meta f ≡ b → IsModel (if a then taken_in q now else (if b then taken_in o now else now))
  linked true b i j = with_taken q o f i (inl (refl, refl, refl)) apart
    where
      apart : (p : ObjId) → p ≢ q → (s : ObjId) (k : FeatId) → contains m.meta k ≡ true → New s k p → ⊥
      apart p d s k c (inl t) = d t.2
      apart p d s k c (inr t) = one_contains m.meta valid f t.0 t.1 i (ap (contains m.meta) (sym t.2.1) ∙ c)
  linked false true i j = with_taken o q e.0 e.2 (inr (e.0, e.1, (refl, refl, refl))) apart
    where
      e : (g : FeatId) × (opposite m.meta f ≡ Some g) × (contains m.meta g ≡ true)
      e = contained_end m.meta f j

      apart : (p : ObjId) → p ≢ o → (s : ObjId) (k : FeatId) → contains m.meta k ≡ true → New s k p → ⊥
      apart p d s k c (inl t) = true≢false (sym c ∙ ap (contains m.meta) t.1 ∙ i)
      apart p d s k c (inr t) = d t.2.2
  linked false false i j = model_of now now_valid still_wired (record {
    free = λ p k. still_free p (apart p) (before.free p (subst (λ l. Contains l p) same_roots k));
    root = λ p k. subst (λ l. Contains l p) (sym same_roots) (before.root p (was_free p k));
    differ = none_twice;
  })
    where
      apart : (p : ObjId) (s : ObjId) (k : FeatId) → contains m.meta k ≡ true → New s k p → ⊥
      apart p s k c (inl t) = true≢false (sym c ∙ ap (contains m.meta) t.1 ∙ i)
      apart p s k c (inr t) = true≢false (sym (ap (λ x. option_map_or (contains m.meta) x false) t.1 ∙ ap (contains m.meta) (sym t.2.1) ∙ c) ∙ j)

  taken_by_meta : link o f q m ≡ (if contains m.meta f then taken_in q now else (if is_contained_by m.meta f then taken_in o now else now))
  unfolding link take_ends_in
  taken_by_meta = ap (λ b. if b then taken_in q now else (if is_contained_by now.meta f then taken_in o now else now)) (ap (λ z. contains z f) both.meta)
      ∙ ap (λ b. if contains m.meta f then taken_in q now else (if b then taken_in o now else now)) (ap (λ z. is_contained_by z f) both.meta)

  pub link_is_model : IsModel (link o f q m)
  link_is_model = subst IsModel (sym taken_by_meta) (linked (contains m.meta f) (is_contained_by m.meta f) refl refl)

  -- the classes stay
  pub link_class : (p : ObjId) → class_of (link o f q m) p ≡ class_of m p
  link_class p = ap (λ z. class_of z p) taken_by_meta ∙ on (contains m.meta f) (is_contained_by m.meta f)
    where
      on : (a b : Bool) → class_of (if a then taken_in q now else (if b then taken_in o now else now)) p ≡ class_of m p
      on true b = both.class p
      on false true = both.class p
      on false false = both.class p

  pub link_meta : (link o f q m).meta ≡ m.meta
  link_meta = ap (λ z. z.meta) taken_by_meta ∙ on (contains m.meta f) (is_contained_by m.meta f)
    where
      on : (a b : Bool) → (if a then taken_in q now else (if b then taken_in o now else now)).meta ≡ m.meta
      on true b = both.meta
      on false true = both.meta
      on false false = both.meta

  pub link_has : (p : ObjId) (g : FeatId) → refusal (link o f q m) p g ≡ refusal m p g
  link_has p g = ap (λ z. refusal z p g) taken_by_meta ∙ on (contains m.meta f) (is_contained_by m.meta f)
    where
      on : (a b : Bool) → refusal (if a then taken_in q now else (if b then taken_in o now else now)) p g ≡ refusal m p g
      on true b = both.has p g
      on false true = both.has p g
      on false false = both.has p g

  -- and its ends alone are new
  same_but_roots : (roots : List ObjId) → IsWith m (record { meta = now.meta; objects = now.objects; roots = roots }) New
  same_but_roots roots = record { meta = both.meta; shaped = both.shaped; class = both.class; exists = both.exists; has = both.has; more = both.more; new = both.new; known = both.known; single = both.single; differ = both.differ; attributes = both.attributes }

  pub link_with : IsWith m (link o f q m) New
  link_with = subst (λ n. IsWith m n New) (sym taken_by_meta) (on (contains m.meta f) (is_contained_by m.meta f))
    where
      on : (a b : Bool) → IsWith m (if a then taken_in q now else (if b then taken_in o now else now)) New
      on true b = same_but_roots (without_root q now.roots)
      on false true = same_but_roots (without_root o now.roots)
      on false false = both
