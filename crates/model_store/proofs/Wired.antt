-- Models but for their roots: what is wired stays so where references go in pairs.
use Rattle.std.proofs.Common.{◌≡◌, ◌≢◌, ◌<◌, ◌⊎◌, inl, inr, List, [], length, refl, sym, ap, ◌∙◌, subst, ⊎_elim, arith, Option, Some, None}
use Rattle.std.specs.Prelude.{true, false, slice_index_or, slice_get, IsSome, IfSome}
use Rattle.std.specs.Option.{option_map_or, IsSomeAnd}
use Rattle.std.proofs.lemmas.List.{get_or_default}
use Rattle.std.proofs.lemmas.Option.{none-some, same_Some, get_or_from_slice_get, slice_get_within, slice_get-get_or}
use Rattle.atl_base.specs.declared.numbers.FeatId.{FeatId}
use Rattle.atl_base.specs.declared.numbers.ObjId.{ObjId}
use Rattle.ecore_meta.specs.declared.parts.Feature.{Feature}
use Rattle.ecore_meta.specs.declared.parts.FeatKind.{FeatKind}
use Rattle.ecore_meta.specs.declared.parts.FeatKind.TheVariants as Kind
use Rattle.ecore_meta.specs.declared.parts.Parts.{Parts}
use Rattle.ecore_meta.specs.Inheritance.{Conforms}
use Rattle.ecore_meta.specs.Valid.{AllDiffer, IsMetamodel, IsKindWithin, AreOpposite, is_reference, opposite_of}
use Rattle.model_store.specs.declared.parts.Cellv.{Cellv}
use Rattle.model_store.specs.declared.parts.Cellv.TheVariants.{Words, Int, Truth, Literal, Obj}
use Rattle.model_store.specs.declared.parts.Object.{Object}
use Rattle.model_store.specs.Contents.{Contents, class_of, slot, refers, is_many, contains, opposite, AreShaped}
use Rattle.model_store.specs.Valid.{IsModel, IsConcrete, IsOfKind, IsOfType, Fits, HasSlot, Refers}
use Rattle.model_store.specs.Writes.{cut, cut_back}
use Rattle.model_store.proofs.Created.{some_and, all_contained}
use Rattle.model_store.proofs.Removing.{IsWithout, IsThis, cut_without}

-- a model, whatever its roots
pub record IsWired (m : Contents) : Type 0 where
  pub shaped : AreShaped m.meta m.objects
  pub concrete : (o : ObjId) → IfSome (class_of m o) (IsConcrete m.meta)
  pub fits : (o : ObjId) (f : FeatId) → HasSlot m o f → Fits m f (slot m o f)
  pub defaults : (o : ObjId) (f : FeatId) → HasSlot m o f → refers m.meta f ≡ false → is_many m.meta f ≡ false
      → IsSomeAnd (slice_get m.meta.features f.0) (λ feature. IsSome feature.default) → slot m o f ≢ []
  pub differ : (o : ObjId) (f : FeatId) → refers m.meta f ≡ true → AllDiffer (slot m o f)
  pub opposites : (o p : ObjId) (f g : FeatId) → opposite m.meta f ≡ Some g → Refers m o f p → Refers m p g o
  pub contained_once : (o r p : ObjId) (f h : FeatId) → contains m.meta f ≡ true → contains m.meta h ≡ true → Refers m o f p → Refers m r h p → (o ≡ r) × (f ≡ h)

pub wired : (m : Contents) → IsModel m → IsWired m
wired m h = record { shaped = h.shaped; concrete = h.concrete; fits = h.fits; defaults = h.defaults; differ = h.differ; opposites = h.opposites; contained_once = h.contained_once }

-- ## Opposites in a metamodel

module _ (meta : Parts) (valid : IsMetamodel meta) (f g : FeatId) where
  -- the other feature names this one back
  pub record IsBack : Type 0 where
    pub feature : Feature
    pub here : slice_get meta.features f.0 ≡ Some feature
    pub names : opposite_of feature.kind ≡ Some g
    pub other : Feature
    pub there : slice_get meta.features g.0 ≡ Some other
    pub back : opposite_of other.kind ≡ Some f
    pub fit : AreOpposite f feature other

  pub back_of : opposite meta f ≡ Some g → IsBack
  back_of e = by_feature (slice_get meta.features f.0) refl e
    where
      -- the number of an opposite is a feature's
      lost : (k : FeatKind) → opposite_of k ≡ Some g → IsKindWithin meta k → g.0 < length meta.features
      lost (Kind.Refer c inside (Some h)) e w = subst (λ x. x.0 < length meta.features) (same_Some h g e) w.1
      lost (Kind.Refer c inside None) e w = absurd (none-some g e)
      lost k e w = absurd (none-some g e)

      by_other : (feature : Feature) → slice_get meta.features f.0 ≡ Some feature → opposite_of feature.kind ≡ Some g → (y : Option Feature) → slice_get meta.features g.0 ≡ y → IsBack
      by_other feature there e None i =
          let l = lost feature.kind e (subst (λ z. IsKindWithin meta z.kind) (get_or_from_slice_get meta.features f.0 feature feature there) (valid.places.kinds f.0 feature (slice_get_within meta.features f.0 feature there))) in
          absurd (none-some (slice_index_or meta.features g.0 feature) (sym i ∙ slice_get-get_or meta.features g.0 feature l))
      by_other feature there e (Some other) i = let x = valid.opposites f g feature other there e i in record { feature = feature; here = there; names = e; other = other; there = i; back = x.returned; fit = x }

      by_feature : (x : Option Feature) → slice_get meta.features f.0 ≡ x → option_map_or (λ feature. opposite_of feature.kind) x None ≡ Some g → IsBack
      by_feature None there e = absurd (none-some g e)
      by_feature (Some feature) there e = by_other feature there e (slice_get meta.features g.0) refl

  pub opposite_back : opposite meta f ≡ Some g → opposite meta g ≡ Some f
  opposite_back e = let b = back_of e in ap (λ x. option_map_or (λ feature. opposite_of feature.kind) x None) b.there ∙ b.back

  pub opposite_refers : opposite meta f ≡ Some g → refers meta g ≡ true
  opposite_refers e = let b = back_of e in ap (λ x. option_map_or (λ feature. is_reference feature.kind) x false) b.there ∙ reference b.other.kind b.back
    where
      reference : (k : FeatKind) → opposite_of k ≡ Some f → is_reference k ≡ true
      reference (Kind.Refer c inside back) h = refl
      reference Kind.Str h = absurd (none-some f h)
      reference Kind.Int h = absurd (none-some f h)
      reference Kind.Truth h = absurd (none-some f h)
      reference (Kind.Enum e) h = absurd (none-some f h)
      reference Kind.Opaque h = absurd (none-some f h)

-- ## References that go in pairs

-- where one end goes, the other does
abbrev pub GoInPairs : Parts → (ObjId → FeatId → ObjId → Type 0) → Type 0
GoInPairs meta Gone = (p q : ObjId) (g h : FeatId) → opposite meta g ≡ Some h → Gone p g q → Gone q h p

module _ (m : Contents) (objects : List (Option Object)) (roots : List ObjId) where
  abbrev left : Contents
  left = record { meta = m.meta; objects = objects; roots = roots }

  still_of_kind : ((p : ObjId) → class_of left p ≡ class_of m p) → (kind : FeatKind) (v : Cellv) → IsOfKind m kind v → IsOfKind left kind v
  still_of_kind same Kind.Str (Words t) h = tt
  still_of_kind same Kind.Opaque (Words t) h = tt
  still_of_kind same Kind.Int (Int i) h = tt
  still_of_kind same Kind.Truth (Truth b) h = tt
  still_of_kind same (Kind.Enum e) (Literal l) h = h
  still_of_kind same (Kind.Refer k inside back) (Obj q) h = subst (λ c. IsSomeAnd c (λ own. Conforms m.meta.classes own k)) (sym (same q)) h
  still_of_kind same kind v h = absurd h

  pub still_of_type : ((p : ObjId) → class_of left p ≡ class_of m p) → (g : FeatId) (v : Cellv) → IsOfType m g v → IsOfType left g v
  still_of_type same g v h = some_and (slice_get m.meta.features g.0) (λ feature. IsOfKind m feature.kind v) (λ feature. IsOfKind left feature.kind v) (λ feature. still_of_kind same feature.kind v) h

  wired_left : IsMetamodel m.meta → IsWired m → (Gone : ObjId → FeatId → ObjId → Type 0) → GoInPairs m.meta Gone → IsWithout m left Gone → IsWired left
  wired_left valid w Gone pairs x = record {
    shaped = x.shaped;
    concrete = λ o. subst (λ c. IfSome c (IsConcrete m.meta)) (sym (x.class o)) (w.concrete o);
    fits = λ o f h. let old = w.fits o f (sym (x.has o f) ∙ h) in record {
      typed = λ k d l. let v = slice_index_or (slot left o f) k d in
          still_of_type x.class f v (all_contained (IsOfType m f) (slot m o f) v old.typed (x.fewer o f v (k, l, sym (get_or_default (slot left o f) k d v l))));
      single = λ s. let z = old.single s in omega (arith, z, x.shorter o f);
    };
    defaults = λ o f h r s d e. w.defaults o f (sym (x.has o f) ∙ h) r s d (sym (x.attributes o f r) ∙ e);
    differ = λ o f r. x.differ o f (w.differ o f r);
    opposites = λ o p f g e h. let old = w.opposites o p f g e (x.fewer o f (Obj p) h) in x.kept p g o old (λ t. x.gone o f p h (pairs p o g f (opposite_back m.meta valid f g e) t));
    contained_once = λ o r p f h c d y z. w.contained_once o r p f h c d (x.fewer o f (Obj p) y) (x.fewer r h (Obj p) z);
  }

-- what is left of what is wired is wired
pub wired_without : (m n : Contents) → IsMetamodel m.meta → IsWired m → (Gone : ObjId → FeatId → ObjId → Type 0) → GoInPairs m.meta Gone → IsWithout m n Gone → IsWired n
wired_without m n valid w Gone pairs x =
    let same : n ≡ record { meta = m.meta; objects = n.objects; roots = n.roots } = ap (λ z. record { meta = z; objects = n.objects; roots = n.roots }) x.meta in
    subst IsWired (sym same) (wired_left m n.objects n.roots valid w Gone pairs (subst (λ k. IsWithout m k Gone) same x))

-- ## A pair taken away

-- one after the other
pub without_both : (m n k : Contents) (G H : ObjId → FeatId → ObjId → Type 0) → IsWithout m n G → IsWithout n k H → IsWithout m k (λ p g q. G p g q ⊎ H p g q)
without_both m n k G H a b = record {
  meta = b.meta ∙ a.meta;
  shaped = subst (λ z. AreShaped z k.objects) a.meta b.shaped;
  class = λ p. b.class p ∙ a.class p;
  exists = λ p. b.exists p ∙ a.exists p;
  has = λ p g. b.has p g ∙ a.has p g;
  fewer = λ p g v h. a.fewer p g v (b.fewer p g v h);
  gone = λ p g q h t. ⊎_elim (λ x. a.gone p g q (b.fewer p g (Obj q) h) x) (λ y. b.gone p g q h y) t;
  kept = λ p g q h t. b.kept p g q (a.kept p g q h (λ x. t (inl x))) (λ y. t (inr y));
  shorter = λ p g. omega (arith, a.shorter p g, b.shorter p g);
  differ = λ p g h. b.differ p g (a.differ p g h);
  attributes = λ p g h. b.attributes p g (ap (λ z. refers z g) a.meta ∙ h) ∙ a.attributes p g h;
}

-- nothing is gone
none_without : (m : Contents) → AreShaped m.meta m.objects → IsWithout m m (λ p g q. ⊥)
none_without m shaped = record { meta = refl; shaped = shaped; class = λ p. refl; exists = λ p. refl; has = λ p g. refl; fewer = λ p g v h. h; gone = λ p g q h t. t; kept = λ p g q h t. h; shorter = λ p g. omega arith; differ = λ p g h. h; attributes = λ p g h. refl }

-- both ends of a pair
abbrev pub IsEnd : Parts → ObjId → FeatId → ObjId → ObjId → FeatId → ObjId → Type 0
IsEnd meta o f q x h y = IsThis o f q x h y ⊎ ((g : FeatId) × (opposite meta f ≡ Some g) × IsThis q g o x h y)

pub ends_go_in_pairs : (meta : Parts) → IsMetamodel meta → (o q : ObjId) (f : FeatId) → GoInPairs meta (IsEnd meta o f q)
ends_go_in_pairs meta valid o q f x y g h e (inl t) = inr (h, (ap (opposite meta) (sym t.1) ∙ e), (t.2, refl, t.0))
ends_go_in_pairs meta valid o q f x y g h e (inr t) =
    let back = opposite_back meta valid f t.0 t.1 in
    let same : h ≡ f = same_Some h f (sym e ∙ ap (opposite meta) t.2.1 ∙ back) in
    inl (t.2.2, same, t.2.0)

-- the same by other words
pub gone_as : (m n : Contents) (G H : ObjId → FeatId → ObjId → Type 0) → ((p : ObjId) (g : FeatId) (q : ObjId) → G p g q → H p g q) → ((p : ObjId) (g : FeatId) (q : ObjId) → H p g q → G p g q) → IsWithout m n G → IsWithout m n H
gone_as m n G H to from x = record {
  meta = x.meta;
  shaped = x.shaped;
  class = x.class;
  exists = x.exists;
  has = x.has;
  fewer = x.fewer;
  gone = λ p g q h t. x.gone p g q h (from p g q t);
  kept = λ p g q h t. x.kept p g q h (λ y. t (to p g q y));
  shorter = x.shorter;
  differ = x.differ;
  attributes = x.attributes;
}

pub ends_without : (m : Contents) → IsMetamodel m.meta → AreShaped m.meta m.objects → (o : ObjId) (f : FeatId) (q : ObjId) → refers m.meta f ≡ true → IsWithout m (cut_back o f q (cut o f q m)) (IsEnd m.meta o f q)
unfolding cut_back
ends_without m valid shaped o f q r = on (opposite m.meta f) refl
  where
    n : Contents
    n = cut o f q m

    first : IsWithout m (cut o f q m) (IsThis o f q)
    first = cut_without m shaped o f q r

    back : (x : Option FeatId) → opposite m.meta f ≡ x → option_map_or (λ g. cut q g o (cut o f q m)) (opposite (cut o f q m).meta f) (cut o f q m) ≡ option_map_or (λ g. cut q g o (cut o f q m)) x (cut o f q m)
    back x e = ap (λ y. option_map_or (λ g. cut q g o (cut o f q m)) y (cut o f q m)) (ap (λ z. opposite z f) first.meta ∙ e)

    on : (x : Option FeatId) → opposite m.meta f ≡ x → IsWithout m (option_map_or (λ g. cut q g o (cut o f q m)) (opposite (cut o f q m).meta f) (cut o f q m)) (IsEnd m.meta o f q)
    on None e = subst (λ k. IsWithout m k (IsEnd m.meta o f q)) (sym (back None e))
        (gone_as m (cut o f q m) (IsThis o f q) (IsEnd m.meta o f q) (λ p g y t. inl t) (λ p g y t. ⊎_elim (λ a. a) (λ b. absurd (none-some b.0 (sym e ∙ b.1))) t) first)
    on (Some g) e = subst (λ k. IsWithout m k (IsEnd m.meta o f q)) (sym (back (Some g) e))
        (gone_as m (cut q g o (cut o f q m)) (λ p h y. IsThis o f q p h y ⊎ IsThis q g o p h y) (IsEnd m.meta o f q)
        (λ p h y t. ⊎_elim (λ a. inl a) (λ b. inr (g, e, b)) t)
        (λ p h y t. ⊎_elim (λ a. inl a) (λ b. inr (b.2.0, b.2.1 ∙ same_Some b.0 g (sym b.1 ∙ e), b.2.2)) t)
        (without_both m (cut o f q m) (cut q g o (cut o f q m)) (IsThis o f q) (IsThis q g o) first
        (cut_without (cut o f q m) (subst (λ z. AreShaped z (cut o f q m).objects) (sym first.meta) first.shaped) q g o (ap (λ z. refers z g) first.meta ∙ opposite_refers m.meta valid f g e))))
