-- Adding an object to a reference leaves a model.
use Rattle.std.proofs.Common.{◌≡◌, ◌<◌, ◌≤◌, inl, inr, List, [], ◌∷◌, length, refl, sym, ap, ◌∙◌, subst, ⊎_elim, arith, Option, Some, None}
use Rattle.std.specs.Prelude.{◌==◌, ◌↔◌, Bool, true, false, slice_index_or, slice_get, option_map, is_some, if◌then◌else◌, Contains, IsSome}
use Rattle.std.specs.Option.{option_map_or, IsSomeAnd}
use Rattle.std.proofs.lemmas.Bool.{eqb-true, true≢false}
use Rattle.std.proofs.lemmas.List.Quantifiers.{position-Some}
use Rattle.std.proofs.lemmas.Option.{none-some, same_Some}
use Rattle.atl_base.specs.declared.numbers.FeatId.{FeatId}
use Rattle.atl_base.specs.declared.numbers.ObjId.{ObjId}
use Rattle.ecore_meta.specs.declared.parts.Feature.{Feature}
use Rattle.ecore_meta.specs.declared.parts.FeatKind.{FeatKind}
use Rattle.ecore_meta.specs.declared.parts.FeatKind.TheVariants as Kind
use Rattle.ecore_meta.specs.declared.parts.Parts.{Parts}
use Rattle.atl_base.specs.declared.numbers.ClassId.{ClassId}
use Rattle.ecore_meta.specs.Inheritance.{Conforms, features, own_of}
use Rattle.ecore_meta.specs.Valid.{IsMetamodel, is_reference, is_containment, class_of as kind_class}
use Rattle.ecore_meta.proofs.FeatureLaws.{seen-is}
use Rattle.model_store.specs.Order.{IsOf}
use Rattle.model_store.specs.declared.parts.Cellv.{Cellv}
use Rattle.model_store.specs.declared.parts.Cellv.TheVariants.{Words, Int, Truth, Literal, Obj}
use Rattle.model_store.specs.declared.parts.Object.{Object}
use Rattle.model_store.specs.Contents.{Contents, object_at, class_of, slot, refers, is_many, contains, opposite, is_contained_by, refusal, first_object, holder}
use Rattle.model_store.specs.Valid.{IsModel, IsOfKind, IsOfType, HasSlot, Refers}
use Rattle.model_store.specs.Writes.{unlink, give_up, give_up_back, leave, make_way}
use Rattle.model_store.proofs.Created.{all_contained, slot_of}
use Rattle.model_store.proofs.CreatedModel.{seen_once}
use Rattle.model_store.proofs.Holding.{holder_refers, uncontained, place_is}
use Rattle.model_store.proofs.Slots.{at_of, has_slot, same_feature}
use Rattle.model_store.proofs.Thinned.{Contains_none, Contains_first, Contains_later, Contains_cases}
use Rattle.model_store.proofs.Unlinked.{IsFree, unlink_is_model, unlink_without}
use Rattle.model_store.proofs.Wired.{back_of, opposite_back}

-- ## Slots of references

-- a value of a reference is an object
object_value : (m : Contents) (kind : FeatKind) (v : Cellv) → is_reference kind ≡ true → IsOfKind m kind v → (q : ObjId) × (Obj q ≡ v)
object_value m (Kind.Refer class inside back) (Obj q) r h = (q, refl)
object_value m (Kind.Refer class inside back) (Words t) r h = absurd h
object_value m (Kind.Refer class inside back) (Int i) r h = absurd h
object_value m (Kind.Refer class inside back) (Truth b) r h = absurd h
object_value m (Kind.Refer class inside back) (Literal l) r h = absurd h
object_value m Kind.Str v r h = absurd (true≢false (sym r))
object_value m Kind.Int v r h = absurd (true≢false (sym r))
object_value m Kind.Truth v r h = absurd (true≢false (sym r))
object_value m (Kind.Enum e) v r h = absurd (true≢false (sym r))
object_value m Kind.Opaque v r h = absurd (true≢false (sym r))

pub object_of_type : (m : Contents) (f : FeatId) (v : Cellv) → refers m.meta f ≡ true → IsOfType m f v → (q : ObjId) × (Obj q ≡ v)
object_of_type m f v r h = on (slice_get m.meta.features f.0) r h
  where
    on : (x : Option Feature) → option_map_or (λ feature. is_reference feature.kind) x false ≡ true → IsSomeAnd x (λ feature. IsOfKind m feature.kind v) → (q : ObjId) × (Obj q ≡ v)
    on None r h = absurd h
    on (Some feature) r h = object_value m feature.kind v r h

-- a reference that refers to nothing is empty
pub empty_slot : (m : Contents) → IsModel m → (o : ObjId) (f : FeatId) → refers m.meta f ≡ true → ((q : ObjId) → Refers m o f q → ⊥) → slot m o f ≡ []
empty_slot m model o f r none = on (slot m o f) refl
  where
    on : (cells : List Cellv) → slot m o f ≡ cells → cells ≡ []
    on [] e = refl
    on (c ∷ cells) e =
        let here : Contains (slot m o f) c = subst (λ l. Contains l c) (sym e) (Contains_first c cells) in
        let x = object_of_type m f c r (all_contained (IsOfType m f) (slot m o f) c (model.fits o f (slot_of m o f c here)).typed here) in
        absurd (none x.0 (subst (Contains (slot m o f)) (sym x.1) here))

one_only : {X : Type 0} (xs : List X) (x y : X) → length xs ≤ 1 → Contains xs x → Contains xs y → x ≡ y
one_only [] x y l h k = absurd (Contains_none x h)
one_only (z ∷ []) x y l h k = ⊎_elim (λ e. ⊎_elim (λ i. sym e ∙ i) (λ n. absurd (Contains_none y n)) (Contains_cases z y [] k)) (λ n. absurd (Contains_none x n)) (Contains_cases z x [] h)
one_only (z ∷ w ∷ xs) x y l h k = absurd (omega (arith, l))

pub first_held : (cells : List Cellv) (q : ObjId) → first_object cells ≡ Some q → Contains cells (Obj q)
first_held [] q e = absurd (none-some q e)
first_held (Obj p ∷ cells) q e = subst (λ z. Contains (Obj p ∷ cells) (Obj z)) (same_Some p q e) (Contains_first (Obj p) cells)
first_held (Words t ∷ cells) q e = Contains_later (Words t) (Obj q) cells (first_held cells q e)
first_held (Int i ∷ cells) q e = Contains_later (Int i) (Obj q) cells (first_held cells q e)
first_held (Truth b ∷ cells) q e = Contains_later (Truth b) (Obj q) cells (first_held cells q e)
first_held (Literal l ∷ cells) q e = Contains_later (Literal l) (Obj q) cells (first_held cells q e)

IsOther : Cellv → Type 0
IsOther (Obj q) = ⊥
IsOther c = Unit {0}

none_first : (cells : List Cellv) (q : ObjId) → first_object cells ≡ None → Contains cells (Obj q) → ⊥
unfolding IsOther
none_first [] q e h = Contains_none (Obj q) h
none_first (Obj p ∷ cells) q e h = none-some p (sym e)
none_first (Words t ∷ cells) q e h = ⊎_elim (λ i. wrong i) (λ k. none_first cells q e k) (Contains_cases (Words t) (Obj q) cells h)
  where
    wrong : Words t ≡ Obj q → ⊥
    wrong i = subst IsOther i tt
none_first (Int i ∷ cells) q e h = ⊎_elim (λ j. subst IsOther j tt) (λ k. none_first cells q e k) (Contains_cases (Int i) (Obj q) cells h)
none_first (Truth b ∷ cells) q e h = ⊎_elim (λ j. subst IsOther j tt) (λ k. none_first cells q e k) (Contains_cases (Truth b) (Obj q) cells h)
none_first (Literal l ∷ cells) q e h = ⊎_elim (λ j. subst IsOther j tt) (λ k. none_first cells q e k) (Contains_cases (Literal l) (Obj q) cells h)

-- ## A model with less

pub record IsLess (m n : Contents) : Type 0 where
  pub model : IsModel n
  pub meta : n.meta ≡ m.meta
  pub class : (p : ObjId) → class_of n p ≡ class_of m p
  pub exists : (p : ObjId) → is_some (object_at n.objects p) ≡ is_some (object_at m.objects p)
  pub has : (p : ObjId) (g : FeatId) → refusal n p g ≡ refusal m p g
  pub fewer : (p : ObjId) (g : FeatId) (q : ObjId) → Refers n p g q → Refers m p g q

pub same_less : (m : Contents) → IsModel m → IsLess m m
same_less m model = record { model = model; meta = refl; class = λ p. refl; exists = λ p. refl; has = λ p g. refl; fewer = λ p g q h. h }

pub less_less : (m n k : Contents) → IsLess m n → IsLess n k → IsLess m k
less_less m n k a b = record { model = b.model; meta = b.meta ∙ a.meta; class = λ p. b.class p ∙ a.class p; exists = λ p. b.exists p ∙ a.exists p; has = λ p g. b.has p g ∙ a.has p g; fewer = λ p g q h. a.fewer p g q (b.fewer p g q h) }

pub unlink_less : (m : Contents) → IsMetamodel m.meta → IsModel m → (o : ObjId) (f : FeatId) (q : ObjId) → refers m.meta f ≡ true → Refers m o f q → IsLess m (unlink o f q m)
unlink_less m valid model o f q r h = let x = unlink_without m valid model o f q r h in
    record { model = unlink_is_model m valid model o f q r h; meta = x.meta; class = x.class; exists = x.exists; has = x.has; fewer = λ p g y k. x.fewer p g (Obj y) k }

-- ## What makes way

-- a reference gives up the one object that it holds
pub record GivesUp (m n : Contents) (o : ObjId) (f : FeatId) : Type 0 where
  pub less : IsLess m n
  pub none : is_many m.meta f ≡ false → (q : ObjId) → Refers n o f q → ⊥

at_most_one : (m : Contents) → IsModel m → (o : ObjId) (f : FeatId) (q : ObjId) → is_many m.meta f ≡ false → Refers m o f q → length (slot m o f) ≤ 1
at_most_one m model o f q s h = (model.fits o f (slot_of m o f (Obj q) h)).single s

same_value : (a b : ObjId) → Obj a ≡ Obj b → a ≡ b
same_value a b e = ap number e
  where
    number : Cellv → ObjId
    number (Obj q) = q
    number c = a

pub gives_up : (m : Contents) → IsMetamodel m.meta → IsModel m → (o : ObjId) (f : FeatId) → refers m.meta f ≡ true → GivesUp m (give_up o f m) o f
unfolding give_up
gives_up m valid model o f r = on (is_many m.meta f) refl (first_object (slot m o f)) refl
  where
    on : (b : Bool) → is_many m.meta f ≡ b → (x : Option ObjId) → first_object (slot m o f) ≡ x → GivesUp m (if b then m else option_map_or (λ q. unlink o f q m) x m) o f
    on true e x i = record { less = same_less m model; none = λ s q h. true≢false (sym e ∙ s) }
    on false e None i = record { less = same_less m model; none = λ s q h. none_first (slot m o f) q i h }
    on false e (Some q) i =
        let h = first_held (slot m o f) q i in
        record {
          less = unlink_less m valid model o f q r h;
          none = λ s y k. let old = (unlink_less m valid model o f q r h).fewer o f y k in
              let same = same_value y q (one_only (slot m o f) (Obj y) (Obj q) (at_most_one m model o f q s h) old h) in
              (unlink_without m valid model o f q r h).gone o f y k (inl (refl, refl, same));
        }

-- and the other end likewise
pub record GivesBack (m n : Contents) (f : FeatId) (p : ObjId) : Type 0 where
  pub less : IsLess m n
  pub none : (g : FeatId) → opposite m.meta f ≡ Some g → is_many m.meta g ≡ false → (q : ObjId) → Refers n p g q → ⊥

pub gives_back : (m : Contents) → IsMetamodel m.meta → IsModel m → (f : FeatId) (p : ObjId) → refers m.meta f ≡ true → GivesBack m (give_up_back f p m) f p
unfolding give_up_back
gives_back m valid model f p r = on (opposite m.meta f) refl
  where
    at : (g : FeatId) → opposite m.meta f ≡ Some g → (b : Bool) → is_many m.meta g ≡ b → (x : Option ObjId) → first_object (slot m p g) ≡ x → GivesBack m (if b then m else option_map_or (λ r. unlink r f p m) x m) f p
    at g e true i x j = record { less = same_less m model; none = λ h k s q y. true≢false (sym i ∙ ap (is_many m.meta) (same_Some g h (sym e ∙ k)) ∙ s) }
    at g e false i None j = record { less = same_less m model; none = λ h k s q y. none_first (slot m p g) q j (subst (λ z. Refers m p z q) (sym (same_Some g h (sym e ∙ k))) y) }
    at g e false i (Some q) j =
        let h = first_held (slot m p g) q j in
        let back : Refers m q f p = model.opposites p q g f (opposite_back m.meta valid f g e) h in
        record {
          less = unlink_less m valid model q f p r back;
          none = λ h' k s y z.
              let same = same_Some g h' (sym e ∙ k) in
              let now : Refers (unlink q f p m) p g y = subst (λ w. Refers (unlink q f p m) p w y) (sym same) z in
              let old = (unlink_less m valid model q f p r back).fewer p g y now in
              let one = same_value y q (one_only (slot m p g) (Obj y) (Obj q) (at_most_one m model p g q i h) old h) in
              (unlink_without m valid model q f p r back).gone p g y now (inr (g, e, (refl, refl, one)));
        }

    on : (x : Option FeatId) → opposite m.meta f ≡ x → GivesBack m (option_map_or (λ g. if is_many m.meta g then m else option_map_or (λ r. unlink r f p m) (first_object (slot m p g)) m) x m) f p
    on None e = record { less = same_less m model; none = λ g k s q h. none-some g (sym e ∙ k) }
    on (Some g) e = at g e (is_many m.meta g) refl (first_object (slot m p g)) refl

-- a containment is a reference
pub contains_refers : (meta : Parts) (f : FeatId) → contains meta f ≡ true → refers meta f ≡ true
contains_refers meta f h = on (slice_get meta.features f.0) h
  where
    kind : (k : FeatKind) → is_containment k ≡ true → is_reference k ≡ true
    kind (Kind.Refer class inside back) h = refl
    kind Kind.Str h = h
    kind Kind.Int h = h
    kind Kind.Truth h = h
    kind (Kind.Enum e) h = h
    kind Kind.Opaque h = h

    on : (x : Option Feature) → option_map_or (λ feature. is_containment feature.kind) x false ≡ true → option_map_or (λ feature. is_reference feature.kind) x false ≡ true
    on None h = h
    on (Some feature) h = kind feature.kind h

-- an object that leaves its container is free
record Leaves (m n : Contents) (p : ObjId) : Type 0 where
  pub less : IsLess m n
  pub free : IsFree n p

leaves : (m : Contents) → IsMetamodel m.meta → IsModel m → (p : ObjId) → IsSome (object_at m.objects p) → Leaves m (leave p m) p
unfolding leave
leaves m valid model p there = on (holder m p) refl
  where
    on : (x : Option (ObjId × FeatId)) → holder m p ≡ x → Leaves m (option_map_or (λ at. unlink at.0 at.1 p m) x m) p
    on None e = record { less = same_less m model; free = record { exists = there; none = uncontained m p (ap (option_map (λ at. at.0)) e) } }
    on (Some y) e =
        let h = holder_refers m (seen_once m.meta valid) model.shaped p y.0 y.1 e in
        let r = contains_refers m.meta y.1 h.0 in
        let l = unlink_less m valid model y.0 y.1 p r h.1 in
        record {
          less = l;
          free = record {
            exists = l.exists p ∙ there;
            none = λ s k c z.
                let d = sym (ap (λ w. contains w k) l.meta) ∙ c in
                let same = model.contained_once y.0 s p y.1 k h.0 d h.1 (l.fewer s k p z) in
                (unlink_without m valid model y.0 y.1 p r h.1).gone s k p z (inl (sym same.0, sym same.1, refl));
          };
        }

pub record MakesWay (m n : Contents) (o : ObjId) (f : FeatId) (p : ObjId) : Type 0 where
  pub less : IsLess m n
  pub content : contains m.meta f ≡ true → IsFree n p
  pub container : contains m.meta f ≡ false → is_contained_by m.meta f ≡ true → IsFree n o

pub makes_way : (m : Contents) → IsMetamodel m.meta → IsModel m → (o : ObjId) (f : FeatId) (p : ObjId) → IsSome (object_at m.objects o) → IsSome (object_at m.objects p) → MakesWay m (make_way o f p m) o f p
unfolding make_way
makes_way m valid model o f p ho hp = on (contains m.meta f) refl (is_contained_by m.meta f) refl
  where
    on : (a : Bool) → contains m.meta f ≡ a → (b : Bool) → is_contained_by m.meta f ≡ b → MakesWay m (if a then leave p m else (if b then leave o m else m)) o f p
    on true i b j = let l = leaves m valid model p hp in record { less = l.less; content = λ c. l.free; container = λ c d. absurd (true≢false (sym i ∙ c)) }
    on false i true j = let l = leaves m valid model o ho in record { less = l.less; content = λ c. absurd (true≢false (sym c ∙ i)); container = λ c d. l.free }
    on false i false j = record { less = same_less m model; content = λ c. absurd (true≢false (sym c ∙ i)); container = λ c d. absurd (true≢false (sym d ∙ j)) }

-- ## The other end

module _ (m : Contents) (valid : IsMetamodel m.meta) (model : IsModel m) where
  seen : (class : ClassId) (f : FeatId) → class.0 < length m.meta.classes → Contains (features m.meta.classes class) f ↔ ((d : ClassId) × Conforms m.meta.classes class d × Contains (own_of m.meta.classes d) f)
  seen class f h = seen-is m.meta.classes valid.acyclic valid.places.supers class f h

  -- an object of a feature's owner has the feature
  has_own : (p : ObjId) (g : FeatId) (other : Feature) → slice_get m.meta.features g.0 ≡ Some other → IsOf m other.owner p → HasSlot m p g
  has_own p g other e h = on (object_at m.objects p) refl h
    where
      declared : Contains (own_of m.meta.classes other.owner) g
      declared = (valid.owners other.owner g).1 (ap (option_map (λ feature. feature.owner)) e)

      on : (x : Option Object) → object_at m.objects p ≡ x → IsSomeAnd (option_map (λ object. object.class) x) (λ own. Conforms m.meta.classes own other.owner) → HasSlot m p g
      on None i h = absurd h
      on (Some object) i h =
          let within = (model.shaped p.0 object i).class_within in
          let c = (seen object.class g within).1 (other.owner, h, declared) in
          has_slot m p g (record { object = object; there = i; place = c.0; found = place_is m.meta object.class (seen_once m.meta valid object.class within) c.0 g c.1 c.2 })

  -- and what has a feature is of its owner
  is_of_owner : (o : ObjId) (f : FeatId) (feature : Feature) → slice_get m.meta.features f.0 ≡ Some feature → HasSlot m o f → IsOf m feature.owner o
  is_of_owner o f feature e h =
      let a = at_of m o f h in
      let x = position-Some (λ g. g.0 == f.0) (features m.meta.classes a.object.class) a.place f a.found in
      let is = same_feature (slice_index_or (features m.meta.classes a.object.class) a.place f) f (eqb-true _ f.0 x.1) in
      let s = (seen a.object.class f (model.shaped o.0 a.object a.there).class_within).0 (a.place, x.0, is) in
      let owner = same_Some feature.owner s.0 (sym (ap (option_map (λ feature. feature.owner)) e) ∙ (valid.owners s.0 f).0 s.2) in
      subst (λ c. IsSomeAnd (option_map (λ object. object.class) c) (λ own. Conforms m.meta.classes own feature.owner)) (sym a.there) (subst (Conforms m.meta.classes a.object.class) (sym owner) s.1)

  class_kind : (kind : FeatKind) (c : ClassId) (q : ObjId) → kind_class kind ≡ Some c → IsOfKind m kind (Obj q) → IsOf m c q
  class_kind (Kind.Refer d inside back) c q e h = subst (λ z. IsOf m z q) (same_Some d c e) h
  class_kind Kind.Str c q e h = absurd h
  class_kind Kind.Int c q e h = absurd h
  class_kind Kind.Truth c q e h = absurd h
  class_kind (Kind.Enum i) c q e h = absurd h
  class_kind Kind.Opaque c q e h = absurd h

  kind_class_of : (kind : FeatKind) (c : ClassId) (q : ObjId) → kind_class kind ≡ Some c → IsOf m c q → IsOfKind m kind (Obj q)
  kind_class_of (Kind.Refer d inside back) c q e h = subst (λ z. IsOf m z q) (sym (same_Some d c e)) h
  kind_class_of Kind.Str c q e h = absurd (none-some c e)
  kind_class_of Kind.Int c q e h = absurd (none-some c e)
  kind_class_of Kind.Truth c q e h = absurd (none-some c e)
  kind_class_of (Kind.Enum i) c q e h = absurd (none-some c e)
  kind_class_of Kind.Opaque c q e h = absurd (none-some c e)

  pub other_end : (o : ObjId) (f : FeatId) (q : ObjId) → HasSlot m o f → IsOfType m f (Obj q) → (g : FeatId) → opposite m.meta f ≡ Some g → HasSlot m q g × IsOfType m g (Obj o)
  other_end o f q has typed g e =
      let b = back_of m.meta valid f g e in
      let kind = subst (λ x. IsSomeAnd x (λ feature. IsOfKind m feature.kind (Obj q))) b.here typed in (
        has_own q g b.other b.there (class_kind b.feature.kind b.other.owner q b.fit.there kind),
        subst (λ x. IsSomeAnd x (λ feature. IsOfKind m feature.kind (Obj o))) (sym b.there) (kind_class_of b.other.kind b.feature.owner o b.fit.back (is_of_owner o f b.feature b.here has)),
      )
