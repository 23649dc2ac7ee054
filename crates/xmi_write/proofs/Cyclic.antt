-- Containment from below: what an object is contained in, and what lies on a cycle.
use Rattle.std.proofs.Common.{◌≡◌, ◌≢◌, ℕ, zero, suc, ◌+◌, ◌-◌, ◌<◌, ◌≤◌, ◌⊎◌, inl, inr, List, [], ◌∷◌, ◌++◌, length, refl, sym, ap, subst, ◌∙◌, ⊎_elim, arith, Option, Some, None}
use Rattle.std.specs.Prelude.{Bool, true, false, slice_index_or, option_map, if◌then◌else◌, Contains}
use Rattle.std.specs.Option.{option_map_or, option_and_then}
use Rattle.std.proofs.lemmas.List.Elements.{Contains-append_cases}
use Rattle.std.proofs.lemmas.Option.{none-some, same_Some}
use Rattle.atl_base.specs.declared.numbers.FeatId.{FeatId}
use Rattle.atl_base.specs.declared.numbers.ObjId.{ObjId}
use Rattle.ecore_meta.specs.declared.parts.Parts.{Parts}
use Rattle.ecore_meta.specs.Inheritance.{features}
use Rattle.ecore_meta.specs.Valid.{IsMetamodel}
use Rattle.model_store.specs.declared.parts.Cellv.{Cellv}
use Rattle.model_store.specs.declared.parts.Cellv.TheVariants.{Words, Int, Truth, Literal, Obj}
use Rattle.model_store.specs.declared.parts.Object.{Object}
use Rattle.model_store.specs.Contents.{Contents, object_at, contains, objects_of, holder, container}
use Rattle.model_store.specs.Order.{contents, contents_in, contents_of, Encloses, itself, by_content, IsOnCycle}
use Rattle.model_store.specs.Valid.{IsModel, Refers}
use Rattle.model_store.proofs.CreatedModel.{seen_once}
use Rattle.model_store.proofs.Holding.{holder_refers, referred, refers_by, uncontained}
use Rattle.model_store.proofs.PathRoots.{content_of}
use Rattle.model_store.proofs.Thinned.{Contains_first, Contains_later, Contains_none, Contains_cases}
use Rattle.model_store.proofs.Updates.{found_within}
use Rattle.xmi_write.specs.Climbs.{climb}

-- ## What is among the contents stands in a slot of a containment

object_among : (p : ObjId) (cells : List Cellv) → Contains (objects_of cells) p → Contains cells (Obj p)
object_among p [] h = absurd (Contains_none p h)
object_among p (Obj q ∷ cells) h = ⊎_elim
    (λ (e : q ≡ p). subst (λ r. Contains (Obj q ∷ cells) (Obj r)) e (Contains_first (Obj q) cells))
    (λ (g : Contains (objects_of cells) p). Contains_later (Obj q) (Obj p) cells (object_among p cells g))
    (Contains_cases q p (objects_of cells) h)
object_among p (Words t ∷ cells) h = Contains_later (Words t) (Obj p) cells (object_among p cells h)
object_among p (Int n ∷ cells) h = Contains_later (Int n) (Obj p) cells (object_among p cells h)
object_among p (Truth b ∷ cells) h = Contains_later (Truth b) (Obj p) cells (object_among p cells h)
object_among p (Literal l ∷ cells) h = Contains_later (Literal l) (Obj p) cells (object_among p cells h)

pub record IsSlotOf (meta : Parts) (p : ObjId) (fs : List FeatId) (slots : List (List Cellv)) : Type 0 where
  pub place : ℕ
  pub feature : FeatId
  pub within : place < length fs
  pub there : slice_index_or fs place feature ≡ feature
  pub inside : contains meta feature ≡ true
  pub it : Contains (slice_index_or slots place []) (Obj p)

module _ (meta : Parts) (p : ObjId) where
  slot_later : (f : FeatId) (fs : List FeatId) (cells : List Cellv) (slots : List (List Cellv)) → IsSlotOf meta p fs slots → IsSlotOf meta p (f ∷ fs) (cells ∷ slots)
  slot_later f fs cells slots x = record { place = suc x.place; feature = x.feature; within = omega (arith, x.within); there = x.there; inside = x.inside; it = x.it }

  slot_here : (f : FeatId) (fs : List FeatId) (cells : List Cellv) (slots : List (List Cellv)) (b : Bool) → contains meta f ≡ b → Contains (if b then objects_of cells else []) p → IsSlotOf meta p (f ∷ fs) (cells ∷ slots)
  slot_here f fs cells slots true e h = record { place = 0; feature = f; within = omega arith; there = refl; inside = e; it = object_among p cells h }
  slot_here f fs cells slots false e h = absurd (Contains_none p h)

  slot_of : (fs : List FeatId) (slots : List (List Cellv)) → Contains (contents_in meta fs slots) p → IsSlotOf meta p fs slots
  slot_of [] slots h = absurd (Contains_none p h)
  slot_of (f ∷ fs) [] h = absurd (Contains_none p h)
  slot_of (f ∷ fs) (cells ∷ slots) h = ⊎_elim
      (λ (k : Contains (if contains meta f then objects_of cells else []) p). slot_here f fs cells slots (contains meta f) refl k)
      (λ (k : Contains (contents_in meta fs slots) p). slot_later f fs cells slots (slot_of fs slots k))
      (Contains-append_cases (if contains meta f then objects_of cells else []) (contents_in meta fs slots) p h)

-- ## Walks down

encloses_push : (m : Contents) {o q : ObjId} (p : ObjId) → Encloses m o q → Contains (contents m q) p → Encloses m o p
encloses_push m p itself c = by_content c itself
encloses_push m p (by_content d e) c = by_content d (encloses_push m p e c)

-- the last step of a walk
encloses_last : (m : Contents) {o p : ObjId} → Encloses m o p → (o ≡ p) ⊎ ((r : ObjId) × Encloses m o r × Contains (contents m r) p)
encloses_last m itself = inl refl
encloses_last m {o} {p} (by_content {q = q} d e) = ⊎_elim
    (λ (same : q ≡ p). inr (o, itself, subst (λ x. Contains (contents m o) x) same d))
    (λ (more : (r : ObjId) × Encloses m q r × Contains (contents m r) p). inr (more.0, by_content d more.1, more.2))
    (encloses_last m e)

module _ (m : Contents) (valid : IsMetamodel m.meta) (model : IsModel m) where
  pub contained : (q p : ObjId) → container m q ≡ Some p → Contains (contents m p) q
  contained q p h = on (holder m q) refl h
    where
      on : (x : Option (ObjId × FeatId)) → holder m q ≡ x → option_map (λ at. at.0) x ≡ Some p → Contains (contents m p) q
      on None e i = absurd (none-some p i)
      on (Some at) e i =
          let h = holder_refers m (seen_once m.meta valid) model.shaped q at.0 at.1 e in
          subst (λ r. Contains (contents m r) q) (same_Some at.0 p i) (content_of m at.0 q at.1 h.0 h.1)

  container_within : (q p : ObjId) → container m q ≡ Some p → p.0 < length m.objects
  container_within q p h = on (holder m q) refl h
    where
      on : (x : Option (ObjId × FeatId)) → holder m q ≡ x → option_map (λ at. at.0) x ≡ Some p → p.0 < length m.objects
      on None e i = absurd (none-some p i)
      on (Some at) e i =
          let h = holder_refers m (seen_once m.meta valid) model.shaped q at.0 at.1 e in
          let x = referred m at.0 q at.1 h.1 in
          subst (λ (r : ObjId). r.0 < length m.objects) (same_Some at.0 p i) (found_within m.objects at.0.0 x.object x.there)

  pub contained_in : (q p : ObjId) → Contains (contents m p) q → container m q ≡ Some p
  contained_in q p h = on (object_at m.objects p) refl h
    where
      by_slot : (object : Object) → object_at m.objects p ≡ Some object → IsSlotOf m.meta q (features m.meta.classes object.class) object.slots → container m q ≡ Some p
      by_slot object e s = at (holder m q) refl
        where
          here : Refers m p s.feature q
          here = refers_by m p q s.feature object s.place (seen_once m.meta valid object.class (model.shaped p.0 object e).class_within) e s.within s.there s.it

          at : (x : Option (ObjId × FeatId)) → holder m q ≡ x → option_map (λ at. at.0) x ≡ Some p
          at None i = absurd (uncontained m q (ap (option_map (λ at. at.0)) i) p s.feature s.inside here)
          at (Some y) i =
              let k = holder_refers m (seen_once m.meta valid) model.shaped q y.0 y.1 i in
              ap Some (model.contained_once y.0 p q y.1 s.feature k.0 s.inside k.1 here).0

      on : (x : Option Object) → object_at m.objects p ≡ x → Contains (option_map_or (contents_of m.meta) x []) q → container m q ≡ Some p
      on None e k = absurd (Contains_none q k)
      on (Some object) e k = by_slot object e (slot_of m.meta q (features m.meta.classes object.class) object.slots k)

  -- ## On a cycle

  pub cycle_up : (p : ObjId) → IsOnCycle m p → (r : ObjId) × (container m p ≡ Some r) × IsOnCycle m r
  cycle_up p h = ⊎_elim
      (λ (same : h.0 ≡ p). (p, contained_in p p (subst (λ x. Contains (contents m p) x) same h.1), h))
      (λ (more : (r : ObjId) × Encloses m h.0 r × Contains (contents m r) p). (more.0, contained_in p more.0 more.2, (p, more.2, by_content h.1 more.1)))
      (encloses_last m h.2)

  pub cycle_down : (p : ObjId) → IsOnCycle m p → (q : ObjId) × (container m q ≡ Some p) × IsOnCycle m q
  cycle_down p h = (h.0, contained_in h.0 p h.1, on h.0 h.1 h.2)
    where
      on : (q : ObjId) → Contains (contents m p) q → Encloses m q p → IsOnCycle m q
      on q c itself = (q, c, itself)
      on q c (by_content {q = r} d e) = (r, d, encloses_push m q e c)

  -- a cycle has no end above, and none below
  pub forever : (n : ℕ) (p : ObjId) → IsOnCycle m p → (q : ObjId) × (climb n m p ≡ Some q) × IsOnCycle m q
  unfolding climb
  forever zero p h = (p, refl, h)
  forever (suc n) p h =
      let up = cycle_up p h in
      let rest = forever n up.0 up.2 in
      (rest.0, ap (option_and_then (climb n m)) up.1 ∙ rest.1, rest.2)

  pub reached : (n : ℕ) (p : ObjId) → IsOnCycle m p → (k : ObjId) × (climb n m k ≡ Some p) × IsOnCycle m k
  unfolding climb
  reached zero p h = (p, refl, h)
  reached (suc n) p h =
      let rest = reached n p h in
      let down = cycle_down rest.0 rest.2 in
      (down.0, ap (option_and_then (climb n m)) down.1 ∙ rest.1, down.2)

  pub cycle_within : (p : ObjId) → IsOnCycle m p → p.0 < length m.objects
  cycle_within p h = let down = cycle_down p h in container_within down.0 p down.1

  -- ## Climbs

  pub climb_add : (a b : ℕ) (o : ObjId) → climb (a + b) m o ≡ option_and_then (climb b m) (climb a m o)
  unfolding climb
  climb_add zero b o = let none : zero + b ≡ b = omega arith in ap (λ n. climb n m o) none
  climb_add (suc a) b o = let more : suc a + b ≡ suc (a + b) = omega arith in ap (λ n. climb n m o) more ∙ on (container m o) (λ r. climb_add a b r)
    where
      on : (x : Option ObjId) → ((r : ObjId) → climb (a + b) m r ≡ option_and_then (climb b m) (climb a m r)) → option_and_then (climb (a + b) m) x ≡ option_and_then (climb b m) (option_and_then (climb a m) x)
      on None again = refl
      on (Some r) again = again r

  pub climb_within : (n : ℕ) (o p : ObjId) → o.0 < length m.objects → climb n m o ≡ Some p → p.0 < length m.objects
  unfolding climb
  climb_within zero o p l h = subst (λ (r : ObjId). r.0 < length m.objects) (same_Some o p h) l
  climb_within (suc n) o p l h = on (container m o) refl h (λ r k i. climb_within n r p k i)
    where
      on : (x : Option ObjId) → container m o ≡ x → option_and_then (climb n m) x ≡ Some p → ((r : ObjId) → r.0 < length m.objects → climb n m r ≡ Some p → p.0 < length m.objects) → p.0 < length m.objects
      on None e i again = absurd (none-some p i)
      on (Some r) e i again = again r (container_within o r e) i

  climb_encloses : (n : ℕ) (o p : ObjId) → climb n m o ≡ Some p → Encloses m p o
  unfolding climb
  climb_encloses zero o p h = subst (λ x. Encloses m x o) (same_Some o p h) itself
  climb_encloses (suc n) o p h = on (container m o) refl h (λ r i. climb_encloses n r p i)
    where
      on : (x : Option ObjId) → container m o ≡ x → option_and_then (climb n m) x ≡ Some p → ((r : ObjId) → climb n m r ≡ Some p → Encloses m p r) → Encloses m p o
      on None e i again = absurd (none-some p i)
      on (Some r) e i again = encloses_push m o (again r i) (contained o r e)

  -- what a climb of some steps leads back to lies on a cycle
  pub back_again : (n : ℕ) (o : ObjId) → climb (suc n) m o ≡ Some o → IsOnCycle m o
  unfolding climb
  back_again n o h = on (container m o) refl h
    where
      on : (x : Option ObjId) → container m o ≡ x → option_and_then (climb n m) x ≡ Some o → IsOnCycle m o
      on None e i = absurd (none-some o i)
      on (Some r) e i =
          let q = forever n r (o, contained o r e, climb_encloses n r o i) in
          subst (IsOnCycle m) (same_Some q.0 o (sym q.1 ∙ i)) q.2

  -- from some steps on, all that is reached from a place on lies on a cycle
  pub cycle_above : (a n : ℕ) (o x p : ObjId) → a ≤ n → climb a m o ≡ Some x → IsOnCycle m x → climb n m o ≡ Some p → IsOnCycle m p
  cycle_above a n o x p l e h i =
      let q = forever (n - a) x h in
      let split : a + (n - a) ≡ n = omega arith in
      let there : climb n m o ≡ Some q.0 = ap (λ k. climb k m o) (sym split) ∙ climb_add a (n - a) o ∙ ap (option_and_then (climb (n - a) m)) e ∙ q.1 in
      subst (IsOnCycle m) (same_Some q.0 p (sym there ∙ i)) q.2
