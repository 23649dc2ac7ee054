-- A path begins at a root: above an object there are no more levels than objects, and the top one is a root.
use Rattle.std.proofs.Common.{◌≡◌, ℕ, zero, suc, ◌+◌, ◌<◌, ◌≤◌, ◌^◌, ◌⊎◌, inl, inr, Bool, true, false, List, [], ◌∷◌, length, get_or, refl, sym, ap, ◌∙◌, subst, ⊎_elim, arith, Option, Some, None}
use Rattle.std.specs.Prelude.{◌==◌, slice_index_or, option_map, is_some, Contains, IsSome, if◌then◌else◌}
use Rattle.std.specs.Fmt.{decimal}
use Rattle.std.specs.List.{position_or_len, list_any}
use Rattle.std.specs.Option.{option_map_or}
use Rattle.std.proofs.lemmas.Bool.{eq-eqb, eqb-true, ne_eqb, false≢true}
use Rattle.std.proofs.lemmas.List.Elements.{Contains-append_left, Contains-append_right}
use Rattle.atl_base.specs.declared.numbers.FeatId.{FeatId}
use Rattle.atl_base.specs.declared.numbers.ObjId.{ObjId}
use Rattle.ecore_meta.specs.declared.parts.Parts.{Parts}
use Rattle.ecore_meta.specs.Inheritance.{features}
use Rattle.ecore_meta.specs.Valid.{IsMetamodel}
use Rattle.model_store.specs.declared.parts.Cellv.{Cellv}
use Rattle.model_store.specs.declared.parts.Cellv.TheVariants.{Words, Int, Truth, Literal, Obj}
use Rattle.model_store.specs.declared.parts.Object.{Object}
use Rattle.model_store.specs.Contents.{Contents, object_at, contains, objects_of, is_object_no, holder, container}
use Rattle.model_store.specs.Order.{contents_in, contents_of, HasNoCycle}
use Rattle.model_store.specs.Paths.{is_slash, at_number, root_named, top_within}
use Rattle.model_store.specs.Valid.{IsModel, Refers}
use Rattle.model_store.proofs.Chains.{HasContent, IsChain, IsChain-one, length-chain}
use Rattle.model_store.proofs.Counted.{placed_within, placed_at, at_most}
use Rattle.model_store.proofs.CreatedModel.{seen_once}
use Rattle.model_store.proofs.Holding.{referred, no_slots, holder_refers}
use Rattle.model_store.proofs.PathDigits.{at_decimal, decimal_no_slash}
use Rattle.model_store.proofs.Slots.{same_object}
use Rattle.model_store.proofs.Thinned.{Contains_first, Contains_later, Contains_none, Contains_cases}
use Rattle.model_store.proofs.Updates.{found_within}

-- ## What a containment holds is among the contents

among_objects : (p : ObjId) (cells : List Cellv) → Contains cells (Obj p) → Contains (objects_of cells) p
among_objects p [] h = absurd (Contains_none (Obj p) h)
among_objects p (c ∷ cells) h = on c (Contains_cases c (Obj p) cells h) (λ g. among_objects p cells g)
  where
    on : (c : Cellv) → (c ≡ Obj p) ⊎ Contains cells (Obj p) → (Contains cells (Obj p) → Contains (objects_of cells) p) → Contains (objects_of (c ∷ cells)) p
    on c (inl e) again = subst (λ d. Contains (objects_of (d ∷ cells)) p) (sym e) (Contains_first p (objects_of cells))
    on (Obj q) (inr g) again = Contains_later q p (objects_of cells) (again g)
    on (Words t) (inr g) again = again g
    on (Int n) (inr g) again = again g
    on (Truth b) (inr g) again = again g
    on (Literal l) (inr g) again = again g

module _ (meta : Parts) (p : ObjId) where
  among_contents : (fs : List FeatId) (slots : List (List Cellv)) (k : ℕ) (f : FeatId) → k < length fs → slice_index_or fs k f ≡ f → contains meta f ≡ true → Contains (slice_index_or slots k []) (Obj p) → Contains (contents_in meta fs slots) p
  among_contents [] slots k f l e inside h = absurd (omega (arith, l))
  among_contents (g ∷ fs) [] k f l e inside h = absurd (Contains_none (Obj p) (subst (λ cells. Contains cells (Obj p)) (no_slots k) h))
  among_contents (g ∷ fs) (cells ∷ slots) zero f l e inside h =
      Contains-append_left (if contains meta g then objects_of cells else []) (contents_in meta fs slots) p
      (subst (λ b. Contains (if b then objects_of cells else []) p) (sym (ap (contains meta) e ∙ inside)) (among_objects p cells h))
  among_contents (g ∷ fs) (cells ∷ slots) (suc k) f l e inside h =
      Contains-append_right (if contains meta g then objects_of cells else []) (contents_in meta fs slots) p (among_contents fs slots k f (omega (arith, l)) e inside h)

pub content_of : (m : Contents) (r p : ObjId) (f : FeatId) → contains m.meta f ≡ true → Refers m r f p → HasContent m r.0 p.0
content_of m r p f inside h =
    let x = referred m r p f h in
    subst (λ y. Contains (option_map_or (contents_of m.meta) y []) p) (sym x.there)
    (among_contents m.meta p (features m.meta.classes x.object.class) x.object.slots x.place f x.within x.feature inside x.it)

IsChain-cons : (m : Contents) (r o : ℕ) (path : List ℕ) → HasContent m r o → IsChain m (o ∷ path) → IsChain m (r ∷ o ∷ path)
IsChain-cons m r o path h p = record { falls = on }
  where
    on : (k : ℕ) → k + 1 < length (r ∷ o ∷ path) → HasContent m (get_or (r ∷ o ∷ path) k 0) (get_or (r ∷ o ∷ path) (k + 1) 0)
    on zero l = h
    on (suc k) l =
        let next : suc (k + 1) ≡ suc k + 1 = omega arith in
        subst (λ n. HasContent m (get_or (o ∷ path) k 0) (get_or (r ∷ o ∷ path) n 0)) next (p.falls k (omega (arith, l)))

module _ (m : Contents) (valid : IsMetamodel m.meta) (model : IsModel m) where
  -- ## The top

  module _ (acyclic : HasNoCycle m) where
    top_free : (n : ℕ) (o : ObjId) (path : List ℕ) → IsChain m (o.0 ∷ path) → length m.objects < n + length path → holder m (top_within n m o) ≡ None
    unfolding top_within
    top_free zero o path chain l =
        let short : length path ≤ length m.objects = length-chain m (o.0 ∷ path) (length path) acyclic chain (omega arith) in
        absurd (omega (arith, short, l))
    top_free (suc n) o path chain l = on (holder m o) refl (λ r h. top_free n r (o.0 ∷ path) (IsChain-cons m r.0 o.0 path h chain) (omega (arith, l)))
      where
        on : (x : Option (ObjId × FeatId)) → holder m o ≡ x → ((r : ObjId) → HasContent m r.0 o.0 → holder m (top_within n m r) ≡ None)
            → holder m (option_map_or (λ at. top_within n m at.0) x o) ≡ None
        on None e above = e
        on (Some at) e above = let h = holder_refers m (seen_once m.meta valid) model.shaped o at.0 at.1 e in above at.0 (content_of m at.0 o at.1 h.0 h.1)

  top_there : (n : ℕ) (o : ObjId) → IsSome (object_at m.objects o) → IsSome (object_at m.objects (top_within n m o))
  unfolding top_within
  top_there zero o h = h
  top_there (suc n) o h = on (holder m o) refl (λ r k. top_there n r k)
    where
      on : (x : Option (ObjId × FeatId)) → holder m o ≡ x → ((r : ObjId) → IsSome (object_at m.objects r) → IsSome (object_at m.objects (top_within n m r)))
          → IsSome (object_at m.objects (option_map_or (λ at. top_within n m at.0) x o))
      on None e above = h
      on (Some at) e above =
          let k = holder_refers m (seen_once m.meta valid) model.shaped o at.0 at.1 e in
          let x = referred m at.0 o at.1 k.1 in
          above at.0 (ap is_some x.there)

  pub top_is_root : HasNoCycle m → (o : ObjId) → IsSome (object_at m.objects o) → Contains m.roots (top_within (suc (length m.objects)) m o)
  top_is_root acyclic o h =
      let n : ℕ = suc (length m.objects) in
      let free : container m (top_within n m o) ≡ None = ap (option_map (λ at. at.0)) (top_free acyclic n o [] (IsChain-one m o.0) (omega arith)) in
      (model.roots (top_within n m o)).1 (top_there n o h, free)

  -- ## The number of a root

  module _ (few : length m.objects < 2 ^ 32) (t : ObjId) (root : Contains m.roots t) where
    root_below : (q : ObjId) → Contains m.roots q → q.0 < length m.objects
    root_below q h = on (object_at m.objects q) refl ((model.roots q).0 h).0
      where
        on : (x : Option Object) → object_at m.objects q ≡ x → IsSome x → q.0 < length m.objects
        on None e s = absurd (false≢true s)
        on (Some object) e s = found_within m.objects q.0 object e

    alone : (q : ObjId) → is_object_no t q ≡ true → q ≡ t
    alone q e = same_object q t (eqb-true q.0 t.0 e)

    abbrev at_place : ℕ
    at_place = position_or_len (is_object_no t) m.roots

    passes : is_object_no t t ≡ true
    passes = eq-eqb t.0 t.0 refl

    place_small : at_place < 2 ^ 64
    place_small =
        let low = placed_within (is_object_no t) t passes alone m.roots root in
        let short = at_most (λ (q : ObjId). q.0) (length m.objects) t m.roots model.roots_differ (λ x y _ _ e. same_object x y e) root_below in
        omega (arith, low, short, few)

    -- what stands after the first slash
    abbrev pub digits : List ℕ
    digits = if length m.roots == 1 then [] else decimal at_place

    pub root_back : root_named m.roots digits ≡ Some t
    root_back = on m.roots root (at_decimal m.roots at_place place_small ∙ placed_at (is_object_no t) t passes alone m.roots root)
      where
        on : (roots : List ObjId) → Contains roots t → at_number roots (decimal at_place) ≡ Some t → root_named roots (if length roots == 1 then [] else decimal at_place) ≡ Some t
        on [] h e = absurd (Contains_none t h)
        on (q ∷ []) h e = ⊎_elim (λ (s : q ≡ t). ap Some s) (λ (g : Contains [] t). absurd (Contains_none t g)) (Contains_cases q t [] h)
        on (q ∷ r ∷ roots) h e =
            let several : (length (q ∷ r ∷ roots) == 1) ≡ false = ne_eqb (length (q ∷ r ∷ roots)) 1 (λ s. let no : ⊥ = omega (arith, s) in no) in
            ap (λ b. root_named (q ∷ r ∷ roots) (if b then [] else decimal at_place)) several ∙ e

    pub root_no_slash : list_any is_slash digits ≡ false
    root_no_slash = on (length m.roots == 1)
      where
        on : (b : Bool) → list_any is_slash (if b then [] else decimal at_place) ≡ false
        on true = refl
        on false = decimal_no_slash at_place place_small
