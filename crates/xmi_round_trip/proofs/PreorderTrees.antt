-- An object's tree has what the object encloses. The trees of two contents of one object have nothing in common, and so those of two roots.
use Rattle.std.proofs.Common.{◌≡◌, ℕ, zero, suc, ◌⊎◌, inl, inr, List, length, refl, sym, subst, ⊎_elim, Option, Some, None}
use Rattle.std.specs.Prelude.{Contains, IsSome, flat_map}
use Rattle.std.specs.Option.{option_map_or}
use Rattle.atl_base.specs.declared.numbers.FeatId.{FeatId}
use Rattle.atl_base.specs.declared.numbers.ObjId.{ObjId}
use Rattle.ecore_meta.specs.Valid.{AllDiffer, IsMetamodel}
use Rattle.model_store.specs.Contents.{Contents, holder, object_at}
use Rattle.model_store.specs.Order.{Encloses, itself, by_content, HasNoCycle, IsTreeLaw, contents, preorder, tree, tree_within}
use Rattle.model_store.specs.Paths.{top_within}
use Rattle.model_store.specs.Valid.{IsModel}
use Rattle.model_store.proofs.PathRoots.{content_of, top_is_root}
use Rattle.model_store.proofs.Thinned.{Contains_first, Contains_later, Contains_none, Contains_cases}
use Rattle.xmi_round_trip.proofs.PreorderContents.{content_there, contents_differ, one_container, root_apart}
use Rattle.xmi_round_trip.proofs.Pieces.{IsPiece, joined_piece, piece_later, piece_within}
use Rattle.xmi_round_trip.proofs.Differing.{differ_none, differ_cons, joined_differ}
use Rattle.ecore_meta.proofs.Membership.{Contains-flat_map, Contains-from_flat_map}
use Rattle.xmi_round_trip.proofs.Holders.{root_there, held_by}

-- ## Walks down, by their last step

-- an object is reached from another, from container to content
pub data Reaches (m : Contents) (o : ObjId) : ObjId → Type 0 where
  here : Reaches m o o
  further : {r p : ObjId} → Reaches m o r → Contains (contents m r) p → Reaches m o p

-- walks by their first step, after one by its last
pub reach_on : (m : Contents) (o : ObjId) {q p : ObjId} → Encloses m q p → Reaches m o q → Reaches m o p
reach_on m o itself r = r
reach_on m o (by_content c e) r = reach_on m o e (further r c)

-- and before one
enclose_on : (m : Contents) (o : ObjId) {q p : ObjId} → Reaches m o q → Encloses m q p → Encloses m o p
enclose_on m o here e = e
enclose_on m o (further r c) e = enclose_on m o r (by_content c e)

module _ (m : Contents) (o : ObjId) where
  -- what is reached is there
  pub reached_there : {p : ObjId} → ((r p : ObjId) → Contains (contents m r) p → IsSome (object_at m.objects p)) → IsSome (object_at m.objects o) → Reaches m o p → IsSome (object_at m.objects p)
  reached_there next h here = h
  reached_there next h (further {r = r} {p = p} up c) = next r p c

-- ## Trees

-- what is in a tree is enclosed
enclosed : (n : ℕ) (m : Contents) (o p : ObjId) → Contains (tree_within n m o) p → Encloses m o p
unfolding tree_within
enclosed zero m o p h = absurd (Contains_none p h)
enclosed (suc n) m o p h = ⊎_elim
    (λ (e : o ≡ p). subst (Encloses m o) e itself)
    (λ (k : Contains (flat_map (tree_within n m) (contents m o)) p).
    let q = Contains-from_flat_map (tree_within n m) (contents m o) p k in
    by_content q.1 (enclosed n m q.0 p q.2))
    (Contains_cases o p (flat_map (tree_within n m) (contents m o)) h)

-- so is what is in the whole tree
pub tree_encloses : (m : Contents) (o p : ObjId) → Contains (tree m o) p → Encloses m o p
unfolding tree
tree_encloses m o p h = enclosed (suc (length m.objects)) m o p h

-- and the other way round
pub in_tree : (m : Contents) → IsTreeLaw m → {o p : ObjId} → Encloses m o p → Contains (tree m o) p
in_tree m law {o} itself = subst (λ l. Contains l o) (sym (law o)) (Contains_first o (flat_map (tree m) (contents m o)))
in_tree m law {o} {p} (by_content {q = q} c e) =
    subst (λ l. Contains l p) (sym (law o)) (Contains_later o p (flat_map (tree m) (contents m o)) (Contains-flat_map (tree m) (contents m o) q p c (in_tree m law e)))

-- the tree of what is reached is a piece
pub reached_piece : (m : Contents) (o : ObjId) → IsTreeLaw m → {p : ObjId} (whole : List ObjId) → IsPiece (tree m o) whole → Reaches m o p → IsPiece (tree m p) whole
reached_piece m o law whole w here = w
reached_piece m o law whole w (further {r = r} {p = p} up c) =
    piece_within (tree m p) (tree m r) whole
    (subst (IsPiece (tree m p)) (sym (law r)) (piece_later r (tree m p) (flat_map (tree m) (contents m r)) (joined_piece (tree m) (contents m r) p c)))
    (reached_piece m o law whole w up)

-- ## One way up

-- a walk is none, or it has a last step
last_step : (m : Contents) (b : ObjId) {p : ObjId} → Reaches m b p → (b ≡ p) ⊎ ((r : ObjId) × Reaches m b r × Contains (contents m r) p)
last_step m b here = inl refl
last_step m b (further {r = r} up c) = inr (r, up, c)

module _ (m : Contents) (valid : IsMetamodel m.meta) (model : IsModel m) where
  -- two walks down to one object: one of them begins on the other
  one_way : (a b : ObjId) {p : ObjId} → Reaches m a p → Reaches m b p → Reaches m a b ⊎ Reaches m b a
  one_way a b here k = inr k
  one_way a b (further {r = r} {p = p} up c) k = ⊎_elim
      (λ (e : b ≡ p). inl (subst (Reaches m a) (sym e) (further up c)))
      (λ (s : (q : ObjId) × Reaches m b q × Contains (contents m q) p). one_way a b up (subst (Reaches m b) (one_container m valid model s.0 r p s.2 c) s.1))
      (last_step m b k)

  -- no root is reached from another
  root_reached : (q z : ObjId) → Contains m.roots z → Reaches m q z → q ≡ z
  root_reached q z root k = ⊎_elim
      (λ (e : q ≡ z). e)
      (λ (s : (r : ObjId) × Reaches m q r × Contains (contents m r) z). absurd (root_apart m valid model s.0 z root s.2))
      (last_step m q k)

  -- what two roots enclose makes them one
  root_siblings : (q z y : ObjId) → Contains m.roots q → Contains m.roots z → Encloses m q y → Encloses m z y → q ≡ z
  root_siblings q z y a b c d = ⊎_elim
      (λ (k : Reaches m q z). root_reached q z b k)
      (λ (k : Reaches m z q). sym (root_reached z q a k))
      (one_way q z (reach_on m q c here) (reach_on m z d here))

  -- the object at the top encloses the one that it was found from
  top_encloses : (n : ℕ) (o : ObjId) → Encloses m (top_within n m o) o
  unfolding top_within
  top_encloses zero o = itself
  top_encloses (suc n) o = on (holder m o) refl (λ r. top_encloses n r)
    where
      on : (x : Option (ObjId × FeatId)) → holder m o ≡ x → ((r : ObjId) → Encloses m (top_within n m r) r) → Encloses m (option_map_or (λ at. top_within n m at.0) x o) o
      on None e up = itself
      on (Some at) e up =
          let h = held_by m valid model o at.0 at.1 e in
          let t : ObjId = top_within n m at.0 in
          enclose_on m t (reach_on m t (up at.0) here) (by_content (content_of m at.0 o at.1 h.0 h.1) itself)

  -- what stands in the order is there
  pub preorder_there : (o : ObjId) → Contains (preorder m) o → IsSome (object_at m.objects o)
  preorder_there o h =
      let r = Contains-from_flat_map (tree m) m.roots o h in
      reached_there m r.0 (content_there m valid model) (root_there m valid model r.0 r.1) (reach_on m r.0 (tree_encloses m r.0 o r.2) here)

  module _ (acyclic : HasNoCycle m) where
    -- no content is reached from another of the same object
    content_reached : (o q z : ObjId) → Contains (contents m o) q → Contains (contents m o) z → Reaches m q z → q ≡ z
    content_reached o q z a b k = ⊎_elim
        (λ (e : q ≡ z). e)
        (λ (s : (r : ObjId) × Reaches m q r × Contains (contents m r) z).
        absurd (acyclic o (q, a, enclose_on m q (subst (Reaches m q) (one_container m valid model s.0 o z s.2 b) s.1) itself)))
        (last_step m q k)

    -- what two contents of one object enclose makes them one
    siblings : (o q z y : ObjId) → Contains (contents m o) q → Contains (contents m o) z → Encloses m q y → Encloses m z y → q ≡ z
    siblings o q z y a b c d = ⊎_elim
        (λ (k : Reaches m q z). content_reached o q z a b k)
        (λ (k : Reaches m z q). sym (content_reached o z q b a k))
        (one_way q z (reach_on m q c here) (reach_on m z d here))

    -- no object stands in a tree twice
    tree_differs : (n : ℕ) (o : ObjId) → AllDiffer (tree_within n m o)
    unfolding tree_within
    tree_differs zero o = differ_none
    tree_differs (suc n) o = differ_cons o (flat_map (tree_within n m) (contents m o))
        (λ h. let q = Contains-from_flat_map (tree_within n m) (contents m o) o h in acyclic o (q.0, q.1, enclosed n m q.0 o q.2))
        (joined_differ (tree_within n m) (contents m o) (contents_differ m valid model o) (λ q c. tree_differs n q)
        (λ q z y a b c d. siblings o q z y a b (enclosed n m q y c) (enclosed n m z y d)))

    -- nor in the order
    pub preorder_differs : AllDiffer (preorder m)
    unfolding tree
    preorder_differs = joined_differ (tree m) m.roots model.roots_differ (λ r c. tree_differs (suc (length m.objects)) r)
        (λ q z y a b c d. root_siblings q z y a b (tree_encloses m q y c) (tree_encloses m z y d))

    -- a root, and the walk from it
    root_above : (o : ObjId) → IsSome (object_at m.objects o) → (t : ObjId) × Contains m.roots t × Encloses m t o
    root_above o h = (top_within (suc (length m.objects)) m o, top_is_root m valid model acyclic o h, top_encloses (suc (length m.objects)) o)

    -- each object stands in the order
    pub preorder_has : IsTreeLaw m → (o : ObjId) → IsSome (object_at m.objects o) → Contains (preorder m) o
    preorder_has law o h = let t = root_above o h in Contains-flat_map (tree m) m.roots t.0 o t.1 (in_tree m law t.2)

    -- and its tree in one piece
    pub tree_piece : IsTreeLaw m → (o : ObjId) → IsSome (object_at m.objects o) → IsPiece (tree m o) (preorder m)
    tree_piece law o h = let t = root_above o h in reached_piece m t.0 law (preorder m) (joined_piece (tree m) m.roots t.0 t.1) (reach_on m t.0 t.2 here)
