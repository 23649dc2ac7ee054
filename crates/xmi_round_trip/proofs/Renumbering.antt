-- The model whose objects are numbered in preorder is the same model with these numbers, and in the same order.
use Rattle.std.proofs.Common.{◌≡◌, ℕ, zero, suc, ◌<◌, ◌≤◌, Bool, true, false, List, [], ◌∷◌, ◌++◌, length, map, refl, sym, ap, ap₂, subst, ◌∙◌, arith, Option, Some, None}
use Rattle.std.specs.Prelude.{slice_index_or, option_map, IsSome, flat_map, if◌then◌else◌}
use Rattle.std.specs.List.{position_or_len}
use Rattle.std.specs.Option.{option_map_or}
use Rattle.std.proofs.lemmas.List.{length-map, map-append}
use Rattle.std.proofs.lemmas.List.Elements.{Contains-get_or}
use Rattle.atl_base.specs.declared.numbers.FeatId.{FeatId}
use Rattle.atl_base.specs.declared.numbers.ObjId.{ObjId}
use Rattle.ecore_meta.specs.declared.parts.Parts.{Parts}
use Rattle.ecore_meta.specs.Inheritance.{features}
use Rattle.ecore_meta.specs.Valid.{AllDiffer}
use Rattle.model_store.specs.declared.parts.Cellv.{Cellv}
use Rattle.model_store.specs.declared.parts.Cellv.TheVariants.{Words, Int, Truth, Literal, Obj}
use Rattle.model_store.specs.declared.parts.Object.{Object}
use Rattle.model_store.specs.Contents.{Contents, contains, is_object_no, object_at, objects_of}
use Rattle.model_store.specs.Order.{HasNoCycle, contents, contents_in, contents_of, preorder, tree, tree_within}
use Rattle.model_store.specs.Valid.{IsValid}
use Rattle.model_store.proofs.Slots.{same_object}
use Rattle.xmi_round_trip.specs.Renumbered.{IsRenumbering, number, renumbered, renumbered_object, renumbered_value}
use Rattle.xmi_round_trip.proofs.Filed.{IsOrdered}
use Rattle.xmi_round_trip.proofs.Pieces.{first_place, piece_short}
use Rattle.xmi_round_trip.proofs.PreorderTrees.{tree_piece}
use Rattle.xmi_round_trip.proofs.Lists.{split_there, joined_mapped}
use Rattle.ecore_meta.proofs.FeatureLaws.{flat_map-agree}
use Rattle.xmi_round_trip.proofs.Numbers.{there_within, mapped_at}

-- ## Maps

-- the objects of a slot with other numbers
objects_mapped : (new : ObjId → ObjId) (cells : List Cellv) → objects_of (map (renumbered_value new) cells) ≡ map new (objects_of cells)
objects_mapped new [] = refl
objects_mapped new (Obj q ∷ cells) = ap (λ l. new q ∷ l) (objects_mapped new cells)
objects_mapped new (Words t ∷ cells) = objects_mapped new cells
objects_mapped new (Int n ∷ cells) = objects_mapped new cells
objects_mapped new (Truth b ∷ cells) = objects_mapped new cells
objects_mapped new (Literal l ∷ cells) = objects_mapped new cells

module _ (new : ObjId → ObjId) (meta : Parts) where
  -- and the contents
  contents_mapped : (fs : List FeatId) (slots : List (List Cellv)) → contents_in meta fs (map (map (renumbered_value new)) slots) ≡ map new (contents_in meta fs slots)
  contents_mapped [] slots = refl
  contents_mapped (f ∷ fs) [] = refl
  contents_mapped (f ∷ fs) (cells ∷ slots) =
      ap₂ (λ (a b : List ObjId). a ++ b) (on (contains meta f)) (contents_mapped fs slots)
      ∙ sym (map-append new (if contains meta f then objects_of cells else []) (contents_in meta fs slots))
    where
      on : (b : Bool) → (if b then objects_of (map (renumbered_value new) cells) else []) ≡ map new (if b then objects_of cells else [])
      on true = objects_mapped new cells
      on false = refl

-- ## Objects

module _ (m : Contents) (valid : IsValid m) (acyclic : HasNoCycle m) (known : IsOrdered m) where
  -- the numbered model
  abbrev n : Contents
  n = renumbered m

  -- what stands where an object of this number stands
  abbrev entry : ObjId → Option Object
  entry o = option_map (renumbered_object (number m)) (object_at m.objects o)

  -- it has as many places as objects
  sized : length n.objects ≡ length (preorder m)
  sized = length-map (preorder m) entry

  -- each object is there, at its number
  object_there : (o : ObjId) → IsSome (object_at m.objects o) → object_at n.objects (number m o) ≡ entry o
  object_there o h = mapped_at m entry o None (known.has o h)

  -- the k-th object in preorder has the number k
  number_at : (k : ℕ) (d : ObjId) → k < length (preorder m) → number m (slice_index_or (preorder m) k d) ≡ record { 0 = k }
  number_at k d l =
      let s = split_there (preorder m) k d l in
      let o : ObjId = slice_index_or (preorder m) k d in
      same_object (number m o) (record { 0 = k })
      (ap (position_or_len (is_object_no o)) s.2 ∙ first_place o s.0 s.1 (subst AllDiffer s.2 known.differ) ∙ s.3)

  -- what is there has a number
  within : (q : ObjId) → IsSome (object_at n.objects q) → q.0 < length (preorder m)
  within q h = subst (λ k. q.0 < k) sized (there_within n.objects q h)

  -- and is one of the objects
  no_others : (q : ObjId) → IsSome (object_at n.objects q) → (o : ObjId) × IsSome (object_at m.objects o) × (number m o ≡ q)
  no_others q h =
      let l = within q h in
      let o : ObjId = slice_index_or (preorder m) q.0 q in
      (o, known.there o (Contains-get_or (preorder m) q.0 q l), number_at q.0 q l)

  -- ## Trees

  -- its contents are the same, with their numbers
  contents_there : (o : ObjId) → IsSome (object_at m.objects o) → contents n (number m o) ≡ map (number m) (contents m o)
  contents_there o h = ap (λ x. option_map_or (contents_of m.meta) x []) (object_there o h) ∙ on (object_at m.objects o)
    where
      on : (x : Option Object) → option_map_or (contents_of m.meta) (option_map (renumbered_object (number m)) x) [] ≡ map (number m) (option_map_or (contents_of m.meta) x [])
      on None = refl
      on (Some object) = contents_mapped (number m) m.meta (features m.meta.classes object.class) object.slots

  -- and so are those of its contents, in as much room
  tree_mapped : (k : ℕ) (o : ObjId) → IsSome (object_at m.objects o) → tree_within k n (number m o) ≡ map (number m) (tree_within k m o)
  unfolding tree_within
  tree_mapped zero o h = refl
  tree_mapped (suc k) o h =
      ap (λ l. number m o ∷ l)
      (ap (flat_map (tree_within k n)) (contents_there o h)
      ∙ joined_mapped (tree_within k m) (number m) (tree_within k n) (number m) (contents m o) (λ q c. tree_mapped k q (known.contents_there o q c)))

  -- as much room as there are objects in the tree is enough
  tree_enough : (k : ℕ) (o : ObjId) → length (tree m o) ≤ k → tree_within k m o ≡ tree m o
  unfolding tree_within
  tree_enough zero o l =
      let size : length (tree m o) ≡ length (o ∷ flat_map (tree m) (contents m o)) = ap length (known.tree_is o) in
      absurd (omega (arith, size, l))
  tree_enough (suc k) o l =
      ap (λ xs. o ∷ xs) (flat_map-agree (tree_within k m) (tree m) (contents m o) (λ q c. let s = known.shorter o q c in tree_enough k q (omega (arith, s, l))))
      ∙ sym (known.tree_is o)

  -- so trees are the same
  same_tree : (o : ObjId) → IsSome (object_at m.objects o) → tree n (number m o) ≡ map (number m) (tree m o)
  unfolding tree
  same_tree o h =
      let short : length (tree m o) ≤ length (preorder m) = piece_short (tree m o) (preorder m) (tree_piece m valid.metamodel valid.model acyclic known.tree_is o h) in
      tree_mapped (suc (length n.objects)) o h
      ∙ ap (map (number m)) (tree_enough (suc (length n.objects)) o (omega (arith, short, sized)))

  -- and the whole order
  order : preorder n ≡ map (number m) (preorder m)
  order = joined_mapped (tree m) (number m) (tree n) (number m) m.roots (λ r c. same_tree r (known.roots_there r c))

  -- all of it
  pub renumbering : IsRenumbering (number m) m (renumbered m)
  renumbering = record {
    meta = refl;
    roots = refl;
    objects = object_there;
    apart = known.apart;
    no_others = no_others;
    order = order;
  }
