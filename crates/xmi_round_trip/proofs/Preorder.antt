-- The order of a model without a cycle: each object stands in it once, and numbers rise by one in the tree of each.
use Rattle.std.proofs.Common.{◌≡◌, ◌<◌, ◌≤◌, List, [], ◌∷◌, ◌++◌, length, map, sym, ap, subst, ◌∙◌, arith, append-nil}
use Rattle.std.specs.Prelude.{slice_get, Contains, IsSome, flat_map}
use Rattle.std.specs.List.{position_or_len}
use Rattle.std.proofs.lemmas.Option.{same_Some}
use Rattle.atl_base.specs.declared.numbers.ObjId.{ObjId}
use Rattle.ecore_meta.specs.Valid.{AllDiffer}
use Rattle.model_store.specs.Contents.{Contents, is_object_no, object_at}
use Rattle.model_store.specs.Order.{HasNoCycle, IsTreeLaw, contents, preorder, tree}
use Rattle.model_store.specs.Valid.{IsValid}
use Rattle.model_store.proofs.Trees.{tree-is}
use Rattle.xmi_round_trip.specs.Renumbered.{number}
use Rattle.xmi_round_trip.proofs.Filed.{IsOrdered, numbers_from}
use Rattle.xmi_round_trip.proofs.PreorderContents.{content_there, slots_are, part_held}
use Rattle.xmi_round_trip.proofs.Pieces.{first_place, joined_piece, piece_numbers, piece_short, places_few}
use Rattle.xmi_round_trip.proofs.PreorderTrees.{preorder_differs, preorder_has, preorder_there, tree_piece}
use Rattle.xmi_round_trip.proofs.Numbers.{placed}
use Rattle.xmi_round_trip.proofs.Holders.{root_free, root_there}

module _ (m : Contents) (valid : IsValid m) (acyclic : HasNoCycle m) where
  -- a tree is an object, and the trees of its contents
  law : IsTreeLaw m
  law = tree-is m acyclic

  -- no object stands in the order twice
  differs : AllDiffer (preorder m)
  differs = preorder_differs m valid.metamodel valid.model acyclic

  -- the numbers of a tree rise by one
  numbers : (o : ObjId) → IsSome (object_at m.objects o) → map (number m) (tree m o) ≡ numbers_from (number m o).0 (length (tree m o))
  numbers o h =
      let p = tree_piece m valid.metamodel valid.model acyclic law o h in
      let rest : List ObjId = flat_map (tree m) (contents m o) ++ p.after in
      let whole : preorder m ≡ p.before ++ o ∷ rest = p.is ∙ ap (λ l. p.before ++ (l ++ p.after)) (law o) in
      let first : (number m o).0 ≡ length p.before = ap (position_or_len (is_object_no o)) whole ∙ first_place o p.before rest (subst AllDiffer whole differs) in
      piece_numbers (preorder m) p.before (tree m o) p.after differs p.is ∙ ap (λ k. numbers_from k (length (tree m o))) (sym first)

  -- and so do all
  all_numbers : map (number m) (preorder m) ≡ numbers_from 0 (length (preorder m))
  all_numbers = piece_numbers (preorder m) [] (preorder m) [] differs (sym (append-nil (preorder m)))

  -- a content's tree is shorter
  shorter : (o q : ObjId) → Contains (contents m o) q → length (tree m q) < length (tree m o)
  shorter o q h =
      let size : length (tree m o) ≡ length (o ∷ flat_map (tree m) (contents m o)) = ap length (law o) in
      let part : length (tree m q) ≤ length (flat_map (tree m) (contents m o)) = piece_short (tree m q) (flat_map (tree m) (contents m o)) (joined_piece (tree m) (contents m o) q h) in
      omega (arith, size, part)

  -- each object stands in the order
  has : (o : ObjId) → IsSome (object_at m.objects o) → Contains (preorder m) o
  has = preorder_has m valid.metamodel valid.model acyclic law

  -- and nothing else
  there : (o : ObjId) → Contains (preorder m) o → IsSome (object_at m.objects o)
  there = preorder_there m valid.metamodel valid.model

  -- objects of one number are one
  apart : (o p : ObjId) → IsSome (object_at m.objects o) → IsSome (object_at m.objects p) → number m o ≡ number m p → o ≡ p
  apart o p h k e = same_Some o p (sym (placed m o (has o h)) ∙ ap (λ (n : ObjId). slice_get (preorder m) n.0) e ∙ placed m p (has p k))

  -- all of it
  pub ordered : IsOrdered m
  ordered = record {
    tree_is = law;
    shorter = shorter;
    contents_there = content_there m valid.metamodel valid.model;
    has = has;
    there = there;
    differ = differs;
    numbers = numbers;
    all_numbers = all_numbers;
    apart = apart;
    few = places_few m.objects (preorder m) differs there;
    slots = slots_are m valid.metamodel valid.model;
    held = part_held m valid.metamodel valid.model;
    roots_free = root_free m valid.metamodel valid.model;
    roots_there = root_there m valid.metamodel valid.model;
  }
