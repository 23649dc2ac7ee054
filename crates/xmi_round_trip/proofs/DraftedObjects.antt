-- The objects and the roots of a model's file are those of the model, with the new numbers.
use Rattle.std.proofs.Common.{◌≡◌, ℕ, zero, suc, ◌<◌, List, [], ◌∷◌, ◌++◌, length, map, refl, sym, ap, ◌∙◌, arith, Option}
use Rattle.std.specs.Prelude.{Bool, true, false, flat_map, Contains, if◌then◌else◌}
use Rattle.std.proofs.lemmas.List.Concat.{flat_map_single}
use Rattle.atl_base.specs.declared.numbers.FeatId.{FeatId}
use Rattle.atl_base.specs.declared.numbers.ObjId.{ObjId}
use Rattle.ecore_meta.proofs.FeatureLaws.{flat_map-agree}
use Rattle.model_store.specs.declared.parts.Cellv.{Cellv}
use Rattle.model_store.specs.declared.parts.Object.{Object}
use Rattle.model_store.specs.Contents.{Contents}
use Rattle.model_store.specs.Order.{contents, preorder, tree}
use Rattle.xmi_models.specs.Outline.{Entry}
use Rattle.xmi_models.specs.Faults.{objects}
use Rattle.xmi_links.specs.References.{is_root, object_by, objects_by, roots_from}
use Rattle.xmi_round_trip.specs.Renumbered.{number}
use Rattle.xmi_round_trip.proofs.Filed.{IsFiled, IsOrdered, file, numbers_from, object_entry, object_part}
use Rattle.xmi_round_trip.proofs.Parts.{part_there}
use Rattle.xmi_round_trip.proofs.Lists.{flat_map_twice, flat_map_none}
use Rattle.xmi_round_trip.proofs.Numbers.{first_from, next_from}
use Rattle.xmi_round_trip.proofs.Entries.{part_of_root, part_of_content}

-- ## Objects

module _ (m : Contents) (S : ObjId → Entry → FeatId → List Cellv) where
  -- what is made of an object
  abbrev made : ObjId → Option Object
  made o = object_by m.meta (S (number m o) (object_entry m o)) (object_entry m o)

  -- objects whose numbers rise by one
  objects_numbered : (n : ℕ) (os : List ObjId) → map (number m) os ≡ numbers_from n (length os) → objects_by m.meta S n (map (object_entry m) os) ≡ map made os
  objects_numbered n [] h = refl
  objects_numbered n (o ∷ os) h =
      ap (λ p. object_by m.meta (S p (object_entry m o)) (object_entry m o) ∷ objects_by m.meta S (suc n) (map (object_entry m) os))
      (sym (first_from m n o os h))
      ∙ ap (λ xs. made o ∷ xs) (objects_numbered (suc n) os (next_from m n o os h))

  -- all objects of a file
  pub objects_drafted : IsOrdered m → IsFiled m → objects_by m.meta S 0 (objects (file m)) ≡ map made (preorder m)
  objects_drafted known filed = ap (objects_by m.meta S 0) filed.objects_are ∙ objects_numbered 0 (preorder m) known.all_numbers

-- ## Roots

module _ (m : Contents) where
  -- the new number of a root, and nothing of a content
  abbrev top : ObjId → List ObjId
  top o = if is_root (object_part m o) then number m o ∷ [] else []

  -- roots among objects whose numbers rise by one
  roots_numbered : (n : ℕ) (os : List ObjId) → map (number m) os ≡ numbers_from n (length os) → roots_from n (map (object_entry m) os) ≡ flat_map top os
  roots_numbered n [] h = refl
  roots_numbered n (o ∷ os) h =
      on (is_root (object_part m o)) (sym (first_from m n o os h)) (roots_numbered (suc n) os (next_from m n o os h))
    where
      on : (b : Bool) → ◌≡◌ {A = ObjId} (record { 0 = n }) (number m o) → roots_from (suc n) (map (object_entry m) os) ≡ flat_map top os
          → (if b then record { 0 = n } ∷ roots_from (suc n) (map (object_entry m) os) else roots_from (suc n) (map (object_entry m) os)) ≡ (if b then number m o ∷ [] else []) ++ flat_map top os
      on true e r = ap (λ x. x ∷ roots_from (suc n) (map (object_entry m) os)) e ∙ ap (λ xs. number m o ∷ xs) r
      on false e r = r

  module _ (known : IsOrdered m) where
    -- a content is no root
    content_no_top : (x q : ObjId) → Contains (contents m x) q → top q ≡ []
    content_no_top x q h =
        let p = part_there m x q h in
        ap (λ e. if is_root e then number m q ∷ [] else []) (part_of_content m q x p.0 (known.held x q p.0 p.1))

    -- below an object there is no root
    none_within : (b : ℕ) (x : ObjId) → length (tree m x) < b → flat_map top (flat_map (tree m) (contents m x)) ≡ []
    none_within zero x l = absurd (omega (arith, l))
    none_within (suc b) x l = flat_map_twice top (tree m) (contents m x) ∙ flat_map_none (λ q. flat_map top (tree m q)) (contents m x) (λ q h. below q h (none_within b q (omega (arith, l, known.shorter x q h))))
      where
        below : (q : ObjId) → Contains (contents m x) q → flat_map top (flat_map (tree m) (contents m q)) ≡ [] → flat_map top (tree m q) ≡ []
        below q h r = ap (flat_map top) (known.tree_is q) ∙ ap (λ xs. xs ++ flat_map top (flat_map (tree m) (contents m q))) (content_no_top x q h) ∙ r

    -- a root's tree has that root alone
    root_alone : (r : ObjId) → Contains m.roots r → flat_map top (tree m r) ≡ number m r ∷ []
    root_alone r h =
        ap (flat_map top) (known.tree_is r)
        ∙ ap (λ xs. xs ++ flat_map top (flat_map (tree m) (contents m r))) (ap (λ e. if is_root e then number m r ∷ [] else []) (part_of_root m r (known.roots_free r h)))
        ∙ ap (λ xs. number m r ∷ xs) (none_within (suc (length (tree m r))) r (omega arith))

    -- the roots of a file
    pub roots_drafted : IsFiled m → roots_from 0 (objects (file m)) ≡ map (number m) m.roots
    roots_drafted filed =
        ap (roots_from 0) filed.objects_are
        ∙ roots_numbered 0 (preorder m) known.all_numbers
        ∙ flat_map_twice top (tree m) m.roots
        ∙ flat_map-agree (λ r. flat_map top (tree m r)) (λ r. number m r ∷ []) m.roots root_alone
        ∙ flat_map_single (number m) m.roots
