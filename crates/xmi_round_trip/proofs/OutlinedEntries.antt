-- The entries of an object are its own and those of its parts, and the objects among them are its tree. Without a cycle more room
-- below changes nothing.
use Rattle.std.proofs.Common.{◌≡◌, ℕ, zero, suc, ◌+◌, ◌<◌, List, [], ◌∷◌, ◌++◌, length, map, refl, sym, ap, subst, ◌∙◌, arith}
use Rattle.std.specs.Prelude.{◌==◌, Bool, true, false, flat_map, Contains, if◌then◌else◌}
use Rattle.std.proofs.lemmas.List.{get_or_push, length_push, map-append, length-map}
use Rattle.atl_base.specs.declared.numbers.ObjId.{ObjId}
use Rattle.model_store.specs.Contents.{Contents}
use Rattle.model_store.specs.Order.{contents, HasNoCycle, preorder, tree, tree_within}
use Rattle.model_store.proofs.Chains.{HasContent, IsChain, IsChain-one, IsChain-push, length-chain}
use Rattle.xmi_models.specs.Outline.{Entry, objects_in}
use Rattle.xmi_models.specs.Faults.{objects}
use Rattle.xmi_write.specs.Xmi.{Part, Content, Value}
use Rattle.xmi_round_trip.proofs.Filed.{IsFiled, IsOrdered, around_entry, entries, entries_within, file, object_entry, own_parts, part_entries}
use Rattle.ecore_meta.proofs.FeatureLaws.{flat_map-agree}
use Rattle.xmi_round_trip.proofs.Parts.{part_objects, contents_are, content_in}
use Rattle.xmi_round_trip.proofs.Entries.{objects_counted, object_is}
use Rattle.xmi_links.proofs.FaultlessEntries.{objects_together}

-- ## Room below

-- entries of parts, where those of contents agree
parts_agree : (m : Contents) (o : ObjId) (a b : ObjId → List Entry) → ((q : ObjId) → Contains (contents m o) q → a q ≡ b q)
    → flat_map (part_entries a m o) (own_parts m o) ≡ flat_map (part_entries b m o) (own_parts m o)
parts_agree m o a b h = flat_map-agree (part_entries a m o) (part_entries b m o) (own_parts m o) agree
  where
    agree : (p : Part) → Contains (own_parts m o) p → part_entries a m o p ≡ part_entries b m o p
    agree (Value f v) c = refl
    agree (Content f q) c = h q (content_in m o q f c)

module _ (m : Contents) (acyclic : HasNoCycle m) where
  -- with room enough for a chain of contents the room does not matter
  same_entries : (a b : ℕ) (path : List ℕ) (o : ObjId) → IsChain m (path ++ o.0 ∷ []) → length m.objects < a + length path → length m.objects < b + length path
      → entries_within a m o ≡ entries_within b m o
  unfolding entries_within
  same_entries zero b path o p h k = absurd (omega (arith, length-chain m (path ++ o.0 ∷ []) (length path) acyclic p (sym (length_push path o.0))))
  same_entries (suc a) zero path o p h k = absurd (omega (arith, length-chain m (path ++ o.0 ∷ []) (length path) acyclic p (sym (length_push path o.0))))
  same_entries (suc a) (suc b) path o p h k =
      ap (λ l. object_entry m o ∷ l) (parts_agree m o (entries_within a m) (entries_within b m) (λ s c.
      same_entries a b (path ++ o.0 ∷ []) s
      (IsChain-push m (path ++ o.0 ∷ []) s.0 p (λ i e. subst (λ n. HasContent m n s.0) (sym (get_or_push path o.0 0 i (omega (arith, length_push path o.0)))) c))
      (omega (arith, length_push path o.0))
      (omega (arith, length_push path o.0))))

  -- an object's entries by those of its parts
  pub entries_made : (o : ObjId) → entries m o ≡ object_entry m o ∷ flat_map (part_entries (entries m) m o) (own_parts m o)
  unfolding entries entries_within
  entries_made o = same_entries (suc (length m.objects)) (suc (suc (length m.objects))) [] o (IsChain-one m o.0) (omega arith) (omega arith)

-- ## The objects among them

module _ (m : Contents) where
  -- the objects among the entries of parts
  of_parts : (below : ObjId → List Entry) (trees : ObjId → List ObjId) → ((q : ObjId) → objects (below q) ≡ map (object_entry m) (trees q))
      → (o : ObjId) (ps : List Part) → objects (flat_map (part_entries below m o) ps) ≡ map (object_entry m) (flat_map trees (flat_map part_objects ps))
  of_parts below trees h o [] = refl
  of_parts below trees h o (Value f v ∷ ps) = of_parts below trees h o ps
  of_parts below trees h o (Content f q ∷ ps) =
      let rest : List Entry = flat_map (part_entries below m o) ps in
      let others : List ObjId = flat_map trees (flat_map part_objects ps) in
      objects_together (below q) rest
      ∙ ap (λ l. l ++ objects rest) (h q)
      ∙ ap (λ l. map (object_entry m) (trees q) ++ l) (of_parts below trees h o ps)
      ∙ sym (map-append (object_entry m) (trees q) others)

  -- level by level they are the tree
  objects_within : (n : ℕ) (o : ObjId) → objects (entries_within n m o) ≡ map (object_entry m) (tree_within n m o)
  unfolding entries_within tree_within
  objects_within zero o = refl
  objects_within (suc n) o =
      let rest : List Entry = flat_map (part_entries (entries_within n m) m o) (own_parts m o) in
      ap (λ b. if b then object_entry m o ∷ objects rest else objects rest) (object_is m o)
      ∙ ap (λ l. object_entry m o ∷ l) (of_parts (entries_within n m) (tree_within n m) (objects_within n) o (own_parts m o))
      ∙ ap (λ l. object_entry m o ∷ map (object_entry m) (flat_map (tree_within n m) l)) (sym (contents_are m o))

  -- the objects among an object's entries
  pub objects_made : (o : ObjId) → objects (entries m o) ≡ map (object_entry m) (tree m o)
  unfolding entries tree
  objects_made o = objects_within (suc (length m.objects)) o

  -- as many as stand in its tree
  pub tree_counted : (o : ObjId) → objects_in (entries m o) ≡ length (tree m o)
  tree_counted o = objects_counted (entries m o) ∙ ap length (objects_made o) ∙ length-map (tree m o) (object_entry m)

  -- those of roots
  of_roots : (os : List ObjId) → objects (flat_map (entries m) os) ≡ map (object_entry m) (flat_map (tree m) os)
  of_roots [] = refl
  of_roots (o ∷ os) =
      objects_together (entries m o) (flat_map (entries m) os)
      ∙ ap (λ l. l ++ objects (flat_map (entries m) os)) (objects_made o)
      ∙ ap (λ l. map (object_entry m) (tree m o) ++ l) (of_roots os)
      ∙ sym (map-append (object_entry m) (tree m o) (flat_map (tree m) os))

  -- the objects of the file
  pub objects_filed : objects (file m) ≡ map (object_entry m) (preorder m)
  objects_filed = on (length m.roots == 1) ∙ of_roots m.roots
    where
      on : (b : Bool) → objects ((if b then [] else around_entry m ∷ []) ++ flat_map (entries m) m.roots) ≡ objects (flat_map (entries m) m.roots)
      on true = refl
      on false = refl

-- what is known of a file's entries
pub filed : (m : Contents) → HasNoCycle m → IsOrdered m → IsFiled m
filed m acyclic known = record { entries_are = entries_made m acyclic; objects_below = λ o there. objects_made m o; objects_are = objects_filed m }
