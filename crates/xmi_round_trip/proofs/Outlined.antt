-- The outline of a model's document is the model's file.
use Rattle.std.proofs.Common.{◌≡◌, List, [], ◌∷◌, ◌++◌, length, map, refl, sym, ap, subst, ◌∙◌, append-nil, arith}
use Rattle.std.specs.Prelude.{◌==◌, true, false, codes, flat_map, Contains, if◌then◌else◌}
use Rattle.std.specs.List.{list_any}
use Rattle.std.proofs.lemmas.Bool.{ne_eqb}
use Rattle.atl_base.specs.declared.numbers.ObjId.{ObjId}
use Rattle.doc_text.specs.declared.tree.Child.TheVariants as child
use Rattle.doc_text.specs.declared.tree.Element.{Element}
use Rattle.doc_text.specs.declared.tree.Prefix.{Prefix}
use Rattle.doc_text.specs.Names.{xmi_space}
use Rattle.model_store.specs.Contents.{Contents, object_at}
use Rattle.model_store.specs.Order.{contents, HasNoCycle, tree}
use Rattle.model_store.specs.Valid.{IsValid}
use Rattle.model_store.proofs.Thinned.{Contains_first}
use Rattle.xmi_models.specs.Entries.{has_elements_in}
use Rattle.xmi_models.specs.Outline.{AtRoot, InAround, outline, walk, walk_all, walk_child, walk_tag}
use Rattle.xmi_models.proofs.Walking.{walk_is}
use Rattle.xmi_write.specs.Xmi.{around, declared, document, outermost, root_element, root_of, version}
use Rattle.xmi_round_trip.specs.Renumbered.{number}
use Rattle.xmi_round_trip.specs.RoundTrip.{IsInBounds}
use Rattle.xmi_round_trip.proofs.Filed.{IsFiled, IsOrdered, around_entry, entries, file}
use Rattle.xmi_round_trip.proofs.Numbers.{IsFrom, first_from}
use Rattle.xmi_round_trip.proofs.OutlinedTags.{no_root_texts, root_elements, tag}
use Rattle.xmi_round_trip.proofs.OutlinedRoots.{inner_walk, lone_walk, roots_walk}
use Rattle.xmi_round_trip.proofs.Lists.{some_there}

module _ (m : Contents) (valid : IsValid m) (acyclic : HasNoCycle m) (bounds : IsInBounds m) (ordered : IsOrdered m) (filed : IsFiled m) where
  -- whether there are roots
  some_roots : (os : List ObjId) → list_any (λ (e : Element). true) (map (root_element m) os) ≡ list_any (λ o. true) os
  some_roots [] = refl
  some_roots (o ∷ os) = refl

  -- `xmi:XMI` around several roots or none
  around_walk : (length m.roots == 1) ≡ false → (walk m.meta (outermost m.meta (around m.meta (map (root_element m) m.roots)))).1 AtRoot [] 0 ≡ around_entry m ∷ flat_map (entries m) m.roots
  around_walk several =
      let es : List Element = map (root_element m) m.roots in
      let kids = map (walk_child m.meta) (map child.Sub es) in
      walk_is m.meta (outermost m.meta (around m.meta es)) AtRoot [] 0
      ∙ ap (λ texts. walk_tag m.meta AtRoot (declared m.meta ++ []) 0 (tag xmi_space (codes "XMI") (version ∷ []) texts (has_elements_in (map child.Sub es))) kids) (no_root_texts es)
      ∙ ap (λ b. walk_tag m.meta AtRoot (declared m.meta ++ []) 0 (tag xmi_space (codes "XMI") (version ∷ []) [] b) kids) (root_elements es ∙ some_roots m.roots)
      ∙ ap (λ (scope : List Prefix). around_entry m ∷ walk_all m.meta InAround scope 0 kids) (append-nil (declared m.meta))
      ∙ ap (λ l. around_entry m ∷ l) (roots_walk m valid acyclic bounds ordered filed m.roots each 0 ordered.all_numbers)
    where
      each : (o : ObjId) → Contains m.roots o → (walk m.meta (root_element m o)).1 InAround (declared m.meta) (number m o).0 ≡ entries m o
      each o h =
          let x = some_there (object_at m.objects o) (ordered.roots_there o h) in
          inner_walk m valid acyclic bounds ordered filed o x.0 x.1 (ordered.roots_free o h) several

  -- by how many roots there are
  by_roots : (roots : List ObjId) → m.roots ≡ roots
      → (walk m.meta (outermost m.meta (root_of m.meta (map (root_element m) roots)))).1 AtRoot [] 0 ≡ (if length roots == 1 then [] else around_entry m ∷ []) ++ flat_map (entries m) roots
  by_roots [] is =
      let several : (length m.roots == 1) ≡ false = ap (λ (os : List ObjId). length os == 1) is in
      subst (λ (os : List ObjId). (walk m.meta (outermost m.meta (around m.meta (map (root_element m) os)))).1 AtRoot [] 0 ≡ around_entry m ∷ flat_map (entries m) os) is (around_walk several)
  by_roots (o ∷ []) is =
      let single : (length m.roots == 1) ≡ true = ap (λ (os : List ObjId). length os == 1) is in
      let here : Contains m.roots o = subst (λ (os : List ObjId). Contains os o) (sym is) (Contains_first o []) in
      let x = some_there (object_at m.objects o) (ordered.roots_there o here) in
      let all : IsFrom m 0 (tree m o ++ []) = subst (λ (os : List ObjId). IsFrom m 0 (flat_map (tree m) os)) is ordered.all_numbers in
      let from : IsFrom m 0 (o ∷ (flat_map (tree m) (contents m o) ++ [])) = subst (λ l. IsFrom m 0 (l ++ [])) (ordered.tree_is o) all in
      lone_walk m valid acyclic bounds ordered filed o x.0 x.1 (ordered.roots_free o here) single (first_from m 0 o (flat_map (tree m) (contents m o) ++ []) from)
      ∙ sym (append-nil (entries m o))
  by_roots (o ∷ p ∷ os) is =
      let many : (length (o ∷ p ∷ os) == 1) ≡ false = ne_eqb (length (o ∷ p ∷ os)) 1 (λ e. absurd (omega (arith, e))) in
      let several : (length m.roots == 1) ≡ false = ap (λ (os : List ObjId). length os == 1) is ∙ many in
      subst (λ (os : List ObjId). (walk m.meta (outermost m.meta (around m.meta (map (root_element m) os)))).1 AtRoot [] 0 ≡ around_entry m ∷ flat_map (entries m) os) is (around_walk several)
      ∙ ap (λ b. (if b then [] else around_entry m ∷ []) ++ flat_map (entries m) (o ∷ p ∷ os)) (sym many)

-- what is written of a model is outlined as its file
pub outlined : (m : Contents) → IsValid m → HasNoCycle m → IsInBounds m → IsOrdered m → IsFiled m → outline m.meta (document m) ≡ file m
outlined m valid acyclic bounds ordered filed = by_roots m valid acyclic bounds ordered filed m.roots refl
