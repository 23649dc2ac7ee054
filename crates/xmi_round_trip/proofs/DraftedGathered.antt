-- What is gathered from all that stands in a model for one object alone is what the parts of that object say.
use Rattle.std.proofs.Common.{◌≡◌, ℕ, zero, suc, ◌<◌, ◌≤◌, List, [], ◌++◌, length, refl, sym, ap, ◌∙◌, subst, ⊎_elim, append-nil, arith}
use Rattle.std.specs.Prelude.{◌==◌, flat_map, Contains, IsSome}
use Rattle.std.proofs.lemmas.Bool.{cases_eq, eq-eqb, ne_eqb}
use Rattle.atl_base.specs.declared.numbers.ObjId.{ObjId}
use Rattle.ecore_meta.proofs.FeatureLaws.{flat_map-agree}
use Rattle.ecore_meta.proofs.Membership.{Contains-from_flat_map}
use Rattle.model_store.specs.Contents.{Contents, object_at}
use Rattle.model_store.specs.Order.{contents, preorder, tree}
use Rattle.model_store.proofs.Slots.{same_object}
use Rattle.model_store.proofs.Thinned.{Contains_cases}
use Rattle.xmi_write.specs.Xmi.{Part, Content, Value}
use Rattle.xmi_round_trip.specs.Renumbered.{number}
use Rattle.xmi_round_trip.proofs.Filed.{IsOrdered, own_parts}
use Rattle.xmi_round_trip.proofs.Parts.{content_in, contents_are, part_objects}
use Rattle.xmi_round_trip.proofs.Lists.{flat_map_twice, flat_map_none}
use Rattle.xmi_round_trip.proofs.Differing.{flat_map_one}

module _ (m : Contents) (known : IsOrdered m) where
  -- numbers tell objects apart
  pub same_numbers : (x o : ObjId) → IsSome (object_at m.objects x) → IsSome (object_at m.objects o) → ((number m x).0 == (number m o).0) ≡ (x.0 == o.0)
  same_numbers x o a b = ⊎_elim
      (λ (e : x.0 ≡ o.0). eq-eqb (number m x).0 (number m o).0 (ap (λ z. (number m z).0) (same_object x o e)) ∙ sym (eq-eqb x.0 o.0 e))
      (λ (n : x.0 ≡ o.0 → ⊥).
      ne_eqb (number m x).0 (number m o).0 (λ i. n (ap (λ (z : ObjId). z.0) (known.apart x o a b (same_object (number m x) (number m o) i)))) ∙ sym (ne_eqb x.0 o.0 n))
      (cases_eq x.0 o.0)

  -- what stands in a tree has no larger one
  no_larger : (b : ℕ) (q y : ObjId) → length (tree m q) < b → Contains (tree m q) y → length (tree m y) ≤ length (tree m q)
  no_larger zero q y l h = absurd (omega (arith, l))
  no_larger (suc b) q y l h = ⊎_elim
      (λ (e : q ≡ y). subst (λ (z : ObjId). length (tree m z) ≤ length (tree m q)) e (omega arith))
      (λ (k : Contains (flat_map (tree m) (contents m q)) y).
      let x = Contains-from_flat_map (tree m) (contents m q) y k in
      let small : length (tree m x.0) < length (tree m q) = known.shorter q x.0 x.1 in
      let less : length (tree m y) ≤ length (tree m x.0) = no_larger b x.0 y (omega (arith, small, l)) x.2 in
      omega (arith, small, less))
      (Contains_cases q y (flat_map (tree m) (contents m q)) (subst (λ (xs : List ObjId). Contains xs y) (known.tree_is q) h))

  -- no object stands in the tree of its own content
  not_below : (o q : ObjId) → Contains (contents m o) q → Contains (tree m q) o → ⊥
  not_below o q c h = absurd (omega (arith, known.shorter o q c, no_larger (suc (length (tree m q))) q o (omega arith) h))

  module _ {A : Type 0} (o : ObjId) (say : ObjId → Part → List A) (total : ObjId → List A) where
    -- what a part says, and what is gathered below it
    abbrev pub with_below : ObjId → Part → List A
    with_below x (Content f q) = say x (Content f q) ++ total q
    with_below x (Value f v) = say x (Value f v)

    -- what all parts of an object say
    abbrev pub said_by : ObjId → List A
    said_by x = flat_map (say x) (own_parts m x)

    module _ (own : (x : ObjId) → total x ≡ flat_map (with_below x) (own_parts m x)) (silent : (x : ObjId) → (x.0 ≡ o.0 → ⊥) → (p : Part) → say x p ≡ []) where
      -- those of another say nothing
      said_none : (x : ObjId) → (x.0 ≡ o.0 → ⊥) → said_by x ≡ []
      said_none x n = flat_map_none (say x) (own_parts m x) (λ p h. silent x n p)

      -- what is said in a tree
      abbrev in_tree : ObjId → List A
      in_tree q = flat_map said_by (tree m q)

      -- by its object, and in the trees of that object's contents
      tree_said : (x : ObjId) → in_tree x ≡ said_by x ++ flat_map in_tree (contents m x)
      tree_said x = ap (flat_map said_by) (known.tree_is x) ∙ ap (λ ys. said_by x ++ ys) (flat_map_twice said_by (tree m) (contents m x))

      module _ (x : ObjId) (again : (q : ObjId) → Contains (contents m x) q → total q ≡ in_tree q) where
        -- the object itself: nothing is gathered below it
        at_it : x.0 ≡ o.0 → flat_map (with_below x) (own_parts m x) ≡ said_by x ++ flat_map in_tree (contents m x)
        at_it e =
            flat_map-agree (with_below x) (say x) (own_parts m x) parts
            ∙ sym (append-nil (said_by x))
            ∙ ap (λ ys. said_by x ++ ys) (sym (flat_map_none in_tree (contents m x) nothing))
          where
            nothing : (q : ObjId) → Contains (contents m x) q → in_tree q ≡ []
            nothing q c = flat_map_none said_by (tree m q) (λ y k. said_none y (λ i. not_below x q c (subst (λ (z : ObjId). Contains (tree m q) z) (same_object y x (i ∙ sym e)) k)))

            parts : (p : Part) → Contains (own_parts m x) p → with_below x p ≡ say x p
            parts (Content f q) c =
                let inside : Contains (contents m x) q = content_in m x q f c in
                ap (λ ys. say x (Content f q) ++ ys) (again q inside ∙ nothing q inside) ∙ append-nil (say x (Content f q))
            parts (Value f v) c = refl

        -- any other says nothing itself
        elsewhere : (x.0 ≡ o.0 → ⊥) → flat_map (with_below x) (own_parts m x) ≡ said_by x ++ flat_map in_tree (contents m x)
        elsewhere n =
            flat_map-agree (with_below x) (λ p. flat_map in_tree (part_objects p)) (own_parts m x) parts
            ∙ sym (flat_map_twice in_tree part_objects (own_parts m x))
            ∙ ap (flat_map in_tree) (sym (contents_are m x))
            ∙ ap (λ ys. ys ++ flat_map in_tree (contents m x)) (sym (said_none x n))
          where
            parts : (p : Part) → Contains (own_parts m x) p → with_below x p ≡ flat_map in_tree (part_objects p)
            parts (Content f q) c = ap (λ ys. ys ++ total q) (silent x n (Content f q)) ∙ again q (content_in m x q f c) ∙ sym (append-nil (in_tree q))
            parts (Value f v) c = silent x n (Value f v)

        -- what is gathered below an object is said in its tree, where that is so of its contents
        step : total x ≡ in_tree x
        step = own x ∙ ⊎_elim at_it elsewhere (cases_eq x.0 o.0) ∙ sym (tree_said x)

      -- so it is of all, from the smallest trees on
      within : (b : ℕ) (x : ObjId) → length (tree m x) < b → total x ≡ in_tree x
      within zero x l = absurd (omega (arith, l))
      within (suc b) x l = step x (λ q c. within b q (omega (arith, l, known.shorter x q c)))

      -- from all roots
      pub gathered : IsSome (object_at m.objects o) → flat_map total m.roots ≡ said_by o
      gathered there =
          flat_map-agree total in_tree m.roots (λ r h. within (suc (length (tree m r))) r (omega arith))
          ∙ sym (flat_map_twice said_by (tree m) m.roots)
          ∙ flat_map_one said_by (preorder m) o known.differ (known.has o there) (λ x h n. said_none x (λ e. n (same_object x o e)))
