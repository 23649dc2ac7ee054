-- An object's element is made of those of its contents: more room below changes nothing.
use Rattle.std.proofs.Common.{◌≡◌, ℕ, zero, suc, ◌+◌, ◌<◌, ◌⊎◌, inl, inr, List, [], ◌∷◌, ◌++◌, length, map, refl, sym, ap, subst, ◌∙◌, ⊎_elim, arith, Option, Some, None}
use Rattle.std.specs.Prelude.{Bool, true, false, get_or, if◌then◌else◌, Contains}
use Rattle.std.specs.Option.{option_map_or}
use Rattle.std.proofs.lemmas.List.{get_or_push, length_push}
use Rattle.std.proofs.lemmas.List.Elements.{Contains-append_left, Contains-append_right, Contains-append_cases}
use Rattle.atl_base.specs.declared.numbers.ObjId.{ObjId}
use Rattle.atl_base.specs.declared.numbers.FeatId.{FeatId}
use Rattle.doc_text.specs.declared.tree.Child.TheVariants as child
use Rattle.doc_text.specs.declared.tree.Element.{Element}
use Rattle.ecore_meta.specs.declared.parts.Parts.{Parts}
use Rattle.ecore_meta.specs.Inheritance.{features}
use Rattle.model_store.specs.declared.parts.Cellv.{Cellv}
use Rattle.model_store.specs.declared.parts.Object.{Object}
use Rattle.model_store.specs.Contents.{Contents, object_at, objects_of, is_many, refers, contains}
use Rattle.model_store.specs.Order.{contents_in, contents_of, HasNoCycle}
use Rattle.model_store.proofs.Chains.{HasContent, IsChain, IsChain-one, IsChain-push, length-chain}
use Rattle.model_store.proofs.Thinned.{Contains_first, Contains_later, Contains_none, Contains_cases}
use Rattle.xmi_write.specs.declared.named.Named.{Named}
use Rattle.xmi_write.specs.declared.named.Named.TheVariants.{Inside}
use Rattle.xmi_write.specs.Xmi.{Part, Content, Value, attributes_of, by_slot, element, element_named, element_within, object_element, part_child, parts_of, slot_parts}

-- two functions that agree at each element
pub map_agree : {X A : Type 0} (f g : X → A) (xs : List X) → ((x : X) → Contains xs x → f x ≡ g x) → map f xs ≡ map g xs
map_agree f g [] h = refl
map_agree f g (x ∷ xs) h =
    let first : f x ≡ g x = h x (Contains_first x xs) in
    let rest : map f xs ≡ map g xs = map_agree f g xs (λ y m. h y (Contains_later x y xs m)) in
    cc

-- ## The objects among the parts are the contents

abbrev object_of : ObjId → Part → ObjId
object_of o (Content f p) = p
object_of o (Value f v) = o

contained : (f g : FeatId) (s : ObjId) (os : List ObjId) → Contains (map (Content g) os) (Content f s) → Contains os s
contained f g s [] h = absurd (Contains_none (Content f s) h)
contained f g s (o ∷ os) h = ⊎_elim
    (λ (e : Content g o ≡ Content f s). subst (λ q. Contains (o ∷ os) q) (ap (object_of o) e) (Contains_first o os))
    (λ (k : Contains (map (Content g) os) (Content f s)). Contains_later o s os (contained f g s os k))
    (Contains_cases (Content g o) (Content f s) (map (Content g) os) h)

abbrev is_object : Part → Bool
is_object (Content f p) = true
is_object (Value f v) = false

no_value : (f g : FeatId) (s : ObjId) (cells : List Cellv) → Contains (map (Value g) cells) (Content f s) → ⊥
no_value f g s [] h = Contains_none (Content f s) h
no_value f g s (v ∷ cells) h = ⊎_elim
    (λ (e : Value g v ≡ Content f s). let no : false ≡ true = ap is_object e in cc)
    (λ (k : Contains (map (Value g) cells) (Content f s)). no_value f g s cells k)
    (Contains_cases (Value g v) (Content f s) (map (Value g) cells) h)

slot_content : (f g : FeatId) (s : ObjId) (cells : List Cellv) (a b c : Bool)
    → Contains (if a then map (Content g) (objects_of cells) else if b then [] else if c then map (Value g) cells else []) (Content f s)
    → Contains (if a then objects_of cells else []) s
slot_content f g s cells true b c h = contained f g s (objects_of cells) h
slot_content f g s cells false true c h = absurd (Contains_none (Content f s) h)
slot_content f g s cells false false true h = absurd (no_value f g s cells h)
slot_content f g s cells false false false h = absurd (Contains_none (Content f s) h)

module _ (meta : Parts) (f : FeatId) (s : ObjId) where
  part_content : (fs : List FeatId) (slots : List (List Cellv)) → Contains (by_slot (slot_parts meta) fs slots) (Content f s) → Contains (contents_in meta fs slots) s
  part_content [] slots h = absurd (Contains_none (Content f s) h)
  part_content (g ∷ fs) [] h = absurd (Contains_none (Content f s) h)
  part_content (g ∷ fs) (cells ∷ slots) h = ⊎_elim
      (λ (k : Contains (slot_parts meta g cells) (Content f s)).
      Contains-append_left (if contains meta g then objects_of cells else []) (contents_in meta fs slots) s (slot_content f g s cells (contains meta g) (refers meta g) (is_many meta g) k))
      (λ (k : Contains (by_slot (slot_parts meta) fs slots) (Content f s)).
      Contains-append_right (if contains meta g then objects_of cells else []) (contents_in meta fs slots) s (part_content fs slots k))
      (Contains-append_cases (slot_parts meta g cells) (by_slot (slot_parts meta) fs slots) (Content f s) h)

-- ## Room below

module _ (m : Contents) (acyclic : HasNoCycle m) where
  same_element : (a b : ℕ) (path : List ℕ) (named : Named) (o : ObjId) → IsChain m (path ++ o.0 ∷ []) → length m.objects < a + length path → length m.objects < b + length path
      → element_within a m named o ≡ element_within b m named o
  unfolding element_within
  same_element zero b path named o p h k = absurd (omega (arith, length-chain m (path ++ o.0 ∷ []) (length path) acyclic p (sym (length_push path o.0))))
  same_element (suc a) zero path named o p h k = absurd (omega (arith, length-chain m (path ++ o.0 ∷ []) (length path) acyclic p (sym (length_push path o.0))))
  same_element (suc a) (suc b) path named o p h k =
      on (object_at m.objects o) refl (λ f s c.
      same_element a b (path ++ o.0 ∷ []) (Inside f) s
      (IsChain-push m (path ++ o.0 ∷ []) s.0 p (λ i e. subst (λ n. HasContent m n s.0) (sym (get_or_push path o.0 0 i (omega (arith, length_push path o.0)))) c))
      (omega (arith, length_push path o.0))
      (omega (arith, length_push path o.0)))
    where
      on : (x : Option Object) → object_at m.objects o ≡ x → ((f : FeatId) (s : ObjId) → HasContent m o.0 s.0 → element_within a m (Inside f) s ≡ element_within b m (Inside f) s)
          → option_map_or (object_element (element_within a m) m named) x (element_named m.meta named [] []) ≡ option_map_or (object_element (element_within b m) m named) x (element_named m.meta named [] [])
      on None e again = refl
      on (Some object) e again =
          ap (element_named m.meta named (attributes_of m named object)) (map_agree (part_child (element_within a m) m) (part_child (element_within b m) m) (parts_of m.meta object) agree)
        where
          agree : (p : Part) → Contains (parts_of m.meta object) p → part_child (element_within a m) m p ≡ part_child (element_within b m) m p
          agree (Value f v) c = refl
          agree (Content f s) c = ap child.Sub (again f s
              (subst (λ y. Contains (option_map_or (contents_of m.meta) y []) s) (sym e) (part_content m.meta f s (features m.meta.classes object.class) object.slots c)))

  pub object_is : (named : Named) (o : ObjId) → element m named o ≡ option_map_or (object_element (element m) m named) (object_at m.objects o) (element_named m.meta named [] [])
  unfolding element element_within
  object_is named o = same_element (suc (length m.objects)) (suc (suc (length m.objects))) [] named o (IsChain-one m o.0) (omega arith) (omega arith)
