-- The document of a valid model is one that is read back, where at most 200 elements are open at once.
use Rattle.std.proofs.Common.{ℕ, suc, ◌≤◌, inl, List, [], ◌∷◌, length, map, refl, sym, subst}
use Rattle.std.specs.Prelude.{All}
use Rattle.std.proofs.lemmas.List.Elements.{All-cons, All-head, All-nil, All-tail}
use Rattle.atl_base.specs.declared.numbers.ObjId.{ObjId}
use Rattle.doc_text.specs.ReadBack.{IsBelow, IsWritable}
use Rattle.doc_text.specs.declared.tree.Attribute.{Attribute}
use Rattle.doc_text.specs.declared.tree.Child.TheVariants as child
use Rattle.doc_text.specs.declared.tree.Doc.{Doc}
use Rattle.doc_text.specs.declared.tree.Element.{Element}
use Rattle.model_store.specs.Contents.{Contents}
use Rattle.model_store.specs.Order.{HasNoCycle}
use Rattle.model_store.specs.Valid.{IsValid}
use Rattle.xmi_write.specs.declared.named.Named.{Named}
use Rattle.xmi_write.specs.declared.named.Named.TheVariants.{Around}
use Rattle.xmi_write.specs.Xmi.{declared, document, element, element_named, outermost, root_element, root_name, root_of}
use Rattle.xmi_round_trip.specs.RoundTrip.{IsInBounds, opened}
use Rattle.xmi_round_trip.proofs.WritableDepth.{opened_below}
use Rattle.xmi_round_trip.proofs.WritableElements.{IsMadeOf, element_below, made_of}
use Rattle.xmi_round_trip.proofs.WritableNamed.{IsGoodNamed, around_good, prefixes_are_plain, prefixes_differ, root_name_good, uris_are_texts}
use Rattle.xmi_round_trip.proofs.WritableTags.{AreOwn, first_tag, own_none}

module _ (m : Contents) (valid : IsValid m) (bounds : IsInBounds m) where
  -- a file that begins with this element
  abbrev first : Element → Doc
  first e = record { root = outermost m.meta e }

  -- a file that begins with an element of these elements
  writable_with : (named : Named) (attributes : List Attribute) (es : List Element) → IsGoodNamed m.meta named → AreOwn (declared m.meta) attributes
      → ((n : ℕ) → All (λ x. opened x ≤ n) es → All (λ x. IsBelow (declared m.meta) n x) es)
      → opened (outermost m.meta (element_named m.meta named attributes (map child.Sub es))) ≤ 200
      → IsWritable (first (element_named m.meta named attributes (map child.Sub es)))
  writable_with named attributes es good own below h = record {
    prefixes = prefixes_are_plain m.meta valid.metamodel bounds.texts;
    uris = uris_are_texts m.meta valid.metamodel bounds.texts;
    differ = prefixes_differ m.meta valid.metamodel bounds.texts;
    tag = first_tag m.meta (element_named m.meta named attributes (map child.Sub es)) good.name good.space own;
    children = inl (es, refl, below 199 (opened_below (outermost m.meta (element_named m.meta named attributes (map child.Sub es))) es 199 refl h));
  }

  -- the elements of roots may stand below the first one, with at most so many open
  roots_below : (n : ℕ) (rs : List ObjId) → All (λ x. opened x ≤ n) (map (root_element m) rs) → All (λ x. IsBelow (declared m.meta) n x) (map (root_element m) rs)
  unfolding element
  roots_below n [] h = All-nil (λ x. IsBelow (declared m.meta) n x)
  roots_below n (o ∷ rs) h =
      All-cons (λ x. IsBelow (declared m.meta) n x) (root_element m o) (map (root_element m) rs)
      (element_below m valid bounds (suc (length m.objects)) n (root_name m o) o (root_name_good m valid bounds.texts o) (All-head (λ x. opened x ≤ n) (root_element m o) (map (root_element m) rs) h))
      (roots_below n rs (All-tail (λ x. opened x ≤ n) (root_element m o) (map (root_element m) rs) h))

  -- a file that begins with the element of an object
  writable_made : (named : Named) (e : Element) → IsGoodNamed m.meta named → IsMadeOf m valid bounds e named → opened (outermost m.meta e) ≤ 200 → IsWritable (first e)
  writable_made named e good made h =
      subst (λ x. IsWritable (first x)) (sym made.whole)
      (writable_with named made.attributes made.elements good made.own made.below (subst (λ x. opened (outermost m.meta x) ≤ 200) made.whole h))

  -- a file of these roots
  writable_roots : (rs : List ObjId) → opened (outermost m.meta (root_of m.meta (map (root_element m) rs))) ≤ 200 → IsWritable (first (root_of m.meta (map (root_element m) rs)))
  unfolding element
  writable_roots [] h = writable_with Around [] [] (around_good m.meta) (own_none (declared m.meta)) (λ n l. All-nil (λ x. IsBelow (declared m.meta) n x)) h
  writable_roots (o ∷ []) h =
      writable_made (root_name m o) (root_element m o) (root_name_good m valid bounds.texts o) (made_of m valid bounds (suc (length m.objects)) (root_name m o) o) h
  writable_roots (o ∷ p ∷ rs) h =
      writable_with Around [] (map (root_element m) (o ∷ p ∷ rs)) (around_good m.meta) (own_none (declared m.meta)) (λ n. roots_below n (o ∷ p ∷ rs)) h

-- the file of a model
pub document_is_writable : (m : Contents) → IsValid m → HasNoCycle m → IsInBounds m → opened (document m).root ≤ 200 → IsWritable (document m)
document_is_writable m valid acyclic bounds h = writable_roots m valid bounds m.roots h
