-- The walk of an object's element, where it stands in the object that holds it: it gives the object's entries.
use Rattle.std.proofs.Common.{◌≡◌, ℕ, suc, ◌+◌, List, [], ◌∷◌, ◌++◌, length, map, refl, sym, ap, subst, ◌∙◌, arith, Some}
use Rattle.std.specs.Prelude.{false, flat_map, Contains, if◌then◌else◌}
use Rattle.std.specs.Option.{option_map_or}
use Rattle.atl_base.specs.declared.numbers.ObjId.{ObjId}
use Rattle.doc_text.specs.declared.tree.Element.{Element}
use Rattle.doc_text.specs.declared.tree.Prefix.{Prefix}
use Rattle.model_store.specs.declared.parts.Object.{Object}
use Rattle.model_store.specs.Contents.{Contents, object_at}
use Rattle.model_store.specs.Order.{contents, tree}
use Rattle.model_store.proofs.Thinned.{Contains_first, Contains_later}
use Rattle.xmi_models.specs.Entries.{tag_of}
use Rattle.xmi_models.specs.Outline.{Root as RootEntry, Content as ContentEntry, Where, InObject, inside, is_object, is_passed, objects_in, part_of, walk, walk_all, walk_child, walk_inside, walk_tag}
use Rattle.xmi_models.proofs.Walking.{looked_into, walk_is}
use Rattle.xmi_write.specs.declared.named.Named.TheVariants.{Inside}
use Rattle.xmi_write.specs.Xmi.{Part, Content, Value, declared, element, part_child, parts_of, value_element}
use Rattle.xmi_round_trip.specs.Renumbered.{number}
use Rattle.xmi_round_trip.proofs.Filed.{IsFiled, IsOrdered, entries, object_entry, object_part, object_tag, part_entries, value_entry}
use Rattle.xmi_round_trip.proofs.OutlinedEntries.{tree_counted}
use Rattle.xmi_round_trip.proofs.Numbers.{IsFrom, first_from, later_from}
use Rattle.xmi_round_trip.proofs.OutlinedTags.{kids}
use Rattle.xmi_round_trip.proofs.Parts.{part_objects}
use Rattle.xmi_round_trip.proofs.Entries.{object_is, by_part, class_is}

module _ (m : Contents) (ordered : IsOrdered m) (filed : IsFiled m) where
  -- where the contents of an object stand
  abbrev pub within : ObjId → Object → Where
  within o object = InObject object.class (number m o)

  -- what stands in an object's element is walked to the entries of its parts
  abbrev pub IsWalked : ObjId → Object → Type 0
  IsWalked o object = walk_all m.meta (within o object) (declared m.meta) (suc (number m o).0) (map (walk_child m.meta) (kids m object)) ≡ flat_map (part_entries (entries m) m o) (parts_of m.meta object)

  -- ## An object's element

  -- its contents stand in it
  inside_is : (o : ObjId) (object : Object) (n : ℕ) → object_at m.objects o ≡ Some object → inside (object_part m o) n ≡ Some (InObject object.class (record { 0 = n }))
  inside_is o object n there = by_part m (λ x. inside x n ≡ Some (InObject object.class (record { 0 = n }))) o
      (λ h. ap (λ c. inside (RootEntry c) n) (class_is m o object there))
      (λ p f h. ap (λ c. inside (ContentEntry (number m p) f c) n) (class_is m o object there))

  -- an element that is the object's is walked to the object's entries
  pub object_walk : (o : ObjId) (object : Object) (e : Element) (w : Where) (outer : List Prefix) (n : ℕ) → object_at m.objects o ≡ Some object → e.declared ++ outer ≡ declared m.meta
      → e.children ≡ kids m object → tag_of e ≡ object_tag m o → part_of m.meta w (declared m.meta) (tag_of e) ≡ object_part m o → number m o ≡ record { 0 = n } → IsWalked o object
      → (walk m.meta e).1 w outer n ≡ entries m o
  object_walk o object e w outer n there scope_is kids_are tag_is part_is number_is walked =
      let scope : List Prefix = declared m.meta in
      walk_is m.meta e w outer n
      ∙ ap (λ scope. walk_tag m.meta w scope n (tag_of e) (map (walk_child m.meta) e.children)) scope_is
      ∙ ap (λ p. record { part = p; tag = tag_of e } ∷ walk_inside m.meta (inside p n) scope (if is_object p then suc n else n) (map (walk_child m.meta) e.children)) part_is
      ∙ ap (λ t. record { part = object_part m o; tag = t } ∷ walk_inside m.meta (inside (object_part m o) n) scope (if is_object (object_part m o) then suc n else n) (map (walk_child m.meta) e.children)) tag_is
      ∙ ap (λ cs. object_entry m o ∷ walk_inside m.meta (inside (object_part m o) n) scope (if is_object (object_part m o) then suc n else n) (map (walk_child m.meta) cs)) kids_are
      ∙ ap (λ b. object_entry m o ∷ walk_inside m.meta (inside (object_part m o) n) scope (if b then suc n else n) (map (walk_child m.meta) (kids m object))) (object_is m o)
      ∙ ap (λ i. object_entry m o ∷ walk_inside m.meta i scope (suc n) (map (walk_child m.meta) (kids m object))) (inside_is o object n there)
      ∙ ap (λ (k : ObjId). object_entry m o ∷ walk_all m.meta (InObject object.class k) scope (suc k.0) (map (walk_child m.meta) (kids m object))) (sym number_is)
      ∙ ap (λ l. object_entry m o ∷ l) walked
      ∙ ap (λ x. object_entry m o ∷ flat_map (part_entries (entries m) m o) (option_map_or (parts_of m.meta) x [])) (sym there)
      ∙ sym (filed.entries_are o)

  -- ## What stands in it

  -- the element of a part is no skipped one, and is walked to the part's entries
  abbrev pub IsPartWalked : ObjId → Object → Part → Type 0
  IsPartWalked o object (Content f q) = (is_passed m.meta (within o object) (element m (Inside f) q).name ≡ false)
      × ((walk m.meta (element m (Inside f) q)).1 (within o object) (declared m.meta) (number m q).0 ≡ entries m q)
  IsPartWalked o object (Value f v) = (is_passed m.meta (within o object) (value_element m f v).name ≡ false)
      × ((n : ℕ) → (walk m.meta (value_element m f v)).1 (within o object) (declared m.meta) n ≡ value_entry m o f v ∷ [])

  -- the parts one after another
  pub parts_walk : (o : ObjId) (object : Object) (ps : List Part) → ((p : Part) → Contains ps p → IsPartWalked o object p) → (k : ℕ) → IsFrom m k (flat_map (tree m) (flat_map part_objects ps))
      → walk_all m.meta (within o object) (declared m.meta) k (map (walk_child m.meta) (map (part_child (element m) m) ps)) ≡ flat_map (part_entries (entries m) m o) ps
  parts_walk o object [] each k h = refl
  parts_walk o object (Content f q ∷ ps) each k h =
      let w : Where = within o object in
      let scope : List Prefix = declared m.meta in
      let e : Element = element m (Inside f) q in
      let it = each (Content f q) (Contains_first (Content f q) ps) in
      let others : List ObjId = flat_map (tree m) (flat_map part_objects ps) in
      let here : IsFrom m k (q ∷ (flat_map (tree m) (contents m q) ++ others)) = subst (λ l. IsFrom m k (l ++ others)) (ordered.tree_is q) h in
      let at : number m q ≡ record { 0 = k } = first_from m k q (flat_map (tree m) (contents m q) ++ others) here in
      looked_into m.meta w scope k e (map (walk_child m.meta) (map (part_child (element m) m) ps)) it.0
      ∙ ap (λ l. l ++ walk_all m.meta w scope (k + objects_in l) (map (walk_child m.meta) (map (part_child (element m) m) ps)))
      (ap (λ (n : ObjId). (walk m.meta e).1 w scope n.0) (sym at) ∙ it.1)
      ∙ ap (λ n. entries m q ++ walk_all m.meta w scope (k + n) (map (walk_child m.meta) (map (part_child (element m) m) ps))) (tree_counted m q)
      ∙ ap (λ l. entries m q ++ l) (parts_walk o object ps (λ p c. each p (Contains_later (Content f q) p ps c)) (k + length (tree m q)) (later_from m (tree m q) others k h))
  parts_walk o object (Value f v ∷ ps) each k h =
      let w : Where = within o object in
      let scope : List Prefix = declared m.meta in
      let it = each (Value f v) (Contains_first (Value f v) ps) in
      let same : k + 0 ≡ k = omega arith in
      looked_into m.meta w scope k (value_element m f v) (map (walk_child m.meta) (map (part_child (element m) m) ps)) it.0
      ∙ ap (λ l. l ++ walk_all m.meta w scope (k + objects_in l) (map (walk_child m.meta) (map (part_child (element m) m) ps))) (it.1 k)
      ∙ ap (λ n. value_entry m o f v ∷ walk_all m.meta w scope n (map (walk_child m.meta) (map (part_child (element m) m) ps))) same
      ∙ ap (λ l. value_entry m o f v ∷ l) (parts_walk o object ps (λ p c. each p (Contains_later (Value f v) p ps c)) k h)
