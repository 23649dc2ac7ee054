-- Elements that are the same but for places have outlines that are the same but for places.
use Rattle.std.proofs.Common.{◌≡◌, ℕ, suc, ◌+◌, List, [], ◌∷◌, ◌++◌, map, refl, sym, ap, ◌∙◌, subst}
use Rattle.std.specs.Prelude.{Bool, true, false, Option, Some, None, if◌then◌else◌}
use Rattle.std.specs.List.{list_any}
use Rattle.std.proofs.Math.Path.{fun_ext}
use Rattle.std.proofs.lemmas.List.{map-append}
use Rattle.doc_text.specs.Characters.{place}
use Rattle.doc_text.specs.ReadBack.{child_layer as unplaced_child_layer, unplaced, unplaced_child, unplaced_layer}
use Rattle.doc_text.specs.declared.tree.Child.{Child, map-Child}
use Rattle.doc_text.specs.declared.tree.Child.TheFolds.{ind-Element, fold-roll-Child, fold-roll-Element}
use Rattle.doc_text.specs.declared.tree.Child.TheOpen as layer
use Rattle.doc_text.specs.declared.tree.Child.TheViews.{roll-Child, roll-Element}
use Rattle.doc_text.specs.declared.tree.Element.{Element, map-Element, fold_out-Element}
use Rattle.doc_text.specs.declared.tree.Prefix.{Prefix}
use Rattle.ecore_meta.specs.declared.parts.Parts.{Parts}
use Rattle.xmi_models.specs.Outline.{Entry, Tag, Part, Where, AtRoot, InAround, InObject, InValue, Below, Sub, Words, texts_of, is_element, is_object, objects_in, is_passed, part_of, inside, walk, walk_child, walk_all, walk_inside, walk_tag, child_layer, named_layer, outline}
use Rattle.xmi_models.proofs.Walking.{Walk, child_is, words_are}
use Rattle.xmi_round_trip.proofs.PlacelessEntries.{bare, bare_tag, count_bare}

-- ## Walks without places

-- what stands in an element: an element that is walked without places, or a text
abbrev bare_below : Below → Below
bare_below (Sub name walk) = Sub name (λ w scope n. map bare (walk w scope n))
bare_below (Words text) = Words text

-- the entry of a tag and a part, without its place
abbrev bare_entry : Tag → Part → Entry
bare_entry t p = record { part = p; tag = bare_tag t }

-- an element's name, and its walk to entries without places
abbrev bare_walk : Walk → Walk
bare_walk k = (k.0, λ w scope n. map bare (k.1 w scope n))

-- an element without its place, and so all that stands in it
abbrev bare_layer : layer.Element-F Below Walk → layer.Element-F Below Walk
bare_layer e = record { space = e.space; name = e.name; declared = e.declared; attributes = e.attributes; children = map bare_below e.children; place = place 1 1 }

-- the texts in it are the same
texts_bare : (bs : List Below) → texts_of (map bare_below bs) ≡ texts_of bs
texts_bare [] = refl
texts_bare (Words text ∷ bs) = ap (λ l. text ∷ l) (texts_bare bs)
texts_bare (Sub name walk ∷ bs) = texts_bare bs

-- and there are elements in it where there were
elements_bare : (bs : List Below) → list_any is_element (map bare_below bs) ≡ list_any is_element bs
elements_bare [] = refl
elements_bare (Words text ∷ bs) = elements_bare bs
elements_bare (Sub name walk ∷ bs) = refl

module _ (meta : Parts) where
  -- ## Steps of the walk

  -- what an element is does not depend on its place
  part_bare : (w : Where) (scope : List Prefix) (t : Tag) → part_of meta w scope t ≡ part_of meta w scope (bare_tag t)
  part_bare AtRoot scope t = refl
  part_bare InAround scope t = refl
  part_bare (InObject c o) scope t = refl
  part_bare InValue scope t = refl

  -- what stands in an element is walked to the same entries, without their places
  all_bare : (w : Where) (scope : List Prefix) (n : ℕ) (bs : List Below) → map bare (walk_all meta w scope n bs) ≡ walk_all meta w scope n (map bare_below bs)
  all_bare w scope n [] = refl
  all_bare w scope n (Words text ∷ bs) = all_bare w scope n bs
  all_bare w scope n (Sub name walk ∷ bs) = by (is_passed meta w name) (all_bare w scope n bs) (all_bare w scope (n + objects_in (walk w scope n)) bs)
    where
      by : (b : Bool) → map bare (walk_all meta w scope n bs) ≡ walk_all meta w scope n (map bare_below bs)
          → map bare (walk_all meta w scope (n + objects_in (walk w scope n)) bs) ≡ walk_all meta w scope (n + objects_in (walk w scope n)) (map bare_below bs)
          → map bare (if b then walk_all meta w scope n bs else walk w scope n ++ walk_all meta w scope (n + objects_in (walk w scope n)) bs)
          ≡ (if b then walk_all meta w scope n (map bare_below bs) else map bare (walk w scope n) ++ walk_all meta w scope (n + objects_in (map bare (walk w scope n))) (map bare_below bs))
      by true h g = h
      by false h g =
          map-append bare (walk w scope n) (walk_all meta w scope (n + objects_in (walk w scope n)) bs)
          ∙ ap (λ l. map bare (walk w scope n) ++ l) g
          ∙ ap (λ k. map bare (walk w scope n) ++ walk_all meta w scope (n + k) (map bare_below bs)) (sym (count_bare (walk w scope n)))

  -- and so where it may not be looked into
  inside_bare : (x : Option Where) (scope : List Prefix) (n : ℕ) (bs : List Below) → map bare (walk_inside meta x scope n bs) ≡ walk_inside meta x scope n (map bare_below bs)
  inside_bare None scope n bs = refl
  inside_bare (Some w) scope n bs = all_bare w scope n bs

  -- so is an element with what stands in it
  tag_bare : (w : Where) (scope : List Prefix) (n : ℕ) (t : Tag) (bs : List Below) → map bare (walk_tag meta w scope n t bs) ≡ walk_tag meta w scope n (bare_tag t) (map bare_below bs)
  tag_bare w scope n t bs =
      ap (λ l. bare_entry t (part_of meta w scope t) ∷ l) (inside_bare (inside (part_of meta w scope t) n) scope (if is_object (part_of meta w scope t) then suc n else n) bs)
      ∙ ap (λ p. bare_entry t p ∷ walk_inside meta (inside p n) scope (if is_object p then suc n else n) (map bare_below bs)) (part_bare w scope t)

  -- ## Elements

  -- an element's tag, by what stands in it
  abbrev tag_of_layer : layer.Element-F Below Walk → List (List ℕ) → Bool → Tag
  tag_of_layer e texts some = record { space = e.space; name = e.name; attributes = e.attributes; texts = texts; has_elements = some; place = place 1 1 }

  -- an element's walk without places is that of the element without them
  layer_bare : (e : layer.Element-F Below Walk) → bare_walk (named_layer meta e) ≡ named_layer meta (bare_layer e)
  layer_bare e = ap (λ g. (e.name, g)) (fun_ext (λ w. fun_ext (λ outer. fun_ext (λ n. at w outer n))))
    where
      at : (w : Where) (outer : List Prefix) (n : ℕ) → map bare ((named_layer meta e).1 w outer n) ≡ (named_layer meta (bare_layer e)).1 w outer n
      at w outer n =
          tag_bare w (e.declared ++ outer) n (record { space = e.space; name = e.name; attributes = e.attributes; texts = texts_of e.children; has_elements = list_any is_element e.children; place = e.place }) e.children
          ∙ ap (λ texts. walk_tag meta w (e.declared ++ outer) n (tag_of_layer e texts (list_any is_element e.children)) (map bare_below e.children)) (sym (texts_bare e.children))
          ∙ ap (λ some. walk_tag meta w (e.declared ++ outer) n (tag_of_layer e (texts_of (map bare_below e.children)) some) (map bare_below e.children)) (sym (elements_bare e.children))

  -- ## Trees

  -- a child is walked to the same entries, but for places, when it has lost its places
  abbrev OfChild : Child → Type 0
  OfChild c = bare_below (walk_child meta c) ≡ bare_below (walk_child meta (unplaced_child c))

  -- so is an element
  abbrev OfElement : Element → Type 0
  OfElement e = bare_walk (walk meta e) ≡ bare_walk (walk meta (unplaced e))

  -- such a child
  abbrev SomeChild : Type 0
  SomeChild = (c : Child) × OfChild c

  -- such an element
  abbrev SomeElement : Type 0
  SomeElement = (e : Element) × OfElement e

  -- the walk of a child, by what it is made of
  rolled_child : (l : layer.Child-F Child Element) → walk_child meta (roll-Child l) ≡ child_layer meta (map-Child Child Element Below Walk (walk_child meta) (walk meta) l)
  unfolding walk walk_child
  rolled_child l = fold-roll-Child Below Walk (child_layer meta) (named_layer meta) l

  -- the child without places, by what it is made of
  unplaced_rolled_child : (l : layer.Child-F Child Element) → unplaced_child (roll-Child l) ≡ unplaced_child_layer (map-Child Child Element Child Element unplaced_child unplaced l)
  unfolding unplaced unplaced_child
  unplaced_rolled_child l = fold-roll-Child Child Element unplaced_child_layer unplaced_layer l

  -- the walk of an element, by what it is made of
  rolled : (l : layer.Element-F Child Element) → walk meta (roll-Element l) ≡ named_layer meta (map-Element Child Element Below Walk (walk_child meta) (walk meta) l)
  unfolding walk walk_child
  rolled l = fold-roll-Element Below Walk (child_layer meta) (named_layer meta) l

  -- the element without places, by what it is made of
  unplaced_rolled : (l : layer.Element-F Child Element) → unplaced (roll-Element l) ≡ unplaced_layer (map-Element Child Element Child Element unplaced_child unplaced l)
  unfolding unplaced unplaced_child
  unplaced_rolled l = fold-roll-Element Child Element unplaced_child_layer unplaced_layer l

  -- the walk of an element, by those of its children
  opened : (e : Element) → walk meta e ≡ named_layer meta (record { space = e.space; name = e.name; declared = e.declared; attributes = e.attributes; children = map (walk_child meta) e.children; place = e.place })
  unfolding walk walk_child
  opened e = fold_out-Element Below Walk (child_layer meta) (named_layer meta) e

  -- a child is such a one, where it is a text or such an element
  child_step : (y : layer.Child-F SomeChild SomeElement) → OfChild (roll-Child (map-Child SomeChild SomeElement Child Element (λ c. c.0) (λ e. e.0) y))
  child_step (layer.Sub e) =
      ap bare_below (rolled_child (layer.Sub e.0))
      ∙ ap (λ (k : Walk). Sub k.0 k.1) e.1
      ∙ ap bare_below (sym (child_is meta (unplaced e.0)))
      ∙ ap (λ c. bare_below (walk_child meta c)) (sym (unplaced_rolled_child (layer.Sub e.0)))
  child_step (layer.Words text) =
      ap bare_below (rolled_child (layer.Words text))
      ∙ ap bare_below (sym (words_are meta text))
      ∙ ap (λ c. bare_below (walk_child meta c)) (sym (unplaced_rolled_child (layer.Words text)))

  -- all children of an element, where each is such a one
  children_bare : (cs : List SomeChild) → map bare_below (map (walk_child meta) (map (λ c. c.0) cs)) ≡ map bare_below (map (walk_child meta) (map unplaced_child (map (λ c. c.0) cs)))
  children_bare [] = refl
  children_bare (c ∷ cs) =
      ap (λ b. b ∷ map bare_below (map (walk_child meta) (map (λ c. c.0) cs))) c.1
      ∙ ap (λ l. bare_below (walk_child meta (unplaced_child c.0)) ∷ l) (children_bare cs)

  -- an element's layer, and with other things in it
  abbrev known : layer.Element-F SomeChild SomeElement → layer.Element-F Child Element
  known y = map-Element SomeChild SomeElement Child Element (λ c. c.0) (λ e. e.0) y

  abbrev with_children : layer.Element-F SomeChild SomeElement → List Below → layer.Element-F Below Walk
  with_children y bs = record { space = y.space; name = y.name; declared = y.declared; attributes = y.attributes; children = bs; place = place 1 1 }

  -- an element is such a one, where its children are
  element_step : (y : layer.Element-F SomeChild SomeElement) → OfElement (roll-Element (known y))
  element_step y =
      ap bare_walk (rolled (known y))
      ∙ layer_bare (map-Element Child Element Below Walk (walk_child meta) (walk meta) (known y))
      ∙ ap (λ l. named_layer meta (with_children y l)) (children_bare y.children)
      ∙ sym (layer_bare (with_children y (map (walk_child meta) (map unplaced_child (map (λ c. c.0) y.children)))))
      ∙ ap bare_walk (sym (opened (unplaced_layer (map-Element Child Element Child Element unplaced_child unplaced (known y)))))
      ∙ ap (λ e. bare_walk (walk meta e)) (sym (unplaced_rolled (known y)))

  -- so each element is
  of_elements : (e : Element) → OfElement e
  of_elements = ind-Element OfChild OfElement
      (λ x y is. subst (λ l. OfChild (roll-Child l)) is (child_step y))
      (λ x y is. subst (λ l. OfElement (roll-Element l)) is (element_step y))

  -- the outlines of two roots that are the same but for places
  pub same_outline : (a b : Element) → unplaced a ≡ unplaced b → map bare (outline meta (record { root = a })) ≡ map bare (outline meta (record { root = b }))
  same_outline a b h = ap (λ (k : Walk). k.1 AtRoot [] 0) (of_elements a ∙ ap (λ e. bare_walk (walk meta e)) h ∙ sym (of_elements b))
