-- A root's element: it is named for its class, and walked to the root's entries.
use Rattle.std.proofs.Common.{◌≡◌, ℕ, ◌+◌, List, [], ◌∷◌, ◌++◌, length, map, refl, sym, ap, subst, ◌∙◌, append-nil, Some, None}
use Rattle.std.specs.Prelude.{◌==◌, Bool, true, false, bytes_eq, codes, flat_map, option_map, slice_get, Contains, if◌then◌else◌}
use Rattle.std.specs.Option.{option_map_or}
use Rattle.std.proofs.lemmas.Bool.{and_left}
use Rattle.atl_base.specs.declared.numbers.ObjId.{ObjId}
use Rattle.doc_text.specs.Names.{xmi_space}
use Rattle.doc_text.specs.declared.tree.Child.TheVariants as child
use Rattle.doc_text.specs.declared.tree.Element.{Element}
use Rattle.ecore_meta.specs.Names.{IsName, IsPrefix, IsUri}
use Rattle.model_store.specs.declared.parts.Object.{Object}
use Rattle.model_store.specs.Contents.{Contents, holder, object_at}
use Rattle.model_store.specs.Order.{contents, HasNoCycle, tree}
use Rattle.model_store.specs.Valid.{IsValid}
use Rattle.model_store.proofs.Thinned.{Contains_first, Contains_later}
use Rattle.xmi_models.specs.Outline.{Around as AroundEntry, Root as RootEntry, AtRoot, InAround, class_named, objects_in, walk, walk_all, walk_child}
use Rattle.xmi_models.proofs.Walking.{looked_into}
use Rattle.xmi_write.specs.declared.named.Named.TheVariants.{Around, Inside, Root}
use Rattle.xmi_write.specs.Xmi.{declared, element, local_name, object_element, outermost, root_element, root_name, space_of, version}
use Rattle.xmi_round_trip.specs.Renumbered.{number}
use Rattle.xmi_round_trip.specs.RoundTrip.{IsInBounds}
use Rattle.xmi_round_trip.proofs.Filed.{IsFiled, IsOrdered, entries, first_attributes, named, object_part}
use Rattle.xmi_round_trip.proofs.OutlinedNames.{HasPackage, class_found, has_package}
use Rattle.xmi_round_trip.proofs.Numbers.{IsFrom, first_from, later_from}
use Rattle.xmi_round_trip.proofs.OutlinedTags.{element_is, tag_is}
use Rattle.xmi_round_trip.proofs.OutlinedWalks.{object_walk}
use Rattle.xmi_round_trip.proofs.OutlinedContents.{class_few, walked}
use Rattle.xmi_round_trip.proofs.Lists.{at_place}
use Rattle.xmi_round_trip.proofs.Parts.{class_within}
use Rattle.xmi_round_trip.proofs.OutlinedEntries.{tree_counted}
use Rattle.doc_text.proofs.ScopesAgain.{differs}
use Rattle.xmi_round_trip.proofs.Entries.{part_of_root}

module _ (m : Contents) (valid : IsValid m) (acyclic : HasNoCycle m) (bounds : IsInBounds m) (ordered : IsOrdered m) (filed : IsFiled m) where
  module _ (o : ObjId) (object : Object) (there : object_at m.objects o ≡ Some object) (free : holder m o ≡ None) where
    -- the element, where it is the root of the file and where it is not
    abbrev e : Element
    e = object_element (element m) m (Root object.class) object

    -- the element is made of the object
    root_is : root_element m o ≡ e
    root_is =
        ap (λ x. element m (option_map_or (λ object. Root object.class) x Around) o) there
        ∙ element_is m acyclic (Root object.class) o object there

    -- its class and the package of that
    has : HasPackage m.meta valid.metamodel object.class
    has = has_package m.meta valid.metamodel object.class (class_within m valid o object there)

    -- its namespace and its name
    space_is : space_of m.meta (Root object.class) ≡ has.group.uri
    space_is = ap (λ p. option_map_or (λ p. p.uri) p []) (ap (λ x. option_map_or (λ class. slice_get m.meta.packages class.«package») x None) has.there ∙ has.inside)

    name_is : local_name m.meta (Root object.class) ≡ has.class.name
    name_is = ap (λ x. option_map_or (λ class. class.name) x []) has.there

    -- they name its class
    root_class : class_named m.meta (space_of m.meta (Root object.class)) (local_name m.meta (Root object.class)) ≡ Some object.class
    root_class =
        ap (λ space. class_named m.meta space (local_name m.meta (Root object.class))) space_is
        ∙ ap (class_named m.meta has.group.uri) name_is
        ∙ class_found m.meta valid.metamodel object.class has (class_few m valid acyclic bounds ordered filed o object there)

    -- so it stands for the root
    root_part : RootEntry (class_named m.meta (space_of m.meta (Root object.class)) (local_name m.meta (Root object.class))) ≡ object_part m o
    root_part =
        ap RootEntry root_class
        ∙ ap (λ y. RootEntry (option_map (λ object. object.class) y)) (sym there)
        ∙ sym (part_of_root m o free)

    -- it is no `xmi:XMI`
    not_around : bytes_eq (space_of m.meta (Root object.class)) xmi_space ≡ false
    not_around =
        let facts = at_place (λ p. IsName p.name × IsPrefix p.prefix × IsUri p.uri) m.meta.packages has.class.«package» has.group valid.metamodel.names.packages has.inside in
        ap (λ space. bytes_eq space xmi_space) space_is ∙ differs has.group.uri xmi_space facts.2.not_xmi

    -- it is named as its entry says
    root_named : Root object.class ≡ named m o
    root_named =
        ap (λ x. option_map_or (λ object. Root object.class) x Around) (sym there)
        ∙ sym (ap (λ x. option_map_or (λ at. Inside at.1) x (root_name m o)) free)

    -- the attributes that stand first
    first_is : (b : Bool) → (length m.roots == 1) ≡ b → (if b then version ∷ [] else []) ≡ first_attributes m o
    first_is b h =
        ap (λ b. if b then version ∷ [] else []) (sym h)
        ∙ sym (ap (λ x. option_map_or (λ at. []) x (if length m.roots == 1 then version ∷ [] else [])) free)

    -- one of several
    pub inner_walk : (length m.roots == 1) ≡ false → (walk m.meta (root_element m o)).1 InAround (declared m.meta) (number m o).0 ≡ entries m o
    inner_walk several =
        ap (λ e. (walk m.meta e).1 InAround (declared m.meta) (number m o).0) root_is
        ∙ object_walk m ordered filed o object e InAround (declared m.meta) (number m o).0 there refl refl
        (tag_is m o object (Root object.class) [] there root_named (first_is false several))
        root_part refl (walked m valid acyclic bounds ordered filed o object there)

    -- the only one
    pub lone_walk : (length m.roots == 1) ≡ true → number m o ≡ record { 0 = 0 } → (walk m.meta (outermost m.meta (root_element m o))).1 AtRoot [] 0 ≡ entries m o
    lone_walk single first =
        ap (λ e. (walk m.meta (outermost m.meta e)).1 AtRoot [] 0) root_is
        ∙ object_walk m ordered filed o object (outermost m.meta e) AtRoot [] 0 there (append-nil (declared m.meta)) refl
        (tag_is m o object (Root object.class) (version ∷ []) there root_named (first_is true single))
        (ap (λ b. if b then AroundEntry else RootEntry (class_named m.meta (space_of m.meta (Root object.class)) (local_name m.meta (Root object.class))))
        (and_left (bytes_eq (space_of m.meta (Root object.class)) xmi_space) (bytes_eq (local_name m.meta (Root object.class)) (codes "XMI")) not_around)
        ∙ root_part)
        first (walked m valid acyclic bounds ordered filed o object there)

  -- the roots one after another
  pub roots_walk : (os : List ObjId) → ((o : ObjId) → Contains os o → (walk m.meta (root_element m o)).1 InAround (declared m.meta) (number m o).0 ≡ entries m o)
      → (k : ℕ) → IsFrom m k (flat_map (tree m) os) → walk_all m.meta InAround (declared m.meta) k (map (walk_child m.meta) (map child.Sub (map (root_element m) os))) ≡ flat_map (entries m) os
  roots_walk [] each k h = refl
  roots_walk (o ∷ os) each k h =
      let scope = declared m.meta in
      let e : Element = root_element m o in
      let others : List ObjId = flat_map (tree m) os in
      let here : IsFrom m k (o ∷ (flat_map (tree m) (contents m o) ++ others)) = subst (λ l. IsFrom m k (l ++ others)) (ordered.tree_is o) h in
      let at : number m o ≡ record { 0 = k } = first_from m k o (flat_map (tree m) (contents m o) ++ others) here in
      looked_into m.meta InAround scope k e (map (walk_child m.meta) (map child.Sub (map (root_element m) os))) refl
      ∙ ap (λ l. l ++ walk_all m.meta InAround scope (k + objects_in l) (map (walk_child m.meta) (map child.Sub (map (root_element m) os))))
      (ap (λ (n : ObjId). (walk m.meta e).1 InAround scope n.0) (sym at) ∙ each o (Contains_first o os))
      ∙ ap (λ n. entries m o ++ walk_all m.meta InAround scope (k + n) (map (walk_child m.meta) (map child.Sub (map (root_element m) os)))) (tree_counted m o)
      ∙ ap (λ l. entries m o ++ l) (roots_walk os (λ p c. each p (Contains_later o p os c)) (k + length (tree m o)) (later_from m (tree m o) others k h))
