-- The references of a written object's element are those of its slots that are written as attributes, each object named by its path.
use Rattle.std.proofs.Common.{◌≡◌, ℕ, List, [], ◌∷◌, ◌++◌, length, map, refl, sym, ap, ◌∙◌, Option, Some, None}
use Rattle.std.specs.Prelude.{◌==◌, ◌&&◌, not, Bool, true, false, option_map, Contains, IsSome, filter_map, flat_map, if◌then◌else◌}
use Rattle.std.specs.List.{cons_option}
use Rattle.std.specs.Option.{option_map_or}
use Rattle.std.proofs.lemmas.List.Elements.{filter_map-append}
use Rattle.atl_base.specs.declared.numbers.ClassId.{ClassId}
use Rattle.atl_base.specs.declared.numbers.FeatId.{FeatId}
use Rattle.atl_base.specs.declared.numbers.ObjId.{ObjId}
use Rattle.doc_text.specs.declared.tree.Attribute.{Attribute}
use Rattle.ecore_meta.specs.Inheritance.{features}
use Rattle.ecore_meta.proofs.FeatureLaws.{flat_map-agree}
use Rattle.model_store.specs.declared.parts.Cellv.TheVariants.{Obj}
use Rattle.model_store.specs.declared.parts.Object.{Object}
use Rattle.model_store.specs.Contents.{Contents, contains, holder, object_at, objects_of, refers, slot}
use Rattle.model_store.specs.Paths.{object_of_path, path}
use Rattle.model_store.specs.Texts.{value_text}
use Rattle.xmi_text.specs.Markup.{words_of}
use Rattle.xmi_text.specs.Options.{then_}
use Rattle.xmi_text.proofs.Lists.{map-map}
use Rattle.xmi_models.specs.Faults.{attribute_feature}
use Rattle.xmi_links.specs.References.{Reference, Token, by_bearers, by_path, id_in, path_in, reference_of, references_at, token_of}
use Rattle.xmi_write.specs.declared.named.Named.{Named}
use Rattle.xmi_write.specs.declared.named.Named.TheVariants.{Around, Root, Inside}
use Rattle.xmi_write.specs.Values.{is_attribute, joined}
use Rattle.xmi_write.specs.Xmi.{attributes_of, by_slot, said_class, slot_attribute, slot_attributes, type_attribute, type_attributes, version}
use Rattle.xmi_write.proofs.ObjectElements.{map_agree}
use Rattle.xmi_round_trip.specs.Renumbered.{number}
use Rattle.xmi_round_trip.proofs.Filed.{first_attributes, named, object_entry, object_part}
use Rattle.xmi_round_trip.proofs.LinkedLinks.{IsFollowed, slot_reference, slot_references, token_at, written_crosses}
use Rattle.xmi_round_trip.proofs.Targets.{all_targets, target_there}
use Rattle.xmi_round_trip.proofs.Lists.{filter_map_flat}
use Rattle.xmi_round_trip.proofs.Parts.{by_slot_map, slot_typed}
use Rattle.xmi_round_trip.proofs.Entries.{own_class_is, slot_feature}
use Rattle.xmi_round_trip.proofs.Paths.{reference_words}
use Rattle.model_store.proofs.Added.{object_of_type}

module _ (m : Contents) (there : List (Option Object)) (tops : List ObjId) (who : List ℕ → List ObjId) (k : IsFollowed m there tops) where
  -- the model of these objects and roots
  abbrev pub drafted : Contents
  drafted = record { meta = m.meta; objects = there; roots = tops }

  -- the reference that an attribute of an object's element is, if it is one
  abbrev said : ObjId → Attribute → Option Reference
  said o = reference_of drafted who (number m o) (object_entry m o)

  -- ## Attributes that are no features

  -- those that stand first are no references
  first_none : (o : ObjId) → filter_map (said o) (first_attributes m o) ≡ []
  first_none o = on (holder m o) (length m.roots == 1)
    where
      on : (x : Option (ObjId × FeatId)) (b : Bool) → filter_map (said o) (option_map_or (λ at. []) x (if b then version ∷ [] else [])) ≡ []
      on (Some at) b = refl
      on None true = refl
      on None false = refl

  -- nor is a type
  types_none : (o : ObjId) (named : Named) (class : ClassId) → filter_map (said o) (type_attributes m.meta named class) ≡ []
  types_none o Around class = refl
  types_none o (Root c) class = refl
  types_none o (Inside f) class = on (option_map_or (λ said. said.0 == class.0) (said_class m.meta f) false)
    where
      on : (b : Bool) → filter_map (said o) (if b then [] else type_attribute m.meta class ∷ []) ≡ []
      on true = refl
      on false = refl

  -- ## Tokens

  -- a path is read as a path
  path_is : (q : ObjId) → path_in (path m q) ≡ Some (path m q)
  unfolding path
  path_is q = refl

  -- it names the object's number
  token_is : (q : ObjId) → IsSome (object_at m.objects q) → token_of drafted who (path m q) ≡ token_at m q
  token_is q h = ap (λ n. let t : Token = record { text = path m q; named = n } in t) (
      ap (λ x. option_map_or (λ p. by_path (object_of_path drafted p)) x (by_bearers (who (id_in (path m q))))) (path_is q)
      ∙ ap by_path (k.paths q h)
      )

  module _ (o : ObjId) (f : FeatId) (r : refers m.meta f ≡ true) where
    -- the objects of a slot
    abbrev targets : List ObjId
    targets = objects_of (slot m o f)

    -- they are in the model
    is_there : (q : ObjId) → Contains targets q → IsSome (object_at m.objects q)
    is_there q i = target_there m k.valid.model o f r q i

    -- the words of the slot's text are tokens for these objects
    tokens_are : map (token_of drafted who) (words_of (joined (map (value_text m f) (slot m o f)))) ≡ map (token_at m) targets
    tokens_are =
        ap (map (token_of drafted who)) (reference_words m k.valid k.few f (slot m o f) (λ v h. object_of_type m f v r (slot_typed m k.valid.model o f v h)))
        ∙ ap (λ cells. map (token_of drafted who) (map (value_text m f) cells)) (sym (all_targets m k.valid.model o f r))
        ∙ ap (map (token_of drafted who)) (map-map (value_text m f) Obj targets)
        ∙ map-map (token_of drafted who) (path m) targets
        ∙ map_agree (λ q. token_of drafted who (path m q)) (token_at m) targets (λ q i. token_is q (is_there q i))

  -- ## Attributes of slots

  module _ (o : ObjId) (object : Object) (at : object_at m.objects o ≡ Some object) where
    -- the features that are seen in its class
    abbrev seen : List FeatId
    seen = features m.meta.classes object.class

    -- the attribute of a slot gives the slot's feature
    feature_is : (f : FeatId) → Contains seen f → attribute_feature m.meta (object_part m o) (slot_attribute m f (slot m o f)) ≡ Some f
    feature_is f i = slot_feature m k.valid o object at (object_part m o) (own_class_is m o object at) f i

    -- a reference from the object by a feature
    abbrev reference_by : FeatId → List Token → Reference
    reference_by f ts = record { source = number m o; feature = f; tokens = ts }

    -- the tokens of a slot's text
    abbrev tokens_of : FeatId → List Token
    tokens_of f = map (token_of drafted who) (words_of (joined (map (value_text m f) (slot m o f))))

    -- the reference of a slot's tokens, by the feature that an attribute gives
    abbrev by_feature : FeatId → Option FeatId → Option Reference
    by_feature f x = option_map (λ g. reference_by g (tokens_of f)) (then_ x (λ g. if refers m.meta g && not (contains m.meta g) then Some g else None))

    -- the attribute of a slot is the slot's reference, where its feature is one
    slot_said : (f : FeatId) → Contains seen f → is_attribute m.meta f (slot m o f) ≡ true → said o (slot_attribute m f (slot m o f)) ≡ (if refers m.meta f then Some (slot_reference m o f) else None)
    slot_said f i h = ap (by_feature f) (feature_is f i) ∙ on (refers m.meta f) refl
      where
        on : (b : Bool) → refers m.meta f ≡ b → option_map (λ g. reference_by g (tokens_of f)) (if refers m.meta f && not (contains m.meta f) then Some f else None) ≡ (if b then Some (slot_reference m o f) else None)
        on true e =
            ap (λ b. option_map (λ g. reference_by g (tokens_of f)) (if b && not (contains m.meta f) then Some f else None)) e
            ∙ ap (λ b. option_map (λ g. reference_by g (tokens_of f)) (if not b then Some f else None)) (written_crosses m.meta f (slot m o f) h e).contains_not
            ∙ ap (λ ts. Some (reference_by f ts)) (tokens_are o f e)
        on false e = ap (λ b. option_map (λ g. reference_by g (tokens_of f)) (if b && not (contains m.meta f) then Some f else None)) e

    -- so what a slot's attribute says as a reference is the slot's
    slot_kept : (f : FeatId) → Contains seen f → filter_map (said o) (slot_attributes m f (slot m o f)) ≡ slot_references m o f
    slot_kept f i = on (is_attribute m.meta f (slot m o f)) refl
      where
        one : (b : Bool) → cons_option (if b then Some (slot_reference m o f) else None) [] ≡ (if b then slot_reference m o f ∷ [] else [])
        one true = refl
        one false = refl

        on : (b : Bool) → is_attribute m.meta f (slot m o f) ≡ b → filter_map (said o) (if b then slot_attribute m f (slot m o f) ∷ [] else []) ≡ (if b && refers m.meta f then slot_reference m o f ∷ [] else [])
        on false e = refl
        on true e = ap (λ x. cons_option x []) (slot_said f i e) ∙ one (refers m.meta f)

    -- all that an object's element says
    pub object_references : references_at drafted who (number m o) (object_entry m o) ≡ flat_map (slot_references m o) seen
    object_references =
        let types : List Attribute = type_attributes m.meta (named m o) object.class in
        let rows : List Attribute = by_slot (slot_attributes m) seen object.slots in
        ap (λ x. filter_map (said o) (first_attributes m o ++ option_map_or (attributes_of m (named m o)) x [])) at
        ∙ filter_map-append (said o) (first_attributes m o) (types ++ rows)
        ∙ ap (λ l. l ++ filter_map (said o) (types ++ rows)) (first_none o)
        ∙ filter_map-append (said o) types rows
        ∙ ap (λ l. l ++ filter_map (said o) rows) (types_none o (named m o) object.class)
        ∙ ap (λ slots. filter_map (said o) (by_slot (slot_attributes m) seen slots)) (k.known.slots o object at)
        ∙ ap (filter_map (said o)) (by_slot_map (slot_attributes m) (slot m o) seen)
        ∙ filter_map_flat (said o) (λ f. slot_attributes m f (slot m o f)) seen
        ∙ flat_map-agree (λ f. filter_map (said o) (slot_attributes m f (slot m o f))) (slot_references m o) seen slot_kept
