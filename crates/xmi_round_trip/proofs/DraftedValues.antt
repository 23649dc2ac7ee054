-- The values of a many-valued attribute are read from its model's file in the order of its slot.
use Rattle.std.proofs.Common.{◌≡◌, List, [], ◌∷◌, ◌++◌, length, map, refl, ap, ◌∙◌, append-nil, Some}
use Rattle.std.specs.Prelude.{◌==◌, ◌&&◌, Bool, true, false, flat_map, is_some, Contains, IsSome, if◌then◌else◌}
use Rattle.std.proofs.lemmas.Bool.{eq-eqb, ne_eqb}
use Rattle.std.proofs.lemmas.Grind.{flat_map-append}
use Rattle.std.proofs.lemmas.List.Folds.{flat_map-map}
use Rattle.atl_base.specs.declared.numbers.FeatId.{FeatId}
use Rattle.atl_base.specs.declared.numbers.ObjId.{ObjId}
use Rattle.ecore_meta.specs.declared.parts.Parts.{Parts}
use Rattle.ecore_meta.specs.Inheritance.{features}
use Rattle.ecore_meta.proofs.FeatureLaws.{flat_map-agree}
use Rattle.model_store.specs.declared.parts.Cellv.{Cellv}
use Rattle.model_store.specs.declared.parts.Object.{Object}
use Rattle.model_store.specs.Contents.{Contents, contains, is_many, object_at, objects_of, refers, slot}
use Rattle.model_store.specs.Texts.{value_text}
use Rattle.model_store.specs.Valid.{IsValid}
use Rattle.xmi_write.specs.Xmi.{Part, Content, Value}
use Rattle.xmi_models.specs.Outline.{Entry, Tag, Around as AroundEntry, Inner as InnerEntry, Cross as CrossEntry, Unknown as UnknownEntry, Part as EntryPart, Root as RootEntry, Content as ContentEntry, Value as ValueEntry}
use Rattle.xmi_models.specs.Faults.{text_in}
use Rattle.xmi_links.specs.References.{child_values, value_of}
use Rattle.xmi_round_trip.specs.Renumbered.{number}
use Rattle.xmi_round_trip.specs.RoundTrip.{IsInBounds}
use Rattle.xmi_round_trip.proofs.Filed.{IsFiled, IsOrdered, around_entry, entries, file, object_tag, own_parts, part_entries, value_entry}
use Rattle.xmi_round_trip.proofs.Parts.{one_slot, owner_there, slot_typed}
use Rattle.xmi_round_trip.proofs.DraftedGathered.{gathered, same_numbers, with_below}
use Rattle.xmi_round_trip.proofs.DraftedTexts.{value_back}
use Rattle.xmi_round_trip.proofs.Lists.{flat_map_twice, map_same}
use Rattle.xmi_round_trip.proofs.Entries.{by_part, lone_text}
use Rattle.std.proofs.lemmas.List.Concat.{flat_map_single}

-- ## What an entry says

module _ (meta : Parts) (all : List Entry) (o : ObjId) (f : FeatId) where
  -- what an entry says of the values of an object's attribute
  abbrev said_at : EntryPart → Tag → List Cellv
  said_at (ValueEntry p g) t = if p.0 == o.0 && g.0 == f.0 then value_of meta all f (text_in t) else []
  said_at p t = []

  -- the same of the whole entry
  abbrev entry_says : Entry → List Cellv
  entry_says e = said_at e.part e.tag

  -- all entries
  values_are : (es : List Entry) → child_values meta all o f es ≡ flat_map entry_says es
  values_are [] = refl
  values_are (e ∷ es) = at e.part e.tag (values_are es)
    where
      at : (p : EntryPart) (t : Tag) → child_values meta all o f es ≡ flat_map entry_says es → child_values meta all o f (record { part = p; tag = t } ∷ es) ≡ said_at p t ++ flat_map entry_says es
      at (ValueEntry p g) t again = ap (λ xs. (if p.0 == o.0 && g.0 == f.0 then value_of meta all f (text_in t) else []) ++ xs) again
      at (ContentEntry p g c) t again = again
      at (RootEntry c) t again = again
      at AroundEntry t again = again
      at (CrossEntry g c) t again = again
      at (UnknownEntry c) t again = again
      at InnerEntry t again = again

-- ## Gathered

module _ (m : Contents) (known : IsOrdered m) (filed : IsFiled m) (all : List Entry) (o : ObjId) (f : FeatId) (there : IsSome (object_at m.objects o)) where
  -- what an entry says of the values of this object
  abbrev says : Entry → List Cellv
  says = entry_says m.meta all (number m o) f

  -- what the entries of an object say
  abbrev within : ObjId → List Cellv
  within x = flat_map says (entries m x)

  -- what a part says of the values of this object
  abbrev say : ObjId → Part → List Cellv
  say x (Content g q) = []
  say x (Value g v) = if x.0 == o.0 && g.0 == f.0 then value_of m.meta all f (value_text m g v) else []

  -- they are its own, those of its values, and those of its contents
  own_says : (x : ObjId) → within x ≡ flat_map (with_below m known o say within x) (own_parts m x)
  own_says x =
      ap (flat_map says) (filed.entries_are x)
      ∙ ap (λ xs. xs ++ flat_map says (flat_map (part_entries (entries m) m x) (own_parts m x)))
      (by_part m (λ p. said_at m.meta all (number m o) f p (object_tag m x) ≡ []) x (λ h. refl) (λ p g h. refl))
      ∙ flat_map_twice says (part_entries (entries m) m x) (own_parts m x)
      ∙ flat_map-agree (λ p. flat_map says (part_entries (entries m) m x p)) (with_below m known o say within x) (own_parts m x) parts
    where
      parts : (p : Part) → Contains (own_parts m x) p → flat_map says (part_entries (entries m) m x p) ≡ with_below m known o say within x p
      parts (Content g q) c = refl
      parts (Value g v) c =
          append-nil (says (value_entry m x g v))
          ∙ ap (λ (b : Bool). if b && g.0 == f.0 then value_of m.meta all f (text_in (value_entry m x g v).tag) else []) (same_numbers m known x o (owner_there m x (Value g v) c) there)
          ∙ ap (λ text. if x.0 == o.0 && g.0 == f.0 then value_of m.meta all f text else []) (lone_text (value_text m g v))

  -- the parts of other objects say nothing
  silent : (x : ObjId) → (x.0 ≡ o.0 → ⊥) → (p : Part) → say x p ≡ []
  silent x n (Content g q) = refl
  silent x n (Value g v) = ap (λ b. if b && g.0 == f.0 then value_of m.meta all f (value_text m g v) else []) (ne_eqb x.0 o.0 n)

  -- nor does the element around all roots
  around_says : (b : Bool) → flat_map says (if b then [] else around_entry m ∷ []) ≡ []
  around_says true = refl
  around_says false = refl

  -- so what a file says is what the parts of the object say
  values_said : child_values m.meta all (number m o) f (file m) ≡ flat_map (say o) (own_parts m o)
  values_said =
      values_are m.meta all (number m o) f (file m)
      ∙ flat_map-append says (if length m.roots == 1 then [] else around_entry m ∷ []) (flat_map (entries m) m.roots)
      ∙ ap (λ xs. xs ++ flat_map says (flat_map (entries m) m.roots)) (around_says (length m.roots == 1))
      ∙ flat_map_twice says (entries m) m.roots
      ∙ gathered m known o say within own_says silent there

-- ## The slot

module _ (m : Contents) (valid : IsValid m) (bounds : IsInBounds m) (known : IsOrdered m) (filed : IsFiled m) (o : ObjId) (object : Object) (is : object_at m.objects o ≡ Some object) (f : FeatId)
    (sees : Contains (features m.meta.classes object.class) f) (outside : contains m.meta f ≡ false) (plain : refers m.meta f ≡ false) where
  -- the object is there
  there : IsSome (object_at m.objects o)
  there = ap is_some is

  -- what its parts say
  abbrev said : Part → List Cellv
  said = say m known filed (file m) o f there o

  -- a value of the slot stands for itself
  pub cell_back : (v : Cellv) → Contains (slot m o f) v → value_of m.meta (file m) f (value_text m f v) ≡ v ∷ []
  cell_back v h = value_back m valid.metamodel (file m) f v plain (slot_typed m valid.model o f v h) (bounds.values o f v h)

  -- the parts of the slot
  abbrev parts_by : Bool → Bool → Bool → List Part
  parts_by a b c = if a then map (Content f) (objects_of (slot m o f)) else if b then [] else if c then map (Value f) (slot m o f) else []

  -- the parts of the slot say all
  values_of_slot : (c : Bool) → is_many m.meta f ≡ c → child_values m.meta (file m) (number m o) f (file m) ≡ flat_map said (parts_by false false c)
  values_of_slot c many =
      values_said m known filed (file m) o f there
      ∙ one_slot m known o object is valid said f (λ g q n. refl) values_else sees
      ∙ ap (λ a. flat_map said (parts_by a (refers m.meta f) (is_many m.meta f))) outside
      ∙ ap (λ b. flat_map said (parts_by false b (is_many m.meta f))) plain
      ∙ ap (λ c. flat_map said (parts_by false false c)) many
    where
      values_else : (g : FeatId) (v : Cellv) → (g.0 ≡ f.0 → ⊥) → said (Value g v) ≡ []
      values_else g v n =
          ap (λ (a : Bool). if a && g.0 == f.0 then value_of m.meta (file m) f (value_text m g v) else []) (eq-eqb o.0 o.0 refl)
          ∙ ap (λ (a : Bool). if a then value_of m.meta (file m) f (value_text m g v) else []) (ne_eqb g.0 f.0 n)

  -- a single-valued attribute has no child elements
  pub no_values : is_many m.meta f ≡ false → child_values m.meta (file m) (number m o) f (file m) ≡ []
  no_values single = values_of_slot false single

  -- a many-valued one has its values there
  pub many_values : is_many m.meta f ≡ true → child_values m.meta (file m) (number m o) f (file m) ≡ slot m o f
  many_values many =
      values_of_slot true many
      ∙ flat_map-map said (Value f) (slot m o f)
      ∙ flat_map-agree (λ v. said (Value f v)) (λ v. v ∷ []) (slot m o f) each
      ∙ flat_map_single (λ v. v) (slot m o f)
      ∙ map_same (λ v. v) (slot m o f) (λ v h. refl)
    where
      each : (v : Cellv) → Contains (slot m o f) v → said (Value f v) ≡ v ∷ []
      each v h =
          ap (λ (a : Bool). if a && f.0 == f.0 then value_of m.meta (file m) f (value_text m f v) else []) (eq-eqb o.0 o.0 refl)
          ∙ ap (λ (a : Bool). if a then value_of m.meta (file m) f (value_text m f v) else []) (eq-eqb f.0 f.0 refl)
          ∙ cell_back v h
