-- The contents of an object by a feature are read from its model's file in the order of its slot.
use Rattle.std.proofs.Common.{◌≡◌, ℕ, suc, List, [], ◌∷◌, ◌++◌, length, map, refl, sym, ap, ◌∙◌, append-nil, Some}
use Rattle.std.specs.Prelude.{◌==◌, ◌&&◌, Bool, true, flat_map, is_some, Contains, IsSome, if◌then◌else◌}
use Rattle.std.proofs.lemmas.Bool.{eq-eqb, ne_eqb, true≢false}
use Rattle.std.proofs.lemmas.List.Concat.{flat_map_single}
use Rattle.std.proofs.lemmas.List.Folds.{flat_map-map}
use Rattle.atl_base.specs.declared.numbers.FeatId.{FeatId}
use Rattle.atl_base.specs.declared.numbers.ObjId.{ObjId}
use Rattle.ecore_meta.specs.declared.parts.Parts.{Parts}
use Rattle.ecore_meta.specs.Inheritance.{features}
use Rattle.ecore_meta.proofs.FeatureLaws.{flat_map-agree}
use Rattle.model_store.specs.declared.parts.Cellv.{Cellv}
use Rattle.model_store.specs.declared.parts.Cellv.TheVariants.{Obj}
use Rattle.model_store.specs.declared.parts.Object.{Object}
use Rattle.model_store.specs.Contents.{Contents, contains, is_many, object_at, objects_of, refers, slot}
use Rattle.model_store.specs.Order.{contents, preorder, tree}
use Rattle.model_store.specs.Valid.{IsValid}
use Rattle.xmi_write.specs.Xmi.{Part, Content, Value, slot_parts}
use Rattle.xmi_models.specs.Outline.{Entry, Tag, Around as AroundEntry, Inner as InnerEntry, Cross as CrossEntry, Unknown as UnknownEntry, Part as EntryPart, Root as RootEntry, Content as ContentEntry, Value as ValueEntry, is_object}
use Rattle.xmi_models.specs.Faults.{objects}
use Rattle.xmi_links.specs.References.{children_from}
use Rattle.xmi_round_trip.specs.Renumbered.{number, renumbered_value}
use Rattle.xmi_round_trip.proofs.Filed.{IsFiled, IsOrdered, file, numbers_from, object_entry, object_part, own_parts}
use Rattle.xmi_round_trip.proofs.Parts.{contents_are, one_slot, owner_there, part_objects}
use Rattle.xmi_round_trip.proofs.DraftedGathered.{gathered, same_numbers, with_below}
use Rattle.xmi_round_trip.proofs.Lists.{flat_map_twice}
use Rattle.xmi_round_trip.proofs.Numbers.{first_from, next_from}
use Rattle.xmi_round_trip.proofs.Entries.{part_of_root, part_of_content, object_is}
use Rattle.xmi_round_trip.proofs.Targets.{renumbered_slot}
use Rattle.model_store.proofs.Added.{contains_refers}
use Rattle.xmi_text.proofs.Lists.{map-map}

-- ## Objects alone count

-- what an entry says of the contents of an object by a feature, where it has this number
abbrev child : ObjId → FeatId → ObjId → EntryPart → List Cellv
child o f n (ContentEntry p g c) = if p.0 == o.0 && g.0 == f.0 then Obj n ∷ [] else []
child o f n part = []

module _ (meta : Parts) (entries : List Entry) (o : ObjId) (f : FeatId) where
  -- entries that are no objects say nothing of contents
  children_of_objects : (n : ℕ) (es : List Entry) → children_from meta entries n o f es ≡ children_from meta entries n o f (objects es)
  children_of_objects n [] = refl
  children_of_objects n (e ∷ es) = at e.part e.tag (λ k. children_of_objects k es)
    where
      at : (p : EntryPart) (t : Tag) → ((k : ℕ) → children_from meta entries k o f es ≡ children_from meta entries k o f (objects es))
          → children_from meta entries n o f (record { part = p; tag = t } ∷ es) ≡ children_from meta entries n o f (objects (record { part = p; tag = t } ∷ es))
      at (ContentEntry p g c) t again = ap (λ xs. (if p.0 == o.0 && g.0 == f.0 then Obj (record { 0 = n }) ∷ [] else []) ++ xs) (again (suc n))
      at (RootEntry c) t again = again (suc n)
      at AroundEntry t again = again n
      at (ValueEntry p g) t again = again n
      at (CrossEntry g c) t again = again n
      at (UnknownEntry c) t again = again n
      at InnerEntry t again = again n

  -- one object more
  children_more : (n : ℕ) (p : EntryPart) (t : Tag) (es : List Entry) → is_object p ≡ true
      → children_from meta entries n o f (record { part = p; tag = t } ∷ es) ≡ child o f (record { 0 = n }) p ++ children_from meta entries (suc n) o f es
  children_more n (ContentEntry p g c) t es i = refl
  children_more n (RootEntry c) t es i = refl
  children_more n AroundEntry t es i = absurd (true≢false (sym i))
  children_more n (ValueEntry p g) t es i = absurd (true≢false (sym i))
  children_more n (CrossEntry g c) t es i = absurd (true≢false (sym i))
  children_more n (UnknownEntry c) t es i = absurd (true≢false (sym i))
  children_more n InnerEntry t es i = absurd (true≢false (sym i))

module _ (m : Contents) (entries : List Entry) (o : ObjId) (f : FeatId) where
  -- what an object says of the contents of this one
  abbrev child_here : ObjId → List Cellv
  child_here x = child (number m o) f (number m x) (object_part m x)

  -- objects whose numbers rise by one
  children_numbered : (n : ℕ) (os : List ObjId) → map (number m) os ≡ numbers_from n (length os) → children_from m.meta entries n (number m o) f (map (object_entry m) os) ≡ flat_map child_here os
  children_numbered n [] h = refl
  children_numbered n (x ∷ os) h =
      children_more m.meta entries (number m o) f n (object_part m x) (object_entry m x).tag (map (object_entry m) os) (object_is m x)
      ∙ ap (λ xs. child (number m o) f (record { 0 = n }) (object_part m x) ++ xs) (children_numbered (suc n) os (next_from m n x os h))
      ∙ ap (λ (k : ObjId). child (number m o) f k (object_part m x) ++ flat_map child_here os) (sym (first_from m n x os h))

-- ## Gathered

module _ (m : Contents) (known : IsOrdered m) (o : ObjId) (f : FeatId) (there : IsSome (object_at m.objects o)) where
  -- what is said below an object
  abbrev below : ObjId → List Cellv
  below x = flat_map (child_here m [] o f) (flat_map (tree m) (contents m x))

  -- what a part says of the contents of this object
  abbrev say : ObjId → Part → List Cellv
  say x (Content g q) = if x.0 == o.0 && g.0 == f.0 then Obj (number m q) ∷ [] else []
  say x (Value g v) = []

  -- an object, and what is said below it
  tree_says : (q : ObjId) → flat_map (child_here m [] o f) (tree m q) ≡ child_here m [] o f q ++ below q
  tree_says q = ap (flat_map (child_here m [] o f)) (known.tree_is q)

  -- what is said below an object is said by its parts, and below them
  own_says : (x : ObjId) → below x ≡ flat_map (with_below m known o say below x) (own_parts m x)
  own_says x =
      flat_map_twice (child_here m [] o f) (tree m) (contents m x)
      ∙ ap (flat_map (λ q. flat_map (child_here m [] o f) (tree m q))) (contents_are m x)
      ∙ flat_map_twice (λ q. flat_map (child_here m [] o f) (tree m q)) part_objects (own_parts m x)
      ∙ flat_map-agree (λ p. flat_map (λ q. flat_map (child_here m [] o f) (tree m q)) (part_objects p)) (with_below m known o say below x) (own_parts m x) parts
    where
      parts : (p : Part) → Contains (own_parts m x) p → flat_map (λ q. flat_map (child_here m [] o f) (tree m q)) (part_objects p) ≡ with_below m known o say below x p
      parts (Content g q) c =
          append-nil (flat_map (child_here m [] o f) (tree m q))
          ∙ tree_says q
          ∙ ap (λ p. child (number m o) f (number m q) p ++ below q) (part_of_content m q x g (known.held x q g c))
          ∙ ap (λ (b : Bool). (if b && g.0 == f.0 then Obj (number m q) ∷ [] else []) ++ below q) (same_numbers m known x o (owner_there m x (Content g q) c) there)
      parts (Value g v) c = refl

  -- the parts of other objects say nothing
  silent : (x : ObjId) → (x.0 ≡ o.0 → ⊥) → (p : Part) → say x p ≡ []
  silent x n (Content g q) = ap (λ b. if b && g.0 == f.0 then Obj (number m q) ∷ [] else []) (ne_eqb x.0 o.0 n)
  silent x n (Value g v) = refl

  -- nor does a root itself
  root_says : (r : ObjId) → Contains m.roots r → flat_map (child_here m [] o f) (tree m r) ≡ below r
  root_says r h = tree_says r ∙ ap (λ p. child (number m o) f (number m r) p ++ below r) (part_of_root m r (known.roots_free r h))

  -- so what a file says is what the parts of the object say
  children_said : IsFiled m → (entries : List Entry) → children_from m.meta entries 0 (number m o) f (file m) ≡ flat_map (say o) (own_parts m o)
  children_said filed entries =
      children_of_objects m.meta entries (number m o) f 0 (file m)
      ∙ ap (children_from m.meta entries 0 (number m o) f) filed.objects_are
      ∙ children_numbered m entries o f 0 (preorder m) known.all_numbers
      ∙ flat_map_twice (child_here m [] o f) (tree m) m.roots
      ∙ flat_map-agree (λ r. flat_map (child_here m [] o f) (tree m r)) below m.roots root_says
      ∙ gathered m known o say below own_says silent there

-- ## The slot

module _ (m : Contents) (valid : IsValid m) (known : IsOrdered m) (filed : IsFiled m) (o : ObjId) (object : Object) (is : object_at m.objects o ≡ Some object) (f : FeatId)
    (sees : Contains (features m.meta.classes object.class) f) where
  -- the object is there
  there : IsSome (object_at m.objects o)
  there = ap is_some is

  -- the parts of a containment's slot say its objects with their new numbers
  slot_says : contains m.meta f ≡ true → flat_map (say m known o f there o) (slot_parts m.meta f (slot m o f)) ≡ map (λ q. Obj (number m q)) (objects_of (slot m o f))
  slot_says i =
      ap (λ a. flat_map (say m known o f there o) (if a then map (Content f) (objects_of (slot m o f)) else if refers m.meta f then [] else if is_many m.meta f then map (Value f) (slot m o f) else [])) i
      ∙ flat_map-map (say m known o f there o) (Content f) (objects_of (slot m o f))
      ∙ flat_map-agree (λ q. say m known o f there o (Content f q)) (λ q. Obj (number m q) ∷ []) (objects_of (slot m o f)) each
      ∙ flat_map_single (λ q. Obj (number m q)) (objects_of (slot m o f))
    where
      each : (q : ObjId) → Contains (objects_of (slot m o f)) q → say m known o f there o (Content f q) ≡ Obj (number m q) ∷ []
      each q h =
          ap (λ (a : Bool). if a && f.0 == f.0 then Obj (number m q) ∷ [] else []) (eq-eqb o.0 o.0 refl)
          ∙ ap (λ (a : Bool). if a then Obj (number m q) ∷ [] else []) (eq-eqb f.0 f.0 refl)

  -- the contents of an object by a feature, with their new numbers
  pub contents_drafted : contains m.meta f ≡ true → children_from m.meta (file m) 0 (number m o) f (file m) ≡ map (renumbered_value (number m)) (slot m o f)
  contents_drafted i =
      children_said m known o f there filed (file m)
      ∙ one_slot m known o object is valid (say m known o f there o) f contents_else (λ g v n. refl) sees
      ∙ slot_says i
      ∙ sym (map-map Obj (number m) (objects_of (slot m o f)))
      ∙ sym (renumbered_slot m valid.model o f (contains_refers m.meta f i) (number m))
    where
      contents_else : (g : FeatId) (q : ObjId) → (g.0 ≡ f.0 → ⊥) → say m known o f there o (Content g q) ≡ []
      contents_else g q n =
          ap (λ (a : Bool). if a && g.0 == f.0 then Obj (number m q) ∷ [] else []) (eq-eqb o.0 o.0 refl)
          ∙ ap (λ (a : Bool). if a then Obj (number m q) ∷ [] else []) (ne_eqb g.0 f.0 n)
