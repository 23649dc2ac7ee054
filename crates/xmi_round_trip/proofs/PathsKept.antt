-- In two models that are the same in roots, classes and contents but for the numbers of their objects, a path names the same object.
use Rattle.std.proofs.Common.{◌≡◌, ℕ, ◌<◌, Bool, true, false, List, [], ◌∷◌, length, map, refl, sym, ap, subst, ◌∙◌, Option, Some, None}
use Rattle.std.specs.Prelude.{◌==◌, slice_get, slice_index_or, option_map, Contains, IsSome, is_some, if◌then◌else◌}
use Rattle.std.specs.List.{list_any, position_or_len, before_first, after_first}
use Rattle.std.specs.Option.{option_and_then}
use Rattle.std.specs.Str.{bytes_eq}
use Rattle.std.proofs.lemmas.Bool.{and_parts}
use Rattle.std.proofs.lemmas.List.Folds.{find_at}
use Rattle.std.proofs.lemmas.List.Sums.{passes_at_first}
use Rattle.std.proofs.lemmas.Option.{none-some, same_Some, get_or_from_slice_get, slice_get-map, slice_get_within}
use Rattle.atl_base.specs.declared.numbers.ClassId.{ClassId}
use Rattle.atl_base.specs.declared.numbers.FeatId.{FeatId}
use Rattle.atl_base.specs.declared.numbers.ObjId.{ObjId}
use Rattle.ecore_meta.specs.declared.parts.Parts.{Parts}
use Rattle.ecore_meta.specs.Inheritance.{features, name_of}
use Rattle.ecore_meta.specs.Valid.{number_of}
use Rattle.model_store.specs.declared.parts.Cellv.{Cellv}
use Rattle.model_store.specs.declared.parts.Cellv.TheVariants.{Words, Int, Truth, Literal, Obj}
use Rattle.model_store.specs.Contents.{Contents, class_of, contains, first_object, is_many, object_at, slot}
use Rattle.model_store.specs.Paths.{are_digits, at_number, at_parts, content_at, content_feature, content_in_class, content_named, descend, is_content, is_dot, many_content, object_in, object_of_path, parts_of, root_named, single_content}
use Rattle.model_store.specs.Valid.{IsModel, Refers}
use Rattle.model_store.proofs.Created.{referred_to}
use Rattle.model_store.proofs.Thinned.{Contains_first}
use Rattle.xmi_round_trip.specs.Renumbered.{renumbered_value}
use Rattle.xmi_round_trip.proofs.SameContents.{HaveSameContents}
use Rattle.model_store.proofs.Added.{first_held}
use Rattle.xmi_round_trip.proofs.Lists.{found_in}

-- ## What a number names

-- what stands at a number is in the list
picked : {X : Type 0} (xs : List X) (digits : List ℕ) (x : X) → at_number xs digits ≡ Some x → Contains xs x
picked {X} xs digits x h = on (are_digits digits) h
  where
    on : (b : Bool) → (if b then slice_get xs (number_of digits) else None) ≡ Some x → Contains xs x
    on true e = found_in xs (number_of digits) x e
    on false e = absurd (none-some x e)

-- the same number in a mapped list
number_mapped : {X Y : Type 0} (f : X → Y) (xs : List X) (digits : List ℕ) → at_number (map f xs) digits ≡ option_map f (at_number xs digits)
number_mapped {X} {Y} f xs digits = on (are_digits digits)
  where
    on : (b : Bool) → (if b then slice_get (map f xs) (number_of digits) else None) ≡ option_map f (if b then slice_get xs (number_of digits) else None)
    on true = slice_get-map f xs (number_of digits)
    on false = refl

-- a root that is named is one
root_picked : (roots : List ObjId) (digits : List ℕ) (o : ObjId) → root_named roots digits ≡ Some o → Contains roots o
root_picked [] digits o h = picked [] digits o h
root_picked (r ∷ []) [] o h = subst (Contains (r ∷ [])) (same_Some r o h) (Contains_first r [])
root_picked (r ∷ []) (b ∷ bs) o h = picked (r ∷ []) (b ∷ bs) o h
root_picked (r ∷ s ∷ roots) digits o h = picked (r ∷ s ∷ roots) digits o h

module _ (new : ObjId → ObjId) where
  -- the same roots with other numbers
  root_mapped : (roots : List ObjId) (digits : List ℕ) → root_named (map new roots) digits ≡ option_map new (root_named roots digits)
  root_mapped [] digits = number_mapped new [] digits
  root_mapped (r ∷ []) [] = refl
  root_mapped (r ∷ []) (b ∷ bs) = number_mapped new (r ∷ []) (b ∷ bs)
  root_mapped (r ∷ s ∷ roots) digits = number_mapped new (r ∷ s ∷ roots) digits

  -- an object with another number
  object_mapped : (v : Cellv) → object_in (renumbered_value new v) ≡ option_map new (object_in v)
  object_mapped (Obj q) = refl
  object_mapped (Words t) = refl
  object_mapped (Int n) = refl
  object_mapped (Truth b) = refl
  object_mapped (Literal l) = refl

  -- a place in a slot with other numbers
  content_mapped : (cells : List Cellv) (digits : List ℕ) → content_at (map (renumbered_value new) cells) digits ≡ option_map new (content_at cells digits)
  content_mapped cells digits = ap (option_and_then object_in) (number_mapped (renumbered_value new) cells digits) ∙ on (at_number cells digits)
    where
      on : (x : Option Cellv) → option_and_then object_in (option_map (renumbered_value new) x) ≡ option_map new (option_and_then object_in x)
      on None = refl
      on (Some v) = object_mapped v

  -- and the first object of it
  first_mapped : (cells : List Cellv) → first_object (map (renumbered_value new) cells) ≡ option_map new (first_object cells)
  first_mapped [] = refl
  first_mapped (Obj q ∷ cells) = refl
  first_mapped (Words t ∷ cells) = first_mapped cells
  first_mapped (Int n ∷ cells) = first_mapped cells
  first_mapped (Truth b ∷ cells) = first_mapped cells
  first_mapped (Literal l ∷ cells) = first_mapped cells

-- ## What is named is in the slot

-- a value that is an object
object_is : (v : Cellv) (q : ObjId) → object_in v ≡ Some q → v ≡ Obj q
object_is (Obj p) q h = ap Obj (same_Some p q h)
object_is (Words t) q h = absurd (none-some q h)
object_is (Int n) q h = absurd (none-some q h)
object_is (Truth b) q h = absurd (none-some q h)
object_is (Literal l) q h = absurd (none-some q h)

-- what stands at a place of a slot
content_picked : (cells : List Cellv) (digits : List ℕ) (q : ObjId) → content_at cells digits ≡ Some q → Contains cells (Obj q)
content_picked cells digits q h = on (at_number cells digits) refl h
  where
    on : (x : Option Cellv) → at_number cells digits ≡ x → option_and_then object_in x ≡ Some q → Contains cells (Obj q)
    on None e k = absurd (none-some q k)
    on (Some v) e k = subst (Contains cells) (object_is v q k) (picked cells digits v e)

-- the feature that is found is a containment
found_contains : (meta : Parts) (class : ClassId) (name : List ℕ) (f : FeatId) → content_feature meta class name ≡ Some f → contains meta f ≡ true
found_contains meta class name f h =
    let test : FeatId → Bool = is_content meta name in
    let seen : List FeatId = features meta.classes class in
    let at : slice_get seen (position_or_len test seen) ≡ Some f = sym (find_at test seen) ∙ h in
    let low : position_or_len test seen < length seen = slice_get_within seen (position_or_len test seen) f at in
    let it : slice_index_or seen (position_or_len test seen) f ≡ f = get_or_from_slice_get seen (position_or_len test seen) f f at in
    (and_parts (contains meta f) (bytes_eq (name_of meta.features f) name) (ap test (sym it) ∙ passes_at_first test seen f low)).0

-- ## A step

module _ (m : Contents) (o : ObjId) where
  -- by a many-valued feature
  many_picked : (digits : List ℕ) (f : FeatId) (q : ObjId) → many_content m o digits f ≡ Some q → Refers m o f q
  many_picked digits f q h = on (is_many m.meta f) h
    where
      on : (b : Bool) → (if b then content_at (slot m o f) digits else None) ≡ Some q → Refers m o f q
      on true e = content_picked (slot m o f) digits q e
      on false e = absurd (none-some q e)

  -- by a single-valued one
  single_picked : (f : FeatId) (q : ObjId) → single_content m o f ≡ Some q → Refers m o f q
  single_picked f q h = on (is_many m.meta f) h
    where
      on : (b : Bool) → (if b then None else first_object (slot m o f)) ≡ Some q → Refers m o f q
      on true e = absurd (none-some q e)
      on false e = first_held (slot m o f) q e

  -- by either
  named_in_class : (text : List ℕ) (class : ClassId) (q : ObjId) → content_in_class m o text class ≡ Some q → (f : FeatId) × Refers m o f q
  named_in_class text class q h = on (list_any is_dot text) h
    where
      many : (x : Option FeatId) → option_and_then (many_content m o (after_first is_dot text)) x ≡ Some q → (f : FeatId) × Refers m o f q
      many None e = absurd (none-some q e)
      many (Some f) e = (f, many_picked (after_first is_dot text) f q e)

      single : (x : Option FeatId) → option_and_then (single_content m o) x ≡ Some q → (f : FeatId) × Refers m o f q
      single None e = absurd (none-some q e)
      single (Some f) e = (f, single_picked f q e)

      on : (b : Bool) → (if b then option_and_then (many_content m o (after_first is_dot text)) (content_feature m.meta class (before_first is_dot text)) else option_and_then (single_content m o) (content_feature m.meta class text)) ≡ Some q
          → (f : FeatId) × Refers m o f q
      on true e = many (content_feature m.meta class (before_first is_dot text)) e
      on false e = single (content_feature m.meta class text) e

  -- what a part of a path names is referred to
  named_refers : (part : List ℕ) (q : ObjId) → content_named m o part ≡ Some q → (f : FeatId) × Refers m o f q
  named_refers [] q h = absurd (none-some q h)
  named_refers (b ∷ text) q h = on (b == 64) h
    where
      by_class : (x : Option ClassId) → option_and_then (content_in_class m o text) x ≡ Some q → (f : FeatId) × Refers m o f q
      by_class None e = absurd (none-some q e)
      by_class (Some class) e = named_in_class text class q e

      on : (b : Bool) → (if b then option_and_then (content_in_class m o text) (class_of m o) else None) ≡ Some q → (f : FeatId) × Refers m o f q
      on true e = by_class (class_of m o) e
      on false e = absurd (none-some q e)

module _ (new : ObjId → ObjId) (m n : Contents) (same : HaveSameContents new m n) (o : ObjId) (there : IsSome (object_at m.objects o)) where
  -- a many-valued feature names the same in both models
  many_kept : (digits : List ℕ) (f : FeatId) → contains m.meta f ≡ true → many_content n (new o) digits f ≡ option_map new (many_content m o digits f)
  many_kept digits f inside =
      ap (λ (meta : Parts). if is_many meta f then content_at (slot n (new o) f) digits else None) same.meta
      ∙ ap (λ (cells : List Cellv). if is_many m.meta f then content_at cells digits else None) (same.contents o f there inside)
      ∙ on (is_many m.meta f)
    where
      on : (b : Bool) → (if b then content_at (map (renumbered_value new) (slot m o f)) digits else None) ≡ option_map new (if b then content_at (slot m o f) digits else None)
      on true = content_mapped new (slot m o f) digits
      on false = refl

  -- and a single-valued one
  single_kept : (f : FeatId) → contains m.meta f ≡ true → single_content n (new o) f ≡ option_map new (single_content m o f)
  single_kept f inside =
      ap (λ (meta : Parts). if is_many meta f then None else first_object (slot n (new o) f)) same.meta
      ∙ ap (λ (cells : List Cellv). if is_many m.meta f then None else first_object cells) (same.contents o f there inside)
      ∙ on (is_many m.meta f)
    where
      on : (b : Bool) → (if b then None else first_object (map (renumbered_value new) (slot m o f))) ≡ option_map new (if b then None else first_object (slot m o f))
      on true = refl
      on false = first_mapped new (slot m o f)

  -- so does what stands after the slash
  class_kept : (text : List ℕ) (class : ClassId) → content_in_class n (new o) text class ≡ option_map new (content_in_class m o text class)
  class_kept text class = on (list_any is_dot text)
    where
      digits : List ℕ
      digits = after_first is_dot text

      name : List ℕ
      name = before_first is_dot text

      many : (x : Option FeatId) → content_feature m.meta class name ≡ x → option_and_then (many_content n (new o) digits) x ≡ option_map new (option_and_then (many_content m o digits) x)
      many None e = refl
      many (Some f) e = many_kept digits f (found_contains m.meta class name f e)

      single : (x : Option FeatId) → content_feature m.meta class text ≡ x → option_and_then (single_content n (new o)) x ≡ option_map new (option_and_then (single_content m o) x)
      single None e = refl
      single (Some f) e = single_kept f (found_contains m.meta class text f e)

      on : (b : Bool) → (if b then option_and_then (many_content n (new o) digits) (content_feature n.meta class name) else option_and_then (single_content n (new o)) (content_feature n.meta class text))
          ≡ option_map new (if b then option_and_then (many_content m o digits) (content_feature m.meta class name) else option_and_then (single_content m o) (content_feature m.meta class text))
      on true = ap (λ (meta : Parts). option_and_then (many_content n (new o) digits) (content_feature meta class name)) same.meta ∙ many (content_feature m.meta class name) refl
      on false = ap (λ (meta : Parts). option_and_then (single_content n (new o)) (content_feature meta class text)) same.meta ∙ single (content_feature m.meta class text) refl

  -- and a whole part
  named_kept : (part : List ℕ) → content_named n (new o) part ≡ option_map new (content_named m o part)
  named_kept [] = refl
  named_kept (b ∷ text) = on (b == 64)
    where
      by_class : (x : Option ClassId) → option_and_then (content_in_class n (new o) text) x ≡ option_map new (option_and_then (content_in_class m o text) x)
      by_class None = refl
      by_class (Some class) = class_kept text class

      on : (b : Bool) → (if b then option_and_then (content_in_class n (new o) text) (class_of n (new o)) else None) ≡ option_map new (if b then option_and_then (content_in_class m o text) (class_of m o) else None)
      on true = ap (option_and_then (content_in_class n (new o) text)) (same.classes o there) ∙ by_class (class_of m o)
      on false = refl

-- ## The whole path

module _ (new : ObjId → ObjId) (m n : Contents) (same : HaveSameContents new m n) (model : IsModel m) where
  -- step by step
  descend_kept : (parts : List (List ℕ)) (x : Option ObjId) → ((p : ObjId) → x ≡ Some p → IsSome (object_at m.objects p)) → (o : ObjId) → descend m x parts ≡ Some o
      → descend n (option_map new x) parts ≡ Some (new o)
  descend_kept parts None there o h = absurd (none-some o h)
  descend_kept [] (Some p) there o h = ap (option_map new) h
  descend_kept (part ∷ parts) (Some p) there o h =
      ap (λ x. descend n x parts) (named_kept new m n same p (there p refl) part)
      ∙ descend_kept parts (content_named m p part)
      (λ q e. let r = named_refers m p part q e in let y = referred_to m model p r.0 q r.1 in ap is_some y.1) o h

  -- from the root on
  parts_kept : (parts : List (List ℕ)) (o : ObjId) → at_parts m parts ≡ Some o → at_parts n parts ≡ Some (new o)
  parts_kept [] o h = absurd (none-some o h)
  parts_kept ([] ∷ []) o h = absurd (none-some o h)
  parts_kept ([] ∷ (root ∷ parts)) o h =
      ap (λ x. descend n x parts) (ap (λ roots. root_named roots root) same.roots ∙ root_mapped new m.roots root)
      ∙ descend_kept parts (root_named m.roots root) (λ p e. ((model.roots p).0 (root_picked m.roots root p e)).0) o h
  parts_kept ((b ∷ bs) ∷ parts) o h = absurd (none-some o h)

-- all of it
pub path_kept : (new : ObjId → ObjId) (m n : Contents) → HaveSameContents new m n → IsModel m → (text : List ℕ) (o : ObjId) → object_of_path m text ≡ Some o → object_of_path n text ≡ Some (new o)
path_kept new m n same model text o h = parts_kept new m n same model (parts_of text) o h
