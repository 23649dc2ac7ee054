-- What the tokens of references name are objects of the file.
use Rattle.std.proofs.Common.{◌≡◌, ℕ, suc, ◌+◌, List, [], ◌∷◌, refl, sym, ap, ◌∙◌, subst, ⊎_elim, arith, Option, Some, None}
use Rattle.std.specs.Prelude.{◌==◌, Bool, true, false, slice_get, Contains, if◌then◌else◌}
use Rattle.std.specs.List.{list_any, before_first, after_first}
use Rattle.std.specs.Option.{option_map_or, option_and_then}
use Rattle.std.proofs.lemmas.Bool.{and_parts}
use Rattle.std.proofs.lemmas.Option.{none-some, same_Some, slice_get_within, get_or_from_slice_get}
use Rattle.atl_base.specs.declared.numbers.ClassId.{ClassId}
use Rattle.atl_base.specs.declared.numbers.FeatId.{FeatId}
use Rattle.atl_base.specs.declared.numbers.ObjId.{ObjId}
use Rattle.ecore_meta.specs.declared.parts.Parts.{Parts}
use Rattle.ecore_meta.specs.Inheritance.{features, name_of}
use Rattle.ecore_meta.specs.Valid.{IsMetamodel, number_of}
use Rattle.model_store.specs.declared.parts.Cellv.{Cellv}
use Rattle.model_store.specs.declared.parts.Cellv.TheVariants.{Words, Int, Truth, Literal, Obj}
use Rattle.model_store.specs.Contents.{Contents, class_of, contains, first_object, is_many, slot}
use Rattle.model_store.specs.Paths.{are_digits, at_number, at_parts, content_at, content_feature, content_in_class, content_named, descend, is_content, is_dot, many_content, object_in, object_of_path, parts_of, root_named, single_content}
use Rattle.model_store.specs.Valid.{Refers}
use Rattle.model_store.proofs.Thinned.{Contains_first, Contains_later, Contains_none, Contains_cases}
use Rattle.std.specs.Str.{bytes_eq}
use Rattle.xmi_models.specs.Outline.{Entry}
use Rattle.xmi_models.specs.Faults.{objects, fault_from}
use Rattle.xmi_text.proofs.Lists.{found_passes}
use Rattle.xmi_links.specs.References.{bearers, bearers_from, bears, by_bearers, by_path, draft, id_in, names, object_named, path_in}
use Rattle.xmi_links.proofs.FaultlessOutline.{AreRegular}
use Rattle.xmi_links.proofs.FaultlessSlots.{IsThere}
use Rattle.xmi_links.proofs.FaultlessObjects.{class_there}
use Rattle.xmi_links.proofs.FaultlessContainers.{draft_content, in_roots}

got : {X : Type 0} (xs : List X) (k : ℕ) (x : X) → slice_get xs k ≡ Some x → Contains xs x
got xs k x h = (k, slice_get_within xs k x h, get_or_from_slice_get xs k x x h)

first_held : (cells : List Cellv) (q : ObjId) → first_object cells ≡ Some q → Contains cells (Obj q)
first_held [] q h = absurd (none-some q h)
first_held (Obj p ∷ cells) q h = subst (λ x. Contains (Obj p ∷ cells) (Obj x)) (same_Some p q h) (Contains_first (Obj p) cells)
first_held (Words t ∷ cells) q h = Contains_later (Words t) (Obj q) cells (first_held cells q h)
first_held (Int n ∷ cells) q h = Contains_later (Int n) (Obj q) cells (first_held cells q h)
first_held (Truth b ∷ cells) q h = Contains_later (Truth b) (Obj q) cells (first_held cells q h)
first_held (Literal l ∷ cells) q h = Contains_later (Literal l) (Obj q) cells (first_held cells q h)

object_is : (v : Cellv) (q : ObjId) → object_in v ≡ Some q → v ≡ Obj q
object_is (Obj p) q h = ap Obj (same_Some p q h)
object_is (Words t) q h = absurd (none-some q h)
object_is (Int n) q h = absurd (none-some q h)
object_is (Truth b) q h = absurd (none-some q h)
object_is (Literal l) q h = absurd (none-some q h)

and_then : {A B : Type 0} (f : A → Option B) (x : Option A) (y : B) → option_and_then f x ≡ Some y → (a : A) × (x ≡ Some a) × (f a ≡ Some y)
and_then f None y h = absurd (none-some y h)
and_then f (Some a) y h = (a, refl, h)

if_some : {X : Type 0} (b : Bool) (x : Option X) (y : X) → (if b then x else None) ≡ Some y → (b ≡ true) × (x ≡ Some y)
if_some true x y h = (refl, h)
if_some false x y h = absurd (none-some y h)

numbered : {X : Type 0} (xs : List X) (digits : List ℕ) (x : X) → at_number xs digits ≡ Some x → Contains xs x
numbered xs digits x h = got xs (number_of digits) x (if_some (are_digits digits) (slice_get xs (number_of digits)) x h).1

module _ (meta : Parts) (file : List Entry) (none : fault_from meta [] file ≡ None) (regular : AreRegular meta [] file) (valid : IsMetamodel meta) where
  -- an object of the file
  abbrev pub IsOne : ObjId → Type 0
  IsOne p = (c : ClassId) × IsThere meta file p c

  abbrev m : Contents
  m = draft meta file

  one_at : (n : ℕ) (o : ObjId) (e : Entry) → n ≡ o.0 → slice_get (objects file) n ≡ Some e → IsOne o
  one_at n o e i h = let x = class_there meta file none regular o e (ap (λ k. slice_get (objects file) k) (sym i) ∙ h) in (x.0, x.1)

  -- ## By ids

  bearer_one : (id : List ℕ) (n : ℕ) (es : List Entry) (o : ObjId) → Contains (bearers_from m id n es) o → (k : ℕ) × (e : Entry) × (slice_get es k ≡ Some e) × (n + k ≡ o.0)
  bearer_one id n [] o h = absurd (Contains_none o h)
  bearer_one id n (e ∷ es) o h = on (bears m id (record { 0 = n }) e) h (λ g. later (bearer_one id (suc n) es o g))
    where
      later : (k : ℕ) × (x : Entry) × (slice_get es k ≡ Some x) × (suc n + k ≡ o.0) → (k : ℕ) × (x : Entry) × (slice_get (e ∷ es) k ≡ Some x) × (n + k ≡ o.0)
      later x = (suc x.0, x.1, x.2, omega (arith, x.3))

      on : (b : Bool) → Contains (if b then record { 0 = n } ∷ bearers_from m id (suc n) es else bearers_from m id (suc n) es) o → (Contains (bearers_from m id (suc n) es) o → (k : ℕ) × (x : Entry) × (slice_get (e ∷ es) k ≡ Some x) × (n + k ≡ o.0)) → (k : ℕ) × (x : Entry) × (slice_get (e ∷ es) k ≡ Some x) × (n + k ≡ o.0)
      on true h again = ⊎_elim
          (λ (same : record { 0 = n } ≡ o). (0, e, refl, (let z : n + 0 ≡ n = omega arith in z ∙ ap (λ (p : ObjId). p.0) same)))
          again
          (Contains_cases (record { 0 = n }) o (bearers_from m id (suc n) es) h)
      on false h again = again h

  named_by_bearers : (os : List ObjId) (p : ObjId) → object_named (by_bearers os) ≡ Some p → Contains os p
  named_by_bearers [] p h = absurd (none-some p h)
  named_by_bearers (o ∷ []) p h = subst (λ q. Contains (o ∷ []) q) (same_Some o p h) (Contains_first o [])
  named_by_bearers (o ∷ q ∷ os) p h = absurd (none-some p h)

  by_id : (id : List ℕ) (p : ObjId) → object_named (by_bearers (bearers m file id)) ≡ Some p → IsOne p
  by_id id p h =
      let x = bearer_one id 0 (objects file) p (named_by_bearers (bearers m file id) p h) in
      one_at x.0 p x.1 (let z : 0 + x.0 ≡ x.0 = omega arith in sym z ∙ x.3) x.2

  -- ## By paths

  root_one : (o : ObjId) → Contains m.roots o → IsOne o
  root_one o h =
      let x = in_roots meta file none regular valid 0 (objects file) o h in
      one_at x.place o x.entry (let z : 0 + x.place ≡ x.place = omega arith in sym z ∙ x.it) x.there

  root_named_in : (roots : List ObjId) (text : List ℕ) (o : ObjId) → root_named roots text ≡ Some o → Contains roots o
  root_named_in [] text o h = numbered [] text o h
  root_named_in (r ∷ []) [] o h = subst (λ q. Contains (r ∷ []) q) (same_Some r o h) (Contains_first r [])
  root_named_in (r ∷ []) (b ∷ text) o h = numbered (r ∷ []) (b ∷ text) o h
  root_named_in (r ∷ s ∷ roots) text o h = numbered (r ∷ s ∷ roots) text o h

  content_one : (o : ObjId) (f : FeatId) (q : ObjId) → contains meta f ≡ true → Refers m o f q → IsOne q
  content_one o f q c h = let x = draft_content meta file none regular valid o q f c h in one_at q.0 q x.entry refl x.there

  feature_contains : (class : ClassId) (name : List ℕ) (f : FeatId) → content_feature meta class name ≡ Some f → contains meta f ≡ true
  feature_contains class name f h = (and_parts (contains meta f) (bytes_eq (name_of meta.features f) name) (found_passes (is_content meta name) (features meta.classes class) f h)).0

  many_one : (o : ObjId) (digits : List ℕ) (f : FeatId) (q : ObjId) → contains meta f ≡ true → many_content m o digits f ≡ Some q → IsOne q
  many_one o digits f q c h =
      let a = if_some (is_many meta f) (content_at (slot m o f) digits) q h in
      let b = and_then object_in (at_number (slot m o f) digits) q a.1 in
      content_one o f q c (numbered (slot m o f) digits (Obj q) (b.1 ∙ ap Some (object_is b.0 q b.2)))

  single_one : (o : ObjId) (f : FeatId) (q : ObjId) → contains meta f ≡ true → single_content m o f ≡ Some q → IsOne q
  single_one o f q c h = on (is_many meta f) h
    where
      on : (b : Bool) → (if b then None else first_object (slot m o f)) ≡ Some q → IsOne q
      on true h = absurd (none-some q h)
      on false h = content_one o f q c (first_held (slot m o f) q h)

  in_class_one : (o : ObjId) (text : List ℕ) (class : ClassId) (q : ObjId) → content_in_class m o text class ≡ Some q → IsOne q
  in_class_one o text class q h = on (list_any is_dot text) h
    where
      on : (b : Bool) → (if b then option_and_then (many_content m o (after_first is_dot text)) (content_feature meta class (before_first is_dot text)) else option_and_then (single_content m o) (content_feature meta class text)) ≡ Some q → IsOne q
      on true h =
          let x = and_then (many_content m o (after_first is_dot text)) (content_feature meta class (before_first is_dot text)) q h in
          many_one o (after_first is_dot text) x.0 q (feature_contains class (before_first is_dot text) x.0 x.1) x.2
      on false h =
          let x = and_then (single_content m o) (content_feature meta class text) q h in
          single_one o x.0 q (feature_contains class text x.0 x.1) x.2

  step_one : (o : ObjId) (part : List ℕ) (q : ObjId) → content_named m o part ≡ Some q → IsOne q
  step_one o [] q h = absurd (none-some q h)
  step_one o (b ∷ text) q h =
      let x = if_some (b == 64) (option_and_then (content_in_class m o text) (class_of m o)) q h in
      let y = and_then (content_in_class m o text) (class_of m o) q x.1 in
      in_class_one o text y.0 q y.2

  descend_one : (parts : List (List ℕ)) (x : Option ObjId) → ((p : ObjId) → x ≡ Some p → IsOne p) → (p : ObjId) → descend m x parts ≡ Some p → IsOne p
  descend_one parts None g p h = absurd (none-some p h)
  descend_one [] (Some o) g p h = g p h
  descend_one (part ∷ parts) (Some o) g p h = descend_one parts (content_named m o part) (λ q k. step_one o part q k) p h

  parts_one : (parts : List (List ℕ)) (p : ObjId) → at_parts m parts ≡ Some p → IsOne p
  parts_one [] p h = absurd (none-some p h)
  parts_one ([] ∷ []) p h = absurd (none-some p h)
  parts_one ([] ∷ (root ∷ parts)) p h = descend_one parts (root_named m.roots root) (λ o k. root_one o (root_named_in m.roots root o k)) p h
  parts_one ((b ∷ text) ∷ parts) p h = absurd (none-some p h)

  named_by_path : (x : Option ObjId) (p : ObjId) → object_named (by_path x) ≡ Some p → x ≡ Some p
  named_by_path None p h = absurd (none-some p h)
  named_by_path (Some o) p h = h

  pub named_one : (token : List ℕ) (p : ObjId) → object_named (names m (bearers m file) token) ≡ Some p → IsOne p
  named_one token p h = on (path_in token) h
    where
      on : (x : Option (List ℕ)) → object_named (option_map_or (λ path. by_path (object_of_path m path)) x (by_bearers (bearers m file (id_in token)))) ≡ Some p → IsOne p
      on None h = by_id (id_in token) p h
      on (Some path) h = parts_one (parts_of path) p (named_by_path (object_of_path m path) p h)
