-- What a fragment names is an object.
use Rattle.std.proofs.Common.{◌≡◌, ℕ, Bool, true, false, List, [], ◌∷◌, ap, subst, Option, Some, None}
use Rattle.std.specs.Prelude.{◌==◌, slice_get, is_some, Contains, IsSome, if◌then◌else◌}
use Rattle.std.specs.List.{list_any, before_first, after_first}
use Rattle.std.specs.Option.{option_and_then}
use Rattle.std.proofs.lemmas.Option.{none-some, same_Some, option_and_then_some, slice_get_within, get_or_from_slice_get}
use Rattle.atl_base.specs.declared.numbers.ClassId.{ClassId}
use Rattle.atl_base.specs.declared.numbers.FeatId.{FeatId}
use Rattle.atl_base.specs.declared.numbers.ObjId.{ObjId}
use Rattle.ecore_meta.specs.Valid.{number_of}
use Rattle.model_store.specs.declared.parts.Cellv.{Cellv}
use Rattle.model_store.specs.declared.parts.Cellv.TheVariants.{Words, Int, Truth, Literal, Obj}
use Rattle.model_store.specs.Contents.{Contents, object_at, class_of, is_many, slot, first_object}
use Rattle.model_store.specs.Valid.{IsModel, Refers}
use Rattle.model_store.specs.Paths.{are_digits, at_number, root_named, content_feature, object_in, content_at, many_content, single_content, is_dot, content_in_class, content_named, descend, at_parts, parts_of, object_of_path}
use Rattle.model_store.proofs.Created.{referred_to}
use Rattle.model_store.proofs.Thinned.{Contains_first, Contains_later}

module _ {X : Type 0} (xs : List X) (digits : List ℕ) (x : X) where
  numbered_in : at_number xs digits ≡ Some x → Contains xs x
  numbered_in h = on (are_digits digits) h
    where
      on : (b : Bool) → (if b then slice_get xs (number_of digits) else None) ≡ Some x → Contains xs x
      on true e = (number_of digits, slice_get_within xs (number_of digits) x e, get_or_from_slice_get xs (number_of digits) x x e)
      on false e = absurd (none-some x e)

is_the_object : (v : Cellv) (q : ObjId) → object_in v ≡ Some q → v ≡ Obj q
is_the_object (Obj p) q e = ap Obj (same_Some p q e)
is_the_object (Words t) q e = absurd (none-some q e)
is_the_object (Int n) q e = absurd (none-some q e)
is_the_object (Truth b) q e = absurd (none-some q e)
is_the_object (Literal l) q e = absurd (none-some q e)

first_in : (cells : List Cellv) (q : ObjId) → first_object cells ≡ Some q → Contains cells (Obj q)
first_in [] q e = absurd (none-some q e)
first_in (Obj p ∷ cells) q e = subst (λ o. Contains (Obj p ∷ cells) (Obj o)) (same_Some p q e) (Contains_first (Obj p) cells)
first_in (Words t ∷ cells) q e = Contains_later (Words t) (Obj q) cells (first_in cells q e)
first_in (Int n ∷ cells) q e = Contains_later (Int n) (Obj q) cells (first_in cells q e)
first_in (Truth b ∷ cells) q e = Contains_later (Truth b) (Obj q) cells (first_in cells q e)
first_in (Literal l ∷ cells) q e = Contains_later (Literal l) (Obj q) cells (first_in cells q e)

module _ (m : Contents) (o q : ObjId) where
  -- a step leads to what one of the slots refers to
  abbrev IsReferred : Type 0
  IsReferred = (f : FeatId) × Refers m o f q

  by_many : (digits : List ℕ) (f : FeatId) → many_content m o digits f ≡ Some q → IsReferred
  by_many digits f h = on (is_many m.meta f) h
    where
      on : (b : Bool) → (if b then content_at (slot m o f) digits else None) ≡ Some q → IsReferred
      on true e = option_and_then_some object_in (at_number (slot m o f) digits) q e (λ v at is. (f, subst (Contains (slot m o f)) (is_the_object v q is) (numbered_in (slot m o f) digits v at)))
      on false e = absurd (none-some q e)

  by_single : (f : FeatId) → single_content m o f ≡ Some q → IsReferred
  by_single f h = on (is_many m.meta f) h
    where
      on : (b : Bool) → (if b then None else first_object (slot m o f)) ≡ Some q → IsReferred
      on true e = absurd (none-some q e)
      on false e = (f, first_in (slot m o f) q e)

  by_class : (text : List ℕ) (class : ClassId) → content_in_class m o text class ≡ Some q → IsReferred
  by_class text class h = on (list_any is_dot text) h
    where
      on : (b : Bool) → (if b then option_and_then (many_content m o (after_first is_dot text)) (content_feature m.meta class (before_first is_dot text)) else option_and_then (single_content m o) (content_feature m.meta class text)) ≡ Some q → IsReferred
      on true e = option_and_then_some (many_content m o (after_first is_dot text)) (content_feature m.meta class (before_first is_dot text)) q e (λ f at is. by_many (after_first is_dot text) f is)
      on false e = option_and_then_some (single_content m o) (content_feature m.meta class text) q e (λ f at is. by_single f is)

  by_step : (part : List ℕ) → content_named m o part ≡ Some q → IsReferred
  by_step [] h = absurd (none-some q h)
  by_step (b ∷ text) h = on (b == 64) h
    where
      on : (at : Bool) → (if at then option_and_then (content_in_class m o text) (class_of m o) else None) ≡ Some q → IsReferred
      on true e = option_and_then_some (content_in_class m o text) (class_of m o) q e (λ class at is. by_class text class is)
      on false e = absurd (none-some q e)

module _ (m : Contents) (model : IsModel m) where
  there_below : (x : Option ObjId) (parts : List (List ℕ)) (p : ObjId) → ((q : ObjId) → x ≡ Some q → IsSome (object_at m.objects q)) → descend m x parts ≡ Some p → IsSome (object_at m.objects p)
  there_below None parts p h e = absurd (none-some p e)
  there_below (Some o) [] p h e = h p e
  there_below (Some o) (part ∷ parts) p h e =
      there_below (content_named m o part) parts p (λ q k. let r = by_step m o q part k in let y = referred_to m model o r.0 q r.1 in ap is_some y.1) e

  root_in : (roots : List ObjId) (digits : List ℕ) (q : ObjId) → root_named roots digits ≡ Some q → Contains roots q
  root_in [] digits q e = numbered_in [] digits q e
  root_in (o ∷ []) [] q e = subst (Contains (o ∷ [])) (same_Some o q e) (Contains_first o [])
  root_in (o ∷ []) (b ∷ bs) q e = numbered_in (o ∷ []) (b ∷ bs) q e
  root_in (o ∷ p ∷ roots) digits q e = numbered_in (o ∷ p ∷ roots) digits q e

  there_in_parts : (parts : List (List ℕ)) (p : ObjId) → at_parts m parts ≡ Some p → IsSome (object_at m.objects p)
  there_in_parts [] p e = absurd (none-some p e)
  there_in_parts ([] ∷ []) p e = absurd (none-some p e)
  there_in_parts ([] ∷ (root ∷ parts)) p e = there_below (root_named m.roots root) parts p (λ q k. ((model.roots q).0 (root_in m.roots root q k)).0) e
  there_in_parts ((b ∷ bs) ∷ parts) p e = absurd (none-some p e)

  pub named_there : (text : List ℕ) (p : ObjId) → object_of_path m text ≡ Some p → IsSome (object_at m.objects p)
  named_there text p h = there_in_parts (parts_of text) p h
