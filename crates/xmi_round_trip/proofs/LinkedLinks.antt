-- What the attributes of a written object say as references: of each reference that is written as an attribute, its slot.
use Rattle.std.proofs.Common.{◌≡◌, ◌<◌, ◌^◌, List, [], ◌∷◌, length, map, refl, sym, ap, ◌∙◌, Option, Some}
use Rattle.std.specs.Prelude.{◌&&◌, ◌||◌, not, Bool, true, false, IsSome, if◌then◌else◌}
use Rattle.std.proofs.lemmas.Bool.{and_parts, true≢false}
use Rattle.atl_base.specs.declared.numbers.FeatId.{FeatId}
use Rattle.atl_base.specs.declared.numbers.ObjId.{ObjId}
use Rattle.ecore_meta.specs.declared.parts.Parts.{Parts}
use Rattle.model_store.specs.declared.parts.Cellv.{Cellv}
use Rattle.model_store.specs.declared.parts.Object.{Object}
use Rattle.model_store.specs.Contents.{Contents, class_of, contains, is_contained_by, is_many, object_at, objects_of, refers, slot}
use Rattle.model_store.specs.Order.{HasNoCycle}
use Rattle.model_store.specs.Paths.{object_of_path, path}
use Rattle.model_store.specs.Valid.{IsValid}
use Rattle.xmi_links.specs.References.{Link, One, Reference, Token, link}
use Rattle.xmi_write.specs.Values.{are_same, is_attribute, is_untouched, may_be_attribute}
use Rattle.xmi_round_trip.specs.Renumbered.{number}
use Rattle.xmi_round_trip.proofs.Filed.{IsOrdered}
use Rattle.xmi_round_trip.proofs.Defaults.{no_initial}

-- ## References of a model

-- a reference that neither contains nor is contained by
abbrev pub is_cross : Parts → FeatId → Bool
is_cross meta f = refers meta f && not (contains meta f || is_contained_by meta f)

-- a path names the object's number
abbrev pub token_at : Contents → ObjId → Token
token_at m q = record { text = path m q; named = One (number m q) }

-- the reference of a slot, with a token for each of its objects
abbrev pub slot_reference : Contents → ObjId → FeatId → Reference
slot_reference m o f = record { source = number m o; feature = f; tokens = map (token_at m) (objects_of (slot m o f)) }

-- that reference, where the slot is written as an attribute
abbrev pub slot_references : Contents → ObjId → FeatId → List Reference
slot_references m o f = if is_attribute m.meta f (slot m o f) && refers m.meta f then slot_reference m o f ∷ [] else []

-- the links of a slot whose feature is so, from its object to those that stand in it
abbrev pub slot_links : Contents → ObjId → FeatId → List Link
slot_links m o f = if is_cross m.meta f then map (λ q. link (number m o) f (number m q)) (objects_of (slot m o f)) else []

-- ## What is written as an attribute

-- a reference that is so neither contains nor is contained by
pub record IsCrossing (meta : Parts) (f : FeatId) : Type 0 where
  pub refers_it : refers meta f ≡ true
  pub contains_not : contains meta f ≡ false
  pub contained_not : is_contained_by meta f ≡ false

-- of such a feature the test is true
pub crosses : (meta : Parts) (f : FeatId) → IsCrossing meta f → is_cross meta f ≡ true
crosses meta f c = ap (λ b. b && not (contains meta f || is_contained_by meta f)) c.refers_it ∙ ap (λ b. not (b || is_contained_by meta f)) c.contains_not ∙ ap not c.contained_not

-- and of no other
pub crossing : (meta : Parts) (f : FeatId) → is_cross meta f ≡ true → IsCrossing meta f
crossing meta f h =
    let p = and_parts (refers meta f) (not (contains meta f || is_contained_by meta f)) h in
    let q = neither (contains meta f) (is_contained_by meta f) p.1 in
    record { refers_it = p.0; contains_not = q.0; contained_not = q.1 }
  where
    neither : (a b : Bool) → not (a || b) ≡ true → (a ≡ false) × (b ≡ false)
    neither true true e = absurd (true≢false (sym e))
    neither true false e = absurd (true≢false (sym e))
    neither false true e = absurd (true≢false (sym e))
    neither false false e = (refl, refl)

-- a reference may be an attribute exactly where it is such a one
pub may_cross : (meta : Parts) (f : FeatId) → refers meta f ≡ true → may_be_attribute meta f ≡ is_cross meta f
may_cross meta f r =
    ap (λ b. if b then not (contains meta f || is_contained_by meta f) else not (is_many meta f)) r
    ∙ sym (ap (λ b. b && not (contains meta f || is_contained_by meta f)) r)

-- so each reference that is written as an attribute is one
pub written_crosses : (meta : Parts) (f : FeatId) (cells : List Cellv) → is_attribute meta f cells ≡ true → refers meta f ≡ true → IsCrossing meta f
written_crosses meta f cells h r = crossing meta f (sym (may_cross meta f r) ∙ (and_parts (may_be_attribute meta f) (not (is_untouched meta f cells)) h).0)

-- one that is not written so, though it might, is empty
pub unwritten_empty : (meta : Parts) (f : FeatId) (cells : List Cellv) → is_attribute meta f cells ≡ false → is_cross meta f ≡ true → cells ≡ []
unwritten_empty meta f cells h c =
    let r = (crossing meta f c).refers_it in
    same cells (untouched (may_be_attribute meta f) (are_same cells []) (may_cross meta f r ∙ c) (ap (λ l. may_be_attribute meta f && not (are_same cells l)) (sym (no_initial meta f r)) ∙ h))
  where
    untouched : (a b : Bool) → a ≡ true → (a && not b) ≡ false → b ≡ true
    untouched true true e i = refl
    untouched true false e i = absurd (true≢false i)
    untouched false b e i = absurd (true≢false (sym e))

    same : (cells : List Cellv) → are_same cells [] ≡ true → cells ≡ []
    same [] e = refl
    same (v ∷ cells) e = absurd (true≢false (sym e))

-- ## What is known

-- a model without a cycle, and objects and roots among which paths lead to the numbers of its objects
pub record IsFollowed (m : Contents) (there : List (Option Object)) (tops : List ObjId) : Type 0 where
  pub valid : IsValid m
  pub acyclic : HasNoCycle m
  pub few : length m.objects < 2 ^ 32
  pub known : IsOrdered m
  pub paths : (o : ObjId) → IsSome (object_at m.objects o) → object_of_path (record { meta = m.meta; objects = there; roots = tops }) (path m o) ≡ Some (number m o)
  pub classes : (o : ObjId) → IsSome (object_at m.objects o) → class_of (record { meta = m.meta; objects = there; roots = tops }) (number m o) ≡ class_of m o
