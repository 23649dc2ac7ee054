-- All links, put in one by one, make the references that they say.
use Rattle.std.proofs.Common.{◌≡◌, List, [], ◌∷◌, ◌++◌, map, refl, sym, ap, ◌∙◌, append_assoc}
use Rattle.std.specs.Prelude.{Bool, true, false, ◌==◌, ◌&&◌, ◌||◌, not, filter, Option, Some, None, if◌then◌else◌}
use Rattle.std.specs.List.{list_any}
use Rattle.std.specs.Option.{option_map_or}
use Rattle.std.proofs.lemmas.Bool.{eqb-true, and_parts, false≢true}
use Rattle.std.proofs.lemmas.List.{append-nil}
use Rattle.std.proofs.lemmas.List.Elements.{filter-append}
use Rattle.atl_base.specs.declared.numbers.FeatId.{FeatId}
use Rattle.atl_base.specs.declared.numbers.ObjId.{ObjId}
use Rattle.ecore_meta.specs.declared.parts.Parts.{Parts}
use Rattle.model_store.specs.Contents.{contains, is_contained_by, opposite, refers}
use Rattle.xmi_models.specs.Outline.{Entry}
use Rattle.xmi_models.specs.Faults.{objects}
use Rattle.model_store.specs.declared.parts.Cellv.{Cellv}
use Rattle.model_store.specs.declared.parts.Cellv.TheVariants.{Obj}
use Rattle.xmi_links.specs.References.{Link, drafted_slot, link, roots_from}
use Rattle.xmi_links.specs.ModelOf.{container_by, distinct, is_of, is_to, joined, joined_slot, referred}
use Rattle.xmi_links.specs.Stages.{IsCross, Referred, all_back, all_named, back_by, named_by, nothing, slot_with, stage, with_link}
use Rattle.xmi_links.proofs.Built.{same_feature}
use Rattle.xmi_links.proofs.Building.{no, same_built}
use Rattle.xmi_links.proofs.Crossing.{eqb_sym}

-- ## Each once

abbrev is_in : ObjId → List ObjId → Bool
is_in o os = list_any (λ q. q.0 == o.0) os

abbrev other : ObjId → ObjId → Bool
other o p = not (p.0 == o.0)

in_filter : (o p : ObjId) (os : List ObjId) → (o.0 == p.0) ≡ false → is_in p (filter (other o) os) ≡ is_in p os
in_filter o p [] h = refl
in_filter o p (q ∷ qs) h = by (q.0 == o.0) refl (in_filter o p qs h)
  where
    by : (b : Bool) → (q.0 == o.0) ≡ b → is_in p (filter (other o) qs) ≡ is_in p qs → is_in p (if not b then q ∷ filter (other o) qs else filter (other o) qs) ≡ ((q.0 == p.0) || is_in p qs)
    by true e r = r ∙ ap (λ b. b || is_in p qs) (sym (ap (λ n. n == p.0) (eqb-true q.0 o.0 e) ∙ h))
    by false e r = ap (λ b. (q.0 == p.0) || b) r

distinct_more : (os : List ObjId) (p : ObjId) → distinct (os ++ p ∷ []) ≡ (if is_in p (distinct os) then distinct os else distinct os ++ p ∷ [])
distinct_more [] p = refl
distinct_more (o ∷ os) p = ap (λ l. o ∷ filter (other o) l) (distinct_more os p) ∙ by (o.0 == p.0) refl (is_in p (distinct os)) refl
  where
    kept : (b : Bool) → (o.0 == p.0) ≡ b → filter (other o) (distinct os ++ p ∷ []) ≡ (if b then filter (other o) (distinct os) else filter (other o) (distinct os) ++ p ∷ [])
    kept b e = filter-append (other o) (distinct os) (p ∷ []) ∙ on b (eqb_sym p.0 o.0 ∙ e)
      where
        on : (b : Bool) → (p.0 == o.0) ≡ b → filter (other o) (distinct os) ++ filter (other o) (p ∷ []) ≡ (if b then filter (other o) (distinct os) else filter (other o) (distinct os) ++ p ∷ [])
        on true e = ap (λ b. filter (other o) (distinct os) ++ (if not b then p ∷ [] else [])) e ∙ append-nil (filter (other o) (distinct os))
        on false e = ap (λ b. filter (other o) (distinct os) ++ (if not b then p ∷ [] else [])) e

    by : (b : Bool) → (o.0 == p.0) ≡ b → (d : Bool) → is_in p (distinct os) ≡ d
        → o ∷ filter (other o) (if d then distinct os else distinct os ++ p ∷ []) ≡ (if (o.0 == p.0) || is_in p (filter (other o) (distinct os)) then distinct (o ∷ os) else distinct (o ∷ os) ++ p ∷ [])
    by true e true h = ap (λ b. if b || is_in p (filter (other o) (distinct os)) then distinct (o ∷ os) else distinct (o ∷ os) ++ p ∷ []) (sym e)
    by true e false h =
        ap (λ l. o ∷ l) (kept true e)
        ∙ ap (λ b. if b || is_in p (filter (other o) (distinct os)) then distinct (o ∷ os) else distinct (o ∷ os) ++ p ∷ []) (sym e)
    by false e true h =
        ap (λ b. if b then distinct (o ∷ os) else distinct (o ∷ os) ++ p ∷ []) (sym (ap (λ b. b || is_in p (filter (other o) (distinct os))) e ∙ in_filter o p (distinct os) e ∙ h))
    by false e false h =
        ap (λ l. o ∷ l) (kept false e)
        ∙ ap (λ b. if b then distinct (o ∷ os) else distinct (o ∷ os) ++ p ∷ []) (sym (ap (λ b. b || is_in p (filter (other o) (distinct os))) e ∙ in_filter o p (distinct os) e ∙ h))

-- ## Links one by one

module _ (meta : Parts) (o : ObjId) (f : FeatId) (cross : IsCross meta f) where
  abbrev named_of : List Link → List ObjId
  named_of ls = map (λ l. l.to) (filter (is_of o f) ls)

  abbrev back_of : List Link → List ObjId
  back_of ls = map (λ l. l.from) (filter (is_to meta o f) ls)

  -- a list of objects more
  abbrev and_then : Bool → ObjId → List ObjId
  and_then b p = if b then p ∷ [] else []

  with_one : (l : Link) (R : Referred) (xs : List ObjId) → R o f ≡ distinct xs → with_link l R o f ≡ distinct (xs ++ and_then (is_of o f l) l.to)
  with_one l R xs h = by (is_of o f l)
    where
      by : (b : Bool) → (if b then (if list_any (λ q. q.0 == l.to.0) (R o f) then R o f else R o f ++ l.to ∷ []) else R o f) ≡ distinct (xs ++ and_then b l.to)
      by true = ap (λ r. if list_any (λ q. q.0 == l.to.0) r then r else r ++ l.to ∷ []) h ∙ sym (distinct_more xs l.to)
      by false = h ∙ ap distinct (sym (append-nil xs))

  unchanged : (R : Referred) (xs : List ObjId) (b : Bool) (p : ObjId) → b ≡ false → R o f ≡ distinct xs → R o f ≡ distinct (xs ++ and_then b p)
  unchanged R xs b p e h = h ∙ ap distinct (sym (ap (λ b. xs ++ and_then b p) e ∙ append-nil xs))

  named_one : (l : Link) (R : Referred) (xs : List ObjId) → R o f ≡ distinct xs → named_by meta l R o f ≡ distinct (xs ++ and_then (is_of o f l) l.to)
  named_one l R xs h = by (is_contained_by meta l.by) refl
    where
      apart : (b : Bool) → is_of o f l ≡ b → is_contained_by meta l.by ≡ true → b ≡ false
      apart true e c = absurd (false≢true (sym cross.0 ∙ ap (is_contained_by meta) (sym (same_feature l.by f (eqb-true l.by.0 f.0 (and_parts (l.from.0 == o.0) (l.by.0 == f.0) e).1))) ∙ c))
      apart false e c = refl

      by : (b : Bool) → is_contained_by meta l.by ≡ b → (let S : Referred = if b then R else with_link l R in S o f) ≡ distinct (xs ++ and_then (is_of o f l) l.to)
      by true c = unchanged R xs (is_of o f l) l.to (apart (is_of o f l) refl c) h
      by false c = with_one l R xs h

  back_one : (l : Link) (R : Referred) (xs : List ObjId) → R o f ≡ distinct xs → back_by meta l R o f ≡ distinct (xs ++ and_then (is_to meta o f l) l.from)
  back_one l R xs h = by (opposite meta l.by)
    where
      none : (b : Bool) → (b && false) ≡ false
      none true = refl
      none false = refl

      on : (g : FeatId) (b : Bool) → contains meta g ≡ b → (let S : Referred = if b then R else with_link (link l.to g l.from) R in S o f) ≡ distinct (xs ++ and_then (l.to.0 == o.0 && g.0 == f.0) l.from)
      on g true c = unchanged R xs (l.to.0 == o.0 && g.0 == f.0) l.from (apart (l.to.0 == o.0 && g.0 == f.0) refl) h
        where
          apart : (b : Bool) → (l.to.0 == o.0 && g.0 == f.0) ≡ b → b ≡ false
          apart true e = absurd (false≢true (sym cross.2 ∙ ap (contains meta) (sym (same_feature g f (eqb-true g.0 f.0 (and_parts (l.to.0 == o.0) (g.0 == f.0) e).1))) ∙ c))
          apart false e = refl
      on g false c = with_one (link l.to g l.from) R xs h

      by : (g : Option FeatId) → (let S : Referred = option_map_or (λ g. if contains meta g then R else with_link (link l.to g l.from) R) g R in S o f)
          ≡ distinct (xs ++ and_then (l.to.0 == o.0 && option_map_or (λ g. g.0 == f.0) g false) l.from)
      by None = unchanged R xs (l.to.0 == o.0 && false) l.from (none (l.to.0 == o.0)) h
      by (Some g) = on g (contains meta g) refl

  one_of : (p : Link → Bool) (get : Link → ObjId) (l : Link) (ls : List Link) (xs : List ObjId) → (xs ++ and_then (p l) (get l)) ++ map get (filter p ls) ≡ xs ++ map get (filter p (l ∷ ls))
  one_of p get l ls xs = append_assoc xs (and_then (p l) (get l)) (map get (filter p ls)) ∙ ap (λ k. xs ++ k) (by (p l))
    where
      by : (b : Bool) → and_then b (get l) ++ map get (filter p ls) ≡ map get (if b then l ∷ filter p ls else filter p ls)
      by true = refl
      by false = refl

  all_named_is : (ls : List Link) (R : Referred) (xs : List ObjId) → R o f ≡ distinct xs → all_named meta ls R o f ≡ distinct (xs ++ named_of ls)
  all_named_is [] R xs h = h ∙ ap distinct (sym (append-nil xs))
  all_named_is (l ∷ ls) R xs h =
      all_named_is ls (named_by meta l R) (xs ++ and_then (is_of o f l) l.to) (named_one l R xs h)
      ∙ ap distinct (one_of (is_of o f) (λ l. l.to) l ls xs)

  all_back_is : (ls : List Link) (R : Referred) (xs : List ObjId) → R o f ≡ distinct xs → all_back meta ls R o f ≡ distinct (xs ++ back_of ls)
  all_back_is [] R xs h = h ∙ ap distinct (sym (append-nil xs))
  all_back_is (l ∷ ls) R xs h =
      all_back_is ls (back_by meta l R) (xs ++ and_then (is_to meta o f l) l.from) (back_one l R xs h)
      ∙ ap distinct (one_of (is_to meta o f) (λ l. l.from) l ls xs)

  pub referred_is : (ls : List Link) → all_back meta ls (all_named meta ls nothing) o f ≡ referred meta ls o f
  referred_is ls = all_back_is ls (all_named meta ls nothing) (named_of ls) (all_named_is ls nothing [] refl)

-- ## All slots

module _ (meta : Parts) (file : List Entry) (ls : List Link) where
  abbrev all : Referred
  all = all_back meta ls (all_named meta ls nothing)

  abbrev slot_by : Bool → Bool → Bool → (List ObjId) → ObjId → Entry → FeatId → List Cellv
  slot_by c r h os o e f = if c then map Obj (container_by meta f e.part) else if r && not h then map Obj os else drafted_slot meta file o e f

  slot_is : (o : ObjId) (e : Entry) (f : FeatId) (c r h : Bool) → is_contained_by meta f ≡ c → refers meta f ≡ r → contains meta f ≡ h → slot_by c r h (all o f) o e f ≡ slot_by c r h (referred meta ls o f) o e f
  slot_is o e f true r h x y z = refl
  slot_is o e f false true false x y z = ap (map Obj) (referred_is meta o f (x, y, z) ls)
  slot_is o e f false true true x y z = refl
  slot_is o e f false false h x y z = refl

  pub joined_is : stage meta file all ≡ joined meta file ls
  joined_is = same_built meta (slot_with meta file all) (joined_slot meta file ls) (objects file) (roots_from 0 (objects file))
      (λ i e there f. slot_is (no i) e f (is_contained_by meta f) (refers meta f) (contains meta f) refl refl refl)
