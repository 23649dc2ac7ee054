-- References that neither contain nor are contained by: links put into their slots one by one.
use Rattle.std.proofs.Common.{◌≡◌, ℕ, List, [], ◌∷◌, ◌++◌, map, refl, sym, ap, subst, ◌∙◌}
use Rattle.std.specs.Prelude.{Bool, true, false, ◌==◌, ◌&&◌, ◌||◌, not, Some, if◌then◌else◌}
use Rattle.std.specs.List.{list_any}
use Rattle.std.specs.Option.{option_map_or}
use Rattle.std.proofs.lemmas.Bool.{eqb-true, eqb-false, eq-eqb, ne_eqb, and_parts, false≢true}
use Rattle.std.proofs.lemmas.List.{map-append}
use Rattle.std.proofs.lemmas.List.Folds.{list_any-append}
use Rattle.atl_base.specs.declared.numbers.FeatId.{FeatId}
use Rattle.atl_base.specs.declared.numbers.ObjId.{ObjId}
use Rattle.ecore_meta.specs.declared.parts.Parts.{Parts}
use Rattle.ecore_meta.specs.Valid.{IsMetamodel, is_containment}
use Rattle.model_store.specs.declared.parts.Cellv.TheVariants.{Obj}
use Rattle.model_store.specs.Contents.{Contents, contains, is_contained_by, opposite, refers}
use Rattle.model_store.specs.Sketches.{with_value}
use Rattle.model_store.proofs.Wired.{back_of, opposite_back, opposite_refers}
use Rattle.xmi_models.specs.Outline.{Entry}
use Rattle.xmi_models.specs.Faults.{objects}
use Rattle.xmi_links.specs.declared.joined.Pairs.{Pairs}
use Rattle.xmi_links.specs.References.{Link, drafted_slot, link, roots_from}
use Rattle.xmi_links.specs.ModelOf.{container_by, is_of}
use Rattle.xmi_links.specs.Stages.{ArePairs, IsCross, IsReached, IsReference, Referred, has_pair, slot_with, stage, with_link}
use Rattle.xmi_links.proofs.Apart.{all_apart}
use Rattle.xmi_links.proofs.Built.{same_feature}
use Rattle.xmi_links.proofs.Building.{no, same_built, value_more}

pub eqb_sym : (a b : ℕ) → (a == b) ≡ (b == a)
eqb_sym a b = by (b == a) refl
  where
    by : (t : Bool) → (b == a) ≡ t → (a == b) ≡ t
    by true e = eq-eqb a b (sym (eqb-true b a e))
    by false e = ne_eqb a b (λ h. eqb-false b a e (sym h))

-- ## Opposites in a metamodel

module _ (meta : Parts) (valid : IsMetamodel meta) (f g : FeatId) (names : opposite meta f ≡ Some g) where
  pub contained_is : is_contained_by meta f ≡ contains meta g
  contained_is = ap (λ o. option_map_or (contains meta) o false) names

  pub back_contained : is_contained_by meta g ≡ contains meta f
  back_contained = ap (λ o. option_map_or (contains meta) o false) (opposite_back meta valid f g names)

  -- not both contain
  pub one_contains : contains meta g ≡ true → contains meta f ≡ false
  one_contains h =
      let b = back_of meta valid f g names in
      let mine : contains meta f ≡ is_containment b.feature.kind = ap (λ x. option_map_or (λ feature. is_containment feature.kind) x false) b.here in
      let other : contains meta g ≡ is_containment b.other.kind = ap (λ x. option_map_or (λ feature. is_containment feature.kind) x false) b.there in
      mine ∙ by (is_containment b.feature.kind) (is_containment b.other.kind) (sym other ∙ h) b.fit.one_contains
    where
      by : (x y : Bool) → y ≡ true → (x && y) ≡ false → x ≡ false
      by true true h e = e
      by true false h e = absurd (false≢true h)
      by false y h e = refl

  -- the other end of a reference that doesn't contain
  pub turned_cross : IsReference meta (link (no 0) f (no 0)) → contains meta g ≡ false → IsCross meta g
  turned_cross r h = (back_contained ∙ r.1, opposite_refers meta valid f g names, h)

module _ (meta : Parts) (file : List Entry) where
  -- ## Slots by references

  pub with_same : (R S : Referred) (o : ObjId) (e : Entry) (f : FeatId) → R o f ≡ S o f → slot_with meta file R o e f ≡ slot_with meta file S o e f
  with_same R S o e f h = ap (λ l. if is_contained_by meta f then map Obj (container_by meta f e.part) else if refers meta f && not (contains meta f) then map Obj l else drafted_slot meta file o e f) h

  pub slot_cross : (R : Referred) (o : ObjId) (e : Entry) (f : FeatId) → IsCross meta f → slot_with meta file R o e f ≡ map Obj (R o f)
  slot_cross R o e f cross =
      ap (λ b. if b then map Obj (container_by meta f e.part) else if refers meta f && not (contains meta f) then map Obj (R o f) else drafted_slot meta file o e f) cross.0
      ∙ ap (λ b. if b && not (contains meta f) then map Obj (R o f) else drafted_slot meta file o e f) cross.1
      ∙ ap (λ b. if not b then map Obj (R o f) else drafted_slot meta file o e f) cross.2

  pub stage_same : (R S : Referred) → ((o : ObjId) (f : FeatId) → R o f ≡ S o f) → stage meta file R ≡ stage meta file S
  stage_same R S h = same_built meta (slot_with meta file R) (slot_with meta file S) (objects file) (roots_from 0 (objects file)) (λ i e there g. with_same R S (no i) e g (h (no i) g))

  -- ## One link more

  module _ (l : Link) (R : Referred) where
    at_link : (o : ObjId) (f : FeatId) → is_of o f l ≡ true → R l.from l.by ≡ R o f
    at_link o f e =
        let parts = and_parts (l.from.0 == o.0) (l.by.0 == f.0) e in
        ap (λ n. R (record { 0 = n }) l.by) (eqb-true l.from.0 o.0 parts.0) ∙ ap (λ n. R o (record { 0 = n })) (eqb-true l.by.0 f.0 parts.1)

    -- there already
    there_already : list_any (λ q. q.0 == l.to.0) (R l.from l.by) ≡ true → (o : ObjId) (f : FeatId) → R o f ≡ with_link l R o f
    there_already h o f = by (is_of o f l) refl
      where
        by : (b : Bool) → is_of o f l ≡ b → R o f ≡ (if b then (if list_any (λ q. q.0 == l.to.0) (R o f) then R o f else R o f ++ l.to ∷ []) else R o f)
        by true e = ap (λ b. if b then R o f else R o f ++ l.to ∷ []) (sym (ap (list_any (λ q. q.0 == l.to.0)) (sym (at_link o f e)) ∙ h))
        by false e = refl

    pub known_stays : (sketch : Contents) (pairs : Pairs) → has_pair pairs l.from.0 l.by.0 l.to.0 ≡ true → IsCross meta l.by → IsReached meta file R sketch pairs → IsReached meta file (with_link l R) sketch pairs
    known_stays sketch pairs h cross at =
        let there = there_already (sym (at.known l.from l.by l.to.0 cross) ∙ h) in
        record {
          reached = at.reached ∙ stage_same R (with_link l R) there;
          known = λ o f p c. at.known o f p c ∙ ap (list_any (λ q. q.0 == p)) (there o f);
        }

    -- new
    module _ (cross : IsCross meta l.by) (none : list_any (λ q. q.0 == l.to.0) (R l.from l.by) ≡ false) where
      new_at : (o : ObjId) (f : FeatId) → is_of o f l ≡ true → with_link l R o f ≡ R o f ++ l.to ∷ []
      new_at o f e =
          ap (λ b. if b then (if list_any (λ q. q.0 == l.to.0) (R o f) then R o f else R o f ++ l.to ∷ []) else R o f) e
          ∙ ap (λ b. if b then R o f else R o f ++ l.to ∷ []) (ap (list_any (λ q. q.0 == l.to.0)) (sym (at_link o f e)) ∙ none)

      new_apart : (o : ObjId) (f : FeatId) → is_of o f l ≡ false → with_link l R o f ≡ R o f
      new_apart o f e = ap (λ b. if b then (if list_any (λ q. q.0 == l.to.0) (R o f) then R o f else R o f ++ l.to ∷ []) else R o f) e

      cross_at : (f : FeatId) → (l.by.0 == f.0) ≡ true → IsCross meta f
      cross_at f e = subst (IsCross meta) (same_feature l.by f (eqb-true l.by.0 f.0 e)) cross

      new_slot : (i : ℕ) (e : Entry) (g : FeatId)
          → slot_with meta file (with_link l R) (no i) e g ≡ (if i == l.from.0 && g.0 == l.by.0 then slot_with meta file R (no i) e g ++ Obj l.to ∷ [] else slot_with meta file R (no i) e g)
      new_slot i e g =
          by (is_of (no i) g l) refl
          ∙ ap (λ b. if b && l.by.0 == g.0 then slot_with meta file R (no i) e g ++ Obj l.to ∷ [] else slot_with meta file R (no i) e g) (eqb_sym l.from.0 i)
          ∙ ap (λ b. if i == l.from.0 && b then slot_with meta file R (no i) e g ++ Obj l.to ∷ [] else slot_with meta file R (no i) e g) (eqb_sym l.by.0 g.0)
        where
          by : (b : Bool) → is_of (no i) g l ≡ b → slot_with meta file (with_link l R) (no i) e g ≡ (if is_of (no i) g l then slot_with meta file R (no i) e g ++ Obj l.to ∷ [] else slot_with meta file R (no i) e g)
          by true h =
              let c = cross_at g (and_parts (l.from.0 == i) (l.by.0 == g.0) h).1 in
              slot_cross (with_link l R) (no i) e g c ∙ ap (map Obj) (new_at (no i) g h) ∙ map-append Obj (R (no i) g) (l.to ∷ [])
              ∙ ap (λ cells. cells ++ Obj l.to ∷ []) (sym (slot_cross R (no i) e g c))
              ∙ ap (λ b. if b then slot_with meta file R (no i) e g ++ Obj l.to ∷ [] else slot_with meta file R (no i) e g) (sym h)
          by false h =
              with_same (with_link l R) R (no i) e g (new_apart (no i) g h)
              ∙ ap (λ b. if b then slot_with meta file R (no i) e g ++ Obj l.to ∷ [] else slot_with meta file R (no i) e g) (sym h)

      new_stage : IsMetamodel meta → with_value l.from l.by (Obj l.to) (stage meta file R) ≡ stage meta file (with_link l R)
      new_stage valid = value_more meta (all_apart meta valid) l.by (Obj l.to) (slot_with meta file R) (slot_with meta file (with_link l R)) l.from (objects file) (roots_from 0 (objects file)) (λ i e there g. new_slot i e g)

      new_pairs : (old new : Pairs) → ArePairs meta R old
          → ((o f p : ℕ) → has_pair new o f p ≡ (if l.from.0 == o && l.by.0 == f && l.to.0 == p then true else has_pair old o f p)) → ArePairs meta (with_link l R) new
      new_pairs old new known put o f p c = put o.0 f.0 p ∙ by (is_of o f l) refl
        where
          by : (b : Bool) → is_of o f l ≡ b → (if is_of o f l && l.to.0 == p then true else has_pair old o.0 f.0 p) ≡ list_any (λ q. q.0 == p) (with_link l R o f)
          by true h =
              ap (λ b. if b && l.to.0 == p then true else has_pair old o.0 f.0 p) h
              ∙ ap (λ b. if l.to.0 == p then true else b) (known o f p c)
              ∙ or_more (l.to.0 == p) (list_any (λ q. q.0 == p) (R o f))
              ∙ sym (ap (list_any (λ q. q.0 == p)) (new_at o f h) ∙ list_any-append (λ q. q.0 == p) (R o f) (l.to ∷ []))
            where
              or_more : (a b : Bool) → (if a then true else b) ≡ (b || (a || false))
              or_more true true = refl
              or_more true false = refl
              or_more false true = refl
              or_more false false = refl
          by false h = ap (λ b. if b && l.to.0 == p then true else has_pair old o.0 f.0 p) h ∙ known o f p c ∙ ap (list_any (λ q. q.0 == p)) (sym (new_apart o f h))

    pub comes : (old new : Contents) (before after : Pairs) → IsMetamodel meta → IsCross meta l.by → has_pair before l.from.0 l.by.0 l.to.0 ≡ false
        → new ≡ with_value l.from l.by (Obj l.to) old
        → ((o f p : ℕ) → has_pair after o f p ≡ (if l.from.0 == o && l.by.0 == f && l.to.0 == p then true else has_pair before o f p))
        → IsReached meta file R old before → IsReached meta file (with_link l R) new after
    comes old new before after valid cross h is put at =
        let none = sym (at.known l.from l.by l.to.0 cross) ∙ h in
        record {
          reached = is ∙ ap (with_value l.from l.by (Obj l.to)) at.reached ∙ new_stage cross none valid;
          known = new_pairs cross none before after at.known put;
        }
