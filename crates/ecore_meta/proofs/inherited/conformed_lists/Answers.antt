use Rattle.std.proofs.Common.{◌≡◌, ℕ, ◌<◌, ◌≤◌, List, [], ◌∷◌, take, length, get_or, sym, ap, subst, ◌∙◌, rules, arith}
use Rattle.std.specs.Prelude.{◌↔◌}
use Rattle.std.proofs.lemmas.List.{length-set, take_all}
use Rattle.std.specs.List.{Contains, flat_map}
use Rattle.std.specs.List.Sorted.{IsStrictlyIncreasing}
use Rattle.atl_base.specs.declared.numbers.ClassId.{ClassId}
use Rattle.ecore_meta.specs.Inheritance.{supers_of, Conforms}
use Rattle.ecore_meta.specs.Order.{class_no}
use Rattle.ecore_meta.proofs.Walks.{supers_at}
use Rattle.ecore_meta.proofs.TableLaws.{conformed_is, row_more}
use Rattle.ecore_meta.proofs.inherited.conformed_lists.Goals as goal

pub conformed-requires : goal.conformed-requires
conformed-requires c = λ s m.
    let classes = c.args.classes.now in
    let here : ℕ = get_or c.args.order.now c.loop-class.class-index 0 in
    let within : s.0 < length classes = c.requires.within (class_no here) s
    (subst (λ (l : List ClassId). Contains l s)
    (c.as_slice.ensures ∙ sym (supers_at classes here _ (c.requires.order.within c.loop-class.class-index c.loop-class-test.true))) m) in
    omega (arith, within, c.loop-class.invariant.lengths, ap length c.deref.ensures.value)

pub loop-class-preserved : goal.loop-class-preserved
loop-class-preserved c =
    let i = c.loop-class.invariant in
    let classes = c.args.classes.now in
    let order : List ℕ = c.args.order.now in
    let rows : List (List ℕ) = c.loop-class.lists.items in
    let at : ℕ = c.loop-class.class-index in
    let here : get_or order at 0 < length classes = c.requires.order.within at c.loop-class-test.true in
    let inside : get_or order at 0 < length rows = omega (arith, here, i.lengths) in
    let supers : c.as_slice.result.now ≡ supers_of classes (class_no (get_or order at 0)) = c.as_slice.ensures ∙ sym (supers_at classes (get_or order at 0) _ here) in
    let made : (d : ℕ) → Contains c.in_ok-list.list d ↔ Contains (get_or order at 0 ∷ flat_map (λ s. get_or c.deref.result.now s.0 []) c.as_slice.result.now) d = c.in_ok-list.ensures.each in
    let row : (d : ℕ) → Contains c.in_ok-list.list d ↔ Conforms classes (class_no (get_or order at 0)) (class_no d) = λ d.
    let from_rows = conformed_is classes (λ s. get_or rows s.0 []) (get_or order at 0) d (λ s m. i.each s.0 d (c.requires.order.first at s.0 c.loop-class-test.true m)) in
    let told : Contains c.in_ok-list.list d ↔ Contains (get_or order at 0 ∷ flat_map (λ s. get_or rows s.0 []) (supers_of classes (class_no (get_or order at 0)))) d =
    subst (λ (l : List ClassId). Contains c.in_ok-list.list d ↔ Contains (get_or order at 0 ∷ flat_map (λ s. get_or rows s.0 []) l) d) supers
    (subst (λ (t : List (List ℕ)). Contains c.in_ok-list.list d ↔ Contains (get_or order at 0 ∷ flat_map (λ s. get_or t s.0 []) c.as_slice.result.now) d) c.deref.ensures.value (made d)) in
    (λ m. from_rows.0 (told.0 m), λ h. told.1 (from_rows.1 h)) in
    record {
      lengths = length-set rows (get_or order at 0) c.in_ok-list.list ∙ i.lengths;
      rising = row_more (λ n l. IsStrictlyIncreasing l) rows order at c.in_ok-list.list [] c.loop-class-test.true inside i.rising c.in_ok-list.ensures.rising;
      each = λ n d m. row_more (λ n l. Contains l d ↔ Conforms classes (class_no n) (class_no d)) rows order at c.in_ok-list.list [] c.loop-class-test.true inside (λ k h. i.each k d h) (row d) n m;
    }

pub returns : goal.returns
returns c =
    let i = c.loop-class.invariant in
    let done : length c.args.order.now ≤ c.loop-class.class-index = search rules in
    let in_order : (k : ℕ) → k < length c.args.classes.now → Contains (take c.loop-class.class-index c.args.order.now) k =
    λ k h. subst (λ (l : List ℕ). Contains l k) (sym (take_all c.loop-class.class-index c.args.order.now done)) (c.requires.order.complete k h) in
    record {
      lengths = i.lengths;
      rising = λ k h. i.rising k (in_order k h);
      each = λ k d h. i.each k d (in_order k h);
    }
