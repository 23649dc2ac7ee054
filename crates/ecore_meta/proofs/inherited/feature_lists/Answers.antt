use Rattle.std.proofs.Common.{◌≡◌, ℕ, ◌<◌, ◌≤◌, List, [], ◌++◌, length, get_or, sym, ap, subst, ◌∙◌, rules, arith}
use Rattle.std.proofs.lemmas.List.{length-set, take_all}
use Rattle.std.specs.List.{Contains, flat_map}
use Rattle.atl_base.specs.declared.numbers.ClassId.{ClassId}
use Rattle.atl_base.specs.declared.numbers.FeatId.{FeatId}
use Rattle.ecore_meta.specs.Inheritance.{distinct, features}
use Rattle.ecore_meta.specs.Order.{class_no}
use Rattle.ecore_meta.proofs.Walks.{supers_at}
use Rattle.ecore_meta.proofs.TableLaws.{features_row, row_more}
use Rattle.ecore_meta.proofs.inherited.feature_lists.Goals as goal

pub features_seen-requires : goal.features_seen-requires
features_seen-requires c = λ s m.
    let classes = c.args.classes.now in
    let here : ℕ = get_or c.args.order.now c.loop-class.class-index 0 in
    let within : s.0 < length classes = c.requires.within (class_no here) s
    (subst (λ (l : List ClassId). Contains l s)
    (ap (λ k. k.supers) c.index-classes-class.is ∙ sym (supers_at classes here c.index-classes-class.result (c.requires.order.within c.loop-class.class-index c.loop-class-test.true))) m) in
    omega (arith, within, c.loop-class.invariant.lengths, ap length c.deref.ensures.value)

pub loop-class-preserved : goal.loop-class-preserved
loop-class-preserved c =
    let i = c.loop-class.invariant in
    let classes = c.args.classes.now in
    let order : List ℕ = c.args.order.now in
    let rows : List (List FeatId) = c.loop-class.lists.items in
    let at : ℕ = c.loop-class.class-index in
    let class = c.index-classes-class.result in
    let here : get_or order at 0 < length classes = c.requires.order.within at c.loop-class-test.true in
    let made : c.in_ok-list.list ≡ distinct (flat_map (λ s. get_or c.deref.result.now s.0 []) class.supers) ++ class.own = c.in_ok-list.ensures in
    let row : c.in_ok-list.list ≡ features classes (class_no (get_or order at 0)) =
    features_row classes rows order at c.requires.acyclic c.requires.within c.requires.order c.loop-class-test.true i.each class c.in_ok-list.list
    (made ∙ ap (λ (l : List (List FeatId)). distinct (flat_map (λ s. get_or l s.0 []) class.supers) ++ class.own) c.deref.ensures.value
    ∙ ap (λ k. distinct (flat_map (λ s. get_or rows s.0 []) k.supers) ++ k.own) c.index-classes-class.is) in
    record {
      lengths = length-set rows (get_or order at 0) c.in_ok-list.list ∙ i.lengths;
      each = row_more (λ n l. l ≡ features classes (class_no n)) rows order at c.in_ok-list.list [] c.loop-class-test.true (omega (arith, here, i.lengths)) i.each row;
    }

pub returns : goal.returns
returns c =
    let i = c.loop-class.invariant in
    let done : length c.args.order.now ≤ c.loop-class.class-index = search rules in
    record {
      lengths = i.lengths;
      each = λ k h. i.each k (subst (λ (l : List ℕ). Contains l k) (sym (take_all c.loop-class.class-index c.args.order.now done)) (c.requires.order.complete k h));
    }
