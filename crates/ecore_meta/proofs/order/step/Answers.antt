use Rattle.std.proofs.Common.{◌≡◌, ℕ, ◌<◌, List, ◌∷◌, [], ◌++◌, length, get_or, sym, ap, subst, ◌∙◌, arith, rules, Bool, true, ◌+◌, ◌-◌, ◌≤◌, slice_set}
use Rattle.std.proofs.lemmas.List.Elements.{Contains-get_or}
use Rattle.std.specs.List.{Contains}
use Rattle.atl_base.specs.declared.numbers.ClassId.{ClassId}
use Rattle.ecore_meta.specs.Inheritance.{supers_of}
use Rattle.ecore_meta.specs.Order.{class_no, IsWalk, is_done, work_left}
use Rattle.ecore_meta.proofs.Walks.{supers_at, path_split, passed_from, IsWalk-push, IsWalk-finish, work_left-push, work_left-finish}
use Rattle.ecore_meta.proofs.order.step.Goals as goal

pub first_undone-at-requires-clause-within : goal.first_undone-at-requires-clause-within
first_undone-at-requires-clause-within c =
    let w = c.requires.walk in
    let supers : List ClassId = c.as_slice-supers.result.now in
    let here : c.args.class < length c.args.classes.now = search rules in
    let same : supers_of c.args.classes.now (class_no c.args.class) ≡ supers =
    supers_at c.args.classes.now c.args.class c.index-classes-class.result here ∙ sym c.as_slice-supers.ensures in
    λ k d z h.
    let inside : (get_or supers k d).0 < length c.args.classes.now =
    c.requires.within (class_no c.args.class) (get_or supers k d) (subst (λ (l : List ClassId). Contains l (get_or supers k d)) (sym same) (Contains-get_or supers k d h)) in
    omega (arith, inside, w.dones, ap length c.deref.ensures.value)

walk-pushed : (c : goal.In_ok-push) → IsWalk c.args.classes.now c.args.walk.now.done.items (slice_set c.args.walk.now.next.items c.args.class c.first_undone-at.result)
    (c.args.walk.now.path.items ++ (get_or c.as_slice-supers.result.now c.first_undone-at.result (record { 0 = 0 })).0 ∷ []) c.args.walk.now.order.items
walk-pushed c =
    let w = c.requires.walk in
    let u = c.first_undone-at.ensures in
    let classes = c.args.classes.now in
    let class : ℕ = c.args.class in
    let at : ℕ = c.first_undone-at.result in
    let none : ClassId = record { 0 = 0 } in
    let supers : List ClassId = c.as_slice-supers.result.now in
    let here : class < length classes = search rules in
    let same : supers_of classes (class_no class) ≡ supers = supers_at classes class c.index-classes-class.result here ∙ sym c.as_slice-supers.ensures in
    let there : at < length supers = search rules in
    IsWalk-push classes c.args.walk.now.done.items c.args.walk.now.next.items c.args.walk.now.path.items c.args.walk.now.order.items w class at
    (passed_from (supers_of classes (class_no class)) supers c.args.walk.now.done.items c.deref.result.now c.args.walk.now.next.items class c.index.result.now at
    same c.deref.ensures.value c.index.ensures (omega (arith, w.nexts)) u.passed)
    (omega (arith, u.ends, ap length same)) here (get_or supers at none).0 c.requires.within c.requires.last
    (subst (λ (l : List ClassId). Contains l (get_or supers at none)) (sym same) (Contains-get_or supers at none there))
    (ap (λ (b : List Bool). is_done b (get_or supers at none).0) (sym c.deref.ensures.value) ∙ u.undone there none)

pub returns-in_ok-push-clause-walk : goal.returns-in_ok-push-clause-walk
returns-in_ok-push-clause-walk c =
    subst (λ (p : List ℕ). IsWalk c.args.classes.now c.args.walk.now.done.items (slice_set c.args.walk.now.next.items c.args.class c.first_undone-at.result) p c.args.walk.now.order.items)
    (sym c.in_ok-push.ensures.items) (walk-pushed c)

pub returns-in_ok-push-clause-less : goal.returns-in_ok-push-clause-less
returns-in_ok-push-clause-less c =
    subst (λ (p : List ℕ). work_left c.args.classes.now c.args.walk.now.done.items p < work_left c.args.classes.now c.args.walk.now.done.items c.args.walk.now.path.items)
    (sym c.in_ok-push.ensures.items)
    (work_left-push c.args.classes.now c.args.walk.now.done.items c.args.walk.now.path.items _ c.requires.acyclic (walk-pushed c).climb)

split_of : (c : goal.After-pop) → c.args.walk.now.path.items ≡ c.pop.new.self.items ++ c.args.class ∷ []
split_of c = path_split c.args.walk.now.path.items c.pop.new.self.items _ c.args.class (search rules) c.pop.ensures.rest c.requires.some c.requires.last

pub returns-in_ok-push-2-clause-walk : goal.returns-in_ok-push-2-clause-walk
returns-in_ok-push-2-clause-walk c =
    let w = c.requires.walk in
    let u = c.first_undone-at.ensures in
    let classes = c.args.classes.now in
    let class : ℕ = c.args.class in
    let at : ℕ = c.first_undone-at.result in
    let supers : List ClassId = c.as_slice-supers.result.now in
    let here : class < length classes = search rules in
    let same : supers_of classes (class_no class) ≡ supers = supers_at classes class c.index-classes-class.result here ∙ sym c.as_slice-supers.ensures in
    let all : length supers ≤ at = search rules in
    subst (λ (o : List ℕ). IsWalk classes (slice_set c.args.walk.now.done.items class true) (slice_set c.args.walk.now.next.items class at) c.pop.new.self.items o)
    (sym c.in_ok-push-2.ensures.items)
    (IsWalk-finish classes c.args.walk.now.done.items c.args.walk.now.next.items c.args.walk.now.path.items c.args.walk.now.order.items w class at
    (passed_from (supers_of classes (class_no class)) supers c.args.walk.now.done.items c.deref.result.now c.args.walk.now.next.items class c.index.result.now at
    same c.deref.ensures.value c.index.ensures (omega (arith, w.nexts)) u.passed)
    (omega (arith, u.ends, ap length same)) here c.requires.acyclic c.pop.new.self.items (split_of c) (omega (arith, all, ap length same)))

pub returns-in_ok-push-2-clause-less : goal.returns-in_ok-push-2-clause-less
returns-in_ok-push-2-clause-less c =
    let w = c.requires.walk in
    let k : ℕ = length c.args.walk.now.path.items - 1 in
    let there : k + 1 ≡ length c.args.walk.now.path.items = omega (arith, c.requires.some) in
    work_left-finish c.args.classes.now c.args.walk.now.done.items c.args.walk.now.path.items c.pop.new.self.items c.args.class c.requires.acyclic w.climb (split_of c)
    (search rules) (ap (is_done c.args.walk.now.done.items) (sym (c.requires.last k there)) ∙ w.pending k (omega arith))
