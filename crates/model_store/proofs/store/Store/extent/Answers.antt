use Rattle.std.proofs.Common.{◌+◌, List, [], take, sym, ap, subst, ◌∙◌}
use Rattle.std.specs.Prelude.{slice_index_or}
use Rattle.std.proofs.lemmas.Bool.{both_ways}
use Rattle.atl_base.specs.declared.numbers.ObjId.{ObjId}
use Rattle.model_store.specs.Order.{AreThose, none, IsOf}
use Rattle.model_store.proofs.Trees.{those_take, those_pass}
use Rattle.model_store.proofs.store.Store.extent.Goals as goal
use Rattle.model_store.proofs.store.Store.extent.Goals.{then-is_of+in_ok-push, else-is_of}

pub loop-o-init : goal.loop-o-init
loop-o-init c = subst (AreThose (IsOf c.args.self.now c.args.class) []) (sym c.new-list.ensures.items) none

pub loop-o-preserved : goal.loop-o-preserved
loop-o-preserved c =
    let P : ObjId → Type 0 = IsOf c.args.self.now c.args.class in
    let xs : List ObjId = c.deref-o-items.result.now in
    elim c.if-is_of.branch [
      | then-is_of+in_ok-push w ↦
          those_take P xs c.loop-o.o-index (record { 0 = 0 }) c.loop-o.list.items c.if-is_of.list.items c.loop-o-test.true c.loop-o.invariant (c.is_of.ensures.0 w.if-is_of.true)
          (ap (λ v. v.items) w.list-is ∙ w.in_ok-push.ensures.items)
      | else-is_of w ↦
          let missing : ¬ (P (slice_index_or xs c.loop-o.o-index (record { 0 = 0 }))) = λ p. both_ways c.is_of.result w.if-is_of.false (c.is_of.ensures.1 p) in
          subst (AreThose P (take (c.loop-o.o-index + 1) xs)) (sym (ap (λ v. v.items) w.list-is)) (those_pass P xs c.loop-o.o-index (record { 0 = 0 }) c.loop-o.list.items c.loop-o-test.true c.loop-o.invariant missing)
    ]
