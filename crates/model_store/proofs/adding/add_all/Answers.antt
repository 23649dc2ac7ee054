use Rattle.std.proofs.Common.{◌≡◌, ℕ, suc, ◌+◌, ◌<◌, List, ◌∷◌, length, drop, get_or, sym, ap, subst, ◌∙◌, add-one, drop-cons}
use Rattle.model_store.specs.declared.parts.Cellv.{Cellv}
use Rattle.model_store.specs.Contents.{Contents, refers}
use Rattle.model_store.specs.Drafts.{current}
use Rattle.model_store.specs.Valid.{IsOfType}
use Rattle.model_store.specs.Writes.{add_all, add_value}
use Rattle.model_store.proofs.ReferenceWrites.{IsSame, added_value, kept_type}
use Rattle.model_store.proofs.adding.add_all.Goals as goal

drop_next : (values : List Cellv) (k : ℕ) (v : Cellv) → k < length values → v ≡ get_or values k v → drop k values ≡ v ∷ drop (k + 1) values
drop_next values k v within at = rw (add-one, drop-cons values k v) (ap (λ x. x ∷ drop (suc k) values) (sym at))

pub loop-value-preserved : goal.loop-value-preserved
loop-value-preserved c =
    let o = c.args.o in
    let f = c.args.f in
    let values : List Cellv = c.args.values.now in
    let k = c.loop-value.value-index in
    let v : Cellv = c.value-item.result in
    let m : Contents = current c.loop-value.model in
    let n : Contents = current c.add_value.new.model in
    let before = c.loop-value.invariant in
    let is : v ≡ get_or values k v = c.value-item.is in
    let typed : IsOfType m f v = subst (IsOfType m f) (sym is) (before.4 k v c.loop-value-test.true) in
    let added : n ≡ add_value o f v m = c.in_ok-add_value.ensures.current in
    let same : IsSame m n = subst (IsSame m) (sym added) (added_value v m before.1.valid.metamodel before.1.valid.model o f before.2 before.3 typed) in (
      ap (add_all o f (drop (k + 1) values)) added ∙ sym (ap (λ l. add_all o f l m) (drop_next values k v c.loop-value-test.true is)) ∙ before.0,
      c.in_ok-add_value.ensures.ready,
      same.has o f ∙ before.2,
      ap (λ z. refers z f) same.meta ∙ before.3,
      λ i d l. kept_type m n same.meta same.class f (get_or values i d) (before.4 i d l),
      c.in_ok-add_value.ensures.back ∙ before.5,
    )
