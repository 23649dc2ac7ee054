use Rattle.std.proofs.Common.{◌≡◌, ◌++◌, List, ℕ, [], map, reverse, sym, ap, ◌∙◌, Some, None}
use Rattle.std.specs.Option.{option_copied}
use Rattle.doc_text.specs.declared.tree.Attribute.{Attribute}
use Rattle.doc_text.proofs.Opened.{OnOk-map}
use Rattle.ecore_meta.specs.declared.parts.Parts.{Parts}
use Rattle.model_store.specs.Contents.{object_at}
use Rattle.xmi_write.specs.Pending.{pending, todo_part}
use Rattle.xmi_write.specs.Xmi.{attributes_of, parts_of}
use Rattle.xmi_write.proofs.Begun.{begun_none, begun_object, head_same, head_with}
use Rattle.xmi_write.proofs.Stacked.{parts_inside}
use Rattle.xmi_write.proofs.elements.push_object.Goals as goal

pub returns-in_default-clause-written : goal.returns-in_default-clause-written
returns-in_default-clause-written c =
    let m = c.args.setting.now.model.now in
    let there : object_at m.objects c.args.o ≡ None = sym c.object.ensures.object ∙ ap option_copied c.in_default.is in
    let head : c.in_ok-head.head ≡ head_with m.meta c.args.named [] [] =
    head_same c.in_ok-head.head c.deref.result.now m.meta c.args.named c.new.result [] c.new-in_default.result.items [] c.in_ok-head.ensures (c.deref.ensures ∙ c.meta-meta.ensures) c.new.ensures c.new-in_default.ensures.items in
    OnOk-map c.begin.result
    (λ is. is ∙ ap (λ (l : List ℕ). c.args.out.now ++ (l ++ pending m (reverse c.args.stack.now.items)))
    (begun_none m c.args.named c.args.depth c.requires.setting.acyclic c.args.o c.in_ok-head.head c.new-in_default-2.result.items there c.new-in_default-2.ensures.items head))
    c.begin.ensures.written

pub begin-requires-2-clause-inside : goal.begin-requires-2-clause-inside
begin-requires-2-clause-inside c = (parts_inside c.args.setting.now.model.now c.in_ok-inside.inside.items (parts_of c.deref-3.result.now c.in-Some.object.now) c.in_ok-inside.ensures).0

pub returns-clause-written : goal.returns-clause-written
returns-clause-written c =
    let m = c.args.setting.now.model.now in
    let object = c.in-Some.object.now in
    let there : object_at m.objects c.args.o ≡ Some object = sym c.in-Some.ensures.object in
    let attributes : c.in_ok-attributes.attributes.items ≡ attributes_of m c.args.named object =
    c.in_ok-attributes.ensures ∙ ap (λ (l : List Attribute). l ++ attributes_of m c.args.named object) c.new-2.ensures.items in
    let head : c.in_ok-head-2.head ≡ head_with m.meta c.args.named [] (attributes_of m c.args.named object) =
    head_same c.in_ok-head-2.head c.deref-2.result.now m.meta c.args.named c.new-3.result [] c.in_ok-attributes.attributes.items (attributes_of m c.args.named object)
    c.in_ok-head-2.ensures (c.deref-2.ensures ∙ c.meta-meta.ensures) c.new-3.ensures attributes in
    let inside : map todo_part c.in_ok-inside.inside.items ≡ map Some (parts_of m.meta object) =
    c.in_ok-inside.ensures ∙ ap (λ (x : Parts). map Some (parts_of x object)) (c.deref-3.ensures ∙ c.meta-meta.ensures) in
    OnOk-map c.begin-2.result
    (λ is. is ∙ ap (λ (l : List ℕ). c.args.out.now ++ (l ++ pending m (reverse c.args.stack.now.items)))
    (begun_object m c.args.named c.args.depth c.requires.setting.acyclic c.args.o object c.in_ok-head-2.head c.in_ok-inside.inside.items there inside head))
    c.begin-2.ensures.written
