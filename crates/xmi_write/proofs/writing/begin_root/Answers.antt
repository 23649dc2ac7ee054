use Rattle.std.proofs.Common.{◌≡◌, ◌++◌, List, [], ◌∷◌, map, sym, ap, ◌∙◌, Some, None}
use Rattle.std.specs.Option.{option_copied}
use Rattle.doc_text.specs.declared.tree.Attribute.{Attribute}
use Rattle.doc_text.specs.Written.{written_element}
use Rattle.doc_text.proofs.Opened.{OnOk-map}
use Rattle.ecore_meta.specs.declared.parts.Parts.{Parts}
use Rattle.model_store.specs.Contents.{object_at}
use Rattle.xmi_write.specs.declared.named.Named.{Named}
use Rattle.xmi_write.specs.Pending.{begun, todo_part}
use Rattle.xmi_write.specs.Xmi.{attributes_of, declared, element, outermost, parts_of, root_element, version}
use Rattle.xmi_write.proofs.Begun.{alone, begun_no_root, begun_root, head_same, head_with}
use Rattle.xmi_write.proofs.Stacked.{parts_inside}
use Rattle.xmi_write.proofs.writing.begin_root.Goals as goal

pub returns-in_default-clause-written : goal.returns-in_default-clause-written
returns-in_default-clause-written c =
    let m = c.args.setting.now.model.now in
    let named : Named = c.root_name-named.result in
    let there : object_at m.objects c.args.o ≡ None = sym c.object.ensures.object ∙ ap option_copied c.in_default.is in
    let head : c.in_ok-head.head ≡ head_with m.meta named (declared m.meta) (version ∷ []) =
    head_same c.in_ok-head.head c.deref-in_default.result.now m.meta named c.in_ok-spaces.spaces (declared m.meta) c.in_ok-first.first.items (version ∷ [])
    c.in_ok-head.ensures (c.deref-in_default.ensures ∙ c.meta-meta.ensures) (c.in_ok-spaces.ensures ∙ ap declared (c.deref.ensures ∙ c.meta-meta.ensures)) c.in_ok-first.ensures in
    let same : begun m named c.in_ok-head.head c.new.result.items 0 ≡ written_element (declared m.meta) (outermost m.meta (root_element m c.args.o)) 0 =
    begun_no_root m named 0 c.requires.setting.acyclic c.args.o c.in_ok-head.head c.new.result.items there c.new.ensures.items head
    ∙ ap (λ (n : Named). written_element (declared m.meta) (outermost m.meta (element m n c.args.o)) 0) c.root_name-named.ensures in
    OnOk-map c.begin.result
    (λ is. alone m c.args.out.now _ (begun m named c.in_ok-head.head c.new.result.items 0) (written_element (declared m.meta) (outermost m.meta (root_element m c.args.o)) 0) c.args.stack.now.items c.requires.empty same is)
    c.begin.ensures.written

pub begin-requires-2-clause-inside : goal.begin-requires-2-clause-inside
begin-requires-2-clause-inside c = (parts_inside c.args.setting.now.model.now c.in_ok-inside.inside.items (parts_of c.deref-3.result.now c.in-Some.object.now) c.in_ok-inside.ensures).0

pub returns-clause-written : goal.returns-clause-written
returns-clause-written c =
    let m = c.args.setting.now.model.now in
    let named : Named = c.root_name-named.result in
    let object = c.in-Some.object.now in
    let there : object_at m.objects c.args.o ≡ Some object = sym c.in-Some.ensures.object in
    let attributes : c.in_ok-attributes.attributes.items ≡ version ∷ attributes_of m named object =
    c.in_ok-attributes.ensures ∙ ap (λ (l : List Attribute). l ++ attributes_of m named object) c.in_ok-first.ensures in
    let head : c.in_ok-head-2.head ≡ head_with m.meta named (declared m.meta) (version ∷ attributes_of m named object) =
    head_same c.in_ok-head-2.head c.deref-2.result.now m.meta named c.in_ok-spaces.spaces (declared m.meta) c.in_ok-attributes.attributes.items (version ∷ attributes_of m named object)
    c.in_ok-head-2.ensures (c.deref-2.ensures ∙ c.meta-meta.ensures) (c.in_ok-spaces.ensures ∙ ap declared (c.deref.ensures ∙ c.meta-meta.ensures)) attributes in
    let inside : map todo_part c.in_ok-inside.inside.items ≡ map Some (parts_of m.meta object) =
    c.in_ok-inside.ensures ∙ ap (λ (x : Parts). map Some (parts_of x object)) (c.deref-3.ensures ∙ c.meta-meta.ensures) in
    let same : begun m named c.in_ok-head-2.head c.in_ok-inside.inside.items 0 ≡ written_element (declared m.meta) (outermost m.meta (root_element m c.args.o)) 0 =
    begun_root m named 0 c.requires.setting.acyclic c.args.o object c.in_ok-head-2.head c.in_ok-inside.inside.items there inside head
    ∙ ap (λ (n : Named). written_element (declared m.meta) (outermost m.meta (element m n c.args.o)) 0) c.root_name-named.ensures in
    OnOk-map c.begin-2.result
    (λ is. alone m c.args.out.now _ (begun m named c.in_ok-head-2.head c.in_ok-inside.inside.items 0) (written_element (declared m.meta) (outermost m.meta (root_element m c.args.o)) 0) c.args.stack.now.items c.requires.empty same is)
    c.begin-2.ensures.written
