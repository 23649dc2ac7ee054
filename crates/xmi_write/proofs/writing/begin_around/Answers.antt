use Rattle.std.proofs.Common.{◌≡◌, [], ◌∷◌, map, refl, ap, ◌∙◌}
use Rattle.doc_text.specs.declared.tree.Element.{Element}
use Rattle.doc_text.specs.Written.{written_element}
use Rattle.doc_text.proofs.Opened.{OnOk-map}
use Rattle.xmi_write.specs.declared.named.Named.TheVariants.{Around}
use Rattle.xmi_write.specs.Pending.{begun}
use Rattle.xmi_write.specs.Xmi.{around, declared, outermost, root_element, version}
use Rattle.xmi_write.proofs.Begun.{alone, begun_element, head_same, head_with}
use Rattle.xmi_write.proofs.Stacked.{roots_inside}
use Rattle.xmi_write.proofs.writing.begin_around.Goals as goal

pub begin-requires-clause-inside : goal.begin-requires-clause-inside
begin-requires-clause-inside c = (roots_inside c.args.setting.now.model.now c.in_ok-inside.inside.items c.args.roots.now c.in_ok-inside.ensures).0

pub returns-clause-written : goal.returns-clause-written
returns-clause-written c =
    let m = c.args.setting.now.model.now in
    let e : Element = outermost m.meta (around m.meta (map (root_element m) c.args.roots.now)) in
    let head : c.in_ok-head.head ≡ head_with m.meta Around (declared m.meta) (version ∷ []) =
    head_same c.in_ok-head.head c.deref-2.result.now m.meta Around c.in_ok-spaces.spaces (declared m.meta) c.in_ok-first.first.items (version ∷ [])
    c.in_ok-head.ensures (c.deref-2.ensures ∙ c.meta-meta.ensures) (c.in_ok-spaces.ensures ∙ ap declared (c.deref.ensures ∙ c.meta-meta.ensures)) c.in_ok-first.ensures in
    let same : begun m Around c.in_ok-head.head c.in_ok-inside.inside.items 0 ≡ written_element (declared m.meta) e 0 =
    begun_element m Around 0 c.in_ok-head.head e c.in_ok-inside.inside.items head refl refl (roots_inside m c.in_ok-inside.inside.items c.args.roots.now c.in_ok-inside.ensures).1 in
    OnOk-map c.begin.result
    (λ is. alone m c.args.out.now _ (begun m Around c.in_ok-head.head c.in_ok-inside.inside.items 0) (written_element (declared m.meta) e 0) c.args.stack.now.items c.requires.empty same is)
    c.begin.ensures.written
