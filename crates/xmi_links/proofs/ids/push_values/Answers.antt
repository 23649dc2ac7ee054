use Rattle.std.proofs.Common.{◌++◌, ◌∷◌, [], take, map, sym, ap, ◌∙◌, append_assoc}
use Rattle.std.proofs.lemmas.List.{map_push}
use Rattle.model_store.specs.Texts.{plain_text}
use Rattle.xmi_links.specs.Found.{id_in, ids_in}
use Rattle.xmi_links.proofs.Steps.{taken}
use Rattle.xmi_links.proofs.ids.push_values.Goals as goal

pub loop-i-preserved : goal.loop-i-preserved
loop-i-preserved c =
    let old = ids_in c.args.ids.now.items in
    let told = map (λ v. (plain_text c.args.meta.now c.args.f v, c.args.bearer)) (take c.loop-i.i c.args.cells.now) in
    ap ids_in c.in_ok-push.ensures.items
    ∙ map_push id_in c.loop-i.ids.items (record { text = c.push_plain_text.new.out; bearer = c.args.bearer })
    ∙ ap (λ l. l ++ (c.push_plain_text.new.out, c.args.bearer) ∷ []) c.loop-i.invariant
    ∙ append_assoc old told ((c.push_plain_text.new.out, c.args.bearer) ∷ [])
    ∙ ap (λ text. old ++ (told ++ (text, c.args.bearer) ∷ []))
    (c.in_ok-push_plain_text.ensures ∙ ap (λ l. l ++ plain_text c.args.meta.now c.args.f c.index-cells-i.result) c.new-text.ensures)
    ∙ ap (λ l. old ++ l) (sym (taken (λ v. (plain_text c.args.meta.now c.args.f v, c.args.bearer)) c.args.cells.now c.loop-i.i c.index-cells-i.result c.loop-i-test.true c.index-cells-i.is))
