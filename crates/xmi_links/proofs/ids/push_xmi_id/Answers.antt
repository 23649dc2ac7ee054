use Rattle.std.proofs.Common.{◌++◌, ◌∷◌, [], map, sym, ap, ◌∙◌}
use Rattle.std.specs.Prelude.{if◌then◌else◌}
use Rattle.std.proofs.lemmas.List.{map_push}
use Rattle.xmi_links.specs.Found.{id_in, ids_in}
use Rattle.xmi_links.proofs.ids.push_xmi_id.Goals as goal

pub returns-in_ok-push : goal.returns-in_ok-push
returns-in_ok-push c =
    let a = c.args.attribute.now in
    let old = ids_in c.args.ids.now.items in
    ap ids_in c.in_ok-push.ensures.items
    ∙ map_push id_in c.args.ids.now.items (record { text = c.in_ok-text.text; bearer = c.args.bearer })
    ∙ ap (λ text. old ++ (text, c.args.bearer) ∷ []) c.in_ok-text.ensures
    ∙ ap (λ b. old ++ map (λ a. (a.value, c.args.bearer)) (if b then a ∷ [] else [])) (sym c.if-is_called.true ∙ c.is_called.ensures)
