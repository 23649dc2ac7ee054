use Rattle.std.proofs.Common.{◌≡◌, ◌++◌, take, map, []}
use Rattle.std.specs.Prelude.{flat_map, if◌then◌else◌}
use Rattle.model_store.specs.Contents.{slot}
use Rattle.model_store.specs.Texts.{plain_text}
use Rattle.xmi_links.specs.References.{is_id}
use Rattle.xmi_links.specs.Found.{ids_in}
use Rattle.xmi_links.proofs.ids.push_own_ids.Given as goal

abbrev pub invariant-loop-i : goal.invariant-loop-i
invariant-loop-i l = ids_in l.ids.items ≡ ids_in l.fn.ids.items ++ flat_map (λ f. if is_id l.sketch.meta f then map (λ v. (plain_text l.sketch.meta f v, l.bearer)) (slot l.sketch l.bearer f) else []) (take l.i l.features)
