use Rattle.std.proofs.Common.{◌≡◌, ◌++◌, take, map}
use Rattle.std.specs.Prelude.{codes, filter}
use Rattle.doc_text.specs.Names.{xmi_space}
use Rattle.xmi_text.specs.Markup.{is_called}
use Rattle.xmi_links.specs.Found.{ids_in}
use Rattle.xmi_links.proofs.ids.push_xmi_ids.Given as goal

abbrev pub invariant-loop-i : goal.invariant-loop-i
invariant-loop-i l = ids_in l.ids.items ≡ ids_in l.fn.ids.items ++ map (λ a. (a.value, l.bearer)) (filter (is_called xmi_space (codes "id")) (take l.i l.attributes))
