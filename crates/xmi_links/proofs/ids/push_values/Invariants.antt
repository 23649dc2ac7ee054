use Rattle.std.proofs.Common.{◌≡◌, ◌++◌, take, map}
use Rattle.model_store.specs.Texts.{plain_text}
use Rattle.xmi_links.specs.Found.{ids_in}
use Rattle.xmi_links.proofs.ids.push_values.Given as goal

abbrev pub invariant-loop-i : goal.invariant-loop-i
invariant-loop-i l = ids_in l.ids.items ≡ ids_in l.fn.ids.items ++ map (λ v. (plain_text l.meta l.f v, l.bearer)) (take l.i l.cells)
