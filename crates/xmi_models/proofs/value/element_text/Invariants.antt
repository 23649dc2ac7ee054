use Rattle.std.proofs.Common.{◌≡◌, ◌++◌, drop}
use Rattle.std.specs.Prelude.{flat_map}
use Rattle.xmi_models.specs.Entries.{texts_in}
use Rattle.xmi_models.proofs.value.element_text.Given as goal

-- the text so far, and that of the children that are left
abbrev pub invariant-loop-i : goal.invariant-loop-i
invariant-loop-i l = l.text ++ flat_map (λ t. t) (texts_in (drop l.i l.children)) ≡ flat_map (λ t. t) (texts_in l.children)
