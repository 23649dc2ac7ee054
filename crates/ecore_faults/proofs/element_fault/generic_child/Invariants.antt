use Rattle.std.proofs.Common.{◌≡◌, drop}
use Rattle.std.specs.Prelude.{find}
use Rattle.xmi_text.specs.Markup.{sub_elements}
use Rattle.ecore_outline.specs.Outline.{is_generic}
use Rattle.ecore_faults.proofs.element_fault.generic_child.Given as goal

abbrev pub invariant-loop-i : goal.invariant-loop-i
invariant-loop-i l = find (λ c. is_generic c.name) (sub_elements (drop l.i l.children)) ≡ find (λ c. is_generic c.name) (sub_elements l.children)
