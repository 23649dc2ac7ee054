use Rattle.std.proofs.Common.{◌≡◌, ◌++◌, drop}
use Rattle.xmi_text.specs.Markup.{sub_elements}
use Rattle.ecore_outline.specs.Outline.{other_children}
use Rattle.xmi_text.specs.Scopes.{scope_of}
use Rattle.ecore_outline.specs.Entries.{entries_of}
use Rattle.ecore_outline.proofs.outline.push_other_children.Given as goal

-- what is to come from the children that are left completes the outline
abbrev pub invariant-loop-i : goal.invariant-loop-i
invariant-loop-i l =
    entries_of l.out.items ++ other_children (scope_of l.outer) (sub_elements (drop l.i l.children))
    ≡ entries_of l.fn.out.items ++ other_children (scope_of l.outer) (sub_elements l.children)
