use Rattle.std.proofs.Common.{◌≡◌, drop}
use Rattle.std.specs.List.{list_any}
use Rattle.ecore_outline.specs.Outline.{is_package_role}
use Rattle.ecore_outline.specs.Entries.{entries_of}
use Rattle.ecore_faults.proofs.element_fault.has_package.Given as goal

abbrev pub invariant-loop-i : goal.invariant-loop-i
invariant-loop-i l = list_any (λ e. is_package_role e.role) (entries_of (drop l.i l.behind)) ≡ list_any (λ e. is_package_role e.role) (entries_of l.behind)
