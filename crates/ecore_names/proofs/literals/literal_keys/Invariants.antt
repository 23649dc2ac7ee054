use Rattle.std.proofs.Common.{◌≡◌, ◌++◌, ◌≤◌, drop}
use Rattle.ecore_outline.specs.Entries.{entries_of}
use Rattle.xmi_text.specs.Keys.{keys_of}
use Rattle.ecore_names.specs.Literals.{literal_keys_from, literal_keys}
use Rattle.ecore_names.proofs.literals.literal_keys.Given as goal

abbrev pub invariant-loop-i : goal.invariant-loop-i
invariant-loop-i l = record {
  told : keys_of l.keys.items ++ literal_keys_from l.enums (entries_of (drop l.i l.entries)) ≡ literal_keys (entries_of l.entries);
  enums : l.enums ≤ l.i;
}
