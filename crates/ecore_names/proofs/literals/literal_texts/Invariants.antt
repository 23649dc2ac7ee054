use Rattle.std.proofs.Common.{◌≡◌, ◌++◌, ◌≤◌, map, drop}
use Rattle.ecore_outline.specs.Entries.{entries_of}
use Rattle.ecore_names.specs.Literals.{literal_keys_from, literal_keys, key_text}
use Rattle.ecore_names.proofs.literals.literal_texts.Given as goal

abbrev pub invariant-loop-i : goal.invariant-loop-i
invariant-loop-i l = record {
  told : map (λ t. t.now) l.texts.items ++ map key_text (literal_keys_from l.enums (entries_of (drop l.i l.entries))) ≡ map key_text (literal_keys (entries_of l.entries));
  enums : l.enums ≤ l.i;
}
