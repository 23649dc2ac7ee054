use Rattle.std.proofs.Common.{◌≡◌, ◌++◌, drop}
use Rattle.xmi_text.specs.Keys.{keys_of}
use Rattle.xmi_names.specs.Tables.{keyed, texts_of}
use Rattle.xmi_names.proofs.skipped.push_names.Given as goal

abbrev pub invariant-loop-i : goal.invariant-loop-i
invariant-loop-i l = keys_of l.keys.items ++ keyed l.number (texts_of (drop l.i l.names)) ≡ keys_of l.fn.keys.items ++ keyed l.number (texts_of l.names)
