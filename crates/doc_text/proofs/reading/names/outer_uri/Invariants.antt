use Rattle.std.proofs.Common.{◌≡◌, take}
use Rattle.doc_text.specs.Namespaces.{uri_of}
use Rattle.doc_text.specs.RawTrees.{stack_of}
use Rattle.doc_text.specs.State.{tags}
use Rattle.doc_text.proofs.reading.names.outer_uri.Given as goal

-- the elements further in declare nothing of the prefix
abbrev pub invariant-loop-i : goal.invariant-loop-i
invariant-loop-i l = uri_of l.prefix (tags (stack_of (take l.i l.outer))) ≡ uri_of l.prefix (tags (stack_of l.outer))
