use Rattle.std.proofs.Common.{◌≡◌, ◌++◌, take}
use Rattle.std.specs.Prelude.{filter}
use Rattle.std.specs.List.{flat_map}
use Rattle.doc_text.specs.Written.{written_attribute, is_version}
use Rattle.doc_text.proofs.write.push_version.Given as goal

-- the attributes so far are written
abbrev pub invariant-loop-attribute : goal.invariant-loop-attribute
invariant-loop-attribute l = l.out ≡ l.fn.out ++ flat_map (written_attribute l.declared) (filter is_version (take l.attribute-index l.attributes))
