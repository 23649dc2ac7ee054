use Rattle.std.proofs.Common.{◌≡◌, ◌++◌, take}
use Rattle.std.specs.List.{flat_map}
use Rattle.doc_text.specs.Written.{written_element}
use Rattle.atl_cli.specs.Flat.{item}
use Rattle.atl_cli.proofs.flat.push_items.Given as goal

-- the items so far are written
abbrev pub invariant-loop-value : goal.invariant-loop-value
invariant-loop-value l = l.out ≡ l.fn.out ++ flat_map (λ v. written_element l.declared (item l.rule v) 1) (take l.value-index l.values)
