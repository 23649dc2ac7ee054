use Rattle.std.proofs.Common.{◌≡◌, ◌++◌, take}
use Rattle.std.specs.List.{flat_map}
use Rattle.module_print.specs.Fragments.{comma, source_text}
use Rattle.module_print.proofs.print.lists.push_more_sources.Given as goal

-- those so far are written
abbrev pub invariant-loop-source : goal.invariant-loop-source
invariant-loop-source l = l.out ≡ l.fn.out ++ flat_map (λ s. comma (source_text s)) (take l.source-index l.sources)
