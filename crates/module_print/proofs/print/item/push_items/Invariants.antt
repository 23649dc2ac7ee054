use Rattle.std.proofs.Common.{◌≡◌, ◌++◌, take}
use Rattle.std.specs.List.{flat_map}
use Rattle.module_grammar.specs.Grammar.{item_marks}
use Rattle.module_print.specs.Writing.{item_written}
use Rattle.module_print.specs.Printed.{line_text}
use Rattle.module_print.proofs.print.item.push_items.Given as goal

-- those so far are written
abbrev pub invariant-loop-item : goal.invariant-loop-item
invariant-loop-item l = l.out ≡ l.fn.out ++ flat_map (λ i. line_text (item_marks (item_written i))) (take l.item-index l.items)
