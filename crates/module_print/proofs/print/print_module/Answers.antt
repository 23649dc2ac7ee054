use Rattle.std.proofs.Common.{◌≡◌, ◌++◌, sym, ap, ◌∙◌}
use Rattle.std.specs.List.{flat_map}
use Rattle.module_grammar.specs.Grammar.{item_marks}
use Rattle.module_print.specs.Writing.{item_written}
use Rattle.module_print.specs.Printed.{line_text}
use Rattle.module_print.specs.Fragments.{first_line, second_line}
use Rattle.module_print.proofs.Opened.{joined}
use Rattle.module_print.proofs.Fragmented.{printed_is}
use Rattle.module_print.proofs.print.print_module.Goals as goal

pub returns : goal.returns
returns c =
    let m = c.args.«module».now in
    let first : c.push_first_line.new.out ≡ first_line m.name = c.in_ok-push_first_line.ensures ∙ ap (λ l. l ++ first_line m.name) c.new-out.ensures in
    let items = rw c.as_slice.ensures at c.in_ok-push_items.ensures in
    joined (first_line m.name) _ _ (second_line m) (flat_map (λ j. line_text (item_marks (item_written j))) m.items) (c.in_ok-push_second_line.ensures ∙ ap (λ l. l ++ second_line m) first) items ∙ sym (printed_is m)
