use Rattle.std.proofs.Common.{[], ◌++◌, sym, ap, ◌∙◌, codes}
use Rattle.std.specs.List.{flat_map}
use Rattle.module_grammar.specs.Grammar.{block_marks}
use Rattle.module_print.specs.Writing.{block_written}
use Rattle.module_print.specs.Pending.{spaced, stat_text}
use Rattle.module_print.specs.Fragments.{token}
use Rattle.module_print.proofs.Opened.{OnOk-then, joined}
use Rattle.module_print.proofs.Fragmented.{block_texts}
use Rattle.module_print.proofs.print.item.push_block.Goals as goal

pub returns-in_ok-push_statements-in-Some : goal.returns-in_ok-push_statements-in-Some
returns-in_ok-push_statements-in-Some c = OnOk-then c.push_sign-in-Some.result c.push_sign-in-Some.ensures (λ e. joined _ _ _ (((token (codes "do") []) ++ (token (codes "{") [])) ++ (flat_map stat_text c.in-Some.stats)) (token (codes "}") []) (joined _ _ _ ((token (codes "do") []) ++ (token (codes "{") [])) (flat_map stat_text c.in-Some.stats) (joined _ _ _ (token (codes "do") []) (token (codes "{") []) c.in_ok-push_keyword-in-Some.ensures c.in_ok-push_sign-in-Some.ensures) (rw c.as_slice.ensures at c.in_ok-push_statements-in-Some.ensures)) e
    ∙ ap (λ l. c.args.out.now ++ l) (sym (ap (λ o. spaced (block_marks (block_written o))) c.in-Some.is ∙ block_texts c.in-Some.stats)))
