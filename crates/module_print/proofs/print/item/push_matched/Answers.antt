use Rattle.std.proofs.Common.{[], ◌++◌, sym, ap, ◌∙◌, codes}
use Rattle.module_grammar.specs.Grammar.{guard_marks, sources_marks}
use Rattle.module_print.specs.Writing.{sources_written, guard_written}
use Rattle.module_print.specs.Pending.{spaced}
use Rattle.module_print.specs.Fragments.{token, head_text, rest_text}
use Rattle.module_print.proofs.Opened.{OnOk-then, joined}
use Rattle.module_print.proofs.Fragmented.{matched_line}
use Rattle.module_print.proofs.print.item.push_matched.Goals as goal

pub returns : goal.returns
returns c = OnOk-then c.push_rest.result c.push_rest.ensures (λ e. joined _ _ _ (((((head_text c.args.rule.now) ++ (token (codes "{") [])) ++ (token (codes "from") [])) ++ (spaced (sources_marks (sources_written c.args.rule.now.sources)))) ++ (spaced (guard_marks (guard_written c.args.rule.now.guard)))) (rest_text c.args.rule.now) (joined _ _ _ ((((head_text c.args.rule.now) ++ (token (codes "{") [])) ++ (token (codes "from") [])) ++ (spaced (sources_marks (sources_written c.args.rule.now.sources)))) (spaced (guard_marks (guard_written c.args.rule.now.guard))) (joined _ _ _ (((head_text c.args.rule.now) ++ (token (codes "{") [])) ++ (token (codes "from") [])) (spaced (sources_marks (sources_written c.args.rule.now.sources))) (joined _ _ _ ((head_text c.args.rule.now) ++ (token (codes "{") [])) (token (codes "from") []) (joined _ _ _ (head_text c.args.rule.now) (token (codes "{") []) c.in_ok-push_head.ensures c.in_ok-push_sign.ensures) c.in_ok-push_keyword.ensures) (rw c.as_slice.ensures at c.in_ok-push_sources.ensures)) c.in_ok-push_guard.ensures) e
    ∙ ap (λ l. c.args.out.now ++ l) (sym (matched_line c.args.rule.now)))
