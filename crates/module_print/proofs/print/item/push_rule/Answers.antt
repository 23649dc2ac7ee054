use Rattle.std.proofs.Common.{◌++◌, sym, ap, ◌∙◌}
use Rattle.module_grammar.specs.Grammar.{NoStart, Entry, End, rule_marks}
use Rattle.module_print.specs.Writing.{here, by_sort}
use Rattle.module_print.specs.Printed.{line_text}
use Rattle.module_print.proofs.Opened.{OnOk-then, joined}
use Rattle.module_print.proofs.Fragmented.{called_line}
use Rattle.module_print.proofs.print.item.push_rule.Goals as goal

pub returns-in-Called : goal.returns-in-Called
returns-in-Called c = OnOk-then c.push_called.result c.push_called.ensures (λ e. e ∙ ap (λ l. c.args.out.now ++ l) (sym (ap (λ s. line_text (rule_marks (by_sort s c.args.rule.now))) c.in-Called.is ∙ called_line NoStart c.args.rule.now)))

pub returns-in_ok-push_keyword-in-Entry : goal.returns-in_ok-push_keyword-in-Entry
returns-in_ok-push_keyword-in-Entry c = OnOk-then c.push_called-in-Entry.result c.push_called-in-Entry.ensures (λ e. joined _ _ _ _ _ c.in_ok-push_keyword-in-Entry.ensures e
    ∙ ap (λ l. c.args.out.now ++ l) (sym (ap (λ s. line_text (rule_marks (by_sort s c.args.rule.now))) c.in-Entry.is ∙ called_line (Entry here) c.args.rule.now)))

pub returns-in_ok-push_keyword-in-End : goal.returns-in_ok-push_keyword-in-End
returns-in_ok-push_keyword-in-End c = OnOk-then c.push_called-in-End.result c.push_called-in-End.ensures (λ e. joined _ _ _ _ _ c.in_ok-push_keyword-in-End.ensures e
    ∙ ap (λ l. c.args.out.now ++ l) (sym (ap (λ s. line_text (rule_marks (by_sort s c.args.rule.now))) c.in-End.is ∙ called_line (End here) c.args.rule.now)))
