use Rattle.std.proofs.Common.{[], ◌++◌, sym, ap, ◌∙◌, codes}
use Rattle.module_grammar.specs.Grammar.{context_marks}
use Rattle.module_print.specs.Writing.{context_written}
use Rattle.module_print.specs.Pending.{spaced, kind_text}
use Rattle.module_print.specs.Fragments.{token}
use Rattle.module_print.proofs.Opened.{OnOk-then, joined}
use Rattle.module_print.proofs.Fragmented.{context_texts}
use Rattle.module_print.proofs.print.item.push_context.Goals as goal

pub returns-in_ok-push_keyword-in-Some : goal.returns-in_ok-push_keyword-in-Some
returns-in_ok-push_keyword-in-Some c = OnOk-then c.push_kind.result c.push_kind.ensures (λ e. joined _ _ _ (token (codes "context") []) (kind_text c.in-Some.kind) c.in_ok-push_keyword-in-Some.ensures e
    ∙ ap (λ l. c.args.out.now ++ l) (sym (ap (λ o. spaced (context_marks (context_written o))) c.in-Some.is ∙ context_texts c.in-Some.kind)))
