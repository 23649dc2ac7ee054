use Rattle.std.proofs.Common.{◌≡◌, ◌∷◌, ◌++◌, sym, ap, ◌∙◌}
use Rattle.module_grammar.specs.Grammar.{sources_marks}
use Rattle.module_print.specs.Writing.{sources_written}
use Rattle.module_print.specs.Pending.{spaced}
use Rattle.module_print.proofs.Opened.{OnOk-then, joined}
use Rattle.module_print.proofs.Fragmented.{sources_texts}
use Rattle.module_print.proofs.print.lists.push_sources.Goals as goal

pub returns-in_ok-push_source-in-Some : goal.returns-in_ok-push_source-in-Some
returns-in_ok-push_source-in-Some c = OnOk-then c.push_more_sources.result c.push_more_sources.ensures (λ e.
    let cases : c.args.sources.now ≡ c.in-Some.source.now ∷ c.in-Some.others.now = c.in-Some.ensures.cases.0 in
    joined _ _ _ _ _ c.in_ok-push_source-in-Some.ensures e ∙ ap (λ l. c.args.out.now ++ l) (sym (ap (λ l. spaced (sources_marks (sources_written l))) cases ∙ sources_texts c.in-Some.source.now c.in-Some.others.now)))
