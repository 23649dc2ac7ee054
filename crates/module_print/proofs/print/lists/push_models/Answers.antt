use Rattle.std.proofs.Common.{◌≡◌, ◌∷◌, ◌++◌, sym, ap, ◌∙◌}
use Rattle.module_grammar.specs.Grammar.{models_marks}
use Rattle.module_print.specs.Writing.{models_written}
use Rattle.module_print.specs.Pending.{spaced}
use Rattle.module_print.proofs.Opened.{OnOk-then, joined}
use Rattle.module_print.proofs.Fragmented.{models_texts}
use Rattle.module_print.proofs.print.lists.push_models.Goals as goal

pub returns-in_ok-push_model-in-Some : goal.returns-in_ok-push_model-in-Some
returns-in_ok-push_model-in-Some c = OnOk-then c.push_more_models.result c.push_more_models.ensures (λ e.
    let cases : c.args.decls.now ≡ c.in-Some.decl.now ∷ c.in-Some.others.now = c.in-Some.ensures.cases.0 in
    joined _ _ _ _ _ c.in_ok-push_model-in-Some.ensures e ∙ ap (λ l. c.args.out.now ++ l) (sym (ap (λ l. spaced (models_marks (models_written l))) cases ∙ models_texts c.in-Some.decl.now c.in-Some.others.now)))
