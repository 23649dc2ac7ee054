use Rattle.std.proofs.Common.{◌≡◌, ◌∷◌, [], ◌++◌, sym, ap, ◌∙◌, codes}
use Rattle.std.specs.List.{flat_map}
use Rattle.module_grammar.specs.Grammar.{to_marks}
use Rattle.module_print.specs.Writing.{to_written}
use Rattle.module_print.specs.Pending.{spaced}
use Rattle.module_print.specs.Fragments.{token, comma, target_text}
use Rattle.module_print.proofs.Opened.{OnOk-then, joined}
use Rattle.module_print.proofs.Fragmented.{to_texts}
use Rattle.module_print.proofs.print.lists.push_targets.Goals as goal

pub returns-in_ok-push_target-in-Some : goal.returns-in_ok-push_target-in-Some
returns-in_ok-push_target-in-Some c = OnOk-then c.push_more_targets.result c.push_more_targets.ensures (λ e.
    let cases : c.args.targets.now ≡ c.in-Some.target.now ∷ c.in-Some.others.now = c.in-Some.ensures.cases.0 in
    joined _ _ _ ((token (codes "to") []) ++ (target_text c.in-Some.target.now)) (flat_map (λ y. comma (target_text y)) c.in-Some.others.now) (joined _ _ _ (token (codes "to") []) (target_text c.in-Some.target.now) c.in_ok-push_keyword-in-Some.ensures c.in_ok-push_target-in-Some.ensures) e ∙ ap (λ l. c.args.out.now ++ l) (sym (ap (λ l. spaced (to_marks (to_written l))) cases ∙ to_texts c.in-Some.target.now c.in-Some.others.now)))
