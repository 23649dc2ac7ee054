use Rattle.std.proofs.Common.{◌≡◌, ◌∷◌, [], ◌++◌, sym, ap, ◌∙◌, codes}
use Rattle.std.specs.List.{flat_map}
use Rattle.module_grammar.specs.Grammar.{list_marks}
use Rattle.module_print.specs.Writing.{list_written}
use Rattle.module_print.specs.Pending.{spaced}
use Rattle.module_print.specs.Fragments.{token, comma, bind_text}
use Rattle.module_print.proofs.Opened.{OnOk-then, joined}
use Rattle.module_print.proofs.Fragmented.{list_texts}
use Rattle.module_print.proofs.print.lists.push_binds.Goals as goal

pub returns-in_ok-push_more_binds-in-Some : goal.returns-in_ok-push_more_binds-in-Some
returns-in_ok-push_more_binds-in-Some c = OnOk-then c.push_sign-in-Some.result c.push_sign-in-Some.ensures (λ e.
    let cases : c.args.binds.now ≡ c.in-Some.bind.now ∷ c.in-Some.others.now = c.in-Some.ensures.cases.0 in
    joined _ _ _ (((token (codes "(") []) ++ (bind_text c.in-Some.bind.now)) ++ (flat_map (λ b. comma (bind_text b)) c.in-Some.others.now)) (token (codes ")") []) (joined _ _ _ ((token (codes "(") []) ++ (bind_text c.in-Some.bind.now)) (flat_map (λ b. comma (bind_text b)) c.in-Some.others.now) (joined _ _ _ (token (codes "(") []) (bind_text c.in-Some.bind.now) c.in_ok-push_sign-in-Some.ensures c.in_ok-push_bind-in-Some.ensures) c.in_ok-push_more_binds-in-Some.ensures) e ∙ ap (λ l. c.args.out.now ++ l) (sym (ap (λ l. spaced (list_marks (list_written l))) cases ∙ list_texts c.in-Some.bind.now c.in-Some.others.now)))
