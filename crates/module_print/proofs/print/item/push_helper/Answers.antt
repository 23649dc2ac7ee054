use Rattle.std.proofs.Common.{◌∷◌, [], ◌++◌, sym, ap, ◌∙◌, false, codes}
use Rattle.module_grammar.specs.Grammar.{context_marks, signature_marks}
use Rattle.module_print.specs.Writing.{context_written, signature_written}
use Rattle.module_print.specs.Printed.{name_text}
use Rattle.module_print.specs.Pending.{spaced, kind_text, expr_text}
use Rattle.module_print.specs.Fragments.{token}
use Rattle.module_print.proofs.Opened.{OnOk-then, joined}
use Rattle.module_print.proofs.Fragmented.{helper_line}
use Rattle.module_print.proofs.print.item.push_helper.Goals as goal

pub returns : goal.returns
returns c = OnOk-then c.push_last.result c.push_last.ensures (λ e. joined _ _ _ ((((((((((token (codes "helper") []) ++ (spaced (context_marks (context_written c.args.helper.now.context)))) ++ (token (codes "def") [])) ++ (token (codes ":") [])) ++ (name_text c.args.helper.now.name.text ++ (32 ∷ []))) ++ (spaced (signature_marks (signature_written c.args.helper.now.params)))) ++ (token (codes ":") [])) ++ (kind_text c.args.helper.now.result)) ++ (token (codes "=") [])) ++ (expr_text false 0 c.args.helper.now.body)) (codes ";\n") (joined _ _ _ (((((((((token (codes "helper") []) ++ (spaced (context_marks (context_written c.args.helper.now.context)))) ++ (token (codes "def") [])) ++ (token (codes ":") [])) ++ (name_text c.args.helper.now.name.text ++ (32 ∷ []))) ++ (spaced (signature_marks (signature_written c.args.helper.now.params)))) ++ (token (codes ":") [])) ++ (kind_text c.args.helper.now.result)) ++ (token (codes "=") [])) (expr_text false 0 c.args.helper.now.body) (joined _ _ _ ((((((((token (codes "helper") []) ++ (spaced (context_marks (context_written c.args.helper.now.context)))) ++ (token (codes "def") [])) ++ (token (codes ":") [])) ++ (name_text c.args.helper.now.name.text ++ (32 ∷ []))) ++ (spaced (signature_marks (signature_written c.args.helper.now.params)))) ++ (token (codes ":") [])) ++ (kind_text c.args.helper.now.result)) (token (codes "=") []) (joined _ _ _ (((((((token (codes "helper") []) ++ (spaced (context_marks (context_written c.args.helper.now.context)))) ++ (token (codes "def") [])) ++ (token (codes ":") [])) ++ (name_text c.args.helper.now.name.text ++ (32 ∷ []))) ++ (spaced (signature_marks (signature_written c.args.helper.now.params)))) ++ (token (codes ":") [])) (kind_text c.args.helper.now.result) (joined _ _ _ ((((((token (codes "helper") []) ++ (spaced (context_marks (context_written c.args.helper.now.context)))) ++ (token (codes "def") [])) ++ (token (codes ":") [])) ++ (name_text c.args.helper.now.name.text ++ (32 ∷ []))) ++ (spaced (signature_marks (signature_written c.args.helper.now.params)))) (token (codes ":") []) (joined _ _ _ (((((token (codes "helper") []) ++ (spaced (context_marks (context_written c.args.helper.now.context)))) ++ (token (codes "def") [])) ++ (token (codes ":") [])) ++ (name_text c.args.helper.now.name.text ++ (32 ∷ []))) (spaced (signature_marks (signature_written c.args.helper.now.params))) (joined _ _ _ ((((token (codes "helper") []) ++ (spaced (context_marks (context_written c.args.helper.now.context)))) ++ (token (codes "def") [])) ++ (token (codes ":") [])) (name_text c.args.helper.now.name.text ++ (32 ∷ [])) (joined _ _ _ (((token (codes "helper") []) ++ (spaced (context_marks (context_written c.args.helper.now.context)))) ++ (token (codes "def") [])) (token (codes ":") []) (joined _ _ _ ((token (codes "helper") []) ++ (spaced (context_marks (context_written c.args.helper.now.context)))) (token (codes "def") []) (joined _ _ _ (token (codes "helper") []) (spaced (context_marks (context_written c.args.helper.now.context))) c.in_ok-push_keyword.ensures c.in_ok-push_context.ensures) c.in_ok-push_keyword-2.ensures) c.in_ok-push_sign.ensures) c.in_ok-push_name.ensures) c.in_ok-push_signature.ensures) c.in_ok-push_sign-2.ensures) c.in_ok-push_kind.ensures) c.in_ok-push_sign-3.ensures) c.in_ok-push_expression.ensures) e
    ∙ ap (λ l. c.args.out.now ++ l) (sym (helper_line c.args.helper.now)))
