use Rattle.std.proofs.Common.{[], ◌++◌, sym, ap, ◌∙◌, codes}
use Rattle.module_print.specs.Fragments.{token, params_text}
use Rattle.module_print.proofs.Opened.{OnOk-then, joined}
use Rattle.module_print.proofs.Fragmented.{bracketed_texts}
use Rattle.module_print.proofs.print.lists.push_params.Goals as goal

pub returns : goal.returns
returns c = OnOk-then c.push_sign-2.result c.push_sign-2.ensures (λ e. joined _ _ _ ((token (codes "(") []) ++ (params_text c.args.params.now)) (token (codes ")") []) (joined _ _ _ (token (codes "(") []) (params_text c.args.params.now) c.in_ok-push_sign.ensures c.in_ok-push_all_params.ensures) e ∙ ap (λ l. c.args.out.now ++ l) (sym (bracketed_texts c.args.params.now)))
