use Rattle.std.proofs.Common.{◌≡◌, [], ◌++◌, ◌==◌, sym, ap, ◌∙◌, true, false, codes}
use Rattle.std.specs.List.{flat_map}
use Rattle.module_print.specs.Fragments.{token, local_text}
use Rattle.module_print.proofs.Opened.{OnOk-then, joined}
use Rattle.module_print.proofs.Fragmented.{using_by}
use Rattle.module_print.proofs.print.lists.push_using.Goals as goal

pub returns : goal.returns
returns c = OnOk-then c.push_sign-2.result c.push_sign-2.ensures (λ e. joined _ _ _ (((token (codes "using") []) ++ (token (codes "{") [])) ++ (flat_map local_text c.args.locals.now)) (token (codes "}") []) (joined _ _ _ ((token (codes "using") []) ++ (token (codes "{") [])) (flat_map local_text c.args.locals.now) (joined _ _ _ (token (codes "using") []) (token (codes "{") []) c.in_ok-push_keyword.ensures c.in_ok-push_sign.ensures) c.in_ok-push_locals.ensures) e ∙ ap (λ l. c.args.out.now ++ l) (sym (using_by c.args.locals.now
    (λ h. let both : true ≡ false = sym (ap (λ n. n == 0) h) ∙ sym c.is_empty.ensures ∙ c.if-is_empty.false in cc))))
