use Rattle.std.proofs.Common.{◌≡◌, ◌∷◌, sym, ap, ◌∙◌}
use Rattle.std.specs.Prelude.{◌&&◌, ◌||◌}
use Rattle.std.specs.List.{list_all}
use Rattle.atl_tree.specs.Pieces.{is_letter, is_digit}
use Rattle.module_print.specs.Printed.{is_plain}
use Rattle.module_print.proofs.print.token.is_plain.Goals as goal

pub returns-then-is_letter : goal.returns-then-is_letter
returns-then-is_letter c =
    let cases : c.args.text.now ≡ c.in-Some.first.now ∷ c.in-Some.others.now = c.in-Some.ensures.cases.0 in
    c.are_plain.ensures ∙ sym (ap is_plain cases ∙ ap (λ b. b && list_all (λ d. is_letter d || is_digit d) c.in-Some.others.now) (sym c.is_letter.ensures ∙ c.if-is_letter.true))
