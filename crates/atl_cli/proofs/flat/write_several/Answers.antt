use Rattle.std.proofs.Common.{◌≡◌, ◌==◌, true, false, sym, ap, ◌∙◌}
use Rattle.std.proofs.lemmas.Bool.{eqb-true}
use Rattle.atl_cli.proofs.FlatTexts.{none_put, several_put, opened_around, rows_around, ended_around}
use Rattle.atl_cli.proofs.flat.write_several.Goals as goal

pub returns-then-is_empty : goal.returns-then-is_empty
returns-then-is_empty c =
    none_put c.args.rule.now c.args.values.now c.in_ok-out.out c.push_opening.new.out c.push_ascii.new.self (eqb-true _ _ (sym c.is_empty.ensures ∙ c.if-is_empty.true))
    c.in_ok-out.ensures
    (opened_around c.args.rule.now.target_metamodel c.as_slice-declared.result.now c.in_ok-around.around c.in_ok-out.out c.push_opening.new.out c.as_slice-declared.ensures c.in_ok-around.ensures c.in_ok-push_opening.ensures)
    c.in_ok-push_ascii.ensures.ok

pub returns : goal.returns
returns c =
    let space = c.args.rule.now.target_metamodel in
    let ds = c.as_slice-declared.result.now in
    let e = c.in_ok-around.around in
    several_put c.args.rule.now c.args.values.now c.in_ok-out.out c.push_opening.new.out c.push_ascii-2.new.self c.push_items.new.out _ c.requires
    (λ h. let both : true ≡ false = sym (ap (λ n. n == 0) h) ∙ sym c.is_empty.ensures ∙ c.if-is_empty.false in cc)
    c.in_ok-out.ensures
    (opened_around space ds e c.in_ok-out.out c.push_opening.new.out c.as_slice-declared.ensures c.in_ok-around.ensures c.in_ok-push_opening.ensures)
    c.in_ok-push_ascii-2.ensures.ok
    (rows_around space ds e c.args.rule.now c.args.values.now c.push_ascii-2.new.self c.push_items.new.out c.as_slice-declared.ensures c.in_ok-around.ensures c.in_ok-push_items.ensures)
    (ended_around space ds e c.push_items.new.out _ c.as_slice-declared.ensures c.in_ok-around.ensures c.in_ok-push_end_tag.ensures)
