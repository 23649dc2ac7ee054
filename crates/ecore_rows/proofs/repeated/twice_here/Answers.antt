use Rattle.std.proofs.Common.{[], sym, ap, ◌∙◌}
use Rattle.std.specs.Prelude.{true, not, ◌&&◌, bytes_eq}
use Rattle.ecore_rows.specs.CodeRows.{feature_row_of}
use Rattle.ecore_rows.proofs.SeenNames.{empty_test, step_over}
use Rattle.ecore_rows.proofs.SeenRows.{step_named}
use Rattle.ecore_rows.proofs.repeated.twice_here.Goals as goal

pub returns-then-is_empty : goal.returns-then-is_empty
returns-then-is_empty c = λ supers class rows seen.
    let row = feature_row_of c.args.row.now in
    let empty = c.is_empty.ensures ∙ empty_test c.name_of-name.result.now ∙ ap (λ n. bytes_eq n []) c.name_of-name.ensures in
    step_over supers class c.args.seen.now.keys row rows true c.is_empty.result (sym seen) empty (ap (λ b. true && not b) c.if-is_empty.true)

pub returns : goal.returns
returns c = λ supers class rows seen.
    let row = feature_row_of c.args.row.now in
    let empty = c.is_empty.ensures ∙ empty_test c.name_of-name.result.now ∙ ap (λ n. bytes_eq n []) c.name_of-name.ensures in
    step_named supers class c.args.seen.now.keys _ row rows c.name_of-name.result seen (sym empty ∙ c.if-is_empty.false) c.name_of-name.ensures _ c.in_ok-is_new.ensures.added c.in_ok-is_new.ensures.keys
