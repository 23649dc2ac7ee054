use Rattle.std.proofs.Common.{◌≡◌, sym, ap, ◌∙◌, ◌++◌, arith}
use Rattle.std.specs.Prelude.{reverse, if◌then◌else◌}
use Rattle.ocl_parse.specs.Grammar.{Round, spelt}
use Rattle.module_print.specs.Writing.{here, what_written, expr_written}
use Rattle.module_print.specs.Pending.{begun, bare, pending, spelling}
use Rattle.module_print.proofs.Writings.{expr_is}
use Rattle.module_print.proofs.Opened.{OnOk-then, round_says}
use Rattle.module_print.proofs.print.expression.open_expression.Goals as goal

pub returns-then-is_enclosed : goal.returns-then-is_enclosed
returns-then-is_enclosed c =
    let e = c.args.expr.now in
    let how : begun c.args.first (expr_written e c.args.least) ≡ Round here (expr_written e 0) here =
    ap (λ f. begun c.args.first (f c.args.least)) (expr_is e) ∙ c.is_enclosed.ensures ∙ ap (λ b. if b then Round here (what_written e.what 0) here else bare c.args.first (what_written e.what 0)) c.if-is_enclosed.true
    ∙ ap (λ f. Round here (f 0) here) (sym (expr_is e)) in
    OnOk-then c.push_all.result c.push_all.ensures (λ q. record { text = ap pending q ∙ round_says (expr_written e 0) (pending (reverse c.args.stack.now.items)) ∙ ap (λ w. spelling (spelt w) ++ pending (reverse c.args.stack.now.items)) (sym how); less = rw q (omega arith) })

pub returns : goal.returns
returns c =
    let e = c.args.expr.now in
    let how : begun c.args.first (expr_written e c.args.least) ≡ bare c.args.first (what_written e.what 0) =
    ap (λ f. begun c.args.first (f c.args.least)) (expr_is e) ∙ c.is_enclosed.ensures ∙ ap (λ b. if b then Round here (what_written e.what 0) here else bare c.args.first (what_written e.what 0)) c.if-is_enclosed.false in
    rw how c.open_bare.ensures
