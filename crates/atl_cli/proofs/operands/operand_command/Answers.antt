use Rattle.std.proofs.Common.{rules, ◌≡◌, ◌∙◌, ap, ap₂, codes, Option, Some, None, false, []}
use Rattle.std.specs.Prelude.{IsSomeAnd}
use Rattle.std.proofs.lemmas.Result.{IfOk-weaker}
use Rattle.clap.specs.declared.builder.action.ArgAction.TheVariants.{Append}
use Rattle.clap.specs.declared.builder.arg.Arg.{Arg}
use Rattle.clap.specs.declared.builder.range.ValueRange.{ValueRange}
use Rattle.clap.specs.Lexer.{usize_max}
use Rattle.clap.specs.Words.{Rule, app_of, new_rule, rule_of, with_rule}
use Rattle.atl_cli.specs.OperandCommand.{operand_app, operand_rule}
use Rattle.atl_cli.proofs.operands.operand_command.Goals as goal

some_range : (o : Option ValueRange) (r : ValueRange) → IsSomeAnd o (λ y. y ≡ r) → o ≡ Some r
some_range (Some y) r h = ap (λ x. Some x) h
some_range None r h = absurd h

pub returns : goal.returns
returns c =
    let appends : rule_of c.action.result ≡ record (new_rule (codes "operands")) { action = Some Append } =
    ap rule_of c.action.ensures ∙ ap (λ (r : Rule). record r { action = Some Append }) c.new.ensures.rule in
    let range : c.num_args-operands.result.num_vals ≡ Some (record { start_inclusive = 1; end_inclusive = usize_max }) =
    some_range c.num_args-operands.result.num_vals (record { start_inclusive = 1; end_inclusive = usize_max }) c.num_args-operands.ensures.1 in
    let rule_is : rule_of c.num_args-operands.result ≡ operand_rule =
    ap rule_of c.num_args-operands.ensures.0 ∙ ap (λ (o : Option ValueRange). record (rule_of c.action.result) { range = o }) range
    ∙ ap (λ (r : Rule). record r { range = Some (record { start_inclusive = 1; end_inclusive = usize_max }) }) appends in
    let local : c.num_args-operands.result.global ≡ false =
    ap (λ (a : Arg). a.global) c.num_args-operands.ensures.0 ∙ ap (λ (a : Arg). a.global) c.action.ensures ∙ c.new.ensures.optional.1 in
    let base_is : app_of c.disable_help_flag.result ≡ record operand_app { top = record operand_app.top { rules = [] } } = search rules in
    IfOk-weaker c.arg.result _ _ (λ m h. h.shape local ∙ ap₂ with_rule base_is rule_is) c.arg.ensures
