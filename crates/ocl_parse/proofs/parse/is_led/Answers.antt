use Rattle.std.proofs.Common.{◌≡◌, ℕ, suc, ◌-◌, sym, ap, ◌∙◌, arith}
use Rattle.atl_tree.specs.Tokens.{leads_name}
use Rattle.ocl_parse.specs.Reading.{led_at}
use Rattle.ocl_parse.proofs.Led.{led_at-index}
use Rattle.ocl_parse.proofs.parse.is_led.Goals as goal

pub returns : goal.returns
returns c =
    let k : ℕ = c.args.from - 1 in
    let here : suc k ≡ c.args.from = omega (arith, c.if-from-eq0.false) in
    c.leads_name.ensures ∙ ap leads_name c.index-tokens-from.is
    ∙ sym (led_at-index k c.args.tokens.now c.index-tokens-from.result (omega (arith, here, c.requires)))
    ∙ ap (λ n. led_at n c.args.tokens.now) here
