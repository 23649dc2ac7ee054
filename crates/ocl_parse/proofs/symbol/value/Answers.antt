use Rattle.std.proofs.Common.{ℕ, ◌+◌, ◌*◌, ◌≤◌, drop, get_or, sym, ◌∙◌, arith}
use Rattle.atl_tree.specs.Tokens.{value_from}
use Rattle.atl_tree.proofs.Judged.{value-on, value-stops, value-ends, value-grows, too-wide, within}
use Rattle.ocl_parse.proofs.Values.{at_most-small, at_most-large}
use Rattle.ocl_parse.proofs.symbol.value.Goals as goal

pub returns-then-not-is_ascii_digit : goal.returns-then-not-is_ascii_digit
returns-then-not-is_ascii_digit c =
    let i = c.loop-byte.invariant in
    let e = sym (value-stops c.args.text.now c.loop-byte.byte-index c.loop-byte.value c.loop-byte-test.true c.if-not-is_ascii_digit.ensures.value) ∙ i.0 in
    e ∙ sym (at_most-small (value_from 0 c.args.text.now) (omega (arith, e, i.1)))

pub returns-then-value-digit : goal.returns-then-value-digit
returns-then-value-digit c =
    let i = c.loop-byte.invariant in
    let byte : ℕ = get_or c.args.text.now c.loop-byte.byte-index 0 in
    let small : c.from-digit.result ≤ 9223372036854775807 = omega (arith, c.from-digit.ensures, c.if-not-is_ascii_digit.ensures.cases) in
    let next : ℕ = c.loop-byte.value * 10 + c.from-digit.result in
    let e = sym (value-on c.args.text.now c.loop-byte.byte-index c.loop-byte.value c.from-digit.result c.loop-byte-test.true c.if-not-is_ascii_digit.ensures.value c.from-digit.ensures) ∙ i.0 in
    sym (at_most-large (value_from 0 c.args.text.now)
    (omega (arith, e, value-grows next (drop (c.loop-byte.byte-index + 1) c.args.text.now), too-wide c.loop-byte.value c.from-digit.result 9223372036854775807 small c.if-value-digit.true)))

pub loop-byte-preserved : goal.loop-byte-preserved
loop-byte-preserved c =
    let i = c.loop-byte.invariant in
    let small : c.from-digit.result ≤ 9223372036854775807 = omega (arith, c.from-digit.ensures, c.if-not-is_ascii_digit.ensures.cases) in (
      sym (value-on c.args.text.now c.loop-byte.byte-index c.loop-byte.value c.from-digit.result c.loop-byte-test.true c.if-not-is_ascii_digit.ensures.value c.from-digit.ensures) ∙ i.0,
      within c.loop-byte.value c.from-digit.result 9223372036854775807 small c.if-value-digit.false,
    )

pub returns : goal.returns
returns c =
    let i = c.loop-byte.invariant in
    let e = sym (value-ends c.args.text.now c.loop-byte.byte-index c.loop-byte.value c.loop-byte-test.false) ∙ i.0 in
    e ∙ sym (at_most-small (value_from 0 c.args.text.now) (omega (arith, e, i.1)))
