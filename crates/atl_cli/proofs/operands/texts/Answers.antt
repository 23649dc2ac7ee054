use Rattle.std.proofs.Common.{◌∙◌, ◌<◌, List, [], ℕ, length, sym, subst, Bor, arith}
use Rattle.std.proofs.lemmas.List.{get_or-map, length-map}
use Rattle.atl_base.specs.XmlText.{IsXmlText}
use Rattle.atl_cli.proofs.Taking.{no_offence}
use Rattle.atl_cli.proofs.operands.texts.Goals as goal

pub unreachable-requires : goal.unreachable-requires
unreachable-requires c =
    let within : c.loop-string.string-index < length c.args.strings.now = c.loop-string-test.true in
    let text = c.requires c.loop-string.string-index c.as_bytes.result.now (omega (arith, within, length-map {A = Bor (List ℕ)} {B = List ℕ})) in
    let none : Bor (List ℕ) = record { ref_ptr = (0, 0); now = [] } in
    let same = get_or-map (λ s. s.now) c.args.strings.now c.loop-string.string-index none c.as_bytes.result.now within in
    no_offence c.as_bytes.result.now c.in-Err-BadByte.field-0-0 (subst IsXmlText (same ∙ sym c.as_bytes.ensures.value) text) (rw c.in-Err-BadByte.field-0-is at c.in-Err-BadByte.ensures).refused
