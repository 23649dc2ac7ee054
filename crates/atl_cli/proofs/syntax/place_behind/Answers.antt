use Rattle.std.proofs.Common.{◌∙◌, length, ap, sym, subst, arith}
use Rattle.std.specs.Str.{IsUtf8}
use Rattle.atl_base.proofs.XmlTexts.{IsUtf8-from_text}
use Rattle.atl_cli.proofs.Places.{behind_mark, behind_shorter}
use Rattle.atl_cli.proofs.syntax.place_behind.Goals as goal

pub place_after-requires : goal.place_after-requires
place_after-requires c =
    let same = ap length (c.in-Ok.ensures.cases.0 ∙ c.without_mark.ensures) in
    omega (arith, same, behind_shorter c.args.front.now, c.requires.short)

pub unreachable-requires : goal.unreachable-requires
unreachable-requires c =
    c.in-Err.ensures.cases.0 (subst IsUtf8 (sym c.without_mark.ensures) (behind_mark c.args.front.now (IsUtf8-from_text c.args.front.now c.requires.text)))
