use Rattle.std.proofs.Common.{◌≡◌, true, sym, subst, List, ℕ, ◌<◌, ◌^◌, arith}
use Rattle.std.specs.List.{list_all}
use Rattle.atl_base.specs.XmlText.{is_ascii_text}
use Rattle.atl_cli.proofs.Digits.{decimal_ascii}
use Rattle.atl_cli.proofs.status.push_number.Goals as goal

pub push_ascii-requires : goal.push_ascii-requires
push_ascii-requires c =
    let small : c.args.number < 2 ^ 64 = omega arith in
    subst (λ (l : List ℕ). list_all is_ascii_text l ≡ true) (sym c.format.ensures.text) (decimal_ascii c.args.number small)
