use Rattle.std.proofs.Common.{◌≡◌, true, sym, subst, List, ℕ, rules}
use Rattle.std.specs.List.{list_all}
use Rattle.atl_base.specs.XmlText.{is_ascii_text}
use Rattle.module_print.proofs.Digits.{decimal_ascii}
use Rattle.module_print.proofs.print.token.push_number.Goals as goal

pub push_ascii-requires : goal.push_ascii-requires
push_ascii-requires c = subst (λ (l : List ℕ). list_all is_ascii_text l ≡ true) (sym c.format.ensures.text) (decimal_ascii _ (search rules))
