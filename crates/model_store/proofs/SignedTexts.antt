-- Whole numbers in decimal are text of ASCII.
use Rattle.std.proofs.Common.{◌≡◌, suc, true, refl, arith, ℤ, pos, negsuc, FitsSigned, w64}
use Rattle.std.specs.Fmt.{signed_decimal}
use Rattle.std.specs.List.{list_all}
use Rattle.std.proofs.lemmas.Bool.{and_from}
use Rattle.atl_base.specs.XmlText.{is_ascii_text}
use Rattle.model_store.proofs.Digits.{decimal_ascii}

pub signed_ascii : (z : ℤ) → FitsSigned w64 z → list_all is_ascii_text (signed_decimal z) ≡ true
signed_ascii (pos n) h = decimal_ascii n (omega (arith, h.sfits))
signed_ascii (negsuc n) h = and_from _ _ refl (decimal_ascii (suc n) (omega (arith, h.sfits)))
