-- Where the characters that are passed over end.
use Rattle.std.proofs.Common.{◌≡◌, ◌∙◌, ◌<◌, ◌==◌, ℕ, false, List, length, drop, get_or, drop-cons, refl, ap}
use Rattle.atl_cli.specs.Format.{is_passed, opens_element}

pub ends_at : (bytes : List ℕ) (i : ℕ) → i < length bytes → is_passed (get_or bytes i 0) ≡ false → opens_element (drop i bytes) ≡ (get_or bytes i 0 == 60)
ends_at bytes i within e = ap opens_element (drop-cons bytes i 0 within) ∙ rw e refl
