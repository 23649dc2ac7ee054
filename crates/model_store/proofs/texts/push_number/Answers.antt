use Rattle.std.proofs.Common.{◌≡◌, List, ℕ, ℤ, true, sym, subst, w64}
use Rattle.std.specs.Fmt.{signed_decimal}
use Rattle.std.specs.List.{list_all}
use Rattle.std.proofs.lemmas.Int.{to_z-of_z}
use Rattle.atl_base.specs.XmlText.{is_ascii_text}
use Rattle.model_store.proofs.SignedTexts.{signed_ascii}
use Rattle.model_store.proofs.texts.push_number.Goals as goal

pub push_ascii-requires : goal.push_ascii-requires
push_ascii-requires c =
    let fits = c.ranges.number in
    let ascii : list_all is_ascii_text (signed_decimal c.args.number) ≡ true = signed_ascii c.args.number fits in
    subst (λ (l : List ℕ). list_all is_ascii_text l ≡ true) (sym c.format.ensures.text)
    (subst (λ (z : ℤ). list_all is_ascii_text (signed_decimal z) ≡ true) (sym (to_z-of_z w64 c.args.number fits)) ascii)
