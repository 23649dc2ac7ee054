-- A text is not refused for what it holds.
use Rattle.std.proofs.Common.{◌≡◌, ℕ, suc, ◌+◌, List, length, Err, sym, subst, arith}
use Rattle.std.proofs.lemmas.List.{take_all}
use Rattle.atl_base.specs.Refusal.{Refuses}
use Rattle.atl_base.specs.XmlText.{IsXmlText, IsFirstOffence}
use Rattle.atl_base.specs.declared.text.TextRefusal.{TextRefusal}
use Rattle.atl_base.specs.declared.text.TextRefusal.TheVariants.{BadByte}

no_offence : (bytes : List ℕ) (n : ℕ) → IsXmlText bytes → IsFirstOffence bytes n → ⊥
no_offence bytes n p o =
    o.longest (suc (n + length bytes)) (omega arith) (subst IsXmlText (sym (take_all (suc (n + length bytes)) bytes (omega arith))) p)

pub not_refused : (T : Type 0) (bytes : List ℕ) (refusal : TextRefusal) (n : ℕ) → IsXmlText bytes → refusal ≡ BadByte n → Refuses {T = T} (Err refusal) (IsFirstOffence bytes) → ⊥
not_refused T bytes refusal n p e r = no_offence bytes n p (subst (λ x. Refuses {T = T} (Err x) (IsFirstOffence bytes)) e r)
