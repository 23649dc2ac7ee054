-- The first of several values.
use Rattle.std.proofs.Common.{◌≡◌, ℕ, zero, suc, ◌<◌, ◌≤◌, List, [], ◌∷◌, length, get_or, map, refl, arith, Bor}
use Rattle.std.specs.Prelude.{Bool, true, false, find, filter_map, Some, None, option_map, if◌then◌else◌}
use Rattle.std.specs.List.{cons_option}
use Rattle.atl_base.specs.XmlText.{IsXmlText}
use Rattle.doc_text.specs.declared.tree.Attribute.{Attribute}
use Rattle.xmi_text.proofs.TextWords.{AreWordTexts}
use Rattle.xmi_models.specs.Faults.{Kind, of_kind, second}

-- ## Words of a text

pub text_at : (ws : List (List ℕ)) (k : ℕ) (d : List ℕ) → AreWordTexts ws → k < length ws → IsXmlText (get_or ws k d)
text_at [] k d h l = absurd (omega (arith, l))
text_at (w ∷ ws) zero d h l = h.0
text_at (w ∷ ws) (suc k) d h l = text_at ws k d h.1 (omega (arith, l))

pub get_now : (ws : List (Bor (List ℕ))) (k : ℕ) (d : Bor (List ℕ)) → get_or (map (λ w. w.now) ws) k d.now ≡ (get_or ws k d).now
get_now [] k d = refl
get_now (w ∷ ws) zero d = refl
get_now (w ∷ ws) (suc k) d = get_now ws k d

-- ## Of a kind

pub named_kind : (kind : Kind) (p : Attribute → Bool) (attributes : List Attribute) → option_map (λ (a : Attribute). (kind, a.name)) (find p attributes) ≡ of_kind kind (filter_map (λ a. if p a then Some a.name else None) attributes)
named_kind kind p [] = refl
named_kind kind p (a ∷ attributes) = by (p a) (named_kind kind p attributes)
  where
    by : (b : Bool) → option_map (λ (a : Attribute). (kind, a.name)) (find p attributes) ≡ of_kind kind (filter_map (λ a. if p a then Some a.name else None) attributes)
        → option_map (λ (a : Attribute). (kind, a.name)) (if b then Some a else find p attributes) ≡ of_kind kind (cons_option (if b then Some a.name else None) (filter_map (λ a. if p a then Some a.name else None) attributes))
    by true h = refl
    by false h = h

-- ## The second word

pub second_short : (ws : List (List ℕ)) → length ws < 2 → None ≡ second ws
second_short [] h = refl
second_short (a ∷ []) h = refl
second_short (a ∷ b ∷ ws) h = absurd (omega (arith, h))

pub second_there : (ws : List (List ℕ)) → 2 ≤ length ws → Some (get_or ws 1 []) ≡ second ws
second_there [] h = absurd (omega (arith, h))
second_there (a ∷ []) h = absurd (omega (arith, h))
second_there (a ∷ b ∷ ws) h = refl
