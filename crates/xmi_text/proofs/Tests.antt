-- Tests that answer true or false.
use Rattle.std.proofs.Common.{◌≡◌, refl, sym, subst}
use Rattle.std.specs.Prelude.{Bool, true, false, ◌&&◌, ◌||◌}
use Rattle.std.proofs.lemmas.Bool.{or_parts}

abbrev IsNot : Bool → Type 0
IsNot true = ⊥
IsNot false = Unit {0}

pub false-true : false ≡ true → ⊥
false-true h = subst IsNot h tt

pub true-false : true ≡ false → ⊥
true-false h = subst IsNot (sym h) tt

-- where a test passes and a conjunction with it fails
pub right_fails : (a x : Bool) → a ≡ true → (a && x) ≡ false → x ≡ false
right_fails true x h k = k
right_fails false x h k = absurd (false-true h)

pub both_fail : (a x y : Bool) → a ≡ true → (a && (x || y)) ≡ false → (x ≡ false) × (y ≡ false)
both_fail true x y h k = or_parts x y k
both_fail false x y h k = absurd (false-true h)

-- ## Two tests that pass together

-- two that pass together
pub same_tests : (a b : Bool) → (a ≡ true → b ≡ true) → (b ≡ true → a ≡ true) → a ≡ b
same_tests true b f g = sym (f refl)
same_tests false true f g = g refl
same_tests false false f g = refl
