-- How many elements are open at once in an element: one more than in any that stands in it.
use Rattle.std.proofs.Common.{◌≡◌, ℕ, suc, ◌≤◌, Bool, true, false, List, [], ◌∷◌, map, refl, sym, ap, subst, ◌∙◌, arith}
use Rattle.std.specs.Prelude.{nat_le, if◌then◌else◌, All}
use Rattle.std.proofs.lemmas.Bool.{leb-true, leb-false}
use Rattle.std.proofs.lemmas.List.Elements.{All-cons, All-nil}
use Rattle.doc_text.specs.declared.tree.Child.{Child, fold-Child, fold_out-Child, map-Child}
use Rattle.doc_text.specs.declared.tree.Child.TheVariants as child
use Rattle.doc_text.specs.declared.tree.Element.{Element, fold_out-Element}
use Rattle.xmi_round_trip.specs.RoundTrip.{greater, greatest, opened, opened_child}

-- ## The greatest of some numbers

-- the greater of two is no less than the first
greater_left : (a b : ℕ) → a ≤ greater a b
greater_left a b = on (nat_le a b) refl
  where
    on : (x : Bool) → nat_le a b ≡ x → a ≤ (if x then b else a)
    on true e = leb-true a b e
    on false e = omega arith

-- nor than the second
greater_right : (a b : ℕ) → b ≤ greater a b
greater_right a b = on (nat_le a b) refl
  where
    on : (x : Bool) → nat_le a b ≡ x → b ≤ (if x then b else a)
    on true e = omega arith
    on false e = omega (arith, leb-false a b e)

-- ## Elements

-- of a child as it stands in its element
unfoldable opened_in : Child → ℕ
opened_in = fold-Child ℕ ℕ opened_child (λ e. suc (greatest e.children))

-- in an element there is one more open than the most in a child
opened_is : (e : Element) → opened e ≡ suc (greatest (map opened_in e.children))
unfolding opened opened_in
opened_is e = fold_out-Element ℕ ℕ opened_child (λ e. suc (greatest e.children)) e

-- in a child that is an element there are as many open as in the element
opened_sub : (e : Element) → opened_in (child.Sub e) ≡ opened e
unfolding opened opened_in
opened_sub e = fold_out-Child ℕ ℕ opened_child (λ e. suc (greatest e.children)) (child.Sub e)
    ∙ ap (λ l. opened_child (map-Child Child Element ℕ ℕ opened_in opened l)) (child.outs-Sub e)

-- a bound on the greatest is one on each of these elements
below_greatest : (es : List Element) (n : ℕ) → greatest (map opened_in (map child.Sub es)) ≤ n → All (λ e. opened e ≤ n) es
below_greatest [] n h = All-nil (λ e. opened e ≤ n)
below_greatest (e ∷ es) n h =
    let here : opened e ≤ n = omega (arith, h, opened_sub e, greater_left (opened_in (child.Sub e)) (greatest (map opened_in (map child.Sub es)))) in
    let later : greatest (map opened_in (map child.Sub es)) ≤ n = omega (arith, h, greater_right (opened_in (child.Sub e)) (greatest (map opened_in (map child.Sub es)))) in
    All-cons (λ e. opened e ≤ n) e es here (below_greatest es n later)

-- an element that is opened is one itself
pub opened_some : (e : Element) → opened e ≤ 0 → ⊥
opened_some e h = absurd (omega (arith, h, opened_is e))

-- and what stands in it has less open
pub opened_below : (e : Element) (es : List Element) (n : ℕ) → map child.Sub es ≡ e.children → opened e ≤ suc n → All (λ x. opened x ≤ n) es
opened_below e es n same h =
    below_greatest es n (subst (λ cs. greatest (map opened_in cs) ≤ n) (sym same) (let is : opened e ≡ suc (greatest (map opened_in e.children)) = opened_is e in omega (arith, h, is)))
