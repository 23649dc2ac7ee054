-- Where prefixes are declared first in a growing list of attributes, and what is declared there.
use Rattle.std.proofs.Common.{◌≡◌, ℕ, suc, ◌<◌, List, [], ◌∷◌, ◌++◌, length, get_or, refl, ap, sym, subst, ◌∙◌, arith}
use Rattle.std.specs.Prelude.{Bool, true, false, ◌&&◌, if◌then◌else◌, bytes_eq, Option, Some, None, IfSome, MatchOption, is_some}
use Rattle.std.specs.Option.{option_map, option_or}
use Rattle.std.proofs.lemmas.Slice.Eq.{bytes_eq-Decides}
use Rattle.doc_text.specs.Declarations.{is_declaration, declared_prefix, declares, first_of}
use Rattle.doc_text.specs.Namespaces.{own_uri}
use Rattle.doc_text.specs.declared.state.Pair.{Pair}
use Rattle.doc_text.proofs.Resolving.{last_same}

more_cases : (b d : Bool) (r : Option ℕ) (n : ℕ) →
    (if b then Some 0 else option_map (λ i. suc i) (option_or r (if d then Some n else None))) ≡ option_or (if b then Some 0 else option_map (λ i. suc i) r) (if d then Some (suc n) else None)
more_cases true d r n = refl
more_cases false d (Some i) n = refl
more_cases false true None n = refl
more_cases false false None n = refl

first_more : (q : List ℕ) (xs : List Pair) (a : Pair) → first_of q (xs ++ (a ∷ [])) ≡ option_or (first_of q xs) (if declares q a then Some (length xs) else None)
first_more q [] a = refl
first_more q (x ∷ xs) a = ap (λ r. if declares q x then Some 0 else option_map (λ i. suc i) r) (first_more q xs a) ∙ more_cases (declares q x) (declares q a) (first_of q xs) (length xs)

or_none : (r : Option ℕ) → option_or r None ≡ r
or_none None = refl
or_none (Some i) = refl

and_false : (b : Bool) → (b && false) ≡ false
and_false true = refl
and_false false = refl

-- an attribute that declares nothing of a prefix
apart : (q : List ℕ) (xs : List Pair) (a : Pair) → declares q a ≡ false → first_of q xs ≡ first_of q (xs ++ (a ∷ []))
apart q xs a h = sym (or_none (first_of q xs)) ∙ ap (λ b. option_or (first_of q xs) (if b then Some (length xs) else None)) (sym h) ∙ sym (first_more q xs a)

-- an attribute that is no declaration
pub plain_more : (q : List ℕ) (xs : List Pair) (a : Pair) → is_declaration a.name ≡ false → first_of q xs ≡ first_of q (xs ++ (a ∷ []))
plain_more q xs a h = apart q xs a (ap (λ b. b && bytes_eq (declared_prefix a.name) q) h)

-- one that declares its prefix again
again_cases : (q p : List ℕ) (xs : List Pair) (a : Pair) (i : ℕ) (b : Bool) → declared_prefix a.name ≡ p → bytes_eq p q ≡ b → first_of p xs ≡ Some i → first_of q xs ≡ first_of q (xs ++ (a ∷ []))
again_cases q p xs a i true named is there =
    let same : p ≡ q = (bytes_eq-Decides p q).0 is in
    let here : first_of q xs ≡ Some i = ap (λ s. first_of s xs) (sym same) ∙ there in
    here ∙ ap (λ r. option_or r (if declares q a then Some (length xs) else None)) (sym here) ∙ sym (first_more q xs a)
again_cases q p xs a i false named is there =
    apart q xs a (ap (λ s. is_declaration a.name && bytes_eq s q) named ∙ ap (λ b. is_declaration a.name && b) is ∙ and_false (is_declaration a.name))

pub again_more : (q p : List ℕ) (xs : List Pair) (a : Pair) (r : Option ℕ) → declared_prefix a.name ≡ p → r ≡ first_of p xs → is_some r ≡ true → first_of q xs ≡ first_of q (xs ++ (a ∷ []))
again_more q p xs a None named there some = cc
again_more q p xs a (Some i) named there some = again_cases q p xs a i (bytes_eq p q) named refl (sym there)

-- and the first that does
first_cases : (q p : List ℕ) (xs : List Pair) (a : Pair) (b : Bool) → is_declaration a.name ≡ true → declared_prefix a.name ≡ p → bytes_eq p q ≡ b → first_of p xs ≡ None →
    (if b then Some (length xs) else first_of q xs) ≡ first_of q (xs ++ (a ∷ []))
first_cases q p xs a true declared named is none =
    let same : p ≡ q = (bytes_eq-Decides p q).0 is in
    ap (λ r. option_or r (Some (length xs))) (sym none ∙ ap (λ s. first_of s xs) same)
    ∙ ap (λ b. option_or (first_of q xs) (if b then Some (length xs) else None)) (sym (ap (λ s. is_declaration a.name && bytes_eq s q) named ∙ ap (λ b. is_declaration a.name && b) is ∙ ap (λ b. b && true) declared))
    ∙ sym (first_more q xs a)
first_cases q p xs a false declared named is none =
    apart q xs a (ap (λ s. is_declaration a.name && bytes_eq s q) named ∙ ap (λ b. is_declaration a.name && b) is ∙ and_false (is_declaration a.name))

pub declared_more : (q p : List ℕ) (xs : List Pair) (a : Pair) (place : ℕ) → is_declaration a.name ≡ true → declared_prefix a.name ≡ p → first_of p xs ≡ None → place ≡ length xs →
    (if bytes_eq p q then Some place else first_of q xs) ≡ first_of q (xs ++ (a ∷ []))
declared_more q p xs a place declared named none at = ap (λ n. if bytes_eq p q then Some n else first_of q xs) at ∙ first_cases q p xs a (bytes_eq p q) declared named refl none

-- the place is within the list
within_more : (n : ℕ) (r : Option ℕ) → IfSome r (λ i. i < n) → IfSome (option_map (λ i. suc i) r) (λ i. i < suc n)
within_more n None h = h
within_more n (Some i) h = omega (arith, h)

within_cases : (b : Bool) (n : ℕ) (r : Option ℕ) → IfSome r (λ i. i < n) → IfSome (if b then Some 0 else option_map (λ i. suc i) r) (λ i. i < suc n)
within_cases true n r h = omega arith
within_cases false n r h = within_more n r h

first_within : (q : List ℕ) (ps : List Pair) → IfSome (first_of q ps) (λ i. i < length ps)
first_within q [] = tt
first_within q (a ∷ ps) = within_cases (declares q a) (length ps) (first_of q ps) (first_within q ps)

pub place_within : (q : List ℕ) (ps : List Pair) (r : Option ℕ) → r ≡ first_of q ps → IfSome r (λ i. i < length ps)
place_within q ps r is = let P : Option ℕ → Type 0 = λ s. IfSome s (λ i. i < length ps) in subst P (sym is) (first_within q ps)

-- what is declared there
abbrev uri_at : (ps : List Pair) (d : Pair) → Option ℕ → Option (List ℕ) → Option (List ℕ)
uri_at ps d None outer = outer
uri_at ps d (Some i) outer = Some (get_or ps i d).value

uri_cases : (b : Bool) (a : Pair) (ps : List Pair) (d : Pair) (r : Option ℕ) (outer rest : Option (List ℕ)) → rest ≡ uri_at ps d r outer →
    (if b then Some a.value else rest) ≡ uri_at (a ∷ ps) d (if b then Some 0 else option_map (λ i. suc i) r) outer
uri_cases true a ps d r outer rest h = refl
uri_cases false a ps d None outer rest h = h
uri_cases false a ps d (Some i) outer rest h = h

uri_is : (q : List ℕ) (ps : List Pair) (d : Pair) (outer : Option (List ℕ)) → own_uri q ps outer ≡ uri_at ps d (first_of q ps) outer
uri_is q [] d outer = refl
uri_is q (a ∷ ps) d outer = uri_cases (declares q a) a ps d (first_of q ps) outer (own_uri q ps outer) (uri_is q ps d outer)

pub uri_of_first : (q : List ℕ) (ps : List Pair) (d : Pair) (i : ℕ) (outer : Option (List ℕ)) → Some i ≡ first_of q ps → own_uri q ps outer ≡ Some (get_or ps i d).value
uri_of_first q ps d i outer is = uri_is q ps d outer ∙ ap (λ r. uri_at ps d r outer) (sym is)

pub uri_undeclared : (q : List ℕ) (ps : List Pair) (outer : Option (List ℕ)) → None ≡ first_of q ps → own_uri q ps outer ≡ outer
uri_undeclared q [] outer is = refl
uri_undeclared q (a ∷ ps) outer is = uri_is q (a ∷ ps) a outer ∙ ap (λ r. uri_at (a ∷ ps) a r outer) (sym is)

-- what was added last is taken again
no_nil : (xs : List Pair) (x : Pair) → xs ++ (x ∷ []) ≡ [] → ⊥
no_nil [] x h = cc
no_nil (y ∷ xs) x h = cc

pub taken_again : (old new xs : List Pair) (x : Pair) (r : Option Pair) → old ≡ xs ++ (x ∷ []) → MatchOption r ((old ≡ []) × (new ≡ [])) (λ last. old ≡ new ++ (last ∷ [])) → new ≡ xs
taken_again old new xs x None is h = absurd (no_nil xs x (sym is ∙ h.0))
taken_again old new xs x (Some y) is h = (last_same new xs y x (sym h ∙ is)).0
