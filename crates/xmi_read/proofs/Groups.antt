-- The packages and enumerations of a file; what belongs to an enumeration are the literals behind it, in front of the next one.
use Rattle.std.proofs.Common.{◌≡◌, ℕ, suc, ◌≤◌, ◌<◌, List, [], ◌∷◌, map, refl, sym, ap, ◌∙◌, arith}
use Rattle.std.specs.Prelude.{Bool, true, false, cond, ◌==◌, ◌&&◌, filter, if◌then◌else◌}
use Rattle.std.proofs.lemmas.Bool.{eq-eqb, ne_eqb}
use Rattle.ecore_meta.specs.declared.parts.EnumDef.{EnumDef}
use Rattle.ecore_meta.specs.declared.parts.Literal.{Literal}
use Rattle.ecore_meta.specs.declared.parts.Package.{Package}
use Rattle.ecore_outline.specs.Outline.{Entry, is_package_role, is_enum_role, name_of}
use Rattle.ecore_outline.specs.Enumerations.{is_literal_role, literals_from, literals_of}
use Rattle.xmi_read.specs.Parts.{package_of, literal_of, enums_from}
use Rattle.xmi_read.specs.Groups.{package_at, packages_in, literal_at, literals_behind, enums_in}
use Rattle.xmi_text.proofs.Tests.{true-false}

-- behind the next enumeration there are none
none_past : (n m : ℕ) (es : List Entry) → suc n < m → literals_from n m es ≡ []
none_past n m [] l = refl
none_past n m (e ∷ es) l =
    by (is_enum_role e.role) (is_literal_role e.role) (m == suc n) (ne_eqb m (suc n) (λ s. omega (arith, s))) (none_past n (suc m) es (omega arith)) (none_past n m es l)
  where
    by : (enum literal here : Bool) → here ≡ false → literals_from n (suc m) es ≡ [] → literals_from n m es ≡ []
        → (if enum then literals_from n (suc m) es else if literal && here then e ∷ literals_from n m es else literals_from n m es) ≡ []
    by true literal here h past same = past
    by false true true h past same = absurd (true-false h)
    by false true false h past same = same
    by false false here h past same = same

-- behind the enumeration itself they stand in front of the next one
in_front : (file : List Entry) (n : ℕ) (es : List Entry) → map (literal_of file) (literals_from n (suc n) es) ≡ literals_behind es
in_front file n [] = refl
in_front file n (e ∷ es) =
    by (is_enum_role e.role) (is_literal_role e.role) (suc n == suc n) (eq-eqb (suc n) (suc n) refl) (none_past n (suc (suc n)) es (omega arith)) (in_front file n es)
  where
    by : (enum literal here : Bool) → here ≡ true → literals_from n (suc (suc n)) es ≡ [] → map (literal_of file) (literals_from n (suc n) es) ≡ literals_behind es
        → map (literal_of file) (if enum then literals_from n (suc (suc n)) es else if literal && here then e ∷ literals_from n (suc n) es else literals_from n (suc n) es)
        ≡ (if enum then [] else if literal then literal_at e ∷ literals_behind es else literals_behind es)
    by true literal here h past same = ap (map (literal_of file)) past
    by false true true h past same = ap (λ (l : List Literal). literal_at e ∷ l) same
    by false true false h past same = absurd (true-false (sym h))
    by false false here h past same = same

-- so many enumerations stand before, and the literals of the others are yet to come
abbrev AreToCome : List Entry → ℕ → List Entry → Type 0
AreToCome file k es = (n : ℕ) → k ≤ n → literals_from n k es ≡ literals_of file n

to_come : (file : List Entry) (k : ℕ) (e : Entry) (es : List Entry) → AreToCome file k (e ∷ es) → AreToCome file (if is_enum_role e.role then suc k else k) es
to_come file k e es h = by (is_enum_role e.role) (is_literal_role e.role) h
  where
    test : (n : ℕ) (literal here : Bool) → here ≡ false → (if literal && here then e ∷ literals_from n k es else literals_from n k es) ≡ literals_from n k es
    test n true true e = absurd (true-false e)
    test n true false e = refl
    test n false here e = refl

    by : (enum literal : Bool) → ((n : ℕ) → k ≤ n → (if enum then literals_from n (suc k) es else if literal && (k == suc n) then e ∷ literals_from n k es else literals_from n k es) ≡ literals_of file n)
        → AreToCome file (if enum then suc k else k) es
    by true literal h = λ n l. h n (omega arith)
    by false literal h = λ n l. sym (test n literal (k == suc n) (ne_eqb k (suc n) (λ s. omega (arith, s)))) ∙ h n l

-- the enumerations with the literals behind them are those with their literals
grouped : (file : List Entry) (k : ℕ) (es : List Entry) → AreToCome file k es → enums_from file k es ≡ enums_in es
grouped file k [] h = refl
grouped file k (e ∷ es) h = by (is_enum_role e.role) h (grouped file (if is_enum_role e.role then suc k else k) es (to_come file k e es h))
  where
    these : literals_from k (suc k) es ≡ literals_of file k → map (literal_of file) (literals_of file k) ≡ literals_behind es
    these h = ap (map (literal_of file)) (sym h) ∙ in_front file k es

    by : (enum : Bool) → ((n : ℕ) → k ≤ n → (if enum then literals_from n (suc k) es else if is_literal_role e.role && (k == suc n) then e ∷ literals_from n k es else literals_from n k es) ≡ literals_of file n)
        → enums_from file (if enum then suc k else k) es ≡ enums_in es
        → (if enum then record { name = name_of e; literals = map (literal_of file) (literals_of file k) } ∷ enums_from file (suc k) es else enums_from file k es)
        ≡ (if enum then record { name = name_of e; literals = literals_behind es } ∷ enums_in es else enums_in es)
    by true h rest =
        let same : k ≤ k = omega arith in
        ap (λ (ls : List Literal). record { name = name_of e; literals = ls } ∷ enums_from file (suc k) es) (these (h k same))
        ∙ ap (λ (ds : List EnumDef). record { name = name_of e; literals = literals_behind es } ∷ ds) rest
    by false h rest = rest

pub enums_grouped : (file : List Entry) → enums_in file ≡ enums_from file 0 file
enums_grouped file = sym (grouped file 0 file (λ n l. refl))

-- ## Packages

packages_among : (file es : List Entry) → packages_in es ≡ map (package_of file) (filter (λ e. is_package_role e.role) es)
packages_among file [] = refl
packages_among file (e ∷ es) = by (is_package_role e.role) (packages_among file es)
  where
    by : (b : Bool) → packages_in es ≡ map (package_of file) (filter (λ e. is_package_role e.role) es)
        → (if b then package_at e ∷ packages_in es else packages_in es) ≡ map (package_of file) (cond b (e ∷ filter (λ e. is_package_role e.role) es) (filter (λ e. is_package_role e.role) es))
    by true h = ap (λ (l : List Package). package_at e ∷ l) h
    by false h = h

pub packages_are : (file : List Entry) → packages_in file ≡ map (package_of file) (filter (λ e. is_package_role e.role) file)
packages_are file = packages_among file file
