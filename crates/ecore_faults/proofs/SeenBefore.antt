-- The names that stand before an element, and one element more.
use Rattle.std.proofs.Common.{◌≡◌, ℕ, zero, suc, ◌+◌, ◌-◌, List, [], ◌∷◌, ◌++◌, refl, sym, ap, ◌∙◌, arith}
use Rattle.std.specs.Prelude.{Bool, true, false, cond, ◌==◌, ◌&&◌, ◌||◌, nat_lt, bytes_eq, Option, option_map, if◌then◌else◌}
use Rattle.std.specs.List.{list_any}
use Rattle.std.proofs.lemmas.Bool.{lt-ltb}
use Rattle.std.proofs.lemmas.List.Folds.{list_any-append}
use Rattle.ecore_faults.specs.declared.earlier_names.Seen.{Seen}
use Rattle.xmi_text.specs.Markup.{Site}
use Rattle.ecore_outline.specs.declared.outline.Role.{Role}
use Rattle.ecore_outline.specs.declared.outline.Role.TheVariants.{Package, Class, Enum, Data, Literal}
use Rattle.ecore_outline.specs.Outline.{Entry, entry, is_package_role, is_class_role, is_classifier_role, is_enum_role, count, name_of}
use Rattle.ecore_outline.specs.Enumerations.{is_literal_role, literal_text, literals_from, literals_of}
use Rattle.ecore_rows.specs.Rows.{twice_seen}
use Rattle.ecore_outline.specs.Forms.{uri_of, prefix_of}
use Rattle.ecore_faults.specs.Faults.{Fault, TwiceName, when, or_else, is_same_package, is_same_classifier, is_same_literal, twice_fault}
use Rattle.xmi_text.specs.Keys.{is_key}
use Rattle.ecore_faults.specs.Seen.{has_key, AreSeen, repeats}
use Rattle.ecore_names.proofs.OwnRows.{same_suc, zero_suc}
use Rattle.ecore_faults.proofs.Roles.{classes}
use Rattle.xmi_text.proofs.Tests.{false-true, true-false}

pub or_cond : (b x : Bool) → cond b true x ≡ (b || x)
or_cond true x = refl
or_cond false x = refl

or_swap : (a b : Bool) → (b || a) ≡ (a || (b || false))
or_swap true true = refl
or_swap true false = refl
or_swap false true = refl
or_swap false false = refl

or_nothing : (a : Bool) → a ≡ (a || false)
or_nothing true = refl
or_nothing false = refl

-- ## Two tests at once

spread : (p a b A B : Bool) → ((p && (a || b)) || (A || B)) ≡ (((p && a) || A) || ((p && b) || B))
spread true true b A B = refl
spread true false true true B = refl
spread true false true false B = refl
spread true false false A B = refl
spread false a b A B = refl

pub any_either : {X : Type 0} (p a b : X → Bool) (xs : List X) → list_any (λ x. p x && (a x || b x)) xs ≡ (list_any (λ x. p x && a x) xs || list_any (λ x. p x && b x) xs)
any_either p a b [] = refl
any_either p a b (x ∷ xs) =
    ap (λ t. (p x && (a x || b x)) || t) (any_either p a b xs)
    ∙ spread (p x) (a x) (b x) (list_any (λ x. p x && a x) xs) (list_any (λ x. p x && b x) xs)

pub any_of_two : {X : Type 0} (a b : X → Bool) (xs : List X) → list_any (λ x. a x || b x) xs ≡ (list_any a xs || list_any b xs)
any_of_two a b xs = any_either (λ x. true) a b xs

module _ (before : List Entry) (e : Entry) (s : Seen) (h : AreSeen before s) where
  pub package_before : (is_package_role e.role && (has_key s.uris 0 (uri_of e) || has_key s.prefixes 0 (prefix_of e))) ≡ (is_package_role e.role && list_any (is_same_package [] e) before)
  package_before = ap (λ b. is_package_role e.role && b)
      (ap (λ b. b || has_key s.prefixes 0 (prefix_of e)) (h.uris (uri_of e))
      ∙ ap (λ b. list_any (λ o. is_package_role o.role && bytes_eq (uri_of o) (uri_of e)) before || b) (h.prefixes (prefix_of e))
      ∙ sym (any_either (λ o. is_package_role o.role) (λ o. bytes_eq (uri_of o) (uri_of e)) (λ o. bytes_eq (prefix_of o) (prefix_of e)) before))

  pub classifier_before : (is_classifier_role e.role && has_key s.classifiers 0 (name_of e)) ≡ (is_classifier_role e.role && list_any (is_same_classifier [] e) before)
  classifier_before = ap (λ b. is_classifier_role e.role && b) (h.classifiers (name_of e))

  pub literal_before : (enums : ℕ) → enums ≡ count is_enum_role before
      → (is_literal_role e.role && (has_key s.names (enums - 1) (name_of e) || has_key s.texts (enums - 1) (literal_text e)))
      ≡ (is_literal_role e.role && list_any (is_same_literal [] e) (literals_of before (count is_enum_role before - 1)))
  literal_before enums n = ap (λ b. is_literal_role e.role && b)
      (ap (λ b. b || has_key s.texts (enums - 1) (literal_text e)) (h.names (enums - 1) (name_of e))
      ∙ ap (λ b. list_any (λ l. bytes_eq (name_of l) (name_of e)) (literals_of before (enums - 1)) || b) (h.texts (enums - 1) (literal_text e))
      ∙ sym (any_of_two (λ l. bytes_eq (name_of l) (name_of e)) (λ l. bytes_eq (literal_text l) (literal_text e)) (literals_of before (enums - 1)))
      ∙ ap (λ k. list_any (is_same_literal [] e) (literals_of before (k - 1))) n)

-- ## One of three

pub first_of_three : (x a b c : Bool) → x ≡ a → x ≡ true → true ≡ (a || (b || c))
first_of_three true true b c h t = refl
first_of_three true false b c h t = absurd (true-false h)
first_of_three false a b c h t = absurd (false-true t)

pub second_of_three : (x y a b c : Bool) → x ≡ a → x ≡ false → y ≡ b → y ≡ true → true ≡ (a || (b || c))
second_of_three true y a b c h f k t = absurd (true-false f)
second_of_three false y true b c h f k t = absurd (false-true h)
second_of_three false true false true c h f k t = refl
second_of_three false true false false c h f k t = absurd (true-false k)
second_of_three false false false b c h f k t = absurd (false-true t)

pub third_of_three : (x y z a b c : Bool) → x ≡ a → x ≡ false → y ≡ b → y ≡ false → z ≡ c → z ≡ (a || (b || c))
third_of_three true y z a b c h f k g m = absurd (true-false f)
third_of_three false y z true b c h f k g m = absurd (false-true h)
third_of_three false true z false b c h f k g m = absurd (true-false g)
third_of_three false false z false true c h f k g m = absurd (false-true k)
third_of_three false false z false false c h f k g m = m

-- ## One element more

literals_push : (enum n : ℕ) (part : List Entry) (e : Entry)
    → literals_from enum n (part ++ (e ∷ [])) ≡ literals_from enum n part ++ (if is_enum_role e.role then [] else if is_literal_role e.role && (n + count is_enum_role part) == suc enum then e ∷ [] else [])
literals_push enum n [] e =
    let same : n ≡ n + 0 = omega arith in
    ap (λ k. if is_enum_role e.role then [] else if is_literal_role e.role && k == suc enum then e ∷ [] else []) same
literals_push enum n (d ∷ part) e = by (is_enum_role d.role) (is_literal_role d.role && n == suc enum) (literals_push enum (suc n) part e) (literals_push enum n part e)
  where
    last : ℕ → List Entry
    last k = if is_enum_role e.role then [] else if is_literal_role e.role && k == suc enum then e ∷ [] else []

    by : (en li : Bool) → literals_from enum (suc n) (part ++ (e ∷ [])) ≡ literals_from enum (suc n) part ++ last (suc n + count is_enum_role part)
        → literals_from enum n (part ++ (e ∷ [])) ≡ literals_from enum n part ++ last (n + count is_enum_role part)
        → (if en then literals_from enum (suc n) (part ++ (e ∷ [])) else if li then d ∷ literals_from enum n (part ++ (e ∷ [])) else literals_from enum n (part ++ (e ∷ [])))
        ≡ (if en then literals_from enum (suc n) part else if li then d ∷ literals_from enum n part else literals_from enum n part) ++ last (n + (if en then suc (count is_enum_role part) else count is_enum_role part))
    by true li a b =
        let same : suc n + count is_enum_role part ≡ n + suc (count is_enum_role part) = omega arith in
        a ∙ ap (λ k. literals_from enum (suc n) part ++ last k) same
    by false true a b = ap (λ l. d ∷ l) b
    by false false a b = b

no_literal : (r : Role) → is_enum_role r ≡ true → is_literal_role r ≡ false
no_literal Literal h = absurd (false-true h)
no_literal r h = refl

-- a literal among those of its enumeration
literal_more : (f : Entry → List ℕ) (part : List Entry) (e : Entry) (enums n : ℕ) (q : List ℕ) → enums ≡ count is_enum_role part
    → (((nat_lt 0 enums && is_literal_role e.role) && is_key n q (enums - 1, f e)) || list_any (λ l. bytes_eq (f l) q) (literals_of part n)) ≡ list_any (λ l. bytes_eq (f l) q) (literals_of (part ++ (e ∷ [])) n)
literal_more f part e enums n q h =
    by enums (nat_lt 0 enums) (is_enum_role e.role) (is_literal_role e.role) refl (no_literal e.role)
    ∙ sym (list_any-append (λ l. bytes_eq (f l) q) (literals_of part n) (last enums))
    ∙ ap (λ k. list_any (λ l. bytes_eq (f l) q) (literals_of part n ++ last k)) (h ∙ none_more)
    ∙ ap (list_any (λ l. bytes_eq (f l) q)) (sym (literals_push n 0 part e))
  where
    none_more : count is_enum_role part ≡ 0 + count is_enum_role part
    none_more = omega arith

    A : Bool
    A = list_any (λ l. bytes_eq (f l) q) (literals_of part n)

    last : ℕ → List Entry
    last k = if is_enum_role e.role then [] else if is_literal_role e.role && k == suc n then e ∷ [] else []

    here : (k : ℕ) (s t : Bool) → s ≡ t → ((s && bytes_eq (f e) q) || A) ≡ (A || list_any (λ l. bytes_eq (f l) q) (if true && t then e ∷ [] else []))
    here k true true g = or_swap A (bytes_eq (f e) q)
    here k false false g = or_nothing A
    here k true false g = absurd (true-false g)
    here k false true g = absurd (false-true g)

    by : (k : ℕ) (m en li : Bool) → m ≡ nat_lt 0 k → (en ≡ true → li ≡ false)
        → (((m && li) && is_key n q (k - 1, f e)) || A) ≡ (A || list_any (λ l. bytes_eq (f l) q) (if en then [] else if li && k == suc n then e ∷ [] else []))
    by k m true true t g = absurd (true-false (g refl))
    by k true true false t g = or_nothing A
    by k false true false t g = or_nothing A
    by k true false false t g = or_nothing A
    by k false false false t g = or_nothing A
    by zero true false true t g = absurd (true-false t)
    by zero false false true t g = or_nothing A ∙ ap (λ t. A || list_any (λ l. bytes_eq (f l) q) (if t then e ∷ [] else [])) (sym (zero_suc n))
    by (suc k) true false true t g =
        let less : suc k - 1 ≡ k = omega arith in
        ap (λ j. is_key n q (j, f e) || A) less ∙ here k (k == n) (suc k == suc n) (sym (same_suc k n))
    by (suc k) false false true t g = absurd (false-true (t ∙ lt-ltb 0 (suc k) (omega arith)))

any_more : (test : Entry → Bool) (part : List Entry) (e : Entry) → (test e || list_any test part) ≡ list_any test (part ++ (e ∷ []))
any_more test part e = or_swap (list_any test part) (test e) ∙ sym (list_any-append test part (e ∷ []))

pub seen_more : (part : List Entry) (e : Entry) (old new : Seen) (enums : ℕ) → enums ≡ count is_enum_role part
    → ((n : ℕ) (q : List ℕ) → has_key new.uris n q ≡ ((is_package_role e.role && is_key n q (0, uri_of e)) || has_key old.uris n q))
    → ((n : ℕ) (q : List ℕ) → has_key new.prefixes n q ≡ ((is_package_role e.role && is_key n q (0, prefix_of e)) || has_key old.prefixes n q))
    → ((n : ℕ) (q : List ℕ) → has_key new.classifiers n q ≡ ((is_classifier_role e.role && is_key n q (0, name_of e)) || has_key old.classifiers n q))
    → ((n : ℕ) (q : List ℕ) → has_key new.names n q ≡ (((nat_lt 0 enums && is_literal_role e.role) && is_key n q (enums - 1, name_of e)) || has_key old.names n q))
    → ((n : ℕ) (q : List ℕ) → has_key new.texts n q ≡ (((nat_lt 0 enums && is_literal_role e.role) && is_key n q (enums - 1, literal_text e)) || has_key old.texts n q))
    → AreSeen part old → AreSeen (part ++ (e ∷ [])) new
seen_more part e old new enums h uris prefixes classifiers names texts was = record {
  uris = λ q. uris 0 q ∙ ap (λ b. (is_package_role e.role && bytes_eq (uri_of e) q) || b) (was.uris q) ∙ any_more (λ o. is_package_role o.role && bytes_eq (uri_of o) q) part e;
  prefixes = λ q. prefixes 0 q ∙ ap (λ b. (is_package_role e.role && bytes_eq (prefix_of e) q) || b) (was.prefixes q) ∙ any_more (λ o. is_package_role o.role && bytes_eq (prefix_of o) q) part e;
  classifiers = λ q. classifiers 0 q ∙ ap (λ b. (is_classifier_role e.role && bytes_eq (name_of e) q) || b) (was.classifiers q) ∙ any_more (λ o. is_classifier_role o.role && bytes_eq (name_of o) q) part e;
  names = λ n q. names n q ∙ ap (λ b. ((nat_lt 0 enums && is_literal_role e.role) && is_key n q (enums - 1, name_of e)) || b) (was.names n q) ∙ literal_more name_of part e enums n q h;
  texts = λ n q. texts n q ∙ ap (λ b. ((nat_lt 0 enums && is_literal_role e.role) && is_key n q (enums - 1, literal_text e)) || b) (was.texts n q) ∙ literal_more literal_text part e enums n q h;
}

-- ## What repeats a name

pub class_repeats : (file before : List Entry) (found : Option Fault) (e : Entry) → is_class_role e.role ≡ true
    → found ≡ or_else (when (repeats before e) TwiceName (name_of e)) (option_map (λ n. (TwiceName, n)) (twice_seen file (count is_class_role before)))
    → found ≡ twice_fault file before e
class_repeats file before found =
    classes (λ e. found ≡ or_else (when (repeats before e) TwiceName (name_of e)) (option_map (λ n. (TwiceName, n)) (twice_seen file (count is_class_role before))) → found ≡ twice_fault file before e)
    (λ s h. h ∙ ap (λ b. or_else (when b TwiceName (name_of (entry Class s))) (option_map (λ n. (TwiceName, n)) (twice_seen file (count is_class_role before)))) (sym (or_nothing (list_any (is_same_classifier [] (entry Class s)) before))))

pub other_repeats : (file before : List Entry) (e : Entry) → is_class_role e.role ≡ false → when (repeats before e) TwiceName (name_of e) ≡ twice_fault file before e
other_repeats file before e = by e.role e.site
  where
    told : (a b : Bool) (n : List ℕ) → a ≡ b → when a TwiceName n ≡ when b TwiceName n
    told a b n h = ap (λ b. when b TwiceName n) h

    by : (r : Role) (s : Site) → is_class_role r ≡ false → when (repeats before (entry r s)) TwiceName (name_of (entry r s)) ≡ twice_fault file before (entry r s)
    by Class s h = absurd (true-false h)
    by Package s h = told _ _ (name_of (entry Package s)) (sym (or_nothing (list_any (is_same_package [] (entry Package s)) before)))
    by Enum s h = told _ _ (name_of (entry Enum s)) (sym (or_nothing (list_any (is_same_classifier [] (entry Enum s)) before)))
    by Data s h = told _ _ (name_of (entry Data s)) (sym (or_nothing (list_any (is_same_classifier [] (entry Data s)) before)))
    by Literal s h = refl
    by r s h = refl
