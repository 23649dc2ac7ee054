-- The literals of an enumeration are the rows of that enumeration.
use Rattle.std.proofs.Common.{◌≡◌, ℕ, zero, suc, List, [], ◌∷◌, ◌++◌, map, refl, sym, ap, ◌∙◌}
use Rattle.std.specs.Prelude.{Bool, true, false, cond, ◌==◌, ◌&&◌, ◌||◌, bytes_eq, Option, Some, option_map, is_some, slice_get, find, if◌then◌else◌}
use Rattle.std.specs.List.{list_any}
use Rattle.ecore_names.specs.declared.literals.Literals.{Literals}
use Rattle.ecore_outline.specs.declared.outline.Role.{Role}
use Rattle.ecore_outline.specs.declared.outline.Role.TheVariants.{Literal}
use Rattle.ecore_outline.specs.Outline.{Entry, is_enum_role}
use Rattle.xmi_text.specs.Options.{then_}
use Rattle.ecore_outline.specs.Enumerations.{is_literal_role, literal_text, literals_from, literals_of, first_text}
use Rattle.xmi_text.specs.Keys.{Key, is_key, has_place}
use Rattle.ecore_names.specs.Literals.{literal_keys_from, literal_keys, key_text, enum_key}
use Rattle.ecore_names.specs.FileTables.{AreLiterals}
use Rattle.ecore_names.proofs.OwnRows.{same_suc, zero_suc}
use Rattle.xmi_text.proofs.Positions.{position_map, position_any, found_at}
use Rattle.xmi_text.proofs.Tests.{true-false, false-true}

no_literal : (r : Role) → is_enum_role r ≡ true → is_literal_role r ≡ false
no_literal Literal h = absurd (false-true h)
no_literal r h = refl

module _ (enum : ℕ) where
  module _ (text : List ℕ) where
    abbrev is_text : Entry → Bool
    is_text l = bytes_eq (literal_text l) text

    any_here : (s q m a b : Bool) (e : Entry) (l : List Entry) → s ≡ q → m ≡ is_text e → b ≡ list_any is_text l → a ≡ b → ((q && m) || a) ≡ list_any is_text (if true && s then e ∷ l else l)
    any_here true false m a b e l h k r i = absurd (true-false h)
    any_here false true m a b e l h k r i = absurd (false-true h)
    any_here true true m a b e l h k r i = ap (λ m. m || a) k ∙ ap (λ a. is_text e || a) (i ∙ r)
    any_here false false m a b e l h k r i = i ∙ r

    pub texts_any : (n : ℕ) (es : List Entry) → list_any (is_key enum text) (literal_keys_from n es) ≡ list_any is_text (literals_from enum n es)
    texts_any n [] = refl
    texts_any zero (e ∷ es) = by (is_enum_role e.role) (is_literal_role e.role) (zero == suc enum) (zero_suc enum) (texts_any (suc zero) es) (texts_any zero es)
      where
        by : (en li s : Bool) → s ≡ false
            → list_any (is_key enum text) (literal_keys_from (suc zero) es) ≡ list_any is_text (literals_from enum (suc zero) es)
            → list_any (is_key enum text) (literal_keys_from zero es) ≡ list_any is_text (literals_from enum zero es)
            → list_any (is_key enum text) (literal_keys_from (if en then suc zero else zero) es)
            ≡ list_any is_text (if en then literals_from enum (suc zero) es else if li && s then e ∷ literals_from enum zero es else literals_from enum zero es)
        by true li s h a b = a
        by false true true h a b = absurd (true-false h)
        by false true false h a b = b
        by false false s h a b = b
    texts_any (suc k) (e ∷ es) = by (is_enum_role e.role) (is_literal_role e.role) (no_literal e.role) (texts_any (suc (suc k)) es) (texts_any (suc k) es)
      where
        by : (en li : Bool) → (en ≡ true → li ≡ false)
            → list_any (is_key enum text) (literal_keys_from (suc (suc k)) es) ≡ list_any is_text (literals_from enum (suc (suc k)) es)
            → list_any (is_key enum text) (literal_keys_from (suc k) es) ≡ list_any is_text (literals_from enum (suc k) es)
            → list_any (is_key enum text) ((if li then (k, literal_text e) ∷ [] else []) ++ literal_keys_from (if en then suc (suc k) else suc k) es)
            ≡ list_any is_text (if en then literals_from enum (suc (suc k)) es else if li && suc k == suc enum then e ∷ literals_from enum (suc k) es else literals_from enum (suc k) es)
        by true true h a b = absurd (true-false (h refl))
        by true false h a b = a
        by false true h a b = any_here (suc k == suc enum) (k == enum) (bytes_eq (literal_text e) text) _ _ e (literals_from enum (suc k) es) (same_suc k enum) refl refl b
        by false false h a b = b

    pub has_literal_is : (file : List Entry) (t : Literals) → AreLiterals file t → is_some (has_place t.places enum text) ≡ list_any is_text (literals_of file enum)
    has_literal_is file t h = ap is_some (h.places enum text) ∙ position_any (is_key enum text) 0 (literal_keys file) ∙ texts_any 0 file

  abbrev is_of : Key → Bool
  is_of k = is_key enum [] (enum_key k)

  first_here : (s q : Bool) (k : ℕ) (e : Entry) (l : List Entry) (rest : Option Key) → s ≡ q → first_text l ≡ option_map key_text rest
      → first_text (if true && s then e ∷ l else l) ≡ option_map key_text (cond (q && bytes_eq [] []) (Some (k, literal_text e)) rest)
  first_here true false k e l rest h r = absurd (true-false h)
  first_here false true k e l rest h r = absurd (false-true h)
  first_here true true k e l rest h r = refl
  first_here false false k e l rest h r = r

  pub first_is : (n : ℕ) (es : List Entry) → first_text (literals_from enum n es) ≡ option_map key_text (find is_of (literal_keys_from n es))
  first_is n [] = refl
  first_is zero (e ∷ es) = by (is_enum_role e.role) (is_literal_role e.role) (zero == suc enum) (zero_suc enum) (first_is (suc zero) es) (first_is zero es)
    where
      by : (en li s : Bool) → s ≡ false
          → first_text (literals_from enum (suc zero) es) ≡ option_map key_text (find is_of (literal_keys_from (suc zero) es))
          → first_text (literals_from enum zero es) ≡ option_map key_text (find is_of (literal_keys_from zero es))
          → first_text (if en then literals_from enum (suc zero) es else if li && s then e ∷ literals_from enum zero es else literals_from enum zero es)
          ≡ option_map key_text (find is_of (literal_keys_from (if en then suc zero else zero) es))
      by true li s h a b = a
      by false true true h a b = absurd (true-false h)
      by false true false h a b = b
      by false false s h a b = b
  first_is (suc k) (e ∷ es) = by (is_enum_role e.role) (is_literal_role e.role) (no_literal e.role) (first_is (suc (suc k)) es) (first_is (suc k) es)
    where
      by : (en li : Bool) → (en ≡ true → li ≡ false)
          → first_text (literals_from enum (suc (suc k)) es) ≡ option_map key_text (find is_of (literal_keys_from (suc (suc k)) es))
          → first_text (literals_from enum (suc k) es) ≡ option_map key_text (find is_of (literal_keys_from (suc k) es))
          → first_text (if en then literals_from enum (suc (suc k)) es else if li && suc k == suc enum then e ∷ literals_from enum (suc k) es else literals_from enum (suc k) es)
          ≡ option_map key_text (find is_of ((if li then (k, literal_text e) ∷ [] else []) ++ literal_keys_from (if en then suc (suc k) else suc k) es))
      by true true h a b = absurd (true-false (h refl))
      by true false h a b = a
      by false true h a b = first_here (suc k == suc enum) (k == enum) k e (literals_from enum (suc k) es) _ (same_suc k enum) b
      by false false h a b = b

  pub first_literal_is : (file : List Entry) (t : Literals) → AreLiterals file t → first_text (literals_of file enum) ≡ then_ (has_place t.begins enum []) (slice_get (map (λ x. x.now) t.texts.items))
  first_literal_is file t h =
      first_is 0 file
      ∙ found_at is_of key_text (literal_keys file)
      ∙ ap (λ o. then_ o (slice_get (map key_text (literal_keys file)))) (sym (position_map (is_key enum []) enum_key 0 (literal_keys file)) ∙ sym (h.begins enum []))
      ∙ ap (λ l. then_ (has_place t.begins enum []) (slice_get l)) (sym h.texts)
