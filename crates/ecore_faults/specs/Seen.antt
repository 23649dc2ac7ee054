-- The names that stand before an element, and whether it has one of them: a package's namespace or prefix, a classifier's name, a
-- literal's name or text.
use Rattle.std.specs.Prelude.{◌≡◌, ℕ, ◌-◌, ◌==◌, ◌&&◌, ◌||◌, Bool, List, [], bytes_eq}
use Rattle.std.specs.HashSet.{HashSet, contains_by}
use Rattle.std.specs.List.{list_any}
use Rattle.xmi_text.specs.declared.keys.Key.{Key as CodeKey}
use Rattle.ecore_faults.specs.declared.earlier_names.Seen.{Seen}
use Rattle.ecore_outline.specs.Outline.{Entry, is_package_role, is_classifier_role, is_enum_role, count, name_of}
use Rattle.ecore_outline.specs.Enumerations.{is_literal_role, literals_of, literal_text}
use Rattle.ecore_outline.specs.Forms.{uri_of, prefix_of}
use Rattle.ecore_faults.specs.Faults.{is_same_package, is_same_classifier, is_same_literal}

abbrev pub has_key : {S : Type 0} → HashSet CodeKey S → ℕ → List ℕ → Bool
has_key keys n q = contains_by (λ k. n == k.number && bytes_eq q k.text.now) keys

pub record AreSeen (before : List Entry) (s : Seen) : Type 0 where
  pub uris : (q : List ℕ) → has_key s.uris 0 q ≡ list_any (λ e. is_package_role e.role && bytes_eq (uri_of e) q) before
  pub prefixes : (q : List ℕ) → has_key s.prefixes 0 q ≡ list_any (λ e. is_package_role e.role && bytes_eq (prefix_of e) q) before
  pub classifiers : (q : List ℕ) → has_key s.classifiers 0 q ≡ list_any (λ e. is_classifier_role e.role && bytes_eq (name_of e) q) before
  pub names : (n : ℕ) (q : List ℕ) → has_key s.names n q ≡ list_any (λ l. bytes_eq (name_of l) q) (literals_of before n)
  pub texts : (n : ℕ) (q : List ℕ) → has_key s.texts n q ≡ list_any (λ l. bytes_eq (literal_text l) q) (literals_of before n)

-- an element has a name of one before
abbrev pub repeats : List Entry → Entry → Bool
repeats before e =
    (is_package_role e.role && list_any (is_same_package [] e) before)
    || ((is_classifier_role e.role && list_any (is_same_classifier [] e) before)
    || (is_literal_role e.role && list_any (is_same_literal [] e) (literals_of before (count is_enum_role before - 1))))
