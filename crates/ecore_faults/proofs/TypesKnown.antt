-- Each feature of a file without faults has a type.
use Rattle.std.proofs.Common.{◌≡◌, ℕ, List, [], ◌∷◌, ◌++◌, refl, sym, ap, ◌∙◌, subst, append_assoc}
use Rattle.std.specs.Prelude.{Bool, true, false, ◌&&◌, codes, Option, Some, None, is_some, is_none, if◌then◌else◌}
use Rattle.std.specs.Option.{option_map_or}
use Rattle.std.proofs.lemmas.Option.{none-some, same_Some}
use Rattle.xmi_text.specs.Markup.{given}
use Rattle.ecore_outline.specs.declared.outline.Role.{Role}
use Rattle.ecore_outline.specs.declared.outline.Role.TheVariants.{Stray}
use Rattle.ecore_outline.specs.Outline.{Entry, is_feature_role}
use Rattle.ecore_rows.specs.Rows.{typed, text_typed, child_typed, type_behind, href, is_type_role, ends_feature, Untyped}
use Rattle.ecore_faults.specs.Faults.{first_fault, typed_fault, feature_type_fault, last_feature}
use Rattle.ecore_faults.proofs.Roles.{features, types}
use Rattle.ecore_faults.proofs.Sound.{Fine, fine}
use Rattle.xmi_text.proofs.Tests.{true-false}

module _ (file : List Entry) where
  -- the child that names a type, and nothing of another feature before it
  pub record ChildAt (behind : List Entry) (word : List ℕ) : Type 0 where
    pub before : List Entry
    pub child : Entry
    pub rest : List Entry
    pub whole : behind ≡ before ++ (child ∷ rest)
    pub role : is_type_role child.role ≡ true
    pub names : href child ≡ word
    pub same_feature : (r : Role) → last_feature file r before ≡ r

  no_end : (r : Role) → ends_feature r ≡ false → is_feature_role r ≡ false
  no_end Stray h = refl
  no_end r h = absurd (true-false h)

  child_at : (behind : List Entry) (word : List ℕ) → type_behind behind ≡ Some word → ChildAt behind word
  child_at [] word h = absurd (none-some word h)
  child_at (e ∷ es) word h = by (is_type_role e.role) (ends_feature e.role) refl refl h (child_at es word)
    where
      later : ends_feature e.role ≡ false → ChildAt es word → ChildAt (e ∷ es) word
      later q w = record {
        before = e ∷ w.before;
        child = w.child;
        rest = w.rest;
        whole = ap (λ l. e ∷ l) w.whole;
        role = w.role;
        names = w.names;
        same_feature = λ r. ap (λ b. last_feature file (if b then e.role else r) w.before) (no_end e.role q) ∙ w.same_feature r;
      }

      by : (t u : Bool) → is_type_role e.role ≡ t → ends_feature e.role ≡ u → (if t then Some (href e) else (if u then None else type_behind es)) ≡ Some word → (type_behind es ≡ Some word → ChildAt es word) → ChildAt (e ∷ es) word
      by true u p q h r = record { before = []; child = e; rest = es; whole = refl; role = p; names = same_Some (href e) word h; same_feature = λ r. refl }
      by false true p q h r = absurd (none-some word h)
      by false false p q h r = later q (r h)

  last_append : (r : Role) (xs ys : List Entry) → last_feature file r (xs ++ ys) ≡ last_feature file (last_feature file r xs) ys
  last_append r [] ys = refl
  last_append r (x ∷ xs) ys = last_append (if is_feature_role x.role then x.role else r) xs ys

  module _ (none : first_fault file ≡ None) where
    -- a type that a child names is judged there
    child_known : (b : List Entry) (e : Entry) (h : List Entry) → file ≡ b ++ (e ∷ h) → is_feature_role e.role ≡ true → (word : List ℕ) → type_behind h ≡ Some word → typed_fault file (child_typed e.role file word) ≡ None
    child_known b e h s r word k =
        let w = child_at h word k in
        let before : List Entry = b ++ (e ∷ w.before) in
        let whole : file ≡ before ++ (w.child ∷ w.rest) = s ∙ ap (λ l. b ++ (e ∷ l)) w.whole ∙ sym (append_assoc b (e ∷ w.before) (w.child ∷ w.rest)) in
        let last : last_feature file Stray before ≡ e.role =
        last_append Stray b (e ∷ w.before) ∙ ap (λ t. last_feature file (if t then e.role else last_feature file Stray b) w.before) r ∙ w.same_feature e.role in
        let judged : typed_fault file (child_typed (last_feature file Stray before) file (href w.child)) ≡ None =
        types (λ c. Fine file before c w.rest → typed_fault file (child_typed (last_feature file Stray before) file (href c)) ≡ None) (λ s f. f.types) w.child w.role (fine file none before w.child w.rest whole) in
        subst (λ x. typed_fault file (child_typed e.role file x) ≡ None) w.names
        (subst (λ r. typed_fault file (child_typed r file (href w.child)) ≡ None) last judged)

    feature_fault : (b : List Entry) (e : Entry) (h : List Entry) → is_feature_role e.role ≡ true → Fine file b e h → feature_type_fault file e h ≡ None
    feature_fault b e h = features (λ e. Fine file b e h → feature_type_fault file e h ≡ None) (λ s f. f.types) (λ s f. f.types) e

    pub type_known : (b : List Entry) (e : Entry) (h : List Entry) → file ≡ b ++ (e ∷ h) → is_feature_role e.role ≡ true → typed_fault file (typed file e h) ≡ None
    type_known b e h s r = by (given (codes "eType") e.site.element) (type_behind h) (child_known b e h s r) (feature_fault b e h r (fine file none b e h s))
      where
        by : (o p : Option (List ℕ)) → ((word : List ℕ) → p ≡ Some word → typed_fault file (child_typed e.role file word) ≡ None)
            → (if is_none o && is_some p then None else typed_fault file (option_map_or (text_typed e.role file e.site.scope) o (option_map_or (child_typed e.role file) p (Untyped [])))) ≡ None
            → typed_fault file (option_map_or (text_typed e.role file e.site.scope) o (option_map_or (child_typed e.role file) p (Untyped []))) ≡ None
        by (Some text) p k f = f
        by None (Some word) k f = k word refl
        by None None k f = f
