-- What the tables of a file say at an element, and the counts past it.
use Rattle.std.proofs.Common.{◌≡◌, ℕ, suc, ◌+◌, ◌-◌, ◌<◌, ◌≤◌, List, [], ◌∷◌, ◌++◌, length, get_or, take, drop, refl, sym, ap, ◌∙◌, arith}
use Rattle.std.specs.Prelude.{Bool, true, false, cond, not, ◌&&◌, bytes_eq, codes, find, Option, Some, None, option_map, slice_get, if◌then◌else◌}
use Rattle.std.specs.Option.{option_map_or}
use Rattle.std.proofs.lemmas.List.{take_more, drop_more, take_rest, take-append-drop, map-append, length-map, length-take}
use Rattle.std.proofs.lemmas.Option.{none-some, same_Some}
use Rattle.atl_base.specs.declared.place.Place.{Place}
use Rattle.doc_text.specs.declared.tree.Attribute.{Attribute}
use Rattle.doc_text.specs.declared.tree.Element.{Element}
use Rattle.ecore_outline.specs.declared.outline.Entry.{Entry as CodeEntry}
use Rattle.ecore_rows.specs.declared.rows.FeatureRow.{FeatureRow as CodeFeatureRow}
use Rattle.ecore_outline.specs.Entries.{entry_of, entries_of}
use Rattle.ecore_rows.specs.CodeRows.{typed_of, feature_row_of, feature_rows_of}
use Rattle.ecore_outline.specs.declared.outline.Role.{Role}
use Rattle.ecore_outline.specs.declared.outline.Role.TheVariants.{Attribute as AttributeRole, Stray}
use Rattle.ecore_outline.specs.Outline.{Entry, is_class_role, is_feature_role, count}
use Rattle.ecore_rows.specs.Rows.{Typed, typed, super_numbers, feature_rows}
use Rattle.xmi_text.specs.Numbers.{is_upper}
use Rattle.ecore_faults.specs.Faults.{Fault, or_else, is_attribute_role, is_bad_default, is_bad_number, number_fault, last_feature, fault_at, fault_from, BadNumber}
use Rattle.xmi_text.proofs.Lists.{get_of_map}
use Rattle.ecore_outline.proofs.Splits.{count-here, row_here, rows as rows_of}
use Rattle.ecore_rows.proofs.SuperNumbers.{super_count}
use Rattle.ecore_rows.proofs.RowLists.{count-next, feature_row, the_features}
use Rattle.xmi_text.proofs.Tests.{false-true}

-- ## The tables

pub class_inside : (file before : List Entry) (e : Entry) (behind : List Entry) → file ≡ before ++ (e ∷ behind) → is_class_role e.role ≡ true → count is_class_role before < length (super_numbers file)
class_inside file before e behind w r =
    let all : length (super_numbers file) ≡ count is_class_role file = super_count file in
    let here : count is_class_role file ≡ suc (count is_class_role before + count is_class_role behind) = ap (count is_class_role) w ∙ count-here is_class_role before e behind r in
    omega arith

pub row_at_feature : (file before : List Entry) (e : Entry) (behind : List Entry) → file ≡ before ++ (e ∷ behind) → is_feature_role e.role ≡ true
    → slice_get (feature_rows file) (count is_feature_role before) ≡ Some (feature_row file before e behind)
row_at_feature file before e behind w r =
    ap (λ rows. slice_get rows (count is_feature_role before)) (the_features file ∙ ap (rows_of is_feature_role (feature_row file) []) w)
    ∙ row_here is_feature_role (feature_row file) [] before e behind r

module _ (file before : List Entry) (e : Entry) (behind : List Entry) (whole : file ≡ before ++ (e ∷ behind)) (r : is_feature_role e.role ≡ true)
    (rows : List CodeFeatureRow) (are : feature_rows_of rows ≡ feature_rows file) where
  there : slice_get (feature_rows_of rows) (count is_feature_role before) ≡ Some (feature_row file before e behind)
  there = ap (λ l. slice_get l (count is_feature_role before)) are ∙ row_at_feature file before e behind whole r

  seen : (k : ℕ) → k ≡ count is_feature_role before → option_map feature_row_of (slice_get rows k) ≡ Some (feature_row file before e behind)
  seen k h = sym (get_of_map feature_row_of rows k) ∙ ap (λ n. slice_get (feature_rows_of rows) n) h ∙ there

  pub typed_there : (k : ℕ) (row : CodeFeatureRow) → k ≡ count is_feature_role before → slice_get rows k ≡ Some row → typed_of row.typed ≡ typed file e behind
  typed_there k row h s = ap (λ r. r.type) (same_Some (feature_row_of row) (feature_row file before e behind) (ap (option_map feature_row_of) (sym s) ∙ seen k h))

  pub there_is_one : (k : ℕ) → k ≡ count is_feature_role before → slice_get rows k ≡ None → ⊥
  there_is_one k h s = none-some (feature_row file before e behind) (ap (option_map feature_row_of) (sym s) ∙ seen k h)

-- ## Counts

pub last_feature-push : (file : List Entry) (role : Role) (part : List Entry) (e : Entry) → last_feature file role (part ++ (e ∷ [])) ≡ (if is_feature_role e.role then e.role else last_feature file role part)
last_feature-push file role [] e = refl
last_feature-push file role (d ∷ part) e = last_feature-push file (if is_feature_role d.role then d.role else role) part e

-- one element further
pub next_count : (of : Role → Bool) (part : List Entry) (e : Entry) (n m : ℕ) (b : Bool) → b ≡ of e.role → m ≡ (if b then suc n else n) → n ≡ count of part → m ≡ count of (part ++ (e ∷ []))
next_count of part e n m b h k l = k ∙ ap (λ t. if t then suc n else n) h ∙ ap (λ c. if of e.role then suc c else c) l ∙ sym (count-next of part e)

pub next_last : (file part : List Entry) (e : Entry) (last next : Role) → next ≡ (if is_feature_role e.role then e.role else last) → last ≡ last_feature file Stray part → next ≡ last_feature file Stray (part ++ (e ∷ []))
next_last file part e last next h k = h ∙ ap (λ r. if is_feature_role e.role then e.role else r) k ∙ sym (last_feature-push file Stray part e)

-- ## Numbers of what is no feature

pub find_same : {X : Type 0} (p q : X → Bool) (xs : List X) → ((x : X) → p x ≡ q x) → find p xs ≡ find q xs
find_same p q [] h = refl
find_same p q (x ∷ xs) h = by (p x) (q x) (h x) (find_same p q xs h)
  where
    by : (b c : Bool) → b ≡ c → find p xs ≡ find q xs → cond b (Some x) (find p xs) ≡ cond c (Some x) (find q xs)
    by b c e k = ap (λ b. cond b (Some x) (find p xs)) e ∙ ap (λ l. cond c (Some x) l) k

no_attribute : (role : Role) → is_feature_role role ≡ false → is_attribute_role role ≡ false
no_attribute AttributeRole h = h
no_attribute r h = refl

pub number_other : (file : List Entry) (role : Role) (t u : Typed) (e : Element) → is_feature_role role ≡ false → number_fault file role t e ≡ number_fault file role u e
number_other file role t u e h = ap (option_map {U = Fault} (λ a. (BadNumber, a.value))) (find_same (is_bad_number file role t) (is_bad_number file role u) e.attributes same)
  where
    fails : (a b c d : Bool) → b ≡ false → (a && b && c) ≡ (a && b && d)
    fails a true c d k = absurd (false-true (sym k))
    fails true false c d k = refl
    fails false false c d k = refl

    same : (a : Attribute) → is_bad_number file role t a ≡ is_bad_number file role u a
    same a = ap (λ l. if bytes_eq a.space [] && bytes_eq a.name (codes "upperBound") then is_feature_role role && not (is_upper a.value) else l)
        (fails (bytes_eq a.space [] && bytes_eq a.name (codes "defaultValueLiteral")) (is_attribute_role role) (is_bad_default file t a.value) (is_bad_default file u a.value) (no_attribute role h))

-- ## Places in a file

pub parted : (file : List CodeEntry) (i : ℕ) (d : CodeEntry) → i < length file → entries_of file ≡ entries_of (take i file) ++ (entry_of (get_or file i d) ∷ entries_of (drop (i + 1) file))
parted file i d h =
    ap entries_of (sym (take-append-drop i file) ∙ ap (λ l. take i file ++ l) (drop_more file i d h))
    ∙ map-append entry_of (take i file) (get_or file i d ∷ drop (i + 1) file)

pub past_one : (file : List CodeEntry) (i : ℕ) (d : CodeEntry) → i < length file → entries_of (take (i + 1) file) ≡ entries_of (take i file) ++ (entry_of (get_or file i d) ∷ [])
past_one file i d h = ap entries_of (take_more file i d h) ∙ map-append entry_of (take i file) (get_or file i d ∷ [])

-- one element further
pub next_fault : (F : List Entry) (file : List CodeEntry) (i : ℕ) (d : CodeEntry) → i < length file
    → fault_from F (entries_of (take i file)) (entries_of (drop i file))
    ≡ option_map_or {U = Option (Fault × Place)} (λ f. Some (f, (entry_of (get_or file i d)).site.element.place)) (fault_at F (entries_of (take i file)) (entry_of (get_or file i d)) (entries_of (drop (i + 1) file)))
    (fault_from F (entries_of (take (i + 1) file)) (entries_of (drop (i + 1) file)))
next_fault F file i d h =
    ap (λ l. fault_from F (entries_of (take i file)) (entries_of l)) (drop_more file i d h)
    ∙ ap (λ b. option_map_or {U = Option (Fault × Place)} (λ f. Some (f, (entry_of (get_or file i d)).site.element.place)) (fault_at F (entries_of (take i file)) (entry_of (get_or file i d)) (entries_of (drop (i + 1) file))) (fault_from F b (entries_of (drop (i + 1) file))))
    (sym (past_one file i d h))

pub found_here : (F : List Entry) (file : List CodeEntry) (i : ℕ) (d : CodeEntry) (f : Fault) → i < length file
    → Some f ≡ fault_at F (entries_of (take i file)) (entry_of (get_or file i d)) (entries_of (drop (i + 1) file))
    → fault_from F (entries_of (take i file)) (entries_of (drop i file)) ≡ Some (f, (entry_of (get_or file i d)).site.element.place)
found_here F file i d f l h =
    next_fault F file i d l
    ∙ ap (λ o. option_map_or {U = Option (Fault × Place)} (λ f. Some (f, (entry_of (get_or file i d)).site.element.place)) o (fault_from F (entries_of (take (i + 1) file)) (entries_of (drop (i + 1) file)))) (sym h)

pub none_here : (F : List Entry) (file : List CodeEntry) (i : ℕ) (d : CodeEntry) → i < length file
    → None ≡ fault_at F (entries_of (take i file)) (entry_of (get_or file i d)) (entries_of (drop (i + 1) file))
    → fault_from F (entries_of (take i file)) (entries_of (drop i file)) ≡ fault_from F (entries_of (take (i + 1) file)) (entries_of (drop (i + 1) file))
none_here F file i d l h =
    next_fault F file i d l
    ∙ ap (λ o. option_map_or {U = Option (Fault × Place)} (λ f. Some (f, (entry_of (get_or file i d)).site.element.place)) o (fault_from F (entries_of (take (i + 1) file)) (entries_of (drop (i + 1) file)))) (sym h)

-- ## Kinds of fault in their order

else_none : (f : Option Fault) → f ≡ or_else f None
else_none (Some f) = refl
else_none None = refl

pub last_kind : (a b c d e r : Option Fault) → None ≡ a → None ≡ b → None ≡ c → None ≡ d → r ≡ e → r ≡ or_else a (or_else b (or_else c (or_else d (or_else e None))))
last_kind a b c d e r h k l m n =
    n ∙ else_none e
    ∙ ap (λ o. or_else o (or_else e None)) m
    ∙ ap (λ o. or_else o (or_else d (or_else e None))) l
    ∙ ap (λ o. or_else o (or_else c (or_else d (or_else e None)))) k
    ∙ ap (λ o. or_else o (or_else b (or_else c (or_else d (or_else e None))))) h

pub number_same : (file : List Entry) (role : Role) (t u : Typed) (e : Element) → (is_feature_role role ≡ true → t ≡ u) → number_fault file role t e ≡ number_fault file role u e
number_same file role t u e h = by (is_feature_role role) refl
  where
    by : (b : Bool) → is_feature_role role ≡ b → number_fault file role t e ≡ number_fault file role u e
    by true k = ap (λ t. number_fault file role t e) (h k)
    by false k = number_other file role t u e k

-- ## At a place

-- what the code passes for what stands behind
pub whole_here : (file : List CodeEntry) (i : ℕ) (e : CodeEntry) → i < length file → e ≡ get_or file i e
    → entries_of file ≡ entries_of (take i file) ++ (entry_of e ∷ entries_of (take (length file - (i + 1)) (drop (i + 1) file)))
whole_here file i e l h =
    parted file i e l
    ∙ ap (λ x. entries_of (take i file) ++ (entry_of x ∷ entries_of (drop (i + 1) file))) (sym h)
    ∙ ap (λ b. entries_of (take i file) ++ (entry_of e ∷ entries_of b)) (sym (take_rest file (i + 1)))

pub fault_here : (F : List Entry) (file : List CodeEntry) (i : ℕ) (e : CodeEntry) (o : Option Fault) → e ≡ get_or file i e
    → o ≡ fault_at F (entries_of (take i file)) (entry_of e) (entries_of (take (length file - (i + 1)) (drop (i + 1) file)))
    → o ≡ fault_at F (entries_of (take i file)) (entry_of (get_or file i e)) (entries_of (drop (i + 1) file))
fault_here F file i e o h k =
    k
    ∙ ap (λ b. fault_at F (entries_of (take i file)) (entry_of e) (entries_of b)) (take_rest file (i + 1))
    ∙ ap (λ x. fault_at F (entries_of (take i file)) (entry_of x) (entries_of (drop (i + 1) file))) h

pub next_part : (file : List CodeEntry) (i : ℕ) (e : CodeEntry) → i < length file → e ≡ get_or file i e → entries_of (take (i + 1) file) ≡ entries_of (take i file) ++ (entry_of e ∷ [])
next_part file i e l h = past_one file i e l ∙ ap (λ x. entries_of (take i file) ++ (entry_of x ∷ [])) (sym h)

count_short : (of : Role → Bool) (es : List Entry) → count of es ≤ length es
count_short of [] = omega arith
count_short of (e ∷ es) = by (of e.role) (count_short of es)
  where
    by : (b : Bool) → count of es ≤ length es → (if b then suc (count of es) else count of es) ≤ suc (length es)
    by true h = omega arith
    by false h = omega arith

pub counted_short : (of : Role → Bool) (file : List CodeEntry) (n : ℕ) → count of (entries_of (take n file)) ≤ n
counted_short of file n = omega (arith, count_short of (entries_of (take n file)), length-map (take n file) entry_of, length-take n file)
