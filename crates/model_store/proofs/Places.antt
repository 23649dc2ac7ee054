-- Where no element passes a test, and where one alone does.
use Rattle.std.proofs.Common.{◌≡◌, ◌<◌, ◌≤◌, ℕ, List, length, cond, sym, ap, ◌∙◌, ⊎_elim, arith, Some, None}
use Rattle.std.specs.Prelude.{position, slice_index_or, Bool, true}
use Rattle.std.specs.List.{position_or_len}
use Rattle.std.proofs.lemmas.Bool.{cases_lt, lt-ltb, eqb-true, false_from_ne_true}
use Rattle.std.proofs.lemmas.List.Sums.{prefix_len-le-length, position_or_len_is}
use Rattle.std.proofs.lemmas.Option.{none-some}
use Rattle.atl_base.specs.declared.numbers.ObjId.{ObjId}
use Rattle.ecore_meta.specs.Valid.{AllDiffer}
use Rattle.model_store.specs.declared.parts.Cellv.{Cellv}
use Rattle.model_store.specs.Contents.{is_object_no, refers_to}
use Rattle.model_store.proofs.Slots.{same_object}
use Rattle.model_store.proofs.Thinned.{refers_is}

-- the first that passes is past the end
pub not_found : {X : Type 0} (p : X → Bool) (xs : List X) → position p xs ≡ None → length xs ≡ position_or_len p xs
not_found p xs e =
    let n : ℕ = position_or_len p xs in
    let within : n ≤ length xs = prefix_len-le-length _ xs in
    ⊎_elim
    (λ (h : n < length xs). absurd (none-some n (sym e ∙ ap (λ b. cond b (Some n) None) (lt-ltb n (length xs) h))))
    (λ (h : length xs ≤ n). omega arith)
    (cases_lt n (length xs))

-- of different elements that pass the test alone, one that does is the first
found_at : {X : Type 0} (p : X → Bool) → ((x y : X) → p x ≡ true → p y ≡ true → x ≡ y) → (xs : List X) → AllDiffer xs → (k : ℕ) (d : X) → k < length xs → p (slice_index_or xs k d) ≡ true → k ≡ position_or_len p xs
found_at p one xs differ k d l e = sym (position_or_len_is p xs k d (omega (arith, l))
    (λ i lt. false_from_ne_true (p (slice_index_or xs i d)) (λ t. absurd (differ i k d lt l (one (slice_index_or xs i d) (slice_index_or xs k d) t e))))
    (λ w. e))

pub content_at : (o : ObjId) (cells : List Cellv) → AllDiffer cells → (k : ℕ) (d : Cellv) → k < length cells → refers_to o (slice_index_or cells k d) ≡ true → k ≡ position_or_len (refers_to o) cells
content_at o = found_at (refers_to o) (λ x y a b. sym (refers_is o x a) ∙ refers_is o y b)

pub root_at : (o : ObjId) (roots : List ObjId) → AllDiffer roots → (k : ℕ) (d : ObjId) → k < length roots → is_object_no o (slice_index_or roots k d) ≡ true → k ≡ position_or_len (is_object_no o) roots
root_at o = found_at (is_object_no o) (λ x y a b. same_object x y (eqb-true x.0 o.0 a ∙ sym (eqb-true y.0 o.0 b)))
