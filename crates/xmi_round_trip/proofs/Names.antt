-- Names: what is found by one is the first that has it, and what may begin a plain one may go on one.
use Rattle.std.proofs.Common.{◌≡◌, ℕ, List, [], ◌∷◌, refl, ◌<◌, ◌++◌, length, get_or, map, sym, ap, ◌∙◌, arith, Some}
use Rattle.std.specs.Prelude.{true, ◌==◌, ◌||◌, Bool, false, bytes_eq, find, nat_lt, position, slice_get, None, if◌then◌else◌}
use Rattle.std.specs.Int.{is_in_range}
use Rattle.std.specs.List.{list_all, position_or_len}
use Rattle.std.proofs.lemmas.Bool.{and_from, and_parts, or_left, false_from_ne_true, lt-ltb}
use Rattle.ecore_meta.specs.Names.{begins_name, continues_name, is_plain_name}
use Rattle.std.proofs.lemmas.List.{get_or_append_left, length-append, length-map}
use Rattle.std.proofs.lemmas.List.Folds.{find_at}
use Rattle.std.proofs.lemmas.List.Sums.{position_or_len_is}
use Rattle.std.proofs.lemmas.Option.{get_or_from_slice_get, slice_get_within}
use Rattle.std.proofs.lemmas.Slice.Eq.{bytes_eq-Decides}
use Rattle.ecore_meta.specs.Valid.{AllDiffer}
use Rattle.xmi_text.proofs.Lists.{get_or_map}

-- so all bytes of a plain name may go on one
pub all_go_on : (bytes : List ℕ) → is_plain_name bytes ≡ true → list_all continues_name bytes ≡ true
all_go_on [] e = refl
all_go_on (b ∷ bytes) e =
    let parts = and_parts (begins_name b) (list_all continues_name bytes) e in
    and_from (continues_name b) (list_all continues_name bytes) (or_left (begins_name b || is_in_range 48 57 b || b == 45) (b == 46) (or_left (begins_name b || is_in_range 48 57 b) (b == 45) (or_left (begins_name b) (is_in_range 48 57 b) parts.0))) parts.1

-- ## The first that passes a test

module _ {X : Type 0} (p : X → Bool) (xs : List X) (n : ℕ) (x : X) (there : slice_get xs n ≡ Some x) (passes : p x ≡ true) (others : (k : ℕ) → k < n → p (get_or xs k x) ≡ false) where
  -- one that passes at a place, while those before it do not
  stands : n < length xs
  stands = slice_get_within xs n x there

  -- it is the first that passes
  first_passing : position_or_len p xs ≡ n
  first_passing = position_or_len_is p xs n x (omega (arith, stands)) others (λ h. ap p (get_or_from_slice_get xs n x x there) ∙ passes)

  -- so it is found
  pub found_here : find p xs ≡ Some x
  found_here = find_at p xs ∙ ap (slice_get xs) first_passing ∙ there

  -- and so is its place
  pub position_here : position p xs ≡ Some n
  position_here =
      ap (λ k. if nat_lt k (length xs) then Some k else None) first_passing
      ∙ ap (λ b. if b then Some n else None) (lt-ltb n (length xs) stands)

-- those before one have other names than it
pub names_before : {X : Type 0} (key : X → List ℕ) (xs : List X) (more : List (List ℕ)) (n : ℕ) (x : X) → AllDiffer (map key xs ++ more) → slice_get xs n ≡ Some x
    → (k : ℕ) → k < n → bytes_eq (key (get_or xs k x)) (key x) ≡ false
names_before key xs more n x differ there k l = false_from_ne_true (bytes_eq (key (get_or xs k x)) (key x)) (λ h. differ k n (key x) l inside (at k inside_k ∙ (bytes_eq-Decides (key (get_or xs k x)) (key x)).0 h ∙ sym (at n inside_n ∙ ap key (get_or_from_slice_get xs n x x there))))
  where
    inside_n : n < length (map key xs)
    inside_n = omega (arith, slice_get_within xs n x there, length-map xs key)

    inside_k : k < length (map key xs)
    inside_k = omega (arith, l, inside_n)

    inside : n < length (map key xs ++ more)
    inside = omega (arith, inside_n, length-append (map key xs) more)

    at : (j : ℕ) → j < length (map key xs) → get_or (map key xs ++ more) j (key x) ≡ key (get_or xs j x)
    at j h = get_or_append_left (map key xs) more (key x) j h ∙ get_or_map key xs j x
