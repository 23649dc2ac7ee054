-- Pairs of a path and bytes, and the map that they make: a pair pushed, or replaced where its path stands first.
use Rattle.std.proofs.Common.{◌≡◌, ◌∙◌, refl, sym, ap, ℕ, suc, ◌+◌, ◌≤◌, Bool, true, false, cond, List, [], ◌∷◌, ◌++◌, map, Option, Some, None, get_or, ◌<◌, length, drop, arith, zero-add, add-one}
use Rattle.std.specs.Prelude.{Vec}
use Rattle.std.specs.declared.alloc.Global.{Global}
use Rattle.std.proofs.Math.ListN.{set}
use Rattle.std.specs.List.{position_from}
use Rattle.std.specs.Ordering.{nat_cmp, eq_by_cmp}
use Rattle.std.specs.Cmp.Lexicographic.{slice_cmp, texts_ties, nat_list_cmp_total}
use Rattle.std.specs.Str.{bytes_eq}
use Rattle.std.specs.declared.cmp.Ordering.TheVariants.{Equal}
use Rattle.std.specs.FinMap.{find, from_entries, get-insert, get-from_entries, same_map, nat_cmp-IsAntisymmetric, slice_cmp-IsAntisymmetric, from_entries_push}
use Rattle.std.proofs.lemmas.List.{map-append}
use Rattle.std.proofs.Math.Seq.{drop-cons}
use Rattle.std.proofs.Math.ListN.{drop_of_length-le}
use Rattle.std.proofs.lemmas.Cmp.{nat_list_eq_equiv}
use Rattle.std.proofs.lemmas.Slice.Eq.{bytes_eq-Decides}
use Rattle.atl_outside.specs.Held.{held_of, with_content, content_of}

abbrev pub Pair : Type 0
Pair = List ℕ × Vec ℕ Global

abbrev pub entry : Pair → List ℕ × List ℕ
entry pair = (pair.0, pair.1.items)

-- the test of a look-up
abbrev pub at_path : List ℕ → Pair → Bool
at_path path pair = bytes_eq pair.0 path

abbrev pub found : List ℕ → List Pair → Option (List ℕ)
found path pairs = find (slice_cmp nat_cmp) path (map entry pairs)

tied : (x y : List ℕ) → eq_by_cmp (slice_cmp nat_cmp) x y ≡ true → x ≡ y
tied x y e = (bytes_eq-Decides x y).0 (texts_ties x y ∙ e)

swapped : {A : Type 0} (a b : Bool) (x y z : A) → (a ≡ true → b ≡ true → ⊥) → cond a x (cond b y z) ≡ cond b y (cond a x z)
swapped true true x y z apart = absurd (apart refl refl)
swapped true false x y z apart = refl
swapped false b x y z apart = refl

shadowed : {A : Type 0} (b : Bool) (x y z : A) → cond b x z ≡ cond b x (cond b y z)
shadowed true x y z = refl
shadowed false x y z = refl

late : (test : Pair → Bool) (es : List Pair) (j i : ℕ) → position_from test j es ≡ Some i → j ≤ i
late test [] j i e = cc
late test (x ∷ es) j i e =
    elim (test x) as (λ b. cond b (Some j) (position_from test (j + 1) es) ≡ Some i → j ≤ i) [
      | true ↦ λ is. let same : j ≡ i = cc in omega arith
      | false ↦ λ is. let later : j + 1 ≤ i = late test es (j + 1) i is in omega arith
    ] e

pub found-set : (es : List Pair) (j k : ℕ) (path q : List ℕ) (old new : Pair) → position_from (at_path path) j es ≡ Some (j + k) → old ≡ get_or es k old → new.0 ≡ old.0 → found q (set es k new) ≡ cond (eq_by_cmp (slice_cmp nat_cmp) q path) (Some new.1.items) (found q es)
found-set [] j k path q old new at is key = cc
found-set (e ∷ es) j Prim.Native.Nat.zero path q old new at is key =
    elim (bytes_eq e.0 path) as (λ b. bytes_eq e.0 path ≡ b → cond b (Some j) (position_from (at_path path) (j + 1) es) ≡ Some (j + 0) → found q (new ∷ es) ≡ cond (eq_by_cmp (slice_cmp nat_cmp) q path) (Some new.1.items) (found q (e ∷ es))) [
      | true ↦ λ t _.
          let here : e.0 ≡ path = (bytes_eq-Decides e.0 path).0 t in
          let same : new.0 ≡ path = key ∙ ap (λ (x : Pair). x.0) is ∙ here in
          ap (λ x. cond (eq_by_cmp (slice_cmp nat_cmp) q x) (Some new.1.items) (found q es)) same
          ∙ shadowed (eq_by_cmp (slice_cmp nat_cmp) q path) (Some new.1.items) (Some e.1.items) (found q es)
          ∙ ap (λ x. cond (eq_by_cmp (slice_cmp nat_cmp) q path) (Some new.1.items) (cond (eq_by_cmp (slice_cmp nat_cmp) q x) (Some e.1.items) (found q es))) (sym here)
      | false ↦ λ t then. let later : j + 1 ≤ j + 0 = late _ es (j + 1) (j + 0) then in absurd (omega arith)
    ] refl at
found-set (e ∷ es) j (suc k) path q old new at is key =
    elim (bytes_eq e.0 path) as (λ b. bytes_eq e.0 path ≡ b → cond b (Some j) (position_from (at_path path) (j + 1) es) ≡ Some (j + suc k) → found q (e ∷ set es k new) ≡ cond (eq_by_cmp (slice_cmp nat_cmp) q path) (Some new.1.items) (found q (e ∷ es))) [
      | true ↦ λ t then. let same : j ≡ j + suc k = cc in absurd (omega arith)
      | false ↦ λ t then.
          let sum : j + suc k ≡ (j + 1) + k = omega arith in
          ap (cond (eq_by_cmp (slice_cmp nat_cmp) q e.0) (Some e.1.items)) (found-set es (j + 1) k path q old new (then ∙ ap Some sum) is key)
          ∙ swapped _ _ _ _ _ (λ a b. let same : e.0 ≡ path = sym (tied q e.0 a) ∙ tied q path b in let yes : bytes_eq e.0 path ≡ true = (bytes_eq-Decides e.0 path).1 same in cc)
    ] refl at

missing : (es : List Pair) (j : ℕ) (path : List ℕ) → position_from (at_path path) j es ≡ None → found path es ≡ None
missing [] j path none = refl
missing (e ∷ es) j path none =
    elim (bytes_eq e.0 path) as (λ b. bytes_eq e.0 path ≡ b → cond b (Some j) (position_from (at_path path) (j + 1) es) ≡ None → found path (e ∷ es) ≡ None) [
      | true ↦ λ t is. cc
      | false ↦ λ t is.
          elim (eq_by_cmp (slice_cmp nat_cmp) path e.0) as (λ b. eq_by_cmp (slice_cmp nat_cmp) path e.0 ≡ b → cond b (Some e.1.items) (found path es) ≡ None) [
            | true ↦ λ a. let yes : bytes_eq e.0 path ≡ true = (bytes_eq-Decides e.0 path).1 (sym (tied path e.0 a)) in cc
            | false ↦ λ a. missing es (j + 1) path is
          ] refl
    ] refl none

exact : (x y : List ℕ) → slice_cmp nat_cmp x y ≡ Equal → x ≡ y
exact = slice_cmp-IsAntisymmetric nat_cmp-IsAntisymmetric

-- the first pair of a path is replaced
pub held_of-set : (es : List Pair) (i : ℕ) (path : List ℕ) (old new : Pair) → position_from (at_path path) 0 es ≡ Some i → old ≡ get_or es i old → new.0 ≡ old.0 → held_of (set es i new) ≡ with_content (held_of es) path new.1.items
held_of-set es i path old new at is key =
    same_map nat_list_cmp_total exact _ _ (λ q.
    get-from_entries nat_list_cmp_total (map entry (set es i new)) q
    ∙ found-set es 0 i path q old new (at ∙ ap Some (sym (zero-add i))) is key
    ∙ sym (get-insert nat_list_cmp_total (held_of es) path new.1.items q
    ∙ ap (cond (eq_by_cmp (slice_cmp nat_cmp) q path) (Some new.1.items)) (get-from_entries nat_list_cmp_total (map entry es) q)))

-- a pair whose path is new is pushed
pub held_of-push : (es : List Pair) (path : List ℕ) (new : Pair) → position_from (at_path path) 0 es ≡ None → new.0 ≡ path → held_of (es ++ new ∷ []) ≡ with_content (held_of es) path new.1.items
held_of-push es path new none key =
    ap from_entries (map-append entry es (new ∷ []))
    ∙ ap (λ x. from_entries (map entry es ++ (x, new.1.items) ∷ [])) key
    ∙ from_entries_push nat_list_cmp_total exact (map entry es) path new.1.items (missing es 0 path none)

-- what a look-up finds
pub content_of-held_of : (es : List Pair) (path : List ℕ) → content_of (held_of es) path ≡ found path es
content_of-held_of es path = get-from_entries nat_list_cmp_total (map entry es) path

-- both tests of a path, the map's and the code's
tests : (x y : List ℕ) → eq_by_cmp (slice_cmp nat_cmp) y x ≡ bytes_eq x y
tests x y = sym (texts_ties y x) ∙ nat_list_eq_equiv.symm y x

one_more : (es : List Pair) (i : ℕ) (path : List ℕ) (e : Pair) → i < length es → e ≡ get_or es i e → found path (drop i es) ≡ cond (bytes_eq e.0 path) (Some e.1.items) (found path (drop (i + 1) es))
one_more es i path e within is =
    rw (add-one, drop-cons es i e within, ← is) (ap (λ b. cond b (Some e.1.items) (found path (drop (suc i) es))) (tests e.0 path))

-- a look-up that goes along the pairs: this one is at the path, or goes on to the next, or there is none left
pub found-here : (es : List Pair) (i : ℕ) (path : List ℕ) (e : Pair) → i < length es → e ≡ get_or es i e → bytes_eq e.0 path ≡ true → found path (drop i es) ≡ Some e.1.items
found-here es i path e within is here = one_more es i path e within is ∙ ap (λ b. cond b (Some e.1.items) (found path (drop (i + 1) es))) here

pub found-next : (es : List Pair) (i : ℕ) (path : List ℕ) (e : Pair) → i < length es → e ≡ get_or es i e → bytes_eq e.0 path ≡ false → found path (drop (i + 1) es) ≡ found path (drop i es)
found-next es i path e within is other = sym (one_more es i path e within is ∙ ap (λ b. cond b (Some e.1.items) (found path (drop (i + 1) es))) other)

pub found-end : (es : List Pair) (i : ℕ) (path : List ℕ) → length es ≤ i → found path (drop i es) ≡ None
found-end es i path past = ap (found path) (drop_of_length-le es past)
