-- Where fragments are cut: at slashes, and at the first dot of a step.
use Rattle.std.proofs.Common.{◌≡◌, ◌≢◌, ℕ, suc, ◌+◌, ◌<◌, Bool, true, false, List, [], ◌∷◌, length, refl, sym, ap, ◌∙◌, arith, cond, Option, Some, None}
use Rattle.std.specs.Prelude.{◌||◌, ◌==◌, not, if◌then◌else◌}
use Rattle.std.specs.Option.{option_and_then}
use Rattle.std.specs.List.{list_any, position_or_len, slice_split, onto_first, before_first, after_first}
use Rattle.std.proofs.lemmas.Bool.{eqb-true}
use Rattle.std.proofs.lemmas.List.Splits.{slice_split_first}
use Rattle.atl_base.specs.declared.numbers.ClassId.{ClassId}
use Rattle.atl_base.specs.declared.numbers.ObjId.{ObjId}
use Rattle.model_store.specs.Contents.{Contents, class_of}
use Rattle.model_store.specs.Paths.{is_slash, is_dot, parts_of, root_named, content_feature, many_content, single_content, content_in_class, content_named, descend, at_parts, object_of_path}

module _ {X : Type 0} (p : X → Bool) where
  within_at : (b any : Bool) (n len : ℕ) → (n < len → any ≡ true) → cond (not b) (1 + n) 0 < suc len → (b || any) ≡ true
  within_at true any n len h low = refl
  within_at false any n len h low = h (omega (arith, low))

  -- where an element passes, the first that does has a place
  pub any_within : (xs : List X) → position_or_len p xs < length xs → list_any p xs ≡ true
  any_within [] h = absurd (omega (arith, h))
  any_within (x ∷ xs) h = within_at (p x) (list_any p xs) (position_or_len p xs) (length xs) (any_within xs) h

  past_at : (b any : Bool) (n len : ℕ) → (n ≡ len → any ≡ false) → cond (not b) (1 + n) 0 ≡ suc len → (b || any) ≡ false
  past_at true any n len h e = absurd (omega (arith, e))
  past_at false any n len h e = h (omega (arith, e))

  pub any_past : (xs : List X) → position_or_len p xs ≡ length xs → list_any p xs ≡ false
  any_past [] e = refl
  any_past (x ∷ xs) e = past_at (p x) (list_any p xs) (position_or_len p xs) (length xs) (any_past xs) e

  one_at : (b : Bool) (x : X) (xs : List X) (parts : List (List X)) (n : ℕ) → (n ≡ length xs → parts ≡ xs ∷ []) → cond (not b) (1 + n) 0 ≡ suc (length xs) → cond b ([] ∷ parts) (onto_first x parts) ≡ (x ∷ xs) ∷ []
  one_at true x xs parts n h e = absurd (omega (arith, e))
  one_at false x xs parts n h e = ap (onto_first x) (h (omega (arith, e)))

  -- where none passes, there is one part
  pub one_part : (xs : List X) → position_or_len p xs ≡ length xs → slice_split p xs ≡ xs ∷ []
  one_part [] e = refl
  one_part (x ∷ xs) e = one_at (p x) x xs (slice_split p xs) (position_or_len p xs) (one_part xs) e

module _ (m : Contents) where
  no_slash_at : (b : ℕ) (bs : List ℕ) (slash : Bool) → (b == 47) ≡ slash → (b ≡ 47 → ⊥) → (parts : List (List ℕ)) → at_parts m (cond slash ([] ∷ parts) (onto_first b parts)) ≡ None
  no_slash_at b bs true e not_it parts = absurd (not_it (eqb-true b 47 e))
  no_slash_at b bs false e not_it [] = refl
  no_slash_at b bs false e not_it (part ∷ parts) = refl

  -- a fragment begins with a slash
  pub no_slash : (text : List ℕ) → ((rest : List ℕ) → text ≢ 47 ∷ rest) → object_of_path m text ≡ None
  no_slash [] h = refl
  no_slash (b ∷ bs) h = no_slash_at b bs (b == 47) refl (λ e. h bs (ap (λ n. n ∷ bs) e)) (parts_of bs)

  pub from_root : (text below root : List ℕ) (parts : List (List ℕ)) → text ≡ 47 ∷ below → parts_of below ≡ root ∷ parts → object_of_path m text ≡ descend m (root_named m.roots root) parts
  from_root text below root parts e is = ap (object_of_path m) e ∙ ap (λ ps. at_parts m ([] ∷ ps)) is

  -- one step down
  pub down : (o : ObjId) (text part rest : List ℕ) → position_or_len is_slash text < length text → part ≡ before_first is_slash text → rest ≡ after_first is_slash text
      → descend m (Some o) (parts_of text) ≡ descend m (content_named m o part) (parts_of rest)
  down o text part rest h e is =
      ap (descend m (Some o)) (slice_split_first is_slash text 0 h)
      ∙ ap (λ x. descend m (content_named m o x) (parts_of (after_first is_slash text))) (sym e)
      ∙ ap (λ x. descend m (content_named m o part) (parts_of x)) (sym is)

  descend_end : (x : Option ObjId) → descend m x [] ≡ x
  descend_end None = refl
  descend_end (Some o) = refl

  -- the last
  pub bottom : (o : ObjId) (text : List ℕ) → position_or_len is_slash text ≡ length text → descend m (Some o) (parts_of text) ≡ content_named m o text
  bottom o text h = ap (descend m (Some o)) (one_part is_slash text h) ∙ descend_end (content_named m o text)

  pub root_alone : (text below : List ℕ) → text ≡ 47 ∷ below → position_or_len is_slash below ≡ length below → object_of_path m text ≡ root_named m.roots below
  root_alone text below e h = from_root text below below [] e (one_part is_slash below h) ∙ descend_end (root_named m.roots below)

  pub root_and_steps : (text below root steps : List ℕ) → text ≡ 47 ∷ below → position_or_len is_slash below < length below → root ≡ before_first is_slash below → steps ≡ after_first is_slash below
      → object_of_path m text ≡ descend m (root_named m.roots root) (parts_of steps)
  root_and_steps text below root steps e h is more =
      from_root text below (before_first is_slash below) (parts_of (after_first is_slash below)) e (slice_split_first is_slash below 0 h)
      ∙ ap (λ x. descend m (root_named m.roots x) (parts_of (after_first is_slash below))) (sym is)
      ∙ ap (λ x. descend m (root_named m.roots root) (parts_of x)) (sym more)

  -- a step begins with `@`
  no_step_at : (o : ObjId) (b : ℕ) (bs : List ℕ) (begins : Bool) → (b == 64) ≡ begins → (b ≡ 64 → ⊥)
      → (if begins then option_and_then (content_in_class m o bs) (class_of m o) else None) ≡ None
  no_step_at o b bs true e not_it = absurd (not_it (eqb-true b 64 e))
  no_step_at o b bs false e not_it = refl

  pub no_step : (o : ObjId) (text : List ℕ) → ((rest : List ℕ) → text ≢ 64 ∷ rest) → content_named m o text ≡ None
  no_step o [] h = refl
  no_step o (b ∷ bs) h = no_step_at o b bs (b == 64) refl (λ e. h bs (ap (λ n. n ∷ bs) e))

  -- without a dot it names a single-valued feature
  pub single_step : (o : ObjId) (text : List ℕ) (class : ClassId) → position_or_len is_dot text ≡ length text
      → content_in_class m o text class ≡ option_and_then (single_content m o) (content_feature m.meta class text)
  single_step o text class h =
      ap (λ b. if b then option_and_then (many_content m o (after_first is_dot text)) (content_feature m.meta class (before_first is_dot text)) else option_and_then (single_content m o) (content_feature m.meta class text)) (any_past is_dot text h)
