-- Who bears an id, by a table that is made of all ids in their order.
use Rattle.std.proofs.Common.{◌≡◌, ℕ, suc, ◌<◌, List, [], ◌∷◌, ◌++◌, map, refl, ap, ◌∙◌, arith}
use Rattle.std.specs.Prelude.{Bool, true, false, ◌==◌, ◌&&◌, ◌||◌, bytes_eq, codes, filter, flat_map, Option, Some, None, if◌then◌else◌}
use Rattle.std.specs.List.{list_any}
use Rattle.std.specs.Option.{option_map_or}
use Rattle.std.proofs.lemmas.List.Folds.{list_any-append}
use Rattle.atl_base.specs.declared.numbers.ClassId.{ClassId}
use Rattle.atl_base.specs.declared.numbers.FeatId.{FeatId}
use Rattle.atl_base.specs.declared.numbers.ObjId.{ObjId}
use Rattle.doc_text.specs.Names.{xmi_space}
use Rattle.doc_text.specs.declared.tree.Attribute.{Attribute}
use Rattle.ecore_meta.specs.Inheritance.{features}
use Rattle.model_store.specs.Contents.{Contents, class_of, slot}
use Rattle.model_store.specs.Texts.{plain_text}
use Rattle.xmi_text.specs.Markup.{is_called}
use Rattle.xmi_models.specs.Outline.{Entry}
use Rattle.xmi_models.specs.Faults.{objects}
use Rattle.xmi_links.specs.declared.ids.Bearers.{Bearers}
use Rattle.xmi_links.specs.declared.ids.Bearers.TheVariants as borne
use Rattle.xmi_links.specs.References.{bearers, bearers_from, bears, is_id}
use Rattle.xmi_links.specs.Found.{bearers_kept, borne_by, element_ids, ids_from, value_ids, with_bearer}

abbrev pub Ids : Type 0
Ids = List (List ℕ × ObjId)

module _ (q : List ℕ) where
  pub borne_append : (known : Option Bearers) (xs ys : Ids) → borne_by q known (xs ++ ys) ≡ borne_by q (borne_by q known xs) ys
  borne_append known [] ys = refl
  borne_append known (x ∷ xs) ys = borne_append (if bytes_eq x.0 q then Some (with_bearer known x.1) else known) xs ys

  pub borne_more : (xs : Ids) (x : List ℕ × ObjId) → borne_by q None (xs ++ (x ∷ [])) ≡ (if bytes_eq x.0 q then Some (with_bearer (borne_by q None xs) x.1) else borne_by q None xs)
  borne_more xs x = borne_append None xs (x ∷ [])

  -- ## The ids of one object

  abbrev AreOf : ObjId → Ids → Type 0
  AreOf o [] = Unit {0}
  AreOf o (x ∷ xs) = (x.1 ≡ o) × AreOf o xs

  of_append : (o : ObjId) (xs ys : Ids) → AreOf o xs → AreOf o ys → AreOf o (xs ++ ys)
  of_append o [] ys h k = k
  of_append o (x ∷ xs) ys h k = (h.0, of_append o xs ys h.1 k)

  of_map : {A : Type 0} (o : ObjId) (f : A → List ℕ) (xs : List A) → AreOf o (map (λ x. (f x, o)) xs)
  of_map o f [] = tt
  of_map o f (x ∷ xs) = (refl, of_map o f xs)

  twice : (known : Option Bearers) (o : ObjId) → with_bearer (Some (with_bearer known o)) o ≡ with_bearer known o
  twice None o = same (o.0 == o.0) (grind arith)
    where
      same : (b : Bool) → b ≡ true → (if b then borne.One o else borne.Several) ≡ borne.One o
      same true h = refl
      same false h = cc
  twice (Some (borne.One p)) o = by (p.0 == o.0) (o.0 == o.0) (grind arith)
    where
      by : (b c : Bool) → c ≡ true → with_bearer (Some (if b then borne.One o else borne.Several)) o ≡ (if b then borne.One o else borne.Several)
      by true c h = same (o.0 == o.0) (grind arith)
        where
          same : (b : Bool) → b ≡ true → (if b then borne.One o else borne.Several) ≡ borne.One o
          same true h = refl
          same false h = cc
      by false c h = refl
  twice (Some borne.Several) o = refl

  abbrev is_there : List ℕ × ObjId → Bool
  is_there x = bytes_eq x.0 q

  -- one that bears it already
  known_stays : (known : Option Bearers) (o : ObjId) (xs : Ids) → AreOf o xs → borne_by q (Some (with_bearer known o)) xs ≡ Some (with_bearer known o)
  known_stays known o [] h = refl
  known_stays known o (x ∷ xs) h =
      ap (λ p. borne_by q (if bytes_eq x.0 q then Some (with_bearer (Some (with_bearer known o)) p) else Some (with_bearer known o)) xs) h.0
      ∙ ap (λ b. borne_by q (if bytes_eq x.0 q then Some b else Some (with_bearer known o)) xs) (twice known o)
      ∙ by (bytes_eq x.0 q) ∙ known_stays known o xs h.1
    where
      by : (b : Bool) → borne_by q (if b then Some (with_bearer known o) else Some (with_bearer known o)) xs ≡ borne_by q (Some (with_bearer known o)) xs
      by true = refl
      by false = refl

  of_one : (known : Option Bearers) (o : ObjId) (xs : Ids) → AreOf o xs → borne_by q known xs ≡ (if list_any is_there xs then Some (with_bearer known o) else known)
  of_one known o [] h = refl
  of_one known o (x ∷ xs) h =
      ap (λ p. borne_by q (if bytes_eq x.0 q then Some (with_bearer known p) else known) xs) h.0
      ∙ by (bytes_eq x.0 q) (of_one known o xs h.1)
    where
      by : (b : Bool) → borne_by q known xs ≡ (if list_any is_there xs then Some (with_bearer known o) else known)
          → borne_by q (if b then Some (with_bearer known o) else known) xs ≡ (if b || list_any is_there xs then Some (with_bearer known o) else known)
      by true k = known_stays known o xs h.1
      by false k = k

  -- ## Whether an object bears it

  any_map : {A : Type 0} (o : ObjId) (f : A → List ℕ) (xs : List A) → list_any is_there (map (λ x. (f x, o)) xs) ≡ list_any (λ x. bytes_eq (f x) q) xs
  any_map o f [] = refl
  any_map o f (x ∷ xs) = ap (λ b. bytes_eq (f x) q || b) (any_map o f xs)

  any_filter : (o : ObjId) (p : Attribute → Bool) (xs : List Attribute) → list_any is_there (map (λ a. (a.value, o)) (filter p xs)) ≡ list_any (λ a. p a && bytes_eq a.value q) xs
  any_filter o p [] = refl
  any_filter o p (a ∷ xs) = by (p a) (any_filter o p xs)
    where
      by : (b : Bool) → list_any is_there (map (λ a. (a.value, o)) (filter p xs)) ≡ list_any (λ a. p a && bytes_eq a.value q) xs
          → list_any is_there (map (λ a. (a.value, o)) (if b then a ∷ filter p xs else filter p xs)) ≡ ((b && bytes_eq a.value q) || list_any (λ a. p a && bytes_eq a.value q) xs)
      by true k = ap (λ r. bytes_eq a.value q || r) k
      by false k = k

  module _ (m : Contents) (o : ObjId) where
    abbrev of_feature : FeatId → Ids
    of_feature f = if is_id m.meta f then map (λ v. (plain_text m.meta f v, o)) (slot m o f) else []

    abbrev bears_by : FeatId → Bool
    bears_by f = is_id m.meta f && list_any (λ v. bytes_eq (plain_text m.meta f v) q) (slot m o f)

    any_feature : (f : FeatId) → list_any is_there (of_feature f) ≡ bears_by f
    any_feature f = by (is_id m.meta f)
      where
        by : (b : Bool) → list_any is_there (if b then map (λ v. (plain_text m.meta f v, o)) (slot m o f) else []) ≡ (b && list_any (λ v. bytes_eq (plain_text m.meta f v) q) (slot m o f))
        by true = any_map o (plain_text m.meta f) (slot m o f)
        by false = refl

    of_feature_of : (f : FeatId) → AreOf o (of_feature f)
    of_feature_of f = by (is_id m.meta f)
      where
        by : (b : Bool) → AreOf o (if b then map (λ v. (plain_text m.meta f v, o)) (slot m o f) else [])
        by true = of_map o (plain_text m.meta f) (slot m o f)
        by false = tt

    any_features : (fs : List FeatId) → list_any is_there (flat_map of_feature fs) ≡ list_any bears_by fs
    any_features [] = refl
    any_features (f ∷ fs) =
        list_any-append is_there (of_feature f) (flat_map of_feature fs)
        ∙ ap (λ b. b || list_any is_there (flat_map of_feature fs)) (any_feature f)
        ∙ ap (λ b. bears_by f || b) (any_features fs)

    of_features : (fs : List FeatId) → AreOf o (flat_map of_feature fs)
    of_features [] = tt
    of_features (f ∷ fs) = of_append o (of_feature f) (flat_map of_feature fs) (of_feature_of f) (of_features fs)

    any_values : list_any is_there (value_ids m o) ≡ option_map_or (λ c. list_any bears_by (features m.meta.classes c)) (class_of m o) false
    any_values = by (class_of m o)
      where
        by : (c : Option ClassId) → list_any is_there (option_map_or (λ c. flat_map of_feature (features m.meta.classes c)) c []) ≡ option_map_or (λ c. list_any bears_by (features m.meta.classes c)) c false
        by None = refl
        by (Some c) = any_features (features m.meta.classes c)

    of_values : AreOf o (value_ids m o)
    of_values = by (class_of m o)
      where
        by : (c : Option ClassId) → AreOf o (option_map_or (λ c. flat_map of_feature (features m.meta.classes c)) c [])
        by None = tt
        by (Some c) = of_features (features m.meta.classes c)

    any_element : (e : Entry) → list_any is_there (element_ids m o e) ≡ bears m q o e
    any_element e =
        list_any-append is_there (map (λ a. (a.value, o)) (filter (is_called xmi_space (codes "id")) e.tag.attributes)) (value_ids m o)
        ∙ ap (λ b. b || list_any is_there (value_ids m o)) (any_filter o (is_called xmi_space (codes "id")) e.tag.attributes)
        ∙ ap (λ b. list_any (λ a. is_called xmi_space (codes "id") a && bytes_eq a.value q) e.tag.attributes || b) any_values

    of_element : (e : Entry) → AreOf o (element_ids m o e)
    of_element e = of_append o _ (value_ids m o) (of_map o (λ (a : Attribute). a.value) (filter (is_called xmi_space (codes "id")) e.tag.attributes)) of_values

  -- ## All objects

  abbrev all_with : Option Bearers → List ObjId → Option Bearers
  all_with known [] = known
  all_with known (o ∷ os) = all_with (Some (with_bearer known o)) os

  module _ (m : Contents) where
    by_bearers : (known : Option Bearers) (n : ℕ) (es : List Entry) → borne_by q known (ids_from m n es) ≡ all_with known (bearers_from m q n es)
    by_bearers known n [] = refl
    by_bearers known n (e ∷ es) =
        let o : ObjId = record { 0 = n } in
        borne_append known (element_ids m o e) (ids_from m (suc n) es)
        ∙ ap (λ k. borne_by q k (ids_from m (suc n) es))
        (of_one known o (element_ids m o e) (of_element m o e) ∙ ap (λ b. if b then Some (with_bearer known o) else known) (any_element m o e))
        ∙ by (bears m q o e) (λ k. by_bearers k (suc n) es)
      where
        by : (b : Bool) → ((k : Option Bearers) → borne_by q k (ids_from m (suc n) es) ≡ all_with k (bearers_from m q (suc n) es))
            → borne_by q (if b then Some (with_bearer known (record { 0 = n })) else known) (ids_from m (suc n) es)
            ≡ all_with known (if b then record { 0 = n } ∷ bearers_from m q (suc n) es else bearers_from m q (suc n) es)
        by true k = k (Some (with_bearer known (record { 0 = n })))
        by false k = k known

    several : (os : List ObjId) → all_with (Some borne.Several) os ≡ Some borne.Several
    several [] = refl
    several (o ∷ os) = several os

    after_one : (k n : ℕ) (es : List Entry) → k < n → all_with (Some (borne.One (record { 0 = k }))) (bearers_from m q n es) ≡ bearers_kept (record { 0 = k } ∷ bearers_from m q n es)
    after_one k n [] h = refl
    after_one k n (e ∷ es) h = by (bears m q (record { 0 = n }) e) (after_one k (suc n) es (omega (arith, h)))
      where
        apart : (b : Bool) → (k == n) ≡ b → all_with (Some (if b then borne.One (record { 0 = n }) else borne.Several)) (bearers_from m q (suc n) es) ≡ Some borne.Several
        apart true e = absurd (grind (arith, e, h))
        apart false e = several (bearers_from m q (suc n) es)

        by : (b : Bool) → all_with (Some (borne.One (record { 0 = k }))) (bearers_from m q (suc n) es) ≡ bearers_kept (record { 0 = k } ∷ bearers_from m q (suc n) es)
            → all_with (Some (borne.One (record { 0 = k }))) (if b then record { 0 = n } ∷ bearers_from m q (suc n) es else bearers_from m q (suc n) es)
            ≡ bearers_kept (record { 0 = k } ∷ (if b then record { 0 = n } ∷ bearers_from m q (suc n) es else bearers_from m q (suc n) es))
        by true r = apart (k == n) refl
        by false r = r

    all_kept : (n : ℕ) (es : List Entry) → all_with None (bearers_from m q n es) ≡ bearers_kept (bearers_from m q n es)
    all_kept n [] = refl
    all_kept n (e ∷ es) = by (bears m q (record { 0 = n }) e) (all_kept (suc n) es)
      where
        by : (b : Bool) → all_with None (bearers_from m q (suc n) es) ≡ bearers_kept (bearers_from m q (suc n) es) → all_with None (if b then record { 0 = n } ∷ bearers_from m q (suc n) es else bearers_from m q (suc n) es)
            ≡ bearers_kept (if b then record { 0 = n } ∷ bearers_from m q (suc n) es else bearers_from m q (suc n) es)
        by true r = after_one n (suc n) es (omega arith)
        by false r = r

    pub borne_is : (file : List Entry) → borne_by q None (ids_from m 0 (objects file)) ≡ bearers_kept (bearers m file q)
    borne_is file = by_bearers None 0 (objects file) ∙ all_kept 0 (objects file)
