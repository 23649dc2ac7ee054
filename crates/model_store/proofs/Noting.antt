-- Noting where objects are contained, step by step.
use Rattle.std.proofs.Common.{◌≡◌, ℕ, ◌+◌, ◌<◌, ◌≤◌, Bool, true, false, List, [], ◌∷◌, length, drop, refl, sym, ap, ◌∙◌, Option, Some, None}
use Rattle.std.specs.Prelude.{◌||◌, slice_index_or, option_map, if◌then◌else◌}
use Rattle.std.specs.Option.{option_map_or}
use Rattle.std.proofs.Math.ListN.{drop_of_length-le}
use Rattle.std.proofs.lemmas.List.{drop_more, get_or_default}
use Rattle.atl_base.specs.declared.numbers.FeatId.{FeatId}
use Rattle.atl_base.specs.declared.numbers.ObjId.{ObjId}
use Rattle.ecore_meta.specs.declared.parts.Parts.{Parts}
use Rattle.model_store.specs.declared.parts.Cellv.{Cellv}
use Rattle.model_store.specs.declared.parts.Object.{Object}
use Rattle.model_store.specs.Contents.{contains, holds, holding_feature, holding_place, holder_from, refers_to}
use Rattle.model_store.specs.HolderTables.{or_else, pair_with}
use Rattle.model_store.proofs.Holders.{holder_at}

abbrev Holder : Type 0
Holder = Option (ObjId × FeatId)

pub or_none : (x : Holder) → or_else x None ≡ x
or_none None = refl
or_none (Some at) = refl

-- ## Values

module _ (at : ObjId × FeatId) (p : ObjId) where
  abbrev pub where_true : Bool → Holder
  where_true b = if b then Some at else None

  both : (x : Holder) (b h : Bool) → or_else (or_else x (where_true b)) (where_true h) ≡ or_else x (where_true (b || h))
  both (Some y) b h = refl
  both None true h = refl
  both None false h = refl

  pub value_more : (cells : List Cellv) (j : ℕ) (c : Cellv) (x y : Holder) → j < length cells → c ≡ slice_index_or cells j c → y ≡ or_else x (where_true (refers_to p c))
      → or_else y (where_true (holds p (drop (j + 1) cells))) ≡ or_else x (where_true (holds p (drop j cells)))
  value_more cells j c x y l e is =
      let rest : List Cellv = drop (j + 1) cells in
      ap (λ z. or_else z (where_true (holds p rest))) is
      ∙ both x (refers_to p c) (holds p rest)
      ∙ ap (λ d. or_else x (where_true (refers_to p d || holds p rest))) e
      ∙ sym (ap (λ l. or_else x (where_true (holds p l))) (drop_more cells j c l))

  pub value_end : (cells : List Cellv) (j : ℕ) (x : Holder) → length cells ≤ j → or_else x (where_true (holds p (drop j cells))) ≡ x
  value_end cells j x l = ap (λ l. or_else x (where_true (holds p l))) (drop_of_length-le cells l) ∙ or_none x

-- ## Features

module _ (meta : Parts) (o p : ObjId) where
  abbrev pub by_features : List FeatId → List (List Cellv) → Holder
  by_features fs slots = option_map (pair_with o) (holding_feature meta p fs slots)

  abbrev here : FeatId → List Cellv → Bool
  here f cells = if contains meta f then holds p cells else false

  or_feature : (x : Holder) (f : FeatId) (b : Bool) (r : Option FeatId) → or_else (or_else x (if b then Some (o, f) else None)) (option_map (pair_with o) r) ≡ or_else x (option_map (pair_with o) (if b then Some f else r))
  or_feature (Some y) f b r = refl
  or_feature None f true r = refl
  or_feature None f false r = refl

  pub feature_more : (fs : List FeatId) (slots : List (List Cellv)) (j : ℕ) (d : FeatId) (cells : List Cellv) (x y : Holder) → j < length fs → j < length slots → cells ≡ slice_index_or slots j cells
      → y ≡ or_else x (if here (slice_index_or fs j d) cells then Some (o, slice_index_or fs j d) else None)
      → or_else y (by_features (drop (j + 1) fs) (drop (j + 1) slots)) ≡ or_else x (by_features (drop j fs) (drop j slots))
  feature_more fs slots j d cells x y l k e is =
      let f : FeatId = slice_index_or fs j d in
      let rest : Option FeatId = holding_feature meta p (drop (j + 1) fs) (drop (j + 1) slots) in
      let same : cells ≡ slice_index_or slots j [] = e ∙ get_or_default slots j cells [] k in
      let now : holding_feature meta p (drop j fs) (drop j slots) ≡ (if here f cells then Some f else rest) =
      ap (λ l. holding_feature meta p l (drop j slots)) (drop_more fs j d l)
      ∙ ap (holding_feature meta p (f ∷ drop (j + 1) fs)) (drop_more slots j [] k)
      ∙ ap (λ (c : List Cellv). if here f c then Some f else rest) (sym same) in
      ap (λ z. or_else z (option_map (pair_with o) rest)) is
      ∙ or_feature x f (here f cells) rest
      ∙ sym (ap (λ r. or_else x (option_map (pair_with o) r)) now)

  pub feature_end : (fs : List FeatId) (slots : List (List Cellv)) (j : ℕ) (x : Holder) → length fs ≤ j → or_else x (by_features (drop j fs) (drop j slots)) ≡ x
  feature_end fs slots j x l = ap (λ l. or_else x (by_features l (drop j slots))) (drop_of_length-le fs l) ∙ or_none x

-- ## Objects

module _ (meta : Parts) (p : ObjId) where
  or_object : (o : ObjId) (x : Holder) (r : Option FeatId) (rest : Holder) → or_else (or_else x (option_map (pair_with o) r)) rest ≡ or_else x (option_map_or (λ f. Some (o, f)) r rest)
  or_object o (Some y) r rest = refl
  or_object o None None rest = refl
  or_object o None (Some f) rest = refl

  pub object_more : (objects : List (Option Object)) (j : ℕ) (place : Option Object) (x y : Holder) → j < length objects → place ≡ slice_index_or objects j place
      → y ≡ or_else x (option_map (pair_with (record { 0 = j })) (holding_place meta p place))
      → or_else y (holder_from meta p (j + 1) (drop (j + 1) objects)) ≡ or_else x (holder_from meta p j (drop j objects))
  object_more objects j place x y l e is =
      let rest : Holder = holder_from meta p (j + 1) (drop (j + 1) objects) in
      ap (λ z. or_else z rest) is
      ∙ or_object (record { 0 = j }) x (holding_place meta p place) rest
      ∙ ap (λ q. or_else x (option_map_or (λ f. Some (record { 0 = j }, f)) (holding_place meta p q) rest)) e
      ∙ sym (ap (or_else x) (holder_at meta p objects j place l))

  pub object_end : (objects : List (Option Object)) (j : ℕ) (x : Holder) → length objects ≤ j → or_else x (holder_from meta p j (drop j objects)) ≡ x
  object_end objects j x l = ap (λ l. or_else x (holder_from meta p j l)) (drop_of_length-le objects l) ∙ or_none x

  pub from_none : (objects : List (Option Object)) (x : Holder) → x ≡ None → or_else x (holder_from meta p 0 objects) ≡ holder_from meta p 0 objects
  from_none objects x e = ap (λ z. or_else z (holder_from meta p 0 objects)) e
