-- A step of a path leads from a container back to its content.
use Rattle.std.proofs.Common.{◌≡◌, ℕ, ◌+◌, ◌<◌, ◌≤◌, ◌^◌, ◌⊎◌, inl, inr, pos, Bool, true, false, List, [], ◌∷◌, ◌++◌, length, take, drop, refl, sym, ap, ◌∙◌, subst, arith, cond, Option, Some, None}
use Rattle.std.specs.Prelude.{◌||◌, ◌==◌, not, slice_get, slice_index_or, option_map, Contains, if◌then◌else◌}
use Rattle.std.specs.Fmt.{decimal}
use Rattle.std.specs.List.{list_any, position_or_len, before_first, after_first}
use Rattle.std.specs.Option.{option_map_or, option_and_then}
use Rattle.std.specs.Str.{bytes_eq}
use Rattle.std.proofs.Math.Seq.{take-append_seam, drop-append-add}
use Rattle.std.proofs.lemmas.Bool.{and_from, and_parts, or_parts, eqb-true, false_from_ne_true}
use Rattle.std.proofs.lemmas.List.{append-nil, get_or-map, length-map}
use Rattle.std.proofs.lemmas.List.Folds.{find_at}
use Rattle.std.proofs.lemmas.List.Quantifiers.{position-Some}
use Rattle.std.proofs.lemmas.List.Sums.{position_or_len_is}
use Rattle.std.proofs.lemmas.Option.{slice_get-get_or, slice_get_within, get_or_from_slice_get}
use Rattle.std.proofs.lemmas.Slice.Eq.{bytes_eq-Decides}
use Rattle.atl_base.specs.declared.numbers.ClassId.{ClassId}
use Rattle.atl_base.specs.declared.numbers.FeatId.{FeatId}
use Rattle.atl_base.specs.declared.numbers.ObjId.{ObjId}
use Rattle.ecore_meta.specs.declared.parts.Feature.{Feature}
use Rattle.ecore_meta.specs.declared.parts.Parts.{Parts}
use Rattle.ecore_meta.specs.Inheritance.{features, name_of}
use Rattle.ecore_meta.specs.Valid.{IsMetamodel}
use Rattle.ecore_meta.specs.Names.{IsName, HasNoDot}
use Rattle.model_store.specs.declared.parts.Cellv.{Cellv}
use Rattle.model_store.specs.declared.parts.Cellv.TheVariants.{Words, Int, Truth, Literal, Obj}
use Rattle.model_store.specs.Contents.{Contents, object_at, is_many, contains, refers, slot, refers_to, first_object, holder}
use Rattle.model_store.specs.Valid.{IsModel, IsOfType, Refers}
use Rattle.model_store.specs.Paths.{is_dot, is_slash, is_content, content_feature, content_at, object_in, many_content, single_content, content_in_class, content_named}
use Rattle.model_store.specs.declared.path.Step.{Step}
use Rattle.model_store.proofs.Added.{object_of_type, contains_refers}
use Rattle.model_store.proofs.Counted.{placed_within, placed_at, at_most}
use Rattle.model_store.proofs.Created.{all_contained, slot_of, there_by_type}
use Rattle.model_store.proofs.CreatedModel.{seen_once}
use Rattle.model_store.proofs.Holding.{holder_refers}
use Rattle.model_store.proofs.PathDigits.{at_decimal, any_append, decimal_no_slash, name_no_slash}
use Rattle.model_store.proofs.Slots.{same_object, same_feature, IsAt, at_of}
use Rattle.model_store.proofs.Thinned.{Contains_cases, Contains_none, refers_is, refers_same}
use Rattle.model_store.proofs.Updates.{found_within}

-- ## The first dot

dot_after : (name ds : List ℕ) → list_any is_dot name ≡ false → position_or_len is_dot (name ++ 46 ∷ ds) ≡ length name
dot_after [] ds e = refl
dot_after (c ∷ cs) ds e =
    let parts = or_parts (is_dot c) (list_any is_dot cs) e in
    ap (λ b. cond (not b) (1 + position_or_len is_dot (cs ++ 46 ∷ ds)) 0) parts.0 ∙ (let h : position_or_len is_dot (cs ++ 46 ∷ ds) ≡ length cs = dot_after cs ds parts.1 in omega (arith, h))

any_in : (p : ℕ → Bool) (xs ys : List ℕ) (y : ℕ) → p y ≡ true → list_any p (xs ++ y ∷ ys) ≡ true
any_in p [] ys y e = ap (λ b. b || list_any p ys) e
any_in p (x ∷ xs) ys y e = on (p x) (any_in p xs ys y e)
  where
    on : (b : Bool) → list_any p (xs ++ y ∷ ys) ≡ true → (b || list_any p (xs ++ y ∷ ys)) ≡ true
    on true h = refl
    on false h = h

before_dot : (name ds : List ℕ) → list_any is_dot name ≡ false → before_first is_dot (name ++ 46 ∷ ds) ≡ name
before_dot name ds e = ap (λ n. take n (name ++ 46 ∷ ds)) (dot_after name ds e) ∙ take-append_seam name (46 ∷ ds)

after_dot : (name ds : List ℕ) → list_any is_dot name ≡ false → after_first is_dot (name ++ 46 ∷ ds) ≡ ds
after_dot name ds e = ap (λ n. drop (n + 1) (name ++ 46 ∷ ds)) (dot_after name ds e) ∙ drop-append-add name (46 ∷ ds) 1

-- ## The containment feature of a name

module _ (meta : Parts) (valid : IsMetamodel meta) (class : ClassId) (within : class.0 < length meta.classes) (f : FeatId) where
  abbrev seen : List FeatId
  seen = features meta.classes class

  abbrev own_name : List ℕ
  own_name = name_of meta.features f

  feature_found : (k : ℕ) → k < length seen → slice_index_or seen k f ≡ f → contains meta f ≡ true → content_feature meta class own_name ≡ Some f
  feature_found k low is inside =
      let test : FeatId → Bool = is_content meta own_name in
      let passes : test f ≡ true = and_from _ _ inside ((bytes_eq-Decides own_name own_name).1 refl) in
      let earlier : (i : ℕ) → i < k → test (slice_index_or seen i f) ≡ false =
      λ i lt. false_from_ne_true (test (slice_index_or seen i f)) (λ t.
      let parts = and_parts (contains meta (slice_index_or seen i f)) (bytes_eq (name_of meta.features (slice_index_or seen i f)) own_name) t in
      let same : name_of meta.features (slice_index_or seen i f) ≡ own_name = (bytes_eq-Decides (name_of meta.features (slice_index_or seen i f)) own_name).0 parts.1 in
      valid.seen_differ class within i k [] lt (omega (arith, low, length-map seen (name_of meta.features)))
      (get_or-map (name_of meta.features) seen i f [] (omega (arith, lt, low)) ∙ same ∙ sym (get_or-map (name_of meta.features) seen k f [] low ∙ ap (name_of meta.features) is))) in
      let first : position_or_len test seen ≡ k = position_or_len_is test seen k f (omega arith) earlier (λ _. ap test is ∙ passes) in
      find_at test seen ∙ ap (slice_get seen) first ∙ slice_get-get_or seen k f low ∙ ap Some is

-- ## The content at a place

only_object : (p : ObjId) (cells : List Cellv) → length cells ≤ 1 → Contains cells (Obj p) → first_object cells ≡ Some p
only_object p [] l h = absurd (Contains_none (Obj p) h)
only_object p (c ∷ []) l h = on (Contains_cases c (Obj p) [] h)
  where
    on : (c ≡ Obj p) ⊎ Contains [] (Obj p) → first_object (c ∷ []) ≡ Some p
    on (inl e) = ap (λ d. first_object (d ∷ [])) e
    on (inr g) = absurd (Contains_none (Obj p) g)
only_object p (c ∷ d ∷ cells) l h = absurd (omega (arith, l))

-- a step, and what of it stands after the slash
abbrev pub step : ObjId → FeatId → ObjId → Step
step r f p = record { from = r; feature = f; to = p }

abbrev pub part : Contents → Step → List ℕ
part m s = 64 ∷ (name_of m.meta.features s.feature ++ (if is_many m.meta s.feature then 46 ∷ decimal (position_or_len (refers_to s.to) (slot m s.from s.feature)) else []))

name_ok : (meta : Parts) → IsMetamodel meta → (f : FeatId) → (list_any is_dot (name_of meta.features f) ≡ false) × (list_any is_slash (name_of meta.features f) ≡ false)
name_ok meta valid f = on (slice_get meta.features f.0) refl
  where
    on : (x : Option Feature) → slice_get meta.features f.0 ≡ x → (list_any is_dot (option_map_or (λ feature. feature.name) x []) ≡ false) × (list_any is_slash (option_map_or (λ feature. feature.name) x []) ≡ false)
    on None e = (refl, refl)
    on (Some feature) e =
        let low = slice_get_within meta.features f.0 feature e in
        let h = valid.names.features f.0 feature low in
        let same = get_or_from_slice_get meta.features f.0 feature feature e in
        let good : IsName feature.name × HasNoDot feature.name = subst (λ (x : Feature). IsName x.name × HasNoDot x.name) same h in
        (good.1, name_no_slash feature.name good.0)

-- ## A step

module _ (m : Contents) (valid : IsMetamodel m.meta) (model : IsModel m) (few : length m.objects < 2 ^ 32) where
  -- a reference has no more values than there are objects
  abbrev number_in : Cellv → ℕ
  number_in (Obj q) = q.0
  number_in (Words t) = 0
  number_in (Int n) = 0
  number_in (Truth b) = 0
  number_in (Literal l) = 0

  module _ (o : ObjId) (f : FeatId) (r : refers m.meta f ≡ true) where
    an_object : (v : Cellv) → Contains (slot m o f) v → (q : ObjId) × (Obj q ≡ v) × (q.0 < length m.objects)
    an_object v h =
        let t = all_contained (IsOfType m f) (slot m o f) v (model.fits o f (slot_of m o f v h)).typed h in
        let x = object_of_type m f v r t in
        let y = there_by_type m f x.0 (subst (IsOfType m f) (sym x.1) t) in
        (x.0, x.1, found_within m.objects x.0.0 y.0 y.1)

    one_number : (v w : Cellv) → Contains (slot m o f) v → Contains (slot m o f) w → number_in v ≡ number_in w → v ≡ w
    one_number v w h k e =
        let x = an_object v h in
        let y = an_object w k in
        sym x.1 ∙ ap Obj (same_object x.0 y.0 (ap number_in x.1 ∙ e ∙ ap number_in (sym y.1))) ∙ y.1

    number_below : (v : Cellv) → Contains (slot m o f) v → number_in v < length m.objects
    number_below v h = let x = an_object v h in subst (λ k. k < length m.objects) (ap number_in x.1) x.2

    pub slot_short : length (slot m o f) < 2 ^ 64
    slot_short = let h = at_most number_in (length m.objects) (Int (pos 0)) (slot m o f) (model.differ o f r) one_number number_below in omega (arith, h, few)

  module _ (p r : ObjId) (f : FeatId) (held : holder m p ≡ Some (r, f)) where
    abbrev referred : (contains m.meta f ≡ true) × Refers m r f p
    referred = holder_refers m (seen_once m.meta valid) model.shaped p r f held

    abbrev at : IsAt m r f
    at = at_of m r f (slot_of m r f (Obj p) referred.1)

    pub holder_there : object_at m.objects r ≡ Some at.object
    holder_there = at.there

    abbrev class : ClassId
    class = at.object.class

    abbrev name : List ℕ
    name = name_of m.meta.features f

    abbrev at_place : ℕ
    at_place = position_or_len (refers_to p) (slot m r f)

    alone : (v : Cellv) → refers_to p v ≡ true → v ≡ Obj p
    alone v e = sym (refers_is p v e)

    pub place_small : at_place < 2 ^ 64
    place_small =
        let h = placed_within (refers_to p) (Obj p) (refers_same p) alone (slot m r f) referred.1 in
        omega (arith, h, slot_short r f (contains_refers m.meta f referred.0))

    found : content_feature m.meta class name ≡ Some f
    found =
        let here = position-Some (λ g. g.0 == f.0) (features m.meta.classes class) at.place f at.found in
        feature_found m.meta valid class (model.shaped r.0 at.object at.there).class_within f at.place here.0 (same_feature (slice_index_or (features m.meta.classes class) at.place f) f (eqb-true (slice_index_or (features m.meta.classes class) at.place f).0 f.0 here.1)) referred.0

    abbrev tail : Bool → List ℕ
    tail b = if b then 46 ∷ decimal at_place else []

    by_kind : (b : Bool) → is_many m.meta f ≡ b → content_in_class m r (name ++ tail b) class ≡ Some p
    by_kind true e =
        let ds : List ℕ = decimal at_place in
        let text : List ℕ = name ++ 46 ∷ ds in
        let dotless : list_any is_dot name ≡ false = (name_ok m.meta valid f).0 in
        ap (λ b. if b then option_and_then (many_content m r (after_first is_dot text)) (content_feature m.meta class (before_first is_dot text)) else option_and_then (single_content m r) (content_feature m.meta class text)) (any_in is_dot name ds 46 refl)
        ∙ ap (λ n. option_and_then (many_content m r (after_first is_dot text)) (content_feature m.meta class n)) (before_dot name ds dotless)
        ∙ ap (λ d. option_and_then (many_content m r d) (content_feature m.meta class name)) (after_dot name ds dotless)
        ∙ ap (option_and_then (many_content m r ds)) found
        ∙ ap (λ b. if b then content_at (slot m r f) ds else None) e
        ∙ ap (option_and_then object_in) (at_decimal (slot m r f) at_place place_small ∙ placed_at (refers_to p) (Obj p) (refers_same p) alone (slot m r f) referred.1)
    by_kind false e =
        let dotless : list_any is_dot name ≡ false = (name_ok m.meta valid f).0 in
        ap (λ t. content_in_class m r t class) (append-nil name)
        ∙ ap (λ b. if b then option_and_then (many_content m r (after_first is_dot name)) (content_feature m.meta class (before_first is_dot name)) else option_and_then (single_content m r) (content_feature m.meta class name)) dotless
        ∙ ap (option_and_then (single_content m r)) found
        ∙ ap (λ b. if b then None else first_object (slot m r f)) e
        ∙ only_object p (slot m r f) ((model.fits r f (slot_of m r f (Obj p) referred.1)).single e) referred.1

    pub step_back : content_named m r (part m (step r f p)) ≡ Some p
    step_back = ap (λ x. option_and_then (content_in_class m r (name ++ tail (is_many m.meta f))) (option_map (λ object. object.class) x)) at.there ∙ by_kind (is_many m.meta f) refl

    pub step_no_slash : list_any is_slash (part m (step r f p)) ≡ false
    step_no_slash = any_append is_slash name (tail (is_many m.meta f)) (name_ok m.meta valid f).1 (on (is_many m.meta f))
      where
        on : (b : Bool) → list_any is_slash (tail b) ≡ false
        on true = decimal_no_slash at_place place_small
        on false = refl
