-- Defaults, put into the slots that elements left empty, object by object.
use Rattle.std.proofs.Common.{◌≡◌, ◌≢◌, ℕ, suc, ◌<◌, List, [], ◌∷◌, ◌++◌, length, map, get_or, refl, sym, ap, subst, ◌∙◌, arith}
use Rattle.std.specs.Prelude.{Bool, true, false, ◌==◌, ◌&&◌, ◌||◌, nat_lt, slice_get, Option, Some, None, option_map, if◌then◌else◌}
use Rattle.std.specs.List.{list_any}
use Rattle.std.specs.Option.{option_map_or}
use Rattle.std.proofs.lemmas.Bool.{eqb-true, eqb-false, eq-eqb, lt-ltb, le-ltb, ltb-true, ltb-false, false≢true}
use Rattle.std.proofs.lemmas.Option.{none-some, same_Some, slice_get_within, slice_get-get_or}
use Rattle.atl_base.specs.declared.numbers.ClassId.{ClassId}
use Rattle.atl_base.specs.declared.numbers.FeatId.{FeatId}
use Rattle.atl_base.specs.declared.numbers.ObjId.{ObjId}
use Rattle.ecore_meta.specs.declared.parts.Feature.{Feature}
use Rattle.ecore_meta.specs.declared.parts.Parts.{Parts}
use Rattle.ecore_meta.specs.Inheritance.{features}
use Rattle.ecore_meta.specs.Valid.{IsMetamodel, is_reference}
use Rattle.model_store.specs.declared.parts.Cellv.{Cellv}
use Rattle.model_store.specs.declared.parts.Object.{Object}
use Rattle.model_store.specs.Contents.{Contents, class_of, contains, refers, slot}
use Rattle.model_store.specs.Sketches.{with_value}
use Rattle.model_store.specs.Writes.{initial, value_of_text}
use Rattle.xmi_models.specs.Outline.{Entry, Inner}
use Rattle.xmi_models.specs.Faults.{objects, own_class}
use Rattle.xmi_links.specs.References.{attribute_values, child_values, children_from, draft, drafted_slot, or_initial, roots_from}
use Rattle.xmi_links.specs.Stages.{Said, all_defaulted, built, defaulted, drafted_to, is_filled, raw, raw_slot, with_defaults}
use Rattle.xmi_links.proofs.Apart.{all_apart}
use Rattle.xmi_links.proofs.Attributing.{contains_refers}
use Rattle.xmi_links.proofs.Built.{is_feature, same_feature}
use Rattle.xmi_links.proofs.Crossing.{eqb_sym}
use Rattle.xmi_links.proofs.Building.{no, object_there, same_built, same_seen, slot_there, value_more}

module _ (meta : Parts) (valid : IsMetamodel meta) (F : List Entry) where
  -- ## One slot

  -- what a slot has with its default
  abbrev pub full : FeatId → List Cellv → List Cellv
  full g cells = if refers meta g then cells else or_initial meta F g cells

  filled_stays : (g : FeatId) (cells : List Cellv) → is_filled cells ≡ true → or_initial meta F g cells ≡ cells
  filled_stays g [] h = absurd (false≢true h)
  filled_stays g (v ∷ vs) h = refl

  -- the default is none, or one value
  initial_is : (g : FeatId) → initial meta g ≡ option_map_or (λ v. v ∷ []) (slice_get (initial meta g) 0) []
  initial_is g = by (slice_get meta.features g.0)
    where
      one : (x : Option (List ℕ)) (feature : Feature) → option_map_or (λ text. value_of_text meta feature.kind text ∷ []) x [] ≡ option_map_or (λ v. v ∷ []) (slice_get (option_map_or (λ text. value_of_text meta feature.kind text ∷ []) x []) 0) []
      one None feature = refl
      one (Some text) feature = refl

      on : (many reference : Bool) (feature : Feature) → (if (if many then true else reference) then [] else option_map_or (λ text. value_of_text meta feature.kind text ∷ []) feature.default [])
          ≡ option_map_or (λ v. v ∷ []) (slice_get (if (if many then true else reference) then [] else option_map_or (λ text. value_of_text meta feature.kind text ∷ []) feature.default []) 0) []
      on true r feature = refl
      on false true feature = refl
      on false false feature = one feature.default feature

      by : (x : Option Feature) → option_map_or (λ feature. if (if feature.many then true else is_reference feature.kind) then [] else option_map_or (λ text. value_of_text meta feature.kind text ∷ []) feature.default []) x []
          ≡ option_map_or (λ v. v ∷ []) (slice_get (option_map_or (λ feature. if (if feature.many then true else is_reference feature.kind) then [] else option_map_or (λ text. value_of_text meta feature.kind text ∷ []) feature.default []) x []) 0) []
      by None = refl
      by (Some feature) = on feature.many (is_reference feature.kind) feature

  full_twice : (g : FeatId) (cells : List Cellv) → full g (full g cells) ≡ full g cells
  full_twice g cells = by (refers meta g)
    where
      again : (x y : List Cellv) → y ≡ or_initial meta F g x → or_initial meta F g y ≡ or_initial meta F g x
      again (v ∷ vs) y h = ap (or_initial meta F g) h
      again [] [] h = refl
      again [] (v ∷ vs) h = h

      by : (r : Bool) → (if r then (if r then cells else or_initial meta F g cells) else or_initial meta F g (if r then cells else or_initial meta F g cells)) ≡ (if r then cells else or_initial meta F g cells)
      by true = refl
      by false = again cells (or_initial meta F g cells) refl

  -- ## One object

  module _ (S : Said) (es : List Entry) (roots : List ObjId) (n : ℕ) (e : Entry) (c : ClassId) (there : slice_get es n ≡ Some e) (class : own_class e.part ≡ Some c) where
    -- those features of it have theirs
    abbrev marked : List FeatId → Said
    marked done p d g = if p.0 == n && list_any (is_feature g) done then full g (S p d g) else S p d g

    abbrev at : List FeatId → Contents
    at done = built meta (marked done) es roots

    marked_here : (done : List FeatId) (g : FeatId) → marked done (no n) e g ≡ (if list_any (is_feature g) done then full g (S (no n) e g) else S (no n) e g)
    marked_here done g = ap (λ b. if b && list_any (is_feature g) done then full g (S (no n) e g) else S (no n) e g) (eq-eqb n n refl)

    full_marked : (done : List FeatId) (g : FeatId) → full g (marked done (no n) e g) ≡ full g (S (no n) e g)
    full_marked done g = ap (full g) (marked_here done g) ∙ by (list_any (is_feature g) done)
      where
        by : (b : Bool) → full g (if b then full g (S (no n) e g) else S (no n) e g) ≡ full g (S (no n) e g)
        by true = full_twice g (S (no n) e g)
        by false = refl

    -- one feature more
    module _ (done : List FeatId) (f : FeatId) (sees : list_any (is_feature f) (features meta.classes c) ≡ true) where
      cells : slot (at done) (no n) f ≡ marked done (no n) e f
      cells = slot_there meta (all_apart meta valid) (marked done) es roots (no n) e c f there class sees

      next_mark : (i : ℕ) (d : Entry) (g : FeatId) → slice_get es i ≡ Some d → marked (f ∷ done) (no i) d g ≡ (if i == n && g.0 == f.0 then full g (marked done (no i) d g) else marked done (no i) d g)
      next_mark i d g t = by (i == n) refl
        where
          on : (x y : Bool) (s : List Cellv) → (if x || y then full g s else s) ≡ (if x then full g (if y then full g s else s) else (if y then full g s else s))
          on true true s = sym (full_twice g s)
          on true false s = refl
          on false y s = refl

          by : (b : Bool) → (i == n) ≡ b → (if b && (f.0 == g.0 || list_any (is_feature g) done) then full g (S (no i) d g) else S (no i) d g)
              ≡ (if b && g.0 == f.0 then full g (if b && list_any (is_feature g) done then full g (S (no i) d g) else S (no i) d g) else (if b && list_any (is_feature g) done then full g (S (no i) d g) else S (no i) d g))
          by true x = on (f.0 == g.0) (list_any (is_feature g) done) (S (no i) d g)
              ∙ ap (λ b. if b then full g (if list_any (is_feature g) done then full g (S (no i) d g) else S (no i) d g) else (if list_any (is_feature g) done then full g (S (no i) d g) else S (no i) d g)) (eqb_sym f.0 g.0)
          by false x = refl

      same_entry : (i : ℕ) (d : Entry) → slice_get es i ≡ Some d → (i == n) ≡ true → d ≡ e
      same_entry i d t x = same_Some d e (sym t ∙ ap (slice_get es) (eqb-true i n x) ∙ there)

      -- what is to be shown of this slot alone
      at_slot : (P : List Cellv → List Cellv → Type 0) → P (full f (marked done (no n) e f)) (marked done (no n) e f) → (i : ℕ) (d : Entry) (g : FeatId) → slice_get es i ≡ Some d → (i == n) ≡ true → (g.0 == f.0) ≡ true
          → P (full g (marked done (no i) d g)) (marked done (no i) d g)
      at_slot P h i d g t x y =
          subst (λ (g : FeatId). P (full g (marked done (no i) d g)) (marked done (no i) d g)) (sym (same_feature g f (eqb-true g.0 f.0 y)))
          (subst (λ (d : Entry). P (full f (marked done (no i) d f)) (marked done (no i) d f)) (sym (same_entry i d t x))
          (subst (λ k. P (full f (marked done (no k) e f)) (marked done (no k) e f)) (sym (eqb-true i n x)) h))

      unchanged : full f (marked done (no n) e f) ≡ marked done (no n) e f → at done ≡ at (f ∷ done)
      unchanged h = same_built meta (marked done) (marked (f ∷ done)) es roots (λ i d t g. sym (next_mark i d g t ∙ by i d g t (i == n) (g.0 == f.0) refl refl))
        where
          by : (i : ℕ) (d : Entry) (g : FeatId) → slice_get es i ≡ Some d → (x y : Bool) → (i == n) ≡ x → (g.0 == f.0) ≡ y → (if x && y then full g (marked done (no i) d g) else marked done (no i) d g) ≡ marked done (no i) d g
          by i d g t true true x y = at_slot (λ a b. a ≡ b) h i d g t x y
          by i d g t true false x y = refl
          by i d g t false b x y = refl

      comes : (v : Cellv) → full f (marked done (no n) e f) ≡ marked done (no n) e f ++ v ∷ [] → with_value (no n) f v (at done) ≡ at (f ∷ done)
      comes v h = value_more meta (all_apart meta valid) f v (marked done) (marked (f ∷ done)) (no n) es roots (λ i d t g. next_mark i d g t ∙ by i d g t (i == n) (g.0 == f.0) refl refl)
        where
          by : (i : ℕ) (d : Entry) (g : FeatId) → slice_get es i ≡ Some d → (x y : Bool) → (i == n) ≡ x → (g.0 == f.0) ≡ y
              → (if x && y then full g (marked done (no i) d g) else marked done (no i) d g) ≡ (if x && y then marked done (no i) d g ++ v ∷ [] else marked done (no i) d g)
          by i d g t true true x y = at_slot (λ a b. a ≡ b ++ v ∷ []) h i d g t x y
          by i d g t true false x y = refl
          by i d g t false b x y = refl

      default_step : defaulted meta (no n) f (at done) ≡ at (f ∷ done)
      default_step =
          ap (λ l. if refers meta f || is_filled l then at done else option_map_or (λ v. with_value (no n) f v (at done)) (slice_get (initial meta f) 0) (at done)) cells
          ∙ by (refers meta f) (marked done (no n) e f) refl refl
        where
          on : (x : Option Cellv) → slice_get (initial meta f) 0 ≡ x → refers meta f ≡ false → marked done (no n) e f ≡ [] → option_map_or (λ v. with_value (no n) f v (at done)) x (at done) ≡ at (f ∷ done)
          on None i plain empty =
              unchanged (ap (full f) empty ∙ ap (λ r. if r then [] else or_initial meta F f []) plain ∙ initial_is f ∙ ap (λ x. option_map_or (λ v. v ∷ []) x []) i ∙ sym empty)
          on (Some v) i plain empty =
              comes v (ap (full f) empty ∙ ap (λ r. if r then [] else or_initial meta F f []) plain ∙ initial_is f ∙ ap (λ x. option_map_or (λ v. v ∷ []) x []) i ∙ ap (λ l. l ++ v ∷ []) (sym empty))

          by : (r : Bool) (l : List Cellv) → refers meta f ≡ r → marked done (no n) e f ≡ l
              → (if r || is_filled l then at done else option_map_or (λ v. with_value (no n) f v (at done)) (slice_get (initial meta f) 0) (at done)) ≡ at (f ∷ done)
          by true l reference k = unchanged (ap (λ r. if r then marked done (no n) e f else or_initial meta F f (marked done (no n) e f)) reference)
          by false (v ∷ vs) plain k =
              unchanged (ap (λ r. if r then marked done (no n) e f else or_initial meta F f (marked done (no n) e f)) plain ∙ filled_stays f (marked done (no n) e f) (ap is_filled k))
          by false [] plain k = on (slice_get (initial meta f) 0) refl plain k

    -- all of them
    abbrev after : List FeatId → List FeatId → List FeatId
    after [] done = done
    after (f ∷ fs) done = after fs (f ∷ done)

    kept_after : (g : FeatId) (fs done : List FeatId) → list_any (is_feature g) done ≡ true → list_any (is_feature g) (after fs done) ≡ true
    kept_after g [] done h = h
    kept_after g (f ∷ fs) done h = kept_after g fs (f ∷ done) (later (is_feature g f) h)
      where
        later : (a : Bool) → list_any (is_feature g) done ≡ true → (a || list_any (is_feature g) done) ≡ true
        later true h = refl
        later false h = h

    all_after : (g : FeatId) (fs done : List FeatId) → list_any (is_feature g) fs ≡ true → list_any (is_feature g) (after fs done) ≡ true
    all_after g [] done h = absurd (false≢true h)
    all_after g (f ∷ fs) done h = by (is_feature g f) refl h (all_after g fs (f ∷ done))
      where
        by : (b : Bool) → is_feature g f ≡ b → (b || list_any (is_feature g) fs) ≡ true → (list_any (is_feature g) fs ≡ true → list_any (is_feature g) (after fs (f ∷ done)) ≡ true) → list_any (is_feature g) (after fs (f ∷ done)) ≡ true
        by true x h r = kept_after g fs (f ∷ done) (ap (λ b. b || list_any (is_feature g) done) x)
        by false x h r = r h

    all_marked : (fs done : List FeatId) → ((g : FeatId) → list_any (is_feature g) fs ≡ true → list_any (is_feature g) (features meta.classes c) ≡ true) → all_defaulted meta (no n) fs (at done) ≡ at (after fs done)
    all_marked [] done h = refl
    all_marked (f ∷ fs) done h =
        ap (all_defaulted meta (no n) fs) (default_step done f (h f (ap (λ b. b || list_any (is_feature f) fs) (eq-eqb f.0 f.0 refl))))
        ∙ all_marked fs (f ∷ done) (λ g k. h g (later (is_feature g f) (list_any (is_feature g) fs) k))
      where
        later : (a b : Bool) → b ≡ true → (a || b) ≡ true
        later true b k = refl
        later false b k = k

    abbrev whole : Said
    whole p d g = if p.0 == n then full g (S p d g) else S p d g

    object_defaulted : all_defaulted meta (no n) (features meta.classes c) (built meta S es roots) ≡ built meta whole es roots
    object_defaulted =
        ap (all_defaulted meta (no n) (features meta.classes c)) (same_built meta S (marked []) es roots (λ i d t g. none (i == n) (full g (S (no i) d g)) (S (no i) d g)))
        ∙ all_marked (features meta.classes c) [] (λ g k. k)
        ∙ same_seen meta (marked (after (features meta.classes c) [])) whole es roots (λ i d t k own g sees. by i d g t (i == n) refl k own sees)
      where
        none : (b : Bool) (x y : List Cellv) → y ≡ (if b && false then x else y)
        none true x y = refl
        none false x y = refl

        by : (i : ℕ) (d : Entry) (g : FeatId) → slice_get es i ≡ Some d → (b : Bool) → (i == n) ≡ b → (k : ClassId) → own_class d.part ≡ Some k → list_any (is_feature g) (features meta.classes k) ≡ true
            → (if b && list_any (is_feature g) (after (features meta.classes c) []) then full g (S (no i) d g) else S (no i) d g) ≡ (if b then full g (S (no i) d g) else S (no i) d g)
        by i d g t true x k own sees =
            let entry : d ≡ e = same_Some d e (sym t ∙ ap (slice_get es) (eqb-true i n x) ∙ there) in
            let same : k ≡ c = same_Some k c (sym own ∙ ap (λ (d : Entry). own_class d.part) entry ∙ class) in
            ap (λ b. if b then full g (S (no i) d g) else S (no i) d g) (all_after g (features meta.classes c) [] (subst (λ k. list_any (is_feature g) (features meta.classes k) ≡ true) same sees))
        by i d g t false x k own sees = refl

  -- ## All objects

  abbrev tops : List ObjId
  tops = roots_from 0 (objects F)

  slot_full : (o : ObjId) (d : Entry) (g : FeatId) → full g (raw_slot meta F o d g) ≡ drafted_slot meta F o d g
  slot_full o d g = by (contains meta g) (refers meta g) refl refl
    where
      by : (h r : Bool) → contains meta g ≡ h → refers meta g ≡ r
          → (if r then (if h then children_from meta F 0 o g F else if r then [] else attribute_values meta F d g ++ child_values meta F o g F) else or_initial meta F g (if h then children_from meta F 0 o g F else if r then [] else attribute_values meta F d g ++ child_values meta F o g F))
          ≡ (if h then children_from meta F 0 o g F else if r then [] else or_initial meta F g (attribute_values meta F d g ++ child_values meta F o g F))
      by true true h r = refl
      by true false h r = absurd (false≢true (sym r ∙ contains_refers meta g h))
      by false true h r = refl
      by false false h r = refl

  abbrev S : ℕ → Said
  S = drafted_to meta F

  next_draft : (n i : ℕ) (d : Entry) (g : FeatId) → (if i == n then full g (S n (no i) d g) else S n (no i) d g) ≡ S (suc n) (no i) d g
  next_draft n i d g = by (i == n) refl
    where
      same_test : i ≢ n → nat_lt i n ≡ nat_lt i (suc n)
      same_test apart = on (nat_lt i n) refl
        where
          on : (b : Bool) → nat_lt i n ≡ b → b ≡ nat_lt i (suc n)
          on true h = sym (lt-ltb i (suc n) (omega (arith, ltb-true i n h)))
          on false h = sym (le-ltb i (suc n) (omega (arith, apart, ltb-false i n h)))

      by : (b : Bool) → (i == n) ≡ b → (if b then full g (S n (no i) d g) else S n (no i) d g) ≡ S (suc n) (no i) d g
      by true h = subst (λ k. full g (S n (no k) d g) ≡ S (suc n) (no k) d g) (sym (eqb-true i n h))
          (ap (λ b. full g (if b then drafted_slot meta F (no n) d g else raw_slot meta F (no n) d g)) (le-ltb n n (omega arith))
          ∙ slot_full (no n) d g
          ∙ ap (λ b. if b then drafted_slot meta F (no n) d g else raw_slot meta F (no n) d g) (sym (lt-ltb n (suc n) (omega arith))))
      by false h = ap (λ b. if b then drafted_slot meta F (no i) d g else raw_slot meta F (no i) d g) (same_test (eqb-false i n h))

  pub defaults_step : (n : ℕ) → n < length (objects F) → with_defaults meta (no n) (built meta (S n) (objects F) tops) ≡ built meta (S (suc n)) (objects F) tops
  defaults_step n l = at (slice_get (objects F) n) refl
    where
      at : (x : Option Entry) → slice_get (objects F) n ≡ x → with_defaults meta (no n) (built meta (S n) (objects F) tops) ≡ built meta (S (suc n)) (objects F) tops
      at None t = absurd (out (slice_get-get_or (objects F) n none l))
        where
          none : Entry
          none = record { part = Inner; tag = record { space = []; name = []; attributes = []; texts = []; has_elements = false; place = record { line = 0; column = 0 } } }

          out : slice_get (objects F) n ≡ Some (get_or (objects F) n none) → ⊥
          out h = none-some (get_or (objects F) n none) (sym t ∙ h)
      at (Some e) t = by (own_class e.part) refl
        where
          m : Contents
          m = built meta (S n) (objects F) tops

          class : class_of m (no n) ≡ own_class e.part
          class = ap (option_map (λ (x : Object). x.class)) (object_there meta (S n) (objects F) tops (no n) e t) ∙ on (own_class e.part)
            where
              on : (c : Option ClassId) → option_map (λ (x : Object). x.class) (option_map (λ c. let x : Object = record { class = c; slots = map (S n (no n) e) (features meta.classes c) } in x) c) ≡ c
              on None = refl
              on (Some c) = refl

          by : (c : Option ClassId) → own_class e.part ≡ c → with_defaults meta (no n) m ≡ built meta (S (suc n)) (objects F) tops
          by None own =
              ap (λ c. option_map_or (λ c. all_defaulted meta (no n) (features meta.classes c) m) c m) (class ∙ own)
              ∙ same_seen meta (S n) (S (suc n)) (objects F) tops (λ i d h k x g sees. other i d h k x g (i == n) refl ∙ next_draft n i d g)
            where
              other : (i : ℕ) (d : Entry) → slice_get (objects F) i ≡ Some d → (k : ClassId) → own_class d.part ≡ Some k → (g : FeatId) (b : Bool) → (i == n) ≡ b → S n (no i) d g ≡ (if b then full g (S n (no i) d g) else S n (no i) d g)
              other i d h k x g true y = absurd (none-some k (sym own ∙ ap (λ (d : Entry). own_class d.part) (sym (same_Some d e (sym h ∙ ap (slice_get (objects F)) (eqb-true i n y) ∙ t))) ∙ x))
              other i d h k x g false y = refl
          by (Some c) own =
              ap (λ c. option_map_or (λ c. all_defaulted meta (no n) (features meta.classes c) m) c m) (class ∙ own)
              ∙ object_defaulted (S n) (objects F) tops n e c t own
              ∙ same_built meta (whole (S n) (objects F) tops n e c t own) (S (suc n)) (objects F) tops (λ i d h g. next_draft n i d g)

  pub defaults_none : raw meta F ≡ built meta (S 0) (objects F) tops
  defaults_none = same_built meta (raw_slot meta F) (S 0) (objects F) tops (λ i d h g. ap (λ b. if b then drafted_slot meta F (no i) d g else raw_slot meta F (no i) d g) (sym (le-ltb i 0 (omega arith))))

  pub defaults_all : built meta (S (length (objects F))) (objects F) tops ≡ draft meta F
  defaults_all = same_built meta (S (length (objects F))) (drafted_slot meta F) (objects F) tops
      (λ i d h g. ap (λ b. if b then drafted_slot meta F (no i) d g else raw_slot meta F (no i) d g) (lt-ltb i (length (objects F)) (slice_get_within (objects F) i d h)))
