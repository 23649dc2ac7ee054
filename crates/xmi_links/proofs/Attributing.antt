-- What the attributes of an element give to its object, one by one.
use Rattle.std.proofs.Common.{◌≡◌, ℕ, List, [], ◌∷◌, ◌++◌, refl, sym, ap, subst, ◌∙◌, append_assoc, arith}
use Rattle.std.specs.Prelude.{Bool, true, false, ◌==◌, ◌&&◌, ◌||◌, find, filter_map, bytes_eq, slice_get, Option, Some, None, if◌then◌else◌}
use Rattle.std.specs.List.{cons_option, list_any}
use Rattle.std.specs.Option.{option_map_or, option_or}
use Rattle.std.proofs.lemmas.Bool.{eqb-true, eqb-false, eq-eqb, ne_eqb, false≢true}
use Rattle.std.proofs.lemmas.List.{append-nil}
use Rattle.std.proofs.lemmas.List.Folds.{find-append}
use Rattle.std.proofs.lemmas.Option.{none-some, same_Some}
use Rattle.atl_base.specs.declared.numbers.ClassId.{ClassId}
use Rattle.atl_base.specs.declared.numbers.FeatId.{FeatId}
use Rattle.atl_base.specs.declared.numbers.ObjId.{ObjId}
use Rattle.doc_text.specs.declared.tree.Attribute.{Attribute}
use Rattle.ecore_meta.specs.declared.parts.Feature.{Feature}
use Rattle.ecore_meta.specs.declared.parts.Parts.{Parts}
use Rattle.ecore_meta.specs.Inheritance.{features, name_of}
use Rattle.ecore_meta.specs.Valid.{IsMetamodel, is_containment, is_reference}
use Rattle.ecore_meta.specs.declared.parts.FeatKind.{FeatKind}
use Rattle.ecore_meta.specs.declared.parts.FeatKind.TheVariants as Kind
use Rattle.model_store.specs.declared.parts.Cellv.{Cellv}
use Rattle.model_store.specs.Contents.{Contents, contains, is_many, refers, slot}
use Rattle.model_store.specs.Sketches.{with_value}
use Rattle.model_store.specs.Writes.{value_of_text}
use Rattle.xmi_text.specs.Options.{then_}
use Rattle.xmi_text.specs.Markup.{words_of}
use Rattle.xmi_models.specs.Outline.{Entry, Part, feature_named}
use Rattle.xmi_models.specs.Faults.{attribute_feature, attribute_value, bad_text, is_nil, is_text_of, is_value_of, own_class, second}
use Rattle.xmi_links.specs.References.{value_of}
use Rattle.xmi_links.specs.Stages.{Said, all_attributed, attributed, built, entered, is_filled}
use Rattle.xmi_links.proofs.Apart.{all_apart}
use Rattle.xmi_links.proofs.Built.{is_feature, same_feature}
use Rattle.xmi_links.proofs.Building.{no, same_built, slot_there, value_more}
use Rattle.xmi_links.proofs.Typing.{none_within}

-- ## A feature that contains refers

pub contains_refers : (meta : Parts) (f : FeatId) → contains meta f ≡ true → refers meta f ≡ true
contains_refers meta f h = by (slice_get meta.features f.0) h
  where
    kind : (k : FeatKind) → is_containment k ≡ true → is_reference k ≡ true
    kind (Kind.Refer c inside back) h = refl
    kind Kind.Str h = absurd (false≢true h)
    kind Kind.Int h = absurd (false≢true h)
    kind Kind.Truth h = absurd (false≢true h)
    kind (Kind.Enum e) h = absurd (false≢true h)
    kind Kind.Opaque h = absurd (false≢true h)

    by : (x : Option Feature) → option_map_or (λ feature. is_containment feature.kind) x false ≡ true → option_map_or (λ feature. is_reference feature.kind) x false ≡ true
    by None h = absurd (false≢true h)
    by (Some feature) h = kind feature.kind h

-- ## A feature that an attribute gives is seen

seen_found : (p : FeatId → Bool) (gs : List FeatId) (f : FeatId) → find p gs ≡ Some f → list_any (is_feature f) gs ≡ true
seen_found p [] f h = absurd (none-some f h)
seen_found p (g ∷ gs) f h = by (p g) h (seen_found p gs f)
  where
    here : g ≡ f → (is_feature f g || list_any (is_feature f) gs) ≡ true
    here e = ap (λ b. b || list_any (is_feature f) gs) (eq-eqb g.0 f.0 (ap (λ (x : FeatId). x.0) e))

    later : (b : Bool) → list_any (is_feature f) gs ≡ true → (b || list_any (is_feature f) gs) ≡ true
    later true k = refl
    later false k = k

    by : (b : Bool) → (if b then Some g else find p gs) ≡ Some f → (find p gs ≡ Some f → list_any (is_feature f) gs ≡ true) → (is_feature f g || list_any (is_feature f) gs) ≡ true
    by true h k = here (same_Some g f h)
    by false h k = later (is_feature f g) (k h)

pub given_seen : (meta : Parts) (part : Part) (a : Attribute) (c : ClassId) (f : FeatId) → own_class part ≡ Some c → attribute_feature meta part a ≡ Some f → list_any (is_feature f) (features meta.classes c) ≡ true
given_seen meta part a c f class h = by (bytes_eq a.space []) h
  where
    by : (b : Bool) → (if b then then_ (own_class part) (λ c. feature_named meta c a.name) else None) ≡ Some f → list_any (is_feature f) (features meta.classes c) ≡ true
    by true h = seen_found (λ f. bytes_eq (name_of meta.features f) a.name) (features meta.classes c) f (sym (ap (λ c. then_ c (λ c. feature_named meta c a.name)) class) ∙ h)
    by false h = absurd (none-some f h)

-- ## What is right with an attribute

pub right_text : (meta : Parts) (part : Part) (a : Attribute) (f : FeatId) → attribute_value meta part a ≡ None → attribute_feature meta part a ≡ Some f → refers meta f ≡ false → is_value_of meta f a.value ≡ true
right_text meta part a f h given plain = by (is_nil a) h
  where
    inside : (b : Bool) → contains meta f ≡ b → b ≡ false
    inside true e = absurd (false≢true (sym plain ∙ contains_refers meta f e))
    inside false e = refl

    text : (b : Bool) → (if b then None else Some a.value) ≡ None → b ≡ true
    text true h = refl
    text false h = absurd (none-some a.value (sym h))

    by : (b : Bool) → (if b then Some [] else then_ (attribute_feature meta part a) (λ f. bad_text meta f a.value)) ≡ None → is_value_of meta f a.value ≡ true
    by true h = absurd (none-some [] (sym h))
    by false h =
        text (is_value_of meta f a.value)
        (ap (λ r. if r then (if is_many meta f then None else second (words_of a.value)) else (if is_value_of meta f a.value then None else Some a.value)) (sym plain)
        ∙ ap (λ b. if b then Some a.value else if refers meta f then (if is_many meta f then None else second (words_of a.value)) else (if is_value_of meta f a.value then None else Some a.value)) (sym (inside (contains meta f) refl))
        ∙ ap (λ g. then_ g (λ f. bad_text meta f a.value)) (sym given) ∙ h)

-- the feature of a value there is
pub feature_there : (meta : Parts) (f : FeatId) (text : List ℕ) → is_value_of meta f text ≡ true → (feature : Feature) × (slice_get meta.features f.0 ≡ Some feature)
feature_there meta f text h = by (slice_get meta.features f.0) refl h
  where
    by : (x : Option Feature) → slice_get meta.features f.0 ≡ x → option_map_or (λ feature. is_text_of meta feature.kind text) x false ≡ true → (feature : Feature) × (slice_get meta.features f.0 ≡ Some feature)
    by None e h = absurd (false≢true h)
    by (Some feature) e h = (feature, e)

-- ## One attribute more

module _ (meta : Parts) (valid : IsMetamodel meta) (F : List Entry) (e : Entry) (c : ClassId) (class : own_class e.part ≡ Some c) where
  abbrev pub gives : FeatId → Attribute → Bool
  gives g a = option_map_or (λ h. h.0 == g.0) (attribute_feature meta e.part a) false

  abbrev pub given : List Attribute → FeatId → List Cellv
  given rest g = if refers meta g then [] else option_map_or (λ a. value_of meta F g a.value) (find (gives g) rest) []

  -- that slot of the object of a number, behind others
  abbrev pub growing : Said → ℕ → List Attribute → Said
  growing S n rest p d g = if p.0 == n then given rest g else S p d g

  find_more : (g : FeatId) (rest : List Attribute) (a : Attribute) → find (gives g) (rest ++ a ∷ []) ≡ option_or (find (gives g) rest) (if gives g a then Some a else None)
  find_more g rest a = find-append (gives g) rest (a ∷ [])

  kept : (g : FeatId) (rest : List Attribute) (a : Attribute) → gives g a ≡ false → given (rest ++ a ∷ []) g ≡ given rest g
  kept g rest a h =
      ap (λ x. if refers meta g then [] else option_map_or (λ a. value_of meta F g a.value) x [])
      (find_more g rest a ∙ ap (λ b. option_or (find (gives g) rest) (if b then Some a else None)) h ∙ none (find (gives g) rest))
    where
      none : (x : Option Attribute) → option_or x None ≡ x
      none None = refl
      none (Some y) = refl

  module _ (S : Said) (n : ℕ) (es : List Entry) (roots : List ObjId) (there : slice_get es n ≡ Some e) where
    abbrev at : List Attribute → Contents
    at rest = built meta (growing S n rest) es roots

    unchanged : (rest : List Attribute) (a : Attribute) → ((g : FeatId) → given (rest ++ a ∷ []) g ≡ given rest g) → at rest ≡ at (rest ++ a ∷ [])
    unchanged rest a h = same_built meta (growing S n rest) (growing S n (rest ++ a ∷ [])) es roots (λ i d t g. by i d g (i == n))
      where
        by : (i : ℕ) (d : Entry) (g : FeatId) (b : Bool) → (if b then given rest g else S (no i) d g) ≡ (if b then given (rest ++ a ∷ []) g else S (no i) d g)
        by i d g true = sym (h g)
        by i d g false = refl

    here : (rest : List Attribute) (g : FeatId) → growing S n rest (no n) e g ≡ given rest g
    here rest g = ap (λ b. if b then given rest g else S (no n) e g) (eq-eqb n n refl)

    module _ (rest : List Attribute) (a : Attribute) (f : FeatId) (names : attribute_feature meta e.part a ≡ Some f) where
      gives_is : (g : FeatId) → gives g a ≡ (f.0 == g.0)
      gives_is g = ap (λ x. option_map_or (λ h. h.0 == g.0) x false) names

      cells : slot (at rest) (no n) f ≡ given rest f
      cells = slot_there meta (all_apart meta valid) (growing S n rest) es roots (no n) e c f there class (given_seen meta e.part a c f class names) ∙ here rest f

      -- a reference
      by_reference : refers meta f ≡ true → at rest ≡ at (rest ++ a ∷ [])
      by_reference reference = unchanged rest a (λ g. on g (f.0 == g.0) refl)
        where
          on : (g : FeatId) (b : Bool) → (f.0 == g.0) ≡ b → given (rest ++ a ∷ []) g ≡ given rest g
          on g true h =
              let r : refers meta g ≡ true = ap (refers meta) (sym (same_feature f g (eqb-true f.0 g.0 h))) ∙ reference in
              ap (λ r. if r then [] else option_map_or (λ a. value_of meta F g a.value) (find (gives g) (rest ++ a ∷ [])) []) r
              ∙ sym (ap (λ r. if r then [] else option_map_or (λ a. value_of meta F g a.value) (find (gives g) rest) []) r)
          on g false h = kept g rest a (gives_is g ∙ h)

      module _ (plain : refers meta f ≡ false) where
        plain_given : (more : List Attribute) → given more f ≡ option_map_or (λ a. value_of meta F f a.value) (find (gives f) more) []
        plain_given more = ap (λ r. if r then [] else option_map_or (λ a. value_of meta F f a.value) (find (gives f) more) []) plain

        -- one that an attribute before gives
        by_filled : is_filled (given rest f) ≡ true → at rest ≡ at (rest ++ a ∷ [])
        by_filled filled = unchanged rest a (λ g. on g (f.0 == g.0) refl)
          where
            first : (x : Option Attribute) → find (gives f) rest ≡ x → is_filled (option_map_or (λ a. value_of meta F f a.value) x []) ≡ true → given (rest ++ a ∷ []) f ≡ given rest f
            first None h k = absurd (false≢true k)
            first (Some b) h k =
                plain_given (rest ++ a ∷ [])
                ∙ ap (λ x. option_map_or (λ a. value_of meta F f a.value) x []) (find_more f rest a ∙ ap (λ x. option_or x (if gives f a then Some a else None)) h ∙ sym h)
                ∙ sym (plain_given rest)

            on : (g : FeatId) (b : Bool) → (f.0 == g.0) ≡ b → given (rest ++ a ∷ []) g ≡ given rest g
            on g true h = subst (λ g. given (rest ++ a ∷ []) g ≡ given rest g) (same_feature f g (eqb-true f.0 g.0 h)) (first (find (gives f) rest) refl (ap is_filled (sym (plain_given rest)) ∙ filled))
            on g false h = kept g rest a (gives_is g ∙ h)

        -- one that has nothing
        module _ (feature : Feature) (is : slice_get meta.features f.0 ≡ Some feature) (empty : is_filled (given rest f) ≡ false) where
          valued : (text : List ℕ) → value_of meta F f text ≡ value_of_text meta feature.kind text ∷ []
          valued text = ap (λ x. option_map_or (λ feature. value_of_text meta feature.kind text ∷ []) x []) is

          before : find (gives f) rest ≡ None
          before = on (find (gives f) rest) refl (ap is_filled (sym (plain_given rest)) ∙ empty)
            where
              on : (x : Option Attribute) → find (gives f) rest ≡ x → is_filled (option_map_or (λ a. value_of meta F f a.value) x []) ≡ false → x ≡ None
              on None h k = refl
              on (Some b) h k = absurd (false≢true (sym k ∙ ap is_filled (valued b.value)))

          was : given rest f ≡ []
          was = plain_given rest ∙ ap (λ x. option_map_or (λ a. value_of meta F f a.value) x []) before

          comes : given (rest ++ a ∷ []) f ≡ value_of_text meta feature.kind a.value ∷ []
          comes =
              plain_given (rest ++ a ∷ [])
              ∙ ap (λ x. option_map_or (λ a. value_of meta F f a.value) x [])
              (find_more f rest a ∙ ap (λ x. option_or x (if gives f a then Some a else None)) before ∙ ap (λ b. if b then Some a else None) (gives_is f ∙ eq-eqb f.0 f.0 refl))
              ∙ valued a.value

          by_entering : entered meta (no n) f a.value (at rest) ≡ at (rest ++ a ∷ [])
          by_entering =
              ap (λ x. option_map_or (λ feature. with_value (no n) f (value_of_text meta feature.kind a.value) (at rest)) x (at rest)) is
              ∙ value_more meta (all_apart meta valid) f (value_of_text meta feature.kind a.value) (growing S n rest) (growing S n (rest ++ a ∷ [])) (no n) es roots (λ i d t g. on i d g (i == n) (g.0 == f.0) refl)
            where
              v : Cellv
              v = value_of_text meta feature.kind a.value

              on : (i : ℕ) (d : Entry) (g : FeatId) (b h : Bool) → (g.0 == f.0) ≡ h → (if b then given (rest ++ a ∷ []) g else S (no i) d g)
                  ≡ (if b && h then (if b then given rest g else S (no i) d g) ++ v ∷ [] else (if b then given rest g else S (no i) d g))
              on i d g true true h = subst (λ g. given (rest ++ a ∷ []) g ≡ given rest g ++ v ∷ []) (sym (same_feature g f (eqb-true g.0 f.0 h))) (comes ∙ ap (λ l. l ++ v ∷ []) (sym was))
              on i d g true false h = kept g rest a (gives_is g ∙ ne_eqb f.0 g.0 (λ s. eqb-false g.0 f.0 h (sym s)))
              on i d g false true h = refl
              on i d g false false h = refl

    attribute_step : (rest : List Attribute) (a : Attribute) → attribute_value meta e.part a ≡ None → attributed meta (no n) e.part a (at rest) ≡ at (rest ++ a ∷ [])
    attribute_step rest a right = by (attribute_feature meta e.part a) refl
      where
        chosen : FeatId → Contents
        chosen f = if refers meta f || is_filled (slot (at rest) (no n) f) then at rest else entered meta (no n) f a.value (at rest)

        by : (x : Option FeatId) → attribute_feature meta e.part a ≡ x → option_map_or (λ f. if refers meta f || is_filled (slot (at rest) (no n) f) then at rest else entered meta (no n) f a.value (at rest)) x (at rest) ≡ at (rest ++ a ∷ [])
        by None names = unchanged rest a (λ g. kept g rest a (ap (λ x. option_map_or (λ h. h.0 == g.0) x false) names))
        by (Some f) names =
            ap (λ l. if refers meta f || is_filled l then at rest else entered meta (no n) f a.value (at rest)) (cells rest a f names)
            ∙ on (refers meta f) (is_filled (given rest f)) refl refl
          where
            on : (r l : Bool) → refers meta f ≡ r → is_filled (given rest f) ≡ l → (if r || l then at rest else entered meta (no n) f a.value (at rest)) ≡ at (rest ++ a ∷ [])
            on true l x y = by_reference rest a f names x
            on false true x y = by_filled rest a f names x y
            on false false x y = let w = feature_there meta f a.value (right_text meta e.part a f right names x) in by_entering rest a f names x w.0 w.1 y

    pub all_given : (rest more : List Attribute) → filter_map (attribute_value meta e.part) more ≡ [] → all_attributed meta (no n) e.part more (at rest) ≡ at (rest ++ more)
    all_given rest [] h = ap at (sym (append-nil rest))
    all_given rest (a ∷ more) h =
        ap (all_attributed meta (no n) e.part more) (attribute_step rest a (none_within (attribute_value meta e.part) (a ∷ more) h 0 a (omega arith)))
        ∙ all_given (rest ++ a ∷ []) more (behind (attribute_value meta e.part a) h)
        ∙ ap at (append_assoc rest (a ∷ []) more)
      where
        behind : (x : Option (List ℕ)) → cons_option x (filter_map (attribute_value meta e.part) more) ≡ [] → filter_map (attribute_value meta e.part) more ≡ []
        behind None h = h
        behind (Some v) h = absurd (cc)
