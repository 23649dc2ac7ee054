-- The values that attributes and elements give to an attribute are of its type, and one where it is single-valued.
use Rattle.std.proofs.Common.{◌≡◌, ◌≢◌, ℕ, zero, suc, ◌<◌, ◌≤◌, List, [], ◌∷◌, ◌++◌, length, refl, sym, ap, ◌∙◌, subst, ⊎_elim, append_assoc, append-nil, arith, Option, Some, None}
use Rattle.std.specs.Prelude.{◌==◌, ◌&&◌, ◌||◌, not, nat_lt, Bool, true, false, bytes_eq, find, filter_map, slice_get, slice_index_or, position, Contains, All, IsSome, if◌then◌else◌}
use Rattle.std.specs.Option.{option_map_or, IsSomeAnd}
use Rattle.std.specs.List.{cons_option, list_any}
use Rattle.std.proofs.lemmas.Bool.{eqb-true, or_right, and_from, true≢false}
use Rattle.std.proofs.lemmas.List.Elements.{All-append, All-contains, Contains-get_or, Contains-append_cases}
use Rattle.std.proofs.lemmas.Option.{none-some, same_Some}
use Rattle.atl_base.specs.declared.numbers.FeatId.{FeatId}
use Rattle.atl_base.specs.declared.numbers.ObjId.{ObjId}
use Rattle.doc_text.specs.declared.tree.Attribute.{Attribute}
use Rattle.ecore_meta.specs.declared.parts.EnumDef.{EnumDef}
use Rattle.ecore_meta.specs.declared.parts.Literal.{Literal as SomeLiteral}
use Rattle.ecore_meta.specs.declared.parts.Feature.{Feature}
use Rattle.ecore_meta.specs.declared.parts.FeatKind.{FeatKind}
use Rattle.ecore_meta.specs.declared.parts.FeatKind.TheVariants as holds
use Rattle.ecore_meta.specs.declared.parts.Parts.{Parts}
use Rattle.ecore_meta.specs.Valid.{IsMetamodel, is_reference}
use Rattle.model_store.specs.declared.parts.Cellv.{Cellv}
use Rattle.model_store.specs.declared.parts.Object.{Object}
use Rattle.model_store.specs.Contents.{Contents, contains, is_many, refers}
use Rattle.model_store.specs.Valid.{Fits, IsOfKind, IsOfType}
use Rattle.model_store.specs.Writes.{literal_number, value_of_text}
use Rattle.model_store.proofs.CreatedModel.{initial_fits, has_default}
use Rattle.model_store.proofs.Slots.{same_object, same_feature}
use Rattle.model_store.proofs.Thinned.{Contains_first, Contains_none}
use Rattle.xmi_text.proofs.Lists.{found_passes}
use Rattle.xmi_text.specs.Options.{then_}
use Rattle.xmi_text.specs.Markup.{words_of}
use Rattle.xmi_models.specs.Outline.{Entry, Tag, Part, Around, Root, Content, Value, Cross, Unknown, Inner}
use Rattle.xmi_models.specs.Faults.{second, is_nil, is_text_of, is_value_of, attribute_feature, attribute_value, bad_text, bad_value, has_attribute, is_second, gives, objects, fault_from, text_in}
use Rattle.xmi_links.specs.References.{attribute_of, attribute_values, child_values, or_initial, value_of}
use Rattle.xmi_links.proofs.FaultlessEntries.{Stands, good, object_before}
use Rattle.xmi_links.proofs.FaultlessOutline.{AreRegular, IsRegular, Sees, regular_at, position_within}
use Rattle.xmi_links.proofs.FaultlessSingles.{value_short, one_value}

-- ## A text of a type stands for a value of it

literal_within : (xs : List SomeLiteral) (text : List ℕ) → list_any (λ l. bytes_eq l.text text) xs ≡ true → literal_number (position (λ l. bytes_eq l.text text) xs) < length xs
literal_within xs text h = on (position (λ l. bytes_eq l.text text) xs) refl
  where
    some : (ys : List SomeLiteral) → list_any (λ l. bytes_eq l.text text) ys ≡ true → 0 < length ys
    some [] g = absurd (true≢false (sym g))
    some (y ∷ ys) g = omega arith

    within : (n : ℕ) → n < length xs → (b : Bool) → (if b then n else 0) < length xs
    within n l true = l
    within n l false = some xs h

    on : (x : Option ℕ) → position (λ l. bytes_eq l.text text) xs ≡ x → literal_number x < length xs
    on None e = some xs h
    on (Some n) e = within n (place n e) (nat_lt n 4294967296)
      where
        place : (n : ℕ) → position (λ l. bytes_eq l.text text) xs ≡ Some n → n < length xs
        place n e = position_within (λ l. bytes_eq l.text text) xs n e

module _ (m : Contents) where
  kind_typed : (kind : FeatKind) (text : List ℕ) → is_reference kind ≡ false → is_text_of m.meta kind text ≡ true → IsOfKind m kind (value_of_text m.meta kind text)
  kind_typed holds.Str text r h = tt
  kind_typed holds.Int text r h = tt
  kind_typed holds.Truth text r h = tt
  kind_typed (holds.Enum e) text r h = on (slice_get m.meta.enums e) h
    where
      on : (x : Option EnumDef) → list_any (λ l. bytes_eq l.text text) (option_map_or (λ d. d.literals) x []) ≡ true
          → literal_number (position (λ l. bytes_eq l.text text) (option_map_or (λ d. d.literals) x [])) < option_map_or (λ d. length d.literals) x 0
      on None g = absurd (true≢false (sym g))
      on (Some d) g = literal_within d.literals text g
  kind_typed holds.Opaque text r h = tt
  kind_typed (holds.Refer class contains opposite) text r h = absurd (true≢false r)

  value_typed : (file : List Entry) (f : FeatId) (text : List ℕ) → refers m.meta f ≡ false → is_value_of m.meta f text ≡ true → All (IsOfType m f) (value_of m.meta file f text)
  value_typed file f text r h = on (slice_get m.meta.features f.0) r h
    where
      on : (x : Option Feature) → option_map_or (λ feature. is_reference feature.kind) x false ≡ false → option_map_or (λ feature. is_text_of m.meta feature.kind text) x false ≡ true
          → All (λ v. IsSomeAnd x (λ feature. IsOfKind m feature.kind v)) (option_map_or (λ feature. value_of_text m.meta feature.kind text ∷ []) x [])
      on None r h = λ k d l. absurd (omega (arith, l))
      on (Some feature) r h = only
        where
          only : All (λ v. IsOfKind m feature.kind v) (value_of_text m.meta feature.kind text ∷ [])
          only zero d l = kind_typed feature.kind text r h
          only (suc k) d l = absurd (omega (arith, l))

-- ## Attributes

none_left : {X Y : Type 0} (h : X → Option Y) (p : X → Bool) (xs : List X) (x : X) → filter_map h xs ≡ [] → find p xs ≡ Some x → h x ≡ None
none_left h p [] x e g = absurd (none-some x g)
none_left {X} {Y} h p (y ∷ xs) x e g = by (h y) refl e (p y) g (λ i j. none_left h p xs x i j)
  where
    by : (z : Option Y) → h y ≡ z → cons_option z (filter_map h xs) ≡ [] → (b : Bool) → (if b then Some y else find p xs) ≡ Some x → (filter_map h xs ≡ [] → find p xs ≡ Some x → h x ≡ None) → h x ≡ None
    by None i j true k again = ap h (sym (same_Some y x k)) ∙ i
    by None i j false k again = again j k
    by (Some z) i j b k again = absurd (cc)

find_any : {X : Type 0} (p : X → Bool) (xs : List X) (x : X) → find p xs ≡ Some x → list_any p xs ≡ true
find_any p [] x h = absurd (none-some x h)
find_any p (y ∷ xs) x h = by (p y) h (λ g. find_any p xs x g)
  where
    by : (b : Bool) → (if b then Some y else find p xs) ≡ Some x → (find p xs ≡ Some x → list_any p xs ≡ true) → (b || list_any p xs) ≡ true
    by true h again = refl
    by false h again = again h

module _ (meta : Parts) (file : List Entry) (o : ObjId) (f : FeatId) where
  -- the test by which an attribute that gives the feature is found
  abbrev gives_it : Entry → Attribute → Bool
  gives_it e a = option_map_or (λ g. g.0 == f.0) (attribute_feature meta e.part a) false

  its_feature : (e : Entry) (a : Attribute) → gives_it e a ≡ true → attribute_feature meta e.part a ≡ Some f
  its_feature e a h = on (attribute_feature meta e.part a) h
    where
      on : (x : Option FeatId) → option_map_or (λ g. g.0 == f.0) x false ≡ true → x ≡ Some f
      on None h = absurd (true≢false (sym h))
      on (Some g) h = ap Some (same_feature g f (eqb-true g.0 f.0 h))

  attribute_good : (e : Entry) (a : Attribute) → filter_map (attribute_value meta e.part) e.tag.attributes ≡ [] → attribute_of meta file e f ≡ Some a → bad_text meta f a.value ≡ None
  attribute_good e a h i = on (is_nil a) (none_left (attribute_value meta e.part) (gives_it e) e.tag.attributes a h i)
    where
      on : (b : Bool) → (if b then Some [] else then_ (attribute_feature meta e.part a) (λ g. bad_text meta g a.value)) ≡ None → bad_text meta f a.value ≡ None
      on true g = absurd (none-some [] (sym g))
      on false g = ap (λ x. then_ x (λ g. bad_text meta g a.value)) (sym (its_feature e a (found_passes (gives_it e) e.tag.attributes a i))) ∙ g

  module _ (inside : contains meta f ≡ false) (plain : refers meta f ≡ false) where
    attribute_text : (text : List ℕ) → bad_text meta f text ≡ None → is_value_of meta f text ≡ true
    attribute_text text h = on (contains meta f) inside (refers meta f) plain (is_value_of meta f text) h
      where
        on : (a : Bool) → a ≡ false → (b : Bool) → b ≡ false → (c : Bool) → (if a then Some text else if b then (if is_many meta f then None else second (words_of text)) else (if c then None else Some text)) ≡ None → c ≡ true
        on true i b j c h = absurd (true≢false i)
        on false i true j c h = absurd (true≢false j)
        on false i false j true h = refl
        on false i false j false h = absurd (none-some text (sym h))

    module _ (places : List (Option Object)) (tops : List ObjId) where
      abbrev m : Contents
      m = record { meta = meta; objects = places; roots = tops }

      attributes_typed : (e : Entry) → filter_map (attribute_value meta e.part) e.tag.attributes ≡ [] → All (IsOfType m f) (attribute_values meta file e f)
      attributes_typed e h = on (attribute_of meta file e f) refl
        where
          on : (x : Option Attribute) → attribute_of meta file e f ≡ x → All (IsOfType m f) (option_map_or (λ a. value_of meta file f a.value) x [])
          on None i = λ k d l. absurd (omega (arith, l))
          on (Some a) i = value_typed m file f a.value plain (attribute_text a.value (attribute_good e a h i))

  -- ## Values of elements

  -- an element that gives a value
  pub record IsValueAt (v : Cellv) : Type 0 where
    pub before : List Entry
    pub entry : Entry
    pub stands : Stands file before entry
    pub is : entry.part ≡ Value o f
    pub it : Contains (value_of meta file f (text_in entry.tag)) v

  value_in : (pre es : List Entry) (v : Cellv) → pre ++ es ≡ file → Contains (child_values meta file o f es) v → IsValueAt v
  value_in pre [] v h m = absurd (Contains_none v m)
  value_in pre (e ∷ es) v h m = at e.part e.tag refl m (λ k. value_in (pre ++ (e ∷ [])) es v (append_assoc pre (e ∷ []) es ∙ h) k)
    where
      at : (p : Part) (t : Tag) → ◌≡◌ {A = Entry} e (record { part = p; tag = t }) → Contains (child_values meta file o f (record { part = p; tag = t } ∷ es)) v → (Contains (child_values meta file o f es) v → IsValueAt v) → IsValueAt v
      at (Value p g) t same m again = on (p.0 == o.0) refl (g.0 == f.0) refl m
        where
          on : (a : Bool) → (p.0 == o.0) ≡ a → (b : Bool) → (g.0 == f.0) ≡ b → Contains ((if a && b then value_of meta file f (text_in t) else []) ++ child_values meta file o f es) v → IsValueAt v
          on true x true y m = ⊎_elim
              (λ (here : Contains (value_of meta file f (text_in t)) v). record {
                before = pre;
                entry = e;
                stands = record { after = es; is = h };
                is = ap (λ (z : Entry). z.part) same ∙ ap (λ q. Value q g) (same_object p o (eqb-true p.0 o.0 x)) ∙ ap (λ q. Value o q) (same_feature g f (eqb-true g.0 f.0 y));
                it = subst (λ (z : Entry). Contains (value_of meta file f (text_in z.tag)) v) (sym same) here;
              })
              again
              (Contains-append_cases (value_of meta file f (text_in t)) (child_values meta file o f es) v m)
          on true x false y m = again m
          on false x b y m = again m
      at (Content p g c) t same m again = again m
      at (Root c) t same m again = again m
      at Around t same m again = again m
      at (Cross g c) t same m again = again m
      at (Unknown c) t same m again = again m
      at Inner t same m again = again m

  module _ (none : fault_from meta [] file ≡ None) (regular : AreRegular meta [] file) where
    -- what is known where a value stands
    pub record IsValueGood (before : List Entry) (t : Tag) : Type 0 where
      pub text : is_value_of meta f (text_in t) ≡ true
      pub first : is_second meta before o f ≡ false
      pub sees : Sees meta before o f
      pub plain : refers meta f ≡ false

    value_good : (before : List Entry) (e : Entry) → Stands file before e → e.part ≡ Value o f → IsValueGood before e.tag
    value_good before e s i =
        let g = good meta file before e none s in
        let r = regular_at meta file before e regular s in
        let same : ◌≡◌ {A = Entry} e (record { part = Value o f; tag = e.tag }) = ap (λ (p : Part). let x : Entry = record { part = p; tag = e.tag } in x) i in
        let b = parts (is_second meta before o f) (is_value_of meta f (text_in e.tag)) (text_in e.tag) (ap (bad_value meta before) (sym same) ∙ g.value) in
        let q = subst (IsRegular meta before) i r in
        record { text = b.1; first = b.0; sees = q.0; plain = q.1 }
      where
        parts : (a b : Bool) (x : List ℕ) → (if a || not b then x ∷ [] else []) ≡ [] → (a ≡ false) × (b ≡ true)
        parts true b x h = absurd (cc)
        parts false true x h = (refl, refl)
        parts false false x h = absurd (cc)

    module _ (places : List (Option Object)) (tops : List ObjId) where
      abbrev n : Contents
      n = record { meta = meta; objects = places; roots = tops }

      values_typed : All (IsOfType n f) (child_values meta file o f file)
      values_typed k d l =
          let v = value_in [] file (slice_index_or (child_values meta file o f file) k d) refl (Contains-get_or (child_values meta file o f file) k d l) in
          let g = value_good v.before v.entry v.stands v.is in
          All-contains (IsOfType n f) (value_of meta file f (text_in v.entry.tag)) (slice_index_or (child_values meta file o f file) k d) (value_typed n file f (text_in v.entry.tag) g.plain g.text) v.it

    -- where an attribute of the object gives one, no element does
    attribute_alone : is_many meta f ≡ false → (e : Entry) (a : Attribute) → slice_get (objects file) o.0 ≡ Some e → attribute_of meta file e f ≡ Some a → child_values meta file o f file ≡ []
    attribute_alone single e a h i = nothing (child_values meta file o f file) (λ v m. refuted (value_in [] file v refl m))
      where
        nothing : (xs : List Cellv) → ((v : Cellv) → Contains xs v → ⊥) → xs ≡ []
        nothing [] g = refl
        nothing (x ∷ xs) g = absurd (g x (Contains_first x xs))

        refuted : {v : Cellv} → IsValueAt v → ⊥
        refuted v =
            let g = value_good v.before v.entry v.stands v.is in
            let same : g.sees.entry ≡ e = same_Some g.sees.entry e (sym (object_before file v.before v.entry v.stands o.0 g.sees.entry g.sees.there) ∙ h) in
            let has : has_attribute meta v.before o f ≡ true =
            ap (λ x. option_map_or (λ (y : Entry). list_any (gives_it y) y.tag.attributes) x false) g.sees.there ∙ ap (λ (y : Entry). list_any (gives_it y) y.tag.attributes) same ∙ find_any (gives_it e) e.tag.attributes a i in
            true≢false (sym (and_from (not (is_many meta f)) (list_any (gives o f) v.before || has_attribute meta v.before o f) (ap not single) (or_right (list_any (gives o f) v.before) (has_attribute meta v.before o f) has)) ∙ g.first)

    one_in_all : is_many meta f ≡ false → (e : Entry) → slice_get (objects file) o.0 ≡ Some e → length (attribute_values meta file e f ++ child_values meta file o f file) ≤ 1
    one_in_all single e h = on (attribute_of meta file e f) refl
      where
        on : (x : Option Attribute) → attribute_of meta file e f ≡ x → length (option_map_or (λ a. value_of meta file f a.value) x [] ++ child_values meta file o f file) ≤ 1
        on None i = one_value meta file o f single [] file none
        on (Some a) i = subst (λ l. length (value_of meta file f a.value ++ l) ≤ 1) (sym (attribute_alone single e a h i)) (subst (λ l. length l ≤ 1) (sym (append-nil (value_of meta file f a.value))) (value_short meta file f a.value))

    -- ## Slots of attributes

    module _ (valid : IsMetamodel meta) (inside : contains meta f ≡ false) (plain : refers meta f ≡ false) (places : List (Option Object)) (tops : List ObjId) (e : Entry)
        (there : slice_get (objects file) o.0 ≡ Some e) (attributes : filter_map (attribute_value meta e.part) e.tag.attributes ≡ []) where
      abbrev given : List Cellv
      given = attribute_values meta file e f ++ child_values meta file o f file

      pub attribute_fits : Fits (record { meta = meta; objects = places; roots = tops }) f (or_initial meta file f given)
      attribute_fits = on given (All-append (IsOfType (record { meta = meta; objects = places; roots = tops }) f) (attribute_values meta file e f) (child_values meta file o f file) (attributes_typed inside plain places tops e attributes) (values_typed places tops)) (λ s. one_in_all s e there)
        where
          on : (xs : List Cellv) → All (IsOfType (record { meta = meta; objects = places; roots = tops }) f) xs → (is_many meta f ≡ false → length xs ≤ 1) → Fits (record { meta = meta; objects = places; roots = tops }) f (or_initial meta file f xs)
          on [] t s = initial_fits (record { meta = meta; objects = places; roots = tops }) valid f
          on (x ∷ xs) t s = record { typed = t; single = s }

      pub attribute_default : is_many meta f ≡ false → IsSomeAnd (slice_get meta.features f.0) (λ feature. IsSome feature.default) → or_initial meta file f given ≢ []
      attribute_default single d = on given
        where
          on : (xs : List Cellv) → or_initial meta file f xs ≢ []
          on [] e = has_default meta f plain single d e
          on (x ∷ xs) e = absurd (cc)
