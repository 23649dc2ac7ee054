-- What the elements of an outline are: contents and values are of objects before them, whose classes see the feature.
use Rattle.std.proofs.Common.{◌≡◌, ℕ, zero, suc, ◌+◌, ◌<◌, List, [], ◌∷◌, ◌++◌, length, map, refl, sym, ap, ◌∙◌, subst, append_assoc, append-nil, arith, Option, Some, None}
use Rattle.std.specs.Prelude.{Bool, true, false, bytes_eq, find, slice_get, position, nat_lt, option_map, Contains, IfSome, if◌then◌else◌}
use Rattle.std.specs.Option.{option_map_or}
use Rattle.std.specs.List.{list_any, position_or_len}
use Rattle.std.proofs.lemmas.Bool.{ltb-true}
use Rattle.std.proofs.lemmas.Option.{none-some, same_Some, cond_some, get_or_from_slice_get, slice_get_within}
use Rattle.atl_base.specs.declared.numbers.ClassId.{ClassId}
use Rattle.atl_base.specs.declared.numbers.FeatId.{FeatId}
use Rattle.atl_base.specs.declared.numbers.ObjId.{ObjId}
use Rattle.doc_text.specs.declared.tree.Child.{Child, map-Child}
use Rattle.doc_text.specs.declared.tree.Child.TheFolds.{ind-Element, fold-roll-Child, fold-roll-Element}
use Rattle.doc_text.specs.declared.tree.Child.TheOpen as layer
use Rattle.doc_text.specs.declared.tree.Child.TheViews.{roll-Child, roll-Element}
use Rattle.doc_text.specs.declared.tree.Doc.{Doc}
use Rattle.doc_text.specs.declared.tree.Element.{Element, map-Element}
use Rattle.doc_text.specs.declared.tree.Prefix.{Prefix}
use Rattle.ecore_meta.specs.declared.parts.Feature.{Feature}
use Rattle.ecore_meta.specs.declared.parts.FeatKind.{FeatKind}
use Rattle.ecore_meta.specs.declared.parts.FeatKind.TheVariants as holds
use Rattle.ecore_meta.specs.declared.parts.Parts.{Parts}
use Rattle.ecore_meta.specs.Inheritance.{features, name_of}
use Rattle.ecore_meta.specs.Valid.{IsMetamodel, IsKindWithin, class_of}
use Rattle.model_store.specs.Contents.{contains, refers}
use Rattle.model_store.proofs.Thinned.{Contains_first, Contains_later}
use Rattle.xmi_text.specs.Markup.{before_colon, behind_colon, uri_in}
use Rattle.xmi_text.specs.Options.{then_}
use Rattle.xmi_models.specs.Outline.{Entry, Tag, Part, Around, Root, Content, Value, Cross, Unknown, Inner, is_object, objects_in, Where, AtRoot, InAround, InObject, InValue, Below, Sub, Words, texts_of, is_element, class_named, class_behind, class_of_text, type_text, child_class, class_said, feature_named, child_part, part_of, is_around, inside, is_passed, walk, walk_child, walk_all, walk_inside, walk_tag, child_layer, named_layer, outline}
use Rattle.xmi_names.specs.Names.{is_class_named, class_at}
use Rattle.xmi_models.specs.Faults.{objects, own_class}
use Rattle.xmi_models.proofs.Walking.{Walk, counted_together}
use Rattle.xmi_links.proofs.FaultlessEntries.{Stands, objects_together, get_first}

pub position_within : {X : Type 0} (p : X → Bool) (xs : List X) (n : ℕ) → position p xs ≡ Some n → n < length xs
position_within p xs n e =
    let x = cond_some (nat_lt (position_or_len p xs) (length xs)) (position_or_len p xs) n e in
    omega (arith, ltb-true (position_or_len p xs) (length xs) x.0, x.1)

module _ (meta : Parts) where
  abbrev pub Within : ClassId → Type 0
  Within c = c.0 < length meta.classes

  -- an object among these, whose class sees a feature
  pub record Sees (before : List Entry) (o : ObjId) (f : FeatId) : Type 0 where
    pub entry : Entry
    pub there : slice_get (objects before) o.0 ≡ Some entry
    pub class : ClassId
    pub is : own_class entry.part ≡ Some class
    pub sees : Contains (features meta.classes class) f

  abbrev pub IsRegular : List Entry → Part → Type 0
  IsRegular before (Root c) = IfSome c Within
  IsRegular before (Content o f c) = Sees before o f × (contains meta f ≡ true) × IfSome c Within
  IsRegular before (Value o f) = Sees before o f × (refers meta f ≡ false)
  IsRegular before Around = Unit {0}
  IsRegular before (Cross f c) = Unit {0}
  IsRegular before (Unknown c) = Unit {0}
  IsRegular before Inner = Unit {0}

  abbrev pub AreRegular : List Entry → List Entry → Type 0
  AreRegular before [] = Unit {0}
  AreRegular before (e ∷ es) = IsRegular before e.part × AreRegular (before ++ (e ∷ [])) es

  together : (before xs ys : List Entry) → AreRegular before xs → AreRegular (before ++ xs) ys → AreRegular before (xs ++ ys)
  together before [] ys h k = subst (λ l. AreRegular l ys) (append-nil before) k
  together before (x ∷ xs) ys h k = (h.0, together (before ++ (x ∷ [])) xs ys h.1 (subst (λ l. AreRegular l ys) (sym (append_assoc before (x ∷ []) xs)) k))

  at_split : (before pre : List Entry) (e : Entry) (post : List Entry) → AreRegular before (pre ++ (e ∷ post)) → IsRegular (before ++ pre) e.part
  at_split before [] e post h = subst (λ l. IsRegular l e.part) (sym (append-nil before)) h.0
  at_split before (x ∷ pre) e post h = subst (λ l. IsRegular l e.part) (append_assoc before (x ∷ []) pre) (at_split (before ++ (x ∷ [])) pre e post h.1)

  pub regular_at : (file before : List Entry) (e : Entry) → AreRegular [] file → Stands file before e → IsRegular before e.part
  regular_at file before e h s = at_split [] before e s.after (subst (AreRegular []) (sym s.is) h)

  -- ## Classes that names find

  class_at_within : (n : ℕ) → n < length meta.classes → (b : Bool) → IfSome (if b then Some (record { 0 = n }) else None) Within
  class_at_within n l true = l
  class_at_within n l false = tt

  named_within : (space name : List ℕ) → IfSome (class_named meta space name) Within
  named_within space name = on (position (is_class_named meta space name) meta.classes) refl
    where
      on : (x : Option ℕ) → position (is_class_named meta space name) meta.classes ≡ x → IfSome (then_ x class_at) Within
      on None e = tt
      on (Some n) e = class_at_within n (position_within (is_class_named meta space name) meta.classes n e) (nat_lt n 4294967296)

  behind_within : (scope : List Prefix) (prefix name : List ℕ) → IfSome (class_behind meta scope prefix name) Within
  behind_within scope prefix name = on (uri_in scope prefix)
    where
      on : (x : Option (List ℕ)) → IfSome (then_ x (λ space. class_named meta space name)) Within
      on None = tt
      on (Some space) = named_within space name

  text_within : (scope : List Prefix) (text : List ℕ) → IfSome (class_of_text meta scope text) Within
  text_within scope text = on (before_colon text)
    where
      on : (x : Option (List ℕ)) → IfSome (option_map_or (λ prefix. class_behind meta scope prefix (behind_colon text)) x (class_behind meta scope [] text)) Within
      on None = behind_within scope [] text
      on (Some prefix) = behind_within scope prefix (behind_colon text)

  child_within : (scope : List Prefix) (t : Tag) (said : Option ClassId) → IfSome said Within → IfSome (child_class meta scope t said) Within
  child_within scope t said h = on (type_text t)
    where
      on : (x : Option (List ℕ)) → IfSome (option_map_or (class_of_text meta scope) x said) Within
      on None = h
      on (Some text) = text_within scope text

  pub found_in : {X : Type 0} (p : X → Bool) (xs : List X) (x : X) → find p xs ≡ Some x → Contains xs x
  found_in p [] x h = absurd (none-some x h)
  found_in p (y ∷ xs) x h = by (p y) h (λ g. found_in p xs x g)
    where
      by : (b : Bool) → (if b then Some y else find p xs) ≡ Some x → (find p xs ≡ Some x → Contains xs x) → Contains (y ∷ xs) x
      by true h again = subst (λ z. Contains (y ∷ xs) z) (same_Some y x h) (Contains_first y xs)
      by false h again = Contains_later y x xs (again h)

  module _ (valid : IsMetamodel meta) where
    pub said_within : (f : FeatId) → IfSome (class_said meta f) Within
    said_within f = on (slice_get meta.features f.0) refl
      where
        kind : (k : FeatKind) → IsKindWithin meta k → IfSome (class_of k) Within
        kind (holds.Refer class contains opposite) h = h.0
        kind holds.Str h = tt
        kind holds.Int h = tt
        kind holds.Truth h = tt
        kind (holds.Enum e) h = tt
        kind holds.Opaque h = tt

        on : (x : Option Feature) → slice_get meta.features f.0 ≡ x → IfSome (option_map_or (λ feature. class_of feature.kind) x None) Within
        on None e = tt
        on (Some feature) e = kind feature.kind (subst (λ (g : Feature). IsKindWithin meta g.kind) (get_or_from_slice_get meta.features f.0 feature feature e) (valid.places.kinds f.0 feature (slice_get_within meta.features f.0 feature e)))

    -- ## Where elements stand

    abbrev IsPlace : List Entry → Where → Type 0
    IsPlace before (InObject c o) = (e : Entry) × (slice_get (objects before) o.0 ≡ Some e) × (own_class e.part ≡ Some c) × Within c
    IsPlace before AtRoot = Unit {0}
    IsPlace before InAround = Unit {0}
    IsPlace before InValue = Unit {0}

    place_more : (before xs : List Entry) (w : Where) → IsPlace before w → IsPlace (before ++ xs) w
    place_more before xs (InObject c o) h = (h.0, ap (λ l. slice_get l o.0) (objects_together before xs) ∙ get_first (objects before) (objects xs) o.0 h.0 h.1, h.2, h.3)
    place_more before xs AtRoot h = tt
    place_more before xs InAround h = tt
    place_more before xs InValue h = tt

    child_regular : (before : List Entry) (c : ClassId) (o : ObjId) (scope : List Prefix) (t : Tag) → IsPlace before (InObject c o) → IsRegular before (child_part meta c o scope t)
    child_regular before c o scope t h = on (feature_named meta c t.name) refl
      where
        said : FeatId → Option ClassId
        said f = child_class meta scope t (class_said meta f)

        sort : (f : FeatId) → Sees before o f → (a : Bool) → contains meta f ≡ a → (b : Bool) → refers meta f ≡ b → IsRegular before (if a then Content o f (child_class meta scope t (class_said meta f)) else if b then Cross f (child_class meta scope t (class_said meta f)) else Value o f)
        sort f s true i b j = (s, i, child_within scope t (class_said meta f) (said_within f))
        sort f s false i true j = tt
        sort f s false i false j = (s, j)

        on : (x : Option FeatId) → feature_named meta c t.name ≡ x → IsRegular before (option_map_or (λ f. if contains meta f then Content o f (child_class meta scope t (class_said meta f)) else if refers meta f then Cross f (child_class meta scope t (class_said meta f)) else Value o f) x (Unknown (option_map (class_of_text meta scope) (type_text t))))
        on None e = tt
        on (Some f) e = sort f (record { entry = h.0; there = h.1; class = c; is = h.2; sees = found_in (λ f. bytes_eq (name_of meta.features f) t.name) (features meta.classes c) f e }) (contains meta f) refl (refers meta f) refl

    part_regular : (before : List Entry) (w : Where) (scope : List Prefix) (t : Tag) → IsPlace before w → IsRegular before (part_of meta w scope t)
    part_regular before AtRoot scope t h = on (is_around t)
      where
        on : (b : Bool) → IsRegular before (if b then Around else Root (class_named meta t.space t.name))
        on true = tt
        on false = named_within t.space t.name
    part_regular before InAround scope t h = named_within t.space t.name
    part_regular before (InObject c o) scope t h = child_regular before c o scope t h
    part_regular before InValue scope t h = tt

    last_object : (before : List Entry) (e : Entry) (n : ℕ) → n ≡ objects_in before → is_object e.part ≡ true → slice_get (objects (before ++ (e ∷ []))) n ≡ Some e
    last_object before e n h i = ap (λ l. slice_get l n) (objects_together before (e ∷ []) ∙ ap (λ b. objects before ++ (if b then e ∷ [] else [])) i) ∙ at_end (objects before) n (counted before h)
      where
        at_end : (xs : List Entry) (k : ℕ) → k ≡ length xs → slice_get (xs ++ (e ∷ [])) k ≡ Some e
        at_end [] zero g = refl
        at_end [] (suc k) g = absurd (omega (arith, g))
        at_end (x ∷ xs) zero g = absurd (omega (arith, g))
        at_end (x ∷ xs) (suc k) g = at_end xs k (omega (arith, g))

        sum : (es : List Entry) → objects_in es ≡ length (objects es)
        sum [] = refl
        sum (x ∷ es) = by (is_object x.part) (sum es)
          where
            by : (b : Bool) → objects_in es ≡ length (objects es) → (if b then suc (objects_in es) else objects_in es) ≡ length (if b then x ∷ objects es else objects es)
            by true r = ap suc r
            by false r = r

        counted : (es : List Entry) → n ≡ objects_in es → n ≡ length (objects es)
        counted es g = g ∙ sum es

    -- inside an element that is there
    inside_place : (before : List Entry) (p : Part) (t : Tag) (n : ℕ) (w : Where) → n ≡ objects_in before → IsRegular before p → inside p n ≡ Some w → IsPlace (before ++ (record { part = p; tag = t } ∷ [])) w
    inside_place before Around t n w h r e = subst (IsPlace (before ++ (record { part = Around; tag = t } ∷ []))) (same_Some InAround w e) tt
    inside_place before (Root (Some c)) t n w h r e = subst (IsPlace (before ++ (record { part = Root (Some c); tag = t } ∷ []))) (same_Some (InObject c (record { 0 = n })) w e)
        (record { part = Root (Some c); tag = t }, last_object before (record { part = Root (Some c); tag = t }) n h refl, refl, r)
    inside_place before (Root None) t n w h r e = absurd (none-some w e)
    inside_place before (Content o f (Some c)) t n w h r e = subst (IsPlace (before ++ (record { part = Content o f (Some c); tag = t } ∷ []))) (same_Some (InObject c (record { 0 = n })) w e)
        (record { part = Content o f (Some c); tag = t }, last_object before (record { part = Content o f (Some c); tag = t }) n h refl, refl, r.2)
    inside_place before (Content o f None) t n w h r e = absurd (none-some w e)
    inside_place before (Value o f) t n w h r e = subst (IsPlace (before ++ (record { part = Value o f; tag = t } ∷ []))) (same_Some InValue w e) tt
    inside_place before (Cross f c) t n w h r e = absurd (none-some w e)
    inside_place before (Unknown c) t n w h r e = absurd (none-some w e)
    inside_place before Inner t n w h r e = absurd (none-some w e)

    -- ## Walks

    abbrev IsRegularWalk : (Where → List Prefix → ℕ → List Entry) → Type 0
    IsRegularWalk walk = (w : Where) (scope : List Prefix) (n : ℕ) (before : List Entry) → n ≡ objects_in before → IsPlace before w → AreRegular before (walk w scope n)

    abbrev IsRegularBelow : Below → Type 0
    IsRegularBelow (Sub name walk) = IsRegularWalk walk
    IsRegularBelow (Words text) = Unit {0}

    abbrev AreRegularBelow : List Below → Type 0
    AreRegularBelow [] = Unit {0}
    AreRegularBelow (b ∷ bs) = IsRegularBelow b × AreRegularBelow bs

    all_regular : (bs : List Below) → AreRegularBelow bs → (w : Where) (scope : List Prefix) (n : ℕ) (before : List Entry) → n ≡ objects_in before → IsPlace before w → AreRegular before (walk_all meta w scope n bs)
    all_regular [] g w scope n before h p = tt
    all_regular (Words text ∷ bs) g w scope n before h p = all_regular bs g.1 w scope n before h p
    all_regular (Sub name walk ∷ bs) g w scope n before h p = on (is_passed meta w name) (all_regular bs g.1 w scope n before h p)
        (all_regular bs g.1 w scope (n + objects_in (walk w scope n)) (before ++ walk w scope n) (ap (λ k. k + objects_in (walk w scope n)) h ∙ sym (counted_together before (walk w scope n))) (place_more before (walk w scope n) w p))
      where
        on : (b : Bool) → AreRegular before (walk_all meta w scope n bs) → AreRegular (before ++ walk w scope n) (walk_all meta w scope (n + objects_in (walk w scope n)) bs) → AreRegular before (if b then walk_all meta w scope n bs else walk w scope n ++ walk_all meta w scope (n + objects_in (walk w scope n)) bs)
        on true x y = x
        on false x y = together before (walk w scope n) (walk_all meta w scope (n + objects_in (walk w scope n)) bs) (g.0 w scope n before h p) y

    tag_regular : (bs : List Below) → AreRegularBelow bs → (w : Where) (scope : List Prefix) (n : ℕ) (t : Tag) (before : List Entry) → n ≡ objects_in before → IsPlace before w → AreRegular before (walk_tag meta w scope n t bs)
    tag_regular bs g w scope n t before h p = (r, on (inside part n) refl)
      where
        part : Part
        part = part_of meta w scope t

        r : IsRegular before (part_of meta w scope t)
        r = part_regular before w scope t p

        count : (if is_object (part_of meta w scope t) then suc n else n) ≡ objects_in (before ++ (record { part = part_of meta w scope t; tag = t } ∷ []))
        count = by (is_object (part_of meta w scope t)) ∙ sym (counted_together before (record { part = part_of meta w scope t; tag = t } ∷ []))
          where
            by : (b : Bool) → (if b then suc n else n) ≡ objects_in before + (if b then suc 0 else 0)
            by true = omega (arith, h)
            by false = omega (arith, h)

        on : (x : Option Where) → inside (part_of meta w scope t) n ≡ x → AreRegular (before ++ (record { part = part_of meta w scope t; tag = t } ∷ [])) (walk_inside meta x scope (if is_object (part_of meta w scope t) then suc n else n) bs)
        on None e = tt
        on (Some v) e = all_regular bs g v scope (if is_object (part_of meta w scope t) then suc n else n) (before ++ (record { part = part_of meta w scope t; tag = t } ∷ [])) count (inside_place before (part_of meta w scope t) t n v h r e)

    -- ## Trees

    abbrev OfChild : Child → Type 0
    OfChild c = IsRegularBelow (walk_child meta c)

    abbrev OfElement : Element → Type 0
    OfElement e = IsRegularWalk (walk meta e).1

    abbrev SomeChild : Type 0
    SomeChild = (c : Child) × OfChild c

    abbrev SomeElement : Type 0
    SomeElement = (e : Element) × OfElement e

    child_step : (y : layer.Child-F SomeChild SomeElement) → OfChild (roll-Child (map-Child SomeChild SomeElement Child Element (λ c. c.0) (λ e. e.0) y))
    unfolding walk walk_child
    child_step (layer.Sub e) = subst IsRegularBelow (sym (fold-roll-Child Below Walk (child_layer meta) (named_layer meta) (layer.Sub e.0))) e.1
    child_step (layer.Words text) = subst IsRegularBelow (sym (fold-roll-Child Below Walk (child_layer meta) (named_layer meta) (layer.Words text))) tt

    children_regular : (cs : List SomeChild) → AreRegularBelow (map (walk_child meta) (map (λ c. c.0) cs))
    children_regular [] = tt
    children_regular (c ∷ cs) = (c.1, children_regular cs)

    element_step : (y : layer.Element-F SomeChild SomeElement) → OfElement (roll-Element (map-Element SomeChild SomeElement Child Element (λ c. c.0) (λ e. e.0) y))
    unfolding walk walk_child
    element_step y w outer n before h p =
        subst (λ (k : Walk). AreRegular before (k.1 w outer n)) (sym (fold-roll-Element Below Walk (child_layer meta) (named_layer meta) (map-Element SomeChild SomeElement Child Element (λ c. c.0) (λ e. e.0) y)))
        (tag_regular (map (walk_child meta) (map (λ c. c.0) y.children)) (children_regular y.children) w (y.declared ++ outer) n
        (record { space = y.space; name = y.name; attributes = y.attributes; texts = texts_of (map (walk_child meta) (map (λ c. c.0) y.children)); has_elements = list_any is_element (map (walk_child meta) (map (λ c. c.0) y.children)); place = y.place }) before h p)

    of_elements : (e : Element) → OfElement e
    of_elements = ind-Element OfChild OfElement
        (λ x y is. subst (λ l. OfChild (roll-Child l)) is (child_step y))
        (λ x y is. subst (λ l. OfElement (roll-Element l)) is (element_step y))

  pub outline_regular : IsMetamodel meta → (doc : Doc) → AreRegular [] (outline meta doc)
  outline_regular valid doc = of_elements valid doc.root AtRoot [] 0 [] refl tt
