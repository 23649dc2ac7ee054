-- Where an element of a file stands, and that nothing is wrong there.
use Rattle.std.proofs.Common.{◌≡◌, ℕ, zero, suc, List, [], ◌∷◌, ◌++◌, length, refl, sym, ap, ◌∙◌, append_assoc, append-nil, Option, Some, None}
use Rattle.std.specs.Prelude.{Bool, true, false, filter_map, slice_get, if◌then◌else◌}
use Rattle.std.specs.Option.{option_map_or}
use Rattle.std.proofs.lemmas.Option.{none-some, same_Some}
use Rattle.atl_base.specs.declared.place.Place.{Place}
use Rattle.ecore_meta.specs.declared.parts.Parts.{Parts}
use Rattle.xmi_models.specs.Outline.{Entry, is_object}
use Rattle.xmi_models.specs.declared.fault.Kind.{Kind}
use Rattle.xmi_models.specs.declared.fault.Kind.TheVariants.{BadType, BadValue, Full, NoFeature, StrayText, Href}
use Rattle.xmi_models.specs.Faults.{Fault, when, first_of, of_kind, objects, fault_at, fault_from, class_faults, second_object, attribute_value, bad_value, is_misplaced, feature_values, has_stray_text, bad_values, all_foreign, is_too_many}

-- an element behind these
pub record Stands (file before : List Entry) (e : Entry) : Type 0 where
  pub after : List Entry
  pub is : before ++ (e ∷ after) ≡ file

pub stands_next : (file before : List Entry) (x e : Entry) → Stands file before e → Stands (x ∷ file) (x ∷ before) e
stands_next file before x e s = record { after = s.after; is = ap (λ l. x ∷ l) s.is }

-- ## Objects by their numbers

pub record IsObject (file : List Entry) (n : ℕ) (e : Entry) : Type 0 where
  pub before : List Entry
  pub stands : Stands file before e
  pub number : length (objects before) ≡ n
  pub object : is_object e.part ≡ true

pub object_stands : (file : List Entry) (n : ℕ) (e : Entry) → slice_get (objects file) n ≡ Some e → IsObject file n e
object_stands [] n e h = absurd (none-some e h)
object_stands (x ∷ file) n e h = by (is_object x.part) refl n h (λ k g. object_stands file k e g)
  where
    counted : (b : Bool) → is_object x.part ≡ b → (before : List Entry) → length (objects (x ∷ before)) ≡ length (if b then x ∷ objects before else objects before)
    counted b i before = ap (λ t. length (if t then x ∷ objects before else objects before)) i

    by : (b : Bool) → is_object x.part ≡ b → (n : ℕ) → slice_get (if b then x ∷ objects file else objects file) n ≡ Some e → ((k : ℕ) → slice_get (objects file) k ≡ Some e → IsObject file k e) → IsObject (x ∷ file) n e
    by true i zero g again =
        let same : x ≡ e = same_Some x e g in
        record { before = []; stands = record { after = file; is = ap (λ y. y ∷ file) (sym same) }; number = refl; object = ap (λ (y : Entry). is_object y.part) (sym same) ∙ i }
    by true i (suc n) g again =
        let r = again n g in
        record { before = x ∷ r.before; stands = stands_next file r.before x e r.stands; number = counted true i r.before ∙ ap suc r.number; object = r.object }
    by false i n g again =
        let r = again n g in
        record { before = x ∷ r.before; stands = stands_next file r.before x e r.stands; number = counted false i r.before ∙ r.number; object = r.object }

pub objects_together : (xs ys : List Entry) → objects (xs ++ ys) ≡ objects xs ++ objects ys
objects_together [] ys = refl
objects_together (x ∷ xs) ys = by (is_object x.part) (objects_together xs ys)
  where
    by : (b : Bool) → objects (xs ++ ys) ≡ objects xs ++ objects ys → (if b then x ∷ objects (xs ++ ys) else objects (xs ++ ys)) ≡ (if b then x ∷ objects xs else objects xs) ++ objects ys
    by true h = ap (λ l. x ∷ l) h
    by false h = h

pub get_first : {X : Type 0} (xs ys : List X) (n : ℕ) (x : X) → slice_get xs n ≡ Some x → slice_get (xs ++ ys) n ≡ Some x
get_first [] ys n x h = absurd (none-some x h)
get_first (z ∷ xs) ys zero x h = h
get_first (z ∷ xs) ys (suc n) x h = get_first xs ys n x h

-- an object before an element has its number in the file
pub object_before : (file before : List Entry) (e : Entry) → Stands file before e → (n : ℕ) (x : Entry) → slice_get (objects before) n ≡ Some x → slice_get (objects file) n ≡ Some x
object_before file before e s n x h = ap (λ l. slice_get (objects l) n) (sym s.is) ∙ ap (λ l. slice_get l n) (objects_together before (e ∷ s.after)) ∙ get_first (objects before) (objects (e ∷ s.after)) n x h

-- ## No fault

past : {X : Type 0} (o : Option X) (f : X → Fault × Place) (rest : Option (Fault × Place)) → option_map_or (λ x. Some (f x)) o rest ≡ None → (o ≡ None) × (rest ≡ None)
past None f rest h = (refl, h)
past (Some x) f rest h = absurd (none-some (f x) (sym h))

pub first_past : (o : Option Fault) (os : List (Option Fault)) → first_of (o ∷ os) ≡ None → (o ≡ None) × (first_of os ≡ None)
first_past None os h = (refl, h)
first_past (Some f) os h = absurd (none-some f (sym h))

no_values : (kind : Kind) (values : List (List ℕ)) → of_kind kind values ≡ None → values ≡ []
no_values kind [] h = refl
no_values kind (v ∷ values) h = absurd (none-some (kind, v) (sym h))

no_more : {X : Type 0} (xs ys : List X) → xs ++ ys ≡ [] → (xs ≡ []) × (ys ≡ [])
no_more [] ys h = (refl, h)
no_more (x ∷ xs) ys h = absurd (cc)

not_so : (b : Bool) (kind : Kind) (value : List ℕ) → when b kind value ≡ None → b ≡ false
not_so true kind value h = absurd (none-some (kind, value) (sym h))
not_so false kind value h = refl

module _ (meta : Parts) where
  pub record IsGood (before : List Entry) (e : Entry) : Type 0 where
    pub class : class_faults meta e ≡ None
    pub second : second_object meta before e.part ≡ []
    pub attributes : filter_map (attribute_value meta e.part) e.tag.attributes ≡ []
    pub value : bad_value meta before e ≡ []
    pub fits : is_misplaced meta e.part ≡ false
    pub few : is_too_many meta before e.part ≡ false

  good_at : (before : List Entry) (e : Entry) → fault_at meta before e ≡ None → IsGood before e
  good_at before e h =
      let a = first_past (class_faults meta e) _ h in
      let b = first_past (of_kind NoFeature (feature_values meta e)) _ a.1 in
      let c = first_past (when (has_stray_text e) StrayText e.tag.name) _ b.1 in
      let d = first_past (of_kind BadValue (bad_values meta before e)) _ c.1 in
      let g = first_past (of_kind Href (all_foreign meta e.part e.tag.attributes)) _ d.1 in
      let i = first_past (when (is_misplaced meta e.part) BadType e.tag.name) _ g.1 in
      let j = first_past (when (is_too_many meta before e.part) Full []) _ i.1 in
      let values = no_more (second_object meta before e.part) (filter_map (attribute_value meta e.part) e.tag.attributes ++ bad_value meta before e) (no_values BadValue (bad_values meta before e) d.0) in
      let more = no_more (filter_map (attribute_value meta e.part) e.tag.attributes) (bad_value meta before e) values.1 in
      record { class = a.0; second = values.0; attributes = more.0; value = more.1; fits = not_so (is_misplaced meta e.part) BadType e.tag.name i.0; few = not_so (is_too_many meta before e.part) Full [] j.0 }

  faultless_from : (before pre : List Entry) (e : Entry) (post : List Entry) → fault_from meta before (pre ++ (e ∷ post)) ≡ None → fault_at meta (before ++ pre) e ≡ None
  faultless_from before [] e post h =
      ap (λ l. fault_at meta l e) (append-nil before) ∙ (past (fault_at meta before e) (λ f. (f, e.tag.place)) (fault_from meta (before ++ (e ∷ [])) post) h).0
  faultless_from before (x ∷ pre) e post h =
      ap (λ l. fault_at meta l e) (sym (append_assoc before (x ∷ []) pre))
      ∙ faultless_from (before ++ (x ∷ [])) pre e post (past (fault_at meta before x) (λ f. (f, x.tag.place)) (fault_from meta (before ++ (x ∷ [])) (pre ++ (e ∷ post))) h).1

  -- nothing is wrong at an element of a file without faults
  pub good : (file before : List Entry) (e : Entry) → fault_from meta [] file ≡ None → Stands file before e → IsGood before e
  good file before e h s = good_at before e (faultless_from [] before e s.after (ap (fault_from meta []) s.is ∙ h))

  -- nothing is wrong at the first, nor at those behind it
  pub good_first : (before : List Entry) (e : Entry) (es : List Entry) → fault_from meta before (e ∷ es) ≡ None → IsGood before e × (fault_from meta (before ++ (e ∷ [])) es ≡ None)
  good_first before e es h =
      let x = past (fault_at meta before e) (λ f. (f, e.tag.place)) (fault_from meta (before ++ (e ∷ [])) es) h in
      (good_at before e x.0, x.1)
