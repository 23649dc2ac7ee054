-- The links of a file without faults: each leads from an object that sees the reference to an object that fits it, and no
-- single end has two objects.
use Rattle.std.proofs.Common.{◌≡◌, ℕ, zero, suc, ◌+◌, List, [], ◌∷◌, ◌++◌, refl, sym, ap, ◌∙◌, subst, ⊎_elim, append-nil, append_assoc, arith, Option, Some, None}
use Rattle.std.specs.Prelude.{◌&&◌, not, Bool, true, false, slice_get, option_map, Contains, bytes_eq, filter_map, find, flat_map, map, if◌then◌else◌}
use Rattle.std.specs.List.{list_any}
use Rattle.std.specs.Option.{option_map_or}
use Rattle.std.proofs.lemmas.Bool.{or_parts, or_from, not-false}
use Rattle.std.proofs.lemmas.List.Elements.{Contains-append_cases}
use Rattle.std.proofs.lemmas.List.Concat.{flat_map-append}
use Rattle.std.proofs.lemmas.Option.{none-some, same_Some}
use Rattle.atl_base.specs.declared.place.Place.{Place}
use Rattle.atl_base.specs.declared.numbers.ClassId.{ClassId}
use Rattle.atl_base.specs.declared.numbers.FeatId.{FeatId}
use Rattle.atl_base.specs.declared.numbers.ObjId.{ObjId}
use Rattle.doc_text.specs.declared.tree.Attribute.{Attribute}
use Rattle.ecore_meta.specs.declared.parts.Parts.{Parts}
use Rattle.ecore_meta.specs.Inheritance.{features, name_of}
use Rattle.ecore_meta.specs.Valid.{IsMetamodel}
use Rattle.ecore_meta.proofs.Membership.{Contains-from_flat_map}
use Rattle.model_store.specs.Contents.{Contents, contains, refers}
use Rattle.model_store.proofs.Thinned.{Contains_cases, Contains_none}
use Rattle.xmi_text.specs.Markup.{words_of}
use Rattle.xmi_text.specs.Options.{then_}
use Rattle.xmi_text.proofs.Lists.{in_filter_map, in_map}
use Rattle.xmi_models.specs.declared.fault.Kind.{Kind}
use Rattle.xmi_models.specs.declared.fault.Kind.TheVariants.{BadPath, NoId, TwiceId, BadType, TwoContainers, TwoEnds}
use Rattle.xmi_models.specs.Outline.{Entry, Part, class_said, feature_named, is_sub}
use Rattle.xmi_models.specs.Faults.{Fault, attribute_feature, fault_from, first_of, objects, own_class, when}
use Rattle.xmi_links.specs.References.{Link, Named, One, Nothing, Nobody, Several, Reference, Token, bearers, both_ways, clashes, draft, drafted_slot, ends_fault, ends_of, fault_of_kind, has_clash, is_unfit, is_wrong, link, links_at, links_from, links_of, names, object_named, reference_fault, reference_fault_from, reference_of, references_at, references_fault, token_of, tokens_fault, value_told}
use Rattle.xmi_links.specs.ModelOf.{links}
use Rattle.xmi_links.proofs.FaultlessEntries.{first_past}
use Rattle.xmi_links.proofs.FaultlessOutline.{AreRegular, found_in}
use Rattle.xmi_links.proofs.FaultlessContents.{same_number}
use Rattle.xmi_links.proofs.FaultlessSlots.{IsThere, object_there}
use Rattle.xmi_links.proofs.FaultlessContainers.{HasOne}
use Rattle.xmi_links.proofs.FaultlessNamed.{IsOne, named_one}

pub none_passes : {X : Type 0} (p : X → Bool) (xs : List X) (x : X) → list_any p xs ≡ false → Contains xs x → p x ≡ false
none_passes p [] x h m = absurd (Contains_none x m)
none_passes p (y ∷ xs) x h m = let a = or_parts (p y) (list_any p xs) h in
    ⊎_elim (λ (s : y ≡ x). ap p (sym s) ∙ a.0) (λ (k : Contains xs x). none_passes p xs x a.1 k) (Contains_cases y x xs m)

fourth : (a b c d e : Option Fault) → first_of (a ∷ b ∷ c ∷ d ∷ e ∷ []) ≡ None → d ≡ None
fourth a b c d e h =
    let v = first_past a (b ∷ c ∷ d ∷ e ∷ []) h in
    let w = first_past b (c ∷ d ∷ e ∷ []) v.1 in
    let x = first_past c (d ∷ e ∷ []) w.1 in
    (first_past d (e ∷ []) x.1).0

-- what no search finds fails
none_found : {X : Type 0} (p : X → Bool) (xs : List X) (x : X) → find p xs ≡ None → Contains xs x → p x ≡ false
none_found p [] x h m = absurd (Contains_none x m)
none_found p (y ∷ xs) x h m = on (p y) refl h (λ g k. none_found p xs x g k)
  where
    on : (b : Bool) → p y ≡ b → (if b then Some y else find p xs) ≡ None → (find p xs ≡ None → Contains xs x → p x ≡ false) → p x ≡ false
    on true i g again = absurd (none-some y (sym g))
    on false i g again = ⊎_elim (λ (s : y ≡ x). ap p (sym s) ∙ i) (λ (k : Contains xs x). again g k) (Contains_cases y x xs m)

one_is : (n : Named) (p : ObjId) → object_named n ≡ Some p → n ≡ One p
one_is (One o) p h = ap One (same_Some o p h)
one_is Nothing p h = absurd (none-some p h)
one_is Nobody p h = absurd (none-some p h)
one_is Several p h = absurd (none-some p h)

flat_flat : {X Y Z : Type 0} (g : Y → List Z) (f : X → List Y) (xs : List X) → flat_map g (flat_map f xs) ≡ flat_map (λ x. flat_map g (f x)) xs
flat_flat g f [] = refl
flat_flat g f (x ∷ xs) = flat_map-append g (f x) (flat_map f xs) ∙ ap (λ l. flat_map g (f x) ++ l) (flat_flat g f xs)

past_fault : (o : Option Fault) (p : Place) (rest : Option (Fault × Place)) → option_map_or (λ f. Some (f, p)) o rest ≡ None → (o ≡ None) × (rest ≡ None)
past_fault None p rest h = (refl, h)
past_fault (Some f) p rest h = absurd (none-some (f, p) (sym h))

past_some : (o rest : Option Fault) → option_map_or Some o rest ≡ None → (o ≡ None) × (rest ≡ None)
past_some None rest h = (refl, h)
past_some (Some f) rest h = absurd (none-some f (sym h))

module _ (meta : Parts) (file : List Entry) where
  abbrev m : Contents
  m = draft meta file

  abbrev who : List ℕ → List ObjId
  who = bearers m file

  -- ## Where a link comes from

  pub record IsLinkAt (o : ObjId) (e : Entry) (l : Link) : Type 0 where
    pub reference : Reference
    pub token : Token
    pub word : List ℕ
    pub told : Contains (references_at m who o e) reference
    pub of : Contains reference.tokens token
    pub means : names m who word ≡ token.named
    pub named : object_named token.named ≡ Some l.to
    pub from : l.from ≡ o
    pub by : l.by ≡ reference.feature
    pub feature : (a : Attribute) × (attribute_feature meta e.part a ≡ Some l.by)
    pub refers_it : refers meta l.by ≡ true
    pub apart : contains meta l.by ≡ false

  pub record IsToldBy (o : ObjId) (e : Entry) (a : Attribute) (r : Reference) : Type 0 where
    pub feature : attribute_feature meta e.part a ≡ Some r.feature
    pub refers_it : refers meta r.feature ≡ true
    pub apart : contains meta r.feature ≡ false
    pub source : r.source ≡ o
    pub tokens : r.tokens ≡ map (token_of m who) (words_of a.value)

  told_by : (o : ObjId) (e : Entry) (a : Attribute) (r : Reference) → reference_of m who o e a ≡ Some r → IsToldBy o e a r
  told_by o e a r h = on (attribute_feature meta e.part a) refl h
    where
      of : FeatId → Reference
      of f = record { source = o; feature = f; tokens = map (token_of m who) (words_of a.value) }

      sort : (f : FeatId) → attribute_feature meta e.part a ≡ Some f → (x : Bool) → refers meta f ≡ x → (y : Bool) → contains meta f ≡ y → option_map (λ f. record { source = o; feature = f; tokens = map (token_of m who) (words_of a.value) }) (if x && not y then Some f else None) ≡ Some r → IsToldBy o e a r
      sort f k true i false j h =
          let s = same_Some (record { source = o; feature = f; tokens = map (token_of m who) (words_of a.value) }) r h in
          let g : f ≡ r.feature = ap (λ (q : Reference). q.feature) s in
          record { feature = k ∙ ap Some g; refers_it = ap (refers meta) (sym g) ∙ i; apart = ap (contains meta) (sym g) ∙ j; source = ap (λ (q : Reference). q.source) (sym s); tokens = ap (λ (q : Reference). q.tokens) (sym s) }
      sort f k true i true j h = absurd (none-some r h)
      sort f k false i y j h = absurd (none-some r h)

      on : (x : Option FeatId) → attribute_feature meta e.part a ≡ x → option_map (λ f. record { source = o; feature = f; tokens = map (token_of m who) (words_of a.value) }) (then_ x (λ f. if refers meta f && not (contains meta f) then Some f else None)) ≡ Some r → IsToldBy o e a r
      on None k h = absurd (none-some r h)
      on (Some f) k h = sort f k (refers meta f) refl (contains meta f) refl h

  link_at : (o : ObjId) (e : Entry) (l : Link) → Contains (links_at m who o e) l → IsLinkAt o e l
  link_at o e l h =
      let x = Contains-from_flat_map links_of (references_at m who o e) l h in
      let y = in_map (link x.0.source x.0.feature) (filter_map (λ (t : Token). object_named t.named) x.0.tokens) l x.2 in
      let z = in_filter_map (λ (t : Token). object_named t.named) x.0.tokens y.0 y.1 in
      let w = in_filter_map (reference_of m who o e) e.tag.attributes x.0 x.1 in
      let t = told_by o e w.0 x.0 w.2 in
      let v = in_map (token_of m who) (words_of w.0.value) z.0 (subst (λ ts. Contains ts z.0) t.tokens z.1) in
      let by : x.0.feature ≡ l.by = ap (λ (k : Link). k.by) y.2 in
      record {
        reference = x.0;
        token = z.0;
        word = v.0;
        told = x.1;
        of = z.1;
        means = ap (λ (t : Token). t.named) v.2;
        named = z.2 ∙ ap (λ (k : Link). Some k.to) y.2;
        from = sym (ap (λ (k : Link). k.from) y.2) ∙ t.source;
        by = sym by;
        feature = (w.0, t.feature ∙ ap Some by);
        refers_it = ap (refers meta) (sym by) ∙ t.refers_it;
        apart = ap (contains meta) (sym by) ∙ t.apart;
      }

  pub record IsLinkIn (n : ℕ) (es : List Entry) (l : Link) : Type 0 where
    pub place : ℕ
    pub entry : Entry
    pub there : slice_get es place ≡ Some entry
    pub it : IsLinkAt (record { 0 = n + place }) entry l

  link_in : (n : ℕ) (es : List Entry) (l : Link) → Contains (links_from m who n es) l → IsLinkIn n es l
  link_in n [] l h = absurd (Contains_none l h)
  link_in n (e ∷ es) l h = ⊎_elim
      (λ (h : Contains (links_at m who (record { 0 = n }) e) l). record { place = 0; entry = e; there = refl; it = subst (λ o. IsLinkAt o e l) (same_number n (n + 0) (omega arith)) (link_at (record { 0 = n }) e l h) })
      (λ (h : Contains (links_from m who (suc n) es) l).
      let x = link_in (suc n) es l h in
      record { place = suc x.place; entry = x.entry; there = x.there; it = subst (λ o. IsLinkAt o x.entry l) (same_number (suc n + x.place) (n + suc x.place) (omega arith)) x.it })
      (Contains-append_cases (links_at m who (record { 0 = n }) e) (links_from m who (suc n) es) l h)

  -- ## No faults

  pub record AreGood (before : List Link) (part : Part) (rs : List Reference) : Type 0 where
    pub types : fault_of_kind m part BadType rs ≡ None
    pub ends : ends_fault meta before rs ≡ None

  good_references : (before : List Link) (part : Part) (rs : List Reference) → references_fault m before part rs ≡ None → AreGood before part rs
  good_references before part rs h =
      let x = past_some (tokens_fault m part rs) (ends_fault meta before rs) h in
      record { types = fourth (fault_of_kind m part BadPath rs) (fault_of_kind m part NoId rs) (fault_of_kind m part TwiceId rs) (fault_of_kind m part BadType rs) (fault_of_kind m part TwoContainers rs) x.0; ends = x.1 }

  abbrev at : ℕ → Entry → List Reference
  at n e = references_at m who (record { 0 = n }) e

  pub good_entry : (n : ℕ) (before : List Link) (es : List Entry) (k : ℕ) (e : Entry) → reference_fault_from m who n before es ≡ None → slice_get es k ≡ Some e → (past : List Link) × AreGood past e.part (at (n + k) e)
  good_entry n before [] k e h g = absurd (none-some e g)
  good_entry n before (x ∷ es) zero e h g =
      let a = past_fault (references_fault m before x.part (at n x)) x.tag.place (reference_fault_from m who (suc n) (before ++ flat_map (ends_of meta) (at n x)) es) h in
      (before, subst (λ j. AreGood before e.part (at j e)) (let z : n ≡ n + 0 = omega arith in z) (subst (λ (y : Entry). AreGood before y.part (at n y)) (same_Some x e g) (good_references before x.part (at n x) a.0)))
  good_entry n before (x ∷ es) (suc k) e h g =
      let a = past_fault (references_fault m before x.part (at n x)) x.tag.place (reference_fault_from m who (suc n) (before ++ flat_map (ends_of meta) (at n x)) es) h in
      let r = good_entry (suc n) (before ++ flat_map (ends_of meta) (at n x)) es k e a.1 g in
      (r.0, subst (λ j. AreGood r.0 e.part (at j e)) (let z : suc n + k ≡ n + suc k = omega arith in z) r.1)

  -- no token of these references is wrong in this way
  no_wrong : (part : Part) (kind : Kind) (rs : List Reference) → fault_of_kind m part kind rs ≡ None → (r : Reference) (t : Token) → Contains rs r → Contains r.tokens t → is_wrong m kind part r.feature t.named ≡ false
  no_wrong part kind [] h r t i k = absurd (Contains_none r i)
  no_wrong part kind (x ∷ rs) h r t i k = on (find (λ t. is_wrong m kind part x.feature t.named) x.tokens) refl h (λ g n. no_wrong part kind rs g r t n k)
    where
      on : (y : Option Token) → find (λ t. is_wrong m kind part x.feature t.named) x.tokens ≡ y → option_map_or (λ t. Some (kind, value_told m kind x.feature t.text)) y (fault_of_kind m part kind rs) ≡ None → (fault_of_kind m part kind rs ≡ None → Contains rs r → is_wrong m kind part r.feature t.named ≡ false) → is_wrong m kind part r.feature t.named ≡ false
      on None j g again = ⊎_elim
          (λ (s : x ≡ r). none_found (λ t. is_wrong m kind part r.feature t.named) r.tokens t (ap (λ (q : Reference). find (λ t. is_wrong m kind part q.feature t.named) q.tokens) (sym s) ∙ j) k)
          (λ (n : Contains rs r). again g n)
          (Contains_cases x r rs i)
      on (Some y) j g again = absurd (none-some (kind, value_told m kind x.feature y.text) (sym g))

  -- ## Clashes

  clash_append : (before xs ys : List Link) → has_clash meta before xs ≡ false → has_clash meta (before ++ xs) ys ≡ false → has_clash meta before (xs ++ ys) ≡ false
  clash_append before [] ys h k = ap (λ l. has_clash meta l ys) (sym (append-nil before)) ∙ k
  clash_append before (l ∷ xs) ys h k =
      let a = or_parts (list_any (clashes meta l) before) (has_clash meta (before ++ (l ∷ [])) xs) h in
      or_from (list_any (clashes meta l) before) (has_clash meta (before ++ (l ∷ [])) (xs ++ ys)) a.0
      (clash_append (before ++ (l ∷ [])) xs ys a.1 (ap (λ p. has_clash meta p ys) (append_assoc before (l ∷ []) xs) ∙ k))

  ends_apart : (before : List Link) (rs : List Reference) → ends_fault meta before rs ≡ None → has_clash meta before (flat_map (ends_of meta) rs) ≡ false
  ends_apart before [] h = refl
  ends_apart before (r ∷ rs) h =
      let a = past_end (has_clash meta before (ends_of meta r)) (name_of meta.features r.feature) (ends_fault meta (before ++ ends_of meta r) rs) h in
      clash_append before (ends_of meta r) (flat_map (ends_of meta) rs) a.0 (ends_apart (before ++ ends_of meta r) rs a.1)
    where
      past_end : (b : Bool) (value : List ℕ) (rest : Option Fault) → option_map_or Some (when b TwoEnds value) rest ≡ None → (b ≡ false) × (rest ≡ None)
      past_end true value rest h = absurd (none-some (TwoEnds, value) (sym h))
      past_end false value rest h = (refl, h)

  -- both ends of all links
  abbrev pub ends_from : ℕ → List Entry → List Link
  ends_from n es = flat_map (both_ways meta) (links_from m who n es)

  ends_next : (n : ℕ) (x : Entry) (es : List Entry) → ends_from n (x ∷ es) ≡ flat_map (ends_of meta) (at n x) ++ ends_from (suc n) es
  ends_next n x es =
      flat_map-append (both_ways meta) (links_at m who (record { 0 = n }) x) (links_from m who (suc n) es)
      ∙ ap (λ l. l ++ ends_from (suc n) es) (flat_flat (both_ways meta) links_of (at n x))

  all_apart : (n : ℕ) (before : List Link) (es : List Entry) → reference_fault_from m who n before es ≡ None → has_clash meta before (ends_from n es) ≡ false
  all_apart n before [] h = refl
  all_apart n before (x ∷ es) h =
      let a = past_fault (references_fault m before x.part (at n x)) x.tag.place (reference_fault_from m who (suc n) (before ++ flat_map (ends_of meta) (at n x)) es) h in
      ap (has_clash meta before) (ends_next n x es)
      ∙ clash_append before (flat_map (ends_of meta) (at n x)) (ends_from (suc n) es) (ends_apart before (at n x) (good_references before x.part (at n x) a.0).ends)
      (all_apart (suc n) (before ++ flat_map (ends_of meta) (at n x)) es a.1)

  pub no_clash : reference_fault meta file ≡ None → has_clash meta [] (flat_map (both_ways meta) (links meta file)) ≡ false
  no_clash h = all_apart 0 [] (objects file) h

  -- ## Links of a file without faults

  module _ (none : fault_from meta [] file ≡ None) (regular : AreRegular meta [] file) (valid : IsMetamodel meta) (right : reference_fault meta file ≡ None) where
    pub record IsLink (l : Link) : Type 0 where
      pub from : HasOne meta file none regular valid l.from l.by
      pub to : IsOne meta file none regular valid l.to
      pub refers_it : refers meta l.by ≡ true
      pub apart : contains meta l.by ≡ false
      pub fits : (d : ClassId) → class_said meta l.by ≡ Some d → is_sub meta to.0 d ≡ true

    unfit : (f : FeatId) (p : ObjId) (c : ClassId) (d : ClassId) → IsThere meta file p c → class_said meta f ≡ Some d → is_unfit m f p ≡ false → is_sub meta c d ≡ true
    unfit f p c d t s h = not-false (is_sub meta c d) (sym (
        ap (λ x. option_map_or (λ c. option_map_or (λ d. not (is_sub meta c d)) (class_said meta f) false) (option_map (λ object. object.class) x) false) (object_there meta file (drafted_slot meta file) p c t)
        ∙ ap (λ x. option_map_or (λ d. not (is_sub meta c d)) x false) s) ∙ h)

    pub is_link : (l : Link) → Contains (links meta file) l → IsLink l
    is_link l among =
        let x = link_in 0 (objects file) l among in
        let a = x.it in
        let o : ObjId = record { 0 = 0 + x.place } in
        let here : l.from.0 ≡ x.place = (let z : 0 + x.place ≡ x.place = omega arith in ap (λ (p : ObjId). p.0) a.from ∙ z) in
        let there : slice_get (objects file) l.from.0 ≡ Some x.entry = ap (λ k. slice_get (objects file) k) here ∙ x.there in
        let s = seen_by x.entry a.feature.0 l.by a.feature.1 in
        let g = good_entry 0 [] (objects file) x.place x.entry right x.there in
        let named : object_named (names m who a.word) ≡ Some l.to = ap object_named a.means ∙ a.named in
        let one = named_one meta file none regular valid a.word l.to named in
        let test = no_wrong x.entry.part BadType (references_at m who o x.entry) g.1.types a.reference a.token a.told a.of in
        record {
          from = record { class = s.0; it = record { entry = x.entry; there = there; class = s.1 }; sees = s.2 };
          to = one;
          refers_it = a.refers_it;
          apart = a.apart;
          fits = λ d h. unfit l.by l.to one.0 d one.1 h (ap (λ f. is_wrong m BadType x.entry.part f (One l.to)) a.by ∙ ap (is_wrong m BadType x.entry.part a.reference.feature) (sym (one_is a.token.named l.to a.named)) ∙ test);
        }
      where
        seen_by : (e : Entry) (a : Attribute) (f : FeatId) → attribute_feature meta e.part a ≡ Some f → (c : ClassId) × (own_class e.part ≡ Some c) × Contains (features meta.classes c) f
        seen_by e a f h = by (bytes_eq a.space []) (own_class e.part) refl h
          where
            by : (b : Bool) (x : Option ClassId) → own_class e.part ≡ x → (if b then then_ x (λ c. feature_named meta c a.name) else None) ≡ Some f → (c : ClassId) × (own_class e.part ≡ Some c) × Contains (features meta.classes c) f
            by true None i h = absurd (none-some f h)
            by true (Some c) i h = (c, i, found_in meta (λ f. bytes_eq (name_of meta.features f) a.name) (features meta.classes c) f h)
            by false x i h = absurd (none-some f h)
