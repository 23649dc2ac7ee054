-- Links that say what stands in the slots of a model give no single end two objects.
use Rattle.std.proofs.Common.{◌≡◌, List, [], ◌∷◌, ◌++◌, refl, sym, ap, ◌∙◌, subst, ⊎_elim, Option, Some, None}
use Rattle.std.specs.Prelude.{◌==◌, ◌&&◌, not, Bool, true, false, Contains, IsSome}
use Rattle.std.specs.Option.{option_map_or}
use Rattle.std.specs.List.{list_any}
use Rattle.std.proofs.lemmas.Bool.{eq-eqb, eqb-true, or_from, true≢false}
use Rattle.std.proofs.lemmas.List.Elements.{Contains-append_cases, Contains-get_or}
use Rattle.std.proofs.lemmas.List.Folds.{list_any_none}
use Rattle.atl_base.specs.declared.numbers.FeatId.{FeatId}
use Rattle.atl_base.specs.declared.numbers.ObjId.{ObjId}
use Rattle.ecore_meta.specs.Inheritance.{name_of}
use Rattle.model_store.specs.Contents.{Contents, is_many, object_at, opposite, refers}
use Rattle.model_store.specs.Valid.{IsValid, Refers}
use Rattle.model_store.proofs.Slots.{same_feature, same_object}
use Rattle.model_store.proofs.Thinned.{Contains_cases, Contains_first, Contains_later}
use Rattle.model_store.proofs.Wired.{opposite_refers}
use Rattle.xmi_models.specs.declared.fault.Kind.TheVariants.{TwoEnds}
use Rattle.xmi_models.specs.Faults.{when}
use Rattle.xmi_links.specs.References.{Link, Reference, both_ways, clashes, ends_fault, ends_of, has_clash, link}
use Rattle.xmi_round_trip.specs.Renumbered.{number}
use Rattle.xmi_round_trip.proofs.Filed.{IsOrdered}
use Rattle.xmi_round_trip.proofs.Targets.{one_target}
use Rattle.xmi_round_trip.proofs.Lists.{only}

-- a link, by numbers, from an object to what stands in its slot
pub record IsFact (m : Contents) (l : Link) : Type 0 where
  pub from : ObjId
  pub to : ObjId
  pub from_is : l.from ≡ number m from
  pub to_is : l.to ≡ number m to
  pub from_there : IsSome (object_at m.objects from)
  pub to_there : IsSome (object_at m.objects to)
  pub refers_it : refers m.meta l.by ≡ true
  pub it : Refers m from l.by to

-- each of these links says what stands in a slot
abbrev pub AreFacts : Contents → List Link → Type 0
AreFacts m ls = (l : Link) → Contains ls l → IsFact m l

-- so does each of two such lists together
pub facts_append : (m : Contents) (ls ks : List Link) → AreFacts m ls → AreFacts m ks → AreFacts m (ls ++ ks)
facts_append m ls ks a b l h = ⊎_elim (λ (i : Contains ls l). a l i) (λ (i : Contains ks l). b l i) (Contains-append_cases ls ks l h)

module _ (m : Contents) (valid : IsValid m) (known : IsOrdered m) where
  -- ## The other way

  -- a link turned round, by the opposite, says what stands in a slot too
  other_way : (l : Link) (g : FeatId) → opposite m.meta l.by ≡ Some g → IsFact m l → IsFact m (link l.to g l.from)
  other_way l g h a = record {
    from = a.to;
    to = a.from;
    from_is = a.to_is;
    to_is = a.from_is;
    from_there = a.to_there;
    to_there = a.from_there;
    refers_it = opposite_refers m.meta valid.metamodel l.by g h;
    it = valid.model.opposites a.from a.to l.by g h a.it;
  }

  -- so a link does both ways
  pub both_facts : (l : Link) → IsFact m l → AreFacts m (both_ways m.meta l)
  both_facts l a k h = on (opposite m.meta l.by) refl h
    where
      on : (x : Option FeatId) → opposite m.meta l.by ≡ x → Contains (l ∷ option_map_or (λ g. link l.to g l.from ∷ []) x []) k → IsFact m k
      on None e h = subst (IsFact m) (only l k h) a
      on (Some g) e h = ⊎_elim
          (λ (s : l ≡ k). subst (IsFact m) s a)
          (λ (n : Contains (link l.to g l.from ∷ []) k). subst (IsFact m) (only (link l.to g l.from) k n) (other_way l g e a))
          (Contains_cases l k (link l.to g l.from ∷ []) h)

  -- ## No clashes

  -- two links from one end that takes one object lead to one object
  same_to : (l k : Link) (a : IsFact m l) (b : IsFact m k) → (k.from.0 == l.from.0) ≡ true → (k.by.0 == l.by.0) ≡ true → is_many m.meta l.by ≡ false → (k.to.0 == l.to.0) ≡ true
  same_to l k a b i j single =
      let f : k.from ≡ l.from = same_object k.from l.from (eqb-true k.from.0 l.from.0 i) in
      let g : k.by ≡ l.by = same_feature k.by l.by (eqb-true k.by.0 l.by.0 j) in
      let o : b.from ≡ a.from = known.apart b.from a.from b.from_there a.from_there (sym b.from_is ∙ f ∙ a.from_is) in
      let r : Refers m a.from l.by b.to = subst (λ o. Refers m o l.by b.to) o (subst (λ h. Refers m b.from h b.to) g b.it) in
      let t : b.to ≡ a.to = one_target m valid.model a.from l.by a.refers_it single b.to a.to r a.it in
      eq-eqb k.to.0 l.to.0 (ap (λ (q : ObjId). q.0) (b.to_is ∙ ap (number m) t ∙ sym a.to_is))

  -- no two of these links clash
  clash_not : (l k : Link) → IsFact m l → IsFact m k → clashes m.meta l k ≡ false
  clash_not l k a b = on (k.from.0 == l.from.0) refl (k.by.0 == l.by.0) refl (is_many m.meta l.by) refl (k.to.0 == l.to.0) refl
    where
      on : (p : Bool) → (k.from.0 == l.from.0) ≡ p → (q : Bool) → (k.by.0 == l.by.0) ≡ q → (s : Bool) → is_many m.meta l.by ≡ s → (t : Bool) → (k.to.0 == l.to.0) ≡ t → (p && q && not s && not t) ≡ false
      on true i true j false h false e = absurd (true≢false (sym (same_to l k a b i j h) ∙ e))
      on true i true j false h true e = refl
      on true i true j true h t e = refl
      on true i false j s h t e = refl
      on false i q j s h t e = refl

  -- so none of them clashes with one before it
  no_clash : (before ls : List Link) → AreFacts m before → AreFacts m ls → has_clash m.meta before ls ≡ false
  no_clash before [] a b = refl
  no_clash before (l ∷ ls) a b =
      let here : IsFact m l = b l (Contains_first l ls) in
      or_from (list_any (clashes m.meta l) before) (has_clash m.meta (before ++ (l ∷ [])) ls)
      (list_any_none (clashes m.meta l) before (λ i d h. clash_not l _ here (a _ (Contains-get_or before i d h))))
      (no_clash (before ++ (l ∷ [])) ls
      (facts_append m before (l ∷ []) a (λ k h. subst (IsFact m) (only l k h) here))
      (λ k h. b k (Contains_later l k ls h)))

  -- and no reference gives a single end a second object
  pub no_ends_fault : (before : List Link) (rs : List Reference) → AreFacts m before → ((r : Reference) → Contains rs r → AreFacts m (ends_of m.meta r)) → ends_fault m.meta before rs ≡ None
  no_ends_fault before [] a b = refl
  no_ends_fault before (r ∷ rs) a b =
      let here : AreFacts m (ends_of m.meta r) = b r (Contains_first r rs) in
      ap (λ c. option_map_or Some (when c TwoEnds (name_of m.meta.features r.feature)) (ends_fault m.meta (before ++ ends_of m.meta r) rs)) (no_clash before (ends_of m.meta r) a here)
      ∙ no_ends_fault (before ++ ends_of m.meta r) rs (facts_append m before (ends_of m.meta r) a here) (λ s h. b s (Contains_later r s rs h))
