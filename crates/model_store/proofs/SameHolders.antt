-- In a model an object has the container that a containment refers from, so it keeps it while the containments stay.
use Rattle.std.proofs.Common.{◌≡◌, ◌≢◌, ◌+◌, ◌<◌, ◌≤◌, true, false, List, [], ◌∷◌, ◌++◌, length, refl, sym, ap, ◌∙◌, subst, ⊎_elim, arith, Option, Some, None, Ok, Err}
use Rattle.std.specs.Prelude.{◌↔◌, option_map, Contains, if◌then◌else◌}
use Rattle.std.proofs.lemmas.Bool.{cases_lt, true≢false}
use Rattle.std.proofs.lemmas.List.{get_or_append_left, get_or_push, length_push}
use Rattle.atl_base.specs.declared.numbers.ClassId.{ClassId}
use Rattle.atl_base.specs.declared.numbers.FeatId.{FeatId}
use Rattle.atl_base.specs.declared.numbers.ObjId.{ObjId}
use Rattle.ecore_meta.specs.declared.parts.Parts.{Parts}
use Rattle.ecore_meta.specs.Valid.{IsMetamodel}
use Rattle.model_store.specs.declared.parts.Cellv.{Cellv}
use Rattle.model_store.specs.declared.parts.Cellv.TheVariants.{Obj}
use Rattle.model_store.specs.Contents.{Contents, contains, refers, slot, set_slot, holder}
use Rattle.model_store.specs.HolderTables.{AreHolders}
use Rattle.model_store.specs.Valid.{IsConcrete, IsValid, Fits, HasSlot, Refers}
use Rattle.model_store.specs.declared.refusal.StoreRefusal.{StoreRefusal}
use Rattle.model_store.specs.declared.refusal.StoreRefusal.TheVariants.{NoObject, NoFeature, BadType, Full, Memory}
use Rattle.model_store.specs.Writes.{created, fresh, write, written, rewired, Creates, Writes}
use Rattle.model_store.proofs.Added.{contains_refers}
use Rattle.model_store.proofs.Created.{referred_before, referred_to, same_slot, slot_of}
use Rattle.model_store.proofs.CreatedModel.{seen_once, created_is_model}
use Rattle.model_store.proofs.Holding.{holder_refers, uncontained}
use Rattle.model_store.proofs.Keeping.{write_keeps}
use Rattle.model_store.proofs.Kept.{write_keeps_valid}
use Rattle.model_store.proofs.ReferenceWrites.{write_is_model}
use Rattle.model_store.proofs.Slots.{at_of, after_is, slot_other}
use Rattle.model_store.proofs.Updates.{found_within}

module _ (m : Contents) (valid : IsValid m) where
  pub by_holder : (p r : ObjId) (h : FeatId) → holder m p ≡ Some (r, h) → (contains m.meta h ≡ true) × Refers m r h p
  by_holder p r h e = holder_refers m (seen_once m.meta valid.metamodel) valid.model.shaped p r h e

  pub holder_is : (p r : ObjId) (h : FeatId) → contains m.meta h ≡ true → Refers m r h p → holder m p ≡ Some (r, h)
  holder_is p r h c x = on (holder m p) refl
    where
      on : (y : Option (ObjId × FeatId)) → holder m p ≡ y → holder m p ≡ Some (r, h)
      on None e = absurd (uncontained m p (ap (option_map (λ at. at.0)) e) r h c x)
      on (Some at) e =
          let k = by_holder p at.0 at.1 e in
          let same = valid.model.contained_once at.0 r p at.1 h k.0 c k.1 x in
          e ∙ ap (λ o. Some (o, at.1)) same.0 ∙ ap (λ g. Some (r, g)) same.1

  pub holder_none : (p : ObjId) → ((r : ObjId) (h : FeatId) → contains m.meta h ≡ true → Refers m r h p → ⊥) → holder m p ≡ None
  holder_none p none = on (holder m p) refl
    where
      on : (y : Option (ObjId × FeatId)) → holder m p ≡ y → holder m p ≡ None
      on None e = e
      on (Some at) e = let k = by_holder p at.0 at.1 e in absurd (none at.0 at.1 k.0 k.1)

  -- what is no object has no container
  pub no_holder : (p : ObjId) → length m.objects ≤ p.0 → holder m p ≡ None
  no_holder p l = holder_none p (λ r h c x. let y = referred_to m valid.model r h p x in let low = found_within m.objects p.0 y.0 y.1 in let no : ⊥ = omega (arith, low, l) in no)

module _ (m n : Contents) (valid : IsValid m) (still : IsValid n) (meta : n.meta ≡ m.meta) (p : ObjId) where
  pub same_holder : ((r : ObjId) (h : FeatId) → contains m.meta h ≡ true → Refers m r h p ↔ Refers n r h p) → holder n p ≡ holder m p
  same_holder same = on (holder m p) refl
    where
      there : (h : FeatId) → contains m.meta h ≡ true → contains n.meta h ≡ true
      there h c = ap (λ (z : Parts). contains z h) meta ∙ c

      back : (h : FeatId) → contains n.meta h ≡ true → contains m.meta h ≡ true
      back h c = ap (λ (z : Parts). contains z h) (sym meta) ∙ c

      on : (y : Option (ObjId × FeatId)) → holder m p ≡ y → holder n p ≡ y
      on None e = holder_none n still p (λ r h c x. uncontained m p (ap (option_map (λ at. at.0)) e) r h (back h c) ((same r h (back h c)).1 x))
      on (Some at) e = let k = by_holder m valid p at.0 at.1 e in holder_is n still p at.0 at.1 (there at.1 k.0) ((same at.0 at.1 k.0).0 k.1)

-- ## A new object

module _ (m : Contents) (valid : IsValid m) (class : ClassId) (within : class.0 < length m.meta.classes) (concrete : IsConcrete m.meta class) where
  abbrev next : Contents
  next = created m class

  pub next_valid : IsValid next
  next_valid = record { metamodel = valid.metamodel; model = created_is_model m valid.metamodel valid.model class within concrete }

  next_same : (p : ObjId) → holder next p ≡ holder m p
  next_same p = same_holder m next valid next_valid refl p (λ r h c. (
    λ x. subst (λ cells. Contains cells (Obj p)) (sym (same_slot m valid.model class within r h (from r h p x))) x,
    λ x. (referred_before m valid.model class within r h p x).1,
  ))
    where
      from : (r : ObjId) (h : FeatId) (p : ObjId) → Refers m r h p → r.0 ≢ length m.objects
      from r h p x e = let a = at_of m r h (slot_of m r h (Obj p) x) in let low = found_within m.objects r.0 a.object a.there in let no : ⊥ = omega (arith, low, e) in no

  pub holders_push : (holders : List (Option (ObjId × FeatId))) → AreHolders m holders → AreHolders next (holders ++ None ∷ [])
  holders_push holders h = record {
    size = length_push holders None ∙ ap (λ k. k + 1) h.size ∙ sym (length_push m.objects (Some (fresh m.meta class)));
    each = λ k l. ⊎_elim
        (λ (old : k < length holders). get_or_append_left holders (None ∷ []) None k old ∙ h.each k old ∙ sym (next_same (record { 0 = k })))
        (λ (new : length holders ≤ k).
        let is : length holders ≡ k = omega (arith, length_push holders None, l, new) in
        get_or_push holders None None k is ∙ sym (next_same (record { 0 = k }) ∙ no_holder m valid (record { 0 = k }) (omega (arith, h.size, is))))
        (cases_lt k (length holders));
  }

-- ## A write to an attribute

module _ (m : Contents) (valid : IsValid m) (o : ObjId) (f : FeatId) (values : List Cellv) (has : HasSlot m o f) (fit : Fits m f values) (attribute : refers m.meta f ≡ false) where
  abbrev after : Contents
  after = write m o f values

  cells : List Cellv
  cells = written m.meta f (slot m o f) values

  after_slots : after ≡ set_slot m o f cells
  unfolding cells
  after_slots = ap (λ b. if b then rewired o f values m else set_slot m o f (written m.meta f (slot m o f) values)) attribute

  pub after_valid : IsValid after
  after_valid = record {
    metamodel = subst IsMetamodel (sym (write_keeps m o f values).meta) valid.metamodel;
    model = write_is_model m valid.metamodel valid.model o f values has fit;
  }

  other_slot : (r : ObjId) (h : FeatId) → contains m.meta h ≡ true → slot after r h ≡ slot m r h
  other_slot r h c =
      let a = at_of m o f has in
      ap (λ (n : Contents). slot n r h) (after_slots ∙ after_is m valid.model.shaped o f cells a)
      ∙ slot_other m valid.model.shaped o f cells a r h (λ _ e. true≢false (sym (contains_refers m.meta h c) ∙ ap (refers m.meta) e ∙ attribute))

  pub holders_stay : (holders : List (Option (ObjId × FeatId))) → AreHolders m holders → AreHolders after holders
  holders_stay holders h = record {
    size = h.size ∙ sym (write_keeps m o f values).numbers;
    each = λ k l. h.each k l ∙ sym (same_holder m after valid after_valid (write_keeps m o f values).meta (record { 0 = k }) (λ r g c. (
      λ x. subst (λ cells. Contains cells (Obj (record { 0 = k }))) (sym (other_slot r g c)) x,
      λ x. subst (λ cells. Contains cells (Obj (record { 0 = k }))) (other_slot r g c) x,
    )));
  }

-- ## What the calls leave

module _ (m after : Contents) where
  pub create_err : (class : ClassId) (e : StoreRefusal) → Creates m class (Err e) after → after ≡ m
  create_err class Full h = h.1
  create_err class Memory h = h
  create_err class NoObject h = absurd h
  create_err class NoFeature h = absurd h
  create_err class BadType h = absurd h

  pub write_err : (o : ObjId) (f : FeatId) (values : List Cellv) (e : StoreRefusal) → Writes m o f values (Err e) after → after ≡ m
  write_err o f values NoObject h = h.1
  write_err o f values NoFeature h = h.1
  write_err o f values BadType h = h.2
  write_err o f values Memory h = h
  write_err o f values Full h = absurd h

  module _ (valid : IsValid m) (holders : List (Option (ObjId × FeatId))) (are : AreHolders m holders) where
    -- what is true of a model and of its table
    abbrev pub BothHold : List (Option (ObjId × FeatId)) → Type 0
    BothHold table = IsValid after × AreHolders after table

    pub as_before : after ≡ m → BothHold holders
    as_before e = subst (λ n. IsValid n × AreHolders n holders) (sym e) (valid, are)

    pub create_ok : (class : ClassId) (o : ObjId) → class.0 < length m.meta.classes → IsConcrete m.meta class → Creates m class (Ok o) after → BothHold (holders ++ None ∷ [])
    create_ok class o within concrete h =
        subst (λ n. IsValid n × AreHolders n (holders ++ None ∷ [])) (sym h.2) (next_valid m valid class within concrete, holders_push m valid class within concrete holders are)

    module _ (o : ObjId) (f : FeatId) (values : List Cellv) (done : Unit {0}) (h : Writes m o f values (Ok done) after) where
      pub write_valid : IsValid after
      write_valid = write_keeps_valid m after valid o f values (Ok done) h

      pub write_size : length holders ≡ length after.objects
      write_size = are.size ∙ sym (write_keeps m o f values).numbers ∙ ap (λ (n : Contents). length n.objects) (sym h.2)

      pub write_attribute : refers after.meta f ≡ false → BothHold holders
      write_attribute e =
          let same : refers m.meta f ≡ refers after.meta f = ap (λ (z : Parts). refers z f) (sym (write_keeps m o f values).meta ∙ ap (λ (n : Contents). n.meta) (sym h.2)) in
          (write_valid, subst (λ n. AreHolders n holders) (sym h.2) (holders_stay m valid o f values h.0 h.1 (same ∙ e) holders are))
