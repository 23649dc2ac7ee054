-- The table of containers after a pair of a model was removed, and after one was appended.
use Rattle.std.proofs.Common.{◌≡◌, ◌≢◌, ◌<◌, inl, inr, List, length, refl, sym, ap, ◌∙◌, subst, ⊎_elim, arith, Option, Some, None}
use Rattle.std.specs.Prelude.{Bool, true, false, slice_index_or, slice_set, if◌then◌else◌}
use Rattle.std.specs.Option.{option_map_or}
use Rattle.std.proofs.lemmas.Bool.{cases_eq, true≢false}
use Rattle.std.proofs.lemmas.List.{get_or-set_same, get_or-set_other, length-set}
use Rattle.std.proofs.lemmas.Option.{none-some, same_Some}
use Rattle.atl_base.specs.declared.numbers.FeatId.{FeatId}
use Rattle.atl_base.specs.declared.numbers.ObjId.{ObjId}
use Rattle.ecore_meta.specs.declared.parts.Parts.{Parts}
use Rattle.ecore_meta.specs.Valid.{IsMetamodel}
use Rattle.model_store.specs.declared.parts.Cellv.{Cellv}
use Rattle.model_store.specs.declared.parts.Cellv.TheVariants.{Obj}
use Rattle.model_store.specs.Contents.{Contents, contains, opposite, refers, holder}
use Rattle.model_store.specs.Drafts.{IsReady, without_ends, with_ends}
use Rattle.model_store.specs.HolderTables.{AreHolders}
use Rattle.model_store.specs.Valid.{IsValid, Refers}
use Rattle.model_store.specs.Writes.{unlink, link}
use Rattle.model_store.proofs.Keeping.{unlink_keeps, link_keeps}
use Rattle.model_store.proofs.Linked.{IsWith, MayLink, link_is_model, link_with}
use Rattle.model_store.proofs.Removing.{IsWithout}
use Rattle.model_store.proofs.SameHolders.{holder_is, holder_none, same_holder}
use Rattle.model_store.proofs.Slots.{same_object}
use Rattle.model_store.proofs.Unlinked.{one_contains, unlink_is_model, unlink_without}
use Rattle.model_store.proofs.Wired.{IsEnd}

abbrev Table : Type 0
Table = List (Option (ObjId × FeatId))

module _ (m n : Contents) (holders : Table) (are : AreHolders m holders) (numbers : length n.objects ≡ length m.objects) where
  -- one place of the table is another
  one_place : (x : ObjId) (v : Option (ObjId × FeatId)) → holder n x ≡ v → ((p : ObjId) → p ≢ x → holder n p ≡ holder m p) → AreHolders n (slice_set holders x.0 v)
  one_place x v new same = record {
    size = length-set holders x.0 v ∙ are.size ∙ sym numbers;
    each = λ k l.
        let low : k < length holders = omega (arith, length-set holders x.0 v, l) in
        ⊎_elim
        (λ (e : k ≡ x.0).
        let is : x ≡ record { 0 = k } = same_object x (record { 0 = k }) (sym e) in
        ap (λ i. slice_index_or (slice_set holders x.0 v) i None) e ∙ get_or-set_same holders x.0 v None (omega (arith, low, e)) ∙ sym new ∙ ap (holder n) is)
        (λ (d : k ≢ x.0). get_or-set_other holders x.0 k v None d ∙ are.each k low ∙ sym (same (record { 0 = k }) (λ e. d (ap (λ z. z.0) e))))
        (cases_eq k x.0);
  }

  -- or none is
  no_place : ((p : ObjId) → holder n p ≡ holder m p) → AreHolders n holders
  no_place same = record { size = are.size ∙ sym numbers; each = λ k l. are.each k l ∙ sym (same (record { 0 = k })) }

module _ (m : Contents) (holders : Table) (ready : IsReady m holders) (o : ObjId) (f : FeatId) (q : ObjId) where
  abbrev Ends : ObjId → FeatId → ObjId → Type 0
  Ends = IsEnd m.meta o f q

  -- an end that contains is that of q in o.f, or that of o in its opposite slot
  not_by_first : contains m.meta f ≡ true → (p : ObjId) → p ≢ q → (s : ObjId) (k : FeatId) → contains m.meta k ≡ true → Ends s k p → ⊥
  not_by_first i p d s k c (inl t) = d t.2
  not_by_first i p d s k c (inr t) = one_contains m.meta ready.valid.metamodel f t.0 t.1 i (ap (contains m.meta) (sym t.2.1) ∙ c)

  not_by_second : contains m.meta f ≡ false → (p : ObjId) → p ≢ o → (s : ObjId) (k : FeatId) → contains m.meta k ≡ true → Ends s k p → ⊥
  not_by_second i p d s k c (inl t) = true≢false (sym c ∙ ap (contains m.meta) t.1 ∙ i)
  not_by_second i p d s k c (inr t) = d t.2.2

  not_at_all : contains m.meta f ≡ false → ((g : FeatId) → opposite m.meta f ≡ Some g → contains m.meta g ≡ false) → (p : ObjId) (s : ObjId) (k : FeatId) → contains m.meta k ≡ true → Ends s k p → ⊥
  not_at_all i j p s k c (inl t) = true≢false (sym c ∙ ap (contains m.meta) t.1 ∙ i)
  not_at_all i j p s k c (inr t) = true≢false (sym c ∙ ap (contains m.meta) t.2.1 ∙ j t.0 t.1)

  -- ## A pair less

  module _ (r : refers m.meta f ≡ true) (there : Refers m o f q) where
    abbrev less : Contents
    less = unlink o f q m

    without : IsWithout m less Ends
    without = unlink_without m ready.valid.metamodel ready.valid.model o f q r there

    less_valid : IsValid less
    less_valid = record { metamodel = subst IsMetamodel (sym without.meta) ready.valid.metamodel; model = unlink_is_model m ready.valid.metamodel ready.valid.model o f q r there }

    less_kept : (p : ObjId) → ((s : ObjId) (k : FeatId) → contains m.meta k ≡ true → Ends s k p → ⊥) → holder less p ≡ holder m p
    less_kept p none = same_holder m less ready.valid less_valid without.meta p (λ s k c. (λ x. without.kept s k p x (none s k c), λ x. without.fewer s k (Obj p) x))

    less_gone : (p s : ObjId) (k : FeatId) → contains m.meta k ≡ true → Refers m s k p → Ends s k p → holder less p ≡ None
    less_gone p s k c x e = holder_none less less_valid p (λ t h d y.
        let d' : contains m.meta h ≡ true = ap (λ (z : Parts). contains z h) (sym without.meta) ∙ d in
        let same = ready.valid.model.contained_once s t p k h c d' x (without.fewer t h (Obj p) y) in
        without.gone t h p y (subst (λ a. Ends a h p) same.0 (subst (λ b. Ends s b p) same.1 e)))

    numbers_less : length less.objects ≡ length m.objects
    numbers_less = (unlink_keeps o f q m).numbers

    less_table : (a : Bool) → contains m.meta f ≡ a → (b : Option FeatId) → opposite m.meta f ≡ b
        → AreHolders less (if a then slice_set holders q.0 None else option_map_or (λ g. if contains m.meta g then slice_set holders o.0 None else holders) b holders)
    less_table true i b j = one_place m less holders ready.table numbers_less q None (less_gone q o f i there (inl (refl, refl, refl))) (λ p d. less_kept p (not_by_first i p d))
    less_table false i None j = no_place m less holders ready.table numbers_less (λ p. less_kept p (not_at_all i (λ g e. absurd (none-some g (sym j ∙ e))) p))
    less_table false i (Some g) j = on (contains m.meta g) refl
      where
        on : (c : Bool) → contains m.meta g ≡ c → AreHolders less (if c then slice_set holders o.0 None else holders)
        on true e = one_place m less holders ready.table numbers_less o None (less_gone o q g e (ready.valid.model.opposites o q f g j there) (inr (g, j, (refl, refl, refl)))) (λ p d. less_kept p (not_by_second i p d))
        on false e = no_place m less holders ready.table numbers_less (λ p. less_kept p (not_at_all i (λ h k. ap (contains m.meta) (same_Some h g (sym k ∙ j)) ∙ e) p))

    pub unlink_ready : IsReady less (without_ends m.meta o f q holders)
    unlink_ready = record { valid = less_valid; table = less_table (contains m.meta f) refl (opposite m.meta f) refl }

  -- ## A pair more

  module _ (may : MayLink m o f q) where
    abbrev more : Contents
    more = link o f q m

    enlarged : IsWith m more Ends
    enlarged = link_with m ready.valid.metamodel ready.valid.model o f q may

    more_valid : IsValid more
    more_valid = record { metamodel = subst IsMetamodel (sym enlarged.meta) ready.valid.metamodel; model = link_is_model m ready.valid.metamodel ready.valid.model o f q may }

    more_kept : (p : ObjId) → ((s : ObjId) (k : FeatId) → contains m.meta k ≡ true → Ends s k p → ⊥) → holder more p ≡ holder m p
    more_kept p none = same_holder m more ready.valid more_valid enlarged.meta p (λ s k c. (
      λ x. enlarged.more s k (Obj p) x,
      λ x. ⊎_elim (λ y. y) (λ y. absurd (none s k c (subst (Ends s k) (object_of y.0 p y.1) y.2))) (enlarged.known s k (Obj p) x),
    ))
      where
        object_of : (a b : ObjId) → Obj a ≡ Obj b → a ≡ b
        object_of a b e = ap number e
          where
            number : Cellv → ObjId
            number (Obj x) = x
            number c = a

    more_held : (p s : ObjId) (k : FeatId) → contains m.meta k ≡ true → Ends s k p → holder more p ≡ Some (s, k)
    more_held p s k c e = holder_is more more_valid p s k (ap (λ (z : Parts). contains z k) enlarged.meta ∙ c) (enlarged.new s k p e)

    numbers_more : length more.objects ≡ length m.objects
    numbers_more = (link_keeps o f q m).numbers

    more_table : (a : Bool) → contains m.meta f ≡ a → (b : Option FeatId) → opposite m.meta f ≡ b
        → AreHolders more (if a then slice_set holders q.0 (Some (o, f)) else option_map_or (λ g. if contains m.meta g then slice_set holders o.0 (Some (q, g)) else holders) b holders)
    more_table true i b j = one_place m more holders ready.table numbers_more q (Some (o, f)) (more_held q o f i (inl (refl, refl, refl))) (λ p d. more_kept p (not_by_first i p d))
    more_table false i None j = no_place m more holders ready.table numbers_more (λ p. more_kept p (not_at_all i (λ g e. absurd (none-some g (sym j ∙ e))) p))
    more_table false i (Some g) j = on (contains m.meta g) refl
      where
        on : (c : Bool) → contains m.meta g ≡ c → AreHolders more (if c then slice_set holders o.0 (Some (q, g)) else holders)
        on true e = one_place m more holders ready.table numbers_more o (Some (q, g)) (more_held o q g e (inr (g, j, (refl, refl, refl)))) (λ p d. more_kept p (not_by_second i p d))
        on false e = no_place m more holders ready.table numbers_more (λ p. more_kept p (not_at_all i (λ h k. ap (contains m.meta) (same_Some h g (sym k ∙ j)) ∙ e) p))

    pub link_ready : IsReady more (with_ends m.meta o f q holders)
    link_ready = record { valid = more_valid; table = more_table (contains m.meta f) refl (opposite m.meta f) refl }
