-- Tables of what stands above each object: doubled, and read at the end; and the least object of a table.
use Rattle.std.proofs.Common.{◌≡◌, ℕ, zero, suc, ◌+◌, ◌<◌, ◌≤◌, ◌⊎◌, inl, inr, List, [], ◌∷◌, ◌++◌, length, get_or, refl, sym, ap, subst, ◌∙◌, ⊎_elim, arith, Option, Some, None}
use Rattle.std.specs.Prelude.{All, Contains, slice_index_or}
use Rattle.std.specs.Option.{option_and_then}
use Rattle.std.proofs.lemmas.List.{get_or_default}
use Rattle.std.proofs.lemmas.List.Elements.{Contains-append_left, Contains-push, Contains-push_cases}
use Rattle.std.proofs.lemmas.Option.{none-some, same_Some}
use Rattle.atl_base.specs.declared.numbers.ObjId.{ObjId}
use Rattle.ecore_meta.specs.Valid.{IsMetamodel}
use Rattle.model_store.specs.Contents.{Contents, container}
use Rattle.model_store.specs.Order.{IsOnCycle}
use Rattle.model_store.specs.Valid.{IsModel}
use Rattle.xmi_write.specs.Climbs.{climb, AreAbove, AreCyclic, IsLeast}
use Rattle.xmi_write.proofs.Cyclic.{climb_add, climb_within, cycle_within, reached}
use Rattle.xmi_write.proofs.Heights.{high_is_cyclic}
use Rattle.xmi_write.proofs.Tables.{IsTable}

abbrev pub object_no : ℕ → ObjId
object_no n = record { 0 = n }

-- ## What stands above

pub above_one : (m : Contents) (list : List (Option ObjId)) → IsTable None (length m.objects) (λ k. container m (object_no k)) list → AreAbove m 1 list
unfolding climb
above_one m list t = record { size = t.size; each = λ k l. t.each k l ∙ on (container m (object_no k)) }
  where
    on : (x : Option ObjId) → x ≡ option_and_then (climb zero m) x
    on None = refl
    on (Some p) = refl

-- what stands as many again above each
abbrev pub again : List (Option ObjId) → ℕ → Option ObjId
again above k = option_and_then (λ p. slice_index_or above p.0 None) (slice_index_or above k None)

module _ (m : Contents) (valid : IsMetamodel m.meta) (model : IsModel m) (n : ℕ) (above : List (Option ObjId)) (is : AreAbove m n above) where
  pub above_twice : (list : List (Option ObjId)) → IsTable None (length above) (again above) list → AreAbove m (n + n) list
  above_twice list t = record { size = t.size ∙ is.size; each = each }
    where
      each : (k : ℕ) → k < length m.objects → slice_index_or list k None ≡ climb (n + n) m (object_no k)
      each k l =
          t.each k (omega (arith, l, is.size))
          ∙ ap (option_and_then (λ p. slice_index_or above p.0 None)) (is.each k l)
          ∙ on (climb n m (object_no k)) refl
          ∙ sym (climb_add m valid model n n (object_no k))
        where
          on : (x : Option ObjId) → climb n m (object_no k) ≡ x → option_and_then (λ p. slice_index_or above p.0 None) x ≡ option_and_then (climb n m) x
          on None e = refl
          on (Some p) e = is.each p.0 (climb_within m valid model n (object_no k) p l e)

  place_of : (o : ObjId) → Contains above (Some o) → (k : ℕ) × (k < length m.objects) × (climb n m (object_no k) ≡ Some o)
  place_of o h = (h.0, omega (arith, h.1, is.size), sym (is.each h.0 (omega (arith, h.1, is.size))) ∙ get_or_default above h.0 None (Some o) h.1 ∙ h.2)

  among : (o k : ObjId) → k.0 < length m.objects → climb n m k ≡ Some o → Contains above (Some o)
  among o k l e = (k.0, omega (arith, l, is.size), get_or_default above k.0 (Some o) None (omega (arith, l, is.size)) ∙ is.each k.0 l ∙ e)

  whole : (o : ObjId) → IsOnCycle m o → Contains above (Some o)
  whole o h = let k = reached m valid model n o h in among o k.0 (cycle_within m valid model k.0 k.2) k.1

  -- at this height there is nothing but cycles
  pub cyclic_high : length m.objects ≤ n → AreCyclic m above
  cyclic_high high = record {
    sound = λ o h. let k = place_of o h in high_is_cyclic m valid model n (object_no k.0) o high k.1 k.2;
    whole = whole;
  }

  -- and where there is nothing there is no cycle
  pub cyclic_free : All (λ (o : Option ObjId). o ≡ None) above → AreCyclic m above
  cyclic_free none = record {
    sound = λ o h. absurd (none-some o (sym (none h.0 (Some o) h.1) ∙ h.2));
    whole = whole;
  }

-- ## The least

pub least_none : IsLeast [] None
least_none o h = omega (arith, h.1)

-- one object more
pub least_more : (xs : List (Option ObjId)) (a o r : Option ObjId) → IsLeast xs a → IsLeast (a ∷ o ∷ []) r → IsLeast (xs ++ o ∷ []) r
least_more xs a o r h k = on a r h k
  where
    one : (x : Option ObjId) (p : ObjId) → x ≡ Some p → Contains (x ∷ o ∷ []) (Some p)
    one x p e = (0, omega arith, e)

    two : (x : Option ObjId) (p : ObjId) → o ≡ Some p → Contains (x ∷ o ∷ []) (Some p)
    two x p e = (1, omega arith, e)

    either : (x : Option ObjId) (p : ObjId) → Contains (x ∷ o ∷ []) (Some p) → (x ≡ Some p) ⊎ (o ≡ Some p)
    either x p (zero, l, e) = inl e
    either x p (suc zero, l, e) = inr e
    either x p (suc (suc j), l, e) = absurd (omega (arith, l))

    on : (a r : Option ObjId) → IsLeast xs a → IsLeast (a ∷ o ∷ []) r → IsLeast (xs ++ o ∷ []) r
    on None None h k = λ p c. ⊎_elim (h p) (λ (e : o ≡ Some p). k p (two None p e)) (Contains-push_cases xs o (Some p) c)
    on (Some q) None h k = absurd (k q (one (Some q) q refl))
    on None (Some s) h k = (
      ⊎_elim
          (λ (e : None ≡ Some s). absurd (none-some s e))
          (λ (e : o ≡ Some s). subst (Contains (xs ++ o ∷ [])) e (Contains-push xs o))
          (either None s k.0),
      λ p c. ⊎_elim
          (λ (d : Contains xs (Some p)). absurd (h p d))
          (λ (e : o ≡ Some p). k.1 p (two None p e))
          (Contains-push_cases xs o (Some p) c),
    )
    on (Some q) (Some s) h k = (
      ⊎_elim
          (λ (e : Some q ≡ Some s). subst (Contains (xs ++ o ∷ [])) e (Contains-append_left xs (o ∷ []) (Some q) h.0))
          (λ (e : o ≡ Some s). subst (Contains (xs ++ o ∷ [])) e (Contains-push xs o))
          (either (Some q) s k.0),
      λ p c. ⊎_elim
          (λ (d : Contains xs (Some p)). let low : s.0 ≤ q.0 = k.1 q (one (Some q) q refl) in let more : q.0 ≤ p.0 = h.1 p d in omega (arith, low, more))
          (λ (e : o ≡ Some p). k.1 p (two (Some q) p e))
          (Contains-push_cases xs o (Some p) c),
    )
