-- Objects each once: those that differ stay, and what is among them adds nothing behind them.
use Rattle.std.proofs.Common.{◌≡◌, List, [], ◌∷◌, ◌++◌, refl, sym, ap, ◌∙◌, ⊎_elim, append-nil}
use Rattle.std.specs.Prelude.{◌==◌, ◌&&◌, not, Bool, true, false, Contains, filter}
use Rattle.std.proofs.lemmas.Bool.{eq-eqb, ne_eqb}
use Rattle.std.proofs.lemmas.List.Elements.{filter-append}
use Rattle.atl_base.specs.declared.numbers.ObjId.{ObjId}
use Rattle.ecore_meta.specs.Valid.{AllDiffer}
use Rattle.model_store.proofs.Slots.{same_object}
use Rattle.model_store.proofs.Thinned.{Contains_cases, Contains_none}
use Rattle.xmi_links.specs.ModelOf.{distinct}
use Rattle.xmi_round_trip.proofs.Lists.{all_pass, none_pass, filter_twice}
use Rattle.xmi_round_trip.proofs.Differing.{first_apart, differ_tail}
use Rattle.xmi_links.proofs.FaultlessEnds.{in_distinct}

-- not this one
abbrev others : ObjId → ObjId → Bool
others o p = not (p.0 == o.0)

-- none of these
abbrev beside : List ObjId → ObjId → Bool
beside [] p = true
beside (o ∷ os) p = others o p && beside os p

-- those that come behind others, without them
distinct_append : (os ps : List ObjId) → distinct (os ++ ps) ≡ distinct os ++ filter (beside os) (distinct ps)
distinct_append [] ps = sym (all_pass (λ p. true) (distinct ps) (λ p m. refl))
distinct_append (o ∷ os) ps = ap (λ l. o ∷ l) (
    ap (filter (others o)) (distinct_append os ps)
    ∙ filter-append (others o) (distinct os) (filter (beside os) (distinct ps))
    ∙ ap (λ l. filter (others o) (distinct os) ++ l) (filter_twice (others o) (beside os) (distinct ps))
    )

-- those that differ stay
distinct_same : (os : List ObjId) → AllDiffer os → distinct os ≡ os
distinct_same [] h = refl
distinct_same (o ∷ os) h = ap (λ l. o ∷ l) (
    ap (filter (others o)) (distinct_same os (differ_tail o os h))
    ∙ all_pass (others o) os (λ p m. ap not (ne_eqb p.0 o.0 (λ e. first_apart o os h p m (same_object o p (sym e)))))
    )

-- what is among these is none beside them
not_beside : (os : List ObjId) (p : ObjId) → Contains os p → beside os p ≡ false
not_beside [] p m = absurd (Contains_none p m)
not_beside (o ∷ os) p m = ⊎_elim
    (λ (s : o ≡ p). ap (λ b. not b && beside os p) (eq-eqb p.0 o.0 (ap (λ (q : ObjId). q.0) (sym s))))
    (λ (g : Contains os p). ap (λ b. others o p && b) (not_beside os p g) ∙ none (others o p))
    (Contains_cases o p os m)
  where
    none : (b : Bool) → (b && false) ≡ false
    none true = refl
    none false = refl

-- where all behind are among the first
pub distinct_first : (os ps : List ObjId) → AllDiffer os → ((p : ObjId) → Contains ps p → Contains os p) → distinct (os ++ ps) ≡ os
distinct_first os ps h among =
    distinct_append os ps
    ∙ ap (λ l. distinct os ++ l) (none_pass (beside os) (distinct ps) (λ p m. not_beside os p (among p (in_distinct ps p m))))
    ∙ append-nil (distinct os)
    ∙ distinct_same os h
