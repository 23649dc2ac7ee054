-- References of one element more: its fault, or the links and ends that it adds.
use Rattle.std.proofs.Common.{◌≡◌, ℕ, suc, ◌+◌, ◌++◌, List, ◌∷◌, refl, sym, ap, ◌∙◌, append_assoc, arith}
use Rattle.std.specs.Prelude.{Bool, true, false, flat_map, Option, Some, None, if◌then◌else◌}
use Rattle.std.specs.Option.{option_map_or}
use Rattle.atl_base.specs.declared.numbers.ObjId.{ObjId}
use Rattle.atl_base.specs.declared.place.Place.{Place}
use Rattle.model_store.specs.Contents.{Contents}
use Rattle.xmi_models.specs.Outline.{Entry, is_object, objects_in}
use Rattle.xmi_models.specs.Faults.{Fault, objects}
use Rattle.xmi_links.specs.References.{Link, ends_of, links_at, links_from, reference_fault_from, references_at, references_fault}
use Rattle.xmi_links.proofs.Counting.{one_more}

module _ (m : Contents) (who : List ℕ → List ObjId) (before : List Link) (n : ℕ) (e : Entry) (rest : List Entry) where
  abbrev pub here : ObjId
  here = record { 0 = n }

  abbrev pub next : ℕ
  next = if is_object e.part then suc n else n

  abbrev pub after : List Link
  after = before ++ flat_map (ends_of m.meta) (references_at m who here e)

  abbrev says : Fault → Option (Fault × Place)
  says f = Some (f, e.tag.place)

  module _ (is : true ≡ is_object e.part) where
    next_is : suc n ≡ next
    next_is = ap (λ b. if b then suc n else n) is

    cut : reference_fault_from m who n before (objects (e ∷ rest))
        ≡ option_map_or says (references_fault m before e.part (references_at m who here e)) (reference_fault_from m who next after (objects rest))
    cut =
        ap (reference_fault_from m who n before) (one_more e rest is)
        ∙ ap (λ k. option_map_or says (references_fault m before e.part (references_at m who here e)) (reference_fault_from m who k after (objects rest))) next_is

    pub fault_here : (f : Fault) → Some f ≡ references_fault m before e.part (references_at m who here e) → reference_fault_from m who n before (objects (e ∷ rest)) ≡ Some (f, e.tag.place)
    fault_here f h = cut ∙ ap (λ r. option_map_or says r (reference_fault_from m who next after (objects rest))) (sym h)

    pub none_here : None ≡ references_fault m before e.part (references_at m who here e) → reference_fault_from m who n before (objects (e ∷ rest)) ≡ reference_fault_from m who next after (objects rest)
    none_here h = cut ∙ ap (λ r. option_map_or says r (reference_fault_from m who next after (objects rest))) (sym h)

    pub links_here : (old new : List Link) → new ≡ old ++ links_at m who here e → new ++ links_from m who next (objects rest) ≡ old ++ links_from m who n (objects (e ∷ rest))
    links_here old new h =
        ap (λ l. l ++ links_from m who next (objects rest)) h
        ∙ append_assoc old (links_at m who here e) (links_from m who next (objects rest))
        ∙ ap (λ k. old ++ (links_at m who here e ++ links_from m who k (objects rest))) (sym next_is)
        ∙ ap (λ es. old ++ links_from m who n es) (sym (one_more e rest is))

pub counted_next : (n : ℕ) (e : Entry) (rest : List Entry) → (if is_object e.part then suc n else n) + objects_in rest ≡ n + objects_in (e ∷ rest)
counted_next n e rest = by (is_object e.part)
  where
    by : (b : Bool) → (if b then suc n else n) + objects_in rest ≡ n + (if b then suc (objects_in rest) else objects_in rest)
    by true = omega arith
    by false = refl
