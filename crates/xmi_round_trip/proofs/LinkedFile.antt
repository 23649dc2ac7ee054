-- The references of a written file: nothing is wrong in them, and they link what stands in the slots of its objects, in preorder.
use Rattle.std.proofs.Common.{◌≡◌, ℕ, suc, List, [], ◌∷◌, ◌++◌, map, refl, sym, ap, ◌∙◌, Option, Some, None}
use Rattle.std.specs.Prelude.{Contains, IsSome, flat_map}
use Rattle.std.specs.Option.{option_map_or}
use Rattle.atl_base.specs.declared.place.Place.{Place}
use Rattle.atl_base.specs.declared.numbers.FeatId.{FeatId}
use Rattle.atl_base.specs.declared.numbers.ObjId.{ObjId}
use Rattle.ecore_meta.specs.Inheritance.{features}
use Rattle.ecore_meta.proofs.Membership.{Contains-from_flat_map}
use Rattle.model_store.specs.declared.parts.Object.{Object}
use Rattle.model_store.specs.Contents.{Contents, object_at}
use Rattle.model_store.specs.Order.{preorder}
use Rattle.model_store.proofs.Thinned.{Contains_first, Contains_later, Contains_none}
use Rattle.xmi_models.specs.Faults.{Fault}
use Rattle.xmi_links.specs.References.{Link, Reference, ends_fault, ends_of, links_at, links_from, links_of, reference_fault_from, references_at, references_fault}
use Rattle.xmi_round_trip.proofs.Filed.{object_entry}
use Rattle.xmi_round_trip.proofs.LinkedEnds.{AreFacts, facts_append, no_ends_fault}
use Rattle.xmi_round_trip.proofs.LinkedLinks.{IsFollowed, slot_links, slot_references}
use Rattle.xmi_round_trip.proofs.LinkedReferences.{drafted, object_references}
use Rattle.xmi_round_trip.proofs.LinkedTokens.{IsSaid, all_linked, ends_said, no_tokens_fault, said_of}
use Rattle.xmi_round_trip.proofs.Lists.{some_there}
use Rattle.xmi_round_trip.proofs.Numbers.{IsFrom, first_from, next_from}

-- ## Objects with their numbers

-- what an object links
abbrev pub object_links : Contents → ObjId → List Link
object_links m o = option_map_or (λ object. flat_map (slot_links m o) (features m.meta.classes object.class)) (object_at m.objects o) []

-- each of these objects is in the model
abbrev AreThere : Contents → List ObjId → Type 0
AreThere m os = (o : ObjId) → Contains os o → IsSome (object_at m.objects o)

module _ (m : Contents) (there : List (Option Object)) (tops : List ObjId) (who : List ℕ → List ObjId) (k : IsFollowed m there tops) where
  -- the model of these objects and roots
  abbrev d : Contents
  d = drafted m there tops who k

  -- the features that are seen in an object's class
  abbrev seen : Object → List FeatId
  seen object = features m.meta.classes object.class

  -- the entries of objects that are numbered from here on link what the objects link
  links_numbered : (n : ℕ) (os : List ObjId) → IsFrom m n os → AreThere m os → links_from d who n (map (object_entry m) os) ≡ flat_map (object_links m) os
  links_numbered n [] a t = refl
  links_numbered n (o ∷ os) a t =
      let x = some_there (object_at m.objects o) (t o (Contains_first o os)) in
      let rest : List Link = links_from d who (suc n) (map (object_entry m) os) in
      ap (λ p. links_at d who p (object_entry m o) ++ rest) (sym (first_from m n o os a))
      ∙ ap (λ rs. flat_map links_of rs ++ rest) (object_references m there tops who k o x.0 x.1)
      ∙ ap (λ l. l ++ rest) (all_linked m o (seen x.0))
      ∙ ap (λ y. option_map_or (λ object. flat_map (slot_links m o) (seen object)) y [] ++ rest) (sym x.1)
      ∙ ap (λ l. object_links m o ++ l) (links_numbered (suc n) os (next_from m n o os a) (λ p i. t p (Contains_later o p os i)))

  -- so do those of all objects, in preorder
  pub file_links : links_from d who 0 (map (object_entry m) (preorder m)) ≡ flat_map (object_links m) (preorder m)
  file_links = links_numbered 0 (preorder m) k.known.all_numbers k.known.there

  -- the references of one object
  module _ (o : ObjId) (t : IsSome (object_at m.objects o)) (object : Object) (at : object_at m.objects o ≡ Some object) where
    -- they are those of its slots
    abbrev own : List Reference
    own = flat_map (slot_references m o) (seen object)

    -- each of them is that of a slot
    own_said : (r : Reference) → Contains own r → IsSaid m o r
    own_said r i = said_of m o (seen object) r i

    -- their links say, both ways, what stands in slots
    own_ends : AreFacts m (flat_map (ends_of m.meta) own)
    own_ends l i = let x = Contains-from_flat_map (ends_of m.meta) own l i in ends_said m there tops k o t (object_entry m o).part own own_said x.0 x.1 l x.2

    -- nothing is wrong in them
    own_right : (before : List Link) → AreFacts m before → references_fault d before (object_entry m o).part own ≡ None
    own_right before b =
        ap (λ x. option_map_or Some x (ends_fault m.meta before own)) (no_tokens_fault m there tops k o t (object_entry m o).part own own_said)
        ∙ no_ends_fault m k.valid k.known before own b (ends_said m there tops k o t (object_entry m o).part own own_said)

  -- nothing is wrong in the references of objects that are numbered from here on
  right_numbered : (n : ℕ) (before : List Link) (os : List ObjId) → IsFrom m n os → AreThere m os → AreFacts m before → reference_fault_from d who n before (map (object_entry m) os) ≡ None
  right_numbered n before [] a t b = refl
  right_numbered n before (o ∷ os) a t b =
      let h = t o (Contains_first o os) in
      let x = some_there (object_at m.objects o) h in
      let rest : List Link → Option (Fault × Place) = λ ends. reference_fault_from d who (suc n) (before ++ ends) (map (object_entry m) os) in
      ap (λ p. option_map_or (λ f. Some (f, (object_entry m o).tag.place)) (references_fault d before (object_entry m o).part (references_at d who p (object_entry m o))) (rest (flat_map (ends_of m.meta) (references_at d who p (object_entry m o))))) (sym (first_from m n o os a))
      ∙ ap (λ rs. option_map_or (λ f. Some (f, (object_entry m o).tag.place)) (references_fault d before (object_entry m o).part rs) (rest (flat_map (ends_of m.meta) rs))) (object_references m there tops who k o x.0 x.1)
      ∙ ap (λ y. option_map_or (λ f. Some (f, (object_entry m o).tag.place)) y (rest (flat_map (ends_of m.meta) (own o h x.0 x.1)))) (own_right o h x.0 x.1 before b)
      ∙ right_numbered (suc n) (before ++ flat_map (ends_of m.meta) (own o h x.0 x.1)) os (next_from m n o os a) (λ p i. t p (Contains_later o p os i)) (facts_append m before (flat_map (ends_of m.meta) (own o h x.0 x.1)) b (own_ends o h x.0 x.1))

  -- nor in those of all objects, in preorder
  pub file_right : reference_fault_from d who 0 [] (map (object_entry m) (preorder m)) ≡ None
  file_right = right_numbered 0 [] (preorder m) k.known.all_numbers k.known.there (λ l i. absurd (Contains_none l i))
