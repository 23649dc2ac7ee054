-- An entry of an outline without its place, and what is told of entries that does not depend on places.
use Rattle.std.proofs.Common.{◌≡◌, suc, List, [], ◌∷◌, map, refl, ap, ◌∙◌}
use Rattle.std.specs.Prelude.{Bool, true, false, ◌||◌, Option, Some, None, option_map, if◌then◌else◌}
use Rattle.std.specs.Option.{option_map_or}
use Rattle.std.specs.List.{list_any}
use Rattle.std.proofs.lemmas.Option.{none-some}
use Rattle.atl_base.specs.declared.place.Place.{Place}
use Rattle.atl_base.specs.declared.numbers.FeatId.{FeatId}
use Rattle.atl_base.specs.declared.numbers.ObjId.{ObjId}
use Rattle.doc_text.specs.Characters.{place}
use Rattle.xmi_models.specs.Outline.{Entry, Tag, is_object, objects_in, Part}
use Rattle.xmi_models.specs.Faults.{Fault, gives, objects}

-- ## Entries

-- a tag at the place that comes first
abbrev pub bare_tag : Tag → Tag
bare_tag t = record { space = t.space; name = t.name; attributes = t.attributes; texts = t.texts; has_elements = t.has_elements; place = place 1 1 }

-- an entry there
abbrev pub bare : Entry → Entry
bare e = record { part = e.part; tag = bare_tag e.tag }

-- an element of a part
abbrev pub entry : Part → Tag → Entry
entry p t = record { part = p; tag = t }

-- as many of them are objects
pub count_bare : (es : List Entry) → objects_in (map bare es) ≡ objects_in es
count_bare [] = refl
count_bare (e ∷ es) = ap (λ n. if is_object e.part then suc n else n) (count_bare es)

-- and the objects are the same
pub objects_bare : (es : List Entry) → objects (map bare es) ≡ map bare (objects es)
objects_bare [] = refl
objects_bare (e ∷ es) = by (is_object e.part) (objects_bare es)
  where
    by : (b : Bool) → objects (map bare es) ≡ map bare (objects es)
        → (if b then bare e ∷ objects (map bare es) else objects (map bare es)) ≡ map bare (if b then e ∷ objects es else objects es)
    by true h = ap (λ l. bare e ∷ l) h
    by false h = h

-- whether one of them gives a value of a feature
pub gives_bare : (o : ObjId) (f : FeatId) (es : List Entry) → list_any (gives o f) (map bare es) ≡ list_any (gives o f) es
gives_bare o f [] = refl
gives_bare o f (e ∷ es) = ap (λ b. gives o f e || b) (gives_bare o f es)

-- ## Faults

-- a fault without the place where it is found
abbrev pub what : Option (Fault × Place) → Option Fault
what found = option_map (λ x. x.0) found

-- where nothing is told, nothing is found
pub nothing_found : (found : Option (Fault × Place)) → what found ≡ None → found ≡ None
nothing_found None h = refl
nothing_found (Some x) h = absurd (none-some x.0 (flipped x h))
  where
    flipped : (x : Fault × Place) → Some x.0 ≡ None → None ≡ Some x.0
    flipped x h = cc

-- the first of two is told by what is told of both
pub first_told : (f g : Option Fault) (p q : Place) (a b : Option (Fault × Place)) → f ≡ g → what a ≡ what b
    → what (option_map_or (λ x. Some (x, p)) f a) ≡ what (option_map_or (λ x. Some (x, q)) g b)
first_told f g p q a b e h = ap (λ x. what (option_map_or (λ x. Some (x, p)) x a)) e ∙ by g
  where
    by : (g : Option Fault) → what (option_map_or (λ x. Some (x, p)) g a) ≡ what (option_map_or (λ x. Some (x, q)) g b)
    by None = h
    by (Some x) = refl
