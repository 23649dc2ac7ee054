-- Which elements stand in a model's file: `xmi:XMI`, one for each object in preorder, and one for each value of a many-valued
-- attribute.
use Rattle.std.proofs.Common.{◌≡◌, ℕ, zero, suc, List, [], ◌∷◌, ◌++◌, length, map, refl, sym, ap, ◌∙◌, subst, ⊎_elim, arith}
use Rattle.std.specs.Prelude.{Bool, true, false, ◌==◌, Contains, if◌then◌else◌}
use Rattle.std.specs.List.{flat_map}
use Rattle.std.proofs.lemmas.List.Elements.{Contains-append_cases, Contains-append_left, Contains-append_right}
use Rattle.atl_base.specs.declared.numbers.FeatId.{FeatId}
use Rattle.atl_base.specs.declared.numbers.ObjId.{ObjId}
use Rattle.ecore_meta.proofs.Membership.{Contains-from_flat_map}
use Rattle.model_store.specs.declared.parts.Cellv.{Cellv}
use Rattle.model_store.specs.Contents.{Contents}
use Rattle.model_store.specs.Order.{preorder}
use Rattle.model_store.proofs.Thinned.{Contains_cases, Contains_first, Contains_none}
use Rattle.xmi_models.specs.Outline.{Entry, is_object}
use Rattle.xmi_models.specs.Faults.{objects}
use Rattle.xmi_write.specs.Xmi.{Part, Content, Value}
use Rattle.xmi_round_trip.proofs.Filed.{IsFiled, around_entry, entries, entries_within, file, object_entry, own_parts, part_entries, value_entry}
use Rattle.xmi_links.proofs.FaultlessEntries.{objects_together}
use Rattle.xmi_round_trip.proofs.Lists.{only}

-- ## What an element is

-- an element is `xmi:XMI`, an object, or a value among an object's parts
pub data IsKnown (m : Contents) (e : Entry) : Type 0 where
  the_around : e ≡ around_entry m → IsKnown m e
  an_object : (o : ObjId) → e ≡ object_entry m o → IsKnown m e
  a_value : (o : ObjId) (f : FeatId) (v : Cellv) → e ≡ value_entry m o f v → Contains (own_parts m o) (Value f v) → IsKnown m e

-- so is each of an object and of what stands in it at most so many levels below
known_within : (n : ℕ) (m : Contents) (o : ObjId) (e : Entry) → Contains (entries_within n m o) e → IsKnown m e
unfolding entries_within
known_within zero m o e h = absurd (Contains_none e h)
known_within (suc n) m o e h = ⊎_elim
    (λ (s : object_entry m o ≡ e). an_object o (sym s))
    (λ (k : Contains (flat_map (part_entries (entries_within n m) m o) (own_parts m o)) e).
    let x = Contains-from_flat_map (part_entries (entries_within n m) m o) (own_parts m o) e k in
    by_part (λ q g. known_within n m q e g) x.0 x.1 x.2)
    (Contains_cases (object_entry m o) e (flat_map (part_entries (entries_within n m) m o) (own_parts m o)) h)
  where
    by_part : ((q : ObjId) → Contains (entries_within n m q) e → IsKnown m e) → (p : Part) → Contains (own_parts m o) p → Contains (part_entries (entries_within n m) m o p) e → IsKnown m e
    by_part again (Content f q) c g = again q g
    by_part again (Value f v) c g = a_value o f v (sym (only (value_entry m o f v) e g)) c

-- so is each of an object and of all that stands in it
known_under : (m : Contents) (o : ObjId) (e : Entry) → Contains (entries m o) e → IsKnown m e
unfolding entries
known_under m o e h = known_within (suc (length m.objects)) m o e h

-- so is each of the file
pub known_in : (m : Contents) (e : Entry) → Contains (file m) e → IsKnown m e
known_in m e h = ⊎_elim
    (λ (k : Contains (if length m.roots == 1 then [] else around_entry m ∷ []) e). front (length m.roots == 1) k)
    (λ (k : Contains (flat_map (entries m) m.roots) e). let x = Contains-from_flat_map (entries m) m.roots e k in known_under m x.0 e x.2)
    (Contains-append_cases (if length m.roots == 1 then [] else around_entry m ∷ []) (flat_map (entries m) m.roots) e h)
  where
    front : (b : Bool) → Contains (if b then [] else around_entry m ∷ []) e → IsKnown m e
    front true k = absurd (Contains_none e k)
    front false k = the_around (sym (only (around_entry m) e k))

-- the element of a split of the file
pub stands_in : (file before after : List Entry) (e : Entry) → before ++ (e ∷ after) ≡ file → Contains file e
stands_in file before after e h = subst (λ l. Contains l e) h (Contains-append_right before (e ∷ after) e (Contains_first e after))

-- ## Objects in their order

-- an element that is an object is among the objects
pub entry_among : (es : List Entry) (e : Entry) → Contains es e → is_object e.part ≡ true → Contains (objects es) e
entry_among [] e h i = absurd (Contains_none e h)
entry_among (x ∷ es) e h i = ⊎_elim
    (λ (s : x ≡ e). subst (λ l. Contains l e) (sym (ap (λ b. if b then x ∷ objects es else objects es) (ap (λ (y : Entry). is_object y.part) s ∙ i))) (subst (λ y. Contains (y ∷ objects es) e) (sym s) (Contains_first e (objects es))))
    (λ (k : Contains es e). by (is_object x.part) (entry_among es e k i))
    (Contains_cases x e es h)
  where
    by : (b : Bool) → Contains (objects es) e → Contains (if b then x ∷ objects es else objects es) e
    by true k = (suc k.0, omega (arith, k.1), k.2)
    by false k = k

-- where a list is what a function makes of another one, so are its parts
pub record IsSplit {X Y : Type 0} (g : X → Y) (xs : List X) (front : List Y) (y : Y) : Type 0 where
  pub before : List X
  pub it : X
  pub later : List X
  pub is : before ++ (it ∷ later) ≡ xs
  pub made : front ≡ map g before
  pub last : y ≡ g it

-- a split of a list with one element more before it
split_more : {X Y : Type 0} (g : X → Y) (x : X) (xs : List X) (z : Y) (front : List Y) (y : Y) → z ≡ g x → IsSplit g xs front y → IsSplit g (x ∷ xs) (z ∷ front) y
split_more g x xs z front y head r = record {
  before = x ∷ r.before;
  it = r.it;
  later = r.later;
  is = ap (λ l. x ∷ l) r.is;
  made = ap (λ l. z ∷ l) r.made ∙ ap (λ w. w ∷ map g r.before) head;
  last = r.last;
}

-- wherever a mapped list is split, the list is split there
split : {X Y : Type 0} (g : X → Y) (xs : List X) (front : List Y) (y : Y) (rest : List Y) → front ++ (y ∷ rest) ≡ map g xs → IsSplit g xs front y
split g [] [] y rest h = absurd (cc)
split g [] (z ∷ front) y rest h = absurd (cc)
split g (x ∷ xs) [] y rest h = record { before = []; it = x; later = xs; is = refl; made = refl; last = cc }
split g (x ∷ xs) (z ∷ front) y rest h = split_more g x xs z front y (cc) (split g xs front y rest (cc))

-- an object of the file, and the objects before it
abbrev pub IsPlaced : Contents → List Entry → Entry → Type 0
IsPlaced m before e = IsSplit (object_entry m) (preorder m) (objects before) e

-- an element of the file that is an object is placed so
pub placed_in : (m : Contents) → IsFiled m → (before : List Entry) (e : Entry) (after : List Entry) → before ++ (e ∷ after) ≡ file m → is_object e.part ≡ true → IsPlaced m before e
placed_in m filed before e after h i =
    split (object_entry m) (preorder m) (objects before) e (objects after)
    (ap (λ b. objects before ++ (if b then e ∷ objects after else objects after)) (sym i)
    ∙ sym (objects_together before (e ∷ after)) ∙ ap objects h ∙ filed.objects_are)

module _ (m : Contents) (before : List Entry) (e : Entry) (p : IsPlaced m before e) where
  -- it stands in preorder
  pub it_in : Contains (preorder m) p.it
  it_in = subst (λ l. Contains l p.it) p.is (Contains-append_right p.before (p.it ∷ p.later) p.it (Contains_first p.it p.later))

  -- and so do those before it
  pub before_in : (o : ObjId) → Contains p.before o → Contains (preorder m) o
  before_in o h = subst (λ l. Contains l o) p.is (Contains-append_left p.before (p.it ∷ p.later) o h)
