-- One slot after another was put in its place, and the changes that a journal takes back.
use Rattle.std.proofs.Common.{◌≡◌, ℕ, ◌-◌, ◌<◌, ◌≤◌, ◌⊎◌, inl, inr, List, [], ◌∷◌, ◌++◌, length, take, map, reverse, refl, sym, ap, ◌∙◌, ⊎_elim, arith, Option, Some, None, length-append}
use Rattle.std.specs.Prelude.{slice_index_or, slice_set, MatchOption}
use Rattle.std.specs.Option.{option_map_or}
use Rattle.std.proofs.lemmas.Bool.{cases_lt}
use Rattle.std.proofs.lemmas.List.{get_or-set_same, get_or_past, length-set, set-set, set-get_or, take_at, reverse-append, append_assoc, map-append}
use Rattle.atl_base.specs.declared.numbers.FeatId.{FeatId}
use Rattle.atl_base.specs.declared.numbers.ObjId.{ObjId}
use Rattle.model_store.specs.declared.draft.Change.{Change}
use Rattle.model_store.specs.declared.draft.Change.TheVariants.{Replaced, Appended}
use Rattle.model_store.specs.declared.parts.Cellv.{Cellv}
use Rattle.model_store.specs.declared.parts.Object.{Object}
use Rattle.model_store.specs.declared.roots.RootStep.{RootStep}
use Rattle.model_store.specs.declared.roots.RootStep.TheVariants.{Freed, TakenIn}
use Rattle.model_store.specs.Contents.{Contents, object_at, place_in, slot, slot_in, with_slot, set_slot}
use Rattle.model_store.specs.Drafts.{settled, undo, undone}
use Rattle.model_store.specs.Writes.{freed, taken_in}
use Rattle.model_store.proofs.Slots.{IsAt, slot_at}
use Rattle.model_store.proofs.Updates.{found_within}

abbrev put : Contents → ObjId → Object → ℕ → List Cellv → Contents
put m o object k cells = record m { objects = slice_set m.objects o.0 (Some (with_slot object k cells)) }

-- there is a slot, or nothing changes
is_slot : (m : Contents) (o : ObjId) (f : FeatId) → IsAt m o f ⊎ (((cells : List Cellv) → set_slot m o f cells ≡ m) × (slot m o f ≡ []))
is_slot m o f = by_object (object_at m.objects o) refl
  where
    by_place : (object : Object) → object_at m.objects o ≡ Some object → (k : Option ℕ) → place_in m.meta object.class f ≡ k → IsAt m o f ⊎ (((cells : List Cellv) → set_slot m o f cells ≡ m) × (slot m o f ≡ []))
    by_place object there None i = inr (
      λ cells. ap (λ y. option_map_or (λ object. option_map_or (λ k. put m o object k cells) (place_in m.meta object.class f) m) y m) there ∙ ap (λ k. option_map_or (λ k. put m o object k cells) k m) i,
      ap (λ y. option_map_or (slot_in m.meta f) y []) there ∙ ap (λ k. option_map_or (λ k. slice_index_or object.slots k []) k []) i,
    )
    by_place object there (Some k) i = inl (record { object = object; there = there; place = k; found = i })

    by_object : (y : Option Object) → object_at m.objects o ≡ y → IsAt m o f ⊎ (((cells : List Cellv) → set_slot m o f cells ≡ m) × (slot m o f ≡ []))
    by_object None there = inr (
      λ cells. ap (λ y. option_map_or (λ object. option_map_or (λ k. put m o object k cells) (place_in m.meta object.class f) m) y m) there,
      ap (λ y. option_map_or (slot_in m.meta f) y []) there,
    )
    by_object (Some object) there = by_place object there (place_in m.meta object.class f) refl

put_is : (m : Contents) (o : ObjId) (f : FeatId) (a : IsAt m o f) (cells : List Cellv) → set_slot m o f cells ≡ put m o a.object a.place cells
put_is m o f a cells =
    ap (λ y. option_map_or (λ object. option_map_or (λ k. put m o object k cells) (place_in m.meta object.class f) m) y m) a.there
    ∙ ap (λ k. option_map_or (λ k. put m o a.object k cells) k m) a.found

-- an object stays at its place
abbrev at_after : (m : Contents) (o : ObjId) (f : FeatId) (a : IsAt m o f) (cells : List Cellv) → IsAt (put m o a.object a.place cells) o f
at_after m o f a cells = record {
  object = with_slot a.object a.place cells;
  there = get_or-set_same m.objects o.0 (Some (with_slot a.object a.place cells)) None (found_within m.objects o.0 a.object a.there);
  place = a.place;
  found = a.found;
}

pub set_twice : (m : Contents) (o : ObjId) (f : FeatId) (x y : List Cellv) → set_slot (set_slot m o f x) o f y ≡ set_slot m o f y
set_twice m o f x y = ⊎_elim
    (λ a. ap (λ n. set_slot n o f y) (put_is m o f a x)
    ∙ put_is (put m o a.object a.place x) o f (at_after m o f a x) y
    ∙ ap (λ objects. record m { objects = objects }) (set-set m.objects o.0 (Some (with_slot a.object a.place x)) (Some (with_slot (with_slot a.object a.place x) a.place y))
    ∙ ap (λ slots. slice_set m.objects o.0 (Some (record a.object { slots = slots }))) (set-set a.object.slots a.place x y))
    ∙ sym (put_is m o f a y))
    (λ n. ap (λ k. set_slot k o f y) (n.0 x))
    (is_slot m o f)

pub set_same : (m : Contents) (o : ObjId) (f : FeatId) → set_slot m o f (slot m o f) ≡ m
set_same m o f = ⊎_elim
    (λ a. put_is m o f a (slot m o f)
    ∙ ap (put m o a.object a.place) (slot_at m o f a)
    ∙ ap (λ slots. record m { objects = slice_set m.objects o.0 (Some (record a.object { slots = slots })) }) (set-get_or a.object.slots a.place [])
    ∙ ap (λ place. record m { objects = slice_set m.objects o.0 place }) (sym a.there)
    ∙ ap (λ objects. record m { objects = objects }) (set-get_or m.objects o.0 None))
    (λ n. n.0 (slot m o f))
    (is_slot m o f)

pub set_back : (m : Contents) (o : ObjId) (f : FeatId) (x : List Cellv) → set_slot (set_slot m o f x) o f (slot m o f) ≡ m
set_back m o f x = set_twice m o f x (slot m o f) ∙ set_same m o f

-- the roots are not touched
pub set_roots : (m : Contents) (o : ObjId) (f : FeatId) (x : List Cellv) → (set_slot m o f x).roots ≡ m.roots
set_roots m o f x = ⊎_elim (λ a. ap (λ n. n.roots) (put_is m o f a x)) (λ n. ap (λ k. k.roots) (n.0 x)) (is_slot m o f)

pub set_under : (m : Contents) (o : ObjId) (f : FeatId) (x : List Cellv) (roots : List ObjId) → set_slot (record m { roots = roots }) o f x ≡ record (set_slot m o f x) { roots = roots }
set_under m o f x roots = ⊎_elim
    (λ a. put_is (record m { roots = roots }) o f (record { object = a.object; there = a.there; place = a.place; found = a.found }) x
    ∙ ap (λ (n : Contents). record n { roots = roots }) (sym (put_is m o f a x)))
    (λ n. nothing (is_slot (record m { roots = roots }) o f) n.0)
    (is_slot m o f)
  where
    nothing : IsAt (record m { roots = roots }) o f ⊎ (((cells : List Cellv) → set_slot (record m { roots = roots }) o f cells ≡ record m { roots = roots }) × (slot (record m { roots = roots }) o f ≡ []))
        → ((cells : List Cellv) → set_slot m o f cells ≡ m) → set_slot (record m { roots = roots }) o f x ≡ record (set_slot m o f x) { roots = roots }
    nothing (inl a) n = put_is (record m { roots = roots }) o f a x ∙ ap (λ (k : Contents). record k { roots = roots }) (sym (put_is m o f (record { object = a.object; there = a.there; place = a.place; found = a.found }) x))
    nothing (inr k) n = k.0 x ∙ ap (λ (k : Contents). record k { roots = roots }) (sym (n x))

-- ## What is taken back

pub undone_more : (changes : List Change) (change : Change) (m : Contents) → undone (changes ++ change ∷ []) m ≡ undone changes (undo change m)
undone_more [] change m = refl
undone_more (first ∷ changes) change m = ap (undo first) (undone_more changes change m)

pub replaced_back : (changes : List Change) (m : Contents) (o : ObjId) (f : FeatId) (x : List Cellv) → undone (changes ++ Replaced o f (slot m o f) ∷ []) (set_slot m o f x) ≡ undone changes m
replaced_back changes m o f x = undone_more changes (Replaced o f (slot m o f)) (set_slot m o f x) ∙ ap (undone changes) (set_back m o f x)

abbrev but_last : List Cellv → List Cellv
but_last cells = take (length cells - 1) cells

one_less : (cells : List Cellv) (c : Cellv) → but_last (cells ++ c ∷ []) ≡ cells
one_less cells c = take_at cells (c ∷ []) (length (cells ++ c ∷ []) - 1) (omega (arith, length-append cells (c ∷ [])))

-- what is left where the last value is taken off
pub popped : (r : Option Cellv) (before after : List Cellv) → MatchOption r ((before ≡ []) × (after ≡ [])) (λ last. before ≡ after ++ last ∷ []) → after ≡ but_last before
popped None before after h = h.1 ∙ sym (ap but_last h.0)
popped (Some last) before after h = sym (ap but_last h ∙ one_less after last)

module _ (m : Contents) (o : ObjId) (f : FeatId) (c : Cellv) where
  abbrev longer : List Cellv
  longer = slot m o f ++ c ∷ []

  abbrev after : Contents
  after = set_slot m o f longer

  -- what stands there then is the longer list, or nothing as before
  last_less : but_last (slot after o f) ≡ slot m o f
  last_less = ⊎_elim
      (λ a. let there : slot after o f ≡ slice_index_or (slice_set a.object.slots a.place longer) a.place [] =
      ap (λ n. slot n o f) (put_is m o f a longer) ∙ slot_at (put m o a.object a.place longer) o f (at_after m o f a longer) in
      ⊎_elim
      (λ (within : a.place < length a.object.slots). ap but_last (there ∙ get_or-set_same a.object.slots a.place longer [] within) ∙ one_less (slot m o f) c)
      (λ (past : length a.object.slots ≤ a.place).
      ap but_last (there ∙ get_or_past (slice_set a.object.slots a.place longer) a.place [] (omega (arith, length-set a.object.slots a.place longer, past)))
      ∙ sym (slot_at m o f a ∙ get_or_past a.object.slots a.place [] past))
      (cases_lt a.place (length a.object.slots)))
      (λ n. ap (λ k. but_last (slot k o f)) (n.0 longer) ∙ ap but_last n.1 ∙ sym n.1)
      (is_slot m o f)

  pub appended_back : (changes : List Change) → undone (changes ++ Appended o f ∷ []) after ≡ undone changes m
  appended_back changes = undone_more changes (Appended o f) after ∙ ap (undone changes) (ap (set_slot after o f) last_less ∙ set_back m o f longer)

pub settled_more : (steps : List RootStep) (step : RootStep) (roots : List ObjId) → settled (steps ++ step ∷ []) roots ≡ settled (step ∷ []) (settled steps roots)
settled_more [] step roots = refl
settled_more (Freed o ∷ steps) step roots = settled_more steps step _
settled_more (TakenIn o ∷ steps) step roots = settled_more steps step _

-- ## What is reached

pub replaced_current : (m : Contents) (steps : List RootStep) (o : ObjId) (f : FeatId) (x : List Cellv)
    → record (set_slot m o f x) { roots = settled steps (set_slot m o f x).roots } ≡ set_slot (record m { roots = settled steps m.roots }) o f x
replaced_current m steps o f x = ap (λ roots. record (set_slot m o f x) { roots = settled steps roots }) (set_roots m o f x) ∙ sym (set_under m o f x (settled steps m.roots))

pub freed_current : (m : Contents) (steps : List RootStep) (p : ObjId) → record m { roots = settled (steps ++ Freed p ∷ []) m.roots } ≡ freed p (record m { roots = settled steps m.roots })
freed_current m steps p = ap (λ roots. record m { roots = roots }) (settled_more steps (Freed p) m.roots)

pub taken_current : (m : Contents) (steps : List RootStep) (p : ObjId) → record m { roots = settled (steps ++ TakenIn p ∷ []) m.roots } ≡ taken_in p (record m { roots = settled steps m.roots })
taken_current m steps p = ap (λ roots. record m { roots = roots }) (settled_more steps (TakenIn p) m.roots)

-- ## Objects at their places

pub placed_more : (rest : List Object) (object : Object) (places : List (Option Object)) → map Some rest ++ reverse (places ++ Some object ∷ []) ≡ map Some (rest ++ object ∷ []) ++ reverse places
placed_more rest object places =
    ap (λ l. map Some rest ++ l) (reverse-append places (Some object ∷ []))
    ∙ sym (append_assoc (map Some rest) (Some object ∷ []) (reverse places))
    ∙ ap (λ l. l ++ reverse places) (sym (map-append Some rest (object ∷ [])))
