-- The objects that a reference's slot holds once ends are joined: what links give at either end, each once.
use Rattle.std.proofs.Common.{◌≡◌, ◌≢◌, ℕ, suc, ◌<◌, ◌≤◌, ◌⊎◌, inl, inr, List, [], ◌∷◌, ◌++◌, length, map, refl, sym, ap, ◌∙◌, subst, ⊎_elim, arith, Option, Some, None}
use Rattle.std.specs.Prelude.{◌==◌, ◌&&◌, not, Bool, true, false, slice_index_or, Contains, filter, flat_map, if◌then◌else◌}
use Rattle.std.specs.List.{list_any}
use Rattle.std.specs.Option.{option_map_or}
use Rattle.std.proofs.lemmas.Bool.{and_from, and_parts, cases_eq, eq-eqb, eqb-true, ne_eqb, or_parts, true≢false}
use Rattle.std.proofs.lemmas.List.{get_or_default}
use Rattle.std.proofs.lemmas.List.Elements.{Contains-append_left, Contains-append_right, Contains-append_cases}
use Rattle.atl_base.specs.declared.numbers.FeatId.{FeatId}
use Rattle.atl_base.specs.declared.numbers.ObjId.{ObjId}
use Rattle.ecore_meta.specs.declared.parts.Parts.{Parts}
use Rattle.ecore_meta.specs.Valid.{AllDiffer}
use Rattle.ecore_meta.proofs.Membership.{Contains-flat_map}
use Rattle.model_store.specs.declared.parts.Cellv.{Cellv}
use Rattle.model_store.specs.declared.parts.Cellv.TheVariants.{Obj}
use Rattle.model_store.specs.Contents.{is_many, opposite}
use Rattle.model_store.proofs.Slots.{same_object, same_feature}
use Rattle.model_store.proofs.Thinned.{Contains_cases, Contains_first, Contains_later, Contains_none}
use Rattle.xmi_text.proofs.Lists.{in_map, to_map, pairs_cons, pairs_rest}
use Rattle.xmi_models.specs.Outline.{Entry}
use Rattle.xmi_links.specs.References.{Link, both_ways, clashes, has_clash}
use Rattle.xmi_links.specs.ModelOf.{distinct, is_of, is_to, links, referred}
use Rattle.xmi_links.proofs.FaultlessLinks.{none_passes}
use Rattle.xmi_links.proofs.FaultlessContents.{number_of}

-- ## Each object once

in_filter : {X : Type 0} (p : X → Bool) (xs : List X) (y : X) → Contains (filter p xs) y → (p y ≡ true) × Contains xs y
in_filter p [] y m = absurd (Contains_none y m)
in_filter p (x ∷ xs) y m = on (p x) refl m (λ g. in_filter p xs y g)
  where
    on : (b : Bool) → p x ≡ b → Contains (if b then x ∷ filter p xs else filter p xs) y → (Contains (filter p xs) y → (p y ≡ true) × Contains xs y) → (p y ≡ true) × Contains (x ∷ xs) y
    on true i m again = ⊎_elim
        (λ (s : x ≡ y). (ap p (sym s) ∙ i, subst (λ z. Contains (x ∷ xs) z) s (Contains_first x xs)))
        (λ (g : Contains (filter p xs) y). let r = again g in (r.0, Contains_later x y xs r.1))
        (Contains_cases x y (filter p xs) m)
    on false i m again = let r = again m in (r.0, Contains_later x y xs r.1)

to_filter : {X : Type 0} (p : X → Bool) (xs : List X) (y : X) → p y ≡ true → Contains xs y → Contains (filter p xs) y
to_filter p [] y h m = absurd (Contains_none y m)
to_filter p (x ∷ xs) y h m = ⊎_elim
    (λ (s : x ≡ y). here (p x) (ap p s ∙ h) s)
    (λ (g : Contains xs y). later (p x) (to_filter p xs y h g))
    (Contains_cases x y xs m)
  where
    here : (b : Bool) → b ≡ true → x ≡ y → Contains (if b then x ∷ filter p xs else filter p xs) y
    here true i s = subst (λ z. Contains (x ∷ filter p xs) z) s (Contains_first x (filter p xs))
    here false i s = absurd (true≢false (sym i))

    later : (b : Bool) → Contains (filter p xs) y → Contains (if b then x ∷ filter p xs else filter p xs) y
    later true g = Contains_later x y (filter p xs) g
    later false g = g

abbrev others : ObjId → ObjId → Bool
others o p = not (p.0 == o.0)

pub in_distinct : (xs : List ObjId) (p : ObjId) → Contains (distinct xs) p → Contains xs p
in_distinct [] p m = m
in_distinct (x ∷ xs) p m = ⊎_elim
    (λ (s : x ≡ p). subst (λ z. Contains (x ∷ xs) z) s (Contains_first x xs))
    (λ (g : Contains (filter (others x) (distinct xs)) p). Contains_later x p xs (in_distinct xs p (in_filter (others x) (distinct xs) p g).1))
    (Contains_cases x p (filter (others x) (distinct xs)) m)

pub to_distinct : (xs : List ObjId) (p : ObjId) → Contains xs p → Contains (distinct xs) p
to_distinct [] p m = m
to_distinct (x ∷ xs) p m = ⊎_elim
    (λ (same : p.0 ≡ x.0). subst (λ z. Contains (distinct (x ∷ xs)) z) (same_object x p (sym same)) (Contains_first x (filter (others x) (distinct xs))))
    (λ (apart : p.0 ≢ x.0). Contains_later x p (filter (others x) (distinct xs)) (to_filter (others x) (distinct xs) p (ap not (ne_eqb p.0 x.0 apart))
    (to_distinct xs p (⊎_elim (λ (s : x ≡ p). absurd (apart (ap (λ (z : ObjId). z.0) (sym s)))) (λ (g : Contains xs p). g) (Contains_cases x p xs m)))))
    (cases_eq p.0 x.0)

filter_differs : (p : ObjId → Bool) (xs : List ObjId) → AllDiffer xs → AllDiffer (filter p xs)
filter_differs p [] h = h
filter_differs p (x ∷ xs) h = on (p x) (filter_differs p xs (pairs_rest (λ a b. a ≢ b) x xs h))
  where
    later : (k : ℕ) (d : ObjId) → k < length (filter p xs) → x ≢ slice_index_or (filter p xs) k d
    later k d l e =
        let r = (in_filter p xs x (k, l, get_or_default (filter p xs) k x d l ∙ sym e)).1 in
        h 0 (suc r.0) x (omega arith) (omega (arith, r.1)) (sym r.2)

    on : (b : Bool) → AllDiffer (filter p xs) → AllDiffer (if b then x ∷ filter p xs else filter p xs)
    on true rest = pairs_cons (λ a b. a ≢ b) x (filter p xs) later rest
    on false rest = rest

distinct_differs : (xs : List ObjId) → AllDiffer (distinct xs)
distinct_differs [] = λ i j d lt l. absurd (omega (arith, l))
distinct_differs (x ∷ xs) = pairs_cons (λ a b. a ≢ b) x (filter (others x) (distinct xs)) later (filter_differs (others x) (distinct xs) (distinct_differs xs))
  where
    later : (k : ℕ) (d : ObjId) → k < length (filter (others x) (distinct xs)) → x ≢ slice_index_or (filter (others x) (distinct xs)) k d
    later k d l e =
        let r = in_filter (others x) (distinct xs) x (k, l, get_or_default (filter (others x) (distinct xs)) k x d l ∙ sym e) in
        true≢false (sym r.0 ∙ ap not (eq-eqb x.0 x.0 refl))

map_differs : (xs : List ObjId) → AllDiffer xs → AllDiffer (map Obj xs)
map_differs [] h = λ i j d lt l. absurd (omega (arith, l))
map_differs (x ∷ xs) h = pairs_cons (λ a b. a ≢ b) (Obj x) (map Obj xs) later (map_differs xs (pairs_rest (λ a b. a ≢ b) x xs h))
  where
    later : (k : ℕ) (d : Cellv) → k < length (map Obj xs) → Obj x ≢ slice_index_or (map Obj xs) k d
    later k d l e =
        let r = in_map Obj xs (Obj x) (k, l, get_or_default (map Obj xs) k (Obj x) d l ∙ sym e) in
        let same : r.0 ≡ x = same_object r.0 x (number_of r.0 x r.2) in
        h 0 (suc r.1.0) x (omega arith) (omega (arith, r.1.1)) (sym (ap (λ z. slice_index_or xs r.1.0 z) (sym same) ∙ r.1.2 ∙ same))

-- objects that are all the same are one at most
pub one_distinct : (xs : List ObjId) → ((p q : ObjId) → Contains xs p → Contains xs q → p ≡ q) → length (distinct xs) ≤ 1
one_distinct [] h = omega arith
one_distinct (x ∷ xs) h = omega (
  arith,
  ap length (empty (filter (others x) (distinct xs)) (λ p m.
      let r = in_filter (others x) (distinct xs) p m in
      let same : x ≡ p = h x p (Contains_first x xs) (Contains_later x p xs (in_distinct xs p r.1)) in
      true≢false (sym r.0 ∙ ap not (eq-eqb p.0 x.0 (ap (λ (z : ObjId). z.0) (sym same)))))),
)
  where
    empty : (ys : List ObjId) → ((p : ObjId) → Contains ys p → ⊥) → ys ≡ []
    empty [] g = refl
    empty (y ∷ ys) g = absurd (g y (Contains_first y ys))

module _ (meta : Parts) (file : List Entry) where
  -- ## The two ends of a link

  -- a link says, at one of its ends, that one object refers to another
  pub record IsEnd (ls : List Link) (o : ObjId) (f : FeatId) (p : ObjId) : Type 0 where
    pub link : Link
    pub there : Contains ls link
    pub it : Contains (both_ways meta link) (record { from = o; by = f; to = p })

  -- ends in the two directions
  pub ends_of : (l k : Link) → Contains (both_ways meta l) k → (l ≡ k) ⊎ ((g : FeatId) × (opposite meta l.by ≡ Some g) × (record { from = l.to; by = g; to = l.from } ≡ k))
  ends_of l k m = on (opposite meta l.by) refl m
    where
      on : (x : Option FeatId) → opposite meta l.by ≡ x → Contains (l ∷ option_map_or (λ g. record { from = l.to; by = g; to = l.from } ∷ []) x []) k → (l ≡ k) ⊎ ((g : FeatId) × (opposite meta l.by ≡ Some g) × (record { from = l.to; by = g; to = l.from } ≡ k))
      on None i m = ⊎_elim (λ (s : l ≡ k). inl s) (λ (g : Contains [] k). absurd (Contains_none k g)) (Contains_cases l k [] m)
      on (Some g) i m = ⊎_elim (λ (s : l ≡ k). inl s)
          (λ (h : Contains (record { from = l.to; by = g; to = l.from } ∷ []) k). ⊎_elim (λ (s : record { from = l.to; by = g; to = l.from } ≡ k). inr (g, i, s)) (λ (n : Contains [] k). absurd (Contains_none k n)) (Contains_cases (record { from = l.to; by = g; to = l.from }) k [] h))
          (Contains_cases l k (record { from = l.to; by = g; to = l.from } ∷ []) m)

  pub first_end : (l : Link) → Contains (both_ways meta l) l
  first_end l = Contains_first l (option_map_or (λ g. record { from = l.to; by = g; to = l.from } ∷ []) (opposite meta l.by) [])

  pub other_end : (l : Link) (g : FeatId) → opposite meta l.by ≡ Some g → Contains (both_ways meta l) (record { from = l.to; by = g; to = l.from })
  other_end l g h = subst (λ x. Contains (l ∷ option_map_or (λ g. record { from = l.to; by = g; to = l.from } ∷ []) x []) (record { from = l.to; by = g; to = l.from })) (sym h)
      (Contains_later l (record { from = l.to; by = g; to = l.from }) (record { from = l.to; by = g; to = l.from } ∷ []) (Contains_first (record { from = l.to; by = g; to = l.from }) []))

  -- ## A slot's objects are at ends

  tests : (a b : Bool) → (a && b) ≡ true → (a ≡ true) × (b ≡ true)
  tests a b h = and_parts a b h

  pub same_link : (l k : Link) → l.from ≡ k.from → l.by ≡ k.by → l.to ≡ k.to → l ≡ k
  same_link l k a b c = λ i. record { from = a i; by = b i; to = c i }

  opposite_is : (l : Link) (f : FeatId) → option_map_or (λ g. g.0 == f.0) (opposite meta l.by) false ≡ true → opposite meta l.by ≡ Some f
  opposite_is l f h = on (opposite meta l.by) h
    where
      on : (x : Option FeatId) → option_map_or (λ g. g.0 == f.0) x false ≡ true → x ≡ Some f
      on None h = absurd (true≢false (sym h))
      on (Some g) h = ap Some (same_feature g f (eqb-true g.0 f.0 h))

  module _ (o : ObjId) (f : FeatId) (p : ObjId) where
    abbrev own : List Link
    own = filter (is_of o f) (links meta file)

    abbrev back : List Link
    back = filter (is_to meta o f) (links meta file)

    abbrev wanted : Link
    wanted = record { from = o; by = f; to = p }

    from_own : Contains (map (λ (l : Link). l.to) own) p → IsEnd (links meta file) o f p
    from_own m =
        let x = in_map (λ (l : Link). l.to) own p m in
        let y = in_filter (is_of o f) (links meta file) x.0 x.1 in
        let t = tests (x.0.from.0 == o.0) (x.0.by.0 == f.0) y.0 in
        record { link = x.0; there = y.1; it = subst (λ k. Contains (both_ways meta x.0) k) (same_link x.0 wanted (same_object x.0.from o (eqb-true x.0.from.0 o.0 t.0)) (same_feature x.0.by f (eqb-true x.0.by.0 f.0 t.1)) x.2) (first_end x.0) }

    from_back : Contains (map (λ (l : Link). l.from) back) p → IsEnd (links meta file) o f p
    from_back m =
        let x = in_map (λ (l : Link). l.from) back p m in
        let y = in_filter (is_to meta o f) (links meta file) x.0 x.1 in
        let t = tests (x.0.to.0 == o.0) (option_map_or (λ g. g.0 == f.0) (opposite meta x.0.by) false) y.0 in
        record { link = x.0; there = y.1; it = subst (λ k. Contains (both_ways meta x.0) k) (same_link (record { from = x.0.to; by = f; to = x.0.from }) wanted (same_object x.0.to o (eqb-true x.0.to.0 o.0 t.0)) refl x.2) (other_end x.0 f (opposite_is x.0 f t.1)) }

    pub referred_end : Contains (referred meta (links meta file) o f) p → IsEnd (links meta file) o f p
    referred_end m = ⊎_elim from_own from_back (Contains-append_cases (map (λ (l : Link). l.to) own) (map (λ (l : Link). l.from) back) p (in_distinct (map (λ (l : Link). l.to) own ++ map (λ (l : Link). l.from) back) p m))

    to_own : (l : Link) → Contains (links meta file) l → l ≡ wanted → Contains (map (λ (l : Link). l.to) own) p
    to_own l m e = subst (λ q. Contains (map (λ (l : Link). l.to) own) q) (ap (λ (k : Link). k.to) e)
        (to_map (λ (l : Link). l.to) own l (to_filter (is_of o f) (links meta file) l
        (and_from (l.from.0 == o.0) (l.by.0 == f.0) (eq-eqb l.from.0 o.0 (ap (λ (k : Link). k.from.0) e)) (eq-eqb l.by.0 f.0 (ap (λ (k : Link). k.by.0) e))) m))

    to_back : (l : Link) (g : FeatId) → Contains (links meta file) l → opposite meta l.by ≡ Some g → record { from = l.to; by = g; to = l.from } ≡ wanted → Contains (map (λ (l : Link). l.from) back) p
    to_back l g m h e = subst (λ q. Contains (map (λ (l : Link). l.from) back) q) (ap (λ (k : Link). k.to) e)
        (to_map (λ (l : Link). l.from) back l (to_filter (is_to meta o f) (links meta file) l
        (and_from (l.to.0 == o.0) (option_map_or (λ g. g.0 == f.0) (opposite meta l.by) false) (eq-eqb l.to.0 o.0 (ap (λ (k : Link). k.from.0) e))
        (ap (λ x. option_map_or (λ g. g.0 == f.0) x false) h ∙ eq-eqb g.0 f.0 (ap (λ (k : Link). k.by.0) e))) m))

    pub end_referred : IsEnd (links meta file) o f p → Contains (referred meta (links meta file) o f) p
    end_referred x = to_distinct (map (λ (l : Link). l.to) own ++ map (λ (l : Link). l.from) back) p (⊎_elim
        (λ (e : x.link ≡ wanted). Contains-append_left (map (λ (l : Link). l.to) own) (map (λ (l : Link). l.from) back) p (to_own x.link x.there e))
        (λ (e : (g : FeatId) × (opposite meta x.link.by ≡ Some g) × (record { from = x.link.to; by = g; to = x.link.from } ≡ wanted)). Contains-append_right (map (λ (l : Link). l.to) own) (map (λ (l : Link). l.from) back) p (to_back x.link e.0 x.there e.1 e.2))
        (ends_of x.link wanted x.it))

  pub referred_differ : (o : ObjId) (f : FeatId) → AllDiffer (map Obj (referred meta (links meta file) o f))
  referred_differ o f = map_differs (referred meta (links meta file) o f) (distinct_differs (map (λ (l : Link). l.to) (filter (is_of o f) (links meta file)) ++ map (λ (l : Link). l.from) (filter (is_to meta o f) (links meta file))))

  -- ## Single ends

  -- no end before clashes with one of these
  clash_not : (pre ls : List Link) → has_clash meta pre ls ≡ false → (k l : Link) → Contains pre k → Contains ls l → clashes meta l k ≡ false
  clash_not pre [] h k l m n = absurd (Contains_none l n)
  clash_not pre (z ∷ ls) h k l m n =
      let p = or_parts (list_any (clashes meta z) pre) (has_clash meta (pre ++ (z ∷ [])) ls) h in
      ⊎_elim
      (λ (s : z ≡ l). none_passes (clashes meta l) pre k (ap (λ w. list_any (clashes meta w) pre) (sym s) ∙ p.0) m)
      (λ (later : Contains ls l). clash_not (pre ++ (z ∷ [])) ls p.1 k l (Contains-append_left pre (z ∷ []) k m) later)
      (Contains_cases z l ls n)

  module _ (o : ObjId) (f : FeatId) (single : is_many meta f ≡ false) where
    -- two ends that do not clash name one object
    agree : (p q : ObjId) → clashes meta (record { from = o; by = f; to = p }) (record { from = o; by = f; to = q }) ≡ false → q ≡ p
    agree p q h = on (o.0 == o.0) (eq-eqb o.0 o.0 refl) (f.0 == f.0) (eq-eqb f.0 f.0 refl) (is_many meta f) single (q.0 == p.0) refl h
      where
        on : (a : Bool) → a ≡ true → (b : Bool) → b ≡ true → (c : Bool) → c ≡ false → (d : Bool) → (q.0 == p.0) ≡ d → (a && b && not c && not d) ≡ false → q ≡ p
        on true i true j false k true e h = same_object q p (eqb-true q.0 p.0 e)
        on true i true j false k false e h = absurd (true≢false h)
        on true i true j true k d e h = absurd (true≢false k)
        on true i false j c k d e h = absurd (true≢false (sym j))
        on false i b j c k d e h = absurd (true≢false (sym i))

    abbrev end : ObjId → Link
    end p = record { from = o; by = f; to = p }

    one_end : (pre ls : List Link) → has_clash meta pre ls ≡ false → (p q : ObjId) → Contains ls (end p) → Contains ls (end q) → p ≡ q
    one_end pre [] h p q m n = absurd (Contains_none (end p) m)
    one_end pre (z ∷ ls) h p q m n = on (Contains_cases z (end p) ls m) (Contains_cases z (end q) ls n) (λ a b. one_end (pre ++ (z ∷ [])) ls rest p q a b)
      where
        rest : has_clash meta (pre ++ (z ∷ [])) ls ≡ false
        rest = (or_parts (list_any (clashes meta z) pre) (has_clash meta (pre ++ (z ∷ [])) ls) h).1

        last : (r : ObjId) → z ≡ end r → Contains (pre ++ (z ∷ [])) (end r)
        last r s = Contains-append_right pre (z ∷ []) (end r) (subst (λ w. Contains (z ∷ []) w) s (Contains_first z []))

        on : (z ≡ end p) ⊎ Contains ls (end p) → (z ≡ end q) ⊎ Contains ls (end q) → (Contains ls (end p) → Contains ls (end q) → p ≡ q) → p ≡ q
        on (inl a) (inl b) again = ap (λ (k : Link). k.to) (sym a) ∙ ap (λ (k : Link). k.to) b
        on (inl a) (inr b) again = agree q p (clash_not (pre ++ (z ∷ [])) ls rest (end p) (end q) (last p a) b)
        on (inr a) (inl b) again = sym (agree p q (clash_not (pre ++ (z ∷ [])) ls rest (end q) (end p) (last q b) a))
        on (inr a) (inr b) again = again a b

    at_ends : (p : ObjId) → IsEnd (links meta file) o f p → Contains (flat_map (both_ways meta) (links meta file)) (end p)
    at_ends p x = Contains-flat_map (both_ways meta) (links meta file) x.link (end p) x.there x.it

    pub one_referred : has_clash meta [] (flat_map (both_ways meta) (links meta file)) ≡ false → length (referred meta (links meta file) o f) ≤ 1
    one_referred h = one_distinct (map (λ (l : Link). l.to) (filter (is_of o f) (links meta file)) ++ map (λ (l : Link). l.from) (filter (is_to meta o f) (links meta file)))
        (λ p q m n. one_end [] (flat_map (both_ways meta) (links meta file)) h p q (at_ends p (referred_end o f p (to_distinct _ p m))) (at_ends q (referred_end o f q (to_distinct _ q n))))
