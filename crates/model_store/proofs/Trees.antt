-- An object's tree is the object and the trees of its contents: more room below changes nothing.
use Rattle.std.proofs.Common.{◌≡◌, ℕ, zero, suc, ◌+◌, ◌<◌, List, [], ◌∷◌, ◌++◌, length, take, drop, reverse, refl, sym, ap, subst, ◌∙◌, arith, append_assoc}
use Rattle.std.specs.Prelude.{slice_index_or, if◌then◌else◌}
use Rattle.std.proofs.lemmas.Grind.{flat_map-append}
use Rattle.std.proofs.lemmas.List.{length_push, get_or_push, reverse-append, reverse-reverse, drop_more, take_more, get_or_default}
use Rattle.std.specs.List.{Contains, flat_map}
use Rattle.atl_base.specs.declared.numbers.ObjId.{ObjId}
use Rattle.atl_base.specs.declared.numbers.FeatId.{FeatId}
use Rattle.ecore_meta.specs.declared.parts.Parts.{Parts}
use Rattle.model_store.specs.declared.parts.Cellv.{Cellv}
use Rattle.model_store.specs.Contents.{Contents, contains, objects_of}
use Rattle.model_store.specs.Order.{contents, contents_in, AreThose, none, taken, passed, tree_within, tree, HasNoCycle, IsTreeLaw}
use Rattle.model_store.proofs.Chains.{HasContent, IsChain, IsChain-one, IsChain-push, length-chain}

-- two functions that agree at each element
flat_map-agree : {X A : Type 0} (f g : X → List A) (xs : List X) → ((x : X) → Contains xs x → f x ≡ g x) → flat_map f xs ≡ flat_map g xs
flat_map-agree f g [] h = refl
flat_map-agree f g (x ∷ xs) h =
    let first : f x ≡ g x = h x (0, omega arith, refl) in
    let rest : flat_map f xs ≡ flat_map g xs = flat_map-agree f g xs (λ y m. h y (suc m.0, omega (arith, m.1), m.2)) in
    cc

module _ (m : Contents) (acyclic : HasNoCycle m) where
  same_tree : (a b : ℕ) (path : List ℕ) (o : ObjId) → IsChain m (path ++ o.0 ∷ []) → length m.objects < a + length path → length m.objects < b + length path
      → tree_within a m o ≡ tree_within b m o
  unfolding tree_within
  same_tree zero b path o p h k = absurd (omega (arith, length-chain m (path ++ o.0 ∷ []) (length path) acyclic p (sym (length_push path o.0))))
  same_tree (suc a) zero path o p h k = absurd (omega (arith, length-chain m (path ++ o.0 ∷ []) (length path) acyclic p (sym (length_push path o.0))))
  same_tree (suc a) (suc b) path o p h k =
      ap (λ l. o ∷ l) (flat_map-agree (tree_within a m) (tree_within b m) (contents m o) (λ s c.
      same_tree a b (path ++ o.0 ∷ []) s
      (IsChain-push m (path ++ o.0 ∷ []) s.0 p (λ i e. subst (λ n. HasContent m n s.0) (sym (get_or_push path o.0 0 i (omega (arith, length_push path o.0)))) c))
      (omega (arith, length_push path o.0))
      (omega (arith, length_push path o.0))))

  pub tree-is : IsTreeLaw m
  unfolding tree tree_within
  tree-is o = same_tree (suc (length m.objects)) (suc (suc (length m.objects))) [] o (IsChain-one m o.0) (omega arith) (omega arith)

  -- what comes next in a walk: the object on top, and then its contents in its place
  pub walk_step : (rest : List ObjId) (o : ObjId) → flat_map (tree m) (reverse (rest ++ o ∷ [])) ≡ o ∷ flat_map (tree m) (reverse (rest ++ reverse (contents m o)))
  walk_step rest o =
      let cs : List ObjId = contents m o in
      let before : flat_map (tree m) (reverse (rest ++ o ∷ [])) ≡ tree m o ++ flat_map (tree m) (reverse rest) = ap (flat_map (tree m)) (reverse-append rest (o ∷ [])) in
      let after : flat_map (tree m) (reverse (rest ++ reverse cs)) ≡ flat_map (tree m) cs ++ flat_map (tree m) (reverse rest) =
      ap (flat_map (tree m)) (reverse-append rest (reverse cs)) ∙ ap (λ l. flat_map (tree m) (l ++ reverse rest)) (reverse-reverse cs) ∙ flat_map-append (tree m) cs (reverse rest) in
      before ∙ ap (λ l. l ++ flat_map (tree m) (reverse rest)) (tree-is o) ∙ ap (λ l. o ∷ l) (sym after)

  -- what a walk has and is to have stays the same
  pub walk_on : (order longer stack higher rest : List ObjId) (o : ObjId) → stack ≡ rest ++ o ∷ [] → longer ≡ order ++ o ∷ [] → higher ≡ rest ++ reverse (contents m o)
      → longer ++ flat_map (tree m) (reverse higher) ≡ order ++ flat_map (tree m) (reverse stack)
  walk_on order longer stack higher rest o e l h =
      let next : List ObjId = flat_map (tree m) (reverse (rest ++ reverse (contents m o))) in
      ap (λ xs. longer ++ flat_map (tree m) (reverse xs)) h
      ∙ ap (λ xs. xs ++ next) l
      ∙ append_assoc order (o ∷ []) next
      ∙ ap (λ xs. order ++ xs) (sym (walk_step rest o))
      ∙ ap (λ xs. order ++ flat_map (tree m) (reverse xs)) (sym e)

  -- and less is to come
  pub walk_falls : (stack higher rest : List ObjId) (o : ObjId) → stack ≡ rest ++ o ∷ [] → higher ≡ rest ++ reverse (contents m o)
      → length (flat_map (tree m) (reverse higher)) < length (flat_map (tree m) (reverse stack))
  walk_falls stack higher rest o e h =
      let step = ap length (ap (λ xs. flat_map (tree m) (reverse xs)) e ∙ walk_step rest o ∙ ap (λ xs. o ∷ flat_map (tree m) (reverse xs)) (sym h)) in
      omega (arith, step)

-- the contents by one feature more
pub contents_more : (meta : Parts) (fs : List FeatId) (slots : List (List Cellv)) (at : ℕ) (d : FeatId) (cells : List Cellv) (list longer : List ObjId) → at < length fs → at < length slots
    → cells ≡ slice_index_or slots at cells → longer ≡ list ++ (if contains meta (slice_index_or fs at d) then objects_of cells else [])
    → longer ++ contents_in meta (drop (at + 1) fs) (drop (at + 1) slots) ≡ list ++ contents_in meta (drop at fs) (drop at slots)
contents_more meta fs slots at d cells list longer h k e is =
    let f : FeatId = slice_index_or fs at d in
    let same : cells ≡ slice_index_or slots at [] = e ∙ get_or_default slots at cells [] k in
    let rest : List ObjId = contents_in meta (drop (at + 1) fs) (drop (at + 1) slots) in
    let here : contents_in meta (drop at fs) (drop at slots) ≡ (if contains meta f then objects_of cells else []) ++ rest =
    ap (λ xs. contents_in meta xs (drop at slots)) (drop_more fs at d h)
    ∙ ap (contents_in meta (f ∷ drop (at + 1) fs)) (drop_more slots at [] k)
    ∙ ap (λ (c : List Cellv). (if contains meta f then objects_of c else []) ++ rest) (sym same) in
    ap (λ l. l ++ rest) is ∙ append_assoc list (if contains meta f then objects_of cells else []) rest ∙ ap (λ l. list ++ l) (sym here)

-- ## Those that pass

-- one more, at the end
pub AreThose-take : {X : Type 0} (P : X → Type 0) (xs ys : List X) (x : X) → AreThose P xs ys → P x → AreThose P (xs ++ x ∷ []) (ys ++ x ∷ [])
AreThose-take P _ _ x none p = taken p none
AreThose-take P _ _ x (taken {x = y} q rest) p = taken q (AreThose-take P _ _ x rest p)
AreThose-take P _ _ x (passed {x = y} q rest) p = passed q (AreThose-take P _ _ x rest p)

pub AreThose-pass : {X : Type 0} (P : X → Type 0) (xs ys : List X) (x : X) → AreThose P xs ys → ¬ (P x) → AreThose P (xs ++ x ∷ []) ys
AreThose-pass P _ _ x none p = passed p none
AreThose-pass P _ _ x (taken {x = y} q rest) p = taken q (AreThose-pass P _ _ x rest p)
AreThose-pass P _ _ x (passed {x = y} q rest) p = passed q (AreThose-pass P _ _ x rest p)

-- of one place more
pub those_take : {X : Type 0} (P : X → Type 0) (xs : List X) (i : ℕ) (d : X) (ys more : List X) → i < length xs → AreThose P (take i xs) ys → P (slice_index_or xs i d)
    → more ≡ ys ++ slice_index_or xs i d ∷ [] → AreThose P (take (i + 1) xs) more
those_take P xs i d ys more h those p e =
    subst (λ l. AreThose P l more) (sym (take_more xs i d h)) (subst (AreThose P (take i xs ++ slice_index_or xs i d ∷ [])) (sym e) (AreThose-take P (take i xs) ys (slice_index_or xs i d) those p))

pub those_pass : {X : Type 0} (P : X → Type 0) (xs : List X) (i : ℕ) (d : X) (ys : List X) → i < length xs → AreThose P (take i xs) ys → ¬ (P (slice_index_or xs i d)) → AreThose P (take (i + 1) xs) ys
those_pass P xs i d ys h those p = subst (λ l. AreThose P l ys) (sym (take_more xs i d h)) (AreThose-pass P (take i xs) ys (slice_index_or xs i d) those p)
