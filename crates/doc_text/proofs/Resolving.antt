-- Resolving the names of a tree, item by item: the attributes of a tag and the children of an element.
use Rattle.std.proofs.Common.{◌≡◌, ℕ, suc, ◌+◌, ◌≤◌, List, [], ◌∷◌, ◌++◌, refl, ap, sym, ◌∙◌, append_assoc, append-nil, arith}
use Rattle.std.proofs.lemmas.List.{map-append, reverse-append, reverse-reverse}
use Rattle.std.specs.Prelude.{Bool, true, false, map, reverse, ◌&&◌, ◌||◌, if◌then◌else◌}
use Rattle.std.specs.List.{list_any, list_all}
use Rattle.doc_text.specs.Encodings.{is_blank_byte}
use Rattle.doc_text.specs.Raw.{Pair, Start, Tree, Trees, Node, Words, Nil, Also}
use Rattle.doc_text.specs.Namespaces.{is_declaration, declared_prefix, declared_of, attribute_space, attributes_of, or_empty, has_element, is_blank_text, element, children}
use Rattle.doc_text.specs.RawTrees.{grown_by, tree_of, trees_of}
use Rattle.doc_text.specs.Resolving.{is_node}
use Rattle.doc_text.specs.declared.reading.raw.RawTree.{RawTree}
use Rattle.doc_text.specs.declared.reading.raw.RawTree.TheVariants as raw
use Rattle.doc_text.proofs.RawTrees.{trees_node, trees_words}
use Rattle.doc_text.specs.declared.tree.Attribute.{Attribute}
use Rattle.doc_text.specs.declared.tree.Child.{Child}
use Rattle.doc_text.specs.declared.tree.Child.TheVariants as W
use Rattle.doc_text.specs.declared.tree.Child.TheVariants.{Sub}
use Rattle.doc_text.specs.declared.tree.Element.{Element}
use Rattle.doc_text.specs.declared.tree.Prefix.{Prefix as SomePrefix}

-- a list whose item stands or not
abbrev put : {B : Type 0} → Bool → B → List B → List B
put b x l = if b then x ∷ l else l

put_append : {B : Type 0} (b : Bool) (x : B) (l m : List B) → put b x (l ++ m) ≡ put b x l ++ m
put_append true x l m = refl
put_append false x l m = refl

put_one : {B : Type 0} (b : Bool) (x : B) → reverse (put b x []) ≡ put b x []
put_one true x = refl
put_one false x = refl

abbrev out : {B : Type 0} → Bool → B → List B → List B
out b x l = if b then l else x ∷ l

out_append : {B : Type 0} (b : Bool) (x : B) (l m : List B) → out b x (l ++ m) ≡ out b x l ++ m
out_append true x l m = refl
out_append false x l m = refl

out_one : {B : Type 0} (b : Bool) (x : B) → reverse (out b x []) ≡ out b x []
out_one true x = refl
out_one false x = refl

abbrev prefix_in : Pair → SomePrefix
prefix_in a = record { prefix = declared_prefix a.name; uri = a.value }

abbrev attribute_in : List Start → Pair → Attribute
attribute_in open_tags a = record { space = or_empty (attribute_space a.name open_tags); name = a.name.local; value = a.value }

declared_append : (xs ys : List Pair) → declared_of (xs ++ ys) ≡ declared_of xs ++ declared_of ys
declared_append [] ys = refl
declared_append (a ∷ xs) ys = ap (put (is_declaration a.name) (prefix_in a)) (declared_append xs ys) ∙ put_append (is_declaration a.name) (prefix_in a) (declared_of xs) (declared_of ys)

attributes_append : (open_tags : List Start) (xs ys : List Pair) → attributes_of open_tags (xs ++ ys) ≡ attributes_of open_tags xs ++ attributes_of open_tags ys
attributes_append open_tags [] ys = refl
attributes_append open_tags (a ∷ xs) ys = ap (out (is_declaration a.name) (attribute_in open_tags a)) (attributes_append open_tags xs ys)
    ∙ out_append (is_declaration a.name) (attribute_in open_tags a) (attributes_of open_tags xs) (attributes_of open_tags ys)

split_step : {B : Type 0} (f : List Pair → List B) (xs old : List Pair) (p : Pair) (done new whole : List B) → f (xs ++ (p ∷ [])) ≡ f xs ++ f (p ∷ []) → reverse (f (p ∷ [])) ≡ f (p ∷ []) →
    old ≡ xs ++ (p ∷ []) → f old ++ reverse done ≡ whole → new ≡ done ++ f (p ∷ []) → f xs ++ reverse new ≡ whole
split_step f xs old p done new whole splits one is so_far more =
    ap (λ l. f xs ++ reverse l) more ∙ ap (λ l. f xs ++ l) (reverse-append done (f (p ∷ [])) ∙ ap (λ l. l ++ reverse done) one)
    ∙ sym (append_assoc (f xs) (f (p ∷ [])) (reverse done)) ∙ ap (λ l. l ++ reverse done) (sym splits ∙ sym (ap f is)) ∙ so_far

-- one attribute fewer is left, and one more is split
pub declared_step : (xs old : List Pair) (p : Pair) (done new whole : List SomePrefix) →
    old ≡ xs ++ (p ∷ []) → declared_of old ++ reverse done ≡ whole → new ≡ done ++ declared_of (p ∷ []) → declared_of xs ++ reverse new ≡ whole
declared_step xs old p done new whole = split_step declared_of xs old p done new whole (declared_append xs (p ∷ [])) (put_one (is_declaration p.name) (prefix_in p))

pub attributes_step : (open_tags : List Start) (xs old : List Pair) (p : Pair) (done new whole : List Attribute) →
    old ≡ xs ++ (p ∷ []) → attributes_of open_tags old ++ reverse done ≡ whole → new ≡ done ++ attributes_of open_tags (p ∷ []) → attributes_of open_tags xs ++ reverse new ≡ whole
attributes_step open_tags xs old p done new whole = split_step (attributes_of open_tags) xs old p done new whole (attributes_append open_tags xs (p ∷ [])) (out_one (is_declaration p.name) (attribute_in open_tags p))

-- what stands last in two equal lists, and before it
pub last_same : {B : Type 0} (xs ys : List B) (x y : B) → xs ++ (x ∷ []) ≡ ys ++ (y ∷ []) → (xs ≡ ys) × (x ≡ y)
last_same xs ys x y e =
    let turned : x ∷ reverse xs ≡ y ∷ reverse ys = sym (reverse-append xs (x ∷ [])) ∙ ap reverse e ∙ reverse-append ys (y ∷ []) in
    let fronts : reverse xs ≡ reverse ys = cc in
    (sym (reverse-reverse xs) ∙ ap reverse fronts ∙ reverse-reverse ys, cc)

pub spaces_step : (f : Pair → List ℕ) (xs old : List Pair) (p : Pair) (ss olds : List (List ℕ)) (s : List ℕ) → old ≡ xs ++ (p ∷ []) → olds ≡ ss ++ (s ∷ []) → olds ≡ map f old →
    (ss ≡ map f xs) × (s ≡ f p)
spaces_step f xs old p ss olds s is are all = last_same ss (map f xs) s (f p) (sym are ∙ all ∙ ap (map f) is ∙ map-append f xs (p ∷ []))

-- whether an element is among the children
or_true : (b : Bool) → (b || true) ≡ true
or_true true = refl
or_true false = refl

or_false : (b : Bool) → (b || false) ≡ b
or_false true = refl
or_false false = refl

or_assoc : (a b c : Bool) → ((a || b) || c) ≡ (a || (b || c))
or_assoc true b c = refl
or_assoc false b c = refl

has_one : (ts : Trees) (t : Tree) → has_element (Also ts t) ≡ (has_element ts || is_node t)
has_one ts (Node t us) = sym (or_true (has_element ts))
has_one ts (Words s) = sym (or_false (has_element ts))

has_grown : (ts : Trees) (xs : List RawTree) → has_element (grown_by ts (map tree_of xs)) ≡ (has_element ts || list_any (λ x. is_node (tree_of x)) xs)
has_grown ts [] = sym (or_false (has_element ts))
has_grown ts (x ∷ xs) = has_grown (Also ts (tree_of x)) xs ∙ ap (λ b. b || list_any (λ y. is_node (tree_of y)) xs) (has_one ts (tree_of x))
    ∙ or_assoc (has_element ts) (is_node (tree_of x)) (list_any (λ y. is_node (tree_of y)) xs)

pub has_any : (xs : List RawTree) → list_any (λ x. is_node (tree_of x)) xs ≡ has_element (trees_of xs)
has_any xs = sym (has_grown Nil xs)

pub blank_all : (cs : List ℕ) → list_all is_blank_byte cs ≡ is_blank_text cs
blank_all [] = refl
blank_all (c ∷ cs) = ap (λ b. is_blank_byte c && b) (blank_all cs)

-- how much is to be resolved
abbrev mutual
  pub weight : Tree → ℕ
  weight (Node t us) = suc (weights us)
  weight (Words s) = 1

  pub weights : Trees → ℕ
  weights Nil = 0
  weights (Also ts t) = weights ts + weight t

-- what stands last, taken
pub popped_node : (old new : List RawTree) (x : RawTree) (t : Start) (inner : List RawTree) → old ≡ new ++ (x ∷ []) → x ≡ raw.Node t inner → trees_of old ≡ Also (trees_of new) (Node t (trees_of inner))
popped_node old new x t inner is at = ap trees_of (is ∙ ap (λ y. new ++ (y ∷ [])) at) ∙ trees_node new t inner

pub popped_words : (old new : List RawTree) (x : RawTree) (text : List ℕ) → old ≡ new ++ (x ∷ []) → x ≡ raw.Words text → trees_of old ≡ Also (trees_of new) (Words text)
popped_words old new x text is at = ap trees_of (is ∙ ap (λ y. new ++ (y ∷ [])) at) ∙ trees_words new text

pub inner_lighter : (old ts us : Trees) (t : Start) → old ≡ Also ts (Node t us) → weights us + 1 ≤ weights old
inner_lighter old ts us t is = omega (arith, ap weights is)

pub rest_lighter : (old ts : Trees) (t : Tree) → old ≡ Also ts t → weights ts ≤ weights old
rest_lighter old ts t is = omega (arith, ap weights is)

-- an element fewer is left, and one more is resolved
pub node_step : (around : List Start) (beside : Bool) (old ts us : Trees) (t : Start) (e : Element) (done new whole : List Child) →
    e ≡ element around t (children (t ∷ around) (has_element us) us) → old ≡ Also ts (Node t us) → children around beside old ++ reverse done ≡ whole → new ≡ done ++ (Sub e ∷ []) →
    children around beside ts ++ reverse new ≡ whole
node_step around beside old ts us t e done new whole is popped so_far more =
    ap (λ l. children around beside ts ++ reverse l) more ∙ ap (λ l. children around beside ts ++ l) (reverse-append done (Sub e ∷ []))
    ∙ sym (append_assoc (children around beside ts) (Sub e ∷ []) (reverse done))
    ∙ ap (λ x. (children around beside ts ++ (Sub x ∷ [])) ++ reverse done) is
    ∙ ap (λ l. children around beside l ++ reverse done) (sym popped) ∙ so_far

-- and so a text that is kept
pub kept_step : (around : List Start) (beside : Bool) (old ts : Trees) (text : List ℕ) (done new whole : List Child) →
    (beside && list_all is_blank_byte text) ≡ false → old ≡ Also ts (Words text) → children around beside old ++ reverse done ≡ whole → new ≡ done ++ (W.Words text ∷ []) →
    children around beside ts ++ reverse new ≡ whole
kept_step around beside old ts text done new whole is popped so_far more =
    ap (λ l. children around beside ts ++ reverse l) more ∙ ap (λ l. children around beside ts ++ l) (reverse-append done (W.Words text ∷ []))
    ∙ sym (append_assoc (children around beside ts) (W.Words text ∷ []) (reverse done))
    ∙ ap (λ b. (children around beside ts ++ (if b then [] else W.Words text ∷ [])) ++ reverse done) (sym is ∙ ap (λ b. beside && b) (blank_all text))
    ∙ ap (λ l. children around beside l ++ reverse done) (sym popped) ∙ so_far

-- and one that is dropped
pub dropped_step : (around : List Start) (beside : Bool) (old ts : Trees) (text : List ℕ) (done whole : List Child) →
    (beside && list_all is_blank_byte text) ≡ true → old ≡ Also ts (Words text) → children around beside old ++ reverse done ≡ whole → children around beside ts ++ reverse done ≡ whole
dropped_step around beside old ts text done whole is popped so_far =
    ap (λ l. l ++ reverse done) (sym (append-nil (children around beside ts)))
    ∙ ap (λ b. (children around beside ts ++ (if b then [] else W.Words text ∷ [])) ++ reverse done) (sym is ∙ ap (λ b. beside && b) (blank_all text))
    ∙ ap (λ l. children around beside l ++ reverse done) (sym popped) ∙ so_far
