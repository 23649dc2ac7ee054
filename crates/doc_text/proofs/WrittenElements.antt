-- What is written of an element, by what is written of its children.
use Rattle.std.proofs.Common.{◌≡◌, ℕ, List, [], ◌∷◌, ◌++◌, length, get_or, Some, None, ap, sym, ◌∙◌, arith}
use Rattle.std.specs.Prelude.{map}
use Rattle.doc_text.specs.declared.tree.Child.{Child, map-Child, fold_out-Child}
use Rattle.doc_text.specs.declared.tree.Child.TheVariants as child
use Rattle.doc_text.specs.declared.tree.Element.{Element, fold_out-Element}
use Rattle.doc_text.specs.declared.tree.Prefix.{Prefix}
use Rattle.doc_text.specs.Written.{Written, Lines, Words, child_layer, written_layer, written_element, written_child, opening, contents, end_tag, lone_text}

pub element_is : (ds : List Prefix) (e : Element) (depth : ℕ) →
    written_element ds e depth ≡ opening ds e.space e.name e.declared e.attributes depth ++ contents (end_tag ds e.space e.name) depth (map (written_child ds) e.children)
unfolding written_element written_child
element_is ds e depth = ap (λ f. f depth) (fold_out-Element Written (ℕ → List ℕ) child_layer (written_layer ds) e)

pub child_is : (ds : List Prefix) (e : Element) → written_child ds (child.Sub e) ≡ Lines (written_element ds e)
unfolding written_element written_child
child_is ds e = fold_out-Child Written (ℕ → List ℕ) child_layer (written_layer ds) (child.Sub e)
    ∙ ap (λ l. child_layer (map-Child Child Element Written (ℕ → List ℕ) (written_child ds) (written_element ds) l)) (child.outs-Sub e)

pub words_are : (ds : List Prefix) (text : List ℕ) → written_child ds (child.Words text) ≡ Words text
unfolding written_element written_child
words_are ds text = fold_out-Child Written (ℕ → List ℕ) child_layer (written_layer ds) (child.Words text)
    ∙ ap (λ l. child_layer (map-Child Child Element Written (ℕ → List ℕ) (written_child ds) (written_element ds) l)) (child.outs-Words text)

-- a list of one element, by what stands at its only place
single : (xs : List Child) (x : Child) → length xs ≡ 1 → x ≡ get_or xs 0 x → xs ≡ x ∷ []
single [] x h e = cc
single (y ∷ []) x h e = ap (λ z. z ∷ []) (sym e)
single (y ∷ z ∷ ys) x h e = absurd (omega arith)

pub lone_words : (ds : List Prefix) (xs : List Child) (x : Child) (text : List ℕ) → length xs ≡ 1 → x ≡ get_or xs 0 x → x ≡ child.Words text → Some text ≡ lone_text (map (written_child ds) xs)
lone_words ds xs x text h e is =
    let whole : xs ≡ child.Words text ∷ [] = single xs x h e ∙ ap (λ z. z ∷ []) is in
    sym (ap (λ l. lone_text (map (written_child ds) l)) whole ∙ ap (λ w. lone_text (w ∷ [])) (words_are ds text))

pub lone_element : (ds : List Prefix) (xs : List Child) (x : Child) (e' : Element) → length xs ≡ 1 → x ≡ get_or xs 0 x → x ≡ child.Sub e' → None ≡ lone_text (map (written_child ds) xs)
lone_element ds xs x e' h e is =
    let whole : xs ≡ child.Sub e' ∷ [] = single xs x h e ∙ ap (λ z. z ∷ []) is in
    sym (ap (λ l. lone_text (map (written_child ds) l)) whole ∙ ap (λ w. lone_text (w ∷ [])) (child_is ds e'))
