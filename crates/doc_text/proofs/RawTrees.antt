-- The trees that reading builds grow at their end.
use Rattle.std.proofs.Common.{◌≡◌, ℕ, List, [], ◌∷◌, ◌++◌, refl, ap, sym, ◌∙◌}
use Rattle.std.specs.Prelude.{map}
use Rattle.doc_text.specs.Raw.{Start, Tree, Trees, Node, Words, Nil, Also, add_text}
use Rattle.doc_text.specs.declared.reading.raw.RawTree.{RawTree, map-RawTree, fold_out-RawTree}
use Rattle.doc_text.specs.declared.reading.raw.RawTree.TheVariants as raw
use Rattle.doc_text.specs.RawTrees.{grown_by, tree_layer, tree_of, trees_of}

pub words_tree : (text : List ℕ) → tree_of (raw.Words text) ≡ Words text
unfolding tree_of
words_tree text = fold_out-RawTree Tree tree_layer (raw.Words text) ∙ ap (λ l. tree_layer (map-RawTree RawTree Tree tree_of l)) (raw.outs-Words text)

pub node_tree : (tag : Start) (inner : List RawTree) → tree_of (raw.Node tag inner) ≡ Node tag (trees_of inner)
unfolding tree_of
node_tree tag inner = fold_out-RawTree Tree tree_layer (raw.Node tag inner) ∙ ap (λ l. tree_layer (map-RawTree RawTree Tree tree_of l)) (raw.outs-Node tag inner)

grows : (ts : Trees) (xs : List RawTree) (x : RawTree) → grown_by ts (map tree_of (xs ++ (x ∷ []))) ≡ Also (grown_by ts (map tree_of xs)) (tree_of x)
grows ts [] x = refl
grows ts (y ∷ xs) x = grows (Also ts (tree_of y)) xs x

pub trees_more : (xs : List RawTree) (x : RawTree) → trees_of (xs ++ (x ∷ [])) ≡ Also (trees_of xs) (tree_of x)
trees_more xs x = grows Nil xs x

pub trees_words : (xs : List RawTree) (text : List ℕ) → trees_of (xs ++ (raw.Words text ∷ [])) ≡ Also (trees_of xs) (Words text)
trees_words xs text = trees_more xs (raw.Words text) ∙ ap (Also (trees_of xs)) (words_tree text)

pub trees_node : (xs : List RawTree) (tag : Start) (inner : List RawTree) → trees_of (xs ++ (raw.Node tag inner ∷ [])) ≡ Also (trees_of xs) (Node tag (trees_of inner))
trees_node xs tag inner = trees_more xs (raw.Node tag inner) ∙ ap (Also (trees_of xs)) (node_tree tag inner)

-- a character behind text
pub behind_words : (xs : List RawTree) (text bytes : List ℕ) → trees_of (xs ++ (raw.Words (text ++ bytes) ∷ [])) ≡ add_text bytes (trees_of (xs ++ (raw.Words text ∷ [])))
behind_words xs text bytes = trees_words xs (text ++ bytes) ∙ sym (ap (add_text bytes) (trees_words xs text))

-- and behind an element
pub behind_node : (xs : List RawTree) (tag : Start) (inner : List RawTree) (bytes : List ℕ) → trees_of ((xs ++ (raw.Node tag inner ∷ [])) ++ (raw.Words bytes ∷ [])) ≡ add_text bytes (trees_of (xs ++ (raw.Node tag inner ∷ [])))
behind_node xs tag inner bytes = trees_words (xs ++ (raw.Node tag inner ∷ [])) bytes
    ∙ ap (λ ts. Also ts (Words bytes)) (trees_node xs tag inner) ∙ sym (ap (add_text bytes) (trees_node xs tag inner))

-- what add_char leaves, by what stood at the end
pub adds_first : (old kept new : List RawTree) (text bytes : List ℕ) → old ≡ [] → kept ≡ [] → text ≡ bytes → new ≡ kept ++ (raw.Words text ∷ []) → trees_of new ≡ add_text bytes (trees_of old)
adds_first old kept new text bytes o k t n =
    ap trees_of (n ∙ ap (λ l. l ++ (raw.Words text ∷ [])) k ∙ ap (λ l. raw.Words l ∷ []) t) ∙ trees_words [] bytes ∙ sym (ap (λ l. add_text bytes (trees_of l)) o)

pub adds_words : (old kept new : List RawTree) (text more bytes : List ℕ) → old ≡ kept ++ (raw.Words text ∷ []) → more ≡ text ++ bytes → new ≡ kept ++ (raw.Words more ∷ []) → trees_of new ≡ add_text bytes (trees_of old)
adds_words old kept new text more bytes o m n =
    ap trees_of (n ∙ ap (λ l. kept ++ (raw.Words l ∷ [])) m) ∙ behind_words kept text bytes ∙ sym (ap (λ l. add_text bytes (trees_of l)) o)

pub adds_node : (old kept back new : List RawTree) (tag : Start) (inner : List RawTree) (text bytes : List ℕ) → old ≡ kept ++ (raw.Node tag inner ∷ []) → back ≡ kept ++ (raw.Node tag inner ∷ []) → text ≡ bytes → new ≡ back ++ (raw.Words text ∷ []) → trees_of new ≡ add_text bytes (trees_of old)
adds_node old kept back new tag inner text bytes o b t n =
    ap trees_of (n ∙ ap (λ l. l ++ (raw.Words text ∷ [])) b ∙ ap (λ l. (kept ++ (raw.Node tag inner ∷ [])) ++ (raw.Words l ∷ [])) t) ∙ behind_node kept tag inner bytes ∙ sym (ap (λ l. add_text bytes (trees_of l)) o)
