-- A document has no more elements and attributes than it has bytes.
use Rattle.std.proofs.Common.{◌≡◌, ℕ, suc, ◌+◌, ◌≤◌, List, [], ◌∷◌, ◌++◌, length, map, refl, ap, sym, subst, ◌∙◌, arith}
use Rattle.std.specs.Prelude.{Bool, true, false, ◌==◌, ◌&&◌, encode_utf8, if◌then◌else◌}
use Rattle.std.proofs.lemmas.List.{length-append, map-append}
use Rattle.doc_text.specs.Symbols.{Kind, Symbol, mark, utf8, kind_of, quote, Less, Greater, Slash, Equals, Question, Colon, Semicolon, Dash, Blank}
use Rattle.doc_text.specs.Characters.{characters, place, placed, symbols, without_mark}
use Rattle.doc_text.specs.Encodings.{encoding_of}
use Rattle.doc_text.specs.Form as F
use Rattle.doc_text.specs.Markup.{Run, No, More, spelt, Plain, plain_spelt, QName, Unprefixed, Prefixed, name_spelt, Reference, EntityRef, CharRef, HexCharRef, reference_spelt, Values, Empty, Char, Refer, values_spelt, Gap, gap_spelt, Attribute, attribute_spelt, Attributes, Alone, Further, attributes_spelt, pairs_of, value_of, name_of, character_of, target_of, Tag, tag_spelt, ETag, end_spelt, Remarks, Silent, Undashed, Dashed, remarks_spelt, Aside, Comment, PI, PISaying, aside_spelt}
use Rattle.doc_text.specs.Namespaces.{attributes_of, attribute_space, children, element, has_element, is_blank_text, or_empty, resolved}
use Rattle.doc_text.specs.Declarations.{is_declaration}
use Rattle.doc_text.specs.Raw.{Pair, pair, Start, Tree, Node, Words, Trees, Nil, Also, add_text}
use Rattle.doc_text.specs.Reading.{IsDocumentOf, Resolves}
use Rattle.doc_text.specs.declared.tree.Attribute.{Attribute as SomeAttribute}
use Rattle.doc_text.specs.declared.tree.Child.{Child}
use Rattle.doc_text.specs.declared.tree.Child.TheVariants as W
use Rattle.doc_text.specs.declared.tree.Element.{Element}
use Rattle.doc_text.proofs.Lengths.{decoded_len, mark_len}
use Rattle.doc_text.proofs.Texts.{prolog_cut}
use Rattle.doc_text.specs.Sizes.{total, size_of_element, size_of_child}
use Rattle.doc_text.proofs.Sizes.{element_is, sub_is, words_is}

-- ## Elements and attributes of a tree

abbrev mutual
  tree_size : Tree → ℕ
  tree_size (Node t ts) = suc (length t.pairs + trees_size ts)
  tree_size (Words text) = 0

  trees_size : Trees → ℕ
  trees_size Nil = 0
  trees_size (Also ts t) = trees_size ts + tree_size t

text_size : (bytes : List ℕ) (ts : Trees) → trees_size (add_text bytes ts) ≡ trees_size ts
text_size bytes Nil = refl
text_size bytes (Also ts (Words text)) = refl
text_size bytes (Also ts (Node s us)) = omega arith

-- ## Its names resolved

unless : (b : Bool) (n : ℕ) (x : SomeAttribute) (xs : List SomeAttribute) → length xs ≤ n → length (if b then xs else x ∷ xs) ≤ suc n
unless true n x xs h = omega (arith, h)
unless false n x xs h = omega (arith, h)

fewer : (open_tags : List Start) (pairs : List Pair) → length (attributes_of open_tags pairs) ≤ length pairs
fewer open_tags [] = omega arith
fewer open_tags (a ∷ rest) =
    let own : SomeAttribute = record { space = or_empty (attribute_space a.name open_tags); name = a.name.local; value = a.value } in
    unless (is_declaration a.name) (length rest) own (attributes_of open_tags rest) (fewer open_tags rest)

total_append : (ns ms : List ℕ) → total (ns ++ ms) ≡ total ns + total ms
total_append [] ms = omega arith
total_append (n ∷ ns) ms = omega (arith, total_append ns ms)

abbrev within : List Child → ℕ
within cs = total (map size_of_child cs)

within_more : (cs : List Child) (c : Child) → within (cs ++ c ∷ []) ≡ within cs + size_of_child c
within_more cs c = ap total (map-append size_of_child cs (c ∷ [])) ∙ total_append (map size_of_child cs) (size_of_child c ∷ []) ∙ omega arith

children_within : (outer : List Start) (beside : Bool) (ts : Trees) → within (children outer beside ts) ≤ trees_size ts
children_within outer beside Nil = omega arith
children_within outer beside (Also ts (Node t us)) =
    let e = element outer t (children (t ∷ outer) (has_element us) us) in
    omega (
      arith,
      children_within outer beside ts,
      element_is e,
      fewer (t ∷ outer) t.pairs,
      children_within (t ∷ outer) (has_element us) us,
      within_more (children outer beside ts) (W.Sub e),
      sub_is e,
    )
children_within outer beside (Also ts (Words s)) = on (beside && is_blank_text s) (children_within outer beside ts)
  where
    on : (b : Bool) → within (children outer beside ts) ≤ trees_size ts → within (children outer beside ts ++ (if b then [] else W.Words s ∷ [])) ≤ trees_size ts + 0
    on true h = omega (arith, h, ap total (map-append size_of_child (children outer beside ts) []), total_append (map size_of_child (children outer beside ts)) [])
    on false h = omega (arith, h, within_more (children outer beside ts) (W.Words s), words_is s)

element_within : (outer : List Start) (t : Start) (us : Trees) → size_of_element (element outer t (children (t ∷ outer) (has_element us) us)) ≤ suc (length t.pairs + trees_size us)
element_within outer t us =
    let e = element outer t (children (t ∷ outer) (has_element us) us) in
    omega (arith, element_is e, fewer (t ∷ outer) t.pairs, children_within (t ∷ outer) (has_element us) us)

root_within : (t : Tree) (root : Element) → Resolves t root → size_of_element root ≤ tree_size t
root_within (Node t ts) root is = subst (λ r. size_of_element r ≤ suc (length t.pairs + trees_size ts)) is (element_within [] t ts)
root_within (Words text) root is = absurd is

-- ## Its characters: none is in two of them

run_more : {of : Kind → Bool} (run : Run of) (rest : List Symbol) → length rest ≤ length (spelt run rest)
run_more No rest = omega arith
run_more (More run s h) rest = omega (arith, run_more run (s ∷ rest))

plain_more : (n : Plain) (rest : List Symbol) → suc (length rest) ≤ length (plain_spelt n rest)
plain_more n rest = omega (arith, run_more n.others rest)

name_more : (n : QName) (rest : List Symbol) → suc (length rest) ≤ length (name_spelt n rest)
name_more (Unprefixed n) rest = plain_more n rest
name_more (Prefixed q p n) rest = omega (arith, plain_more n rest, plain_more q (mark p Colon ∷ plain_spelt n rest))

reference_more : (r : Reference) (rest : List Symbol) → length rest ≤ length (reference_spelt r rest)
reference_more (EntityRef p n q) rest = omega (arith, plain_more n (mark q Semicolon ∷ rest))
reference_more (CharRef p h s e run q) rest = omega (arith, run_more run (mark q Semicolon ∷ rest))
reference_more (HexCharRef p h x i s e run q) rest = omega (arith, run_more run (mark q Semicolon ∷ rest))

values_more : {double : Bool} (v : Values double) (rest : List Symbol) → length rest ≤ length (values_spelt v rest)
values_more Empty rest = omega arith
values_more (Char v s h) rest = omega (arith, values_more v (s ∷ rest))
values_more (Refer v r) rest = omega (arith, values_more v (reference_spelt r rest), reference_more r rest)

gap_more : (g : Gap) (rest : List Symbol) → length rest ≤ length (gap_spelt g rest)
gap_more g rest = omega (arith, run_more g.blanks (g.last ∷ rest))

attribute_more : (a : Attribute) (rest : List Symbol) → suc (length rest) ≤ length (attribute_spelt a rest)
attribute_more a rest =
    let closed = mark a.closes (quote a.double) ∷ rest in
    let value = mark a.opens (quote a.double) ∷ values_spelt a.value closed in
    let equated = mark a.equals Equals ∷ spelt a.after value in
    omega (
      arith,
      values_more a.value closed,
      run_more a.after value,
      run_more a.before equated,
      name_more a.name (spelt a.before equated),
      gap_more a.gap (name_spelt a.name (spelt a.before equated)),
    )

attributes_more : (list : Attributes) (rest : List Symbol) → length (pairs_of list) + length rest ≤ length (attributes_spelt list rest)
attributes_more Alone rest = omega arith
attributes_more (Further list a) rest =
    omega (arith, attributes_more list (attribute_spelt a rest), attribute_more a rest, length-append (pairs_of list) (pair (name_of a.name) (value_of a.value) ∷ []))

tag_more : (t : Tag) (rest : List Symbol) → suc (length (pairs_of t.attributes)) + length rest ≤ length (tag_spelt t rest)
tag_more t rest =
    let blank = spelt t.blanks rest in
    omega (arith, run_more t.blanks rest, attributes_more t.attributes blank, name_more t.name (attributes_spelt t.attributes blank))

end_more : (e : ETag) (rest : List Symbol) → length rest ≤ length (end_spelt e rest)
end_more e rest =
    let closed = mark e.greater Greater ∷ rest in
    omega (arith, run_more e.blanks closed, name_more e.name (spelt e.blanks closed))

remarks_more : (c : Remarks) (rest : List Symbol) → length rest ≤ length (remarks_spelt c rest)
remarks_more Silent rest = omega arith
remarks_more (Undashed c s h) rest = omega (arith, remarks_more c (s ∷ rest))
remarks_more (Dashed c p s h) rest = omega (arith, remarks_more c (mark p Dash ∷ s ∷ rest))

aside_more : (a : Aside) (rest : List Symbol) → length rest ≤ length (aside_spelt a rest)
aside_more (Comment p q r s c t u v) rest = omega (arith, remarks_more c (mark t Dash ∷ mark u Dash ∷ mark v Greater ∷ rest))
aside_more (PI p q n h t u) rest = omega (arith, plain_more n (mark t Question ∷ mark u Greater ∷ rest))
aside_more (PISaying p q n h s e run g t u) rest =
    let closed = mark t Question ∷ mark u Greater ∷ rest in
    omega (arith, run_more run closed, plain_more n (s ∷ spelt run closed))

mutual
  element_more : (e : F.Element) (rest : List Symbol) → tree_size (F.tree_of e) + length rest ≤ length (F.element_spelt e rest)
  element_more (F.Full t g is e) rest =
      omega (arith, tag_more t (mark g Greater ∷ F.items_spelt is (end_spelt e rest)), items_more is (end_spelt e rest), end_more e rest)
  element_more (F.EmptyElem t s g) rest = omega (arith, tag_more t (mark s Slash ∷ mark g Greater ∷ rest))

  items_more : (is : F.Items) (rest : List Symbol) → trees_size (F.trees_of is) + length rest ≤ length (F.items_spelt is rest)
  items_more F.Nothing rest = omega arith
  items_more (F.Then is i) rest = omega (arith, items_more is (F.item_spelt i rest), item_more (F.trees_of is) i rest)

  item_more : (ts : Trees) (i : F.Item) (rest : List Symbol) → trees_size (F.grown ts i) + length rest ≤ trees_size ts + length (F.item_spelt i rest)
  item_more ts (F.Sub e) rest = omega (arith, element_more e rest)
  item_more ts (F.Text s h) rest = omega (arith, text_size (utf8 s.kind) ts)
  item_more ts (F.Referred r) rest = omega (arith, text_size (encode_utf8 (character_of (target_of r))) ts, reference_more r rest)
  item_more ts (F.Passed a) rest = omega (arith, aside_more a rest)

document_more : (d : F.Document) → tree_size (F.tree_of d.root) ≤ length (F.document_spelt d)
document_more d =
    let after = F.miscs_spelt d.epilog [] in
    let body = F.element_spelt d.root after in
    omega (arith, element_more d.root after, ap length (prolog_cut d.prolog [] body), length-append (F.prolog_spelt d.prolog []) body)

-- ## Its bytes

one_more : (a b r : Bool) (n : ℕ) (x y z : Symbol) (next : List Symbol) (behind : List Symbol) (on : List Symbol) → length next ≤ n → length behind ≤ n → length on ≤ n
    → length (if a then (if r then next else x ∷ next) else if b then y ∷ behind else z ∷ on) ≤ suc n
one_more true b true n x y z next behind on h k l = omega (arith, h)
one_more true b false n x y z next behind on h k l = omega (arith, h)
one_more false true r n x y z next behind on h k l = omega (arith, k)
one_more false false r n x y z next behind on h k l = omega (arith, l)

placed_within : (returned : Bool) (line column : ℕ) (cs : List ℕ) → length (placed returned line column cs) ≤ length cs
placed_within returned line column [] = omega arith
placed_within returned line column (c ∷ rest) =
    one_more (c == 10) (c == 13) returned (length rest) (mark (place line column) (Blank 10)) (mark (place line column) (Blank 10)) (mark (place line column) (kind_of c))
    (placed false (line + 1) 1 rest) (placed true line (column + 1) rest) (placed false line (column + 1) rest) (placed_within false (line + 1) 1 rest) (placed_within true line (column + 1) rest) (placed_within false line (column + 1) rest)

symbols_within : (bytes : List ℕ) → length (symbols bytes) ≤ length bytes
symbols_within bytes =
    omega (arith, placed_within false 1 1 (characters bytes), decoded_len (encoding_of (without_mark bytes)) (without_mark bytes), mark_len bytes)

pub document_within : (bytes : List ℕ) (root : Element) → IsDocumentOf bytes root → size_of_element root ≤ length bytes
document_within bytes root is =
    let t = is.1.0 in
    let d = is.1.1.0 in
    let spelt_so = is.1.1.2 in
    let tree = is.1.1.3 in
    let by_tree : tree_size t ≤ length (symbols bytes) =
    subst (λ x. tree_size x ≤ length (symbols bytes)) tree (subst (λ ss. tree_size (F.tree_of d.root) ≤ length ss) spelt_so (document_more d)) in
    omega (arith, root_within t root is.1.2, by_tree, symbols_within bytes)
