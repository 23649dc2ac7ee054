use Rattle.std.proofs.Common.{◌≡◌, ℕ, suc, ◌+◌, ◌<◌, List, [], ◌∷◌, ◌++◌, length, map, get_or, take, sym, ap, ◌∙◌, arith}
use Rattle.std.specs.Prelude.{IfSome, Option, Some, None}
use Rattle.std.proofs.lemmas.List.{map_push, take_more}
use Rattle.doc_text.specs.declared.tree.Child.{Child, map-Child, fold_out-Child}
use Rattle.doc_text.specs.declared.tree.Child.TheVariants as child
use Rattle.doc_text.specs.declared.tree.Element.{Element, fold_out-Element}
use Rattle.doc_text.specs.Sizes.{total, child_layer, size_layer, size_of_element, size_of_child}
use Rattle.xmi_links.proofs.tests.small.+size.Goals as goal

element_is : (e : Element) → size_of_element e ≡ suc (length e.attributes + total (map size_of_child e.children))
unfolding size_of_element size_of_child
element_is e = fold_out-Element ℕ ℕ child_layer size_layer e

sub_is : (e : Element) → size_of_child (child.Sub e) ≡ size_of_element e
unfolding size_of_element size_of_child
sub_is e = fold_out-Child ℕ ℕ child_layer size_layer (child.Sub e) ∙ ap (λ l. child_layer (map-Child Child Element ℕ ℕ size_of_child size_of_element l)) (child.outs-Sub e)

words_is : (text : List ℕ) → size_of_child (child.Words text) ≡ 0
unfolding size_of_element size_of_child
words_is text = fold_out-Child ℕ ℕ child_layer size_layer (child.Words text) ∙ ap (λ l. child_layer (map-Child Child Element ℕ ℕ size_of_child size_of_element l)) (child.outs-Words text)

total_push : (ns : List ℕ) (n : ℕ) → total (ns ++ n ∷ []) ≡ total ns + n
total_push [] n = omega arith
total_push (m ∷ ns) n = omega (arith, total_push ns n)

taken : (cs : List Child) (i : ℕ) (x : Child) → i < length cs → x ≡ get_or cs i x → total (map size_of_child (take (i + 1) cs)) ≡ total (map size_of_child (take i cs)) + size_of_child x
taken cs i x l is =
    ap (λ (l : List Child). total (map size_of_child l)) (take_more cs i x l ∙ ap (λ y. take i cs ++ y ∷ []) (sym is))
    ∙ ap total (map_push size_of_child (take i cs) x)
    ∙ total_push (map size_of_child (take i cs)) (size_of_child x)

if_some : {X : Type 0} {P Q : X → Type 0} (o : Option X) → ((x : X) → P x → Q x) → IfSome o P → IfSome o Q
if_some (Some x) f p = f x p
if_some None f p = p

pub past_child-returns-in-Sub : goal.past_child-returns-in-Sub
past_child-returns-in-Sub t c =
    let same : size_of_child c.args.child.now ≡ size_of_element c.in-Sub.element = ap size_of_child c.in-Sub.is ∙ sub_is c.in-Sub.element in
    if_some c.past_element.result (λ rest h. ap (λ n. rest + n) same ∙ h) c.past_element.ensures

pub past_child-returns-in-Words : goal.past_child-returns-in-Words
past_child-returns-in-Words t c = omega (arith, ap size_of_child c.in-Words.is, words_is c.in-Words.field-0)

pub past_children-loop-i-preserved : goal.past_children-loop-i-preserved
past_children-loop-i-preserved t c =
    omega (arith, taken c.args.children.now c.loop-i.i c.index-children-i.result c.loop-i-test.true c.index-children-i.is, c.in_ok-rest.ensures, c.loop-i.invariant)

pub past_element-returns : goal.past_element-returns
past_element-returns t c =
    let kids : total (map size_of_child c.as_slice.result.now) ≡ total (map size_of_child c.args.element.now.children) = ap (λ (l : List Child). total (map size_of_child l)) c.as_slice.ensures in
    if_some c.past_children.result (λ rest h. omega (arith, h, kids, element_is c.args.element.now, c.len-own.ensures, c.if-left-own.false)) c.past_children.ensures
