-- What is written of an element, by its children: none, a lone text, or lines; and what is pending then.
use Rattle.std.proofs.Common.{◌≡◌, ℕ, suc, ◌+◌, ◌<◌, ◌≤◌, List, [], ◌∷◌, ◌++◌, length, drop, get_or, Some, None, Result, Ok, Err, OnOk, codes, ap, sym, ◌∙◌, refl, append_assoc, add-one, drop-cons, arith}
use Rattle.std.specs.Prelude.{map, reverse}
use Rattle.std.specs.List.{flat_map}
use Rattle.std.proofs.lemmas.List.{drop_all, nil_from_length, reverse-append, length-reverse}
use Rattle.doc_text.specs.declared.escape.Escapes.TheVariants as escape
use Rattle.doc_text.specs.declared.tree.Child.{Child}
use Rattle.doc_text.specs.declared.tree.Element.{Element}
use Rattle.doc_text.specs.declared.tree.Prefix.{Prefix}
use Rattle.doc_text.specs.declared.write.Open.{Open}
use Rattle.doc_text.specs.Escapes.{escaped}
use Rattle.doc_text.specs.Pending.{pending}
use Rattle.doc_text.specs.Written.{Written, Lines, Words, lines, indent, written_element, written_child, opening, contents, end_tag, lone_text}
use Rattle.doc_text.proofs.WrittenElements.{element_is}

pub OnOk-map : {T E A B : Type 0} (r : Result T E) → (A → B) → OnOk r A → OnOk r B
OnOk-map (Ok x) f h = f h
OnOk-map (Err x) f h = h

abbrev pub opened : List Prefix → Element → ℕ → List ℕ
opened ds e depth = opening ds e.space e.name e.declared e.attributes depth

abbrev pub ended : List Prefix → Element → List ℕ
ended ds e = end_tag ds e.space e.name

pub written_empty : (ds : List Prefix) (e : Element) (depth : ℕ) → length e.children ≡ 0 → written_element ds e depth ≡ opened ds e depth ++ codes "/>\n"
written_empty ds e depth h =
    element_is ds e depth ∙ ap (λ cs. opened ds e depth ++ contents (ended ds e) depth (map (written_child ds) cs)) (nil_from_length e.children h)

text_contents : (end : List ℕ) (depth : ℕ) (cs : List Written) (text : List ℕ) → Some text ≡ lone_text cs → contents end depth cs ≡ codes ">" ++ (flat_map (escaped escape.Text) text ++ end)
text_contents end depth [] text h = cc
text_contents end depth (Words t ∷ []) text h = let e : text ≡ t = cc in ap (λ u. codes ">" ++ (flat_map (escaped escape.Text) u ++ end)) (sym e)
text_contents end depth (Words t ∷ (c ∷ cs)) text h = cc
text_contents end depth (Lines at ∷ cs) text h = cc

pub written_text : (ds : List Prefix) (e : Element) (depth : ℕ) (text : List ℕ) → Some text ≡ lone_text (map (written_child ds) e.children) →
    written_element ds e depth ≡ opened ds e depth ++ (codes ">" ++ (flat_map (escaped escape.Text) text ++ ended ds e))
written_text ds e depth text h = element_is ds e depth ∙ ap (λ l. opened ds e depth ++ l) (text_contents (ended ds e) depth (map (written_child ds) e.children) text h)

abbrev pub lines_of : List Prefix → ℕ → List Child → List ℕ
lines_of ds depth cs = flat_map (lines (suc depth)) (map (written_child ds) cs)

line_contents : (end : List ℕ) (depth : ℕ) (c : Written) (cs : List Written) → None ≡ lone_text (c ∷ cs) → contents end depth (c ∷ cs) ≡ codes ">\n" ++ (flat_map (lines (suc depth)) (c ∷ cs) ++ (indent depth ++ end))
line_contents end depth (Words t) [] h = cc
line_contents end depth (Words t) (c ∷ cs) h = refl
line_contents end depth (Lines at) cs h = refl

child_lines : (ds : List Prefix) (end : List ℕ) (depth : ℕ) (cs : List Child) → (length cs ≡ 0 → ⊥) → None ≡ lone_text (map (written_child ds) cs) →
    contents end depth (map (written_child ds) cs) ≡ codes ">\n" ++ (lines_of ds depth cs ++ (indent depth ++ end))
child_lines ds end depth [] some h = absurd (some refl)
child_lines ds end depth (c ∷ cs) some h = line_contents end depth (written_child ds c) (map (written_child ds) cs) h

pub written_lines : (ds : List Prefix) (e : Element) (depth : ℕ) → (length e.children ≡ 0 → ⊥) → None ≡ lone_text (map (written_child ds) e.children) →
    written_element ds e depth ≡ opened ds e depth ++ (codes ">\n" ++ (lines_of ds depth e.children ++ (indent depth ++ ended ds e)))
written_lines ds e depth some h = element_is ds e depth ∙ ap (λ l. opened ds e depth ++ l) (child_lines ds (ended ds e) depth e.children some h)

-- what was put out in two pieces, before what is pending
pub joined : (out mid new piece more whole rest : List ℕ) → mid ≡ out ++ piece → new ≡ mid ++ more → whole ≡ piece ++ more → new ++ rest ≡ out ++ (whole ++ rest)
joined out mid new piece more whole rest a b w =
    ap (λ l. l ++ rest) (b ∙ ap (λ l. l ++ more) a ∙ append_assoc out piece more ∙ ap (λ l. out ++ l) (sym w)) ∙ append_assoc out whole rest

-- what is pending of an element that is open, behind those around it
pub pending_is : (ds : List Prefix) (base depth : ℕ) (e : Element) (o : Open) (os : List Open) (cs : List Child) → o.element.now ≡ e → drop o.next e.children ≡ cs → base + length os ≡ depth →
    pending ds base (o ∷ os) ≡ lines_of ds depth cs ++ (indent depth ++ (ended ds e ++ pending ds base os))
pending_is ds base depth e o os cs oe rest d =
    ap (λ u. lines_of ds (base + length os) (drop o.next u.children) ++ (indent (base + length os) ++ (ended ds u ++ pending ds base os))) oe
    ∙ ap (λ r. lines_of ds (base + length os) r ++ (indent (base + length os) ++ (ended ds e ++ pending ds base os))) rest
    ∙ ap (λ n. lines_of ds n cs ++ (indent n ++ (ended ds e ++ pending ds base os))) d

-- an element that has just begun
pub begun : (ds : List Prefix) (base depth : ℕ) (e : Element) (o : Open) (os new : List Open) (out mid last : List ℕ) → o.element.now ≡ e → o.next ≡ 0 → new ≡ os ++ o ∷ [] → base + length os ≡ depth →
    (length e.children ≡ 0 → ⊥) → None ≡ lone_text (map (written_child ds) e.children) → mid ≡ out ++ opened ds e depth → last ≡ mid ++ codes ">\n" →
    last ++ pending ds base (reverse new) ≡ out ++ (written_element ds e depth ++ pending ds base (reverse os))
begun ds base depth e o os new out mid last oe on s d some h m l =
    let deeper : base + length (reverse os) ≡ depth = omega (arith, length-reverse os) in
    let turned : reverse new ≡ o ∷ reverse os = ap reverse s ∙ reverse-append os (o ∷ []) in
    let rest : List ℕ = pending ds base (reverse os) in
    let lines : List ℕ = lines_of ds depth e.children in
    let tail : List ℕ = lines ++ (indent depth ++ ended ds e) in
    let p : pending ds base (reverse new) ≡ tail ++ rest =
    ap (pending ds base) turned
    ∙ pending_is ds base depth e o (reverse os) e.children oe (ap (λ n. drop n e.children) on) deeper
    ∙ ap (λ t. lines ++ t) (sym (append_assoc (indent depth) (ended ds e) rest)) ∙ sym (append_assoc lines (indent depth ++ ended ds e) rest) in
    ap (λ t. last ++ t) p ∙ sym (append_assoc last tail rest)
    ∙ joined out mid (last ++ tail) (opened ds e depth) (codes ">\n" ++ tail) (written_element ds e depth) rest m
    (ap (λ t. t ++ tail) l ∙ append_assoc mid (codes ">\n") tail) (written_lines ds e depth some h)

drop_next : (cs : List Child) (i : ℕ) (c : Child) → i < length cs → c ≡ get_or cs i c → drop i cs ≡ c ∷ drop (i + 1) cs
drop_next cs i c within at = rw (add-one, drop-cons cs i c) (ap (λ x. x ∷ drop (suc i) cs) (sym at))

-- the next child of the innermost element
pub next_child : (ds : List Prefix) (base depth : ℕ) (e : Element) (o p : Open) (os : List Open) (c : Child) → o.element.now ≡ e → p.element.now ≡ e → p.next ≡ o.next + 1 → o.next < length e.children → c ≡ get_or e.children o.next c → base + length os ≡ depth →
    pending ds base (o ∷ os) ≡ lines (suc depth) (written_child ds c) ++ pending ds base (p ∷ os)
next_child ds base depth e o p os c oe pe n within at d =
    let more : drop o.next e.children ≡ c ∷ drop (o.next + 1) e.children =
    drop_next e.children o.next c within at in
    let here : List ℕ = lines (suc depth) (written_child ds c) in
    let after : List ℕ = lines_of ds depth (drop (o.next + 1) e.children) in
    let tail : List ℕ = indent depth ++ (ended ds e ++ pending ds base os) in
    pending_is ds base depth e o os (c ∷ drop (o.next + 1) e.children) oe more d
    ∙ append_assoc here after tail
    ∙ ap (λ t. here ++ t) (sym (pending_is ds base depth e p os (drop (o.next + 1) e.children) pe (ap (λ k. drop k e.children) n) d))

-- the innermost element without further children
pub no_child : (ds : List Prefix) (base depth : ℕ) (e : Element) (o : Open) (os : List Open) → o.element.now ≡ e → length e.children ≤ o.next → base + length os ≡ depth →
    pending ds base (o ∷ os) ≡ indent depth ++ (ended ds e ++ pending ds base os)
no_child ds base depth e o os oe past d = pending_is ds base depth e o os [] oe (drop_all o.next e.children past) d

-- the steps of the loop: the innermost element ends, or its next child follows
pub end_step : (ds : List Prefix) (base depth : ℕ) (e : Element) (o : Open) (os : List Open) (out mid new : List ℕ) → o.element.now ≡ e → length e.children ≤ o.next → base + length os ≡ depth →
    mid ≡ out ++ indent depth → new ≡ mid ++ ended ds e → new ++ pending ds base (reverse os) ≡ out ++ pending ds base (o ∷ reverse os)
end_step ds base depth e o os out mid new oe past d m n =
    let rest : List ℕ = pending ds base (reverse os) in
    let deeper : base + length (reverse os) ≡ depth = omega (arith, length-reverse os) in
    ap (λ l. l ++ rest) (n ∙ ap (λ l. l ++ ended ds e) m) ∙ append_assoc (out ++ indent depth) (ended ds e) rest ∙ append_assoc out (indent depth) (ended ds e ++ rest)
    ∙ ap (λ l. out ++ l) (sym (no_child ds base depth e o (reverse os) oe past deeper))

pub child_step : (ds : List Prefix) (base depth : ℕ) (e : Element) (o p : Open) (os pushed after : List Open) (c : Child) (out new : List ℕ) → o.element.now ≡ e → p.element.now ≡ e → p.next ≡ o.next + 1 →
    o.next < length e.children → c ≡ get_or e.children o.next c → base + length os ≡ depth → pushed ≡ os ++ p ∷ [] →
    new ++ pending ds base (reverse after) ≡ out ++ (lines (depth + 1) (written_child ds c) ++ pending ds base (reverse pushed)) →
    new ++ pending ds base (reverse after) ≡ out ++ pending ds base (o ∷ reverse os)
child_step ds base depth e o p os pushed after c out new oe pe n within at d s step =
    let deeper : base + length (reverse os) ≡ depth = omega (arith, length-reverse os) in
    let turned : reverse pushed ≡ p ∷ reverse os = ap reverse s ∙ reverse-append os (p ∷ []) in
    step ∙ ap (λ r. out ++ (lines (depth + 1) (written_child ds c) ++ pending ds base r)) turned
    ∙ ap (λ k. out ++ (lines k (written_child ds c) ++ pending ds base (p ∷ reverse os))) (add-one depth)
    ∙ ap (λ l. out ++ l) (sym (next_child ds base depth e o p (reverse os) c oe pe n within at deeper))
