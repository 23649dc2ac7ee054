-- The text of a target of none or several elements: the element around them, and their lines.
use Rattle.std.proofs.Common.{◌≡◌, ◌≢◌, ℕ, List, [], ◌∷◌, ◌++◌, length, Option, None, codes, ap, sym, ◌∙◌, refl, append_assoc, arith}
use Rattle.std.specs.Prelude.{map}
use Rattle.std.specs.List.{flat_map}
use Rattle.doc_text.specs.declared.tree.Child.{Child}
use Rattle.doc_text.specs.declared.tree.Child.TheVariants.{Sub}
use Rattle.doc_text.specs.declared.tree.Element.{Element}
use Rattle.doc_text.specs.declared.tree.Prefix.{Prefix}
use Rattle.doc_text.specs.Names.{xmi_space}
use Rattle.doc_text.specs.Written.{lines, written_element, written_child, declaration, opening, end_tag, lone_text}
use Rattle.doc_text.proofs.WrittenElements.{child_is}
use Rattle.doc_text.proofs.Opened.{lines_of, written_empty, written_lines}
use Rattle.atl_cli.specs.declared.one_rule.OneRule.{OneRule}
use Rattle.atl_cli.specs.Flat.{element, item, version, namespaces, text_of}

-- the element around them, with these children
abbrev around : List ℕ → List Child → Element
around space children = element xmi_space (codes "XMI") (namespaces space) (version ∷ []) children

-- its line up to the attributes, and its end tag
abbrev pub begin : List ℕ → List ℕ
begin space = opening (namespaces space) xmi_space (codes "XMI") (namespaces space) (version ∷ []) 0

abbrev pub finish : List ℕ → List ℕ
finish space = end_tag (namespaces space) xmi_space (codes "XMI")

sub_lines : (ds : List Prefix) (es : List Element) → lines_of ds 0 (map Sub es) ≡ flat_map (λ e. written_element ds e 1) es
sub_lines ds [] = refl
sub_lines ds (e ∷ es) =
    ap (λ w. lines 1 w ++ lines_of ds 0 (map Sub es)) (child_is ds e) ∙ ap (λ l. written_element ds e 1 ++ l) (sub_lines ds es)

item_lines : (ds : List Prefix) (m : OneRule) (vs : List (Option (List ℕ))) → flat_map (λ e. written_element ds e 1) (map (item m) vs) ≡ flat_map (λ v. written_element ds (item m v) 1) vs
item_lines ds m [] = refl
item_lines ds m (v ∷ vs) = ap (λ l. written_element ds (item m v) 1 ++ l) (item_lines ds m vs)

no_lone : (ds : List Prefix) (e : Element) (es : List Element) → None ≡ lone_text (map (written_child ds) (map Sub (e ∷ es)))
no_lone ds e es = sym (ap (λ w. lone_text (w ∷ map (written_child ds) (map Sub es))) (child_is ds e))

pub none_text : (m : OneRule) → text_of m [] ≡ declaration ++ (begin m.target_metamodel ++ codes "/>\n")
none_text m = ap (λ l. declaration ++ l) (written_empty (namespaces m.target_metamodel) (around m.target_metamodel []) 0 refl)

pub several_text : (m : OneRule) (u v : Option (List ℕ)) (vs : List (Option (List ℕ))) →
    text_of m (map (item m) (u ∷ (v ∷ vs))) ≡ declaration ++ (begin m.target_metamodel ++ (codes ">\n" ++ (flat_map (λ w. written_element (namespaces m.target_metamodel) (item m w) 1) (u ∷ (v ∷ vs)) ++ finish m.target_metamodel)))
several_text m u v vs =
    let ds = namespaces m.target_metamodel in
    let es : List Element = map (item m) (u ∷ (v ∷ vs)) in
    ap (λ l. declaration ++ l) (written_lines ds (around m.target_metamodel (map Sub es)) 0 (λ h. absurd (omega arith)) (no_lone ds (item m u) (map (item m) (v ∷ vs)))
    ∙ ap (λ l. begin m.target_metamodel ++ (codes ">\n" ++ (l ++ finish m.target_metamodel))) (sub_lines ds es ∙ item_lines ds m (u ∷ (v ∷ vs))))

-- what was put out in pieces is that text
pub none_put : (m : OneRule) (vs : List (Option (List ℕ))) (a b c : List ℕ) → length vs ≡ 0 → a ≡ declaration → b ≡ a ++ begin m.target_metamodel → c ≡ b ++ codes "/>\n" → c ≡ text_of m (map (item m) vs)
none_put m [] a b c h ea eb ec = ec ∙ ap (λ l. l ++ codes "/>\n") (eb ∙ ap (λ l. l ++ begin m.target_metamodel) ea) ∙ append_assoc declaration (begin m.target_metamodel) (codes "/>\n") ∙ sym (none_text m)
none_put m (v ∷ vs) a b c h ea eb ec = absurd (omega arith)

pub several_put : (m : OneRule) (vs : List (Option (List ℕ))) (a b c d e : List ℕ) → length vs ≢ 1 → (length vs ≡ 0 → ⊥) → a ≡ declaration → b ≡ a ++ begin m.target_metamodel → c ≡ b ++ codes ">\n" →
    d ≡ c ++ flat_map (λ w. written_element (namespaces m.target_metamodel) (item m w) 1) vs → e ≡ d ++ finish m.target_metamodel → e ≡ text_of m (map (item m) vs)
several_put m [] a b c d e one some ea eb ec ed ee = absurd (some refl)
several_put m (v ∷ []) a b c d e one some ea eb ec ed ee = absurd (one refl)
several_put m (u ∷ (v ∷ vs)) a b c d e one some ea eb ec ed ee =
    let rows : List ℕ = flat_map (λ w. written_element (namespaces m.target_metamodel) (item m w) 1) (u ∷ (v ∷ vs)) in
    let end : List ℕ = finish m.target_metamodel in
    let start : List ℕ = begin m.target_metamodel in
    ee ∙ ap (λ l. l ++ end) (ed ∙ ap (λ l. l ++ rows) (ec ∙ ap (λ l. l ++ codes ">\n") (eb ∙ ap (λ l. l ++ start) ea)))
    ∙ append_assoc ((declaration ++ start) ++ codes ">\n") rows end ∙ append_assoc (declaration ++ start) (codes ">\n") (rows ++ end) ∙ append_assoc declaration start (codes ">\n" ++ (rows ++ end))
    ∙ sym (several_text m u v vs)

-- by the element that the code made, and its declarations
pub opened_around : (space : List ℕ) (ds : List Prefix) (e : Element) (a b : List ℕ) → ds ≡ e.declared → e ≡ around space [] → b ≡ a ++ opening ds e.space e.name e.declared e.attributes 0 → b ≡ a ++ begin space
opened_around space ds e a b d is h =
    h ∙ ap (λ l. a ++ opening l e.space e.name e.declared e.attributes 0) d ∙ ap (λ x. a ++ opening x.declared x.space x.name x.declared x.attributes 0) is

pub rows_around : (space : List ℕ) (ds : List Prefix) (e : Element) (m : OneRule) (vs : List (Option (List ℕ))) (a b : List ℕ) → ds ≡ e.declared → e ≡ around space [] →
    b ≡ a ++ flat_map (λ w. written_element ds (item m w) 1) vs → b ≡ a ++ flat_map (λ w. written_element (namespaces space) (item m w) 1) vs
rows_around space ds e m vs a b d is h =
    h ∙ ap (λ l. a ++ flat_map (λ w. written_element l (item m w) 1) vs) (d ∙ ap (λ x. x.declared) is)

pub ended_around : (space : List ℕ) (ds : List Prefix) (e : Element) (a b : List ℕ) → ds ≡ e.declared → e ≡ around space [] → b ≡ a ++ end_tag ds e.space e.name → b ≡ a ++ finish space
ended_around space ds e a b d is h =
    h ∙ ap (λ l. a ++ end_tag l e.space e.name) d ∙ ap (λ x. a ++ end_tag x.declared x.space x.name) is
