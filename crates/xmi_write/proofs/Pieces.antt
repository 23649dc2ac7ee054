-- What is put out piece by piece, and what it is in one.
use Rattle.std.proofs.Common.{◌≡◌, ℕ, ◌+◌, ◌<◌, List, [], ◌∷◌, ◌++◌, length, map, codes, refl, sym, ap, ◌∙◌, append_assoc, arith}
use Rattle.std.specs.List.{flat_map}
use Rattle.std.proofs.lemmas.List.{length-append}
use Rattle.atl_base.specs.declared.numbers.FeatId.{FeatId}
use Rattle.doc_text.specs.declared.escape.Escapes.TheVariants as escape
use Rattle.doc_text.specs.declared.tree.Child.TheVariants as child
use Rattle.doc_text.specs.declared.tree.Element.{Element}
use Rattle.doc_text.specs.declared.tree.Prefix.{Prefix}
use Rattle.doc_text.specs.Escapes.{escaped}
use Rattle.doc_text.specs.Written.{contents, end_tag, lines, opening, written_child, written_element}
use Rattle.doc_text.proofs.WrittenElements.{child_is, element_is, words_are}
use Rattle.model_store.specs.declared.parts.Cellv.{Cellv}
use Rattle.model_store.specs.Contents.{Contents}
use Rattle.model_store.specs.Texts.{value_text}
use Rattle.xmi_write.specs.Xmi.{declared, value_element, words}
use Rattle.xmi_write.proofs.Begun.{head_of}

pub three : (out a b new p q r : List ℕ) → a ≡ out ++ p → b ≡ a ++ q → new ≡ b ++ r → new ≡ out ++ (p ++ (q ++ r))
three out a b new p q r x y z =
    z ∙ ap (λ l. l ++ r) y ∙ append_assoc a q r ∙ ap (λ l. l ++ (q ++ r)) x ∙ append_assoc out p (q ++ r)

-- each piece is something
pub tag_grows : (out a new p q : List ℕ) (x : ℕ) → a ≡ out ++ p → new ≡ a ++ x ∷ q → length out < length new
tag_grows out a new p q x h k = omega (arith, ap length h, ap length k, length-append out p, length-append a (x ∷ q))

pub opening_grows : (out mid new p q r : List ℕ) (x : ℕ) → mid ≡ out ++ (p ++ x ∷ q) → new ≡ mid ++ r → length out < length new
opening_grows out mid new p q r x h k = omega (arith, ap length h, ap length k, length-append out (p ++ x ∷ q), length-append p (x ∷ q), length-append mid r)

-- what is written more is pending less
pub shrinks : (out new p q : List ℕ) → new ++ p ≡ out ++ q → length out < length new → length p < length q
shrinks out new p q e h = omega (arith, ap length e, length-append new p, length-append out q)

-- ## A text alone

module _ (ds : List Prefix) (end : List ℕ) where
  pub words_contents : (text : List ℕ) (depth : ℕ) → (length text ≡ 0 → ⊥) → contents end depth (map (written_child ds) (words text)) ≡ codes ">" ++ (flat_map (escaped escape.Text) text ++ end)
  words_contents [] depth h = absurd (h refl)
  words_contents (c ∷ cs) depth h = ap (λ w. contents end depth (w ∷ [])) (words_are ds (c ∷ cs))

  -- it stands in its element's line
  pub words_anywhere : (text : List ℕ) (depth : ℕ) → contents end 0 (map (written_child ds) (words text)) ≡ contents end depth (map (written_child ds) (words text))
  words_anywhere [] depth = refl
  words_anywhere (c ∷ cs) depth = words_contents (c ∷ cs) 0 some ∙ sym (words_contents (c ∷ cs) depth some)
    where
      some : length (c ∷ cs) ≡ 0 → ⊥
      some h = absurd (omega (arith, h))

module _ (m : Contents) (f : FeatId) (v : Cellv) (depth : ℕ) where
  abbrev opened : List Prefix → Element → List ℕ
  opened ds head = opening ds head.space head.name head.declared head.attributes depth

  abbrev inside : List Prefix → Element → ℕ → List ℕ → List ℕ
  inside ds head level text = contents (end_tag ds head.space head.name) level (map (written_child ds) (words text))

  pub value_is : (ds : List Prefix) (head : Element) (text out mid new : List ℕ) → ds ≡ declared m.meta → head ≡ head_of (value_element m f v) → text ≡ value_text m f v
      → mid ≡ out ++ opened ds head → new ≡ mid ++ inside ds head 0 text
      → new ≡ out ++ written_element (declared m.meta) (value_element m f v) depth
  value_is ds head text out mid new d h t a b =
      let e : Element = value_element m f v in
      b
      ∙ ap (λ (l : List ℕ). l ++ inside ds head 0 text) a
      ∙ append_assoc out (opened ds head) (inside ds head 0 text)
      ∙ ap (λ (l : List ℕ). out ++ (opened ds head ++ l)) (words_anywhere ds (end_tag ds head.space head.name) text depth)
      ∙ ap (λ (x : List Prefix). out ++ (opened x head ++ inside x head depth text)) d
      ∙ ap (λ (x : Element). out ++ (opened (declared m.meta) x ++ inside (declared m.meta) x depth text)) h
      ∙ ap (λ (x : List ℕ). out ++ (opened (declared m.meta) (head_of e) ++ inside (declared m.meta) (head_of e) depth x)) t
      ∙ ap (λ (l : List ℕ). out ++ l) (sym (element_is (declared m.meta) e depth))

-- ## What is pending of one thing

pub child_lines : (ds : List Prefix) (level depth : ℕ) (e : Element) → level ≡ depth → lines level (written_child ds (child.Sub e)) ≡ written_element ds e depth
child_lines ds level depth e d = ap (lines level) (child_is ds e) ∙ ap (written_element ds e) d
