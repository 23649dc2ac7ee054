-- What is found in the items that a loop has passed, and in those that are left.
use Rattle.std.proofs.Common.{◌≡◌, ℕ, ◌+◌, ◌<◌, List, ◌++◌, length, get_or, map, drop, refl, sym, ap, ◌∙◌, append_assoc, Bor}
use Rattle.std.specs.Prelude.{Bool, true, false, find, filter_map, flat_map, Option, Some, None, if◌then◌else◌}
use Rattle.std.specs.List.{cons_option}
use Rattle.std.proofs.lemmas.List.{at_drop_more}
use Rattle.doc_text.specs.declared.tree.Attribute.{Attribute}
use Rattle.doc_text.specs.declared.tree.Child.{Child, out-Child}
use Rattle.doc_text.specs.declared.tree.Child.TheOpen as layer
use Rattle.doc_text.specs.declared.tree.Child.TheVariants as child
use Rattle.doc_text.specs.declared.tree.Element.{Element}
use Rattle.ecore_meta.specs.declared.parts.Parts.{Parts}
use Rattle.xmi_models.specs.Outline.{Part}
use Rattle.xmi_models.specs.Faults.{foreign_in, all_foreign}
use Rattle.xmi_models.specs.Entries.{words_in, texts_in}
use Rattle.xmi_models.specs.FoundFaults.{first_value}
use Rattle.xmi_models.proofs.FirstFault.{first_left, first_right}

-- ## A first value

module _ {X : Type 0} (f : X → Option (List ℕ)) (xs : List X) (i : ℕ) (d : X) (l : i < length xs) where
  here : first_value (filter_map f (drop i xs)) ≡ first_value (cons_option (f (get_or xs i d)) (filter_map f (drop (i + 1) xs)))
  here = at_drop_more (λ ys. first_value (filter_map f ys)) xs i d l

  pub value_passed : None ≡ f (get_or xs i d) → first_value (filter_map f (drop (i + 1) xs)) ≡ first_value (filter_map f (drop i xs))
  value_passed h = ap (λ o. first_value (cons_option o (filter_map f (drop (i + 1) xs)))) h ∙ sym here

  pub value_found : (v : List ℕ) → Some v ≡ f (get_or xs i d) → Some v ≡ first_value (filter_map f (drop i xs))
  value_found v h = ap (λ o. first_value (cons_option o (filter_map f (drop (i + 1) xs)))) h ∙ sym here

-- ## A first word

module _ (p : List ℕ → Bool) (words : List (Bor (List ℕ))) (i : ℕ) (d : Bor (List ℕ)) (l : i < length words) where
  word_here : find p (map (λ w. w.now) (drop i words)) ≡ (if p (get_or words i d).now then Some (get_or words i d).now else find p (map (λ w. w.now) (drop (i + 1) words)))
  word_here = at_drop_more (λ ws. find p (map (λ w. w.now) ws)) words i d l

  pub word_passed : p (get_or words i d).now ≡ false → find p (map (λ w. w.now) (drop (i + 1) words)) ≡ find p (map (λ w. w.now) (drop i words))
  word_passed h = sym (word_here ∙ ap (λ b. if b then Some (get_or words i d).now else find p (map (λ w. w.now) (drop (i + 1) words))) h)

  pub word_found : p (get_or words i d).now ≡ true → Some (get_or words i d).now ≡ find p (map (λ w. w.now) (drop i words))
  word_found h = sym (word_here ∙ ap (λ b. if b then Some (get_or words i d).now else find p (map (λ w. w.now) (drop (i + 1) words))) h)

-- ## A first reference to another file

module _ (meta : Parts) (part : Part) (attributes : List Attribute) (i : ℕ) (d : Attribute) (l : i < length attributes) where
  abbrev rest : List (List ℕ)
  rest = all_foreign meta part (drop (i + 1) attributes)

  foreign_here : first_value (all_foreign meta part (drop i attributes)) ≡ first_value (foreign_in meta part (get_or attributes i d) ++ rest)
  foreign_here = at_drop_more (λ ys. first_value (all_foreign meta part ys)) attributes i d l

  pub foreign_passed : None ≡ first_value (foreign_in meta part (get_or attributes i d)) → first_value (all_foreign meta part (drop (i + 1) attributes)) ≡ first_value (all_foreign meta part (drop i attributes))
  foreign_passed h = first_right (first_value rest) (foreign_in meta part (get_or attributes i d)) rest h refl ∙ sym foreign_here

  pub foreign_found : (v : List ℕ) → Some v ≡ first_value (foreign_in meta part (get_or attributes i d)) → Some v ≡ first_value (all_foreign meta part (drop i attributes))
  foreign_found v h = first_left v (foreign_in meta part (get_or attributes i d)) rest h ∙ sym foreign_here

-- ## Texts

abbrev together : List (List ℕ) → List ℕ
together texts = flat_map (λ t. t) texts

module _ (children : List Child) (i : ℕ) (d : Child) (l : i < length children) (text : List ℕ) where
  text_here : text ++ together (texts_in (drop i children)) ≡ text ++ together (words_in (out-Child (get_or children i d)) ++ texts_in (drop (i + 1) children))
  text_here = at_drop_more (λ cs. text ++ together (texts_in cs)) children i d l

  abbrev by_layer : layer.Child-F Child Element → List ℕ
  by_layer c = text ++ together (words_in c ++ texts_in (drop (i + 1) children))

  pub words_more : (more : List ℕ) → get_or children i d ≡ child.Words more → (text ++ more) ++ together (texts_in (drop (i + 1) children)) ≡ text ++ together (texts_in (drop i children))
  words_more more h =
      append_assoc text more (together (texts_in (drop (i + 1) children)))
      ∙ sym (text_here ∙ ap (λ c. by_layer (out-Child c)) h ∙ ap by_layer (child.outs-Words more))

  pub element_more : (e : Element) → get_or children i d ≡ child.Sub e → text ++ together (texts_in (drop (i + 1) children)) ≡ text ++ together (texts_in (drop i children))
  element_more e h = sym (text_here ∙ ap (λ c. by_layer (out-Child c)) h ∙ ap by_layer (child.outs-Sub e))
