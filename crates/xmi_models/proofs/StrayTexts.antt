-- Text that is not blank, among the texts of an element.
use Rattle.std.proofs.Common.{◌≡◌, List, [], ◌∷◌, ◌++◌, refl, ap}
use Rattle.std.specs.Prelude.{◌||◌}
use Rattle.std.specs.List.{list_any}
use Rattle.doc_text.specs.declared.tree.Child.{Child, out-Child}
use Rattle.doc_text.specs.declared.tree.Child.TheOpen as layer
use Rattle.doc_text.specs.declared.tree.Element.{Element}
use Rattle.xmi_text.specs.Markup.{is_loud as is_loud_child}
use Rattle.xmi_models.specs.Faults.{is_loud}
use Rattle.xmi_models.specs.Entries.{words_in, texts_in}

pub loud_is : (cs : List Child) → list_any (λ c. is_loud_child (out-Child c)) cs ≡ list_any is_loud (texts_in cs)
loud_is [] = refl
loud_is (c ∷ cs) = by (out-Child c) (loud_is cs)
  where
    by : (l : layer.Child-F Child Element) → list_any (λ c. is_loud_child (out-Child c)) cs ≡ list_any is_loud (texts_in cs)
        → (is_loud_child l || list_any (λ c. is_loud_child (out-Child c)) cs) ≡ list_any is_loud (words_in l ++ texts_in cs)
    by (layer.Sub e) h = h
    by (layer.Words text) h = ap (λ b. is_loud text || b) h
