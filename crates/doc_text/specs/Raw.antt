-- A document before its names are resolved: start tags with names as written, and elements of these.
use Rattle.std.specs.Prelude.{ℕ, List, ◌++◌, Bool, ◌&&◌, bytes_eq}
pub use Rattle.doc_text.specs.declared.state.Name.{Name}
pub use Rattle.doc_text.specs.declared.state.Pair.{Pair}
pub use Rattle.doc_text.specs.declared.state.Start.{Start}
use Rattle.atl_base.specs.declared.place.Place.{Place}

abbrev pub called : Place → List ℕ → List ℕ → Name
called p q n = record { at = p; prefix = q; local = n }

abbrev pub pair : Name → List ℕ → Pair
pair n v = record { name = n; value = v }

abbrev pub start : Place → Name → List Pair → Start
start p n ps = record { at = p; name = n; pairs = ps }

abbrev pub same_name : Name → Name → Bool
same_name m n = bytes_eq m.prefix n.prefix && bytes_eq m.local n.local

-- an element with what stands in it, or text
mutual
  pub data Tree : Type 0 where
    Node : Start → Trees → Tree
    Words : List ℕ → Tree

  pub data Trees : Type 0 where
    Nil : Trees
    Also : Trees → Tree → Trees

-- neighbouring text is one child
abbrev pub add_text : List ℕ → Trees → Trees
add_text bytes Nil = Also Nil (Words bytes)
add_text bytes (Also ts (Words text)) = Also ts (Words (text ++ bytes))
add_text bytes (Also ts (Node s us)) = Also (Also ts (Node s us)) (Words bytes)
