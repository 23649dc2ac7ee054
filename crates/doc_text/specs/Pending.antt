-- What is still to be written while elements are open: of each, from the innermost out, its next children and its end tag.
use Rattle.std.specs.Prelude.{ℕ, suc, ◌+◌, List, [], ◌∷◌, ◌++◌, length, map, drop}
use Rattle.std.specs.List.{flat_map}
use Rattle.doc_text.specs.declared.tree.Prefix.{Prefix}
use Rattle.doc_text.specs.declared.write.Open.{Open}
use Rattle.doc_text.specs.Written.{lines, indent, end_tag, written_child}

-- the outermost of them stands behind base elements
abbrev pub pending : List Prefix → ℕ → List Open → List ℕ
pending ds base [] = []
pending ds base (o ∷ os) = let e = o.element.now in
    flat_map (lines (suc (base + length os))) (map (written_child ds) (drop o.next e.children)) ++ (indent (base + length os) ++ (end_tag ds e.space e.name ++ pending ds base os))
