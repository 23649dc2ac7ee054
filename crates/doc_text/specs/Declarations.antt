-- Namespace declarations (Namespaces in XML 1.0, section 3): which attributes are one, the prefix that each declares,
-- and where a prefix is declared first.
use Rattle.std.specs.Prelude.{ℕ, suc, List, [], ◌∷◌, Bool, if◌then◌else◌, ◌&&◌, ◌||◌, bytes_eq, codes, Option, Some, None}
use Rattle.std.specs.Option.{option_map}
use Rattle.doc_text.specs.declared.state.Name.{Name}
use Rattle.doc_text.specs.declared.state.Pair.{Pair}

-- `xmlns` and `xmlns:p`
abbrev pub is_default : Name → Bool
is_default n = bytes_eq n.prefix [] && bytes_eq n.local (codes "xmlns")

abbrev pub is_declaration : Name → Bool
is_declaration n = is_default n || bytes_eq n.prefix (codes "xmlns")

-- the prefix that a declaration declares
abbrev pub declared_prefix : Name → List ℕ
declared_prefix n = if is_default n then [] else n.local

abbrev pub declares : List ℕ → Pair → Bool
declares p a = is_declaration a.name && bytes_eq (declared_prefix a.name) p

-- the place of the first attribute that declares a prefix
abbrev pub first_of : List ℕ → List Pair → Option ℕ
first_of p [] = None
first_of p (a ∷ rest) = if declares p a then Some 0 else option_map (λ i. suc i) (first_of p rest)
