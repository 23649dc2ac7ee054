-- The namespaces that models are written with (XMI 2.0; XML Schema, Structures), and names behind their prefixes.
use Rattle.std.specs.Prelude.{ℕ, List, [], ◌∷◌, ◌++◌, codes, find}
use Rattle.std.specs.Option.{option_map_or}
use Rattle.std.specs.Str.{bytes_eq}
use Rattle.doc_text.specs.declared.tree.Prefix.{Prefix}

abbrev pub xmi_space : List ℕ
xmi_space = codes "http://www.omg.org/XMI"

abbrev pub xsi_space : List ℕ
xsi_space = codes "http://www.w3.org/2001/XMLSchema-instance"

-- the prefix that is declared for a namespace, the first of several
abbrev pub prefix_of : List Prefix → List ℕ → List ℕ
prefix_of ds space = option_map_or (λ d. d.prefix) (find (λ d. bytes_eq d.uri space) ds) []

-- a name as it is written: behind the prefix of its namespace, where it is in one
abbrev pub written_name : List Prefix → List ℕ → List ℕ → List ℕ
written_name ds [] name = name
written_name ds (c ∷ cs) name = prefix_of ds (c ∷ cs) ++ (codes ":" ++ name)
