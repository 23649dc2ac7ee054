-- What tells an attribute from the others of its start tag: a declaration by its prefix, any other by the namespace
-- and the local part of its name.
use Rattle.std.specs.Prelude.{ℕ, List, [], Bool, true, false, ◌&&◌, if◌then◌else◌, bytes_eq, Option, Some}
use Rattle.std.specs.Option.{option_map}
use Rattle.doc_text.specs.Raw.{Name, Start}
use Rattle.doc_text.specs.Namespaces.{is_declaration, declared_prefix, attribute_space}

pub record Key : Type 0 where
  pub declares : Bool
  pub space : List ℕ
  pub local : List ℕ

abbrev pub declaring : List ℕ → Key
declaring prefix = record { declares = true; space = []; local = prefix }

abbrev pub naming : List ℕ → List ℕ → Key
naming s n = record { declares = false; space = s; local = n }

-- none where the prefix is not declared
abbrev pub key_of : List Start → Name → Option Key
key_of open_tags n = if is_declaration n then Some (declaring (declared_prefix n)) else option_map (λ s. naming s n.local) (attribute_space n open_tags)

abbrev pub same : Bool → Bool → Bool
same true true = true
same true false = false
same false true = false
same false false = true

abbrev pub is_same : Key → Key → Bool
is_same k l = same k.declares l.declares && (bytes_eq k.space l.space && bytes_eq k.local l.local)

abbrev pub are_same : Option Key → Option Key → Bool
are_same (Some k) (Some l) = is_same k l
are_same k l = false
