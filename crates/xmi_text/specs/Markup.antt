-- Elements as Ecore writes them: attributes by name, child elements, names behind their prefixes, words between blanks.
-- (XMI 2.0; Namespaces in XML 1.0; XML Schema, Structures: xsi:type.)
use Rattle.std.specs.Prelude.{ℕ, ◌==◌, ◌&&◌, ◌||◌, not, Bool, false, List, [], ◌∷◌, ◌++◌, find, codes, bytes_eq, Option, Some, None, option_map, if◌then◌else◌}
use Rattle.std.specs.Option.{option_map_or}
use Rattle.std.specs.List.{list_all, list_any}
use Rattle.doc_text.specs.Names.{xsi_space}
use Rattle.doc_text.specs.declared.tree.Attribute.{Attribute}
use Rattle.doc_text.specs.declared.tree.Child.{Child, out-Child}
use Rattle.doc_text.specs.declared.tree.Child.TheOpen as layer
use Rattle.doc_text.specs.declared.tree.Element.{Element}
use Rattle.doc_text.specs.declared.tree.Prefix.{Prefix}

abbrev pub ecore_space : List ℕ
ecore_space = codes "http://www.eclipse.org/emf/2002/Ecore"

-- An element, and the declarations that are in force at it, its own first.
pub record Site : Type 0 where
  pub element : Element
  pub scope : List Prefix

abbrev pub site : List Prefix → Element → Site
site outer e = record { element = e; scope = e.declared ++ outer }

-- ## Attributes

abbrev pub is_called : List ℕ → List ℕ → Attribute → Bool
is_called space name a = bytes_eq a.space space && bytes_eq a.name name

abbrev pub given_in : List ℕ → List ℕ → Element → Option (List ℕ)
given_in space name e = option_map (λ a. a.value) (find (is_called space name) e.attributes)

-- an attribute without a namespace
abbrev pub given : List ℕ → Element → Option (List ℕ)
given = given_in []

abbrev pub or_empty : Option (List ℕ) → List ℕ
or_empty (Some text) = text
or_empty None = []

abbrev pub is_text : List ℕ → List ℕ → Bool
is_text word text = bytes_eq text word

-- whether a flag is set
abbrev pub flag : List ℕ → Element → Bool
flag name e = option_map_or (is_text (codes "true")) (given name e) false

-- a flag that is neither `true` nor `false`
abbrev pub is_bad_flag : Element → List ℕ → Bool
is_bad_flag e name = option_map_or (λ text. not (is_text (codes "true") text || is_text (codes "false") text)) (given name e) false

-- ## What stands in an element

abbrev pub elements_in : layer.Child-F Child Element → List Element
elements_in (layer.Sub e) = e ∷ []
elements_in (layer.Words text) = []

abbrev pub is_blank : ℕ → Bool
is_blank c = c == 32 || c == 9 || c == 10 || c == 13

abbrev pub is_loud : layer.Child-F Child Element → Bool
is_loud (layer.Sub e) = false
is_loud (layer.Words text) = not (list_all is_blank text)

abbrev pub sub_elements : List Child → List Element
sub_elements [] = []
sub_elements (c ∷ cs) = elements_in (out-Child c) ++ sub_elements cs

-- whether text that is not blank stands in an element
abbrev pub has_text : Element → Bool
has_text e = list_any (λ c. is_loud (out-Child c)) e.children

-- ## Names behind prefixes

abbrev pub before_colon : List ℕ → Option (List ℕ)
before_colon [] = None
before_colon (c ∷ cs) = if c == 58 then Some [] else option_map (λ rest. c ∷ rest) (before_colon cs)

abbrev pub behind_colon : List ℕ → List ℕ
behind_colon [] = []
behind_colon (c ∷ cs) = if c == 58 then cs else behind_colon cs

-- the namespace of a prefix; without a declaration the empty prefix has none
abbrev pub uri_in : List Prefix → List ℕ → Option (List ℕ)
uri_in scope prefix = option_map_or (λ d. Some d.uri) (find (λ d. bytes_eq d.prefix prefix) scope) (if bytes_eq prefix [] then Some [] else None)

-- whether a text in an attribute names this, in Ecore's namespace
abbrev pub names_local : List Prefix → List ℕ → List ℕ → List ℕ → Bool
names_local scope prefix local name = option_map_or (is_text ecore_space) (uri_in scope prefix) false && bytes_eq local name

abbrev pub names : List Prefix → List ℕ → List ℕ → Bool
names scope text name = option_map_or (λ prefix. names_local scope prefix (behind_colon text) name) (before_colon text) (names_local scope [] text name)

-- whether an element has this type of Ecore's
abbrev pub is_typed : List ℕ → Site → Bool
is_typed name s = option_map_or (λ text. names s.scope text name) (given_in xsi_space (codes "type") s.element) false

-- ## Words

abbrev pub and_word : List ℕ → List (List ℕ) → List (List ℕ)
and_word [] words = words
and_word (c ∷ cs) words = (c ∷ cs) ∷ words

-- what stands between blanks, behind a word that has begun
abbrev pub words_from : List ℕ → List ℕ → List (List ℕ)
words_from word [] = and_word word []
words_from word (c ∷ cs) = if is_blank c then and_word word (words_from [] cs) else words_from (word ++ (c ∷ [])) cs

abbrev pub words_of : List ℕ → List (List ℕ)
words_of text = words_from [] text
