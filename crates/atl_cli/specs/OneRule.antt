-- The module of one rule: module M ; create T : B from S : A ; rule R { from s : A ! C to t : B ! D ( f <- s . g ) },
-- where every name is a plain name and no keyword.
use Rattle.std.specs.Prelude.{◌≡◌, ◌≢◌, ℕ, ◌||◌, ◌&&◌, Bool, false, not, List, [], ◌∷◌, ◌++◌, map, IsTrue, AllPairs, codes, slice_index_or}
use Rattle.std.specs.List.{list_any, list_all}
use Rattle.std.specs.Str.{bytes_eq, chars}
use Rattle.atl_base.specs.XmlText.{IsXmlText}
use Rattle.atl_tree.specs.declared.token.Tokens.{Tokens}
use Rattle.atl_tree.specs.Tokens.{HasTokens}
use Rattle.atl_cli.specs.declared.one_rule.OneRule.{OneRule}
use Rattle.atl_cli.specs.Plain.{is_plain_name}

-- the words of modules and their rules, and those of expressions
unfoldable pub module_words : List (List ℕ)
module_words =
    codes "module" ∷ codes "create" ∷ codes "from" ∷ codes "refining" ∷ codes "uses" ∷ codes "query" ∷ codes "library"
    ∷ codes "helper" ∷ codes "context" ∷ codes "def" ∷ codes "rule" ∷ codes "lazy" ∷ codes "unique" ∷ codes "abstract"
    ∷ codes "entrypoint" ∷ codes "endpoint" ∷ codes "extends" ∷ codes "using" ∷ codes "to" ∷ codes "do" ∷ []

unfoldable pub expression_words : List (List ℕ)
expression_words =
    codes "if" ∷ codes "then" ∷ codes "else" ∷ codes "endif" ∷ codes "let" ∷ codes "in" ∷ codes "for" ∷ codes "and" ∷ codes "or"
    ∷ codes "xor" ∷ codes "implies" ∷ codes "not" ∷ codes "div" ∷ codes "mod" ∷ codes "true" ∷ codes "false" ∷ codes "self"
    ∷ codes "thisModule" ∷ codes "OclUndefined" ∷ []

unfoldable pub type_words : List (List ℕ)
type_words =
    codes "Sequence" ∷ codes "Set" ∷ codes "Bag" ∷ codes "OrderedSet" ∷ codes "Tuple" ∷ codes "TupleType" ∷ codes "Map"
    ∷ codes "String" ∷ codes "Integer" ∷ codes "Boolean" ∷ codes "Real" ∷ codes "OclAny" ∷ []

abbrev pub is_among : List ℕ → List (List ℕ) → Bool
is_among name words = list_any (λ w. bytes_eq name w) words

abbrev pub is_keyword : List ℕ → Bool
is_keyword name = is_among name module_words || (is_among name expression_words || is_among name type_words)

abbrev pub is_name : List ℕ → Bool
is_name name = is_plain_name name && not (is_keyword name)

-- the names that a document's header takes for itself
abbrev pub is_reserved : List ℕ → Bool
is_reserved name = bytes_eq name (codes "xml") || (bytes_eq name (codes "xmi") || (bytes_eq name (codes "xsi") || bytes_eq name (codes "xmlns")))

-- the texts of the tokens
abbrev pub header_words : OneRule → List (List ℕ)
header_words m =
    codes "module" ∷ m.module ∷ codes ";" ∷ codes "create" ∷ m.target ∷ codes ":" ∷ m.target_metamodel ∷ codes "from" ∷ m.source
    ∷ codes ":" ∷ m.source_metamodel ∷ codes ";" ∷ []

abbrev pub rule_words : OneRule → List (List ℕ)
rule_words m =
    codes "rule" ∷ m.rule ∷ codes "{" ∷ codes "from" ∷ m.matched ∷ codes ":" ∷ m.source_metamodel ∷ codes "!" ∷ m.class
    ∷ codes "to" ∷ m.made ∷ codes ":" ∷ m.target_metamodel ∷ codes "!" ∷ m.made_class
    ∷ codes "(" ∷ m.feature ∷ codes "<-" ∷ m.matched ∷ codes "." ∷ m.read ∷ codes ")" ∷ codes "}" ∷ []

abbrev pub spelled : OneRule → List (List ℕ)
spelled m = header_words m ++ rule_words m

abbrev pub header_names : OneRule → List (List ℕ)
header_names m = m.module ∷ m.target ∷ m.target_metamodel ∷ m.source ∷ m.source_metamodel ∷ []

abbrev pub rule_names : OneRule → List (List ℕ)
rule_names m = m.rule ∷ m.matched ∷ m.class ∷ m.made ∷ m.made_class ∷ m.feature ∷ m.read ∷ []

-- the models and the metamodels, under their names in the header
abbrev pub model_names : OneRule → List (List ℕ)
model_names m = m.target ∷ m.target_metamodel ∷ m.source ∷ m.source_metamodel ∷ []

-- Every name is one; the models and metamodels differ; no document's header takes a metamodel's name for itself; and the
-- two variables differ.
pub record HasNames (m : OneRule) : Type 0 where
  pub names : IsTrue (list_all is_name (header_names m ++ rule_names m))
  pub models : AllPairs (λ a b. a ≢ b) (model_names m)
  pub source_space : is_reserved m.source_metamodel ≡ false
  pub target_space : is_reserved m.target_metamodel ≡ false
  pub variables : m.made ≢ m.matched

pub record IsOneRule (text : List ℕ) (m : OneRule) : Type 0 where
  pub tokens : (ts : Tokens) × HasTokens (chars text) ts × (map (λ t. t.text) ts.list ≡ spelled m)
  pub names : HasNames m

-- bytes that are a text of the form
pub record IsModule (bytes : List ℕ) (m : OneRule) : Type 0 where
  pub text : IsXmlText bytes
  pub rule : IsOneRule bytes m

-- what texts make, whether or not they are of the form
abbrev pub made_of : List (List ℕ) → OneRule
made_of words = record {
  «module» = slice_index_or words 1 [];
  target = slice_index_or words 4 [];
  target_metamodel = slice_index_or words 6 [];
  source = slice_index_or words 8 [];
  source_metamodel = slice_index_or words 10 [];
  rule = slice_index_or words 13 [];
  matched = slice_index_or words 16 [];
  class = slice_index_or words 20 [];
  made = slice_index_or words 22 [];
  made_class = slice_index_or words 26 [];
  feature = slice_index_or words 28 [];
  read = slice_index_or words 32 [];
}

-- the same as tests
abbrev pub differ : List ℕ → List ℕ → Bool
differ a b = not (bytes_eq a b)

abbrev pub models_differ_in : OneRule → Bool
models_differ_in m =
    differ m.target m.target_metamodel && (differ m.target m.source && (differ m.target m.source_metamodel
    && (differ m.target_metamodel m.source && (differ m.target_metamodel m.source_metamodel && differ m.source m.source_metamodel))))

abbrev pub names_fit_in : OneRule → Bool
names_fit_in m =
    list_all is_name (header_names m) && (list_all is_name (rule_names m) && (models_differ_in m
    && (not (is_reserved m.source_metamodel) && (not (is_reserved m.target_metamodel) && differ m.made m.matched))))
