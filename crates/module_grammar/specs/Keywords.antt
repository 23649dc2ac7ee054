-- The keywords of modules that no expression has, and the mark <-.
use Rattle.std.specs.Prelude.{ℕ, List, [], ◌∷◌, Option, None, Some, if◌then◌else◌, codes}
use Rattle.std.specs.Str.{bytes_eq}
use Rattle.module_grammar.specs.declared.keyword.Keyword.{Keyword}
use Rattle.module_grammar.specs.declared.keyword.Keyword.TheVariants as W

-- the keyword of the first of these words that is the text
abbrev pub find : List ℕ → List (List ℕ × Keyword) → Option Keyword
find text [] = None
find text (w ∷ ws) = if bytes_eq text w.0 then Some w.1 else find text ws

unfoldable pub words : List (List ℕ × Keyword)
words =
    (codes "module", W.Module) ∷ (codes "create", W.Create) ∷ (codes "from", W.From) ∷ (codes "refining", W.Refining) ∷ (codes "uses", W.Uses)
    ∷ (codes "query", W.Query) ∷ (codes "library", W.Library) ∷ (codes "helper", W.Helper) ∷ (codes "context", W.Context) ∷ (codes "def", W.Def)
    ∷ (codes "rule", W.Rule) ∷ (codes "lazy", W.Lazy) ∷ (codes "unique", W.Unique) ∷ (codes "abstract", W.Abstract) ∷ (codes "entrypoint", W.Entrypoint)
    ∷ (codes "endpoint", W.Endpoint) ∷ (codes "extends", W.Extends) ∷ (codes "using", W.Using) ∷ (codes "to", W.To) ∷ (codes "do", W.Do)
    ∷ (codes "for", W.For) ∷ []

abbrev pub keyword : List ℕ → Option Keyword
keyword text = find text words

-- of marks, <- alone
abbrev pub arrow : List ℕ → Option Keyword
arrow text = if bytes_eq text (codes "<-") then Some W.Gives else None
