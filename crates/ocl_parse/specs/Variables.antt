-- Where a keyword stands in the place of an iterator's variable: behind -> and the iterator's name and (, and before |, or
-- before ; where the iterator is iterate. No expression goes on so, and it is the keyword that is refused.
use Rattle.std.specs.Prelude.{ℕ, ◌+◌, ◌-◌, ◌||◌, ◌&&◌, Bool, true, false, List, [], ◌∷◌, drop, is_some, if◌then◌else◌, nat_le, codes}
use Rattle.std.specs.List.{flat_map}
use Rattle.std.specs.Str.{bytes_eq}
use Rattle.atl_base.specs.declared.place.Place.{Place}
use Rattle.atl_tree.specs.declared.token.Token.{Token}
use Rattle.atl_tree.specs.declared.token.TokenSort.{TokenSort}
use Rattle.atl_tree.specs.declared.token.TokenSort.TheVariants as T
use Rattle.atl_tree.specs.Tokens.{is_mark}
use Rattle.ocl_parse.specs.Signs.{word, is_iterator, is_iterate}
use Rattle.ocl_parse.specs.Symbols.{unquoted}

abbrev pub is_the_mark : List ℕ → Token → Bool
is_the_mark text t = is_mark t.sort && bytes_eq t.text text

abbrev pub is_keyword : TokenSort → List ℕ → Bool
is_keyword T.Plain text = is_some (word text)
is_keyword sort text = false

-- what stands behind the variable of the iterator with this name
abbrev pub ends_variable : List ℕ → Token → Bool
ends_variable name t = is_iterator name && is_the_mark (codes "|") t || is_iterate name && is_the_mark (codes ";") t

-- whether these are -> name ( keyword | in one row; the name may have double quotes
abbrev pub is_for_variable : Token → Token → Token → Token → Token → Bool
is_for_variable arrow name paren keyword behind =
    is_the_mark (codes "->") arrow && is_the_mark (codes "(") paren && is_keyword keyword.sort keyword.text && ends_variable (flat_map unquoted name.text) behind

-- the place of the keyword, where the tokens begin so, or else this place
abbrev pub keyword_or : Place → List Token → Place
keyword_or p (arrow ∷ name ∷ paren ∷ keyword ∷ behind ∷ ts) = if is_for_variable arrow name paren keyword behind then keyword.place else p
keyword_or p ts = p

-- The place of the refusal where reading from a token on comes as far as the i-th token, which stands at p, and can't go on
-- with it.
abbrev pub refused_at : List Token → ℕ → ℕ → Place → Place
refused_at ts from i p = if nat_le (from + 4) i then keyword_or p (drop (i - 4) ts) else p
