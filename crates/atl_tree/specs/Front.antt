-- The tokens that stand before the first thing that is refused: what a text begins with, as far as it has tokens.
use Rattle.std.specs.Prelude.{ℕ, ◌||◌, Bool, false, List, [], ◌∷◌, is_some, if◌then◌else◌}
use Rattle.atl_tree.specs.declared.token.Token.{Token}
use Rattle.atl_tree.specs.Machine.{cut_of}
use Rattle.atl_tree.specs.Tokens.{place, tokens_from, fault_of, leads_name, begins_arrow, body_of, begin_byte}

-- the tokens of the pieces that a text begins with, up to where it can't be cut
unfoldable pub cut_tokens : List ℕ → List Token
cut_tokens text = tokens_from (begin_byte text) (place 1 1) (cut_of (body_of text)).pieces

-- the tokens before the first that is refused, where `led` says that the one before the list leads a name
abbrev pub before_fault : Bool → List Token → List Token
before_fault led [] = []
before_fault led (t ∷ ts) = if is_some (fault_of t.sort t.text (led || begins_arrow ts) t.place) then [] else t ∷ before_fault (leads_name t) ts

abbrev pub front_of : List ℕ → List Token
front_of text = before_fault false (cut_tokens text)
