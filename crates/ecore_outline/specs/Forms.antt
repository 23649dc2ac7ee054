-- Names as a metamodel's file has them: what a name, a prefix and a namespace may be, and which a package has.
-- (Ecore: nsURI, nsPrefix.)
use Rattle.std.specs.Prelude.{ℕ, ◌==◌, ◌&&◌, ◌||◌, not, Bool, false, List, [], ◌∷◌, codes, bytes_eq, Option, Some}
use Rattle.std.specs.List.{list_any}
use Rattle.ecore_meta.specs.Names.{is_plain_name}
use Rattle.xmi_text.specs.Markup.{given}
use Rattle.ecore_outline.specs.Outline.{Entry, name_of}

-- what a name may be, where there is one
abbrev pub is_name : List ℕ → Bool
is_name text = is_plain_name text && not (bytes_eq text (codes "xmlns"))

abbrev pub is_bad_name : List ℕ → Bool
is_bad_name [] = false
is_bad_name (c ∷ cs) = not (is_name (c ∷ cs))

abbrev pub has_point : List ℕ → Bool
has_point = list_any (λ c. c == 46)

abbrev pub is_prefix : List ℕ → Bool
is_prefix text = is_name text && not (bytes_eq text (codes "xml") || bytes_eq text (codes "xmi") || bytes_eq text (codes "xsi"))

abbrev pub is_kept_uri : List ℕ → Bool
is_kept_uri text = bytes_eq text (codes "http://www.omg.org/XMI") || bytes_eq text (codes "http://www.w3.org/2001/XMLSchema-instance")

-- a text that is given and not empty, else the name
abbrev pub or_name : List ℕ → Option (List ℕ) → List ℕ
or_name name (Some (c ∷ cs)) = c ∷ cs
or_name name text = name

abbrev pub uri_of : Entry → List ℕ
uri_of e = or_name (name_of e) (given (codes "nsURI") e.site.element)

abbrev pub prefix_of : Entry → List ℕ
prefix_of e = or_name (name_of e) (given (codes "nsPrefix") e.site.element)

abbrev pub is_bad_prefix : List ℕ → Bool
is_bad_prefix [] = false
is_bad_prefix (c ∷ cs) = not (is_prefix (c ∷ cs))
