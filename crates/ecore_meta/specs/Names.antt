-- Plain XML names, and the names and namespaces that XML, XMI and XSI keep for themselves.
-- (XML 1.0, production 4, of which a plain name is a part that has no `:`; Namespaces in XML 1.0, section 3.)
use Rattle.std.specs.Prelude.{◌≡◌, ◌≢◌, ℕ, ◌||◌, ◌&&◌, ◌==◌, nat_le, Bool, true, false, List, [], ◌∷◌, codes}
use Rattle.std.specs.Int.{is_in_range}
use Rattle.std.specs.List.{list_all, list_any}

-- An ASCII letter, `_`, or a byte of a character above U+007F: those are the bytes from 128 on.
abbrev pub begins_name : ℕ → Bool
begins_name b = is_in_range 65 90 b || is_in_range 97 122 b || b == 95 || nat_le 128 b

-- these, an ASCII digit, `-` or `.`
abbrev pub continues_name : ℕ → Bool
continues_name b = begins_name b || is_in_range 48 57 b || b == 45 || b == 46

abbrev pub is_plain_name : List ℕ → Bool
is_plain_name [] = false
is_plain_name (b ∷ bs) = begins_name b && list_all continues_name bs

-- what a package, a class, a feature, an enumeration or a literal may be called
pub record IsName (name : List ℕ) : Type 0 where
  pub plain : is_plain_name name ≡ true
  pub no_declaration : name ≢ codes "xmlns"

-- a name that stands before a `:` and that a metamodel may choose
pub record IsPrefix (prefix : List ℕ) : Type 0 where
  pub name : IsName prefix
  pub not_xml : prefix ≢ codes "xml"
  pub not_xmi : prefix ≢ codes "xmi"
  pub not_xsi : prefix ≢ codes "xsi"

-- a namespace that a metamodel may choose
pub record IsUri (uri : List ℕ) : Type 0 where
  pub some : uri ≢ []
  pub not_xmi : uri ≢ codes "http://www.omg.org/XMI"
  pub not_xsi : uri ≢ codes "http://www.w3.org/2001/XMLSchema-instance"

-- a name without a `.`
abbrev pub HasNoDot : List ℕ → Type 0
HasNoDot name = list_any (λ b. b == 46) name ≡ false
