-- The encoding that a document's declaration names (XML 1.0, sections 2.8 and 4.3.3). The productions of XMLDecl are
-- followed over the bytes, each to what stands after it.
use Rattle.std.specs.Prelude.{ℕ, ◌==◌, ◌||◌, ◌&&◌, List, [], ◌∷◌, ◌++◌, Bool, if◌then◌else◌, nat_le, codes, Option, Some, None}
use Rattle.std.specs.Str.{str_eq_ignore_ascii_case}
pub use Rattle.doc_text.specs.declared.encoding.Encoding.{Encoding}
pub use Rattle.doc_text.specs.declared.encoding.Encoding.TheVariants.{Utf8, Ascii, Latin}

abbrev pub and_then : {A B : Type 0} → Option A → (A → Option B) → Option B
and_then (Some a) f = f a
and_then None f = None

abbrev pub after_word : List ℕ → List ℕ → Option (List ℕ)
after_word [] bytes = Some bytes
after_word (c ∷ word) [] = None
after_word (c ∷ word) (b ∷ bytes) = if b == c then after_word word bytes else None

abbrev pub is_blank_byte : ℕ → Bool
is_blank_byte b = b == 32 || b == 9 || b == 10 || b == 13

abbrev pub after_all : (ℕ → Bool) → List ℕ → List ℕ
after_all test [] = []
after_all test (b ∷ bytes) = if test b then after_all test bytes else b ∷ bytes

abbrev pub after_some : (ℕ → Bool) → List ℕ → Option (List ℕ)
after_some test [] = None
after_some test (b ∷ bytes) = if test b then Some (after_all test bytes) else None

abbrev pub is_digit_byte : ℕ → Bool
is_digit_byte b = nat_le 48 b && nat_le b 57

abbrev pub is_quote_byte : ℕ → Bool
is_quote_byte b = b == 34 || b == 39

abbrev pub after_quote : List ℕ → Option (ℕ × List ℕ)
after_quote [] = None
after_quote (b ∷ bytes) = if is_quote_byte b then Some (b, bytes) else None

-- S, a word, Eq and a quote, which is kept
abbrev pub after_heading : List ℕ → List ℕ → Option (ℕ × List ℕ)
after_heading word bytes =
    and_then (after_some is_blank_byte bytes) (λ a.
    and_then (after_word word a) (λ b.
    and_then (after_word (codes "=") (after_all is_blank_byte b)) (λ c. after_quote (after_all is_blank_byte c))))

abbrev pub after_version : List ℕ → Option (List ℕ)
after_version bytes =
    and_then (after_word (codes "<?xml") bytes) (λ a.
    and_then (after_heading (codes "version") a) (λ h.
    and_then (after_word (codes "1.") h.1) (λ b.
    and_then (after_some is_digit_byte b) (after_word (h.0 ∷ [])))))

-- what stands before a quote
abbrev pub before_quote : ℕ → List ℕ → List ℕ → Option (List ℕ)
before_quote q seen [] = None
before_quote q seen (b ∷ bytes) = if b == q then Some seen else before_quote q (seen ++ (b ∷ [])) bytes

abbrev pub declared_name : List ℕ → Option (List ℕ)
declared_name bytes = and_then (after_version bytes) (λ a. and_then (after_heading (codes "encoding") a) (λ h. before_quote h.0 [] h.1))

-- other names are refused where they stand
abbrev pub named_encoding : List ℕ → Encoding
named_encoding name =
    if str_eq_ignore_ascii_case name (codes "ascii") then Ascii
    else if str_eq_ignore_ascii_case name (codes "us-ascii") then Ascii
    else if str_eq_ignore_ascii_case name (codes "iso-8859-1") then Latin
    else Utf8

abbrev pub encoding_named : Option (List ℕ) → Encoding
encoding_named (Some name) = named_encoding name
encoding_named None = Utf8

abbrev pub encoding_of : List ℕ → Encoding
encoding_of bytes = encoding_named (declared_name bytes)
