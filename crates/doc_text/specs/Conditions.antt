-- What a document keeps apart from its form, and where a condition fails in what is written.
use Rattle.std.specs.Prelude.{ℕ, ◌≡◌, ◌⊎◌, ◌||◌, List, [], ◌∷◌, length, Bool, true, false, if◌then◌else◌, nat_lt, bytes_eq, codes, is_none, Some}
use Rattle.std.specs.Str.{str_eq_ignore_ascii_case}
use Rattle.atl_base.specs.XmlText.{is_xml_character}
use Rattle.atl_base.specs.declared.place.Place.{Place}
use Rattle.doc_text.specs.Raw.{Start, same_name, Tree}
use Rattle.doc_text.specs.Faults.{Fault, BadEncoding, MismatchedEnd, Entity, TooDeep, BadByte}
use Rattle.doc_text.specs.Namespaces.{tag_fault}
use Rattle.doc_text.specs.Symbols.{Symbol}
use Rattle.doc_text.specs.Markup.{Reference, reference_at, Target, ByName, ByNumber, target_of, Values, Empty, Char, Refer, Attributes, Alone, Further, Tag, start_of, name_of, joined}
use Rattle.doc_text.specs.Form.{Element, Full, EmptyElem, Items, Nothing, Then, Item, Sub, Text, Referred, Passed, Prolog, Undeclared, Declared, Following, Helped, Told, Versioned, Encoded, Clauses, Only, Standing, EncodingDecl, encoding_at, Document, document_spelt, brackets, IsApart, tree_of}

-- a condition counts where it is asked for
abbrev pub passes : Bool → Bool → Bool
passes strict test = if strict then test else true

abbrev pub is_entity : List ℕ → Bool
is_entity n = bytes_eq n (codes "amp") || bytes_eq n (codes "lt") || bytes_eq n (codes "gt") || bytes_eq n (codes "quot") || bytes_eq n (codes "apos")

abbrev pub is_known : Target → Bool
is_known (ByName n) = is_entity n
is_known (ByNumber n) = is_xml_character n

abbrev pub unknown : Target → Fault
unknown (ByName n) = Entity
unknown (ByNumber n) = BadByte

-- at most 200 elements are open: fewer than that stand round each
abbrev pub is_shallow : List Start → Bool
is_shallow outer = nat_lt (length outer) 200

abbrev pub is_sound : List Start → Start → Bool
is_sound outer t = is_none (tag_fault outer t)

module _ (strict : Bool) where
  abbrev pub ReferenceFits : Reference → Type 0
  ReferenceFits r = passes strict (is_known (target_of r)) ≡ true

  abbrev pub ValueFits : {double : Bool} → Values double → Type 0
  ValueFits Empty = Unit {0}
  ValueFits (Char v s h) = ValueFits v
  ValueFits (Refer v r) = ValueFits v × ReferenceFits r

  abbrev pub AttributesFit : Attributes → Type 0
  AttributesFit Alone = Unit {0}
  AttributesFit (Further list a) = AttributesFit list × ValueFits a.value

  -- a start tag in these open ones
  pub record TagFits (outer : List Start) (t : Tag) : Type 0 where
    pub shallow : passes strict (is_shallow outer) ≡ true
    pub attributes : AttributesFit t.attributes
    pub sound : passes strict (is_sound outer (start_of t)) ≡ true

  abbrev mutual
    pub ElementFits : List Start → Element → Type 0
    ElementFits outer (Full t g is e) = TagFits outer t × ItemsFit (start_of t ∷ outer) is × (passes strict (same_name (name_of e.name) (name_of t.name)) ≡ true)
    ElementFits outer (EmptyElem t s g) = TagFits outer t

    pub ItemsFit : List Start → Items → Type 0
    ItemsFit outer Nothing = Unit {0}
    ItemsFit outer (Then is i) = ItemsFit outer is × ItemFits outer i × IsApart (brackets is) i

    pub ItemFits : List Start → Item → Type 0
    ItemFits outer (Sub e) = ElementFits outer e
    ItemFits outer (Text s h) = Unit {0}
    ItemFits outer (Referred r) = ReferenceFits r
    ItemFits outer (Passed a) = Unit {0}

-- the encodings that are read, their letters in any case
abbrev pub is_encoding : List ℕ → Bool
is_encoding name = str_eq_ignore_ascii_case name (codes "utf-8") || str_eq_ignore_ascii_case name (codes "ascii") || str_eq_ignore_ascii_case name (codes "us-ascii") || str_eq_ignore_ascii_case name (codes "iso-8859-1")

module _ (strict : Bool) where
  abbrev pub EncodingFits : EncodingDecl → Type 0
  EncodingFits e = passes strict (is_encoding (joined [] e.name)) ≡ true

  abbrev pub ToldFits : Told → Type 0
  ToldFits (Versioned t v) = Unit {0}
  ToldFits (Encoded t v e) = EncodingFits e

  abbrev pub ClausesFit : Clauses → Type 0
  ClausesFit (Only t) = ToldFits t
  ClausesFit (Standing t d) = ToldFits t

  abbrev pub PrologFits : Prolog → Type 0
  PrologFits Undeclared = Unit {0}
  PrologFits (Declared d) = ClausesFit d.clauses
  PrologFits (Following m s h) = PrologFits m
  PrologFits (Helped m a) = PrologFits m

  abbrev pub DocumentFits : Document → Type 0
  DocumentFits d = PrologFits d.prolog × ElementFits strict [] d.root

-- these characters are a document with this root: of the form, and where it is strict also with all conditions
abbrev pub IsDocument : Bool → List Symbol → Tree → Type 0
IsDocument strict ss root = (d : Document) × DocumentFits strict d × (document_spelt d ≡ ss) × (tree_of d.root ≡ root)

-- The first condition that fails in what is written, in the order in which each is read to its end: for this reason, at
-- this place, after all before it are kept.
abbrev pub ReferenceFails : Fault → Place → Reference → Type 0
ReferenceFails e p r = (e ≡ unknown (target_of r)) × (p ≡ reference_at r) × (is_known (target_of r) ≡ false)

abbrev pub EncodingFails : Fault → Place → EncodingDecl → Type 0
EncodingFails e p x = (e ≡ BadEncoding) × (p ≡ encoding_at x) × (is_encoding (joined [] x.name) ≡ false)

abbrev pub ToldFails : Fault → Place → Told → Type 0
ToldFails e p (Versioned t v) = ⊥
ToldFails e p (Encoded t v x) = EncodingFails e p x

abbrev pub ClausesFail : Fault → Place → Clauses → Type 0
ClausesFail e p (Only t) = ToldFails e p t
ClausesFail e p (Standing t d) = ToldFails e p t

abbrev pub PrologFails : Fault → Place → Prolog → Type 0
PrologFails e p Undeclared = ⊥
PrologFails e p (Declared d) = ClausesFail e p d.clauses
PrologFails e p (Following m s h) = PrologFails e p m
PrologFails e p (Helped m a) = PrologFails e p m

module _ (strict : Bool) where
  abbrev pub ValueFails : Fault → Place → {double : Bool} → Values double → Type 0
  ValueFails e p Empty = ⊥
  ValueFails e p (Char v s h) = ValueFails e p v
  ValueFails e p (Refer v r) = ValueFails e p v ⊎ (ValueFits strict v × ReferenceFails e p r)

  abbrev pub AttributesFail : Fault → Place → Attributes → Type 0
  AttributesFail e p Alone = ⊥
  AttributesFail e p (Further list a) = AttributesFail e p list ⊎ (AttributesFit strict list × ValueFails e p a.value)

  -- its depth, then its attributes' references, then its names
  abbrev pub TagFails : Fault → Place → List Start → Tag → Type 0
  TagFails e p outer t =
      (((e ≡ TooDeep) × (p ≡ t.less) × (is_shallow outer ≡ false)) ⊎ ((passes strict (is_shallow outer) ≡ true) × AttributesFail e p t.attributes))
      ⊎ (((passes strict (is_shallow outer) ≡ true) × AttributesFit strict t.attributes) × (tag_fault outer (start_of t) ≡ Some (e, p)))

  abbrev mutual
    pub ElementFails : Fault → Place → List Start → Element → Type 0
    ElementFails e p outer (Full t g is f) =
        (TagFails e p outer t ⊎ (TagFits strict outer t × ItemsFail e p (start_of t ∷ outer) is))
        ⊎ ((TagFits strict outer t × ItemsFit strict (start_of t ∷ outer) is) × ((e ≡ MismatchedEnd) × (p ≡ (name_of f.name).at) × (same_name (name_of f.name) (name_of t.name) ≡ false)))
    ElementFails e p outer (EmptyElem t s g) = TagFails e p outer t

    pub ItemsFail : Fault → Place → List Start → Items → Type 0
    ItemsFail e p outer Nothing = ⊥
    ItemsFail e p outer (Then is i) = ItemsFail e p outer is ⊎ (ItemsFit strict outer is × ItemFails e p outer i)

    pub ItemFails : Fault → Place → List Start → Item → Type 0
    ItemFails e p outer (Sub x) = ElementFails e p outer x
    ItemFails e p outer (Text s h) = ⊥
    ItemFails e p outer (Referred r) = ReferenceFails e p r
    ItemFails e p outer (Passed a) = ⊥

  abbrev pub DocumentFails : Fault → Place → Document → Type 0
  DocumentFails e p d = PrologFails e p d.prolog ⊎ (PrologFits strict d.prolog × ElementFails e p [] d.root)
