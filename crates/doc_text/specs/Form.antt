-- A document, production by production of XML 1.0 (sections 2.1, 2.4, 2.8 and 3): its declaration, its prolog, its root
-- element with what stands in it, and what follows.
use Rattle.std.specs.Prelude.{Option, Some, None, ℕ, ◌≡◌, ◌&&◌, encode_utf8, List, [], ◌∷◌, ◌++◌, Bool, true, false, if◌then◌else◌, nat_eq, codes}
use Rattle.atl_base.specs.declared.place.Place.{Place}
use Rattle.doc_text.specs.Symbols.{Kind, Less, Greater, Slash, Equals, Question, Bracket, Symbol, mark, code_of, utf8, is_blank, is_greater, is_text, is_decimal, quote, is_quoted, is_word}
use Rattle.doc_text.specs.Raw.{Tree, Node, Trees, Nil, Also, add_text}
use Rattle.doc_text.specs.Markup.{Aside, ETag, Gap, More, No, Plain, Reference, Run, Tag, aside_spelt, character_of, end_spelt, gap_spelt, is_xml, plain_bytes, plain_spelt, reference_spelt, spelt, start_of, tag_spelt, target_of}

-- characters that spell a word
abbrev pub codes_of : {of : Kind → Bool} → Run of → List ℕ
codes_of No = []
codes_of (More run s h) = codes_of run ++ (code_of s.kind ∷ [])

pub record Word (text : List ℕ) : Type 0 where
  pub run : Run is_word
  pub is : codes_of run ≡ text

-- <?xml
pub record Title : Type 0 where
  pub less : Place
  pub asks : Place
  pub target : Plain
  pub is : is_xml (plain_bytes target) ≡ true

abbrev pub title_spelt : Title → List Symbol → List Symbol
title_spelt t rest = mark t.less Less ∷ mark t.asks Question ∷ plain_spelt t.target rest

-- S, a word, Eq and a quote
pub record Heading (text : List ℕ) : Type 0 where
  pub gap : Gap
  pub word : Word text
  pub before : Run is_blank
  pub equals : Place
  pub after : Run is_blank
  pub double : Bool
  pub opens : Place

abbrev pub heading_spelt : {text : List ℕ} → Heading text → List Symbol → List Symbol
heading_spelt h rest = gap_spelt h.gap (spelt h.word.run (spelt h.before (mark h.equals Equals ∷ spelt h.after (mark h.opens (quote h.double) ∷ rest))))

-- VersionInfo, with 1. and digits
pub record VersionInfo : Type 0 where
  pub heading : Heading (codes "version")
  pub one : Word (codes "1.")
  pub digit : Symbol
  pub is_digit : is_decimal digit.kind ≡ true
  pub digits : Run is_decimal
  pub closes : Place

abbrev pub version_spelt : VersionInfo → List Symbol → List Symbol
version_spelt v rest = heading_spelt v.heading (spelt v.one.run (v.digit ∷ spelt v.digits (mark v.closes (quote v.heading.double) ∷ rest)))

-- EncodingDecl, with anything between the quotes
pub record EncodingDecl : Type 0 where
  pub heading : Heading (codes "encoding")
  pub name : Run (is_quoted heading.double)
  pub closes : Place

abbrev pub encoding_spelt : EncodingDecl → List Symbol → List Symbol
encoding_spelt e rest = heading_spelt e.heading (spelt e.name (mark e.closes (quote e.heading.double) ∷ rest))

-- the first place of a run, if it has one
abbrev pub place_or : Option Place → Place → Place
place_or (Some p) q = p
place_or None q = q

abbrev pub first_place : {of : Kind → Bool} → Run of → Option Place
first_place No = None
first_place (More run s h) = Some (place_or (first_place run) s.at)

-- the first character after the opening quote
abbrev pub encoding_at : EncodingDecl → Place
encoding_at e = place_or (first_place e.name) e.closes

-- SDDecl
abbrev pub answer : Bool → List ℕ
answer true = codes "yes"
answer false = codes "no"

pub record SDDecl : Type 0 where
  pub heading : Heading (codes "standalone")
  pub yes : Bool
  pub word : Word (answer yes)
  pub closes : Place

abbrev pub standalone_spelt : SDDecl → List Symbol → List Symbol
standalone_spelt d rest = heading_spelt d.heading (spelt d.word.run (mark d.closes (quote d.heading.double) ∷ rest))

pub data Told : Type 0 where
  Versioned : Title → VersionInfo → Told
  Encoded : Title → VersionInfo → EncodingDecl → Told

abbrev pub told_spelt : Told → List Symbol → List Symbol
told_spelt (Versioned t v) rest = title_spelt t (version_spelt v rest)
told_spelt (Encoded t v e) rest = title_spelt t (version_spelt v (encoding_spelt e rest))

pub data Clauses : Type 0 where
  Only : Told → Clauses
  Standing : Told → SDDecl → Clauses

abbrev pub clauses_spelt : Clauses → List Symbol → List Symbol
clauses_spelt (Only t) rest = told_spelt t rest
clauses_spelt (Standing t d) rest = told_spelt t (standalone_spelt d rest)

pub record XMLDecl : Type 0 where
  pub clauses : Clauses
  pub blanks : Run is_blank
  pub asks : Place
  pub greater : Place

abbrev pub declaration_spelt : XMLDecl → List Symbol → List Symbol
declaration_spelt d rest = clauses_spelt d.clauses (spelt d.blanks (mark d.asks Question ∷ mark d.greater Greater ∷ rest))

-- prolog: XMLDecl? Misc*
pub data Prolog : Type 0 where
  Undeclared : Prolog
  Declared : XMLDecl → Prolog
  Following : Prolog → (s : Symbol) → is_blank s.kind ≡ true → Prolog
  Helped : Prolog → Aside → Prolog

abbrev pub prolog_spelt : Prolog → List Symbol → List Symbol
prolog_spelt Undeclared rest = rest
prolog_spelt (Declared d) rest = declaration_spelt d rest
prolog_spelt (Following m s h) rest = prolog_spelt m (s ∷ rest)
prolog_spelt (Helped m a) rest = prolog_spelt m (aside_spelt a rest)

-- Misc*
pub data Miscs : Type 0 where
  Bare : Miscs
  Blanked : Miscs → (s : Symbol) → is_blank s.kind ≡ true → Miscs
  Aided : Miscs → Aside → Miscs

abbrev pub miscs_spelt : Miscs → List Symbol → List Symbol
miscs_spelt Bare rest = rest
miscs_spelt (Blanked m s h) rest = miscs_spelt m (s ∷ rest)
miscs_spelt (Aided m a) rest = miscs_spelt m (aside_spelt a rest)

-- element and content. A character of CharData is an item.
mutual
  pub data Element : Type 0 where
    Full : Tag → Place → Items → ETag → Element
    EmptyElem : Tag → Place → Place → Element

  pub data Items : Type 0 where
    Nothing : Items
    Then : Items → Item → Items

  pub data Item : Type 0 where
    Sub : Element → Item
    Text : (s : Symbol) → is_text s.kind ≡ true → Item
    Referred : Reference → Item
    Passed : Aside → Item

abbrev mutual
  pub element_spelt : Element → List Symbol → List Symbol
  element_spelt (Full t g is e) rest = tag_spelt t (mark g Greater ∷ items_spelt is (end_spelt e rest))
  element_spelt (EmptyElem t s g) rest = tag_spelt t (mark s Slash ∷ mark g Greater ∷ rest)

  pub items_spelt : Items → List Symbol → List Symbol
  items_spelt Nothing rest = rest
  items_spelt (Then is i) rest = items_spelt is (item_spelt i rest)

  pub item_spelt : Item → List Symbol → List Symbol
  item_spelt (Sub e) rest = element_spelt e rest
  item_spelt (Text s h) rest = s ∷ rest
  item_spelt (Referred r) rest = reference_spelt r rest
  item_spelt (Passed a) rest = aside_spelt a rest

abbrev mutual
  pub tree_of : Element → Tree
  tree_of (Full t g is e) = Node (start_of t) (trees_of is)
  tree_of (EmptyElem t s g) = Node (start_of t) Nil

  pub trees_of : Items → Trees
  trees_of Nothing = Nil
  trees_of (Then is i) = grown (trees_of is) i

  pub grown : Trees → Item → Trees
  grown ts (Sub e) = Also ts (tree_of e)
  grown ts (Text s h) = add_text (utf8 s.kind) ts
  grown ts (Referred r) = add_text (encode_utf8 (character_of (target_of r))) ts
  grown ts (Passed a) = ts

-- CharData has no ]]>: how many brackets stand last, where two are as good as more
abbrev pub bracketed : ℕ → Kind → ℕ
bracketed n Bracket = if nat_eq n 0 then 1 else 2
bracketed n k = 0

abbrev pub last_brackets : ℕ → Item → ℕ
last_brackets n (Text s h) = bracketed n s.kind
last_brackets n i = 0

abbrev pub brackets : Items → ℕ
brackets Nothing = 0
brackets (Then is i) = last_brackets (brackets is) i

abbrev pub IsApart : ℕ → Item → Type 0
IsApart n (Text s h) = is_greater s.kind && nat_eq n 2 ≡ false
IsApart n i = Unit {0}

-- document: prolog element Misc*
pub record Document : Type 0 where
  pub prolog : Prolog
  pub root : Element
  pub epilog : Miscs

abbrev pub document_spelt : Document → List Symbol
document_spelt d = prolog_spelt d.prolog (element_spelt d.root (miscs_spelt d.epilog []))
