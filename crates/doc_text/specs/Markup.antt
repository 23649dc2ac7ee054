-- The markup of a document, production by production of XML 1.0 (sections 2.3 to 2.6, 3.1 and 4.1), and Namespaces in
-- XML 1.0 for names: what is written, with its characters and what it means. `spelt x rest` are the characters of x and
-- then the rest.
use Rattle.std.specs.Prelude.{ℕ, ◌+◌, ◌*◌, ◌≡◌, ◌&&◌, ◌||◌, ◌==◌, min, encode_utf8, List, [], ◌∷◌, ◌++◌, Bool, true, false, if◌then◌else◌, codes, bytes_eq}
use Rattle.atl_base.specs.declared.place.Place.{Place}
use Rattle.doc_text.specs.Symbols.{Kind, Less, Greater, Slash, And, Semicolon, Equals, Bang, Question, Hash, Colon, Dash, Blank, Symbol, mark, utf8, is_good, is_blank, is_start, is_name, is_greater, is_question, is_undashed, is_value, is_decimal, is_ex, is_hexadecimal, digit, quote}
use Rattle.doc_text.specs.Raw.{Name, called, Pair, pair, Start, start}

-- a run of characters of one sort, as long as it was read
pub data Run (of : Kind → Bool) : Type 0 where
  No : Run of
  More : Run of → (s : Symbol) → of s.kind ≡ true → Run of

abbrev pub spelt : {of : Kind → Bool} → Run of → List Symbol → List Symbol
spelt No rest = rest
spelt (More run s h) rest = spelt run (s ∷ rest)

-- the bytes read, and then those of the run
abbrev pub joined : {of : Kind → Bool} → List ℕ → Run of → List ℕ
joined bytes No = bytes
joined bytes (More run s h) = joined bytes run ++ utf8 s.kind

-- a name of the profile without a colon
pub record Plain : Type 0 where
  pub first : Symbol
  pub starts : is_start first.kind ≡ true
  pub others : Run is_name

abbrev pub plain_spelt : Plain → List Symbol → List Symbol
plain_spelt n rest = n.first ∷ spelt n.others rest

abbrev pub plain_bytes : Plain → List ℕ
plain_bytes n = joined (utf8 n.first.kind) n.others

-- QName
pub data QName : Type 0 where
  Unprefixed : Plain → QName
  Prefixed : Plain → Place → Plain → QName

abbrev pub name_spelt : QName → List Symbol → List Symbol
name_spelt (Unprefixed n) rest = plain_spelt n rest
name_spelt (Prefixed q p n) rest = plain_spelt q (mark p Colon ∷ plain_spelt n rest)

abbrev pub name_of : QName → Name
name_of (Unprefixed n) = called n.first.at [] (plain_bytes n)
name_of (Prefixed q p n) = called q.first.at (plain_bytes q) (plain_bytes n)

-- one digit more; all numbers above the last character are one
abbrev pub one_more : ℕ → ℕ → Kind → ℕ
one_more base n k = min (n * base + digit k) 1114112

abbrev pub counted : {of : Kind → Bool} → ℕ → ℕ → Run of → ℕ
counted base n No = n
counted base n (More run s h) = one_more base (counted base n run) s.kind

-- Reference: EntityRef, and CharRef with decimal or hexadecimal digits
pub data Reference : Type 0 where
  EntityRef : Place → Plain → Place → Reference
  CharRef : Place → Place → (s : Symbol) → is_decimal s.kind ≡ true → Run is_decimal → Place → Reference
  HexCharRef : Place → Place → (x : Symbol) → is_ex x.kind ≡ true → (s : Symbol) → is_hexadecimal s.kind ≡ true → Run is_hexadecimal → Place → Reference

abbrev pub reference_spelt : Reference → List Symbol → List Symbol
reference_spelt (EntityRef p n q) rest = mark p And ∷ plain_spelt n (mark q Semicolon ∷ rest)
reference_spelt (CharRef p h s e run q) rest = mark p And ∷ mark h Hash ∷ s ∷ spelt run (mark q Semicolon ∷ rest)
reference_spelt (HexCharRef p h x i s e run q) rest = mark p And ∷ mark h Hash ∷ x ∷ s ∷ spelt run (mark q Semicolon ∷ rest)

abbrev pub reference_at : Reference → Place
reference_at (EntityRef p n q) = p
reference_at (CharRef p h s e run q) = p
reference_at (HexCharRef p h x i s e run q) = p

-- what is referred to: an entity by its name, a character by its number
pub data Target : Type 0 where
  ByName : List ℕ → Target
  ByNumber : ℕ → Target

abbrev pub target_of : Reference → Target
target_of (EntityRef p n q) = ByName (plain_bytes n)
target_of (CharRef p h s e run q) = ByNumber (counted 10 (one_more 10 0 s.kind) run)
target_of (HexCharRef p h x i s e run q) = ByNumber (counted 16 (one_more 16 0 s.kind) run)

-- the character of one of the five entities, or of that number
abbrev pub character_of : Target → ℕ
character_of (ByNumber n) = n
character_of (ByName n) = if bytes_eq n (codes "amp") then 38 else if bytes_eq n (codes "lt") then 60 else if bytes_eq n (codes "gt") then 62 else if bytes_eq n (codes "quot") then 34 else 39

-- AttValue, between double or single quotes
pub data Values (double : Bool) : Type 0 where
  Empty : Values double
  Char : Values double → (s : Symbol) → is_value double s.kind ≡ true → Values double
  Refer : Values double → Reference → Values double

-- a literal blank is a space in a value
abbrev pub value_bytes : Kind → List ℕ
value_bytes (Blank c) = 32 ∷ []
value_bytes k = utf8 k

abbrev pub values_spelt : {double : Bool} → Values double → List Symbol → List Symbol
values_spelt Empty rest = rest
values_spelt (Char v s h) rest = values_spelt v (s ∷ rest)
values_spelt (Refer v r) rest = values_spelt v (reference_spelt r rest)

abbrev pub value_of : {double : Bool} → Values double → List ℕ
value_of Empty = []
value_of (Char v s h) = value_of v ++ value_bytes s.kind
value_of (Refer v r) = value_of v ++ encode_utf8 (character_of (target_of r))

-- S: a blank or more
pub record Gap : Type 0 where
  pub blanks : Run is_blank
  pub last : Symbol
  pub ends : is_blank last.kind ≡ true

abbrev pub gap_spelt : Gap → List Symbol → List Symbol
gap_spelt g rest = spelt g.blanks (g.last ∷ rest)

-- S Attribute, which is Name Eq AttValue
pub record Attribute : Type 0 where
  pub gap : Gap
  pub name : QName
  pub before : Run is_blank
  pub equals : Place
  pub after : Run is_blank
  pub double : Bool
  pub opens : Place
  pub value : Values double
  pub closes : Place

abbrev pub attribute_spelt : Attribute → List Symbol → List Symbol
attribute_spelt a rest = gap_spelt a.gap (name_spelt a.name (spelt a.before (mark a.equals Equals ∷ spelt a.after (mark a.opens (quote a.double) ∷ values_spelt a.value (mark a.closes (quote a.double) ∷ rest)))))

pub data Attributes : Type 0 where
  Alone : Attributes
  Further : Attributes → Attribute → Attributes

abbrev pub attributes_spelt : Attributes → List Symbol → List Symbol
attributes_spelt Alone rest = rest
attributes_spelt (Further list a) rest = attributes_spelt list (attribute_spelt a rest)

abbrev pub pairs_of : Attributes → List Pair
pairs_of Alone = []
pairs_of (Further list a) = pairs_of list ++ (pair (name_of a.name) (value_of a.value) ∷ [])

-- what STag and EmptyElemTag share: < Name (S Attribute)* S?
pub record Tag : Type 0 where
  pub less : Place
  pub name : QName
  pub attributes : Attributes
  pub blanks : Run is_blank

abbrev pub tag_spelt : Tag → List Symbol → List Symbol
tag_spelt t rest = mark t.less Less ∷ name_spelt t.name (attributes_spelt t.attributes (spelt t.blanks rest))

abbrev pub start_of : Tag → Start
start_of t = start t.less (name_of t.name) (pairs_of t.attributes)

pub record ETag : Type 0 where
  pub less : Place
  pub slash : Place
  pub name : QName
  pub blanks : Run is_blank
  pub greater : Place

abbrev pub end_spelt : ETag → List Symbol → List Symbol
end_spelt e rest = mark e.less Less ∷ mark e.slash Slash ∷ name_spelt e.name (spelt e.blanks (mark e.greater Greater ∷ rest))

-- in a Comment: ((Char - '-') | ('-' (Char - '-')))*
pub data Remarks : Type 0 where
  Silent : Remarks
  Undashed : Remarks → (s : Symbol) → is_undashed s.kind ≡ true → Remarks
  Dashed : Remarks → Place → (s : Symbol) → is_undashed s.kind ≡ true → Remarks

abbrev pub remarks_spelt : Remarks → List Symbol → List Symbol
remarks_spelt Silent rest = rest
remarks_spelt (Undashed c s h) rest = remarks_spelt c (s ∷ rest)
remarks_spelt (Dashed c p s h) rest = remarks_spelt c (mark p Dash ∷ s ∷ rest)

-- in a PI: Char* without ?>
abbrev pub ends_asking : Run is_good → Bool
ends_asking No = false
ends_asking (More run s h) = is_question s.kind

abbrev pub IsUnclosed : Run is_good → Type 0
IsUnclosed No = Unit {0}
IsUnclosed (More run s h) = IsUnclosed run × (is_greater s.kind && ends_asking run ≡ false)

abbrev pub is_xml : List ℕ → Bool
is_xml (x ∷ m ∷ l ∷ []) = x == 120 && m == 109 && l == 108
is_xml bytes = false

abbrev pub is_any_xml : List ℕ → Bool
is_any_xml (x ∷ m ∷ l ∷ []) = (x == 120 || x == 88) && (m == 109 || m == 77) && (l == 108 || l == 76)
is_any_xml bytes = false

-- a target is not `xml`, in any case
abbrev pub is_reserved : List ℕ → Bool
is_reserved bytes = if is_xml bytes then true else is_any_xml bytes

-- Comment and PI
pub data Aside : Type 0 where
  Comment : Place → Place → Place → Place → Remarks → Place → Place → Place → Aside
  PI : Place → Place → (target : Plain) → is_reserved (plain_bytes target) ≡ false → Place → Place → Aside
  PISaying : Place → Place → (target : Plain) → is_reserved (plain_bytes target) ≡ false → (s : Symbol) → is_blank s.kind ≡ true → (run : Run is_good) → IsUnclosed run → Place → Place → Aside

abbrev pub aside_spelt : Aside → List Symbol → List Symbol
aside_spelt (Comment p q r s c t u v) rest = mark p Less ∷ mark q Bang ∷ mark r Dash ∷ mark s Dash ∷ remarks_spelt c (mark t Dash ∷ mark u Dash ∷ mark v Greater ∷ rest)
aside_spelt (PI p q n h t u) rest = mark p Less ∷ mark q Question ∷ plain_spelt n (mark t Question ∷ mark u Greater ∷ rest)
aside_spelt (PISaying p q n h s e run g t u) rest = mark p Less ∷ mark q Question ∷ plain_spelt n (s ∷ spelt run (mark t Question ∷ mark u Greater ∷ rest))
