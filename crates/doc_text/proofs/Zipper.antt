-- The parts of the form that came before, for each state of the machine.
use Rattle.std.specs.Prelude.{◌≡◌, List, [], ◌∷◌, Bool, true, false, codes, ℕ, ◌++◌}
use Rattle.atl_base.specs.declared.place.Place.{Place}
use Rattle.doc_text.specs.Symbols.{Less, Greater, Slash, Equals, Question, Hash, Symbol, mark, quote, is_blank, is_good, is_decimal, is_ex, is_hexadecimal, is_quoted, is_word}
use Rattle.doc_text.specs.Raw.{Start, start}
use Rattle.doc_text.specs.Markup.{Run, spelt, Plain, plain_spelt, plain_bytes, QName, name_spelt, name_of, one_more, counted, Values, values_spelt, value_of, Gap, gap_spelt, Attributes, attributes_spelt, pairs_of, Tag, tag_spelt, start_of, Remarks, ends_asking, IsUnclosed, is_reserved}
use Rattle.doc_text.specs.Form.{codes_of, Word, Title, title_spelt, Heading, VersionInfo, version_spelt, answer, Told, Versioned, Encoded, told_spelt, Clauses, Only, Standing, clauses_spelt, Prolog, prolog_spelt, Miscs, miscs_spelt, Element, element_spelt, Items, items_spelt, tree_of, trees_of}
use Rattle.doc_text.specs.State.{Stage, Untold, ToldVersion, ToldEncoding, ToldStanding, Clause, OfVersion, OfEncoding, OfStanding, Open, opened, tags, Around, First, Before, Within, After, Bearer, OfStart, OfAttribute, OfEnd, Citing, InText, InValue, Cited, Nameless, ByEntity, Hashed, Decimal, Hexed, Hexadecimal}
use Rattle.doc_text.specs.Steps.{word_of}

-- the open elements: what came before the root, then each start tag with what was read in it
pub data Opens : Type 0 where
  Bottom : Prolog → Opens
  Opened : Opens → Tag → Place → Items → Opens

abbrev pub opens_value : Opens → List Open
opens_value (Bottom m) = []
opens_value (Opened z t g is) = opened (start_of t) (trees_of is) ∷ opens_value z

abbrev pub scope : Opens → List Start
scope z = tags (opens_value z)

abbrev pub opens_spelt : Opens → List Symbol → List Symbol
opens_spelt (Bottom m) rest = prolog_spelt m rest
opens_spelt (Opened z t g is) rest = opens_spelt z (tag_spelt t (mark g Greater ∷ items_spelt is rest))

pub data ZAround : Type 0 where
  ZFirst : ZAround
  ZBefore : Prolog → ZAround
  ZWithin : Opens → Tag → Place → Items → ZAround
  ZAfter : Prolog → Element → Miscs → ZAround

abbrev pub around_value : ZAround → Around
around_value ZFirst = First
around_value (ZBefore m) = Before
around_value (ZWithin z t g is) = Within (opened (start_of t) (trees_of is)) (opens_value z)
around_value (ZAfter m e k) = After (tree_of e)

abbrev pub around_spelt : ZAround → List Symbol → List Symbol
around_spelt ZFirst rest = rest
around_spelt (ZBefore m) rest = prolog_spelt m rest
around_spelt (ZWithin z t g is) rest = opens_spelt (Opened z t g is) rest
around_spelt (ZAfter m e k) rest = prolog_spelt m (element_spelt e (miscs_spelt k rest))

-- a start tag so far, without the blanks that end it
pub record Part : Type 0 where
  pub less : Place
  pub name : QName
  pub attributes : Attributes

abbrev pub part_spelt : Part → List Symbol → List Symbol
part_spelt t rest = mark t.less Less ∷ name_spelt t.name (attributes_spelt t.attributes rest)

abbrev pub part_start : Part → Start
part_start t = start t.less (name_of t.name) (pairs_of t.attributes)

-- an attribute up to its opening quote
pub record Half : Type 0 where
  pub gap : Gap
  pub name : QName
  pub before : Run is_blank
  pub equals : Place
  pub after : Run is_blank
  pub double : Bool
  pub opens : Place

abbrev pub half_spelt : Half → List Symbol → List Symbol
half_spelt a rest = gap_spelt a.gap (name_spelt a.name (spelt a.before (mark a.equals Equals ∷ spelt a.after (mark a.opens (quote a.double) ∷ rest))))

pub data ZBearer : Type 0 where
  ZStart : Opens → Place → ZBearer
  ZAttribute : Opens → Part → Gap → ZBearer
  ZEnd : Opens → Tag → Place → Items → Place → Place → ZBearer

abbrev pub bearer_value : ZBearer → Bearer
bearer_value (ZStart z p) = OfStart (opens_value z) p
bearer_value (ZAttribute z t g) = OfAttribute (opens_value z) (part_start t)
bearer_value (ZEnd z t g is p q) = OfEnd (opened (start_of t) (trees_of is)) (opens_value z)

abbrev pub bearer_spelt : ZBearer → List Symbol → List Symbol
bearer_spelt (ZStart z p) rest = opens_spelt z (mark p Less ∷ rest)
bearer_spelt (ZAttribute z t g) rest = opens_spelt z (part_spelt t (gap_spelt g rest))
bearer_spelt (ZEnd z t g is p q) rest = opens_spelt (Opened z t g is) (mark p Less ∷ mark q Slash ∷ rest)

pub data ZCiting : Type 0 where
  ZText : Opens → Tag → Place → Items → ZCiting
  ZValue : Opens → Part → (h : Half) → Values h.double → ZCiting

abbrev pub citing_value : ZCiting → Citing
citing_value (ZText z t g is) = InText (opened (start_of t) (trees_of is)) (opens_value z)
citing_value (ZValue z t h v) = InValue h.double (opens_value z) (part_start t) (name_of h.name) (value_of v)

abbrev pub citing_spelt : ZCiting → List Symbol → List Symbol
citing_spelt (ZText z t g is) rest = opens_spelt (Opened z t g is) rest
citing_spelt (ZValue z t h v) rest = opens_spelt z (part_spelt t (half_spelt h (values_spelt v rest)))

pub data ZCited : Type 0 where
  ZNameless : ZCited
  ZEntity : Plain → ZCited
  ZHashed : Place → ZCited
  ZDecimal : Place → (s : Symbol) → is_decimal s.kind ≡ true → Run is_decimal → ZCited
  ZHexed : Place → (x : Symbol) → is_ex x.kind ≡ true → ZCited
  ZHexadecimal : Place → (x : Symbol) → is_ex x.kind ≡ true → (s : Symbol) → is_hexadecimal s.kind ≡ true → Run is_hexadecimal → ZCited

abbrev pub cited_value : ZCited → Cited
cited_value ZNameless = Nameless
cited_value (ZEntity n) = ByEntity (plain_bytes n)
cited_value (ZHashed h) = Hashed
cited_value (ZDecimal h s e run) = Decimal (counted 10 (one_more 10 0 s.kind) run)
cited_value (ZHexed h x i) = Hexed
cited_value (ZHexadecimal h x i s e run) = Hexadecimal (counted 16 (one_more 16 0 s.kind) run)

abbrev pub cited_spelt : ZCited → List Symbol → List Symbol
cited_spelt ZNameless rest = rest
cited_spelt (ZEntity n) rest = plain_spelt n rest
cited_spelt (ZHashed h) rest = mark h Hash ∷ rest
cited_spelt (ZDecimal h s e run) rest = mark h Hash ∷ s ∷ spelt run rest
cited_spelt (ZHexed h x i) rest = mark h Hash ∷ x ∷ rest
cited_spelt (ZHexadecimal h x i s e run) rest = mark h Hash ∷ x ∷ s ∷ spelt run rest

-- the start of an instruction, with its target
pub record Pointed : Type 0 where
  pub less : Place
  pub asks : Place
  pub target : Plain
  pub free : is_reserved (plain_bytes target) ≡ false

abbrev pub pointed_spelt : Pointed → List Symbol → List Symbol
pointed_spelt i rest = mark i.less Less ∷ mark i.asks Question ∷ plain_spelt i.target rest

-- the declaration so far, and the clause that is read after what
pub data Sofar : Type 0 where
  Titled : Title → Sofar
  Claused : Clauses → Sofar

abbrev pub sofar_spelt : Sofar → List Symbol → List Symbol
sofar_spelt (Titled t) rest = title_spelt t rest
sofar_spelt (Claused c) rest = clauses_spelt c rest

abbrev pub stage_of : Sofar → Stage
stage_of (Titled t) = Untold
stage_of (Claused (Only (Versioned t v))) = ToldVersion
stage_of (Claused (Only (Encoded t v e))) = ToldEncoding
stage_of (Claused (Standing t d)) = ToldStanding

pub data Prior : Type 0 where
  AtVersion : Title → Prior
  AtEncoding : Title → VersionInfo → Prior
  AtStanding : Told → Prior

abbrev pub prior_spelt : Prior → List Symbol → List Symbol
prior_spelt (AtVersion t) rest = title_spelt t rest
prior_spelt (AtEncoding t v) rest = title_spelt t (version_spelt v rest)
prior_spelt (AtStanding t) rest = told_spelt t rest

abbrev pub prior_clause : Prior → Clause
prior_clause (AtVersion t) = OfVersion
prior_clause (AtEncoding t v) = OfEncoding
prior_clause (AtStanding t) = OfStanding

pub data Zip : Type 0 where
  ZBeginning : Zip
  ZDeclaring : Sofar → Gap → Zip
  ZWording : (q : Prior) → Gap → (run : Run is_word) → (left : List ℕ) → codes_of run ++ left ≡ word_of (prior_clause q) → Zip
  ZEquating : (q : Prior) → Gap → Word (word_of (prior_clause q)) → Run is_blank → Zip
  ZQuoting : (q : Prior) → Gap → Word (word_of (prior_clause q)) → Run is_blank → Place → Run is_blank → Zip
  ZNumbering : Title → Heading (codes "version") → (run : Run is_word) → (left : List ℕ) → codes_of run ++ left ≡ codes "1." → Zip
  ZNumbered : Title → Heading (codes "version") → Word (codes "1.") → (s : Symbol) → is_decimal s.kind ≡ true → Run is_decimal → Zip
  ZEncoding : Title → VersionInfo → (h : Heading (codes "encoding")) → Run (is_quoted h.double) → Zip
  ZAnswer : Told → Heading (codes "standalone") → Zip
  ZAnswering : Told → Heading (codes "standalone") → (yes : Bool) → (run : Run is_word) → (left : List ℕ) → codes_of run ++ left ≡ answer yes → Zip
  ZStated : Clauses → Zip
  ZDeclEnd : Clauses → Run is_blank → Place → Zip
  ZProlog : Prolog → Zip
  ZInside : Opens → Tag → Place → Items → Zip
  ZEpilog : Prolog → Element → Miscs → Zip
  ZBegun : ZAround → Place → Zip
  ZBanged : ZAround → Place → Place → Zip
  ZBangDash : ZAround → Place → Place → Place → Zip
  ZRemarking : ZAround → Place → Place → Place → Place → Remarks → Zip
  ZRemarkDash : ZAround → Place → Place → Place → Place → Remarks → Place → Zip
  ZRemarkEnd : ZAround → Place → Place → Place → Place → Remarks → Place → Place → Zip
  ZAsked : ZAround → Place → Place → Zip
  ZTargeting : ZAround → Place → Place → Plain → Zip
  ZTargetEnd : ZAround → Pointed → Place → Zip
  ZTelling : ZAround → Pointed → (s : Symbol) → is_blank s.kind ≡ true → (run : Run is_good) → IsUnclosed run → ends_asking run ≡ false → Zip
  ZTellingAsked : ZAround → Pointed → (s : Symbol) → is_blank s.kind ≡ true → (run : Run is_good) → IsUnclosed run → Place → Zip
  ZNaming : ZBearer → Plain → Zip
  ZColoned : ZBearer → Plain → Place → Zip
  ZLocaling : ZBearer → Plain → Place → Plain → Zip
  ZSpaced : Opens → Part → Gap → Zip
  ZValued : Opens → Part → Zip
  ZShutting : Opens → Tag → Place → Zip
  ZEqualling : Opens → Part → Gap → QName → Run is_blank → Zip
  ZOpening : Opens → Part → Gap → QName → Run is_blank → Place → Run is_blank → Zip
  ZValuing : Opens → Part → (h : Half) → Values h.double → Zip
  ZEnding : Opens → Tag → Place → Items → Place → Place → Zip
  ZClosing : Opens → Tag → Place → Items → Place → Place → QName → Run is_blank → Zip
  ZCitation : ZCiting → Place → ZCited → Zip
