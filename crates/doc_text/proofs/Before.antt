-- The state in which what came before leaves the machine, its characters, and the conditions on it.
use Rattle.std.specs.Prelude.{◌≡◌, List, [], ◌∷◌, Bool, true, false}
use Rattle.doc_text.specs.Symbols.{Less, Slash, And, Equals, Bang, Question, Colon, Dash, Symbol, mark}
use Rattle.doc_text.specs.Raw.{same_name}
use Rattle.doc_text.specs.Markup.{spelt, plain_spelt, plain_bytes, name_spelt, name_of, values_spelt, value_of, gap_spelt, tag_spelt, start_of, remarks_spelt, joined}
use Rattle.doc_text.specs.Form.{title_spelt, heading_spelt, version_spelt, first_place, told_spelt, clauses_spelt, prolog_spelt, miscs_spelt, element_spelt, tree_of, trees_of, brackets}
use Rattle.doc_text.specs.Conditions.{PrologFits, ClausesFit, ToldFits, passes, is_shallow, AttributesFit, ValueFits, TagFits, ElementFits, ItemsFit}
use Rattle.doc_text.specs.State.{Beginning, Declaring, Wording, Equating, Quoting, Numbering, Numbered, Encoding, Answer, Answering, Stated, DeclEnd, opened, State, InProlog, Inside, Epilog, Begun, Banged, BangDash, Remarking, RemarkDash, RemarkEnd, Asked, Targeting, TargetEnd, Telling, Naming, Coloned, Localing, Spaced, Valued, Shutting, Equalling, Opening, Valuing, Ending, Closing, Citation}
use Rattle.doc_text.proofs.Zipper.{AtEncoding, AtStanding, AtVersion, Bottom, Claused, Opened, Opens, Part, Prior, Sofar, Titled, ZAfter, ZAnswer, ZAnswering, ZAround, ZAsked, ZAttribute, ZBangDash, ZBanged, ZBearer, ZBefore, ZBeginning, ZBegun, ZCitation, ZCiting, ZClosing, ZColoned, ZDeclEnd, ZDeclaring, ZEncoding, ZEnd, ZEnding, ZEpilog, ZEqualling, ZEquating, ZFirst, ZInside, ZLocaling, ZNaming, ZNumbered, ZNumbering, ZOpening, ZProlog, ZQuoting, ZRemarkDash, ZRemarkEnd, ZRemarking, ZShutting, ZSpaced, ZStart, ZStated, ZTargetEnd, ZTargeting, ZTelling, ZTellingAsked, ZText, ZValue, ZValued, ZValuing, ZWithin, ZWording, Zip, around_spelt, around_value, bearer_spelt, bearer_value, cited_spelt, cited_value, citing_spelt, citing_value, half_spelt, opens_spelt, opens_value, part_spelt, part_start, pointed_spelt, prior_clause, prior_spelt, scope, sofar_spelt, stage_of}

abbrev pub value : Zip → State
value ZBeginning = Beginning
value (ZDeclaring f g) = Declaring (stage_of f)
value (ZWording q g run left i) = Wording (prior_clause q) left
value (ZEquating q g w b) = Equating (prior_clause q)
value (ZQuoting q g w b e c) = Quoting (prior_clause q)
value (ZNumbering t h run left i) = Numbering h.double left
value (ZNumbered t h w s i run) = Numbered h.double
value (ZEncoding t v h run) = Encoding h.double (first_place run) (joined [] run)
value (ZAnswer t h) = Answer h.double
value (ZAnswering t h y run left i) = Answering h.double left
value (ZStated c) = Stated (stage_of (Claused c))
value (ZDeclEnd c b q) = DeclEnd
value (ZProlog m) = InProlog
value (ZInside z t g is) = Inside (brackets is) (opened (start_of t) (trees_of is)) (opens_value z)
value (ZEpilog m e k) = Epilog (tree_of e)
value (ZBegun a p) = Begun (around_value a) p
value (ZBanged a p q) = Banged (around_value a) p
value (ZBangDash a p q r) = BangDash (around_value a) p
value (ZRemarking a p q r s c) = Remarking (around_value a)
value (ZRemarkDash a p q r s c t) = RemarkDash (around_value a)
value (ZRemarkEnd a p q r s c t u) = RemarkEnd (around_value a)
value (ZAsked a p q) = Asked (around_value a)
value (ZTargeting a p q n) = Targeting (around_value a) (plain_bytes n)
value (ZTargetEnd a i q) = TargetEnd (around_value a)
value (ZTelling a i s b run u h) = Telling false (around_value a)
value (ZTellingAsked a i s b run u q) = Telling true (around_value a)
value (ZNaming b n) = Naming (bearer_value b) n.first.at (plain_bytes n)
value (ZColoned b n c) = Coloned (bearer_value b) n.first.at (plain_bytes n)
value (ZLocaling b n c m) = Localing (bearer_value b) n.first.at (plain_bytes n) (plain_bytes m)
value (ZSpaced z t g) = Spaced (opens_value z) (part_start t)
value (ZValued z t) = Valued (opens_value z) (part_start t)
value (ZShutting z t s) = Shutting (opens_value z) (start_of t)
value (ZEqualling z t g n b) = Equalling (opens_value z) (part_start t) (name_of n)
value (ZOpening z t g n b e c) = Opening (opens_value z) (part_start t) (name_of n)
value (ZValuing z t h v) = Valuing h.double (opens_value z) (part_start t) (name_of h.name) (value_of v)
value (ZEnding z t g is p q) = Ending (opened (start_of t) (trees_of is)) (opens_value z)
value (ZClosing z t g is p q n b) = Closing (opened (start_of t) (trees_of is)) (opens_value z)
value (ZCitation c p x) = Citation (citing_value c) p (cited_value x)

-- the characters before the rest
abbrev pub before : Zip → List Symbol → List Symbol
before ZBeginning rest = rest
before (ZDeclaring f g) rest = sofar_spelt f (gap_spelt g rest)
before (ZWording q g run left i) rest = prior_spelt q (gap_spelt g (spelt run rest))
before (ZEquating q g w b) rest = prior_spelt q (gap_spelt g (spelt w.run (spelt b rest)))
before (ZQuoting q g w b e c) rest = prior_spelt q (gap_spelt g (spelt w.run (spelt b (mark e Equals ∷ spelt c rest))))
before (ZNumbering t h run left i) rest = title_spelt t (heading_spelt h (spelt run rest))
before (ZNumbered t h w s i run) rest = title_spelt t (heading_spelt h (spelt w.run (s ∷ spelt run rest)))
before (ZEncoding t v h run) rest = title_spelt t (version_spelt v (heading_spelt h (spelt run rest)))
before (ZAnswer t h) rest = told_spelt t (heading_spelt h rest)
before (ZAnswering t h y run left i) rest = told_spelt t (heading_spelt h (spelt run rest))
before (ZStated c) rest = clauses_spelt c rest
before (ZDeclEnd c b q) rest = clauses_spelt c (spelt b (mark q Question ∷ rest))
before (ZProlog m) rest = prolog_spelt m rest
before (ZInside z t g is) rest = opens_spelt (Opened z t g is) rest
before (ZEpilog m e k) rest = prolog_spelt m (element_spelt e (miscs_spelt k rest))
before (ZBegun a p) rest = around_spelt a (mark p Less ∷ rest)
before (ZBanged a p q) rest = around_spelt a (mark p Less ∷ mark q Bang ∷ rest)
before (ZBangDash a p q r) rest = around_spelt a (mark p Less ∷ mark q Bang ∷ mark r Dash ∷ rest)
before (ZRemarking a p q r s c) rest = around_spelt a (mark p Less ∷ mark q Bang ∷ mark r Dash ∷ mark s Dash ∷ remarks_spelt c rest)
before (ZRemarkDash a p q r s c t) rest = around_spelt a (mark p Less ∷ mark q Bang ∷ mark r Dash ∷ mark s Dash ∷ remarks_spelt c (mark t Dash ∷ rest))
before (ZRemarkEnd a p q r s c t u) rest = around_spelt a (mark p Less ∷ mark q Bang ∷ mark r Dash ∷ mark s Dash ∷ remarks_spelt c (mark t Dash ∷ mark u Dash ∷ rest))
before (ZAsked a p q) rest = around_spelt a (mark p Less ∷ mark q Question ∷ rest)
before (ZTargeting a p q n) rest = around_spelt a (mark p Less ∷ mark q Question ∷ plain_spelt n rest)
before (ZTargetEnd a i q) rest = around_spelt a (pointed_spelt i (mark q Question ∷ rest))
before (ZTelling a i s b run u h) rest = around_spelt a (pointed_spelt i (s ∷ spelt run rest))
before (ZTellingAsked a i s b run u q) rest = around_spelt a (pointed_spelt i (s ∷ spelt run (mark q Question ∷ rest)))
before (ZNaming b n) rest = bearer_spelt b (plain_spelt n rest)
before (ZColoned b n c) rest = bearer_spelt b (plain_spelt n (mark c Colon ∷ rest))
before (ZLocaling b n c m) rest = bearer_spelt b (plain_spelt n (mark c Colon ∷ plain_spelt m rest))
before (ZSpaced z t g) rest = opens_spelt z (part_spelt t (gap_spelt g rest))
before (ZValued z t) rest = opens_spelt z (part_spelt t rest)
before (ZShutting z t s) rest = opens_spelt z (tag_spelt t (mark s Slash ∷ rest))
before (ZEqualling z t g n b) rest = opens_spelt z (part_spelt t (gap_spelt g (name_spelt n (spelt b rest))))
before (ZOpening z t g n b e c) rest = opens_spelt z (part_spelt t (gap_spelt g (name_spelt n (spelt b (mark e Equals ∷ spelt c rest)))))
before (ZValuing z t h v) rest = opens_spelt z (part_spelt t (half_spelt h (values_spelt v rest)))
before (ZEnding z t g is p q) rest = opens_spelt (Opened z t g is) (mark p Less ∷ mark q Slash ∷ rest)
before (ZClosing z t g is p q n b) rest = opens_spelt (Opened z t g is) (mark p Less ∷ mark q Slash ∷ name_spelt n (spelt b rest))
before (ZCitation c p x) rest = citing_spelt c (mark p And ∷ cited_spelt x rest)

module _ (strict : Bool) where
  abbrev pub OpensFit : Opens → Type 0
  OpensFit (Bottom m) = PrologFits strict m
  OpensFit (Opened z t g is) = OpensFit z × TagFits strict (scope z) t × ItemsFit strict (start_of t ∷ scope z) is

  abbrev pub AroundFit : ZAround → Type 0
  AroundFit ZFirst = Unit {0}
  AroundFit (ZBefore m) = PrologFits strict m
  AroundFit (ZWithin z t g is) = OpensFit (Opened z t g is)
  AroundFit (ZAfter m e k) = PrologFits strict m × ElementFits strict [] e

  abbrev pub PartFits : Opens → Part → Type 0
  PartFits z t = OpensFit z × (passes strict (is_shallow (scope z)) ≡ true) × AttributesFit strict t.attributes

  abbrev pub BearerFits : ZBearer → Type 0
  BearerFits (ZStart z p) = OpensFit z × (passes strict (is_shallow (scope z)) ≡ true)
  BearerFits (ZAttribute z t g) = PartFits z t
  BearerFits (ZEnd z t g is p q) = OpensFit (Opened z t g is)

  abbrev pub CitingFits : ZCiting → Type 0
  CitingFits (ZText z t g is) = OpensFit (Opened z t g is)
  CitingFits (ZValue z t h v) = PartFits z t × ValueFits strict v

  abbrev pub SofarFits : Sofar → Type 0
  SofarFits (Titled t) = Unit {0}
  SofarFits (Claused c) = ClausesFit strict c

  abbrev pub PriorFits : Prior → Type 0
  PriorFits (AtVersion t) = Unit {0}
  PriorFits (AtEncoding t v) = Unit {0}
  PriorFits (AtStanding t) = ToldFits strict t

  -- the conditions so far
  abbrev pub Fits : Zip → Type 0
  Fits ZBeginning = Unit {0}
  Fits (ZDeclaring f g) = SofarFits f
  Fits (ZWording q g run left i) = PriorFits q
  Fits (ZEquating q g w b) = PriorFits q
  Fits (ZQuoting q g w b e c) = PriorFits q
  Fits (ZNumbering t h run left i) = Unit {0}
  Fits (ZNumbered t h w s i run) = Unit {0}
  Fits (ZEncoding t v h run) = Unit {0}
  Fits (ZAnswer t h) = ToldFits strict t
  Fits (ZAnswering t h y run left i) = ToldFits strict t
  Fits (ZStated c) = ClausesFit strict c
  Fits (ZDeclEnd c b q) = ClausesFit strict c
  Fits (ZProlog m) = PrologFits strict m
  Fits (ZInside z t g is) = OpensFit (Opened z t g is)
  Fits (ZEpilog m e k) = PrologFits strict m × ElementFits strict [] e
  Fits (ZBegun a p) = AroundFit a
  Fits (ZBanged a p q) = AroundFit a
  Fits (ZBangDash a p q r) = AroundFit a
  Fits (ZRemarking a p q r s c) = AroundFit a
  Fits (ZRemarkDash a p q r s c t) = AroundFit a
  Fits (ZRemarkEnd a p q r s c t u) = AroundFit a
  Fits (ZAsked a p q) = AroundFit a
  Fits (ZTargeting a p q n) = AroundFit a
  Fits (ZTargetEnd a i q) = AroundFit a
  Fits (ZTelling a i s b run u h) = AroundFit a
  Fits (ZTellingAsked a i s b run u q) = AroundFit a
  Fits (ZNaming b n) = BearerFits b
  Fits (ZColoned b n c) = BearerFits b
  Fits (ZLocaling b n c m) = BearerFits b
  Fits (ZSpaced z t g) = PartFits z t
  Fits (ZValued z t) = PartFits z t
  Fits (ZShutting z t s) = PartFits z (record { less = t.less; name = t.name; attributes = t.attributes })
  Fits (ZEqualling z t g n b) = PartFits z t
  Fits (ZOpening z t g n b e c) = PartFits z t
  Fits (ZValuing z t h v) = PartFits z t × ValueFits strict v
  Fits (ZEnding z t g is p q) = OpensFit (Opened z t g is)
  Fits (ZClosing z t g is p q n b) = OpensFit (Opened z t g is) × (passes strict (same_name (name_of n) (name_of t.name)) ≡ true)
  Fits (ZCitation c p x) = CitingFits c
