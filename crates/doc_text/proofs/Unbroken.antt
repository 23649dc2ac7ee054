-- The form alone breaks nothing, and where it stops but a condition breaks, the name of an end tag is over.
use Rattle.std.proofs.Common.{ℕ, List, [], ◌∷◌, ◌++◌}
use Rattle.std.specs.Prelude.{Bool, true, false, if◌then◌else◌, Option, Some, nat_eq, codes}
use Rattle.atl_base.specs.declared.place.Place.{Place}
use Rattle.doc_text.specs.Symbols.{Kind, Greater, Slash, Semicolon, Colon, Blank, Letter, utf8, is_name, is_quote, is_good, Less, Quote, Apostrophe, Equals, Question, Hash, Dash, Joint, is_code, is_decimal, is_ex, is_hexadecimal}
use Rattle.doc_text.specs.Raw.{Name, called, Start, start}
use Rattle.doc_text.specs.Markup.{is_reserved, is_xml, one_more}
use Rattle.doc_text.specs.Form.{place_or}
use Rattle.doc_text.specs.State.{Open, Around, Before, Within, After, Bearer, OfStart, OfAttribute, OfEnd, Citing, Cited, Nameless, ByEntity, Hashed, Decimal, Hexed, Hexadecimal, State, Inside, Begun, Naming, Localing, Spaced, Valued, Shutting, Citation, Step, Goes, Stops, Breaks, First, Encoding, Stated, ToldEncoding, Stage, Untold, ToldVersion, ToldStanding, Clause, OfVersion, OfEncoding, OfStanding, Beginning, Declaring, Wording, Equating, Quoting, Numbering, Numbered, Answer, Answering, DeclEnd, InProlog, Epilog, Banged, BangDash, Remarking, RemarkDash, RemarkEnd, Asked, Targeting, TargetEnd, Telling, Coloned, Equalling, Opening, Valuing, Ending, Closing, grow}
use Rattle.doc_text.specs.Steps.{tag_goes, end_goes, attribute_goes, named, element_begins, cite, step, encoded, word_of, worded, spelling, clause_begins, declaration_ends, clause_goes, clause_quote, opening_quote, target_goes, titled, targeted, telling, in_value, end_begins}

abbrev pub Unbroken : Step → Type 0
Unbroken (Goes v) = Unit {0}
Unbroken Stops = Unit {0}
Unbroken (Breaks e p) = ⊥

either : (t : Bool) (x y : Step) → Unbroken x → Unbroken y → Unbroken (if t then x else y)
either true x y f g = f
either false x y f g = g

worded_unbroken : (c : Clause) (w : List ℕ) (k : Kind) (other : Step) → Unbroken other → Unbroken (worded c w k other)
worded_unbroken c [] k other h = h
worded_unbroken c (d ∷ w) k other h = either (is_code d k) (Goes (Wording c w)) other tt h

spelling_unbroken : (w : List ℕ) (k : Kind) (s : List ℕ → State) (over : Step) → Unbroken over → Unbroken (spelling w k s over)
spelling_unbroken [] k s over h = h
spelling_unbroken (d ∷ w) k s over h = either (is_code d k) (Goes (s w)) Stops tt tt

begins_unbroken : (s : Stage) (k : Kind) → Unbroken (clause_begins s k)
begins_unbroken Untold k = worded_unbroken OfVersion (word_of OfVersion) k Stops tt
begins_unbroken ToldVersion k = worded_unbroken OfEncoding (word_of OfEncoding) k (worded OfStanding (word_of OfStanding) k Stops) (worded_unbroken OfStanding (word_of OfStanding) k Stops tt)
begins_unbroken ToldEncoding k = worded_unbroken OfStanding (word_of OfStanding) k Stops tt
begins_unbroken ToldStanding k = tt

declaration_unbroken : (s : Stage) → Unbroken (declaration_ends s)
declaration_unbroken Untold = tt
declaration_unbroken ToldVersion = tt
declaration_unbroken ToldEncoding = tt
declaration_unbroken ToldStanding = tt

clause_unbroken : (c : Clause) (k : Kind) → Unbroken (clause_goes c k)
clause_unbroken c (Blank x) = tt
clause_unbroken c Equals = tt
clause_unbroken c k = tt

quote_unbroken : (c : Clause) (k : Kind) → Unbroken (clause_quote c k)
quote_unbroken c Quote = tt
quote_unbroken c Apostrophe = tt
quote_unbroken c k = tt

attribute_unbroken : (fs : List Open) (t : Start) (n : Name) (k : Kind) → Unbroken (attribute_goes fs t n k)
attribute_unbroken fs t n Equals = tt
attribute_unbroken fs t n k = tt

opening_unbroken : (fs : List Open) (t : Start) (n : Name) (k : Kind) → Unbroken (opening_quote fs t n k)
opening_unbroken fs t n Quote = tt
opening_unbroken fs t n k = tt

end_unbroken : (f : Open) (fs : List Open) (k : Kind) → Unbroken (end_goes f fs k)
end_unbroken f fs Greater = tt
end_unbroken f fs k = tt

target_unbroken : (a : Around) (k : Kind) → Unbroken (target_goes a k)
target_unbroken a Question = tt
target_unbroken a k = tt

titled_unbroken : (k : Kind) → Unbroken (titled k)
titled_unbroken (Blank c) = tt
titled_unbroken k = tt

targeted_unbroken : (a : Around) (n : List ℕ) (k : Kind) → Unbroken (targeted a n k)
targeted_unbroken First n k = either (is_reserved n) (if is_xml n then titled k else Stops) (target_goes First k) (either (is_xml n) (titled k) Stops (titled_unbroken k) tt) (target_unbroken First k)
targeted_unbroken Before n k = either (is_reserved n) Stops (target_goes Before k) tt (target_unbroken Before k)
targeted_unbroken (Within f fs) n k = either (is_reserved n) Stops (target_goes (Within f fs) k) tt (target_unbroken (Within f fs) k)
targeted_unbroken (After t) n k = either (is_reserved n) Stops (target_goes (After t) k) tt (target_unbroken (After t) k)

telling_unbroken : (a : Around) (q : Bool) (k : Kind) → Unbroken (telling a q k)
telling_unbroken a true Greater = tt
telling_unbroken a false Greater = tt
telling_unbroken a q k = tt

value_unbroken : (d : Bool) (fs : List Open) (t : Start) (n : Name) (v : List ℕ) (k : Kind) (p : Place) → Unbroken (in_value d fs t n v k p)
value_unbroken true fs t n v Quote p = tt
value_unbroken false fs t n v Quote p = tt
value_unbroken true fs t n v Apostrophe p = tt
value_unbroken false fs t n v Apostrophe p = tt
value_unbroken d fs t n v k p = tt

tag_unbroken : (fs : List Open) (t : Start) (k : Kind) → Unbroken (tag_goes false fs t k)
tag_unbroken fs t Greater = tt
tag_unbroken fs t k = tt

named_unbroken : (b : Bearer) (n : Name) (k : Kind) → Unbroken (named false b n k)
named_unbroken (OfStart fs p) n k = tag_unbroken fs (start p n []) k
named_unbroken (OfAttribute fs t) n k = attribute_unbroken fs t n k
named_unbroken (OfEnd f fs) n k = end_unbroken f fs k

element_unbroken : (a : Around) (p : Place) (k : Kind) (q : Place) → Unbroken (element_begins false a p k q)
element_unbroken First p k q = tt
element_unbroken Before p k q = tt
element_unbroken (Within f fs) p k q = tt
element_unbroken (After t) p k q = tt

end_begins_unbroken : (a : Around) → Unbroken (end_begins a)
end_begins_unbroken First = tt
end_begins_unbroken Before = tt
end_begins_unbroken (Within f fs) = tt
end_begins_unbroken (After t) = tt

cite_unbroken : (c : Citing) (p : Place) (x : Cited) (k : Kind) → Unbroken (cite false c p x k)
cite_unbroken c p Nameless Hash = tt
cite_unbroken c p Nameless k = tt
cite_unbroken c p (ByEntity n) k = entity c p n k
  where
    entity : (c : Citing) (p : Place) (n : List ℕ) (k : Kind) → Unbroken (cite false c p (ByEntity n) k)
    entity c p n Semicolon = tt
    entity c p n k = tt
cite_unbroken c p Hashed (Letter x) = either (is_ex (Letter x)) (Goes (Citation c p Hexed)) Stops tt tt
cite_unbroken c p Hashed (Joint x) = either (is_decimal (Joint x)) (Goes (Citation c p (Decimal (one_more 10 0 (Joint x))))) Stops tt tt
cite_unbroken c p Hashed k = tt
cite_unbroken c p (Decimal n) (Joint x) = either (is_decimal (Joint x)) (Goes (Citation c p (Decimal (one_more 10 n (Joint x))))) Stops tt tt
cite_unbroken c p (Decimal n) k = tt
cite_unbroken c p Hexed (Letter x) = either (is_hexadecimal (Letter x)) (Goes (Citation c p (Hexadecimal (one_more 16 0 (Letter x))))) Stops tt tt
cite_unbroken c p Hexed (Joint x) = either (is_hexadecimal (Joint x)) (Goes (Citation c p (Hexadecimal (one_more 16 0 (Joint x))))) Stops tt tt
cite_unbroken c p Hexed k = tt
cite_unbroken c p (Hexadecimal n) (Letter x) = either (is_hexadecimal (Letter x)) (Goes (Citation c p (Hexadecimal (one_more 16 n (Letter x))))) Stops tt tt
cite_unbroken c p (Hexadecimal n) (Joint x) = either (is_hexadecimal (Joint x)) (Goes (Citation c p (Hexadecimal (one_more 16 n (Joint x))))) Stops tt tt
cite_unbroken c p (Hexadecimal n) k = tt

encoded_unbroken : (d : Bool) (o : Option Place) (v : List ℕ) (k : Kind) (p : Place) → Unbroken (encoded false d o v k p)
encoded_unbroken d o v k p = either (is_quote d k) (Goes (Stated ToldEncoding)) (if is_good k then Goes (Encoding d (Some (place_or o p)) (v ++ utf8 k)) else Stops) tt (either (is_good k) (Goes (Encoding d (Some (place_or o p)) (v ++ utf8 k))) Stops tt tt)

naming_unbroken : (b : Bearer) (p : Place) (n : List ℕ) (k : Kind) → Unbroken (if is_name k then Goes (Naming b p (n ++ utf8 k)) else named false b (called p [] n) k)
naming_unbroken b p n k = either (is_name k) (Goes (Naming b p (n ++ utf8 k))) (named false b (called p [] n) k) tt (named_unbroken b (called p [] n) k)

pub unbroken : (s : State) (k : Kind) (p : Place) → Unbroken (step false s k p)
unbroken Beginning Less p = tt
unbroken (Declaring s) (Blank c) p = tt
unbroken (Declaring s) Question p = declaration_unbroken s
unbroken (Declaring s) k p = begins_unbroken s k
unbroken (Wording c left) k p = spelling_unbroken left k (Wording c) (clause_goes c k) (clause_unbroken c k)
unbroken (Equating c) k p = clause_unbroken c k
unbroken (Quoting c) k p = quote_unbroken c k
unbroken (Numbering d left) k p = spelling_unbroken left k (Numbering d) (if is_decimal k then Goes (Numbered d) else Stops) (either (is_decimal k) (Goes (Numbered d)) Stops tt tt)
unbroken (Numbered d) k p = either (is_decimal k) (Goes (Numbered d)) (if is_quote d k then Goes (Stated ToldVersion) else Stops) tt (either (is_quote d k) (Goes (Stated ToldVersion)) Stops tt tt)
unbroken (Encoding d o v) k p = encoded_unbroken d o v k p
unbroken (Answer d) k p = either (is_code 121 k) (Goes (Answering d (codes "es"))) (if is_code 110 k then Goes (Answering d (codes "o")) else Stops) tt (either (is_code 110 k) (Goes (Answering d (codes "o"))) Stops tt tt)
unbroken (Answering d left) k p = spelling_unbroken left k (Answering d) (if is_quote d k then Goes (Stated ToldStanding) else Stops) (either (is_quote d k) (Goes (Stated ToldStanding)) Stops tt tt)
unbroken (Stated s) Question p = declaration_unbroken s
unbroken DeclEnd Greater p = tt
unbroken InProlog Less p = tt
unbroken (Epilog t) Less p = tt
unbroken (Inside n f fs) Greater p = either (nat_eq n 2) Stops (Goes (Inside 0 (grow f (utf8 Greater)) fs)) tt tt
unbroken (Begun a o) Slash p = end_begins_unbroken a
unbroken (Begun a o) (Letter c) p = element_unbroken a o (Letter c) p
unbroken (Banged a o) Dash p = tt
unbroken (BangDash a o) Dash p = tt
unbroken (Remarking a) Dash p = tt
unbroken (RemarkDash a) Dash p = tt
unbroken (RemarkEnd a) Greater p = tt
unbroken (Asked a) (Letter c) p = tt
unbroken (Targeting a n) k p = either (is_name k) (Goes (Targeting a (n ++ utf8 k))) (targeted a n k) tt (targeted_unbroken a n k)
unbroken (TargetEnd a) Greater p = tt
unbroken (Telling q a) k p = telling_unbroken a q k
unbroken (Naming b o n) Colon p = tt
unbroken (Naming b o n) k p = naming_unbroken b o n k
unbroken (Coloned b o n) (Letter c) p = tt
unbroken (Localing b o n m) k p = either (is_name k) (Goes (Localing b o n (m ++ utf8 k))) (named false b (called o n m) k) tt (named_unbroken b (called o n m) k)
unbroken (Spaced fs t) (Letter c) p = tt
unbroken (Spaced fs t) k p = tag_unbroken fs t k
unbroken (Valued fs t) k p = tag_unbroken fs t k
unbroken (Shutting fs t) Greater p = tt
unbroken (Equalling fs t n) k p = attribute_unbroken fs t n k
unbroken (Opening fs t n) k p = opening_unbroken fs t n k
unbroken (Valuing d fs t n v) k p = value_unbroken d fs t n v k p
unbroken (Ending f fs) (Letter c) p = tt
unbroken (Closing f fs) k p = end_unbroken f fs k
unbroken (Citation c o x) k p = cite_unbroken c o x k
unbroken s k p = tt
